-- The first entry behind a marker, or behind the front of the log.
use Rattle.std.proofs.Common.{
  ◌≡◌,
  ℕ,
  suc,
  ◌<◌,
  length,
  IsTrue,
  not,
  refl,
  sym,
  ap,
  ◌∙◌,
  subst,
  ⊎_elim,
  arith,
  get_or,
}
use Rattle.std.specs.List.{Contains, AllPairs}
use Rattle.std.proofs.lemmas.Bool.{false≢true}
use Rattle.std.proofs.lemmas.List.{get_or_default}
use Rattle.std.proofs.lemmas.List.Elements.{Contains-get_or}
use Rattle.path_core.specs.declared.event.ClaimKind.{ClaimKind}
use Rattle.path_core.specs.declared.event.ClaimKind.TheVariants.{Entry, Marker}
use Rattle.path_core.specs.declared.note.EntryNote.{EntryNote}
use Rattle.path_core.specs.declared.state.Claim.{Claim}
use Rattle.path_core.specs.declared.state.PathState.{PathState}
use Rattle.path_core.specs.Parts.{no_claim, is_entry, is_marker_kind}
use Rattle.path_core.specs.Lawful.{IsLawfulPath}
use Rattle.path_core.specs.LawfulLog.{claim_in, entry_claim}
use Rattle.path_core.proofs.log.KeepsNotes.{note_long}
use Rattle.path_core.proofs.lent.Numbers.{IsEntryAt, Rising, which, not_both, long_at}

pub is_marked : (k : ClaimKind) → IsTrue (is_marker_kind k) → k ≡ Marker
is_marked Marker e = refl
is_marked Entry e = absurd (false≢true e)

-- the notes rise strictly
pub notes_rise : (x : PathState) → IsLawfulPath x → AllPairs Rising x.notes
notes_rise x L i j d l h =
    let o = L.notes_are_claims.in_order i j d l h in
    let long = note_long x L.sized L.claims_tile_the_log L.orders L.own_claim
    L.each_claim_noted_once L.notes_are_claims (get_or x.notes j d)
    (Contains-get_or x.notes j d h) in
    omega arith

module _ (x : PathState) (L : IsLawfulPath x) where
  pub note_at : (n : EntryNote) → Contains x.notes n → (k : ℕ) × IsEntryAt x.claims n k
  note_at n h = let c = (L.notes_are_claims.each n h).claim in
      let read : claim_in x.claims c.0 ≡ entry_claim n.writer.0 n.start.0 n.end.0 =
      get_or_default x.claims c.0 no_claim (entry_claim n.writer.0 n.start.0 n.end.0) c.1 ∙ c.2 in (
        c.0,
        record {
          inside = c.1;
          what = ap (λ (d : Claim). d.what) read;
          start = ap
              (λ (d : Claim). d.start) read;
          end = ap (λ (d : Claim). d.end) read;
        },
      )

  pub entries_long : (k : ℕ) → k < length x.claims → (claim_in x.claims k).what ≡ Entry
      → (claim_in x.claims k).start < (claim_in x.claims k).end
  entries_long k l e = long_at x.capacity x.ordinals x.log x.claims L.claims_tile_the_log k l e

  kind : (k : ℕ) → (P : Type 0) → ((claim_in x.claims k).what ≡ Entry → P)
      → ((claim_in x.claims k).what ≡ Marker → P) → P
  kind k P f g = ⊎_elim f g (which x.capacity x.ordinals x.log x.claims L.claims_tile_the_log k)

  pub never : (k : ℕ) → (claim_in x.claims k).what ≡ Entry → (claim_in x.claims k).what ≡ Marker → ⊥
  never k a b = not_both x.capacity x.ordinals x.log x.claims L.claims_tile_the_log k a b

  -- behind a marker no marker stands
  pub entry_behind : (u : ℕ) → suc u < length x.claims → (claim_in x.claims u).what ≡ Marker
      → (claim_in x.claims (suc u)).what ≡ Entry
  entry_behind u l m = kind (suc u) ((claim_in x.claims (suc u)).what ≡ Entry) (λ e. e)
      (λ again. absurd (let b = L.claims_tile_the_log.entry_before (suc u) l
      (ap (λ k. is_marker_kind k) again) in let same : b.0 ≡ u = (let q = b.1 in omega arith) in
      false≢true (sym (ap (λ k. not (is_marker_kind k)) m) ∙ subst
      (λ j. IsTrue (is_entry (claim_in x.claims j))) same b.2)))

  pub first_entry : 0 < length x.claims → (claim_in x.claims 0).what ≡ Entry
  first_entry l = kind 0 ((claim_in x.claims 0).what ≡ Entry) (λ e. e)
      (λ m. absurd (let b = L.claims_tile_the_log.entry_before 0 l
      (ap (λ k. is_marker_kind k) m) in let q = b.1 in omega arith))
