-- Notes that end apart are fewer than the log has bytes.
use Rattle.std.proofs.Common.{
  ◌≡◌,
  ℕ,
  suc,
  ◌+◌,
  ◌<◌,
  ◌≤◌,
  ◌^◌,
  eqb,
  cond,
  false,
  List,
  [],
  ◌∷◌,
  ◌++◌,
  length,
  refl,
  sym,
  ap,
  ◌∙◌,
  ⊎_elim,
  arith,
  eq-eqb,
  ne_eqb,
  length-append,
}
use Rattle.std.specs.List.{AllByRecursion, Contains, IsDistinct}
use Rattle.std.proofs.lemmas.Bool.{eqb-true}
use Rattle.std.proofs.lemmas.List.{get_or_default, length-map}
use Rattle.std.proofs.lemmas.List.Elements.{Contains-append_cases}
use Rattle.std.proofs.lemmas.List.Sums.{sum_by-append, sum_by-cons}
use Rattle.std.proofs.lemmas.Map.Steps.{length-le_from_distinct_below}
use Rattle.std.proofs.lemmas.Map.Views.{Contains-from_any}
use mathlib.Core.Logic.{inl, inr}
use mathlib.Core.Option as maybe
use Rattle.path_core.specs.declared.note.EntryNote.{EntryNote}
use Rattle.path_core.specs.declared.state.Claim.{Claim}
use Rattle.path_core.specs.declared.state.OrderGroups.{OrderGroups}
use Rattle.path_core.specs.declared.state.PathState.{PathState}
use Rattle.path_core.specs.Lawful.{IsLawfulPath}
use Rattle.path_core.specs.LawfulLog.{is_note_at, entry_claim}
use Rattle.path_core.specs.Parts.{no_claim}
use Rattle.path_core.proofs.lists.Inserted.{map_from}
use Rattle.path_rule.specs.declared.lasting.Lasting.{Lasting}
use Rattle.path_rule.specs.declared.slot.Slot.{Slot}
use Rattle.path_rule.specs.declared.view.View.{View}
use Rattle.path_rule.specs.Boxed.{ends_at, Boxed}
use Rattle.path_rule.specs.Lasts.{ends}
use Rattle.path_rule.proofs.places.ReadBack.{log_small}

-- none of them ends at the key
none_at : (key : ℕ) (l : List EntryNote) → ends_at key l ≡ 0
    → AllByRecursion (λ y. eqb key y ≡ false) (ends l)
none_at key [] none = tt
none_at key (n ∷ ns) none =
    let c = sum_by-cons (λ (a : EntryNote). cond {A = ℕ} (is_note_at key a) 1 0) n ns in (
      ne_eqb key n.end.0
          (λ is. let here = ap (λ b. cond {A = ℕ} b 1 0) (eq-eqb n.end.0 key (sym is)) in
          omega arith),
      none_at key ns (omega arith),
    )

distinct : (l : List EntryNote) → ((k : ℕ) → ends_at k l ≤ 1) → IsDistinct eqb (ends l)
unfolding IsDistinct
distinct [] once = tt
distinct (n ∷ ns) once = (none_at n.end.0 ns none_more, distinct ns fewer)
  where
    none_more : ends_at n.end.0 ns ≡ 0
    none_more = let c = sum_by-cons
        (λ (a : EntryNote). cond {A = ℕ} (is_note_at n.end.0 a) 1 0) n ns in
        let here = ap (λ b. cond {A = ℕ} b 1 0) (eq-eqb n.end.0 n.end.0 refl) in
        let o = once n.end.0 in omega arith

    fewer : (k : ℕ) → ends_at k ns ≤ 1
    fewer k = let c = sum_by-cons (λ (a : EntryNote). cond {A = ℕ} (is_note_at k a) 1 0) n ns in
        let o = once k in omega arith

pub few : (bound : ℕ) (l : List EntryNote) → ((k : ℕ) → ends_at k l ≤ 1)
    → ((n : EntryNote) → Contains l n → n.end.0 < bound) → length l ≤ bound
few bound l once low =
    let d = length-le_from_distinct_below (ends l) bound (distinct l once) (λ q h.
    let o = map_from (λ (n : EntryNote). n.end.0) l q
    (Contains-from_any (λ a b e. eqb-true a b e) q (ends l) h) in
    let k = low o.0 o.1 in let e = o.2 in omega arith) in
    let m = length-map l (λ (n : EntryNote). n.end.0) in omega arith

-- What lies on the desk and in a box is less than the log has bytes.
pub few_kept : {K : Type 0} (shows : K → Lasting) (seats : ℕ) (x : PathState) → IsLawfulPath x
    → (lasting : Lasting) (claims : List Claim) (append : OrderGroups)
    (homes : List (maybe.Option (Slot K))) (views : List View)
    (B : Boxed shows seats x.notes lasting claims append homes views) (b : ℕ)
    → length B.pending + length (B.contents b) ≤ 2 ^ 62
few_kept shows seats x L lasting claims append homes views B b =
    let f = few (suc x.log) (B.pending ++ B.contents b) once low in
    let a = length-append B.pending (B.contents b) in let s = log_small x L in omega arith
  where
    once : (k : ℕ) → ends_at k (B.pending ++ B.contents b) ≤ 1
    once k = let c = sum_by-append (λ (a : EntryNote). cond {A = ℕ} (is_note_at k a) 1 0)
        B.pending (B.contents b) in
        let o = B.alone k b (suc b) (λ e. absurd (omega arith)) in omega arith

    below : (n : EntryNote) → Contains x.notes n → n.end.0 < suc x.log
    below n h = let c = (L.notes_are_claims.each n h).claim in
        let read = get_or_default x.claims c.0 no_claim
        (entry_claim n.writer.0 n.start.0 n.end.0) c.1 ∙ c.2 in
        let l = L.claims_tile_the_log.below_log c.0 c.1 in
        let e = ap (λ (d : Claim). d.end) read in omega arith

    low : (n : EntryNote) → Contains (B.pending ++ B.contents b) n → n.end.0 < suc x.log
    low n h = ⊎_elim (λ p. below n (B.sound n (inl p))) (λ q. below n (B.sound n (inr (b, q))))
        (Contains-append_cases B.pending (B.contents b) n h)
