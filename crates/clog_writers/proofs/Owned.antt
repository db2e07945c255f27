-- Whose the notes of a run are: each seat's own list, whatever was refused.
use Rattle.std.proofs.Common.{
  ◌≡◌,
  ℕ,
  zero,
  suc,
  ◌<◌,
  ◌≤◌,
  inl,
  inr,
  List,
  [],
  ◌∷◌,
  get_or,
  length,
  reverse,
  Option,
  sym,
  refl,
  ap,
  ◌∙◌,
  subst,
  arith,
}
use Rattle.std.specs.Prelude.{Contains}
use Rattle.std.specs.List.{filter}
use Rattle.std.proofs.lemmas.Bool.{eq-eqb, eqb-true}
use Rattle.std.proofs.lemmas.List.Kept.{AllPairs-filter}
use Rattle.std.proofs.lemmas.List.Sorted.{
  Contains-permutation,
  IsPermutation-reverse,
  IsPermutation-sym,
}
use Rattle.atomic_table.specs.Seated.{TableId}
use Rattle.clog_spec.proofs.Lengths.{length-entry_bytes}
use Rattle.clog_base.proofs.Members.{first_or_further, from_flat, in_flat, nothing_there}
use Rattle.clog_mutation.specs.declared.mutation.Mutation.{Mutation}
use Rattle.clog_mutation.specs.Payload.{payload_of}
use Rattle.clog_applied.specs.History.{Line, share_of}
use Rattle.clog_applied.proofs.Lists.{from_filter, in_filter}
use Rattle.path_core.specs.declared.note.EntryNote.{EntryNote}
use Rattle.path_core.specs.Keeper.{Holding}
use Rattle.path_rule.specs.declared.view.PathSize.{PathSize}
use Rattle.path_table.specs.declared.trying.PathSeat.{PathSeat}
use Rattle.path_table.specs.Members.{view_of}
use Rattle.write_path.specs.Closed.{IsOutcome, all_writes}
use Rattle.path_flush.specs.OwnWrites.{writes_of}
use Rattle.clog_shares.specs.declared.fault.WriteFault.{WriteFault}
use Rattle.clog_shares.specs.Crews.{HaveEnded, HasEnded}
use Rattle.clog_writers.specs.Logged.{is_note_of}
use Rattle.clog_shares.specs.Shares.{AreWritesOf, logged_by}
use Rattle.clog_writers.proofs.Rising.{by_start, same_members}

-- the element of a place
at_place : {A : Type 0} (xs : List A) (i : ℕ) → i < length xs
    → (x : A) × ((d : A) → get_or xs i d ≡ x)
at_place [] i inside = absurd (omega (arith, inside))
at_place (x ∷ xs) zero inside = (x, λ d. refl)
at_place (x ∷ xs) (suc i) inside = at_place xs i (omega (arith, inside))

-- each of a writer's notes is by it
all_by : (w : ℕ) (ls : List Line) (ns : List EntryNote) → AreWritesOf w ls ns → (n : EntryNote)
    → Contains ns n → n.writer.0 ≡ w
all_by w [] [] are n h = absurd (nothing_there n h)
all_by w [] (m ∷ ns) are n h = absurd are
all_by w (l ∷ ls) [] are n h = absurd are
all_by w (l ∷ ls) (m ∷ ns) are n h = elim (first_or_further m ns n h) [
  | inl same ↦ subst (λ (o : EntryNote). o.writer.0 ≡ w) same are.0.by
  | inr more ↦ all_by w ls ns are.1 n more
]

module _ {K : Type 0} (id : TableId) (size : PathSize) (flush : Option ℕ)
    (mutations : List Mutation) (fault : Option WriteFault) (seats : List (PathSeat K))
    (all : HaveEnded id size flush mutations fault seats) (end : ℕ) (h : Holding)
    (o : IsOutcome size seats end h) where
  -- the seat of a number has ended with its share
  abbrev pub Ended : ℕ → PathSeat K → Type 0
  Ended w s = HasEnded id size flush w (share_of size.seats w mutations) fault s

  abbrev pub own : PathSeat K → List EntryNote
  own s = writes_of (view_of s.member).trail

  -- ---- the seat of a number

  pub of_place : (s : PathSeat K) (there : Contains seats s) → Ended there.0 s
  of_place s there = subst (Ended there.0) there.2 (all.each there.0 s there.1)

  pub seat_of : (w : ℕ) → w < size.seats → (s : PathSeat K) × Contains seats s × Ended w s
  seat_of w low =
      let count = all.count in
      let inside : w < length seats = omega (arith, low, count) in
      let s = at_place seats w inside in
      let there : Contains seats s.0 = (w, inside, s.1 s.0) in
      (s.0, there, of_place s.0 there)

  -- ---- its list

  to_own : (s : PathSeat K) (n : EntryNote) → Contains (logged_by s.member) n
      → Contains (own s) n
  to_own s n among =
      Contains-permutation (reverse (own s)) (own s) n
      (IsPermutation-sym (own s) (reverse (own s)) (IsPermutation-reverse (own s))) among

  to_logged : (s : PathSeat K) (n : EntryNote) → Contains (own s) n
      → Contains (logged_by s.member) n
  to_logged s n among =
      Contains-permutation (own s) (reverse (own s)) n (IsPermutation-reverse (own s)) among

  its_number : (w : ℕ) (s : PathSeat K) → Ended w s → (n : EntryNote) → Contains (own s) n
      → n.writer.0 ≡ w
  its_number w s is n among =
      all_by w is.logs.done (logged_by s.member) is.logs.are n (to_logged s n among)

  -- ---- the notes of the run

  -- the seat that a note is of
  pub record IsOwned (n : EntryNote) : Type 0 where
    pub seat : PathSeat K
    pub there : Contains seats seat
    pub among : Contains (own seat) n

  pub owned : (n : EntryNote) → Contains o.core.notes n → IsOwned n
  owned n among =
      let written = Contains-permutation o.core.notes (all_writes seats) n
      (IsPermutation-sym (all_writes seats) o.core.notes o.of_writes) among in
      let found = from_flat own seats n written in
      record { seat = found.0; there = found.1; among = found.2 }

  noted : (s : PathSeat K) (n : EntryNote) → Contains seats s → Contains (own s) n
      → Contains o.core.notes n
  noted s n there among =
      Contains-permutation (all_writes seats) o.core.notes n o.of_writes
      (in_flat own seats s n there among)

  pub long : (n : EntryNote) → Contains o.core.notes n → n.start.0 < n.end.0
  long n among =
      let w = o.whole n among in
      let ends = w.long in
      let bytes = ap length w.bytes ∙ length-entry_bytes (payload_of w.mutation) in
      omega (arith, ends, bytes)

  pub known : (n : EntryNote) → Contains o.core.notes n → n.writer.0 < size.seats
  known n among =
      let p = owned n among in
      let is = its_number p.there.0 p.seat (of_place p.seat p.there) n p.among in
      let inside = p.there.1 in
      let count = all.count in
      omega (arith, is, inside, count)

  -- ---- a writer's notes

  module _ (w : ℕ) (low : w < size.seats) where
    abbrev pub mine : List EntryNote
    mine = filter (is_note_of w) o.core.notes

    abbrev pub its : PathSeat K
    its = (seat_of w low).0

    pub is_its : Ended w its
    is_its = (seat_of w low).2

    to_its : (n : EntryNote) → Contains mine n → Contains (logged_by its.member) n
    unfolding seat_of
    to_its n among =
        let f = from_filter (is_note_of w) o.core.notes n among in
        let p = owned n f.0 in
        let number : p.there.0 ≡ w =
        sym (its_number p.there.0 p.seat (of_place p.seat p.there) n p.among)
        ∙ eqb-true n.writer.0 w f.1 in
        let place = at_place seats p.there.0 p.there.1 in
        let same : p.seat ≡ its =
        sym p.there.2 ∙ ap (λ (k : ℕ). get_or seats k p.seat) number
        ∙ (at_place seats w (seat_of w low).1.1).1 p.seat in
        to_logged its n (subst (λ (s : PathSeat K). Contains (own s) n) same p.among)

    from_its : (n : EntryNote) → Contains (logged_by its.member) n → Contains mine n
    from_its n among =
        let there = to_own its n among in
        in_filter (is_note_of w) o.core.notes n (noted its n (seat_of w low).1 there)
        (eq-eqb n.writer.0 w (its_number w its is_its n there))

    pub same_list : mine ≡ logged_by its.member
    same_list = same_members (λ (n : EntryNote). n.start.0) mine (logged_by its.member)
        (by_start mine
        (AllPairs-filter (λ (a b : EntryNote). a.end.0 ≤ b.start.0) (is_note_of w) o.core.notes
        o.lawful.apart)
        (λ n among. long n (from_filter (is_note_of w) o.core.notes n among).0))
        (by_start (logged_by its.member) is_its.logs.rise
        (λ n among. long n (noted its n (seat_of w low).1 (to_own its n among))))
        to_its from_its
