-- Writers in batch mode: a marker parts each two entries of one of them that are lasting, whatever
-- was refused.
use Rattle.std.proofs.Common.{
  ◌≡◌,
  ℕ,
  ◌<◌,
  ◌≤◌,
  inl,
  inr,
  List,
  [],
  ◌∷◌,
  Option,
  refl,
  reverse,
  sym,
  subst,
  arith,
}
use Rattle.std.specs.Prelude.{Contains}
use Rattle.std.proofs.lemmas.Bool.{eq-eqb}
use Rattle.std.proofs.lemmas.List.Elements.{All-contains}
use Rattle.std.proofs.lemmas.List.Sorted.{
  Contains-permutation,
  IsPermutation-reverse,
  IsPermutation-sym,
}
use Rattle.atomic_table.specs.Seated.{TableId}
use Rattle.clog_base.proofs.Members.{first_or_further, nothing_there}
use Rattle.clog_mutation.specs.declared.mutation.Mutation.{Mutation}
use Rattle.clog_applied.proofs.Lists.{from_filter, in_filter}
use Rattle.path_core.specs.declared.note.EntryNote.{EntryNote}
use Rattle.path_core.specs.Keeper.{Holding}
use Rattle.path_core.specs.LawfulLog.{is_at_most}
use Rattle.path_rule.specs.declared.view.OwnStep.{OwnStep}
use Rattle.path_rule.specs.declared.view.PathSize.{PathSize}
use Rattle.path_table.specs.declared.trying.PathSeat.{PathSeat}
use Rattle.path_table.specs.Members.{view_of}
use Rattle.clog_closing.specs.Gaps.{StandApart}
use Rattle.write_path.specs.Closed.{IsOutcome}
use Rattle.path_flush.specs.OwnWrites.{writes_of}
use Rattle.write_path.specs.Sealed.{AreSealedApart, IsSealed}
use Rattle.clog_shares.specs.declared.fault.WriteFault.{WriteFault}
use Rattle.clog_shares.specs.Crews.{HaveEnded}
use Rattle.clog_writers.specs.Logged.{is_note_of}
use Rattle.clog_shares.specs.Sealing.{AreEarlierSealed, HaveWaited}
use Rattle.clog_shares.specs.Shares.{Rise}
use Rattle.clog_writers.proofs.Owned.{is_its, its, known, long, same_list, seat_of}
use Rattle.clog_writers.proofs.Rising.{newest_last}

-- where nothing is logged
pub none_apart : (capacity : ℕ) (notes : List EntryNote) → notes ≡ []
    → StandApart capacity notes
none_apart capacity notes none n m in_n in_m by behind =
    absurd (nothing_there n (subst (λ (l : List EntryNote). Contains l n) none in_n))

-- a write with a later one in its seat's list is sealed
earlier_sealed : (trail : List OwnStep) → AreEarlierSealed trail
    → Rise (reverse (writes_of trail)) → (n m : EntryNote) → Contains (writes_of trail) n
    → Contains (writes_of trail) m → n.start.0 < n.end.0 → m.start.0 < m.end.0
    → n.end.0 ≤ m.start.0 → IsSealed n trail
earlier_sealed trail earlier rise n m in_n in_m long_n long_m behind =
    by (writes_of trail) refl in_n in_m rise
  where
    by : (l : List EntryNote) → writes_of trail ≡ l → Contains l n → Contains l m
        → Rise (reverse l) → IsSealed n trail
    by [] is h k up = absurd (nothing_there n h)
    by (x ∷ xs) is h k up = elim (first_or_further x xs n h) [
      | inl last ↦ elim (first_or_further x xs m k) [
        | inl same ↦ absurd (
            let first = subst (λ (y : EntryNote). y.end.0 ≤ m.start.0) (sym last) behind in
            let then = subst (λ (y : EntryNote). x.end.0 ≤ y.start.0) (sym same) first in
            let forward = subst (λ (y : EntryNote). y.start.0 < y.end.0) (sym last) long_n in
            omega (arith, then, forward))
        | inr old ↦ absurd (
            let first = subst (λ (y : EntryNote). y.end.0 ≤ m.start.0) (sym last) behind in
            let forward = subst (λ (y : EntryNote). y.start.0 < y.end.0) (sym last) long_n in
            let low = newest_last x xs up m old in
            omega (arith, first, forward, low, long_m))
      ]
      | inr old ↦ earlier x xs is n old
    ]

module _ {K : Type 0} (id : TableId) (size : PathSize) (flush : Option ℕ)
    (mutations : List Mutation) (fault : Option WriteFault) (seats : List (PathSeat K))
    (all : HaveEnded id size flush mutations fault seats) (end : ℕ) (h : Holding)
    (o : IsOutcome size seats end h) (waited : HaveWaited seats) where
  abbrev own : PathSeat K → List EntryNote
  own s = writes_of (view_of s.member).trail

  -- the seat of a note's writer has the note in its list
  in_own : (w : ℕ) (low : w < size.seats) (n : EntryNote) → Contains o.core.notes n
      → n.writer.0 ≡ w
      → Contains (own (its id size flush mutations fault seats all end h o w low)) n
  in_own w low n among is =
      let s = its id size flush mutations fault seats all end h o w low in
      Contains-permutation (reverse (own s)) (own s) n
      (IsPermutation-sym (own s) (reverse (own s)) (IsPermutation-reverse (own s)))
      (subst (λ (l : List EntryNote). Contains l n)
      (same_list id size flush mutations fault seats all end h o w low)
      (in_filter (is_note_of w) o.core.notes n among (eq-eqb n.writer.0 w is)))

  -- what is logged was written
  noted : (n : EntryNote) → Contains h.logged n → Contains o.core.notes n
  noted n among = (from_filter (is_at_most h.synced) o.core.notes n
      (subst (λ (l : List EntryNote). Contains l n) o.logged among)).0

  pub stand_apart : StandApart size.capacity h.logged
  stand_apart n m in_n in_m by behind =
      let n_there = noted n in_n in
      let m_there = noted m in_m in
      let w = n.writer.0 in
      let low = known id size flush mutations fault seats all end h o n n_there in
      let s = its id size flush mutations fault seats all end h o w low in
      let there = (seat_of id size flush mutations fault seats all end h o w low).1 in
      let own_n = in_own w low n n_there refl in
      let own_m = in_own w low m m_there (sym by) in
      let x = All-contains (λ (t : PathSeat K). AreSealedApart size.capacity o.core.notes h.synced
      (view_of t.member).trail) seats s o.apart there n m
      (earlier_sealed (view_of s.member).trail (waited s there)
      (is_its id size flush mutations fault seats all end h o w low).logs.rise n m own_n own_m
      (long id size flush mutations fault seats all end h o n n_there)
      (long id size flush mutations fault seats all end h o m m_there) behind) own_m behind in
      record {
        key = x.mark.key;
        behind = x.mark.behind;
        before = x.before;
        bare = λ k among. x.mark.bare k (noted k among);
      }
