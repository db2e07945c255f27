-- Where closed writes are placed, and what memtables hold.
use Rattle.std.proofs.Common.{
  ◌≡◌,
  ℕ,
  suc,
  ◌<◌,
  true,
  Option,
  Some,
  None,
  refl,
  sym,
  ap,
  ◌∙◌,
  subst,
  arith,
  ◌≤◌,
  zero,
  IsTrue,
}
use Rattle.std.specs.Option.{option_map_or}
use Rattle.std.proofs.lemmas.Option.{same_Some}
use mathlib.Core.Logic.{dite}
use native.Mathlib.Decide.{ℕ_discrete, dec_lt}
use Rattle.path_core.specs.declared.seat.Range.{Range}
use Rattle.path_core.specs.declared.state.PathState.{PathState}
use Rattle.path_core.specs.Parts.{
  seat_of,
  table_of,
  memtable_of,
  key_of_bound,
  HasPassedBarrier,
  touches,
}
use Rattle.clog_base.specs.declared.position.Key.{Key}
use Rattle.path_core.specs.declared.state.Bound.TheVariants.{Final}
use Rattle.std.proofs.lemmas.Bool.{and_parts, leb-true, and_from, lt-ltb, le-leb, ltb-true}
use Rattle.std.specs.List.{Contains}
use Rattle.path_core.specs.declared.note.EntryNote.{EntryNote}
use Rattle.path_core.specs.Lawful.{IsLawfulLog, IsLawfulCore}
use Rattle.path_core.specs.LawfulPlaces.{IsAccepted, IsClosed, PlacesAre}
use Rattle.path_core.proofs.tables.TableBounds.{final_at, final_is_below}
use Rattle.path_core.proofs.log.KeepsNotes.{note_long}
use Rattle.path_core.specs.History.{bound_before, bound_below, final_bound, is_touching}
use Rattle.path_core.specs.LawfulTables.{IsTouched}
use Rattle.path_core.specs.Promises.{IsPlacedRight, HoldsItsInterval}
use Rattle.path_core.proofs.lists.Passing.{kept_in, filter_from}
use Rattle.path_core.proofs.places.KeepsLater.{passed_above}
use Rattle.path_core.proofs.places.KeepsPlaces.{same_note}

module _ (x : PathState) (C : IsLawfulCore x) (P : PlacesAre x) where
  abbrev L : IsLawfulLog x
  L = C.log

  abbrev At : ℕ → ℕ → ℕ → Type 0
  At t m entry = IsAccepted (table_of x t) m entry

  -- an entry that a memtable accepted lies above the bound before
  accepted_above : (t m entry : ℕ) → 0 < entry → At t m entry → bound_below (table_of x t) m < entry
  accepted_above t zero entry some A = some
  accepted_above t (suc k) entry some A = let F = A.above_before k refl in let l = F.below in
      subst (λ b. key_of_bound b < entry) (sym F.final) l

  -- an earlier memtable is final below what a later one accepted
  earlier_below : (t m n entry : ℕ) → m < n → At t n entry
      → (u : Key) × ((memtable_of x t m).bound ≡ Final u) × (u.0 < entry)
  earlier_below t m zero entry l A = absurd (omega arith)
  earlier_below t m (suc k) entry l A =
      let F = A.above_before k refl in
      let B = (C.switches.tables t).bounds_rise in
      let f = F.below in
      dite (ℕ_discrete m k)
      (λ e. (F.bound, ap (λ j. (memtable_of x t j).bound) e ∙ F.final, F.below))
      (λ n. let under = final_is_below x.log (table_of x t)
      (C.switches.tables t) k F.bound F.final in
      let r = final_at (memtable_of x t m).bound (B.others_are_final m (omega arith)) in
      let w = B.rise m k r.0 F.bound (omega arith) r.1 F.final in
      (r.0, r.1, omega arith))

  one_memtable : (t m n entry : ℕ) → At t m entry → At t n entry → m ≡ n
  one_memtable t m n entry A B = dite (ℕ_discrete m n) (λ e. e)
      (λ d. absurd (dite (dec_lt m n)
      (λ l. let e = earlier_below t m n entry l B in
      let f = A.lets_in.final e.0 e.1 in let o = e.2 in absurd (omega arith))
      (λ g. let e = earlier_below t n m entry (omega arith) A in
      let f = B.lets_in.final e.0 e.1 in let o = e.2 in absurd (omega arith))))

  note_some : (n : EntryNote) → Contains x.notes n → 0 < n.end.0
  note_some n h = let l = note_long x L.sized L.claims_tile_the_log L.orders L.own_claim
      L.each_claim_noted_once L.notes_are_claims n h in omega arith

  accepted_of : (t entry m : ℕ)
      → Contains x.placed (record { table = t; entry = entry; memtable = m }) → At t m entry
  accepted_of t entry m h = (P.placed _ h).accepted

  -- A closed write is placed right.
  pub placed_right : (n : EntryNote) (t : ℕ) → Contains x.notes n → IsClosed x n
      → IsTrue (touches n.tables t) → IsPlacedRight x t n.end.0
  placed_right n t h closed touched =
      let H = P.closed n t h closed touched in
      let A = accepted_of t n.end.0 H.0 H.1 in record {
        memtable = H.0;
        placed = H.1;
        no_other = λ m g. one_memtable t m H.0 n.end.0 (accepted_of t n.end.0 m g) A;
        above = accepted_above t H.0 n.end.0 (note_some n h) A;
        below = A.lets_in.final;
      }

  -- What a memtable with a passed barrier holds.
  pub holds_interval : (t m : ℕ) → HasPassedBarrier x t m → HoldsItsInterval x t m
  holds_interval t m B entry = (there, back)
    where
      final : (u : Key) × ((memtable_of x t m).bound ≡ Final u)
      final = final_at _ ((C.switches.tables t).barrier_means_final m B.group B.issued)

      there : Contains x.placed (record { table = t; entry = entry; memtable = m })
          → IsTouched x t (bound_before x t m) (final_bound x t m) entry
      there h =
          let I = P.placed _ h in
          let n = I.noted.note in
          let A = I.accepted in
          let s = note_some n I.noted.among in
          let is = I.noted.position in
          let above = accepted_above t m entry (omega arith) A in
          let low = A.lets_in.final final.0 final.1 in
          let top : key_of_bound (memtable_of x t m).bound ≡ final.0.0 = ap key_of_bound final.1 in
          record {
            note = n;
            among = kept_in (is_touching t (bound_before x t m) (final_bound x t m)) x.notes n
                I.noted.among (and_from _ _ (and_from _ _ I.noted.touched
                (lt-ltb (bound_before x t m) n.end.0 (omega arith)))
                (le-leb n.end.0 (final_bound x t m) (omega arith)));
            position = is;
          }

      back : IsTouched x t (bound_before x t m) (final_bound x t m) entry
          → Contains x.placed (record { table = t; entry = entry; memtable = m })
      back I =
          let n = I.note in
          let f = filter_from (is_touching t (bound_before x t m)
          (final_bound x t m)) x.notes n I.among in
          let p = and_parts _ _ f.1 in
          let q = and_parts _ _ p.0 in
          let low = leb-true n.end.0 (final_bound x t m) p.1 in
          let high = ltb-true (bound_before x t m) n.end.0 q.1 in
          let top : key_of_bound (memtable_of x t m).bound ≡ final.0.0 = ap key_of_bound final.1 in
          let closed = closed_of n f.0 q.0 (omega arith) in
          let R = placed_right n t f.0 closed q.0 in
          subst (λ k. Contains x.placed (record { table = t; entry = k; memtable = m })) I.position
          (subst (λ k. Contains x.placed (record { table = t; entry = n.end.0; memtable = k }))
          (here R.memtable n.end.0 (accepted_of t n.end.0 R.memtable R.placed) high
          (omega arith)) R.placed)
        where
          closed_of : (n : EntryNote) → Contains x.notes n → IsTrue (touches n.tables t)
              → n.end.0 ≤ final.0.0 → IsClosed x n
          closed_of n h touched low w r c is = absurd
              (let l = passed_above x C P t m final.0 final.1 B w r c
              (may (seat_of x w).note refl) in omega arith)
            where
              may : (deposit : Option ℕ) → (seat_of x w).note ≡ deposit
                  → IsTrue (option_map_or (λ (tables : ℕ). touches tables t)
                  (seat_of x w).note true)
              may None e = ap (λ (k : Option ℕ). option_map_or (λ
                  (tables : ℕ). touches tables t) k true) e
              may (Some k) e =
                  let H = L.each_claim_noted_once.own w k e in
                  let end = ap (λ (z : Range). z.end) (same_Some _ r (sym H.range ∙ c)) in
                  let same = same_note x C P H.note n H.among h (omega arith) in
                  ap (λ (j : Option ℕ). option_map_or (λ (tables : ℕ). touches tables t) j true) e
                  ∙ subst (λ (j : ℕ). touches j t ≡ true) H.tables_are
                  (subst (λ (j : EntryNote). touches j.tables t ≡ true) (sym same) touched)

          -- the memtable that holds it is this one
          here : (k entry : ℕ) → At t k entry → bound_before x t m < entry → entry ≤ final.0.0
              → k ≡ m
          here k entry A high low = dite (ℕ_discrete k m) (λ e. e)
              (λ d. absurd (dite (dec_lt k m)
              (λ l. let e : (u : Key) × ((memtable_of x t k).bound ≡ Final u)
              × (u.0 ≤ bound_before x t m) = before k l in
              let f = A.lets_in.final e.0 e.1 in let o = e.2 in absurd (omega arith))
              (λ g. let e = earlier_below t m k entry (omega arith) A in
              let q : Final e.0 ≡ Final final.0 = sym e.1 ∙ final.1 in
              let s : e.0.0 ≡ final.0.0 = ap key_of_bound q in
              let o = e.2 in absurd (omega arith))))
            where
              -- an earlier one is final at or below the bound before
              before : (j : ℕ) → j < m
                  → (u : Key) × ((memtable_of x t j).bound ≡ Final u) × (u.0 ≤ bound_before x t m)
              before j l = by m refl
                where
                  by : (i : ℕ) → i ≡ m → (u : Key) × ((memtable_of x t j).bound ≡ Final u)
                      × (u.0 ≤ bound_below (table_of x t) i)
                  by zero e = absurd (omega arith)
                  by (suc i) e =
                      let B = (C.switches.tables t).bounds_rise in
                      let under = final_is_below x.log (table_of x t)
                      (C.switches.tables t) m final.0
                      final.1 in
                      let r = final_at (memtable_of x t j).bound (B.others_are_final j
                      (omega arith)) in
                      let q = final_at (memtable_of x t i).bound (B.others_are_final i
                      (omega arith)) in (
                        r.0,
                        r.1,
                        subst (λ b. r.0.0 ≤ key_of_bound b) (sym q.1) (dite (ℕ_discrete j i)
                            (λ is. let z : Final r.0 ≡ Final q.0
                            = sym r.1 ∙ ap (λ k. (memtable_of x t k).bound) is ∙ q.1 in
                            let y : r.0.0 ≡ q.0.0 = ap key_of_bound z in omega arith)
                            (λ n. B.rise j i r.0 q.0 (omega arith) r.1 q.1)),
                      )
