-- A Look at the bound of what is tried, or at the oldest live memtable: what is tried next is good.
use Rattle.std.proofs.Common.{
  ◌≡◌,
  ℕ,
  ◌+◌,
  ◌<◌,
  Bool,
  true,
  false,
  cond,
  length,
  Option,
  Some,
  None,
  is_some,
  refl,
  sym,
  ap,
  ◌∙◌,
  subst,
  arith,
  nat_le,
  IsTrue,
}
use Rattle.std.specs.Option.{option_map, option_map_or}
use Rattle.std.proofs.lemmas.Option.{none-some, same_Some}
use Rattle.path_core.specs.declared.seat.Range.{Range}
use Rattle.path_core.specs.declared.seat.Seat.{Seat}
use Rattle.path_core.specs.declared.seat.SeatTable.{SeatTable}
use Rattle.path_core.specs.declared.state.PathState.{PathState}
use Rattle.path_core.specs.Parts.{
  seat_of,
  seat_table,
  is_at,
  table_of,
  memtable_of,
  key_of_bound,
  touches,
}
use Rattle.path_core.specs.declared.state.Bound.{Bound as BoundOf}
use Rattle.path_core.specs.declared.state.Bound.TheVariants.{Raising, Live, Final}
use Rattle.path_core.specs.SeatParts.{
  bound_found,
  tries_bound,
  takes,
  is_final_below,
  begins_at,
  deposited_end,
  has_note_of,
  tried as tried_seat,
}
use Rattle.clog_base.specs.declared.position.Key.{Key}
use Rattle.std.proofs.lemmas.Bool.{false≢true, eqb-true, leb-true, leb-false}
use Rattle.path_core.specs.Lawful.{IsLawfulLog, IsLawfulCore}
use Rattle.path_core.specs.LawfulPlaces.{IsAccepted, TriesAbove, TriesAre, PlacesAre}
use Rattle.path_core.proofs.places.Tries.{tried_in}
use Rattle.path_core.proofs.tables.TableBounds.{final_at, final_is_below}

module _ (x : PathState) (C : IsLawfulCore x) (P : PlacesAre x) where
  abbrev L : IsLawfulLog x
  L = C.log

  -- a seat that has deposited has a claim
  deposited_claim : (q : Seat) (end : ℕ) → deposited_end q ≡ Some end
      → (r : Range) × (q.claim ≡ Some r) × (r.end ≡ end)
  deposited_claim q end e = by (is_some q.note) q.claim refl e
    where
      by : (b : Bool) (claim : Option Range) → q.claim ≡ claim
          → cond b (option_map (λ (r : Range). r.end) claim) None ≡ Some end
          → (r : Range) × (q.claim ≡ Some r) × (r.end ≡ end)
      by false claim c e = absurd (none-some end e)
      by true None c e = absurd (none-some end e)
      by true (Some r) c e = (r, c, same_Some r.end end e)

  pub tried_there : (o : Option ℕ) (m : ℕ) → is_at o m ≡ true → o ≡ Some m
  tried_there None m e = absurd (false≢true e)
  tried_there (Some n) m e = ap Some (eqb-true n m e)

  abbrev At : ℕ → Seat → Option ℕ × Option ℕ → Type 0
  At t q p = TriesAre (length x.tables) t (table_of x t) q.claim q.note p.0 p.1

  -- a Look at the bound of what is tried
  found_bound : (w t m : ℕ) (end : ℕ) → deposited_end (seat_of x w) ≡ Some end
      → (b : BoundOf) → (memtable_of x t m).bound ≡ b
      → (seat_table (seat_of x w) t).trying ≡ Some m
      → (c d : Bool) → takes end b ≡ c → is_final_below end b ≡ d
      → At t (seat_of x w) (tried_in (cond c (record (seat_table
      (seat_of x w) t) { place = Some m })
      (cond d (record (seat_table (seat_of x w) t) { trying = Some (m + 1) })
      (seat_table (seat_of x w) t))))
  found_bound w t m end is b at try true d taken below = let T = P.tries w t in record {
    of_note = T.of_note;
    place_is_tried = λ k e. try ∙ e;
    above = T.above;
    accepted = λ k r e c. let A = T.above m r try c in
        let same : m ≡ k = same_Some m k e in
        subst (λ j. IsAccepted (table_of x t) j r.end) same (record {
          made = A.made;
          above_before = A.above_before;
          lets_in = let g = deposited_claim (seat_of x w) end is in
              let q : g.0.end ≡ r.end = ap (λ (z : Range). z.end) (same_Some g.0 r (sym g.1 ∙ c)) in
              let f = g.2 in record {
                final = λ u h. let l = leb-true end u.0 (sym (ap (takes end) (sym at ∙ h))
                    ∙ taken) in omega arith;
                raising = λ u mark h. absurd (false≢true (sym (ap (takes end) (sym at ∙ h))
                    ∙ taken));
              };
        });
  }
  found_bound w t m end is b at try false true taken below = let T = P.tries w t in
      let g = deposited_claim (seat_of x w) end is in
      let u = final_below b below in record {
        of_note = λ k e. T.of_note m try;
        place_is_tried = λ k e. absurd (let same : m ≡ k = same_Some m k (sym try
            ∙ T.place_is_tried k e) in
            let A = T.accepted k g.0 e g.1 in
            let l = A.lets_in.final u.0 (ap (λ j. (memtable_of x t j).bound) (sym same) ∙ at
            ∙ u.1) in
            let f = g.2 in let o = u.2 in omega arith);
        above = λ k r e c.
            let q : g.0.end ≡ r.end = ap (λ (z : Range). z.end) (same_Some g.0 r (sym g.1 ∙ c)) in
            let under = final_is_below x.log (table_of x t) (C.switches.tables t) m u.0 (at
            ∙ u.1) in
            let same : m + 1 ≡ k = same_Some (m + 1) k e in
            let f = g.2 in let o = u.2 in record {
              made = omega arith;
              above_before = λ j h. record {
                bound = u.0;
                final = ap (λ i. (memtable_of x t i).bound) (omega arith) ∙ at ∙ u.1;
                below = omega arith;
              };
            };
        accepted = T.accepted;
      }
    where
      final_below : (b : BoundOf) → is_final_below end b ≡ true
          → (u : Key) × (b ≡ Final u) × (u.0 < end)
      final_below Live e = absurd (false≢true e)
      final_below (Raising k) e = absurd (false≢true e)
      final_below (Final k) e = (k, refl, by (nat_le end k.0) refl e)
        where
          by : (c : Bool) → nat_le end k.0 ≡ c → cond c false true ≡ true → k.0 < end
          by true q e = absurd (false≢true e)
          by false q e = leb-false end k.0 q
  found_bound w t m end is b at try false false taken below = P.tries w t

  pub bound_tries : (w t m : ℕ) (b : BoundOf) → (memtable_of x t m).bound ≡ b
      → (end : Option ℕ) → deposited_end (seat_of x w) ≡ end
      → At t (seat_of x w) (tried_in (tries_bound end m b (bound_found m b (seat_table
      (seat_of x w) t))))
  bound_tries w t m b at None is = P.tries w t
  bound_tries w t m b at (Some end) is = here (is_at (seat_table (seat_of x w) t).trying m) refl
    where
      here : (c : Bool) → is_at (seat_table (seat_of x w) t).trying m ≡ c
          → At t (seat_of x w) (tried_in (cond c
          (tried_seat end m b (bound_found m b (seat_table (seat_of x w) t)))
          (bound_found m b (seat_table (seat_of x w) t))))
      here false e = P.tries w t
      here true e = again (takes end b) (is_final_below end b) (found_bound w t m end is b at
          (tried_there _ m e) (takes end b) (is_final_below end b) refl refl)
        where
          again : (c d : Bool) → At t (seat_of x w) (tried_in (cond c
              (record (seat_table (seat_of x w) t) { place = Some m })
              (cond d (record (seat_table (seat_of x w) t) { trying = Some (m + 1) })
              (seat_table (seat_of x w) t))))
              → At t (seat_of x w) (tried_in (cond c
              (record (bound_found m b (seat_table (seat_of x w) t)) { place = Some m })
              (cond d (record (bound_found m b (seat_table (seat_of x w) t)) {
                trying = Some
                    (m + 1);
              })
              (bound_found m b (seat_table (seat_of x w) t)))))
          again true d T = T
          again false true T = T
          again false false T = T

  -- a Look at the oldest live memtable
  pub oldest_tries : (w t : ℕ) → t < length x.tables → (c : Bool) → has_note_of (seat_of x w) t ≡ c
      → (st : SeatTable) → tried_in st ≡ tried_in (seat_table (seat_of x w) t)
      → At t (seat_of x w) (tried_in (begins_at c (table_of x t).oldest_live st))
  oldest_tries w t inside false e st same =
      subst (λ p. At t (seat_of x w) p) (sym same) (P.tries w t)
  oldest_tries w t inside true e st same = by st.trying refl
    where
      T : At t (seat_of x w) (tried_in st)
      T = subst (λ p. At t (seat_of x w) p) (sym same) (P.tries w t)

      touched : (deposit : Option ℕ) → (seat_of x w).note ≡ deposit
          → option_map_or (λ (tables : ℕ). touches tables t) deposit false ≡ true
          → (n : ℕ) × ((seat_of x w).note ≡ Some n) × IsTrue (touches n t)
      touched None k h = absurd (false≢true h)
      touched (Some n) k h = (n, k, h)

      by : (o : Option ℕ) → st.trying ≡ o
          → At t (seat_of x w) (tried_in (cond (is_some st.trying) st
          (record st { trying = Some (table_of x t).oldest_live })))
      by (Some k) h = subst (λ (o : Option ℕ). At t (seat_of x w) (tried_in (cond (is_some o) st
          (record st { trying = Some (table_of x t).oldest_live })))) (sym h) T
      by None h = subst (λ (o : Option ℕ). At t (seat_of x w) (tried_in (cond (is_some o) st
          (record st { trying = Some (table_of x t).oldest_live })))) (sym h) (record {
            of_note = λ m q. let r = touched (seat_of x w).note refl e in (r.0, r.1, r.2, inside);
            place_is_tried = λ m q. absurd (none-some m (sym h ∙ T.place_is_tried m q));
            above = λ m r q c. subst (λ k. TriesAbove (table_of x t) k r.end)
                (same_Some (table_of x t).oldest_live m q) (record {
                  made = (C.switches.tables t).bounds_rise.oldest_is_made;
                  above_before = λ k s. let l : k < (table_of x t).oldest_live = omega arith in
                      let f = final_at _ ((C.switches.tables t).retired_is_final k l) in record {
                        bound = f.0;
                        final = f.1;
                        below = subst (λ b. key_of_bound b < r.end) f.1 (P.none_below t k l w r c
                            (let r = touched (seat_of x w).note refl e in
                            ap (λ (n : Option ℕ). option_map_or (λ
                            (tables : ℕ). touches tables t) n true) r.1
                            ∙ r.2));
                      };
                });
            accepted = T.accepted;
          })
