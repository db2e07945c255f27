-- What a seat tries and its place stay good where its table moves, and where its step leaves both.
use Rattle.std.proofs.Common.{
  ◌≡◌,
  ℕ,
  length,
  Option,
  Some,
  None,
  refl,
  sym,
  ap,
  ◌∙◌,
  subst,
  arith,
  ◌≤◌,
}
use Rattle.std.proofs.lemmas.Option.{none-some}
use Rattle.path_core.specs.declared.event.Event.{Event}
use Rattle.path_core.specs.declared.seat.Range.{Range}
use Rattle.path_core.specs.declared.seat.Seat.{Seat}
use Rattle.path_core.specs.declared.state.PathState.{PathState}
use Rattle.path_core.specs.Parts.{seat_of, seat_table, table_of}
use Rattle.path_core.specs.Words.{reading, by_of, place_of}
use Rattle.path_core.specs.Next.{next_of, told_of}
use Rattle.path_core.specs.declared.state.TableState.{TableState}
use Rattle.path_core.specs.Allowed.{IsStep}
use Rattle.path_core.proofs.seats.Columns.{own_after, claim_after, note_after}
use Rattle.path_core.specs.Lawful.{IsLawfulLog, IsLawfulCore}
use Rattle.path_core.specs.LawfulPlaces.{TriesAre, PlacesAre}
use Rattle.path_core.proofs.runs.Sizes.{as_many_tables}
use Rattle.path_core.proofs.places.TableMoves.{TableMoves, table_moves, accepted_stays, tries_stay}
use Rattle.path_core.proofs.places.Tries.{tried_in, ChangesTry, tries_same}
use Rattle.path_core.proofs.orders.OtherSteps.{columns_of}
use Rattle.path_core.proofs.log.ClaimEnds.{ends_below}

-- where nothing is tried
pub none_tried : (n t : ℕ) (table : TableState) (claim : Option Range)
    (deposit trying place : Option ℕ)
    → trying ≡ None → place ≡ None → TriesAre n t table claim deposit trying place
none_tried n t table claim deposit trying place no_try no_place = record {
  of_note = λ m e. absurd (none-some m (sym no_try ∙ e));
  place_is_tried = λ m e. absurd (none-some m (sym no_place ∙ e));
  above = λ m r e. absurd (none-some m (sym no_try ∙ e));
  accepted = λ m r e. absurd (none-some m (sym no_place ∙ e));
}

-- a table moves
tries_move : (n k t log group : ℕ) (table after : TableState) (claim : Option Range)
    (deposit trying place : Option ℕ) → k ≡ n → TableMoves log group table after
    → ((r : Range) → claim ≡ Some r → r.end ≤ log)
    → TriesAre n t table claim deposit trying place → TriesAre k t after claim deposit trying place
tries_move n k t log group table after claim deposit trying place same M low T = record {
  of_note = λ m e. let r = T.of_note m e in let l = r.3 in (r.0, r.1, r.2, omega arith);
  place_is_tried = T.place_is_tried;
  above = λ m r e c. tries_stay log group table after M m r.end (T.above m r e c);
  accepted = λ m r e c. accepted_stays log group table after M m r.end (low r c)
      (T.accepted m r e c);
}

-- the same at equal parts
pub tries_at : (n t : ℕ) (table : TableState) (claim claim' : Option Range) (note note' : Option ℕ)
    (p q : Option ℕ × Option ℕ) → claim' ≡ claim → note' ≡ note → q ≡ p
    → TriesAre n t table claim note p.0 p.1 → TriesAre n t table claim' note' q.0 q.1
tries_at n t table claim claim' note note' p q c k e T =
    subst (λ cl. TriesAre n t table cl note' q.0 q.1) (sym c)
    (subst (λ no. TriesAre n t table claim no q.0 q.1) (sym k)
    (subst (λ (r : Option ℕ × Option ℕ). TriesAre n t table claim note r.0 r.1) (sym e) T))

module _ (x : PathState) where
  abbrev pub Tries : Event → ℕ → Option Range → Option ℕ → Option ℕ × Option ℕ → Type 0
  Tries e t claim note p = TriesAre (length (next_of x e).tables) t (table_of
      (next_of x e) t) claim note p.0 p.1

  abbrev pub own : Event → Seat
  own e = seat_of x (by_of e)

module _ (x : PathState) (C : IsLawfulCore x) (P : PlacesAre x) where
  abbrev L : IsLawfulLog x
  L = C.log

  -- a seat that has deposited nothing tries nothing
  no_try : (w t : ℕ) → (seat_of x w).note ≡ None → tried_in (seat_table (seat_of x w) t) ≡ (
    None,
    None,
  )
  no_try w t none = pair (seat_table (seat_of x w) t).trying (seat_table
      (seat_of x w) t).place refl refl
    where
      pair : (trying place : Option ℕ) → (seat_table (seat_of x w) t).trying ≡ trying
          → (seat_table (seat_of x w) t).place ≡ place
          → tried_in (seat_table (seat_of x w) t) ≡ (None, None)
      pair (Some m) place e f = absurd (none-some _ (sym none ∙ ((P.tries w t).of_note m e).1))
      pair None (Some m) e f = absurd (none-some m (sym e ∙ (P.tries w t).place_is_tried m f))
      pair None None e f = ap (λ (o : Option ℕ). (o, (seat_table (seat_of x w) t).place)) e
          ∙ ap (λ (o : Option ℕ). (None, o)) f

  pub moved : (e : Event) → IsStep x e → (w t : ℕ)
      → Tries x e t (seat_of x w).claim (seat_of x w).note (tried_in (seat_table (seat_of x w) t))
  moved e a w t = tries_move (length x.tables) (length (next_of x e).tables) t x.log x.write.current
      (table_of x t) (table_of (next_of x e) t) (seat_of x w).claim (seat_of x w).note
      (seat_table (seat_of x w) t).trying (seat_table (seat_of x w) t).place
      (as_many_tables x e) (table_moves x L.sized L.claims_tile_the_log L.orders C.switches e a t)
      (λ r h. ends_below x.capacity x.ordinals x.log x.claims L.claims_tile_the_log _
      (L.own_claim w r h)) (P.tries w t)

  -- where what is tried stays, and the claim and the note as well
  pub own_same : (e : Event) → IsStep x e → (ChangesTry e → ⊥) → (t : ℕ)
      → claim_after (own x e).claim e ≡ (own x e).claim
      → note_after (own x e).note e ≡ (own x e).note
      → Tries x e t (own_after x e).claim (own_after x e).note (tried_in (seat_table
      (own_after x e) t))
  own_same e a other t c n = tries_at _ t _ _ _ _ _ _ _
      ((columns_of x L.sized L.orders e a.is_there).claim ∙ c)
      ((columns_of x L.sized L.orders e a.is_there).note ∙ n)
      (tries_same e (own x e) (reading x (place_of e)) (told_of x e) t other) (moved e a
      (by_of e) t)

  -- where nothing was tried
  pub own_none : (e : Event) → IsStep x e → (ChangesTry e → ⊥) → (t : ℕ) → (own x e).note ≡ None
      → Tries x e t (own_after x e).claim (own_after x e).note (tried_in (seat_table
      (own_after x e) t))
  own_none e a other t none =
      let same = tries_same e (own x e) (reading x (place_of e)) (told_of x e) t other
      ∙ no_try (by_of e) t none in
      none_tried _ t _ _ _ _ _ (ap (λ (p : Option ℕ × Option ℕ). p.0) same)
      (ap (λ (p : Option ℕ × Option ℕ). p.1) same)
