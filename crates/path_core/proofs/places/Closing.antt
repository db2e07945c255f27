-- What a write that closes is placed in: its places are those that it tried, of its own claim.
use Rattle.std.proofs.Common.{
  ◌≡◌,
  ℕ,
  ◌<◌,
  true,
  Option,
  Some,
  refl,
  ap,
  ◌∙◌,
  subst,
  arith,
  ◌⊎◌,
  IsTrue,
}
use Rattle.std.specs.Option.{option_map_or}
use Rattle.std.specs.List.{Contains}
use Rattle.std.proofs.lemmas.List.Elements.{Contains-append_cases}
use mathlib.Core.Logic.{inl}
use Rattle.op_core.specs.declared.count.Order.TheVariants.{Write, Append}
use Rattle.path_core.specs.declared.event.Carried.TheVariants.{Nothing, Deposit, Applied}
use Rattle.path_core.specs.declared.event.Event.{Event}
use Rattle.path_core.specs.declared.event.Event.TheVariants.{Close}
use Rattle.path_core.specs.declared.seat.Range.{Range}
use Rattle.path_core.specs.declared.state.Claim.{Claim as ClaimOf}
use Rattle.path_core.specs.declared.state.PathState.{PathState}
use Rattle.path_core.specs.declared.state.Placed.{Placed}
use Rattle.path_core.specs.Parts.{seat_of, seat_table, table_of, touches, key_of_bound}
use Rattle.path_core.specs.Words.{by_of}
use Rattle.path_core.specs.Next.{next_of, places_from, end_of_claim}
use Rattle.path_core.specs.LawfulLog.{entry_claim}
use Rattle.path_core.specs.LawfulTables.{may_touch}
use Rattle.path_core.specs.Lawful.{IsLawfulLog, IsLawfulPlacing}
use Rattle.path_core.proofs.tables.TableBounds.{final_at}
use Rattle.path_core.proofs.log.ClaimEnds.{same_end}
use Rattle.path_core.proofs.places.KeepsPlaced.{places_are}

-- what is placed was placed before, or is a place of the seat that closes its write
pub placed_was : (x : PathState) (e : Event) (p : Placed) → Contains (next_of x e).placed p
    → Contains x.placed p
    ⊎ Contains (places_from 0 (end_of_claim (seat_of x (by_of e))) (seat_of x (by_of e)).tables) p
placed_was x (Close by Write g (Applied places)) p h = Contains-append_cases x.placed
    (places_from 0 (end_of_claim (seat_of x by)) (seat_of x by).tables) p h
placed_was x (Close by Write g Nothing) p h = inl h
placed_was x (Close by Write g (Deposit note)) p h = inl h
placed_was x (Close by Append g carried) p h = inl h
placed_was x e p h = inl h

module _ (x : PathState) (Z : IsLawfulPlacing x) where
  abbrev L : IsLawfulLog x
  L = Z.core.log

  -- A seat's place: the seat has a claim that ends at the entry, and touches the table.
  pub record IsOwnPlace (w : ℕ) (p : Placed) : Type 0 where
    pub range : Range
    pub claim : (seat_of x w).claim ≡ Some range
    pub entry : p.entry ≡ range.end
    pub touched : IsTrue (may_touch (seat_of x w) p.table)
    pub place : (seat_table (seat_of x w) p.table).place ≡ Some p.memtable

  -- a place of a seat is its own
  pub own_at : (w t m : ℕ) → (seat_table (seat_of x w) t).place ≡ Some m
      → IsOwnPlace w (record { table = t; entry = end_of_claim (seat_of x w); memtable = m })
  own_at w t m place =
      let T = Z.places.tries w t in
      let n = T.of_note m (T.place_is_tried m place) in
      let H = L.each_claim_noted_once.own w n.0 n.1 in
      record {
        range = record { start = H.note.start.0; end = H.note.end.0 };
        claim = H.range;
        entry = ap (λ (c : Option Range). option_map_or (λ (r : Range). r.end) c 0) H.range;
        touched = ap (λ (d : Option ℕ). option_map_or (λ (tables : ℕ). touches tables t) d true)
            n.1 ∙ n.2;
        place = place;
      }

  -- so are those that a close places
  pub own_place : (w : ℕ) (p : Placed)
      → Contains (places_from 0 (end_of_claim (seat_of x w)) (seat_of x w).tables) p
      → IsOwnPlace w p
  own_place w p h =
      let I = places_are x Z.core Z.places 0 (end_of_claim (seat_of x w)) (seat_of x w).tables p h
      in
      let t : I.index ≡ p.table = let q = I.table in omega arith in
      let O = own_at w I.index p.memtable I.place in
      record {
        range = O.range;
        claim = O.claim;
        entry = I.entry_is ∙ O.entry;
        touched = subst (λ k. IsTrue (may_touch (seat_of x w) k)) t O.touched;
        place = subst (λ k. (seat_table (seat_of x w) k).place ≡ Some p.memtable) t I.place;
      }

  -- two seats whose claims end at one key are one
  pub one_claimant : (v w : ℕ) (q r : Range) → (seat_of x v).claim ≡ Some q
      → (seat_of x w).claim ≡ Some r → q.end ≡ r.end → v ≡ w
  one_claimant v w q r c d is = ap (λ (k : ClaimOf). k.by)
      (same_end x.capacity x.ordinals x.log x.claims L.claims_tile_the_log
      (entry_claim v q.start q.end) (entry_claim w r.start r.end) (L.own_claim v q c)
      (L.own_claim w r d) refl refl is)

  -- no seat has its place in a retired memtable
  pub none_in_retired : (w : ℕ) (p : Placed) → IsOwnPlace w p
      → p.memtable < (table_of x p.table).oldest_live → ⊥
  none_in_retired w p I retired =
      let f = final_at _ ((Z.core.switches.tables p.table).retired_is_final p.memtable retired) in
      let above : f.0.0 < I.range.end = subst (λ b. key_of_bound b < I.range.end) f.1
      (Z.places.none_below p.table p.memtable retired w I.range I.claim I.touched) in
      let A = (Z.places.tries w p.table).accepted p.memtable I.range I.place I.claim in
      let low = A.lets_in.final f.0 f.1 in
      absurd (omega arith)
