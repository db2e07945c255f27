-- Where closed writes were placed: each allowed step keeps it.
use Rattle.std.proofs.Common.{
  ◌≡◌,
  ℕ,
  suc,
  ◌+◌,
  ◌<◌,
  List,
  [],
  ◌∷◌,
  length,
  get_or,
  Option,
  Some,
  None,
  refl,
  sym,
  ap,
  ◌∙◌,
  subst,
  arith,
  ◌≤◌,
  zero,
  IsTrue,
}
use Rattle.std.specs.Option.{option_map_or}
use mathlib.Core.Logic.{inl, inr}
use Rattle.op_core.specs.declared.count.Order.TheVariants.{Write, Append}
use Rattle.path_core.specs.declared.event.Carried.TheVariants.{Nothing, Deposit, Applied}
use Rattle.path_core.specs.declared.event.Event.{Event}
use Rattle.path_core.specs.declared.event.Event.TheVariants.{Close}
use Rattle.path_core.specs.declared.seat.Range.{Range}
use Rattle.path_core.specs.declared.seat.SeatTable.{SeatTable}
use Rattle.path_core.specs.declared.state.PathState.{PathState}
use Rattle.path_core.specs.Parts.{untouched, seat_of, table_of, touches}
use Rattle.path_core.specs.Next.{next_of, places_from, end_of_claim}
use Rattle.path_core.specs.Allowed.{IsStep}
use Rattle.path_core.proofs.log.ClaimEnds.{ends_below}
use Rattle.std.specs.List.{Contains}
use Rattle.std.proofs.lemmas.List.Elements.{Contains-append_cases}
use Rattle.path_core.specs.declared.note.EntryNote.{EntryNote}
use Rattle.path_core.specs.declared.state.Placed.{Placed}
use Rattle.path_core.specs.Lawful.{IsLawfulLog, IsLawfulCore}
use Rattle.path_core.specs.LawfulPlaces.{IsAccepted, PlacedIs, PlacesAre}
use Rattle.path_core.proofs.runs.Sizes.{as_many_tables}
use Rattle.path_core.proofs.log.OwnNotes.{notes_stay}
use Rattle.path_core.proofs.places.TableMoves.{accepted_stays, table_moves}

module _ (x : PathState) (C : IsLawfulCore x) (P : PlacesAre x) where
  abbrev L : IsLawfulLog x
  L = C.log

  note_low : (n : EntryNote) → Contains x.notes n → n.end.0 ≤ x.log
  note_low n h = ends_below x.capacity x.ordinals x.log x.claims L.claims_tile_the_log _
      (L.notes_are_claims.each n h).claim

  placed_moved : (e : Event) → IsStep x e → (p : Placed) → PlacedIs x p
      → PlacedIs (next_of x e) p
  placed_moved e a p I = record {
    table = subst (λ k. p.table < k) (sym (as_many_tables x e)) I.table;
    noted = record {
      note = I.noted.note;
      among = notes_stay x e I.noted.note I.noted.among;
      position = I.noted.position;
      touched = I.noted.touched;
    };
    accepted = accepted_stays x.log x.write.current (table_of x p.table) (table_of
        (next_of x e) p.table)
        (table_moves x L.sized L.claims_tile_the_log L.orders C.switches e a p.table)
        p.memtable p.entry
        (let l = note_low I.noted.note I.noted.among in let q = I.noted.position in omega arith)
        I.accepted;
  }

  -- what a seat's places from a table on are
  pub record IsPlaceOf (first entry : ℕ) (ss : List SeatTable) (p : Placed) : Type 0 where
    pub index : ℕ
    pub table : p.table ≡ first + index
    pub entry_is : p.entry ≡ entry
    pub place : (get_or ss index untouched).place ≡ Some p.memtable

  pub places_are : (first entry : ℕ) (ss : List SeatTable) (p : Placed)
      → Contains (places_from first entry ss) p → IsPlaceOf first entry ss p
  places_are first entry [] p h = absurd (let l = h.1 in omega arith)
  places_are first entry (s ∷ ss) p h = by s.place refl (λ g. places_are (first + 1) entry ss p g) h
    where
      later : IsPlaceOf (first + 1) entry ss p → IsPlaceOf first entry (s ∷ ss) p
      later I = record {
        index = suc I.index;
        table = let t = I.table in omega arith;
        entry_is = I.entry_is;
        place = I.place;
      }

      by : (o : Option ℕ) → s.place ≡ o
          → (Contains (places_from (first + 1) entry ss) p → IsPlaceOf (first + 1) entry ss p)
          → Contains (option_map_or (λ (m : ℕ). record {
            table = first;
            entry = entry;
            memtable = m;
          }
          ∷ places_from (first + 1) entry ss) o (places_from (first + 1) entry ss)) p
          → IsPlaceOf first entry (s ∷ ss) p
      by None e rest h = later (rest h)
      by (Some m) e rest (zero, inside, is) = record {
        index = zero;
        table = ap (λ (q : Placed). q.table) (sym is) ∙ omega arith;
        entry_is = ap (λ (q : Placed). q.entry) (sym is);
        place = e ∙ ap (λ (q : Placed). Some q.memtable) is;
      }
      by (Some m) e rest (suc k, inside, is) = later (rest (k, omega arith, is))

  pub placed_there : (first entry : ℕ) (ss : List SeatTable) (i m : ℕ) → i < length ss
      → (get_or ss i untouched).place ≡ Some m
      → Contains (places_from first entry ss)
      (record { table = first + i; entry = entry; memtable = m })
  placed_there first entry [] i m inside is = absurd (omega arith)
  placed_there first entry (s ∷ ss) zero m inside is = subst (λ (o : Option ℕ). Contains
      (option_map_or (λ (n : ℕ). record { table = first; entry = entry; memtable = n }
      ∷ places_from (first + 1) entry ss) o (places_from (first + 1) entry ss))
      (record { table = first + zero; entry = entry; memtable = m })) (sym is) (
        zero,
        omega arith,
        ap (λ (t : ℕ). record { table = t; entry = entry; memtable = m })
            (omega arith),
      )
  placed_there first entry (s ∷ ss) (suc i) m inside is = by s.place
      (subst (λ (t : ℕ). Contains (places_from (first + 1) entry ss)
      (record { table = t; entry = entry; memtable = m })) (omega arith)
      (placed_there (first + 1) entry ss i m (omega arith) is))
    where
      by : (o : Option ℕ) → Contains (places_from (first + 1) entry ss)
          (record { table = first + suc i; entry = entry; memtable = m })
          → Contains (option_map_or (λ (n : ℕ). record {
            table = first;
            entry = entry;
            memtable = n;
          }
          ∷ places_from (first + 1) entry ss) o (places_from (first + 1) entry ss))
          (record { table = first + suc i; entry = entry; memtable = m })
      by None h = h
      by (Some n) h = (suc h.0, (let l = h.1 in omega arith), h.2)

  -- the claim of a deposited seat is its note's
  new_placed : (w : ℕ) (p : Placed)
      → Contains (places_from 0 (end_of_claim (seat_of x w)) (seat_of x w).tables) p → PlacedIs x p
  new_placed w p h =
      let I = places_are 0 (end_of_claim (seat_of x w)) (seat_of x w).tables p h in
      let t : p.table ≡ I.index = let q = I.table in omega arith in
      let T = P.tries w I.index in
      let try = T.place_is_tried p.memtable I.place in
      let n = T.of_note p.memtable try in
      let H = L.each_claim_noted_once.own w n.0 n.1 in
      let end : end_of_claim (seat_of x w) ≡ H.note.end.0
      = ap (λ (c : Option Range). option_map_or (λ (r : Range). r.end) c 0) H.range in
      let e = I.entry_is in
      record {
        table = let l = n.3 in omega arith;
        noted = record {
          note = H.note;
          among = H.among;
          position = omega arith;
          touched = subst (λ k. IsTrue (touches H.note.tables k)) (sym t)
              (subst (λ k. IsTrue (touches k I.index)) (sym H.tables_are) n.2);
        };
        accepted = subst (λ k. IsAccepted (table_of x k) p.memtable p.entry) (sym t)
            (subst (λ k. IsAccepted (table_of x I.index) p.memtable k) (omega arith)
            (T.accepted p.memtable _ I.place H.range));
      }

  pub keeps_placed : (e : Event) → IsStep x e → (p : Placed) → Contains (next_of x e).placed p
      → PlacedIs (next_of x e) p
  keeps_placed e a p h = placed_moved e a p (was e h)
    where
      was : (e : Event) → Contains (next_of x e).placed p → PlacedIs x p
      was (Close by Write g (Applied places)) h = elim (Contains-append_cases x.placed
          (places_from 0 (end_of_claim (seat_of x by)) (seat_of x by).tables) p h) [
            | inl old ↦ P.placed p old
            | inr new ↦ new_placed by p new
          ]
      was (Close by Write g Nothing) h = P.placed p h
      was (Close by Write g (Deposit note)) h = P.placed p h
      was (Close by Append g carried) h = P.placed p h
      was e h = P.placed p h
