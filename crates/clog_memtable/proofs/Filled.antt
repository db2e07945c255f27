-- A memtable is filled entry by entry, and is then what its table file has to hold.
use Rattle.std.proofs.Common.{
  ◌≡◌,
  ◌<◌,
  ◌≤◌,
  ◌++◌,
  ◌∷◌,
  [],
  List,
  ℕ,
  Bool,
  true,
  false,
  ◌&&◌,
  nat_lt,
  nat_le,
  if◌then◌else◌,
  ⊎_elim,
  take,
  drop,
  length,
  ◌-◌,
  refl,
  sym,
  ap,
  ◌∙◌,
  subst,
  arith,
}
use Rattle.std.proofs.lemmas.List.{take-append-le, take_all}
use Rattle.std.specs.List.{Contains}
use Rattle.std.proofs.lemmas.Bool.{false≢true, ltb-true, lt-ltb, leb-true, le-leb}
use Rattle.std.proofs.lemmas.List.Elements.{
  Contains-append_cases,
  Contains-append_left,
  Contains-append_right,
}
use Rattle.std.specs.Int.{w32, to_be_bytes}
use Rattle.clog_spec.specs.Crc.{crc32_of}
use Rattle.clog_spec.specs.Segment.{entry_bytes, size_bytes}
use Rattle.clog_spec.proofs.Lengths.{length-entry_bytes}
use Rattle.clog_base.specs.declared.cell.Cell.{Cell}
use Rattle.clog_base.specs.declared.cell.CellKey.{CellKey}
use Rattle.clog_base.specs.declared.cell.Table.{Table}
use Rattle.clog_base.proofs.Members.{from_map, here, nothing_there, only_one}
use Rattle.clog_cells.specs.Batches.{Adds, WerePut}
use Rattle.clog_cells.specs.Merge.{IsMerge, IsMergeOf, part_on}
use Rattle.clog_cells.specs.declared.batches.CellBatches.{CellBatches}
use Rattle.clog_cells.proofs.Merging.{of_same}
use Rattle.clog_cells.proofs.Parts.{members_of_part}
use Rattle.clog_mutation.specs.declared.mutation.Mutation.{Mutation}
use Rattle.clog_mutation.specs.Payload.{cells_of, pair_of, payload_of}
use Rattle.clog_mutation.proofs.Decoding.{one_mutation}
use Rattle.path_core.specs.declared.note.EntryNote.{EntryNote}
use Rattle.path_core.specs.Keeper.{Holding, IsLoggedCell, PutFile}
use Rattle.path_core.specs.Parts.{touches}
use Rattle.path_core.specs.Whole.{IsWhole}
use Rattle.clog_memtable.specs.declared.memtable.Interval.{Interval}
use Rattle.clog_memtable.specs.Filling.{
  IsFileWithin,
  IsFilled,
  IsPutBy,
  cells_in,
  is_within,
}

abbrev Pairs : Type 0
Pairs = List (CellKey × Cell)

-- ---- a whole note has one mutation

-- what stands in an entry behind its front, up to its last check
payload_in : List ℕ → List ℕ
payload_in bytes = take (length bytes - 12) (drop 8 bytes)

payload_is : (payload : List ℕ) → payload_in (entry_bytes payload) ≡ payload
unfolding payload_in
payload_is payload =
    let check = to_be_bytes w32 (crc32_of (size_bytes payload ++ payload)) in
    let long : length (entry_bytes payload) - 12 ≡ length payload =
    omega (arith, length-entry_bytes payload) in
    ap (λ (k : ℕ). take k (payload ++ check)) long
    ∙ take-append-le (length payload) payload check (omega arith)
    ∙ take_all (length payload) payload (omega arith)

-- the payload in a whole note's bytes
pub payload_read : (n : EntryNote) (w : IsWhole n)
    → take (length n.bytes - 4 - 8) (drop 8 n.bytes) ≡ payload_of w.mutation
unfolding payload_in
payload_read n w =
    ap (λ (k : ℕ). take k (drop 8 n.bytes)) (omega arith)
    ∙ (ap payload_in w.bytes ∙ payload_is (payload_of w.mutation))

pub one_of : (a b : EntryNote) → a ≡ b → (w : IsWhole a) (v : IsWhole b) → w.mutation ≡ v.mutation
one_of a b same w v =
    one_mutation w.mutation v.mutation w.stored v.stored
    (sym (payload_is (payload_of w.mutation))
    ∙ ap payload_in (sym w.bytes ∙ (ap (λ (n : EntryNote). n.bytes) same ∙ v.bytes))
    ∙ payload_is (payload_of v.mutation))

same_cells : (i : Interval) (a b : EntryNote) → a ≡ b → (w : IsWhole a) (v : IsWhole b)
    → cells_in i a w.mutation ≡ cells_in i b v.mutation
same_cells i a b same w v = let mutation = one_of a b same w v in
    λ j. cells_in i (same j) (mutation j)

-- ---- entry by entry

pub filled_none : (i : Interval) (cells : CellBatches) → WerePut [] cells → IsFilled i [] cells
filled_none i cells none = record {
  pairs = [];
  put = none;
  exact = λ pair. (
    λ h. absurd (nothing_there pair h),
    λ p. absurd (nothing_there p.note p.among),
  );
}

pub filled_more : (i : Interval) (notes : List EntryNote) (n : EntryNote)
    (cells new : CellBatches) → IsFilled i notes cells → (w : IsWhole n)
    → Adds (cells_in i n w.mutation) cells new → IsFilled i (notes ++ n ∷ []) new
filled_more i notes n cells new F w step = let more = cells_in i n w.mutation in record {
  pairs = F.pairs ++ more;
  put = step F.pairs F.put;
  exact = λ pair. (
    λ h. ⊎_elim
        (λ old. let p = (F.exact pair).0 old in record {
          note = p.note;
          among = Contains-append_left notes (n ∷ []) p.note p.among;
          whole = p.whole;
          listed = p.listed;
        })
        (λ last. record {
          note = n;
          among = Contains-append_right notes (n ∷ []) n (here n []);
          whole = w;
          listed = last;
        })
        (Contains-append_cases F.pairs more pair h),
    λ p. ⊎_elim
        (λ old. Contains-append_left F.pairs more pair ((F.exact pair).1 (record {
          note = p.note;
          among = old;
          whole = p.whole;
          listed = p.listed;
        })))
        (λ last. Contains-append_right F.pairs more pair
        (subst (λ (l : Pairs). Contains l pair)
        (sym (same_cells i n p.note (only_one n p.note last) w p.whole)) p.listed))
        (Contains-append_cases notes (n ∷ []) p.note p.among),
  );
}

-- ---- what the table file has to hold

both_parts : (a b : Bool) → (a && b) ≡ true → (a ≡ true) × (b ≡ true)
both_parts true b is = (refl, is)
both_parts false b is = absurd (false≢true is)

both_true : (a b : Bool) → a ≡ true → b ≡ true → (a && b) ≡ true
both_true true b p q = q
both_true false b p q = absurd (false≢true p)

listed_in : (i : Interval) (n : EntryNote) (m : Mutation) (pair : CellKey × Cell) (b : Bool)
    → is_within i n ≡ b → Contains (if b then part_on i.table (cells_of m) else []) pair
    → (is_within i n ≡ true) × Contains (part_on i.table (cells_of m)) pair
listed_in i n m pair true is h = (is, h)
listed_in i n m pair false is h = absurd (nothing_there pair h)

put_as : (i : Interval) (n : EntryNote) (m : Mutation) (pair : CellKey × Cell)
    → is_within i n ≡ true
    → Contains (part_on i.table (cells_of m)) pair → Contains (cells_in i n m) pair
put_as i n m pair is h = subst
    (λ (b : Bool). Contains (if b then part_on i.table (cells_of m) else []) pair) (sym is) h

same_table : (a b : Table) → a.0 ≡ b.0 → a ≡ b
same_table a b same = λ j. record { 0 = same j }

module _ (i : Interval) (notes : List EntryNote) (h : Holding) (f : PutFile)
    (logged : h.logged ≡ notes) (file : IsFileWithin i f) where
  logged_cell : (pair : CellKey × Cell) → IsPutBy i notes pair → IsLoggedCell h f pair
  logged_cell pair p = let m = p.whole.mutation in
      let within = listed_in i p.note m pair (is_within i p.note) refl p.listed in
      let tests = both_parts (touches p.note.tables i.table.0)
      (nat_lt i.lower.0 p.note.end.0 && nat_le p.note.end.0 i.upper.0) within.0 in
      let ends = both_parts (nat_lt i.lower.0 p.note.end.0) (nat_le p.note.end.0 i.upper.0) tests.1
      in let here_is = (members_of_part i.table (cells_of m) pair).0 within.1 in record {
        note = p.note;
        among = subst (λ (l : List EntryNote). Contains l p.note) (sym logged) p.among;
        whole = p.whole;
        listed = here_is.0;
        of_table = ap (λ (t : Table). t.0) here_is.1 ∙ sym file.table_is;
        above = let low = ltb-true i.lower.0 p.note.end.0 ends.0 in let is = file.lower_is in
            omega arith;
        up_to = let high = leb-true p.note.end.0 i.upper.0 ends.1 in let is = file.upper_is in
            omega arith;
      }

  put_by : (pair : CellKey × Cell) → IsLoggedCell h f pair → IsPutBy i notes pair
  put_by pair c = let m = c.whole.mutation in
      let table = same_table pair.0.table i.table (c.of_table ∙ file.table_is) in
      let update = from_map (pair_of m.key) m.updates pair c.listed in
      let touching = (c.whole.tables i.table.0).1 (record {
        update = update.0;
        among = update.1;
        table = ap (λ (q : CellKey × Cell). q.0.table.0) update.2 ∙ ap (λ (t : Table). t.0) table;
      }) in
      let low : i.lower.0 < c.note.end.0 = (let a = c.above in let is = file.lower_is in omega
      arith)
      in
      let high : c.note.end.0 ≤ i.upper.0 =
      (let a = c.up_to in let is = file.upper_is in omega arith) in
      record {
        note = c.note;
        among = subst (λ (l : List EntryNote). Contains l c.note) logged c.among;
        whole = c.whole;
        listed = put_as i c.note m pair
            (both_true (touches c.note.tables i.table.0)
            (nat_lt i.lower.0 c.note.end.0 && nat_le c.note.end.0 i.upper.0) touching
            (both_true (nat_lt i.lower.0 c.note.end.0) (nat_le c.note.end.0 i.upper.0)
            (lt-ltb i.lower.0 c.note.end.0 low) (le-leb c.note.end.0 i.upper.0 high)))
            ((members_of_part i.table (cells_of m) pair).1 (c.listed, table));
      }

  -- so is the merge of all that was put
  pub filled_is : (cells : CellBatches) (rows : Pairs) → (F : IsFilled i notes cells)
      → IsMerge F.pairs rows → IsMergeOf (IsLoggedCell h f) rows
  filled_is cells rows F = of_same (Contains F.pairs) (IsLoggedCell h f) rows
      (λ pair. (
        λ there. logged_cell pair ((F.exact pair).0 there),
        λ c. (F.exact pair).1 (put_by pair c),
      ))
