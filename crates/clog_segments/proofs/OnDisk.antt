-- Of a segment that a keeper may drop each cell lies in a table file of the folder.
use Rattle.std.proofs.Common.{◌≡◌, ℕ, ◌+◌, ◌<◌, ◌≤◌, true, sym, ap, subst, ◌∙◌, inl, inr, arith}
use Rattle.std.specs.Prelude.{◌&&◌, Contains}
use Rattle.std.proofs.lemmas.Bool.{cases_lt, eq-eqb}
use Rattle.std.proofs.lemmas.List.Elements.{Contains-append_cases}
use Rattle.clog_spec.proofs.Payloads.{same_payload}
use Rattle.clog_base.specs.declared.cell.Cell.{Cell}
use Rattle.clog_base.specs.declared.cell.CellKey.{CellKey}
use Rattle.clog_base.specs.declared.cell.Table.{Table}
use Rattle.clog_base.specs.declared.position.Position.{Position}
use Rattle.clog_base.specs.Positions.{IsBelow, IsUpTo, ordinal_of, position_of}
use Rattle.clog_base.proofs.Members.{from_map}
use Rattle.clog_mutation.specs.declared.mutation.Mutation.{Mutation}
use Rattle.clog_cells.proofs.Merging.{of_same}
use Rattle.clog_mutation.specs.Payload.{cells_of, pair_of, payload_of}
use Rattle.clog_mutation.proofs.Decoding.{one_mutation}
use Rattle.clog_scan.specs.Segment.{Entry}
use Rattle.clog_crash.specs.Changes.{AreCovered, IsLiveInside, IsTrueOf}
use Rattle.clog_crash.specs.Readings.{IsCellOf, IsSkippedIn, Reading}
use Rattle.clog_crash.proofs.changes.Covering.{merges_are_true}
use Rattle.path_core.specs.declared.note.EntryNote.{EntryNote}
use Rattle.path_core.specs.Droppable.{is_of}
use Rattle.path_core.specs.Keeper.{
  Holding,
  IsDue,
  IsFiledIn,
  IsLoggedCell,
  MayPublish,
  PutFile,
  upper_from,
}
use Rattle.path_core.specs.Parts.{touches}
use Rattle.path_core.specs.Whole.{IsWhole, Updates}
use Rattle.clog_segments.specs.OnDisk.{
  IsAllOnDisk,
  IsEntryOf,
  IsOnDisk,
  IsOnIt,
  file_on,
}

-- ---- places

below_from : (base a b : ℕ) → a < b → IsBelow (position_of base a) (position_of base b)
below_from base a b low = elim (cases_lt (ordinal_of a) (ordinal_of b)) [
  | inl lower ↦ inl (omega (arith, lower))
  | inr high ↦ inr (omega (arith, low, high), omega (arith, low, high))
]

up_to_from : (base a b : ℕ) → a ≤ b → IsUpTo (position_of base a) (position_of base b)
up_to_from base a b low = elim (cases_lt (ordinal_of a) (ordinal_of b)) [
  | inl lower ↦ inl (omega (arith, lower))
  | inr high ↦ inr (omega (arith, low, high), omega (arith, low, high))
]

-- ---- an entry's note touches the tables of its cells

module _ (base id : ℕ) (entry : Entry) (n : EntryNote) (is : IsEntryOf base id entry n) where
  touches_cell : (pair : CellKey × Cell) → IsCellOf entry pair
      → touches n.tables pair.0.table.0 ≡ true
  touches_cell pair c =
      let same : c.mutation ≡ is.whole.mutation =
      one_mutation c.mutation is.whole.mutation c.said.stored is.said.stored
      (sym c.said.spelled ∙ is.said.spelled) in
      let found = from_map (pair_of c.mutation.key) c.mutation.updates pair c.listed in
      (is.whole.tables pair.0.table.0).1
      (subst (λ (m : Mutation). Updates m pair.0.table.0) same (record {
        update = found.0;
        among = found.1;
        table = ap (λ (p : CellKey × Cell). p.0.table.0) found.2;
      }))

pub due_is_covered : (h : Holding) (r : Reading) (closed o : ℕ) → IsOnDisk h r → IsDue h closed o
    → AreCovered r (h.base + o)
due_is_covered h r closed o on_disk due entry l pair cell =
    let id = h.base + o in
    let noted = on_disk.entries id entry l in
    let n = noted.0 in
    let is = noted.2 in
    let here : ordinal_of n.start.0 ≡ o = omega (arith, is.segment) in
    let of : is_of o pair.0.table.0 n ≡ true =
    ap (λ (b : _). b && touches n.tables pair.0.table.0) (eq-eqb (ordinal_of n.start.0) o here)
    ∙ touches_cell h.base id entry n is pair cell in
    let among : Contains h.logged n = elim (Contains-append_cases h.logged h.kept n noted.1) [
      | inl logged ↦ logged
      | inr kept ↦ absurd (due.1.none_kept n kept here)
    ] in
    let filed = due.1.filed pair.0.table.0 n n among among of of n.end.0 (omega arith)
    (omega arith) in
    let on = on_disk.files filed.file filed.among in
    record {
      file = on.0;
      there = on.1;
      same_table = ap (λ (k : ℕ). record { 0 = k }) (on.2.table ∙ filed.of_table);
      inside = record {
        above = subst (IsBelow on.0.lower) is.place
            (subst (λ (p : Position). IsBelow p (position_of h.base n.end.0)) (sym on.2.lower)
            (below_from h.base filed.file.lower n.end.0 filed.above));
        up_to = subst (λ (p : Position). IsUpTo p on.0.upper) is.place
            (subst (IsUpTo (position_of h.base n.end.0)) (sym on.2.upper)
            (up_to_from h.base n.end.0 filed.file.upper filed.up_to));
      };
    }

-- ---- a file that may be put is true

pub below_key_from : (base a b : ℕ) → IsBelow (position_of base a) (position_of base b) → a < b
below_key_from base a b below = elim below [
  | inl lower ↦ omega (arith, lower)
  | inr same ↦ omega (arith, same.0, same.1)
]

pub up_to_key_from : (base a b : ℕ) → IsUpTo (position_of base a) (position_of base b) → a ≤ b
up_to_key_from base a b up_to = elim up_to [
  | inl lower ↦ omega (arith, lower)
  | inr same ↦ omega (arith, same.0, same.1)
]

module _ (h : Holding) (f : PutFile) (r : Reading) (all : IsAllOnDisk h r)
    (may : MayPublish h f) where
  one_whole : (n : EntryNote) → (w v : IsWhole n) → w.mutation ≡ v.mutation
  one_whole n w v =
      one_mutation w.mutation v.mutation w.stored v.stored
      (same_payload (payload_of w.mutation) (payload_of v.mutation) (sym w.bytes ∙ v.bytes))

  -- files of before end where this one begins
  not_filed : (key : ℕ) → f.lower < key → IsFiledIn h.files f.table key → ⊥
  not_filed key low filed =
      let reach = all.tiled filed.file filed.among in
      let last : filed.file.upper ≤ upper_from f.table 0 h.files =
      subst (λ (t : ℕ). filed.file.upper ≤ upper_from t 0 h.files) filed.of_table reach in
      omega (arith, low, filed.up_to, last, may.goes_on)

  inside_logged : (pair : CellKey × Cell) → IsLiveInside r (file_on h.base f) pair
      → IsLoggedCell h f pair
  inside_logged pair live =
      let noted = all.on_disk.entries live.cell.id live.cell.entry live.cell.logged in
      let is = noted.2 in
      let c = live.cell.cell in
      let same : c.mutation ≡ is.whole.mutation =
      one_mutation c.mutation is.whole.mutation c.said.stored is.said.stored
      (sym c.said.spelled ∙ is.said.spelled) in
      let up_to : noted.0.end.0 ≤ f.upper =
      up_to_key_from h.base noted.0.end.0 f.upper
      (subst (λ (p : Position). IsUpTo p (position_of h.base f.upper)) (sym is.place)
      live.inside.up_to) in
      record {
        note = noted.0;
        among = elim (Contains-append_cases h.logged h.kept noted.0 noted.1) [
          | inl logged ↦ logged
          | inr kept ↦
              let beyond = all.kept_beyond noted.0 kept in
              absurd (omega (arith, beyond, up_to, may.lasting))
        ];
        whole = is.whole;
        listed = subst (λ (m : Mutation). Contains (cells_of m) pair) same c.listed;
        of_table = sym (ap (λ (t : Table). t.0) live.same_table);
        above = below_key_from h.base f.lower noted.0.end.0
            (subst (IsBelow (position_of h.base f.lower)) (sym is.place) live.inside.above);
        up_to = up_to;
      }

  filed_alone : (pair : CellKey × Cell) (c : IsLoggedCell h f pair)
      → IsFiledIn h.files pair.0.table.0 c.note.end.0 → ⊥
  filed_alone pair c filed =
      not_filed c.note.end.0 c.above
      (subst (λ (t : ℕ). IsFiledIn h.files t c.note.end.0) c.of_table filed)

  touches_pair : (pair : CellKey × Cell) (c : IsLoggedCell h f pair)
      → touches c.note.tables pair.0.table.0 ≡ true
  touches_pair pair c =
      let found = from_map (pair_of c.whole.mutation.key) c.whole.mutation.updates pair c.listed in
      (c.whole.tables pair.0.table.0).1 (record {
        update = found.0;
        among = found.1;
        table = ap (λ (p : CellKey × Cell). p.0.table.0) found.2;
      })

  on_it_inside : (pair : CellKey × Cell) (c : IsLoggedCell h f pair) → IsOnIt h r c.note
      → IsLiveInside r (file_on h.base f) pair
  on_it_inside pair c on =
      let is = on.2 in
      let id = h.base + ordinal_of c.note.start.0 in
      record {
        cell = record {
          id = id;
          entry = on.0;
          logged = on.1;
          cell = record {
            mutation = is.whole.mutation;
            said = is.said;
            listed = subst (λ (m : Mutation). Contains (cells_of m) pair)
                (one_whole c.note c.whole is.whole) c.listed;
          };
          kept = λ skipped. filed_alone pair c (all.skips pair.0.table c.note.end.0
              (subst (IsSkippedIn r pair.0.table) (sym is.place) skipped));
        };
        same_table = ap (λ (k : ℕ). record { 0 = k }) (sym c.of_table);
        inside = record {
          above = subst (IsBelow (position_of h.base f.lower)) is.place
              (below_from h.base f.lower c.note.end.0 c.above);
          up_to = subst (λ (p : Position). IsUpTo p (position_of h.base f.upper)) is.place
              (up_to_from h.base c.note.end.0 f.upper c.up_to);
        };
      }

  logged_inside : (pair : CellKey × Cell) → IsLoggedCell h f pair
      → IsLiveInside r (file_on h.base f) pair
  logged_inside pair c = elim (all.logged c.note c.among) [
    | inl on ↦ on_it_inside pair c on
    | inr filed ↦ absurd (filed_alone pair c (filed pair.0.table.0 (touches_pair pair c)))
  ]

  pub published_is_true : IsTrueOf r (file_on h.base f)
  published_is_true =
      merges_are_true r (file_on h.base f)
      (of_same (IsLoggedCell h f) (IsLiveInside r (file_on h.base f)) f.cells
      (λ pair. (logged_inside pair, inside_logged pair)) may.merged)
