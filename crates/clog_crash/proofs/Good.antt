-- What is so in a folder that is not damaged, and at the ends of an interval.
use Rattle.std.proofs.Common.{
  ◌≡◌,
  ℕ,
  List,
  Option,
  Some,
  None,
  inl,
  inr,
  refl,
  sym,
  ap,
  subst,
  ◌∙◌,
  arith,
}
use Rattle.std.specs.Prelude.{Contains, is_some}
use Rattle.std.specs.FinMap as finmap
use Rattle.clog_spec.specs.Names.{IsSegmentName}
use Rattle.clog_base.specs.declared.cell.Cell.{Cell}
use Rattle.clog_base.specs.declared.cell.CellKey.{CellKey}
use Rattle.clog_base.specs.declared.position.Position.{Position}
use Rattle.clog_base.specs.Positions.{IsBelow}
use Rattle.clog_cells.specs.Merge.{found_at, IsNewestAmong}
use Rattle.clog_disk.specs.Files.{Files}
use Rattle.clog_mutation.specs.declared.mutation.Mutation.{Mutation}
use Rattle.clog_mutation.specs.Stored.{IsPayload}
use Rattle.clog_scan.specs.declared.answer.End.{End}
use Rattle.clog_scan.specs.Laws.{IsFile, AreOne}
use Rattle.clog_scan.specs.Segment.{Entry, IsSegment}
use Rattle.clog_scan.proofs.Theorems.{one_segment}
use Rattle.clog_table.specs.declared.table_file.TableFile.{TableFile}
use Rattle.clog_table.specs.Refusals.{IsFileOf}
use Rattle.clog_crash.specs.Folder.{IsNameOf, Place}
use Rattle.clog_crash.specs.Laws.{HasNewest}
use Rattle.clog_crash.specs.Restore.{
  IsGoodSegment,
  IsInInterval,
  IsRestored,
  IsUndamaged,
  MayEnd,
  Restores,
}
use Rattle.clog_crash.proofs.OneMore.{some_is}

-- ---- the ends of an interval

pub not_below_itself : (file : TableFile) → IsInInterval file file.lower → ⊥
not_below_itself file within = elim within.above [
  | inl less ↦ omega (arith, less)
  | inr level ↦ omega (arith, level.1)
]

pub upper_is_inside : (file : TableFile) → IsBelow file.lower file.upper
    → IsInInterval file file.upper
upper_is_inside file below = record { above = below; up_to = inr (refl, omega arith) }

pub behind_is_outside : (file : TableFile) (at : Position) → IsBelow file.upper at
    → IsInInterval file at → ⊥
behind_is_outside file at behind within = elim within.up_to [
  | inl less ↦ elim behind [
    | inl more ↦ omega (arith, less, more)
    | inr level ↦ omega (arith, less, level.0)
  ]
  | inr same ↦ elim behind [
    | inl more ↦ omega (arith, same.0, more)
    | inr level ↦ omega (arith, same.1, level.1)
  ]
]

pub empty_holds_none : (file : TableFile) (at : Position) → file.lower ≡ file.upper
    → IsInInterval file at → ⊥
empty_holds_none file at same within =
    behind_is_outside file at (subst (λ (p : Position). IsBelow p at) same within.above) within

-- ---- rows

newest_at : (files : Files) (rows : List (CellKey × Cell)) (key : CellKey) (cell : Cell)
    (o : Option Cell) → found_at rows key ≡ o → IsNewestAmong (Restores files) key o
    → Restores files (key, cell) → HasNewest rows key cell
newest_at files rows key cell None is newest restores = absurd (newest cell restores)
newest_at files rows key cell (Some found) is newest restores = record {
  found = found;
  there = is;
  newest = newest.greatest cell restores;
}

pub counts : (files : Files) (rows : List (CellKey × Cell)) (key : CellKey) (cell : Cell)
    → IsRestored files rows → Restores files (key, cell) → HasNewest rows key cell
counts files rows key cell restored restores =
    newest_at files rows key cell (found_at rows key) refl (restored.newest key) restores

pub counted : (files : Files) (rows : List (CellKey × Cell)) (key : CellKey) (cell : Cell)
    → IsRestored files rows → found_at rows key ≡ Some cell → Restores files (key, cell)
counted files rows key cell restored is =
    (subst (λ (o : Option Cell). IsNewestAmong (Restores files) key o) is
    (restored.newest key)).listed

-- ---- segments

-- a good segment holds one list of entries, and has one end
one_end : (files : Files) (name bytes : List ℕ) (id : ℕ) (entries : List Entry) (end : End)
    → (good : IsGoodSegment files name id) → IsSegmentName name 6 id
    → finmap.get files name ≡ Some bytes → IsFile bytes → IsSegment bytes id entries end
    → AreOne good.entries good.end entries end
one_end files name bytes id entries end good named there file holds =
    let same : good.holds.bytes ≡ bytes =
    some_is good.holds.bytes bytes (sym good.holds.there ∙ there) in
    one_segment bytes id good.entries good.end entries end file
    (omega (arith, named.id_fits))
    (subst (λ (b : List ℕ). IsSegment b id good.entries good.end) same good.holds.holds) holds

pub may_end_so : (files : Files) (name bytes : List ℕ) (id : ℕ) (entries : List Entry) (end : End)
    → IsUndamaged files → IsSegmentName name 6 id → finmap.get files name ≡ Some bytes
    → IsFile bytes → IsSegment bytes id entries end → MayEnd files id end
may_end_so files name bytes id entries end undamaged named there file holds =
    let good = (undamaged.segments name 6 id named (ap is_some there)).1 in
    let one = one_end files name bytes id entries end good named there file holds in
    subst (λ (e : End). MayEnd files id e) one.ends_are good.may_end

pub payload_is_said : (files : Files) (name bytes : List ℕ) (id : ℕ) (entries : List Entry)
    (end : End) (entry : Entry) → IsUndamaged files → IsSegmentName name 6 id
    → finmap.get files name ≡ Some bytes → IsFile bytes → IsSegment bytes id entries end
    → Contains entries entry → (mutation : Mutation) × IsPayload entry.payload mutation
payload_is_said files name bytes id entries end entry undamaged named there file holds listed =
    let good = (undamaged.segments name 6 id named (ap is_some there)).1 in
    let one = one_end files name bytes id entries end good named there file holds in
    good.payloads entry
    (subst (λ (es : List Entry). Contains es entry) (sym one.entries_are) listed)

-- ---- table files

pub table_is_good : (files : Files) (place : Place) (name bytes : List ℕ) → IsUndamaged files
    → IsNameOf place name → finmap.get files name ≡ Some bytes
    → (file : TableFile) × IsFileOf place.0 bytes file
table_is_good files place name bytes undamaged named there =
    let good = undamaged.tables place name named (ap is_some there) in
    let same : good.1.bytes ≡ bytes = some_is good.1.bytes bytes (sym good.1.there ∙ there) in
    (good.0, subst (λ (b : List ℕ). IsFileOf place.0 b good.0) same good.1.spelled)
