-- A recovery puts the files of its tables one after another: their tables ascend, and each table
-- that has cells has one.
use Rattle.std.proofs.Common.{
  ◌≡◌,
  ℕ,
  suc,
  ◌+◌,
  List,
  [],
  ◌∷◌,
  ◌++◌,
  get_or,
  map,
  take,
  Option,
  Contains,
  refl,
  sym,
  ap,
  subst,
  ◌∙◌,
  inl,
  inr,
  arith,
}
use Rattle.std.specs.Prelude.{option_map}
use Rattle.std.specs.List.{AllPairs}
use Rattle.std.proofs.lemmas.Bool.{cases_lt}
use Rattle.std.proofs.lemmas.List.Elements.{
  Contains-append_cases,
  Contains-append_left,
  Contains-append_right,
  Contains-get_or,
}
use Rattle.std.proofs.lemmas.List.Kept.{AllPairs-cons}
use Rattle.clog_spec.specs.Names.{IsTableName}
use Rattle.clog_spec.specs.Sizes.{most_tables}
use Rattle.clog_base.specs.declared.cell.Cell.{Cell}
use Rattle.clog_base.specs.declared.cell.CellKey.{CellKey}
use Rattle.clog_base.specs.declared.cell.Table.{Table}
use Rattle.clog_base.specs.declared.position.Position.{Position}
use Rattle.clog_base.proofs.Members.{further, here, nothing_there, only_one}
use Rattle.clog_base.proofs.NameLaws.{one_table}
use Rattle.clog_cells.specs.Merge.{found_at, part_on}
use Rattle.clog_cells.proofs.Parts.{members_of_part}
use Rattle.clog_disk.specs.declared.change.Change.{Change}
use Rattle.clog_disk.specs.declared.change.Change.TheVariants as change
use Rattle.clog_disk.specs.Files.{Files, bytes_at}
use Rattle.clog_crash.specs.Folder.{IsHeld}
use Rattle.clog_crash.specs.Readings.{IsLoggedCellIn}
use Rattle.clog_segments.specs.Coming.{HaveRemoved}
use Rattle.clog_segments.specs.Filing.{
  HasPut,
  HasPutFrom,
  HaveAllLive,
  IsOfLowerTable,
  IsReady,
  IsRecoveryPut,
  publish,
}
use Rattle.clog_segments.specs.Named.{AreSegmentIds}
use Rattle.clog_segments.specs.Opened.{RecoversAll, RecoversFirst}
use Rattle.clog_segments.proofs.Changed.{
  ids_held,
  nothing_put,
  put_behind,
  then_all,
  then_some,
}
use Rattle.clog_segments.proofs.Ended.{row_of, table_there}

abbrev Changes : Type 0
Changes = Option (List Change)

abbrev Pairs : Type 0
Pairs = List (CellKey × Cell)

-- ---- lists in an order, one behind the other

module _ {A : Type 0} (R : A → A → Type 0) where
  pub pairs_none : AllPairs R []
  pairs_none i j d less within = absurd (omega (arith, within))

  pub pairs_one : (x : A) → AllPairs R (x ∷ [])
  pairs_one x i j d less within = absurd (omega (arith, less, within))

  ahead : (x : A) (xs : List A) → AllPairs R (x ∷ xs) → (y : A) → Contains xs y → R x y
  ahead x xs order y h =
      subst (λ k. R x k) h.2 (order 0 (suc h.0) y (omega arith) (let l = h.1 in omega arith))

  rest : (x : A) (xs : List A) → AllPairs R (x ∷ xs) → AllPairs R xs
  rest x xs order i j d l h = order (suc i) (suc j) d (omega arith) (omega arith)

  pub pairs_append : (xs ys : List A) → AllPairs R xs → AllPairs R ys
      → ((x y : A) → Contains xs x → Contains ys y → R x y) → AllPairs R (xs ++ ys)
  pairs_append [] ys a b apart = b
  pairs_append (x ∷ xs) ys a b apart =
      AllPairs-cons R x (xs ++ ys) (λ j d within.
      elim (Contains-append_cases xs ys (get_or (xs ++ ys) j d)
      (Contains-get_or (xs ++ ys) j d within)) [
        | inl early ↦ ahead x xs a (get_or (xs ++ ys) j d) early
        | inr late ↦ apart x (get_or (xs ++ ys) j d) (here x xs) late
      ])
      (pairs_append xs ys (rest x xs a) b (λ p q hp hq. apart p q (further x xs p hp) hq))

-- ---- of the tables from one to another

pub none_before : (first : Files) (cells : Pairs) (before : Changes)
    → HasPutFrom first cells 0 0 before before
none_before first cells before = record {
  puts = [];
  are = λ put there. absurd (nothing_there put there);
  ascend = pairs_none IsOfLowerTable;
  behind = nothing_put before;
  within = λ put there. absurd (nothing_there put there);
  each = λ pair there low high. absurd (omega (arith, high));
}

-- a table that has no cells
pub none_from : (first : Files) (cells : Pairs) (table : Table) (before : Changes)
    → part_on table cells ≡ [] → HasPutFrom first cells table.0 (table.0 + 1) before before
none_from first cells table before empty = record {
  puts = [];
  are = λ put there. absurd (nothing_there put there);
  ascend = pairs_none IsOfLowerTable;
  behind = nothing_put before;
  within = λ put there. absurd (nothing_there put there);
  each = λ pair there low high.
      let same : pair.0.table ≡ table =
      (let is : pair.0.table.0 ≡ table.0 = omega (arith, low, high) in
      λ i. record { 0 = is i }) in
      absurd (nothing_there pair (subst (λ (l : Pairs). Contains l pair) empty
      ((members_of_part table cells pair).1 (there, same))));
}

-- a table's file
pub one_from : (first : Files) (cells : Pairs) (table : Table) (sequence : ℕ)
    (before now : Changes) (name bytes : List ℕ) → IsTableName name table.0 sequence
    → IsRecoveryPut first name bytes
    → now ≡ option_map (λ changes. changes ++ change.Publish name bytes ∷ []) before
    → HasPutFrom first cells table.0 (table.0 + 1) before now
one_from first cells table sequence before now name bytes named is adds = record {
  puts = (name, bytes) ∷ [];
  are = λ put there.
      subst (λ (p : List ℕ × List ℕ). IsRecoveryPut first p.0 p.1)
      (only_one (name, bytes) put there) is;
  ascend = pairs_one IsOfLowerTable (name, bytes);
  behind = adds;
  within = λ put there other its.
      let same : table.0 ≡ other =
      (one_table name table.0 sequence other its.0 named
      (subst (λ (p : List ℕ × List ℕ). IsTableName p.0 other its.0)
      (sym (only_one (name, bytes) put there)) its.1)).0 in
      (omega (arith, same), omega (arith, same));
  each = λ pair there low high.
      let same : table.0 ≡ pair.0.table.0 = omega (arith, low, high) in (
        (name, bytes),
        here (name, bytes) [],
        (sequence, subst (λ (t : ℕ). IsTableName name t sequence) same named),
      );
}

-- the tables below it, and then it
pub more_from : (first : Files) (cells : Pairs) (n : ℕ) (before mid now : Changes)
    → HasPutFrom first cells 0 n before mid → HasPutFrom first cells n (n + 1) mid now
    → HasPutFrom first cells 0 (n + 1) before now
more_from first cells n before mid now one more = record {
  puts = one.puts ++ more.puts;
  are = λ put there. elim (Contains-append_cases one.puts more.puts put there) [
    | inl early ↦ one.are put early
    | inr late ↦ more.are put late
  ];
  ascend = pairs_append IsOfLowerTable one.puts more.puts one.ascend more.ascend
      (λ a b early late low high is its.
      let under = (one.within a early low is).1 in
      let over = (more.within b late high its).0 in
      omega (arith, under, over));
  behind = more.behind
      ∙ ap (option_map (λ (changes : List Change). changes ++ map publish more.puts)) one.behind
      ∙ put_behind before one.puts more.puts;
  within = λ put there table is. elim (Contains-append_cases one.puts more.puts put there) [
    | inl early ↦ let at = one.within put early table is in
        (omega arith, let under = at.1 in omega (arith, under))
    | inr late ↦ let at = more.within put late table is in
        (omega arith, let under = at.1 in omega (arith, under))
  ];
  each = λ pair there low high. elim (cases_lt pair.0.table.0 n) [
    | inl less ↦
        let has = one.each pair there low (omega (arith, less)) in
        (has.0, Contains-append_left one.puts more.puts has.0 has.1, has.2)
    | inr up ↦
        let has = more.each pair there (omega (arith, up)) high in
        (has.0, Contains-append_right one.puts more.puts has.0 has.1, has.2)
  ];
}

-- ---- all of them

abbrev pub has_put : (first : Files) (cells : Pairs) (low high : ℕ) (before now : Changes)
    → HasPutFrom first cells low high before now → HasPut first before now
has_put first cells low high before now has = record {
  puts = has.puts;
  are = has.are;
  ascend = has.ascend;
  behind = has.behind;
}

pub has_put_on : (first : Files) (cells : Pairs) (low high : ℕ) (before mid now : Changes)
    → HasPutFrom first cells low high before mid → now ≡ mid → HasPut first before now
has_put_on first cells low high before mid now has same =
    subst (HasPut first before) (sym same) (has_put first cells low high before mid has)

pub all_live : (first : Files) (names : List (List ℕ)) (cells : Pairs) (top : Position)
    → IsReady first names cells top → (before now : Changes)
    (has : HasPutFrom first cells 0 most_tables before now) → HaveAllLive first has.puts
all_live first names cells top ready before now has pair c =
    let row = row_of (IsLoggedCellIn (bytes_at first)) cells pair.0 pair.1
    (found_at cells pair.0) refl (ready.live.newest pair.0) c in
    has.each (pair.0, row.0) row.1 (omega arith) (table_there (bytes_at first) pair c)

-- they have come, and then segments go
module _ {first : Files} {names : List (List ℕ)} {cells : Pairs} {top : Position}
    {before mid : Changes} {ids : List ℕ} (ready : IsReady first names cells top)
    (are : AreSegmentIds (Contains names) ids)
    (has : HasPutFrom first cells 0 most_tables before mid) where
  held : AreSegmentIds (IsHeld first) ids
  held = ids_held first names ready.lists ids are

  pub then_gone : {now : Changes} → HaveRemoved ids mid now → RecoversAll first before now
  then_gone {now} =
      then_all first before mid now ids held (has_put first cells 0 most_tables before mid has)
      (all_live first names cells top ready before mid has)

  pub then_some_gone : (n : ℕ) {now : Changes} → HaveRemoved (take n ids) mid now
      → RecoversFirst first before now
  then_some_gone n {now} =
      then_some first before mid now ids n held (has_put first cells 0 most_tables before mid has)
      (all_live first names cells top ready before mid has)
