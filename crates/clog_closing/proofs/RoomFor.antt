-- A run leaves sequences within their limit, where there was room for its table files.
use Rattle.std.proofs.Common.{
  ◌≡◌,
  ℕ,
  ◌+◌,
  ◌<◌,
  ◌≤◌,
  inl,
  inr,
  zero,
  suc,
  Bool,
  true,
  false,
  List,
  [],
  ◌∷◌,
  length,
  refl,
  ap,
  arith,
}
use Rattle.std.specs.List.{filter}
use Rattle.std.specs.FinMap as finmap
use Rattle.std.proofs.lemmas.Bool.{cases_lt}
use Rattle.clog_spec.specs.Names.{IsTableName}
use Rattle.clog_base.specs.declared.cell.Table.{Table}
use Rattle.clog_base.proofs.NameLaws.{one_table}
use Rattle.clog_disk.specs.Files.{Files}
use Rattle.clog_table.specs.declared.table_file.TableFile.{TableFile}
use Rattle.clog_crash.specs.Folder.{HoldsName, IsBase, IsHeld}
use Rattle.clog_crash.proofs.OneMore.{bytes_of}
use Rattle.clog_folder.proofs.Listed.{held_of}
use Rattle.clog_segments.specs.Filing.{AreRecoveryPuts}
use Rattle.clog_segments.specs.Named.{IsLateTable, sequence_limit}
use Rattle.clog_segments.specs.Opened.{HasRoomFor}
use Rattle.clog_segments.proofs.FolderReads.{absent_or_held}
use Rattle.clog_applied.specs.Filed.{is_of}
use Rattle.clog_applied.proofs.Lists.{kept_one, left_one}
use Rattle.clog_closing.specs.NextNames.{HaveNextNames, HoldsSequence}

-- of numbers up to a bound it is absurd that none is next
not_none : (P : ℕ → Type 0) (most : ℕ) → ((n : ℕ) → P n → n ≤ most)
    → ((next : ℕ) → IsBase P 1 next → ⊥) → ⊥
not_none P zero low none = none 1 (record {
  moment = omega arith;
  above = λ n p. let up = low n p in omega (arith, up);
  one = inl refl;
})
not_none P (suc most) low none =
    not_none P most (λ n p. elim (cases_lt most n) [
      | inl high ↦ absurd (none (n + 1) (record {
        moment = omega arith;
        above = λ k q. let up = low k q in omega (arith, up, high);
        one = inr (n, p, refl);
      }))
      | inr few ↦ few
    ]) none

few_kept : {A : Type 0} (p : A → Bool) (xs : List A) → length (filter p xs) ≤ length xs
few_kept p [] = omega arith
few_kept p (x ∷ xs) = by_case (p x) refl (few_kept p xs)
  where
    by_case : (test : Bool) → p x ≡ test → length (filter p xs) ≤ length xs
        → length (filter p (x ∷ xs)) ≤ length (x ∷ xs)
    by_case true e more = let is = ap length (kept_one p x xs e) in omega (arith, is, more)
    by_case false e more = let is = ap length (left_one p x xs e) in omega (arith, is, more)

module _ (before opened after : Files) (files : List TableFile)
    (came : AreRecoveryPuts before opened) (names : HaveNextNames opened after files)
    (room : HasRoomFor before (1 + length files)) where
  -- a recovery has put one file a table at most
  opened_low : (name : List ℕ) (table sequence : ℕ) → IsTableName name table sequence
      → IsHeld opened name → sequence + length files ≤ sequence_limit
  opened_low name table sequence named held =
      elim (absent_or_held (finmap.get before name)) [
        | inr there ↦ let low = room.each name table sequence named there in omega (arith, low)
        | inl none ↦
            let there = bytes_of (finmap.get opened name) held in
            let put = came name there.0 there.1 none in
            let same : sequence ≡ put.sequence =
            (one_table name table sequence put.file.table.0 put.sequence named put.named).1 in
            elim put.next.one [
              | inl least ↦ let one = room.least in omega (arith, same, least, one)
              | inr next ↦
                  let one = next.1 in
                  let low = room.each one.0 put.file.table.0 next.0 one.2
                  (held_of before (finmap.keys before) refl one.0 one.1) in
                  let is = next.2 in
                  omega (arith, same, is, low)
            ]
      ]

  -- no sequence is above its limit
  within : (table : Table) (n : ℕ) → HoldsSequence after table n → sequence_limit < n → ⊥
  within table n has late =
      not_none (HoldsSequence opened table) sequence_limit
      (λ k old. let low = opened_low old.0 table.0 k old.2 old.1 in omega (arith, low))
      (λ next is. elim ((names table next n is).0 has) [
        | inl old ↦
            let low = opened_low old.0 table.0 n old.2 old.1 in omega (arith, low, late)
        | inr inside ↦
            let high = inside.1 in
            let few = few_kept (is_of table) files in
            elim is.one [
              | inl least ↦ let one = room.least in omega (arith, least, high, few, one, late)
              | inr last ↦
                  let one = last.1 in
                  let low = opened_low one.0 table.0 last.0 one.2 one.1 in
                  let at = last.2 in
                  omega (arith, at, low, high, few, late)
            ]
      ])

  pub none_late : ¬ HoldsName after IsLateTable
  none_late late =
      within (record { 0 = late.2.0 }) late.2.1.0 (late.0, late.1, late.2.1.1) late.2.1.2
