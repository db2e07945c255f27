-- A folder that holds segment 1000 alone.
use Rattle.std.proofs.Common.{◌≡◌, ℕ, inl, inr, List, Some, sym, ◌∙◌, subst, arith}
use Rattle.std.specs.FinMap as finmap
use Rattle.std.specs.FinMap.{get-empty}
use Rattle.std.specs.Cmp.Lexicographic.{slice_cmp}
use Rattle.std.specs.Ordering.{nat_cmp}
use Rattle.clog_spec.specs.Names.{segment_name_of, IsSegmentName}
use Rattle.clog_base.proofs.NameLaws.{one_segment as one_name, segment_is_no_other}
use Rattle.clog_disk.specs.Files.{Files, no_files}
use Rattle.clog_crash.specs.Damage.{ComesBefore}
use Rattle.clog_crash.specs.Folder.{AreGoodTables, IsHeld, IsNameOf, IsReadFrom, Place, TableRead}
use Rattle.clog_crash.specs.Restore.{IsGoodSegment, IsLastId, IsUndamaged}
use Rattle.clog_crash.proofs.OneMore.{new_or_old, some_is, bytes_of}
use Rattle.clog_crash.proofs.changes.Names.{is_named}
use Rattle.std.proofs.lemmas.Option.{none-some}

abbrev pub this : List ℕ
this = segment_name_of 6 1000

abbrev pub alone : List ℕ → Files
alone segment = finmap.insert no_files this segment

pub this_named : IsSegmentName this 6 1000
this_named = is_named 1000 (omega arith)

pub this_is : (name : List ℕ) (version id : ℕ) → IsSegmentName name version id → name ≡ this
    → (version ≡ 6) × (id ≡ 1000)
this_is name version id is same =
    one_name this version id 6 1000
    (subst (λ (n : List ℕ). IsSegmentName n version id) same is) this_named

module _ (segment : List ℕ) where
  pub only_this : (name bytes : List ℕ) → finmap.get (alone segment) name ≡ Some bytes
      → (name ≡ this) × (segment ≡ bytes)
  only_this name bytes there = elim (new_or_old no_files this segment name (Some bytes) there) [
    | inl new ↦ (new.0, some_is segment bytes new.1)
    | inr old ↦ absurd (none-some bytes (sym (get-empty (slice_cmp nat_cmp) name) ∙ old))
  ]

  pub held_is_this : (name : List ℕ) → IsHeld (alone segment) name → name ≡ this
  held_is_this name held =
      let there = bytes_of (finmap.get (alone segment) name) held in
      (only_this name there.0 there.1).0

  no_table : (name : List ℕ) (place : Place) → IsNameOf place name → name ≡ this → ⊥
  no_table name place is same =
      (segment_is_no_other this 6 1000 this_named).1 place.0.0 place.1
      (subst (λ (n : List ℕ). IsNameOf place n) same is)

  pub no_tables : AreGoodTables (alone segment)
  no_tables place name is held = absurd (no_table name place is (held_is_this name held))

  pub no_read : (read : TableRead) → IsReadFrom (alone segment) read → ⊥
  no_read read r =
      no_table r.name (read.file.table, read.sequence) r.named
      (only_this r.name r.good.bytes r.good.there).0

  pub last : IsLastId (alone segment) 1000
  last name version other is held =
      omega (arith, (this_is name version other is (held_is_this name held)).1)

  pub none_first : (name : List ℕ) (version id : ℕ) → IsSegmentName name version id
      → IsHeld (alone segment) name → ComesBefore version id 6 1000 → ⊥
  none_first name version id is held before =
      let one = this_is name version id is (held_is_this name held) in
      elim before [
        | inl less ↦ omega (arith, less, one.1)
        | inr level ↦ omega (arith, level.1, one.0)
      ]

  pub undamaged_where_good : IsGoodSegment (alone segment) this 1000 → IsUndamaged (alone segment)
  undamaged_where_good good = record {
    tables = no_tables;
    segments = λ name version id is held.
        let same = held_is_this name held in
        let one = this_is name version id is same in (
          one.0,
          subst (λ (n : List ℕ). IsGoodSegment (alone segment) n id) (sym same)
              (subst (λ (i : ℕ). IsGoodSegment (alone segment) this i) (sym one.1) good),
        );
  }
