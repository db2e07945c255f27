-- A folder has one first bad table file at most, and none where all are good.
use Rattle.std.proofs.Common.{◌≡◌, ◌⊎◌, ℕ, ◌<◌, inl, inr, List, Some, sym, ◌∙◌, ap, subst, arith}
use Rattle.std.specs.Prelude.{is_some}
use Rattle.std.specs.FinMap as finmap
use Rattle.std.specs.Cmp.{nat_cmp_is}
use Rattle.std.specs.Ordering.{nat_cmp, ordering_then}
use Rattle.std.specs.declared.cmp.Ordering.{Ordering}
use Rattle.std.specs.declared.cmp.Ordering.TheVariants.{Equal, Less}
use Rattle.std.proofs.lemmas.Bool.{cases_lt}
use Rattle.clog_disk.specs.Files.{Files}
use Rattle.clog_table.specs.declared.fault.TableFault.{TableFault}
use Rattle.clog_table.specs.declared.table_file.TableFile.{TableFile}
use Rattle.clog_table.specs.Refusals.{IsFileOf, Refuses}
use Rattle.clog_table.proofs.Again.{not_refused}
use Rattle.clog_table.proofs.OneFault.{one_refusal}
use Rattle.clog_crash.specs.Folder.{
  AreGoodTables,
  IsFirstBad,
  IsGoodTable,
  IsNameOf,
  Place,
  place_cmp,
}
use Rattle.clog_crash.proofs.OneMore.{some_is}

-- ---- places in order

-- a place before another: by table, then by sequence
abbrev IsBefore : Place → Place → Type 0
IsBefore a b = (a.0.0 < b.0.0) ⊎ ((a.0.0 ≡ b.0.0) × (a.1 < b.1))

before_is_less : (a b : Place) → IsBefore a b → place_cmp a b ≡ Less
before_is_less a b (inl less) =
    ap (λ (o : Ordering). ordering_then o (nat_cmp a.1 b.1))
    (sym (nat_cmp_is a.0.0 b.0.0 Less less))
before_is_less a b (inr level) =
    ap (λ (o : Ordering). ordering_then o (nat_cmp a.1 b.1))
    (sym (nat_cmp_is a.0.0 b.0.0 Equal level.0))
    ∙ sym (nat_cmp_is a.1 b.1 Less level.1)

-- places are in order, or one
in_order : (a b : Place) → (IsBefore a b ⊎ IsBefore b a) ⊎ (a ≡ b)
in_order a b = elim (cases_lt a.0.0 b.0.0) [
  | inl less ↦ inl (inl (inl less))
  | inr not ↦ elim (cases_lt b.0.0 a.0.0) [
    | inl more ↦ inl (inr (inl more))
    | inr not' ↦
        let tables : a.0.0 ≡ b.0.0 = omega (arith, not, not') in
        elim (cases_lt a.1 b.1) [
          | inl less ↦ inl (inl (inr (tables, less)))
          | inr past ↦ elim (cases_lt b.1 a.1) [
            | inl more ↦ inl (inr (inr (sym tables, more)))
            | inr past' ↦
                let sequences : a.1 ≡ b.1 = omega (arith, past, past') in
                inr (λ i. (record { 0 = tables i }, sequences i))
          ]
        ]
  ]
]

-- ---- bad files

-- a good file is not refused but for want of memory
good_is_not_bad : (files : Files) (place : Place) (name bytes : List ℕ) (file : TableFile)
    (fault : TableFault) → IsGoodTable files place name file
    → finmap.get files name ≡ Some bytes → Refuses place.0 bytes fault
    → IsFirstBad files name fault → ⊥
good_is_not_bad files place name bytes file fault good there refused d =
    let same : good.bytes ≡ bytes = some_is good.bytes bytes (sym good.there ∙ there) in
    d.known (not_refused place.0 bytes file
    (subst (λ (b : List ℕ). IsFileOf place.0 b file) same good.spelled) fault refused)

pub good_has_none : (files : Files) (name : List ℕ) (fault : TableFault) → AreGoodTables files
    → IsFirstBad files name fault → ⊥
good_has_none files name fault tables d =
    let good = tables d.place name d.named (ap is_some d.there) in
    good_is_not_bad files d.place name d.bytes good.0 fault good.1 d.there d.refused d

none_before : (files : Files) (name name' : List ℕ) (fault fault' : TableFault)
    → (d : IsFirstBad files name fault) → (d' : IsFirstBad files name' fault')
    → IsBefore d.place d'.place → ⊥
none_before files name name' fault fault' d d' before =
    let good = d'.first d.place name d.named (ap is_some d.there)
    (before_is_less d.place d'.place before) in
    good_is_not_bad files d.place name d.bytes good.0 fault good.1 d.there d.refused d

pub first_bad_is_one : (files : Files) (name name' : List ℕ) (fault fault' : TableFault)
    → IsFirstBad files name fault → IsFirstBad files name' fault'
    → (name ≡ name') × (fault ≡ fault')
first_bad_is_one files name name' fault fault' d d' = elim (in_order d.place d'.place) [
  | inl apart ↦ elim apart [
    | inl before ↦ absurd (none_before files name name' fault fault' d d' before)
    | inr behind ↦ absurd (none_before files name' name fault' fault d' d behind)
  ]
  | inr same ↦
      let named = subst (λ (p : Place). IsNameOf p name) same d.named in
      let names : name ≡ name' = named.form ∙ sym d'.named.form in
      let bytes : d.bytes ≡ d'.bytes =
      some_is d.bytes d'.bytes (sym d.there ∙ ap (finmap.get files) names ∙ d'.there) in
      let refused : Refuses d'.place.0 d'.bytes fault =
      subst (λ (p : Place). Refuses p.0 d'.bytes fault) same
      (subst (λ (b : List ℕ). Refuses d.place.0 b fault) bytes d.refused) in
      (names, one_refusal d'.place.0 d'.bytes fault fault' refused d'.refused d.known d'.known)
]
