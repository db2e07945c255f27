-- The names of a store's table files are the next ones of their tables.
use Rattle.std.proofs.Common.{
  ◌≡◌,
  ℕ,
  ◌+◌,
  ◌^◌,
  ◌<◌,
  ◌≤◌,
  inl,
  inr,
  Bool,
  true,
  false,
  List,
  [],
  ◌∷◌,
  ◌++◌,
  length,
  map,
  refl,
  sym,
  ◌∙◌,
  ap,
  subst,
  arith,
  append_assoc,
}
use Rattle.std.specs.Prelude.{◌↔◌, ◌==◌, Contains}
use Rattle.std.proofs.lemmas.Bool.{cases_lt, eq-eqb, true≢false}
use Rattle.std.proofs.lemmas.Bool.Decides.{nat_tests}
use Rattle.std.proofs.lemmas.List.Elements.{
  Contains-append_left,
  Contains-push,
  Contains-push_cases,
}
use Rattle.clog_base.specs.declared.cell.Table.{Table}
use Rattle.clog_base.proofs.Members.{first_or_further, further, here, nothing_there}
use Rattle.clog_disk.specs.Files.{Files}
use Rattle.clog_table.specs.declared.table_file.TableFile.{TableFile}
use Rattle.clog_crash.specs.Folder.{IsBase}
use Rattle.path_core.specs.Keeper.{PutFile}
use Rattle.clog_crash.specs.Log.{Write}
use Rattle.clog_segments.specs.OnDisk.{file_on}
use Rattle.clog_segments.specs.StoreFolder.{
  ArePlacedAt,
  Deeds,
  HoldsStore,
  IsTaken,
  PlacedFile,
  StoreLog,
}
use Rattle.clog_segments.proofs.Ids.{one_base, same_base}
use Rattle.clog_segments.proofs.NextNames.{held, taken}
use Rattle.clog_applied.specs.Filed.{files_of, is_of}
use Rattle.clog_applied.proofs.Lists.{kept_one, left_one}
use Rattle.clog_closing.specs.NextNames.{HaveNextNames, HoldsSequence}
use Rattle.clog_closing.specs.Stores.{files_by}

-- one of the files that were put is of the table, and has the sequence
abbrev IsPutAt : List PlacedFile → ℕ → ℕ → Type 0
IsPutAt placed t n =
    (p : PlacedFile) × Contains placed p × (p.put.table ≡ t) × (p.sequence ≡ n)

further_put : (p : PlacedFile) (ps : List PlacedFile) (t n : ℕ) → IsPutAt ps t n
    → IsPutAt (p ∷ ps) t n
further_put p ps t n is = (is.0, further p ps is.0 is.1, is.2, is.3)

module _ (first : Files) (base : ℕ) (files : List PutFile) (placed : List PlacedFile)
    (are : ArePlacedAt first base files placed) (table : Table) where
  abbrev file_of : PlacedFile → TableFile
  file_of p = file_on base p.put

  -- how many of them are of the table
  abbrev count : List PlacedFile → ℕ
  count ps = length (files_of table (map file_of ps))

  abbrev Taken : List PlacedFile → ℕ → Type 0
  Taken before n = IsTaken first before table.0 n

  -- behind a file of the table the next sequence is one more
  next_behind : (before : List PlacedFile) (p : PlacedFile) (m : ℕ) → p.put.table ≡ table.0
      → p.sequence ≡ m → IsBase (Taken before) 1 m → IsBase (Taken (before ++ p ∷ [])) 1 (m + 1)
  next_behind before p m same at is = record {
    moment = omega arith;
    above = λ n has. elim has [
      | inl old ↦ let low = is.above n (inl old) in omega (arith, low)
      | inr put ↦ elim (Contains-push_cases before p put.0 put.1) [
        | inl old ↦
            let low = is.above n (inr (put.0, old, put.2, put.3)) in
            omega (arith, low)
        | inr one ↦
            let its = ap (λ (f : PlacedFile). f.sequence) one in
            let own = put.3 in
            omega (arith, its, own, at)
      ]
    ];
    one = inr (m, inr (p, Contains-push before p, same, at), refl);
  }

  -- behind a file of another table it is the same
  next_beside : (before : List PlacedFile) (p : PlacedFile) (m : ℕ)
      → (p.put.table ≡ table.0 → ⊥) → IsBase (Taken before) 1 m
      → IsBase (Taken (before ++ p ∷ [])) 1 m
  next_beside before p m other is =
      same_base (Taken before) (Taken (before ++ p ∷ [])) 1 m
      (λ n has. elim has [
        | inl old ↦ inl old
        | inr put ↦
            inr (put.0, Contains-append_left before (p ∷ []) put.0 put.1, put.2, put.3)
      ])
      (λ n has. elim has [
        | inl old ↦ inl old
        | inr put ↦ elim (Contains-push_cases before p put.0 put.1) [
          | inl old ↦ inr (put.0, old, put.2, put.3)
          | inr one ↦
              absurd (other (ap (λ (f : PlacedFile). f.put.table) one ∙ put.2))
        ]
      ]) is

  -- what is put behind some of them takes one sequence after another
  abbrev TakesFrom : ℕ → List PlacedFile → Type 0
  TakesFrom m ps =
      (n : ℕ) → IsPutAt ps table.0 n ↔ ((m ≤ n) × (n < m + count ps))

  takes_one : (p : PlacedFile) (ps : List PlacedFile) (m : ℕ) → p.put.table ≡ table.0
      → p.sequence ≡ m → count (p ∷ ps) ≡ 1 + count ps → TakesFrom (m + 1) ps
      → TakesFrom m (p ∷ ps)
  takes_one p ps m same at many more n = (
    λ put. elim (first_or_further p ps put.0 put.1) [
      | inl one ↦
          let its = ap (λ (f : PlacedFile). f.sequence) one in
          let own = put.3 in
          (omega (arith, its, own, at), omega (arith, its, own, at, many))
      | inr old ↦
          let is = (more n).0 (put.0, old, put.2, put.3) in
          let low = is.0 in
          let high = is.1 in
          (omega (arith, low), omega (arith, high, many))
    ],
    λ inside.
        let low = inside.0 in
        let high = inside.1 in
        elim (cases_lt m n) [
          | inl less ↦
              further_put p ps table.0 n
              ((more n).1 (omega (arith, less), omega (arith, high, many)))
          | inr up ↦ (p, here p ps, same, omega (arith, at, low, up))
        ],
  )

  takes_none : (p : PlacedFile) (ps : List PlacedFile) (m : ℕ)
      → (p.put.table ≡ table.0 → ⊥) → count (p ∷ ps) ≡ count ps → TakesFrom m ps
      → TakesFrom m (p ∷ ps)
  takes_none p ps m other many more n = (
    λ put. elim (first_or_further p ps put.0 put.1) [
      | inl one ↦ absurd (other (ap (λ (f : PlacedFile). f.put.table) one ∙ put.2))
      | inr old ↦
          let is = (more n).0 (put.0, old, put.2, put.3) in
          let high = is.1 in
          (is.0, omega (arith, high, many))
    ],
    λ inside.
        let high = inside.1 in
        further_put p ps table.0 n ((more n).1 (inside.0, omega (arith, high, many))),
  )

  other_table : (q : PlacedFile) → (q.put.table == table.0) ≡ false
      → q.put.table ≡ table.0 → ⊥
  other_table q e same = true≢false (sym (eq-eqb q.put.table table.0 same) ∙ e)

  takes_from : (before ps : List PlacedFile) (m : ℕ) → placed ≡ before ++ ps
      → IsBase (Taken before) 1 m → TakesFrom m ps
  takes_from before [] m cut is = λ n. (
    λ put. absurd (nothing_there put.0 put.1),
    λ inside. let low = inside.0 in let high = inside.1 in absurd (omega (arith, low, high)),
  )
  takes_from before (p ∷ ps) m cut is = by_case (is_of table (file_of p)) refl
      (λ (next : IsBase (Taken (before ++ p ∷ [])) 1 (m + 1)).
      takes_from (before ++ p ∷ []) ps (m + 1)
      (cut ∙ sym (append_assoc before (p ∷ []) ps)) next)
      (λ (next : IsBase (Taken (before ++ p ∷ [])) 1 m).
      takes_from (before ++ p ∷ []) ps m (cut ∙ sym (append_assoc before (p ∷ []) ps)) next)
    where
      by_case : (test : Bool) → is_of table (file_of p) ≡ test
          → (IsBase (Taken (before ++ p ∷ [])) 1 (m + 1) → TakesFrom (m + 1) ps)
          → (IsBase (Taken (before ++ p ∷ [])) 1 m → TakesFrom m ps) → TakesFrom m (p ∷ ps)
      by_case true e taken_one taken_none =
          let same : p.put.table ≡ table.0 = grind (arith, nat_tests, e) in
          let own : IsBase (Taken before) 1 p.sequence =
          subst (λ (t : ℕ). IsBase (λ (n : ℕ). IsTaken first before t n) 1 p.sequence) same
          (are.next before ps p cut) in
          let at : p.sequence ≡ m = one_base (Taken before) 1 p.sequence m own is in
          let long = ap length (kept_one (is_of table) (file_of p) (map file_of ps) e) in
          takes_one p ps m same at (omega (arith, long))
          (taken_one (next_behind before p m same at is))
      by_case false e taken_one taken_none =
          let other : p.put.table ≡ table.0 → ⊥ = λ same. other_table p e same in
          takes_none p ps m other
          (ap length (left_one (is_of table) (file_of p) (map file_of ps) e))
          (taken_none (next_beside before p m other is))

-- ---- of a store

files_are : (base : ℕ) (ps : List PlacedFile)
    → map (λ (p : PlacedFile). file_on base p.put) ps
    ≡ map (file_on base) (map (λ (p : PlacedFile). p.put) ps)
files_are base [] = refl
files_are base (p ∷ ps) = ap (λ (l : List TableFile). file_on base p.put ∷ l) (files_are base ps)

module _ (opened after : Files) (log : StoreLog) (deeds : Deeds)
    (holds : HoldsStore opened log deeds after)
    (low : (w : Write) → Contains log.past w → w.id < log.id) (fits : log.id < 2 ^ 63) where
  pub next_names : HaveNextNames opened after (files_by log deeds)
  next_names table next n is =
      let placed = holds.placed in
      let are = holds.are_placed in
      let fresh : IsBase (λ (k : ℕ). IsTaken opened [] table.0 k) 1 next =
      same_base (HoldsSequence opened table) (λ (k : ℕ). IsTaken opened [] table.0 k) 1 next
      (λ k has. inl has)
      (λ k has. elim has [
        | inl old ↦ old
        | inr put ↦ absurd (nothing_there put.0 put.1)
      ]) is in
      let takes = takes_from opened log.base deeds.files placed are table [] placed next refl fresh
      n in
      let many : length (files_of table (map (λ (p : PlacedFile). file_on log.base p.put) placed))
      ≡ length (files_of table (files_by log deeds)) =
      ap (λ (l : List TableFile). length (files_of table l)) (files_are log.base placed
      ∙ ap (map (file_on log.base)) are.are) in (
        λ has. elim (taken opened after log deeds holds low fits table n has) [
          | inl old ↦ inl old
          | inr put ↦
              let inside = takes.0 put in
              let high = inside.1 in
              inr (inside.0, omega (arith, high, many))
        ],
        λ has. held opened after log deeds holds low fits table n (elim has [
          | inl old ↦ inl old
          | inr inside ↦
              let high = inside.1 in
              inr (takes.1 (inside.0, omega (arith, high, many)))
        ]),
      )
