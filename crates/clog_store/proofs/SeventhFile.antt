-- The worked row of names.
use Rattle.std.proofs.Common.{
  ◌≡◌,
  ℕ,
  ◌+◌,
  ◌≤◌,
  inl,
  inr,
  List,
  [],
  ◌∷◌,
  length,
  Some,
  None,
  refl,
  sym,
  ◌∙◌,
  ap,
  subst,
  arith,
}
use Rattle.std.specs.Prelude.{is_some}
use Rattle.std.specs.FinMap as finmap
use Rattle.std.specs.FinMap.{get-empty}
use Rattle.std.specs.Cmp.Lexicographic.{slice_cmp}
use Rattle.std.specs.Ordering.{nat_cmp}
use Rattle.clog_spec.specs.Names.{IsTableName, table_name_of}
use Rattle.clog_base.proofs.Members.{first_or_further, here, nothing_there, only_one}
use Rattle.clog_base.proofs.NameLaws.{one_table}
use Rattle.clog_disk.specs.Files.{no_files}
use Rattle.clog_disk.proofs.Named.{put_here, put_there, same_or_other}
use Rattle.clog_crash.specs.Folder.{HoldsName, IsBase, IsHeld}
use Rattle.clog_crash.proofs.OneMore.{bytes_of}
use Rattle.path_core.specs.Keeper.{PutFile}
use Rattle.clog_segments.specs.StoreFolder.{ArePlacedAt, IsTaken, PlacedFile}
use Rattle.clog_store.specs.WorkedNames.{sequences_of, with_seventh}

-- ---- the next number

behind_greatest : (P : ℕ → Type 0) (next n : ℕ) → IsBase P 1 next → P n
    → ((m : ℕ) → P m → m ≤ n) → next ≡ n + 1
behind_greatest P next n is has most = elim is.one [
  | inl least ↦ let low = is.above n has in omega (arith, least, low)
  | inr one ↦
      let low = is.above n has in
      let high = most one.0 one.1 in
      omega (arith, one.2, low, high)
]

where_none : (P : ℕ → Type 0) (next : ℕ) → IsBase P 1 next → ((m : ℕ) → P m → ⊥) → next ≡ 1
where_none P next is none = elim is.one [
  | inl least ↦ least
  | inr one ↦ absurd (none one.0 one.1)
]

-- ---- what the folder holds

module _ (bytes : List ℕ) where
  seventh : IsTableName (table_name_of 0 7) 0 7
  seventh = record {
    form = refl;
    table_fits = omega arith;
    sequence_starts = omega arith;
    sequence_fits = omega arith;
  }

  there : HoldsName (with_seventh bytes) (λ (name : List ℕ). IsTableName name 0 7)
  there = (
    table_name_of 0 7,
    ap is_some (put_here no_files (table_name_of 0 7) bytes),
    seventh,
  )

  its_name : (name : List ℕ) → IsHeld (with_seventh bytes) name → name ≡ table_name_of 0 7
  its_name name held = elim (same_or_other name (table_name_of 0 7)) [
    | inl same ↦ same
    | inr apart ↦
        let found = bytes_of (finmap.get (with_seventh bytes) name) held in
        absurd (let clash : None ≡ Some found.0 =
        sym (put_there no_files (table_name_of 0 7) bytes name apart
        ∙ get-empty (slice_cmp nat_cmp) name) ∙ found.1 in
        cc)
  ]

  only_seventh : (table n : ℕ)
      → HoldsName (with_seventh bytes) (λ (name : List ℕ). IsTableName name table n)
      → (table ≡ 0) × (n ≡ 7)
  only_seventh table n has =
      one_table (table_name_of 0 7) table n 0 7
      (subst (λ (l : List ℕ). IsTableName l table n) (its_name has.0 has.1) has.2) seventh

  -- ---- three files

  module _ (base : ℕ) (x y z : PutFile) (at_x : x.table ≡ 0) (at_y : y.table ≡ 1)
      (at_z : z.table ≡ 0) where
    abbrev Placed : List PlacedFile → Type 0
    Placed placed = ArePlacedAt (with_seventh bytes) base (x ∷ y ∷ z ∷ []) placed

    three : (p q r : PlacedFile) → Placed (p ∷ q ∷ r ∷ [])
        → sequences_of (p ∷ q ∷ r ∷ []) ≡ 8 ∷ 1 ∷ 9 ∷ []
    three p q r are =
        let e : p.put ∷ q.put ∷ r.put ∷ [] ≡ x ∷ y ∷ z ∷ [] = are.are in
        let of_x : p.put ≡ x = cc in
        let of_y : q.put ≡ y = cc in
        let of_z : r.put ≡ z = cc in
        let tp : p.put.table ≡ 0 = ap (λ (f : PutFile). f.table) of_x ∙ at_x in
        let tq : q.put.table ≡ 1 = ap (λ (f : PutFile). f.table) of_y ∙ at_y in
        let tr : r.put.table ≡ 0 = ap (λ (f : PutFile). f.table) of_z ∙ at_z in
        let sp : p.sequence ≡ 8 =
        behind_greatest (IsTaken (with_seventh bytes) [] p.put.table) p.sequence 7
        (are.next [] (q ∷ r ∷ []) p refl) (inl (at_table p.put.table tp))
        (λ m has. elim has [
          | inl old ↦ let is = (only_seventh p.put.table m old).1 in omega (arith, is)
          | inr new ↦ absurd (nothing_there new.0 new.1)
        ]) in
        let sq : q.sequence ≡ 1 =
        where_none (IsTaken (with_seventh bytes) (p ∷ []) q.put.table) q.sequence
        (are.next (p ∷ []) (r ∷ []) q refl)
        (λ m has. elim has [
          | inl old ↦ let is = (only_seventh q.put.table m old).0 in omega (arith, is, tq)
          | inr new ↦
              let same = ap (λ (f : PlacedFile). f.put.table) (only_one p new.0 new.1) in
              let of_table = new.2 in
              omega (arith, same, of_table, tp, tq)
        ]) in
        let sr : r.sequence ≡ 9 =
        behind_greatest (IsTaken (with_seventh bytes) (p ∷ q ∷ []) r.put.table) r.sequence 8
        (are.next (p ∷ q ∷ []) [] r refl) (inr (p, here p (q ∷ []), tp ∙ sym tr, sp))
        (λ m has. elim has [
          | inl old ↦ let is = (only_seventh r.put.table m old).1 in omega (arith, is)
          | inr new ↦ elim (first_or_further p (q ∷ []) new.0 new.1) [
            | inl same ↦
                let its = ap (λ (f : PlacedFile). f.sequence) same in
                let is = new.3 in
                omega (arith, its, is, sp)
            | inr more ↦
                let same = ap (λ (f : PlacedFile). f.put.table) (only_one q new.0 more) in
                let of_table = new.2 in
                absurd (omega (arith, same, of_table, tq, tr))
          ]
        ]) in
        (λ i. sp i ∷ sq i ∷ sr i ∷ [])
      where
        at_table : (t : ℕ) → t ≡ 0
            → HoldsName (with_seventh bytes) (λ (name : List ℕ). IsTableName name t 7)
        at_table t same =
            subst (λ (k : ℕ). HoldsName (with_seventh bytes)
            (λ (name : List ℕ). IsTableName name k 7)) (sym same) there

    pub row : (placed : List PlacedFile) → Placed placed
        → sequences_of placed ≡ 8 ∷ 1 ∷ 9 ∷ []
    row [] are = let many = ap length are.are in absurd (omega (arith, many))
    row (p ∷ []) are = let many = ap length are.are in absurd (omega (arith, many))
    row (p ∷ q ∷ []) are = let many = ap length are.are in absurd (omega (arith, many))
    row (p ∷ q ∷ r ∷ []) are = three p q r are
    row (p ∷ q ∷ r ∷ s ∷ more) are =
        let many = ap length are.are in absurd (omega (arith, many))
