-- A file holds exactly the entries that touch its table within its interval.
use Rattle.std.proofs.Common.{
  ◌≡◌,
  ℕ,
  zero,
  suc,
  ◌<◌,
  ◌≤◌,
  List,
  [],
  ◌∷◌,
  ◌&&◌,
  nat_lt,
  nat_le,
  length,
  refl,
  sym,
  ap,
  ◌∙◌,
  subst,
  arith,
  ◌⊎◌,
}
use Rattle.std.specs.List.{Contains, filter}
use Rattle.std.proofs.lemmas.Bool.{
  and_parts,
  and_from,
  eq-eqb,
  lt-ltb,
  le-leb,
  leb-true,
  ltb-true,
}
use mathlib.Core.Logic.{dite, inl, inr}
use native.Mathlib.Decide.{dec_lt}
use Rattle.path_core.specs.declared.state.PathState.{PathState}
use Rattle.path_core.specs.declared.state.WrittenFile.{WrittenFile}
use Rattle.path_core.specs.Parts.{table_of, touches, key_of_bound}
use Rattle.path_core.specs.History.{bound_before, final_bound, is_touching}
use Rattle.path_core.specs.Lawful.{IsLawfulPlacing}
use Rattle.path_core.specs.LawfulTables.{
  is_file_of,
  FollowFrom,
  FileIsOfRetired,
  LastFiles,
  FilesBegin,
  RetiredAreFiled,
  IsTouched,
  FilesAreTrue,
}
use Rattle.path_core.specs.Promises.{HoldsItsInterval}
use Rattle.path_core.proofs.lists.Passing.{kept_in, filter_from}
use Rattle.path_core.proofs.places.HoldsInterval.{holds_interval}

-- files that follow from a key begin at or above it
all_above : (key : ℕ) (fs : List WrittenFile) → FollowFrom key fs → (f : WrittenFile)
    → Contains fs f → key ≤ f.lower
all_above key [] follow f h = absurd (let l = h.1 in omega arith)
all_above key (g ∷ gs) follow f (zero, inside, is) =
    subst (λ (k : WrittenFile). key ≤ k.lower) is (let e = follow.0 in omega arith)
all_above key (g ∷ gs) follow f (suc i, inside, is) =
    let r = all_above g.upper gs follow.2 f (i, omega arith, is) in
    let e = follow.0 in let l = follow.1 in omega arith

-- of two files that follow one another one ends where the other begins, or before
apart : (key : ℕ) (fs : List WrittenFile) → FollowFrom key fs → (f g : WrittenFile)
    → Contains fs f → Contains fs g → (f ≡ g) ⊎ ((f.upper ≤ g.lower) ⊎ (g.upper ≤ f.lower))
apart key [] follow f g h i = absurd (let l = h.1 in omega arith)
apart key (k ∷ ks) follow f g (zero, inside, is) (zero, inside_g, is_g) = inl (sym is ∙ is_g)
apart key (k ∷ ks) follow f g (zero, inside, is) (suc j, inside_g, is_g) =
    inr (inl (subst (λ (d : WrittenFile). d.upper ≤ g.lower) is
    (all_above k.upper ks follow.2 g (j, omega arith, is_g))))
apart key (k ∷ ks) follow f g (suc i, inside, is) (zero, inside_g, is_g) =
    inr (inr (subst (λ (d : WrittenFile). d.upper ≤ f.lower) is_g
    (all_above k.upper ks follow.2 f (i, omega arith, is))))
apart key (k ∷ ks) follow f g (suc i, inside, is) (suc j, inside_g, is_g) =
    apart k.upper ks follow.2 f g (i, omega arith, is) (j, omega arith, is_g)

module _ (x : PathState) (Z : IsLawfulPlacing x) where
  -- where an entry of an interval lies
  touched_in : (t lower upper entry : ℕ) → IsTouched x t lower upper entry
      → (lower < entry) × (entry ≤ upper)
  touched_in t lower upper entry I =
      let f = filter_from (is_touching t lower upper) x.notes I.note I.among in
      let p = and_parts (touches I.note.tables t && nat_lt lower I.note.end.0)
      (nat_le I.note.end.0 upper) f.1 in
      let q = and_parts (touches I.note.tables t) (nat_lt lower I.note.end.0) p.0 in
      let low = ltb-true lower I.note.end.0 q.1 in
      let high = leb-true I.note.end.0 upper p.1 in
      let is = I.position in
      (omega arith, omega arith)

  -- an entry of one interval that lies in another is of that one
  touched_as : (t lower upper from to entry : ℕ) → IsTouched x t lower upper entry → from < entry
      → entry ≤ to → IsTouched x t from to entry
  touched_as t lower upper from to entry I above below =
      let f = filter_from (is_touching t lower upper) x.notes I.note I.among in
      let is = I.position in
      record {
        note = I.note;
        among = kept_in (is_touching t from to) x.notes I.note f.0
            (and_from _ _ (and_from _ _ (and_parts _ _ (and_parts _ _ f.1).0).0
            (lt-ltb from I.note.end.0 (omega arith)))
            (le-leb I.note.end.0 to (omega arith)));
        position = I.position;
      }

  -- the memtable whose interval holds a key at or below the interval of another
  holder : (t m entry : ℕ) → 0 < entry → entry ≤ bound_before x t m
      → (k : ℕ) × (k < m) × (bound_before x t k < entry) × (entry ≤ final_bound x t k)
  holder t zero entry some low = absurd (omega arith)
  holder t (suc k) entry some low = dite (dec_lt (bound_before x t k) entry)
      (λ here. (k, omega arith, here, low))
      (λ not. let r = holder t k entry some (omega arith) in
      (r.0, (let l = r.1 in omega arith), r.2, r.3))

  module _ (F : LastFiles x) (B : FilesBegin x) (R : RetiredAreFiled x) where
    -- a retired memtable holds its interval
    holds : (t m : ℕ) → t < length x.tables → m < (table_of x t).oldest_live
        → HoldsItsInterval x t m
    holds t m inside retired =
        holds_interval x Z.core Z.places t m (R.each t m inside retired).passed

    -- An entry of a file's interval lies above the bound before the file's memtable: else another
    -- file would hold it.
    above_before : (f : WrittenFile) → Contains x.files f → (entry : ℕ)
        → IsTouched x f.table f.lower f.upper entry → bound_before x f.table f.memtable < entry
    above_before f h entry I = let In = touched_in f.table f.lower f.upper entry I in
        dite (dec_lt (bound_before x f.table f.memtable) entry) (λ l. l)
        (λ n. absurd (elsewhere In.0 In.1 (holder f.table f.memtable entry
        (let l = In.0 in omega arith) (omega arith))))
      where
        O : FileIsOfRetired x f
        O = F.each f h

        elsewhere : f.lower < entry → entry ≤ f.upper
            → (k : ℕ) × (k < f.memtable) × (bound_before x f.table k < entry)
            × (entry ≤ final_bound x f.table k) → ⊥
        elsewhere low high K =
            let k = K.0 in
            let before = K.1 in
            let above = K.2 in
            let below = K.3 in
            let retired : k < (table_of x f.table).oldest_live
            = let r = O.retired in omega arith in
            let G = (R.each f.table k O.table retired).filed entry
            ((holds f.table k O.table retired entry).1 (touched_as f.table f.lower f.upper
            (bound_before x f.table k) (final_bound x f.table k) entry I above below)) in
            let g = G.file in
            let begins = G.lower in
            let ends : final_bound x f.table k ≡ g.upper = ap key_of_bound G.upper in
            let is = G.memtable in
            elim (apart 0 (filter (is_file_of f.table) x.files) (R.follow f.table) f g
            (kept_in (is_file_of f.table) x.files f h (eq-eqb f.table f.table refl))
            (kept_in (is_file_of f.table) x.files g G.among (eq-eqb g.table f.table G.table))) [
              | inl same ↦ (let e = ap (λ (d : WrittenFile). d.memtable) same in absurd
                  (omega arith))
              | inr other ↦ elim other [
                | inl l ↦ absurd (omega arith)
                | inr l ↦ absurd (omega arith)
              ]
            ]

    -- Files are true, where they are of retired memtables and follow one another.
    pub files_true : FilesAreTrue x
    files_true f h entry =
        let O = F.each f h in
        let ends : final_bound x f.table f.memtable ≡ f.upper = ap key_of_bound O.upper in
        let begins = B f h in
        let H = holds f.table f.memtable O.table O.retired entry in (
          (λ p. let I = H.0 p in
              let In = touched_in f.table (bound_before x f.table f.memtable)
              (final_bound x f.table f.memtable) entry I in
              let low = In.0 in
              let high = In.1 in
              touched_as f.table (bound_before x f.table f.memtable)
              (final_bound x f.table f.memtable) f.lower f.upper entry I (omega arith)
              (omega arith)),
          (λ I. let In = touched_in f.table f.lower f.upper entry I in
              let high = In.1 in
              H.1 (touched_as f.table f.lower f.upper (bound_before x f.table f.memtable)
              (final_bound x f.table f.memtable) entry I (above_before f h entry I)
              (omega arith))),
        )
