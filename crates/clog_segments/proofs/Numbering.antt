-- The greatest sequences of the tables' files, while files come and go.
use Rattle.std.proofs.Common.{
  ◌≡◌,
  ◌⊎◌,
  ℕ,
  ◌+◌,
  ◌<◌,
  ◌^◌,
  max,
  inl,
  inr,
  List,
  get_or,
  set,
  Option,
  Some,
  None,
  refl,
  sym,
  ◌∙◌,
  ap,
  subst,
  arith,
}
use Rattle.std.specs.Prelude.{Err, IfOk, IsSome, Ok, Result, is_some, option_map}
use Rattle.std.specs.FinMap as finmap
use Rattle.std.proofs.lemmas.Bool.{cases_eq, cases_lt}
use Rattle.std.proofs.lemmas.List.{get_or-set_other, get_or-set_same, length-set}
use Rattle.std.proofs.Math.Nat.{max-eq_left, max-eq_right}
use Rattle.clog_spec.specs.Names.{IsTableName, table_name_of}
use Rattle.clog_spec.specs.Sizes.{most_tables}
use Rattle.clog_base.specs.declared.cell.Table.{Table}
use Rattle.clog_base.proofs.NameLaws.{one_table}
use Rattle.clog_disk.specs.Files.{Files, Lists, PutsAt, SameTold, Told}
use Rattle.clog_disk.proofs.Named.{put_here, put_there, same_or_other}
use Rattle.clog_crash.specs.Folder.{IsBase}
use Rattle.clog_folder.proofs.Listed.{held_of, listed_of}
use Rattle.clog_segments.specs.declared.sequences.Sequences.{Sequences}
use Rattle.clog_segments.specs.Beside.{StayButOne}
use Rattle.clog_segments.specs.Named.{HasSequence, OneHas}
use Rattle.clog_segments.specs.Numbering.{AreGreatest, AreOfNames, KeepsSequences}
use Rattle.clog_segments.specs.Publishes.{IsNextSequence}
use Rattle.clog_segments.proofs.Ids.{above_one, join, none_above, same_base}
use Rattle.clog_segments.proofs.OtherFiles.{StandElse}

-- one of the folder's names has the sequence
abbrev Has : Files → Table → ℕ → Type 0
Has f table n = OneHas (HasSequence table) (finmap.keys f) n

-- a name that is there in both is listed in both
moved : (f g : Files) (table : Table) (n : ℕ) (has : Has f table n)
    → finmap.get g has.0 ≡ finmap.get f has.0 → Has g table n
moved f g table n has same = (
  has.0,
  listed_of g (finmap.keys g) refl has.0
      (subst IsSome (sym same) (held_of f (finmap.keys f) refl has.0 has.1)),
  has.2,
)

-- ---- the table files stay

abbrev TablesStay : Files → Files → Type 0
TablesStay f g =
    (name : List ℕ) (table n : ℕ) → IsTableName name table n
    → finmap.get g name ≡ finmap.get f name

stay_greatest : (f g : Files) (greatest : List ℕ) → TablesStay f g
    → AreGreatest (finmap.keys f) greatest → AreGreatest (finmap.keys g) greatest
stay_greatest f g greatest same are = record {
  all = are.all;
  each = λ table. same_base (Has f table) (Has g table) 1 (get_or greatest table.0 0 + 1)
      (λ n has. moved f g table n has (same has.0 table.0 n has.2))
      (λ n has. moved g f table n has (sym (same has.0 table.0 n has.2))) (are.each table);
}

of_told : (f : Files) (now : Option Files) (known : Sequences) → Told now (TablesStay f)
    → AreGreatest (finmap.keys f) known.greatest → AreOfNames now known
of_told f None known same are = absurd same
of_told f (Some g) known same are = stay_greatest f g known.greatest same are

-- the files are the same
pub keeps_same : (told now : Option Files) (known : Option Sequences) → now ≡ told
    → KeepsSequences told known → KeepsSequences now known
keeps_same told now known same keeps =
    subst (λ (o : Option Files). KeepsSequences o known) (sym same) keeps

told_else : (own : List ℕ) (f : Files) (now : Option Files)
    → ((table n : ℕ) → IsTableName own table n → ⊥)
    → Told now (λ g. (name : List ℕ) → (name ≡ own → ⊥)
    → finmap.get g name ≡ finmap.get f name) → Told now (TablesStay f)
told_else own f None apart same = same
told_else own f (Some g) apart same =
    λ name table n named.
    same name (λ is. apart table n (subst (λ (l : List ℕ). IsTableName l table n) is named))

-- a file has changed that is no table's
pub keeps_beside : (told now : Option Files) (known : Option Sequences) (own : List ℕ)
    → SameTold told now → StayButOne own told now
    → ((table n : ℕ) → IsTableName own table n → ⊥) → KeepsSequences told known
    → KeepsSequences now known
keeps_beside told now None own same others apart keeps = tt
keeps_beside None now (Some known) own same others apart keeps =
    subst (λ (o : Option Files). AreOfNames o known) (sym same) tt
keeps_beside (Some f) now (Some known) own same others apart keeps =
    of_told f now known (told_else own f now apart (others f refl)) keeps

-- several have
pub keeps_by : (told now : Option Files) (known : Option Sequences) (P : List ℕ → Type 0)
    (change : Files → Files) → ((f : Files) → StandElse P f (change f))
    → ((f : Files) → told ≡ Some f
    → (name : List ℕ) (table n : ℕ) → IsTableName name table n → P name → ⊥)
    → now ≡ option_map change told → KeepsSequences told known → KeepsSequences now known
keeps_by told now None P change else apart same keeps = tt
keeps_by None now (Some known) P change else apart same keeps =
    subst (λ (o : Option Files). AreOfNames o known) (sym same) tt
keeps_by (Some f) now (Some known) P change else apart same keeps =
    subst (λ (o : Option Files). AreOfNames o known) (sym same)
    (stay_greatest f (change f) known.greatest
    (λ name table n named. else f name (apart f refl name table n named)) keeps)

-- ---- the names are listed

pub listed_known : (told now : Option Files) (names : List (List ℕ)) (known : Sequences)
    → now ≡ told → Lists told names → AreGreatest names known.greatest → AreOfNames now known
listed_known None now names known same lists are =
    subst (λ (o : Option Files). AreOfNames o known) (sym same) tt
listed_known (Some f) now names known same lists are =
    subst (λ (o : Option Files). AreOfNames o known) (sym same)
    (subst (λ (l : List (List ℕ)). AreGreatest l known.greatest) lists are)

-- ---- a table file comes

max_more : (a b : ℕ) → max (a + 1) (b + 1) ≡ max a b + 1
max_more a b = elim (cases_lt a b) [
  | inl low ↦
      max-eq_right (omega (arith, low)) ∙ ap (λ k. k + 1) (sym (max-eq_right (omega (arith, low))))
  | inr high ↦
      max-eq_left (omega (arith, high)) ∙ ap (λ k. k + 1) (sym (max-eq_left (omega (arith, high))))
]

module _ (f : Files) (table : Table) (sequence : ℕ) (bytes : List ℕ)
    (named : IsTableName (table_name_of table.0 sequence) table.0 sequence) where
  abbrev own : List ℕ
  own = table_name_of table.0 sequence

  abbrev g : Files
  g = finmap.insert f own bytes

  here_now : (t : Table) (n : ℕ) → IsTableName own t.0 n → Has g t n
  here_now t n its = (
    own,
    listed_of g (finmap.keys g) refl own (ap is_some (put_here f own bytes)),
    its,
  )

  forth : (t : Table) (n : ℕ) → Has f t n ⊎ IsTableName own t.0 n → Has g t n
  forth t n (inr its) = here_now t n its
  forth t n (inl has) = elim (same_or_other has.0 own) [
    | inl is ↦ here_now t n (subst (λ (l : List ℕ). IsTableName l t.0 n) is has.2)
    | inr apart ↦ moved f g t n has (put_there f own bytes has.0 apart)
  ]

  back : (t : Table) (n : ℕ) → Has g t n → Has f t n ⊎ IsTableName own t.0 n
  back t n has = elim (same_or_other has.0 own) [
    | inl is ↦ inr (subst (λ (l : List ℕ). IsTableName l t.0 n) is has.2)
    | inr apart ↦ inl (moved g f t n has (sym (put_there f own bytes has.0 apart)))
  ]

  joined : (t : Table) (b c : ℕ) → IsBase (Has f t) 1 b → IsBase (λ n. IsTableName own t.0 n) b c
      → IsBase (Has g t) 1 c
  joined t b c first second =
      same_base (λ n. Has f t n ⊎ IsTableName own t.0 n) (Has g t) 1 c (forth t) (back t)
      (join (Has f t) (λ n. IsTableName own t.0 n) 1 b c first second)

  module _ (greatest : List ℕ) (are : AreGreatest (finmap.keys f) greatest) where
    abbrev most : ℕ
    most = max (get_or greatest table.0 0) sequence

    at_own : (t : Table) → t.0 ≡ table.0
        → IsBase (Has g t) 1 (get_or (set greatest table.0 most) t.0 0 + 1)
    at_own t same =
        let its : IsTableName own t.0 sequence =
        subst (λ (k : ℕ). IsTableName own k sequence) (sym same) named in
        let there : get_or (set greatest table.0 most) t.0 0 ≡ most =
        ap (λ (k : ℕ). get_or (set greatest table.0 most) k 0) same
        ∙ get_or-set_same greatest table.0 most 0 (omega (arith, are.all, named.table_fits)) in
        subst (λ (k : ℕ). IsBase (Has g t) 1 (k + 1)) (sym there)
        (subst (λ (k : ℕ). IsBase (Has g t) 1 k) (max_more (get_or greatest table.0 0) sequence)
        (joined t (get_or greatest table.0 0 + 1)
        (max (get_or greatest table.0 0 + 1) (sequence + 1))
        (subst (λ (k : ℕ). IsBase (Has f t) 1 (get_or greatest k 0 + 1)) same (are.each t))
        (above_one (λ n. IsTableName own t.0 n) (get_or greatest table.0 0 + 1) sequence its
        (λ n other. (one_table own t.0 n t.0 sequence other its).1))))

    at_other : (t : Table) → (t.0 ≡ table.0 → ⊥)
        → IsBase (Has g t) 1 (get_or (set greatest table.0 most) t.0 0 + 1)
    at_other t apart =
        subst (λ (k : ℕ). IsBase (Has g t) 1 (k + 1))
        (sym (get_or-set_other greatest table.0 t.0 most 0 apart))
        (joined t (get_or greatest t.0 0 + 1) (get_or greatest t.0 0 + 1) (are.each t)
        (none_above (λ n. IsTableName own t.0 n) (get_or greatest t.0 0 + 1)
        (λ n other. apart (one_table own t.0 n table.0 sequence other named).0)))

    come_greatest : AreGreatest (finmap.keys g) (set greatest table.0 most)
    come_greatest = record {
      all = length-set greatest table.0 most ∙ are.all;
      each = λ t. elim (cases_eq t.0 table.0) [
        | inl same ↦ at_own t same
        | inr apart ↦ at_other t apart
      ];
    }

-- it is told too
pub keeps_come : (told now : Option Files) (known raised : Sequences) (table : Table) (sequence : ℕ)
    (bytes : List ℕ) → table.0 < most_tables → 0 < sequence → sequence < 2 ^ 63
    → raised.greatest
    ≡ set known.greatest table.0 (max (get_or known.greatest table.0 0) sequence)
    → AreOfNames told known → PutsAt told now (table_name_of table.0 sequence) (Some bytes)
    → AreOfNames now raised
keeps_come None now known raised table sequence bytes few starts fits is are puts =
    subst (λ (o : Option Files). AreOfNames o raised) (sym puts) tt
keeps_come (Some f) now known raised table sequence bytes few starts fits is are puts =
    subst (λ (o : Option Files). AreOfNames o raised) (sym puts)
    (subst (AreGreatest (finmap.keys (finmap.insert f (table_name_of table.0 sequence) bytes)))
    (sym is)
    (come_greatest f table sequence bytes (record {
      form = refl;
      table_fits = few;
      sequence_starts = starts;
      sequence_fits = fits;
    }) known.greatest are))

-- ---- the next sequence

next_of : (told : Option Files) (known : Sequences) (table : Table) (n : ℕ) → AreOfNames told known
    → n ≡ get_or known.greatest table.0 0 + 1 → 0 < n → n < 2 ^ 63
    → IsNextSequence told table n
next_of None known table n are is starts fits = record { starts = starts; fits = fits; next = tt }
next_of (Some f) known table n are is starts fits = record {
  starts = starts;
  fits = fits;
  next = subst (λ (k : ℕ). IsBase (Has f table) 1 k) (sym is) (are.each table);
}

pub next_known : {E : Type 0} (told : Option Files) (known : Sequences) (table : Table)
    (r : Result ℕ E) → AreOfNames told known
    → IfOk r (λ n. n ≡ get_or known.greatest table.0 0 + 1) → IfOk r (λ n. 0 < n)
    → IfOk r (λ n. n < 2 ^ 63) → IfOk r (IsNextSequence told table)
next_known told known table (Ok n) are is starts fits = next_of told known table n are is starts
    fits
next_known told known table (Err fault) are is starts fits = tt
