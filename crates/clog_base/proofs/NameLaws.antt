-- A name says one thing at most.
use Rattle.std.proofs.Common.{
  ◌≡◌,
  ◌≢◌,
  ℕ,
  ◌+◌,
  ◌^◌,
  ◌<◌,
  List,
  ◌∷◌,
  ◌++◌,
  length,
  take,
  drop,
  get_or,
  codes,
  decimal,
  refl,
  ap,
  ◌∙◌,
  sym,
  arith,
  append_assoc,
  length-append,
}
use Rattle.std.proofs.Math.Seq.{take-append_seam, drop-append_seam, drop-append-add}
use Rattle.std.proofs.lemmas.Fmt.{decimal_injective}
use Rattle.clog_spec.specs.Names.{
  IsSegmentName,
  IsArchiveName,
  IsTableName,
  IsNoSegmentName,
  IsNoArchiveName,
  IsNoTableName,
}
use Rattle.clog_base.specs.NameReading.{IsNoPair, IsNotBetween}
use Rattle.clog_base.proofs.Readings.{dash_position, some_injective}

-- what stands between a front and a back is determined by the whole
pub middle_is_one : (front back xs ys : List ℕ) → front ++ xs ++ back ≡ front ++ ys ++ back
    → xs ≡ ys
middle_is_one front back xs ys e =
    let behind : xs ++ back ≡ ys ++ back =
    sym (drop-append_seam front (xs ++ back))
    ∙ ap (drop (length front)) (sym (append_assoc front xs back) ∙ e ∙ append_assoc front ys back)
    ∙ drop-append_seam front (ys ++ back) in
    let long : length xs ≡ length ys =
    let whole : length xs + length back ≡ length ys + length back =
    sym (length-append xs back) ∙ ap length behind ∙ length-append ys back in
    omega (arith, whole) in
    sym (take-append_seam xs back) ∙ ap (take (length xs)) behind
    ∙ ap (λ k. take k (ys ++ back)) long ∙ take-append_seam ys back

-- two numbers with a dash between them
abbrev pub pair_text : ℕ → ℕ → List ℕ
pair_text m n = decimal m ++ codes "-" ++ decimal n

pub pair_is_one : (m n m' n' : ℕ) → m < 2 ^ 64 → n < 2 ^ 64 → m' < 2 ^ 64 → n' < 2 ^ 64
    → pair_text m n ≡ pair_text m' n' → (m ≡ m') × (n ≡ n')
pair_is_one m n m' n' fits_m fits_n fits_m' fits_n' e =
    let long : length (decimal m) ≡ length (decimal m') =
    some_injective (length (decimal m)) (length (decimal m'))
    (sym (dash_position m n (pair_text m n) fits_m refl)
    ∙ dash_position m' n' (pair_text m n) fits_m' e) in
    let apart : decimal m ++ 45 ∷ decimal n ≡ decimal m' ++ 45 ∷ decimal n' =
    sym (append_assoc (decimal m) (codes "-") (decimal n)) ∙ e
    ∙ append_assoc (decimal m') (codes "-") (decimal n') in
    let first : decimal m ≡ decimal m' =
    sym (take-append_seam (decimal m) (45 ∷ decimal n))
    ∙ ap (take (length (decimal m))) apart
    ∙ ap (λ k. take k (decimal m' ++ 45 ∷ decimal n')) long
    ∙ take-append_seam (decimal m') (45 ∷ decimal n') in
    let second : decimal n ≡ decimal n' =
    sym (drop-append-add (decimal m) (45 ∷ decimal n) 1)
    ∙ ap (drop (length (decimal m) + 1)) apart
    ∙ ap (λ k. drop (k + 1) (decimal m' ++ 45 ∷ decimal n')) long
    ∙ drop-append-add (decimal m') (45 ∷ decimal n') 1 in
    (decimal_injective m m' fits_m fits_m' first, decimal_injective n n' fits_n fits_n' second)

-- the pair between a front and a back, and the text in one piece
pub pair_between : (front back : List ℕ) (m n : ℕ)
    → front ++ decimal m ++ codes "-" ++ decimal n ++ back ≡ front ++ pair_text m n ++ back
pair_between front back m n =
    ap (λ l. l ++ back)
    (ap (λ l. l ++ decimal n) (append_assoc front (decimal m) (codes "-"))
    ∙ append_assoc front (decimal m ++ codes "-") (decimal n))

pub one_segment : (name : List ℕ) (version id version' id' : ℕ) → IsSegmentName name version id
    → IsSegmentName name version' id' → (version ≡ version') × (id ≡ id')
one_segment name version id version' id' is is' =
    pair_is_one version id version' id' (omega (arith, is.version_fits)) (omega (arith, is.id_fits))
    (omega (arith, is'.version_fits)) (omega (arith, is'.id_fits))
    (middle_is_one (codes "CommitLog-") (codes ".log") (pair_text version id)
    (pair_text version' id')
    (sym (pair_between (codes "CommitLog-") (codes ".log") version id) ∙ sym is.form ∙ is'.form
    ∙ pair_between (codes "CommitLog-") (codes ".log") version' id'))

pub one_table : (name : List ℕ) (table sequence table' sequence' : ℕ)
    → IsTableName name table sequence → IsTableName name table' sequence'
    → (table ≡ table') × (sequence ≡ sequence')
one_table name table sequence table' sequence' is is' =
    pair_is_one table sequence table' sequence' (omega (arith, is.table_fits))
    (omega (arith, is.sequence_fits)) (omega (arith, is'.table_fits))
    (omega (arith, is'.sequence_fits))
    (middle_is_one (codes "Table-") (codes ".tbl") (pair_text table sequence)
    (pair_text table' sequence')
    (sym (pair_between (codes "Table-") (codes ".tbl") table sequence) ∙ sym is.form ∙ is'.form
    ∙ pair_between (codes "Table-") (codes ".tbl") table' sequence'))

pub one_archive : (name : List ℕ) (id id' : ℕ) → IsArchiveName name id → IsArchiveName name id'
    → id ≡ id'
one_archive name id id' is is' =
    decimal_injective id id' (omega (arith, is.id_fits)) (omega (arith, is'.id_fits))
    (middle_is_one (codes "Archive-CommitLog-6-") (codes ".log") (decimal id) (decimal id')
    (sym is.form ∙ is'.form))

-- the kinds begin with other letters
first_letters_differ : (name : List ℕ) (a b : ℕ) → get_or name 0 0 ≡ a → get_or name 0 0 ≡ b
    → a ≢ b → ⊥
first_letters_differ name a b is is' differ = differ (sym is ∙ is')

pub segment_is_no_other : (name : List ℕ) (version id : ℕ) → IsSegmentName name version id
    → IsNoArchiveName name × IsNoTableName name
segment_is_no_other name version id is = (
  λ id' is'. let no : 67 ≡ 65 =
      sym (ap (λ l. get_or l 0 0) is.form) ∙ ap (λ l. get_or l 0 0) is'.form in omega (arith, no),
  λ table sequence is'. let no : 67 ≡ 84 =
      sym (ap (λ l. get_or l 0 0) is.form) ∙ ap (λ l. get_or l 0 0) is'.form in omega (arith, no),
)

pub archive_is_no_table : (name : List ℕ) (id : ℕ) → IsArchiveName name id → IsNoTableName name
archive_is_no_table name id is table sequence is' =
    let no : 65 ≡ 84 =
    sym (ap (λ l. get_or l 0 0) is.form) ∙ ap (λ l. get_or l 0 0) is'.form in omega (arith, no)

-- Where the middle is no pair, or not between the marks, there is no such name.
pub no_segment-between : (name : List ℕ)
    → IsNotBetween (codes "CommitLog-") (codes ".log") name → IsNoSegmentName name
no_segment-between name none version id is =
    none (pair_text version id)
    (is.form ∙ pair_between (codes "CommitLog-") (codes ".log") version id)

pub no_segment-pair : (name middle : List ℕ)
    → name ≡ codes "CommitLog-" ++ middle ++ codes ".log" → IsNoPair middle → IsNoSegmentName name
no_segment-pair name middle whole none version id is =
    none version id (omega (arith, is.version_fits)) (omega (arith, is.id_fits))
    (middle_is_one (codes "CommitLog-") (codes ".log") middle (pair_text version id)
    (sym whole ∙ is.form ∙ pair_between (codes "CommitLog-") (codes ".log") version id))

pub is_segment : (name middle : List ℕ) (version id : ℕ)
    → name ≡ codes "CommitLog-" ++ middle ++ codes ".log" → middle ≡ pair_text version id
    → version < 2 ^ 32 → id < 2 ^ 63 → IsSegmentName name version id
is_segment name middle version id whole is version_fits id_fits = record {
  form = whole ∙ ap (λ l. codes "CommitLog-" ++ l ++ codes ".log") is
      ∙ sym (pair_between (codes "CommitLog-") (codes ".log") version id);
  version_fits = version_fits;
  id_fits = id_fits;
}

-- What is read from a name with this middle is what the name says, if it says anything.
pub segment_says : (name middle : List ℕ) (m n : ℕ) → m < 2 ^ 64 → n < 2 ^ 64
    → name ≡ codes "CommitLog-" ++ middle ++ codes ".log" → middle ≡ pair_text m n
    → (version id : ℕ) → IsSegmentName name version id → (m ≡ version) × (n ≡ id)
segment_says name middle m n fits_m fits_n whole is version id said =
    pair_is_one m n version id fits_m fits_n (omega (arith, said.version_fits))
    (omega (arith, said.id_fits))
    (middle_is_one (codes "CommitLog-") (codes ".log") (pair_text m n) (pair_text version id)
    (ap (λ l. codes "CommitLog-" ++ l ++ codes ".log") (sym is) ∙ sym whole ∙ said.form
    ∙ pair_between (codes "CommitLog-") (codes ".log") version id))

pub no_table-between : (name : List ℕ) → IsNotBetween (codes "Table-") (codes ".tbl") name
    → IsNoTableName name
no_table-between name none table sequence is =
    none (pair_text table sequence)
    (is.form ∙ pair_between (codes "Table-") (codes ".tbl") table sequence)

pub no_table-pair : (name middle : List ℕ) → name ≡ codes "Table-" ++ middle ++ codes ".tbl"
    → IsNoPair middle → IsNoTableName name
no_table-pair name middle whole none table sequence is =
    none table sequence (omega (arith, is.table_fits)) (omega (arith, is.sequence_fits))
    (middle_is_one (codes "Table-") (codes ".tbl") middle (pair_text table sequence)
    (sym whole ∙ is.form ∙ pair_between (codes "Table-") (codes ".tbl") table sequence))

pub is_table : (name middle : List ℕ) (table sequence : ℕ)
    → name ≡ codes "Table-" ++ middle ++ codes ".tbl" → middle ≡ pair_text table sequence
    → table < 16 → 0 < sequence → sequence < 2 ^ 63 → IsTableName name table sequence
is_table name middle table sequence whole is table_fits starts fits = record {
  form = whole ∙ ap (λ l. codes "Table-" ++ l ++ codes ".tbl") is
      ∙ sym (pair_between (codes "Table-") (codes ".tbl") table sequence);
  table_fits = table_fits;
  sequence_starts = starts;
  sequence_fits = fits;
}

pub table_says : (name middle : List ℕ) (m n : ℕ) → m < 2 ^ 64 → n < 2 ^ 64
    → name ≡ codes "Table-" ++ middle ++ codes ".tbl" → middle ≡ pair_text m n
    → (table sequence : ℕ) → IsTableName name table sequence → (m ≡ table) × (n ≡ sequence)
table_says name middle m n fits_m fits_n whole is table sequence said =
    pair_is_one m n table sequence fits_m fits_n (omega (arith, said.table_fits))
    (omega (arith, said.sequence_fits))
    (middle_is_one (codes "Table-") (codes ".tbl") (pair_text m n) (pair_text table sequence)
    (ap (λ l. codes "Table-" ++ l ++ codes ".tbl") (sym is) ∙ sym whole ∙ said.form
    ∙ pair_between (codes "Table-") (codes ".tbl") table sequence))

pub archive_says : (name middle : List ℕ) → name ≡ codes "Archive-CommitLog-6-" ++ middle
    ++ codes ".log"
    → (id : ℕ) → IsArchiveName name id → middle ≡ decimal id
archive_says name middle whole id said =
    middle_is_one (codes "Archive-CommitLog-6-") (codes ".log") middle (decimal id)
    (sym whole ∙ said.form)
