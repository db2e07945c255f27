-- Table files are read one after another.
use Rattle.std.proofs.Common.{
  ◌≡◌,
  ℕ,
  ◌≤◌,
  List,
  [],
  ◌∷◌,
  ◌++◌,
  map,
  Option,
  Some,
  None,
  Contains,
  refl,
  sym,
  ap,
  subst,
  ◌∙◌,
  append_assoc,
  inl,
  inr,
  arith,
}
use Rattle.std.specs.Prelude.{IfSome, ◌≢◌}
use Rattle.std.specs.List.{AllByRecursion}
use Rattle.std.specs.List.Sorted.{IsStrictlySortedBy}
use Rattle.std.specs.Map.{keys_of}
use Rattle.std.proofs.lemmas.List.{map-append}
use Rattle.std.proofs.lemmas.List.Elements.{All-push, recursion_from_All}
use Rattle.clog_base.proofs.Members.{first_or_further, in_map}
use Rattle.clog_disk.specs.Files.{Files}
use Rattle.clog_table.specs.declared.fault.TableFault.{TableFault}
use Rattle.clog_table.specs.declared.fault.TableFault.TheVariants.{OutOfMemory as no_memory}
use Rattle.clog_table.specs.declared.table_file.TableFile.{TableFile}
use Rattle.clog_crash.specs.Folder.{
  Place,
  place_cmp,
  place_of,
  TableRead,
  AreTables,
  IsNameOf,
  IsHeld,
  IsGoodTable,
  IsReadFrom,
  IsFirstBad,
}
use Rattle.clog_folder.specs.declared.fault.OpenFault.{OpenFault}
use Rattle.clog_folder.specs.declared.fault.OpenFault.TheVariants.{Disk, BadTable, OutOfMemory}
use Rattle.clog_folder.specs.declared.tables.TableHeld.{TableHeld}
use Rattle.clog_folder.specs.Listing.{AreRows}
use Rattle.clog_folder.specs.Tables.{
  read_of,
  AreReadOf,
  HaveRead,
  IsBadFile,
  TableRefused,
  TablesRefused,
}
use Rattle.clog_folder.proofs.Rows.{row_of, stands_before, table_places}

abbrev Rows : Type 0
Rows = List (Place × List ℕ)

abbrev Listed : (List ℕ → Type 0) → Rows → Type 0
Listed P rows = AreRows place_cmp IsNameOf P rows

-- what was taken and what is left are the whole
pub part_more : {A : Type 0} (whole part left rest : List A) (x : A) → whole ≡ part ++ left
    → left ≡ x ∷ rest → whole ≡ (part ++ x ∷ []) ++ rest
part_more whole part left rest x so_far e =
    so_far ∙ ap (λ l. part ++ l) e ∙ sym (append_assoc part (x ∷ []) rest)

-- ---- one file after another

pub nothing_read : (files : Option Files) → HaveRead files [] []
nothing_read None = tt
nothing_read (Some held) = record {
  places = refl;
  each = λ k d inside. absurd (omega (arith, inside));
}

same_first : (place : Place) (file : TableFile) → file.table ≡ place.0
    → place ≡ (file.table, place.1)
same_first place file e = λ i. (sym e i, place.1)

-- one file more
pub read_more : (files : Option Files) (rows : Rows) (tables : List TableHeld) (place : Place)
    (name : List ℕ) (held : TableHeld) → HaveRead files rows tables
    → held.sequence ≡ place.1
    → IfSome files (λ f. IsNameOf place name × IsGoodTable f place name held.file)
    → HaveRead files (rows ++ (place, name) ∷ []) (tables ++ held ∷ [])
read_more None rows tables place name held so_far seq good = tt
read_more (Some f) rows tables place name held so_far seq good =
    let same : place ≡ place_of (read_of held) =
    same_first place held.file good.1.spelled.same_table
    ∙ ap (λ (n : ℕ). (held.file.table, n)) (sym seq) in
    let pushed = map-append read_of tables (held ∷ []) in
    subst (λ (reads : List TableRead). AreReadOf f (rows ++ (place, name) ∷ []) reads) (sym pushed)
    (record {
      places = map-append place_of (map read_of tables) (read_of held ∷ [])
          ∙ ap (λ (l : List Place). l ++ place_of (read_of held) ∷ []) so_far.places
          ∙ ap (λ (p : Place). keys_of rows ++ p ∷ []) (sym same)
          ∙ sym (map-append (λ (e : Place × List ℕ). e.0) rows ((place, name) ∷ []));
      each = All-push (IsReadFrom f) (map read_of tables) (read_of held) so_far.each (record {
        name = name;
        named = subst (λ (p : Place). IsNameOf p name) same good.0;
        good = subst (λ (p : Place). IsGoodTable f p name held.file) same good.1;
      });
    })

-- what was read of it, by the files as they were
pub read_named : (files now : Option Files) (rows front left rest : Rows) (place : Place)
    (name : List ℕ) (file : TableFile) → IfSome files (λ held. Listed (IsHeld held) rows)
    → now ≡ files → rows ≡ front ++ left → left ≡ (place, name) ∷ rest
    → IfSome now (λ held. IsGoodTable held place name file)
    → IfSome files (λ held. IsNameOf place name × IsGoodTable held place name file)
read_named None now rows front left rest place name file places same parts taken good = tt
read_named (Some held) now rows front left rest place name file places same parts taken good = (
  (places.each place name (row_of place_cmp IsNameOf table_places rows front rest (place, name)
      (parts ∙ ap (λ (l : Rows). front ++ l) taken))).1,
  subst (λ (f : Option Files). IfSome f (λ h. IsGoodTable h place name file)) same good,
)

-- ---- the first that is not good

find_read : (held : Files) (rows : Rows) (reads : List TableRead)
    → map place_of reads ≡ keys_of rows → AllByRecursion (IsReadFrom held) reads
    → (place : Place) (name : List ℕ) → Contains rows (place, name)
    → (read : TableRead) × (place_of read ≡ place) × IsReadFrom held read
find_read held [] reads e all place name there = absurd (omega (arith, there.1))
find_read held (row ∷ rows) [] e all place name there = cc
find_read held (row ∷ rows) (read ∷ reads) e all place name there =
    let first : place_of read ≡ row.0 = cc in
    let others : map place_of reads ≡ keys_of rows = cc in
    elim (first_or_further row rows (place, name) there) [
      | inl same ↦ (read, first ∙ ap (λ (r : Place × List ℕ). r.0) same, all.0)
      | inr behind ↦ find_read held rows reads others all.1 place name behind
    ]

good_before : (held : Files) (rows : Rows) (reads : List TableRead) → AreReadOf held rows reads
    → (place : Place) (name : List ℕ) → IsNameOf place name → Contains rows (place, name)
    → (file : TableFile) × IsGoodTable held place name file
good_before held rows reads read place name named there =
    let found = find_read held rows reads read.places
    (recursion_from_All (IsReadFrom held) reads read.each) place name there in
    let one : IsReadFrom held found.0 = found.2 in
    let same : one.name ≡ name = table_places.one_name place one.name name
    (subst (λ (p : Place). IsNameOf p one.name) found.1 one.named) named in (
      found.0.file,
      subst (λ (n : List ℕ). IsGoodTable held place n found.0.file) same
          (subst (λ (p : Place). IsGoodTable held p one.name found.0.file) found.1 one.good),
    )

bad_first : (files : Option Files) (rows front rest : Rows) (place : Place)
    (name other : List ℕ) (fault : TableFault) (tables : List TableHeld)
    → IfSome files (λ held. Listed (IsHeld held) rows) → rows ≡ front ++ (place, name) ∷ rest
    → HaveRead files front tables → other ≡ name → fault ≢ no_memory
    → IfSome files (λ held. IsBadFile held place.0 name fault)
    → IfSome files (λ held. IsFirstBad held other fault)
bad_first None rows front rest place name other fault tables places parts read same known bad = tt
bad_first (Some held) rows front rest place name other fault tables places parts read same known
    bad =
    subst (λ (n : List ℕ). IsFirstBad held n fault) (sym same) (record {
      place = place;
      named = (places.each place name
          (row_of place_cmp IsNameOf table_places rows front rest (place, name) parts)).1;
      bytes = bad.bytes;
      there = bad.there;
      refused = bad.refused;
      known = known;
      first = λ before earlier named is_held less.
          good_before held front (map read_of tables) read before earlier named
          (stands_before place_cmp IsNameOf table_places front (place, name) rest
          (subst (λ (r : Rows). IsStrictlySortedBy place_cmp (keys_of r)) parts places.ordered)
          before earlier
          (subst (λ (r : Rows). Contains r (before, earlier)) parts
          (places.every before earlier is_held named))
          less);
    })

-- why the next file is not read, by the disk as it was
pub refused_next : (files now : Option Files) (f g k : ℕ) (rows front left rest : Rows)
    (place : Place) (name : List ℕ) (tables : List TableHeld) (refusal : OpenFault)
    → IfSome files (λ held. Listed (IsHeld held) rows) → now ≡ files
    → rows ≡ front ++ left → left ≡ (place, name) ∷ rest
    → HaveRead files front tables → f ≤ g
    → TableRefused now g k place name refusal → TablesRefused files f k refusal
refused_next files now f g k rows front left rest place name tables Disk places same parts
    taken read later refused =
    omega (arith, later, refused)
refused_next files now f g k rows front left rest place name tables OutOfMemory places same parts
    taken read later refused =
    tt
refused_next files now f g k rows front left rest place name tables (BadTable other fault) places
    same parts taken read later refused =
    bad_first files rows front rest place name other fault tables places
    (parts ∙ ap (λ (l : Rows). front ++ l) taken) read refused.0 refused.1
    (subst (λ (o : Option Files). IfSome o (λ held. IsBadFile held place.0 name fault)) same
    refused.2)
refused_next files now f g k rows front left rest place name tables other places same parts taken
    read later refused =
    absurd refused

-- ---- all

-- the files of all places are the folder's
pub are_tables : (held : Files) (rows : Rows) (reads : List TableRead)
    → Listed (IsHeld held) rows → AreReadOf held rows reads → AreTables held reads
are_tables held rows reads places read = record {
  ordered = subst (IsStrictlySortedBy place_cmp) (sym read.places) places.ordered;
  each = read.each;
  every = λ place name named is_held.
      subst (λ (l : List Place). Contains l place) (sym read.places)
      (in_map (λ (e : Place × List ℕ). e.0) rows (place, name)
      (places.every place name is_held named));
}
