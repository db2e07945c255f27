-- What a crash leaves while the first section is written into an empty folder: its entry or
-- nothing.
use Rattle.std.proofs.Common.{
  ◌≡◌,
  ◌⊎◌,
  ◌↔◌,
  ◌≤◌,
  ℕ,
  zero,
  suc,
  inl,
  inr,
  List,
  [],
  ◌∷◌,
  take,
  Option,
  None,
  refl,
  sym,
  ◌∙◌,
  ap,
  subst,
  arith,
}
use Rattle.std.specs.Prelude.{Contains, IsSome, unwrap_or}
use Rattle.std.specs.FinMap as finmap
use Rattle.std.specs.FinMap.{get-empty}
use Rattle.std.specs.Cmp.Lexicographic.{slice_cmp}
use Rattle.std.specs.List.Sorted.{IsStrictlySortedBy}
use Rattle.std.specs.Ordering.{nat_cmp}
use Rattle.clog_spec.specs.Names.{segment_name_of, table_name_of}
use Rattle.clog_base.specs.declared.cell.Cell.{Cell}
use Rattle.clog_base.specs.declared.cell.CellKey.{CellKey}
use Rattle.clog_base.proofs.Members.{here, nothing_there, only_one}
use Rattle.clog_cells.specs.Merge.{IsMerge}
use Rattle.clog_cells.proofs.Merging.{of_itself}
use Rattle.clog_disk.specs.Files.{Files, bytes_at, no_files}
use Rattle.clog_mutation.specs.declared.mutation.Mutation.{Mutation}
use Rattle.clog_mutation.specs.Payload.{cells_of}
use Rattle.clog_mutation.proofs.Decoding.{one_mutation}
use Rattle.clog_scan.specs.Segment.{Entry}
use Rattle.clog_crash.specs.Chance.{NoChance}
use Rattle.clog_crash.specs.Covering.{Either, SameMerge}
use Rattle.clog_crash.specs.Folder.{IsHeld}
use Rattle.clog_crash.specs.Readings.{Reading, IsCellAmong, RestoresIn}
use Rattle.clog_crash.specs.Rest.{IsInFiles, Lasting, settled}
use Rattle.clog_crash.specs.Restore.{IsRestored, IsUndamaged}
use Rattle.clog_crash.specs.Sections.{IsStored}
use Rattle.clog_crash.specs.Worked.{logged, the_mutation}
use Rattle.clog_crash.specs.WorkedCrash.{one_section}
use Rattle.clog_crash.proofs.changes.BothWays.{rows_are}
use Rattle.clog_crash.proofs.changes.Covering.{exactly, merge_of_same, merge_then, swapped}
use Rattle.clog_crash.proofs.changes.Nothing.{no_table}
use Rattle.clog_crash.proofs.rest.Sectioned.{nothing_logged_in}
use Rattle.clog_crash.proofs.rest.Settled.{settled_is}
use Rattle.clog_crash.proofs.rest.Shown.{shown_now}
use Rattle.clog_crash.proofs.worked.Files.{is_segment_file, one_in_order, stored, the_entry}

-- ---- an empty folder

nothing_at : (name : List ℕ) → finmap.get no_files name ≡ None
nothing_at name = get-empty (slice_cmp nat_cmp) name

reads_none : (name : List ℕ) → bytes_at no_files name ≡ []
reads_none name = ap (λ (o : Option (List ℕ)). unwrap_or o []) (nothing_at name)

not_held : (name : List ℕ) → IsHeld no_files name → ⊥
not_held name held = let none = subst IsSome (nothing_at name) held in cc

restores_none : (pair : CellKey × Cell) → RestoresIn (bytes_at no_files) pair → ⊥
restores_none pair (inl c) =
    no_table c.file.table c.file
    (bytes_at no_files (table_name_of c.file.table.0 c.there.sequence))
    (reads_none (table_name_of c.file.table.0 c.there.sequence)) c.there.spelled
restores_none pair (inr c) =
    nothing_logged_in (bytes_at no_files) c.id c.entry (reads_none (segment_name_of 6 c.id))
    c.logged

empty : IsInFiles no_files 1000 [] []
empty = record {
  reads = reads_none (segment_name_of 6 1000);
  live = λ table at far skipped.
      let name = table_name_of skipped.file.table.0 skipped.there.sequence in
      no_table skipped.file.table skipped.file (bytes_at no_files name) (reads_none name)
      skipped.there.spelled;
  tables = λ place name named held. absurd (not_held name held);
  segments = λ name version other named apart held. absurd (not_held name held);
}

-- ---- the section

is_stored : IsStored 1000 one_section
is_stored = record {
  fits = omega arith;
  short = omega arith;
  bytes = is_segment_file.are_bytes;
  whole = (
    record {
      behind = omega arith;
      within = omega arith;
      fits = omega arith;
      least = (omega arith, tt);
    },
    refl,
    tt,
  );
  said = λ entry h. (
    the_mutation,
    record {
      stored = stored;
      spelled = ap (λ (e : Entry). e.payload) (sym (only_one the_entry entry h));
    },
  );
}

cell_is : (pair : CellKey × Cell) → IsCellAmong (the_entry ∷ []) pair ↔ Contains (logged ∷ []) pair
cell_is pair = (
  λ c.
      let entry = only_one the_entry c.entry c.listed in
      let same : c.cell.mutation ≡ the_mutation =
      one_mutation c.cell.mutation the_mutation c.cell.said.stored stored
      (sym c.cell.said.spelled ∙ ap (λ (e : Entry). e.payload) (sym entry)) in
      subst (λ (m : Mutation). Contains (cells_of m) pair) same c.cell.listed,
  λ h. record {
    entry = the_entry;
    listed = here the_entry [];
    cell = record {
      mutation = the_mutation;
      said = record { stored = stored; spelled = refl };
      listed = h;
    };
  },
)

-- ---- what an image restores

-- with nothing besides
alone : (B : CellKey × Cell → Type 0)
    → SameMerge (Either (RestoresIn (settled no_files 1000 [])) B) B
alone B = exactly (Either (RestoresIn (settled no_files 1000 [])) B) B (λ pair. (
  λ x. elim x [
    | inl old ↦ absurd (restores_none pair
        (subst (λ (r : Reading). RestoresIn r pair) (settled_is no_files 1000 [] empty.reads) old))
    | inr new ↦ new
  ],
  λ b. inr b,
))

none_among : (pair : CellKey × Cell) → IsCellAmong [] pair ↔ Contains [] pair
none_among pair = (
  λ c. absurd (nothing_there c.entry c.listed),
  λ h. absurd (nothing_there pair h),
)

nothing_in_order : IsMerge [] []
unfolding IsStrictlySortedBy
nothing_in_order = of_itself [] tt

by_number : (image : Files) (n : ℕ) → n ≤ 1
    → SameMerge (RestoresIn (bytes_at image))
    (Either (RestoresIn (settled no_files 1000 [])) (IsCellAmong (take n (the_entry ∷ []))))
    → IsRestored image [] ⊎ IsRestored image (logged ∷ [])
by_number image zero few same =
    let A = RestoresIn (bytes_at image) in
    let B = Either (RestoresIn (settled no_files 1000 [])) (IsCellAmong []) in
    let all : SameMerge A (Contains []) =
    merge_then A B (Contains []) same (merge_then B (IsCellAmong []) (Contains [])
    (alone (IsCellAmong [])) (exactly (IsCellAmong []) (Contains []) none_among)) in
    inl ((rows_are image []).1 (merge_of_same (Contains []) A [] (swapped A (Contains []) all)
    nothing_in_order))
by_number image (suc zero) few same =
    let one = the_entry ∷ [] in
    let A = RestoresIn (bytes_at image) in
    let B = Either (RestoresIn (settled no_files 1000 [])) (IsCellAmong one) in
    let all : SameMerge A (Contains (logged ∷ [])) =
    merge_then A B (Contains (logged ∷ [])) same (merge_then B (IsCellAmong one)
    (Contains (logged ∷ [])) (alone (IsCellAmong one))
    (exactly (IsCellAmong one) (Contains (logged ∷ [])) cell_is)) in
    inr ((rows_are image (logged ∷ [])).1 (merge_of_same (Contains (logged ∷ [])) A (logged ∷ [])
    (swapped A (Contains (logged ∷ [])) all) (of_itself (logged ∷ []) (one_in_order logged))))
by_number image (suc (suc n)) few same = absurd (omega (arith, few))

pub entry_or_nothing : (image : Files)
    → Lasting no_files (λ name left. left ≡ finmap.get image name) 1000 [] one_section
    → NoChance 1000 one_section (bytes_at image (segment_name_of 6 1000))
    → IsUndamaged image × (IsRestored image [] ⊎ IsRestored image (logged ∷ []))
entry_or_nothing image lasting chance =
    let shown = shown_now no_files 1000 [] [] one_section is_stored empty
    (λ name left. left ≡ finmap.get image name) lasting image (λ name. refl) chance in
    (shown.undamaged, by_number image shown.n shown.some shown.restores)
