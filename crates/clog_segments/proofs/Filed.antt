-- A folder gets the file of one table after another, each true; then table files stand for all of
-- its log.
use Rattle.std.proofs.Common.{
  ◌≡◌,
  ℕ,
  ◌+◌,
  ◌<◌,
  ◌^◌,
  List,
  [],
  ◌∷◌,
  Option,
  Some,
  None,
  Contains,
  length,
  refl,
  sym,
  ap,
  subst,
  ◌∙◌,
  inl,
  inr,
  arith,
}
use Rattle.std.specs.Prelude.{IsErr, IsSome, Err, Ok, Result, unwrap_or}
use Rattle.std.specs.FinMap as finmap
use Rattle.std.proofs.lemmas.Bool.{cases_lt}
use Rattle.clog_spec.specs.Names.{IsTableName, table_name_of}
use Rattle.clog_base.specs.declared.cell.Cell.{Cell}
use Rattle.clog_base.specs.declared.cell.CellKey.{CellKey}
use Rattle.clog_base.specs.declared.cell.Table.{Table}
use Rattle.clog_base.specs.declared.position.Position.{Position}
use Rattle.clog_base.proofs.Members.{first_or_further, further, here, nothing_there}
use Rattle.clog_base.proofs.NameLaws.{one_table}
use Rattle.clog_cells.specs.Merge.{part_on}
use Rattle.clog_cells.proofs.Parts.{members_of_part}
use Rattle.clog_disk.specs.Files.{Files, MayPutAt, PutsAt, Told, bytes_at}
use Rattle.clog_disk.proofs.Named.{put_here, same_or_other}
use Rattle.clog_disk.specs.Images.{IsImage}
use Rattle.clog_table.specs.declared.table_file.TableFile.{TableFile}
use Rattle.clog_table.specs.Format.{file_of}
use Rattle.clog_table.specs.Refusals.{IsFileOf}
use Rattle.clog_crash.specs.Flush.{IsNewFile, IsSameFolder}
use Rattle.clog_crash.specs.Folder.{IsBase, IsHeld}
use Rattle.clog_crash.specs.Readings.{IsLoggedCellIn}
use Rattle.clog_crash.specs.Recovery.{IsLiveOf, IsRecoveryFile}
use Rattle.clog_crash.specs.Restore.{IsUndamaged}
use Rattle.clog_crash.proofs.flush.NewFile.{beside, new_puts, no_segment, reads_new}
use Rattle.clog_crash.proofs.flush.Recovered.{
  file_comes,
  same_itself,
  same_then,
  settled_images,
}
use Rattle.clog_crash.proofs.recovery.Filed.{filed_next, next_is_true, none_filed}
use Rattle.clog_crash.proofs.rest.Standing.{reads_same}
use Rattle.clog_folder.specs.declared.fault.OpenFault.{OpenFault}
use Rattle.clog_folder.specs.declared.fault.OpenFault.TheVariants.{Disk, OutOfMemory}
use Rattle.clog_folder.proofs.Listed.{listed_of}
use Rattle.replay_merge.specs.Logged.{start}
use Rattle.clog_segments.specs.Beside.{StayButOne}
use Rattle.clog_segments.specs.Coming.{IsRecovering, MayComeHere, MayComeTo}
use Rattle.clog_segments.specs.Filing.{
  AreRecoveryPuts,
  FiledBy,
  FiledNow,
  IsFiledTo,
  IsFullFolder,
  IsReady,
  IsRecoveryPut,
  SettledTo,
  StepCause,
}
use Rattle.clog_segments.specs.Named.{HasSequence, OneHas}
use Rattle.clog_segments.proofs.Live.{part_is_live, row_has}

abbrev Pairs : Type 0
Pairs = List (CellKey × Cell)

absent_of : (o : Option (List ℕ)) → (IsSome o → ⊥) → o ≡ None
absent_of None refused = refl
absent_of (Some b) refused = absurd (refused refl)

-- ---- before the first

pub filed_none : (first : Files) (cells : Pairs) → IsUndamaged first
    → IsFiledTo first cells 0 first
filed_none first cells undamaged = record {
  done = [];
  filed = none_filed (bytes_at first);
  below = λ table there. absurd (nothing_there table there);
  all = λ pair there low. absurd (omega (arith, low));
  same = same_itself first undamaged;
  free = λ table sequence low named. refl;
  segments = λ name version id named. refl;
  stand = λ name bytes there. there;
  came = λ name bytes there absent.
      let no : Some bytes ≡ None = sym there ∙ absent in
      cc;
}

module _ (first : Files) (names : List (List ℕ)) (cells : Pairs) (top : Position)
    (ready : IsReady first names cells top) (table : Table) where
  abbrev part : Pairs
  part = part_on table cells

  abbrev file : TableFile
  file = file_of table start top part

  -- ---- a table that has no cells

  pub filed_same : (now : Files) → part ≡ [] → IsFiledTo first cells table.0 now
      → IsFiledTo first cells (table.0 + 1) now
  filed_same now empty so_far = record {
    done = so_far.done;
    filed = so_far.filed;
    below = λ other there. let low = so_far.below other there in omega (arith, low);
    all = λ pair there low. elim (cases_lt pair.0.table.0 table.0) [
      | inl less ↦ so_far.all pair there (omega (arith, less))
      | inr up ↦
          let same : pair.0.table ≡ table =
          (let is : pair.0.table.0 ≡ table.0 = omega (arith, up, low) in
          λ i. record { 0 = is i }) in
          absurd (nothing_there pair (subst (λ (l : Pairs). Contains l pair) empty
          ((members_of_part table cells pair).1 (there, same))))
    ];
    same = so_far.same;
    free = λ other sequence low named.
        so_far.free other sequence (omega (arith, low)) named;
    segments = so_far.segments;
    stand = so_far.stand;
    came = so_far.came;
  }

  -- ---- the file of a table that has some

  module _ (some : CellKey × Cell) (there : Contains part some) where
    lives : (pair : CellKey × Cell) → Contains part pair → IsLoggedCellIn (bytes_at first) pair
    lives pair in_part =
        row_has (IsLoggedCellIn (bytes_at first)) cells pair ready.live
        ((members_of_part table cells pair).0 in_part).0

    pub is_recovery_file : IsRecoveryFile (bytes_at first) file
    is_recovery_file = record {
      from_start = refl;
      to_end = ready.greatest some (lives some there);
      cells = part_is_live (IsLoggedCellIn (bytes_at first)) (IsLiveOf (bytes_at first) table)
          table cells
          (λ pair c same. record { cell = c; same_table = same })
          (λ pair l. (l.cell, l.same_table)) ready.live;
    }

    module _ (now : Files) (so_far : IsFiledTo first cells table.0 now) (sequence : ℕ)
        (bytes : List ℕ) (spelled : IsFileOf table bytes file)
        (next : IsBase (OneHas (HasSequence table) names) 1 sequence)
        (fits : sequence < 2 ^ 63) where
      abbrev name : List ℕ
      name = table_name_of table.0 sequence

      abbrev later : Files
      later = finmap.insert now name bytes

      pub named : IsTableName name table.0 sequence
      named = record {
        form = refl;
        table_fits = spelled.is_file.table;
        sequence_starts = next.moment;
        sequence_fits = fits;
      }

      not_there : IsHeld first name → ⊥
      not_there held =
          let low = next.above sequence (name, listed_of first names ready.lists name held, named)
          in omega (arith, low)

      not_done : Contains so_far.done table → ⊥
      not_done done = let low = so_far.below table done in omega (arith, low)

      free_first : finmap.get first name ≡ None
      free_first = absent_of (finmap.get first name) not_there

      pub is_put : IsRecoveryPut first name bytes
      is_put = record {
        file = file;
        sequence = sequence;
        named = named;
        next = subst (λ (ns : List (List ℕ)). IsBase (OneHas (HasSequence table) ns) 1 sequence)
            ready.lists next;
        spelled = spelled;
        free = free_first;
        is_recovery_file = is_recovery_file;
        some = let has = there.1 in omega (arith, has);
      }

      pub is_new : IsNewFile now (bytes_at now) file sequence bytes
      is_new = record {
        named = named;
        spelled = spelled;
        free = so_far.free table sequence (omega arith) named ∙ free_first;
        is_true = next_is_true (bytes_at first) (bytes_at now) so_far.done file so_far.filed
            not_done is_recovery_file;
      }

      off : (n : List ℕ) → (n ≡ name → ⊥) → finmap.get later n ≡ finmap.get now n
      off = beside now (bytes_at now) file sequence bytes is_new

      -- it has come
      pub filed_more : IsFiledTo first cells (table.0 + 1) later
      filed_more = record {
        done = table ∷ so_far.done;
        filed = filed_next (bytes_at first) (bytes_at now) (bytes_at later) so_far.done file
            sequence so_far.filed is_recovery_file
            (new_puts now (bytes_at now) file sequence bytes is_new (bytes_at later)
            (λ n apart. reads_same now later n (off n apart)) refl
            (reads_new now (bytes_at now) file sequence bytes is_new));
        below = λ other listed. elim (first_or_further table so_far.done other listed) [
          | inl same ↦ let is = ap (λ (t : Table). t.0) same in omega (arith, is)
          | inr before ↦ let low = so_far.below other before in omega (arith, low)
        ];
        all = λ pair listed low. elim (cases_lt pair.0.table.0 table.0) [
          | inl less ↦ further table so_far.done pair.0.table
              (so_far.all pair listed (omega (arith, less)))
          | inr up ↦
              let is : table.0 ≡ pair.0.table.0 = omega (arith, up, low) in
              subst (Contains (table ∷ so_far.done)) (λ i. record { 0 = is i })
              (here table so_far.done)
        ];
        same = same_then first now later so_far.same
            (file_comes now file sequence bytes so_far.same.undamaged is_new);
        free = λ other number low its.
            off (table_name_of other.0 number) (λ same.
            let one = one_table name table.0 sequence other.0 number named
            (subst (λ (n : List ℕ). IsTableName n other.0 number) same its) in
            absurd (omega (arith, low, one.0)))
            ∙ so_far.free other number (omega (arith, low)) its;
        segments = λ n version id is.
            off n (no_segment now (bytes_at now) file sequence bytes is_new n version id is)
            ∙ so_far.segments n version id is;
        stand = λ n b there.
            off n (λ same.
            let no : Some b ≡ None =
            sym there ∙ ap (finmap.get first) same ∙ free_first in
            cc)
            ∙ so_far.stand n b there;
        came = λ n b there absent. elim (same_or_other n name) [
          | inl same ↦
              let is : Some bytes ≡ Some b =
              sym (put_here now name bytes) ∙ ap (finmap.get later) (sym same) ∙ there in
              subst (λ (m : List ℕ). IsRecoveryPut first m b) (sym same)
              (subst (IsRecoveryPut first name) (ap (λ (o : Option (List ℕ)). unwrap_or o []) is)
              is_put)
          | inr apart ↦ so_far.came n b (sym (off n apart) ∙ there) absent
        ];
      }

-- ---- where the disk tells its files

some_member : {A : Type 0} (l : List A) → (length l ≡ 0 → ⊥) → (x : A) × Contains l x
some_member [] none = absurd (none refl)
some_member (x ∷ xs) none = (x, here x xs)

module _ {first : Files} {names : List (List ℕ)} {cells : Pairs} {top : Position}
    (ready : IsReady first names cells top) (table : Table) where
  -- no file is wanted
  pub none_filed_now : (told : Option Files) → part_on table cells ≡ []
      → FiledNow first cells table.0 told → FiledNow first cells (table.0 + 1) told
  none_filed_now None empty is = absurd is
  none_filed_now (Some now) empty is = filed_same first names cells top ready table now empty is

  pub none_settled_now : (told : Option Files) (leaves : List ℕ → Option (List ℕ) → Type 0)
      → part_on table cells ≡ [] → SettledTo first cells table.0 told leaves
      → SettledTo first cells (table.0 + 1) told leaves
  none_settled_now None leaves empty is = absurd is
  none_settled_now (Some now) leaves empty is =
      (filed_same first names cells top ready table now empty is.0, is.1)

-- A table's file that is to be put: it has cells, these bytes spell it, and its sequence is the
-- next one of the table.
pub record IsNextFile (names : List (List ℕ)) (cells : Pairs) (top : Position) (table : Table)
    (sequence : ℕ) (bytes : List ℕ) : Type 0 where
  pub some : length (part_on table cells) ≡ 0 → ⊥
  pub spelled : IsFileOf table bytes (file_of table start top (part_on table cells))
  pub next : IsBase (OneHas (HasSequence table) names) 1 sequence
  pub fits : sequence < 2 ^ 63

-- by the cells that were built, whose count is known, and the bytes that were made of them
pub next_file : (names : List (List ℕ)) (cells : Pairs) (top : Position) (table : Table)
    {built : Pairs} {count sequence : ℕ} {items bytes : List ℕ} → built ≡ part_on table cells
    → count ≡ length built → (count ≡ 0 → ⊥) → bytes ≡ items
    → IsFileOf table items (file_of table start top built)
    → IsBase (OneHas (HasSequence table) names) 1 sequence → sequence < 2 ^ 63
    → IsNextFile names cells top table sequence bytes
next_file names cells top table {items} is counted some same spelled next fits = record {
  some = λ none. some (counted ∙ ap length is ∙ none);
  spelled =
      subst (λ (b : List ℕ). IsFileOf table b (file_of table start top (part_on table cells)))
      (sym same)
      (subst (λ (l : Pairs). IsFileOf table items (file_of table start top l)) is spelled);
  next = next;
  fits = fits;
}

module _ {first : Files} {names : List (List ℕ)} {cells : Pairs} {top : Position}
    (ready : IsReady first names cells top) {table : Table} {sequence : ℕ} {bytes : List ℕ}
    (is_next : IsNextFile names cells top table sequence bytes) where
  abbrev put : TableFile
  put = file_of table start top (part_on table cells)

  member : (x : CellKey × Cell) × Contains (part_on table cells) x
  member = some_member (part_on table cells) is_next.some

  is_new_now : (now : Files) → IsFiledTo first cells table.0 now
      → IsNewFile now (bytes_at now) put sequence bytes
  is_new_now now so_far =
      is_new first names cells top ready table member.0 member.1 now so_far sequence bytes
      is_next.spelled is_next.next is_next.fits

  pub put_filed : (told now : Option Files) → FiledNow first cells table.0 told
      → PutsAt told now (table_name_of table.0 sequence) (Some bytes)
      → FiledNow first cells (table.0 + 1) now
  put_filed None now is puts = absurd is
  put_filed (Some f) now is puts =
      subst (λ (o : Option Files). FiledNow first cells (table.0 + 1) o) (sym puts)
      (filed_more first names cells top ready table member.0 member.1 f is sequence bytes
      is_next.spelled is_next.next is_next.fits)

  pub is_put_now : (told : Option Files) → FiledNow first cells table.0 told
      → IsRecoveryPut first (table_name_of table.0 sequence) bytes
  is_put_now None is = absurd is
  is_put_now (Some now) is =
      is_put first names cells top ready table member.0 member.1 now is sequence bytes
      is_next.spelled is_next.next is_next.fits

  pub named_now : (told : Option Files) → FiledNow first cells table.0 told
      → IsTableName (table_name_of table.0 sequence) table.0 sequence
  named_now None is = absurd is
  named_now (Some now) is =
      named first names cells top ready table member.0 member.1 now is sequence bytes
      is_next.spelled is_next.next is_next.fits

  -- what came, where it was perhaps put
  came_after : (f : Files) (now : Option Files) → IsFiledTo first cells table.0 f
      → MayPutAt (Some f) now (table_name_of table.0 sequence) (Some bytes)
      → Told now (AreRecoveryPuts first)
  came_after f now filed maybe = elim maybe [
    | inl still ↦
        subst (λ (o : Option Files). Told o (AreRecoveryPuts first)) (sym still) filed.came
    | inr puts ↦
        subst (λ (o : Option Files). Told o (AreRecoveryPuts first)) (sym puts)
        (filed_more first names cells top ready table member.0 member.1 f filed sequence
        bytes is_next.spelled is_next.next is_next.fits).came
  ]

  stays_with : (f : Files) (now : Option Files) → IsFiledTo first cells table.0 f
      → Told now (λ g. (other : List ℕ) → (other ≡ table_name_of table.0 sequence → ⊥)
      → finmap.get g other ≡ finmap.get f other) → Told now (AreRecoveryPuts first)
      → Told now (IsSameFolder first) → Told now (IsFullFolder first)
  stays_with f None filed others came same = absurd same
  stays_with f (Some g) filed others came same = (
    same,
    λ other its there.
        others other (λ e.
        let no : Some its ≡ None =
        sym there ∙ ap (finmap.get first) e ∙ (is_put_now (Some f) filed).free in
        cc)
        ∙ filed.stand other its there,
    came,
  )

  -- it was refused
  pub refused_filed : (told now : Option Files) → FiledNow first cells table.0 told
      → StayButOne (table_name_of table.0 sequence) told now
      → MayPutAt told now (table_name_of table.0 sequence) (Some bytes)
      → Told now (IsSameFolder first) → Told now (IsFullFolder first)
  refused_filed None now is stay maybe same = absurd is
  refused_filed (Some f) now is stay maybe same =
      stays_with f now is (stay f refl) (came_after f now is maybe) same

  pub may_come_to : (told : Option Files) → FiledNow first cells table.0 told
      → MayComeTo first told put sequence bytes
  may_come_to None is = absurd is
  may_come_to (Some now) is = (is.same, is_new_now now is)

  pub may_come_here : (told : Option Files) (leaves : List ℕ → Option (List ℕ) → Type 0)
      → SettledTo first cells table.0 told leaves
      → MayComeHere first told leaves put sequence bytes
  may_come_here None leaves is = absurd is
  may_come_here (Some now) leaves is = (is.1, is.0.same, is_new_now now is.0)

pub settled_with : (first : Files) (cells : Pairs) (n : ℕ) (told : Option Files)
    (leaves : List ℕ → Option (List ℕ) → Type 0) → FiledNow first cells n told
    → IsRecovering first told leaves [] → SettledTo first cells n told leaves
settled_with first cells n None leaves filed is = absurd filed
settled_with first cells n (Some now) leaves filed is = (filed, is.0)

nothing_of : (l : Pairs) → length l ≡ 0 → l ≡ []
nothing_of [] none = refl
nothing_of (x ∷ xs) none = cc

pub none_of : (table : Table) (cells : Pairs) {built : Pairs} {n : ℕ}
    → built ≡ part_on table cells → n ≡ length built → n ≡ 0 → part_on table cells ≡ []
none_of table cells is count none =
    nothing_of (part_on table cells) (sym (ap length is) ∙ sym count ∙ none)

pub filed_told : (first : Files) (cells : Pairs) (n : ℕ) (told : Option Files)
    (leaves : List ℕ → Option (List ℕ) → Type 0) → SettledTo first cells n told leaves
    → FiledNow first cells n told
filed_told first cells n None leaves is = absurd is
filed_told first cells n (Some now) leaves is = is.0

pub settled_show : (first : Files) (cells : Pairs) (n : ℕ) (told : Option Files)
    (leaves : List ℕ → Option (List ℕ) → Type 0) → SettledTo first cells n told leaves
    → (image : Files) → IsImage leaves image → IsSameFolder first image
settled_show first cells n None leaves is image left = absurd is
settled_show first cells n (Some now) leaves is image left =
    same_then first now image is.0.same (settled_images now leaves is.1 image left)

pub still_full : (first : Files) (cells : Pairs) (n : ℕ) (told : Option Files)
    → FiledNow first cells n told → Told told (IsFullFolder first)
still_full first cells n None is = absurd is
still_full first cells n (Some now) is = (is.same, is.stand, is.came)

-- a step was refused that has done nothing
pub still_by : {T : Type 0} (first : Files) (cells : Pairs) (n : ℕ) (told : Option Files)
    (r : Result T OpenFault) → IsErr r → FiledNow first cells n told
    → FiledBy first cells (n + 1) told r
still_by first cells n told (Ok x) refused filed = cc
still_by first cells n told (Err fault) refused filed = still_full first cells n told filed

-- a step behind others that counted no fault
pub cause_from : (first before now : ℕ) (fault : OpenFault) → before ≡ first
    → StepCause {T = Unit {0}} before now (Err fault)
    → StepCause {T = Unit {0}} first now (Err fault)
cause_from first before now Disk same cause = omega (arith, same, cause)
cause_from first before now OutOfMemory same cause = cause ∙ same
cause_from first before now other same cause = absurd cause
