-- The segments of a folder go, once table files stand for all of its log.
use Rattle.std.proofs.Common.{
  ◌≡◌,
  ℕ,
  ◌<◌,
  List,
  [],
  ◌∷◌,
  map,
  Option,
  Some,
  None,
  Contains,
  refl,
  sym,
  ap,
  subst,
  ◌∙◌,
  inl,
  inr,
}
use Rattle.std.specs.Prelude.{IsSome, ◌^◌}
use Rattle.std.specs.FinMap as finmap
use Rattle.std.specs.Cmp.{eq_by_cmp_equiv}
use Rattle.std.specs.declared.cmp.Ordering.TheVariants.{Less}
use Rattle.std.specs.List.{AllByRecursion}
use Rattle.std.specs.List.Sorted.{IsStrictlySortedBy}
use Rattle.std.specs.Map.{keys_of}
use Rattle.std.specs.Ordering.{is_eq}
use Rattle.std.proofs.lemmas.Bool.{true≢false}
use Rattle.std.proofs.lemmas.Map.Keys.{sorted_head, sorted_tail}
use Rattle.std.proofs.lemmas.Map.Views.{Contains-from_lookup}
use Rattle.clog_spec.specs.Names.{IsSegmentName, IsTableName, segment_name_of, table_name_of}
use Rattle.clog_spec.specs.Sizes.{most_tables}
use Rattle.clog_base.specs.declared.cell.Cell.{Cell}
use Rattle.clog_base.specs.declared.cell.CellKey.{CellKey}
use Rattle.clog_base.specs.declared.position.Position.{Position}
use Rattle.clog_base.proofs.Members.{
  all_have,
  first_or_further,
  from_map,
  further,
  here,
  in_map,
  nothing_there,
}
use Rattle.clog_base.proofs.NameLaws.{one_segment, segment_is_no_other}
use Rattle.clog_cells.specs.Merge.{IsNewestAmong, found_at}
use Rattle.clog_cells.proofs.Orders.{one_key}
use Rattle.clog_disk.specs.Files.{Files, bytes_at}
use Rattle.clog_disk.proofs.Named.{gone_there}
use Rattle.clog_mutation.specs.Payload.{pair_of}
use Rattle.clog_mutation.specs.Stored.{IsStoredUpdate}
use Rattle.clog_table.specs.declared.table_file.TableFile.{TableFile}
use Rattle.clog_table.specs.Refusals.{IsFileOf}
use Rattle.clog_crash.specs.Flush.{AllCovered, IsCoveredHere, IsSameFolder}
use Rattle.clog_crash.specs.Folder.{HasSegmentFile, IsHeld}
use Rattle.clog_crash.specs.Readings.{IsLoggedCellIn, IsTableIn}
use Rattle.clog_crash.specs.Recovery.{AreAllLive, NamesAny}
use Rattle.clog_crash.proofs.changes.Names.{is_named}
use Rattle.clog_crash.proofs.flush.Goes.{not_gone}
use Rattle.clog_crash.proofs.flush.Recovered.{
  same_itself,
  same_then,
  segment_goes,
  still_covered,
}
use Rattle.clog_crash.proofs.recovery.Below.{recovered_is_below}
use Rattle.clog_crash.proofs.recovery.Filed.{all_covered}
use Rattle.clog_crash.proofs.rest.Standing.{reads_same}
use Rattle.clog_folder.specs.Listing.{SegmentPlace, segment_cmp}
use Rattle.clog_folder.proofs.Rows.{segment_places}
use Rattle.clog_segments.specs.Coming.{AreThere, without}
use Rattle.clog_segments.specs.Filing.{IsFiledTo, IsReady}
use Rattle.clog_segments.specs.Named.{AreSegmentIds, id_of}
use Rattle.clog_segments.specs.Opened.{IsRecovered}

abbrev Pairs : Type 0
Pairs = List (CellKey × Cell)

-- ---- table files stand for all of the log

-- a cell that is logged is of one of the tables
pub table_there : (r : List ℕ → List ℕ) (pair : CellKey × Cell) → IsLoggedCellIn r pair
    → pair.0.table.0 < most_tables
table_there r pair c =
    let m = c.cell.mutation in
    let u = from_map (pair_of m.key) m.updates pair c.cell.listed in
    let stored : IsStoredUpdate u.0 =
    all_have IsStoredUpdate m.updates u.0 c.cell.said.stored.updates u.1 in
    subst (λ (p : CellKey × Cell). p.0.table.0 < most_tables) u.2 stored.table

-- it stands among the rows, by its key
pub row_of : (P : CellKey × Cell → Type 0) (rows : Pairs) (key : CellKey) (cell : Cell)
    (found : Option Cell) → found_at rows key ≡ found → IsNewestAmong P key found → P (key, cell)
    → (other : Cell) × Contains rows (key, other)
row_of P rows key cell None is newest p = absurd (newest cell p)
row_of P rows key cell (Some other) is newest p =
    (other, Contains-from_lookup one_key key other rows is)

module _ (first : Files) (names : List (List ℕ)) (cells : Pairs) (top : Position)
    (ready : IsReady first names cells top) (now : Files)
    (filed : IsFiledTo first cells most_tables now) where
  all_live : AreAllLive (bytes_at first) filed.done
  all_live pair c =
      let row = row_of (IsLoggedCellIn (bytes_at first)) cells pair.0 pair.1
      (found_at cells pair.0) refl (ready.live.newest pair.0) c in
      filed.all (pair.0, row.0) row.1 (table_there (bytes_at first) pair c)

  pub covered : (id : ℕ) → id < 2 ^ 63 → IsCoveredHere now id
  covered id fits = record {
    fits = fits;
    covered = all_covered (bytes_at first) (bytes_at now) filed.done id filed.filed all_live
        ready.decides;
  }

-- ---- segments go, one after another

pub all_gone : (f : Files) (ids : List ℕ) → IsSameFolder f f → AllCovered f ids
    → IsSameFolder f (without f ids)
all_gone f [] same all = same
all_gone f (id ∷ ids) same all =
    let u = segment_name_of 6 id in
    let here_covered = all id (here id ids) in
    let gone = segment_goes f id same.undamaged here_covered in
    let h = finmap.remove f u in
    same_then f h (without h ids) gone
    (all_gone h ids (same_itself h gone.undamaged) (λ other listed.
    still_covered f id same.undamaged here_covered other
    (all other (further id ids other listed))))

-- what is there afterwards was there before
pub still_there : (f : Files) (ids : List ℕ) (name : List ℕ) → IsHeld (without f ids) name
    → IsHeld f name
still_there f [] name held = held
still_there f (id ∷ ids) name held =
    let u = segment_name_of 6 id in
    let before : IsHeld (finmap.remove f u) name =
    still_there (finmap.remove f u) ids name held in
    subst (λ (o : Option (List ℕ)). IsSome o) (gone_there f u name (not_gone f u name before))
    before

-- and it stands as it did
pub was_there : (f : Files) (ids : List ℕ) (name bytes : List ℕ)
    → finmap.get (without f ids) name ≡ Some bytes → finmap.get f name ≡ Some bytes
was_there f [] name bytes there = there
was_there f (id ∷ ids) name bytes there =
    let u = segment_name_of 6 id in
    let before = was_there (finmap.remove f u) ids name bytes there in
    sym (gone_there f u name (not_gone f u name
    (subst (λ (o : Option (List ℕ)). IsSome o) (sym before) refl)))
    ∙ before

-- none of them is there
pub none_there : (f : Files) (ids : List ℕ) (id : ℕ) → Contains ids id
    → IsHeld (without f ids) (segment_name_of 6 id) → ⊥
none_there f [] id listed held = nothing_there id listed
none_there f (first ∷ ids) id listed held = elim (first_or_further first ids id listed) [
  | inl same ↦
      let u = segment_name_of 6 first in
      let before : IsHeld (finmap.remove f u) (segment_name_of 6 id) =
      still_there (finmap.remove f u) ids (segment_name_of 6 id) held in
      not_gone f u (segment_name_of 6 id) before (ap (segment_name_of 6) (sym same))
  | inr more ↦ none_there (finmap.remove f (segment_name_of 6 first)) ids id more held
]

-- a name that is none of theirs reads as before
pub stays : (f : Files) (ids : List ℕ) (name : List ℕ)
    → ((id : ℕ) → Contains ids id → name ≡ segment_name_of 6 id → ⊥)
    → finmap.get (without f ids) name ≡ finmap.get f name
stays f [] name apart = refl
stays f (id ∷ ids) name apart =
    let u = segment_name_of 6 id in
    stays (finmap.remove f u) ids name (λ other listed. apart other (further id ids other listed))
    ∙ gone_there f u name (apart id (here id ids))

-- ---- the ids are those of the segments

module _ (P : List ℕ → Type 0) (ids : List ℕ) (is : AreSegmentIds P ids) where
  pub id_listed : (name : List ℕ) (version id : ℕ) → P name → IsSegmentName name version id
      → Contains ids id
  id_listed name version id p named =
      subst (λ (l : List ℕ). Contains l id) (sym is.ids_are)
      (in_map id_of is.rows ((id, version), name) (is.are.every (id, version) name p named))

  pub listed_id : (id : ℕ) → Contains ids id
      → (name : List ℕ) × ((version : ℕ) × P name × IsSegmentName name version id)
  listed_id id listed =
      let row = from_map id_of is.rows id
      (subst (λ (l : List ℕ). Contains l id) is.ids_are listed) in
      let each = is.are.each row.0.0 row.0.1 row.1 in (
        row.0.1,
        (
          row.0.0.1,
          each.0,
          subst (λ (n : ℕ). IsSegmentName row.0.1 row.0.0.1 n) row.2 each.1,
        ),
      )

-- ---- the recovered folder

module _ (first : Files) (names : List (List ℕ)) (cells : Pairs) (top : Position)
    (ready : IsReady first names cells top) (now : Files)
    (filed : IsFiledTo first cells most_tables now) (ids : List ℕ)
    (are : AreSegmentIds (Contains names) ids)
    (held_of : (name : List ℕ) → Contains names name → IsHeld first name)
    (listed_of : (name : List ℕ) → IsHeld first name → Contains names name) where
  pub all_ids_covered : AllCovered now ids
  all_ids_covered id listed =
      let name = listed_id (Contains names) ids are id listed in
      covered first names cells top ready now filed id name.1.2.id_fits

  abbrev end : Files
  end = without now ids

  none_left : HasSegmentFile end → ⊥
  none_left has =
      let name = has.0 in
      let version = has.2.0 in
      let id = has.2.1.0 in
      let named = has.2.1.1 in
      let before : IsHeld now name = still_there now ids name has.1 in
      let at_first : IsHeld first name =
      subst (λ (o : Option (List ℕ)). IsSome o) (filed.segments name version id named) before in
      let six = (ready.undamaged.segments name version id named at_first).0 in
      let form : name ≡ segment_name_of 6 id =
      named.form ∙ ap (λ (v : ℕ). segment_name_of v id) six in
      none_there now ids id
      (id_listed (Contains names) ids are name version id (listed_of name at_first) named)
      (subst (IsHeld end) form has.1)

  table_before : (file : TableFile) → IsTableIn (bytes_at end) file → IsTableIn (bytes_at now) file
  table_before file t =
      let name = table_name_of file.table.0 t.sequence in
      record {
        sequence = t.sequence;
        named = t.named;
        spelled = subst (λ (b : List ℕ). IsFileOf file.table b file)
            (reads_same now end name (stays now ids name (λ id listed same.
            let s = listed_id (Contains names) ids are id listed in
            (segment_is_no_other (segment_name_of 6 id) 6 id (is_named id s.1.2.id_fits)).1
            file.table.0 t.sequence
            (subst (λ (n : List ℕ). IsTableName n file.table.0
            t.sequence) same t.named)))) t.spelled;
      }

  pub is_recovered : (base : ℕ) → ((n : ℕ) → NamesAny first n → n < base)
      → IsRecovered first base end
  is_recovered base above = record {
    same = same_then first now end filed.same
        (all_gone now ids (same_itself now filed.same.undamaged) all_ids_covered);
    no_segment = none_left;
    others = λ name bytes apart there.
        stays now ids name (λ id listed same.
        let s = listed_id (Contains names) ids are id listed in
        apart (
          6,
          (
            id,
            subst (λ (n : List ℕ). IsSegmentName n 6 id) (sym same)
                (is_named id s.1.2.id_fits),
          ),
        ))
        ∙ filed.stand name bytes there;
    came = λ name bytes there. filed.came name bytes (was_there now ids name bytes there);
    below = λ file t. recovered_is_below first (bytes_at now) filed.done base filed.filed above
        file (table_before file t);
  }

-- ---- each is there when its turn comes

not_below_itself : (place : SegmentPlace) → segment_cmp place place ≡ Less → ⊥
not_below_itself place less =
    true≢false (sym ((eq_by_cmp_equiv segment_places.total).refl place) ∙ ap is_eq less)

-- what is known of each place
abbrev pub IsRowOf : Files → SegmentPlace × List ℕ → Type 0
IsRowOf files row =
    (row.0.1 ≡ 6) × (row.0.0 < 2 ^ 63) × IsHeld files (segment_name_of 6 row.0.0)

apart_names : (p q : SegmentPlace) → p.1 ≡ 6 → q.1 ≡ 6 → p.0 < 2 ^ 63 → q.0 < 2 ^ 63
    → segment_cmp p q ≡ Less → segment_name_of 6 q.0 ≡ segment_name_of 6 p.0 → ⊥
apart_names p q six six' fits fits' less same =
    let id = (one_segment (segment_name_of 6 q.0) 6 q.0 6 p.0 (is_named q.0 fits')
    (subst (λ (n : List ℕ). IsSegmentName n 6 p.0) (sym same) (is_named p.0 fits))).1 in
    not_below_itself p
    (subst (λ (x : SegmentPlace). segment_cmp p x ≡ Less) (λ i. (id i, (six' ∙ sym six) i)) less)

below_first : (p : SegmentPlace) (rows : List (SegmentPlace × List ℕ))
    → AllByRecursion (λ y. segment_cmp p y ≡ Less) (keys_of rows)
    → (row : SegmentPlace × List ℕ) → Contains rows row → segment_cmp p row.0 ≡ Less
below_first p [] all row there = absurd (nothing_there row there)
below_first p (first ∷ rows) all row there = elim (first_or_further first rows row there) [
  | inl same ↦ subst (λ (r : SegmentPlace × List ℕ). segment_cmp p r.0 ≡ Less) same all.0
  | inr more ↦ below_first p rows all.1 row more
]

rows_there : (files : Files) (rows : List (SegmentPlace × List ℕ))
    → IsStrictlySortedBy segment_cmp (keys_of rows)
    → ((row : SegmentPlace × List ℕ) → Contains rows row → IsRowOf files row)
    → AreThere files (map id_of rows)
rows_there files [] sorted are = tt
rows_there files (row ∷ rows) sorted are =
    let this = are row (here row rows) in
    let u = segment_name_of 6 row.0.0 in (
      this.2,
      rows_there (finmap.remove files u) rows
          (sorted_tail segment_cmp row.0 (keys_of rows) sorted)
          (λ other listed.
          let that = are other (further row rows other listed) in (
            that.0,
            that.1,
            subst (λ (o : Option (List ℕ)). IsSome o)
                (sym (gone_there files u (segment_name_of 6 other.0.0)
                (apart_names row.0 other.0 this.0 that.0 this.1 that.1
                (below_first row.0 rows (sorted_head segment_cmp row.0 (keys_of rows) sorted)
                other listed)))) that.2,
          )),
    )

pub are_there : (first now : Files) (P : List ℕ → Type 0) (ids : List ℕ) → AreSegmentIds P ids
    → ((name : List ℕ) (version id : ℕ) → P name → IsSegmentName name version id
    → (version ≡ 6) × IsHeld now name)
    → AreThere now ids
are_there first now P ids is six =
    subst (AreThere now) (sym is.ids_are) (rows_there now is.rows is.are.ordered (λ row listed.
    let each = is.are.each row.0 row.1 listed in
    let has = six row.1 row.0.1 row.0.0 each.0 each.1 in (
      has.0,
      each.1.id_fits,
      subst (IsHeld now)
          (each.1.form ∙ ap (λ (v : ℕ). segment_name_of v row.0.0) has.0) has.1,
    )))
