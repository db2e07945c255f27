-- A folder is a store's still once a table file has come.
use Rattle.std.proofs.Common.{
  ◌≡◌,
  ℕ,
  ◌+◌,
  ◌<◌,
  ◌≤◌,
  ◌^◌,
  List,
  [],
  ◌∷◌,
  ◌++◌,
  length,
  get_or,
  Some,
  None,
  Contains,
  refl,
  sym,
  ap,
  subst,
  ◌∙◌,
  inl,
  inr,
  arith,
  append-nil,
  length-append,
}
use Rattle.std.specs.Prelude.{◌==◌, Bool, if◌then◌else◌, IsSome, is_some}
use Rattle.std.specs.FinMap as finmap
use Rattle.std.proofs.lemmas.Bool.{eq-eqb}
use Rattle.std.proofs.lemmas.Bool.Decides.{eqb_tells}
use Rattle.std.proofs.lemmas.List.{get_or_default, length-map, map-append}
use Rattle.std.proofs.lemmas.List.Elements.{
  Contains-append_left,
  Contains-push,
  Contains-push_cases,
}
use Rattle.std.proofs.lemmas.List.Quantifiers.{all_pairs_push}
use Rattle.clog_spec.specs.Names.{IsTableName}
use Rattle.clog_base.specs.declared.cell.Table.{Table}
use Rattle.clog_base.proofs.NameLaws.{one_table}
use Rattle.clog_disk.specs.Files.{Files}
use Rattle.clog_disk.proofs.Named.{put_here, put_there, same_or_other}
use Rattle.clog_table.specs.Refusals.{IsFileOf}
use Rattle.clog_crash.specs.Folder.{IsBase, IsHeld}
use Rattle.clog_folder.proofs.Listed.{held_of, listed_of}
use Rattle.path_core.specs.declared.note.EntryNote.{EntryNote}
use Rattle.path_core.specs.Keeper.{PutFile, upper_from}
use Rattle.clog_segments.specs.Named.{HasSequence, OneHas, sequence_limit}
use Rattle.clog_segments.specs.OnDisk.{file_on}
use Rattle.clog_segments.specs.StoreFolder.{
  Deeds,
  GoesOn,
  HoldsStore,
  IsEarlier,
  IsFiledByAll,
  IsNextFile,
  IsNextOf,
  IsPlacedAt,
  IsRow,
  IsTableRow,
  PlacedFile,
  StoreLog,
  name_of,
  with_file,
}
use Rattle.clog_due.proofs.Cuts.{cut_of, only_cut}
use Rattle.clog_segments.proofs.FolderReads.{absent_or_held, one_or_none}
use Rattle.clog_segments.proofs.FolderNames.{AreBelow, table_elsewhere}
use Rattle.clog_segments.proofs.NextNames.{next_taken}

pub upper_push : (t key : ℕ) (files : List PutFile) (put : PutFile)
    → upper_from t key (files ++ put ∷ [])
    ≡ (if put.table == t then put.upper else upper_from t key files)
upper_push t key [] put = refl
upper_push t key (q ∷ qs) put = upper_push t (if q.table == t then q.upper else key) qs put

module _ (first f : Files) (log : StoreLog) (deeds : Deeds)
    (holds : HoldsStore first log deeds f) (low : AreBelow log) (fits : log.id < 2 ^ 63) where
  abbrev most : ℕ
  most = sequence_limit + 1 + length holds.placed

  -- no table file has a sequence above this
  pub few_sequences : (name : List ℕ) (table sequence : ℕ) → IsTableName name table sequence
      → IsHeld f name → sequence ≤ most
  few_sequences name table sequence named held =
      elim (one_or_none (λ (p : PlacedFile). name ≡ name_of p)
      (λ p. same_or_other name (name_of p)) holds.placed) [
        | inl found ↦
            let p = found.0 in
            let is = holds.are_placed.each p found.1 in
            let same : sequence ≡ p.sequence =
            (one_table name table sequence p.put.table p.sequence named
            (subst (λ (n : List ℕ). IsTableName n p.put.table p.sequence) (sym found.2)
            is.named)).1 in
            omega (arith, same, is.few)
        | inr none ↦
            let before = holds.begun.few name table sequence named
            (subst IsSome
            (table_elsewhere first f log deeds holds low fits name table sequence named none)
            held) in
            omega (arith, before)
      ]

  module _ (p : PlacedFile) (named : IsTableName (name_of p) p.put.table p.sequence)
      (spelled : IsFileOf (file_on log.base p.put).table p.bytes (file_on log.base p.put))
      (next : IsBase (OneHas (HasSequence (file_on log.base p.put).table) (finmap.keys f)) 1
      p.sequence) (few : p.sequence ≤ most + 1)
      (goes_on : p.put.lower ≡ upper_from p.put.table 0 deeds.files)
      (forward : p.put.lower ≤ p.put.upper) where
    abbrev place : List ℕ
    place = name_of p

    abbrev g : Files
    g = finmap.insert f place p.bytes

    abbrev placed_now : List PlacedFile
    placed_now = holds.placed ++ p ∷ []

    above : (name : List ℕ) (n : ℕ) → IsTableName name p.put.table n → IsHeld f name
        → n < p.sequence
    above name n its held = next.above n (name, listed_of f (finmap.keys f) refl name held, its)

    free : finmap.get f place ≡ None
    free = elim (absent_or_held (finmap.get f place)) [
      | inl none ↦ none
      | inr held ↦ absurd (omega (arith, above place p.sequence named held))
    ]

    not_held : (name bytes : List ℕ) → finmap.get f name ≡ Some bytes → name ≡ place → ⊥
    not_held name bytes there same =
        let clash : None ≡ Some bytes =
        sym free ∙ ap (finmap.get f) (sym same) ∙ there in
        cc

    still : (name bytes : List ℕ) → finmap.get f name ≡ Some bytes
        → finmap.get g name ≡ Some bytes
    still name bytes there =
        put_there f place p.bytes name (not_held name bytes there) ∙ there

    rows_put : (name bytes : List ℕ) → IsRow log (with_file deeds p.put) placed_now name bytes
        → finmap.get g name ≡ Some bytes
    rows_put name bytes row = elim row [
      | inl r ↦ still name bytes (holds.stands.rows name bytes (inl r))
      | inr rest ↦ elim rest [
        | inl r ↦ still name bytes (holds.stands.rows name bytes (inr (inl r)))
        | inr r ↦ elim (Contains-push_cases holds.placed p r.file r.among) [
          | inl before ↦ still name bytes (holds.stands.rows name bytes (inr (inr (record {
            file = r.file;
            among = before;
            name_is = r.name_is;
            bytes_are = r.bytes_are;
          }))))
          | inr same ↦
              ap (finmap.get g) (r.name_is ∙ ap name_of (sym same))
              ∙ put_here f place p.bytes
              ∙ ap Some (ap (λ (x : PlacedFile). x.bytes) same ∙ sym r.bytes_are)
        ]
      ]
    ]

    table_row : (name : List ℕ) → name ≡ place → IsTableRow placed_now name p.bytes
    table_row name same = record {
      file = p;
      among = Contains-push holds.placed p;
      name_is = same;
      bytes_are = refl;
    }

    others_put : (name : List ℕ)
        → ((bytes : List ℕ) → IsRow log (with_file deeds p.put) placed_now name bytes → ⊥)
        → finmap.get g name ≡ finmap.get first name
    others_put name none =
        put_there f place p.bytes name (λ same. none p.bytes (inr (inr (table_row name same))))
        ∙ holds.stands.others name (λ bytes row. none bytes (elim row [
          | inl r ↦ inl r
          | inr rest ↦ inr (elim rest [
            | inl r ↦ inl r
            | inr r ↦ inr (record {
              file = r.file;
              among = Contains-append_left holds.placed (p ∷ []) r.file r.among;
              name_is = r.name_is;
              bytes_are = r.bytes_are;
            })
          ])
        ]))

    free_first : finmap.get first place ≡ None
    free_first =
        sym (table_elsewhere first f log deeds holds low fits place p.put.table p.sequence named
        (λ q among same. not_held place q.bytes
        (ap (finmap.get f) same ∙ holds.stands.rows (name_of q) q.bytes (inr (inr (record {
          file = q;
          among = among;
          name_is = refl;
          bytes_are = refl;
        })))) refl)) ∙ free

    -- its sequence is above those of the table's other files
    later_than : (q : PlacedFile) → Contains holds.placed q → IsEarlier q p
    later_than q among same =
        above (name_of q) q.sequence
        (subst (λ (t : ℕ). IsTableName (name_of q) t q.sequence) same
        (holds.are_placed.each q among).named)
        (ap is_some (holds.stands.rows (name_of q) q.bytes (inr (inr (record {
          file = q;
          among = among;
          name_is = refl;
          bytes_are = refl;
        })))))

    -- each has the next sequence behind those before it
    next_placed : (before behind : List PlacedFile) (q : PlacedFile)
        → placed_now ≡ before ++ q ∷ behind → IsNextOf first before q
    next_placed before behind q cut = elim (cut_of holds.placed (p ∷ []) before q behind cut) [
      | inl within ↦ holds.are_placed.next before within.rest q within.is
      | inr last ↦
          let only = only_cut p last.more q behind last.rest_is in
          let all : holds.placed ≡ before =
          sym (append-nil holds.placed)
          ∙ ap (λ (l : List PlacedFile). holds.placed ++ l) only.0 ∙ sym last.front_is in
          let own : IsNextOf first holds.placed p =
          next_taken first f log deeds holds low fits (file_on log.base p.put).table p.sequence
          next in
          subst (λ (l : List PlacedFile). IsNextOf first l q) all
          (subst (λ (x : PlacedFile). IsNextOf first holds.placed x) only.1 own)
    ]

    one_more : length placed_now ≡ length holds.placed + 1
    one_more = omega (arith, length-append holds.placed (p ∷ []))

    each_placed : (q : PlacedFile) → Contains placed_now q
        → IsPlacedAt first log.base (sequence_limit + 1 + length placed_now) q
    each_placed q among = elim (Contains-push_cases holds.placed p q among) [
      | inl before ↦
          let is = holds.are_placed.each q before in
          record {
            named = is.named;
            free = is.free;
            spelled = is.spelled;
            few = omega (arith, is.few, one_more);
          }
      | inr same ↦ subst (IsPlacedAt first log.base (sequence_limit + 1 + length placed_now)) same
          (record {
            named = named;
            free = free_first;
            spelled = spelled;
            few = omega (arith, few, one_more);
          })
    ]

    tiled_put : (put : PutFile) → Contains (with_file deeds p.put).files put
        → put.upper ≤ upper_from put.table 0 (with_file deeds p.put).files
    tiled_put put among =
        let push = upper_push put.table 0 deeds.files p.put in
        elim (Contains-push_cases deeds.files p.put put among) [
          | inl before ↦
              let was = holds.done.tiled put before in
              elim (eqb_tells p.put.table put.table) [
                | inl same ↦
                    let reach = subst (λ (t : ℕ). put.upper ≤ upper_from t 0 deeds.files)
                    (sym same.1) was in
                    let now : upper_from put.table 0 (with_file deeds p.put).files ≡ p.put.upper =
                    push ∙ ap (λ (b : Bool).
                    if b then p.put.upper else upper_from put.table 0 deeds.files) same.0 in
                    omega (arith, now, reach, goes_on, forward)
                | inr other ↦
                    let now : upper_from put.table 0 (with_file deeds p.put).files
                    ≡ upper_from put.table 0 deeds.files =
                    push ∙ ap (λ (b : Bool).
                    if b then p.put.upper else upper_from put.table 0 deeds.files) other.0 in
                    omega (arith, now, was)
              ]
          | inr same ↦
              let now : upper_from p.put.table 0 (with_file deeds p.put).files ≡ p.put.upper =
              upper_push p.put.table 0 deeds.files p.put ∙ ap (λ (b : Bool).
              if b then p.put.upper else upper_from p.put.table 0 deeds.files)
              (eq-eqb p.put.table p.put.table refl) in
              subst (λ (x : PutFile).
              x.upper ≤ upper_from x.table 0 (with_file deeds p.put).files) same
              (omega (arith, now))
        ]

    filed_still : (n : EntryNote) → IsFiledByAll deeds.files n
        → IsFiledByAll (with_file deeds p.put).files n
    filed_still n filed t touched =
        let is = filed t touched in
        record {
          file = is.file;
          among = Contains-append_left deeds.files (p.put ∷ []) is.file is.among;
          of_table = is.of_table;
          above = is.above;
          up_to = is.up_to;
        }

    pub holds_put : HoldsStore first log (with_file deeds p.put) g
    holds_put = record {
      begun = holds.begun;
      done = record {
        dropped = holds.done.dropped;
        archived = holds.done.archived;
        all_archived = holds.done.all_archived;
        none_archived = holds.done.none_archived;
        filed = λ n among gone. filed_still n (holds.done.filed n among gone);
        tiled = tiled_put;
      };
      placed = placed_now;
      are_placed = record {
        are = map-append (λ (q : PlacedFile). q.put) holds.placed (p ∷ [])
            ∙ ap (λ (l : List PutFile). l ++ p.put ∷ []) holds.are_placed.are;
        each = each_placed;
        ascending = all_pairs_push IsEarlier holds.placed p holds.are_placed.ascending
            (λ k d inside. later_than (get_or holds.placed k d)
            (k, inside, get_or_default holds.placed k (get_or holds.placed k d) d inside));
        next = next_placed;
      };
      stands = record { rows = rows_put; others = others_put };
    }

-- the next sequence of a table is not far above any, and fits
module _ (first f : Files) (log : StoreLog) (deeds : Deeds)
    (holds : HoldsStore first log deeds f) (low : AreBelow log) (fits : log.id < 2 ^ 63)
    (table : Table) (sequence : ℕ)
    (next : IsBase (OneHas (HasSequence table) (finmap.keys f)) 1 sequence) where
  pub few_next : sequence ≤ sequence_limit + 1 + length holds.placed + 1
  few_next = elim next.one [
    | inl least ↦ omega (arith, least)
    | inr found ↦
        let one = found.1 in
        let most = few_sequences first f log deeds holds low fits one.0 table.0 found.0 one.2
        (held_of f (finmap.keys f) refl one.0 one.1) in
        omega (arith, found.2, most)
  ]

  pub next_limit : length deeds.files < 2 ^ 47 → sequence < 2 ^ 63
  next_limit few =
      let same : length holds.placed ≡ length deeds.files =
      sym (length-map holds.placed (λ (p : PlacedFile). p.put))
      ∙ ap length holds.are_placed.are in
      omega (arith, few_next, few, same)

-- a file of the next sequence is above all of its table, and not far above any
module _ (first f : Files) (log : StoreLog) (deeds : Deeds)
    (holds : HoldsStore first log deeds f) (low : AreBelow log) (fits : log.id < 2 ^ 63)
    (p : PlacedFile) (is : IsNextFile log.base f p) where
  pub holds_next : GoesOn deeds.files p.put
      → HoldsStore first log (with_file deeds p.put) (finmap.insert f (name_of p) p.bytes)
  holds_next goes_on =
      holds_put first f log deeds holds low fits p is.named is.spelled is.next
      (few_next first f log deeds holds low fits (file_on log.base p.put).table p.sequence is.next)
      goes_on.0 goes_on.1
