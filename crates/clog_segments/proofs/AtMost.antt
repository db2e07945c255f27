-- What images hold at most, over calls of a log of sections.
use Rattle.std.proofs.Common.{
  ◌≡◌,
  ℕ,
  ◌+◌,
  ◌<◌,
  ◌≤◌,
  inl,
  inr,
  Bool,
  List,
  [],
  ◌∷◌,
  ◌++◌,
  length,
  take,
  drop,
  Option,
  Some,
  None,
  Contains,
  IfSome,
  refl,
  sym,
  ◌∙◌,
  ap,
  subst,
  arith,
  length-append,
  get_or,
}
use Rattle.std.specs.Prelude.{false, is_some}
use Rattle.std.specs.FinMap as finmap
use Rattle.std.proofs.lemmas.Bool.{true≢false}
use Rattle.std.proofs.lemmas.List.{take-append-drop}
use Rattle.std.proofs.lemmas.List.Elements.{
  Contains-append_left,
  Contains-push,
  Contains-push_cases,
}
use Rattle.clog_spec.specs.Names.{IsTableName, segment_name_of, table_name_of}
use Rattle.clog_base.specs.declared.position.Position.{Position}
use Rattle.clog_disk.specs.Files.{Files, SameTold}
use Rattle.clog_disk.specs.Images.{Elapses, IsImage, Within}
use Rattle.clog_scan.specs.Cut.{Section}
use Rattle.clog_table.specs.declared.table_file.TableFile.{TableFile}
use Rattle.clog_table.specs.Refusals.{IsFileOf}
use Rattle.clog_crash.specs.Counts.{IsNameOfTable}
use Rattle.clog_crash.specs.Flush.{IsCovered}
use Rattle.clog_crash.specs.Folder.{IsBase}
use Rattle.clog_crash.specs.Log.{Write}
use Rattle.clog_crash.specs.Readings.{Reading}
use Rattle.clog_crash.specs.Sections.{Brings, segment_bytes}
use Rattle.clog_crash.proofs.OneMore.{bytes_of}
use Rattle.clog_folder.proofs.Listed.{held_of}
use Rattle.clog_segments.specs.AtMost.{
  IsArchiveAmong,
  IsBroughtBy,
  AddsOnly,
  HoldsMost,
  IsAtMostAbove,
  IsFileAt,
  IsNextWithin,
  IsPartOf,
  IsUpToAt,
  LeftOr,
  MayStandAt,
  StandsYet,
}
use Rattle.clog_segments.specs.Grows.{segments_with}
use Rattle.clog_segments.specs.Life.{State}
use Rattle.clog_segments.specs.Named.{HasSequence, OneHas}
use Rattle.clog_segments.specs.Publishes.{IsTrueHere}
use Rattle.clog_segments.specs.StoreFolder.{EndsWithin}
use Rattle.clog_segments.proofs.AddsOnly.{adds_by, adds_none, not_of_table, tables_same}
use Rattle.clog_segments.proofs.Begun.{written}
use Rattle.clog_segments.proofs.Lived.{all_of, same_told, told_before}

-- ---- what may have been brought may have been later

few_on : (f g : Files) (more table sequence : ℕ)
    → ((name bytes : List ℕ) → IsNameOfTable name → finmap.get f name ≡ Some bytes
    → finmap.get g name ≡ Some bytes)
    → IsAtMostAbove f more table sequence → IsAtMostAbove g more table sequence
few_on f g more table sequence stay few = elim few [
  | inl low ↦ inl low
  | inr above ↦
      let name = above.0 in
      let n = above.1.0 in
      let named = above.1.2 in
      let there = bytes_of (finmap.get f name) above.1.1 in
      inr (
        name,
        (
          n,
          ap is_some (stay name there.0 (table, (n, named)) there.1),
          named,
          above.1.3,
        ),
      )
]

brought_on : (old : List ℕ → Option (List ℕ) → Type 0) (f g : Files) (segments longer : List Write)
    (id next : ℕ) (was_stopped is_stopped : Bool) → was_stopped ≡ false
    → ((name bytes : List ℕ) → IsPartOf segments name bytes → IsPartOf longer name bytes)
    → id ≤ next
    → ((name bytes : List ℕ) → IsNameOfTable name → finmap.get f name ≡ Some bytes
    → finmap.get g name ≡ Some bytes)
    → (name bytes : List ℕ) → IsBroughtBy old segments f id was_stopped name bytes
    → IsBroughtBy old longer g next is_stopped name bytes
brought_on old f g segments longer id next was_stopped is_stopped runs grows on stay name bytes is =
    elim is [
      | inl part ↦ inl (grows name bytes part)
      | inr other ↦ elim other [
        | inl archive ↦ inr (inl (
          archive.0,
          omega (arith, archive.1, on),
          archive.2,
          elim archive.3 [
            | inl left ↦ inl left
            | inr part ↦ inr (grows (segment_name_of 6 archive.0) bytes part)
          ],
        ))
        | inr put ↦
            let table = put.0 in
            inr (inr (
              record {
                file = table.file;
                sequence = table.sequence;
                named = table.named;
                spelled = table.spelled;
                within = omega (arith, table.within, on);
                few = few_on f g 1 table.file.table.0 table.sequence stay table.few;
              },
              elim put.1 [
                | inl there ↦
                    inl (stay name bytes (table.file.table.0, (table.sequence, table.named)) there)
                | inr stopped ↦ absurd (true≢false (sym stopped.0 ∙ runs))
              ],
            ))
      ]
    ]

-- what stands under a segment's name is a part of a segment, or was there at the opening
own_part : (old : List ℕ → Option (List ℕ) → Type 0) (now : Files) (segments : List Write) (id : ℕ)
    (is_stopped : Bool) (other : ℕ) (bytes : List ℕ)
    → LeftOr old (IsBroughtBy old segments now id is_stopped) (segment_name_of 6 other) bytes
    → LeftOr old (IsPartOf segments) (segment_name_of 6 other) bytes
own_part old now segments id is_stopped other bytes is = elim is [
  | inl left ↦ inl left
  | inr brought ↦ elim brought [
    | inl part ↦ inr part
    | inr more ↦ elim more [
      | inl archive ↦
          let no : 67 ≡ 65 = ap (λ (l : List ℕ). get_or l 0 0) archive.2 in
          absurd (omega (arith, no))
      | inr put ↦
          let named = put.0.named in
          absurd (not_of_table (segment_name_of 6 other) 67 refl (omega arith)
          (segment_name_of 6 other) (put.0.file.table.0, (put.0.sequence, named)) refl)
    ]
  ]
]

-- ---- segments

-- one more section in the segment at hand
part_kept : (past : List Write) (id : ℕ) (sections longer : List Section)
    → length sections ≤ length longer
    → length (segment_bytes id sections) ≤ length (segment_bytes id longer)
    → (name bytes : List ℕ) → IsPartOf (segments_with past id sections) name bytes
    → IsPartOf (segments_with past id longer) name bytes
part_kept past id sections longer more long name bytes part =
    let hand : Write = record { id = id; sections = sections } in
    let next : Write = record { id = id; sections = longer } in
    elim (Contains-push_cases past hand part.segment part.among) [
      | inl before ↦ record {
        segment = part.segment;
        among = Contains-append_left past (next ∷ []) part.segment before;
        some = part.some;
        name_is = part.name_is;
        short = part.short;
      }
      | inr same ↦
          let some = ap (λ (w : Write). length w.sections) same in
          let short = ap (λ (w : Write). length (segment_bytes w.id w.sections)) same in
          record {
            segment = next;
            among = Contains-push past next;
            some = omega (arith, part.some, some, more);
            name_is = part.name_is ∙ ap (λ (w : Write). segment_name_of 6 w.id) (sym same);
            short = omega (arith, part.short, short, long);
          }
    ]

-- the segment at hand has no section
part_skipped : (past : List Write) (id next : ℕ) (sections : List Section) → sections ≡ []
    → (name bytes : List ℕ) → IsPartOf (segments_with past id sections) name bytes
    → IsPartOf (segments_with past next sections) name bytes
part_skipped past id next sections none name bytes part =
    let hand : Write = record { id = id; sections = sections } in
    let later : Write = record { id = next; sections = sections } in
    elim (Contains-push_cases past hand part.segment part.among) [
      | inl before ↦ record {
        segment = part.segment;
        among = Contains-append_left past (later ∷ []) part.segment before;
        some = part.some;
        name_is = part.name_is;
        short = part.short;
      }
      | inr same ↦
          let some = ap (λ (w : Write). length w.sections) same in
          let empty = ap (λ (l : List Section). length l) none in
          absurd (omega (arith, part.some, some, empty))
    ]

-- it is one of the earlier ones
part_left : (past : List Write) (id next : ℕ) (sections : List Section) (name bytes : List ℕ)
    → IsPartOf (segments_with past id sections) name bytes
    → IsPartOf (segments_with (past ++ written id sections ∷ []) next []) name bytes
part_left past id next sections name bytes part = record {
  segment = part.segment;
  among = Contains-append_left (past ++ written id sections ∷ [])
      (record { id = next; sections = [] } ∷ []) part.segment part.among;
  some = part.some;
  name_is = part.name_is;
  short = part.short;
}

-- the name of a file that may come is free
pub free_here : (told : Option Files) (f : Files) (id : ℕ) (old : List Section)
    (file : TableFile) (sequence : ℕ) → told ≡ Some f
    → IfSome told (λ h. IsTrueHere h id old file sequence)
    → finmap.get f (table_name_of file.table.0 sequence) ≡ None
free_here told f id old file sequence is here =
    (subst (λ (o : Option Files). IfSome o (λ h. IsTrueHere h id old file sequence)) is here).free

pub ends_up_to : (id : ℕ) (old : List Section) (at : Position) → EndsWithin id old at → at.id ≤ id
ends_up_to id old at within = elim within [
  | inl below ↦ omega (arith, below)
  | inr here ↦ omega (arith, here.0)
]

-- segments for which table files stand are earlier ones
pub low_of : (told : Option Files) (id : ℕ) (old : List Section) (base : ℕ) (ordinals : List ℕ)
    → IfSome told (λ f. (o : ℕ) → Contains ordinals o → IsCovered f id old (base + o))
    → IfSome told (λ f. (o : ℕ) → Contains ordinals o → base + o < id)
low_of None id old base ordinals covered = tt
low_of (Some f) id old base ordinals covered = λ o listed. (covered o listed).below

module _ {D : Type 0} (files : D → Option Files) (moment : D → ℕ)
    (since : D → ℕ → Files → Type 0) (leaves : D → List ℕ → Option (List ℕ) → Type 0) where
  abbrev Adding : D → D → (List ℕ → List ℕ → Type 0) → Type 0
  Adding old new P = AddsOnly files moment since leaves old new P

  abbrev Most : State D → Type 0
  Most s = HoldsMost files moment since leaves s

  -- ---- over calls of a log

  pub most_begun : (disk first : D) (opened id : ℕ) (past : List Write) (sections : List Section)
      → opened ≡ moment disk → first ≡ disk
      → ((image : Files) → since disk (moment disk) image → IsImage (leaves disk) image)
      → Most (record {
        disk = disk;
        opened = opened;
        first = first;
        past = past;
        id = id;
        sections = sections;
        synced = 0;
        is_stopped = false;
      })
  most_begun disk first opened id past sections now same only g at_now = record {
    left = λ name bytes is. inl (here name bytes is);
    images = record {
      later = omega (arith, now);
      each = λ image left name bytes there.
          inl (here name bytes (subst (λ (o : Option (List ℕ)). leaves disk name o) there
          (only image (subst (λ (t : ℕ). since disk t image) now left) name)));
    };
  }
    where
      here : (name bytes : List ℕ) → leaves disk name (Some bytes) → leaves first name (Some bytes)
      here name bytes is = subst (λ (d : D). leaves d name (Some bytes)) (sym same) is

  module _ (s : State D) (new : D) (past : List Write) (id : ℕ) (sections : List Section)
      (P : List ℕ → List ℕ → Type 0) (told : SameTold (files s.disk) (files new))
      (later : moment s.disk ≤ moment new)
      (adds : (f : Files) → files s.disk ≡ Some f → Adding s.disk new P)
      (runs : s.is_stopped ≡ false) (stopped : Bool)
      (grows : (name bytes : List ℕ) → IsPartOf (segments_with s.past s.id s.sections) name bytes
      → IsPartOf (segments_with past id sections) name bytes) (on : s.id ≤ id)
      (brings : (f g : Files) → files s.disk ≡ Some f → files new ≡ Some g
      → (name bytes : List ℕ) → P name bytes
      → IsBroughtBy (leaves s.first) (segments_with past id sections) g id stopped name bytes)
      (most : Most s) where
    abbrev StandsNow : Files → List ℕ → List ℕ → Type 0
    StandsNow g name bytes =
        LeftOr (leaves s.first) (IsBroughtBy (leaves s.first) (segments_with past id sections) g id
        stopped) name bytes

    still : (f g : Files) → files s.disk ≡ Some f → files new ≡ Some g → (name bytes : List ℕ)
        → MayStandAt leaves s f name bytes → StandsNow g name bytes
    still f g at_first at_now name bytes is = elim is [
      | inl left ↦ inl left
      | inr brought ↦ inr (brought_on (leaves s.first) f g (segments_with s.past s.id s.sections)
          (segments_with past id sections) s.id id s.is_stopped stopped runs grows on
          ((adds f at_first).tables f g at_first at_now) name bytes brought)
    ]

    stands : (f g : Files) → files s.disk ≡ Some f → files new ≡ Some g → (name bytes : List ℕ)
        → LeftOr (leaves s.disk) P name bytes → StandsNow g name bytes
    stands f g at_first at_now name bytes is = elim is [
      | inl left ↦ still f g at_first at_now name bytes ((most f at_first).left name bytes left)
      | inr own ↦ inr (brings f g at_first at_now name bytes own)
    ]

    -- a call by which files and sections come
    pub most_on : (synced : ℕ) → Most (record s {
      disk = new;
      past = past;
      id = id;
      sections = sections;
      synced = synced;
      is_stopped = stopped;
    })
    most_on synced g at_now =
        let before = told_before (files s.disk) (files new) g told at_now in
        let f = before.0 in
        let added = adds f before.1 in
        let was = most f before.1 in
        record {
          left = λ name bytes is. stands f g before.1 at_now name bytes (added.now name bytes is);
          images = record {
            later = omega (arith, was.images.later, later);
            each = λ image left.
                elim (added.meanwhile s.opened image was.images.later left) [
                  | inl earlier ↦ λ name bytes there. still f g before.1 at_now name bytes
                      (was.images.each image earlier name bytes there)
                  | inr here ↦ λ name bytes there. stands f g before.1 at_now name bytes
                      (here name bytes there)
                ];
          };
        }

  -- the disk is called for what changes no file and no image
  pub most_same : (read_at : D → ℕ → Option Reading) (lasted_at : D → ℕ → Type 0) (s : State D)
      (new : D) (sections : List Section) (synced : ℕ) (stopped : Bool) → s.is_stopped ≡ false
      → sections ≡ s.sections
      → files new ≡ files s.disk → Within (leaves s.disk) (leaves new)
      → Elapses moment since leaves read_at lasted_at s.disk new → Most s
      → Most (record s {
        disk = new;
        sections = sections;
        synced = synced;
        is_stopped = stopped;
      })
  most_same read_at lasted_at s new sections synced stopped runs are same within time most =
      let Nothing = λ (name bytes : List ℕ). ⊥ in
      most_on s new s.past s.id sections Nothing (same_told (files s.disk) (files new) same)
      time.later.no_sooner
      (λ f is. adds_by files moment since leaves read_at lasted_at s.disk new Nothing time
      (tables_same (files s.disk) (files new) same)
      (λ name bytes left. inl (within name (Some bytes) left))) runs stopped
      (λ name bytes part. subst (λ (l : List Section).
      IsPartOf (segments_with s.past s.id l) name bytes) (sym are) part) (omega arith)
      (λ f g at_first at_now name bytes no. absurd no) most synced

  -- a section is kept, or part of it
  pub most_kept : (s : State D) (new : D) (x : Section) (bytes : List ℕ) (size : ℕ)
      (sections : List Section) (stopped : Bool) → s.is_stopped ≡ false
      → sections ≡ s.sections ++ x ∷ []
      → SameTold (files s.disk) (files new) → moment s.disk ≤ moment new
      → ((f : Files) → files s.disk ≡ Some f
      → Adding s.disk new (IsUpToAt (segment_name_of 6 s.id) (size + length bytes)))
      → size ≡ length (segment_bytes s.id s.sections)
      → Brings s.id (take s.synced s.sections) (drop s.synced s.sections) (x ∷ []) bytes → Most s
      → Most (record s { disk = new; sections = sections; is_stopped = stopped })
  most_kept s new x bytes size sections stopped runs are told later adds long brings most =
      let spelled : segment_bytes s.id s.sections ++ bytes ≡ segment_bytes s.id sections =
      ap (λ (l : List Section). segment_bytes s.id l ++ bytes)
      (sym (take-append-drop s.synced s.sections)) ∙ brings.spelled
      ∙ ap (segment_bytes s.id) (all_of s.synced s.sections (x ∷ []) ∙ sym are) in
      let size_now : size + length bytes ≡ length (segment_bytes s.id sections) =
      omega (arith, long, ap length spelled, length-append (segment_bytes s.id s.sections) bytes) in
      let more : length sections ≡ length s.sections + 1 =
      ap length are ∙ length-append s.sections (x ∷ []) in
      let hand : Write = record { id = s.id; sections = sections } in
      most_on s new s.past s.id sections
      (IsUpToAt (segment_name_of 6 s.id) (size + length bytes)) told later adds runs stopped
      (part_kept s.past s.id s.sections sections (omega (arith, more))
      (omega (arith, size_now, long))) (omega arith)
      (λ f g at_first at_now name got is. inl (record {
        segment = hand;
        among = Contains-push s.past hand;
        some = omega (arith, more);
        name_is = is.0;
        short = omega (arith, is.1, size_now);
      })) most s.synced

  -- a table file comes, or may have come
  pub most_put : (s : State D) (new : D) (file : TableFile) (sequence : ℕ) (stopped : Bool)
      → s.is_stopped ≡ false → IsTableName (table_name_of file.table.0 sequence) file.table.0
      sequence
      → IsNextWithin (files s.disk) s.id file sequence → SameTold (files s.disk) (files new)
      → moment s.disk ≤ moment new
      → ((f : Files) → files s.disk ≡ Some f
      → Adding s.disk new (IsFileAt (table_name_of file.table.0 sequence) file))
      → ((g : Files) → files new ≡ Some g → (bytes : List ℕ) → IsFileOf file.table bytes file
      → StandsYet g stopped (table_name_of file.table.0 sequence) bytes) → Most s
      → Most (record s { disk = new; is_stopped = stopped })
  most_put s new file sequence stopped runs named next told later adds yet most =
      let own = table_name_of file.table.0 sequence in
      most_on s new s.past s.id s.sections (IsFileAt own file) told later adds runs stopped
      (λ name bytes part. part) (omega arith)
      (λ f g at_first at_now name bytes is. inr (inr (
        record {
          file = file;
          sequence = sequence;
          named = subst (λ (n : List ℕ). IsTableName n file.table.0 sequence) (sym is.0) named;
          spelled = is.1;
          within = next.within;
          few = few f g at_first at_now;
        },
        subst (λ (n : List ℕ). StandsYet g stopped n bytes) (sym is.0) (yet g at_now bytes is.1),
      ))) most s.synced
    where
      few : (f g : Files) → files s.disk ≡ Some f → files new ≡ Some g
          → IsAtMostAbove g 1 file.table.0 sequence
      few f g at_first at_now =
          let base = subst (λ (o : Option Files). IfSome o (λ h.
          IsBase (OneHas (HasSequence file.table) (finmap.keys h)) 1 sequence)) at_first next.next
          in
          elim base.one [
            | inl one ↦ inl (omega (arith, one))
            | inr above ↦
                let n = above.0 in
                let other = above.1.0 in
                let has = above.1.2 in
                let there = bytes_of (finmap.get f other)
                (held_of f (finmap.keys f) refl other above.1.1) in
                inr (
                  other,
                  (
                    n,
                    ap is_some ((adds f at_first).tables f g at_first at_now other there.0
                        (file.table.0, (n, has)) there.1),
                    has,
                    omega (arith, above.2),
                  ),
                )
          ]

  -- earlier segments go, or the first of them
  pub most_gone : (s : State D) (new : D) (base : ℕ) (ordinals : List ℕ) (stopped : Bool)
      → s.is_stopped ≡ false → SameTold (files s.disk) (files new)
      → moment s.disk ≤ moment new
      → ((f : Files) → files s.disk ≡ Some f
      → Adding s.disk new (IsArchiveAmong (leaves s.disk) base ordinals))
      → IfSome (files s.disk) (λ f. (o : ℕ) → Contains ordinals o → base + o < s.id) → Most s
      → Most (record s { disk = new; is_stopped = stopped })
  most_gone s new base ordinals stopped runs told later adds low most =
      let segments = segments_with s.past s.id s.sections in
      most_on s new s.past s.id s.sections (IsArchiveAmong (leaves s.disk) base ordinals) told later
      adds runs stopped (λ name bytes part. part) (omega arith)
      (λ f g at_first at_now name bytes is. inr (inl (
        base + is.0,
        subst (λ (o : Option Files). IfSome o (λ h.
            (o : ℕ) → Contains ordinals o → base + o < s.id)) at_first low is.0 is.1,
        is.2.0,
        own_part (leaves s.first) f segments s.id s.is_stopped (base + is.0) bytes
            ((most f at_first).left (segment_name_of 6 (base + is.0)) bytes is.2.1),
      ))) most s.synced

  -- the log goes on in a later segment
  pub most_skipped : (s : State D) (next : ℕ) → s.is_stopped ≡ false → s.sections ≡ []
      → s.id < next → Most s
      → Most (record s { id = next })
  most_skipped s next runs none above most =
      let Nothing = λ (name bytes : List ℕ). ⊥ in
      most_on s s.disk s.past next s.sections Nothing (same_told (files s.disk) (files s.disk) refl)
      (omega arith) (λ f is. adds_none files moment since leaves s.disk Nothing) runs s.is_stopped
      (part_skipped s.past s.id next s.sections none) (omega (arith, above))
      (λ f g at_first at_now name bytes no. absurd no) most s.synced

  pub most_left : (s : State D) (next : ℕ) (past : List Write) (sections : List Section)
      → s.is_stopped ≡ false → past ≡ s.past ++ written s.id s.sections ∷ [] → sections ≡ []
      → s.id < next → Most s
      → Most (record s { past = past; id = next; sections = sections; synced = 0 })
  most_left s next past sections runs past_is none above most =
      let Nothing = λ (name bytes : List ℕ). ⊥ in
      most_on s s.disk past next sections Nothing (same_told (files s.disk) (files s.disk) refl)
      (omega arith) (λ f is. adds_none files moment since leaves s.disk Nothing) runs s.is_stopped
      (λ name bytes part. subst (λ (ps : List Write).
      IsPartOf (segments_with ps next sections) name bytes) (sym past_is)
      (subst (λ (l : List Section). IsPartOf (segments_with (s.past
      ++ written s.id s.sections ∷ []) next l) name bytes) (sym none)
      (part_left s.past s.id next s.sections name bytes part))) (omega (arith, above))
      (λ f g at_first at_now name bytes no. absurd no) most 0
