-- A folder is a store's still once segments have got their archive names and have gone.
use Rattle.std.proofs.Common.{
  ◌≡◌,
  ℕ,
  zero,
  suc,
  ◌+◌,
  ◌<◌,
  ◌^◌,
  List,
  [],
  ◌∷◌,
  ◌++◌,
  length,
  take,
  drop,
  Some,
  None,
  Contains,
  refl,
  sym,
  ap,
  subst,
  ◌∙◌,
  inl,
  inr,
  arith,
  append-nil,
  append_assoc,
  true≢false,
}
use Rattle.std.specs.Prelude.{Bool, true, false, if◌then◌else◌, is_some}
use Rattle.std.specs.FinMap as finmap
use Rattle.std.proofs.lemmas.Bool.{cases_eq}
use Rattle.std.proofs.lemmas.List.Elements.{
  Contains-append_left,
  Contains-push,
  Contains-push_cases,
}
use Rattle.clog_spec.specs.Names.{IsTableName, archive_name_of, segment_name_of}
use Rattle.clog_base.specs.Positions.{ordinal_of}
use Rattle.clog_base.proofs.Members.{further, here}
use Rattle.clog_base.proofs.NameLaws.{archive_is_no_table, one_archive}
use Rattle.clog_disk.specs.Files.{Files, with_at}
use Rattle.clog_disk.proofs.Named.{gone_here, gone_there, put_here, put_there, same_or_other}
use Rattle.clog_crash.specs.Log.{Write}
use Rattle.clog_crash.specs.Sections.{segment_bytes}
use Rattle.clog_crash.proofs.changes.Names.{is_named, not_segment, one_id}
use Rattle.path_core.specs.declared.note.EntryNote.{EntryNote}
use Rattle.path_core.proofs.lists.Heads.{ahead, behind}
use Rattle.clog_segments.specs.Discards.{
  AreDroppable,
  all_gone_at,
  first_gone_at,
  gone_at,
  named_at,
}
use Rattle.clog_segments.specs.StoreFolder.{
  Deeds,
  HoldsStore,
  IsArchiveRow,
  IsFiledByAll,
  IsPast,
  IsRow,
  MayBeDropped,
  StoreLog,
  name_of,
  with_first_gone,
  with_gone,
  with_next,
}
use Rattle.clog_segments.proofs.AllGo.{archive_named}
use Rattle.clog_segments.proofs.FolderReads.{absent_or_held}
use Rattle.clog_segments.proofs.FolderNames.{AreBelow, archive_apart, id_below}

module _ (first f : Files) (log : StoreLog) (deeds : Deeds)
    (holds : HoldsStore first log deeds f) (low : AreBelow log) (fits : log.id < 2 ^ 63) (o : ℕ)
    (past : IsPast log o) (stays : Contains deeds.dropped o → ⊥) where
  abbrev at : ℕ
  at = log.base + o

  abbrev own : List ℕ
  own = segment_name_of 6 at

  abbrev archive : List ℕ
  archive = archive_name_of at

  at_limit : at < 2 ^ 63
  at_limit = omega (arith, low past.segment past.among, past.id_is, fits)

  limit_of : (w : Write) → Contains log.past w → w.id < 2 ^ 63
  limit_of w among = omega (arith, low w among, fits)

  abbrev last : Write
  last = record { id = log.id; sections = log.sections }

  pub segment_row : (w : Write) → Contains log.past w → 0 < length w.sections → w.id ≡ at
      → finmap.get f own ≡ Some (segment_bytes w.id w.sections)
  segment_row w among some is =
      holds.stands.rows own (segment_bytes w.id w.sections) (inl (record {
        segment = w;
        among = Contains-append_left log.past (last ∷ []) w among;
        some = some;
        stays = λ p listed same.
            let one : p ≡ o = omega (arith, same, is) in
            stays (subst (Contains deeds.dropped) one listed);
        name_is = ap (segment_name_of 6) (sym is);
        bytes_are = refl;
      }))

  -- ---- it gets its archive name

  abbrev named : Files
  named = named_at true at f

  named_is : named ≡ finmap.insert f archive (segment_bytes past.segment.id past.segment.sections)
  named_is = ap (with_at f archive) (segment_row past.segment past.among past.some past.id_is)

  named_there : (name : List ℕ) → (name ≡ archive → ⊥)
      → finmap.get named name ≡ finmap.get f name
  named_there name apart =
      ap (λ (x : Files). finmap.get x name) named_is
      ∙ put_there f archive (segment_bytes past.segment.id past.segment.sections) name apart

  named_here : finmap.get named archive ≡ finmap.get f own
  named_here =
      ap (λ (x : Files). finmap.get x archive) named_is
      ∙ put_here f archive (segment_bytes past.segment.id past.segment.sections)
      ∙ sym (segment_row past.segment past.among past.some past.id_is)

  abbrev with_name : Deeds
  with_name = record deeds { archived = deeds.archived ++ o ∷ [] }

  rows_named : (name bytes : List ℕ) → IsRow log with_name holds.placed name bytes
      → finmap.get named name ≡ Some bytes
  rows_named name bytes row = elim row [
    | inl r ↦
        named_there name (λ same. archive_apart at r.segment.id at_limit
        (id_below first f log deeds holds low fits r.segment r.among) (sym same ∙ r.name_is))
        ∙ holds.stands.rows name bytes (inl r)
    | inr rest ↦ elim rest [
      | inl r ↦ elim (cases_eq r.segment.id at) [
        | inl same ↦
            ap (finmap.get named) (r.name_is ∙ ap archive_name_of same) ∙ named_here
            ∙ segment_row r.segment r.among r.some same ∙ ap Some (sym r.bytes_are)
        | inr other ↦
            named_there name (λ same. other (one_archive archive r.segment.id at (record {
              form = sym same ∙ r.name_is;
              id_fits = limit_of r.segment r.among;
            }) (archive_named at at_limit)))
            ∙ holds.stands.rows name bytes (inr (inl (record {
              segment = r.segment;
              among = r.among;
              some = r.some;
              ordinal = r.ordinal;
              listed = elim (Contains-push_cases deeds.archived o r.ordinal r.listed) [
                | inl before ↦ before
                | inr is ↦ absurd (other (r.id_is ∙ ap (λ (k : ℕ). log.base + k) (sym is)))
              ];
              id_is = r.id_is;
              name_is = r.name_is;
              bytes_are = r.bytes_are;
            })))
      ]
      | inr r ↦
          let is = holds.are_placed.each r.file r.among in
          named_there name (λ same. archive_is_no_table archive at (archive_named at at_limit)
          r.file.put.table r.file.sequence
          (subst (λ (n : List ℕ). IsTableName n r.file.put.table r.file.sequence)
          (sym r.name_is ∙ same) is.named))
          ∙ holds.stands.rows name bytes (inr (inr r))
    ]
  ]

  -- the row of its archive name
  archive_row : IsArchiveRow log with_name.archived archive
      (segment_bytes past.segment.id past.segment.sections)
  archive_row = record {
    segment = past.segment;
    among = past.among;
    some = past.some;
    ordinal = o;
    listed = Contains-push deeds.archived o;
    id_is = past.id_is;
    name_is = ap archive_name_of (sym past.id_is);
    bytes_are = refl;
  }

  others_named : (name : List ℕ)
      → ((bytes : List ℕ) → IsRow log with_name holds.placed name bytes → ⊥)
      → finmap.get named name ≡ finmap.get first name
  others_named name none =
      named_there name (λ same. none (segment_bytes past.segment.id past.segment.sections)
      (inr (inl (subst (λ (n : List ℕ). IsArchiveRow log with_name.archived n
      (segment_bytes past.segment.id past.segment.sections)) (sym same) archive_row))))
      ∙ holds.stands.others name (λ bytes row. none bytes (elim row [
        | inl r ↦ inl r
        | inr rest ↦ inr (elim rest [
          | inl r ↦ inl (record {
            segment = r.segment;
            among = r.among;
            some = r.some;
            ordinal = r.ordinal;
            listed = Contains-append_left deeds.archived (o ∷ []) r.ordinal r.listed;
            id_is = r.id_is;
            name_is = r.name_is;
            bytes_are = r.bytes_are;
          })
          | inr r ↦ inr r
        ])
      ]))

  pub holds_named : deeds.archives ≡ true → HoldsStore first log with_name named
  holds_named archives = record {
    begun = holds.begun;
    done = record {
      dropped = holds.done.dropped;
      archived = λ p listed. elim (Contains-push_cases deeds.archived o p listed) [
        | inl before ↦ holds.done.archived p before
        | inr same ↦ subst (IsPast log) same past
      ];
      all_archived = λ is p listed.
          Contains-append_left deeds.archived (o ∷ []) p (holds.done.all_archived is p listed);
      none_archived = λ is. absurd (true≢false (sym archives ∙ is));
      filed = holds.done.filed;
      tiled = holds.done.tiled;
    };
    placed = holds.placed;
    are_placed = holds.are_placed;
    stands = record { rows = rows_named; others = others_named };
  }

  -- ---- it loses its own

  abbrev gone : Files
  gone = finmap.remove f own

  abbrev without_it : Deeds
  without_it = record deeds { dropped = deeds.dropped ++ o ∷ [] }

  rows_gone : (name bytes : List ℕ) → IsRow log without_it holds.placed name bytes
      → finmap.get gone name ≡ Some bytes
  rows_gone name bytes row = elim row [
    | inl r ↦
        let limit = id_below first f log deeds holds low fits r.segment r.among in
        gone_there f own name (λ same. r.stays o (Contains-push deeds.dropped o)
        (one_id at r.segment.id at_limit limit (sym r.name_is ∙ same)))
        ∙ holds.stands.rows name bytes (inl (record {
          segment = r.segment;
          among = r.among;
          some = r.some;
          stays = λ p listed is.
              r.stays p (Contains-append_left deeds.dropped (o ∷ []) p listed) is;
          name_is = r.name_is;
          bytes_are = r.bytes_are;
        }))
    | inr rest ↦ elim rest [
      | inl r ↦
          gone_there f own name (λ same. archive_apart r.segment.id at
          (limit_of r.segment r.among) at_limit (sym r.name_is ∙ same))
          ∙ holds.stands.rows name bytes (inr (inl r))
      | inr r ↦
          let is = holds.are_placed.each r.file r.among in
          gone_there f own name (λ same. not_segment at (name_of r.file) r.file.put.table
          r.file.sequence at_limit is.named (sym r.name_is ∙ same))
          ∙ holds.stands.rows name bytes (inr (inr r))
    ]
  ]

  own_first : finmap.get first own ≡ None
  own_first = elim (absent_or_held (finmap.get first own)) [
    | inl none ↦ none
    | inr held ↦ absurd (holds.begun.no_segment (own, held, (6, (at, is_named at at_limit))))
  ]

  others_gone : (name : List ℕ)
      → ((bytes : List ℕ) → IsRow log without_it holds.placed name bytes → ⊥)
      → finmap.get gone name ≡ finmap.get first name
  others_gone name none = elim (same_or_other name own) [
    | inl same ↦
        ap (finmap.get gone) same ∙ gone_here f own ∙ sym own_first
        ∙ ap (finmap.get first) (sym same)
    | inr apart ↦
        gone_there f own name apart ∙ holds.stands.others name (λ bytes row. none bytes
        (elim row [
          | inl r ↦ inl (record {
            segment = r.segment;
            among = r.among;
            some = r.some;
            stays = λ p listed is. elim (Contains-push_cases deeds.dropped o p listed) [
              | inl before ↦ r.stays p before is
              | inr same ↦ apart (r.name_is ∙ ap (segment_name_of 6)
                  (is ∙ ap (λ (k : ℕ). log.base + k) (sym same)))
            ];
            name_is = r.name_is;
            bytes_are = r.bytes_are;
          })
          | inr rest ↦ inr rest
        ]))
  ]

  pub holds_gone : (deeds.archives ≡ true → Contains deeds.archived o)
      → ((n : EntryNote) → Contains log.logged n → ordinal_of n.start.0 ≡ o
      → IsFiledByAll deeds.files n) → HoldsStore first log without_it gone
  holds_gone archived filed = record {
    begun = holds.begun;
    done = record {
      dropped = λ p listed. elim (Contains-push_cases deeds.dropped o p listed) [
        | inl before ↦ holds.done.dropped p before
        | inr same ↦ subst (IsPast log) same past
      ];
      archived = holds.done.archived;
      all_archived = λ is p listed. elim (Contains-push_cases deeds.dropped o p listed) [
        | inl before ↦ holds.done.all_archived is p before
        | inr same ↦ subst (Contains deeds.archived) same (archived is)
      ];
      none_archived = holds.done.none_archived;
      filed = λ n among listed.
          elim (Contains-push_cases deeds.dropped o (ordinal_of n.start.0) listed) [
            | inl before ↦ holds.done.filed n among before
            | inr same ↦ filed n among (sym same)
          ];
      tiled = holds.done.tiled;
    };
    placed = holds.placed;
    are_placed = holds.are_placed;
    stands = record { rows = rows_gone; others = others_gone };
  }

-- ---- several go

-- with its archive name, where it is to have one, and without its own
module _ (first f : Files) (log : StoreLog) (deeds : Deeds)
    (holds : HoldsStore first log deeds f) (low : AreBelow log) (fits : log.id < 2 ^ 63) (o : ℕ)
    (past : IsPast log o) (stays : Contains deeds.dropped o → ⊥)
    (filed : (n : EntryNote) → Contains log.logged n → ordinal_of n.start.0 ≡ o
    → IsFiledByAll deeds.files n) where
  pub holds_one_gone : HoldsStore first log (with_gone deeds (o ∷ []))
      (gone_at deeds.archives (log.base + o) f)
  holds_one_gone = by deeds.archives refl
    where
      by : (b : Bool) → deeds.archives ≡ b → HoldsStore first log (with_gone deeds (o ∷ []))
          (gone_at deeds.archives (log.base + o) f)
      by true is =
          subst (λ (b : Bool). HoldsStore first log (record deeds {
            dropped = deeds.dropped ++ o ∷ [];
            archived = if b then deeds.archived ++ o ∷ [] else deeds.archived;
          }) (gone_at b (log.base + o) f)) (sym is)
          (holds_gone first (named_at true (log.base + o) f) log
          (record deeds { archived = deeds.archived ++ o ∷ [] })
          (holds_named first f log deeds holds low fits o past stays is) low fits o past stays
          (λ any. Contains-push deeds.archived o) filed)
      by false is =
          subst (λ (b : Bool). HoldsStore first log (record deeds {
            dropped = deeds.dropped ++ o ∷ [];
            archived = if b then deeds.archived ++ o ∷ [] else deeds.archived;
          }) (gone_at b (log.base + o) f)) (sym is)
          (holds_gone first f log deeds holds low fits o past stays
          (λ other. absurd (true≢false (sym other ∙ is))) filed)

with_none : (deeds : Deeds) → with_gone deeds [] ≡ deeds
with_none deeds = λ i. record deeds {
  dropped = append-nil deeds.dropped i;
  archived = by deeds.archives i;
}
  where
    by : (b : Bool) → (if b then deeds.archived ++ [] else deeds.archived) ≡ deeds.archived
    by true = append-nil deeds.archived
    by false = refl

with_gone_then : (deeds : Deeds) (o : ℕ) (others : List ℕ)
    → with_gone (with_gone deeds (o ∷ [])) others ≡ with_gone deeds (o ∷ others)
with_gone_then deeds o others = λ i. record deeds {
  dropped = append_assoc deeds.dropped (o ∷ []) others i;
  archived = by deeds.archives i;
}
  where
    by : (b : Bool) → (if b then (if b then deeds.archived ++ o ∷ [] else deeds.archived) ++ others
        else (if b then deeds.archived ++ o ∷ [] else deeds.archived))
        ≡ (if b then deeds.archived ++ (o ∷ others) else deeds.archived)
    by true = append_assoc deeds.archived (o ∷ []) others
    by false = refl

-- the others may be dropped once one was
others_may : (log : StoreLog) (deeds : Deeds) (o : ℕ) (others : List ℕ)
    → MayBeDropped log deeds (o ∷ others) → MayBeDropped log (with_gone deeds (o ∷ [])) others
others_may log deeds o others may = record {
  past = λ p listed. may.past p (further o others p listed);
  stays = λ p listed gone. elim (Contains-push_cases deeds.dropped o p gone) [
    | inl before ↦ may.stays p (further o others p listed) before
    | inr same ↦
        let over = ahead (λ (a b : ℕ). a < b) o others may.ascending p listed in
        omega (arith, same, over)
  ];
  filed = λ p listed. may.filed p (further o others p listed);
  ascending = behind (λ (a b : ℕ). a < b) o others may.ascending;
}

module _ (first : Files) (log : StoreLog) (low : AreBelow log) (fits : log.id < 2 ^ 63) where
  -- the first of them have gone, and the next one has perhaps its archive name
  pub holds_first_gone : (ordinals : List ℕ) (n : ℕ) (is_named : Bool) (f : Files)
      (deeds : Deeds) → HoldsStore first log deeds f → MayBeDropped log deeds ordinals
      → (is_named ≡ true → deeds.archives ≡ true)
      → HoldsStore first log (with_first_gone deeds ordinals n is_named)
      (first_gone_at deeds.archives log.base ordinals n is_named f)
  holds_first_gone [] zero is_named f deeds holds may archives =
      subst (λ (d : Deeds). HoldsStore first log d f) (sym (with_none deeds)) holds
  holds_first_gone [] (suc n) is_named f deeds holds may archives =
      subst (λ (d : Deeds). HoldsStore first log d f) (sym (with_none deeds)) holds
  holds_first_gone (o ∷ os) zero false f deeds holds may archives =
      subst (λ (d : Deeds). HoldsStore first log d f) (sym (with_none deeds)) holds
  holds_first_gone (o ∷ os) zero true f deeds holds may archives =
      subst (λ (d : Deeds). HoldsStore first log
      (record d { archived = d.archived ++ o ∷ [] }) (named_at true (log.base + o) f))
      (sym (with_none deeds))
      (holds_named first f log deeds holds low fits o (may.past o (here o os))
      (may.stays o (here o os)) (archives refl))
  holds_first_gone (o ∷ os) (suc n) is_named f deeds holds may archives =
      subst (λ (d : Deeds). HoldsStore first log (with_next d is_named (drop n os))
      (first_gone_at deeds.archives log.base os n is_named
      (gone_at deeds.archives (log.base + o) f))) (with_gone_then deeds o (take n os))
      (holds_first_gone os n is_named (gone_at deeds.archives (log.base + o) f)
      (with_gone deeds (o ∷ []))
      (holds_one_gone first f log deeds holds low fits o (may.past o (here o os))
      (may.stays o (here o os)) (may.filed o (here o os))) (others_may log deeds o os may)
      archives)

  -- all have gone
  pub holds_all_gone : (ordinals : List ℕ) (f : Files) (deeds : Deeds)
      → HoldsStore first log deeds f → MayBeDropped log deeds ordinals
      → HoldsStore first log (with_gone deeds ordinals)
      (all_gone_at deeds.archives log.base ordinals f)
  holds_all_gone [] f deeds holds may =
      subst (λ (d : Deeds). HoldsStore first log d f) (sym (with_none deeds)) holds
  holds_all_gone (o ∷ os) f deeds holds may =
      subst (λ (d : Deeds). HoldsStore first log d (all_gone_at deeds.archives log.base os
      (gone_at deeds.archives (log.base + o) f))) (with_gone_then deeds o os)
      (holds_all_gone os (gone_at deeds.archives (log.base + o) f) (with_gone deeds (o ∷ []))
      (holds_one_gone first f log deeds holds low fits o (may.past o (here o os))
      (may.stays o (here o os)) (may.filed o (here o os))) (others_may log deeds o os may))

-- what may be dropped is there
pub droppable_there : (first f : Files) (log : StoreLog) (deeds : Deeds) (ordinals : List ℕ)
    → HoldsStore first log deeds f → AreBelow log → log.id < 2 ^ 63
    → MayBeDropped log deeds ordinals → AreDroppable (Some f) log.base ordinals
droppable_there first f log deeds ordinals holds low fits may = record {
  fits = λ o listed.
      let past = may.past o listed in
      omega (arith, low past.segment past.among, past.id_is, fits);
  ascending = may.ascending;
  there = λ o listed.
      let past = may.past o listed in
      ap is_some (segment_row first f log deeds holds low fits o past (may.stays o listed)
      past.segment past.among past.some past.id_is);
}
