-- Which names have come in a folder that a store holds, also where its disk has failed: those of
-- its segments, their archive names and table files.
use Rattle.std.proofs.Common.{
  ◌≡◌,
  ℕ,
  inl,
  inr,
  List,
  [],
  ◌∷◌,
  Option,
  None,
  map,
  sym,
  ◌∙◌,
  ap,
  subst,
}
use Rattle.std.specs.Prelude.{Contains, IsSome}
use Rattle.std.specs.FinMap as finmap
use Rattle.std.proofs.lemmas.List.Elements.{Contains-append_left, Contains-append_right}
use Rattle.std.proofs.lemmas.Option.{none-some}
use Rattle.clog_spec.specs.Names.{IsTableName, archive_name_of, segment_name_of}
use Rattle.clog_base.proofs.Members.{here, in_map}
use Rattle.clog_disk.specs.Files.{Files}
use Rattle.clog_disk.proofs.Named.{same_or_other}
use Rattle.clog_crash.specs.Log.{Write}
use Rattle.clog_crash.proofs.OneMore.{bytes_of}
use Rattle.clog_segments.specs.StoreFailed.{HoldsButOne, IsFailing}
use Rattle.clog_segments.specs.StoreFolder.{Deeds, HoldsStore, IsRow, PlacedFile, StoreLog, name_of}
use Rattle.clog_segments.proofs.FolderReads.{one_or_none}
use Rattle.clog_applied.specs.Filed.{BringsNoOther, IsNewName}
use Rattle.clog_closing.specs.Logs.{id_of}
use Rattle.clog_closing.specs.Stores.{segments_in}

none_is_none : (o : Option (List ℕ)) → o ≡ None → IsSome o → ⊥
none_is_none o none some = let b = bytes_of o some in none-some b.0 (sym none ∙ b.1)

module _ (opened : Files) (log : StoreLog) (deeds : Deeds) where
  abbrev ws : List Write
  ws = segments_in log

  abbrev ids : List ℕ
  ids = map id_of ws

  listed : (w : Write) → Contains ws w → Contains ids w.id
  listed w among = in_map id_of ws w among

  of_past : (w : Write) → Contains log.past w → Contains ws w
  of_past w h =
      Contains-append_left log.past (record { id = log.id; sections = log.sections } ∷ []) w h

  -- ---- while the disk has not failed

  module _ (now : Files) (holds : HoldsStore opened log deeds now) where
    -- a name that is none of the log's and of no table file that was put is no row
    no_row : (name : List ℕ)
        → ((w : Write) → Contains ws w → name ≡ segment_name_of 6 w.id → ⊥)
        → ((w : Write) → Contains ws w → name ≡ archive_name_of w.id → ⊥)
        → ((p : PlacedFile) → Contains holds.placed p → name ≡ name_of p → ⊥)
        → (bytes : List ℕ) → IsRow log deeds holds.placed name bytes → ⊥
    no_row name segment archive table bytes row = elim row [
      | inl s ↦ segment s.segment s.among s.name_is
      | inr other ↦ elim other [
        | inl a ↦ archive a.segment (of_past a.segment a.among) a.name_is
        | inr t ↦ table t.file t.among t.name_is
      ]
    ]

    pub brings : BringsNoOther ids opened now
    brings name absent held =
        elim (one_or_none (λ (w : Write). name ≡ segment_name_of 6 w.id)
        (λ (w : Write). same_or_other name (segment_name_of 6 w.id)) ws) [
          | inl found ↦ inl (found.0.id, listed found.0 found.1, found.2)
          | inr no_segment ↦
              elim (one_or_none (λ (w : Write). name ≡ archive_name_of w.id)
              (λ (w : Write). same_or_other name (archive_name_of w.id)) ws) [
                | inl found ↦ inr (inl (found.0.id, listed found.0 found.1, found.2))
                | inr no_archive ↦ elim (one_or_none (λ (p : PlacedFile). name ≡ name_of p)
                    (λ (p : PlacedFile). same_or_other name (name_of p)) holds.placed) [
                      | inl found ↦ inr (inr (
                        found.0.put.table,
                        found.0.sequence,
                        subst (λ (n : List ℕ). IsTableName n found.0.put.table found.0.sequence)
                            (sym found.2) (holds.are_placed.each found.0 found.1).named,
                      ))
                      | inr no_table ↦
                          let same = holds.stands.others name (no_row name
                          (λ w h is. no_segment w h is) (λ w h is. no_archive w h is)
                          (λ p h is. no_table p h is)) in
                          absurd (none_is_none (finmap.get now name) (same ∙ absent) held)
                    ]
              ]
        ]

  -- ---- once it has

  failing_is : (files : Files) (name : List ℕ) → IsFailing log deeds files name
      → IsNewName ids name
  failing_is files name failing = elim failing [
    | inl hand ↦ inl (
      log.id,
      listed (record { id = log.id; sections = log.sections })
          (Contains-append_right log.past (record { id = log.id; sections = log.sections } ∷ [])
          (record { id = log.id; sections = log.sections })
          (here (record { id = log.id; sections = log.sections }) [])),
      hand,
    )
    | inr other ↦ elim other [
      | inl table ↦ inr (inr (table.table, table.sequence, table.named))
      | inr goes ↦
          let w = goes.past.segment in
          let among = listed w (of_past w goes.past.among) in
          let same = sym goes.past.id_is in
          elim goes.name_is [
            | inl segment ↦ inl (w.id, among, segment ∙ ap (segment_name_of 6) same)
            | inr archive ↦ inr (inl (w.id, among, archive.1 ∙ ap archive_name_of same))
          ]
    ]
  ]

  pub brings_but_one : (now : Files) → HoldsButOne opened log deeds now
      → BringsNoOther ids opened now
  brings_but_one now but name absent held = elim (same_or_other name but.name) [
    | inl same ↦ subst (IsNewName ids) (sym same) (failing_is but.last but.name but.failing)
    | inr apart ↦ brings but.last but.holds name absent
        (subst (λ (o : Option (List ℕ)). IsSome o) (but.others name apart) held)
  ]
