-- What each image since the opening of a store holds at most, from what its log and its folder say.
use Rattle.std.proofs.Common.{
  ◌≡◌,
  ℕ,
  ◌+◌,
  ◌<◌,
  ◌≤◌,
  ◌^◌,
  inl,
  inr,
  Bool,
  List,
  [],
  ◌∷◌,
  ◌++◌,
  length,
  Option,
  Some,
  Contains,
  IfSome,
  refl,
  sym,
  ◌∙◌,
  ap,
  subst,
  arith,
  append-nil,
  append_assoc,
  length-append,
}
use Rattle.std.specs.Prelude.{◌↔◌, is_some}
use Rattle.std.specs.FinMap as finmap
use Rattle.std.proofs.lemmas.List.{length-map}
use Rattle.std.proofs.lemmas.List.Elements.{Contains-push_cases}
use Rattle.clog_spec.specs.Names.{IsTableName, archive_name_of, segment_name_of}
use Rattle.clog_base.proofs.Members.{nothing_there}
use Rattle.clog_base.proofs.NameLaws.{archive_is_no_table, one_table}
use Rattle.clog_disk.specs.declared.change.Change.{Change}
use Rattle.clog_disk.specs.Files.{Files}
use Rattle.clog_disk.specs.Images.{LastsAll}
use Rattle.clog_disk.proofs.Named.{same_or_other}
use Rattle.clog_crash.specs.Folder.{IsHeld}
use Rattle.clog_crash.specs.Log.{Write}
use Rattle.clog_crash.specs.Readings.{Reading}
use Rattle.clog_crash.proofs.changes.Names.{is_named, not_segment}
use Rattle.path_core.specs.Keeper.{PutFile}
use Rattle.clog_segments.specs.AtMost.{IsBroughtBy, HoldsMost, IsAtMostAbove}
use Rattle.clog_segments.specs.StoreFailed.{AllStay, HoldsButOne}
use Rattle.clog_segments.specs.StoreFolder.{
  ArePlacedAt,
  Deeds,
  HoldsStore,
  PlacedFile,
  StoreLog,
  log_of,
}
use Rattle.clog_segments.specs.StoreImages.{IsBroughtAtMost, MostSince, TablesSince}
use Rattle.clog_segments.specs.StoreState.{HoldsItButOne, IsStore, StoreState, deeds_by}
use Rattle.clog_segments.proofs.AddsOnly.{not_of_table}
use Rattle.clog_segments.proofs.FolderNames.{AreBelow}
use Rattle.clog_segments.proofs.NextNames.{taken}
use Rattle.clog_store.proofs.StoreKept.{all_stay_of, left_of}

-- ---- sequences of files that were put

-- so much more is so much more
above_by : (first : Files) (few more most table n sequence : ℕ) → IsAtMostAbove first few table n
    → sequence ≤ n + more → few + more ≤ most → IsAtMostAbove first most table sequence
above_by first few more most table n sequence is on fits = elim is [
  | inl low ↦ inl (omega (arith, low, on, fits))
  | inr above ↦
      let low = above.1.3 in
      inr (above.0, (above.1.0, above.1.1, above.1.2, omega (arith, low, on, fits)))
]

module _ (first : Files) (base : ℕ) (files : List PutFile) (placed : List PlacedFile)
    (are : ArePlacedAt first base files placed) where
  abbrev Few : ℕ → PlacedFile → Type 0
  Few most p = IsAtMostAbove first most p.put.table p.sequence

  -- the next one is at most one above those before it
  next_few : (before behind : List PlacedFile) (p : PlacedFile) → placed ≡ before ++ p ∷ behind
      → ((q : PlacedFile) → Contains before q → Few (length before) q)
      → Few (length before + 1) p
  next_few before behind p is few = elim (are.next before behind p is).one [
    | inl one ↦ inl (omega (arith, one))
    | inr next ↦
        let n = next.0 in
        let at = next.2 in
        elim next.1 [
          | inl old ↦ inr (old.0, (n, old.1, old.2, omega (arith, at)))
          | inr put ↦
              let q = put.0 in
              above_by first (length before) 1 (length before + 1) p.put.table n p.sequence
              (subst (λ (k : ℕ). IsAtMostAbove first (length before) p.put.table k) put.3
              (subst (λ (t : ℕ). IsAtMostAbove first (length before) t q.sequence) put.2
              (few q put.1))) (omega (arith, at)) (omega arith)
        ]
  ]

  all_few : (before behind : List PlacedFile) → placed ≡ before ++ behind
      → ((q : PlacedFile) → Contains before q → Few (length before) q)
      → (q : PlacedFile) → Contains placed q → Few (length placed) q
  all_few before [] is few q among =
      let same : before ≡ placed = sym (append-nil before) ∙ sym is in
      subst (λ (l : List PlacedFile). Few (length l) q) same
      (few q (subst (λ (l : List PlacedFile). Contains l q) (sym same) among))
  all_few before (p ∷ behind) is few q among =
      let longer = before ++ p ∷ [] in
      let size : length longer ≡ length before + 1 = length-append before (p ∷ []) in
      all_few longer behind (is ∙ sym (append_assoc before (p ∷ []) behind)) (λ r there.
      elim (Contains-push_cases before p r there) [
        | inl old ↦ above_by first (length before) 0 (length longer) r.put.table r.sequence
            r.sequence (few r old) (omega arith) (omega (arith, size))
        | inr same ↦ subst (λ (x : PlacedFile). Few (length longer) x) same
            (subst (λ (k : ℕ). Few k p) (sym size) (next_few before behind p is few))
      ]) q among

  -- each is at most as many above those at first as there are
  pub placed_few : (q : PlacedFile) → Contains placed q → Few (length placed) q
  placed_few q among = all_few [] placed refl (λ r there. absurd (nothing_there r there)) q among

-- ---- of a folder

module _ (first f : Files) (log : StoreLog) (deeds : Deeds)
    (holds : HoldsStore first log deeds f) (low : AreBelow log) (fits : log.id < 2 ^ 63) where
  held_few : (name : List ℕ) (table n : ℕ) → IsHeld f name → IsTableName name table n
      → IsAtMostAbove first (length deeds.files) table n
  held_few name table n held named =
      let placed = holds.placed in
      let many : length placed ≡ length deeds.files =
      sym (length-map placed (λ (p : PlacedFile). p.put)) ∙ ap length holds.are_placed.are in
      elim (taken first f log deeds holds low fits (record { 0 = table }) n (name, held, named)) [
        | inl old ↦ inr (old.0, (n, old.1, old.2, omega arith))
        | inr put ↦
            let q = put.0 in
            subst (λ (k : ℕ). IsAtMostAbove first k table n) many
            (subst (λ (k : ℕ). IsAtMostAbove first (length placed) table k) put.3
            (subst (λ (t : ℕ). IsAtMostAbove first (length placed) t q.sequence) put.2
            (placed_few first log.base deeds.files placed holds.are_placed q put.1)))
      ]

-- also where the disk has failed with the next one
left_few : (first now : Files) (log : StoreLog) (deeds : Deeds) → HoldsButOne first log deeds now
    → AreBelow log → log.id < 2 ^ 63 → (name : List ℕ) (table n : ℕ) → IsHeld now name
    → IsTableName name table n → IsAtMostAbove first (length deeds.files + 1) table n
left_few first now log deeds b low fits name table n held named =
    elim (same_or_other name b.name) [
      | inr apart ↦
          let still : IsHeld b.last name = ap is_some (sym (b.others name apart)) ∙ held in
          above_by first (length deeds.files) 0 (length deeds.files + 1) table n n
          (held_few first b.last log deeds b.holds low fits name table n still named)
          (omega arith) (omega arith)
      | inl same ↦ elim b.failing [
        | inl hand ↦ absurd (not_segment log.id name table n fits named (same ∙ hand))
        | inr other ↦ elim other [
          | inl free ↦
              let its = one_table name table n free.table free.sequence named
              (subst (λ (l : List ℕ). IsTableName l free.table free.sequence) (sym same)
              free.named) in
              let n_is = its.1 in
              elim free.next.one [
                | inl one ↦ inl (omega (arith, n_is, one))
                | inr next ↦
                    let has = next.1 in
                    let at = next.2 in
                    above_by first (length deeds.files) 1 (length deeds.files + 1) table next.0 n
                    (subst (λ (t : ℕ). IsAtMostAbove first (length deeds.files) t next.0)
                    (sym its.0)
                    (held_few first b.last log deeds b.holds low fits has.0 free.table next.0 has.1
                    has.2)) (omega (arith, n_is, at)) (omega arith)
              ]
          | inr goes ↦
              let id_is = goes.past.id_is in
              let limit : log.base + goes.ordinal < 2 ^ 63 =
              omega (arith, low goes.past.segment goes.past.among, id_is, fits) in
              absurd (elim goes.name_is [
                | inl its ↦ not_segment (log.base + goes.ordinal) name table n limit named
                    (same ∙ its)
                | inr archive ↦ archive_is_no_table name (log.base + goes.ordinal)
                    (record { form = same ∙ archive.1; id_fits = limit }) table n named
              ])
        ]
      ]
    ]

-- ---- of a store

brought_from : (old : List ℕ → Option (List ℕ) → Type 0) (first now : Files) (log : StoreLog)
    (deeds : Deeds) (is_stopped : Bool) → LastsAll first old → HoldsButOne first log deeds now
    → AreBelow log → log.id < 2 ^ 63 → (segments : List Write) (name bytes : List ℕ)
    → IsBroughtBy old segments now log.id is_stopped name bytes
    → IsBroughtAtMost first (length deeds.files + 2) segments log.id name bytes
brought_from old first now log deeds is_stopped lasts b low fits segments name bytes is = elim is [
  | inl part ↦ inl part
  | inr other ↦ elim other [
    | inl archive ↦ inr (inl (
      archive.0,
      archive.1,
      archive.2,
      elim archive.3 [
        | inr part ↦ part
        | inl left ↦
            let id = archive.0 in
            let own = segment_name_of 6 id in
            let there : finmap.get first own ≡ Some bytes = sym (lasts own (Some bytes) left) in
            let below : id < 2 ^ 63 = omega (arith, archive.1, fits) in
            absurd (b.holds.begun.no_segment
            (own, ap is_some there, (6, (id, is_named id below))))
      ],
    ))
    | inr put ↦
        let table = put.0 in
        inr (inr (record {
          file = table.file;
          sequence = table.sequence;
          named = table.named;
          spelled = table.spelled;
          within = table.within;
          few = elim table.few [
            | inl one ↦ inl (omega (arith, one))
            | inr above ↦ above_by first (length deeds.files + 1) 1 (length deeds.files + 2)
                table.file.table.0 above.1.0 table.sequence
                (left_few first now log deeds b low fits above.0 table.file.table.0 above.1.0
                above.1.1 above.1.2) above.1.3 (omega arith)
          ];
        }))
  ]
]

-- where all lasted at the opening
pub most_since : {D : Type 0} (files : D → Option Files) (moment : D → ℕ)
    (since : D → ℕ → Files → Type 0) (leaves : D → List ℕ → Option (List ℕ) → Type 0)
    (lasted : Type 0) (s : StoreState D) → HoldsMost files moment since leaves s.notes.log
    → s.notes.log.first ≡ s.first → HoldsItButOne files s → AreBelow (log_of s.notes)
    → s.notes.log.id < 2 ^ 63 → IfSome (files s.first) (λ f. lasted ↔ LastsAll f (leaves s.first))
    → lasted → MostSince files moment since s
most_since files moment since leaves lasted s most began left low fits law has first now at_first
    at_now =
    let was = most now at_now in
    let lasts : LastsAll first (leaves s.first) =
    (subst (λ (o : Option Files). IfSome o (λ f. lasted ↔ LastsAll f (leaves s.first))) at_first
    law).0 has in
    record {
      later = was.images.later;
      each = λ image since_then name bytes there.
          elim (was.images.each image since_then name bytes there) [
            | inl there ↦ inl (sym (lasts name (Some bytes)
                (subst (λ (d : _). leaves d name (Some bytes)) began there)))
            | inr brought ↦ inr (brought_from (leaves s.notes.log.first) first now (log_of s.notes)
                (deeds_by s) s.notes.log.is_stopped
                (subst (λ (d : _). LastsAll first (leaves d)) (sym began) lasts) (left first now
                at_first at_now) low fits
                _ name bytes brought)
          ];
    }

-- each of their table files stands, or is the one with which the disk has failed
pub tables_since : {D : Type 0} (files : D → Option Files) (moment : D → ℕ)
    (since : D → ℕ → Files → Type 0) (leaves : D → List ℕ → Option (List ℕ) → Type 0)
    (lasted : Type 0) (s : StoreState D) → HoldsMost files moment since leaves s.notes.log
    → s.notes.log.first ≡ s.first
    → ((first now : Files) → files s.first ≡ Some first → files s.notes.log.disk ≡ Some now
    → AllStay first now)
    → IfSome (files s.first) (λ f. lasted ↔ LastsAll f (leaves s.first)) → lasted
    → TablesSince files moment since s
tables_since files moment since leaves lasted s most began stay law has first now at_first at_now =
    let was = most now at_now in
    let lasts : LastsAll first (leaves s.first) =
    (subst (λ (o : Option Files). IfSome o (λ f. lasted ↔ LastsAll f (leaves s.first))) at_first
    law).0 has in
    record {
      later = was.images.later;
      each = λ image then_ name bytes there named.
          elim (was.images.each image then_ name bytes there) [
            | inl left ↦ inl (stay first now at_first at_now name bytes
                (sym (lasts name (Some bytes)
                (subst (λ (d : _). leaves d name (Some bytes)) began left))))
            | inr brought ↦ elim brought [
              | inl part ↦ absurd (not_of_table (segment_name_of 6 part.segment.id) 67 refl
                  (omega arith) name named part.name_is)
              | inr other ↦ elim other [
                | inl archive ↦ absurd (not_of_table (archive_name_of archive.0) 65 refl
                    (omega arith) name named archive.2)
                | inr put ↦ put.1
              ]
            ]
          ];
    }

-- of a store whose disk came back
module _ {D : Type 0} (files : D → Option Files) (changes : D → Option (List Change))
    (moment : D → ℕ) (since : D → ℕ → Files → Type 0)
    (leaves : D → List ℕ → Option (List ℕ) → Type 0) (read_at : D → ℕ → Option Reading)
    (lasted_at : D → ℕ → Type 0) (faults : D → ℕ) (s : StoreState D) (disk : D)
    (kept : IsStore files changes moment faults read_at lasted_at s)
    (its : disk ≡ s.notes.log.disk) (most : HoldsMost files moment since leaves s.notes.log)
    (law : IfSome (files s.first) (λ f.
    lasted_at s.first (moment s.first) ↔ LastsAll f (leaves s.first)))
    (lasted : lasted_at disk s.notes.log.opened) where
  lasted_first : lasted_at s.first (moment s.first)
  lasted_first =
      (kept.later.lasted_then (moment s.first) (omega arith)).0
      (subst (λ (d : D). lasted_at d (moment s.first)) its
      (subst (λ (t : ℕ). lasted_at disk t) kept.opened lasted))

  pub most_of : MostSince files moment since s
  most_of =
      most_since files moment since leaves (lasted_at s.first (moment s.first)) s most kept.began
      (left_of files changes moment faults read_at lasted_at s kept) kept.sound.below
      kept.sound.stored.fits law lasted_first

  pub tables_of : TablesSince files moment since s
  tables_of =
      tables_since files moment since leaves (lasted_at s.first (moment s.first)) s most kept.began
      (all_stay_of files changes moment faults read_at lasted_at s kept) law lasted_first
