-- The worked rows of what a keeper has done beside its log: its table files, and what may go.
use Rattle.std.proofs.Common.{
  ◌≡◌,
  ℕ,
  ◌≤◌,
  true,
  false,
  List,
  [],
  ◌∷◌,
  refl,
  sym,
  ◌∙◌,
  ap,
  subst,
  arith,
}
use Rattle.std.specs.Prelude.{◌==◌, Contains, IsTrue}
use Rattle.std.proofs.lemmas.Bool.{and_parts}
use Rattle.clog_base.specs.Positions.{ordinal_of}
use Rattle.clog_base.proofs.Members.{here, nothing_there, only_one}
use Rattle.clog_cells.specs.Merge.{IsMergeOf}
use Rattle.path_core.specs.declared.note.EntryNote.{EntryNote}
use Rattle.path_core.specs.Droppable.{is_of}
use Rattle.path_core.specs.Keeper.{Holding, IsFiledIn, IsLoggedCell, MayDrop, PutFile}
use Rattle.path_core.specs.Keys.{after}
use Rattle.path_core.specs.Parts.{touches}
use Rattle.clog_applied.proofs.rows.Empty.{all_of_one}
use Rattle.clog_closing.specs.Beside.{HasGoodDeeds, HoldsNote}
use Rattle.clog_closing.specs.WorkedDeeds.{
  Setting,
  file_between,
  file_to,
  file_without,
  keeper_with,
  with_files,
}
use Rattle.clog_closing.proofs.Following.{none_in_sequence, one_more}
use Rattle.clog_closing.proofs.WorkedEntry.{
  is_of_zero,
  merged,
  n,
  not_empty,
  table_zero,
}

-- ---- what may be done

module _ (at : Setting) where
  lasts_to : after at.sizes.capacity 60 ≡ 68
  lasts_to = ap (λ (c : ℕ). after c 60) at.capacity_is

  module _ (dropped archived : List ℕ) where
    -- without a file nothing may be dropped
    pub none_goes : (o : ℕ) → MayDrop (keeper_with at [] dropped archived) o → ⊥
    none_goes o may =
        let note_is = only_one n may.note may.among in
        let here_is : 0 ≡ o =
        ap (λ (m : EntryNote). ordinal_of m.start.0) note_is ∙ may.here in
        let touched = is_of_zero o 0 here_is refl in
        let filed = may.filed 0 n n (here n []) (here n []) touched touched 60 (omega arith)
        (omega arith) in
        nothing_there filed.file filed.among

    module _ (upper : ℕ) (low : 60 ≤ upper) where
      abbrev pub f : PutFile
      f = file_to upper

      abbrev pub h : Holding
      h = keeper_with at (f ∷ []) dropped archived

      pub filed : (t key : ℕ) → 0 ≡ t → 60 ≤ key → key ≤ 60 → IsFiledIn (f ∷ []) t key
      filed t key table_is from to = record {
        file = f;
        among = here f [];
        of_table = table_is;
        above = omega (arith, from);
        up_to = omega (arith, to, low);
      }

      pub may : MayDrop h 0
      may = record {
        note = n;
        among = here n [];
        here = refl;
        none_kept = λ m kept is. nothing_there m kept;
        filed = λ t a b first last is_first is_last key from to.
            let end_a : 60 ≡ a.end.0 =
            ap (λ (m : EntryNote). m.end.0) (only_one n a first) in
            let end_b : 60 ≡ b.end.0 =
            ap (λ (m : EntryNote). m.end.0) (only_one n b last) in
            let touched = subst (λ (m : EntryNote). IsTrue (is_of 0 t m))
            (sym (only_one n b last)) is_last in
            let parts = and_parts (ordinal_of n.start.0 == 0) (touches 1 t) touched in
            filed t key (sym (table_zero t parts.1)) (omega (arith, from, end_a))
            (omega (arith, to, end_b));
      }

      -- the only segment that there is
      pub is_zero : (o : ℕ) → MayDrop h o → 0 ≡ o
      is_zero o may_go =
          ap (λ (m : EntryNote). ordinal_of m.start.0) (only_one n may_go.note may_go.among)
          ∙ may_go.here

      module _ (high : upper ≤ 68) (gone : (o : ℕ) → Contains dropped o → 0 ≡ o)
          (named : (o : ℕ) → Contains archived o → 0 ≡ o)
          (all : at.archives ≡ true → (o : ℕ) → Contains dropped o → Contains archived o)
          (none : at.archives ≡ false → archived ≡ []) where
        pub good : HasGoodDeeds h
        good = record {
          in_sequence = one_more [] f none_in_sequence refl (omega arith);
          lasting = all_of_one (λ (g : PutFile). g.upper ≤ after at.sizes.capacity 60) f
              (omega (arith, high, lasts_to));
          merged = all_of_one (λ (g : PutFile). IsMergeOf (IsLoggedCell h g) g.cells) f
              (merged h refl f refl (omega arith) low);
          for_some = all_of_one (HoldsNote h) f (record {
            note = n;
            among = here n [];
            bit = refl;
            above = omega arith;
            up_to = low;
          });
          droppable = λ o among. subst (MayDrop h) (gone o among) may;
          archivable = λ o among. subst (MayDrop h) (named o among) may;
          all_archived = all;
          none_archived = none;
        }

  -- ---- files

  pub good_files : (upper : ℕ) → 60 ≤ upper → upper ≤ 68
      → HasGoodDeeds (with_files at (file_to upper ∷ []))
  good_files upper low high =
      good [] [] upper low high (λ o among. absurd (nothing_there o among))
      (λ o among. absurd (nothing_there o among))
      (λ archives o among. absurd (nothing_there o among)) (λ archives. refl)

  pub far : HasGoodDeeds (with_files at (file_to 69 ∷ [])) → ⊥
  far deeds =
      let low : 69 ≤ after at.sizes.capacity 60 = deeds.lasting (file_to 69) (here (file_to 69) [])
      in
      omega (arith, low, lasts_to)

  pub short : HasGoodDeeds (with_files at (file_to 59 ∷ [])) → ⊥
  short deeds =
      let f = file_to 59 in
      let holds = deeds.for_some f (here f []) in
      let end : 60 ≡ holds.note.end.0 =
      ap (λ (m : EntryNote). m.end.0) (only_one n holds.note holds.among) in
      let low : holds.note.end.0 ≤ 59 = holds.up_to in
      omega (arith, end, low)

  pub late : HasGoodDeeds (with_files at (file_between 28 60 ∷ [])) → ⊥
  late deeds =
      let begins : 28 ≡ 0 = (deeds.in_sequence [] [] (file_between 28 60) refl).0 in
      omega (arith, begins)

  pub empty : HasGoodDeeds (with_files at (file_without 0 ∷ [])) → ⊥
  empty deeds =
      let f = file_without 0 in
      not_empty (with_files at (f ∷ [])) refl f refl (omega arith) (omega arith)
      (deeds.merged f (here f []))

  pub for_nothing : HasGoodDeeds (with_files at (file_without 1 ∷ [])) → ⊥
  for_nothing deeds =
      let f = file_without 1 in
      let holds = deeds.for_some f (here f []) in
      let bit = subst (λ (m : EntryNote). IsTrue (touches m.tables 1))
      (sym (only_one n holds.note holds.among)) holds.bit in
      omega (arith, table_zero 1 bit)
