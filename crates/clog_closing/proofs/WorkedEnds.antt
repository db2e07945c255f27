-- The worked rows of segments that went, and of the end of a run.
use Rattle.std.proofs.Common.{
  ◌≡◌,
  ℕ,
  Bool,
  true,
  false,
  if◌then◌else◌,
  List,
  [],
  ◌∷◌,
  refl,
  sym,
  ap,
  subst,
  arith,
}
use Rattle.std.specs.Prelude.{Contains, IsTrue}
use Rattle.clog_base.proofs.Members.{here, nothing_there, only_one}
use Rattle.path_core.specs.declared.note.EntryNote.{EntryNote}
use Rattle.path_core.specs.Parts.{touches}
use Rattle.path_core.specs.Whole.{IsWhole}
use Rattle.clog_applied.proofs.rows.Empty.{all_of_one}
use Rattle.clog_closing.specs.Beside.{HasFinished, HasGoodDeeds}
use Rattle.clog_closing.specs.WorkedDeeds.{Setting, file_to, keeper_with, once_gone, with_files}
use Rattle.clog_closing.proofs.Finished.{nothing_done}
use Rattle.clog_closing.proofs.WorkedDeeds.{filed, good, is_zero, may, none_goes}
use Rattle.clog_closing.proofs.WorkedEntry.{n, table_zero, whole}

-- what has an archive name is that segment
name_zero : (b : Bool) (o : ℕ) → Contains (if b then 0 ∷ [] else []) o → 0 ≡ o
name_zero true o among = only_one 0 o among
name_zero false o among = absurd (nothing_there o among)

module _ (at : Setting) where
  -- ---- segments that went

  pub good_gone : HasGoodDeeds (once_gone at (file_to 60 ∷ []))
  good_gone =
      good at (0 ∷ []) (if at.archives then 0 ∷ [] else []) 60 (omega arith) (omega arith)
      (λ o among. only_one 0 o among) (name_zero at.archives)
      (λ archives o among. subst (λ (b : Bool). Contains (if b then 0 ∷ [] else []) o)
      (sym archives) among)
      (λ archives. ap (λ (b : Bool). if b then 0 ∷ [] else []) archives)

  pub lost : HasGoodDeeds (once_gone at []) → ⊥
  lost deeds =
      none_goes at (0 ∷ []) (if at.archives then 0 ∷ [] else []) 0 (deeds.droppable 0 (here 0 []))

  pub early : HasGoodDeeds (keeper_with at [] [] (0 ∷ [])) → ⊥
  early deeds = none_goes at [] (0 ∷ []) 0 (deeds.archivable 0 (here 0 []))

  pub unnamed : at.archives ≡ true
      → HasGoodDeeds (keeper_with at (file_to 60 ∷ []) (0 ∷ []) []) → ⊥
  unnamed archives deeds = nothing_there 0 (deeds.all_archived archives 0 (here 0 []))

  pub named : at.archives ≡ false
      → HasGoodDeeds (keeper_with at (file_to 60 ∷ []) (0 ∷ []) (0 ∷ [])) → ⊥
  named archives deeds =
      nothing_there 0 (subst (λ (l : List ℕ). Contains l 0) (deeds.none_archived archives)
      (here 0 []))

  -- ---- at the end

  pub drained : HasFinished true (once_gone at (file_to 60 ∷ []))
  drained =
      let archived : List ℕ = if at.archives then 0 ∷ [] else [] in
      record {
        good = good_gone;
        gone = λ o low may_go.
            subst (λ (k : ℕ). Contains (0 ∷ []) k)
            (is_zero at (0 ∷ []) archived 60 (omega arith) o may_go) (here 0 []);
        filed = λ drain m among t low bit.
            let note_is = only_one n m among in
            let touched = subst (λ (k : EntryNote). IsTrue (touches k.tables t)) (sym note_is) bit
            in
            let end : 60 ≡ m.end.0 = ap (λ (k : EntryNote). k.end.0) note_is in
            filed at (0 ∷ []) archived 60 (omega arith) t m.end.0 (sym (table_zero t touched))
            (omega (arith, end)) (omega (arith, end));
      }

  pub left : HasFinished true (with_files at []) → ⊥
  left finished =
      let filed = finished.filed refl n (here n []) 0 (omega arith) refl in
      nothing_there filed.file filed.among

  pub undrained : HasFinished false (with_files at [])
  undrained =
      nothing_done (with_files at [])
      (record { no_file = refl; none_dropped = refl; none_archived = refl })
      (all_of_one IsWhole n whole)

  pub stays : (drain : Bool) → HasFinished drain (with_files at (file_to 60 ∷ [])) → ⊥
  stays drain finished =
      nothing_there 0 (finished.gone 0 (omega arith) (may at [] [] 60 (omega arith)))
