-- What a seat knows to be flushed lies in table files, once no write runs.
use Rattle.std.proofs.Common.{
  ◌≡◌,
  ℕ,
  zero,
  suc,
  ◌<◌,
  ◌≤◌,
  List,
  [],
  ◌∷◌,
  length,
  map,
  None,
  IsTrue,
  refl,
  sym,
  ap,
  ◌∙◌,
  subst,
  arith,
}
use Rattle.std.specs.List.{Contains}
use Rattle.std.proofs.lemmas.List.{get_or_past}
use Rattle.std.proofs.lemmas.Option.{none-some}
use mathlib.Core.Logic.{dite}
use native.Mathlib.Decide.{ℕ_discrete, dec_lt}
use Rattle.clog_cells.specs.Merge.{IsMergeOf}
use Rattle.path_core.specs.declared.note.EntryNote.{EntryNote}
use Rattle.path_core.specs.declared.seat.Seat.{Seat}
use Rattle.path_core.specs.declared.state.Bound.TheVariants.{Final}
use Rattle.path_core.specs.declared.state.PathState.{PathState}
use Rattle.path_core.specs.Keeper.{IsFiledIn, PutFile}
use Rattle.path_core.specs.Lawful.{IsLawfulPath}
use Rattle.path_core.specs.LawfulPlaces.{IsAccepted, IsClosed}
use Rattle.path_core.specs.Parts.{
  fresh_seat,
  key_of_bound,
  memtable_of,
  seat_of,
  table_of,
  touches,
}
use Rattle.path_core.specs.Promises.{IsInFile}
use Rattle.path_core.proofs.lists.Inserted.{map_from, map_old}
use Rattle.path_core.proofs.places.HoldsInterval.{placed_right}
use Rattle.path_core.proofs.runs.EveryRun.{core_of}
use Rattle.path_rule.specs.declared.lasting.PutTable.{PutTable}
use Rattle.path_rule.specs.declared.view.OwnStep.{OwnStep}
use Rattle.path_rule.specs.Filing.{IsCellBetween, IsFileOf, file_range, put_range}
use Rattle.path_rule.specs.Lasts.{put_table}
use Rattle.path_rule.specs.Trails.{TrailTells}
use Rattle.write_path.specs.ClosedFiles.{CoversFlushed, held_range}

-- ---- in a state in which no write runs

module _ (x : PathState) (L : IsLawfulPath x)
    (idle : (w : ℕ) → w < length x.seats → (seat_of x w).claim ≡ None) where
  none_claims : (w : ℕ) → (seat_of x w).claim ≡ None
  none_claims w = dite (dec_lt w (length x.seats)) (λ inside. idle w inside)
      (λ past. ap (λ (s : Seat). s.claim) (get_or_past x.seats w fresh_seat (omega arith)))

  closed : (n : EntryNote) → IsClosed x n
  closed n w r claim ends = absurd (none-some r (sym (none_claims w) ∙ claim))

  -- what ends at or below the final key of a memtable was accepted by it, or by an earlier one
  at_most : (t m k entry key : ℕ) → (memtable_of x t m).bound ≡ Final (record { 0 = key })
      → entry ≤ key → IsAccepted (table_of x t) k entry → k ≤ m
  at_most t m zero entry key final low A = omega arith
  at_most t m (suc k) entry key final low A = let F = A.above_before k refl in
      let under = F.below in
      dite (dec_lt m (suc k)) (λ later. absurd (dite (ℕ_discrete m k)
      (λ same. let q : Final (record { 0 = key }) ≡ Final F.bound =
      sym final ∙ (ap (λ (j : ℕ). (memtable_of x t j).bound) same ∙ F.final) in
      let is : key ≡ F.bound.0 = ap key_of_bound q in omega arith)
      (λ apart. let up : key ≤ F.bound.0 = (L.switches.tables t).bounds_rise.rise m k
      (record { 0 = key }) F.bound (omega arith) final F.final in omega arith)))
      (λ no_later. omega arith)

  -- it lies in the file of the one in which it was placed, which is retired where that one is
  pub in_file : (t m least key : ℕ) (n : EntryNote) → Contains x.notes n
      → IsTrue (touches n.tables t) → (memtable_of x t m).bound ≡ Final (record { 0 = key })
      → m < least → least ≤ (table_of x t).oldest_live → n.end.0 ≤ key → IsInFile x t n.end.0
  in_file t m least key n among touched final retired found low =
      let R = placed_right x (core_of x L) L.places n t among (closed n) touched in
      let P = L.places.placed _ R.placed in
      let up = at_most t m R.memtable n.end.0 key final low P.accepted in
      let H = (L.retired_is_filed.each t R.memtable P.table (omega arith)).filed n.end.0 R.placed in
      let under = H.lower in let above = R.above in record {
        file = H.file;
        among = H.among;
        table = H.table;
        above = omega (arith, under, above);
        below = R.below (record { 0 = H.file.upper }) H.upper;
        placed = subst (λ (k : ℕ). Contains x.placed (record {
          table = t;
          entry = n.end.0;
          memtable = k;
        })) (sym H.memtable) R.placed;
      }

-- ---- in the keeper's files

-- as it holds them, and as it shows them
pub ranges_shown : (files : List PutFile)
    → map held_range files ≡ map put_range (map put_table files)
ranges_shown [] = refl
ranges_shown (f ∷ fs) = ap (λ (l : List (ℕ × (ℕ × ℕ))). held_range f ∷ l) (ranges_shown fs)

-- they have the newest cells of their intervals, where those that it shows do
pub true_as_shown : (notes : List EntryNote) (files : List PutFile) (shown : List PutTable)
    → map put_table files ≡ shown → ((g : PutTable) → Contains shown g → IsFileOf notes g)
    → (f : PutFile) → Contains files f
    → IsMergeOf (IsCellBetween notes f.table f.lower f.upper) f.cells
true_as_shown notes files shown same each f h =
    each (put_table f) (subst (λ (l : List PutTable). Contains l (put_table f)) same
    (map_old put_table files f h))

module _ (x : PathState) (files : List PutFile)
    (same : map held_range files ≡ map file_range x.files) where
  -- what lies in a file of the run lies in one of the keeper's
  held_in : (t entry : ℕ) → IsInFile x t entry → IsFiledIn files t entry
  held_in t entry I =
      let g = map_from held_range files (file_range I.file)
      (subst (λ (l : List (ℕ × (ℕ × ℕ))). Contains l (file_range I.file)) (sym same)
      (map_old file_range x.files I.file I.among)) in record {
        file = g.0;
        among = g.1;
        of_table = ap (λ (r : ℕ × (ℕ × ℕ)). r.0) g.2 ∙ I.table;
        above = subst (λ (k : ℕ). k < entry) (sym (ap (λ (r : ℕ × (ℕ × ℕ)). r.1.0) g.2)) I.above;
        up_to = subst (λ (k : ℕ). entry ≤ k) (sym (ap (λ (r : ℕ × (ℕ × ℕ)). r.1.1) g.2)) I.below;
      }

  pub covers : (L : IsLawfulPath x)
      (idle : (w : ℕ) → w < length x.seats → (seat_of x w).claim ≡ None) (capacity : ℕ)
      (trail : List OwnStep) → TrailTells capacity x trail → CoversFlushed x.notes files trail
  covers L idle capacity trail T t key F n among touched low =
      held_in t.0 n.end.0 (in_file x L idle t.0 F.memtable F.least key n among touched
      (T.final t.0 F.memtable key F.final) F.retired (T.retired t F.least F.found) low)
