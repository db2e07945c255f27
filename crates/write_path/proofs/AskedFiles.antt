-- Each table file of a run is of a table of which a seat's trail retired a memtable with a file.
use Rattle.std.proofs.Common.{◌≡◌, ◌==◌, ℕ, zero, suc, Bool, true, false, cond, Option, Some, None}
use Rattle.std.proofs.Common.{List, [], ◌∷◌, map, refl, sym, ap, ◌∙◌, subst, arith}
use Rattle.std.specs.List.{All, Contains, range_with_len}
use Rattle.std.specs.List.Sorted.{IsPermutation}
use Rattle.std.proofs.lemmas.List.Elements.{All-contains, Contains-append_right}
use mathlib.Core.Logic.{inl, inr}
use Rattle.clog_base.specs.declared.cell.Table.{Table}
use Rattle.path_core.specs.declared.event.Cursor.TheVariants.{OldestLive}
use Rattle.path_core.specs.declared.event.Event.{Event}
use Rattle.path_core.specs.declared.event.Event.TheVariants.{Put}
use Rattle.path_core.specs.declared.state.PathState.{PathState}
use Rattle.path_core.specs.declared.state.WrittenFile.{WrittenFile}
use Rattle.path_core.specs.Lawful.{IsLawfulPath}
use Rattle.path_core.specs.Words.{by_of}
use Rattle.path_core.proofs.files.RetiredStay.{not_empty}
use Rattle.path_core.proofs.lists.Inserted.{map_from}
use Rattle.path_core.proofs.runs.EveryRun.{placing_of}
use Rattle.path_rule.specs.declared.view.OwnStep.{OwnStep}
use Rattle.path_rule.specs.declared.view.PathSize.{PathSize}
use Rattle.path_rule.specs.FindsBounds.{Retires, RetiresBy}
use Rattle.path_rule.specs.Rule.{event_of, steps_by}
use Rattle.path_rule.specs.Trails.{TrailTells}
use Rattle.path_rule.proofs.log.Issues.{steps_own}
use Rattle.path_table.specs.declared.trying.PathSeat.{PathSeat}
use Rattle.path_table.specs.Members.{view_of}
use Rattle.write_path.specs.ClosedFiles.{IsFlushedBy}
use Rattle.write_path.specs.Opened.{numbers_of}
use Rattle.write_path.proofs.Accounted.{each_there}
use Rattle.write_path.proofs.FilesGiven.{CameBy}

-- ---- the step by which a file came is in its seat's trail

step_there : (v : Event) (es : List Event) → Contains es v → Contains (steps_by (by_of v) es) v
step_there v [] h = absurd (let l = h.1 in omega arith)
step_there v (e ∷ es) (zero, inside, is) =
    subst (λ (l : List Event). Contains l v) (sym (steps_own (by_of v) es e (ap by_of is)))
    (zero, omega arith, is)
step_there v (e ∷ es) (suc k, inside, is) =
    by (by_of e == by_of v) (step_there v es (k, omega arith, is))
  where
    by : (b : Bool) → Contains (steps_by (by_of v) es) v
        → Contains (cond b (e ∷ steps_by (by_of v) es) (steps_by (by_of v) es)) v
    by true h = Contains-append_right (e ∷ []) (steps_by (by_of v) es) v h
    by false h = h

retires_by : (t : Table) (m by : ℕ) (gave : Option ℕ) (trail : List OwnStep) (s : OwnStep)
    → Contains trail s → s.event ≡ Put by (OldestLive t) (suc m) → s.filed ≡ gave
    → Retires t m gave trail
retires_by t m by gave [] s h is filed = absurd (let l = h.1 in omega arith)
retires_by t m by gave (r ∷ rs) s (zero, inside, same) is filed =
    inl (subst (λ (e : Event). RetiresBy t m gave e r.filed)
    (sym (ap (λ (o : OwnStep). o.event) same ∙ is))
    (refl, refl, ap (λ (o : OwnStep). o.filed) same ∙ filed))
retires_by t m by gave (r ∷ rs) s (suc k, inside, same) is filed =
    inr (retires_by t m by gave rs s (k, omega arith, same) is filed)

module _ {K : Type 0} (size : PathSize) (x : PathState) (L : IsLawfulPath x)
    (events : List Event) (seats : List (PathSeat K))
    (all : IsPermutation (range_with_len 0 size.seats) (numbers_of seats))
    (own : All (λ (s : PathSeat K). map event_of (view_of s.member).trail
    ≡ steps_by s.member.number events) seats)
    (tell : All (λ (s : PathSeat K). TrailTells size.capacity x (view_of s.member).trail) seats)
  where
    pub asked_by : (f : WrittenFile) → CameBy size.seats events x f → IsFlushedBy seats f.table
    asked_by f G =
        let e = Put G.by (OldestLive G.table) (suc f.memtable) in
        let one = map_from (λ (s : PathSeat K). s.member.number) seats G.by
        (each_there size.seats (numbers_of seats) all G.by G.inside) in
        let s : PathSeat K = one.0 in
        let trail = (view_of s.member).trail in
        let mine = All-contains (λ (s : PathSeat K). map event_of (view_of s.member).trail
        ≡ steps_by s.member.number events) seats s own one.1 in
        let T = All-contains (λ (s : PathSeat K). TrailTells size.capacity x
        (view_of s.member).trail) seats s tell one.1 in
        let there = map_from event_of trail e (subst (λ (l : List Event). Contains l e) (sym mine)
        (subst (λ (w : ℕ). Contains (steps_by w events) e) (sym one.2)
        (step_there e events G.among))) in
        let R = with_file trail T there.0 there.1 there.2 there.0.filed refl in record {
          seat = s;
          among = one.1;
          table = G.table;
          of_table = G.of_table;
          memtable = f.memtable;
          lower = R.0;
          retires = R.1;
        }
      where
        -- without a file nothing is placed there
        with_file : (trail : List OwnStep) → TrailTells size.capacity x trail → (r : OwnStep)
            → Contains trail r → r.event ≡ Put G.by (OldestLive G.table) (suc f.memtable)
            → (o : Option ℕ) → r.filed ≡ o
            → (lower : ℕ) × Retires G.table f.memtable (Some lower) trail
        with_file trail T r h is (Some lower) filed =
            (lower, retires_by G.table f.memtable G.by (Some lower) trail r h is filed)
        with_file trail T r h is None filed =
            absurd (not_empty x (placing_of x L) G.table.0 f.memtable G.entry G.placed
            (T.emptied G.table f.memtable
            (retires_by G.table f.memtable G.by None trail r h is filed)))
