-- The steps of a flush of a table, and what its seat makes by them.
use Rattle.std.specs.Prelude.{◌≡◌, ◌≢◌, ◌⊎◌, ◌≤◌, ℕ, suc, List, [], ◌∷◌, ◌++◌, Option, Some, None}
use Rattle.path_core.specs.declared.event.ClaimKind.TheVariants.{Entry}
use Rattle.path_core.specs.declared.event.Cursor.TheVariants.{OldestLive}
use Rattle.path_core.specs.declared.event.Event.{Event}
use Rattle.path_core.specs.declared.event.Event.TheVariants.{Register, Close, Claim, Switch, Raise}
use Rattle.path_core.specs.declared.event.Event.TheVariants.{Finalise, TakeTurn, GiveTurn, Put}
use Rattle.path_core.specs.declared.event.Place.TheVariants.{CursorWord, Newest}
use Rattle.path_core.specs.declared.event.Turn.TheVariants.{Flush}
use Rattle.path_core.specs.declared.state.Bound.TheVariants.{Raising}
use Rattle.path_core.specs.Words.{by_of}
use Rattle.path_rule.specs.declared.lasting.PutTable.{PutTable}
use Rattle.path_rule.specs.declared.view.FlushRead.{FlushRead}
use Rattle.path_rule.specs.declared.view.OwnStep.{OwnStep}
use Rattle.path_rule.specs.declared.view.View.{View}
use Rattle.path_rule.specs.FilingTold.{FoundFinal, SeesAll}
use Rattle.path_rule.specs.Finds.{Finds}
use Rattle.path_rule.specs.FindsBounds.{Retires as RetiresOne}
use Rattle.path_rule.specs.Issued.{issued_in}
use Rattle.path_rule.specs.Layout.{bound_word}
use Rattle.path_rule.specs.Retires.{RetiresEmptyIn, RetiresFiledIn}
use Rattle.path_rule.specs.Rule.{Was}
use Rattle.path_flush.specs.Grown.{HasGrown}

-- Seat w makes the step, by which it neither joins nor leaves an order, and claims no entry. One
-- that switches a memtable, or raises its bound, or retires it, is of table t, and so is one that
-- takes a Flush turn or gives it back.
abbrev pub IsFlushStep : ℕ → ℕ → Event → Type 0
IsFlushStep w t (Register by order group) = ⊥
IsFlushStep w t (Close by order group carried) = ⊥
IsFlushStep w t (Claim by from to Entry) = ⊥
IsFlushStep w t (Switch by table memtable part) = (by ≡ w) × (table.0 ≡ t)
IsFlushStep w t (Raise by table memtable to) = (by ≡ w) × (table.0 ≡ t)
IsFlushStep w t (Finalise by table memtable) = (by ≡ w) × (table.0 ≡ t)
IsFlushStep w t (TakeTurn by (Flush table)) = (by ≡ w) × (table.0 ≡ t)
IsFlushStep w t (GiveTurn by (Flush table)) = (by ≡ w) × (table.0 ≡ t)
IsFlushStep w t (Put by (OldestLive table) value) = (by ≡ w) × (table.0 ≡ t)
IsFlushStep w t e = by_of e ≡ w

abbrev pub AreFlushSteps : ℕ → ℕ → List OwnStep → Type 0
AreFlushSteps w t [] = Unit {0}
AreFlushSteps w t (s ∷ ss) = IsFlushStep w t s.event × AreFlushSteps w t ss

-- Seat w went from one view to another by such steps alone, of which at most n issued a barrier.
pub record FlushSteps (w t n : ℕ) (v after : View) : Type 0 where
  pub steps : List OwnStep
  pub trail : after.trail ≡ steps ++ v.trail
  pub are : AreFlushSteps w t steps
  pub issues : issued_in steps ≤ n
  pub returned : after.returned ≡ v.returned
  pub size : after.size ≡ v.size

-- ---- switches

-- At a step at which this was found seat w made memtable m of table t final at a key: so far it was
-- raised.
abbrev pub FinalisesBy : ℕ → ℕ → ℕ → ℕ → Event → ℕ → Type 0
FinalisesBy w t m key (Finalise by table memtable) found =
    (by ≡ w) × (table.0 ≡ t) × (memtable ≡ m)
    × (found ≡ bound_word (Raising (record { 0 = key })))
FinalisesBy w t m key _ found = ⊥

-- at one of these steps
abbrev pub Finalises : ℕ → ℕ → ℕ → ℕ → List OwnStep → Type 0
Finalises w t m key [] = ⊥
Finalises w t m key (s ∷ ss) =
    FinalisesBy w t m key s.event s.found ⊎ Finalises w t m key ss

-- It is no step of a switch.
abbrev pub SwitchesNo : Event → Type 0
SwitchesNo (Switch by table memtable part) = ⊥
SwitchesNo (Finalise by table memtable) = ⊥
SwitchesNo _ = Unit {0}

-- none of these steps is one
abbrev pub SwitchesNone : List OwnStep → Type 0
SwitchesNone [] = Unit {0}
SwitchesNone (t ∷ ts) = SwitchesNo t.event × SwitchesNone ts

-- Where it makes a memtable of table t final, that is m.
abbrev pub MakesFinalOnly : ℕ → ℕ → Event → Type 0
MakesFinalOnly t m (Finalise by table memtable) = table.0 ≡ t → memtable ≡ m
MakesFinalOnly t m _ = Unit {0}

-- where any of these steps does
abbrev pub FinalisesOnly : ℕ → ℕ → List OwnStep → Type 0
FinalisesOnly t m [] = Unit {0}
FinalisesOnly t m (s ∷ ss) = MakesFinalOnly t m s.event × FinalisesOnly t m ss

-- At these steps memtable m was found as the newest of table t, and as the least that is not
-- retired: no other is in use.
abbrev pub FindsAlone : ℕ → ℕ → List OwnStep → Type 0
FindsAlone t m steps = Finds (Newest (record { 0 = t })) m steps
    × Finds (CursorWord (OldestLive (record { 0 = t }))) m steps

-- Where it makes a memtable of table t final, steps before it found that one alone.
abbrev pub FinalisesAlone : ℕ → Event → List OwnStep → Type 0
FinalisesAlone t (Finalise by table memtable) older = table.0 ≡ t → FindsAlone t memtable older
FinalisesAlone t _ older = Unit {0}

-- Where any of these steps does: one that was left goes before the newest is switched.
abbrev pub SwitchesAlone : ℕ → List OwnStep → Type 0
SwitchesAlone t [] = Unit {0}
SwitchesAlone t (s ∷ ss) = FinalisesAlone t s.event ss × SwitchesAlone t ss

-- It retires no memtable.
abbrev pub RetiresNo : Event → Type 0
RetiresNo (Put by (OldestLive table) value) = ⊥
RetiresNo _ = Unit {0}

-- none of these steps does
abbrev pub RetiresNone : List OwnStep → Type 0
RetiresNone [] = Unit {0}
RetiresNone (t ∷ ts) = RetiresNo t.event × RetiresNone ts

-- Seat w went from one view to another by steps of a flush of table t, of which none is one of a
-- switch, and at most n issued a barrier.
pub record UnswitchedSteps (w t n : ℕ) (v after : View) : Type 0 where
  pub made : FlushSteps w t n v after
  pub none : SwitchesNone made.steps

-- Nor does one of them retire a memtable.
pub record QuietSteps (w t n : ℕ) (v after : View) : Type 0 where
  pub made : FlushSteps w t n v after
  pub none : SwitchesNone made.steps
  pub kept : RetiresNone made.steps

-- ---- what waits

-- No memtable of table t that one of these steps made final was retired by a later one: it waits.
abbrev pub WaitsStill : ℕ → ℕ → List OwnStep → Type 0
WaitsStill w t [] = Unit {0}
WaitsStill w t (s ∷ ss) = ((m key : ℕ)
    → s.event ≡ Put w (OldestLive (record { 0 = t })) (suc m) → Finalises w t m key ss → ⊥)
    × WaitsStill w t ss

-- One that these steps made final was retired by one of them, with a table file.
abbrev pub FilesOne : ℕ → ℕ → List OwnStep → Type 0
FilesOne w t steps = (m key lower : ℕ) × Finalises w t m key steps
    × RetiresOne (record { 0 = t }) m (Some lower) steps

-- Memtable m of table t is retired by none of these steps, as no other is, or by one of them, with
-- a table file.
abbrev pub IsLeftOrFiled : ℕ → ℕ → List OwnStep → Type 0
IsLeftOrFiled t m steps = RetiresNone steps
    ⊎ ((lower : ℕ) × RetiresOne (record { 0 = t }) m (Some lower) steps)

-- ---- a memtable is retired

-- the step by which seat w retires it, with a table file that begins above a key or without one
abbrev pub retiring : ℕ → ℕ → ℕ → Option ℕ → OwnStep
retiring w t m filed = record {
  event = Put w (OldestLive (record { 0 = t })) (suc m);
  found = suc m;
  filed = filed;
}

-- Behind one view seat w read the memtable, in the boxes of all seats, and retired it.
pub record Retires (w t m : ℕ) (filed : Option ℕ) (v after : View) : Type 0 where
  -- what it knew before it did so
  pub before : View
  pub since : HasGrown v.trail before.trail
  pub read : FlushRead
  pub sees : SeesAll before.size.seats before.hands t m read
  pub was : Was before w (Put w (OldestLive (record { 0 = t })) (suc m))
  pub put : HasGrown (retiring w t m filed ∷ before.trail) after.trail

-- It saw nothing in it, and gave no table file: in a state that its steps led to the memtable was
-- the least one not retired, and nothing is placed in it.
abbrev pub RetiresEmpty : ℕ → ℕ → ℕ → View → View → Type 0
RetiresEmpty w t m v after = (r : Retires w t m None v after) × (r.read.seen ≡ [])
    × RetiresEmptyIn r.was.core t m

-- It saw something in it, and gave a table file, whose interval begins above the lower key and ends
-- at the memtable's final bound.
pub record RetiresFiled (w t m lower upper : ℕ) (v after : View) : Type 0 where
  pub retires : Retires w t m (Some lower) v after
  pub some : retires.read.seen ≢ []
  pub final : FoundFinal t retires.before.part m upper
  -- the file as the keeper put it
  pub file : PutTable
  pub state : RetiresFiledIn retires.was.core (Put w (OldestLive (record { 0 = t })) (suc m)) t m
      file
  pub begins : file.lower ≡ lower
  pub ends : file.upper ≡ upper
