-- What a thread gives back: its state and its pass.
use Rattle.std.specs.Prelude.{◌≡◌, ℕ, List, [], ◌++◌, Option}
use Rattle.crossbeam_queue.specs.Passes.{Pass, view, IsPassOf, IsSamePass}
use Rattle.crossbeam_queue.specs.declared.array_queue.Doing.{Doing}
use Rattle.crossbeam_queue.specs.declared.array_queue.Slotted.{Slotted}
use Rattle.replay_queue.specs.declared.done.Done.{Done}
use Rattle.replay_queue.specs.declared.work.Own.{Own}
use Rattle.replay_queue.specs.declared.rule.Hand.{Hand}
use Rattle.replay_queue.specs.declared.rule.Job.{Job}
use Rattle.replay_queue.specs.Fair.{hand}
use Rattle.replay_queue.specs.Has.{Has}

-- a worker has put nothing, and its state is of what it has taken
pub record HasWorked {T S Q A : Type 0}
    (bench : Slotted (Option (Job T)) (Doing (Job T) (Hand T)) Q A)
    (done : S → List T → Type 0) (r : Done T S) : Type 0 where
  pub queue : IsPassOf bench r.pass
  pub view_is : view r.pass ≡ hand 1 [] (view r.pass).taken
  pub own : Has done r.own (view r.pass).taken

-- the thread that pushes has so many parts and has put these; the state is of what was taken
pub record HasPut {T S Q A : Type 0}
    (bench : Slotted (Option (Job T)) (Doing (Job T) (Hand T)) Q A)
    (done : S → List T → Type 0) (parts : ℕ) (items : List T) (r : Done T S) : Type 0 where
  pub queue : IsPassOf bench r.pass
  pub parts_are : (view r.pass).parts ≡ parts
  pub put : (view r.pass).put ≡ items
  pub own : Has done r.own (view r.pass).taken

-- what the source answers, and what it has put
pub record HasGiven {T S Q A O : Type 0}
    (bench : Slotted (Option (Job T)) (Doing (Job T) (Hand T)) Q A)
    (done : S → List T → Type 0) (parts : ℕ) (gives : O → List T → Type 0)
    (r : O × Done T S) : Type 0 where
  pub items : List T
  pub gave : gives r.0 items
  pub put : HasPut bench done parts items r.1

-- these items were put, and what was taken meanwhile was done
pub record PutsOn {T S : Type 0} (done : S → List T → Type 0) (own : Own S)
    (pass : Pass (Job T) (Hand T)) (items : List T) (own' : Own S) (pass' : Pass (Job T) (Hand T))
    : Type 0 where
  pub same : IsSamePass pass pass'
  pub parts : (view pass').parts ≡ (view pass).parts
  pub put : (view pass').put ≡ (view pass).put ++ items
  pub has : Has done own (view pass).taken → Has done own' (view pass').taken
