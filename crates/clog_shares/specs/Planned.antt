-- What is made for the lines of a file before the first of them is written, and why nothing is.
use Rattle.std.specs.Prelude.{
  ◌≡◌,
  ℕ,
  ◌≤◌,
  List,
  [],
  length,
  vec_capacity,
  Option,
  Result,
  Ok,
  Err,
  ⊤,
  Vec,
}
use Rattle.std.specs.declared.alloc.Global.{Global}
use Rattle.std.specs.List.{AllByRecursion}
use Rattle.clog_base.specs.declared.sizes.Sizes.{Sizes}
use Rattle.clog_mutation.specs.declared.mutation.Mutation.{Mutation}
use Rattle.clog_notes.specs.Entries.{IsTooLarge}
use Rattle.clog_shares.specs.Fitting.{HasFittingEntry, HasLargeMutation}
use Rattle.write_path.specs.declared.prepared.Prepared.{Prepared}
use Rattle.write_path.specs.Writes.{IsPrepared}
use Rattle.clog_shares.specs.declared.fault.PlanFault.{PlanFault}
use Rattle.clog_shares.specs.declared.fault.PlanFault.TheVariants.{OutOfMemory, TooLarge}
use Rattle.clog_shares.specs.declared.planning.Plan.{Plan}
use Rattle.clog_shares.specs.declared.worker.Worker.{Worker}
use Rattle.clog_shares.specs.Crews.{AreDealt}

-- The lines are dealt out to as many workers as the sizes say; there is room for a seat of each,
-- and a place for the receipt of each line.
pub record IsPlanFor {K : Type 0} (sizes : Sizes) (flush : Option ℕ) (mutations : List Mutation)
    (p : Plan K) : Type 0
  where
    pub dealt : AreDealt sizes flush mutations p.workers.items
    pub room : sizes.writers ≤ vec_capacity p.room
    pub void : p.room.items ≡ []
    pub receipts : length p.receipts.items ≡ length mutations

-- each line's entry fits into half a segment
abbrev pub AllFit : Sizes → List Mutation → Type 0
AllFit sizes mutations = AllByRecursion (HasFittingEntry sizes.capacity) mutations

-- a line's write, with all of its memory; or its entry is too large
abbrev pub PreparesLine : Sizes → ℕ → Mutation → Result Prepared PlanFault → Type 0
PreparesLine sizes line mutation (Ok write) = IsPrepared sizes line mutation write
PreparesLine sizes line mutation (Err (TooLarge number size most)) =
    (number ≡ line) × IsTooLarge sizes.capacity mutation size most
PreparesLine sizes line mutation (Err OutOfMemory) = ⊤

-- why lines are not dealt out: the first whose entry is too large
abbrev pub PlanRefused : Sizes → List Mutation → PlanFault → Type 0
PlanRefused sizes mutations (TooLarge line size most) =
    HasLargeMutation sizes.capacity mutations line size most
PlanRefused sizes mutations OutOfMemory = ⊤

-- the lines are dealt out to workers, and each fits; or not
abbrev pub DealsAll : {K : Type 0} → Sizes → Option ℕ → List Mutation
    → Result (Vec (Worker K) Global) PlanFault → Type 0
DealsAll sizes flush mutations (Ok workers) =
    AreDealt sizes flush mutations workers.items × AllFit sizes mutations
DealsAll sizes flush mutations (Err fault) = PlanRefused sizes mutations fault

-- the lines are planned, and each fits; or not
abbrev pub PlansAll : {K : Type 0} → Sizes → Option ℕ → List Mutation
    → Result (Plan K) PlanFault → Type 0
PlansAll sizes flush mutations (Ok plan) =
    IsPlanFor sizes flush mutations plan × AllFit sizes mutations
PlansAll sizes flush mutations (Err fault) = PlanRefused sizes mutations fault
