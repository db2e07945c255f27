use Rattle.std.proofs.Common.{◌++◌, sym, subst}
use Rattle.std.specs.List.{Contains}
use Rattle.std.proofs.lemmas.List.Elements.{Contains-append_right, Contains-append_cases}
use Rattle.std.proofs.lemmas.List.Sorted.{Contains-permutation}
use mathlib.Core.Logic.{inl, inr}
use Rattle.path_core.specs.Keeper.{Holding}
use Rattle.path_core.proofs.keeper_law.a_sync_logs_what_was_pending.Goals as goal

pub returns : goal.returns
returns c = λ before now upto pending left S n h. elim (Contains-append_cases S.run left n
    (Contains-permutation pending (S.run ++ left) n S.parted.all h)) [
      | inl r ↦ inl (
        S.parted.low n r,
        subst (λ (k : Holding). Contains k.logged n) (sym S.holds)
            (Contains-append_right before.logged S.run n r),
      )
      | inr l ↦ inr (S.parted.high n l, l)
    ]
