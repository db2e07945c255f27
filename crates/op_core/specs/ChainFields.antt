-- How the fields show the counts.
use Rattle.std.specs.Prelude.{◌≤◌, length, All, vec_capacity}
use Rattle.op_core.specs.declared.count.Tally.{Tally}
use Rattle.op_core.specs.declared.chain.Groups.TheInside.{Inside}
use Rattle.op_core.specs.Tallies.{running_of}
use Rattle.op_core.specs.Chains.{Chain}

abbrev pub chain_of : Inside → Chain
chain_of g = record { tallies = g.tallies.items; limit = g.limit }

-- There is room for each group that may be made, and counts fit a signed number.
pub record HasRoom (g : Inside) : Type 0 where
  pub made : length g.tallies.items ≤ g.limit
  pub room : g.limit ≤ vec_capacity g.tallies
  pub small : All (λ (t : Tally). running_of t ≤ 4611686018427387904) g.tallies.items
