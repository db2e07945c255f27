use Rattle.std.proofs.Common.{rules}
use Rattle.std.proofs.lemmas.List.Sorted.{IsPartitionPoint-from_clause}
use Rattle.clog_base.specs.Positions.{IsBelow, IsUpTo, is_below}
use Rattle.clog_base.proofs.PositionOrder.{is_below-true, is_below-false}
use Rattle.clog_intervals.proofs.Halves.{ends_parted, all_in_front, all_in_back}
use Rattle.clog_intervals.proofs.cleans.ended_below.Goals as goal

pub returns-clause-below : goal.returns-clause-below
returns-clause-below c =
    let point = IsPartitionPoint-from_clause (λ i. is_below i.upper c.args.at) _ _
    c.partition_point.ensures.partitioned (ends_parted _ c.args.at c.requires)
    (λ a r q k. search rules) in
    all_in_front (λ i. IsBelow i.upper c.args.at) _ _ c.partition_point.ensures.bound
    (λ k d l r. is_below-true _ _ (point.0 k d l r))

pub returns-clause-others : goal.returns-clause-others
returns-clause-others c =
    let point = IsPartitionPoint-from_clause (λ i. is_below i.upper c.args.at) _ _
    c.partition_point.ensures.partitioned (ends_parted _ c.args.at c.requires)
    (λ a r q k. search rules) in
    all_in_back (λ i. IsUpTo c.args.at i.upper) _ _
    (λ k d l r. is_below-false _ _ (point.1 k d l r))
