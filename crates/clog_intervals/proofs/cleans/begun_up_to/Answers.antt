use Rattle.std.proofs.Common.{rules, not}
use Rattle.std.proofs.lemmas.List.Sorted.{IsPartitionPoint-from_clause}
use Rattle.clog_base.specs.Positions.{IsBelow, IsUpTo, is_below}
use Rattle.clog_base.proofs.PositionOrder.{not_below-up_to, not_not_below}
use Rattle.clog_intervals.proofs.Halves.{begins_parted, all_in_front, all_in_back}
use Rattle.clog_intervals.proofs.cleans.begun_up_to.Goals as goal

pub returns-clause-begun : goal.returns-clause-begun
returns-clause-begun c =
    let point = IsPartitionPoint-from_clause (λ i. not (is_below c.args.at i.lower)) _ _
    c.partition_point.ensures.partitioned (begins_parted _ c.args.at c.requires)
    (λ a r q k. search rules) in
    all_in_front (λ i. IsUpTo i.lower c.args.at) _ _ c.partition_point.ensures.bound
    (λ k d l r. not_below-up_to _ _ (point.0 k d l r))

pub returns-clause-others : goal.returns-clause-others
returns-clause-others c =
    let point = IsPartitionPoint-from_clause (λ i. not (is_below c.args.at i.lower)) _ _
    c.partition_point.ensures.partitioned (begins_parted _ c.args.at c.requires)
    (λ a r q k. search rules) in
    all_in_back (λ i. IsBelow c.args.at i.lower) _ _
    (λ k d l r. not_not_below _ _ (point.1 k d l r))
