use Rattle.std.proofs.Common.{rules}
use Rattle.std.specs.Prelude.{◌<◌, ◌≤◌, nat_lt}
use Rattle.std.proofs.lemmas.Bool.{ltb-false, ltb-true}
use Rattle.std.proofs.lemmas.List.Sorted.{IsPartitionPoint-from_clause}
use Rattle.clog_due.specs.declared.hulls.SegmentHull.{SegmentHull}
use Rattle.clog_due.proofs.HullRows.{all_in_back, all_in_front, parted}
use Rattle.clog_due.proofs.hulls.count_before.Goals as goal

pub returns-clause-before : goal.returns-clause-before
returns-clause-before c =
    let point = IsPartitionPoint-from_clause
    (λ (row : SegmentHull). nat_lt row.ordinal c.args.ordinal) _ _
    c.partition_point.ensures.partitioned (parted _ c.args.ordinal c.requires)
    (λ a r q k. search rules) in
    all_in_front (λ (row : SegmentHull). row.ordinal < c.args.ordinal) _ _
    c.partition_point.ensures.bound (λ k d l r. ltb-true _ _ (point.0 k d l r))

pub returns-clause-others : goal.returns-clause-others
returns-clause-others c =
    let point = IsPartitionPoint-from_clause
    (λ (row : SegmentHull). nat_lt row.ordinal c.args.ordinal) _ _
    c.partition_point.ensures.partitioned (parted _ c.args.ordinal c.requires)
    (λ a r q k. search rules) in
    all_in_back (λ (row : SegmentHull). c.args.ordinal ≤ row.ordinal) _ _
    (λ k d l r. ltb-false _ _ (point.1 k d l r))
