use Rattle.std.proofs.Common.{
  ◌≡◌,
  ℕ,
  IfSome,
  ◌+◌,
  List,
  ◌∷◌,
  drop,
  get_or,
  take,
  refl,
  sym,
  subst,
  ◌∙◌,
  arith,
}
use Rattle.std.proofs.lemmas.List.{drop_more, drop_all, take_all, take_more}
use Rattle.std.proofs.lemmas.List.Elements.{Contains-get_or}
use Rattle.clog_disk.proofs.Moments.{started, goes_on_by, later_still}
use Rattle.clog_disk.proofs.Telling.{same_told_self, same_told_then}
use Rattle.clog_crash.specs.Flush.{IsSameFolder}
use Rattle.clog_segments.specs.Coming.{IsRecovering, Recovers, AreGone, AreThere, HaveRemoved}
use Rattle.clog_segments.proofs.ComesFrom.{still_from, then_from}
use Rattle.clog_segments.proofs.Recovered.{
  here_show,
  gone_then,
  gone_none,
  removed_none,
  removed_more,
  same_of,
  is_there,
  others_there,
}
use Rattle.clog_segments.proofs.Stays.{stay_more, stay_yet}
use Rattle.clog_segments.proofs.recovering.take_all_recovered.Goals as goal

pub loop-segment-init : goal.loop-segment-init
loop-segment-init g c =
    let D = g.D.Disk in
    let old = c.args.disk.now in
    record {
      told = same_told_self (D.files old);
      later = record {
        no_sooner = omega arith;
        remembers = λ t le. refl;
        lasted_then = λ t le. (λ has. has, λ has. has);
      };
      faults = refl;
      others = stay_yet c.args.segments.now (D.files old);
      there = c.requires.there;
      removed = removed_none (D.changes old);
      files = λ first may. may;
      may = λ first may. may;
      gone = λ now gone. gone;
      only = λ first may. started D.moment D.since old (IsSameFolder first) (λ image left.
          here_show first (D.files old) (D.leaves old) c.args.segments.now may image
          (g.met.D.Disk.only_now old image left));
      from = λ first from. still_from D.moment D.since D.leaves first old
          (g.met.D.Disk.only_now old) from;
    }

pub returns-in_err-take_recovered-clause-any_moment :
    goal.returns-in_err-take_recovered-clause-any_moment
returns-in_err-take_recovered-clause-any_moment g c first may =
    let D = g.D.Disk in
    let i = c.loop-segment.segment-index in
    let xs = c.args.segments.now in
    let split : drop i xs ≡ get_or xs i 0 ∷ drop (i + 1) xs =
    drop_more xs i 0 c.loop-segment-test.true in
    let before = c.loop-segment.disk in
    goes_on_by D.moment D.since c.args.disk.now before c.take_recovered.new.disk
    (IsSameFolder first) (c.loop-segment.invariant.only first may)
    (c.take_recovered.ensures.any_moment first (drop (i + 1) xs)
    (subst (λ (l : List ℕ). IsRecovering first (D.files before) (D.leaves before) l) split
    (c.loop-segment.invariant.may first may)))

pub loop-segment-preserved : goal.loop-segment-preserved
loop-segment-preserved g c =
    let D = g.D.Disk in
    let i = c.loop-segment.segment-index in
    let xs = c.args.segments.now in
    let split : drop i xs ≡ get_or xs i 0 ∷ drop (i + 1) xs =
    drop_more xs i 0 c.loop-segment-test.true in
    let old = c.args.disk.now in
    let before = c.loop-segment.disk in
    let after = c.take_recovered.new.disk in
    record {
      told = same_told_then (D.files old) (D.files before) (D.files after)
          c.loop-segment.invariant.told c.take_recovered.ensures.told;
      later = later_still D.moment D.read_at D.lasted_at old before after
          c.loop-segment.invariant.later
          c.take_recovered.ensures.later;
      faults = c.in_ok-take_recovered.ensures.cause.quiet (λ e. cc)
          ∙ c.loop-segment.invariant.faults;
      others = stay_more xs (D.files old) (D.files before) (D.files after) (get_or xs i 0)
          (Contains-get_or xs i 0 c.loop-segment-test.true) c.loop-segment.invariant.others
          c.take_recovered.ensures.others;
      there = others_there (D.files before) (D.files after) (get_or xs i 0) (drop (i + 1) xs)
          (subst (λ (l : List ℕ). IfSome (D.files before) (λ f. AreThere f l)) split
          c.loop-segment.invariant.there) c.in_ok-take_recovered.ensures.puts;
      removed = subst (λ (ids : List ℕ). HaveRemoved ids (D.changes old) (D.changes after))
          (sym (take_more xs i 0 c.loop-segment-test.true))
          (removed_more (D.changes old) (D.changes before) (D.changes after) (take i xs)
          (get_or xs i 0) c.loop-segment.invariant.removed c.in_ok-take_recovered.ensures.adds);
      files = λ first may. c.take_recovered.ensures.files first (drop (i + 1) xs)
          (subst (λ (l : List ℕ). Recovers first (D.files before) l) split
          (c.loop-segment.invariant.files first may));
      may = λ first may. c.in_ok-take_recovered.ensures.goes first (drop (i + 1) xs)
          (subst (λ (l : List ℕ). IsRecovering first (D.files before) (D.leaves before) l) split
          (c.loop-segment.invariant.may first may));
      gone = λ now gone. c.loop-segment.invariant.gone now
          (subst (λ (l : List ℕ). AreGone (D.files before) now l) (sym split)
          (gone_then (D.files before) (D.files after) now (get_or xs i 0) (drop (i + 1) xs)
          c.in_ok-take_recovered.ensures.puts gone));
      only = λ first may. goes_on_by D.moment D.since old before after (IsSameFolder first)
          (c.loop-segment.invariant.only first may)
          (c.take_recovered.ensures.any_moment first (drop (i + 1) xs)
          (subst (λ (l : List ℕ). IsRecovering first (D.files before) (D.leaves before) l) split
          (c.loop-segment.invariant.may first may)));
      from = λ first from. then_from D.moment D.since D.leaves first old before after
          (c.loop-segment.invariant.from first from) (c.take_recovered.ensures.from first);
    }

pub returns-clause-go : goal.returns-clause-go
returns-clause-go g c first may =
    let D = g.D.Disk in
    let now = c.loop-segment.disk in
    let xs = c.args.segments.now in
    subst (λ (l : List ℕ). IsRecovering first (D.files now) (D.leaves now) l)
    (drop_all c.loop-segment.segment-index xs (omega (arith, c.loop-segment-test.false)))
    (c.loop-segment.invariant.may first may)

pub returns-clause-gone : goal.returns-clause-gone
returns-clause-gone g c =
    let D = g.D.Disk in
    let now = D.files c.loop-segment.disk in
    let xs = c.args.segments.now in
    c.loop-segment.invariant.gone now
    (subst (λ (l : List ℕ). AreGone now now l)
    (sym (drop_all c.loop-segment.segment-index xs (omega (arith, c.loop-segment-test.false))))
    (gone_none now))

pub take_recovered-requires : goal.take_recovered-requires
take_recovered-requires g c =
    let D = g.D.Disk in
    let i = c.loop-segment.segment-index in
    let xs = c.args.segments.now in
    record {
      there = is_there (D.files c.loop-segment.disk) (get_or xs i 0) (drop (i + 1) xs)
          (subst (λ (l : List ℕ). IfSome (D.files c.loop-segment.disk) (λ f. AreThere f l))
          (drop_more xs i 0 c.loop-segment-test.true) c.loop-segment.invariant.there);
    }

pub returns-in_err-take_recovered-clause-files : goal.returns-in_err-take_recovered-clause-files
returns-in_err-take_recovered-clause-files g c first may =
    let D = g.D.Disk in
    let i = c.loop-segment.segment-index in
    let xs = c.args.segments.now in
    let split : drop i xs ≡ get_or xs i 0 ∷ drop (i + 1) xs =
    drop_more xs i 0 c.loop-segment-test.true in
    same_of first (D.files c.take_recovered.new.disk) (drop (i + 1) xs)
    (c.take_recovered.ensures.files first (drop (i + 1) xs)
    (subst (λ (l : List ℕ). Recovers first (D.files c.loop-segment.disk) l) split
    (c.loop-segment.invariant.files first may)))

pub returns-clause-removes : goal.returns-clause-removes
returns-clause-removes g c =
    let D = g.D.Disk in
    let xs = c.args.segments.now in
    subst (λ (ids : List ℕ).
    HaveRemoved ids (D.changes c.args.disk.now) (D.changes c.loop-segment.disk))
    (take_all c.loop-segment.segment-index xs (omega (arith, c.loop-segment-test.false)))
    c.loop-segment.invariant.removed

pub returns-clause-files : goal.returns-clause-files
returns-clause-files g c first may =
    let D = g.D.Disk in
    same_of first (D.files c.loop-segment.disk)
    (drop c.loop-segment.segment-index c.args.segments.now)
    (c.loop-segment.invariant.files first may)

pub returns-in_err-take_recovered-clause-others : goal.returns-in_err-take_recovered-clause-others
returns-in_err-take_recovered-clause-others g c =
    let D = g.D.Disk in
    let i = c.loop-segment.segment-index in
    let xs = c.args.segments.now in
    stay_more xs (D.files c.args.disk.now) (D.files c.loop-segment.disk)
    (D.files c.take_recovered.new.disk) (get_or xs i 0)
    (Contains-get_or xs i 0 c.loop-segment-test.true) c.loop-segment.invariant.others
    c.take_recovered.ensures.others

pub returns-in_err-take_recovered-clause-from : goal.returns-in_err-take_recovered-clause-from
returns-in_err-take_recovered-clause-from g c first from =
    let D = g.D.Disk in
    then_from D.moment D.since D.leaves first c.args.disk.now c.loop-segment.disk
    c.take_recovered.new.disk (c.loop-segment.invariant.from first from)
    (c.take_recovered.ensures.from first)
