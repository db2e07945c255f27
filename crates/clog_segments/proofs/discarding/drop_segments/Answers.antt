use Rattle.std.proofs.Common.{
  ◌≡◌,
  ℕ,
  ◌+◌,
  ◌∷◌,
  ◌++◌,
  List,
  drop,
  get_or,
  take,
  refl,
  sym,
  subst,
  ◌∙◌,
  arith,
}
use Rattle.std.specs.Prelude.{Option, option_map}
use Rattle.std.proofs.lemmas.List.{drop_more, take_all, take_more}
use Rattle.clog_base.proofs.Members.{here}
use Rattle.clog_disk.proofs.Moments.{goes_on_by, later_still, started}
use Rattle.clog_disk.proofs.Telling.{same_told_self, same_told_then}
use Rattle.clog_segments.specs.Discards.{
  AreBehind,
  AreDroppable,
  MayAllGo,
  all_go_by,
  all_gone_at,
  names_by,
  next_by,
}
use Rattle.clog_disk.specs.Files.{Files}
use Rattle.clog_segments.specs.AtMost.{IsArchiveAmong}
use Rattle.clog_segments.specs.Beside.{MayBeGoing, StandsAs, StayButOne}
use Rattle.clog_segments.specs.Resting.{ShowsBehind}
use Rattle.clog_segments.proofs.AddsOnly.{adds_none, archived_on}
use Rattle.clog_segments.proofs.AllGo.{
  all_go_more,
  all_gone_none,
  all_gone_then,
  all_rest,
  behind_none,
  behind_then,
  others_there_still,
}
use Rattle.clog_segments.proofs.Kept.{rests_show}
use Rattle.clog_segments.proofs.Stays.{in_all, next_named}
use Rattle.clog_segments.proofs.NamesKept.{each_same, each_then}
use Rattle.clog_segments.proofs.discarding.drop_segments.Goals as goal

pub loop-done-init : goal.loop-done-init
loop-done-init g c =
    let D = g.D.Disk in
    let disk = c.args.disk.now in
    record {
      told = same_told_self (D.files disk);
      later = record {
        no_sooner = omega arith;
        remembers = λ t le. refl;
        lasted_then = λ t le. (λ has. has, λ has. has);
      };
      faults = refl;
      droppable = record {
        fits = c.requires.fits;
        ascending = c.requires.ascending;
        there = c.requires.there;
      };
      gone = all_gone_none (D.files disk) c.args.archives c.args.base;
      changes = behind_none (D.changes disk) (D.changes disk) refl;
      elsewhere = λ name left apart is. is;
      names = each_same (D.files disk) (D.files disk) (D.leaves disk) (D.leaves disk) refl
          (λ name left is. is);
      adds = λ f told. adds_none D.files D.moment D.since D.leaves disk
          (IsArchiveAmong (D.leaves disk) c.args.base c.args.ordinals.now);
      may = λ r past last old kept may. may;
      only = λ r past last old kept may.
          started D.moment D.since disk (ShowsBehind r past last old kept) (λ image left.
          rests_show (D.files disk) (D.leaves disk) r past last old kept
          (all_rest (D.files disk) (D.leaves disk) r past last old kept c.args.base
          c.args.ordinals.now may) image (g.met.D.Disk.only_now disk image left));
    }

pub drop_segment-requires-clause-fits : goal.drop_segment-requires-clause-fits
drop_segment-requires-clause-fits g c =
    let D = g.D.Disk in
    let i = c.loop-done.done in
    let xs = c.args.ordinals.now in
    let are = subst (AreDroppable (D.files c.loop-done.disk) c.args.base)
    (drop_more xs i 0 c.loop-done-test.true) c.loop-done.invariant.droppable in
    are.fits (get_or xs i 0) (here (get_or xs i 0) (drop (i + 1) xs))

pub drop_segment-requires-clause-there : goal.drop_segment-requires-clause-there
drop_segment-requires-clause-there g c =
    let D = g.D.Disk in
    let i = c.loop-done.done in
    let xs = c.args.ordinals.now in
    let are = subst (AreDroppable (D.files c.loop-done.disk) c.args.base)
    (drop_more xs i 0 c.loop-done-test.true) c.loop-done.invariant.droppable in
    are.there (get_or xs i 0) (here (get_or xs i 0) (drop (i + 1) xs))

pub returns-in-Err-clause-any_moment : goal.returns-in-Err-clause-any_moment
returns-in-Err-clause-any_moment g c r past last old kept may =
    let D = g.D.Disk in
    let i = c.loop-done.done in
    let xs = c.args.ordinals.now in
    let before = c.loop-done.disk in
    goes_on_by D.moment D.since c.args.disk.now before c.drop_segment.new.disk
    (ShowsBehind r past last old kept) (c.loop-done.invariant.only r past last old kept may)
    (c.drop_segment.ensures.any_moment r past last old kept (drop (i + 1) xs)
    (subst (MayAllGo (D.files before) (D.leaves before) r past last old kept c.args.base)
    (drop_more xs i 0 c.loop-done-test.true) (c.loop-done.invariant.may r past last old kept may)))

pub loop-done-preserved : goal.loop-done-preserved
loop-done-preserved g c =
    let D = g.D.Disk in
    let i = c.loop-done.done in
    let xs = c.args.ordinals.now in
    let o = get_or xs i 0 in
    let base = c.args.base in
    let split : drop i xs ≡ o ∷ drop (i + 1) xs = drop_more xs i 0 c.loop-done-test.true in
    let first = c.args.disk.now in
    let before = c.loop-done.disk in
    let after = c.drop_segment.new.disk in
    let is = c.loop-done.invariant in
    record {
      told = same_told_then (D.files first) (D.files before) (D.files after) is.told
          c.drop_segment.ensures.told;
      later = later_still D.moment D.read_at D.lasted_at first before after is.later
          c.drop_segment.ensures.later;
      faults = c.in-Ok.ensures.cause.quiet (λ e. cc) ∙ is.faults;
      droppable = others_there_still (D.files before) (D.files after) c.args.archives base o
          (drop (i + 1) xs) (subst (AreDroppable (D.files before) base) split is.droppable)
          c.in-Ok.ensures.files;
      gone = subst (λ (l : List ℕ).
          D.files after ≡ option_map (all_gone_at c.args.archives base l) (D.files first))
          (sym (take_more xs i 0 c.loop-done-test.true))
          (all_gone_then (D.files first) (D.files before) (D.files after) c.args.archives base
          (take i xs) o is.gone c.in-Ok.ensures.files);
      changes = subst (λ (l : List ℕ).
          AreBehind (all_go_by c.args.archives base l) (D.changes first) (D.changes after))
          (sym (take_more xs i 0 c.loop-done-test.true))
          (all_go_more c.args.archives base (take i xs) o (D.changes first) (D.changes before)
          (D.changes after) is.changes c.in-Ok.ensures.changes);
      elsewhere = λ name left apart here.
          is.elsewhere name left apart (c.drop_segment.ensures.elsewhere name left
          (λ own. apart (o, in_all i xs o (drop (i + 1) xs) split, own)) here);
      names = each_then (D.files first) (D.files before) (D.files after) (D.leaves first)
          (D.leaves before) (D.leaves after) c.drop_segment.ensures.told is.names
          (c.in-Ok.ensures.names_last (λ e. cc));
      adds = archived_on D.files D.moment D.since D.leaves first before after base xs o
          (in_all i xs o (drop (i + 1) xs) split) is.told c.drop_segment.ensures.told
          is.later.no_sooner is.adds c.drop_segment.ensures.adds_only;
      may = λ r past last old kept may.
          c.in-Ok.ensures.goes r past last old kept (drop (i + 1) xs)
          (subst (MayAllGo (D.files before) (D.leaves before) r past last old kept base) split
          (is.may r past last old kept may));
      only = λ r past last old kept may.
          goes_on_by D.moment D.since first before after (ShowsBehind r past last old kept)
          (is.only r past last old kept may)
          (c.drop_segment.ensures.any_moment r past last old kept (drop (i + 1) xs)
          (subst (MayAllGo (D.files before) (D.leaves before) r past last old kept base) split
          (is.may r past last old kept may)));
    }

pub returns-clause-files : goal.returns-clause-files
returns-clause-files g c =
    let D = g.D.Disk in
    let xs = c.args.ordinals.now in
    subst (λ (l : List ℕ). D.files c.loop-done.disk
    ≡ option_map (all_gone_at c.args.archives c.args.base l) (D.files c.args.disk.now))
    (take_all c.loop-done.done xs (omega (arith, c.loop-done-test.false)))
    c.loop-done.invariant.gone

pub returns-in-Err-clause-others : goal.returns-in-Err-clause-others
returns-in-Err-clause-others g c =
    let D = g.D.Disk in
    let i = c.loop-done.done in
    let xs = c.args.ordinals.now in
    let its = c.in-Err.ensures.others in
    let now = D.files c.drop_segment.new.disk in
    let are = next_named c.args.archives c.in-Err.refusal.is_named c.args.base i (get_or xs i 0) xs
    (drop (i + 1) xs) (D.files c.args.disk.now) (D.files c.loop-done.disk)
    (drop_more xs i 0 c.loop-done-test.true) c.loop-done.invariant.gone in (
      its.0,
      its.1,
      subst (λ (o : Option Files). StayButOne its.0 o now) are its.2,
      subst (λ (o : Option Files). StandsAs its.0
          (MayBeGoing (c.args.base + get_or xs i 0) its.0) o now) are its.3,
    )

pub returns-in-Err-clause-elsewhere : goal.returns-in-Err-clause-elsewhere
returns-in-Err-clause-elsewhere g c name left apart here =
    let i = c.loop-done.done in
    let xs = c.args.ordinals.now in
    let o = get_or xs i 0 in
    c.loop-done.invariant.elsewhere name left apart (c.drop_segment.ensures.elsewhere name left
    (λ own. apart (
      o,
      in_all i xs o (drop (i + 1) xs) (drop_more xs i 0 c.loop-done-test.true),
      own,
    )) here)

pub returns-in-Err-clause-names_last : goal.returns-in-Err-clause-names_last
returns-in-Err-clause-names_last g c other =
    let D = g.D.Disk in
    let first = c.args.disk.now in
    let before = c.loop-done.disk in
    let after = c.drop_segment.new.disk in
    each_then (D.files first) (D.files before) (D.files after) (D.leaves first) (D.leaves before)
    (D.leaves after) c.drop_segment.ensures.told c.loop-done.invariant.names
    (c.in-Err.ensures.names_last other)

pub returns-in-Err-clause-adds_only : goal.returns-in-Err-clause-adds_only
returns-in-Err-clause-adds_only g c =
    let D = g.D.Disk in
    let i = c.loop-done.done in
    let xs = c.args.ordinals.now in
    let o = get_or xs i 0 in
    let base = c.args.base in
    let split : drop i xs ≡ o ∷ drop (i + 1) xs = drop_more xs i 0 c.loop-done-test.true in
    let first = c.args.disk.now in
    let before = c.loop-done.disk in
    let after = c.drop_segment.new.disk in
    let is = c.loop-done.invariant in
    archived_on D.files D.moment D.since D.leaves first before after base xs o
    (in_all i xs o (drop (i + 1) xs) split) is.told c.drop_segment.ensures.told
    is.later.no_sooner is.adds c.drop_segment.ensures.adds_only

-- ---- how far it went

pub returns-in-Err-clause-left : goal.returns-in-Err-clause-left
returns-in-Err-clause-left g c other =
    let D = g.D.Disk in
    let i = c.loop-done.done in
    let xs = c.args.ordinals.now in
    c.in-Err.ensures.left other
    ∙ next_named c.args.archives c.in-Err.refusal.is_named c.args.base i (get_or xs i 0) xs
    (drop (i + 1) xs) (D.files c.args.disk.now) (D.files c.loop-done.disk)
    (drop_more xs i 0 c.loop-done-test.true) c.loop-done.invariant.gone

pub returns-in-Err-clause-changes : goal.returns-in-Err-clause-changes
returns-in-Err-clause-changes g c =
    let D = g.D.Disk in
    let i = c.loop-done.done in
    let xs = c.args.ordinals.now in
    let base = c.args.base in
    let named = c.in-Err.refusal.is_named in
    let first = D.changes c.args.disk.now in
    let after = D.changes c.drop_segment.new.disk in (
      c.loop-done-test.true,
      subst (λ (l : List ℕ).
          AreBehind (all_go_by c.args.archives base (take i xs) ++ next_by named base l) first
          after) (sym (drop_more xs i 0 c.loop-done-test.true))
          (behind_then (all_go_by c.args.archives base (take i xs))
          (names_by named (base + get_or xs i 0)) first (D.changes c.loop-done.disk) after
          c.loop-done.invariant.changes c.in-Err.ensures.changes),
    )
