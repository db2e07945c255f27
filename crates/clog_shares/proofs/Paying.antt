-- The memtables that a writer opens are paid for by updates that it has logged.
use Rattle.std.proofs.Common.{
  ◌≡◌,
  ℕ,
  ◌+◌,
  ◌*◌,
  ◌≤◌,
  inl,
  inr,
  List,
  [],
  ◌∷◌,
  ◌++◌,
  reverse,
  Option,
  Some,
  None,
  sym,
  ap,
  ◌∙◌,
  subst,
  arith,
}
use Rattle.std.proofs.Math.Nat.{mul-add, mul-le-mul_left}
use Rattle.std.proofs.lemmas.List.{reverse-append}
use Rattle.std.proofs.lemmas.List.Sums.{sum_by-append}
use Rattle.clog_base.specs.declared.sizes.Sizes.{Sizes}
use Rattle.clog_applied.specs.Flushed.{updates_in}
use Rattle.clog_applied.specs.History.{Line}
use Rattle.path_core.specs.declared.note.EntryNote.{EntryNote}
use Rattle.path_rule.specs.declared.view.OwnStep.{OwnStep}
use Rattle.path_rule.specs.declared.view.View.{View}
use Rattle.path_table.specs.declared.trying.PathSeat.{PathSeat}
use Rattle.path_table.specs.Members.{view_of}
use Rattle.path_flush.specs.declared.flush_answer.Flush.{Flush}
use Rattle.write_path.specs.declared.prepared.Prepared.{Prepared}
use Rattle.path_flush.specs.OwnWrites.{writes_of}
use Rattle.path_flush.specs.Flushed.{Flushes}
use Rattle.write_path.specs.Writes.{IsPrepared}
use Rattle.clog_shares.specs.declared.fault.WriteFault.{WriteFault}
use Rattle.path_flush.specs.Opens.{opens}
use Rattle.clog_shares.specs.Shares.{
  AddsWrite,
  AreWritesOf,
  LogsShare,
  MayAddWrite,
}
use Rattle.clog_shares.specs.Tallied.{
  ArePaid,
  HasOpened,
  IsPaid,
  IsTallied,
  OpensNone,
  updates_for,
}
use Rattle.clog_shares.proofs.Committing.{one_write}
use Rattle.clog_shares.proofs.Opening.{at_most_one, flush_opens}
use Rattle.clog_shares.proofs.SameLines.{same_lines}

-- ---- lines and their writes

-- the updates of lines, and of more
pub more_updates : (t : ℕ) (ls ks : List Line)
    → updates_for t (ls ++ ks) ≡ updates_for t ls + updates_for t ks
more_updates t ls ks = sum_by-append (updates_in (record { 0 = t })) ls ks

pub both_writes : (w : ℕ) (ls ks : List Line) (ns ms : List EntryNote) → AreWritesOf w ls ns
    → AreWritesOf w ks ms → AreWritesOf w (ls ++ ks) (ns ++ ms)
both_writes w [] ks [] ms are more = more
both_writes w [] ks (n ∷ ns) ms are more = absurd are
both_writes w (l ∷ ls) ks [] ms are more = absurd are
both_writes w (l ∷ ls) ks (n ∷ ns) ms are more =
    (are.0, both_writes w ls ks ns ms are.1 more)

-- ---- of one table

pub paid_by_tally : (most w t count : ℕ) (writes : List EntryNote) (trail : List OwnStep)
    → IsTallied most w t count writes trail → IsPaid most w t writes trail
paid_by_tally most w t count writes trail T = record {
  lines = T.front ++ T.rest;
  are = subst (AreWritesOf w (T.front ++ T.rest)) (sym T.parts)
      (both_writes w T.front T.rest T.early T.late T.are_early T.are_late);
  opened =
      let sum = more_updates t T.front T.rest in
      let old = T.opened in omega (arith, sum, old);
}

-- a flush of a table of which there are so many updates left
pub flush_pays : (most w t count : ℕ) (v after : View) (a : Flush) → Flushes w t v a after
    → most ≤ count → IsTallied most w t count (reverse (writes_of v.trail)) v.trail
    → IsPaid most w t (reverse (writes_of after.trail)) after.trail
flush_pays most w t count v after a F due T =
    let more = flush_opens w t v after a F in
    let one : more.more ≤ 1 = (let few = more.few in let most_one = at_most_one a in
    omega (arith, few, most_one)) in
    let lines = T.front ++ T.rest in
    record {
      lines = lines;
      are = subst (λ (l : List EntryNote). AreWritesOf w lines (reverse l)) (sym F.list)
          (subst (AreWritesOf w lines) (sym T.parts)
          (both_writes w T.front T.rest T.early T.late T.are_early T.are_late));
      opened = subst (λ (k : ℕ). most * k ≤ updates_for t lines) (sym more.sum)
          (let split = mul-add most more.more (opens t v.trail) in
          let up : most * more.more ≤ most * 1 = mul-le-mul_left most one in
          let unit : most * 1 ≡ most = omega arith in
          let old = T.opened in
          let counted = T.counted in
          let sum = more_updates t T.front T.rest in
          omega (arith, split, up, unit, old, counted, sum, due));
    }

-- where nothing is opened, and a write is added or none
paid_same : (most w t : ℕ) (before after : List OwnStep) → writes_of after ≡ writes_of before
    → opens t after ≡ opens t before → IsPaid most w t (reverse (writes_of before)) before
    → IsPaid most w t (reverse (writes_of after)) after
paid_same most w t before after same none P = record {
  lines = P.lines;
  are = subst (λ (l : List EntryNote). AreWritesOf w P.lines (reverse l)) (sym same) P.are;
  opened = subst (λ (k : ℕ). most * k ≤ updates_for t P.lines) (sym none) P.opened;
}

paid_more : (most w t : ℕ) (sizes : Sizes) (l : Line) (p : Prepared) (before after : List OwnStep)
    → AddsWrite w p before after → opens t after ≡ opens t before
    → IsPrepared sizes l.number l.mutation p
    → IsPaid most w t (reverse (writes_of before)) before
    → IsPaid most w t (reverse (writes_of after)) after
paid_more most w t sizes l p before after a none prepared P =
    let n = a.note in
    let list : reverse (writes_of after) ≡ reverse (writes_of before) ++ n ∷ [] =
    ap (λ (ns : List EntryNote). reverse ns) a.list ∙ reverse-append (n ∷ []) (writes_of before)
    in record {
      lines = P.lines ++ l ∷ [];
      are = subst (AreWritesOf w (P.lines ++ l ∷ [])) (sym list)
          (one_write w P.lines (reverse (writes_of before)) l n P.are
          (record { by = a.by; is = a.of sizes l.number l.mutation prepared }));
      opened = subst (λ (k : ℕ). most * k ≤ updates_for t (P.lines ++ l ∷ [])) (sym none)
          (let sum = more_updates t P.lines (l ∷ []) in
          let old = P.opened in omega (arith, sum, old));
    }

-- ---- of each table

pub paid_on : (flush : Option ℕ) (w : ℕ) (before after : List OwnStep)
    → writes_of after ≡ writes_of before → OpensNone before after → ArePaid flush w before
    → ArePaid flush w after
paid_on None w before after same none all = tt
paid_on (Some most) w before after same none all = λ t low.
    paid_same most w t before after same (none t) (all t low)

pub paid_with : (flush : Option ℕ) (w : ℕ) (sizes : Sizes) (l : Line) (p : Prepared)
    (before after : List OwnStep) → MayAddWrite w p before after → OpensNone before after
    → IsPrepared sizes l.number l.mutation p → ArePaid flush w before → ArePaid flush w after
paid_with None w sizes l p before after may none prepared all = tt
paid_with (Some most) w sizes l p before after (inl a) none prepared all = λ t low.
    paid_more most w t sizes l p before after a (none t) prepared (all t low)
paid_with (Some most) w sizes l p before after (inr same) none prepared all =
    paid_on (Some most) w before after same none all

-- ---- of a share

-- what is paid for by the lines that were logged is paid for by the share
pub has_opened : {K : Type 0} (flush : Option ℕ) (w : ℕ) (lines : List Line)
    (fault : Option WriteFault) (s : PathSeat K)
    → LogsShare w lines (reverse (writes_of (view_of s.member).trail)) fault
    → ArePaid flush w (view_of s.member).trail → HasOpened flush lines s
has_opened flush w lines fault s logs all most is t low =
    let trail = (view_of s.member).trail in
    let P = subst (λ (f : Option ℕ). ArePaid f w trail) is all t low in
    let same = same_lines w P.lines logs.done (reverse (writes_of trail)) P.are logs.are in
    let sum : updates_for t lines ≡ updates_for t logs.done + updates_for t logs.left =
    ap (λ (ls : List Line). updates_for t ls) logs.parts ∙ more_updates t logs.done logs.left in
    let own = ap (λ (ls : List Line). updates_for t ls) same in
    let paid = P.opened in omega (arith, sum, own, paid)

-- and where no more is opened
pub still_opened : {K : Type 0} (flush : Option ℕ) (lines : List Line) (s u : PathSeat K)
    → OpensNone (view_of s.member).trail (view_of u.member).trail → HasOpened flush lines s
    → HasOpened flush lines u
still_opened flush lines s u none opened most is t low =
    subst (λ (k : ℕ). most * k ≤ updates_for t lines) (sym (none t)) (opened most is t low)
