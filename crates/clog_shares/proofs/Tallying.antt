-- A writer's tally while it logs: one write more, a flush, and what neither adds to nor takes from.
use Rattle.std.proofs.Common.{
  ◌≡◌,
  ◌≢◌,
  ◌⊎◌,
  ℕ,
  zero,
  suc,
  ◌+◌,
  ◌*◌,
  ◌<◌,
  ◌≤◌,
  Bool,
  true,
  false,
  inl,
  inr,
  List,
  [],
  ◌∷◌,
  ◌++◌,
  get_or,
  reverse,
  set,
  Option,
  Some,
  None,
  refl,
  sym,
  ap,
  ◌∙◌,
  subst,
  arith,
  append_assoc,
  get_or-set_other,
}
use Rattle.std.proofs.lemmas.List.{reverse-append}
use Rattle.std.proofs.lemmas.Option.{none-some, same_Some}
use Rattle.std.proofs.lemmas.List.Sums.{sum_by-cons}
use mathlib.Core.Logic.{dite}
use native.Mathlib.Decide.{ℕ_discrete}
use Rattle.atomic_table.specs.Seated.{TableId}
use Rattle.clog_spec.specs.Sizes.{most_tables}
use Rattle.clog_base.specs.declared.sizes.Sizes.{Sizes}
use Rattle.clog_applied.specs.Flushed.{updates_in}
use Rattle.clog_applied.specs.History.{Line}
use Rattle.path_core.specs.declared.note.EntryNote.{EntryNote}
use Rattle.path_rule.specs.declared.view.OwnStep.{OwnStep}
use Rattle.path_rule.specs.declared.view.PathSize.{PathSize}
use Rattle.path_rule.specs.declared.view.View.{View}
use Rattle.path_table.specs.declared.trying.PathSeat.{PathSeat}
use Rattle.path_table.specs.Members.{view_of}
use Rattle.path_flush.specs.declared.flush_answer.Flush.{Flush}
use Rattle.write_path.specs.declared.prepared.Prepared.{Prepared}
use Rattle.write_path.specs.ClosedFiles.{HasRetired}
use Rattle.write_path.specs.Commits.{KeepsList}
use Rattle.path_flush.specs.OwnWrites.{writes_of}
use Rattle.path_flush.specs.Flushed.{Flushes}
use Rattle.path_flush.specs.Grown.{HasGrown}
use Rattle.write_path.specs.Writes.{IsPrepared}
use Rattle.write_path.proofs.FlushPromises.{still_flushed}
use Rattle.clog_shares.specs.declared.tally.LineCounts.{LineCounts}
use Rattle.clog_shares.specs.declared.tally.UpdateTally.{UpdateTally}
use Rattle.clog_shares.specs.Shares.{AddsWrite, is_finished, refusal_by}
use Rattle.path_flush.specs.Opens.{opens}
use Rattle.clog_shares.specs.Tallied.{
  ArePaid,
  HasFlushedAll,
  IsCountedFor,
  IsFlushedOver,
  IsPaid,
  IsTallied,
  OpensNone,
  updates_for,
}
use Rattle.clog_shares.specs.Tallies.{
  AddsCounts,
  HasNone,
  IsTallyFor,
  MayTally,
  Tallies,
  limit_of,
}
use Rattle.clog_shares.proofs.Committing.{one_write}
use Rattle.clog_shares.proofs.FlushTold.{busy_opens, finished, flush_grows}
use Rattle.clog_shares.proofs.Opening.{flush_opens, others_opened}
use Rattle.clog_shares.proofs.Paying.{flush_pays, more_updates, paid_by_tally}

-- ---- of one table

-- what is flushed stays so
over_on : (t : ℕ) (early : List EntryNote) (before after : List OwnStep) → HasGrown before after
    → (early ≡ []) ⊎ IsFlushedOver t early before → (early ≡ []) ⊎ IsFlushedOver t early after
over_on t early before after G (inl none) = inl none
over_on t early before after G (inr F) = inr (record {
  key = F.key;
  flushed = subst (λ (l : List OwnStep). HasRetired (record { 0 = t }) F.key l) (sym G.is)
      (still_flushed (record { 0 = t }) F.key G.newer before F.flushed);
  covers = F.covers;
})

-- so it is where none is logged, and no memtable opened
tallied_on : (most w t count : ℕ) (before after : List OwnStep)
    → writes_of after ≡ writes_of before → HasGrown before after
    → opens t after ≡ opens t before
    → IsTallied most w t count (reverse (writes_of before)) before
    → IsTallied most w t count (reverse (writes_of after)) after
tallied_on most w t count before after same G none T = record {
  early = T.early;
  late = T.late;
  parts = ap (λ (l : List EntryNote). reverse l) same ∙ T.parts;
  flushed = over_on t T.early before after G T.flushed;
  front = T.front;
  are_early = T.are_early;
  opened = subst (λ (k : ℕ). most * k ≤ updates_for t T.front) (sym none) T.opened;
  rest = T.rest;
  are_late = T.are_late;
  counted = T.counted;
}

-- one write more
one_tallied : (most w t count more : ℕ) (sizes : Sizes) (l : Line) (p : Prepared)
    (before after : List OwnStep) → AddsWrite w p before after → HasGrown before after
    → opens t after ≡ opens t before → IsPrepared sizes l.number l.mutation p
    → more ≡ updates_in (record { 0 = t }) l
    → IsTallied most w t count (reverse (writes_of before)) before
    → IsTallied most w t (count + more) (reverse (writes_of after)) after
one_tallied most w t count more sizes l p before after a G none prepared is T =
    let n = a.note in
    let list : reverse (writes_of after) ≡ reverse (writes_of before) ++ n ∷ [] =
    ap (λ (ns : List EntryNote). reverse ns) a.list ∙ reverse-append (n ∷ []) (writes_of before)
    in
    let sum = more_updates t T.rest (l ∷ []) in
    let one = sum_by-cons (updates_in (record { 0 = t })) l [] in
    let old = T.counted in record {
      early = T.early;
      late = T.late ++ n ∷ [];
      parts = list ∙ (ap (λ (ns : List EntryNote). ns ++ n ∷ []) T.parts
          ∙ append_assoc T.early T.late (n ∷ []));
      flushed = over_on t T.early before after G T.flushed;
      front = T.front;
      are_early = T.are_early;
      opened = subst (λ (k : ℕ). most * k ≤ updates_for t T.front) (sym none) T.opened;
      rest = T.rest ++ l ∷ [];
      are_late = one_write w T.rest T.late l n T.are_late
          (record { by = a.by; is = a.of sizes l.number l.mutation prepared });
      counted = omega (arith, sum, one, old, is);
    }

-- a seat that has made no step
none_tallied : (most w t : ℕ) (trail : List OwnStep) → trail ≡ []
    → IsTallied most w t 0 (reverse (writes_of trail)) trail
none_tallied most w t trail none = record {
  early = [];
  late = [];
  parts = ap (λ (l : List OwnStep). reverse (writes_of l)) none;
  flushed = inl refl;
  front = [];
  are_early = tt;
  opened = subst (λ (l : List OwnStep). most * opens t l ≤ 0) (sym none) (omega arith);
  rest = [];
  are_late = tt;
  counted = refl;
}

-- ---- of each table

-- none of a table is left
pub set_none : (counts : List ℕ) (t : ℕ) → get_or (set counts t 0) t 0 ≡ 0
set_none [] t = refl
set_none (c ∷ cs) zero = refl
set_none (c ∷ cs) (suc t) = set_none cs t

-- another table's count is left alone, whatever is answered
left_by : (t u : ℕ) (tally now : UpdateTally) (b : Bool) → u ≢ t
    → (b ≡ true → now.counts ≡ set tally.counts t 0) → (b ≡ false → now ≡ tally)
    → get_or now.counts u 0 ≡ get_or tally.counts u 0
left_by t u tally now true apart done other =
    ap (λ (l : List ℕ). get_or l u 0) (done refl) ∙ get_or-set_other tally.counts t u 0 0 apart
left_by t u tally now false apart done other =
    ap (λ (x : UpdateTally). get_or x.counts u 0) (other refl)

pub left_alone : (t u : ℕ) (tally now : UpdateTally) (a : Flush) → u ≢ t
    → (is_finished a ≡ true → now.counts ≡ set tally.counts t 0)
    → (is_finished a ≡ false → now ≡ tally) → get_or now.counts u 0 ≡ get_or tally.counts u 0
left_alone t u tally now a apart done other =
    left_by t u tally now (is_finished a) apart done other

module _ (w t : ℕ) (v after : View) (a : Flush) (tally : UpdateTally) (F : Flushes w t v a after)
    (low : t < most_tables) (due : tally.most ≤ get_or tally.counts t 0)
    (all : Tallies w tally v.trail) where
  grows : HasGrown v.trail after.trail
  grows = flush_grows w t v after a F

  -- of another table
  other : (u : ℕ) → u < most_tables → u ≢ t → IsTallyFor w tally after.trail u
  other u there apart = let T = all u there in record {
    count = T.count;
    tallied = tallied_on tally.most w u T.count v.trail after.trail F.list grows
        (others_opened w t u v after a F apart) T.tallied;
    is = T.is;
  }

  -- of its own
  own_paid : IsPaid tally.most w t (reverse (writes_of after.trail)) after.trail
  own_paid =
      let T = all t low in
      let is = T.is in
      flush_pays tally.most w t T.count v after a F (omega (arith, is, due)) T.tallied

  -- whatever is answered
  pub behind_any : ArePaid (Some tally.most) w after.trail
  behind_any u there = dite (ℕ_discrete u t)
      (λ own. subst
      (λ (k : ℕ). IsPaid tally.most w k (reverse (writes_of after.trail)) after.trail)
      (sym own) own_paid)
      (λ apart.
      let T = other u there apart in
      paid_by_tally tally.most w u T.count (reverse (writes_of after.trail)) after.trail
      T.tallied)

  module _ (now : UpdateTally) (most : now.most ≡ tally.most) where
    where_finished : is_finished a ≡ true → now.counts ≡ set tally.counts t 0
        → Tallies w now after.trail
    where_finished done put = λ u there.
        let trail = after.trail in
        let writes = reverse (writes_of trail) in
        dite (ℕ_discrete u t)
        (λ own. record {
          count = 0;
          tallied = subst (λ (k : ℕ). IsTallied k w u 0 writes trail) (sym most)
              (subst (λ (k : ℕ). IsTallied tally.most w k 0 writes trail) (sym own)
              (finished tally.most w t v after a done F own_paid));
          is =
              let read = ap (λ (l : List ℕ). get_or l u 0) put in
              let here = ap (λ (k : ℕ). get_or (set tally.counts t 0) k 0) own in
              let none = set_none tally.counts t in
              omega (arith, read, here, none);
        })
        (λ apart.
        let T = other u there apart in record {
          count = T.count;
          tallied = subst (λ (k : ℕ). IsTallied k w u T.count writes trail) (sym most) T.tallied;
          is =
              let read = ap (λ (l : List ℕ). get_or l u 0) put in
              let there = get_or-set_other tally.counts t u 0 0 apart in
              let is = T.is in
              omega (arith, read, there, is, most);
        })

    -- where another seat has the turn
    where_busy : is_finished a ≡ false → refusal_by a ≡ None → Tallies w tally after.trail
    where_busy not none = λ u there. dite (ℕ_discrete u t)
        (λ own.
        let T = all u there in
        let more = flush_opens w t v after a F in
        let few = more.few in
        let busy = busy_opens a not none in
        let sum = more.sum in
        let same : opens t after.trail ≡ opens t v.trail = omega (arith, few, busy, sum) in
        record {
          count = T.count;
          tallied = tallied_on tally.most w u T.count v.trail after.trail F.list grows
              (subst (λ (k : ℕ). opens k after.trail ≡ opens k v.trail) (sym own) same) T.tallied;
          is = T.is;
        })
        (λ apart. other u there apart)

    by_whether : (b : Bool) → is_finished a ≡ b → refusal_by a ≡ None
        → (is_finished a ≡ true → now.counts ≡ set tally.counts t 0)
        → (is_finished a ≡ false → now ≡ tally) → Tallies w now after.trail
    by_whether true is none done kept = where_finished is (done is)
    by_whether false is none done kept =
        subst (λ (x : UpdateTally). Tallies w x after.trail) (sym (kept is)) (where_busy is none)

    -- where it is not refused
    pub behind_flush : refusal_by a ≡ None
        → (is_finished a ≡ true → now.counts ≡ set tally.counts t 0)
        → (is_finished a ≡ false → now ≡ tally) → Tallies w now after.trail
    behind_flush none done kept = by_whether (is_finished a) refl none done kept

-- what a tally tells is paid for
pub all_paid : (w : ℕ) (tally : UpdateTally) (trail : List OwnStep) → Tallies w tally trail
    → ArePaid (Some tally.most) w trail
all_paid w tally trail all = λ t low. let T = all t low in
    paid_by_tally tally.most w t T.count (reverse (writes_of trail)) trail T.tallied

-- what one call keeps of a tally and a further one keeps, both keep
pub tallies_then : {K : Type 0} (id : TableId) (size : PathSize) (first then : PathSeat K)
    (before tally : UpdateTally) (now : List OwnStep) (left : UpdateTally)
    → KeepsList id size first.member then.member
    → (Tallies first.member.number before (view_of first.member).trail
    → Tallies first.member.number tally (view_of then.member).trail)
    → (Tallies then.member.number tally (view_of then.member).trail
    → Tallies then.member.number left now)
    → Tallies first.member.number before (view_of first.member).trail
    → Tallies first.member.number left now
tallies_then id size first then before tally now left keeps old new all =
    subst (λ (k : ℕ). Tallies k left now) keeps.0.1
    (new (subst (λ (k : ℕ). Tallies k tally (view_of then.member).trail) (sym keeps.0.1)
    (old all)))

-- the same of what is paid for
pub paid_then : {K : Type 0} (id : TableId) (size : PathSize) (first then : PathSeat K)
    (before tally : UpdateTally) (now : List OwnStep) → KeepsList id size first.member then.member
    → tally.most ≡ before.most
    → (Tallies first.member.number before (view_of first.member).trail
    → Tallies first.member.number tally (view_of then.member).trail)
    → (Tallies then.member.number tally (view_of then.member).trail
    → ArePaid (Some tally.most) then.member.number now)
    → Tallies first.member.number before (view_of first.member).trail
    → ArePaid (Some before.most) first.member.number now
paid_then id size first then before tally now keeps most old new all =
    subst (λ (k : ℕ). ArePaid (Some k) first.member.number now) most
    (subst (λ (k : ℕ). ArePaid (Some tally.most) k now) keeps.0.1
    (new (subst (λ (k : ℕ). Tallies k tally (view_of then.member).trail) (sym keeps.0.1)
    (old all))))

-- ---- where a writer flushes

pub may_paid : (w : ℕ) (tally : Option UpdateTally) (trail : List OwnStep) → MayTally w tally trail
    → ArePaid (limit_of tally) w trail
may_paid w None trail all = tt
may_paid w (Some tally) trail all = all_paid w tally trail all

pub none_yet : (w : ℕ) (tally : Option UpdateTally) (trail : List OwnStep) → trail ≡ []
    → HasNone tally → MayTally w tally trail
none_yet w None trail unused none = tt
none_yet w (Some tally) trail unused none = λ t low. record {
  count = 0;
  tallied = none_tallied tally.most w t trail unused;
  is = let zero_count = none t in omega (arith, zero_count);
}

-- two that flush at one number
same_limit : (a b : UpdateTally) → limit_of (Some a) ≡ limit_of (Some b) → a.most ≡ b.most
same_limit a b is = same_Some a.most b.most is

module _ (w : ℕ) (sizes : Sizes) (l : Line) (p : Prepared) (before after : List OwnStep)
    (a : AddsWrite w p before after) (G : HasGrown before after) (none : OpensNone before after)
    (prepared : IsPrepared sizes l.number l.mutation p) where
  -- a write more is counted
  pub one_more : (tally : Option UpdateTally) (counts : Option LineCounts)
      (now : Option UpdateTally)
      → limit_of now ≡ limit_of tally → AddsCounts tally counts now
      → IsCountedFor (limit_of tally) l.mutation counts → MayTally w tally before
      → MayTally w now after
  one_more None counts None limit adds counted all = tt
  one_more None counts (Some now) limit adds counted all =
      absurd (none-some now.most (sym limit))
  one_more (Some tally) None now limit adds counted all = absurd counted
  one_more (Some tally) (Some c) None limit adds counted all = absurd adds
  one_more (Some tally) (Some c) (Some now) limit adds counted all = λ t low.
      let T = all t low in
      let most = same_limit now tally limit in
      let more = get_or c.of_tables t 0 in
      record {
        count = T.count + more;
        tallied = subst
            (λ (k : ℕ). IsTallied k w t (T.count + more) (reverse (writes_of after)) after)
            (sym most)
            (one_tallied tally.most w t T.count more sizes l p before after a G (none t) prepared
            (counted t low) T.tallied);
        is =
            let sum = adds t low in let old = T.is in omega (arith, sum, old, most);
      }

-- ---- what is flushed in the end

-- no flush is due
pub all_flushed : {K : Type 0} (w : ℕ) (tally : UpdateTally) (most : ℕ) (s : PathSeat K)
    → s.member.number ≡ w → tally.most ≡ most → Tallies w tally (view_of s.member).trail
    → ((t : ℕ) → t < most_tables → get_or tally.counts t 0 < tally.most)
    → HasFlushedAll (Some most) s
all_flushed w tally most s number same all few = λ t low.
    let T = all t low in
    let is = T.is in let less = few t low in record {
      count = T.count;
      few = omega (arith, is, less, same);
      tallied =
          let trail = (view_of s.member).trail in
          let writes = reverse (writes_of trail) in
          subst (λ (k : ℕ). IsTallied most k t T.count writes trail) (sym number)
          (subst (λ (k : ℕ). IsTallied k w t T.count writes trail) same T.tallied);
    }

-- what is flushed is so behind what logs none and opens none
pub flushed_on : {K : Type 0} (flush : Option ℕ) (s u : PathSeat K)
    → u.member.number ≡ s.member.number
    → writes_of (view_of u.member).trail ≡ writes_of (view_of s.member).trail
    → HasGrown (view_of s.member).trail (view_of u.member).trail
    → OpensNone (view_of s.member).trail (view_of u.member).trail → HasFlushedAll flush s
    → HasFlushedAll flush u
flushed_on None s u number same G none all = tt
flushed_on (Some most) s u number same G none all = λ t low.
    let F = all t low in record {
      count = F.count;
      few = F.few;
      tallied = subst (λ (k : ℕ). IsTallied most k t F.count
          (reverse (writes_of (view_of u.member).trail)) (view_of u.member).trail) (sym number)
          (tallied_on most s.member.number t F.count (view_of s.member).trail
          (view_of u.member).trail same G (none t) F.tallied);
    }
