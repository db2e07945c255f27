-- What the steps leave by which a flush files a memtable, one by one and together.
use Rattle.std.proofs.Common.{◌≡◌, ◌+◌, ◌≤◌, cond, arith, ℕ, ◌<◌, List, [], ◌∷◌, ◌++◌, Option, Some}
use Rattle.std.proofs.Common.{is_some, sym, ap, ◌∙◌, subst, inl, inr, ⊎_elim}
use Rattle.std.proofs.lemmas.List.{append_assoc}
use Rattle.clog_base.specs.declared.cell.Table.{Table}
use Rattle.path_core.specs.declared.event.Event.{Event}
use Rattle.path_core.specs.declared.event.Place.{Place}
use Rattle.path_core.specs.declared.event.Place.TheVariants.{CursorWord}
use Rattle.path_core.specs.declared.event.Cursor.TheVariants.{Stopped as StoppedCursor}
use Rattle.path_core.specs.Parts.{seat_table, stage_of}
use Rattle.path_rule.specs.declared.view.Hands.{Hands}
use Rattle.path_rule.specs.declared.view.OwnStep.{OwnStep}
use Rattle.path_rule.specs.declared.view.PathSize.{PathSize}
use Rattle.path_rule.specs.declared.view.View.{View}
use Rattle.path_rule.specs.Calls.{DidAs, FiledAs}
use Rattle.path_rule.specs.Finds.{Finds}
use Rattle.path_rule.specs.FindsBounds.{Retires}
use Rattle.path_rule.specs.FilingTold.{FoundFinal}
use Rattle.path_rule.specs.Issued.{is_issue}
use Rattle.path_rule.proofs.seats.Answering.{found_after, found_before}
use Rattle.path_flush.specs.declared.flush_answer.Flush.{Flush}
use Rattle.path_flush.specs.declared.flush_answer.Flush.TheVariants.{Flushed, Empty, Busy, Stopped}
use Rattle.path_flush.specs.declared.flush_answer.Flush.TheVariants.{OutOfMemory}
use Rattle.path_flush.specs.FlushFilings.{FilingSteps, IsRefused, IsRetired, MayStop, Refused}
use Rattle.path_flush.specs.FlushFilings.{Retired, RetiringSteps}
use Rattle.path_flush.specs.FlushReads.{ReadSteps}
use Rattle.path_flush.specs.FlushSteps.{FlushSteps, IsFlushStep, IsLeftOrFiled, QuietSteps}
use Rattle.path_flush.specs.FlushSteps.{RetiresEmpty, RetiresFiled, RetiresNo, RetiresNone}
use Rattle.path_flush.specs.FlushSteps.{SwitchesNo, UnswitchedSteps}
use Rattle.path_flush.specs.FlushTurns.{IsHolder}
use Rattle.path_flush.specs.Grown.{HasGrown}
use Rattle.path_flush.proofs.FlushGoes.{at_most, next, one}
use Rattle.path_flush.proofs.SwitchGoes.{kept_both, none_both, stage_same, then_quiet}

-- ---- steps

abbrev pub quiet_one : {t : ℕ} (w : ℕ) (e : Event) (n : ℕ) (h : Hands) (v after : View)
    → IsFlushStep w t e → SwitchesNo e → RetiresNo e → DidAs v w e n h after
    → QuietSteps w t (cond (is_issue e) 1 0) v after
quiet_one {t} w e n h v after is leaves keeps d = record {
  made = one w e n h v after is d;
  none = (leaves, tt);
  kept = (keeps, tt);
}

-- one that may retire a memtable
abbrev pub unswitched_one : {t : ℕ} (w : ℕ) (e : Event) (n : ℕ) (h : Hands) (v after : View)
    → IsFlushStep w t e → SwitchesNo e → DidAs v w e n h after
    → UnswitchedSteps w t (cond (is_issue e) 1 0) v after
unswitched_one {t} w e n h v after is leaves d = record {
  made = one w e n h v after is d;
  none = (leaves, tt);
}

-- one that gave a table file
abbrev pub filed_one : {t : ℕ} (w : ℕ) (e : Event) (n lower : ℕ) (h : Hands) (v after : View)
    → IsFlushStep w t e → SwitchesNo e → FiledAs v w e n lower h after
    → UnswitchedSteps w t (cond (is_issue e) 1 0) v after
filed_one {t} w e n lower h v after is leaves d = record {
  made = record {
    steps = record { event = e; found = n; filed = Some lower } ∷ [];
    trail = ap (λ (u : View). u.trail) d.view;
    are = (is, tt);
    issues = omega arith;
    returned = ap (λ (u : View). u.returned) d.view;
    size = ap (λ (u : View). u.size) d.view;
  };
  none = (leaves, tt);
}

-- none yet
abbrev pub none_made : (w t : ℕ) (v after : View) → after ≡ v → FilingSteps w t 0 v after
none_made w t v after same = record {
  made = record {
    made = record {
      steps = [];
      trail = ap (λ (u : View). u.trail) same;
      are = tt;
      issues = omega arith;
      returned = ap (λ (u : View). u.returned) same;
      size = ap (λ (u : View). u.size) same;
    };
    none = tt;
    kept = tt;
  };
  stage = ap (λ (u : View). stage_of u.part t) same;
}

abbrev pub unswitched : {t n : ℕ} (w : ℕ) (v after : View) → QuietSteps w t n v after
    → UnswitchedSteps w t n v after
unswitched {t} w v after Q = record { made = Q.made; none = Q.none }

abbrev pub may_retire : {n : ℕ} (w t : ℕ) (v after : View) → FilingSteps w t n v after
    → RetiringSteps w t n v after
may_retire w t v after S = record { made = unswitched w v after S.made; stage = S.stage }

abbrev pub then_unswitched : {t a b : ℕ} (w z : ℕ) (v u after : View) → z ≡ w
    → UnswitchedSteps w t a v u → UnswitchedSteps z t b u after
    → UnswitchedSteps w t (b + a) v after
then_unswitched {t} w z v u after same A B = record {
  made = next w z v u after same A.made B.made;
  none = none_both B.made.steps A.made.steps B.none A.none;
}

abbrev pub then_retiring : {a b : ℕ} (w z t : ℕ) (v u after : View) → z ≡ w
    → RetiringSteps w t a v u → RetiringSteps z t b u after → RetiringSteps w t (b + a) v after
then_retiring w z t v u after same A B = record {
  made = then_unswitched w z v u after same A.made B.made;
  stage = B.stage ∙ A.stage;
}

abbrev pub then_filing : {a b : ℕ} (w z t : ℕ) (v u after : View) → z ≡ w → FilingSteps w t a v u
    → FilingSteps z t b u after → FilingSteps w t (b + a) v after
then_filing w z t v u after same A B = record {
  made = then_quiet w z v u after same A.made B.made;
  stage = B.stage ∙ A.stage;
}

abbrev pub of_read : (w t : ℕ) (v after : View) → ReadSteps w t v after → FilingSteps w t 0 v after
of_read w t v after R = record {
  made = record { made = R.made; none = R.none; kept = R.kept };
  stage = R.stage;
}

-- steps that leave what is known of the table
abbrev pub of_quiet : {n : ℕ} (w t : ℕ) (v after : View) → QuietSteps w t n v after
    → seat_table after.part t ≡ seat_table v.part t → FilingSteps w t n v after
of_quiet w t v after Q same = record { made = Q; stage = stage_same t v.part after.part same }

pub holder_same : (t : ℕ) (v after : View) → after.size ≡ v.size
    → ((u : ℕ) → (seat_table after.part u).flush ≡ (seat_table v.part u).flush)
    → after.part.write ≡ v.part.write → after.part.append ≡ v.part.append
    → after.part.claim ≡ v.part.claim → IsHolder t v → IsHolder t after
holder_same t v after size flush write append claim H = record {
  there = subst (λ (z : PathSize). t < z.tables) (sym size) H.there;
  held = ap (λ o. is_some o) (flush t) ∙ H.held;
  others = λ u other. flush u ∙ H.others u other;
  idle = record { write = write ∙ H.idle.write; append = append ∙ H.idle.append };
  unclaimed = claim ∙ H.unclaimed;
}

-- ---- a refusal behind further steps, and before some

pub refused_on : (opened : ℕ) (a : Flush) (ts us : List OwnStep)
    → ((at : Place) (n : ℕ) → Finds at n ts → Finds at n us) → IsRefused opened a ts
    → IsRefused opened a us
refused_on opened (Flushed lower upper) ts us more F = absurd F
refused_on opened (Empty key) ts us more F = absurd F
refused_on opened (Busy found) ts us more F = absurd F
refused_on opened (Stopped at_open now) ts us more F =
    (F.0, F.1, more (CursorWord StoppedCursor) now F.2)
refused_on opened OutOfMemory ts us more F = tt

pub refused_behind : {m n : ℕ} (w z t : ℕ) (v u after : View) (a : Flush) → z ≡ w
    → FilingSteps w t m v u → Refused z t n u a after → Refused w t (n + m) v a after
refused_behind w z t v u after a same S R = record {
  steps = then_filing w z t v u after same S R.steps;
  is = refused_on v.size.at_open a R.steps.made.made.steps
      (R.steps.made.made.steps ++ S.made.made.steps)
      (λ at n F. found_after at n R.steps.made.made.steps S.made.made.steps F)
      (subst (λ (k : PathSize). IsRefused k.at_open a R.steps.made.made.steps) S.made.made.size
      R.is);
}

pub refused_before : {m n : ℕ} (w z t : ℕ) (v u after : View) (a : Flush) → z ≡ w
    → Refused w t m v a u → FilingSteps z t n u after → Refused w t (n + m) v a after
refused_before w z t v u after a same R S = record {
  steps = then_filing w z t v u after same R.steps S;
  is = refused_on v.size.at_open a R.steps.made.made.steps
      (S.made.made.steps ++ R.steps.made.made.steps)
      (λ at n F. found_before at n S.made.made.steps R.steps.made.made.steps F) R.is;
}

-- ---- a memtable that was retired, behind further steps and before some

pub one_older : (t : Table) (m : ℕ) (gave : Option ℕ) (newer older : List OwnStep)
    → Retires t m gave older → Retires t m gave (newer ++ older)
one_older t m gave [] older R = R
one_older t m gave (s ∷ ss) older R = inr (one_older t m gave ss older R)

pub one_newer : (t : Table) (m : ℕ) (gave : Option ℕ) (newer older : List OwnStep)
    → Retires t m gave newer → Retires t m gave (newer ++ older)
one_newer t m gave [] older R = absurd R
one_newer t m gave (s ∷ ss) older R =
    ⊎_elim (λ now. inl now) (λ later. inr (one_newer t m gave ss older later)) R

abbrev grown_behind : {t n : ℕ} (v u : View) (before : List OwnStep) (w : ℕ)
    → FlushSteps w t n v u
    → HasGrown u.trail before → HasGrown v.trail before
grown_behind {t} v u before w S G = record {
  newer = G.newer ++ S.steps;
  is = G.is ∙ (ap (λ (l : List OwnStep). G.newer ++ l) S.trail
      ∙ sym (append_assoc G.newer S.steps v.trail));
}

abbrev grown_before : {t n : ℕ} (older : List OwnStep) (u after : View) (w : ℕ)
    → HasGrown older u.trail → FlushSteps w t n u after → HasGrown older after.trail
grown_before {t} older u after w G S = record {
  newer = S.steps ++ G.newer;
  is = S.trail ∙ (ap (λ (l : List OwnStep). S.steps ++ l) G.is
      ∙ sym (append_assoc S.steps G.newer older));
}

pub filed_behind : {n : ℕ} (w z t m lower upper : ℕ) (v u after : View) → z ≡ w
    → FlushSteps w t n v u
    → RetiresFiled z t m lower upper u after → RetiresFiled w t m lower upper v after
filed_behind w z t m lower upper v u after same S R =
    let E = subst (λ k. RetiresFiled k t m lower upper u after) same R in let r = E.retires in
    record {
      retires = record {
        before = r.before;
        since = grown_behind v u r.before.trail w S r.since;
        read = r.read;
        sees = r.sees;
        was = r.was;
        put = r.put;
      };
      some = E.some;
      final = E.final;
      file = E.file;
      state = E.state;
      begins = E.begins;
      ends = E.ends;
    }

pub filed_before : {n : ℕ} (w z t m lower upper : ℕ) (v u after : View)
    → RetiresFiled w t m lower upper v u → FlushSteps z t n u after
    → RetiresFiled w t m lower upper v after
filed_before w z t m lower upper v u after E S = let r = E.retires in record {
  retires = record {
    before = r.before;
    since = r.since;
    read = r.read;
    sees = r.sees;
    was = r.was;
    put = grown_before _ u after z r.put S;
  };
  some = E.some;
  final = E.final;
  file = E.file;
  state = E.state;
  begins = E.begins;
  ends = E.ends;
}

-- with the key at which it was found final
abbrev RetiresAt : (w t m key : ℕ) → View → View → Type 0
RetiresAt w t m key v after =
    (r : RetiresEmpty w t m v after) × FoundFinal t r.0.before.part m key

empty_behind : {n : ℕ} (w z t m key : ℕ) (v u after : View) → z ≡ w → FlushSteps w t n v u
    → RetiresAt z t m key u after → RetiresAt w t m key v after
empty_behind w z t m key v u after same S R =
    let E = subst (λ k. RetiresAt k t m key u after) same R in let r = E.0.0 in (
      (
        record {
          before = r.before;
          since = grown_behind v u r.before.trail w S r.since;
          read = r.read;
          sees = r.sees;
          was = r.was;
          put = r.put;
        },
        E.0.1,
        E.0.2,
      ),
      E.1,
    )

empty_before : {n : ℕ} (w z t m key : ℕ) (v u after : View) → RetiresAt w t m key v u
    → FlushSteps z t n u after → RetiresAt w t m key v after
empty_before w z t m key v u after E S = let r = E.0.0 in (
  (
    record {
      before = r.before;
      since = r.since;
      read = r.read;
      sees = r.sees;
      was = r.was;
      put = grown_before _ u after z r.put S;
    },
    E.0.1,
    E.0.2,
  ),
  E.1,
)

-- a memtable is left, or filed, behind steps that retire none, and before some
left_behind : (t m : ℕ) (newer older : List OwnStep) → RetiresNone older
    → IsLeftOrFiled t m newer → IsLeftOrFiled t m (newer ++ older)
left_behind t m newer older K I = ⊎_elim (λ none. inl (kept_both newer older none K))
    (λ f. inr (f.0, one_newer (record { 0 = t }) m (Some f.0) newer older f.1)) I

left_before : (t m : ℕ) (newer older : List OwnStep) → RetiresNone newer
    → IsLeftOrFiled t m older → IsLeftOrFiled t m (newer ++ older)
left_before t m newer older K I = ⊎_elim (λ none. inl (kept_both newer older K none))
    (λ f. inr (f.0, one_older (record { 0 = t }) m (Some f.0) newer older f.1)) I

pub is_behind : {n : ℕ} (w z t m : ℕ) (v u after : View) (a : Flush) (newer : List OwnStep)
    → z ≡ w → (S : FlushSteps w t n v u) → RetiresNone S.steps → IsRetired z t m u a newer after
    → IsRetired w t m v a (newer ++ S.steps) after
is_behind w z t m v u after (Flushed lower upper) newer same S K I =
    filed_behind w z t m lower.0 upper.0 v u after same S I
is_behind w z t m v u after (Empty key) newer same S K I =
    empty_behind w z t m key.0 v u after same S I
is_behind w z t m v u after (Busy found) newer same S K I = absurd I
is_behind w z t m v u after (Stopped at_open now) newer same S K I = (
  refused_on v.size.at_open (Stopped at_open now) newer (newer ++ S.steps)
      (λ at n F. found_after at n newer S.steps F)
      (subst (λ (k : PathSize). IsRefused k.at_open (Stopped at_open now) newer) S.size I.0),
  left_behind t m newer S.steps K I.1,
)
is_behind w z t m v u after OutOfMemory newer same S K I = kept_both newer S.steps I K

pub is_before : {n : ℕ} (w z t m : ℕ) (v u after : View) (a : Flush) (older : List OwnStep)
    → IsRetired w t m v a older u → (S : FlushSteps z t n u after) → RetiresNone S.steps
    → IsRetired w t m v a (S.steps ++ older) after
is_before w z t m v u after (Flushed lower upper) older I S K =
    filed_before w z t m lower.0 upper.0 v u after I S
is_before w z t m v u after (Empty key) older I S K = empty_before w z t m key.0 v u after I S
is_before w z t m v u after (Busy found) older I S K = absurd I
is_before w z t m v u after (Stopped at_open now) older I S K = (
  refused_on v.size.at_open (Stopped at_open now) older (S.steps ++ older)
      (λ at n F. found_before at n S.steps older F) I.0,
  left_before t m S.steps older K I.1,
)
is_before w z t m v u after OutOfMemory older I S K = kept_both S.steps older K I

pub retired_behind : {k n : ℕ} (w z t m : ℕ) (v u after : View) (a : Flush) → z ≡ w
    → FilingSteps w t k v u → Retired z t m n u a after → Retired w t m (n + k) v a after
retired_behind w z t m v u after a same S R = record {
  steps = then_retiring w z t v u after same (may_retire w t v u S) R.steps;
  is = is_behind w z t m v u after a R.steps.made.made.steps same S.made.made S.made.kept R.is;
}

pub retired_before : {k n : ℕ} (w z t m : ℕ) (v u after : View) (a : Flush) → z ≡ w
    → Retired w t m k v a u → FilingSteps z t n u after → Retired w t m (n + k) v a after
retired_before w z t m v u after a same R S = record {
  steps = then_retiring w z t v u after same R.steps (may_retire z t u after S);
  is = is_before w z t m v u after a R.steps.made.made.steps R.is S.made.made S.made.kept;
}

-- the keeper stopped behind the file of a memtable
pub stopped_behind : (w z t m lower : ℕ) (v u after : View) (a : Flush) → z ≡ w
    → (S : RetiringSteps w t 0 v u)
    → Retires (record { 0 = t }) m (Some lower) S.made.made.steps
    → MayStop z t u (Some a) after → Retired w t m 0 v a after
stopped_behind w z t m lower v u after (Flushed low up) same S F R = absurd R
stopped_behind w z t m lower v u after (Empty key) same S F R = absurd R
stopped_behind w z t m lower v u after (Busy found) same S F R = absurd R
stopped_behind w z t m lower v u after OutOfMemory same S F R = absurd R
stopped_behind w z t m lower v u after (Stopped at_open now) same S F R =
    let newer = R.steps.made.made.steps in let older = S.made.made.steps in record {
      steps = then_retiring w z t v u after same S (may_retire z t u after R.steps);
      is = (
        refused_on v.size.at_open (Stopped at_open now) newer (newer ++ older)
            (λ at n F. found_after at n newer older F)
            (subst (λ (k : PathSize). IsRefused k.at_open (Stopped at_open now) newer)
            S.made.made.size R.is),
        inr (lower, one_older (record { 0 = t }) m (Some lower) newer older F),
      );
    }

-- a flush that is refused behind a memtable retires none
pub none_retired : {n : ℕ} (w t m : ℕ) (v after : View) (a : Flush) → Refused w t n v a after
    → Retired w t m n v a after
none_retired w t m v after (Flushed lower upper) R = absurd R.is
none_retired w t m v after (Empty key) R = absurd R.is
none_retired w t m v after (Busy found) R = absurd R.is
none_retired w t m v after (Stopped at_open now) R = record {
  steps = may_retire w t v after R.steps;
  is = (R.is, inl R.steps.made.kept);
}
none_retired w t m v after OutOfMemory R = record {
  steps = may_retire w t v after R.steps;
  is = R.steps.made.kept;
}

-- the same, where more of the steps may have issued a barrier
abbrev pub more_filing : {a b : ℕ} (w t : ℕ) (v after : View) → a ≤ b → FilingSteps w t a v after
    → FilingSteps w t b v after
more_filing w t v after up S = record {
  made = record {
    made = at_most w v after up S.made.made;
    none = S.made.none;
    kept = S.made.kept;
  };
  stage = S.stage;
}

abbrev pub more_retired : {k n : ℕ} (w t m : ℕ) (v after : View) (a : Flush) → k ≤ n
    → Retired w t m k v a after → Retired w t m n v a after
more_retired w t m v after a up R = record {
  steps = record {
    made = record { made = at_most w v after up R.steps.made.made; none = R.steps.made.none };
    stage = R.steps.stage;
  };
  is = R.is;
}
