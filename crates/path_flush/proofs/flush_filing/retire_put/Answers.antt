use Rattle.std.proofs.Common.{◌≡◌, ◌+◌, ◌<◌, ℕ, suc, [], ◌∷◌, Option, Some, inl, refl, sym, ap, ◌∙◌}
use Rattle.std.proofs.Common.{subst, arith}
use Rattle.atomic_table.specs.Table.{rest}
use Rattle.path_core.specs.declared.event.Cursor.TheVariants.{OldestLive}
use Rattle.path_core.specs.declared.event.Event.TheVariants.{Put}
use Rattle.path_rule.specs.declared.view.PathSize.{PathSize}
use Rattle.path_rule.specs.declared.view.View.{View}
use Rattle.path_rule.specs.Filing.{more_filed, upper_of}
use Rattle.path_rule.specs.FilingTold.{SeesAll, next_file}
use Rattle.path_rule.specs.Retires.{RetiresFiledIn}
use Rattle.path_rule.specs.Rule.{Was}
use Rattle.path_flush.specs.declared.flush_answer.Flush.{Flush}
use Rattle.path_flush.specs.FlushFilings.{MayStop, RetiringSteps}
use Rattle.path_flush.proofs.FilingGoes.{filed_before, filed_one, may_retire, stopped_behind}
use Rattle.path_flush.proofs.FilingGoes.{then_retiring}
use Rattle.path_flush.proofs.FilingPuts.{holder_filed, stage_filed}
use Rattle.path_flush.proofs.FilingRounds.{reads_none}
use Rattle.path_flush.proofs.flush_filing.retire_put.Goals as goal

pub retire_filed-requires-clause-there : goal.retire_filed-requires-clause-there
retire_filed-requires-clause-there g c = (
  subst (λ (z : PathSize). c.args.table.0 < z.tables) c.requires.table.1
      c.requires.turns.holder.there,
  c.requires.there,
)

pub retire_filed-requires-clause-turn : goal.retire_filed-requires-clause-turn
retire_filed-requires-clause-turn g c = let T = c.requires.turn in
    (c.args.synced, T.0, T.2, c.requires.turns.holds.empty)

pub retire_filed-requires-clause-bound : goal.retire_filed-requires-clause-bound
retire_filed-requires-clause-bound g c = c.requires.file.1.final

pub retire_filed-requires-clause-file : goal.retire_filed-requires-clause-file
retire_filed-requires-clause-file g c = let F = c.requires.file in let A = F.1 in
    (A.read, F.0, A.sees, A.some, A.are, F.2)

pub drop_behind-member-requires-clause-table : goal.drop_behind-member-requires-clause-table
drop_behind-member-requires-clause-table g c =
    let m = c.args.member in let w = m.number in let t = c.args.table in let k = c.args.memtable in
    let R = c.retire_filed in let F = c.requires.file in let v = m.seat.me.0 in
    let h = v.hands in let l = more_filed (next_file h.lasting t.0 c.args.bound.0 F.0) h.lasting in
    let lo = upper_of t.0 h.lasting.filed.files in let d = R.ensures.step l h.pending F.2 in
    (R.ensures.same.0 ∙ c.requires.table.0, ap (λ (u : View). u.size) d.view ∙ c.requires.table.1)

pub drop_behind-member-requires-clause-holds : goal.drop_behind-member-requires-clause-holds
drop_behind-member-requires-clause-holds g c =
    let m = c.args.member in let w = m.number in let t = c.args.table in let k = c.args.memtable in
    let R = c.retire_filed in let F = c.requires.file in let v = m.seat.me.0 in
    let h = v.hands in let l = more_filed (next_file h.lasting t.0 c.args.bound.0 F.0) h.lasting in
    let lo = upper_of t.0 h.lasting.filed.files in let d = R.ensures.step l h.pending F.2 in
    let H = c.requires.turns in record {
      turns = record {
        holder = holder_filed v R.new.member.seat.me.0 w (k + 1) lo t (k + 1) _ d t.0 H.holder;
        holds = R.ensures.give H.holds;
        alone = ap (λ b. rest b) R.ensures.same.2 ∙ H.alone;
      };
      desk = R.ensures.desk;
    }

pub drop_behind-member-requires-clause-turn : goal.drop_behind-member-requires-clause-turn
drop_behind-member-requires-clause-turn g c = let R = c.retire_filed.ensures in
    (R.turn c.args.synced c.requires.turn.0, R.filed)

pub drop_behind-member-requires-clause-opened : goal.drop_behind-member-requires-clause-opened
drop_behind-member-requires-clause-opened g c =
    let m = c.args.member in let w = m.number in let t = c.args.table in let k = c.args.memtable in
    let R = c.retire_filed in let F = c.requires.file in let v = m.seat.me.0 in
    let h = v.hands in let l = more_filed (next_file h.lasting t.0 c.args.bound.0 F.0) h.lasting in
    let lo = upper_of t.0 h.lasting.filed.files in let d = R.ensures.step l h.pending F.2 in
    ap (λ (u : View). u.hands.lasting.at_open) d.view
    ∙ (F.1.opened ∙ sym (ap (λ (u : View). u.size.at_open) d.view))

pub returns-in-Some-clause-same : goal.returns-in-Some-clause-same
returns-in-Some-clause-same g c = let D = c.drop_behind-member.ensures in
    (D.same.0, D.same.1 ∙ c.retire_filed.ensures.same.1)

pub returns-in-None-clause-same : goal.returns-in-None-clause-same
returns-in-None-clause-same g c = let D = c.drop_behind-member.ensures in
    (D.same.0, D.same.1 ∙ c.retire_filed.ensures.same.1)

pub returns-in-Some-clause-unread : goal.returns-in-Some-clause-unread
returns-in-Some-clause-unread g c =
    let m = c.args.member in let w = m.number in let t = c.args.table in let k = c.args.memtable in
    let R = c.retire_filed in let F = c.requires.file in let v = m.seat.me.0 in
    let h = v.hands in let l = more_filed (next_file h.lasting t.0 c.args.bound.0 F.0) h.lasting in
    let lo = upper_of t.0 h.lasting.filed.files in let d = R.ensures.step l h.pending F.2 in
    reads_none c.drop_behind-member.result.0.seat.me.0.hands
    (c.drop_behind-member.ensures.reading ∙ ap (λ (u : View). u.hands.reading) d.view)

pub returns-in-None-clause-unread : goal.returns-in-None-clause-unread
returns-in-None-clause-unread g c =
    let m = c.args.member in let w = m.number in let t = c.args.table in let k = c.args.memtable in
    let R = c.retire_filed in let F = c.requires.file in let v = m.seat.me.0 in
    let h = v.hands in let l = more_filed (next_file h.lasting t.0 c.args.bound.0 F.0) h.lasting in
    let lo = upper_of t.0 h.lasting.filed.files in let d = R.ensures.step l h.pending F.2 in
    reads_none c.drop_behind-member.result.0.seat.me.0.hands
    (c.drop_behind-member.ensures.reading ∙ ap (λ (u : View). u.hands.reading) d.view)

pub returns-in-Some-clause-retired : goal.returns-in-Some-clause-retired
returns-in-Some-clause-retired g c =
    let m = c.args.member in let w = m.number in let t = c.args.table in let k = c.args.memtable in
    let R = c.retire_filed in let F = c.requires.file in let v = m.seat.me.0 in
    let h = v.hands in let l = more_filed (next_file h.lasting t.0 c.args.bound.0 F.0) h.lasting in
    let lo = upper_of t.0 h.lasting.filed.files in let d = R.ensures.step l h.pending F.2 in
    let D = c.drop_behind-member in let u = R.new.member.seat.me.0 in
    let z = R.new.member.number in let after = D.result.0.seat.me.0 in
    let a = c.in-Some.answer in
    let more : k + 1 ≡ suc k = omega arith in
    stopped_behind w z t.0 k lo v u after a R.ensures.same.1 (record {
      made = filed_one w (Put w (OldestLive t) (k + 1)) (k + 1) lo _ v u (refl, refl) tt d;
      stage = stage_filed v u w (k + 1) lo t (k + 1) _ d t.0;
    }) (inl (refl, more, refl))
    (subst (λ (o : Option Flush). MayStop z t.0 u o after) c.in-Some.is D.ensures.stopped)

pub returns-in-None-clause-retired : goal.returns-in-None-clause-retired
returns-in-None-clause-retired g c =
    let m = c.args.member in let w = m.number in let t = c.args.table in let k = c.args.memtable in
    let R = c.retire_filed in let F = c.requires.file in let v = m.seat.me.0 in
    let h = v.hands in let l = more_filed (next_file h.lasting t.0 c.args.bound.0 F.0) h.lasting in
    let lo = upper_of t.0 h.lasting.filed.files in let d = R.ensures.step l h.pending F.2 in
    let D = c.drop_behind-member in let u = R.new.member.seat.me.0 in
    let z = R.new.member.number in let after = D.result.0.seat.me.0 in
    let A = F.1 in let more : k + 1 ≡ suc k = omega arith in
    let f = next_file h.lasting t.0 c.args.bound.0 F.0 in
    let W = subst (λ (n : ℕ). (was : Was v w (Put w (OldestLive t) n))
    × RetiresFiledIn was.core (Put w (OldestLive t) n) t.0 k f) more (R.ensures.was f F.2) in
    let first : RetiringSteps w t.0 0 v u = record {
      made = filed_one w (Put w (OldestLive t) (k + 1)) (k + 1) lo _ v u (refl, refl) tt d;
      stage = stage_filed v u w (k + 1) lo t (k + 1) _ d t.0;
    } in
    let then = subst (λ (o : Option Flush). MayStop z t.0 u o after) c.in-None.is
    D.ensures.stopped in record {
      steps = then_retiring w z t.0 v u after R.ensures.same.1 first
          (may_retire z t.0 u after then);
      is = filed_before w z t.0 k c.args.lower.0 c.args.bound.0 v u after (record {
        retires = record {
          before = v;
          since = record { newer = []; is = refl };
          read = A.read;
          sees = subst (λ (y : PathSize). SeesAll y.seats h t.0 k A.read)
              (sym c.requires.table.1) A.sees;
          was = W.0;
          put = record {
            newer = [];
            is = ap (λ (x : View). x.trail) d.view ∙ (ap (λ (n : ℕ). record {
              event = Put w (OldestLive t) n;
              found = n;
              filed = Some lo;
            } ∷ v.trail) more ∙ ap (λ (n : ℕ). record {
              event = Put w (OldestLive t) (suc k);
              found = suc k;
              filed = Some n;
            } ∷ v.trail) (sym c.requires.lower));
          };
        };
        some = A.some;
        final = A.final;
        file = f;
        state = W.1;
        begins = sym c.requires.lower;
        ends = refl;
      }) then.made.made;
    }
