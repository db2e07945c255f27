use Rattle.std.proofs.Common.{ℕ, Some, refl, sym, ap, ◌∙◌, subst, arith}
use Rattle.std.specs.Prelude.{Result}
use borrow.Enum.Total.{values_d}
use denote.Builtin.{unit}
use mathlib.Core.Logic.{inr}
use Rattle.path_core.specs.contracts.keeper.KeeperFault.{the_row}
use Rattle.path_core.specs.declared.keeper.KeeperFault.{KeeperFault}
use Rattle.path_core.specs.declared.keeper.KeeperFault.TheVariants.{Stopped as StoppedFault}
use Rattle.std.specs.contracts.result.Result.{enum}
use Rattle.path_core.specs.declared.event.Cursor.TheVariants.{Synced, Stopped}
use Rattle.path_core.specs.declared.event.Event.TheVariants.{Look, Put}
use Rattle.path_core.specs.declared.event.Place.TheVariants.{CursorWord}
use Rattle.atomic_table.specs.Table.{rest}
use Rattle.path_core.specs.Keeper.{IsParted}
use Rattle.path_rule.specs.declared.view.Hands.{Hands}
use Rattle.path_rule.specs.declared.view.View.{View}
use Rattle.path_rule.specs.Calls.{DidAs, MayGive}
use Rattle.path_rule.specs.HandsAfter.{with_desk}
use Rattle.path_rule.specs.Lasts.{more_lasting, refused_lasting}
use Rattle.path_rule.specs.SyncEnd.{HasSynced, HasRefused}
use Rattle.path_rule.specs.Turns.{IsBarred}
use Rattle.path_rule.proofs.boxes.DeskLent.{ok_holds, tells_at}
use Rattle.path_rule.proofs.log.Behind.{behind_is}
use Rattle.path_rounds.proofs.ending.end_sync.Goals as goal

pub lend-member-requires-clause-lent : goal.lend-member-requires-clause-lent
lend-member-requires-clause-lent g c =
    let found = c.look_lent-synced.ensures in
    λ run left P h shows.
    (found.lent c.args.upto run left (omega arith) c.requires.marker
    (subst (λ (k : Hands). IsParted c.args.upto k.pending run left) found.hands P)).4 h
    (shows ∙ ap (λ (k : Hands). k.lasting) found.hands)

pub put_stopped-requires-clause-marker : goal.put_stopped-requires-clause-marker
put_stopped-requires-clause-marker g c =
    subst (λ (k : Hands). IsBarred k c.args.upto)
    (sym (ap (λ (v : View). v.hands) c.lend-member.ensures.same.1
    ∙ c.look_lent-synced.ensures.hands)) c.requires.marker

pub put_synced-requires-clause-marker : goal.put_synced-requires-clause-marker
put_synced-requires-clause-marker g c =
    subst (λ (k : Hands). IsBarred k c.args.upto)
    (sym (ap (λ (v : View). v.hands) c.lend-member.ensures.same.1
    ∙ c.look_lent-synced.ensures.hands)) c.requires.marker

pub keep_refused-found-requires-clause-marker : goal.keep_refused-found-requires-clause-marker
keep_refused-found-requires-clause-marker g c =
    subst (λ (k : Hands). IsBarred k c.args.upto)
    (sym (ap (λ (v : View). v.hands) c.lend-member.ensures.same.1
    ∙ c.look_lent-synced.ensures.hands)) c.requires.marker

pub returns-then-upto-synced-clause-reaches : goal.returns-then-upto-synced-clause-reaches
returns-then-upto-synced-clause-reaches g c =
    c.look_lent-synced.ensures.goes_on.rises c.args.upto (omega arith)

pub returns-in-Ok-clause-reaches : goal.returns-in-Ok-clause-reaches
returns-in-Ok-clause-reaches g c = let is = behind_is c.args.path.now.size.capacity c.args.upto
    (omega arith) in omega (arith, is)

pub returns-in-Ok-clause-give : goal.returns-in-Ok-clause-give
returns-in-Ok-clause-give g c =
    c.put_synced.ensures.give (subst MayGive (sym c.lend-member.ensures.same.1)
    (c.look_lent-synced.ensures.give c.requires.turn.0))

pub returns-in-Ok-clause-same : goal.returns-in-Ok-clause-same
returns-in-Ok-clause-same g c =
    let L = c.look_lent-synced.ensures in let M = c.lend-member in let P = c.put_synced.ensures in
    let S = ok_holds _ M.result.1 c.in-Ok.field-0 c.in-Ok.is M.ensures.synced in
    let lasting = more_lasting S.0.0 c.args.upto M.result.0.seat.me.0.hands.lasting in (
      (
        P.same.0 ∙ (M.ensures.same.0.0 ∙ L.same.0),
        P.same.1 ∙ (M.ensures.same.0.1 ∙ L.same.1),
      ),
      ap (λ (v : View). v.size) (P.step lasting S.0.1 S.0.3).0.view
          ∙ ap (λ (v : View). v.size) (M.ensures.same.1 ∙ L.step.view),
      ap (λ l. rest l) P.same.2 ∙ (S.1 ∙ ap (λ l. rest l) L.same.2),
    )

pub returns-in-Ok-clause-steps : goal.returns-in-Ok-clause-steps
returns-in-Ok-clause-steps g c =
    let L = c.look_lent-synced in let M = c.lend-member in
    let w = M.ensures.same.0.1 ∙ L.ensures.same.1 in
    let S = ok_holds _ M.result.1 c.in-Ok.field-0 c.in-Ok.is M.ensures.synced in
    let before = M.result.0.seat.me.0 in let after = c.put_synced.new.member.seat.me.0 in
    let lasting = more_lasting S.0.0 c.args.upto before.hands.lasting in
    let hands = with_desk lasting S.0.1 before.hands.progress before.hands in
    let d = (c.put_synced.ensures.step lasting S.0.1 S.0.3).0 in record {
      found = L.result;
      seen = L.new.member.seat.me.0;
      looked = L.ensures.step;
      ended = inr (
        omega arith,
        refl,
        subst (λ (v : View). HasSynced c.args.member.number c.args.upto v
            after) M.ensures.same.1 (record {
              run = S.0.0;
              left = S.0.1;
              parted = S.0.2;
              did = subst (λ (k : ℕ). DidAs before k (Put k Synced c.args.upto) c.args.upto hands
                  after) w d;
            }),
      );
    }

pub returns-in-Err-Stopped-clause-steps : goal.returns-in-Err-Stopped-clause-steps
returns-in-Err-Stopped-clause-steps g c =
    let L = c.look_lent-synced in let M = c.lend-member in
    let w = M.ensures.same.0.1 ∙ L.ensures.same.1 in
    let S = c.put_stopped.ensures.step in
    let before = M.result.0.seat.me.0 in let after = c.put_stopped.new.member.seat.me.0 in
    let now = c.in-Err-Stopped.now in
    let hands = with_desk (refused_lasting S.0 (Some now) before.hands.lasting) S.1
    before.hands.progress before.hands in record {
      found = L.result;
      seen = L.new.member.seat.me.0;
      looked = L.ensures.step;
      ended = (
        omega arith,
        subst (λ (v : View). HasRefused c.args.member.number c.args.upto
            (Some now) (Put c.args.member.number Stopped now) now v after) M.ensures.same.1
            (record {
              kept = S.0;
              pending = S.1;
              all = S.2;
              keeps = S.3;
              did = subst (λ (k : ℕ). DidAs before k (Put k Stopped now) now hands after) w S.4;
            }),
      );
    }

pub returns-in-Err-OutOfMemory-clause-steps : goal.returns-in-Err-OutOfMemory-clause-steps
returns-in-Err-OutOfMemory-clause-steps g c =
    let L = c.look_lent-synced in let M = c.lend-member in
    let w = M.ensures.same.0.1 ∙ L.ensures.same.1 in
    let R = c.keep_refused-found in let S = R.ensures.step in
    let before = M.result.0.seat.me.0 in let after = R.new.member.seat.me.0 in
    let hands = with_desk (refused_lasting S.0 before.hands.lasting.stopped before.hands.lasting)
    S.1 before.hands.progress before.hands in record {
      found = L.result;
      seen = L.new.member.seat.me.0;
      looked = L.ensures.step;
      ended = (
        omega arith,
        (
          R.result,
          subst (λ (v : View). HasRefused c.args.member.number
              c.args.upto v.hands.lasting.stopped (Look c.args.member.number (CursorWord Stopped))
              R.result v after) M.ensures.same.1 (record {
                kept = S.0;
                pending = S.1;
                all = S.2;
                keeps = S.3;
                did = subst (λ (k : ℕ). DidAs before k (Look k (CursorWord Stopped)) R.result hands
                    after) w S.4;
              }),
        ),
      );
    }

pub returns-in-Err-Stopped-clause-counts : goal.returns-in-Err-Stopped-clause-counts
returns-in-Err-Stopped-clause-counts g c = let L = c.look_lent-synced in let M = c.lend-member in
    let is = c.in-Err-Stopped.is in let fault = c.in-Err-Stopped.field-0-is in
    let picked = ap (λ (r : Result (Unit {0}) KeeperFault).
    (values_d (enum unit the_row) 1 (StoppedFault 0 0, tt) r).0) is in
    let told = tells_at M.result.1 L.new.member.seat.me.0.hands.lasting.at_open
    M.ensures.counts is (sym picked ∙ fault) in
    (told.0 ∙ ap (λ (k : Hands). k.lasting.at_open) L.ensures.hands, told.1)
