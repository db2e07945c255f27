use Rattle.std.proofs.Common.{◌≡◌, ℕ, suc, ◌+◌, ◌*◌, ◌%◌, [], ◌∷◌, ◌++◌, Some, refl, sym, ap, ◌∙◌}
use Rattle.std.proofs.Common.{subst, arith}
use Rattle.op_core.specs.declared.count.Order.TheVariants.{Append}
use Rattle.path_core.specs.declared.event.Event.TheVariants.{Look}
use Rattle.path_core.specs.declared.event.Place.TheVariants.{Oldest}
use Rattle.path_core.specs.declared.seat.Issue.TheVariants.{Rest}
use Rattle.path_rule.specs.declared.view.Hands.{Hands}
use Rattle.path_rule.specs.declared.view.PathSize.{PathSize}
use Rattle.path_rule.specs.declared.view.Progress.{Progress}
use Rattle.path_rule.specs.declared.view.View.{View}
use Rattle.path_rule.specs.Boxes.{box_of, DeskIs}
use Rattle.path_rule.specs.Calls.{DidAs, Holds}
use Rattle.path_rule.specs.HandsAfter.{with_taken, with_swept}
use Rattle.path_rule.specs.Lasts.{shows_of}
use Rattle.path_rule.specs.Rounds.{RoundSteps}
use Rattle.path_rule.specs.Told.{CarriesNotes}
use Rattle.path_rule.specs.Turns.{TurnSaw}
use Rattle.path_rule.specs.declared.slot.Slot.TheVariants.{Notes}
use Rattle.path_rule.proofs.boxes.DeskFiled.{notes_is}
use Rattle.path_rule.proofs.seats.HolderLooks as know
use Rattle.path_rule.proofs.seats.RoundsGo.{one, one_as, next}
use Rattle.path_rule.proofs.seats.Sweeping.{saw_swept, holds_swept, hands_then}
use Rattle.path_rounds.proofs.sweeping.gather_box.Goals as goal

pub returns-then-gather-current-clause-steps : goal.returns-then-gather-current-clause-steps
returns-then-gather-current-clause-steps g c =
    one c.args.member.number (Look _ (Oldest Append)) c.gather.result _ _ refl
    (c.gather.ensures.miss c.if-gather-current.true).0

pub returns-then-gather-current-clause-turn : goal.returns-then-gather-current-clause-turn
returns-then-gather-current-clause-turn g c =
    let v = c.args.member.seat.me.0 in let w = c.args.member.number in let n = c.gather.result in
    let d = (c.gather.ensures.miss c.if-gather-current.true).0 in (
      subst (Holds Rest) (sym d.view) (know.oldest_held v w n Append Rest c.requires.turn.0),
      subst (λ (u : View). TurnSaw Append u.part c.args.current) (sym d.view)
          (know.oldest_saw v w n Append c.args.current c.requires.turn.1),
    )

pub give_back-requires-clause-turn : goal.give_back-requires-clause-turn
give_back-requires-clause-turn g c =
    let d = (c.gather.ensures.hit c.if-gather-current.false).0.1 in (
      subst (λ (u : View). TurnSaw Append u.part c.args.current)
          (sym c.keep_taken-member.ensures.same.1)
          (saw_swept _ _ _ c.gather.result c.args.current _ d c.requires.turn.1),
      subst (λ (h : Hands). h.box_taken ≡ Some (box_of h.swept (suc c.args.current)))
          (sym (hands_then _ _ _ _ _ _ _ c.keep_taken-member.ensures.same.1
          (c.gather.ensures.hit c.if-gather-current.false).0.1)) refl,
    )

pub give_back-requires-clause-box_kept : goal.give_back-requires-clause-box_kept
give_back-requires-clause-box_kept g c =
    let up : c.args.current + 1 ≡ suc c.args.current = omega arith in
    subst (λ (k : ℕ). CarriesNotes k [] c.keep_taken-member.result.seat.me)
    (ap (λ (k : ℕ). 1 + 2 * c.args.swept + k % 2) up
    ∙ ap (λ (k : ℕ). box_of k (suc c.args.current))
    (sym (ap (λ (h : Hands). h.swept) (hands_then _ _ _ _ _ _ _ c.keep_taken-member.ensures.same.1
    (c.gather.ensures.hit c.if-gather-current.false).0.1) ∙ c.requires.more.0)))
    c.keep_taken-member.ensures.void

pub returns-clause-steps : goal.returns-clause-steps
returns-clause-steps g c =
    let w = c.args.member.number in let v = c.args.member.seat.me.0 in
    let K = c.keep_taken-member in let G = c.give_back in
    let d = (c.gather.ensures.hit c.if-gather-current.false).0.1 in
    next w K.result.number [] [] v K.result.seat.me.0 G.new.member.seat.me.0
    (K.ensures.same.0.1 ∙ c.gather.ensures.same.1)
    (subst (λ (u : View). RoundSteps w 0 [] v u) (sym K.ensures.same.1)
    (one_as w (Look w (Oldest Append)) c.gather.result _ v c.gather.new.member.seat.me.0 refl d
    refl))
    (one_as K.result.number (Look K.result.number (Oldest Append)) G.result _ _ _ refl
    G.ensures.step refl)

pub returns-clause-turn : goal.returns-clause-turn
returns-clause-turn g c =
    let K = c.keep_taken-member in let G = c.give_back in
    let d = (c.gather.ensures.hit c.if-gather-current.false).0.1 in
    let V = K.ensures.same.1 in let v = c.args.member.seat.me.0 in let w = c.args.member.number in
    let kept = subst (λ (u : View). DidAs v w (Look w (Oldest Append)) c.gather.result
    (with_taken (Some (box_of v.hands.swept (suc c.args.current)))
    (c.gather.ensures.hit c.if-gather-current.false).0.0 v.hands) u) (sym V) d in (
      holds_swept v K.result.seat.me.0 G.new.member.seat.me.0 w K.result.number c.gather.result
          G.result _ _ kept G.ensures.step refl c.requires.turn.0,
      saw_swept K.result.seat.me.0 _ K.result.number G.result c.args.current _ G.ensures.step
          (saw_swept v _ w c.gather.result c.args.current _ kept c.requires.turn.1),
    )

pub returns-clause-swept : goal.returns-clause-swept
returns-clause-swept g c =
    let K = c.keep_taken-member in let G = c.give_back in
    let d = (c.gather.ensures.hit c.if-gather-current.false).0.1 in
    let size = ap (λ (z : PathSize). z.seats) (ap (λ (v : View). v.size) K.ensures.same.1
    ∙ (ap (λ (v : View). v.size) d.view ∙ c.requires.table.1)) in record {
      taken = (c.gather.ensures.hit c.if-gather-current.false).0.0;
      hands = ap (λ (v : View). v.hands) G.ensures.step.view
          ∙ (λ j. with_swept (size j) (hands_then _ _ _ _ _ _ _ K.ensures.same.1 d j));
    }

pub returns-clause-desk : goal.returns-clause-desk
returns-clause-desk g c =
    let K = c.keep_taken-member in let G = c.give_back in
    let shows = shows_of g.K.Keeper.holds in let D = K.ensures.desk in
    let d = (c.gather.ensures.hit c.if-gather-current.false).0.1 in
    let before = c.gather.new.member.seat.me.0.hands in
    let after : G.new.member.seat.me.0.hands ≡ with_swept K.result.seat.me.0.size.seats before =
    ap (λ (v : View). v.hands) G.ensures.step.view
    ∙ ap (λ (v : View). with_swept K.result.seat.me.0.size.seats v.hands) K.ensures.same.1 in (
      D.0,
      G.ensures.same.2 ∙ D.1,
      subst (λ (h : Hands). DeskIs shows D.0 h.lasting h.pending
          c.args.member.seat.me.0.hands.progress) (sym after)
          (subst (λ (p : Progress). DeskIs shows D.0 before.lasting
          (before.pending ++ before.taken) p)
          (ap (λ (h : Hands). h.progress) (ap (λ (v : View). v.hands) d.view)) D.2),
    )

pub returns-then-gather-current-clause-desk : goal.returns-then-gather-current-clause-desk
returns-then-gather-current-clause-desk g c = let D = c.requires.desk in
    let M = c.gather.ensures.miss c.if-gather-current.true in (
      D.0,
      M.1 ∙ D.1,
      subst (λ (v : View). DeskIs (shows_of g.K.Keeper.holds) D.0 v.hands.lasting v.hands.pending
          c.args.member.seat.me.0.hands.progress) (sym M.0.view) D.2,
    )

pub keep_taken-member-requires-clause-boxes : goal.keep_taken-member-requires-clause-boxes
keep_taken-member-requires-clause-boxes g c = let D = c.requires.desk in
    let H = c.gather.ensures.hit c.if-gather-current.false in let T = H.1 in
    let b : box_of c.args.member.seat.me.0.hands.swept (suc c.args.current)
    ≡ 1 + 2 * c.args.swept + (c.args.current + 1) % 2 =
    ap (λ (k : ℕ). box_of k (suc c.args.current)) c.requires.more.0
    ∙ ap (λ (k : ℕ). 1 + 2 * c.args.swept + k % 2)
    (let e : suc c.args.current ≡ c.args.current + 1 = omega arith in e) in (
      D.0,
      T.1 ∙ ((λ i. (b i, notes_is T.0 c.gather.new.member.seat.me.0.hands.taken T.2 i)
          ∷ c.args.member.seat.me.1) ∙ ap (λ l. (
            1 + 2 * c.args.swept + (c.args.current + 1) % 2,
            Notes c.gather.new.member.seat.me.0.hands.taken,
          ) ∷ l) D.1),
      subst (λ (v : View). DeskIs (shows_of g.K.Keeper.holds) D.0 v.hands.lasting v.hands.pending
          v.hands.progress) (sym H.0.1.view) D.2,
    )
