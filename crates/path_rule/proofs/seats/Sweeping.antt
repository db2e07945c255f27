-- What the holder of the Sync turn knows after it gathered a box, and after it gathered some: it
-- looked twice at the oldest group for each, and has no other box again.
use Rattle.std.proofs.Common.{
  ◌≡◌,
  ℕ,
  suc,
  ◌<◌,
  ◌≤◌,
  ◌==◌,
  ◌||◌,
  Bool,
  true,
  false,
  [],
  ◌++◌,
  List,
  None,
  refl,
  sym,
  ap,
  ◌∙◌,
  subst,
  arith,
}
use Rattle.std.proofs.lemmas.Bool.{eqb-true, eq-eqb}
use Rattle.std.proofs.lemmas.List.{append-nil, append_assoc}
use Rattle.op_core.specs.declared.count.Order.TheVariants.{Append}
use Rattle.path_core.specs.declared.event.Event.{Event}
use Rattle.path_core.specs.declared.event.Event.TheVariants.{Look}
use Rattle.path_core.specs.declared.event.Place.TheVariants.{Oldest}
use Rattle.path_core.specs.declared.seat.Issue.TheVariants.{Rest}
use Rattle.path_core.specs.declared.note.EntryNote.{EntryNote}
use Rattle.path_rule.specs.declared.view.Hands.{Hands}
use Rattle.path_rule.specs.declared.view.View.{View}
use Rattle.path_rule.specs.Calls.{DidAs, Holds}
use Rattle.path_rule.specs.Rule.{view_after, with_hands}
use Rattle.path_rule.specs.Sweeps.{SweptOne, SweptAll}
use Rattle.path_rule.specs.Turns.{TurnSaw}
use Rattle.path_rule.proofs.seats.HolderLooks as know
use Rattle.path_rule.proofs.seats.MayGives.{or_true, or_false}

pub saw_swept : (v after : View) (w n c : ℕ) (h : Hands)
    → DidAs v w (Look w (Oldest Append)) n h after → TurnSaw Append v.part c
    → TurnSaw Append after.part c
saw_swept v after w n c h D s = subst (λ (u : View). TurnSaw Append u.part c) (sym D.view)
    (know.oldest_saw (with_hands h v) w n Append c s)

pub holds_swept : (v u after : View) (w z n k : ℕ) (h i : Hands)
    → DidAs v w (Look w (Oldest Append)) n h u → DidAs u z (Look z (Oldest Append)) k i after
    → i.box_taken ≡ None → Holds Rest v → Holds Rest after
holds_swept v u after w z n k h i D E none H =
    let once = know.oldest_held v w n Append Rest H in
    let before = view_after (with_hands h v) (Look w (Oldest Append)) n in
    let twice : Holds Rest (view_after (with_hands i before) (Look z (Oldest Append)) k) =
    know.oldest_held (with_hands i before) z k Append Rest (record {
      held = once.held;
      issue = once.issue;
      empty = none;
    }) in
    subst (Holds Rest) (sym E.view)
    (subst (λ (y : View). Holds Rest (view_after (with_hands i y) (Look z (Oldest Append)) k))
    (sym D.view) twice)

-- what it knows of its boxes after a step
pub hands_then : (v u after : View) (w : ℕ) (e : Event) (n : ℕ) (h : Hands) → after ≡ u
    → DidAs v w e n h u → after.hands ≡ h
hands_then v u after w e n h same D =
    ap (λ (x : View). x.hands) same ∙ ap (λ (x : View). x.hands) D.view

-- The boxes of so many seats were gathered: what was in them is pending, behind what was. With the
-- last one the desk is to tell it.
pub record SweptTo (seats swept : ℕ) (h after : Hands) : Type 0 where
  pub count : after.swept ≡ swept
  pub below : swept ≤ seats
  pub more : List EntryNote
  pub pending : after.pending ≡ h.pending ++ more
  pub lasting : after.lasting ≡ h.lasting
  pub marker : after.progress.marker ≡ h.progress.marker
  pub still : swept < seats → after.progress ≡ h.progress
  pub all : swept ≡ seats → after.progress.gathered ≡ true

pub sweeps_on : (seats swept current : ℕ) (h u after : Hands) → swept < seats
    → SweptTo seats swept h u → SweptOne seats current u after → SweptTo seats (suc swept) h after
sweeps_on seats swept current h u after low T S = record {
  count = ap (λ (k : Hands). k.swept) S.hands ∙ ap suc T.count;
  below = omega arith;
  more = T.more ++ S.taken;
  pending = ap (λ (k : Hands). k.pending) S.hands
      ∙ (ap (λ l. l ++ S.taken) T.pending ∙ append_assoc h.pending T.more S.taken);
  lasting = ap (λ (k : Hands). k.lasting) S.hands ∙ T.lasting;
  marker = ap (λ (k : Hands). k.progress.marker) S.hands ∙ T.marker;
  still = λ less. ap (λ (k : Hands). k.progress) S.hands
      ∙ (unchanged (suc u.swept == seats) refl less ∙ T.still low);
  all = λ e. ap (λ (k : Hands). k.progress.gathered) S.hands
      ∙ (ap (λ b. u.progress.gathered || b) (eq-eqb (suc u.swept) seats (ap suc T.count ∙ e))
      ∙ or_true u.progress.gathered);
}
  where
    unchanged : (b : Bool) → (suc u.swept == seats) ≡ b → suc swept < seats
        → record u.progress { gathered = u.progress.gathered || b } ≡ u.progress
    unchanged true e less = absurd (let count = T.count in
        let same = eqb-true (suc u.swept) seats e in omega arith)
    unchanged false e less =
        ap (λ b. record u.progress { gathered = b }) (or_false u.progress.gathered)

pub sweep_begins : (seats : ℕ) (h : Hands) → h.swept ≡ 0 → 0 < seats → SweptTo seats 0 h h
sweep_begins seats h none some = record {
  count = none;
  below = omega arith;
  more = [];
  pending = sym (append-nil h.pending);
  lasting = refl;
  marker = refl;
  still = λ less. refl;
  all = λ e. absurd (omega arith);
}

pub sweep_ends : (seats swept : ℕ) (h after : Hands) → swept ≡ seats → SweptTo seats swept h after
    → SweptAll h after
sweep_ends seats swept h after all T = record {
  more = T.more;
  pending = T.pending;
  lasting = T.lasting;
  marker = T.marker;
  gathered = T.all all;
}
