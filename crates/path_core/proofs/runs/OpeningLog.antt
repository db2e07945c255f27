-- The opening: nobody is in a group, holds a turn or has claimed anything.
use Rattle.std.proofs.Common.{
  ◌≡◌,
  ℕ,
  zero,
  suc,
  Bool,
  cond,
  [],
  ◌∷◌,
  length,
  get_or,
  replicate,
  Some,
  refl,
  sym,
  ap,
  ◌∙◌,
  subst,
  arith,
}
use Rattle.std.specs.List.{count_by, Contains}
use Rattle.std.proofs.lemmas.List.{length-replicate}
use Rattle.std.proofs.lemmas.List.Sums.{sum_by-cons}
use Rattle.std.proofs.lemmas.Bool.{false≢true}
use Rattle.std.proofs.lemmas.Option.{none-some}
use Rattle.clog_base.specs.Sizes.{IsWithinLimits}
use Rattle.op_core.specs.declared.count.Order.{Order}
use Rattle.op_core.specs.declared.count.Order.TheVariants.{Write, Append}
use Rattle.op_core.specs.declared.count.Tally.TheVariants.{Open as OpenTally}
use Rattle.op_core.specs.Tallies.{running_of}
use Rattle.path_core.specs.declared.event.Turn.{Turn}
use Rattle.path_core.specs.declared.seat.Issue.TheVariants.{Rest}
use Rattle.path_core.specs.declared.seat.Seat.{Seat}
use Rattle.path_core.specs.Parts.{fresh_seat, groups_of, HoldsTurn, group_in, found_of}
use Rattle.path_core.specs.Runs.{opening, first_group}
use Rattle.path_core.specs.Lawful.{IsLawfulLog}
use Rattle.path_core.proofs.seats.Columns.{fresh_holds_none}
use Rattle.path_core.specs.LawfulLog.{ClaimsTile, entry_claim}
use Rattle.path_core.specs.declared.seat.Range.{Range}
use Rattle.path_core.specs.LawfulOrders.{
  CountsOf,
  GroupIs,
  MadeOf,
  OrdersNest,
  IsOrderly,
  is_in,
  seat_in,
  made_at,
}
use Rattle.path_core.proofs.orders.OneGroup.{fresh_out}
use Rattle.path_core.proofs.orders.OtherSteps.{both}
use Rattle.path_core.proofs.lists.Replaced.{replicated}

nobody_in : (o : Order) (n g : ℕ) → count_by (is_in o g) (replicate n fresh_seat) ≡ 0
nobody_in o zero g = refl
nobody_in o (suc n) g =
    let s = sum_by-cons (λ q. cond (is_in o g q) 1 0) fresh_seat (replicate n fresh_seat) in
    let r = nobody_in o n g in
    let f : cond {A = ℕ} (is_in o g fresh_seat) 1 0 ≡ 0
    = ap (λ (b : Bool). cond {A = ℕ} b 1 0) (fresh_out o g) in
    omega arith

zero_open : (g : ℕ) → get_or (OpenTally 0 ∷ []) g (OpenTally 0) ≡ OpenTally 0
zero_open zero = refl
zero_open (suc g) = refl

first_is : (o : Order) (g : ℕ) → GroupIs Rest o 0 0 g (OpenTally 0)
first_is o g = record {
  below_current = λ l. absurd (omega arith);
  replaced = λ _ _. tt;
  below_oldest = λ l. absurd (omega arith);
  now = λ _. tt;
  opened = λ _ _. refl;
}

-- what holds of a fresh seat holds of each seat at the opening
pub at_first : (n : ℕ) (P : Seat → Type 0) → P fresh_seat → (w : ℕ)
    → P (seat_in (replicate n fresh_seat) w)
at_first n P fresh w = subst P (sym (replicated n w fresh_seat)) fresh

at_each : (n : ℕ) (P : ℕ → Seat → Type 0) → ((w : ℕ) → P w fresh_seat) → (w : ℕ)
    → P w (seat_in (replicate n fresh_seat) w)
at_each n P fresh w = subst (P w) (sym (replicated n w fresh_seat)) (fresh w)

counts_at_first : (n : ℕ) (o : Order) → ((w g : ℕ) → group_in o (seat_in (replicate n fresh_seat) w)
    ≡ Some g → ⊥) → CountsOf Rest o first_group (replicate n fresh_seat)
counts_at_first n o nowhere = record {
  counted = λ g. ap (λ k. running_of k) (zero_open g) ∙ sym (nobody_in o n g);
  each = λ g. subst (GroupIs Rest o 0 0 g) (sym (zero_open g)) (first_is o g);
  nobody_below = λ w g e. omega arith;
}

made_at_first : (n : ℕ) (o : Order) → 1 ≡ made_at Rest o 0 → ((w g : ℕ)
    → (found_of o (seat_in (replicate n fresh_seat) w)).current ≡ Some g → ⊥)
    → MadeOf Rest o first_group (replicate n fresh_seat)
made_at_first n o one nothing = record {
  made = one;
  oldest = omega arith;
  found = λ w g e. absurd (nothing w g e);
}

opening_orderly : (tables seats capacity ordinals base : ℕ)
    → IsOrderly (opening tables seats capacity ordinals base)
opening_orderly tables seats capacity ordinals base = record {
  issue = Rest;
  counts_stand_for_seats = both (λ o. CountsOf Rest o (groups_of
      (opening tables seats capacity ordinals base) o) (replicate seats fresh_seat))
      (counts_at_first seats Write (at_first seats (λ s. (g : ℕ) → s.write ≡ Some g → ⊥)
      (λ g e. none-some g e)))
      (counts_at_first seats Append (at_first seats (λ s. (g : ℕ) → s.append ≡ Some g → ⊥)
      (λ g e. none-some g e)));
  made_groups = both (λ o. MadeOf Rest o (groups_of
      (opening tables seats capacity ordinals base) o) (replicate seats fresh_seat))
      (made_at_first seats Write refl (at_first seats
      (λ s. (g : ℕ) → s.found.write.current ≡ Some g → ⊥) (λ g e. none-some g e)))
      (made_at_first seats Append refl (at_first seats
      (λ s. (g : ℕ) → s.found.append.current ≡ Some g → ⊥) (λ g e. none-some g e)));
  one_holder_a_turn = record {
    one = λ turn v w h. absurd (nobody turn v h);
    issue_is = λ w turn is. absurd (at_first seats (λ s. s.sync ≡ Some turn → ⊥)
        (λ e. none-some turn e) w is);
    no_issue = λ _. refl;
    holder_is_idle = λ turn w h. absurd (nobody turn w h);
  };
  orders_nest = at_first seats OrdersNest (record {
    append = λ g e. absurd (none-some g e);
    claim = λ r e. absurd (none-some r e);
    undeposited = λ r e. absurd (none-some r e);
    deposited = λ t e. absurd (none-some t e);
  });
}
  where
    nobody : (turn : Turn) (w : ℕ) → HoldsTurn (seat_in (replicate seats fresh_seat) w) turn → ⊥
    nobody turn = at_first seats (λ s. HoldsTurn s turn → ⊥)
        (λ h. false≢true (sym (fresh_holds_none turn) ∙ h))

opening_tiles : (tables seats capacity ordinals base : ℕ)
    → IsWithinLimits tables seats capacity ordinals
    → ClaimsTile (opening tables seats capacity ordinals base)
opening_tiles tables seats capacity ordinals base limits = record {
  stands = λ i h. absurd (omega arith);
  log_is_behind = refl;
  apart = λ i j l h. absurd (omega arith);
  forward = λ i h. absurd (omega arith);
  below_log = λ i h. absurd (omega arith);
  inside = λ i h. absurd (omega arith);
  entry_before = λ i h. absurd (omega arith);
  log_behind_front = omega arith;
  log_inside = let c = limits.least_capacity in omega arith;
  few_ordinals = omega arith;
  within_ordinals = omega arith;
}

pub opening_log : (tables seats capacity ordinals base : ℕ)
    → IsWithinLimits tables seats capacity ordinals
    → IsLawfulLog (opening tables seats capacity ordinals base)
opening_log tables seats capacity ordinals base limits = record {
  sized = record {
    limits = subst (λ n. IsWithinLimits n (length (replicate seats fresh_seat)) capacity ordinals)
        (sym (length-replicate tables _)) (subst (λ n. IsWithinLimits tables n capacity ordinals)
        (sym (length-replicate seats _)) limits);
    seats = at_first seats (λ s. length s.tables ≡ 16) refl;
  };
  claims_tile_the_log = opening_tiles tables seats capacity ordinals base limits;
  orders = opening_orderly tables seats capacity ordinals base;
  own_claim = at_each seats (λ w s. (r : Range) → s.claim ≡ Some r
      → Contains [] (entry_claim w r.start r.end)) (λ w r e. absurd (none-some r e));
  notes_are_claims = record {
    each = λ n h. absurd (let l = h.1 in omega arith);
    in_order = λ i j d l h. absurd (omega arith);
  };
  each_claim_noted_once = record {
    once = λ c h entry. absurd (let l = h.1 in omega arith);
    own = λ w t e. absurd (at_first seats (λ s. s.note ≡ Some t → ⊥) (λ q. none-some t q) w e);
  };
  logged_are_notes = λ p h. absurd (let l = h.1 in omega arith);
  dropped_was_droppable = record {
    droppable = λ o h. absurd (let l = h.1 in omega arith);
    below_synced = λ o h. absurd (let l = h.1 in omega arith);
  };
}
