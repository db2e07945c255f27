-- One group: who is in it, and its count with one operation more, one less, and expired.
use Rattle.std.proofs.Common.{
  ◌≡◌,
  ◌≢◌,
  ℕ,
  suc,
  ◌+◌,
  ◌-◌,
  ◌<◌,
  ◌≤◌,
  true,
  false,
  cond,
  List,
  length,
  set,
  Option,
  Some,
  refl,
  sym,
  ap,
  ◌∙◌,
  arith,
}
use Rattle.std.specs.List.{count_by}
use Rattle.std.proofs.lemmas.Bool.{ne_eqb, eq-eqb}
use Rattle.std.proofs.lemmas.List.Sums.{sum_by-set}
use Rattle.op_core.specs.declared.count.Order.{Order}
use Rattle.op_core.specs.declared.count.Order.TheVariants.{Write, Append}
use Rattle.op_core.specs.declared.count.Tally.{Tally}
use Rattle.op_core.specs.declared.count.Tally.TheVariants.{Open, Expired}
use Rattle.op_core.specs.Tallies.{running_of, IsOpen, one_more, one_less, expired}
use Rattle.path_core.specs.declared.seat.Issue.{Issue}
use Rattle.path_core.specs.declared.seat.Issue.TheVariants.{Rest, Opened, Moved}
use Rattle.path_core.specs.declared.seat.Seat.{Seat}
use Rattle.path_core.specs.Parts.{fresh_seat, group_in, is_at}
use Rattle.path_core.specs.LawfulOrders.{GroupIs, is_in, seat_in}

-- one seat in a group
abbrev pub one_in : ℕ → Option ℕ → ℕ
one_in g group = cond (is_at group g) 1 0

pub in_own : (g : ℕ) → one_in g (Some g) ≡ 1
in_own g = ap (λ b. cond b 1 0) (eq-eqb g g refl)

pub in_other : (g h : ℕ) → h ≢ g → one_in h (Some g) ≡ 0
in_other g h n = ap (λ b. cond b 1 0) (ne_eqb g h (λ e. n (sym e)))

-- a fresh seat is in no group
pub fresh_out : (o : Order) (g : ℕ) → is_in o g fresh_seat ≡ false
fresh_out Write g = refl
fresh_out Append g = refl

pub in_it : (o : Order) (s : Seat) (g : ℕ) → group_in o s ≡ Some g → is_in o g s ≡ true
in_it o s g e = ap (λ d. is_at d g) e ∙ eq-eqb g g refl

-- the seats in a group, with one seat replaced
pub seats_in : (order : Order) (seats : List Seat) (w : ℕ) (s : Seat) (d e : Option ℕ)
    → w < length seats → group_in order (seat_in seats w) ≡ d → group_in order s ≡ e → (g : ℕ)
    → count_by (is_in order g) (set seats w s) + one_in g d
    ≡ count_by (is_in order g) seats + one_in g e
seats_in order seats w s d e inside was is g =
    let all = sum_by-set (λ (q : Seat). cond (is_in order g q) 1 0) seats w s fresh_seat inside in
    let a = ap (one_in g) was in
    let b = ap (one_in g) is in
    omega arith

pub running_more : (k : Tally) → running_of (one_more k) ≡ running_of k + 1
running_more (Open r) = refl
running_more (Expired r) = refl

pub running_less : (k : Tally) → running_of (one_less k) ≡ running_of k - 1
running_less (Open r) = refl
running_less (Expired r) = refl

pub running_expired : (k : Tally) → running_of (expired k) ≡ running_of k
running_expired (Open r) = refl
running_expired (Expired r) = refl

pub more_is : (i : Issue) (o : Order) (c u g : ℕ) (k : Tally) → IsOpen k → g ≤ c
    → GroupIs i o c u g k
    → GroupIs i o c u g (one_more k)
more_is i o c u g (Expired r) unclosed below G = absurd unclosed
more_is i o c u g (Open r) unclosed below G = record {
  below_current = G.below_current;
  replaced = λ _ _. tt;
  below_oldest = λ l. absurd (let e = G.below_oldest l in cc);
  now = λ _. tt;
  opened = λ _ e. absurd (omega arith);
}

pub less_is : (i : Issue) (o : Order) (c u g : ℕ) (k : Tally) → 0 < running_of k
    → GroupIs i o c u g k
    → GroupIs i o c u g (one_less k)
less_is i o c u g (Open r) some G = record {
  below_current = G.below_current;
  replaced = λ _ _. tt;
  below_oldest = λ l. absurd (let e = G.below_oldest l in cc);
  now = λ _. tt;
  opened = λ is e. absurd (let z = ap running_of (G.opened is e) in omega arith);
}
less_is i o c u g (Expired r) some G = record {
  below_current = λ _ b. absurd b;
  replaced = λ is e. absurd (G.replaced is e);
  below_oldest = λ l. absurd (let e = ap running_of (G.below_oldest l) in omega arith);
  now = λ e. absurd (G.now e);
  opened = λ is e. absurd (let z = ap running_of (G.opened is e) in omega arith);
}

pub expired_is : (o : Order) (c u g : ℕ) (k : Tally) → suc g ≡ c → IsOpen k
    → GroupIs (Moved o) o c u g k
    → GroupIs Rest o c u g (expired k)
expired_is o c u g (Expired r) is unclosed G = absurd unclosed
expired_is o c u g (Open r) is unclosed G = record {
  below_current = λ _ b. absurd b;
  replaced = λ e. absurd (let q : Rest ≡ Moved o = e in cc);
  below_oldest = λ l. absurd (let e = G.below_oldest l in cc);
  now = λ e. absurd (omega arith);
  opened = λ e. absurd (let q : Rest ≡ Opened o = e in cc);
}

-- The issue of a barrier of the other order changes nothing.
pub record IsOther (i j : Issue) (o : Order) : Type 0 where
  pub moved : i ≡ Moved o → j ≡ Moved o
  pub moved_before : j ≡ Moved o → i ≡ Moved o
  pub opened_before : j ≡ Opened o → i ≡ Opened o

pub other_is : (i j : Issue) (o : Order) (c u g : ℕ) (k : Tally) → IsOther i j o
    → GroupIs i o c u g k
    → GroupIs j o c u g k
other_is i j o c u g k other G = record {
  below_current = λ l unclosed. let r = G.below_current l unclosed in (r.0, other.moved r.1);
  replaced = λ is. G.replaced (other.moved_before is);
  below_oldest = G.below_oldest;
  now = G.now;
  opened = λ is. G.opened (other.opened_before is);
}
