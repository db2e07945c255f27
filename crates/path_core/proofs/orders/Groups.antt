-- The groups of one order, when a seat enters or leaves one, or a group is made or expired.
use Rattle.std.proofs.Common.{
  ◌≡◌,
  ◌≢◌,
  ℕ,
  suc,
  ◌<◌,
  ◌≤◌,
  List,
  [],
  ◌∷◌,
  ◌++◌,
  length,
  set,
  Some,
  None,
  refl,
  sym,
  ap,
  ◌∙◌,
  subst,
  arith,
}
use Rattle.std.specs.List.{count_by}
use Rattle.std.proofs.lemmas.List.{get_or_past}
use mathlib.Core.Logic.{dite}
use native.Mathlib.Decide.{ℕ_discrete, dec_le}
use Rattle.op_core.specs.declared.count.Order.{Order}
use Rattle.op_core.specs.declared.count.Tally.{Tally}
use Rattle.op_core.specs.declared.count.Tally.TheVariants.{Open, Expired}
use Rattle.op_core.specs.Tallies.{running_of, IsOpen, one_more, one_less, expired, tally_at}
use Rattle.path_core.specs.declared.seat.Issue.{Issue}
use Rattle.path_core.specs.declared.seat.Issue.TheVariants.{Rest, Opened, Moved}
use Rattle.path_core.specs.declared.seat.Seat.{Seat}
use Rattle.path_core.specs.declared.state.OrderGroups.{OrderGroups}
use Rattle.path_core.specs.Parts.{fresh_seat, group_in}
use Rattle.path_core.specs.Next.{with_tally}
use Rattle.path_core.specs.LawfulOrders.{GroupIs, CountsOf, is_in, seat_in}
use Rattle.path_core.proofs.lists.Replaced.{put_at, default_put, counted_some}
use Rattle.path_core.proofs.orders.OneGroup.{
  in_own,
  in_other,
  fresh_out,
  in_it,
  seats_in,
  running_more,
  running_less,
  running_expired,
  more_is,
  less_is,
  expired_is,
  IsOther,
  other_is,
}

-- One order, with its seats, when the seat `w` becomes `s`.
module _ (i : Issue) (o : Order) (groups : OrderGroups) (seats : List Seat) (w : ℕ) (s : Seat)
    (inside : w < length seats) (C : CountsOf i o groups seats) where
  abbrev after : List Seat
  after = set seats w s

  abbrev tallies : List Tally
  tallies = groups.tallies

  stay : group_in o s ≡ group_in o (seat_in seats w) → (g : ℕ)
      → count_by (is_in o g) after ≡ count_by (is_in o g) seats
  stay same g =
      let e = seats_in o seats w s (group_in o s) (group_in o s) inside (sym same) refl g in
      omega arith

  none_below : group_in o s ≡ group_in o (seat_in seats w) → (v g : ℕ)
      → group_in o (seat_in after v) ≡ Some g → groups.oldest ≤ g
  none_below same v = put_at seats w s fresh_seat inside
      (λ _ q. (g : ℕ) → group_in o q ≡ Some g → groups.oldest ≤ g)
      (λ g e. C.nobody_below w g (sym same ∙ e)) (λ u _ g e. C.nobody_below u g e) v

  -- the seat stays in its group
  pub counts_stay : (j : Issue) → IsOther i j o → group_in o s ≡ group_in o (seat_in seats w)
      → CountsOf j o groups after
  counts_stay j other same = record {
    counted = λ g. C.counted g ∙ sym (stay same g);
    each = λ g. other_is i j o _ _ g _ other (C.each g);
    nobody_below = none_below same;
  }

  -- it enters an open group
  pub counts_enter : (g : ℕ) → g < length tallies → g ≤ groups.current → IsOpen (tally_at tallies g)
      → group_in o (seat_in seats w) ≡ None → group_in o s ≡ Some g
      → CountsOf i o (with_tally groups g one_more) after
  counts_enter g made below unclosed was is = let k = tally_at tallies g in record {
    counted = put_at tallies g (one_more k) (Open 0) made
        (λ h n. running_of n ≡ count_by (is_in o h) after)
        (let a = seats_in o seats w s None (Some g) inside was is g in let b = in_own g in
        let c = C.counted g in let m = running_more k in omega arith)
        (λ h n. let a = seats_in o seats w s None (Some g) inside was is h in
        let b = in_other g h n in let c = C.counted h in omega arith);
    each = put_at tallies g (one_more k) (Open 0) made (GroupIs i o groups.current groups.oldest)
        (more_is i o _ _ g k unclosed below (C.each g)) (λ h _. C.each h);
    nobody_below = λ v. put_at seats w s fresh_seat inside
        (λ _ q. (h : ℕ) → group_in o q ≡ Some h → groups.oldest ≤ h)
        (λ h e. let same : Some g ≡ Some h = sym is ∙ e in
        let here : g ≡ h = cc in at_least g h here unclosed) (λ u _ h e. C.nobody_below u h e) v;
  }
    where
      at_least : (g h : ℕ) → g ≡ h → IsOpen (tally_at tallies g) → groups.oldest ≤ h
      at_least g h same unclosed = dite (dec_le groups.oldest h) (λ l. l)
          (λ n. absurd (not_finished _ unclosed ((C.each g).below_oldest (omega arith))))
        where
          not_finished : (k : Tally) → IsOpen k → k ≢ Expired 0
          not_finished k o e = subst IsOpen e o

  -- it leaves its group
  pub counts_leave : (g : ℕ) → g < length tallies
      → group_in o (seat_in seats w) ≡ Some g → group_in o s ≡ None
      → CountsOf i o (with_tally groups g one_less) after
  counts_leave g made was is =
      let k = tally_at tallies g in
      let t = λ (h : ℕ). seats_in o seats w s (Some g) None inside was is h in
      let some : 0 < running_of k = let a = t g in let b = in_own g in let c = C.counted g in
      omega arith in
      record {
        counted = put_at tallies g (one_less k) (Open 0) made
            (λ h n. running_of n ≡ count_by (is_in o h) after)
            (let a = t g in let b = in_own g in let c = C.counted g in let m = running_less k in
            omega arith)
            (λ h n. let a = t h in let b = in_other g h n in let c = C.counted h in omega arith);
        each = put_at tallies g (one_less k) (Open 0) made
            (GroupIs i o groups.current groups.oldest)
            (less_is i o _ _ g k some (C.each g)) (λ h _. C.each h);
        nobody_below = λ v. put_at seats w s fresh_seat inside
            (λ _ q. (h : ℕ) → group_in o q ≡ Some h → groups.oldest ≤ h)
            (λ h e. absurd (let q : None ≡ Some h = sym is ∙ e in cc))
            (λ u _ h e. C.nobody_below u h e) v;
      }

  -- The order's holder of the Sync turn goes on with a barrier: the seat stays in its group.

  -- the next group is made
  pub counts_open : i ≡ Rest → length tallies ≡ suc groups.current
      → group_in o s ≡ group_in o (seat_in seats w)
      → CountsOf (Opened o) o (record groups { tallies = tallies ++ Open 0 ∷ [] }) after
  counts_open rest long same = record {
    counted = λ g. ap running_of (default_put tallies (Open 0) g) ∙ C.counted g ∙ sym (stay same g);
    each = λ g. let G = C.each g in
        subst (GroupIs (Opened o) o groups.current groups.oldest g)
        (sym (default_put tallies (Open 0) g)) (record {
          below_current = λ l u. absurd (let e : Rest ≡ Moved o = sym rest
              ∙ (G.below_current l u).1 in
              cc);
          replaced = λ e. absurd (let q : Opened o ≡ Moved o = e in cc);
          below_oldest = G.below_oldest;
          now = G.now;
          opened = λ _ e. get_or_past tallies g (Open 0) (omega arith);
        });
    nobody_below = none_below same;
  }

  -- it is made current
  pub counts_move : i ≡ Opened o → group_in o s ≡ group_in o (seat_in seats w)
      → CountsOf (Moved o) o (record groups { current = suc groups.current }) after
  counts_move opened same = record {
    counted = λ g. C.counted g ∙ sym (stay same g);
    each = λ g. let G = C.each g in record {
      below_current = λ l u. dite (ℕ_discrete g groups.current) (λ e. (omega arith, refl))
          (λ n. absurd (let e : Opened o ≡ Moved o
          = sym opened ∙ (G.below_current (omega arith) u).1 in cc));
      replaced = λ _ e. G.now (omega arith);
      below_oldest = G.below_oldest;
      now = λ e. subst IsOpen (sym (G.opened opened e)) tt;
      opened = λ e. absurd (let q : Moved o ≡ Opened o = e in cc);
    };
    nobody_below = none_below same;
  }

  -- the group before it is expired
  pub counts_expire : (g : ℕ) → i ≡ Moved o → g < length tallies → suc g ≡ groups.current
      → IsOpen (tally_at tallies g) → group_in o s ≡ group_in o (seat_in seats w)
      → CountsOf Rest o (with_tally groups g expired) after
  counts_expire g moved made is unclosed same = let k = tally_at tallies g in record {
    counted = put_at tallies g (expired k) (Open 0) made
        (λ h n. running_of n ≡ count_by (is_in o h) after)
        (running_expired k ∙ C.counted g ∙ sym (stay same g))
        (λ h _. C.counted h ∙ sym (stay same h));
    each = put_at tallies g (expired k) (Open 0) made (GroupIs Rest o groups.current groups.oldest)
        (expired_is o _ _ g k is unclosed
        (subst (λ j. GroupIs j o groups.current groups.oldest g k) moved (C.each g)))
        (λ h n. let G = C.each h in record {
          below_current = λ l u. absurd (n (let e = (G.below_current l u).0 in omega arith));
          replaced = λ e. absurd (let q : Rest ≡ Moved o = e in cc);
          below_oldest = G.below_oldest;
          now = G.now;
          opened = λ e. absurd (let q : Rest ≡ Opened o = e in cc);
        });
    nobody_below = none_below same;
  }

  -- The oldest group moves over a finished one.
  pub counts_advance : tally_at tallies groups.oldest ≡ Expired 0
      → group_in o s ≡ group_in o (seat_in seats w)
      → CountsOf i o (record groups { oldest = suc groups.oldest }) after
  counts_advance finished same = record {
    counted = λ g. C.counted g ∙ sym (stay same g);
    each = λ g. let G = C.each g in record {
      below_current = G.below_current;
      replaced = G.replaced;
      below_oldest = λ l. dite (ℕ_discrete g groups.oldest)
          (λ e. ap (tally_at tallies) e ∙ finished) (λ n. G.below_oldest (omega arith));
      now = G.now;
      opened = G.opened;
    };
    nobody_below = λ v g e. let l = none_below same v g e in dite (ℕ_discrete g groups.oldest)
        (λ is. absurd (nobody_finished v g e (ap (tally_at tallies) is ∙ finished)))
        (λ n. omega arith);
  }
    where
      in_some : (l : List Seat) (v g : ℕ) → group_in o (seat_in l v) ≡ Some g
          → 0 < count_by (is_in o g) l
      in_some l v g e =
          counted_some (is_in o g) l fresh_seat (fresh_out o g) v (in_it o (seat_in l v) g e)

      -- in a finished group there is nobody
      nobody_finished : (v g : ℕ) → group_in o (seat_in after v) ≡ Some g
          → tally_at tallies g ≡ Expired 0 → ⊥
      nobody_finished v g e is =
          let c = C.counted g ∙ sym (stay same g) in
          let z = ap running_of is in
          let one = in_some after v g e in
          omega arith
