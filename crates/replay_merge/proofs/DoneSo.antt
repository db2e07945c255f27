-- What entries come to, taken one after another, joined, and in any order.
use Rattle.std.proofs.Common.{◌≡◌, ◌+◌, List, [], ◌∷◌, ◌++◌, map, Option, Some, None, Contains}
use Rattle.std.proofs.Common.{IfSome, IsPermutation, refl, sym, ap, subst, ◌∙◌, inl, inr, arith}
use Rattle.std.proofs.Common.{length-append}
use Rattle.std.proofs.lemmas.List.{append-nil, flat_map_more, map-append}
use Rattle.std.proofs.lemmas.List.Elements.{Contains-append_cases, Contains-append_left}
use Rattle.std.proofs.lemmas.List.Elements.{Contains-append_right}
use Rattle.std.proofs.lemmas.List.Sorted.{Contains-permutation, IsPermutation-map}
use Rattle.std.proofs.lemmas.List.Sorted.{IsPermutation-sym, length_permutation}
use Rattle.clog_base.proofs.Members.{here, nothing_there, only_one}
use Rattle.clog_base.specs.declared.fault.PayloadFault.{PayloadFault}
use Rattle.clog_mutation.specs.declared.mutation.Mutation.{Mutation}
use Rattle.clog_crash.specs.Counts.{LoggedMutation}
use Rattle.clog_folder.specs.declared.tables.TableHeld.{TableHeld}
use Rattle.clog_folder.specs.Folder.{PlacedPayload}
use Rattle.clog_folder.specs.Listing.{Picks}
use Rattle.clog_folder.proofs.EntriesCounted.{picks_both}
use Rattle.replay_merge.specs.declared.merged.Merged.{Merged}
use Rattle.replay_merge.specs.declared.piped.Batch.{Batch}
use Rattle.replay_merge.specs.Entries.{Entry, all_items, items_of}
use Rattle.replay_merge.specs.declared.piped.Piped.{Piped}
use Rattle.replay_merge.specs.declared.piped.Refused.{Refused}
use Rattle.replay_merge.specs.Merged.{KeyedUpdate, Takes, updates_of}
use Rattle.replay_merge.specs.Piped.{IsDone, IsFirstOf, IsFirstOfBoth, IsLeastRefused, IsGood}
use Rattle.replay_merge.specs.Piped.{IsGoodOrBehind, IsRefusal, IsRefusedAs, IsUpTo, JoinsPiped}
use Rattle.replay_merge.specs.Piped.{TakesItems, TakesPiped, TakesRefused, placed_of}
use Rattle.replay_merge.specs.Taking.{IsTakenOf, TakesLog}
use Rattle.replay_merge.proofs.Reordered.{flat_order, moved_by, order_of, picks_moved}
use Rattle.replay_merge.proofs.Reordered.{taken_in_any_order}
use Rattle.replay_merge.proofs.NoneTaken.{none_taken}
use Rattle.replay_merge.proofs.Taken.{taken_both, taken_more}

pub one_batch_more : (batches : List Batch) (b : Batch)
    → all_items batches ++ items_of b ≡ all_items (batches ++ b ∷ [])
one_batch_more batches b = flat_map_more items_of [] batches b

-- ---- refusals

first_reordered : (items other : List Entry) (r : Option Refused) → IsPermutation items other
    → IsLeastRefused items r → IsLeastRefused other r
first_reordered items other None order first = λ e there.
    first e (Contains-permutation other items e (IsPermutation-sym items other order) there)
first_reordered items other (Some r) order first = (
  (first.0.0, Contains-permutation items other first.0.0 order first.0.1, first.0.2),
  λ e there. first.1 e
      (Contains-permutation other items e (IsPermutation-sym items other order) there),
)

up_to_both : (a b : Refused) (e : Entry) → IsUpTo a.id a.start b.id b.start
    → IsGoodOrBehind b e → IsGoodOrBehind a e
up_to_both a b e one (inl good) = inl good
up_to_both a b e (inl low) (inr (inl high)) = inr (inl (omega (arith, low, high)))
up_to_both a b e (inl low) (inr (inr same)) = let i = same.0 in inr (inl (omega (arith, low, i)))
up_to_both a b e (inr one) (inr (inl high)) = let i = one.0 in inr (inl (omega (arith, i, high)))
up_to_both a b e (inr one) (inr (inr same)) =
    let i = one.0 in
    let j = same.0 in
    let k = one.1 in
    let l = same.1 in
    inr (inr (omega (arith, i, j), omega (arith, k, l)))

either_of : (items more : List Entry) (P : Entry → Type 0)
    → ((e : Entry) → Contains items e → P e) → ((e : Entry) → Contains more e → P e)
    → (e : Entry) → Contains (items ++ more) e → P e
either_of items more P mine theirs e there = elim (Contains-append_cases items more e there) [
  | inl one ↦ mine e one
  | inr other ↦ theirs e other
]

-- of two lists the first refusal is the first of the two
first_joined : (items more : List Entry) (a b c : Option Refused) → IsLeastRefused items a
    → IsLeastRefused more b → IsFirstOfBoth a b c → IsLeastRefused (items ++ more) c
first_joined items more None None c one two first =
    subst (IsLeastRefused (items ++ more)) (sym first) (either_of items more IsGood one two)
first_joined items more (Some a) None c one two first =
    subst (IsLeastRefused (items ++ more)) (sym first) (
      (one.0.0, Contains-append_left items more one.0.0 one.0.1, one.0.2),
      either_of items more (IsGoodOrBehind a) one.1 (λ e there. inl (two e there)),
    )
first_joined items more a (Some b) None one two first = absurd first
first_joined items more None (Some b) (Some c) one two first =
    subst (λ (r : Refused). IsLeastRefused (items ++ more) (Some r)) (sym first) (
      (two.0.0, Contains-append_right items more two.0.0 two.0.1, two.0.2),
      either_of items more (IsGoodOrBehind b) (λ e there. inl (one e there)) two.1,
    )
first_joined items more (Some a) (Some b) (Some c) one two (inl first) =
    subst (λ (r : Refused). IsLeastRefused (items ++ more) (Some r)) (sym first.0) (
      (one.0.0, Contains-append_left items more one.0.0 one.0.1, one.0.2),
      either_of items more (IsGoodOrBehind a) one.1
          (λ e there. up_to_both a b e first.1 (two.1 e there)),
    )
first_joined items more (Some a) (Some b) (Some c) one two (inr first) =
    subst (λ (r : Refused). IsLeastRefused (items ++ more) (Some r)) (sym first.0) (
      (two.0.0, Contains-append_right items more two.0.0 two.0.1, two.0.2),
      either_of items more (IsGoodOrBehind b)
          (λ e there. up_to_both b a e first.1 (one.1 e there)) two.1,
    )

only_good : (e : Entry) → IsGood e → IsLeastRefused (e ∷ []) None
only_good e good = λ other there. subst IsGood (only_one e other there) good

only_refused : (e : Entry) (r : Refused) → IsRefusedAs e r → IsLeastRefused (e ∷ []) (Some r)
only_refused e r is = (
  (e, here e [], is),
  λ other there. inr (inr (
    is.id ∙ ap (λ (x : Entry). x.id) (only_one e other there),
    (let s = is.start in let t = ap (λ (x : Entry). x.start) (only_one e other there) in
        omega (arith, s, t)),
  )),
)

module _ (tables : List TableHeld) where
  pub nothing_done : (s : Piped) → s.merged.cells ≡ [] → s.merged.updates ≡ 0
      → s.merged.skipped ≡ 0 → s.entries ≡ 0 → s.refused ≡ None → IsDone tables [] s
  nothing_done s cells updates skipped entries refused = record {
    good = [];
    picks = refl;
    taken = none_taken tables s.merged cells updates skipped;
    entries = entries;
    first = subst (IsLeastRefused []) (sym refused) (λ e there. absurd (nothing_there e there));
  }

  good_more : (items : List Entry) (e : Entry) (mutation : Mutation) (old new : Piped)
      → IsGood e → TakesLog tables (placed_of e ∷ []) old.merged new.merged
      → new.entries ≡ old.entries + 1 → new.refused ≡ old.refused → IsDone tables items old
      → IsDone tables (items ++ e ∷ []) new
  good_more items e mutation old new good takes entries refused is = record {
    good = is.good ++ e ∷ [];
    picks = picks_both IsGood items (e ∷ []) is.good (e ∷ []) is.picks
        (inl (good, ([], refl, refl)));
    taken = subst (λ (ps : List PlacedPayload). IsTakenOf tables ps new.merged)
        (sym (map-append placed_of is.good (e ∷ [])))
        (taken_more tables (map placed_of is.good) (placed_of e ∷ []) old.merged new.merged
        is.taken takes);
    entries = omega (arith, entries, is.entries, length-append is.good (e ∷ []));
    first = first_joined items (e ∷ []) old.refused None new.refused is.first (only_good e good)
        refused;
  }

  refused_more : (items : List Entry) (e : Entry) (old new : Piped) → TakesRefused e old new
      → IsDone tables items old → IsDone tables (items ++ e ∷ []) new
  refused_more items e old new t is = record {
    good = is.good;
    picks = subst (Picks IsGood (items ++ e ∷ [])) (append-nil is.good)
        (picks_both IsGood items (e ∷ []) is.good [] is.picks (inr (t.bad, refl)));
    taken = subst (λ (m : Merged). IsTakenOf tables (map placed_of is.good) m) (sym t.merged)
        is.taken;
    entries = t.entries ∙ is.entries;
    first = first_joined items (e ∷ []) old.refused (Some t.r) new.refused is.first
        (only_refused e t.r t.is) t.first;
  }

  pub piped_more : (items : List Entry) (e : Entry) (old new : Piped)
      → TakesPiped tables e old new → IsDone tables items old → IsDone tables (items ++ e ∷ []) new
  piped_more items e old new (inl t) is =
      let updates = t.2.takes in
      let l : LoggedMutation =
      record { at = record { id = e.id; offset = e.end }; mutation = t.0 } in
      let takes : TakesLog tables (placed_of e ∷ []) old.merged new.merged = record {
        log = l ∷ [];
        say = (l, ([], refl, refl, t.1, refl));
        takes = subst (λ (us : List KeyedUpdate). Takes tables us old.merged new.merged)
            (sym (append-nil (updates_of l))) updates;
      } in
      good_more items e t.0 old new (t.0, t.1) takes t.2.entries t.2.refused is
  piped_more items e old new (inr t) is = refused_more items e old new t is

  pub piped_both : (items more : List Entry) (a b c : Piped) → JoinsPiped a b c
      → IsDone tables items a → IsDone tables more b → IsDone tables (items ++ more) c
  piped_both items more a b c join one two = record {
    good = one.good ++ two.good;
    picks = picks_both IsGood items more one.good two.good one.picks two.picks;
    taken = subst (λ (ps : List PlacedPayload). IsTakenOf tables ps c.merged)
        (sym (map-append placed_of one.good two.good))
        (taken_both tables (map placed_of one.good) (map placed_of two.good) a.merged b.merged
        c.merged one.taken two.taken join.merged);
    entries = omega (
      arith,
      join.entries,
      one.entries,
      two.entries,
      length-append one.good two.good,
    );
    first = first_joined items more a.refused b.refused c.refused one.first two.first join.first;
  }

  -- a batch is taken in behind others
  pub batch_more : (batches : List Batch) (b : Batch) (old new : Piped)
      → TakesItems tables (items_of b) old new → IsDone tables (all_items batches) old
      → IsDone tables (all_items (batches ++ b ∷ [])) new
  batch_more batches b old new takes is =
      subst (λ (es : List Entry). IsDone tables es new) (one_batch_more batches b)
      (takes (all_items batches) is)

  -- an entry that is refused
  pub refused_so : (e : Entry) (fault : PayloadFault) (old new : Piped)
      → IsRefusal e.payload (Some fault)
      → IsFirstOf old.refused (record { id = e.id; start = e.start; fault = fault }) new.refused
      → new.merged ≡ old.merged → new.entries ≡ old.entries → TakesPiped tables e old new
  refused_so e fault old new is first merged entries = inr (record {
    r = record { id = e.id; start = e.start; fault = fault };
    is = record { id = refl; start = refl; fault = is.0 };
    bad = λ good. is.1 good.0 good.1;
    merged = merged;
    entries = entries;
    first = first;
  })

  pub reordered : (s : Piped) (items other : List Entry) → IsPermutation items other
      → IsDone tables items s → IsDone tables other s
  reordered s items other order is =
      let good = picks_moved IsGood items other (moved_by items other order) is.good is.picks in
      let moved = order_of is.good good.now good.moved in
      record {
        good = good.now;
        picks = good.picks;
        taken = taken_in_any_order tables (map placed_of is.good) (map placed_of good.now) s.merged
            (IsPermutation-map placed_of is.good good.now moved) is.taken;
        entries = is.entries ∙ sym (length_permutation is.good good.now moved);
        first = first_reordered items other s.refused order is.first;
      }

  any_order : (r : Option Piped) (taken items : List Entry) → IsPermutation taken items
      → IfSome r (λ s. IsDone tables taken s) → IfSome r (IsDone tables items)
  any_order None taken items order is = tt
  any_order (Some s) taken items order is = reordered s taken items order is

  -- the same of batches
  pub batches_in_any_order : (r : Option Piped) (taken batches : List Batch)
      → IsPermutation taken batches → IfSome r (λ s. IsDone tables (all_items taken) s)
      → IfSome r (IsDone tables (all_items batches))
  batches_in_any_order r taken batches order =
      any_order r (all_items taken) (all_items batches)
      (flat_order items_of taken batches (moved_by taken batches order))
