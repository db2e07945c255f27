-- Updates are taken in one after another.
use Rattle.std.proofs.Common.{◌≡◌, ℕ, ◌+◌, ◌<◌, take, get_or, List, [], ◌∷◌, ◌++◌, length, map}
use Rattle.std.proofs.Common.{refl, sym, ap, subst, ◌∙◌, append_assoc, length-append, inl}
use Rattle.std.proofs.Common.{inr, arith}
use Rattle.std.specs.List.{flat_map}
use Rattle.std.proofs.lemmas.List.{append-nil, map-append, take_more}
use Rattle.std.proofs.lemmas.Grind.{flat_map-append}
use Rattle.clog_base.specs.declared.cell.Cell.{Cell}
use Rattle.clog_base.specs.declared.cell.CellKey.{CellKey}
use Rattle.clog_cells.specs.Merge.{IsMerge}
use Rattle.clog_cells.proofs.Merging.{continues, joins}
use Rattle.clog_mutation.specs.declared.lent.LentUpdate.{LentUpdate}
use Rattle.clog_mutation.specs.declared.mutation.Update.{Update}
use Rattle.clog_mutation.specs.Lent.{update_lent}
use Rattle.clog_base.specs.declared.position.Position.{Position}
use Rattle.clog_crash.specs.Counts.{LoggedMutation}
use Rattle.clog_folder.specs.declared.tables.TableHeld.{TableHeld}
use Rattle.clog_folder.specs.Folder.{PlacedPayload, Say}
use Rattle.clog_folder.specs.Listing.{Picks}
use Rattle.clog_folder.proofs.EntriesCounted.{picks_both}
use Rattle.replay_merge.specs.declared.merged.Merged.{Merged}
use Rattle.replay_merge.specs.Merged.{IsJoin, IsKept, IsMergedOf, IsSkip, IsSkippedBy}
use Rattle.replay_merge.specs.Merged.{KeyedUpdate, Takes}
use Rattle.replay_merge.specs.Merged.{TakesOne, keyed, pair_at, updates_of}
use Rattle.replay_merge.specs.Taking.{IsTakenOf, TakesLog}

-- what is seen up to an index, and what stands there
pub seen : {A : Type 0} (xs : List A) (i : ℕ) (x : A) → i < length xs → x ≡ get_or xs i x
    → take i xs ++ x ∷ [] ≡ take (i + 1) xs
seen xs i x inside is =
    ap (λ y. take i xs ++ y ∷ []) is ∙ sym (take_more xs i x inside)

abbrev Pairs : Type 0
Pairs = List (CellKey × Cell)

module _ (tables : List TableHeld) where
  abbrev Left : KeyedUpdate → Type 0
  Left u = ¬ IsSkippedBy tables u

  -- ---- updates

  pub takes_none : (m : Merged) → Takes tables [] m m
  takes_none m before is =
      subst (λ (us : List KeyedUpdate). IsMergedOf tables us m) (sym (append-nil before)) is

  pub takes_both : (us vs : List KeyedUpdate) (old mid new : Merged) → Takes tables us old mid
      → Takes tables vs mid new → Takes tables (us ++ vs) old new
  takes_both us vs old mid new first second before is =
      subst (λ (l : List KeyedUpdate). IsMergedOf tables l new) (append_assoc before us vs)
      (second (before ++ us) (first before is))

  skips : (u : KeyedUpdate) (old new : Merged) → IsSkippedBy tables u → IsSkip old new
      → Takes tables (u ∷ []) old new
  skips u old new skipped s before is = record {
    kept = is.kept;
    picks_kept = subst (Picks Left (before ++ u ∷ [])) (append-nil is.kept)
        (picks_both Left before (u ∷ []) is.kept [] is.picks_kept
        (inr ((λ left. left skipped), refl)));
    cells = subst (λ (l : Pairs). IsMerge (map pair_at is.kept) l) (sym s.cells) is.cells;
    updates = s.updates ∙ is.updates;
    gone = is.gone ++ u ∷ [];
    picks_gone = picks_both (IsSkippedBy tables) before (u ∷ []) is.gone (u ∷ []) is.picks_gone
        (inl (skipped, ([], refl, refl)));
    skipped = omega (arith, s.skipped, is.skipped, length-append is.gone (u ∷ []));
  }

  keeps : (u : KeyedUpdate) (old new : Merged) → (¬ IsSkippedBy tables u)
      → IsKept (pair_at u) old new → Takes tables (u ∷ []) old new
  keeps u old new left k before is = record {
    kept = is.kept ++ u ∷ [];
    picks_kept = picks_both Left before (u ∷ []) is.kept (u ∷ []) is.picks_kept
        (inl (left, ([], refl, refl)));
    cells = subst (λ (l : Pairs). IsMerge l new.cells)
        (sym (map-append pair_at is.kept (u ∷ [])))
        (continues (map pair_at is.kept) old.cells (pair_at u ∷ []) new.cells is.cells k.cells);
    updates = omega (arith, k.updates, is.updates, length-append is.kept (u ∷ []));
    gone = is.gone;
    picks_gone = subst (Picks (IsSkippedBy tables) (before ++ u ∷ [])) (append-nil is.gone)
        (picks_both (IsSkippedBy tables) before (u ∷ []) is.gone [] is.picks_gone
        (inr (left, refl)));
    skipped = k.skipped ∙ is.skipped;
  }

  pub takes_one : (u : KeyedUpdate) (old new : Merged) → TakesOne tables u old new
      → Takes tables (u ∷ []) old new
  takes_one u old new (inl s) = skips u old new s.0 s.1
  takes_one u old new (inr k) = keeps u old new k.0 k.1

  -- one update more of a mutation
  pub update_more : (at : Position) (key : List ℕ) (front : List Update) (last : Update)
      (old mid new : Merged) → Takes tables (map (keyed at key) front) old mid
      → TakesOne tables (keyed at key last) mid new
      → Takes tables (map (keyed at key) (front ++ last ∷ [])) old new
  update_more at key front last old mid new so_far step =
      subst (λ (us : List KeyedUpdate). Takes tables us old new)
      (sym (map-append (keyed at key) front (last ∷ [])))
      (takes_both (map (keyed at key) front) (keyed at key last ∷ []) old mid new so_far
      (takes_one (keyed at key last) mid new step))

  -- one more of those that are lent
  pub lent_more : (at : Position) (key : List ℕ) (updates : List LentUpdate) (i : ℕ)
      (none : LentUpdate) (old mid new : Merged) → i < length updates
      → Takes tables (map (keyed at key) (map update_lent (take i updates))) old mid
      → TakesOne tables (keyed at key (update_lent (get_or updates i none))) mid new
      → Takes tables (map (keyed at key) (map update_lent (take (i + 1) updates))) old new
  lent_more at key updates i none old mid new inside so_far step =
      let one = get_or updates i none in
      subst (λ (us : List Update). Takes tables (map (keyed at key) us) old new)
      (sym (ap (map update_lent) (take_more updates i none inside)
      ∙ map-append update_lent (take i updates) (one ∷ [])))
      (update_more at key (map update_lent (take i updates)) (update_lent one) old mid new so_far
      step)

  -- ---- entries

  say_both : (ps qs : List PlacedPayload) (log more : List LoggedMutation) → Say ps log
      → Say qs more → Say (ps ++ qs) (log ++ more)
  say_both [] qs log more first second =
      subst (λ (l : List LoggedMutation). Say qs (l ++ more)) (sym first) second
  say_both (p ∷ ps) qs log more first second = (
    first.0,
    (
      first.1.0 ++ more,
      ap (λ (l : List LoggedMutation). l ++ more) first.1.1,
      first.1.2,
      first.1.3,
      say_both ps qs first.1.0 more first.1.4 second,
    ),
  )

  -- payloads more are taken in
  pub taken_more : (ps qs : List PlacedPayload) (old new : Merged) → IsTakenOf tables ps old
      → TakesLog tables qs old new → IsTakenOf tables (ps ++ qs) new
  taken_more ps qs old new has more = record {
    log = has.log ++ more.log;
    say = say_both ps qs has.log more.log has.say more.say;
    taken = subst (λ (us : List KeyedUpdate). IsMergedOf tables us new)
        (sym (flat_map-append updates_of has.log more.log))
        (more.takes (flat_map updates_of has.log) has.taken);
  }

  -- ---- what two workers have

  merged_both : (us vs : List KeyedUpdate) (a b c : Merged) → IsMergedOf tables us a
      → IsMergedOf tables vs b → IsJoin a b c → IsMergedOf tables (us ++ vs) c
  merged_both us vs a b c first second join = record {
    kept = first.kept ++ second.kept;
    picks_kept = picks_both Left us vs first.kept second.kept first.picks_kept second.picks_kept;
    cells = subst (λ (l : Pairs). IsMerge l c.cells)
        (sym (map-append pair_at first.kept second.kept))
        (joins (map pair_at first.kept) (map pair_at second.kept) a.cells b.cells c.cells
        first.cells second.cells join.cells);
    updates = omega (
      arith,
      join.updates,
      first.updates,
      second.updates,
      length-append first.kept second.kept,
    );
    gone = first.gone ++ second.gone;
    picks_gone = picks_both (IsSkippedBy tables) us vs first.gone second.gone first.picks_gone
        second.picks_gone;
    skipped = omega (
      arith,
      join.skipped,
      first.skipped,
      second.skipped,
      length-append first.gone second.gone,
    );
  }

  pub taken_both : (ps qs : List PlacedPayload) (a b c : Merged) → IsTakenOf tables ps a
      → IsTakenOf tables qs b → IsJoin a b c → IsTakenOf tables (ps ++ qs) c
  taken_both ps qs a b c first second join = record {
    log = first.log ++ second.log;
    say = say_both ps qs first.log second.log first.say second.say;
    taken = subst (λ (us : List KeyedUpdate). IsMergedOf tables us c)
        (sym (flat_map-append updates_of first.log second.log))
        (merged_both (flat_map updates_of first.log) (flat_map updates_of second.log) a b c
        first.taken second.taken join);
  }
