-- The log of a run whose path is closed holds each line once.
use Rattle.std.proofs.Common.{
  ◌≡◌,
  ℕ,
  ◌<◌,
  ◌≤◌,
  ◌^◌,
  inl,
  inr,
  List,
  Bool,
  true,
  false,
  Some,
  sym,
  ◌∙◌,
  ap,
  subst,
  arith,
}
use Rattle.std.specs.Prelude.{Contains, is_some}
use Rattle.clog_spec.specs.Names.{segment_name_of}
use Rattle.clog_base.proofs.Members.{in_map}
use Rattle.clog_disk.specs.declared.change.Change.{Change}
use Rattle.clog_disk.specs.Files.{Files}
use Rattle.clog_mutation.specs.declared.mutation.Mutation.{Mutation}
use Rattle.clog_words.specs.declared.request.ApplyOptions.{ApplyOptions}
use Rattle.clog_crash.specs.Folder.{IsHeld}
use Rattle.clog_crash.specs.Grown.{Append, IsKept, appends_of, grown, HoldsGrown}
use Rattle.clog_applied.specs.Appended.{IsAppended, appended, entries_in, segments_of}
use Rattle.clog_applied.specs.Closed.{ClosedRun, StaysAs, StaysOrWent}
use Rattle.clog_applied.specs.Log.{HasMarkBetween, IsLeft, LogHoldsEachLineOnce}
use Rattle.clog_applied.proofs.Lines.{holds_shares}
use Rattle.clog_applied.proofs.Opened.{appends_behind}

-- what stays or goes is left
left_so : (archive : Bool) (changes : List Change) (after : Files) (dropped : List ℕ) (id : ℕ)
    (bytes : List ℕ) → appended changes id ≡ bytes
    → StaysOrWent archive after dropped id bytes → IsLeft archive after changes id
left_so true changes after dropped id bytes is (inl went) =
    inr (went.1.segment, went.1.archived ∙ ap Some (sym is))
left_so false changes after dropped id bytes is (inl went) =
    (inl went.1.segment, went.1.archived)
left_so true changes after dropped id bytes is (inr stays) =
    inl (stays.1.segment ∙ ap Some (sym is), stays.1.archive)
left_so false changes after dropped id bytes is (inr stays) =
    (inr (stays.1.segment ∙ ap Some (sym is)), stays.1.archive)

module _ (o : ApplyOptions) (before after : Files) (changes : List Change)
    (mutations : List Mutation) (c : ClosedRun o before after changes mutations) where
  -- the opening appends nothing
  pub same_appends : appends_of changes ≡ appends_of c.later
  same_appends =
      ap appends_of c.parts
      ∙ appends_behind before c.opened c.recovery c.base c.opening c.later

  pub same_appended : (id : ℕ) → appended changes id ≡ appended c.later id
  same_appended id = ap (λ (a : List Append). grown a (segment_name_of 6 id)) same_appends

  -- ---- the segments of the run

  -- each of them has been appended to, and reads as its entries
  pub its_segment : (id : ℕ) → Contains c.ids id
      → (id < 2 ^ 63) × HoldsGrown (appends_of c.later) id (entries_in id c.history)
  its_segment id h =
      let listed : Contains (segments_of c.ids c.history) (id, entries_in id c.history) =
      in_map (λ (i : ℕ). (i, entries_in i c.history)) c.ids id h in
      let each = c.store.is_appended.kept.each (id, entries_in id c.history) listed in
      (each.0.fits, each.1)

  pub from_base : (id : ℕ) → Contains c.ids id → c.base ≤ id
  from_base id h =
      let found = c.store.some id h in
      subst (λ (x : ℕ). c.base ≤ x) found.2 (c.path.from_base found.0 found.1)

  -- one that is there was not dropped
  pub stays_so : (id : ℕ) → Contains c.ids id → IsHeld after (segment_name_of 6 id)
      → (Contains c.dropped id → ⊥) × StaysAs after id (appended c.later id)
  stays_so id h held = elim (c.store.segments id h) [
    | inr stays ↦ stays
    | inl went ↦
        let clash : true ≡ false = sym held ∙ ap is_some went.1.segment in absurd (cc)
  ]

  -- ---- the log

  log_appended : IsAppended changes c.ids c.history
  log_appended = record {
    kept = subst (λ (a : List Append). IsKept a (segments_of c.ids c.history))
        (sym same_appends) c.store.is_appended.kept;
    only = λ a h. c.store.is_appended.only a
        (subst (λ (all : List Append). Contains all a) same_appends h);
    no_other = c.store.is_appended.no_other;
  }

  pub log_holds : LogHoldsEachLineOnce o before after changes mutations c.ids c.history
  log_holds = record {
    is_appended = log_appended;
    new = λ id h other named.
        let low = c.opening.base_above other named in
        let high = from_base id h in omega (arith, low, high);
    lawful = c.path.lawful;
    shares = holds_shares o.writers c.path.writers mutations c.history c.path.known c.path.shares;
    left = λ id h. left_so o.archive changes after c.dropped id (appended c.later id)
        (same_appended id) (c.store.segments id h);
    apart = λ batch a b ha hb writer same behind.
        let m = c.apart batch a b ha hb writer same behind in
        subst (λ (bytes : List ℕ). HasMarkBetween bytes a.id a.end b.start)
        (sym (same_appended a.id)) m;
  }
