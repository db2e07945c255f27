-- Each note is its writer's claim, and notes stand in the order of the log: each allowed step keeps
-- it.
use Rattle.std.proofs.Common.{
  ◌≡◌,
  ℕ,
  ◌^◌,
  ◌<◌,
  ◌≤◌,
  ◌==◌,
  Bool,
  true,
  not,
  nat_lt,
  ◌&&◌,
  length,
  get_or,
  Option,
  is_none,
  refl,
  sym,
  ap,
  ◌∙◌,
  subst,
  arith,
  ◌⊎◌,
}
use Rattle.std.specs.List.{Contains, AllPairs, position_or_len}
use Rattle.std.proofs.lemmas.Bool.{ltb-true, ltb-false, eq-eqb}
use Rattle.std.proofs.lemmas.List.Elements.{Contains-get_or}
use Rattle.std.proofs.lemmas.List.Sums.{fails_before_first, passes_at_first, prefix_len-le-length}
use mathlib.Core.Logic.{dite, inl, inr}
use native.Mathlib.Decide.{ℕ_discrete}
use Rattle.op_core.specs.declared.count.Order.TheVariants.{Write, Append}
use Rattle.path_core.specs.declared.event.Carried.TheVariants.{Nothing, Deposit, Applied}
use Rattle.path_core.specs.declared.event.Event.{Event}
use Rattle.path_core.specs.declared.event.Event.TheVariants.{Close}
use Rattle.path_core.specs.declared.state.PathState.{PathState}
use Rattle.path_core.specs.Parts.{fresh_seat, seat_of}
use Rattle.path_core.specs.Allowed.{IsStep}
use Rattle.path_core.specs.Next.{next_of, joined}
use Rattle.path_core.specs.Lawful.{IsSized}
use Rattle.path_core.specs.LawfulOrders.{IsOrderly}
use Rattle.path_core.specs.declared.note.EntryNote.{EntryNote}
use Rattle.path_core.specs.declared.state.Claim.{Claim as ClaimOf}
use Rattle.path_core.specs.Whole.{CarriesWhole}
use Rattle.path_core.specs.LawfulLog.{
  ClaimsTile,
  is_undeposited,
  is_note_at,
  EachClaimNoted,
  entry_claim,
  OwnClaims,
  IsClaimed,
  NotesAreClaims,
}
use Rattle.path_core.proofs.lists.Replaced.{counted_some, counted_in}
use Rattle.path_core.proofs.lists.Inserted.{order_insert, insert_cases}
use Rattle.path_core.proofs.runs.Sizes.{as_many_tables}
use Rattle.path_core.proofs.log.ClaimEnds.{entry_is_long, one_or_apart}
use Rattle.path_core.proofs.log.KeepsOwned.{claims_stay}
use Rattle.path_core.proofs.log.KeepsNotedOnce.{undeposited_by}
use Rattle.path_core.proofs.log.OwnNotes.{not_yet}

module _ (x : PathState) (sized : IsSized x) (T : ClaimsTile x) (O : IsOrderly x)
    (owned : OwnClaims x) (noted : EachClaimNoted x) (notes : NotesAreClaims x) where
  is_claimed_still : (e : Event) (n : EntryNote) → IsClaimed x n → IsClaimed (next_of x e) n
  is_claimed_still e n I = record {
    claim = claims_stay x e
        (entry_claim n.writer.0 n.start.0 n.end.0) refl I.claim;
    tables_are_there = subst (λ (k : ℕ). n.tables < 2 ^ k) (sym (as_many_tables x e))
        I.tables_are_there;
    whole = I.whole;
  }

  -- the claim of a note that is deposited
  pub own_range : (by g : ℕ) (note : EntryNote) → IsStep x (Close by Append g (Deposit note))
      → Contains x.claims (entry_claim note.writer.0 note.start.0 note.end.0)
  own_range by g note a = subst (λ k. Contains x.claims (entry_claim k note.start.0 note.end.0))
      (sym a.row.1.writer) (owned by _ a.row.1.range)

  -- a note that is deposited was not noted before
  pub not_noted : (by g : ℕ) (note : EntryNote) → IsStep x (Close by Append g (Deposit note))
      → (n : EntryNote) → Contains x.notes n → n.end.0 ≡ note.end.0 → ⊥
  not_noted by g note a n h is =
      let o = noted.once (entry_claim note.writer.0 note.start.0 note.end.0)
      (own_range by g note a) refl in
      let u = counted_some (is_undeposited note.end.0) x.seats fresh_seat refl by
      (ap (λ c. undeposited_by note.end.0 c (seat_of x by).note) a.row.1.range
      ∙ ap (λ (k : Option ℕ). (note.end.0 == note.end.0) && is_none k)
      (not_yet x O by g a.row.0)
      ∙ ap (λ (b : Bool). b && true) (eq-eqb note.end.0 note.end.0 refl)) in
      let c = counted_in (is_note_at note.end.0) x.notes n h (eq-eqb n.end.0 note.end.0 is) in
      omega arith

  -- where a note that is deposited stands among the others
  stands_apart : (by g : ℕ) (note : EntryNote) → IsStep x (Close by Append g (Deposit note))
      → (n : EntryNote) → Contains x.notes n
      → (n.end.0 ≤ note.start.0) ⊎ (note.end.0 ≤ n.start.0)
  stands_apart by g note a n h = elim (one_or_apart x.capacity x.ordinals x.log x.claims T
      (entry_claim n.writer.0 n.start.0 n.end.0)
      (entry_claim note.writer.0 note.start.0 note.end.0) (notes.each n h).claim
      (own_range by g note a)) [
        | inl is ↦ absurd (not_noted by g note a n h (ap (λ (c : ClaimOf). c.end) is))
        | inr r ↦ r
      ]

  pub note_long : (n : EntryNote) → Contains x.notes n → n.start.0 < n.end.0
  note_long n h = entry_is_long x.capacity x.ordinals x.log x.claims T
      (entry_claim n.writer.0 n.start.0 n.end.0) (notes.each n h).claim refl

  keeps_order : (by g : ℕ) (note : EntryNote) → IsStep x (Close by Append g (Deposit note))
      → AllPairs (λ (a b : EntryNote). a.end.0 ≤ b.start.0) (joined note x.notes)
  keeps_order by g note a =
      order_insert (λ (a b : EntryNote). a.end.0 ≤ b.start.0) x.notes place note
      (prefix_len-le-length _ x.notes) notes.in_order
      (λ k d below. earlier k d below)
      (λ k d above inside. later k d above inside)
    where
      place : ℕ
      place = position_or_len (λ (n : EntryNote). nat_lt note.start.0 n.start.0) x.notes

      long : note.start.0 < note.end.0
      long = entry_is_long x.capacity x.ordinals x.log x.claims T
          (entry_claim note.writer.0 note.start.0 note.end.0) (own_range by g note a) refl

      earlier : (k : ℕ) (d : EntryNote) → k < place → (get_or x.notes k d).end.0 ≤ note.start.0
      earlier k d below =
          let most = prefix_len-le-length (λ (n : EntryNote). not (nat_lt note.start.0 n.start.0))
          x.notes in
          let inside : k < length x.notes = omega arith in
          let f = ltb-false note.start.0 (get_or x.notes k d).start.0
          (fails_before_first (λ (n : EntryNote). nat_lt note.start.0 n.start.0) x.notes k d below)
          in
          elim (stands_apart by g note a (get_or x.notes k d)
          (Contains-get_or x.notes k d inside)) [
            | inl l ↦ l
            | inr l ↦ absurd (let s = long in omega arith)
          ]

      later : (k : ℕ) (d : EntryNote) → place ≤ k → k < length x.notes
          → note.end.0 ≤ (get_or x.notes k d).start.0
      later k d above inside =
          let first = get_or x.notes place d in
          let place_inside : place < length x.notes = omega arith in
          let p = ltb-true note.start.0 first.start.0 (passes_at_first
          (λ (n : EntryNote). nat_lt note.start.0 n.start.0) x.notes d place_inside) in
          let l = note_long first (Contains-get_or x.notes place d place_inside) in
          let m = note_long (get_or x.notes k d) (Contains-get_or x.notes k d inside) in
          let rises : first.start.0 ≤ (get_or x.notes k d).start.0 = dite (ℕ_discrete place k)
          (λ e. subst (λ j. first.start.0 ≤ (get_or x.notes j d).start.0) e (omega arith))
          (λ n. let o = notes.in_order place k d (omega arith) inside in omega arith) in
          elim (stands_apart by g note a (get_or x.notes k d)
          (Contains-get_or x.notes k d inside)) [
            | inl q ↦ absurd (omega arith)
            | inr q ↦ q
          ]

  pub keeps_notes : (e : Event) → IsStep x e → CarriesWhole e → NotesAreClaims (next_of x e)
  keeps_notes (Close by Append g (Deposit note)) a whole = record {
    each = λ n h. elim (insert_cases x.notes _ note n h) [
      | inl old ↦ is_claimed_still (Close by Append g (Deposit note)) n (notes.each n old)
      | inr is ↦ subst (λ m. IsClaimed (next_of x (Close by Append g (Deposit note))) m) is
          (record {
            claim = own_range by g note a;
            tables_are_there = a.row.1.tables_are_there;
            whole = whole;
          })
    ];
    in_order = keeps_order by g note a;
  }
  keeps_notes (Close by Write g (Deposit note)) a whole = absurd a.row.1
  keeps_notes (Close by order g Nothing) a whole = record {
    each = λ n h. is_claimed_still (Close by order g Nothing) n (notes.each n h);
    in_order = notes.in_order;
  }
  keeps_notes (Close by order g (Applied places)) a whole = record {
    each = λ n h. is_claimed_still (Close by order g (Applied places)) n (notes.each n h);
    in_order = notes.in_order;
  }
  keeps_notes e a whole = record {
    each = λ n h. is_claimed_still e n (notes.each n h);
    in_order = notes.in_order;
  }
