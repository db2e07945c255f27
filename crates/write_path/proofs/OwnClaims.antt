-- What a seat claimed, as its steps tell it: where its claims of entries end, and that each of its
-- notes was claimed by one of them.
use Rattle.std.proofs.Common.{◌≡◌, ◌≢◌, ◌⊎◌, ℕ, zero, suc, ◌≤◌, ◌==◌, cond, Bool, true, false, List}
use Rattle.std.proofs.Common.{[], ◌∷◌, ◌++◌, Some, refl, sym, ap, ◌∙◌, subst, ⊎_elim, arith}
use Rattle.std.proofs.Common.{get_or-set_same}
use Rattle.std.specs.List.{Contains}
use Rattle.std.proofs.lemmas.List.Elements.{Contains-append_cases}
use Rattle.std.proofs.lemmas.Option.{none-some, same_Some}
use mathlib.Core.Logic.{dite, inl, inr}
use native.Mathlib.Decide.{ℕ_discrete}
use Rattle.op_core.specs.declared.count.Order.TheVariants.{Write, Append}
use Rattle.path_core.specs.declared.event.Carried.TheVariants.{Nothing, Deposit, Applied}
use Rattle.path_core.specs.declared.event.ClaimKind.TheVariants.{Entry, Marker}
use Rattle.path_core.specs.declared.event.Event.{Event}
use Rattle.path_core.specs.declared.event.Event.TheVariants.{Close, Claim}
use Rattle.path_core.specs.declared.note.EntryNote.{EntryNote}
use Rattle.path_core.specs.declared.seat.Range.{Range}
use Rattle.path_core.specs.declared.state.Claim.{Claim as ClaimOf}
use Rattle.path_core.specs.declared.state.PathState.{PathState}
use Rattle.path_core.specs.Allowed.{IsStep}
use Rattle.path_core.specs.Keys.{claimed_size}
use Rattle.path_core.specs.Lawful.{IsLawfulPath}
use Rattle.path_core.specs.LawfulLog.{entry_claim}
use Rattle.path_core.specs.Next.{next_of}
use Rattle.path_core.specs.Parts.{fresh_seat, seat_of}
use Rattle.path_core.specs.Runs.{Past}
use Rattle.path_core.specs.Words.{by_of}
use Rattle.path_core.proofs.frame.Words.{columns, other_seat}
use Rattle.path_core.proofs.lists.Inserted.{insert_new}
use Rattle.path_core.proofs.log.KeepsOwned.{ClaimedNow, claims_were}
use Rattle.path_core.proofs.log.LogGrows.{claimed_above, log_grows}
use Rattle.path_core.proofs.log.OwnNotes.{notes_stay}
use Rattle.path_core.proofs.runs.EveryRun.{past_lawful}
use Rattle.path_core.proofs.seats.Columns.{claim_after, own_after}
use Rattle.path_rule.specs.Rule.{steps_by}
use Rattle.path_rule.proofs.log.Marks.{starts_above}
use Rattle.path_rule.proofs.log.Issues.{steps_other, steps_own}
use Rattle.write_path.specs.Ends.{IsLast}
use Rattle.write_path.proofs.Histories.{note_in, noted}

-- ---- what a seat claimed before its last write ends at or below that write's end

-- each of these claims of entries ends at or below a key
abbrev pub ClaimTo : ℕ → Event → Type 0
ClaimTo key (Claim by from to Entry) = to.0 ≤ key
ClaimTo key _ = Unit {0}

abbrev pub ClaimsTo : ℕ → List Event → Type 0
ClaimsTo key [] = Unit {0}
ClaimsTo key (e ∷ es) = ClaimTo key e × ClaimsTo key es

claims_more : (k l : ℕ) → k ≤ l → (es : List Event) → ClaimsTo k es → ClaimsTo l es
claims_more k l up [] A = tt
claims_more k l up (e ∷ es) A = (one e A.0, claims_more k l up es A.1)
  where
    one : (e : Event) → ClaimTo k e → ClaimTo l e
    one (Claim by from to Entry) c = omega arith
    one (Claim by from to Marker) c = tt
    one e c = tt

-- At each moment the claims so far end at or below the end of the write that was the last then.
abbrev pub LastEndsThem : List Event → Type 0
LastEndsThem [] = Unit {0}
LastEndsThem (e ∷ es) =
    ((n : EntryNote) → IsLast n (e ∷ es) → ClaimsTo n.end.0 (e ∷ es)) × LastEndsThem es

pub of_last : (es : List Event) → LastEndsThem es → (n : EntryNote) → IsLast n es
    → ClaimsTo n.end.0 es
of_last [] E n last = absurd last
of_last (e ∷ es) E n last = E.0 n last

pub older_end : (ls rs : List Event) → LastEndsThem (ls ++ rs) → LastEndsThem rs
older_end [] rs E = E
older_end (e ∷ ls) rs E = older_end ls rs E.1

-- of seat w, whose steps these are among all
pub record ClaimsEnd (w : ℕ) (es : List Event) (x : PathState) : Type 0 where
  pub low : ClaimsTo x.log (steps_by w es)
  pub own : (r : Range) → (seat_of x w).claim ≡ Some r → ClaimsTo r.end (steps_by w es)
  pub lasts : LastEndsThem (steps_by w es)

module _ (x : PathState) (L : IsLawfulPath x) (e : Event) (a : IsStep x e) (es : List Event) where
  up : x.log ≤ (next_of x e).log
  up = log_grows x L.sized L.claims_tile_the_log e a

  own_now : seat_of (next_of x e) (by_of e) ≡ own_after x e
  own_now = get_or-set_same x.seats (by_of e) (own_after x e) fresh_seat a.seat

  abbrev old : List Event
  old = steps_by (by_of e) es

  module _ (C : ClaimsEnd (by_of e) es x) where
    head_low : (e : Event) → ClaimTo (next_of x e).log e
    head_low (Claim by from to Entry) = omega arith
    head_low (Claim by from to Marker) = tt
    head_low e = tt

    claimed : (e : Event) → IsStep x e → (l : List Event) → ClaimsTo x.log l
        → ((r : Range) → (seat_of x (by_of e)).claim ≡ Some r → ClaimsTo r.end l) → (r : Range)
        → claim_after (seat_of x (by_of e)).claim e ≡ Some r → ClaimsTo r.end (e ∷ l)
    claimed (Claim by from to Entry) a l low own r h =
        let ends = ap (λ (q : Range). q.end) (same_Some _ r h) in
        let above = claimed_above x L.sized L.claims_tile_the_log by from to a in
        ((omega arith), claims_more x.log r.end (omega arith) l low)
    claimed (Claim by from to Marker) a l low own r h = (tt, own r h)
    claimed (Close by Write g carried) a l low own r h = absurd (none-some r h)
    claimed (Close by Append g carried) a l low own r h = (tt, own r h)
    claimed e a l low own r h = (tt, own r h)

    last_now : (e : Event) → IsStep x e → (l : List Event) → LastEndsThem l
        → ((r : Range) → (seat_of x (by_of e)).claim ≡ Some r → ClaimsTo r.end l)
        → (n : EntryNote) → IsLast n (e ∷ l) → ClaimsTo n.end.0 (e ∷ l)
    last_now (Close by Append g (Deposit note)) a l E own n last = (
      tt,
      subst (λ (k : EntryNote). ClaimsTo k.end.0 l) last (own _ a.row.1.range),
    )
    last_now (Close by Write g (Deposit note)) a l E own n last = absurd a.row.1
    last_now (Close by o g Nothing) a l E own n last = (tt, of_last l E n last)
    last_now (Close by o g (Applied places)) a l E own n last = (tt, of_last l E n last)
    last_now (Claim by from to Entry) a l E own n last = absurd last
    last_now (Claim by from to Marker) a l E own n last = (tt, of_last l E n last)
    last_now e a l E own n last = (tt, of_last l E n last)

    own_ends : ClaimsEnd (by_of e) (e ∷ es) (next_of x e)
    own_ends = let is = sym (steps_own (by_of e) es e refl) in record {
      low = subst (λ l. ClaimsTo (next_of x e).log l) is
          (head_low e, claims_more x.log (next_of x e).log up old C.low);
      own = λ r h. subst (λ l. ClaimsTo r.end l) is (claimed e a old C.low C.own r
          (sym (columns x L e a).claim ∙ (sym (ap (λ s. s.claim) own_now) ∙ h)));
      lasts = subst LastEndsThem is (last_now e a old C.lasts C.own, C.lasts);
    }

  other_ends : (w : ℕ) → by_of e ≢ w → ClaimsEnd w es x → ClaimsEnd w (e ∷ es) (next_of x e)
  other_ends w apart C = let is = sym (steps_other w es e apart) in record {
    low = subst (λ l. ClaimsTo (next_of x e).log l) is
        (claims_more x.log (next_of x e).log up (steps_by w es) C.low);
    own = λ r h. subst (λ l. ClaimsTo r.end l) is (C.own r
        (sym (ap (λ s. s.claim) (other_seat x e w (λ q. apart (sym q)))) ∙ h));
    lasts = subst LastEndsThem is C.lasts;
  }

  step_ends : (w : ℕ) → ClaimsEnd w es x → ClaimsEnd w (e ∷ es) (next_of x e)
  step_ends w C = dite (ℕ_discrete (by_of e) w)
      (λ same. subst (λ z. ClaimsEnd z (e ∷ es) (next_of x e)) same
      (own_ends (subst (λ z. ClaimsEnd z es x) (sym same) C)))
      (λ apart. other_ends w apart C)

pub claims_end : (w : ℕ) (es : List Event) (start x : PathState) → IsLawfulPath start
    → Past start es x → ClaimsEnd w es x
claims_end w [] start x law past =
    record { low = tt; own = λ r h. tt; lasts = tt }
claims_end w (e ∷ es) start x law past = subst (λ y. ClaimsEnd w (e ∷ es) y) past.4
    (step_ends past.0 (past_lawful es start past.0 law past.1) e past.3 es w
    (claims_end w es start past.0 law past.1))

-- ---- a note's claim is among its seat's steps

abbrev pub ClaimsNote : EntryNote → Event → Type 0
ClaimsNote m (Claim by from to Entry) = (from.0 ≤ m.start.0) × (to.0 ≡ m.end.0)
ClaimsNote m _ = ⊥

abbrev pub HasClaim : EntryNote → List Event → Type 0
HasClaim m [] = ⊥
HasClaim m (e ∷ es) = ClaimsNote m e ⊎ HasClaim m es

has_more : (m : EntryNote) (w : ℕ) (e : Event) (es : List Event) → HasClaim m (steps_by w es)
    → HasClaim m (steps_by w (e ∷ es))
has_more m w e es H = by (by_of e == w)
  where
    by : (b : Bool) → HasClaim m (cond b (e ∷ steps_by w es) (steps_by w es))
    by true = inr H
    by false = H

claims_it : (m : EntryNote) (x : PathState) (e : Event) → IsStep x e
    → ClaimedNow x e (entry_claim m.writer.0 m.start.0 m.end.0)
    → (by_of e ≡ m.writer.0) × ClaimsNote m e
claims_it m x (Claim by from to Entry) a is =
    let starts = ap (λ (c : ClaimOf). c.start) is in let ends = ap (λ (c : ClaimOf). c.end) is in
    let size = claimed_size from.0 to.0 in let sum = a.row.4.2 in
    let above = starts_above x.capacity from.0 size in
    (ap (λ (c : ClaimOf). c.by) is, (omega arith, ends))
claims_it m x (Claim by from to Marker) a is = absurd is
claims_it m x e a is = absurd is

pub claim_made : (m : EntryNote) (es : List Event) (start x : PathState) → start.claims ≡ []
    → Past start es x → Contains x.claims (entry_claim m.writer.0 m.start.0 m.end.0)
    → HasClaim m (steps_by m.writer.0 es)
claim_made m [] start x none past h = absurd (let l = (subst (λ l. Contains l
    (entry_claim m.writer.0 m.start.0 m.end.0)) (ap (λ (y : PathState). y.claims) (sym past)
    ∙ none) h).1 in omega arith)
claim_made m (e ∷ es) start x none past h =
    ⊎_elim (λ old. has_more m m.writer.0 e es (claim_made m es start past.0 none past.1 old))
    (λ now. let C = claims_it m past.0 e past.3 now in
    subst (HasClaim m) (sym (steps_own m.writer.0 es e C.0)) (inl C.1))
    (claims_were past.0 e (entry_claim m.writer.0 m.start.0 m.end.0) refl
    (subst (λ (y : PathState). Contains y.claims (entry_claim m.writer.0 m.start.0 m.end.0))
    (sym past.4) h))

-- what a seat deposited is among the notes, as its own
deposited_now : (m : EntryNote) (x : PathState) (e : Event) → IsStep x e
    → Contains (note_in e) m → Contains (next_of x e).notes m × (m.writer.0 ≡ by_of e)
deposited_now m x (Close by Append g (Deposit note)) a h =
    let is : note ≡ m = only note m h in (
      subst (λ (n : EntryNote). Contains (next_of x (Close by Append g (Deposit note))).notes n) is
          (insert_new x.notes _ note),
      sym (ap (λ (n : EntryNote). n.writer.0) is) ∙ a.row.1.writer,
    )
  where
    only : (a b : EntryNote) → Contains (a ∷ []) b → a ≡ b
    only a b (zero, l, e) = e
    only a b (suc i, l, e) = absurd (omega arith)
deposited_now m x (Close by Write g (Deposit note)) a h = absurd a.row.1
deposited_now m x e a h = absurd (let l = h.1 in omega arith)

pub own_noted : (m : EntryNote) (w : ℕ) (es : List Event) (start x : PathState) → Past start es x
    → Contains (noted (steps_by w es)) m → Contains x.notes m × (m.writer.0 ≡ w)
own_noted m w [] start x past h = absurd (let l = h.1 in omega arith)
own_noted m w (e ∷ es) start x past h = subst (λ (y : PathState). Contains y.notes m
    × (m.writer.0 ≡ w)) past.4 (dite (ℕ_discrete (by_of e) w)
    (λ same. ⊎_elim
    (λ now. let D = deposited_now m past.0 e past.3 now in (D.0, D.1 ∙ same))
    (λ older. still (own_noted m w es start past.0 past.1 older))
    (Contains-append_cases (note_in e) (noted (steps_by w es)) m
    (subst (λ l. Contains (noted l) m) (steps_own w es e same) h)))
    (λ apart. still (own_noted m w es start past.0 past.1
    (subst (λ l. Contains (noted l) m) (steps_other w es e apart) h))))
  where
    still : Contains past.0.notes m × (m.writer.0 ≡ w)
        → Contains (next_of past.0 e).notes m × (m.writer.0 ≡ w)
    still O = (notes_stay past.0 e m O.0, O.1)
