-- What a lawful state tells of counts, groups, claims and notes, where a step wants it.
use Rattle.std.proofs.Common.{◌≡◌, ℕ, suc, ◌^◌, ◌<◌, ◌≤◌, true, List, [], ◌∷◌, length, Some, None}
use Rattle.std.proofs.Common.{refl, sym, ap, ◌∙◌, arith, length-append}
use Rattle.std.specs.Prelude.{◌++◌}
use Rattle.std.proofs.lemmas.List.{get_or_append_left, get_or_push}
use Rattle.std.specs.List.{Contains, filter}
use mathlib.Core.Logic.{dite}
use native.Mathlib.Decide.{dec_lt, dec_le}
use Rattle.op_core.specs.Tallies.{running_of}
use Rattle.op_core.specs.declared.count.Order.{Order}
use Rattle.op_core.specs.declared.count.Order.TheVariants.{Write, Append}
use Rattle.op_core.specs.declared.count.Tally.{Tally}
use Rattle.op_core.specs.declared.count.Tally.TheVariants.{Open}
use Rattle.path_core.specs.declared.event.Event.TheVariants.{Look}
use Rattle.path_core.specs.declared.event.Place.TheVariants.{Current, Oldest}
use Rattle.path_core.specs.declared.note.EntryNote.{EntryNote}
use Rattle.path_core.specs.declared.seat.Issue.{Issue}
use Rattle.path_core.specs.declared.seat.Issue.TheVariants.{Rest, Opened, Moved}
use Rattle.path_core.specs.declared.state.Claim.{Claim as ClaimOf}
use Rattle.path_core.specs.declared.state.PathState.{PathState}
use Rattle.path_core.specs.Lawful.{IsLawfulPath}
use Rattle.path_core.specs.LawfulLog.{is_at_most}
use Rattle.path_core.specs.LawfulOrders.{made_at}
use Rattle.path_core.specs.LawfulSeats.{GroupsKnown}
use Rattle.path_core.specs.Parts.{groups_of, tally_of, seat_of, found_of, group_in, no_claim}
use Rattle.path_core.specs.Words.{reading}
use Rattle.path_core.proofs.frame.Seats.{current_is_made, some_left, group_made}
use Rattle.path_core.proofs.lists.Inserted.{map_from}
use Rattle.path_core.proofs.lists.Passing.{filter_from}
use Rattle.path_rule.specs.declared.slot.Slot.{Slot}
use Rattle.path_rule.specs.declared.slot.Slot.TheVariants.{Notes, Turn}
use Rattle.path_rule.specs.declared.view.Role.{Role}
use Rattle.path_rule.specs.declared.view.Role.TheVariants.{Steps}
use Rattle.path_rule.specs.declared.view.View.{View}
use Rattle.path_rule.specs.Layout.{word_for}
use Rattle.path_rule.specs.Rule.{Was}
use Rattle.path_rule.proofs.boxes.HandsStay.{SameBarriers}
use Rattle.path_rule.proofs.log.Lending.{lasting_ends}
use Rattle.path_rule.proofs.moves.Moving.{was}

pub same_seat : (ρ : Role) (w z : ℕ) → ρ ≡ Steps w → ρ ≡ Steps z → w ≡ z
same_seat ρ w z a b = let e : Steps w ≡ Steps z = sym a ∙ b in cc

-- the number of a group that was found as current fits its word
pub current_below : (v : View) (w n : ℕ) (o : Order) (was : Was v w (Look w (Current o)))
    → word_for (Current o) (reading was.core (Current o)) ≡ n → n < 2 ^ 47
current_below v w n o was e = let more = current_is_made was.core was.lawful o in
    let rows = was.rows.groups o in omega arith

pub oldest_below : (v : View) (w n : ℕ) (o : Order) (was : Was v w (Look w (Oldest o)))
    → word_for (Oldest o) (reading was.core (Oldest o)) ≡ n → n < 2 ^ 47
oldest_below v w n o was e = let more = current_is_made was.core was.lawful o in
    let rows = was.rows.groups o in let old = (was.lawful.orders.made_groups o).oldest in
    omega arith

-- the group in which a seat is, is not above the current one
pub group_low : (x : PathState) → IsLawfulPath x → (o : Order) (w g : ℕ)
    → group_in o (seat_of x w) ≡ Some g → g ≤ (groups_of x o).current
group_low x L o w g is = by L.orders.issue o refl (group_made x L o w g is)
    (L.orders.made_groups o).made (some_left x L o w g is)
    ((L.orders.counts_stand_for_seats o).each g).opened
  where
    none_in : (k : Tally) → k ≡ Open 0 → 0 < running_of k → ⊥
    none_in k e more = let z = ap running_of e in absurd (omega arith)

    by : (i : Issue) (o : Order) → L.orders.issue ≡ i → g < length (groups_of x o).tallies
        → length (groups_of x o).tallies ≡ made_at i o (groups_of x o).current
        → 0 < running_of (tally_of x o g)
        → (i ≡ Opened o → g ≡ suc (groups_of x o).current → tally_of x o g ≡ Open 0)
        → g ≤ (groups_of x o).current
    by Rest o e made long more opened = omega arith
    by (Moved p) o e made long more opened = omega arith
    by (Opened Write) Append e made long more opened = omega arith
    by (Opened Append) Write e made long more opened = omega arith
    by (Opened Write) Write e made long more opened =
        dite (dec_le g x.write.current) (λ l. l)
        (λ n. absurd (none_in _ (opened refl (omega arith)) more))
    by (Opened Append) Append e made long more opened =
        dite (dec_le g x.append.current) (λ l. l)
        (λ n. absurd (none_in _ (opened refl (omega arith)) more))

-- the note that was put last
abbrev pub tail_of : {A : Type 0} → List A → List A
tail_of [] = []
tail_of (x ∷ xs) = xs

pub last_same : {A : Type 0} (l : List A) (a b : A) → l ++ a ∷ [] ≡ l ++ b ∷ [] → a ≡ b
last_same [] a b e = let q : a ∷ [] ≡ b ∷ [] = e in cc
last_same (x ∷ xs) a b e = last_same xs a b (ap tail_of e)

abbrev pub notes_first : {K : Type 0} → List (ℕ × Slot K) → List EntryNote
notes_first [] = []
notes_first ((b, Notes l) ∷ cs) = l
notes_first ((b, Turn d) ∷ cs) = []

-- a claim brings no barrier
pub claim_bars : (claims : List ClaimOf) (c : ClaimOf) → c.barrier ≡ None
    → SameBarriers claims (claims ++ c ∷ [])
claim_bars claims c none_yet i h l mark bar = dite (dec_lt i (length claims))
    (λ k. (k, sym (get_or_append_left claims (c ∷ []) no_claim i k)))
    (λ n. absurd (let long = length-append claims (c ∷ []) in
    let at : i ≡ length claims = omega arith in
    let q : Some h ≡ None = sym bar ∙ (ap (λ (d : ClaimOf). d.barrier)
    (get_or_push claims c no_claim i (sym at)) ∙ none_yet) in cc))

-- what is lasting is the end of a note, at or below the synced key
pub lasting_note : (x : PathState) (k : ℕ) → Contains (lasting_ends x) k
    → (n : EntryNote) × Contains x.notes n × (n.end.0 ≡ k) × (is_at_most x.synced n ≡ true)
lasting_note x k h = let t = map_from (λ (n : EntryNote). n.end.0)
    (filter (is_at_most x.synced) x.notes) k h in
    let f = filter_from (is_at_most x.synced) x.notes t.0 t.1 in (t.0, f.0, t.2, f.1)

pub known_groups : (x : PathState) → IsLawfulPath x → (o : Order) (w : ℕ)
    → GroupsKnown x o (found_of o (seat_of x w))
known_groups x L Write w = (L.seats_know w).words.write
known_groups x L Append w = (L.seats_know w).words.append
