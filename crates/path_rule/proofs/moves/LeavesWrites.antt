-- Which steps leave what the boxes of memtables are told by: a seat's claim and its note, what is
-- placed, and the boxes themselves.
use Rattle.std.proofs.Common.{◌≡◌, ◌≢◌, ℕ, suc, ◌<◌, ◌≤◌, true, List, [], ◌∷◌, Option, refl, sym}
use Rattle.std.proofs.Common.{ap, ◌∙◌, subst, arith, get_or-set_same, get_or-set_other}
use Rattle.std.specs.Prelude.{◌&&◌, ◌==◌, ◌⊎◌, not}
use Rattle.std.specs.List.{list_any}
use Rattle.std.proofs.lemmas.Bool.{and_from, eq-eqb, false≢true}
use mathlib.Core.Logic.{dite, inl, inr}
use native.Mathlib.Decide.{ℕ_discrete}
use mathlib.Core.Option as maybe
use lib.ListN.{get_elem?}
use Rattle.std.specs.List.{Contains}
use Rattle.std.proofs.lemmas.List.Elements.{Contains-append_left}
use Rattle.atomic_table.proofs.Lists.{set_else}
use Rattle.atomic_table.specs.Table.{Act, keeps, takes, gives, chain, carried_after, homes_after}
use Rattle.clog_base.specs.declared.cell.Table.{Table}
use Rattle.op_core.specs.declared.count.Order.TheVariants.{Write, Append}
use Rattle.path_core.specs.declared.event.Carried.TheVariants.{Nothing, Deposit, Applied}
use Rattle.path_core.specs.declared.event.ClaimKind.TheVariants.{Entry, Marker}
use Rattle.path_core.specs.declared.event.Cursor.TheVariants.{Synced, OldestLive, Stopped}
use Rattle.path_core.specs.declared.event.Event.{Event}
use Rattle.path_core.specs.declared.event.Event.TheVariants.{Look, Register, Close, OpenGroup}
use Rattle.path_core.specs.declared.event.Event.TheVariants.{MoveCurrent, Expire, Advance, Claim}
use Rattle.path_core.specs.declared.event.Event.TheVariants.{Switch, Raise, Finalise, TakeTurn}
use Rattle.path_core.specs.declared.event.Event.TheVariants.{GiveTurn, Put}
use Rattle.path_core.specs.declared.event.SwitchPart.TheVariants.{Clear, Mark, Open}
use Rattle.path_core.specs.declared.event.Turn.TheVariants.{Flush}
use Rattle.path_core.specs.declared.seat.Range.{Range}
use Rattle.path_core.specs.declared.state.PathState.{PathState}
use Rattle.path_core.specs.declared.state.Placed.{Placed}
use Rattle.path_core.specs.declared.state.TableState.{TableState}
use Rattle.path_core.specs.Allowed.{IsStep}
use Rattle.path_core.specs.Next.{next_of, placed_after}
use Rattle.path_core.specs.Parts.{fresh_table, has_place, is_empty, is_placed_in, table_of}
use Rattle.path_core.proofs.frame.Tables.{live_left}
use Rattle.path_core.proofs.lists.Passing.{any_from}
use Rattle.path_core.proofs.seats.Columns.{claim_after, note_after}
use Rattle.path_rule.specs.declared.view.Hands.{Hands}
use Rattle.path_rule.specs.Switches.{ReadsNone}
use Rattle.path_rule.proofs.seats.PlaceStays.{LeavesPlaces}

-- The step neither claims an entry nor deposits it, nor closes its write.
abbrev pub LeavesWrite : Event → Type 0
LeavesWrite (Close by Write g carried) = ⊥
LeavesWrite (Close by Append g (Deposit note)) = ⊥
LeavesWrite (Claim by from to Entry) = ⊥
LeavesWrite _ = Unit {0}

-- What the seat reads of a memtable is as it was: where it gives the Flush turn of a table back, it
-- reads none of that table.
abbrev pub LeavesReading : Hands → Event → Type 0
LeavesReading h (GiveTurn by (Flush t)) = ReadsNone t.0 h
LeavesReading h (Put by (OldestLive t) value) = ⊥
LeavesReading h _ = Unit {0}

pub note_left : (kept : Option ℕ) (e : Event) → LeavesWrite e → note_after kept e ≡ kept
note_left kept (Close by Write g carried) leaves = absurd leaves
note_left kept (Close by Append g (Deposit note)) leaves = absurd leaves
note_left kept (Close by Append g Nothing) leaves = refl
note_left kept (Close by Append g (Applied places)) leaves = refl
note_left kept (Claim by from to Entry) leaves = absurd leaves
note_left kept (Claim by from to Marker) leaves = refl
note_left kept e leaves = refl

pub claim_left : (claim : Option Range) (e : Event) → LeavesWrite e → claim_after claim e ≡ claim
claim_left claim (Close by Write g carried) leaves = absurd leaves
claim_left claim (Close by Append g (Deposit note)) leaves = absurd leaves
claim_left claim (Close by Append g Nothing) leaves = refl
claim_left claim (Close by Append g (Applied places)) leaves = refl
claim_left claim (Claim by from to Entry) leaves = absurd leaves
claim_left claim (Claim by from to Marker) leaves = refl
claim_left claim e leaves = refl

pub placed_left : (x : PathState) (e : Event) → LeavesWrite e → placed_after x e ≡ x.placed
placed_left x (Close by Write g carried) leaves = absurd leaves
placed_left x (Close by Append g carried) leaves = refl
placed_left x e leaves = refl

-- what was placed stays
pub placed_stays : (x : PathState) (e : Event) (p : Placed) → Contains x.placed p
    → Contains (next_of x e).placed p
placed_stays x (Close by Write g (Applied places)) p h = Contains-append_left x.placed _ p h
placed_stays x (Close by Write g (Deposit note)) p h = h
placed_stays x (Close by Write g Nothing) p h = h
placed_stays x (Close by Append g carried) p h = h
placed_stays x e p h = h

-- a step that leaves the write leaves its places
pub leaves_places : (e : Event) → LeavesWrite e → LeavesPlaces e
leaves_places (Close by Write g carried) leaves = leaves
leaves_places (Close by Append g carried) leaves = tt
leaves_places e leaves = tt

-- The step retires no memtable of the table.
abbrev pub LeavesLive : ℕ → Event → Type 0
LeavesLive t (Put by (OldestLive u) value) = t ≢ u.0
LeavesLive t _ = Unit {0}

pub live_still : (x : PathState) (e : Event) → IsStep x e → (t : ℕ) → LeavesLive t e
    → (table_of (next_of x e) t).oldest_live ≡ (table_of x t).oldest_live
live_still x e a t leaves = by e a leaves
  where
    at : Table
    at = record { 0 = t }

    by : (e : Event) → IsStep x e → LeavesLive t e
        → (table_of (next_of x e) t).oldest_live ≡ (table_of x t).oldest_live
    by (Look w p) a leaves = refl
    by (Register w o g) a leaves = refl
    by (Close w o g carried) a leaves = refl
    by (OpenGroup w o g) a leaves = refl
    by (MoveCurrent w o g) a leaves = live_left x (MoveCurrent w o g) a at (λ q. absurd cc)
    by (Expire w o g) a leaves = refl
    by (Advance w o g) a leaves = refl
    by (Claim w from to what) a leaves = refl
    by (Switch w u m Clear) a leaves = refl
    by (Switch w u m Open) a leaves = live_left x (Switch w u m Open) a at (λ q. absurd cc)
    by (Switch w u m Mark) a leaves = live_left x (Switch w u m Mark) a at (λ q. absurd cc)
    by (Raise w u m to) a leaves = live_left x (Raise w u m to) a at (λ q. absurd cc)
    by (Finalise w u m) a leaves = live_left x (Finalise w u m) a at (λ q. absurd cc)
    by (TakeTurn w turn) a leaves = refl
    by (GiveTurn w turn) a leaves = refl
    by (Put w Synced value) a leaves = refl
    by (Put w Stopped value) a leaves = refl
    by (Put w (OldestLive u) value) a leaves = ap (λ (tb : TableState). tb.oldest_live)
        (get_or-set_other x.tables u.0 t _ fresh_table leaves)

-- A step that leaves what the seat reads retires no memtable.
pub leaves_live : (h : Hands) (e : Event) → LeavesReading h e → (t : ℕ) → LeavesLive t e
leaves_live h (Put by (OldestLive u) value) leaves t = absurd leaves
leaves_live h (Put by Synced value) leaves t = tt
leaves_live h (Put by Stopped value) leaves t = tt
leaves_live h e leaves t = tt

-- A step retires no memtable of the table, or the least of it.
pub live_moves : (x : PathState) (e : Event) → IsStep x e → (t : ℕ)
    → ((table_of (next_of x e) t).oldest_live ≡ (table_of x t).oldest_live)
    ⊎ ((table_of (next_of x e) t).oldest_live ≡ suc (table_of x t).oldest_live)
live_moves x (Put w (OldestLive u) value) a t = dite (ℕ_discrete t u.0)
    (λ same. inr (subst (λ (k : ℕ).
    (table_of (next_of x (Put w (OldestLive u) value)) k).oldest_live
    ≡ suc (table_of x k).oldest_live) (sym same) (ap (λ (tb : TableState). tb.oldest_live)
    (get_or-set_same x.tables u.0 _ fresh_table a.is_there) ∙ a.row.1)))
    (λ apart. inl (live_still x (Put w (OldestLive u) value) a t apart))
live_moves x (Put w Synced value) a t = inl refl
live_moves x (Put w Stopped value) a t = inl refl
live_moves x e a t = inl (live_still x e a t tt)

-- where it retires none of any table, the files stay
pub files_left : (x : PathState) (h : Hands) (e : Event) → LeavesReading h e
    → (next_of x e).files ≡ x.files
files_left x h (Put by (OldestLive t) value) leaves = absurd leaves
files_left x h (Put by Synced value) leaves = refl
files_left x h (Put by Stopped value) leaves = refl
files_left x h e leaves = refl

-- a memtable in which something was placed is not empty
pub not_empty : (x : PathState) (t m entry : ℕ)
    → Contains x.placed (record { table = t; entry = entry; memtable = m })
    → is_empty x t m ≡ true → ⊥
not_empty x t m entry h empty = false≢true (sym (ap (λ b. not b
    && not (list_any (has_place t m) x.seats))
    (any_from (is_placed_in t m) x.placed (record { table = t; entry = entry; memtable = m }) h
    (and_from (t == t) (m == m) (eq-eqb t t refl) (eq-eqb m m refl)))) ∙ empty)

-- The box that was taken last is below a number.
abbrev pub FirstBelow : {S : Type 0} → ℕ → List (ℕ × S) → Type 0
FirstBelow n [] = Unit {0}
FirstBelow n (c ∷ cs) = c.0 < n

-- Each box that moves is.
abbrev pub MovesBelow : {S : Type 0} → ℕ → List (ℕ × S) → Act S → Type 0
MovesBelow n cs keeps = Unit {0}
MovesBelow n cs (takes k y) = k < n
MovesBelow n cs gives = FirstBelow n cs
MovesBelow n cs (chain a b) = MovesBelow n cs a × MovesBelow n (carried_after cs a) b

pub same_above : {S : Type 0} (n : ℕ) (homes : List (maybe.Option S)) (cs : List (ℕ × S))
    (a : Act S) → MovesBelow n cs a → (b : ℕ) → n ≤ b
    → get_elem? (homes_after homes cs a) b ≡ get_elem? homes b
same_above n homes cs keeps below b above = refl
same_above n homes cs (takes k y) below b above =
    set_else homes k b maybe.none (λ e. absurd (omega arith))
same_above n homes [] gives below b above = refl
same_above n homes (c ∷ cs) gives below b above =
    set_else homes c.0 b (maybe.some c.1) (λ e. absurd (omega arith))
same_above n homes cs (chain f g) below b above =
    same_above n (homes_after homes cs f) (carried_after cs f) g below.1 b above
    ∙ same_above n homes cs f below.0 b above
