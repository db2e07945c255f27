-- The words of a new table: the log is at its first key, and all else reads 0.
use Rattle.std.proofs.Common.{◌≡◌, ◌≢◌, ℕ, zero, suc, ◌||◌, Bool, false, [], ◌∷◌, get_or, replicate}
use Rattle.std.proofs.Common.{is_some, refl, sym, ap, ◌∙◌, subst, arith, get_or-set_same}
use Rattle.std.proofs.Common.{get_or-set_other}
use Rattle.std.specs.Prelude.{slice_index, if◌then◌else◌}
use Rattle.std.proofs.lemmas.List.{length-replicate}
use Rattle.std.specs.List.{list_any}
use mathlib.Core.Logic.{dite}
use native.Mathlib.Decide.{ℕ_discrete}
use Rattle.op_core.specs.declared.count.Order.TheVariants.{Write, Append}
use Rattle.path_core.specs.declared.event.Cursor.TheVariants.{Synced, OldestLive, Stopped}
use Rattle.path_core.specs.declared.event.Place.{Place}
use Rattle.path_core.specs.declared.event.Place.TheVariants.{Count, Current, Oldest, Log, Newest}
use Rattle.path_core.specs.declared.event.Place.TheVariants.{Bound, TurnWord, CursorWord}
use Rattle.path_core.specs.declared.event.Reading.TheVariants.{Limit}
use Rattle.path_core.specs.declared.event.Turn.{Turn as TurnOf}
use Rattle.path_core.specs.declared.event.Turn.TheVariants.{Sync, Flush}
use Rattle.path_core.specs.declared.seat.Seat.{Seat}
use Rattle.path_core.specs.declared.seat.SeatTable.{SeatTable}
use Rattle.path_core.specs.declared.state.TableState.{TableState}
use Rattle.path_core.specs.Parts.{fresh_seat, fresh_table, fresh_memtable, untouched, table_of}
use Rattle.path_core.specs.Parts.{holds_turn}
use Rattle.path_core.specs.Words.{reading}
use Rattle.path_rule.specs.declared.view.PathSize.{PathSize}
use Rattle.path_rule.specs.Layout.{word_at, IsShown, word_for, word_of, first_words}
use Rattle.path_core.proofs.runs.EveryRun.{opening_lawful}
use Rattle.path_rule.specs.Rule.{start_of, IsFit}
use Rattle.path_rule.proofs.places.SamePlace.{same_place}

pub same_all : {A : Type 0} (n i : ℕ) (a : A) → get_or (replicate n a) i a ≡ a
same_all zero i a = refl
same_all (suc n) zero a = refl
same_all (suc n) (suc i) a = same_all n i a

none_of : {A : Type 0} (p : A → Bool) (n : ℕ) (a : A) → p a ≡ false
    → list_any p (replicate n a) ≡ false
none_of p zero a e = refl
none_of p (suc n) a e = ap (λ (b : Bool). b || list_any p (replicate n a)) e ∙ none_of p n a e

pub fresh_holds : (turn : TurnOf) → holds_turn fresh_seat turn ≡ false
fresh_holds Sync = refl
fresh_holds (Flush t) = ap (λ (st : SeatTable). is_some st.flush) (same_all 16 t.0 untouched)

module _ (size : PathSize) where
  fresh_tables : (t : ℕ) → table_of (start_of size) t ≡ fresh_table
  fresh_tables t = same_all size.tables t fresh_table

  first_tables : (t : ℕ) (f : TableState → ℕ) → f fresh_table ≡ 0
      → f (table_of (start_of size) t) ≡ 0
  first_tables t f e = ap f (fresh_tables t) ∙ e

  zero_read : (p : Place) → IsShown (start_of size) p → p ≢ Log
      → word_for p (reading (start_of size) p) ≡ 0
  zero_read Log l n = absurd (n refl)
  zero_read (Current Write) l n = refl
  zero_read (Current Append) l n = refl
  zero_read (Oldest Write) l n = refl
  zero_read (Oldest Append) l n = refl
  zero_read (Count Write zero) l n = refl
  zero_read (Count Append zero) l n = refl
  zero_read (Count Write (suc g)) l n = absurd (let low = l.0 in omega arith)
  zero_read (Count Append (suc g)) l n = absurd (let low = l.0 in omega arith)
  zero_read (CursorWord Synced) l n = refl
  zero_read (CursorWord Stopped) l n = refl
  zero_read (CursorWord (OldestLive t)) l n = first_tables t.0 (λ x. x.oldest_live) refl
  zero_read (Newest t) l n = first_tables t.0 (λ x. x.newest) refl
  zero_read (TurnWord Sync) l n = ap (λ (b : Bool). if b then 1 else 0)
      (none_of (λ (s : Seat). holds_turn s Sync) size.seats fresh_seat (fresh_holds Sync))
  zero_read (TurnWord (Flush t)) l n = ap (λ (b : Bool). if b then 1 else 0)
      (none_of (λ (s : Seat). holds_turn s (Flush t)) size.seats fresh_seat
      (fresh_holds (Flush t)))
  zero_read (Bound t m) l n = ap (λ (x : TableState). word_of
      (Limit (get_or x.memtables m fresh_memtable).bound)) (fresh_tables t.0) ∙ by m
    where
      by : (m : ℕ) → word_of (Limit (get_or (fresh_memtable ∷ []) m fresh_memtable).bound) ≡ 0
      by zero = refl
      by (suc m) = refl

  pub first_word : IsFit size → (p : Place) → IsShown (start_of size) p
      → slice_index first_words (word_at p) ≡ word_for p (reading (start_of size) p)
  first_word fit p word = dite (ℕ_discrete (word_at p) 32)
      (λ is. let same = same_place (start_of size)
      (opening_lawful size.tables size.seats size.capacity
      size.ordinals size.base fit) p Log word tt is in
      subst (λ q. slice_index first_words (word_at q) ≡ word_for q (reading (start_of size) q))
      (sym same) (get_or-set_same (replicate 704 0) 32 28 0
      (let l = length-replicate {A = ℕ} 704 0 in omega arith)))
      (λ apart. get_or-set_other (replicate 704 0) 32 (word_at p) 28 0 apart
      ∙ (same_all 704 (word_at p) 0 ∙ sym (zero_read p word (λ e. apart (ap word_at e)))))
