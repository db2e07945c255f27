-- No two places that are shown share a word: the number of a word and the state tell its place; and
-- what was found there tells it too.
use Rattle.std.proofs.Common.{suc, ⊎_elim, Option, Some, None, ◌≡◌, ℕ, ◌+◌, ◌-◌, ◌*◌, ◌/◌, ◌%◌, ◌<◌}
use Rattle.std.proofs.Common.{◌≤◌, ◌==◌, Bool, length, refl, sym, ap, ◌∙◌, arith, lt-ltb, le-ltb}
use Rattle.std.specs.Prelude.{if◌then◌else◌, nat_lt}
use Rattle.op_core.specs.declared.count.Order.TheVariants.{Write, Append}
use Rattle.path_core.specs.declared.event.Cursor.TheVariants.{Synced, OldestLive, Stopped}
use Rattle.path_core.specs.declared.event.Place.{Place}
use Rattle.path_core.specs.declared.event.Place.TheVariants.{Count, Current, Oldest, Log, Newest}
use Rattle.path_core.specs.declared.event.Place.TheVariants.{Bound, TurnWord, CursorWord}
use Rattle.path_core.specs.declared.event.Turn.TheVariants.{Sync, Flush}
use Rattle.op_core.specs.CountWords.{number_in}
use Rattle.path_core.specs.declared.state.PathState.{PathState}
use Rattle.std.specs.Option.{option_and_then, option_map_or}
use Rattle.std.proofs.lemmas.Option.{none-some}
use Rattle.path_core.specs.declared.seat.FlushTurn.{FlushTurn}
use Rattle.path_core.specs.declared.seat.Seat.{Seat}
use Rattle.path_core.specs.Lawful.{IsLawfulPath}
use Rattle.path_core.specs.Parts.{cleared_of, seat_of, seat_table, table_of}
use Rattle.path_rule.specs.Layout.{word_at, IsNear, IsShown, IsWord, seen_at}
use Rattle.path_rule.specs.Turns.{IsKnown}

-- The place of a word's number.

abbrev fixed_in : ℕ → Place
fixed_in n =
    if n == 0 then Current Write
    else (if n == 8 then Current Append
    else (if n == 16 then Oldest Write
    else (if n == 24 then Oldest Append
    else (if n == 32 then Log
    else (if n == 40 then CursorWord Synced
    else (if n == 48 then CursorWord Stopped else TurnWord Sync))))))

abbrev table_in : ℕ → ℕ → Place
table_in kind t =
    if kind == 0 then Newest (record { 0 = t })
    else (if kind == 1 then TurnWord (Flush (record { 0 = t }))
    else CursorWord (OldestLive (record { 0 = t })))

-- the last group with this word, where so many were made
abbrev pub late_in : ℕ → ℕ → ℕ
late_in made k = made - 1 - ((made + 31 - k) % 32)

late_back : (made g : ℕ) → g < made → made ≤ g + 32 → late_in made (g % 32) ≡ g
late_back made g low high = omega arith

-- of the last memtables and the one to come the one with this word
abbrev pub near_in : ℕ → ℕ → ℕ
near_in newest k = newest + 1 - ((newest + 5 - k) % 4)

near_back : (newest m : ℕ) → m ≤ newest + 1 → newest ≤ m + 2 → near_in newest (m % 4) ≡ m
near_back newest m low high = omega arith

-- who has cleared a place holds the turn that tells so
cleared_held : (o : Option FlushTurn) (m : ℕ)
    → option_and_then (λ (turn : FlushTurn). turn.cleared) o ≡ Some m
    → (turn : FlushTurn) × (o ≡ Some turn) × (turn.cleared ≡ Some m)
cleared_held None m h = absurd (none-some m h)
cleared_held (Some turn) m h = (turn, refl, h)

module _ (x : PathState) (L : IsLawfulPath x) where
  -- a place is cleared for the memtable to come
  pub cleared_next : (w t m : ℕ) → cleared_of (seat_of x w) t ≡ Some m
      → m ≡ suc (table_of x t).newest
  cleared_next w t m h = let T = cleared_held (seat_table (seat_of x w) t).flush m h in
      ((L.seats_know w).flush t T.0 T.1).cleared m T.2

  pub near_low : (t m : ℕ) → IsNear x t m → m ≤ (table_of x t).newest + 1
  near_low t m near = ⊎_elim
      (λ (s : (m ≤ (table_of x t).newest) × ((table_of x t).newest ≤ m + 2)). let low = s.0 in
      omega arith)
      (λ (c : (w : ℕ) × (cleared_of (seat_of x w) t ≡ Some m)).
      let is = cleared_next c.0 t m c.1 in omega arith) near

  pub near_high : (t m : ℕ) → IsNear x t m → (table_of x t).newest ≤ m + 2
  near_high t m near = ⊎_elim
      (λ (s : (m ≤ (table_of x t).newest) × ((table_of x t).newest ≤ m + 2)). s.1)
      (λ (c : (w : ℕ) × (cleared_of (seat_of x w) t ≡ Some m)).
      let is = cleared_next c.0 t m c.1 in omega arith) near

  -- two of them that share a word are one
  pub same_near : (t f h : ℕ) → IsNear x t f → IsNear x t h → f % 4 ≡ h % 4 → f ≡ h
  same_near t f h near other same = let a = near_low t f near in let b = near_high t f near in
      let c = near_low t h other in let d = near_high t h other in omega arith

-- With what stands at the word of a group, and of a memtable of a table.
module _ (count_in bound_in : ℕ → ℕ → Place) where
  abbrev place_in : ℕ → Place
  place_in n =
      if nat_lt n 64 then fixed_in n
      else (if nat_lt n 128 then table_in ((n - 64) % 4) ((n - 64) / 4)
      else (if nat_lt n 640 then count_in ((n - 128) / 8 % 2) ((n - 128) / 16)
      else bound_in ((n - 640) % 16) ((n - 640) / 16)))

  module _ (n : ℕ) where
    abbrev tables : Place
    tables = table_in ((n - 64) % 4) ((n - 64) / 4)

    abbrev counts : Place
    counts = count_in ((n - 128) / 8 % 2) ((n - 128) / 16)

    abbrev bounds : Place
    bounds = bound_in ((n - 640) % 16) ((n - 640) / 16)

    above_fixed : 64 ≤ n → place_in n
        ≡ (if nat_lt n 128 then tables else (if nat_lt n 640 then counts else bounds))
    above_fixed low = ap (λ (b : Bool). if b then fixed_in n
        else (if nat_lt n 128 then tables else (if nat_lt n 640 then counts else bounds)))
        (le-ltb n 64 low)

    in_tables : 64 ≤ n → n < 128 → place_in n ≡ tables
    in_tables low high = above_fixed low
        ∙ ap (λ (b : Bool). if b then tables else (if nat_lt n 640 then counts else bounds))
        (lt-ltb n 128 high)

    above_tables : 128 ≤ n → place_in n ≡ (if nat_lt n 640 then counts else bounds)
    above_tables low = above_fixed (omega arith)
        ∙ ap (λ (b : Bool). if b then tables else (if nat_lt n 640 then counts else bounds))
        (le-ltb n 128 low)

    in_counts : 128 ≤ n → n < 640 → place_in n ≡ counts
    in_counts low high = above_tables low
        ∙ ap (λ (b : Bool). if b then counts else bounds) (lt-ltb n 640 high)

    in_bounds : 640 ≤ n → place_in n ≡ bounds
    in_bounds low = above_tables (omega arith)
        ∙ ap (λ (b : Bool). if b then counts else bounds) (le-ltb n 640 low)

  table_word : (kind t n : ℕ) → n ≡ 64 + kind + 4 * t → kind < 3 → t < 16
      → place_in n ≡ table_in kind t
  table_word kind t n is few low =
      let k : (n - 64) % 4 ≡ kind = omega arith in
      let u : (n - 64) / 4 ≡ t = omega arith in
      in_tables n (omega arith) (omega arith) ∙ (λ i. table_in (k i) (u i))

  count_at : (kind s n : ℕ) → n ≡ 128 + 8 * kind + 16 * s → kind < 2 → s < 32
      → place_in n ≡ count_in kind s
  count_at kind s n is few low =
      let k : (n - 128) / 8 % 2 ≡ kind = omega arith in
      let h : (n - 128) / 16 ≡ s = omega arith in
      in_counts n (omega arith) (omega arith) ∙ (λ i. count_in (k i) (h i))

  bound_word_at : (t k : ℕ) → t < 16 → place_in (640 + 16 * k + t) ≡ bound_in t k
  bound_word_at t k few =
      let n : ℕ = 640 + 16 * k + t in
      let u : (n - 640) % 16 ≡ t = omega arith in
      let v : (n - 640) / 16 ≡ k = omega arith in
      in_bounds n (omega arith) ∙ (λ i. bound_in (u i) (v i))

-- The place of a word, told by what was found there.

abbrev seen_in : ℕ → ℕ → ℕ → Place
seen_in n kind s = if kind == 0 then Count Write (number_in n) else Count Append (number_in n)

-- the memtable that a seat's write tries
abbrev tried_in : Seat → ℕ → ℕ → Place
tried_in p t k = Bound (record { 0 = t })
    (option_map_or (λ (m : ℕ). m) (seat_table p t).trying 0)

module _ (p : Seat) where
  seen_back : (n : ℕ) (a : Place) → IsWord a → IsKnown p a
      → place_in (seen_in n) (tried_in p) (word_at a) ≡ seen_at a n
  seen_back n (Current Write) l k = refl
  seen_back n (Current Append) l k = refl
  seen_back n (Oldest Write) l k = refl
  seen_back n (Oldest Append) l k = refl
  seen_back n Log l k = refl
  seen_back n (CursorWord Synced) l k = refl
  seen_back n (CursorWord Stopped) l k = refl
  seen_back n (TurnWord Sync) l k = refl
  seen_back n (Newest t) l k =
      table_word (seen_in n) (tried_in p) 0 t.0 (64 + 4 * t.0) (omega arith) (omega arith) l
  seen_back n (TurnWord (Flush t)) l k =
      table_word (seen_in n) (tried_in p) 1 t.0 (65 + 4 * t.0) (omega arith) (omega arith) l
  seen_back n (CursorWord (OldestLive t)) l k =
      table_word (seen_in n) (tried_in p) 2 t.0 (66 + 4 * t.0) (omega arith) (omega arith) l
  seen_back n (Count Write g) l k = count_at (seen_in n) (tried_in p) 0 (g % 32)
      (128 + 16 * (g % 32)) (omega arith) (omega arith) (omega arith)
  seen_back n (Count Append g) l k = count_at (seen_in n) (tried_in p) 1 (g % 32)
      (136 + 16 * (g % 32)) (omega arith) (omega arith) (omega arith)
  seen_back n (Bound t m) l k = bound_word_at (seen_in n) (tried_in p) t.0 (m % 4) l
      ∙ ap (λ (o : Option ℕ). Bound t (option_map_or (λ (m : ℕ). m) o 0)) k

  pub same_seen : (n : ℕ) (a b : Place) → IsWord a → IsWord b → IsKnown p a → IsKnown p b
      → word_at a ≡ word_at b → seen_at a n ≡ seen_at b n
  same_seen n a b inside other known told same = sym (seen_back n a inside known)
      ∙ (ap (place_in (seen_in n) (tried_in p)) same ∙ seen_back n b other told)

-- And by the state, where it is shown.
module _ (x : PathState) (L : IsLawfulPath x) where
  abbrev late_at : ℕ → ℕ → Place
  late_at kind s = if kind == 0 then Count Write (late_in (length x.write.tallies) s)
      else Count Append (late_in (length x.append.tallies) s)

  abbrev near_at : ℕ → ℕ → Place
  near_at t k = Bound (record { 0 = t }) (near_in (table_of x t).newest k)

  place_back : (a : Place) → IsShown x a → place_in late_at near_at (word_at a) ≡ a
  place_back (Current Write) l = refl
  place_back (Current Append) l = refl
  place_back (Oldest Write) l = refl
  place_back (Oldest Append) l = refl
  place_back Log l = refl
  place_back (CursorWord Synced) l = refl
  place_back (CursorWord Stopped) l = refl
  place_back (TurnWord Sync) l = refl
  place_back (Newest t) l =
      table_word late_at near_at 0 t.0 (64 + 4 * t.0) (omega arith) (omega arith) l
  place_back (TurnWord (Flush t)) l =
      table_word late_at near_at 1 t.0 (65 + 4 * t.0) (omega arith) (omega arith) l
  place_back (CursorWord (OldestLive t)) l =
      table_word late_at near_at 2 t.0 (66 + 4 * t.0) (omega arith) (omega arith) l
  place_back (Count Write g) l =
      count_at late_at near_at 0 (g % 32) (128 + 16 * (g % 32)) (omega arith) (omega arith)
      (omega arith)
      ∙ ap (Count Write) (late_back (length x.write.tallies) g l.0 l.1)
  place_back (Count Append g) l =
      count_at late_at near_at 1 (g % 32) (136 + 16 * (g % 32)) (omega arith) (omega arith)
      (omega arith)
      ∙ ap (Count Append) (late_back (length x.append.tallies) g l.0 l.1)
  place_back (Bound t m) l = bound_word_at late_at near_at t.0 (m % 4) l.0
      ∙ ap (Bound t) (near_back (table_of x t.0).newest m (near_low x L t.0 m l.1)
      (near_high x L t.0 m l.1))

  pub same_place : (a b : Place) → IsShown x a → IsShown x b → word_at a ≡ word_at b → a ≡ b
  same_place a b inside other same = sym (place_back a inside)
      ∙ (ap (place_in late_at near_at) same ∙ place_back b other)

-- what is shown has a word
pub shown_word : (x : PathState) (a : Place) → IsShown x a → IsWord a
shown_word x (Current o) l = tt
shown_word x (Oldest o) l = tt
shown_word x Log l = tt
shown_word x (CursorWord Synced) l = tt
shown_word x (CursorWord Stopped) l = tt
shown_word x (TurnWord Sync) l = tt
shown_word x (Newest t) l = l
shown_word x (TurnWord (Flush t)) l = l
shown_word x (CursorWord (OldestLive t)) l = l
shown_word x (Count o g) l = tt
shown_word x (Bound t m) l = l.0

-- Each place of the layout has a word in the table.
pub in_rows : (a : Place) → IsWord a → word_at a < 704
in_rows (Current Write) l = omega arith
in_rows (Current Append) l = omega arith
in_rows (Oldest Write) l = omega arith
in_rows (Oldest Append) l = omega arith
in_rows Log l = omega arith
in_rows (CursorWord Synced) l = omega arith
in_rows (CursorWord Stopped) l = omega arith
in_rows (TurnWord Sync) l = omega arith
in_rows (Newest t) l = omega arith
in_rows (TurnWord (Flush t)) l = omega arith
in_rows (CursorWord (OldestLive t)) l = omega arith
in_rows (Count Write g) l = omega arith
in_rows (Count Append g) l = omega arith
in_rows (Bound t m) l = omega arith
