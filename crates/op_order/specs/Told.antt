-- What each kind of step tells.
use Rattle.std.specs.Prelude.{◌≡◌, ◌≢◌, ℕ, suc, ◌+◌, ◌*◌, ◌%◌, ◌^◌, ◌<◌, ◌≤◌, true, false, [], ◌∷◌}
use Rattle.std.specs.Prelude.{◌++◌, Some, None}
use Rattle.atomic_table.specs.Table.{Me, Step}
use Rattle.op_core.specs.declared.count.Tally.TheVariants.{Expired}
use Rattle.op_core.specs.CountWords.{count_word}
use Rattle.op_order.specs.declared.view.OwnerPart.{OwnerPart}
use Rattle.op_order.specs.declared.view.WordStep.{WordStep}
use Rattle.op_order.specs.declared.view.ReaderPart.{ReaderPart}
use Rattle.op_order.specs.declared.view.Stage.TheVariants.{Rest, Stored, Rooted, Opened, Moved}
use Rattle.op_order.specs.declared.view.View.{View}
use Rattle.op_order.specs.declared.view.View.TheVariants.{Owns, Reads}
use Rattle.op_order.specs.Rule.{new_reader}

-- a step that looked at the word i, or changed it, and found n there
abbrev pub looked_at : ℕ → ℕ → WordStep
looked_at i n = record { word = i; found = n; act = false }

abbrev pub acted_on : ℕ → ℕ → WordStep
acted_on i n = record { word = i; found = n; act = true }

-- a reader looked at the word i, found n, and knows nothing more
abbrev pub with_step : ℕ → ℕ → ReaderPart → ReaderPart
with_step i n r = record r { trail = looked_at i n ∷ r.trail }

-- it found n as the current group
abbrev pub with_current : ℕ → ReaderPart → ReaderPart
with_current n r = record r { current = n; trail = looked_at 1 n ∷ r.trail }

-- it registered in that group
abbrev pub with_group : ℕ → ℕ → ReaderPart → ReaderPart
with_group i n r = record r {
  group = Some r.current;
  looked = None;
  trail = acted_on i n ∷ r.trail;
}

-- at the word n of the root it found the sequence s
abbrev pub with_look : ℕ → ℕ → ReaderPart → ReaderPart
with_look n s r = record r { looked = Some s; seen = s; trail = looked_at 0 n ∷ r.trail }

-- its operation is over
abbrev pub without_group : ℕ → ℕ → ReaderPart → ReaderPart
without_group i n r = record r { group = None; looked = None; trail = acted_on i n ∷ r.trail }

-- the owner stored the value v
abbrev pub with_store : ℕ → OwnerPart → OwnerPart
with_store v p = record p { stage = Stored; next = v }

-- the value stored is published
abbrev pub with_root : OwnerPart → OwnerPart
with_root p = record p {
  stage = Rooted;
  sequence = suc p.sequence;
  values = p.values ++ p.next ∷ [];
}

abbrev pub with_open : OwnerPart → OwnerPart
with_open p = record p { stage = Opened }

abbrev pub with_move : OwnerPart → OwnerPart
with_move p = record p { stage = Moved; current = suc p.current }

abbrev pub with_rest : OwnerPart → OwnerPart
with_rest p = record p { stage = Rest }

-- the owner looked at the word i of a count, and found n
abbrev pub with_found : ℕ → ℕ → OwnerPart → OwnerPart
with_found i n p = record p { looks = looked_at i n ∷ p.looks }

-- by that look the oldest group is finished
abbrev pub with_gone : OwnerPart → OwnerPart
with_gone p = record p { gone = true }

abbrev pub with_oldest : OwnerPart → OwnerPart
with_oldest p = record p { oldest = suc p.oldest; gone = false }

-- the word tells that this group is expired, and that operations are left in it
abbrev pub HasLeft : ℕ → ℕ → Type 0
HasLeft g n = (m : ℕ) × (n ≡ count_word g (Expired (suc m))) × (m < 64) × (g < 2 ^ 47)

module _ {S : Type 0} where
  -- the seat was a reader's with some part, and what holds of that and of the seat after
  abbrev Read : Me S View → (ReaderPart → Type 0) → Type 0
  Read m P = (r : ReaderPart) → m.0 ≡ Reads r → P r

  abbrev Owned : Me S View → (OwnerPart → Type 0) → Type 0
  Owned m P = (p : OwnerPart) → m.0 ≡ Owns p → P p

  abbrev pub BecomesReader : Me S View → Me S View → ReaderPart → Type 0
  BecomesReader m m' r = m' ≡ (Reads r, m.1)

  abbrev pub BecomesOwner : Me S View → Me S View → OwnerPart → Type 0
  BecomesOwner m m' p = m' ≡ (Owns p, m.1)

  abbrev pub saw_current : Step S → Me S View → ℕ → Me S View → Type 0
  saw_current st m n m' =
      Read m (λ r. BecomesReader m m' (with_current n r) × (r.current ≤ n) × (n < 2 ^ 47))

  -- a word without the mark tells few operations
  abbrev pub saw_count : Step S → Me S View → ℕ → Me S View → Type 0
  saw_count st m n m' = Read m (λ r. BecomesReader m m' (with_step st.word n r))
      × (n < 2 ^ 63 → n % 65536 ≤ 64)

  abbrev pub registered : Step S → Me S View → ℕ → Me S View → Type 0
  registered st m n m' = Read m (λ r.
      (n ≡ st.first → BecomesReader m m' (with_group st.word n r))
      × (n ≢ st.first → BecomesReader m m' (with_step st.word n r)))

  -- it looked at the root of a sequence that is not below what it had found
  abbrev pub saw_root : Step S → Me S View → ℕ → Me S View → Type 0
  saw_root st m n m' = Read m (λ r. (s place : ℕ) → place < 1024 → n ≡ 1024 * s + place
      → BecomesReader m m' (with_look n s r) × (r.seen ≤ s))

  -- the value of the sequence at whose root it looked
  abbrev pub saw_value : (ℕ → ℕ → Type 0) → Step S → Me S View → ℕ → Me S View → Type 0
  saw_value fits st m n m' = Read m (λ r. BecomesReader m m' (with_step st.word n r)
      × ((s : ℕ) → r.looked ≡ Some s → fits s n))

  abbrev pub stopped : Step S → Me S View → ℕ → Me S View → Type 0
  stopped st m n m' = Read m (λ r. BecomesReader m m' (without_group st.word n r))

  abbrev pub stored : Step S → Me S View → ℕ → Me S View → Type 0
  stored st m n m' = Owned m (λ p. BecomesOwner m m' (with_store st.first p))

  abbrev pub rooted : Step S → Me S View → ℕ → Me S View → Type 0
  rooted st m n m' = Owned m (λ p. BecomesOwner m m' (with_root p))

  abbrev pub opened : Step S → Me S View → ℕ → Me S View → Type 0
  opened st m n m' = Owned m (λ p. BecomesOwner m m' (with_open p))

  abbrev pub moved : Step S → Me S View → ℕ → Me S View → Type 0
  moved st m n m' = Owned m (λ p. BecomesOwner m m' (with_move p))

  abbrev pub expired_group : Step S → Me S View → ℕ → Me S View → Type 0
  expired_group st m n m' = Owned m (λ p. BecomesOwner m m' (with_rest p))

  -- It found the count of the oldest group, and whether that is finished. Between two publications
  -- each group below the current one is expired.
  abbrev pub saw_oldest : Step S → Me S View → ℕ → Me S View → Type 0
  saw_oldest st m n m' = Owned m (λ p.
      (n ≡ count_word p.oldest (Expired 0)
      → BecomesOwner m m' (with_gone (with_found st.word n p)))
      × (n ≢ count_word p.oldest (Expired 0) → BecomesOwner m m' (with_found st.word n p))
      × (p.stage ≡ Rest → p.oldest < p.current → n ≢ count_word p.oldest (Expired 0)
      → HasLeft p.oldest n))

  abbrev pub advanced : Step S → Me S View → ℕ → Me S View → Type 0
  advanced st m n m' = Owned m (λ p. BecomesOwner m m' (with_oldest p))

-- a reader is handed out
abbrev pub dealing : View → View
dealing (Owns p) = Owns (record p { seats = suc p.seats })
dealing (Reads r) = Reads r

abbrev pub dealt : View → View
dealt v = Reads new_reader
