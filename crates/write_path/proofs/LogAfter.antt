-- Where the log goes on behind a claim of some bytes.
use Rattle.std.proofs.Common.{
  ◌≡◌,
  ℕ,
  ◌+◌,
  ◌-◌,
  ◌*◌,
  ◌/◌,
  ◌<◌,
  ◌≤◌,
  Bool,
  cond,
  sym,
  ap,
  ◌∙◌,
  subst,
  arith,
  eq-eqb,
  ne_eqb,
}
use Rattle.std.proofs.lemmas.Bool.{lt-ltb, le-ltb}
use Rattle.path_core.specs.declared.event.ClaimKind.TheVariants.{Entry}
use Rattle.path_core.specs.Keys.{
  MovesLog,
  claimed_size,
  entry_end,
  ordinal_of,
  offset_of,
  next_segment,
}

-- a claim that leads to a key, where that is where an entry of its size ends
moves_by : (capacity ordinals key to bytes : ℕ) → claimed_size key to ≡ bytes → 30 ≤ bytes
    → bytes ≤ capacity / 2 → to ≡ entry_end capacity key bytes → ordinal_of to < ordinals
    → MovesLog Entry capacity ordinals key to × (claimed_size key to ≡ bytes)
moves_by capacity ordinals key to bytes size least half end below = (
  subst (λ (n : ℕ). (30 ≤ n) × (n ≤ capacity / 2) × (to ≡ entry_end capacity key n)
      × (ordinal_of to < ordinals)) (sym size) (least, half, end, below),
  size,
)

-- where an entry that fits ends
end_here : (capacity key bytes : ℕ) → offset_of key + bytes < capacity
    → key + bytes ≡ entry_end capacity key bytes
end_here capacity key bytes room =
    ap (λ (b : Bool). cond b key (next_segment key) + bytes)
    (sym (lt-ltb (offset_of key + bytes) capacity room))

-- and one that does not
end_next : (capacity key bytes : ℕ) → capacity ≤ offset_of key + bytes
    → next_segment key + bytes ≡ entry_end capacity key bytes
end_next capacity key bytes none =
    ap (λ (b : Bool). cond b key (next_segment key) + bytes)
    (sym (le-ltb (offset_of key + bytes) capacity none))

module _ (capacity ordinals key bytes : ℕ) (few : capacity ≤ 33554432) (least : 30 ≤ bytes)
    (half : bytes ≤ capacity / 2) where
  pub fits_here : offset_of key + bytes < capacity → ordinal_of key < ordinals
      → MovesLog Entry capacity ordinals key (key + bytes)
      × (claimed_size key (key + bytes) ≡ bytes)
  fits_here room there =
      let same : ordinal_of (key + bytes) ≡ ordinal_of key = omega arith in
      moves_by capacity ordinals key (key + bytes) bytes
      (ap (λ (b : Bool). cond b (key + bytes - key) (offset_of (key + bytes) - 28))
      (eq-eqb (ordinal_of (key + bytes)) (ordinal_of key) same) ∙ omega arith)
      least half (end_here capacity key bytes room) (omega arith)

  pub fits_next : capacity ≤ offset_of key + bytes → ordinal_of key + 1 < ordinals
      → MovesLog Entry capacity ordinals key ((ordinal_of key + 1) * 2147483648 + 28 + bytes)
      × (claimed_size key ((ordinal_of key + 1) * 2147483648 + 28 + bytes) ≡ bytes)
  fits_next none there =
      let to : ℕ = (ordinal_of key + 1) * 2147483648 + 28 + bytes in
      let next : ordinal_of to ≡ ordinal_of key + 1 = omega arith in
      let at : offset_of to ≡ 28 + bytes = omega arith in
      moves_by capacity ordinals key to bytes
      (ap (λ (b : Bool). cond b (to - key) (offset_of to - 28))
      (ne_eqb (ordinal_of to) (ordinal_of key) (λ e. omega arith)) ∙ omega arith)
      least half (end_next capacity key bytes none) (omega arith)

  pub spent_here : offset_of key + bytes < capacity → ordinals ≤ ordinal_of key
      → ordinals ≤ ordinal_of (entry_end capacity key bytes)
  spent_here room over = subst (λ (k : ℕ). ordinals ≤ ordinal_of k)
      (end_here capacity key bytes room) (omega arith)

  pub spent_next : capacity ≤ offset_of key + bytes → ordinals ≤ ordinal_of key + 1
      → ordinals ≤ ordinal_of (entry_end capacity key bytes)
  spent_next none over = subst (λ (k : ℕ). ordinals ≤ ordinal_of k)
      (end_next capacity key bytes none) (omega arith)
