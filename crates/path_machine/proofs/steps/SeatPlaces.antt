-- The places of a seat, a table at a time.
use Rattle.std.proofs.Common.{
  ◌≡◌,
  ℕ,
  zero,
  suc,
  ◌+◌,
  ◌<◌,
  List,
  [],
  ◌∷◌,
  ◌++◌,
  length,
  get_or,
  take,
  Option,
  Some,
  None,
  refl,
  sym,
  ap,
  ◌∙◌,
  arith,
  append_assoc,
  append-nil,
}
use Rattle.std.specs.Option.{option_map_or}
use Rattle.path_core.specs.declared.seat.SeatTable.{SeatTable}
use Rattle.path_core.specs.declared.state.Placed.{Placed}
use Rattle.path_core.specs.Next.{places_from}

abbrev pub placed_at : ℕ → ℕ → ℕ → Placed
placed_at t entry m = record { table = t; entry = entry; memtable = m }

-- the place at one table, if there is one
abbrev pub place_at : ℕ → ℕ → SeatTable → List Placed
place_at t entry s =
    option_map_or (λ (m : ℕ). placed_at t entry m ∷ []) s.place []

-- the same for any place, so that it goes by cases
one_then_by : (t entry : ℕ) (ss : List SeatTable) (place : Option ℕ)
    → option_map_or (λ (m : ℕ). record { table = t; entry = entry; memtable = m }
    ∷ places_from (t + 1) entry ss) place (places_from (t + 1) entry ss)
    ≡ option_map_or (λ (m : ℕ). placed_at t entry m ∷ []) place [] ++ places_from (t + 1) entry ss
one_then_by t entry ss (Some m) = refl
one_then_by t entry ss None = refl

one_then : (t entry : ℕ) (s : SeatTable) (ss : List SeatTable)
    → places_from t entry (s ∷ ss) ≡ place_at t entry s ++ places_from (t + 1) entry ss
one_then t entry s ss = one_then_by t entry ss s.place

more : (t entry : ℕ) (ss : List SeatTable) (i : ℕ) (d : SeatTable) → i < length ss
    → places_from t entry (take (suc i) ss)
    ≡ places_from t entry (take i ss) ++ place_at (t + i) entry (get_or ss i d)
more t entry [] i d inside = absurd (omega arith)
more t entry (s ∷ ss) zero d inside =
    one_then t entry s [] ∙ (append-nil (place_at t entry s)
    ∙ ap (λ k. place_at k entry s) (let e : t ≡ t + 0 = omega arith in e))
more t entry (s ∷ ss) (suc i) d inside =
    one_then t entry s (take (suc i) ss)
    ∙ (ap (λ l. place_at t entry s ++ l) (more (t + 1) entry ss i d (omega arith))
    ∙ (sym (append_assoc (place_at t entry s) (places_from (t + 1) entry (take i ss))
    (place_at (t + 1 + i) entry (get_or ss i d)))
    ∙ (ap (λ l. l ++ place_at (t + 1 + i) entry (get_or ss i d))
    (sym (one_then t entry s (take i ss)))
    ∙ ap (λ k. places_from t entry (s ∷ take i ss) ++ place_at k entry (get_or ss i d))
    (let e : t + 1 + i ≡ t + suc i = omega arith in e))))

-- a table more, at which the seat has a place or has none
pub places_from-more : (entry : ℕ) (ss : List SeatTable) (i : ℕ) (d : SeatTable) (m : ℕ)
    → i < length ss → (get_or ss i d).place ≡ Some m
    → places_from 0 entry (take (i + 1) ss)
    ≡ places_from 0 entry (take i ss) ++ placed_at i entry m ∷ []
places_from-more entry ss i d m inside is =
    ap (λ k. places_from 0 entry (take k ss)) (let e : i + 1 ≡ suc i = omega arith in e)
    ∙ (more 0 entry ss i d inside
    ∙ (ap (λ k. places_from 0 entry (take i ss) ++ place_at k entry (get_or ss i d))
    (let e : 0 + i ≡ i = omega arith in e)
    ∙ ap (λ p. places_from 0 entry (take i ss)
    ++ option_map_or (λ (n : ℕ). placed_at i entry n ∷ []) p []) is))

pub places_from-same : (entry : ℕ) (ss : List SeatTable) (i : ℕ) (d : SeatTable)
    → i < length ss → (get_or ss i d).place ≡ None
    → places_from 0 entry (take (i + 1) ss) ≡ places_from 0 entry (take i ss)
places_from-same entry ss i d inside is =
    ap (λ k. places_from 0 entry (take k ss)) (let e : i + 1 ≡ suc i = omega arith in e)
    ∙ (more 0 entry ss i d inside
    ∙ (ap (λ k. places_from 0 entry (take i ss) ++ place_at k entry (get_or ss i d))
    (let e : 0 + i ≡ i = omega arith in e)
    ∙ (ap (λ p. places_from 0 entry (take i ss)
    ++ option_map_or (λ (n : ℕ). placed_at i entry n ∷ []) p []) is
    ∙ append-nil (places_from 0 entry (take i ss)))))
