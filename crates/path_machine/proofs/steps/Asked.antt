-- What the tests of a step's row show, and the other way round.
use Rattle.std.proofs.Common.{
  ◌≡◌,
  ℕ,
  zero,
  suc,
  ◌<◌,
  ◌≤◌,
  ◌&&◌,
  ◌||◌,
  not,
  Bool,
  true,
  false,
  List,
  [],
  ◌∷◌,
  get_or,
  Option,
  Some,
  None,
  is_some,
  eqb,
  eqb-true,
  eq-eqb,
  refl,
  sym,
  ap,
  ◌∙◌,
  arith,
}
use mathlib.Core.Logic.{dite}
use native.Mathlib.Decide.{dec_lt}
use Rattle.std.specs.Prelude.{IsTrue}
use Rattle.std.specs.Int.{bit_at}
use Rattle.std.proofs.lemmas.Nat.Bits.{bit_at_above}
use Rattle.std.specs.List.{list_any}
use Rattle.std.specs.Option.{option_eq}
use Rattle.clog_base.specs.declared.position.Key.{Key}
use Rattle.path_core.specs.declared.event.Turn.{Turn}
use Rattle.path_core.specs.declared.seat.Range.{Range}
use Rattle.path_core.specs.declared.seat.Seat.{Seat}
use Rattle.path_core.specs.declared.state.Bound.TheVariants.{Final}
use Rattle.path_core.specs.declared.state.PathState.{PathState}
use Rattle.path_core.specs.Keys.{after}
use Rattle.path_core.specs.Parts.{
  fresh_seat,
  seat_of,
  seat_table,
  memtable_of,
  holds_turn,
  touches,
  IsIdle,
}
use Rattle.path_core.specs.Allowed.{RaisesAsWriter, MayFile}
use Rattle.path_core.proofs.seats.Columns.{fresh_holds_none}

-- a set of sixteen tables holds none above
pub touched_below : (n t : ℕ) → n < 65536 → touches n t ≡ true → t < 16
touched_below n t few touched = dite (dec_lt t 16) (λ h. h) (λ h. absurd (
    let z = bit_at_above n 16 t few (omega arith) in
    let e = eqb-true (bit_at n t) 1 touched in omega arith))

-- a test whether an option holds a number
is_some_of : (o : Option ℕ) (m : ℕ) → option_eq eqb o (Some m) ≡ true → o ≡ Some m
is_some_of None m e = absurd (let q : false ≡ true = e in cc)
is_some_of (Some n) m e = ap Some (eqb-true n m e)

holds_number : (o : Option ℕ) (m : ℕ) → o ≡ Some m → option_eq eqb o (Some m) ≡ true
holds_number o m e = ap (λ p. option_eq eqb p (Some m)) e ∙ eq-eqb m m refl

pub writer_raises : (s : Seat) (t m to : ℕ) (r : Range) (b : Bool) → s.claim ≡ Some r
    → is_some s.note ≡ true → r.end ≡ to
    → b ≡ option_eq eqb (seat_table s t).trying (Some m)
    → (IsTrue b → RaisesAsWriter s t m to) × (RaisesAsWriter s t m to → IsTrue b)
writer_raises s t m to r b claimed noted end test =
    let same : r ≡ record { start = r.start; end = to }
    = ap (λ (k : ℕ). let q : Range = record { start = r.start; end = k } in q) end in (
      (λ e. record {
        deposited = noted;
        trying = is_some_of (seat_table s t).trying m (sym test ∙ e);
        start = r.start;
        end = claimed ∙ ap Some same;
      }),
      (λ h. test ∙ holds_number (seat_table s t).trying m h.trying),
    )

pub both : (a b : Bool) → a ≡ true → b ≡ true → (a && b) ≡ false → ⊥
both a b p q e = let z : true ≡ false = sym (ap (λ x. x && b) p ∙ q) ∙ e in cc

-- a test that no element passes, at each index
pub none_passes : {A : Type 0} (p : A → Bool) (xs : List A) (d : A) → p d ≡ false
    → list_any p xs ≡ false → (w : ℕ) → p (get_or xs w d) ≡ false
none_passes p [] d base e w = base
none_passes p (x ∷ xs) d base e zero = or_first (p x) (list_any p xs) e
  where
    or_first : (a b : Bool) → (a || b) ≡ false → a ≡ false
    or_first true b e = e
    or_first false b e = refl
none_passes p (x ∷ xs) d base e (suc w) =
    none_passes p xs d base (or_second (p x) (list_any p xs) e) w
  where
    or_second : (a b : Bool) → (a || b) ≡ false → b ≡ false
    or_second true b e = absurd (let q : true ≡ false = e in cc)
    or_second false b e = e

pub passes_none : {A : Type 0} (p : A → Bool) (xs : List A) (d : A)
    → ((w : ℕ) → p (get_or xs w d) ≡ false) → list_any p xs ≡ false
passes_none p [] d each = refl
passes_none p (x ∷ xs) d each =
    ap (λ b. b || list_any p xs) (each zero) ∙ passes_none p xs d (λ w. each (suc w))

pub taken : (x : PathState) (s : Seat) (turn : Turn) (held : Bool) → IsIdle s
    → held ≡ list_any (λ (q : Seat). holds_turn q turn) x.seats
    → (IsTrue (not held) → IsIdle s × ((w : ℕ) → holds_turn (seat_of x w) turn ≡ false))
    × (IsIdle s × ((w : ℕ) → holds_turn (seat_of x w) turn ≡ false) → IsTrue (not held))
taken x s turn true idle is = (
  (λ e. absurd (let q : false ≡ true = e in cc)),
  (λ h. absurd (let z : true ≡ false = is ∙ passes_none (λ (q : Seat). holds_turn q turn) x.seats
      fresh_seat h.1 in cc)),
)
taken x s turn false idle is = (
  (λ e. (
    idle,
    none_passes (λ (q : Seat). holds_turn q turn) x.seats fresh_seat
        (fresh_holds_none turn) (sym is),
  )),
  (λ h. refl),
)

pub files_by : (x : PathState) (by t m : ℕ) (key : Key) (b : Bool)
    → is_some (seat_of x by).sync ≡ true → x.stopped ≡ 0
    → (memtable_of x t m).bound ≡ Final key
    → (IsTrue b → key.0 ≤ after x.capacity x.synced)
    × (key.0 ≤ after x.capacity x.synced → IsTrue b)
    → (IsTrue b → MayFile x by t m) × (MayFile x by t m → IsTrue b)
files_by x by t m key b holds runs is iff = (
  (λ e. record { holds = holds; runs = runs; bound = key.0; final = is; lasting = iff.0 e }),
  (λ h. iff.1 (let f : Final key ≡ Final (record { 0 = h.bound }) = sym is ∙ h.final in
      let k : key ≡ record { 0 = h.bound } = cc in
      let z = ap (λ (q : Key). q.0) k in
      let l = h.lasting in omega arith)),
)
