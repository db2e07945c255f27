-- A function that has another value at one place.
use Rattle.std.proofs.Common.{◌≡◌, ◌≢◌, ℕ, ◌==◌, cond, refl, ap, eq-eqb, ne_eqb}

-- a function that has another value at one place
abbrev pub put : {A : Type 0} → (ℕ → A) → ℕ → A → ℕ → A
put f b a c = cond (c == b) a (f c)

pub put_here : {A : Type 0} (f : ℕ → A) (b : ℕ) (a : A) → put f b a b ≡ a
put_here f b a = ap (λ t. cond t a (f b)) (eq-eqb b b refl)

pub put_else : {A : Type 0} (f : ℕ → A) (b : ℕ) (a : A) (c : ℕ) → c ≢ b → put f b a c ≡ f c
put_else f b a c n = ap (λ t. cond t a (f c)) (ne_eqb c b n)
