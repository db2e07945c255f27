-- Seats are handed out one behind another.
use Rattle.std.proofs.Common.{
  ◌≡◌,
  ℕ,
  zero,
  suc,
  ◌+◌,
  List,
  [],
  ◌∷◌,
  ◌++◌,
  refl,
  sym,
  ap,
  ◌∙◌,
  arith,
}
use Rattle.std.specs.List.{range_with_len}
use Rattle.std.proofs.lemmas.List.{map-append}
use Rattle.std.proofs.lemmas.List.Elements.{All-append, All-nil, All-cons}
use Rattle.atomic_table.specs.Seated.{TableId}
use Rattle.path_rule.specs.declared.view.PathSize.{PathSize}
use Rattle.path_table.specs.declared.trying.PathSeat.{PathSeat}
use Rattle.write_path.specs.Opened.{IsNewSeat, AreNew}

pub range_more : (a n : ℕ) → range_with_len a (suc n) ≡ range_with_len a n ++ (a + n) ∷ []
range_more a zero = ap (λ (k : ℕ). k ∷ []) (omega arith)
range_more a (suc n) = ap (λ (l : List ℕ). a ∷ l) (range_more (a + 1) n
    ∙ ap (λ (k : ℕ). range_with_len (a + 1) n ++ k ∷ []) (omega arith))

of_zero : (n : ℕ) → n ≡ 0 + n
of_zero n = omega arith

one_on : (n : ℕ) → suc n ≡ n + 1
one_on n = omega arith

module _ {K : Type 0} (id : TableId) (size : PathSize) where
  pub none_new : AreNew {K = K} id size 0 []
  none_new = record { each = All-nil (IsNewSeat id size); numbers = refl }

  pub one_new : (n : ℕ) (xs : List (PathSeat K)) (s : PathSeat K) → AreNew id size n xs
      → IsNewSeat id size s → s.member.number ≡ n → AreNew id size (n + 1) (xs ++ s ∷ [])
  one_new n xs s N is number = record {
    each = All-append (IsNewSeat id size) xs (s ∷ []) N.each
        (All-cons (IsNewSeat id size) s [] is (All-nil (IsNewSeat id size)));
    numbers = map-append (λ (p : PathSeat K). p.member.number) xs (s ∷ [])
        ∙ ((λ i. N.numbers i ++ (number ∙ of_zero n) i ∷ [])
        ∙ (sym (range_more 0 n) ∙ ap (λ (k : ℕ). range_with_len 0 k) (one_on n)));
  }
