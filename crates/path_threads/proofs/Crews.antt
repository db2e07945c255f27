-- Seats are handed to writers one behind another, lent to threads, and taken back.
use Rattle.std.proofs.Common.{
  ◌≡◌,
  ℕ,
  suc,
  ◌<◌,
  List,
  [],
  ◌∷◌,
  ◌++◌,
  map,
  length,
  take,
  get_or,
  Some,
  None,
  refl,
  sym,
  ap,
  ◌∙◌,
  subst,
  arith,
  append_assoc,
}
use Rattle.std.specs.Option.{option_map_or}
use Rattle.std.proofs.lemmas.List.{map-append}
use Rattle.atomic_table.specs.Seated.{TableId}
use Rattle.path_rule.specs.declared.view.PathSize.{PathSize}
use Rattle.path_table.specs.declared.trying.PathSeat.{PathSeat}
use Rattle.path_table.specs.Members.{IsOf}
use Rattle.write_path.specs.Opened.{numbers_of}
use Rattle.path_threads.specs.declared.worker.Worker.{Worker}
use Rattle.path_threads.specs.Crews.{IsSeated, number_of}

-- what a slice of a whole list is written back to
pub written_back : {A : Type 0} (n : ℕ) (xs ys : List A) → n ≡ length xs → take n (xs ++ ys) ≡ xs
written_back n [] ys is = ap (λ (k : ℕ). take k ys) is
written_back {A} n (x ∷ xs) ys is =
    ap (λ (k : ℕ). take k (x ∷ (xs ++ ys))) is
    ∙ ap (λ (l : List A). x ∷ l) (written_back (length xs) xs ys refl)

module _ {K : Type 0} where
  -- Writers whose numbers are the same one by one have the same numbers.
  pub same_numbers : (xs ys : List (Worker K)) → length ys ≡ length xs
      → ((i : ℕ) (d : Worker K) → i < length xs
      → number_of (get_or ys i d) ≡ number_of (get_or xs i d))
      → map number_of ys ≡ map number_of xs
  same_numbers [] [] long each = refl
  same_numbers [] (y ∷ ys) long each = absurd (omega arith)
  same_numbers (x ∷ xs) [] long each = absurd (omega arith)
  same_numbers (x ∷ xs) (y ∷ ys) long each = let first = each 0 x (omega arith) in
      let rest = same_numbers xs ys (omega arith) (λ i d l. each (suc i) d (omega arith)) in
      λ i. first i ∷ rest i

  -- One more writer with a seat: the numbers that are put and those that are left are the whole.
  pub one_seated : (ws : List (Worker K)) (w : Worker K) (s : PathSeat K)
      (rest : List (PathSeat K)) (all : List ℕ) → w.seat ≡ Some s
      → map number_of ws ++ numbers_of (s ∷ rest) ≡ all
      → map number_of (ws ++ w ∷ []) ++ numbers_of rest ≡ all
  one_seated ws w s rest all is whole = ap (λ (l : List ℕ). l ++ numbers_of rest)
      (map-append number_of ws (w ∷ [])
      ∙ ap (λ o. map number_of ws ++ option_map_or (λ (p : PathSeat K). p.member.number) o 0
      ∷ []) is)
      ∙ (append_assoc (map number_of ws) (s.member.number ∷ []) (numbers_of rest) ∙ whole)

  -- One more seat back.
  pub one_back : (ss : List (PathSeat K)) (w : Worker K) (s : PathSeat K)
      (rest : List (Worker K)) (all : List ℕ) → w.seat ≡ Some s
      → numbers_of ss ++ map number_of (w ∷ rest) ≡ all
      → numbers_of (ss ++ s ∷ []) ++ map number_of rest ≡ all
  one_back ss w s rest all is whole = ap (λ (l : List ℕ). l ++ map number_of rest)
      (map-append (λ (p : PathSeat K). p.member.number) ss (s ∷ []))
      ∙ (append_assoc (numbers_of ss) (s.member.number ∷ []) (map number_of rest)
      ∙ (ap (λ o. numbers_of ss ++ (option_map_or (λ (p : PathSeat K). p.member.number) o 0
      ∷ map number_of rest)) (sym is) ∙ whole))

  some_is : (a b : PathSeat K) → Some a ≡ Some b → a ≡ b
  some_is a b q = cc

module _ {K : Type 0} (id : TableId) (size : PathSize) (w : Worker K) where
  -- the seat that a writer has is of the path
  pub seat_in : (s : PathSeat K) → IsSeated id size w → w.seat ≡ Some s
      → IsOf id size s.member
  seat_in s S is = subst (λ (p : PathSeat K). IsOf id size p.member)
      (some_is S.0 s (sym S.1 ∙ is)) S.2

  -- a writer with a seat is not without
  pub has_seat : IsSeated id size w → w.seat ≡ None → ⊥
  has_seat S none = absurd (let q : None ≡ Some S.0 = sym none ∙ S.1 in cc)
