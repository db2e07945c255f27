-- What is written piece by piece.
use Rattle.std.proofs.Common.{◌≡◌, ℕ, List, [], ◌++◌, drop, refl, ap, ◌∙◌, append_assoc}
use Rattle.clog_table.specs.declared.head.Head.{Head}
use Rattle.clog_table.specs.Format.{head_front, head_bytes, head_size, check_bytes}

regroup_five : (old a b c d e : List ℕ)
    → ((((old ++ a) ++ b) ++ c) ++ d) ++ e ≡ old ++ ((((a ++ b) ++ c) ++ d) ++ e)
regroup_five old a b c d e = simp append_assoc

-- five pieces, one behind the other
pub five_pieces : (old n1 n2 n3 n4 n5 a b c d e : List ℕ) → n1 ≡ old ++ a → n2 ≡ n1 ++ b
    → n3 ≡ n2 ++ c → n4 ≡ n3 ++ d → n5 ≡ n4 ++ e → n5 ≡ old ++ ((((a ++ b) ++ c) ++ d) ++ e)
five_pieces old n1 n2 n3 n4 n5 a b c d e p1 p2 p3 p4 p5 =
    p5 ∙ ap (λ (l : List ℕ). l ++ e) (p4 ∙ ap (λ (l : List ℕ). l ++ d)
    (p3 ∙ ap (λ (l : List ℕ). l ++ c) (p2 ∙ ap (λ (l : List ℕ). l ++ b) p1)))
    ∙ regroup_five old a b c d e

-- head, check, cells, check
pub four_steps : (head : Head) (cells n1 n2 n3 n4 : List ℕ) → n1 ≡ [] ++ head_front head
    → n2 ≡ n1 ++ check_bytes (drop 0 n1) → n3 ≡ n2 ++ cells
    → n4 ≡ n3 ++ check_bytes (drop head_size n3)
    → n4 ≡ (head_bytes head ++ cells) ++ check_bytes cells
four_steps head cells n1 n2 n3 n4 p1 p2 p3 p4 =
    let whole_head : n2 ≡ head_bytes head =
    p2 ∙ ap (λ (l : List ℕ). l ++ check_bytes (drop 0 l)) p1 in
    let before : n3 ≡ head_bytes head ++ cells = p3 ∙ ap (λ (l : List ℕ). l ++ cells) whole_head in
    let behind : drop head_size (head_bytes head ++ cells) ≡ cells = refl in
    p4 ∙ ap (λ (l : List ℕ). l ++ check_bytes (drop head_size l)) before
    ∙ ap (λ (l : List ℕ). (head_bytes head ++ cells) ++ check_bytes l) behind
