-- Bytes that a writer has taken piece by piece.
use Rattle.std.proofs.Common.{
  ◌≡◌,
  ℕ,
  ◌+◌,
  List,
  ◌++◌,
  take,
  drop,
  Option,
  Some,
  None,
  ap,
  ◌∙◌,
  sym,
  append_assoc,
  take-add,
}
use Rattle.std.specs.Io.KnownBytes.{Appends, Keeps}

-- a writer that takes nothing has what it had
pub keeps_on : (held taken now : Option (List ℕ)) (bytes : List ℕ) → Appends held taken bytes
    → Keeps taken now → Appends held now bytes
keeps_on None taken now bytes before stays = tt
keeps_on (Some xs) None now bytes before stays = absurd before
keeps_on (Some xs) (Some ys) None bytes before stays = absurd stays
keeps_on (Some xs) (Some ys) (Some zs) bytes before stays = stays ∙ before

-- one piece more, from a place on
pub one_piece_more : (held taken now : Option (List ℕ)) (bytes rest : List ℕ) (at n : ℕ)
    → rest ≡ drop at bytes → Appends held taken (take at bytes) → Appends taken now (take n rest)
    → Appends held now (take (at + n) bytes)
one_piece_more None taken now bytes rest at n is before piece = tt
one_piece_more (Some xs) None now bytes rest at n is before piece = absurd before
one_piece_more (Some xs) (Some ys) None bytes rest at n is before piece = absurd piece
one_piece_more (Some xs) (Some ys) (Some zs) bytes rest at n is before piece =
    piece
    ∙ ap (λ l. l ++ take n rest) before
    ∙ append_assoc xs (take at bytes) (take n rest)
    ∙ ap (λ l. xs ++ (take at bytes ++ take n l)) is
    ∙ ap (λ l. xs ++ l) (sym (take-add at n bytes))
