-- What `orders` is asked for.
use Rattle.std.specs.Prelude.{◌≡◌, ℕ, List, [], ◌∷◌}
use Rattle.clog_words.specs.Numbers.{IsNumberWithin}

-- `orders` and two words, how many readers there are and how many rounds each has
pub record AsksOrders (words : List (List ℕ)) (readers rounds : ℕ) : Type 0 where
  pub readers_text : List ℕ
  pub rounds_text : List ℕ
  pub words_are : words ≡ readers_text ∷ rounds_text ∷ []
  pub readers_is : IsNumberWithin 1 63 readers_text readers
  pub rounds_is : IsNumberWithin 0 100000 rounds_text rounds
