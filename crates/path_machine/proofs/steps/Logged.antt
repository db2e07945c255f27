-- The test that a segment's entries are lasting, a claim at a time.
use Rattle.std.proofs.Common.{
  ◌≡◌,
  ◌==◌,
  ◌||◌,
  not,
  ℕ,
  ◌<◌,
  Bool,
  true,
  false,
  List,
  length,
  get_or,
}
use Rattle.std.specs.List.{list_all}
use Rattle.std.proofs.lemmas.List.Folds.{list_any_none}
use Rattle.std.proofs.lemmas.List.Sums.{list_all-from_AllPass}
use Rattle.path_core.specs.declared.state.Claim.{Claim}
use Rattle.path_core.specs.Droppable.{is_logged}
use Rattle.path_core.specs.Parts.{is_entry_in}

-- the claim is no entry of the segment, or lasting
abbrev pub lasts : ℕ → List ℕ → Claim → Bool
lasts o logged c = not (is_entry_in o c) || is_logged logged c.end

pub all_last : (o : ℕ) (logged : List ℕ) (claims : List Claim)
    → ((k : ℕ) (d : Claim) → k < length claims → lasts o logged (get_or claims k d) ≡ true)
    → list_all (lasts o logged) claims ≡ true
all_last o logged claims each = list_all-from_AllPass (lasts o logged) claims each

pub found_nowhere : (numbers : List ℕ) (number : ℕ)
    → ((k d : ℕ) → k < length numbers → (get_or numbers k d == number) ≡ false)
    → is_logged numbers number ≡ false
found_nowhere numbers number none =
    list_any_none (λ (p : ℕ). p == number) numbers (λ k d inside. none k d inside)
