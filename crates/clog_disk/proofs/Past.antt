-- Files as they were before.
use Rattle.std.proofs.Common.{◌≡◌, ℕ, List, [], ◌∷◌, refl, ◌∙◌, ap}
use Rattle.std.specs.List.{AllZip}
use Rattle.clog_disk.specs.Stored.{Stored}

pair_of : (e f : List ℕ × Stored) → f.0 ≡ e.0 → f.1 ≡ e.1 → f ≡ e
pair_of e f name file = λ i. (name i, file i)

-- entries that are the same one by one are the same
pub same_entries : (es fs : List (List ℕ × Stored))
    → AllZip (λ (e f : List ℕ × Stored). (f.0 ≡ e.0) × (f.1 ≡ e.1)) es fs → fs ≡ es
same_entries [] [] zip = refl
same_entries [] (f ∷ fs) zip = absurd zip
same_entries (e ∷ es) [] zip = absurd zip
same_entries (e ∷ es) (f ∷ fs) zip =
    ap (λ g. g ∷ fs) (pair_of e f zip.0.0 zip.0.1) ∙ ap (λ l. e ∷ l) (same_entries es fs zip.1)
