-- Files with one more of them.
use Rattle.std.proofs.Common.{◌≡◌, ◌⊎◌, ℕ, List, Option, Some, None, inl, inr, refl, sym, ◌∙◌, ap}
use Rattle.std.specs.Prelude.{IsSome, unwrap_or}
use Rattle.std.specs.FinMap as finmap
use Rattle.clog_disk.specs.Files.{Files}
use Rattle.clog_disk.proofs.Named.{put_here, put_there, same_or_other}

pub some_is : {A : Type 0} (x y : A) → Some x ≡ Some y → x ≡ y
some_is x y e = ap (λ (o : Option _). unwrap_or o x) e

pub bytes_of : (o : Option (List ℕ)) → IsSome o → (bytes : List ℕ) × (o ≡ Some bytes)
bytes_of None there = cc
bytes_of (Some bytes) there = (bytes, refl)

pub stays : (files : Files) (name bytes other there : List ℕ) → (other ≡ name → ⊥)
    → finmap.get files other ≡ Some there
    → finmap.get (finmap.insert files name bytes) other ≡ Some there
stays files name bytes other there apart e = put_there files name bytes other apart ∙ e

-- what stands at a name is the new file, or stood there before
pub new_or_old : (files : Files) (name bytes other : List ℕ) (o : Option (List ℕ))
    → finmap.get (finmap.insert files name bytes) other ≡ o
    → ((other ≡ name) × (Some bytes ≡ o)) ⊎ (finmap.get files other ≡ o)
new_or_old files name bytes other o e = elim (same_or_other other name) [
  | inl same ↦ inl (
    same,
    sym (put_here files name bytes)
        ∙ ap (finmap.get (finmap.insert files name bytes)) (sym same) ∙ e,
  )
  | inr apart ↦ inr (sym (put_there files name bytes other apart) ∙ e)
]
