-- What a call's outcome leads to.
use Rattle.std.proofs.Common.{◌≡◌, ℕ, List, Option, ◌∙◌}
use Rattle.std.specs.Prelude.{Result, Ok, Err, IfOk, OnOk}
use Rattle.clog_disk.specs.Files.{Files}
use Rattle.clog_disk.specs.Images.{Elapses, IsImage, LeavesOnly}
use Rattle.clog_disk.proofs.Moments.{started, goes_on}

pub ok_both : {A E P Q R : Type 0} (result : Result A E) → OnOk result P → OnOk result Q
    → (P → Q → R) → OnOk result R
ok_both (Ok x) p q h = h p q
ok_both (Err e) p q h = tt

-- one call, before and after which each image has P
pub one_call : {D : Type 0} (moment : D → ℕ) (since : D → ℕ → Files → Type 0)
    (leaves : D → List ℕ → Option (List ℕ) → Type 0)
    (read_at : D → ℕ → Option (List ℕ → List ℕ)) (lasted_at : D → ℕ → Type 0) (old new : D)
    (P : Files → Type 0)
    → ((image : Files) → since old (moment old) image → IsImage (leaves old) image)
    → ((image : Files) → IsImage (leaves old) image → P image)
    → Elapses moment since leaves read_at lasted_at old new
    → ((image : Files) → IsImage (leaves new) image → P image)
    → LeavesOnly moment since old new P
one_call moment since leaves read_at lasted_at old new P only_now before time after =
    goes_on moment since leaves read_at lasted_at old old new P
    (started moment since old P (λ image here. before image (only_now image here))) time after

-- what is so of the value at Ok is so of an equal one
pub if_ok_same : {A E B : Type 0} (result : Result A E) (f : A → B) (x y : B)
    → IfOk result (λ a. f a ≡ x) → x ≡ y → IfOk result (λ a. f a ≡ y)
if_ok_same (Ok a) f x y is same = is ∙ same
if_ok_same (Err e) f x y is same = tt
