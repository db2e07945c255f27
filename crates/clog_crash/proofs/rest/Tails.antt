-- What a crash leaves of the segment that is written to, once more was appended.
use Rattle.std.proofs.Common.{
  ◌≡◌,
  ℕ,
  ◌+◌,
  ◌≤◌,
  inl,
  inr,
  List,
  [],
  ◌++◌,
  length,
  take,
  Option,
  Some,
  None,
  sym,
  ◌∙◌,
  ap,
  subst,
  arith,
}
use Rattle.std.specs.Prelude.{unwrap_or}
use Rattle.std.specs.FinMap as finmap
use Rattle.std.proofs.lemmas.List.{length-append, length-take, take-append-le, take-take}
use Rattle.clog_disk.specs.Files.{Files, bytes_at}
use Rattle.clog_disk.specs.Images.{Tears}
use Rattle.clog_crash.specs.Rest.{Kept, Tail}

-- what was left may be left where more is written
pub longer : (k : ℕ) (written more : List ℕ) (left : Option (List ℕ)) → k ≤ length written
    → Tail k written left → Tail k (written ++ more) left
longer k written more None le t = t
longer k written more (Some b) le t = record {
  front = t.front ∙ sym (take-append-le k written more le);
  no_shorter = t.no_shorter;
  no_longer = omega (arith, t.no_longer, length-append written more);
}

-- where nothing stands there are no bytes
pub empty_at : (files : Files) (name : List ℕ) → finmap.get files name ≡ None
    → bytes_at files name ≡ []
empty_at files name none = ap (λ (o : Option (List ℕ)). unwrap_or o []) none

-- a torn file holds what lasts, where its front is one that could be left before
torn_front : (k : ℕ) (w more b : List ℕ) → k ≤ length w
    → length b ≤ length w + length more → Tail k w (Some (take (length w) b))
    → Kept k (w ++ more) b
torn_front k w more b le size part = record {
  front = sym (take-take k (length w) b le) ∙ part.front
      ∙ sym (take-append-le k w more le);
  no_shorter = omega (arith, part.no_shorter, length-take (length w) b);
  no_longer = omega (arith, size, length-append w more);
}

-- and so it does where no file was there
torn_new : (k : ℕ) (w more b : List ℕ) → k ≡ 0 → length b ≤ length w + length more
    → Kept k (w ++ more) b
torn_new k w more b nothing size = record {
  front = ap (λ (j : ℕ). take j b) nothing
      ∙ sym (ap (λ (j : ℕ). take j (w ++ more)) nothing);
  no_shorter = omega (arith, nothing);
  no_longer = omega (arith, size, length-append w more);
}

-- an append leaves what lasts
pub grown : (files : Files) (old new : List ℕ → Option (List ℕ) → Type 0) (name : List ℕ) (k n : ℕ)
    (more : List ℕ) → n ≡ length more → k ≤ length (bytes_at files name)
    → ((left : Option (List ℕ)) → old name left → Tail k (bytes_at files name) left)
    → Tears (Some files) old new name n → (left : Option (List ℕ)) → new name left
    → Tail k (bytes_at files name ++ more) left
grown files old new name k n more size le tail tears left now = elim (tears name left now) [
  | inl before ↦ longer k (bytes_at files name) more left le (tail left before)
  | inr tear ↦
      let w = bytes_at files name in
      let b = tear.1.0 in
      let t = tear.1.2 in
      let within : length b ≤ length w + length more = omega (arith, t.size, size) in
      let kept : Kept k (w ++ more) b = elim t.front [
        | inl was ↦ torn_front k w more b le within (tail (Some (take (length w) b)) was)
        | inr none ↦
            let zero_long : length w ≡ 0 = ap length (empty_at files name none) in
            torn_new k w more b (omega (arith, le, zero_long)) within
      ] in
      subst (λ (o : Option (List ℕ)). Tail k (w ++ more) o) (sym tear.1.1) kept
]
