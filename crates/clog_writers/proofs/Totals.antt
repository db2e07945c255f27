-- Shares together are at most all lines, so seats that have logged the first of them have logged at
-- most so many writes.
use Rattle.std.proofs.Common.{
  ◌≡◌,
  ℕ,
  zero,
  suc,
  ◌+◌,
  ◌%◌,
  ◌<◌,
  ◌≤◌,
  List,
  [],
  ◌∷◌,
  get_or,
  length,
  reverse,
  Option,
  refl,
  ap,
  ◌∙◌,
  subst,
  arith,
  ne_eqb,
  eq-eqb,
}
use Rattle.std.specs.List.{filter}
use Rattle.std.proofs.lemmas.List.{length-append, length-reverse}
use mathlib.Core.Logic.{dite}
use native.Mathlib.Decide.{ℕ_discrete}
use Rattle.atomic_table.specs.Seated.{TableId}
use Rattle.clog_mutation.specs.declared.mutation.Mutation.{Mutation}
use Rattle.clog_applied.specs.History.{Line, is_for, numbered}
use Rattle.clog_applied.proofs.Lists.{kept_one, left_one}
use Rattle.path_core.specs.declared.note.EntryNote.{EntryNote}
use Rattle.path_rule.specs.declared.view.PathSize.{PathSize}
use Rattle.path_table.specs.declared.trying.PathSeat.{PathSeat}
use Rattle.path_table.specs.Members.{view_of}
use Rattle.write_path.specs.Closed.{all_writes}
use Rattle.path_flush.specs.OwnWrites.{writes_of}
use Rattle.clog_shares.specs.declared.fault.WriteFault.{WriteFault}
use Rattle.clog_shares.specs.Crews.{HaveEnded}
use Rattle.clog_shares.specs.Shares.{AreWritesOf}

-- ---- shares

-- how many lines the shares of so many writers have, from one of them on
abbrev pub shares_from : ℕ → ℕ → ℕ → List Line → ℕ
shares_from k j zero ls = 0
shares_from k j (suc m) ls = length (filter (is_for k j) ls) + shares_from k (suc j) m ls

none_there : (k j m : ℕ) → shares_from k j m [] ≡ 0
none_there k j zero = refl
none_there k j (suc m) = let rest = none_there k (suc j) m in omega (arith, rest)

-- a line of an earlier writer is in none of them
no_more : (k j m : ℕ) (l : Line) (ls : List Line) → l.number % k < j
    → shares_from k j m (l ∷ ls) ≡ shares_from k j m ls
no_more k j zero l ls low = refl
no_more k j (suc m) l ls low =
    let out = left_one (is_for k j) l ls
    (ne_eqb (l.number % k) j (λ is. absurd (omega (arith, is, low)))) in
    let rest = no_more k (suc j) m l ls (omega (arith, low)) in
    λ i. length (out i) + rest i

-- one line is in at most one
one_more : (k j m : ℕ) (l : Line) (ls : List Line)
    → shares_from k j m (l ∷ ls) ≤ 1 + shares_from k j m ls
one_more k j zero l ls = omega arith
one_more k j (suc m) l ls = dite (ℕ_discrete (l.number % k) j)
    (λ is.
    let in_ = ap (λ (x : List Line). length x)
    (kept_one (is_for k j) l ls (eq-eqb (l.number % k) j is)) in
    let rest = no_more k (suc j) m l ls (omega (arith, is)) in omega (arith, in_, rest))
    (λ far.
    let out = ap (λ (x : List Line). length x)
    (left_one (is_for k j) l ls (ne_eqb (l.number % k) j far)) in
    let rest = one_more k (suc j) m l ls in omega (arith, out, rest))

at_most_all : (k j m : ℕ) (ls : List Line) → shares_from k j m ls ≤ length ls
at_most_all k j m [] = let none = none_there k j m in omega (arith, none)
at_most_all k j m (l ∷ ls) =
    let one = one_more k j m l ls in let rest = at_most_all k j m ls in omega (arith, one, rest)

length-numbered : (from : ℕ) (ms : List Mutation) → length (numbered from ms) ≡ length ms
length-numbered from [] = refl
length-numbered from (m ∷ ms) = let rest = length-numbered (from + 1) ms in omega (arith, rest)

-- ---- writes

as_many : (w : ℕ) (ls : List Line) (ns : List EntryNote) → AreWritesOf w ls ns
    → length ns ≡ length ls
as_many w [] [] are = refl
as_many w [] (n ∷ ns) are = absurd are
as_many w (l ∷ ls) [] are = absurd are
as_many w (l ∷ ls) (n ∷ ns) are = let rest = as_many w ls ns are.1 in omega (arith, rest)

module _ {K : Type 0} where
  abbrev own : PathSeat K → List EntryNote
  own s = writes_of (view_of s.member).trail

  written : (k j : ℕ) (ls : List Line) (seats : List (PathSeat K))
      → ((i : ℕ) (d : PathSeat K) → i < length seats
      → length (own (get_or seats i d)) ≤ length (filter (is_for k (j + i)) ls))
      → length (all_writes seats) ≤ shares_from k j (length seats) ls
  written k j ls [] each = omega arith
  written k j ls (s ∷ seats) each =
      let number : j + 0 ≡ j = omega arith in
      let one = subst (λ (i : ℕ). length (own s) ≤ length (filter (is_for k i) ls)) number
      (each 0 s (omega arith)) in
      let rest = written k (suc j) ls seats (λ i d inside.
      let next : j + suc i ≡ suc j + i = omega arith in
      subst (λ (q : ℕ). length (own (get_or seats i d)) ≤ length (filter (is_for k q) ls)) next
      (each (suc i) d (omega (arith, inside)))) in
      let long = length-append (own s) (all_writes seats) in
      omega (arith, one, rest, long)

  -- seats that have logged the first of their shares have logged at most all lines
  pub few_writes : (id : TableId) (size : PathSize) (flush : Option ℕ) (ms : List Mutation)
      (fault : Option WriteFault) (seats : List (PathSeat K))
      → HaveEnded id size flush ms fault seats → length (all_writes seats) ≤ length ms
  few_writes id size flush ms fault seats ended =
      let ls = numbered 1 ms in
      let low = written size.seats 0 ls seats (λ i d inside.
      let logs = (ended.each i d inside).logs in
      let mine = own (get_or seats i d) in
      let done : length (reverse mine) ≡ length logs.done =
      as_many i logs.done (reverse mine) logs.are in
      let turned = length-reverse mine in
      let parts : length (filter (is_for size.seats i) ls) ≡ length logs.done + length logs.left =
      ap (λ (l : List Line). length l) logs.parts ∙ length-append logs.done logs.left in
      let number : i ≡ 0 + i = omega arith in
      subst (λ (k : ℕ). length mine ≤ length (filter (is_for size.seats k) ls)) number
      (omega (arith, done, turned, parts))) in
      let most = at_most_all size.seats 0 (length seats) ls in
      let all = length-numbered 1 ms in omega (arith, low, most, all)
