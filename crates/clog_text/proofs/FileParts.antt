-- A file that is read in parts: what its parts give, one behind another, is what the file gives.
use Rattle.std.proofs.Common.{◌≡◌, ℕ, suc, ◌+◌, ◌*◌, ◌<◌, ◌≤◌, List, [], ◌∷◌, ◌++◌, length}
use Rattle.std.proofs.Common.{map, take, drop, get_or, Result, Ok, Err, refl, sym, ap, subst, ◌∙◌}
use Rattle.std.proofs.Common.{append_assoc, arith}
use Rattle.std.specs.List.{AllByRecursion}
use Rattle.std.proofs.lemmas.List.{append-nil, take-append-drop, map-append, length-map}
use Rattle.std.proofs.lemmas.List.{length-take}
use Rattle.std.proofs.lemmas.List.{length-drop, length-append, drop-drop, drop_all}
use Rattle.std.proofs.Math.Seq.{get_or-append_seam}
use Rattle.std.proofs.Math.Nat.{suc-mul}
use Rattle.clog_mutation.specs.declared.mutation.Mutation.{Mutation}
use Rattle.clog_mutation.specs.Limits.{IsWithinLimits}
use Rattle.clog_text.specs.declared.refusal.BadLine.{BadLine}
use Rattle.clog_text.specs.declared.refusal.BadLine.TheVariants.{NotJson, Field, Range, NoUpdates}
use Rattle.clog_text.specs.declared.refusal.BadLine.TheVariants.{UnknownTable, OutOfMemory}
use Rattle.clog_text.specs.FileLines.{piece_of}
use Rattle.clog_text.specs.FileMutations.{Refused, FailsAt, first_then, mutations_from}
use Rattle.clog_text.specs.FileMutations.{joined, part_from, IsPartRead, PartsRead}
use Rattle.clog_text.specs.LineMutation.{line_mutation}
use Rattle.clog_text.proofs.FileReading.{with_none}

-- ---- lists of lines

first_joined : (line : Result Mutation BadLine) (n : ℕ)
    (left right : Result (List Mutation) Refused)
    → first_then line n (joined left right) ≡ joined (first_then line n left) right
unfolding joined
first_joined (Err cause) n left right = refl
first_joined (Ok m) n (Ok ms) (Ok more) = refl
first_joined (Ok m) n (Ok ms) (Err refused) = refl
first_joined (Ok m) n (Err refused) right = refl

pub in_two_parts : (n : ℕ) (xs ys : List (List ℕ))
    → mutations_from n (xs ++ ys)
    ≡ joined (mutations_from n xs) (mutations_from (n + length xs) ys)
unfolding mutations_from
in_two_parts n [] ys =
    let number : n ≡ n + 0 = omega arith in
    ap (λ k. mutations_from k ys) number ∙ sym (with_none (mutations_from (n + 0) ys))
in_two_parts n (line ∷ xs) ys =
    let number : n + 1 + length xs ≡ n + suc (length xs) = omega arith in
    ap (first_then (line_mutation line) n) (in_two_parts (n + 1) xs ys)
    ∙ first_joined (line_mutation line) n (mutations_from (n + 1) xs)
    (mutations_from (n + 1 + length xs) ys)
    ∙ ap (λ k. joined (first_then (line_mutation line) n (mutations_from (n + 1) xs))
    (mutations_from k ys)) number

-- ---- ranges

-- no line has no number
numbered : (bytes : List ℕ) (a b : ℕ) (ranges : List (ℕ × ℕ)) → (0 < length ranges → a ≡ b)
    → mutations_from a (map (piece_of bytes) ranges)
    ≡ mutations_from b (map (piece_of bytes) ranges)
unfolding mutations_from
numbered bytes a b [] same = refl
numbered bytes a b (range ∷ ranges) same =
    ap (λ n. mutations_from n (map (piece_of bytes) (range ∷ ranges))) (same (omega arith))

-- the first part, and what stands behind it
front_and_rest : (bytes : List ℕ) (before size : ℕ) (ranges : List (ℕ × ℕ))
    → part_from bytes before ranges
    ≡ joined (part_from bytes before (take size ranges))
    (part_from bytes (before + size) (drop size ranges))
front_and_rest bytes before size ranges =
    let front = map (piece_of bytes) (take size ranges) in
    let rest = map (piece_of bytes) (drop size ranges) in
    let same : 0 < length (drop size ranges) → before + 1 + length front ≡ before + size + 1 =
    λ some. omega (
      arith,
      some,
      length-map (take size ranges) (piece_of bytes),
      length-take size ranges,
      length-drop size ranges,
    ) in
    ap (part_from bytes before) (sym (take-append-drop size ranges))
    ∙ ap (mutations_from (before + 1))
    (map-append (piece_of bytes) (take size ranges) (drop size ranges))
    ∙ in_two_parts (before + 1) front rest
    ∙ ap (joined (part_from bytes before (take size ranges)))
    (numbered bytes (before + 1 + length front) (before + size + 1) (drop size ranges) same)

-- what the parts from that number on give
abbrev pub from_part : List ℕ → List (ℕ × ℕ) → ℕ → ℕ → Result (List Mutation) Refused
from_part bytes ranges size n = part_from bytes (n * size) (drop (n * size) ranges)

one_part : (bytes : List ℕ) (ranges : List (ℕ × ℕ)) (size n : ℕ)
    → from_part bytes ranges size n
    ≡ joined (part_from bytes (n * size) (take size (drop (n * size) ranges)))
    (from_part bytes ranges size (n + 1))
one_part bytes ranges size n =
    let left = drop (n * size) ranges in
    let next : n * size + size ≡ (n + 1) * size = omega (arith, suc-mul n size) in
    let moved : size + n * size ≡ n * size + size = omega arith in
    front_and_rest bytes (n * size) size left
    ∙ ap (λ (l : List (ℕ × ℕ)). joined (part_from bytes (n * size) (take size left))
    (part_from bytes (n * size + size) l)) (drop-drop size (n * size) ranges)
    ∙ ap (λ k. joined (part_from bytes (n * size) (take size left))
    (part_from bytes k (drop k ranges))) next

-- ---- the answers, one after another

both_in_front : (front ms : List Mutation) (rest : Result (List Mutation) Refused)
    → joined (Ok (front ++ ms)) rest ≡ joined (Ok front) (joined (Ok ms) rest)
unfolding joined
both_in_front front ms (Ok more) = ap Ok (append_assoc front ms more)
both_in_front front ms (Err refused) = refl

-- with no part yet
pub none_yet : (bytes : List ℕ) (ranges : List (ℕ × ℕ)) (size : ℕ) (front : List Mutation)
    → front ≡ [] → joined (Ok front) (from_part bytes ranges size 0) ≡ part_from bytes 0 ranges
none_yet bytes ranges size front none =
    ap (λ (l : List Mutation). joined (Ok l) (from_part bytes ranges size 0)) none
    ∙ with_none (from_part bytes ranges size 0)
    ∙ ap (λ k. part_from bytes k (drop k ranges)) (let start : 0 * size ≡ 0 = omega arith in start)

pub part_more : (bytes : List ℕ) (ranges : List (ℕ × ℕ)) (size n : ℕ) (front ms : List Mutation)
    → IsPartRead bytes ranges size n (Ok ms)
    → joined (Ok (front ++ ms)) (from_part bytes ranges size (n + 1))
    ≡ joined (Ok front) (from_part bytes ranges size n)
part_more bytes ranges size n front ms read =
    both_in_front front ms (from_part bytes ranges size (n + 1))
    ∙ ap (λ (r : Result (List Mutation) Refused). joined (Ok front)
    (joined r (from_part bytes ranges size (n + 1)))) (sym read.reads)
    ∙ ap (joined (Ok front)) (sym (one_part bytes ranges size n))

pub all_parts_read : (bytes : List ℕ) (ranges : List (ℕ × ℕ)) (size n : ℕ) (front : List Mutation)
    → length ranges ≤ n * size → joined (Ok front) (from_part bytes ranges size n) ≡ Ok front
unfolding joined mutations_from
all_parts_read bytes ranges size n front h =
    ap (λ (l : List (ℕ × ℕ)). joined (Ok front) (part_from bytes (n * size) l))
    (drop_all (n * size) ranges h)
    ∙ ap Ok (append-nil front)

refused_first : (front : List Mutation) (part rest all : Result (List Mutation) Refused)
    (refused : Refused)
    → part ≡ Err refused → joined (Ok front) (joined part rest) ≡ all → all ≡ Err refused
unfolding joined
refused_first front part rest all refused is whole =
    sym whole
    ∙ ap (λ (r : Result (List Mutation) Refused). joined (Ok front) (joined r rest)) is

fails_first : (cause : BadLine) (n : ℕ) (front : List Mutation)
    (part rest all : Result (List Mutation) Refused)
    → FailsAt n cause part → joined (Ok front) (joined part rest) ≡ all → FailsAt n cause all
fails_first OutOfMemory n front part rest all fails whole = tt
fails_first NotJson n front part rest all fails whole =
    refused_first front part rest all (n, NotJson) fails whole
fails_first (Field f) n front part rest all fails whole =
    refused_first front part rest all (n, Field f) fails whole
fails_first (Range f) n front part rest all fails whole =
    refused_first front part rest all (n, Range f) fails whole
fails_first NoUpdates n front part rest all fails whole =
    refused_first front part rest all (n, NoUpdates) fails whole
fails_first UnknownTable n front part rest all fails whole =
    refused_first front part rest all (n, UnknownTable) fails whole

pub part_refused : (bytes : List ℕ) (ranges : List (ℕ × ℕ)) (size n : ℕ) (front : List Mutation)
    (refused : Refused) (all : Result (List Mutation) Refused)
    → IsPartRead bytes ranges size n (Err refused)
    → joined (Ok front) (from_part bytes ranges size n) ≡ all → FailsAt refused.0 refused.1 all
part_refused bytes ranges size n front refused all read whole =
    fails_first refused.1 refused.0 front
    (part_from bytes (n * size) (take size (drop (n * size) ranges)))
    (from_part bytes ranges size (n + 1)) all read.reads
    (ap (joined (Ok front)) (sym (one_part bytes ranges size n)) ∙ whole)

-- the answer that comes next is that of its part
pub next_is_read : (bytes : List ℕ) (ranges : List (ℕ × ℕ)) (size : ℕ)
    (answers yielded rest : List (Result (List Mutation) Refused))
    (next : Result (List Mutation) Refused)
    → PartsRead bytes ranges size answers → answers ≡ yielded ++ next ∷ rest
    → IsPartRead bytes ranges size (length yielded) next
next_is_read bytes ranges size answers yielded rest next read parts =
    let long : length yielded < length (yielded ++ next ∷ rest) =
    omega (arith, length-append yielded (next ∷ rest)) in
    let here = read (length yielded) next
    (subst (λ (l : List (Result (List Mutation) Refused)). length yielded < length l)
    (sym parts) long) in
    let is : get_or answers (length yielded) next ≡ next =
    ap (λ (l : List (Result (List Mutation) Refused)). get_or l (length yielded) next) parts
    ∙ get_or-append_seam yielded next rest next in
    subst (λ (r : Result (List Mutation) Refused). IsPartRead bytes ranges size (length yielded) r)
    is here

pub within_more : (front ms : List Mutation) → AllByRecursion IsWithinLimits front
    → AllByRecursion IsWithinLimits ms → AllByRecursion IsWithinLimits (front ++ ms)
within_more [] ms all more = more
within_more (m ∷ front) ms all more = (all.0, within_more front ms all.1 more)
