-- The mutations of a file, line by line.
use Rattle.std.proofs.Common.{◌≡◌, ℕ, ◌+◌, ◌<◌, ◌≤◌, List, [], ◌∷◌, ◌++◌, length, map, drop, get_or}
use Rattle.std.proofs.Common.{Result, Ok, Err, refl, sym, ap, subst, ◌∙◌, append_assoc, arith}
use Rattle.std.specs.List.{AllByRecursion}
use Rattle.std.proofs.lemmas.List.{append-nil, drop_all, drop_more}
use Rattle.clog_mutation.specs.declared.mutation.Mutation.{Mutation}
use Rattle.clog_text.specs.declared.refusal.BadLine.{BadLine}
use Rattle.clog_text.specs.declared.refusal.BadLine.TheVariants.{NotJson, Field, Range, NoUpdates}
use Rattle.clog_text.specs.declared.refusal.BadLine.TheVariants.{UnknownTable, OutOfMemory}
use Rattle.clog_text.specs.FileLines.{piece_of}
use Rattle.clog_text.specs.FileMutations.{Refused, FailsAt, first_then, mutations_from, joined}
use Rattle.clog_text.specs.FileMutations.{part_from}
use Rattle.clog_text.specs.LineMutation.{line_mutation}
use Rattle.clog_mutation.specs.Limits.{IsWithinLimits}
use Rattle.clog_text.specs.Refusals.{Fails}

-- what was read, with these in front
abbrev pub with_read : List Mutation → Result (List Mutation) Refused
    → Result (List Mutation) Refused
with_read front = joined (Ok front)

pub with_none : (reading : Result (List Mutation) Refused) → with_read [] reading ≡ reading
unfolding joined
with_none (Ok ms) = refl
with_none (Err refused) = refl

pushed : (front : List Mutation) (m : Mutation) (n : ℕ) (rest : Result (List Mutation) Refused)
    → with_read (front ++ m ∷ []) rest ≡ with_read front (first_then (Ok m) n rest)
unfolding joined
pushed front m n (Ok ms) = ap Ok (append_assoc front (m ∷ []) ms)
pushed front m n (Err refused) = refl

-- the line of a range, by its index
abbrev pub line_at : List ℕ → List (ℕ × ℕ) → ℕ → List ℕ
line_at bytes ranges i = piece_of bytes (get_or ranges i (0, 0))

-- what the lines of these ranges give, from an index on, behind so many other lines
abbrev pub left_from : List ℕ → ℕ → List (ℕ × ℕ) → ℕ → Result (List Mutation) Refused
left_from bytes before ranges i = part_from bytes (before + i) (drop i ranges)

one_line : (bytes : List ℕ) (before : ℕ) (ranges : List (ℕ × ℕ)) (i : ℕ) → i < length ranges
    → left_from bytes before ranges i ≡ first_then (line_mutation (line_at bytes ranges i))
    (before + i + 1) (left_from bytes before ranges (i + 1))
unfolding mutations_from
one_line bytes before ranges i h =
    ap (λ (l : List (ℕ × ℕ)). part_from bytes (before + i) l) (drop_more ranges i (0, 0) h)
    ∙ ap (λ n. first_then (line_mutation (line_at bytes ranges i)) (before + i + 1)
    (mutations_from (n + 1) (map (piece_of bytes) (drop (i + 1) ranges))))
    (let e : before + i + 1 ≡ before + (i + 1) = omega arith in e)

pub line_read : (bytes : List ℕ) (before : ℕ) (ranges : List (ℕ × ℕ)) (i : ℕ)
    (front : List Mutation) (m : Mutation)
    → i < length ranges → line_mutation (line_at bytes ranges i) ≡ Ok m
    → with_read (front ++ m ∷ [])
    (left_from bytes before ranges (i + 1)) ≡ with_read front (left_from bytes before ranges i)
line_read bytes before ranges i front m h read =
    let rest = left_from bytes before ranges (i + 1) in
    pushed front m (before + i + 1) rest
    ∙ ap (λ (r : Result Mutation BadLine). with_read front (first_then r (before + i + 1) rest))
    (sym read)
    ∙ ap (with_read front) (sym (one_line bytes before ranges i h))

pub all_read : (bytes : List ℕ) (before : ℕ) (ranges : List (ℕ × ℕ)) (i : ℕ)
    (front : List Mutation)
    → length ranges ≤ i → with_read front (left_from bytes before ranges i) ≡ Ok front
unfolding mutations_from joined
all_read bytes before ranges i front h =
    ap (λ (l : List (ℕ × ℕ)). with_read front (part_from bytes (before + i) l))
    (drop_all i ranges h)
    ∙ ap Ok (append-nil front)

refused_at : (cause : BadLine) (n : ℕ) (line : Result Mutation BadLine) (front : List Mutation)
    (rest all : Result (List Mutation) Refused)
    → Fails cause line → with_read front (first_then line n rest) ≡ all → FailsAt n cause all
unfolding joined
refused_at OutOfMemory n line front rest all fails is = tt
refused_at NotJson n line front rest all fails is =
    sym is ∙ ap (λ (r : Result Mutation BadLine). with_read front (first_then r n rest)) fails
refused_at (Field part) n line front rest all fails is =
    sym is ∙ ap (λ (r : Result Mutation BadLine). with_read front (first_then r n rest)) fails
refused_at (Range part) n line front rest all fails is =
    sym is ∙ ap (λ (r : Result Mutation BadLine). with_read front (first_then r n rest)) fails
refused_at NoUpdates n line front rest all fails is =
    sym is ∙ ap (λ (r : Result Mutation BadLine). with_read front (first_then r n rest)) fails
refused_at UnknownTable n line front rest all fails is =
    sym is ∙ ap (λ (r : Result Mutation BadLine). with_read front (first_then r n rest)) fails

pub line_refused : (bytes : List ℕ) (before : ℕ) (ranges : List (ℕ × ℕ)) (i n : ℕ)
    (front : List Mutation) (cause : BadLine) (all : Result (List Mutation) Refused)
    → i < length ranges → n ≡ before + i → Fails cause (line_mutation (line_at bytes ranges i))
    → with_read front (left_from bytes before ranges i) ≡ all → FailsAt (n + 1) cause all
line_refused bytes before ranges i n front cause all h is fails so_far =
    subst (λ k. FailsAt (k + 1) cause all) (sym is)
    (refused_at cause (before + i + 1) (line_mutation (line_at bytes ranges i)) front
    (left_from bytes before ranges (i + 1)) all fails
    (ap (with_read front) (sym (one_line bytes before ranges i h)) ∙ so_far))

pub within_none : (ms : List Mutation) → ms ≡ [] → AllByRecursion IsWithinLimits ms
within_none ms e = subst (λ (l : List Mutation). AllByRecursion IsWithinLimits l) (sym e) tt

pub within_push : (ms : List Mutation) (m : Mutation) → AllByRecursion IsWithinLimits ms
    → IsWithinLimits m
    → AllByRecursion IsWithinLimits (ms ++ m ∷ [])
within_push [] m all more = (more, tt)
within_push (n ∷ ms) m all more = (all.0, within_push ms m all.1 more)
