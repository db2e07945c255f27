-- What is appended piece by piece, and a piece of which only a part was.
use Rattle.std.proofs.Common.{◌≡◌, ℕ, List, ◌++◌, sym, ap, ◌∙◌, append_assoc}
use Rattle.std.specs.Prelude.{Result, Ok, Err, OnErr}
use Rattle.clog_fields.specs.Fields.{AppendsPart}

-- a part of the first piece is a part of both
pub part_of_first : (old new piece more : List ℕ) → AppendsPart old new piece
    → AppendsPart old new (piece ++ more)
part_of_first old new piece more h = record {
  part = h.part;
  rest = h.rest ++ more;
  parts = ap (λ (l : List ℕ). l ++ more) h.parts ∙ append_assoc h.part h.rest more;
  appended = h.appended;
}

-- and so are all of the first piece and a part of the second
pub part_behind : (old mid new piece more : List ℕ) → mid ≡ old ++ piece
    → AppendsPart mid new more → AppendsPart old new (piece ++ more)
part_behind old mid new piece more before h = record {
  part = piece ++ h.part;
  rest = h.rest;
  parts = ap (λ (l : List ℕ). piece ++ l) h.parts ∙ sym (append_assoc piece h.part h.rest);
  appended = h.appended ∙ ap (λ (l : List ℕ). l ++ h.part) before
      ∙ append_assoc old piece h.part;
}

-- two pieces were appended
pub two_appended : (old mid new piece more : List ℕ) → mid ≡ old ++ piece → new ≡ mid ++ more
    → new ≡ old ++ (piece ++ more)
two_appended old mid new piece more before next =
    next ∙ ap (λ (l : List ℕ). l ++ more) before ∙ append_assoc old piece more

-- ---- what a refused call leaves

pub on_refusal : {T E P : Type 0} (result : Result T E) → P → OnErr result P
on_refusal (Ok done) h = tt
on_refusal (Err fault) h = h

-- the last piece may be refused
pub last_refused : {T E : Type 0} (result : Result T E) (old mid new piece more : List ℕ)
    → mid ≡ old ++ piece → OnErr result (AppendsPart mid new more)
    → OnErr result (AppendsPart old new (piece ++ more))
last_refused (Ok done) old mid new piece more before h = tt
last_refused (Err fault) old mid new piece more before h =
    part_behind old mid new piece more before h
