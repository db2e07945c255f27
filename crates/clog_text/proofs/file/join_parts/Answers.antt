use Rattle.std.proofs.Common.{◌≡◌, ◌+◌, ◌*◌, ◌≤◌, List, [], ◌∷◌, ◌++◌, length, Result, Ok, sym, ap}
use Rattle.std.proofs.Common.{subst, ◌∙◌, append_assoc, arith}
use Rattle.std.specs.List.{AllByRecursion}
use Rattle.std.proofs.lemmas.List.{length-append, append-nil}
use Rattle.clog_mutation.specs.declared.mutation.Mutation.{Mutation}
use Rattle.clog_mutation.specs.Limits.{IsWithinLimits}
use Rattle.clog_text.specs.FileMutations.{Refused, IsPartRead, joined, part_from}
use Rattle.clog_text.proofs.FileReading.{within_none}
use Rattle.clog_text.proofs.FileParts.{from_part, none_yet, part_more, all_parts_read}
use Rattle.clog_text.proofs.FileParts.{part_refused, next_is_read, within_more}
use Rattle.std.proofs.lemmas.List.{nil_from_length}
use Rattle.clog_text.proofs.file.join_parts.Goals as goal

pub loop-part-init : goal.loop-part-init
loop-part-init c =
    let gives = c.into_iter-part-iterator.ensures.into_iter_gives in
    record {
      read = none_yet c.args.bytes.now c.args.ranges.now c.args.size c.new-mutations.result.items
          c.new-mutations.ensures.items;
      within = within_none c.new-mutations.result.items c.new-mutations.ensures.items;
      parts = sym gives.0;
      count = let items = ap length gives.0 in omega (arith, items, gives.1, c.args.parts.ok);
    }

pub loop-part-preserved : goal.loop-part-preserved
loop-part-preserved c =
    let l = c.loop-part in
    let steps = c.in-Some.ensures.steps in
    let bytes = c.args.bytes.now in
    let ranges = c.args.ranges.now in
    let size = c.args.size in
    let front = l.mutations.items in
    let next = next_is_read bytes ranges size c.args.parts.items l.yielded
    c.next.new.self.rest.items c.in-Some.part c.requires.parts
    (l.invariant.parts ∙ ap (λ (r : List (Result (List Mutation) Refused)). l.yielded ++ r) steps.0)
    in
    let read : IsPartRead bytes ranges size (length l.yielded) (Ok c.in-Ok.read) =
    subst (λ (r : Result (List Mutation) Refused).
    IsPartRead bytes ranges size (length l.yielded) r)
    c.in-Ok.is next in
    let appended : c.append.new.self.items ≡ front ++ c.in-Ok.read =
    c.in-Ok-append.ensures.items ∙ ap (λ (ms : List Mutation). front ++ ms) c.into_vec.ensures in
    let one_more : length (l.yielded ++ c.in-Some.part ∷ []) ≡ length l.yielded + 1 =
    length-append l.yielded (c.in-Some.part ∷ []) in
    record {
      read = ap (λ (ms : List Mutation). joined (Ok ms) (from_part bytes ranges size
          (length (l.yielded ++ c.in-Some.part ∷ [])))) appended
          ∙ ap (λ k. joined (Ok (front ++ c.in-Ok.read)) (from_part bytes ranges size k)) one_more
          ∙ part_more bytes ranges size (length l.yielded) front c.in-Ok.read read
          ∙ l.invariant.read;
      within = subst (λ (ms : List Mutation). AllByRecursion IsWithinLimits ms) (sym appended)
          (within_more front c.in-Ok.read l.invariant.within read.within);
      parts = l.invariant.parts
          ∙ ap (λ (r : List (Result (List Mutation) Refused)). l.yielded ++ r) steps.0
          ∙ sym (append_assoc l.yielded (c.in-Some.part ∷ []) c.next.new.self.rest.items);
      count = let short = ap length steps.0 in omega (arith, short, steps.1, l.invariant.count);
    }

pub returns-in-Err-clause-reads : goal.returns-in-Err-clause-reads
returns-in-Err-clause-reads c =
    let l = c.loop-part in
    let bytes = c.args.bytes.now in
    let ranges = c.args.ranges.now in
    let next = next_is_read bytes ranges c.args.size c.args.parts.items l.yielded
    c.next.new.self.rest.items c.in-Some.part c.requires.parts
    (l.invariant.parts
    ∙ ap (λ (r : List (Result (List Mutation) Refused)). l.yielded ++ r) c.in-Some.ensures.steps.0)
    in
    part_refused bytes ranges c.args.size (length l.yielded) l.mutations.items
    (c.in-Err.number, c.in-Err.cause) (part_from bytes 0 ranges)
    (subst (λ (r : Result (List Mutation) Refused).
    IsPartRead bytes ranges c.args.size (length l.yielded) r) c.in-Err.is next)
    l.invariant.read

pub returns-clause-reads : goal.returns-clause-reads
returns-clause-reads c =
    let l = c.loop-part in
    let empty = nil_from_length l.part-iterator.rest.items
    (sym l.invariant.count ∙ c.in-None.ensures.steps.0) in
    let all : length l.yielded ≡ length c.args.parts.items =
    sym (ap length (l.invariant.parts
    ∙ ap (λ (r : List (Result (List Mutation) Refused)). l.yielded ++ r) empty
    ∙ append-nil l.yielded)) in
    let covered : length c.args.ranges.now ≤ length l.yielded * c.args.size =
    subst (λ n. length c.args.ranges.now ≤ n * c.args.size) (sym all) c.requires.all in
    sym l.invariant.read
    ∙ all_parts_read c.args.bytes.now c.args.ranges.now c.args.size (length l.yielded)
    l.mutations.items covered
    ∙ ap Ok (sym c.new.ensures)
