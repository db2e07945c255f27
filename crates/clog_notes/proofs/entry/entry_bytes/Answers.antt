use Rattle.std.proofs.Common.{◌≡◌, ◌∙◌, ℕ, List, [], ◌++◌, ◌-◌, ap, arith, length, refl}
use Rattle.clog_spec.specs.Segment.{entry_front}
use Rattle.clog_mutation.specs.Payload.{payload_of}
use Rattle.clog_notes.specs.Entries.{entry_of}
use Rattle.clog_notes.proofs.entry.entry_bytes.Goals as goal

pub returns-clause-bytes : goal.returns-clause-bytes
unfolding entry_of
returns-clause-bytes c =
    let payload = payload_of c.args.mutation.now in
    let sized : c.args.size - 12 ≡ length payload = omega (arith, c.requires.size.0) in
    c.in_ok-end_entry.ensures.ok [] payload refl
    (c.in_ok-put_mutation.ensures.bytes
    ∙ ap (λ (l : List ℕ). l ++ payload)
    (c.in_ok-begin_entry.ensures.ok
    ∙ ap (λ (l : List ℕ). l ++ entry_front (c.args.size - 12)) c.in_ok-out.ensures.items
    ∙ ap (λ (n : ℕ). entry_front n) sized))
