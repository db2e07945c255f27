-- A writer's notes are those of one list of lines alone.
use Rattle.std.proofs.Common.{◌≡◌, List, [], ◌∷◌, ℕ, refl, sym, ◌∙◌}
use Rattle.clog_spec.specs.Segment.{entry_bytes}
use Rattle.clog_spec.proofs.Payloads.{same_payload}
use Rattle.clog_mutation.specs.declared.mutation.Mutation.{Mutation}
use Rattle.clog_mutation.specs.Payload.{payload_of}
use Rattle.clog_mutation.proofs.Decoding.{one_mutation}
use Rattle.clog_applied.specs.History.{Line}
use Rattle.clog_notes.specs.Entries.{entry_of}
use Rattle.path_core.specs.declared.note.EntryNote.{EntryNote}
use Rattle.clog_shares.specs.Shares.{AreWritesOf, IsWriteOf}

pub entry_is : (m : Mutation) → entry_of m ≡ entry_bytes (payload_of m)
unfolding entry_of
entry_is m = refl

same_line : (w : ℕ) (l k : Line) (n : EntryNote) → IsWriteOf w l n → IsWriteOf w k n → l ≡ k
same_line w l k n a b =
    let number : l.number ≡ k.number = sym a.is.told ∙ b.is.told in
    let bytes = sym (entry_is l.mutation) ∙ (sym a.is.bytes
    ∙ (b.is.bytes ∙ entry_is k.mutation)) in
    let payload = same_payload (payload_of l.mutation) (payload_of k.mutation) bytes in
    let said : l.mutation ≡ k.mutation =
    one_mutation l.mutation k.mutation a.is.stored b.is.stored payload in
    λ i. record { number = number i; mutation = said i }

pub same_lines : (w : ℕ) (ls ks : List Line) (ns : List EntryNote) → AreWritesOf w ls ns
    → AreWritesOf w ks ns → ls ≡ ks
same_lines w [] [] [] a b = refl
same_lines w [] (k ∷ ks) [] a b = absurd b
same_lines w (l ∷ ls) ks [] a b = absurd a
same_lines w [] ks (n ∷ ns) a b = absurd a
same_lines w (l ∷ ls) [] (n ∷ ns) a b = absurd b
same_lines w (l ∷ ls) (k ∷ ks) (n ∷ ns) a b =
    let first = same_line w l k n a.0 b.0 in
    let rest = same_lines w ls ks ns a.1 b.1 in λ i. first i ∷ rest i
