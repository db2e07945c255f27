-- An entry's bytes tell its payload.
use Rattle.std.proofs.Common.{
  ◌≡◌,
  ℕ,
  List,
  ◌++◌,
  length,
  take,
  drop,
  sym,
  ap,
  ◌∙◌,
  arith,
}
use Rattle.std.specs.Int.{w32, to_be_bytes}
use Rattle.std.proofs.Math.Seq.{drop-append_seam, take-append_seam}
use Rattle.clog_spec.specs.Crc.{crc32_of}
use Rattle.clog_spec.specs.Segment.{entry_bytes, entry_front, size_bytes}
use Rattle.clog_spec.proofs.Lengths.{length-entry_bytes}

-- the payload that stands in an entry's bytes
payload_back : (p : List ℕ) → take (length p) (drop 8 (entry_bytes p)) ≡ p
payload_back p =
    let check = to_be_bytes w32 (crc32_of (size_bytes p ++ p)) in
    ap (take (length p)) (drop-append_seam (entry_front (length p)) (p ++ check))
    ∙ take-append_seam p check

-- entries of the same bytes have one payload
pub same_payload : (p q : List ℕ) → entry_bytes p ≡ entry_bytes q → p ≡ q
same_payload p q same =
    let size : length p ≡ length q =
    omega (arith, length-entry_bytes p, length-entry_bytes q, ap length same) in
    sym (payload_back p) ∙ ap (λ (n : ℕ). take n (drop 8 (entry_bytes p))) size
    ∙ ap (λ (b : List ℕ). take (length q) (drop 8 b)) same ∙ payload_back q
