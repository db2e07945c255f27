-- A name in a row of as many bytes as the longest one, with zeros behind it.
use Rattle.std.specs.Prelude.{◌≡◌, ◌≤◌, ℕ, ◌-◌, List, ◌++◌, length, take, true, replicate}
use Rattle.clog_spec.specs.Names.{is_name}
use Rattle.clog_spec.specs.Sizes.{longest_file_name}
use Rattle.clog_base.specs.declared.name.Name.TheInside.{Inside}
use Rattle.std.proofs.Common.{arith, sym, ap, ◌∙◌}
use Rattle.std.proofs.lemmas.List.{length-take}

abbrev pub name_bytes : Inside → List ℕ
name_bytes n = take n.len n.bytes

pub record IsPadded (n : Inside) : Type 0 where
  pub len : n.len ≤ longest_file_name
  pub row : length n.bytes ≡ longest_file_name
  pub zeros : n.bytes ≡ take n.len n.bytes ++ replicate (longest_file_name - n.len) 0
  pub name : is_name (take n.len n.bytes) ≡ true

abbrev pub padded : List ℕ → Inside
padded bytes = record {
  bytes = bytes ++ replicate (longest_file_name - length bytes) 0;
  len = length bytes;
}

pub padded_ok : (n : Inside) → IsPadded n → padded (name_bytes n) ≡ n
padded_ok n h =
    let e : length (take n.len n.bytes) ≡ n.len = omega (
      arith,
      length-take n.len n.bytes,
      h.len,
      h.row,
    ) in
    let z : take n.len n.bytes ++ replicate (longest_file_name - length (take n.len n.bytes)) 0
    ≡ n.bytes = ap (λ k. take n.len n.bytes ++ replicate (longest_file_name - k) 0) e ∙ sym h.zeros
    in λ i. record { bytes = z i; len = e i }
