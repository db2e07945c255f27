-- Updates are passed over one after the other, as a loop does.
use Rattle.std.proofs.Common.{◌≡◌, ℕ, suc, ◌-◌, ◌+◌, ◌≤◌, ◌<◌, List, Result, Ok, Err, refl, sym, ap}
use Rattle.std.proofs.Common.{◌∙◌, arith}
use Rattle.clog_base.specs.declared.fault.PayloadFault.{PayloadFault}
use Rattle.clog_fields.specs.Reading.{seen, paired, then_read}
use Rattle.clog_mutation.specs.declared.mutation.Update.{Update}
use Rattle.clog_mutation.specs.Reading.{in_front, passed, update_at, updates_at}

-- what was read in front does not say what is left
behind_one : (first : Update) (others : Result (List Update × List ℕ) PayloadFault)
    → passed (seen in_front (paired first others)) ≡ passed others
behind_one first (Ok x) = refl
behind_one first (Err f) = refl

module _ (end n : ℕ) where
  -- one update, and n others
  abbrev more : Result (Update × List ℕ) PayloadFault → Result (List Update × List ℕ) PayloadFault
  more read = seen in_front (then_read (λ first. updates_at end n) read)

  others_left : (read : Result (Update × List ℕ) PayloadFault) (after : List ℕ)
      → passed read ≡ Ok after → passed (more read) ≡ passed (updates_at end n after)
  others_left (Ok x) after is =
      let same : x.1 ≡ after = cc in
      behind_one x.0 (updates_at end n x.1)
      ∙ ap (λ (rest : List ℕ). passed (updates_at end n rest)) same
  others_left (Err f) after is = absurd cc

  none_left : (read : Result (Update × List ℕ) PayloadFault) (fault : PayloadFault)
      → passed read ≡ Err fault → passed (more read) ≡ Err fault
  none_left (Ok x) fault is = absurd cc
  none_left (Err f) fault is = (let same : f ≡ fault = cc in ap Err same)

module _ (end count i : ℕ) (bytes : List ℕ) (total : Result (List ℕ) PayloadFault)
    (so_far : passed (updates_at end (count - i) bytes) ≡ total) where
  pub goes_on : (after : List ℕ) → i < count → passed (update_at end bytes) ≡ Ok after
      → passed (updates_at end (count - (i + 1)) after) ≡ total
  unfolding updates_at
  goes_on after lt one =
      let n = count - (i + 1) in
      let k : count - i ≡ suc n = omega arith in
      let left : passed (updates_at end (count - i) bytes) ≡ passed (updates_at end n after) =
      rw k (others_left end n (update_at end bytes) after one) in
      sym left ∙ so_far

  pub ends : (fault : PayloadFault) → i < count → passed (update_at end bytes) ≡ Err fault
      → total ≡ Err fault
  unfolding updates_at
  ends fault lt one =
      let n = count - (i + 1) in
      let k : count - i ≡ suc n = omega arith in
      let left : passed (updates_at end (count - i) bytes) ≡ Err fault =
      rw k (none_left end n (update_at end bytes) fault one) in
      sym so_far ∙ left

  pub is_done : count ≤ i → total ≡ Ok bytes
  unfolding updates_at
  is_done le =
      let k : count - i ≡ 0 = omega arith in
      let left : passed (updates_at end (count - i) bytes) ≡ Ok bytes = rw k refl in
      sym so_far ∙ left
