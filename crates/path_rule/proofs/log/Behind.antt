-- Where the log goes on behind a synced key.
use Rattle.std.proofs.Common.{◌≡◌, ℕ, ◌+◌, ◌<◌, ◌≤◌, ◌==◌, cond, Bool, true, false, refl, sym, ap}
use Rattle.std.proofs.Common.{◌∙◌, subst, arith, ne_eqb}
use Rattle.std.proofs.lemmas.Bool.{eqb-true, false≢true, lt-ltb}
use mathlib.Core.Logic.{dite}
use native.Mathlib.Decide.{ℕ_discrete}
use Rattle.path_core.specs.declared.state.PathState.{PathState}
use Rattle.path_core.specs.Keys.{after, behind_marker, first_offset, fits, marker_size}
use Rattle.path_core.specs.Keys.{next_segment, offset_of}
use Rattle.path_core.specs.Lawful.{IsLawfulPath}
use Rattle.path_core.proofs.log.Between.{after_grows}
use Rattle.path_core.proofs.log.Deposited.{behind_front}
use Rattle.path_core.proofs.runs.EveryRun.{log_of}
use Rattle.path_rule.specs.Trails.{GoesOnBehind}
use Rattle.path_rule.proofs.log.Marks.{behind_above}

-- behind a marker, which starts above 0
pub behind_is : (capacity key : ℕ) → 0 < key → after capacity key ≡ behind_marker capacity key
behind_is capacity key some =
    ap (λ b. cond b first_offset (behind_marker capacity key))
    (ne_eqb key 0 (λ e. absurd (omega (arith, e, some))))

-- at or above the key
pub above_after : (capacity key : ℕ) → key ≤ after capacity key
above_after capacity key = by (key == 0) refl
  where
    by : (b : Bool) → (key == 0) ≡ b → key ≤ cond b first_offset (behind_marker capacity key)
    by true e = let is = eqb-true key 0 e in omega (arith, is)
    by false e = behind_above capacity key

-- no earlier than behind a marker at the key
behind_after : (capacity key : ℕ) → 4096 ≤ capacity
    → behind_marker capacity key ≤ after capacity key
behind_after capacity key large = by (key == 0) refl
  where
    by : (b : Bool) → (key == 0) ≡ b
        → behind_marker capacity key ≤ cond b first_offset (behind_marker capacity key)
    by false e = omega arith
    by true e = at_none (fits capacity key marker_size) refl
      where
        at_none : (b : Bool) → fits capacity key marker_size ≡ b
            → cond b (key + marker_size) (next_segment key) ≤ first_offset
        at_none true f = let is = eqb-true key 0 e in omega (arith, is)
        at_none false f = absurd (false≢true (sym f ∙ lt-ltb (offset_of key + marker_size) capacity
            (let is = eqb-true key 0 e in omega (arith, is, large))))

-- the log goes on no earlier behind a later synced key
pub after_rises : (x : PathState) → IsLawfulPath x → (low : ℕ) → low ≤ x.synced
    → after x.capacity low ≤ after x.capacity x.synced
after_rises x L low le = dite (ℕ_discrete low x.synced)
    (λ same. subst (λ k. after x.capacity k ≤ after x.capacity x.synced) (sym same) (omega arith))
    (λ other. let M = L.synced_below_the_log.marker (omega (arith, le, other)) in
    after_grows x.capacity low x.synced L.sized.limits.greatest_capacity
    (omega (arith, le, other)) (subst (λ k. first_offset ≤ offset_of k) M.3
    (behind_front x (log_of x L) M.0 M.1 M.2)))

pub goes_on : (x : PathState) → IsLawfulPath x → GoesOnBehind x.capacity x.synced
goes_on x L = record {
  front = after_rises x L 0 (omega arith);
  rises = λ key le. let up = after_rises x L key le in
      let low = behind_after x.capacity key L.sized.limits.least_capacity in omega (arith, up, low);
}
