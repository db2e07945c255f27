-- A folder has one first damage at most, and none where it is not damaged.
use Rattle.std.proofs.Common.{◌≡◌, ℕ, inl, inr, List, sym, ◌∙◌, subst, arith}
use Rattle.std.proofs.lemmas.Bool.{cases_lt}
use Rattle.clog_spec.specs.Names.{IsSegmentName}
use Rattle.clog_disk.specs.Files.{Files}
use Rattle.clog_entry.specs.declared.cause.Cause.{Cause}
use Rattle.clog_crash.specs.Damage.{AreSegmentFiles, ComesBefore, IsFirstDamage, IsTornAt}
use Rattle.clog_crash.specs.Restore.{IsUndamaged}
use Rattle.clog_crash.proofs.damage.Places.{good_is_no_damage, torn_once}

pub undamaged_has_none : (files : Files) (name : List ℕ) (at : ℕ) (cause : Cause)
    → AreSegmentFiles files → IsUndamaged files → IsFirstDamage files name at cause → ⊥
undamaged_has_none files name at cause are undamaged d =
    let good = undamaged.segments name d.version d.id d.named d.held in
    let tail = good_is_no_damage files name d.version d.id at cause are good.0 good.1 d.torn in
    d.no_tail tail.0 tail.1

-- the first one is not before another first one
none_before : (files : Files) (name name' : List ℕ) (at at' : ℕ) (cause cause' : Cause)
    → AreSegmentFiles files → (d : IsFirstDamage files name at cause)
    → (d' : IsFirstDamage files name' at' cause')
    → ComesBefore d.version d.id d'.version d'.id → ⊥
none_before files name name' at at' cause cause' are d d' before =
    let good = d'.first name d.version d.id d.named d.held before in
    let tail = good_is_no_damage files name d.version d.id at cause are good.0 good.1 d.torn in
    d.no_tail tail.0 tail.1

pub first_damage_is_one : (files : Files) (name name' : List ℕ) (at at' : ℕ) (cause cause' : Cause)
    → AreSegmentFiles files → IsFirstDamage files name at cause
    → IsFirstDamage files name' at' cause' → (name ≡ name') × (at ≡ at') × (cause ≡ cause')
first_damage_is_one files name name' at at' cause cause' are d d' =
    elim (cases_lt d.id d'.id) [
      | inl less ↦ absurd (none_before files name name' at at' cause cause' are d d' (inl less))
      | inr not ↦ elim (cases_lt d'.id d.id) [
        | inl more ↦
            absurd (none_before files name' name at' at cause' cause are d' d (inl more))
        | inr not' ↦ same_id (omega (arith, not, not'))
      ]
    ]
  where
    same_segment : d.id ≡ d'.id → d.version ≡ d'.version
        → (name ≡ name') × (at ≡ at') × (cause ≡ cause')
    same_segment ids versions =
        let IsNamed : ℕ → ℕ → Type 0 = λ v i. IsSegmentName name v i in
        let named : IsSegmentName name d'.version d'.id =
        subst (IsNamed d'.version) ids (subst (λ (v : ℕ). IsNamed v d.id) versions d.named) in
        let names : name ≡ name' = named.form ∙ sym d'.named.form in
        let IsTorn : List ℕ → ℕ → ℕ → Type 0 = λ n v i. IsTornAt files n v i at cause in
        let torn : IsTornAt files name' d'.version d'.id at cause =
        subst (λ (n : List ℕ). IsTorn n d'.version d'.id) names
        (subst (IsTorn name d'.version) ids
        (subst (λ (v : ℕ). IsTorn name v d.id) versions d.torn)) in
        let places = torn_once files name' d'.version d'.id at at' cause cause' are torn d'.torn in
        (names, places.0, places.1)

    same_id : d.id ≡ d'.id → (name ≡ name') × (at ≡ at') × (cause ≡ cause')
    same_id ids = elim (cases_lt d.version d'.version) [
      | inl less ↦
          absurd (none_before files name name' at at' cause cause' are d d' (inr (ids, less)))
      | inr not ↦ elim (cases_lt d'.version d.version) [
        | inl more ↦ absurd (none_before files name' name at' at cause' cause are d' d
            (inr (sym ids, more)))
        | inr not' ↦ same_segment ids (omega (arith, not, not'))
      ]
    ]
