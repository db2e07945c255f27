-- Names made of numbers: which are one, and which are not.
use Rattle.std.proofs.Common.{◌≡◌, ℕ, ◌<◌, ◌^◌, List, refl, subst, arith}
use Rattle.clog_spec.specs.Names.{segment_name_of, IsSegmentName, IsTableName}
use Rattle.clog_base.proofs.NameLaws.{one_segment, segment_is_no_other}

pub is_named : (id : ℕ) → id < 2 ^ 63 → IsSegmentName (segment_name_of 6 id) 6 id
is_named id fits = record { form = refl; version_fits = omega arith; id_fits = fits }

-- a table file's name is not that of a segment
pub not_segment : (id : ℕ) (name : List ℕ) (table sequence : ℕ) → id < 2 ^ 63
    → IsTableName name table sequence → name ≡ segment_name_of 6 id → ⊥
not_segment id name table sequence fits named same =
    (segment_is_no_other (segment_name_of 6 id) 6 id (is_named id fits)).1 table sequence
    (subst (λ (n : List ℕ). IsTableName n table sequence) same named)

pub one_id : (id other : ℕ) → id < 2 ^ 63 → other < 2 ^ 63
    → segment_name_of 6 other ≡ segment_name_of 6 id → other ≡ id
one_id id other fits fits' same =
    (one_segment (segment_name_of 6 id) 6 other 6 id
    (subst (λ (n : List ℕ). IsSegmentName n 6 other) same (is_named other fits'))
    (is_named id fits)).1
