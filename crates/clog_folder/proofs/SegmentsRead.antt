-- Segments are read one after another, up to the first that is refused.
use Rattle.std.proofs.Common.{◌≡◌, ℕ, ◌≤◌, ◌==◌, List, ◌∷◌, ◌++◌, All, Bool, true, false, Some}
use Rattle.std.proofs.Common.{Contains, refl, subst, inl, inr, arith}
use Rattle.std.specs.BTreeMap.{is_at}
use Rattle.std.specs.List.Sorted.{IsStrictlySortedBy}
use Rattle.std.specs.Map.{keys_of, lookup}
use Rattle.std.specs.Ordering.{is_lt}
use Rattle.std.proofs.lemmas.Bool.{eqb-true, eq-eqb}
use Rattle.std.proofs.lemmas.List.Elements.{All-contains}
use Rattle.clog_spec.specs.Names.{IsSegmentName}
use Rattle.clog_base.proofs.Members.{in_map}
use Rattle.clog_disk.specs.Files.{Files}
use Rattle.clog_entry.specs.declared.cause.Cause.{Cause}
use Rattle.clog_entry.specs.Soft.{IsSoft}
use Rattle.clog_crash.specs.Damage.{IsTornAt}
use Rattle.clog_crash.specs.Folder.{IsHeld}
use Rattle.clog_crash.specs.Restore.{IsLastId}
use Rattle.clog_folder.specs.Listing.{AreRows, IsSegmentAt, SegmentPlace, segment_cmp}
use Rattle.clog_folder.specs.Segments.{AreHeld, AreReadBefore, IsDamagedAt, IsDamagedFirst}
use Rattle.clog_folder.specs.Segments.{IsFirstLong, IsGreatestId, IsTooLong, Row, SegmentHeld}
use Rattle.clog_folder.proofs.PairOrder.{not_less, pair_less}
use Rattle.clog_folder.proofs.Rows.{row_of, row_there, segment_places, stands_before}
use Rattle.clog_folder.proofs.RowsHeld.{find_held, not_long, row_is_read}

-- ---- the greatest id

pub greatest_of : (rows : List Row) (last : SegmentPlace) (name : List ℕ)
    → All (λ q. is_lt (segment_cmp last q) ≡ false) (keys_of rows)
    → lookup (is_at (segment_cmp last)) rows ≡ Some name → IsGreatestId rows last.0
greatest_of rows last name all found = record {
  most = λ row there. not_less last.0 last.1 row.0.0 row.0.1
      (All-contains (λ q. is_lt (segment_cmp last q) ≡ false) (keys_of rows) row.0 all
      (in_map (λ (r : Row). r.0) rows row there));
  one = λ row there. (
    (last, name),
    row_there segment_cmp IsSegmentAt segment_places rows last name found,
    refl,
  );
}

-- ---- the first that is refused

module _ (held : Files) (ignore : Bool) (greatest : ℕ) (rows : List Row)
    (places : AreRows segment_cmp IsSegmentAt (IsHeld held) rows)
    (top : IsGreatestId rows greatest) where
  pub last_of : (row : Row) → row.0.0 == greatest ≡ true → IsLastId held row.0.0
  last_of row is name version other named is_held =
      let most = top.most ((other, version), name)
      (places.every (other, version) name is_held named)
      in omega (arith, most, eqb-true row.0.0 greatest is)

  -- a segment of the greatest id is marked as the last
  is_marked : (row : Row) → Contains rows row → IsLastId held row.0.0 → row.0.0 == greatest ≡ true
  is_marked row there last =
      let one = top.one row there in
      let named = places.each one.0.0 one.0.1 one.1 in
      let up : one.0.0.0 ≤ row.0.0 = last one.0.1 one.0.0.1 one.0.0.0 named.1 named.0 in
      let down = top.most row there in
      eq-eqb row.0.0 greatest (omega (arith, up, down, one.2))

  module _ (front rest : List Row) (row : Row) (helds : List SegmentHeld)
      (parts : rows ≡ front ++ row ∷ rest)
      (read : AreHeld ignore greatest (Some held) front helds) where
    pub all_before : AreReadBefore ignore held row.0.1 row.0.0
    all_before name version id named is_held before =
        let there = stands_before segment_cmp IsSegmentAt segment_places front row rest
        (subst (λ (r : List Row). IsStrictlySortedBy segment_cmp (keys_of r)) parts places.ordered)
        (id, version) name
        (subst (λ (r : List Row). Contains r ((id, version), name)) parts
        (places.every (id, version) name is_held named))
        (pair_less id version row.0.0 row.0.1 before) in
        let found = find_held held ignore greatest front helds read ((id, version), name) there in
        row_is_read held ignore greatest ((id, version), name) found.0 (id == greatest) named
        found.1 (last_of ((id, version), name))

    row_there_now : Contains rows row
    row_there_now = row_of segment_cmp IsSegmentAt segment_places rows front rest row parts

    named_now : IsHeld held row.1 × IsSegmentAt row.0 row.1
    named_now = places.each row.0 row.1 row_there_now

    pub long_first : row.0.1 ≡ 6 → IsTooLong held row.1 → IsFirstLong ignore held
    long_first six long = record {
      id = row.0.0;
      name = row.1;
      named = subst (λ (v : ℕ). IsSegmentName row.1 v row.0.0) six named_now.1;
      long = long;
      before = subst (λ (v : ℕ). AreReadBefore ignore held v row.0.0) six all_before;
    }

    torn_at : (place : ℕ) (cause : Cause)
        → IsDamagedAt (Some held) (row.0.0 == greatest) row place cause
        → IsTornAt held row.1 row.0.1 row.0.0 place cause
    torn_at place cause (inl other) = inl other
    torn_at place cause (inr this) = inr (
      this.0,
      record {
        entries = this.1.torn.entries;
        end = this.1.torn.end;
        holds = record {
          named = subst (λ (v : ℕ). IsSegmentName row.1 v row.0.0) this.0 named_now.1;
          bytes = this.1.bytes;
          there = this.1.whole;
          holds = this.1.torn.segment;
        };
        tears = this.1.torn.tears;
      },
    )

    no_tail : (place : ℕ) (cause : Cause)
        → IsDamagedAt (Some held) (row.0.0 == greatest) row place cause → IsSoft cause
        → ¬ IsLastId held row.0.0
    no_tail place cause (inl other) soft last = subst IsSoft other.2 soft
    no_tail place cause (inr this) soft last =
        this.1.torn.no_tail soft (is_marked row row_there_now last)

    short_here : (place : ℕ) (cause : Cause)
        → IsDamagedAt (Some held) (row.0.0 == greatest) row place cause → row.0.1 ≡ 6
        → ¬ IsTooLong held row.1
    short_here place cause (inl other) six = absurd (other.0 six)
    short_here place cause (inr this) six =
        not_long held ignore greatest row.1 this.1.bytes this.1.whole this.1.short

    pub damaged_first : (place : ℕ) (cause : Cause) → ignore ≡ false
        → IsDamagedAt (Some held) (row.0.0 == greatest) row place cause
        → IsDamagedFirst held row.1 place cause
    damaged_first place cause strict torn =
        let before = subst (λ (i : Bool). AreReadBefore i held row.0.1 row.0.0) strict all_before in
        record {
          damage = record {
            version = row.0.1;
            id = row.0.0;
            named = named_now.1;
            held = named_now.0;
            torn = torn_at place cause torn;
            no_tail = no_tail place cause torn;
            first = λ other version id named is_held earlier.
                (before other version id named is_held earlier).good refl;
          };
          short = short_here place cause torn;
          before = before;
        }
