use Rattle.std.proofs.Common.{List, ℕ, BTreeMap, ◌∷◌, [], ◌++◌, Contains, ap, take, sym, subst}
use Rattle.clog_folder.specs.Listing.{AreRows, IsSegmentAt, SegmentPlace, segment_cmp}
use Rattle.clog_folder.proofs.Rows.{taken, row_more, row_same, segment_places}
use Rattle.clog_folder.proofs.listing.segment_names.Goals.{in-Some+in_ok-insert, in_default}
use Rattle.clog_folder.proofs.listing.segment_names.Goals as goal

pub loop-name-preserved : goal.loop-name-preserved
loop-name-preserved c =
    let names = c.args.names.now in
    let i = c.loop-name.name-index in
    let name = c.name-item.result in
    let rows = c.loop-name.segments.entries in
    let now = c.match-parse_segment_name.segments.entries in
    let seen = taken names i name c.loop-name-test.true c.name-item.is in
    let Listed : List (List ℕ) → List (SegmentPlace × List ℕ) → Type 0 =
    λ l r. AreRows segment_cmp IsSegmentAt (Contains l) r in
    subst (λ (l : List (List ℕ)). Listed l now) seen
    (elim c.match-parse_segment_name.branch [
      | in-Some+in_ok-insert w ↦
          let new = w.insert.new.self.entries in
          subst (Listed (take i names ++ name ∷ []))
          (ap (λ (m : BTreeMap SegmentPlace (List ℕ)). m.entries) (sym w.segments-is))
          (row_more segment_cmp IsSegmentAt segment_places (take i names) name
          (w.in-Some.said.id, w.in-Some.said.version) rows new
          w.in-Some.ensures w.in_ok-insert.ensures.updates.0 w.in_ok-insert.ensures.ordered
          c.loop-name.invariant)
      | in_default w ↦
          subst (Listed (take i names ++ name ∷ []))
          (ap (λ (m : BTreeMap SegmentPlace (List ℕ)). m.entries) (sym w.segments-is))
          (row_same segment_cmp IsSegmentAt segment_places (take i names) name rows
          (λ q. w.in_default.ensures q.1 q.0) c.loop-name.invariant)
    ])
