use Rattle.std.proofs.Common.{List, ℕ, BTreeMap, ◌∷◌, [], ◌++◌, Contains, ap, take, sym, subst}
use Rattle.clog_crash.specs.Folder.{IsNameOf, Place, place_cmp}
use Rattle.clog_folder.specs.Listing.{AreRows}
use Rattle.clog_folder.proofs.Rows.{taken, row_more, row_same, table_places}
use Rattle.clog_folder.proofs.listing.table_names.Goals.{in-Some+in_ok-insert, in_default}
use Rattle.clog_folder.proofs.listing.table_names.Goals as goal

pub loop-name-preserved : goal.loop-name-preserved
loop-name-preserved c =
    let names = c.args.names.now in
    let i = c.loop-name.name-index in
    let name = c.name-item.result in
    let rows = c.loop-name.tables.entries in
    let now = c.match-parse_table_name.tables.entries in
    let seen = taken names i name c.loop-name-test.true c.name-item.is in
    let Listed : List (List ℕ) → List (Place × List ℕ) → Type 0 =
    λ l r. AreRows place_cmp IsNameOf (Contains l) r in
    subst (λ (l : List (List ℕ)). Listed l now) seen
    (elim c.match-parse_table_name.branch [
      | in-Some+in_ok-insert w ↦
          let new = w.insert.new.self.entries in
          subst (Listed (take i names ++ name ∷ []))
          (ap (λ (m : BTreeMap Place (List ℕ)). m.entries) (sym w.tables-is))
          (row_more place_cmp IsNameOf table_places (take i names) name w.in-Some.place rows new
          w.in-Some.ensures w.in_ok-insert.ensures.updates.0 w.in_ok-insert.ensures.ordered
          c.loop-name.invariant)
      | in_default w ↦
          subst (Listed (take i names ++ name ∷ []))
          (ap (λ (m : BTreeMap Place (List ℕ)). m.entries) (sym w.tables-is))
          (row_same place_cmp IsNameOf table_places (take i names) name rows
          (λ q. w.in_default.ensures q.0.0 q.1) c.loop-name.invariant)
    ])
