-- What was read of a folder is what its recovery needs.
use Rattle.std.proofs.Common.{◌≡◌, ℕ, ◌<◌, List, [], ◌∷◌, map, Contains, refl, sym, ap, subst, ◌∙◌}
use Rattle.std.proofs.Common.{inl, inr, arith}
use Rattle.std.specs.FinMap as finmap
use Rattle.clog_base.specs.declared.cell.Cell.{Cell}
use Rattle.clog_base.specs.declared.cell.CellKey.{CellKey}
use Rattle.clog_base.specs.declared.position.Position.{Position}
use Rattle.clog_base.specs.Positions.{IsUpTo}
use Rattle.clog_base.proofs.Members.{first_or_further, further, here, nothing_there}
use Rattle.clog_disk.specs.Files.{Files, bytes_at}
use Rattle.clog_scan.specs.Segment.{Entry}
use Rattle.clog_crash.specs.Counts.{IsLog, LoggedMutation}
use Rattle.clog_crash.specs.Readings.{IsLoggedCellIn, IsLoggedIn}
use Rattle.clog_crash.specs.Recovery.{IsGreatestPosition}
use Rattle.clog_crash.specs.Restore.{end_position}
use Rattle.clog_crash.proofs.Good.{payload_is_said}
use Rattle.clog_crash.proofs.changes.BothWays.{logged, logged_in}
use Rattle.clog_crash.proofs.recovery.Decided.{skipped_in_or_not}
use Rattle.clog_crash.proofs.recovery.Whole.{ends_behind}
use Rattle.clog_folder.specs.declared.tables.TableHeld.{TableHeld}
use Rattle.clog_folder.specs.Folder.{PlacedPayload, Say}
use Rattle.clog_folder.specs.Tables.{read_of}
use Rattle.replay_merge.specs.Logged.{AreLive, IsTop, start}
use Rattle.clog_segments.specs.Filing.{IsReady}
use Rattle.clog_segments.specs.Live.{HasLog}
use Rattle.clog_segments.proofs.Live.{is_log, live_merge, said}

-- each payload is a mutation's that is logged
told_of : (ps : List PlacedPayload) (log : List LoggedMutation) (p : PlacedPayload) → Say ps log
    → Contains ps p → (l : LoggedMutation) × Contains log l × (l.at ≡ p.0)
told_of [] log p is there = absurd (nothing_there p there)
told_of (first ∷ ps) log p is there = elim (first_or_further first ps p there) [
  | inl same ↦ (
    is.0,
    subst (λ (ls : List LoggedMutation). Contains ls is.0) (sym is.1.1) (here is.0 is.1.0),
    is.1.2 ∙ ap (λ (x : PlacedPayload). x.0) same,
  )
  | inr more ↦
      let rest = told_of ps is.1.0 p is.1.4 more in (
        rest.0,
        subst (λ (ls : List LoggedMutation). Contains ls rest.0) (sym is.1.1)
            (further is.0 is.1.0 rest.0 rest.1),
        rest.2,
      )
]

-- nothing but the very beginning is up to it
up_to_start : (id offset : ℕ) → 0 < offset → IsUpTo (record { id = id; offset = offset }) start
    → ⊥
up_to_start id offset some (inl less) = omega (arith, less)
up_to_start id offset some (inr same) = omega (arith, some, same.1)

module _ (first : Files) (tables : List TableHeld) (ps : List PlacedPayload)
    (has_log : HasLog tables ps first) (cells : List (CellKey × Cell))
    (live : AreLive tables ps cells) (top : Position) (is_top : IsTop ps top) where
  log_is : IsLog first live.log
  log_is = is_log tables ps cells live first has_log

  -- an entry that is logged has a payload there
  placed_one : (id : ℕ) (entry : Entry) → IsLoggedIn (bytes_at first) id entry
      → (p : PlacedPayload) × Contains ps p × (p.0 ≡ end_position id entry)
  placed_one id entry l =
      let there = logged first id entry l in
      let s = there.segment in
      let mutation = payload_is_said first there.name s.bytes id there.entries there.end entry
      (has_log.read.readable.undamaged refl) s.named s.there
      (has_log.are_files there.name s.bytes id s.named s.there) s.holds there.listed in
      let m : LoggedMutation = record { at = end_position id entry; mutation = mutation.0 } in
      let p = said ps live.log m live.say ((log_is.are m).0 (record {
        entry = entry;
        logged = there;
        place = refl;
        said = mutation.1;
      })) in
      (p.0, p.1, sym p.2)

  behind : (id : ℕ) (entry : Entry) → IsLoggedIn (bytes_at first) id entry
      → IsUpTo (end_position id entry) top
  behind id entry l =
      let p = placed_one id entry l in
      subst (λ (at : Position). IsUpTo at top) p.2 (is_top.behind p.0 p.1)

  greatest : (pair : CellKey × Cell) → IsLoggedCellIn (bytes_at first) pair
      → IsGreatestPosition (bytes_at first) top
  greatest pair c = elim is_top.one [
    | inl begins ↦ absurd (up_to_start c.id c.entry.end
        (ends_behind (bytes_at first) c.id c.entry c.logged)
        (subst (IsUpTo (end_position c.id c.entry)) begins (behind c.id c.entry c.logged)))
    | inr has ↦
        let l = told_of ps live.log has.0 live.say has.1 in
        let m = (log_is.are l.0).1 l.1 in
        record {
          id = l.0.at.id;
          entry = m.entry;
          logged = logged_in first l.0.at.id m.entry m.logged;
          is = m.place ∙ l.2 ∙ has.2;
          behind = behind;
        }
  ]

  pub ready_of : (names : List (List ℕ)) → names ≡ finmap.keys first
      → IsReady first names cells top
  ready_of names lists = record {
    lists = lists;
    undamaged = has_log.read.readable.undamaged refl;
    live = live_merge tables ps cells live first has_log;
    greatest = greatest;
    decides = skipped_in_or_not first (map read_of tables) has_log.read.are_tables;
  }
