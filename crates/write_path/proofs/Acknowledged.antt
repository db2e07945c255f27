-- From a write that was logged, over the sync behind it, to what its commit answers.
use Rattle.std.proofs.Common.{◌≡◌, ℕ, ◌≤◌, List, map, refl, sym, ap, ◌∙◌, subst, arith}
use Rattle.std.specs.List.{Contains}
use Rattle.clog_base.specs.Positions.{position_of}
use Rattle.path_core.specs.declared.event.Cursor.TheVariants.{Synced, Stopped as StoppedCursor}
use Rattle.path_core.specs.declared.event.Event.{Event}
use Rattle.path_core.specs.declared.event.Place.TheVariants.{CursorWord}
use Rattle.path_core.specs.declared.note.EntryNote.{EntryNote}
use Rattle.path_rule.specs.declared.answer.SyncAnswer.TheVariants.{Done}
use Rattle.path_rule.specs.declared.view.OwnStep.{OwnStep}
use Rattle.path_rule.specs.declared.view.PathSize.{PathSize}
use Rattle.path_rule.specs.declared.view.View.{View}
use Rattle.path_rule.specs.Rounds.{RoundSteps}
use Rattle.path_rule.specs.Rule.{event_of}
use Rattle.sync_core.specs.declared.SyncCore.TheVariants.{Batch}
use Rattle.write_path.specs.declared.commit.Commit.{Commit}
use Rattle.write_path.specs.declared.commit.Commit.TheVariants.{Logged, Durable, Unsynced, Spent}
use Rattle.write_path.specs.declared.commit.Receipt.{Receipt}
use Rattle.write_path.specs.declared.commit.SyncFault.TheVariants.{Stopped, OutOfMemory}
use Rattle.write_path.specs.declared.prepared.Prepared.{Prepared}
use Rattle.write_path.specs.Commits.{IsLogged}
use Rattle.path_flush.specs.OwnWrites.{writes_of}
use Rattle.write_path.specs.Ends.{IsLast, IsListed}
use Rattle.path_flush.specs.Grown.{HasGrown}
use Rattle.write_path.specs.Receipts.{Acknowledges, HasReceipt, IsCommitted, IsLineOf}
use Rattle.write_path.specs.Syncs.{CoversList}
use Rattle.write_path.specs.Unretired.{GrowsUnretired}
use Rattle.write_path.proofs.Growing.{both}
use Rattle.write_path.proofs.Sealing.{found_in, stays_last}
use Rattle.path_flush.proofs.SwitchGoes.{kept_both, none_both, round_kept, round_none}

-- A synced key that covers a list covers the list's newest write.
pub reached : (w s start end tables : ℕ) (before : List OwnStep) (p : Prepared) (v : View)
    → IsListed before v.trail w start end tables p → CoversList (Done s) v → end ≤ s
reached w s start end tables before p v L covers =
    subst (λ k. k ≤ s) L.ends
    (covers L.note (subst (λ (l : List EntryNote). Contains l L.note) (sym L.list)
    (0, omega arith, refl)))

-- a trail grows by a sync's steps
by_rounds : {n : ℕ} (w : ℕ) (puts : List Event) (v after : View) → RoundSteps w n puts v after
    → GrowsUnretired v.trail after.trail
by_rounds w puts v after S =
    let newer : HasGrown v.trail after.trail = record { newer = S.steps; is = S.trail } in
    (newer, round_kept w S.steps S.are, round_none w S.steps S.are)

-- A receipt stands where the list does, and the write is the seat's last.
abbrev pub stands : (base w : ℕ) (before : List OwnStep) (p : Prepared) (r x : Receipt)
    (v after : View) → (H : HasReceipt base w before p r v.trail)
    → writes_of after.trail ≡ writes_of v.trail
    → IsLast H.logged.listed.note (map event_of after.trail) → GrowsUnretired v.trail after.trail
    → x ≡ r
    → HasReceipt base w before p x after.trail
stands base w before p r x v after H same last grown is =
    let L = H.logged.listed in record {
      start = H.start;
      end = H.end;
      logged = record {
        behind = H.logged.behind;
        tables = H.logged.tables;
        listed = record {
          note = L.note;
          list = same ∙ L.list;
          last = last;
          writer = L.writer;
          starts = L.starts;
          ends = L.ends;
          tables_are = L.tables_are;
          of = L.of;
        };
        grown = both before v.trail after.trail H.logged.grown grown.0;
        kept = kept_both grown.0.newer H.logged.grown.newer grown.1 H.logged.kept;
        unswitched = none_both grown.0.newer H.logged.grown.newer grown.2 H.logged.unswitched;
      };
      position = ap (λ (y : Receipt). y.position) is ∙ H.position;
      line = λ sizes line m P. ap (λ (y : Receipt). y.line) is ∙ H.line sizes line m P;
    }

pub acknowledged : (size : PathSize) (w : ℕ) (before : List OwnStep) (p : Prepared) (r : Receipt)
    (c : Commit) (v after : View) → HasReceipt size.base w before p r v.trail
    → Acknowledges w size.at_open v r c after → IsCommitted Batch size w before p c after
acknowledged size w before p r (Logged x) v after H A = absurd A
acknowledged size w before p r (Durable x) v after H A = let S = A.1.1 in
    let n = H.logged.listed.note in let puts = S.answers.puts in
    let K = stands size.base w before p r x v after H S.list
    (stays_last w n puts v after S.answers.steps H.logged.listed.last)
    (by_rounds w puts v after S.answers.steps) A.0 in
    let up = reached w A.1.0 K.start K.end K.logged.tables before p after K.logged.listed
    S.covers in (
      K,
      record {
        synced = A.1.0;
        found = S.answers.is.0;
        reached = up;
        covers = S.covers;
      },
      (
        A.1.0,
        (let ends = H.logged.listed.ends in omega arith),
        found_in w n puts v after S.answers.steps H.logged.listed.last (CursorWord Synced) A.1.0
            S.answers.now,
      ),
    )
acknowledged size w before p r (Unsynced x (Stopped at_open now)) v after H A =
    let S = A.1 in let n = H.logged.listed.note in let puts = S.answers.puts in
    let I = S.answers.is in (
      stands size.base w before p r x v after H S.list
          (stays_last w n puts v after S.answers.steps H.logged.listed.last)
          (by_rounds w puts v after S.answers.steps) A.0,
      (I.0, I.1, I.2),
      found_in w n puts v after S.answers.steps H.logged.listed.last (CursorWord StoppedCursor) now
          S.answers.now,
    )
acknowledged size w before p r (Unsynced x OutOfMemory) v after H A =
    let S = A.1 in let n = H.logged.listed.note in let puts = S.answers.puts in (
      stands size.base w before p r x v after H S.list
          (stays_last w n puts v after S.answers.steps H.logged.listed.last)
          (by_rounds w puts v after S.answers.steps) A.0,
      tt,
      tt,
    )
acknowledged size w before p r (Spent back key) v after H A = absurd A

-- A write that was logged has the receipt of its line and its end.
pub receipted : (base w line start end : ℕ) (before after : List OwnStep) (p : Prepared)
    (r : Receipt) → IsLineOf p line → IsLogged before w start end p after → r.line ≡ line
    → r.position ≡ position_of base end → HasReceipt base w before p r after
receipted base w line start end before after p r of L same at = record {
  start = start;
  end = end;
  logged = L;
  position = at;
  line = λ sizes l m P. same ∙ of sizes l m P;
}
