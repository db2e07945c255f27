-- A table file that a store puts comes behind the log up to its end, and is settled.
use Rattle.std.proofs.Common.{
  ◌≡◌,
  ℕ,
  ◌<◌,
  ◌≤◌,
  ◌^◌,
  false,
  inl,
  inr,
  List,
  [],
  ◌∷◌,
  ◌++◌,
  Option,
  refl,
  sym,
  ◌∙◌,
  ap,
  subst,
  arith,
  append-nil,
}
use Rattle.std.specs.Prelude.{option_map}
use Rattle.std.proofs.lemmas.Bool.{true≢false}
use Rattle.std.proofs.lemmas.List.Elements.{Contains-append_right, Contains-push_cases}
use base.Stored.{Gv}
use Rattle.clog_spec.specs.Names.{table_name_of}
use Rattle.clog_base.specs.declared.cell.Cell.{Cell}
use Rattle.clog_base.specs.declared.cell.CellKey.{CellKey}
use Rattle.clog_base.specs.declared.sizes.Sizes.{Sizes}
use Rattle.clog_base.proofs.Members.{here, nothing_there}
use Rattle.clog_disk.specs.declared.change.Change.{Change}
use Rattle.clog_disk.specs.declared.change.Change.TheVariants as change
use Rattle.clog_disk.specs.Files.{Files}
use Rattle.clog_scan.specs.Cut.{Section}
use Rattle.clog_crash.specs.Grown.{appends_of}
use Rattle.clog_crash.specs.Readings.{Reading}
use Rattle.clog_table.specs.Refusals.{IsFileOf}
use Rattle.path_core.specs.Keeper.{Holding, MayPublish, PutFile}
use Rattle.path_core.specs.Keys.{after}
use Rattle.clog_segments.specs.declared.publishing.Published.{Published}
use Rattle.clog_segments.specs.Grows.{IsGrown}
use Rattle.clog_segments.specs.Life.{State}
use Rattle.clog_segments.specs.NoteLog.{HasLog, IsNoteLog, NoteState}
use Rattle.clog_segments.specs.Publishes.{file_at}
use Rattle.clog_segments.specs.StoreFolder.{PlacedFile, StoreLog, log_of}
use Rattle.clog_segments.specs.StoreOrder.{
  AreOrdered,
  AreSettled,
  ComesBehind,
  IsSettled,
  IsSpelled,
  StandsBehind,
  publish_of,
}
use Rattle.clog_segments.specs.StoreState.{
  HasGrown,
  HasOrdered,
  IsStore,
  KeepsOrder,
  StoreState,
  deeds_by,
  holding_of,
  put_of,
}
use Rattle.clog_due.proofs.Cuts.{only_cut, put_one}
use Rattle.clog_due.proofs.NotePast.{note_appended}
use Rattle.clog_due.proofs.OrderGoes.{ordered_on}
use Rattle.clog_store.proofs.OrderSyncs.{settled_by, settled_same}
use Rattle.clog_store.proofs.StoreBeside.{grown_beside}

-- while the disk has not failed the growth has brought all sections
pub all_grown : {D : Type 0} (changes : D → Option (List Change)) (first : D) (log : State D)
    → log.is_stopped ≡ false → (h : HasGrown changes first log)
    → IsGrown (appends_of h.added) log.past log.id log.sections
all_grown changes first log runs h = elim h.brought [
  | inl all ↦ subst (λ (l : List Section). IsGrown (appends_of h.added) log.past log.id l)
      (sym all) h.grown
  | inr torn ↦ absurd (true≢false (sym torn.2 ∙ runs))
]

module _ {D : Type 0} (files : D → Option Files) (changes : D → Option (List Change))
    (moment faults : D → ℕ) (read_at : D → ℕ → Option Reading) (lasted_at : D → ℕ → Type 0)
    (code : D → Gv) (s : StoreState D)
    (kept : IsStore files changes moment faults read_at lasted_at s)
    (runs : s.notes.log.is_stopped ≡ false) (noted : IsNoteLog s.notes) (file : Published)
    (cells : List (CellKey × Cell))
    (may : MayPublish (holding_of files changes moment faults code s) (put_of file cells))
    (sequence : ℕ) (starts : 0 < sequence) (fits : sequence < 2 ^ 63) (l : State D)
    (same : l ≡ record s.notes.log { disk = l.disk; is_stopped = l.is_stopped })
    (mind : log_of (record s.notes { log = l }) ≡ log_of s.notes) (bytes : List ℕ)
    (spelled : IsFileOf file.table bytes (file_at s.notes.base file cells))
    (adds : changes l.disk ≡ option_map (λ made.
    made ++ change.Publish (table_name_of file.table.0 sequence) bytes ∷ [])
    (changes s.notes.log.disk)) where
  abbrev put : PutFile
  put = put_of file cells

  abbrev n : NoteState D
  n = record s.notes { log = l }

  abbrev t : StoreState D
  t = record s { notes = n; files = s.files ++ put ∷ [] }

  abbrev placed : PlacedFile
  placed = record { put = put; sequence = sequence; bytes = bytes }

  -- ---- it is settled

  new_settled : (h : Holding) → HasLog n h → IsSettled h put
  new_settled h has =
      settled_by (holding_of files changes moment faults code s) h put has.logged_are
      (subst (λ (z : Sizes). put.upper ≤ after z.capacity h.synced) (sym has.sizes_are)
      (subst (λ (k : ℕ). put.upper ≤ after s.notes.sizes.capacity k) (sym has.synced_is)
      may.lasting)) may.merged

  all_settled : AreSettled n (s.files ++ put ∷ [])
  all_settled h has p among = elim (Contains-push_cases s.files put p among) [
    | inl old ↦ settled_same s.notes n s.files refl refl refl kept.order.settled h has p old
    | inr is ↦ subst (IsSettled h) is (new_settled h has)
  ]

  -- ---- it comes behind the log

  is_spelled : IsSpelled s.notes.base placed
  is_spelled = record {
    named = record {
      form = refl;
      table_fits = omega (arith, may.table_is, s.notes.sizes.within.few_tables);
      sequence_starts = starts;
      sequence_fits = fits;
    };
    spelled = spelled;
  }

  comes : (h : HasOrdered changes s)
      → ComesBehind (log_of s.notes) (deeds_by t) h.growth.added
      (table_name_of file.table.0 sequence) bytes
  comes h = record {
    file = placed;
    was_put = Contains-append_right s.files (put ∷ []) put (here put []);
    is_spelled = is_spelled;
    name_is = refl;
    bytes_are = refl;
    behind = λ m among upto. note_appended s.notes noted runs kept.sound
        (appends_of h.growth.added) (all_grown changes s.first s.notes.log runs h.growth) m among;
  }

  stands : (h : HasOrdered changes s) (front rest : List Change) (c : Change)
      → publish_of placed ∷ [] ≡ front ++ c ∷ rest
      → StandsBehind (log_of s.notes) (deeds_by t) (h.growth.added ++ front) c
  stands h front rest c is =
      let added = h.growth.added in
      let only = only_cut (publish_of placed) front c rest is in
      subst (λ (f : List Change). StandsBehind (log_of s.notes) (deeds_by t) f c)
      (sym (ap (λ (f : List Change). added ++ f) (sym only.0) ∙ append-nil added))
      (subst (λ (x : Change). StandsBehind (log_of s.notes) (deeds_by t) added x) only.1
      (comes h))

  ordered_now : HasOrdered changes t
  unfolding grown_beside
  ordered_now =
      let h = kept.order.ordered in
      let last = publish_of placed ∷ [] in
      record {
        growth = grown_beside changes s.first s.notes.log l last h.growth runs same adds refl;
        ordered = subst (λ (x : StoreLog). AreOrdered x (deeds_by t) (h.growth.added ++ last))
            (sym mind)
            (ordered_on (log_of s.notes) (deeds_by s) s.notes.log.past [] s.notes.log.id
            s.notes.log.sections s.notes.logged [] (s.files ++ put ∷ []) (put ∷ []) s.dropped
            s.archived (sym (append-nil s.notes.log.past)) (sym (append-nil s.notes.logged)) refl
            (λ m among. absurd (nothing_there m among)) (λ m among. absurd (nothing_there m among))
            (λ o listed. listed) (λ o listed. listed) h.growth.added last h.ordered (stands h)
            (put_one s.notes.base h.growth.added s.files placed is_spelled
            h.ordered.files));
      }

  pub order_put : KeepsOrder changes t
  order_put = record { settled = all_settled; ordered = ordered_now }
