-- Segments that a store lets go stand behind all that was appended to them, their archive names,
-- and the table files that stand for them.
use Rattle.std.proofs.Common.{
  ◌≡◌,
  ℕ,
  ◌+◌,
  ◌<◌,
  Bool,
  true,
  false,
  inl,
  inr,
  List,
  [],
  ◌∷◌,
  ◌++◌,
  Option,
  get_or,
  length,
  take,
  drop,
  Contains,
  refl,
  sym,
  ◌∙◌,
  ap,
  subst,
  arith,
  append-nil,
}
use Rattle.std.specs.Prelude.{option_map}
use Rattle.std.proofs.lemmas.List.{get_or-drop, get_or_default}
use Rattle.std.proofs.lemmas.List.Elements.{Contains-append_left, Contains-append_right}
use base.Stored.{Gv}
use Rattle.clog_spec.specs.Names.{archive_name_of, segment_name_of}
use Rattle.clog_base.proofs.Members.{nothing_there}
use Rattle.clog_disk.specs.declared.change.Change.{Change}
use Rattle.clog_disk.specs.declared.change.Change.TheVariants as change
use Rattle.clog_disk.specs.Files.{Files}
use Rattle.clog_crash.specs.Grown.{Append, appends_of, grown}
use Rattle.clog_crash.specs.Log.{Write}
use Rattle.clog_crash.specs.Readings.{Reading}
use Rattle.clog_crash.proofs.counts.Growing.{appends_of-append}
use Rattle.path_core.specs.Keeper.{Holding, MayDrop}
use Rattle.clog_segments.specs.Discards.{all_go_by, next_by}
use Rattle.clog_segments.specs.Life.{State}
use Rattle.clog_segments.specs.NoteLog.{IsNoteLog, NoteState}
use Rattle.clog_due.specs.StoreDrops.{AreDueIn, AreEarlier, HasBeside}
use Rattle.clog_segments.specs.StoreFolder.{Deeds, IsPast, StoreLog, log_of, with_first_gone}
use Rattle.clog_segments.specs.StoreOrder.{AreOrdered, IsFiledWhole, IsWholeIn, StandsBehind}
use Rattle.clog_segments.specs.StoreState.{
  HasOrdered,
  IsStore,
  KeepsOrder,
  StoreState,
  deeds_by,
  holding_of,
}
use Rattle.clog_due.proofs.Cuts.{
  AreQuiet,
  cut_of,
  put_still,
  quiet_appends,
  quiet_publishes,
}
use Rattle.clog_due.proofs.DroppedLists.{first_dropped, in_front}
use Rattle.clog_due.proofs.GoneCuts.{
  first_go_by,
  first_listed,
  go_cut,
  had_listed,
  link_at,
  next_cut,
  next_listed,
  quiet_first,
  remove_at,
}
use Rattle.clog_due.proofs.NotePast.{past_of}
use Rattle.clog_due.proofs.OrderGoes.{ordered_on}
use Rattle.clog_store.proofs.OrderPuts.{all_grown}
use Rattle.clog_store.proofs.OrderSyncs.{settled_same}
use Rattle.clog_store.proofs.StoreBeside.{grown_beside}

module _ {D : Type 0} (files : D → Option Files) (changes : D → Option (List Change))
    (moment faults : D → ℕ) (read_at : D → ℕ → Option Reading) (lasted_at : D → ℕ → Type 0)
    (code : D → Gv) (s : StoreState D)
    (kept : IsStore files changes moment faults read_at lasted_at s)
    (runs : s.notes.log.is_stopped ≡ false) (is : IsNoteLog s.notes) (closed : ℕ)
    (os : List ℕ) (due : AreDueIn s closed os) (low : AreEarlier s.notes os) where
  abbrev h : Holding
  h = holding_of files changes moment faults code s

  has : HasBeside s.notes s.files s.dropped h
  has = record {
    log = record {
      base_is = refl;
      sizes_are = refl;
      synced_is = refl;
      logged_are = refl;
      kept_are = refl;
    };
    files_are = refl;
    dropped_are = refl;
  }

  -- ---- what is due

  may_drop : (o : ℕ) → Contains os o → MayDrop h o
  may_drop o among = (((due h has).exact o).0 among).1

  past : (o : ℕ) → Contains os o → IsPast (log_of s.notes) o
  past o among =
      let may = may_drop o among in
      subst (IsPast (log_of s.notes)) may.here
      (past_of s.notes is may.note may.among
      (subst (λ (k : ℕ). s.notes.base + k < s.notes.log.id) (sym may.here) (low o among)))

  filed : (o : ℕ) → Contains os o → IsFiledWhole s.notes.logged s.files o
  filed o among = (may_drop o among).filed

  -- ---- what has gone

  module _ (n : NoteState D) (notes : n ≡ record s.notes { log = n.log })
      (same : n.log ≡ record s.notes.log { disk = n.log.disk; is_stopped = n.log.is_stopped })
      (count : ℕ) (is_named : Bool) (named_only : is_named ≡ true → s.archives ≡ true)
      (named_inside : is_named ≡ true → count < length os)
      (made : changes n.log.disk ≡ option_map (λ made.
      made ++ first_go_by s.archives s.notes.base os count is_named) (changes s.notes.log.disk))
    where
      abbrev now_done : Deeds
      now_done = with_first_gone (deeds_by s) os count is_named

      abbrev t : StoreState D
      t = record s { notes = n; dropped = now_done.dropped; archived = now_done.archived }

      abbrev gone : List Change
      gone = first_go_by s.archives s.notes.base os count is_named

      dropped_are : now_done.dropped ≡ s.dropped ++ take count os
      dropped_are = first_dropped (deeds_by s) os count is_named

      had_dropped : (o : ℕ) → Contains s.dropped o → Contains now_done.dropped o
      had_dropped o had =
          subst (λ (l : List ℕ). Contains l o) (sym dropped_are)
          (Contains-append_left s.dropped (take count os) o had)

      log_same : log_of s.notes ≡ log_of n
      log_same = λ i. record {
        base = sym (ap (λ (x : NoteState D). x.base) notes) i;
        past = sym (ap (λ (x : State D). x.past) same) i;
        id = sym (ap (λ (x : State D). x.id) same) i;
        sections = sym (ap (λ (x : State D). x.sections) same) i;
        logged = sym (ap (λ (x : NoteState D). x.logged) notes) i;
      }

      module _ (o : HasOrdered changes s) where
        abbrev added : List Change
        added = o.growth.added

        -- of an earlier segment all was appended
        whole : (f : List Change) → AreQuiet f → (w : Write) → Contains s.notes.log.past w
            → IsWholeIn (added ++ f) w
        whole f quiet w among =
            let hand : Write = record { id = s.notes.log.id; sections = s.notes.log.sections } in
            ap (λ (l : List Append). grown l (segment_name_of 6 w.id))
            (appends_of-append added f
            ∙ ap (λ (l : List Append). appends_of added ++ l) (quiet_appends f quiet)
            ∙ append-nil (appends_of added))
            ∙ (all_grown changes s.first s.notes.log runs o.growth).each w
            (Contains-append_left s.notes.log.past (hand ∷ []) w among)

        named_at : (f : List Change) → AreQuiet f → (i : ℕ) → Contains os i
            → Contains now_done.archived i
            → StandsBehind (log_of s.notes) (deeds_by t) (added ++ f) (link_at (s.notes.base + i))
        named_at f quiet i among listed =
            let p = past i among in
            record {
              ordinal = i;
              listed = listed;
              past = p;
              old_is = ap (segment_name_of 6) (sym p.id_is);
              new_is = ap archive_name_of (sym p.id_is);
              whole = whole f quiet p.segment p.among;
            }

        goes_at : (f : List Change) → AreQuiet f → (i : ℕ) → Contains (take count os) i
            → (s.archives ≡ true → Contains f (link_at (s.notes.base + i)))
            → StandsBehind (log_of s.notes) (deeds_by t) (added ++ f)
            (remove_at (s.notes.base + i))
        goes_at f quiet i first link =
            let among = in_front count os i first in
            let p = past i among in
            record {
              ordinal = i;
              listed = subst (λ (l : List ℕ). Contains l i) (sym dropped_are)
                  (Contains-append_right s.dropped (take count os) i first);
              past = p;
              name_is = ap (segment_name_of 6) (sym p.id_is);
              whole = whole f quiet p.segment p.among;
              archived = λ yes. subst (λ (k : ℕ). Contains (added ++ f)
                  (change.Link (segment_name_of 6 (s.notes.base + i)) (archive_name_of k)))
                  (sym p.id_is)
                  (Contains-append_right added f (link_at (s.notes.base + i)) (link yes));
              put = s.files;
              later = [];
              files_are = sym (append-nil s.files);
              put_by = put_still s.notes.base added f s.files (quiet_publishes f quiet)
                  o.ordered.files;
              filed = filed i among;
            }

        stands : (f rest : List Change) (c : Change) → gone ≡ f ++ c ∷ rest
            → StandsBehind (log_of s.notes) (deeds_by t) (added ++ f) c
        stands f rest c cut =
            let all = quiet_first s.archives s.notes.base os count is_named in
            let quiet : AreQuiet f = λ d among.
            all d (subst (λ (l : List Change). Contains l d) (sym cut)
            (Contains-append_left f (c ∷ rest) d among)) in
            elim (cut_of (all_go_by s.archives s.notes.base (take count os))
            (next_by is_named s.notes.base (drop count os)) f c rest cut) [
              | inl within ↦ elim (go_cut s.archives s.notes.base (take count os) f c within.rest
                  within.is) [
                    | inl name ↦ subst (StandsBehind (log_of s.notes) (deeds_by t) (added ++ f))
                        name.is
                        (named_at f quiet name.ordinal (in_front count os name.ordinal name.listed)
                        (first_listed (deeds_by s) os count is_named named_only named_inside
                        name.ordinal name.archived name.listed))
                    | inr goes ↦ subst (StandsBehind (log_of s.notes) (deeds_by t) (added ++ f))
                        goes.is
                        (goes_at f quiet goes.ordinal goes.listed goes.archived)
                  ]
              | inr behind ↦
                  let next = next_cut is_named s.notes.base (drop count os) behind.more c rest
                  behind.rest_is in
                  let i = get_or os count 0 in
                  let which : get_or (drop count os) 0 0 ≡ i =
                  get_or-drop count os 0 0 ∙ ap (λ (k : ℕ). get_or os k 0) (plus_none count) in
                  subst (StandsBehind (log_of s.notes) (deeds_by t) (added ++ f))
                  (ap (λ (k : ℕ). link_at (s.notes.base + k)) (sym which) ∙ next.2)
                  (named_at f quiet i (at_there (named_inside next.0))
                  (next_listed (deeds_by s) os count is_named next.0 (named_only next.0)
                  (named_inside next.0)))
            ]
          where
            plus_none : (k : ℕ) → k + 0 ≡ k
            plus_none k = omega arith

            at_there : count < length os → Contains os (get_or os count 0)
            at_there inside = (count, inside, get_or_default os count (get_or os count 0) 0 inside)

        pub ordered_gone : HasOrdered changes t
        unfolding grown_beside
        ordered_gone = record {
          growth = grown_beside changes s.first s.notes.log n.log gone o.growth runs same made
              (quiet_appends gone (quiet_first s.archives s.notes.base os count is_named));
          ordered = subst (λ (x : StoreLog). AreOrdered x (deeds_by t) (added ++ gone)) log_same
              (ordered_on (log_of s.notes) (deeds_by s) s.notes.log.past [] s.notes.log.id
              s.notes.log.sections s.notes.logged [] s.files [] now_done.dropped now_done.archived
              (sym (append-nil s.notes.log.past)) (sym (append-nil s.notes.logged))
              (sym (append-nil s.files)) (λ m among. absurd (nothing_there m among))
              (λ m among. absurd (nothing_there m among)) had_dropped
              (had_listed (deeds_by s) os count is_named named_only named_inside) added gone
              o.ordered stands (put_still s.notes.base added gone s.files
              (quiet_publishes gone (quiet_first s.archives s.notes.base os count is_named))
              o.ordered.files));
        }

      pub order_gone : KeepsOrder changes t
      order_gone = record {
        settled = settled_same s.notes n s.files (ap (λ (x : NoteState D). x.sizes) notes)
            (ap (λ (x : NoteState D). x.logged) notes) (ap (λ (x : NoteState D). x.synced) notes)
            kept.order.settled;
        ordered = ordered_gone kept.order.ordered;
      }
