-- What a keeper has done once its store's segments have gone.
use Rattle.std.proofs.Common.{
  ◌≡◌,
  ℕ,
  Bool,
  true,
  false,
  inl,
  inr,
  List,
  [],
  ◌∷◌,
  ◌++◌,
  Option,
  get_or,
  length,
  take,
  refl,
  sym,
  ◌∙◌,
  ap,
  subst,
  arith,
  append-nil,
}
use Rattle.std.specs.Prelude.{if◌then◌else◌, ◌⊎◌, Err, IsErr, Ok, Result}
use Rattle.std.proofs.lemmas.Bool.{true≢false}
use Rattle.std.proofs.lemmas.List.{take_all}
use base.Stored.{Gv}
use Rattle.clog_disk.specs.declared.change.Change.{Change}
use Rattle.clog_disk.specs.Files.{Files}
use Rattle.path_core.specs.Keeper.{DropRefused, Drops, Holding, IsNextDue, archived_with}
use Rattle.clog_segments.specs.declared.written.StoreFault.{StoreFault}
use Rattle.clog_due.specs.Dropping.{AreDue}
use Rattle.clog_due.specs.StoreDrops.{
  AreDueIn,
  DropsDue,
  HasBeside,
  HasLetGo,
}
use Rattle.clog_segments.specs.StoreFolder.{with_first_gone}
use Rattle.clog_segments.specs.StoreState.{HasMoved, StoreState, deeds_by, holding_of}
use Rattle.clog_due.proofs.DroppedLists.{
  first_archived,
  first_dropped,
  first_ones,
  front_pairs,
  in_front,
  lower_first,
  next_among,
  next_archived,
  next_left,
}

-- ---- what is answered

-- a refusal says what was dropped
pub refused_any : (before now : Holding) (closed : ℕ) (r : Result ℕ StoreFault) → IsErr r
    → DropRefused before now closed → DropsDue before now closed r
refused_any before now closed (Ok count) refused drops = absurd (true≢false (sym refused))
refused_any before now closed (Err fault) refused drops = drops

-- ---- what it holds

-- the log went on first
pub let_go_on : {D T : Type 0} (s m t : StoreState D) (os : List ℕ) (r : Result T StoreFault)
    → HasMoved s m → HasLetGo m t os r → HasLetGo s t os r
let_go_on {D} {T} s m t os r only went =
    by (subst (λ (x : StoreState D). HasLetGo x t os r) only went)
  where
    by : HasLetGo (record s { notes = record s.notes { log = m.notes.log } }) t os r
        → HasLetGo s t os r
    by w = record { count = w.count; is_named = w.is_named; far = w.far; is = w.is }

-- what is due is still, once the log has gone on
pub due_on : {D : Type 0} (s m : StoreState D) (closed : ℕ) (os : List ℕ) → HasMoved s m
    → AreDueIn s closed os → AreDueIn m closed os
due_on {D} s m closed os only due =
    subst (λ (x : StoreState D). AreDueIn x closed os) (sym only) (λ h has. due h (record {
      log = record {
        base_is = has.log.base_is;
        sizes_are = has.log.sizes_are;
        synced_is = has.log.synced_is;
        logged_are = has.log.logged_are;
        kept_are = has.log.kept_are;
      };
      files_are = has.files_are;
      dropped_are = has.dropped_are;
    }))

module _ {D : Type 0} (files : D → Option Files) (changes : D → Option (List Change))
    (moment faults : D → ℕ) (code : D → Gv) (s t : StoreState D) (closed : ℕ) where
  abbrev Held : StoreState D → Holding
  Held x = holding_of files changes moment faults code x

  pub own_beside : HasBeside s.notes s.files s.dropped (Held s)
  own_beside = record {
    log = record {
      base_is = refl;
      sizes_are = refl;
      synced_is = refl;
      logged_are = refl;
      kept_are = refl;
    };
    files_are = refl;
    dropped_are = refl;
  }

  none_more : archived_with (Held s) [] ≡ s.archived
  none_more = by s.archives
    where
      by : (b : Bool) → (if b then s.archived ++ [] else s.archived) ≡ s.archived
      by true = append-nil s.archived
      by false = refl

  -- nothing has gone
  pub none_dropped : HasMoved s t → DropRefused (Held s) (Held t) closed
  none_dropped only =
      let archived : t.archived ≡ s.archived = ap (λ (x : StoreState D). x.archived) only in
      record {
        ordinals = [];
        ascending = λ i j d less inside. absurd (omega (arith, inside));
        due = λ o among. absurd (omega (arith, among.1));
        first = λ o p due among less. absurd (omega (arith, among.1));
        named = inl (archived ∙ sym none_more);
        still = λ was. (refl, archived);
        holds = ap Held only ∙ (λ i. record (Held s) {
          faults = faults t.notes.log.disk;
          stopped = t.notes.log.is_stopped;
          dropped = sym (append-nil s.dropped) i;
          archived = sym archived i;
        });
      }

  module _ (os : List ℕ) (due : AreDue (Held s) closed os)
      (runs : s.notes.log.is_stopped ≡ false) where
    module _ {T : Type 0} (r : Result T StoreFault) (went : HasLetGo s t os r) where
      abbrev gone : List ℕ
      gone = take went.count os

      dropped_is : t.dropped ≡ s.dropped ++ gone
      dropped_is =
          ap (λ (x : StoreState D). x.dropped) went.is
          ∙ first_dropped (deeds_by s) os went.count went.is_named

      archived_now : t.archived
          ≡ (with_first_gone (deeds_by s) os went.count went.is_named).archived
      archived_now = ap (λ (x : StoreState D). x.archived) went.is

      holds_now : Held t ≡ record (Held s) {
        faults = faults t.notes.log.disk;
        stopped = t.notes.log.is_stopped;
        dropped = s.dropped ++ gone;
        archived = t.archived;
      }
      holds_now =
          ap Held went.is ∙ (λ i. record (Held s) {
            faults = faults t.notes.log.disk;
            stopped = t.notes.log.is_stopped;
            dropped = first_dropped (deeds_by s) os went.count went.is_named i;
            archived = sym archived_now i;
          })

    -- all have gone
    pub all_dropped : {T : Type 0} (done : T) → HasLetGo s t os (Ok done)
        → t.notes.log.is_stopped ≡ false → (count : ℕ) → count ≡ length os
        → Drops (Held s) (Held t) closed count
    all_dropped {T} done went still count counted =
        let all : take went.count os ≡ os =
        take_all went.count os (omega (arith, went.far.0)) in
        let named : t.archived ≡ archived_with (Held s) os =
        archived_now {T = T} (Ok done) went
        ∙ ap (λ (b : Bool). (with_first_gone (deeds_by s) os went.count b).archived) went.far.1
        ∙ first_archived (deeds_by s) os went.count
        ∙ ap (archived_with (Held s)) all in
        record {
          ordinals = os;
          ascending = due.ascending;
          exact = due.exact;
          counted = counted;
          holds = holds_now {T = T} (Ok done) went ∙ (λ i. record (Held s) {
            faults = faults t.notes.log.disk;
            stopped = (still ∙ sym runs) i;
            dropped = s.dropped ++ all i;
            archived = named i;
          });
        }

    -- the first of them have
    module _ {T : Type 0} (fault : StoreFault) (went : HasLetGo {T = T} s t os (Err fault)) where
      abbrev first : List ℕ
      first = take went.count os

      named_next : (b : Bool) → went.is_named ≡ b
          → (t.archived ≡ archived_with (Held s) first)
          ⊎ ((next : ℕ) × IsNextDue (Held s) closed first next
          × (t.archived ≡ archived_with (Held s) (first ++ next ∷ [])))
      named_next false is =
          inl (archived_now {T = T} (Err fault) went
          ∙ ap (λ (b : Bool). (with_first_gone (deeds_by s) os went.count b).archived) is
          ∙ first_archived (deeds_by s) os went.count)
      named_next true is =
          let inside = went.far.2 is in
          let next = get_or os went.count 0 in
          inr (
            next,
            record {
              due = (due.exact next).0 (next_among went.count os due.ascending inside);
              left = next_left went.count os due.ascending inside;
              lower_are_gone = λ o is_due less.
                  lower_first went.count os due.ascending inside o ((due.exact o).1 is_due) less;
            },
            archived_now {T = T} (Err fault) went
                ∙ ap (λ (b : Bool). (with_first_gone (deeds_by s) os went.count b).archived) is
                ∙ next_archived (deeds_by s) os went.count inside (went.far.1 is)
                (first ++ next ∷ []) refl,
          )

      pub some_dropped : DropRefused (Held s) (Held t) closed
      some_dropped = record {
        ordinals = first;
        ascending = front_pairs went.count os due.ascending;
        due = λ o among. (due.exact o).0 (in_front went.count os o among);
        first = λ o p is_due among less.
            first_ones went.count os due.ascending o p ((due.exact o).1 is_due) among less;
        named = named_next went.is_named refl;
        still = λ was. absurd (true≢false (sym was ∙ runs));
        holds = holds_now {T = T} (Err fault) went;
      }
