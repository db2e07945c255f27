-- A run of notes is logged, or what was written of it is kept.
use Rattle.std.proofs.Common.{
  ◌≡◌,
  ℕ,
  ◌≤◌,
  inl,
  inr,
  false,
  List,
  [],
  ◌∷◌,
  ◌++◌,
  length,
  take,
  drop,
  refl,
  sym,
  ◌∙◌,
  ap,
  subst,
  arith,
  length-append,
  append-nil,
}
use Rattle.std.specs.List.{Contains}
use Rattle.std.proofs.lemmas.List.{drop_all, drop-append-le, take-append-le, take_all, length-drop}
use Rattle.std.proofs.lemmas.List.Elements.{
  Contains-append_cases,
  Contains-append_left,
  Contains-append_right,
}
use Rattle.clog_spec.specs.Sizes.{header_size}
use Rattle.clog_base.specs.declared.sizes.Sizes.{Sizes}
use Rattle.clog_base.proofs.Members.{nothing_there}
use Rattle.clog_scan.specs.Cut.{Section, last_until}
use Rattle.clog_crash.specs.Runs.{placed_log}
use Rattle.path_core.specs.declared.note.EntryNote.{EntryNote}
use Rattle.path_core.specs.Keeper.{GoOnBehind, Tile}
use Rattle.clog_segments.specs.Life.{State}
use Rattle.clog_segments.specs.NoteLog.{
  EndsAt,
  IsApart,
  IsFrom,
  IsGood,
  IsHeld,
  IsNoteLog,
  NoteState,
  Reaches,
  Stands,
  end_behind,
}
use Rattle.clog_segments.specs.Notes.{places_of}
use Rattle.clog_store.specs.NoteSteps.{MayRun, ReadyAt, StandAhead, standing}
use Rattle.clog_store.proofs.NoteEnded.{ended_tiled}
use Rattle.clog_store.proofs.NoteLent.{
  end_above,
  first_apart,
  goes_up_to,
  kept_apart,
  run_above,
  run_ahead,
  run_below,
}

-- What is asked of a run, over what the log has.
record Lent (sizes : Sizes) (synced upto : ℕ) (kept run : List EntryNote) : Type 0 where
  good : (n : EntryNote) → Contains run n → IsGood sizes n
  tiled : Tile sizes.capacity synced upto run
  more : List EntryNote
  begins : run ≡ kept ++ more
  go_on : GoOnBehind sizes.capacity kept more

module _ {D : Type 0} (s : NoteState D) (upto : ℕ) (run : List EntryNote)
    (lends : MayRun s upto run)
  where
    lent : Lent s.sizes s.synced upto s.kept run
    lent =
        let m = lends.may in
        let has = lends.has in
        record {
          good = λ n among.
              let w = m.each n among in
              subst (λ (z : Sizes). IsGood z n) has.sizes_are
              (record { whole = w.whole; in_segment = w.in_segment; segment_is = w.segment_is });
          tiled = subst (λ (z : Sizes). Tile z.capacity s.synced upto run) has.sizes_are
              (subst (λ (k : ℕ). Tile lends.holding.sizes.capacity k upto run) has.synced_is
              m.tiled);
          more = m.more;
          begins = m.begins ∙ ap (λ (l : List EntryNote). l ++ m.more) has.kept_are;
          go_on = subst (λ (z : Sizes). GoOnBehind z.capacity s.kept m.more) has.sizes_are
              (subst (λ (l : List EntryNote). GoOnBehind lends.holding.sizes.capacity l m.more)
              has.kept_are m.go_on);
        }

    module _ (inv : IsNoteLog s) where
      written_few : s.written ≤ length run
      written_few =
          omega (arith, inv.few, ap length lent.begins, length-append s.kept lent.more)

      -- what was written stands at its front
      front : (k : ℕ) → k ≤ s.written → take k run ≡ take k s.kept
      front k le =
          ap (take k) lent.begins
          ∙ take-append-le k s.kept lent.more (omega (arith, le, inv.few))

      apart_by : (rest : List EntryNote) → drop s.written s.kept ≡ rest
          → IsApart (end_behind s.synced (take s.written s.kept)) rest
          → IsApart (end_behind s.synced (take s.written s.kept)) (rest ++ lent.more)
      apart_by (n ∷ ns) is apart = apart
      apart_by [] is apart =
          let all : take s.written s.kept ≡ s.kept =
          take_all s.written s.kept
          (omega (arith, ap length is, length-drop s.written s.kept, inv.few)) in
          subst (λ (l : List EntryNote). IsApart (end_behind s.synced l) lent.more) (sym all)
          (kept_apart s.sizes.capacity s.synced s.kept lent.more lent.go_on
          (λ none. subst (IsApart s.synced)
          (lent.begins ∙ ap (λ (l : List EntryNote). l ++ lent.more) none)
          (first_apart s.sizes s.synced upto run lent.good lent.tiled))
          s.sizes.within.greatest_capacity
          (λ some. end_above s.sizes s.synced s.kept
          (λ n among. inv.good n (Contains-append_right s.logged s.kept n among)) some))

      pub ready_of : s.log.is_stopped ≡ false
          → ReadyAt s.sizes s.synced s.logged upto s.base s.log run s.written
      ready_of runs =
          let h = inv.held runs in
          let put = front s.written (omega arith) in
          let key = ap (end_behind s.synced) (sym put) in
          let behind : drop s.written s.kept ++ lent.more ≡ drop s.written run =
          sym (ap (drop s.written) lent.begins
          ∙ drop-append-le s.written s.kept lent.more inv.few) in
          let apart : IsApart (end_behind s.synced (take s.written run)) (drop s.written run) =
          subst (λ (k : ℕ). IsApart k (drop s.written run)) key
          (subst (IsApart (end_behind s.synced (take s.written s.kept))) behind
          (apart_by (drop s.written s.kept) refl h.apart)) in
          record {
            few = written_few;
            good = lent.good;
            held = record {
              all = h.all
                  ∙ ap (λ (l : List EntryNote). places_of s.base (s.logged ++ l)) (sym put);
              lasting = h.lasting;
              no_more = h.no_more;
              lasts = h.lasts
                  ∙ ap (λ (l : List EntryNote). places_of s.base (s.logged ++ l))
                  (sym (front h.lasting h.no_more));
              settled = h.settled;
              reaches = h.reaches;
              forward = omega (arith, h.forward, key);
              ends = subst (EndsAt s.base s.log) key h.ends;
              apart = apart;
              begins = λ none later. lends.from;
              last_here = λ some all. h.last_here some (omega (
                arith,
                all,
                inv.few,
                ap length lent.begins,
                length-append s.kept lent.more,
              ));
            };
            ahead = run_ahead s.sizes s.synced upto run lent.good lent.tiled s.written apart;
          }

      -- ---- it is refused

      all_good : (n : EntryNote) → Contains (s.logged ++ run) n → IsGood s.sizes n
      all_good n among = elim (Contains-append_cases s.logged run n among) [
        | inl before ↦ inv.good n (Contains-append_left s.logged s.kept n before)
        | inr new ↦ lent.good n new
      ]

      pub unlogged : (log : State D) (written : ℕ) → IsFrom s.base log → written ≤ length run
          → Stands (standing s.sizes s.synced s.logged s.base log run written)
          → (log.is_stopped ≡ false
          → IsHeld (standing s.sizes s.synced s.logged s.base log run written))
          → IsNoteLog (record s { log = log; kept = run; written = written })
      unlogged log written from few stands held = record {
        fits = inv.fits;
        from = from;
        few = few;
        good = all_good;
        below = inv.below;
        ended = inv.ended;
        above = run_above s.sizes s.synced upto run lent.good lent.tiled;
        stands = stands;
        held = held;
      }

      -- ---- it is logged

      module _ (log : State D)
          (ready : ReadyAt s.sizes s.synced s.logged upto s.base log run (length run))
          (lasts : log.synced ≡ length log.sections) (from : IsFrom s.base log) where
        whole : take (length run) run ≡ run
        whole = take_all (length run) run (omega arith)

        key_is : end_behind s.synced (take (length run) run) ≡ upto
        key_is = by (drop (length run) run) (drop_all (length run) run (omega arith)) ready.ahead
          where
            by : (rest : List EntryNote) → rest ≡ []
                → StandAhead upto (end_behind s.synced (take (length run) run)) rest
                → end_behind s.synced (take (length run) run) ≡ upto
            by [] none ahead = ahead
            by (n ∷ ns) none ahead = absurd (omega (arith, ap length none))

        pub ends : EndsAt s.base log upto
        ends = subst (EndsAt s.base log) key_is ready.held.ends

        all_last : take log.synced log.sections ≡ log.sections
        all_last = take_all log.synced log.sections (omega (arith, lasts))

        reaches : Reaches s.base log upto
        reaches =
            let until = ap (last_until header_size) all_last in
            elim ends [
              | inl e ↦ inr (e.0, omega (arith, e.1, until))
              | inr none ↦ elim none.1 [
                | inl first ↦ inr (omega (arith, first.0, first.1), omega (arith, first.0))
                | inr later ↦ inl later
              ]
            ]

        all : placed_log log.past log.id log.sections ≡ places_of s.base ((s.logged ++ run) ++ [])
        all =
            ready.held.all
            ∙ ap (λ (l : List EntryNote). places_of s.base (s.logged ++ l)) whole
            ∙ ap (places_of s.base) (sym (append-nil (s.logged ++ run)))

        pub logged : IsNoteLog (record s {
          log = log;
          synced = upto;
          logged = s.logged ++ run;
          kept = [];
          written = 0;
        })
        logged = record {
          fits = inv.fits;
          from = from;
          few = omega arith;
          good = λ n among. all_good n
              (subst (λ (l : List EntryNote). Contains l n) (append-nil (s.logged ++ run)) among);
          below = λ n among. elim (Contains-append_cases s.logged run n among) [
            | inl before ↦ omega (
              arith,
              inv.below n before,
              goes_up_to s.sizes s.synced upto run lent.good lent.tiled,
            )
            | inr new ↦ run_below s.sizes s.synced upto run lent.good lent.tiled n new
          ];
          ended = ended_tiled s.sizes.capacity s.synced upto s.logged run lent.tiled inv.ended;
          above = λ n among. absurd (nothing_there n among);
          stands = record {
            shown = 0;
            no_more_shown = omega arith;
            all = all;
            lasting = 0;
            no_more = omega arith;
            lasts = ap (λ (l : List Section). placed_log log.past log.id l) all_last ∙ all;
          };
          held = λ runs. record {
            all = all;
            lasting = 0;
            no_more = omega arith;
            lasts = ap (λ (l : List Section). placed_log log.past log.id l) all_last ∙ all;
            settled = λ e. lasts;
            reaches = reaches;
            forward = omega arith;
            ends = ends;
            apart = tt;
            begins = λ none later. tt;
            last_here = λ some all. absurd (omega (arith, some));
          };
        }
