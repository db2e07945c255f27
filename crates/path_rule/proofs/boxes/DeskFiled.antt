-- The keeper on a desk puts a table file, or drops segments: what the desk shows then.
use Rattle.std.proofs.Common.{
  ◌≡◌,
  ◌==◌,
  ℕ,
  zero,
  suc,
  ◌<◌,
  Bool,
  true,
  false,
  List,
  [],
  ◌∷◌,
  ◌++◌,
  length,
  map,
  Option,
  is_some,
  refl,
  sym,
  ap,
  ◌∙◌,
  subst,
  ⊎_elim,
  arith,
}
use Rattle.std.specs.Prelude.{
  if◌then◌else◌,
  slice_index,
  Err,
  IfOk,
  Ok,
  OnErr,
  OnOk,
  Result,
}
use Rattle.std.specs.List.{AllPairs, Contains}
use Rattle.std.proofs.lemmas.Bool.{eq-eqb, eqb-true, false≢true}
use Rattle.std.proofs.lemmas.List.{append-nil, map-append}
use Rattle.std.proofs.lemmas.List.Elements.{
  Contains-append_cases,
  Contains-append_left,
  Contains-append_right,
}
use mathlib.Core.Logic.{inl, inr}
use Rattle.atomic_table.specs.Table.{Me, rest}
use Rattle.path_core.specs.declared.keeper.KeeperFault.{KeeperFault}
use Rattle.path_core.specs.declared.note.EntryNote.{EntryNote}
use Rattle.path_core.specs.Droppable.{is_logged}
use Rattle.path_core.specs.Keeper.{
  DropRefused,
  Drops,
  Holding,
  IsDue,
  PublishRefused,
  Publishes,
  PutFile,
  archived_with,
}
use Rattle.path_core.specs.Keys.{ordinal_of}
use Rattle.path_core.specs.Next.{has_filed}
use Rattle.path_core.proofs.lists.Passing.{any_from, any_to}
use Rattle.path_rule.specs.declared.lasting.Lasting.{Lasting}
use Rattle.path_rule.specs.declared.slot.Desk.{Desk}
use Rattle.path_rule.specs.declared.slot.Slot.{Slot}
use Rattle.path_rule.specs.declared.slot.Slot.TheVariants.{Notes, Turn}
use Rattle.path_rule.specs.declared.view.View.{View}
use Rattle.path_rule.specs.Boxes.{DeskIs, NotesAre, desk_box}
use Rattle.path_rule.specs.Desks.{pending_on}
use Rattle.path_rule.specs.Filing.{MayGo, more_filed, upper_of}
use Rattle.path_rule.specs.FilingTold.{
  AreArchived,
  CarriesDropped,
  CarriesFiled,
  CarriesNoted,
  CarriesUndropped,
  GoesNow,
  HasDropped,
  MayBeGone,
  TurnSynced,
  noted,
}
use Rattle.path_rule.specs.Lasts.{lasting_of, put_table, shows_of, stopped_with}
use Rattle.path_rule.specs.TurnTold.{CarriesDesk}
use Rattle.path_rule.proofs.boxes.DeskLent.{on_desk}
use Rattle.path_rule.proofs.log.FilesShown.{may_drop, may_go, upper_more}
use Rattle.path_rule.proofs.moves.SyncSteps.{desk_same, top_box}

-- a box of notes is these
pub notes_is : {K : Type 0} (y : Slot K) (l : List EntryNote) → NotesAre y l → y ≡ Notes l
notes_is (Notes kept) l is = ap (λ (n : List EntryNote). Notes n) is
notes_is (Turn desk) l is = absurd is

-- the names that a keeper gives, where it is asked for those of these segments
abbrev names_of : Bool → List ℕ → List ℕ
names_of archives asked = if archives then asked else []

named_in : (archives : Bool) (asked : List ℕ) (n : ℕ) → Contains (names_of archives asked) n
    → Contains asked n
named_in true asked n h = h
named_in false asked n h = absurd (let l = h.1 in omega arith)

archived_is : (h : Holding) (asked : List ℕ)
    → archived_with h asked ≡ h.archived ++ names_of h.opening.archives asked
archived_is h asked = by h.opening.archives
  where
    by : (b : Bool) → (if b then h.archived ++ asked else h.archived)
        ≡ h.archived ++ names_of b asked
    by true = refl
    by false = sym (append-nil h.archived)

is_one : (a b : ℕ) → Contains (a ∷ []) b → a ≡ b
is_one a b (zero, inside, is) = is
is_one a b (suc i, inside, is) = absurd (omega arith)

module _ {K : Type 0} (holds : K → Holding) (before after : Desk K) (m : Me (Slot K) View)
    (carries : CarriesDesk (shows_of holds) m)
    (top : m.1 ≡ (desk_box, Turn before) ∷ rest m.1)
    (pends : pending_on after ≡ pending_on before)
    (progress : after.progress ≡ before.progress) where
  abbrev D : DeskIs (shows_of holds) (Turn before) m.0.hands.lasting m.0.hands.pending
      m.0.hands.progress
  D = on_desk holds before m carries top

  abbrev now : Me (Slot K) View
  now = (m.0, (desk_box, Turn after) ∷ rest m.1)

  -- a file was put
  pub desk_filed : (f : PutFile)
      → stopped_with (holds after.keeper).stopped (holds after.keeper).faults
      ≡ stopped_with (holds before.keeper).stopped (holds before.keeper).faults
      → Publishes (holds before.keeper) (holds after.keeper) f
      → ((t : ℕ) → t < 16 → slice_index after.uppers t
      ≡ (if f.table == t then f.upper else slice_index before.uppers t))
      → CarriesFiled (shows_of holds) (put_table f) now
  desk_filed f stops S uppers = let h = holds before.keeper in
      let faults = (holds after.keeper).faults in
      let still : stopped_with h.stopped faults ≡ stopped_with h.stopped h.faults =
      ap (λ (b : Bool). stopped_with b faults)
      (sym (ap (λ (g : Holding). g.stopped) S)) ∙ stops in (
        Turn after,
        refl,
        (
          ap lasting_of S
              ∙ ((λ i. record (lasting_of h) {
                stopped = still i;
                filed = record (lasting_of h).filed {
                  files = map-append put_table h.files (f ∷ []) i;
                  refused = false;
                };
              })
              ∙ ap (more_filed (put_table f)) D.0),
          pends ∙ D.1,
          progress ∙ D.2,
          (λ t few. uppers t few
              ∙ (ap (λ (n : ℕ). if f.table == t then f.upper else n) (D.3 t few)
              ∙ sym (upper_more t 0 m.0.hands.lasting.filed.files (put_table f)))),
        ),
      )

  module _ (uppers : after.uppers ≡ before.uppers) (stopped : Option ℕ)
      (stops : stopped_with (holds after.keeper).stopped (holds after.keeper).faults
      ≡ stopped) where
    -- it was refused
    pub desk_refused : (f : PutFile) → PublishRefused (holds before.keeper) (holds after.keeper) f
        → CarriesNoted (shows_of holds) stopped now
    desk_refused f S = let h = holds before.keeper in let g = holds after.keeper in
        let old = ap (λ (l : Lasting). l.dropped) D.0 in (
          is_some g.refused,
          h.archived,
          h.dropped,
          (
            (λ o q. inl (subst (λ (l : List ℕ). Contains l o) old q)),
            record {
              names = [];
              behind = ap (λ (l : Lasting). l.filed.archived) D.0
                  ∙ sym (append-nil m.0.hands.lasting.filed.archived);
              none_given = λ _. refl;
              all_named = λ _ n q. inl (subst (λ (l : List ℕ). Contains l n) old q);
              each = λ n q. absurd (let l = q.1 in omega arith);
              one_stays = λ n k q. absurd (let l = q.1 in omega arith);
            },
          ),
          (
            Turn after,
            refl,
            (
              ap lasting_of S.holds
                  ∙ (λ i. noted (is_some g.refused) h.archived h.dropped (stops i) (D.0 i)),
              pends ∙ D.1,
              progress ∙ D.2,
              (λ t few. ap (λ (l : List ℕ). slice_index l t) uppers ∙ D.3 t few),
            ),
          ),
        )

    -- and nothing else has changed
    pub desk_undropped : (f : PutFile)
        → PublishRefused (holds before.keeper) (holds after.keeper) f
        → CarriesUndropped (shows_of holds) stopped now
    desk_undropped f S = let g = holds after.keeper in (
      is_some g.refused,
      (
        Turn after,
        refl,
        (
          ap lasting_of S.holds
              ∙ (λ i. noted (is_some g.refused) (D.0 i).filed.archived (D.0 i).dropped (stops i)
              (D.0 i)),
          pends ∙ D.1,
          progress ∙ D.2,
          (λ t few. ap (λ (l : List ℕ). slice_index l t) uppers ∙ D.3 t few),
        ),
      ),
    )

    module _ (closed key : ℕ) (is : closed ≡ ordinal_of key) (synced : TurnSynced m.0.part key)
        (filed : has_filed m.0.part ≡ true) where
      -- one that is due may go now
      goes_now : (o : ℕ) → IsDue (holds before.keeper) closed o → GoesNow m.0 o
      goes_now o d = record {
        filed = filed;
        may = subst (λ (l : Lasting). MayGo l o) D.0 (may_go (holds before.keeper) o d.1);
        key = key;
        synced = synced;
        below = (let low = d.0 in omega arith);
      }

      gone_now : (ordinals : List ℕ)
          → ((o : ℕ) → Contains ordinals o → IsDue (holds before.keeper) closed o)
          → MayBeGone m.0 ((holds before.keeper).dropped ++ ordinals)
      gone_now ordinals due o q = let h = holds before.keeper in ⊎_elim
          (λ old. inl (subst (λ (l : List ℕ). Contains l o) (ap (λ (l : Lasting). l.dropped) D.0)
          old))
          (λ new. inr (goes_now o (due o new))) (Contains-append_cases h.dropped ordinals o q)

      -- which got their archive names, where the keeper was asked for those of these
      named_now : (ordinals asked archived : List ℕ)
          → ((o : ℕ) → Contains asked o → IsDue (holds before.keeper) closed o)
          → ((o : ℕ) → Contains ordinals o → Contains asked o)
          → ((o p : ℕ) → Contains asked o → Contains asked p → ¬ Contains ordinals o
          → ¬ Contains ordinals p → o ≡ p)
          → archived ≡ (holds before.keeper).archived
          ++ names_of (holds before.keeper).opening.archives asked
          → AreArchived m.0 ((holds before.keeper).dropped ++ ordinals) archived
      named_now ordinals asked archived due has one came = let h = holds before.keeper in
          let old = ap (λ (l : Lasting). l.dropped) D.0 in
          let gives = ap (λ (l : Lasting). l.beside.archives) D.0 in record {
            names = names_of h.opening.archives asked;
            behind = came ∙ ap (λ (l : Lasting).
                l.filed.archived ++ names_of h.opening.archives asked) D.0;
            none_given = λ none. ap (λ (b : Bool). names_of b asked) (gives ∙ none);
            all_named = λ all n q. ⊎_elim
                (λ was. inl (subst (λ (l : List ℕ). Contains l n) old was))
                (λ new. inr (subst (λ (b : Bool). Contains (names_of b asked) n)
                (sym (gives ∙ all)) (has n new)))
                (Contains-append_cases h.dropped ordinals n q);
            each = λ n q. let d = due n (named_in h.opening.archives asked n q) in (
              goes_now n d,
              (λ was. d.2 (subst (λ (l : List ℕ). Contains l n) (sym old) was)),
            );
            one_stays = λ n k qn qk here there. one n k
                (named_in h.opening.archives asked n qn) (named_in h.opening.archives asked k qk)
                (λ q. here (Contains-append_right h.dropped ordinals n q))
                (λ q. there (Contains-append_right h.dropped ordinals k q));
          }

      -- all that were dropped
      all_named_now : (count : ℕ)
          → (S : Drops (holds before.keeper) (holds after.keeper) closed count)
          → AreArchived m.0 ((holds before.keeper).dropped ++ S.ordinals)
          (archived_with (holds before.keeper) S.ordinals)
      all_named_now count S = let h = holds before.keeper in
          named_now S.ordinals S.ordinals (archived_with h S.ordinals) (λ o q. (S.exact o).0 q)
          (λ o q. q) (λ o p q r here there. absurd (here q)) (archived_is h S.ordinals)

      -- or these, and the next one, whose removal was refused
      some_named_now : (S : DropRefused (holds before.keeper) (holds after.keeper) closed)
          → AreArchived m.0 ((holds before.keeper).dropped ++ S.ordinals)
          (holds after.keeper).archived
      some_named_now S = let h = holds before.keeper in let g = holds after.keeper in ⊎_elim
          (λ all. named_now S.ordinals S.ordinals g.archived S.due (λ o q. q)
          (λ o p q r here there. absurd (here q)) (all ∙ archived_is h S.ordinals))
          (λ more. let next = more.0 in let last = next ∷ [] in
          let new : (o : ℕ) → Contains (S.ordinals ++ last) o → ¬ Contains S.ordinals o
          → next ≡ o = λ o q fresh. ⊎_elim (λ (low : Contains S.ordinals o). absurd (fresh low))
          (is_one next o) (Contains-append_cases S.ordinals last o q) in
          named_now S.ordinals (S.ordinals ++ last) g.archived
          (λ o q. ⊎_elim (S.due o) (λ top. subst (λ (k : ℕ). IsDue h closed k)
          (is_one next o top) more.1.due) (Contains-append_cases S.ordinals last o q))
          (Contains-append_left S.ordinals last)
          (λ o p q r here there. sym (new o q here) ∙ new p r there)
          (more.2 ∙ archived_is h (S.ordinals ++ last))) S.named

      dropped_with : (ordinals archived : List ℕ)
          → ((o : ℕ) → Contains ordinals o → IsDue (holds before.keeper) closed o)
          → AreArchived m.0 ((holds before.keeper).dropped ++ ordinals) archived
          → lasting_of (holds after.keeper) ≡ noted (is_some (holds before.keeper).refused)
          archived ((holds before.keeper).dropped ++ ordinals)
          (stopped_with (holds after.keeper).stopped (holds after.keeper).faults)
          (lasting_of (holds before.keeper)) → CarriesNoted (shows_of holds) stopped now
      dropped_with ordinals archived due named shows_now = let h = holds before.keeper in (
        is_some h.refused,
        archived,
        h.dropped ++ ordinals,
        (gone_now ordinals due, named),
        (
          Turn after,
          refl,
          (
            shows_now ∙ (λ i. noted (is_some h.refused) archived (h.dropped ++ ordinals)
                (stops i) (D.0 i)),
            pends ∙ D.1,
            progress ∙ D.2,
            (λ t few. ap (λ (l : List ℕ). slice_index l t) uppers ∙ D.3 t few),
          ),
        ),
      )

      -- segments were dropped
      pub desk_dropped : (count : ℕ) → Drops (holds before.keeper) (holds after.keeper) closed count
          → CarriesNoted (shows_of holds) stopped now
      desk_dropped count S = let h = holds before.keeper in let g = holds after.keeper in
          let same : g.stopped ≡ h.stopped = ap (λ (k : Holding). k.stopped) S.holds in
          dropped_with S.ordinals (archived_with h S.ordinals) (λ o q. (S.exact o).0 q)
          (all_named_now count S) (ap lasting_of S.holds ∙ (λ i. noted (is_some h.refused)
          (archived_with h S.ordinals) (h.dropped ++ S.ordinals)
          (stopped_with (sym same i) g.faults) (lasting_of h)))

      -- some of them, and the keeper refused the others
      pub desk_dropped_some : DropRefused (holds before.keeper) (holds after.keeper) closed
          → CarriesNoted (shows_of holds) stopped now
      desk_dropped_some S = let g = holds after.keeper in
          dropped_with S.ordinals g.archived S.due (some_named_now S) (ap lasting_of S.holds)

      -- which of them went

      gone_with : (ordinals archived : List ℕ) → AllPairs (λ (a b : ℕ). a < b) ordinals
          → ((o : ℕ) → Contains ordinals o → IsDue (holds before.keeper) closed o)
          → ((o p : ℕ) → IsDue (holds before.keeper) closed o → Contains ordinals p → o < p
          → Contains ordinals o)
          → AreArchived m.0 ((holds before.keeper).dropped ++ ordinals) archived
          → lasting_of (holds after.keeper) ≡ noted (is_some (holds before.keeper).refused)
          archived ((holds before.keeper).dropped ++ ordinals)
          (stopped_with (holds after.keeper).stopped (holds after.keeper).faults)
          (lasting_of (holds before.keeper))
          → CarriesDropped (shows_of holds) stopped key ordinals now
      gone_with ordinals archived rises due first named shows_now = let h = holds before.keeper in
          let old = ap (λ (l : Lasting). l.dropped) D.0 in (
            archived,
            subst (λ (l : List ℕ). AreArchived m.0 (l ++ ordinals) archived) old named,
            record {
              ascending = rises;
              each = λ o q. goes_now o (due o q);
              once = λ o q was. (due o q).2 (subst (λ (l : List ℕ). Contains l o) (sym old) was);
              first = λ o p low may fresh among less. first o p (
                (omega arith),
                may_drop h o (subst (λ (l : Lasting). MayGo l o) (sym D.0) may),
                (λ q. fresh (subst (λ (l : List ℕ). Contains l o) old q)),
              ) among less;
            },
            (
              Turn after,
              refl,
              (
                shows_now ∙ (λ i. noted (D.0 i).filed.refused archived
                    ((D.0 i).dropped ++ ordinals) (stops i) (D.0 i)),
                pends ∙ D.1,
                progress ∙ D.2,
                (λ t few. ap (λ (l : List ℕ). slice_index l t) uppers ∙ D.3 t few),
              ),
            ),
          )

      desk_gone : (count : ℕ) → Drops (holds before.keeper) (holds after.keeper) closed count
          → (ordinals : List ℕ) × CarriesDropped (shows_of holds) stopped key ordinals now
          × (count ≡ length ordinals)
      desk_gone count S = let h = holds before.keeper in let g = holds after.keeper in
          let same : g.stopped ≡ h.stopped = ap (λ (k : Holding). k.stopped) S.holds in (
            S.ordinals,
            gone_with S.ordinals (archived_with h S.ordinals) S.ascending
                (λ o q. (S.exact o).0 q) (λ o p due among less. (S.exact o).1 due)
                (all_named_now count S)
                (ap lasting_of S.holds ∙ (λ i. noted (is_some h.refused)
                (archived_with h S.ordinals) (h.dropped ++ S.ordinals)
                (stopped_with (sym same i) g.faults) (lasting_of h))),
            S.counted,
          )

      desk_gone_some : DropRefused (holds before.keeper) (holds after.keeper) closed
          → (ordinals : List ℕ) × CarriesDropped (shows_of holds) stopped key ordinals now
      desk_gone_some S = let g = holds after.keeper in (
        S.ordinals,
        gone_with S.ordinals g.archived S.ascending S.due S.first (some_named_now S)
            (ap lasting_of S.holds),
      )

      -- all that may go went
      pub desk_has_dropped : (count : ℕ)
          → Drops (holds before.keeper) (holds after.keeper) closed count
          → HasDropped (shows_of holds) key m.0 now
      desk_has_dropped count S lasting C o low M = let h = holds before.keeper in
          let g = holds after.keeper in
          let same = desk_same (shows_of holds) (Turn after) C.0 (lasting_of g) lasting
          (pending_on after) m.0.hands.pending m.0.hands.progress
          (ap (top_box (Turn after)) C.1) (
            refl,
            refl,
            progress ∙ D.2,
            λ t few.
                ap (λ (l : List ℕ). slice_index l t) uppers ∙ (D.3 t few
                ∙ ap (λ (l : Lasting). upper_of t l.filed.files) (sym D.0)
                ∙ ap (λ (k : Holding). upper_of t (map put_table k.files)) (sym S.holds)),
          ) C.2 in
          subst (λ (l : List ℕ). Contains l o) (ap (λ (k : Holding). k.dropped) (sym S.holds)
          ∙ ap (λ (l : Lasting). l.dropped) same.0)
          (went (is_logged h.dropped o) refl)
        where
          went : (b : Bool) → is_logged (holds before.keeper).dropped o ≡ b
              → Contains ((holds before.keeper).dropped ++ S.ordinals) o
          went true was = let h = holds before.keeper in let z = any_to _ h.dropped was in
              Contains-append_left h.dropped S.ordinals o
              (subst (λ (k : ℕ). Contains h.dropped k) (eqb-true z.0 o z.2) z.1)
          went false was = let h = holds before.keeper in
              Contains-append_right h.dropped S.ordinals o ((S.exact o).1 (
                (omega arith),
                may_drop h o (subst (λ (l : Lasting). MayGo l o) (sym D.0) M),
                (λ q. false≢true (sym was ∙ any_from (λ (k : ℕ). k == o) h.dropped o q
                    (eq-eqb o o refl))),
              ))

      -- by the answer
      pub some_dropped : (r : Result ℕ KeeperFault)
          → IfOk r (λ count. Drops (holds before.keeper) (holds after.keeper) closed count)
          → OnErr r (DropRefused (holds before.keeper) (holds after.keeper) closed)
          → CarriesNoted (shows_of holds) stopped now
      some_dropped (Ok count) drops refused = desk_dropped count drops
      some_dropped (Err fault) drops refused = desk_dropped_some refused

      pub all_dropped : (r : Result ℕ KeeperFault)
          → IfOk r (λ count. Drops (holds before.keeper) (holds after.keeper) closed count)
          → OnOk r (HasDropped (shows_of holds) key m.0 now)
      all_dropped (Ok count) drops = desk_has_dropped count drops
      all_dropped (Err fault) drops = tt

      pub all_gone : (r : Result ℕ KeeperFault)
          → IfOk r (λ count. Drops (holds before.keeper) (holds after.keeper) closed count)
          → OnErr r (DropRefused (holds before.keeper) (holds after.keeper) closed)
          → (ordinals : List ℕ) × CarriesDropped (shows_of holds) stopped key ordinals now
          × IfOk r (λ count. count ≡ length ordinals)
      all_gone (Ok count) drops refused = desk_gone count drops
      all_gone (Err fault) drops refused = let G = desk_gone_some refused in (G.0, G.1, tt)
