-- A new table keeps the rule.
use Rattle.std.proofs.Common.{◌^◌, ◌≡◌, ℕ, zero, suc, ◌<◌, ◌≤◌, List, [], ◌∷◌, ◌++◌, length, map}
use Rattle.std.proofs.Common.{is_some, replicate, set, refl, sym, ap, ◌∙◌, subst, ⊎_elim, arith}
use Rattle.std.proofs.Common.{length-set}
use Rattle.std.proofs.lemmas.List.{length-replicate, length-map}
use Rattle.std.specs.List.{Contains}
use mathlib.Core.Logic.{inl}
use mathlib.Core.Option.{some, some-injective, some-ne-none}
use lib.ListN.{get_elem?}
use Rattle.atomic_table.proofs.Lists.{at_map}
use Rattle.atomic_table.specs.Table.{opening}
use Rattle.clog_base.specs.declared.sizes.Sizes.{Sizes}
use Rattle.op_core.specs.declared.count.Order.{Order}
use Rattle.op_core.specs.declared.count.Order.TheVariants.{Write, Append}
use Rattle.path_core.specs.declared.note.EntryNote.{EntryNote}
use Rattle.path_core.specs.declared.state.TableState.{TableState}
use Rattle.path_core.specs.Keeper.{Holding}
use Rattle.path_core.specs.Parts.{groups_of, fresh_seat, fresh_table}
use Rattle.path_rule.specs.declared.lasting.Beside.{Beside}
use Rattle.path_rule.specs.declared.lasting.Lasting.{Lasting}
use Rattle.path_rule.specs.declared.slot.Slot.{Slot}
use Rattle.path_rule.specs.declared.slot.Desk.{Desk}
use Rattle.path_rule.specs.declared.slot.Slot.TheVariants.{Notes, Turn}
use Rattle.path_rule.specs.declared.view.PathSize.{PathSize}
use Rattle.path_rule.specs.declared.view.View.{View}
use Rattle.path_rule.specs.Boxed.{HandsAs, AreFirst}
use Rattle.path_rule.specs.Boxes.{all_boxes, first_progress, DeskIs, NotesAre}
use Rattle.path_rule.specs.FirstBoxes.{AreEmpty}
use Rattle.path_rule.specs.Lasts.{beside_of, lasting_of, none_filed, none_lasting, put_table}
use Rattle.path_rule.specs.Lasts.{stopped_with, IsNew}
use Rattle.path_rule.specs.Layout.{first_words}
use Rattle.path_rule.specs.Memtables.{PutNotes, PutsAs}
use Rattle.path_rule.specs.Reads.{ReadsAs}
use Rattle.path_rule.specs.Rule.{start_of, IsFit, Knows, IsSized, Ruled, opener}
use Rattle.path_rule.specs.Trails.{ViewTells}
use Rattle.path_rule.proofs.log.Issues.{memtables_first}
use Rattle.path_rule.proofs.log.TrailsTell.{none_tells}
use Rattle.path_rule.proofs.seats.Dealing.{at_end}
use Rattle.path_rule.proofs.seats.FirstWords.{same_all, first_word}

module _ {K : Type 0} (shows : K → Lasting) (o : Beside) where
  some_at : (ys : List (Slot K)) (b : ℕ) → b < length ys → (y : Slot K) × (get_elem? ys b ≡ some y)
  some_at [] b l = absurd (omega arith)
  some_at (y ∷ ys) zero l = (y, refl)
  some_at (y ∷ ys) (suc b) l = some_at ys b (omega arith)

  pub begins : (size : PathSize) (xs : List (Slot K)) → o.tables ≡ size.tables → IsFit size
      → length xs ≡ all_boxes size.seats → AreFirst shows o size xs
      → Ruled shows o size (opening first_words xs (opener 0 size))
  begins size xs tabled fit long first = record {
    core = start_of size;
    events = [];
    owner = λ _. 0;
    made = 0;
    boss = 0;
    run = refl;
    built = tt;
    fit = fit;
    wide = length-set {A = ℕ} (replicate 704 0) 32 28 ∙ length-replicate {A = ℕ} 704 0;
    rows = record {
      groups = λ o. few o;
      memtables = λ t. subst
          (λ (x : TableState). length x.memtables ≤ 2 ^ 47)
          (sym (same_all size.tables t fresh_table))
          (omega arith);
      all = (let first = memtables_first size 16 in omega (arith, first));
    };
    few = λ w. omega arith;
    paid = λ w. omega arith;
    long = length-replicate size.seats fresh_seat;
    enough = omega arith;
    deep = length-map xs some ∙ long;
    kept_to = 0;
    may_be_kept = inl (omega arith);
    risen = λ above. absurd (omega arith);
    filed = none_filed;
    dropped = [];
    filing = record {
      ranged = refl;
      merged = λ f h. absurd (let l = h.1 in omega arith);
      gone = λ k h. absurd (let l = h.1 in omega arith);
      few = omega arith;
      plain = λ _. (refl, refl, refl);
      none_archived = λ _. refl;
      all_archived = λ _ n h. h;
      archived_may = λ n h. absurd (let l = h.1 in omega arith);
    };
    unstepped = λ _. (refl, refl);
    tabled = tabled;
    boxed = record {
      contents = λ _. [];
      stamp = λ _. 0;
      pending = [];
      progress = first_progress;
      marked = refl;
      near = omega arith;
      all = λ _. refl;
      at_home = λ b l free. let y = some_at xs b (omega arith) in let f = first.each b y.0 y.1 in
          (y.0, at_map some xs b y.0 y.1, record { desk = f.0; notes = f.1 });
      in_hands = λ j u e. first_hands j u e;
      noted = λ n h. absurd (let l = h.1 in omega arith);
      stamped = λ b n h. absurd (let l = h.1 in omega arith);
      within = λ b n h. absurd (let l = h.1 in omega arith);
      sound = λ n h. absurd (⊎_elim (λ q. let l = q.1 in omega arith)
          (λ (t : (b : ℕ) × Contains [] n). let l = t.1.1 in omega arith) h);
      alone = λ k b c _. omega arith;
      unlogged = λ n h l. let q = l.1 in omega arith;
    };
    memtables = record {
      contents = λ _. [];
      at_home = λ b low high free. let y = some_at xs b (omega arith) in
          (y.0, at_map some xs b y.0 y.1, (first.each b y.0 y.1).1 (omega arith));
      in_hands = λ j u e. first_puts j u e;
      kept = λ p h _. absurd (let l = h.1 in omega arith);
      sound = λ w t m n _ h. absurd (let l = h.1 in omega arith);
      settled = λ w t m n _ h. absurd (let l = h.1 in omega arith);
      once = λ k b. omega arith;
      within = λ b n h. absurd (let l = h.1 in omega arith);
      noted = λ j u e. first_noted j u e;
    };
    reads = λ j u e. first_reads j u e;
    words = first_word size fit;
    fresh = λ w _. (refl, same_all size.seats w fresh_seat);
    each_seat = λ j u e. first_view j u e;
    tells = λ j u e. first_tells j u e;
  }
    where
      few : (o : Order) → length (groups_of (start_of size) o).tallies ≤ 2 ^ 47
      few Write = omega arith
      few Append = omega arith

      first_hands : (j : ℕ) (u : View) → get_elem? (opener 0 size ∷ []) j ≡ some u
          → HandsAs (λ _. []) (none_lasting o size) [] first_progress
          (start_of size).append size.seats u.part u.hands u.role
      first_hands zero u e = let P : View → Type 0 =
          λ y. HandsAs (λ _. []) (none_lasting o size) [] first_progress
          (start_of size).append size.seats y.part y.hands y.role in
          subst P (some-injective (opener 0 size) u e) tt
      first_hands (suc j) u e = absurd (some-ne-none u (sym e))

      first_reads : (j : ℕ) (u : View) → get_elem? (opener 0 size ∷ []) j ≡ some u
          → ReadsAs size.seats (start_of size) u.part u.hands u.role
      first_reads zero u e = let P : View → Type 0 =
          λ y. ReadsAs size.seats (start_of size) y.part y.hands y.role in
          subst P (some-injective (opener 0 size) u e) refl
      first_reads (suc j) u e = absurd (some-ne-none u (sym e))

      first_puts : (j : ℕ) (u : View) → get_elem? (opener 0 size ∷ []) j ≡ some u
          → PutsAs (λ _. []) size.seats u.part u.hands u.role
      first_puts zero u e = let P : View → Type 0 =
          λ y. PutsAs (λ _. []) size.seats y.part y.hands y.role in
          subst P (some-injective (opener 0 size) u e) refl
      first_puts (suc j) u e = absurd (some-ne-none u (sym e))

      first_noted : (j : ℕ) (u : View) → get_elem? (opener 0 size ∷ []) j ≡ some u
          → PutNotes (start_of size).notes u.hands
      first_noted zero u e = subst (λ (y : View). PutNotes (start_of size).notes y.hands)
          (some-injective (opener 0 size) u e) (λ a h. absurd (let l = h.1 in omega arith))
      first_noted (suc j) u e = absurd (some-ne-none u (sym e))

      first_view : (j : ℕ) (u : View) → get_elem? (opener 0 size ∷ []) j ≡ some u
          → IsSized size u × Knows (start_of size) []
          (λ _. 0) 0 0 j u.role u.part u.trail u.returned
      first_view zero u e = let P : View → Type 0 =
          λ y. IsSized size y × Knows (start_of size) []
          (λ _. 0) 0 0 0 y.role y.part y.trail y.returned in
          subst P (some-injective (opener 0 size) u e)
          (refl, (refl, refl, λ n b e'. absurd (some-ne-none b (sym e'))))
      first_view (suc j) u e = absurd (some-ne-none u (sym e))

      first_tells : (j : ℕ) (u : View) → get_elem? (opener 0 size ∷ []) j ≡ some u
          → ViewTells size.capacity (start_of size) u
      first_tells zero u e = none_tells size.capacity (start_of size) u
          (sym (ap (λ (y : View). y.trail) (some-injective (opener 0 size) u e)))
          (sym (ap (λ (y : View). y.returned) (some-injective (opener 0 size) u e)))
      first_tells (suc j) u e = absurd (some-ne-none u (sym e))

  -- A desk is put in front of the boxes, each of which holds no note.
  pub first_set : (size : PathSize) (xs : List (Slot K)) (desk : Desk K) → AreEmpty xs
      → DeskIs shows (Turn desk) (none_lasting o size) [] first_progress
      → AreFirst shows o size (set xs 0 (Turn desk))
  first_set size xs desk none_yet is = record { each = λ b y e. each xs none_yet b y e }
    where
      each : (xs : List (Slot K)) → AreEmpty xs → (b : ℕ) (y : Slot K)
          → get_elem? (set xs 0 (Turn desk)) b ≡ some y
          → (b ≡ 0 → DeskIs shows y (none_lasting o size) [] first_progress) × (0 < b
          → NotesAre y [])
      each [] no_box b y e = absurd (some-ne-none y (sym e))
      each (x ∷ xs) no_box zero y e =
          let same : Turn desk ≡ y = some-injective (Turn desk) y e in (
            (λ _. subst (λ z. DeskIs shows z (none_lasting o size) [] first_progress) same is),
            (λ l. absurd (omega arith)),
          )
      each (x ∷ xs) no_box (suc b) y e =
          ((λ l. absurd (omega arith)), (λ _. no_box (suc b) y e))

-- A keeper that was just opened shows that nothing is lasting.
pub new_lasting : (size : PathSize) (h : Holding) → IsNew size h
    → lasting_of h ≡ none_lasting (beside_of h) size
new_lasting size h n = let f = n.1 in λ i. record {
  logged = f.nothing_logged i;
  synced = f.nothing_synced i;
  dropped = f.none_dropped i;
  kept = f.nothing_kept i;
  stopped = stopped_with (f.runs i) h.faults;
  at_open = n.4 i;
  capacity = (ap (λ (s : Sizes). s.capacity) f.sizes_are ∙ n.2) i;
  ordinals = (ap (λ (s : Sizes). s.ordinals) f.sizes_are ∙ n.3) i;
  base = f.base_is i;
  filed = record {
    files = map put_table (f.no_file i);
    refused = is_some (f.none_refused i);
    archived = f.none_archived i;
  };
  beside = beside_of h;
}

module _ {K : Type 0} where
  pub empty_more : (xs : List (Slot K)) (l : List EntryNote) → l ≡ [] → AreEmpty xs
      → AreEmpty (xs ++ Notes l ∷ [])
  empty_more xs l none_yet E b y e = ⊎_elim (λ old. E b y old)
      (λ (t : (Notes l ≡ y) × (b ≡ length xs)). subst (λ z. NotesAre z []) t.0 none_yet)
      (at_end xs (Notes l) y b e)

  pub set_front : (xs : List (Slot K)) (y : Slot K) → 0 < length xs
      → get_elem? (set xs 0 y) 0 ≡ some y
  set_front [] y l = absurd (omega arith)
  set_front (x ∷ xs) y l = refl
