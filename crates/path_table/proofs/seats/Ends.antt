-- What a closed table tells.
use Rattle.std.proofs.Common.{◌≡◌, ℕ, zero, suc, ◌+◌, ◌*◌, ◌<◌, ◌≤◌, Bool, false, cond, get_or, set}
use Rattle.std.proofs.Common.{List, [], ◌∷◌, map, Option, None, is_some, eq-eqb, refl, sym, ap, ◌∙◌}
use Rattle.std.proofs.Common.{subst, ⊎_elim, arith}
use Rattle.std.specs.Prelude.{◌^◌, slice_index}
use mathlib.Core.Logic.{dite}
use mathlib.Core.Option.{some, none, some-injective, some-ne-none}
use mathlib.Core.Option as maybe
use native.Mathlib.Decide.{dec_lt}
use lib.ListN.{get_elem?}
use Rattle.atomic_table.specs.Table.{State, Final, Seen}
use Rattle.path_core.specs.declared.event.Event.{Event}
use Rattle.path_core.specs.declared.event.Place.TheVariants.{Log}
use Rattle.path_core.specs.declared.seat.Seat.{Seat}
use Rattle.path_core.specs.declared.seat.SyncTurn.{SyncTurn}
use Rattle.path_core.specs.declared.state.PathState.{PathState}
use Rattle.path_core.specs.Words.{by_of}
use Rattle.path_core.specs.Keeper.{Holding, HasRisen}
use Rattle.path_core.specs.Parts.{HoldsNoTurn, seat_of, seat_table}
use Rattle.path_core.specs.Runs.{Past}
use Rattle.path_rule.specs.declared.lasting.Beside.{Beside}
use Rattle.path_rule.specs.declared.lasting.Lasting.{Lasting}
use Rattle.path_rule.specs.declared.slot.Slot.{Slot}
use Rattle.path_rule.specs.declared.slot.Slot.TheVariants.{Notes, Turn}
use Rattle.path_rule.specs.declared.view.OwnStep.{OwnStep}
use Rattle.path_rule.specs.declared.view.PathSize.{PathSize}
use Rattle.path_rule.specs.declared.view.Returned.{Returned}
use Rattle.path_rule.specs.declared.view.Role.{Role}
use Rattle.path_rule.specs.declared.view.Role.TheVariants.{Opener, Steps, Spent}
use Rattle.path_rule.specs.declared.view.View.{View}
use Rattle.path_rule.specs.Boxes.{HoldsAs, HoldsBox, IsFree, DeskIs}
use Rattle.path_rule.specs.Filing.{HasFiled}
use Rattle.path_rule.specs.FirstBoxes.{HasInFront}
use Rattle.path_rule.specs.Lasts.{lasting_of, shown}
use Rattle.path_rule.specs.Rule.{AreBuilt, IsFit, start_of, Knows, Ruled, event_of, steps_by}
use Rattle.path_rule.specs.Sharing.{Ended, EndsUnused, HasAll}
use Rattle.path_rule.specs.Trails.{TrailTells, ViewTells}
use Rattle.path_rule.proofs.boxes.SameBoxes.{holds_none}
use Rattle.path_rule.proofs.log.FilingStays.{dropped_at_home}
use Rattle.path_rule.proofs.moves.Moving.{core_lawful}
use Rattle.path_rule.proofs.seats.Untaken.{untaken}
use Rattle.path_table.specs.declared.bounds.TableBounds.{TableBounds}
use Rattle.path_table.specs.ClosedBounds.{TellsBounds, last_key}
use Rattle.path_table.proofs.seats.FinalBounds.{NobodyFlushes, bounds_final, fresh_flushes}
use Rattle.path_table.proofs.seats.LastBounds.{few_newest, last_is}

-- what is set to false, or behind a list's end, reads false
pub set_false : (l : List Bool) (i k : ℕ) → k ≡ i → get_or (set l i false) k false ≡ false
set_false l i k same = ap (λ (j : ℕ). get_or (set l i false) j false) same ∙ by l i
  where
    by : (l : List Bool) (i : ℕ) → get_or (set l i false) i false ≡ false
    by [] i = refl
    by (b ∷ bs) zero = refl
    by (b ∷ bs) (suc i) = by bs i

module _ {K : Type 0} (shows : K → Lasting) (o : Beside) where
  at_four : (l : List ℕ) (i a : ℕ) → get_elem? l i ≡ some a → slice_index l i ≡ a
  at_four [] i a e = absurd (some-ne-none a (sym e))
  at_four (x ∷ xs) zero a e = some-injective x a e
  at_four (x ∷ xs) (suc i) a e = at_four xs i a e

  -- Where every box is at home, the keeper lies on the desk in front.
  pub desk_home : (key : PathSize) (id : ℕ) (v : View)
      → ((s : State (Slot K) View) → Ruled shows o key s → get_elem? s.views id ≡ some v
      → (b : ℕ) → IsFree s.views b)
      → (ws : List ℕ) (xs : List (Slot K)) → (f : Final (Seen (Ruled shows o key) id v) ws xs)
      → (keeper : K) × HasInFront keeper xs
      × (shows keeper ≡ shown o key.at_open f.1.0.kept_to f.1.0.filed f.1.0.dropped f.1.0.core)
  desk_home key id v free ws xs f = let r : Ruled shows o key f.0 = f.1.0 in
      let y = r.boxed.at_home 0 (omega arith) (free f.0 r f.1.1 0) in
      found y.0 (f.4 0 y.0 y.1) (y.2.desk refl)
    where
      found : (y : Slot K) → get_elem? xs 0 ≡ some y
          → DeskIs shows y (shown o key.at_open f.1.0.kept_to f.1.0.filed f.1.0.dropped f.1.0.core)
          f.1.0.boxed.pending f.1.0.boxed.progress → (keeper : K) × HasInFront keeper xs
          × (shows keeper ≡ shown o key.at_open f.1.0.kept_to f.1.0.filed f.1.0.dropped f.1.0.core)
      found (Notes kept) e d = absurd d
      found (Turn desk) e d = (desk.keeper, record { desk = desk; lies = refl; front = e }, d.0)

  -- Where no seat was handed out, every box is at home, and no step was made.
  pub free_unmade : (key : PathSize) (id : ℕ) (v : View) → v.role ≡ Opener 0
      → (s : State (Slot K) View) → Ruled shows o key s → get_elem? s.views id ≡ some v
      → (b : ℕ) → IsFree s.views b
  free_unmade key id v role s r at b j u e h = by_role u.role (r.each_seat j u e).1 h
    where
      made : 0 ≡ r.made
      made = (subst (λ ρ. Knows r.core r.events r.owner r.made r.boss id ρ v.part v.trail
          v.returned) role (r.each_seat id v at).1).0

      by_role : (ρ : Role) → Knows r.core r.events r.owner r.made r.boss j ρ u.part u.trail
          u.returned → HoldsAs u.part.append (is_some u.part.sync) u.hands.box_taken b ρ → ⊥
      by_role (Opener k) kn h = h
      by_role Spent kn h = h
      by_role (Steps z) kn h = let l = kn.0.0 in let m = made in absurd (omega arith)

  module _ (key : PathSize) (id w : ℕ) (v : View) (role : v.role ≡ Steps w)
      (all : HasAll key.seats w v.returned) (outside : v.part.append ≡ None)
      (unheld : v.part.sync ≡ None) where
    -- where a seat took in all others, every box is at home
    pub free_all : (s : State (Slot K) View) (r : Ruled shows o key s)
        → get_elem? s.views id ≡ some v
        → (b : ℕ) → IsFree s.views b
    free_all s r at b j u e h = by_role u.role (r.each_seat j u e).1 h
      where
        mine : Knows r.core r.events r.owner r.made r.boss id (Steps w) v.part v.trail v.returned
        mine = subst (λ ρ. Knows r.core r.events r.owner r.made r.boss id ρ v.part v.trail
            v.returned) role (r.each_seat id v at).1

        own : j ≡ id → ⊥
        own same = holds_none v outside unheld
            (untaken shows o key s r id w v at role unheld) b (subst (λ z. HoldsBox z b)
            (some-injective u v (sym e ∙ (ap (get_elem? s.views) same ∙ at))) h)

        by_role : (ρ : Role) → Knows r.core r.events r.owner r.made r.boss j ρ u.part u.trail
            u.returned → HoldsAs u.part.append (is_some u.part.sync) u.hands.box_taken b ρ → ⊥
        by_role (Opener k) kn h = h
        by_role Spent kn h = h
        by_role (Steps z) kn h = ⊎_elim (λ same. own (sym kn.0.1 ∙ (ap r.owner same ∙ mine.0.1)))
            (λ (t : (n : ℕ) × (c : Returned) × (get_elem? v.returned n ≡ some c) × (c.number ≡ z)).
            own (sym kn.0.1 ∙ (ap r.owner (sym t.3) ∙ (mine.1 t.0 t.1 t.2).0.1)))
            (all z (let a = kn.0.0 in let c = r.enough in omega arith))

  -- Where a seat that does not hold the Sync turn took in all others, nobody holds it.
  pub none_holds : (key : PathSize) (id w : ℕ) (v : View) → v.role ≡ Steps w
      → HasAll key.seats w v.returned → v.part.sync ≡ None → (s : State (Slot K) View)
      (r : Ruled shows o key s) → get_elem? s.views id ≡ some v → (z : ℕ)
      → is_some (seat_of r.core z).sync ≡ false
  none_holds key id w v role all unheld s r at z = dite (dec_lt z key.seats)
      (λ low. ⊎_elim (λ same. subst (λ (k : ℕ). is_some (seat_of r.core k).sync ≡ false)
      (sym same) (ap (λ (p : Seat). is_some p.sync) (sym mine.0.2)
      ∙ ap (λ (turn : Option SyncTurn). is_some turn) unheld))
      (λ (t : (n : ℕ) × (c : Returned) × (get_elem? v.returned n ≡ some c) × (c.number ≡ z)).
      subst (λ (k : ℕ). is_some (seat_of r.core k).sync ≡ false) t.3
      (ap (λ (p : Seat). is_some p.sync) (sym (mine.1 t.0 t.1 t.2).0.2)
      ∙ ap (λ (turn : Option SyncTurn). is_some turn)
      ((r.tells id v at).free t.0 t.1 t.2).sync))
      (all z low))
      (λ high. ap (λ (p : Seat). is_some p.sync)
      (r.fresh z (let few = r.enough in omega arith)).1)
    where
      mine : Knows r.core r.events r.owner r.made r.boss id (Steps w) v.part v.trail v.returned
      mine = subst (λ ρ. Knows r.core r.events r.owner r.made r.boss id ρ v.part v.trail
          v.returned) role (r.each_seat id v at).1

  -- Where a seat that holds no turn took in all others, nobody holds a table's.
  none_flushes : (key : PathSize) (id w : ℕ) (v : View) → v.role ≡ Steps w
      → HasAll key.seats w v.returned → HoldsNoTurn v.part → (s : State (Slot K) View)
      (r : Ruled shows o key s) → get_elem? s.views id ≡ some v → NobodyFlushes r.core
  none_flushes key id w v role all unheld s r at z t = dite (dec_lt z key.seats)
      (λ low. ⊎_elim (λ same. of_seat w same v.part mine.0.2 unheld)
      (λ (q : (n : ℕ) × (c : Returned) × (get_elem? v.returned n ≡ some c) × (c.number ≡ z)).
      of_seat q.1.number (sym q.3) q.1.part (mine.1 q.0 q.1 q.2).0.2
      ((r.tells id v at).free q.0 q.1 q.2))
      (all z low))
      (λ high. fresh_flushes (seat_of r.core z) (r.fresh z (let few = r.enough in omega arith)).1 t)
    where
      mine : Knows r.core r.events r.owner r.made r.boss id (Steps w) v.part v.trail v.returned
      mine = subst (λ ρ. Knows r.core r.events r.owner r.made r.boss id ρ v.part v.trail
          v.returned) role (r.each_seat id v at).1

      of_seat : (k : ℕ) → z ≡ k → (p : Seat) → p ≡ seat_of r.core k → HoldsNoTurn p
          → (seat_table (seat_of r.core z) t).flush ≡ None
      of_seat k same p part holds = ap (λ (j : ℕ). (seat_table (seat_of r.core j) t).flush) same
          ∙ (ap (λ (i : Seat). (seat_table i t).flush) (sym part) ∙ holds.flush t)

  -- the words tell of how many memtables there are, and the bounds below the newest ones
  pub few_words : (key : PathSize) (id : ℕ) (v : View) (ws : List ℕ) (xs : List (Slot K))
      → Final (Seen (Ruled shows o key) id v) ws xs
      → (t : ℕ) → t < 16 → slice_index ws (64 + 4 * t) ≤ 2 ^ 47
  few_words key id v ws xs f t inside = let r : Ruled shows o key f.0 = f.1.0 in
      subst (λ (l : List ℕ). slice_index l (64 + 4 * t) ≤ 2 ^ 47) f.2
      (few_newest r.core (core_lawful shows o key f.0 r) r.rows f.0.words r.words t inside)

  tells_them : (key : PathSize) (id : ℕ) (v : View) (ws : List ℕ) (xs : List (Slot K))
      → (f : Final (Seen (Ruled shows o key) id v) ws xs) → (bounds : TableBounds)
      → ((t : ℕ) → t < 16 → slice_index bounds.keys t ≡ last_key ws t)
      → NobodyFlushes f.1.0.core → TellsBounds f.1.0.core bounds
  tells_them key id v ws xs f bounds told free = let r : Ruled shows o key f.0 = f.1.0 in
      let L = core_lawful shows o key f.0 r in
      bounds_final r.core L free bounds (λ t inside.
      told t inside ∙ (ap (λ (l : List ℕ). last_key l t) (sym f.2)
      ∙ last_is r.core L r.rows f.0.words r.words t inside))

  pub ends_by : (size key : PathSize) (id w log : ℕ) (keeper : Holding) (v : View) (ws : List ℕ)
      (xs : List (Slot K)) → key ≡ size → v.role ≡ Steps w → HasAll key.seats w v.returned
      → HoldsNoTurn v.part → (f : Final (Seen (Ruled shows o key) id v) ws xs)
      → get_elem? ws 32 ≡ some log
      → lasting_of keeper ≡ shown o key.at_open f.1.0.kept_to f.1.0.filed f.1.0.dropped f.1.0.core
      → (bounds : TableBounds)
      → ((t : ℕ) → t < 16 → slice_index bounds.keys t ≡ last_key ws t)
      → (ended : Ended o size (record { number = w; part = v.part; trail = v.trail } ∷ v.returned)
      log keeper) × TellsBounds ended.core bounds
  ends_by size key id w log keeper v ws xs same role all unheld f e kept bounds told =
      let s = f.0 in
      let r : Ruled shows o key s = f.1.0 in
      let k = subst (λ ρ. Knows r.core r.events r.owner r.made r.boss id ρ v.part v.trail
      v.returned) role (r.each_seat id v f.1.1).1 in
      let ran = subst (λ (z : PathSize). (p : Past (start_of z) r.events r.core)
      × AreBuilt z.at_open (start_of z) r.events r.core p) same (r.run, r.built) in (
        record {
          core = r.core;
          events = r.events;
          fit = subst IsFit same r.fit;
          run = ran.0;
          built = ran.1;
          lawful = core_lawful shows o key s r;
          rows = r.rows;
          log_is = sym (at_four ws 32 log e) ∙
              (ap (λ (l : List ℕ). slice_index l 32) (sym f.2) ∙ r.words Log tt);
          kept_to = r.kept_to;
          may_be_kept = r.may_be_kept;
          filed = r.filed;
          dropped = r.dropped;
          filing = subst (λ (z : PathSize). HasFiled o z r.core r.filed r.dropped) same r.filing;
          gone = dropped_at_home r.core key r.filed r.dropped r.filing
              (none_holds key id w v role all unheld.sync s r f.1.1);
          lasting_is = kept ∙ ap (λ (z : PathSize). shown o z.at_open r.kept_to r.filed r.dropped
              r.core) same;
          risen = subst (λ (z : PathSize). 0 < r.core.stopped → HasRisen z.at_open r.core.stopped)
              same r.risen;
          each = one s r k (r.tells id v f.1.1);
        },
        tells_them key id v ws xs f bounds told (none_flushes key id w v role all unheld s r f.1.1),
      )
    where
      sized : (x : PathState) (ts : List OwnStep) → TrailTells key.capacity x ts
          → TrailTells size.capacity x ts
      sized x ts T = subst (λ (z : PathSize). TrailTells z.capacity x ts) same T

      one : (s : State (Slot K) View) (r : Ruled shows o key s)
          → Knows r.core r.events r.owner r.made r.boss id (Steps w) v.part v.trail v.returned
          → ViewTells key.capacity r.core v → (n : ℕ) (b : Returned) → get_elem?
          (record { number = w; part = v.part; trail = v.trail } ∷ v.returned) n ≡ some b
          → (b.part ≡ seat_of r.core b.number) × (map event_of b.trail ≡ steps_by b.number r.events)
          × TrailTells size.capacity r.core b.trail
      one s r k V zero b q = let is : record { number = w; part = v.part; trail = v.trail } ≡ b =
          some-injective (record { number = w; part = v.part; trail = v.trail }) b q in
          subst (λ (c : Returned). (c.part ≡ seat_of r.core c.number)
          × (map event_of c.trail ≡ steps_by c.number r.events)
          × TrailTells size.capacity r.core c.trail) is (k.0.2, k.0.3, sized r.core v.trail V.own)
      one s r k V (suc n) b q = let h = (k.1 n b q).0 in
          (h.2, h.3, sized r.core b.trail (V.returned n b q))

  -- no step is anybody's
  nobody : (es : List Event) → ((w : ℕ) → steps_by w es ≡ []) → es ≡ []
  nobody [] none_made = refl
  nobody (e ∷ es) none_made = absurd (some-ne-none e (ap first_of
      (ap (λ b. cond b (e ∷ steps_by (by_of e) es) (steps_by (by_of e) es))
      (sym (eq-eqb (by_of e) (by_of e) refl)) ∙ none_made (by_of e))))
    where
      first_of : List Event → maybe.Option Event
      first_of [] = none
      first_of (x ∷ xs) = some x

  pub ends_unmade : (size key : PathSize) (id log : ℕ) (keeper : Holding) (v : View) (ws : List ℕ)
      (xs : List (Slot K)) → key ≡ size → v.role ≡ Opener 0
      → (f : Final (Seen (Ruled shows o key) id v) ws xs) → get_elem? ws 32 ≡ some log
      → lasting_of keeper ≡ shown o key.at_open f.1.0.kept_to f.1.0.filed f.1.0.dropped f.1.0.core
      → (bounds : TableBounds)
      → ((t : ℕ) → t < 16 → slice_index bounds.keys t ≡ last_key ws t)
      → EndsUnused o size log keeper × TellsBounds (start_of size) bounds
  ends_unmade size key id log keeper v ws xs same role f e kept bounds told = let s = f.0 in
      let r : Ruled shows o key s = f.1.0 in
      let made : 0 ≡ r.made = (subst (λ ρ. Knows r.core r.events r.owner r.made r.boss id ρ v.part
      v.trail v.returned) role (r.each_seat id v f.1.1).1).0 in
      let no_step : r.events ≡ [] = nobody r.events (λ w. (r.fresh w (omega arith)).0) in
      let core_is : start_of key ≡ r.core =
      subst (λ (es : List Event). Past (start_of key) es r.core) no_step r.run in
      let core : r.core ≡ start_of size = sym core_is ∙ ap start_of same in (
        (
          sym (at_four ws 32 log e) ∙ (ap (λ (l : List ℕ). slice_index l 32) (sym f.2)
              ∙ (r.words Log tt ∙ ap (λ (x : PathState). x.log) core)),
          kept ∙ (λ i. shown o ((ap (λ (z : PathSize). z.at_open) same) i) r.kept_to
              ((r.unstepped no_step).0 i) ((r.unstepped no_step).1 i) (core i)),
        ),
        subst (λ (x : PathState). TellsBounds x bounds) core
            (tells_them key id v ws xs f bounds told (λ z.
            fresh_flushes (seat_of r.core z) (r.fresh z (omega (arith, made))).1)),
      )
