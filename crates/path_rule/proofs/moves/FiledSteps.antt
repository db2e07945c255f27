-- The holder of both turns retires a memtable with the table file that the keeper on the desk has
-- put.
use Rattle.std.proofs.Common.{◌≡◌, ◌≢◌, ℕ, zero, suc, ◌+◌, ◌*◌, ◌<◌, ◌≤◌, not, Bool, true, false}
use Rattle.std.proofs.Common.{List, [], ◌∷◌, ◌++◌, length, map, set, Some, None, is_some, IsTrue}
use Rattle.std.proofs.Common.{refl, sym, ap, ◌∙◌, subst, ⊎_elim, arith, get_or-set_same}
use Rattle.std.specs.List.{Contains}
use Rattle.std.proofs.lemmas.Bool.{false≢true}
use Rattle.std.proofs.lemmas.List.{map-append, set-set}
use Rattle.std.proofs.lemmas.List.Elements.{Contains-append_cases}
use Rattle.std.proofs.lemmas.Option.{none-some, same_Some}
use mathlib.Core.Logic.{dite, inl, inr}
use mathlib.Core.Option.{none, some}
use native.Mathlib.Decide.{ℕ_discrete}
use lib.ListN.{get_elem?}
use Rattle.atomic_table.proofs.Lists.{set_here}
use Rattle.atomic_table.specs.Table.{State, Me, step, keeps, Allows}
use Rattle.clog_base.specs.declared.cell.Cell.{Cell}
use Rattle.clog_base.specs.declared.cell.CellKey.{CellKey}
use Rattle.clog_base.specs.declared.cell.Table.{Table}
use Rattle.path_core.specs.declared.event.Cursor.TheVariants.{OldestLive}
use Rattle.path_core.specs.declared.event.Event.{Event}
use Rattle.path_core.specs.declared.event.Event.TheVariants.{Put}
use Rattle.path_core.specs.declared.event.Reading.TheVariants.{Number}
use Rattle.path_core.specs.declared.seat.SyncTurn.{SyncTurn}
use Rattle.path_core.specs.declared.state.PathState.{PathState}
use Rattle.path_core.specs.declared.state.TableState.{TableState}
use Rattle.path_core.specs.declared.state.WrittenFile.{WrittenFile}
use Rattle.path_core.specs.Allowed.{IsStep}
use Rattle.path_core.specs.Keys.{after}
use Rattle.path_core.specs.Lawful.{IsLawfulPath}
use Rattle.path_core.specs.Next.{next_of}
use Rattle.path_core.specs.Parts.{fresh_table, is_empty, last_upper, table_of}
use Rattle.path_core.specs.SeatAfter.{seat_after}
use Rattle.path_core.proofs.files.LastFile.{oldest_grows}
use Rattle.path_core.proofs.runs.EveryRun.{placing_of}
use Rattle.path_rule.specs.declared.lasting.Beside.{Beside}
use Rattle.path_rule.specs.declared.lasting.Filed.{Filed}
use Rattle.path_rule.specs.declared.lasting.Lasting.{Lasting}
use Rattle.path_rule.specs.declared.lasting.PutTable.{PutTable}
use Rattle.path_rule.specs.declared.slot.Slot.{Slot}
use Rattle.path_rule.specs.declared.view.FlushRead.{FlushRead}
use Rattle.path_rule.specs.declared.view.Hands.{Hands}
use Rattle.path_rule.specs.declared.view.PathSize.{PathSize}
use Rattle.path_rule.specs.declared.view.Role.TheVariants.{Steps}
use Rattle.path_rule.specs.declared.view.View.{View}
use Rattle.path_rule.specs.Filing.{HasFiled, IsCellBetween, IsFileOf, file_range, more_filed}
use Rattle.path_rule.specs.Filing.{put_range, retired_in, upper_of}
use Rattle.clog_cells.specs.Merge.{IsMergeOf}
use Rattle.path_rule.specs.FilingTold.{AreSeen, CarriesFiled, FoundFinal, MadeFiled, RetiredFiled}
use Rattle.path_rule.specs.FilingTold.{SeesAll, next_file}
use Rattle.path_rule.specs.HandsAfter.{with_desk, with_reading}
use Rattle.path_rule.specs.Lasts.{shown}
use Rattle.path_rule.specs.Memtables.{HasMemtables, PutsAs}
use Rattle.path_rule.specs.Retires.{RetiresFiledIn, written_as}
use Rattle.path_rule.specs.Rule.{Ruled, Was, told_by, view_filed, with_hands}
use Rattle.path_rule.proofs.boxes.AtHome.{inside_list}
use Rattle.path_rule.proofs.boxes.DeskChanged.{boxed_desk_turns}
use Rattle.path_rule.proofs.boxes.MemtableReads.{read_still}
use Rattle.path_rule.proofs.boxes.MemtablesStay.{memtables_stay, puts_stay, runs_still}
use Rattle.path_rule.proofs.log.FilingStays.{may_still, retired_grows, still_going}
use Rattle.path_rule.proofs.log.KeptStays.{kept_stays}
use Rattle.path_rule.proofs.moves.FilingFacts.{ends_at, file, file_of_seen, files_then, filled}
use Rattle.path_rule.proofs.moves.FilingFacts.{live, may, upper_is}
use Rattle.path_rule.proofs.moves.HolderFacts.{outside, others_free, is_held, hands_now}
use Rattle.path_rule.proofs.moves.Moving.{capacity_is, columns_now, core_lawful, kept_before, known}
use Rattle.path_rule.proofs.moves.Moving.{place_still, plays_all, puts_now, reads_then, was}
use Rattle.path_rule.proofs.moves.RetiredBoxes.{late_still}
use Rattle.path_rule.proofs.moves.StepFacts.{last_same}
use Rattle.path_rule.proofs.moves.SyncFacts.{turn_exact}
use Rattle.path_rule.proofs.moves.SyncSteps.{desk_same, top_box}
use Rattle.path_rule.proofs.moves.TableTurns.{each_table_name}
use Rattle.path_rule.proofs.places.ReadBack.{rows_stay}
use Rattle.path_rule.proofs.seats.HolderKnows.{still}

-- one memtable more is retired
retired_more : (x : PathState) → IsLawfulPath x → (w : ℕ) (t : Table) (f : ℕ)
    → IsStep x (Put w (OldestLive t) f) → (n : ℕ) → t.0 < n
    → suc (retired_in x n) ≤ retired_in (next_of x (Put w (OldestLive t) f)) n
retired_more x L w t f a zero low = absurd (omega arith)
retired_more x L w t f a (suc n) low = dite (ℕ_discrete t.0 n)
    (λ same. let more = retired_grows x L (Put w (OldestLive t) f) a n in
    let up : (table_of (next_of x (Put w (OldestLive t) f)) t.0).oldest_live ≡ f =
    ap (λ (tb : TableState). tb.oldest_live)
    (get_or-set_same x.tables t.0 (record (table_of x t.0) { oldest_live = f }) fresh_table
    a.is_there) in let is = a.row.1 in
    subst (λ (k : ℕ). suc (retired_in x k + (table_of x k).oldest_live)
    ≤ retired_in (next_of x (Put w (OldestLive t) f)) k
    + (table_of (next_of x (Put w (OldestLive t) f)) k).oldest_live) same
    (let grown : retired_in x t.0 ≤ retired_in (next_of x (Put w (OldestLive t) f)) t.0 =
    retired_grows x L (Put w (OldestLive t) f) a t.0 in omega arith))
    (λ apart. let more = retired_more x L w t f a n (omega arith) in
    let up = oldest_grows x (placing_of x L) (Put w (OldestLive t) f) a n in omega arith)

module _ {K : Type 0} (shows : K → Lasting) (o : Beside) (size : PathSize) (slots id : ℕ)
    (m : Me (Slot K) View) (w : ℕ) (mine : m.0.role ≡ Steps w) (t : Table) (k bound : ℕ)
    (q : FlushRead) (cells : List (CellKey × Cell)) (few : t.0 < 16)
    (inside : t.0 < m.0.size.tables) (files : size.files ≡ true)
    (sees : SeesAll size.seats m.0.hands t.0 k q) (some_seen : q.seen ≢ [])
    (seen : AreSeen q t.0 cells) (final : FoundFinal t.0 m.0.part k bound) (turn : SyncTurn)
    (sync : m.0.part.sync ≡ Some turn) (runs : turn.stopped ≡ Some 0) (key : ℕ)
    (synced : turn.synced ≡ Some key) (low : bound ≤ after m.0.size.capacity key)
    (empty : m.0.hands.box_taken ≡ None) where
  abbrev put_now : PutTable
  put_now = next_file m.0.hands.lasting t.0 bound cells

  abbrev e : Event
  e = Put w (OldestLive t) (suc k)

  abbrev told_desk : Hands
  told_desk = with_desk (more_filed put_now m.0.hands.lasting) m.0.hands.pending
      m.0.hands.progress m.0.hands

  abbrev h : Hands
  h = with_reading None told_desk

  abbrev v' : View
  v' = view_filed (with_hands h m.0) e (suc k) put_now.lower

  abbrev held : IsTrue (is_some m.0.part.sync)
  held = is_held m.0.part.sync turn sync

  module _ (s : State (Slot K) View) (r : Ruled shows o size s)
      (there : get_elem? s.views id ≡ some m.0) where
    abbrev x : PathState
    x = r.core

    abbrev L : IsLawfulPath x
    L = core_lawful shows o size s r

    lasting : bound ≤ after x.capacity x.synced
    lasting = subst (λ (y : ℕ × ℕ). bound ≤ after y.0 y.1) (λ i. (
      (ap (λ (z : PathSize). z.capacity) (known shows o size s r id w m.0 there mine).0
          ∙ sym (capacity_is shows o size s r)) i,
      (turn_exact shows o size slots id m w mine s r there turn sync).synced key synced i,
    )) low

    abbrev may_now : IsStep x e
    may_now = may shows o size slots id m w mine s r there t k bound q inside sees some_seen final
        turn sync runs lasting

    abbrev written : WrittenFile
    written = file shows o size slots id m w mine s r there t k bound q inside sees some_seen final
        turn sync runs lasting

    files_now : (next_of x e).files ≡ x.files ++ written ∷ []
    files_now = files_then shows o size slots id m w mine s r there t k bound q inside sees
        some_seen final turn sync runs lasting

    lower_now : put_now.lower ≡ written.lower
    lower_now = ends_at shows o size slots id m w mine s r there t k bound q inside sees some_seen
        final turn sync runs lasting

    -- the key that the step gives is where the state's last file of the table ends
    lower_given : (lower : ℕ) → Some put_now.lower ≡ Some lower → lower ≡ last_upper x.files t.0
    lower_given lower gave = sym (same_Some put_now.lower lower gave) ∙ lower_now

    upper_now : written.upper ≡ bound
    upper_now = upper_is shows o size slots id m w mine s r there t k bound q inside sees some_seen
        final turn sync runs lasting

    abbrev put : Filed
    put = record r.filed { files = r.filed.files ++ put_now ∷ []; refused = false }

    true_now : IsFileOf x.notes put_now
    true_now = subst (λ (l : ℕ). IsMergeOf (IsCellBetween x.notes t.0 l bound) cells)
        (sym lower_now) (file_of_seen shows o size slots id m w mine s r there t k bound q inside
        sees some_seen final turn sync runs lasting cells seen)

    filed_now : HasFiled o size (next_of x e) put r.dropped
    filed_now = record {
      ranged = map-append put_range r.filed.files (put_now ∷ [])
          ∙ ((λ i. r.filing.ranged i ++ (t.0, (lower_now i, sym upper_now i)) ∷ [])
          ∙ (sym (map-append file_range x.files (written ∷ []))
          ∙ ap (λ (l : List WrittenFile). map file_range l) (sym files_now)));
      merged = λ f h. ⊎_elim (λ old. r.filing.merged f old)
          (λ new. subst (λ (g : PutTable). IsFileOf x.notes g) (one_of put_now f new) true_now)
          (Contains-append_cases r.filed.files (put_now ∷ []) f h);
      gone = λ z h. still_going x L e may_now z (r.filing.gone z h);
      few = (let long : length (next_of x e).files ≡ suc (length x.files) =
          ap (λ (l : List WrittenFile). length l) files_now ∙ one_longer x.files written in
          let few = r.filing.few in
          let up = retired_more x L w t (suc k) may_now 16 few_now in omega arith);
      plain = λ none. absurd (false≢true (sym none ∙ files));
      none_archived = r.filing.none_archived;
      all_archived = r.filing.all_archived;
      archived_may = λ z h. let M = r.filing.archived_may z h in may_still x L e may_now z M.0 M.1;
    }
      where
        few_now : t.0 < 16
        few_now = few

        one_of : (a b : PutTable) → Contains (a ∷ []) b → a ≡ b
        one_of a b (zero, inside, is) = is
        one_of a b (suc i, inside, is) = absurd (omega arith)

        one_longer : (l : List WrittenFile) (f : WrittenFile)
            → length (l ++ f ∷ []) ≡ suc (length l)
        one_longer [] f = refl
        one_longer (g ∷ l) f = ap suc (one_longer l f)

    written_is : written ≡ written_as k put_now
    written_is = let first = live shows o size slots id m w mine s r there t k bound q inside sees
        some_seen final in λ i. record {
          table = t.0;
          memtable = first i;
          lower = sym lower_now i;
          upper = upper_now i;
        }

    -- the file that lies behind the others is the one that the keeper was given
    one_put : CarriesFiled shows put_now m → (f : PutTable) → CarriesFiled shows f m → put_now ≡ f
    one_put C f F = let l = m.0.hands.lasting in
        let d = desk_same shows C.0 F.0 (more_filed put_now l) (more_filed f l) m.0.hands.pending
        m.0.hands.pending m.0.hands.progress (ap (top_box C.0) (sym C.1 ∙ F.1)) C.2 F.2 in
        last_same l.filed.files put_now f (ap (λ (a : Lasting). a.filed.files) d.0)

    retired_in_it : CarriesFiled shows put_now m → (f : PutTable) (j : ℕ) → suc k ≡ suc j
        → CarriesFiled shows f m → RetiresFiledIn x e t.0 j f
    retired_in_it C f j next F = let same : k ≡ j = omega arith in let one = one_put C f F in
        let first = live shows o size slots id m w mine s r there t k bound q inside sees some_seen
        final in let full = filled shows o size slots id m w mine s r there t k bound q inside sees
        some_seen final in
        subst (λ (y : ℕ × PutTable). RetiresFiledIn x e t.0 y.0 y.1) (λ i. (same i, one i))
        (record {
          least = first;
          filled = subst (λ (c : ℕ). is_empty x t.0 c ≡ false) first full;
          of_table = refl;
          files = files_now ∙ ap (λ (g : WrittenFile). x.files ++ g ∷ []) written_is;
          exact = true_now;
        })

    -- the view with what the desk tells, where it has made no step yet
    abbrev told_view : View
    told_view = record m.0 { hands = told_desk }

    memtables_told : HasMemtables size.seats x.notes x.placed (next_of x e).tables s.homes
        (set s.views id told_view)
    memtables_told = memtables_stay size.seats x.notes x.notes x.placed x.placed x.tables
        (next_of x e).tables s.homes s.views r.memtables id m.0 told_view there (λ n h. h) s.homes
        (λ b low. refl) refl refl refl
        (subst (PutsAs r.memtables.contents size.seats m.0.part told_desk) (sym mine)
        (puts_stay r.memtables.contents size.seats w m.0.part m.0.part m.0.hands told_desk refl
        refl
        (λ u j place. place) (refl, refl, refl, refl)
        (puts_now shows o size s r id w m.0 there mine)))
        (λ p h live. r.memtables.kept p h (kept_before shows o size s r e may_now tt p live))
        (λ z u j n small among. ⊎_elim
        (λ p. inl (late_still shows o size s r id w m.0 there mine q sees.0 sees.5 t sees.1 (suc k)
        may_now z u j n small among p))
        (λ R. inr (runs_still s.views id m.0 told_view there refl refl z n.end.0 R))
        (r.memtables.settled z u j n small among))

  pub retires_filed : CarriesFiled shows put_now m
      → Allows (Ruled shows o size) slots id m (66 + 4 * t.0) (λ _. suc k)
      (λ _. RetiredFiled shows (step slots (66 + 4 * t.0) (suc k) 0 none) m (suc k))
  retires_filed C s r _ there _ = let may = may_now s r there in let B = r.boxed in
      let rows = rows_stay (x s r there) e may (λ q. q) r.rows in
      let D = (hands_now shows o size slots id m w mine s r there).desk held in
      let gives = filled shows o size slots id m w mine s r there t k bound q inside sees some_seen
      final in
      let told = ap (λ (b : Bool). seat_after m.0.part e (Number 0)
      (record { files = b; marker = None })) (sym (ap not gives)) in
      let columns = columns_now shows o size s r id w m.0 there mine e refl may tt tt few tt rows
      (suc k) (suc k) (Some put_now.lower) h refl told in
      let out = outside shows o size slots id m w mine s r there held in (
        v',
        keeps,
        tt,
        plays_all shows o size s r id w m.0 there mine e refl may tt tt few tt rows (suc k) (suc k)
            (Some put_now.lower) h refl told (sym (ap not gives), lower_given s r there) r.kept_to
            (kept_stays (x s r there) (L s r there) e may r.kept_to r.may_be_kept)
            (put s r there) r.dropped (filed_now s r there) m.1 keeps
            (boxed_desk_turns shows size.seats r.core.notes
            (shown o size.at_open r.kept_to r.filed r.dropped r.core)
            (shown o size.at_open r.kept_to (put s r there) r.dropped (next_of r.core e))
            r.core.claims r.core.append s.homes s.views B id w m.0 v' there mine refl out out held
            (still _ m.0.part.sync held) empty empty
            (others_free shows o size slots id m w mine s r there held) B.pending
            (ap (more_filed put_now) D.0, D.1, D.2) refl B.noted B.sound (λ j. omega arith)
            B.unlogged)
            (subst (λ (l : List View). HasMemtables size.seats r.core.notes r.core.placed
            (next_of r.core e).tables s.homes l) (set-set s.views id (told_view s r there) v')
            (read_still size.seats r.core.notes r.core.placed (next_of r.core e).tables s.homes
            (set s.views id (told_view s r there)) (memtables_told s r there) id w
            (told_view s r there) v'
            (set_here s.views id (told_view s r there) (inside_list s.views id m.0 there)) mine refl
            columns.note columns.claim
            (place_still shows o size s r id w m.0 there mine e (Number 0)
            (told_by (Some put_now.lower) h) tt)
            None refl (λ z b is taken. absurd (none-some z is))
            (λ z y j is bare. absurd (none-some z is))
            (λ b Q. none-some b (sym (ap (λ (z : FlushRead). z.taken)
            (same_reading Q.0 q Q.1 sees.0) ∙ sees.3) ∙ Q.2))))
            (reads_then shows o size s r id w m.0 there mine e refl may tt tt few tt rows (suc k)
            (suc k) (Some put_now.lower) h refl told (λ z is. absurd (none-some z is))),
        λ z u lasting pending role _ word C'. let d = desk_same shows C.0 C'.0
            (more_filed put_now m.0.hands.lasting) lasting m.0.hands.pending pending
            m.0.hands.progress (ap (top_box C.0) (sym C.1 ∙ C'.1)) C.2 C'.2 in
            each_table_name shows o size slots id m w mine 66 t
            (λ z u. MadeFiled z (Put z (OldestLive u) (suc k)) (suc k)
            (upper_of u.0 m.0.hands.lasting.filed.files) (with_reading None
            (with_desk lasting pending m.0.hands.progress m.0.hands)) m.0 v' × (m.1 ≡ m.1)
            × ((f : PutTable) (j : ℕ) → suc k ≡ suc j → CarriesFiled shows f m
            → (was : Was m.0 z (Put z (OldestLive u) (suc k)))
            × RetiresFiledIn was.core (Put z (OldestLive u) (suc k)) u.0 j f)) (
              (
                (λ i. view_filed (with_hands (with_reading None (with_desk (d.0 i) (d.1 i)
                    m.0.hands.progress m.0.hands)) m.0) e (suc k) put_now.lower),
                was shows o size s r id w m.0 there mine e may tt,
              ),
              refl,
              (λ f j next F. (
                was shows o size s r id w m.0 there mine e may tt,
                retired_in_it s r there C f j next F,
              )),
            ) z u role word,
      )
    where
      same_reading : (a b : FlushRead) → m.0.hands.reading ≡ Some a → m.0.hands.reading ≡ Some b
          → a ≡ b
      same_reading a b e e' = same_Some a b (sym e ∙ e')

  -- the same, of the next memtable's number
  pub retires_with : (f : ℕ) → suc k ≡ f → CarriesFiled shows put_now m
      → Allows (Ruled shows o size) slots id m (66 + 4 * t.0) (λ _. f)
      (λ _. RetiredFiled shows (step slots (66 + 4 * t.0) f 0 none) m f)
  retires_with f up C = subst (λ (n : ℕ). Allows (Ruled shows o size) slots id m (66 + 4 * t.0)
      (λ _. n) (λ _. RetiredFiled shows (step slots (66 + 4 * t.0) n 0 none) m n)) up
      (retires_filed C)
