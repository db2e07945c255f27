-- What a deposited write knows of a table after it looked at its oldest live memtable, at the bound
-- of the memtable that it tries, and after it raised that one.
use Rattle.std.proofs.Common.{◌≡◌, ◌≢◌, ℕ, ◌+◌, ◌^◌, ◌<◌, ◌==◌, nat_le, Bool, true, false, length}
use Rattle.std.proofs.Common.{get_or, Option, Some, None, is_some, IsTrue, refl, sym, ap, ◌∙◌}
use Rattle.std.proofs.Common.{subst, arith, eq-eqb, get_or-set_same, get_or-set_other}
use Rattle.std.specs.Option.{option_map}
use Rattle.std.specs.Prelude.{◌&&◌, if◌then◌else◌}
use Rattle.std.proofs.lemmas.Bool.{false≢true}
use Rattle.std.proofs.lemmas.Option.{none-some, same_Some}
use mathlib.Core.Logic.{dite}
use native.Mathlib.Decide.{ℕ_discrete}
use Rattle.clog_base.specs.declared.cell.Table.{Table}
use Rattle.clog_base.specs.declared.position.Key.{Key}
use Rattle.op_core.specs.declared.count.Order.TheVariants.{Append}
use Rattle.path_core.specs.declared.event.Carried.TheVariants.{Deposit}
use Rattle.path_core.specs.declared.event.Cursor.TheVariants.{OldestLive}
use Rattle.path_core.specs.declared.event.Event.{Event}
use Rattle.path_core.specs.declared.event.Event.TheVariants.{Close, Look, Raise}
use Rattle.path_core.specs.declared.event.Place.TheVariants.{Bound, CursorWord}
use Rattle.path_core.specs.declared.event.Reading.{Reading}
use Rattle.path_core.specs.declared.event.Reading.TheVariants.{Operations, Number, Limit}
use Rattle.path_core.specs.declared.note.EntryNote.{EntryNote}
use Rattle.path_core.specs.declared.seat.Range.{Range}
use Rattle.path_core.specs.declared.seat.Seat.{Seat}
use Rattle.path_core.specs.declared.seat.SeatTable.{SeatTable}
use Rattle.path_core.specs.declared.state.Bound.{Bound as BoundOf}
use Rattle.path_core.specs.declared.state.Bound.TheVariants.{Live, Raising, Final}
use Rattle.path_core.specs.Allowed.{RaisesAsWriter}
use Rattle.path_core.specs.LawfulSeats.{BoundStays}
use Rattle.path_core.specs.Parts.{is_at, is_final, memtable_of, seat_table, untouched}
use Rattle.path_core.specs.SeatAfter.{raised_as_holder, raised_as_writer}
use Rattle.path_core.specs.SeatParts.{begins_at, bound_found, deposited_end, has_note_of}
use Rattle.path_core.specs.SeatParts.{is_final_below, is_raising, raised_to, takes, tried}
use Rattle.path_core.specs.SeatParts.{tries_bound}
use Rattle.path_core.specs.Words.{reading}
use Rattle.path_rule.specs.declared.view.View.{View}
use Rattle.path_rule.specs.Accepted.{RaisesBound, TriesBound}
use Rattle.path_rule.specs.Layout.{bound_in, bound_word, reading_at, word_of}
use Rattle.path_rule.specs.Rule.{view_after, Was}
use Rattle.path_rule.proofs.log.OwnWrites.{below_log}
use Rattle.path_rule.proofs.places.ReadBack.{log_small, bound_read}

-- the bound of a reading, live where it is none
abbrev limit_of : Reading → BoundOf
limit_of (Operations k) = Live
limit_of (Number n) = Live
limit_of (Limit b) = b

-- a bound that takes the end of the claim is the place
tried_takes : (end m : ℕ) (b : BoundOf) (st : SeatTable) → takes end b ≡ true
    → (tried end m b st).place ≡ Some m
tried_takes end m b st e = ap (λ (c : Bool). (if c then record st { place = Some m }
    else (if is_final_below end b then record st { trying = Some (m + 1) } else st)).place) e

-- behind one that is final below it the next is tried
tried_later : (end m : ℕ) (b : BoundOf) (st : SeatTable) → is_final_below end b ≡ true
    → (tried end m b st).trying ≡ Some (m + 1)
tried_later end m Live st e = absurd (false≢true e)
tried_later end m (Raising k) st e = absurd (false≢true e)
tried_later end m (Final k) st e = by (nat_le end k.0) e
  where
    by : (c : Bool) → (if c then false else true) ≡ true
        → (if c then record st { place = Some m }
        else (if (if c then false else true) then record st { trying = Some (m + 1) } else
        st)).trying
        ≡ Some (m + 1)
    by true e = absurd (false≢true e)
    by false e = refl

-- a raising one leaves what is tried
tried_raising : (end m : ℕ) (b : BoundOf) (st : SeatTable) → is_raising b ≡ true
    → (tried end m b st).trying ≡ st.trying
tried_raising end m Live st e = absurd (false≢true e)
tried_raising end m (Raising k) st e = refl
tried_raising end m (Final k) st e = absurd (false≢true e)

-- what was found stays on the table's part
tried_found : (end m : ℕ) (b : BoundOf) (st : SeatTable) → (tried end m b st).bound ≡ st.bound
tried_found end m b st = by (takes end b) (is_final_below end b)
  where
    by : (c d : Bool) → (if c then record st { place = Some m }
        else (if d then record st { trying = Some (m + 1) } else st)).bound ≡ st.bound
    by true d = refl
    by false true = refl
    by false false = refl

-- a deposited write has a note and a claim with this end
ends_noted : (o : Option ℕ) (c : Option Range) (end : ℕ)
    → (if is_some o then option_map (λ (r : Range). r.end) c else None) ≡ Some end
    → (n : ℕ) × (o ≡ Some n) × (r : Range) × (c ≡ Some r) × (r.end ≡ end)
ends_noted None c end e = absurd (none-some end e)
ends_noted (Some n) None end e = absurd (none-some end e)
ends_noted (Some n) (Some r) end e = (n, refl, r, refl, same_Some r.end end e)

-- A write that raised its memtable has its place there.
writer_placed : (d : Bool) (m : ℕ) (b : BoundOf) (st : SeatTable) → d ≡ true
    → st.trying ≡ Some m → is_raising b ≡ true → (raised_as_writer d m b st).place ≡ Some m
writer_placed d m b st deposited trying rises =
    (λ i. (if deposited i && is_at (trying i) m && rises i then record st { place = Some m }
    else st).place)
    ∙ ap (λ (c : Bool). (if true && c && true then record st { place = Some m } else st).place)
    (eq-eqb m m refl)

keeps_tried : (c : Bool) (m : ℕ) (st : SeatTable)
    → (if c then record st { place = Some m } else st).trying ≡ st.trying
keeps_tried true m st = refl
keeps_tried false m st = refl

keeps_found : (c : Bool) (m : ℕ) (st : SeatTable)
    → (if c then record st { place = Some m } else st).bound ≡ st.bound
keeps_found true m st = refl
keeps_found false m st = refl

final_stays : (to : ℕ) (b : BoundOf) → is_final b ≡ true → raised_to to b ≡ b
final_stays to Live e = absurd (false≢true e)
final_stays to (Raising k) e = absurd (false≢true e)
final_stays to (Final k) e = refl

below_is_final : (end : ℕ) (b : BoundOf) → is_final_below end b ≡ true → b ≢ Live
below_is_final end Live e = λ same. false≢true e
below_is_final end (Raising k) e = λ same. false≢true e
below_is_final end (Final k) e = λ same. cc

module _ (v : View) (w : ℕ) where
  pub table_inside : (e : Event) → Was v w e → (t : ℕ) → t < 16 → t < length v.part.tables
  table_inside e was t low = let long = ap (λ (p : Seat). length p.tables) was.part
      ∙ was.lawful.sized.seats w in omega arith

  -- a write that has deposited has a claim
  pub has_claim : (e : Event) → Was v w e → (tables : ℕ) → v.part.note ≡ Some tables
      → (r : Range) × (v.part.claim ≡ Some r)
  has_claim e was tables noted =
      let own = was.lawful.each_claim_noted_once.own w tables
      (ap (λ (p : Seat). p.note) (sym was.part) ∙ noted) in
      (_, ap (λ (p : Seat). p.claim) was.part ∙ own.range)

  -- the oldest live memtable has a word
  pub oldest_small : (t : Table) (n : ℕ) (was : Was v w (Look w (CursorWord (OldestLive t))))
      → word_of (reading was.core (CursorWord (OldestLive t))) ≡ n → n < 2 ^ 47
  oldest_small t n was found = let B = (was.lawful.switches.tables t.0).bounds_rise in
      let made = B.made in let low = B.oldest_is_made in
      let rows = was.rows.memtables t.0 in omega arith

  begun : (st : SeatTable) (b : Bool) (n : ℕ) → b ≡ true → st.trying ≡ None
      → (begins_at b n st).trying ≡ Some n
  begun st false n e none_yet = absurd (false≢true e)
  begun st true n e none_yet = ap (λ (o : Option ℕ).
      (if is_some o then st else record st { trying = Some n }).trying) none_yet

  pub tries_oldest : (t : Table) (n : ℕ) (was : Was v w (Look w (CursorWord (OldestLive t))))
      → t.0 < 16 → IsTrue (has_note_of v.part t.0) → (seat_table v.part t.0).trying ≡ None
      → (seat_table (view_after v (Look w (CursorWord (OldestLive t))) n).part t.0).trying
      ≡ Some n
  tries_oldest t n was low note none_yet = ap (λ (st : SeatTable). st.trying)
      (get_or-set_same v.part.tables t.0 _ untouched (table_inside _ was t.0 low))
      ∙ begun _ (has_note_of v.part t.0) n note none_yet

  -- the bound that was found is the memtable's
  pub bound_is : (t : Table) (m n : ℕ) (e : Event) (was : Was v w e)
      → word_of (reading was.core (Bound t m)) ≡ n
      → bound_in n ≡ (memtable_of was.core t.0 m).bound
  bound_is t m n e was found = ap limit_of (ap (reading_at (Bound t m)) (sym found)
      ∙ bound_read was.core was.lawful t m)

  -- and its word is what was found
  pub bound_words : (t : Table) (m n : ℕ) (e : Event) (was : Was v w e)
      → word_of (reading was.core (Bound t m)) ≡ n → bound_word (bound_in n) ≡ n
  bound_words t m n e was found = ap bound_word (bound_is t m n e was found) ∙ found

  -- a bound goes on from what was found of it before
  pub bound_goes : (t : Table) (m n : ℕ) (e : Event) (was : Was v w e)
      → word_of (reading was.core (Bound t m)) ≡ n → (b : BoundOf)
      → (seat_table v.part t.0).bound ≡ Some (record { memtable = m; bound = b })
      → BoundStays b (bound_in n)
  bound_goes t m n e was found b before = subst (BoundStays b) (sym (bound_is t m n e was found))
      ((was.lawful.seats_know w).bounds t.0 (record { memtable = m; bound = b })
      (ap (λ (p : Seat). (seat_table p t.0).bound) (sym was.part) ∙ before)).stays

  -- behind a memtable that is final below a write that tries it there is a next one, with a word
  pub next_small : (t : Table) (m end : ℕ) (e : Event) (was : Was v w e)
      → deposited_end v.part ≡ Some end → (seat_table v.part t.0).trying ≡ Some m
      → is_final_below end (memtable_of was.core t.0 m).bound ≡ true → m + 1 < 2 ^ 47
  next_small t m end e was ends trying below =
      let T = was.lawful.places.tries w t.0 in
      let is = ap (λ (p : Seat). (seat_table p t.0).trying) (sym was.part) ∙ trying in
      let n = T.of_note m is in
      let own = was.lawful.each_claim_noted_once.own w n.0 n.1 in
      let made = (T.above m _ is own.range).made in
      let B = (was.lawful.switches.tables t.0).bounds_rise in
      let long = B.made in let rows = was.rows.memtables t.0 in
      dite (ℕ_discrete m (get_or was.core.tables t.0 _).newest)
      (λ last. absurd (below_is_final end _ below (ap (λ k. (memtable_of was.core t.0 k).bound) last
      ∙ B.newest_is_live)))
      (λ other. omega arith)

  looked_part : (t : Table) (m n end : ℕ) → Was v w (Look w (Bound t m)) → t.0 < 16
      → deposited_end v.part ≡ Some end → (seat_table v.part t.0).trying ≡ Some m
      → seat_table (view_after v (Look w (Bound t m)) n).part t.0
      ≡ tried end m (bound_in n) (bound_found m (bound_in n) (seat_table v.part t.0))
  looked_part t m n end was low ends trying =
      let b = bound_in n in let st = bound_found m b (seat_table v.part t.0) in
      get_or-set_same v.part.tables t.0 _ untouched (table_inside _ was t.0 low)
      ∙ (ap (λ (o : Option ℕ). tries_bound o m b st) ends
      ∙ (ap (λ (o : Option ℕ). if is_at o m then tried end m b st else st) trying
      ∙ by (m == m) (eq-eqb m m refl) (tried end m b st) st))
    where
      by : (c : Bool) → c ≡ true → (a d : SeatTable) → (if c then a else d) ≡ a
      by true e a d = refl
      by false e a d = absurd (false≢true e)

  pub looked_tries : (t : Table) (m n end : ℕ) (was : Was v w (Look w (Bound t m))) → t.0 < 16
      → word_of (reading was.core (Bound t m)) ≡ n
      → deposited_end v.part ≡ Some end → (seat_table v.part t.0).trying ≡ Some m
      → TriesBound end m (bound_in n)
      (seat_table (view_after v (Look w (Bound t m)) n).part t.0)
  looked_tries t m n end was low found ends trying =
      let b = bound_in n in let st = bound_found m b (seat_table v.part t.0) in
      let part = looked_part t m n end was low ends trying in record {
        takes = λ e. ap (λ (s : SeatTable). s.place) part ∙ tried_takes end m b st e;
        later = λ e. (
          ap (λ (s : SeatTable). s.trying) part ∙ tried_later end m b st e,
          next_small t m end _ was ends trying
              (ap (is_final_below end) (sym (bound_is t m n _ was found)) ∙ e),
        );
        raising = λ e. ap (λ (s : SeatTable). s.trying) part
            ∙ (tried_raising end m b st e ∙ trying);
        found = ap (λ (s : SeatTable). s.bound) part ∙ tried_found end m b st;
      }

  -- the end of its claim lies below the marks of bounds
  pub end_small : (e : Event) → Was v w e → (end : ℕ) → deposited_end v.part ≡ Some end
      → end < 2 ^ 62
  end_small e was end ends =
      let k = ends_noted v.part.note v.part.claim end ends in
      let own = was.lawful.each_claim_noted_once.own w k.0
      (ap (λ (p : Seat). p.note) (sym was.part) ∙ k.1) in
      let range = same_Some k.2 _ (sym k.3 ∙ (ap (λ (p : Seat). p.claim) was.part ∙ own.range)) in
      let same = ap (λ (r : Range). r.end) range in let is = k.4 in
      let low = below_log was.core was.lawful own.note own.among in
      let small = log_small was.core was.lawful in omega arith

  pub raised_tries : (t : Table) (m n : ℕ) (key : Key) (was : Was v w (Raise w t m key))
      → t.0 < 16 → word_of (reading was.core (Bound t m)) ≡ n
      → RaisesAsWriter v.part t.0 m key.0
      → RaisesBound m (bound_in n)
      (seat_table (view_after v (Raise w t m key) n).part t.0)
  raised_tries t m n key was low found W =
      let b = bound_in n in
      let st = bound_found m (raised_to key.0 b) (seat_table v.part t.0) in
      let d = is_some v.part.note in let c = d && is_at st.trying m && is_raising b in
      let part : seat_table (view_after v (Raise w t m key) n).part t.0
      ≡ raised_as_holder m key.0 (raised_as_writer d m b st) =
      get_or-set_same v.part.tables t.0 _ untouched (table_inside _ was t.0 low) in record {
        not_live = subst (λ (k : BoundOf). k ≢ Live) (sym (bound_is t m n _ was found))
            was.allowed.row.0;
        place = λ e. ap (λ (s : SeatTable). s.place) part
            ∙ writer_placed d m b st W.deposited W.trying e;
        trying = ap (λ (s : SeatTable). s.trying) part ∙ (keeps_tried c m st ∙ W.trying);
        final = λ e. ap (λ (s : SeatTable). s.bound) part
            ∙ (keeps_found c m st ∙ ap (λ (k : BoundOf).
            Some (record { memtable = m; bound = k })) (final_stays key.0 b e));
      }

  -- before its deposit a write tries no memtable
  pub untried : (g : ℕ) (note : EntryNote) → Was v w (Close w Append g (Deposit note)) → (t : ℕ)
      → (seat_table v.part t).trying ≡ None
  untried g note was t = by (seat_table v.part t).trying refl
    where
      by : (o : Option ℕ) → (seat_table v.part t).trying ≡ o → (seat_table v.part t).trying ≡ None
      by None e = e
      by (Some k) e = absurd (let T = was.lawful.places.tries w t in
          let n = T.of_note k (ap (λ (p : Seat). (seat_table p t).trying) (sym was.part) ∙ e) in
          none-some g (sym ((was.lawful.orders.orders_nest w).deposited n.0 n.1).0
          ∙ was.allowed.row.0))

  -- at other tables nothing changes

  pub oldest_leaves : (t : Table) (n u : ℕ) → u ≢ t.0
      → seat_table (view_after v (Look w (CursorWord (OldestLive t))) n).part u
      ≡ seat_table v.part u
  oldest_leaves t n u apart = get_or-set_other v.part.tables t.0 u _ untouched apart

  pub raised_leaves : (t : Table) (m n : ℕ) (key : Key) (u : ℕ) → u ≢ t.0
      → seat_table (view_after v (Raise w t m key) n).part u ≡ seat_table v.part u
  raised_leaves t m n key u apart = get_or-set_other v.part.tables t.0 u _ untouched apart

  pub bound_leaves : (t : Table) (m n u : ℕ) → u ≢ t.0
      → seat_table (view_after v (Look w (Bound t m)) n).part u ≡ seat_table v.part u
  bound_leaves t m n u apart = get_or-set_other v.part.tables t.0 u _ untouched apart
