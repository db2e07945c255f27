-- What a flush knows behind the reading of one box.
use Rattle.std.proofs.Common.{
  ◌≡◌,
  ℕ,
  suc,
  List,
  [],
  ◌∷◌,
  ◌++◌,
  length,
  nat_eq,
  cond,
  Bool,
  true,
  Option,
  Some,
  refl,
  sym,
  ap,
  ◌∙◌,
  subst,
}
use Rattle.std.proofs.lemmas.Bool.{eqb-true}
use Rattle.std.proofs.lemmas.List.{append-nil, nil_from_length}
use Rattle.std.proofs.lemmas.Option.{same_Some}
use Rattle.atomic_table.specs.Table.{Me, rest}
use Rattle.clog_base.specs.declared.cell.Table.{Table}
use Rattle.path_core.specs.declared.event.Event.TheVariants.{Look}
use Rattle.path_core.specs.declared.event.Place.TheVariants.{Newest}
use Rattle.path_core.specs.declared.note.EntryNote.{EntryNote}
use Rattle.path_rule.specs.declared.slot.Slot.{Slot}
use Rattle.path_rule.specs.declared.view.FlushRead.{FlushRead}
use Rattle.path_rule.specs.declared.view.Hands.{Hands}
use Rattle.path_rule.specs.declared.view.PathSize.{PathSize}
use Rattle.path_rule.specs.declared.view.View.{View}
use Rattle.path_rule.specs.Boxes.{memtable_box}
use Rattle.path_rule.specs.Calls.{DidAs}
use Rattle.path_rule.specs.Flushes.{next_box, TookRead}
use Rattle.path_rule.specs.HandsAfter.{box_read, box_seen, left_in, with_reading}
use Rattle.path_rule.specs.Told.{CarriesNotes}
use Rattle.path_flush.specs.FlushReads.{HasRead, ReadSteps}
use Rattle.path_flush.proofs.FlushReadSteps.{on_read, then_read}

-- the number of the box of the next seat
pub the_box : {size now : PathSize} {t m seat b : ℕ} {kind : Bool} {h : Hands}
    → (H : HasRead t m kind seat h) → size ≡ now → b ≡ memtable_box size.seats seat t m
    → next_box now.seats H.read ≡ b
the_box H same is =
    (λ i. memtable_box (sym same i).seats (H.seen_to i) (H.of_table i) (H.of_memtable i)) ∙ sym is

-- The box of the next seat was taken and given back, by steps of seat w: behind them q is read.
pub record SeesBox (w t m : ℕ) (kind : Bool) (seat : ℕ) (table : Table) (q : FlushRead)
    (v after : View) : Type 0 where
  pub steps : ReadSteps w table.0 v after
  pub size : after.size ≡ v.size
  pub is : after.hands.reading ≡ Some q
  pub reads : HasRead t m kind (suc seat) after.hands

module _ {K : Type 0} {t m seat : ℕ} {kind : Bool} {h : Hands} (seats : ℕ)
    (H : HasRead t m kind seat h) where
  -- the box of the next seat was taken
  abbrev TakesNext : Table → ℕ → ℕ → Me (Slot K) View → Me (Slot K) View → Type 0
  TakesNext table w n member taken = (held : List EntryNote)
      × DidAs member.0 w (Look w (Newest table)) n
      (with_reading (Some (box_read (next_box seats H.read) held H.read)) member.0.hands) taken.0
      × TookRead (next_box seats H.read) held member taken

  -- it was taken last
  pub is_carried : {w n b : ℕ} {table : Table} (member taken : Me (Slot K) View)
      → (D : TakesNext table w n member taken) → next_box seats H.read ≡ b
      → CarriesNotes b D.0 taken
  is_carried {b = b} member taken D same = let T = D.2 in (
    T.0,
    T.1 ∙ (ap (λ k. (k, T.0) ∷ member.1) same
        ∙ ap (λ l. (b, T.0) ∷ l) (sym (ap (λ l. rest l) T.1))),
    T.2,
  )

  -- so it may be given back, as it was or empty
  pub may_give : {w n b : ℕ} {table : Table} {left : List EntryNote}
      → (member taken back : Me (Slot K) View) → (D : TakesNext table w n member taken)
      → back.0 ≡ taken.0 → next_box seats H.read ≡ b → cond kind [] D.0 ≡ left
      → CarriesNotes b left back
      → (q : FlushRead) × (b : ℕ) × (back.0.hands.reading ≡ Some q) × (q.taken ≡ Some b)
      × CarriesNotes b (left_in q) back
  may_give {left = left} member taken back D same box is carries = (
    box_read (next_box seats H.read) D.0 H.read,
    next_box seats H.read,
    ap (λ (u : View). u.hands.reading) (same ∙ D.1.view),
    refl,
    subst (λ (l : List EntryNote). CarriesNotes (next_box seats H.read) l back)
        (sym (ap (λ (r : Bool). cond r [] D.0) H.kind ∙ is))
        (subst (λ (b : ℕ). CarriesNotes b left back) (sym box) carries),
  )

  -- what is read once it is given back
  pub sees_box : {w z n k : ℕ} {table : Table} {back after : View}
      → (member taken : Me (Slot K) View) → (D : TakesNext table w n member taken)
      → back ≡ taken.0 → z ≡ w
      → ((q : FlushRead) → back.hands.reading ≡ Some q → DidAs back z (Look z (Newest table)) k
      (with_reading (Some (box_seen q)) back.hands) after)
      → SeesBox w t m kind seat table (box_seen (box_read (next_box seats H.read) D.0 H.read))
      member.0 after
  sees_box {w} {z} {n} {k} {table} {back} {after} member taken D same by give =
      let q = box_read (next_box seats H.read) D.0 H.read in
      let d = give q (ap (λ (u : View). u.hands.reading) (same ∙ D.1.view)) in
      let is = ap (λ (u : View). u.hands.reading) d.view in record {
        steps = then_read w z table.0 _ _ _ by (on_read w table.0 n table (Some q) _ _ D.1)
            (on_read z table.0 k table (Some (box_seen q)) _ _ (subst (λ (u : View).
            DidAs u z (Look z (Newest table)) k (with_reading (Some (box_seen q)) u.hands) after)
            same d));
        size = ap (λ (u : View). u.size) d.view ∙ ap (λ (u : View). u.size) (same ∙ D.1.view);
        is = is;
        reads = record {
          read = box_seen q;
          reads = is;
          of_table = H.of_table;
          of_memtable = H.of_memtable;
          kind = H.kind;
          none_taken = refl;
          seen_to = ap (λ (k : ℕ). suc k) H.seen_to;
        };
      }

-- what was seen then is what was, and what lay in the box
pub seen_is : {t m seat : ℕ} {kind : Bool} {held lent : List EntryNote} {h : Hands}
    {r : Option FlushRead} → (H : HasRead t m kind seat h)
    → r ≡ Some (box_seen (box_read 0 held H.read)) → lent ≡ held → (q : FlushRead) → r ≡ Some q
    → H.read.seen ++ lent ≡ q.seen
seen_is {held = held} H is same q has = ap (λ l. H.read.seen ++ l) same
    ∙ ap (λ (r : FlushRead). r.seen)
    (same_Some (box_seen (box_read 0 held H.read)) q (sym is ∙ has))

-- a list of length 0
pub none_left : (l : List EntryNote) (b : Bool) → b ≡ nat_eq (length l) 0 → b ≡ true → l ≡ []
none_left l b is empty = nil_from_length l (eqb-true (length l) 0 (sym is ∙ empty))

-- where nothing lay there, no more was seen
pub seen_no_more : {t m seat : ℕ} {kind : Bool} {held lent : List EntryNote} {h : Hands}
    {r : Option FlushRead} → (H : HasRead t m kind seat h)
    → r ≡ Some (box_seen (box_read 0 held H.read)) → lent ≡ held → lent ≡ []
    → (p q : FlushRead) → h.reading ≡ Some p → r ≡ Some q → q.seen ≡ p.seen
seen_no_more H is same void p q was has = sym (seen_is H is same q has)
    ∙ (ap (λ l. H.read.seen ++ l) void ∙ (append-nil H.read.seen
    ∙ ap (λ (r : FlushRead). r.seen) (same_Some H.read p (sym H.reads ∙ was))))
