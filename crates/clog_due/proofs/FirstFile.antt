-- The worked row of the order.
use Rattle.std.proofs.Common.{
  ◌≡◌,
  ◌⊎◌,
  ℕ,
  ◌+◌,
  inl,
  inr,
  Bool,
  true,
  false,
  List,
  [],
  ◌∷◌,
  ◌++◌,
  length,
  map,
  refl,
  sym,
  ◌∙◌,
  ap,
  subst,
  arith,
  append-nil,
}
use Rattle.std.specs.Prelude.{◌==◌, Contains, IsTrue, if◌then◌else◌}
use Rattle.std.proofs.lemmas.Bool.{and_parts, cases_eq, true≢false}
use Rattle.std.proofs.lemmas.List.Elements.{Contains-append_left}
use Rattle.std.proofs.lemmas.Nat.Bits.{bit_at-pow_other}
use Rattle.clog_spec.specs.Names.{segment_name_of}
use Rattle.clog_spec.specs.Sizes.{header_size}
use Rattle.clog_base.specs.Positions.{ordinal_of}
use Rattle.clog_base.proofs.Members.{further, here, nothing_there, only_one}
use Rattle.clog_disk.specs.declared.change.Change.{Change}
use Rattle.clog_scan.specs.Laws.{AreWhole}
use Rattle.clog_crash.specs.Grown.{Append, appends_of, grown}
use Rattle.clog_crash.specs.Log.{Write}
use Rattle.clog_crash.specs.Sections.{segment_bytes}
use Rattle.clog_crash.proofs.counts.Growing.{grown_here}
use Rattle.clog_crash.proofs.rest.Sectioned.{ends_at}
use Rattle.path_core.specs.declared.note.EntryNote.{EntryNote}
use Rattle.path_core.specs.Droppable.{is_of}
use Rattle.path_core.specs.Keeper.{PutFile}
use Rattle.path_core.specs.Parts.{touches}
use Rattle.clog_segments.specs.Discards.{goes_by}
use Rattle.clog_segments.specs.Notes.{note_at}
use Rattle.clog_segments.specs.StoreFolder.{Deeds, IsPast, PlacedFile}
use Rattle.clog_segments.specs.StoreOrder.{
  AreOrdered,
  ArePutBy,
  GoesBehind,
  IsAppendedIn,
  IsFiledWhole,
  IsWholeIn,
  StandsBehind,
  publish_of,
  publishes_of,
}
use Rattle.clog_due.specs.WorkedOrder.{
  IsFirstFile,
  the_append,
  the_changes,
  the_deeds,
  the_log,
  the_section,
  the_segment,
  the_wrong_changes,
}
use Rattle.clog_due.proofs.Cuts.{
  AreQuiet,
  put_none,
  put_one,
  put_still,
  quiet_appends,
  quiet_publishes,
}
use Rattle.clog_due.proofs.GoneCuts.{link_at, one_cut, quiet_goes, remove_at}

-- a list that is cut is cut at its first, or behind it
cut_cons : {A : Type 0} (y : A) (ys front : List A) (x : A) (rest : List A)
    → y ∷ ys ≡ front ++ x ∷ rest
    → (([] ≡ front) × (y ≡ x)) ⊎ ((f : List A) × (y ∷ f ≡ front) × (ys ≡ f ++ x ∷ rest))
cut_cons y ys [] x rest is = let same : y ≡ x = cc in inl (refl, same)
cut_cons y ys (z ∷ front) x rest is =
    let same : y ≡ z = cc in
    let tails : ys ≡ front ++ x ∷ rest = cc in
    inr (front, ap (λ (w : _). w ∷ front) same, tails)

abbrev the_name : List ℕ
the_name = segment_name_of 6 1000

-- no file was put
none_put : (base : ℕ) (front : List Change) (put : List PutFile) → publishes_of front ≡ []
    → ArePutBy base front put → put ≡ []
none_put base front put none by = none_of by.placed (sym by.put ∙ none) by.are
  where
    none_of : (ps : List PlacedFile) → map publish_of ps ≡ []
        → map (λ (p : PlacedFile). p.put) ps ≡ put → put ≡ []
    none_of [] is are = sym are
    none_of (p ∷ ps) is are = absurd (omega (arith, ap (λ (l : List Change). length l) is))

-- the entry is of table 0 alone
table_zero : (t : ℕ) → IsTrue (is_of 0 t (note_at 28)) → t ≡ 0
table_zero t is =
    let parts = and_parts (ordinal_of (note_at 28).start.0 == 0) (touches 1 t) is in
    elim (cases_eq t 0) [
      | inl zero_is ↦ zero_is
      | inr apart ↦ absurd (true≢false (sym parts.1
          ∙ ap (λ (k : ℕ). k == 1) (bit_at-pow_other 0 t apart)))
    ]

-- ---- the segment

whole_sections : AreWhole 60 header_size (the_section ∷ [])
whole_sections = (
  record {
    behind = omega arith;
    within = omega arith;
    fits = omega arith;
    least = (omega arith, tt);
  },
  refl,
  tt,
)

segment_long : length (segment_bytes 1000 (the_section ∷ [])) ≡ 60
segment_long = ends_at 1000 60 the_section [] whole_sections

-- one append has brought all of it
brought : (front : List Change)
    → appends_of front ≡ (the_name, segment_bytes 1000 (the_section ∷ [])) ∷ []
    → IsWholeIn front the_segment
brought front is =
    ap (λ (l : List Append). grown l the_name) is
    ∙ grown_here the_name (segment_bytes 1000 (the_section ∷ [])) []
    ∙ append-nil (segment_bytes 1000 (the_section ∷ []))

the_past : IsPast the_log 0
the_past = record {
  segment = the_segment;
  among = here the_segment [];
  some = omega arith;
  id_is = refl;
}

its_note : (n : EntryNote) → Contains the_log.logged n → note_at 28 ≡ n
its_note n among = only_one (note_at 28) n among

module _ (archives : Bool) (p : PlacedFile) (first : IsFirstFile p) where
  abbrev deeds : Deeds
  deeds = the_deeds archives p.put

  -- the file holds the entry
  filed : IsFiledWhole the_log.logged (p.put ∷ []) 0
  filed t a b ha hb ta tb key low high =
      let ends_a : a.end.0 ≡ 60 = ap (λ (n : EntryNote). n.end.0) (sym (its_note a ha)) in
      let ends_b : b.end.0 ≡ 60 = ap (λ (n : EntryNote). n.end.0) (sym (its_note b hb)) in
      let touched = subst (λ (n : EntryNote). IsTrue (is_of 0 t n)) (sym (its_note b hb)) tb in
      record {
        file = p.put;
        among = here p.put [];
        of_table = first.table_is ∙ sym (table_zero t touched);
        above = omega (arith, first.lower_is, low, ends_a);
        up_to = omega (arith, first.upper_is, high, ends_b);
      }

  comes : (front : List Change)
      → appends_of front ≡ (the_name, segment_bytes 1000 (the_section ∷ [])) ∷ []
      → StandsBehind the_log deeds front (publish_of p)
  comes front is = record {
    file = p;
    was_put = here p.put [];
    is_spelled = first.spelled;
    name_is = refl;
    bytes_are = refl;
    behind = λ n among upto. subst (IsAppendedIn 1000 front) (its_note n among)
        (let long = ap length (brought front is) in omega (arith, long, segment_long));
  }

  put_first : (f : List Change) → AreQuiet f
      → ArePutBy 1000 (the_append ∷ publish_of p ∷ f) (p.put ∷ [])
  put_first f quiet =
      put_still 1000 (the_append ∷ publish_of p ∷ []) f (p.put ∷ []) (quiet_publishes f quiet)
      (put_one 1000 (the_append ∷ []) [] p first.spelled (put_still 1000 [] (the_append ∷ []) []
      refl (put_none 1000)))

  goes_right : (f : List Change) (c : Change) (rest : List Change)
      → goes_by archives 1000 ≡ f ++ c ∷ rest
      → StandsBehind the_log deeds (the_append ∷ publish_of p ∷ f) c
  unfolding the_past
  goes_right f c rest is =
      let all = the_append ∷ publish_of p ∷ f in
      let quiet : AreQuiet f = λ d among. quiet_goes archives 1000 d
      (subst (λ (l : List Change). Contains l d) (sym is)
      (Contains-append_left f (c ∷ rest) d among)) in
      let whole = brought all (ap (λ (l : List Append). (
        the_name,
        segment_bytes 1000 (the_section
            ∷ []),
      ) ∷ l) (quiet_appends f quiet)) in
      elim (one_cut archives 1000 0 [] f c rest is) [
        | inl name ↦ subst (StandsBehind the_log deeds all)
            (ap (λ (k : ℕ). link_at (1000 + k)) (only_one 0 name.ordinal name.listed) ∙ name.is)
            (record {
              ordinal = 0;
              listed = listed_zero archives name.archived;
              past = the_past;
              old_is = refl;
              new_is = refl;
              whole = whole;
            })
        | inr gone ↦
            let zero_is = only_one 0 gone.ordinal gone.listed in
            subst (StandsBehind the_log deeds all)
            (ap (λ (k : ℕ). remove_at (1000 + k)) zero_is ∙ gone.is)
            (record {
              ordinal = 0;
              listed = here 0 [];
              past = the_past;
              name_is = refl;
              whole = whole;
              archived = λ yes. further the_append (publish_of p ∷ f) (link_at 1000)
                  (further (publish_of p) f (link_at 1000)
                  (subst (λ (k : ℕ). Contains f (link_at (1000 + k))) (sym zero_is)
                  (gone.archived yes)));
              put = p.put ∷ [];
              later = [];
              files_are = refl;
              put_by = put_first f quiet;
              filed = filed;
            })
      ]
    where
      listed_zero : (b : Bool) → b ≡ true → Contains {X = ℕ} (if b then 0 ∷ [] else []) 0
      listed_zero true is = here 0 []
      listed_zero false is = absurd (true≢false (sym is))

  pub right : AreOrdered the_log deeds (the_changes archives p)
  right = record {
    each = λ front rest c is.
        elim (cut_cons the_append (publish_of p ∷ goes_by archives 1000) front c rest is) [
          | inl a ↦ subst (StandsBehind the_log deeds front) a.1 tt
          | inr b ↦ elim (cut_cons (publish_of p) (goes_by archives 1000) b.0 c rest b.2) [
            | inl d ↦ subst (StandsBehind the_log deeds front) d.1
                (subst (λ (f : List Change). StandsBehind the_log deeds f (publish_of p))
                (ap (λ (f : List Change). the_append ∷ f) d.0 ∙ b.1)
                (comes (the_append ∷ []) refl))
            | inr g ↦ subst (λ (f : List Change). StandsBehind the_log deeds f c)
                (ap (λ (f : List Change). the_append ∷ f) g.1 ∙ b.1)
                (goes_right g.0 c rest g.2)
          ]
        ];
    files = put_first (goes_by archives 1000) (quiet_goes archives 1000);
  }

  -- ---- the wrong order

  -- where nothing was put in front, no file holds the entry
  none_filed : (front : List Change) (name : List ℕ) → publishes_of front ≡ []
      → GoesBehind the_log deeds front name → ⊥
  none_filed front name none g =
      let ids : (the_segment.id) ≡ g.past.segment.id =
      ap (λ (w : Write). w.id) (only_one the_segment g.past.segment g.past.among) in
      let zero_is : g.ordinal ≡ 0 = omega (arith, ids, g.past.id_is) in
      let n = note_at 28 in
      let held = g.filed 0 n n (here n []) (here n [])
      (subst (λ (k : ℕ). IsTrue (is_of k 0 n)) (sym zero_is) refl)
      (subst (λ (k : ℕ). IsTrue (is_of k 0 n)) (sym zero_is) refl) 60 (omega arith) (omega arith) in
      let empty : g.put ≡ [] = none_put 1000 front g.put none g.put_by in
      nothing_there held.file (subst (λ (l : List PutFile). Contains l held.file) empty held.among)

  pub wrong : AreOrdered the_log deeds (the_wrong_changes archives p) → ⊥
  wrong ordered = by archives refl
    where
      by : (b : Bool) → archives ≡ b → ⊥
      by true is =
          let front = the_append ∷ link_at 1000 ∷ [] in
          none_filed front the_name refl
          (ordered.each front (publish_of p ∷ []) (remove_at 1000)
          (ap (λ (b : Bool). the_wrong_changes b p) is))
      by false is =
          none_filed (the_append ∷ []) the_name refl
          (ordered.each (the_append ∷ []) (publish_of p ∷ []) (remove_at 1000)
          (ap (λ (b : Bool). the_wrong_changes b p) is))
