-- The worked row of dropping by two tables.
use Rattle.std.proofs.Common.{
  ◌≡◌,
  ◌⊎◌,
  ℕ,
  ◌<◌,
  ◌≤◌,
  inl,
  inr,
  Bool,
  true,
  false,
  List,
  [],
  ◌∷◌,
  ◌++◌,
  length,
  refl,
  sym,
  ◌∙◌,
  ap,
  subst,
  arith,
}
use Rattle.std.specs.Prelude.{◌==◌, Contains, IsTrue, if◌then◌else◌}
use Rattle.std.specs.List.{AllPairs}
use Rattle.std.proofs.lemmas.Bool.{and_parts, cases_eq, true≢false}
use Rattle.std.proofs.lemmas.Nat.Bits.{bit_at-pow_other}
use Rattle.clog_base.specs.Positions.{ordinal_of}
use Rattle.clog_base.proofs.Members.{first_or_further, further, here, nothing_there, only_one}
use Rattle.path_core.specs.declared.note.EntryNote.{EntryNote}
use Rattle.path_core.specs.Droppable.{is_of}
use Rattle.path_core.specs.Keeper.{
  Drops,
  Holding,
  IsDue,
  IsFiledIn,
  MayDrop,
  PutFile,
  archived_with,
}
use Rattle.path_core.specs.Parts.{touches}
use Rattle.clog_due.specs.WorkedTables.{
  FirstHasGone,
  HasPut,
  IsUpToSecond,
  NoneHasGone,
  note_of,
  the_entries,
}

-- ---- its entries

-- an entry of one table is of no other
one_table : (k t : ℕ) (n : EntryNote) → ((t : ℕ) → (t ≡ k → ⊥) → touches n.tables t ≡ false)
    → IsTrue (is_of 0 t n) → t ≡ k
one_table k t n alone is =
    let parts = and_parts (ordinal_of n.start.0 == 0) (touches n.tables t) is in
    elim (cases_eq t k) [
      | inl same ↦ same
      | inr apart ↦ absurd (true≢false (sym parts.1 ∙ alone t apart))
    ]

first_alone : (t : ℕ) → (t ≡ 0 → ⊥) → touches 1 t ≡ false
first_alone t apart = ap (λ (k : ℕ). k == 1) (bit_at-pow_other 0 t apart)

second_alone : (t : ℕ) → (t ≡ 1 → ⊥) → touches 2 t ≡ false
second_alone t apart = ap (λ (k : ℕ). k == 1) (bit_at-pow_other 1 t apart)

-- those of the first segment end at 60 or at 92, and are of table 0 or 1
pub record IsEarly (t : ℕ) (n : EntryNote) : Type 0 where
  least : 60 ≤ n.end.0
  most : n.end.0 ≤ 92
  of_table : (t ≡ 0) ⊎ (t ≡ 1)

early : (t : ℕ) (n : EntryNote) → Contains the_entries n → IsTrue (is_of 0 t n) → IsEarly t n
early t n among is =
    elim (first_or_further (note_of 1 28) (note_of 2 60 ∷ note_of 1 2147483676 ∷ []) n among) [
      | inl one ↦ subst (IsEarly t) one (record {
        least = omega arith;
        most = omega arith;
        of_table = inl (one_table 0 t (note_of 1 28) first_alone
            (subst (λ (m : EntryNote). IsTrue (is_of 0 t m)) (sym one) is));
      })
      | inr more ↦ elim (first_or_further (note_of 2 60) (note_of 1 2147483676 ∷ []) n more) [
        | inl two ↦ subst (IsEarly t) two (record {
          least = omega arith;
          most = omega arith;
          of_table = inr (one_table 1 t (note_of 2 60) second_alone
              (subst (λ (m : EntryNote). IsTrue (is_of 0 t m)) (sym two) is));
        })
        | inr last ↦
            let late = subst (λ (m : EntryNote). IsTrue (is_of 0 t m))
            (sym (only_one (note_of 1 2147483676) n last)) is in
            absurd (true≢false (sym (and_parts false (touches 1 t) late).0))
      ]
    ]

-- ---- what is due

module _ (h : Holding) (files : List PutFile) (put : HasPut h files) where
  logged_now : (n : EntryNote) → Contains the_entries n → Contains h.logged n
  logged_now n among = subst (λ (l : List EntryNote). Contains l n) (sym put.logged_are) among

  logged_then : (n : EntryNote) → Contains h.logged n → Contains the_entries n
  logged_then n among = subst (λ (l : List EntryNote). Contains l n) put.logged_are among

  below_one : (o : ℕ) → IsDue h 1 o → o ≡ 0
  below_one o due = let low = due.0 in omega (arith, low)

module _ (h now : Holding) (count : ℕ) (put : PutFile) (has : HasPut h (put ∷ []))
    (of_first : IsUpToSecond 0 put) (drops : Drops h now 1 count) where
  -- the file is of no other table
  not_due : (o : ℕ) → IsDue h 1 o → ⊥
  not_due o due =
      let zero_is : o ≡ 0 = below_one h (put ∷ []) has o due in
      let n = note_of 2 60 in
      let among = logged_now h (put ∷ []) has n
      (further (note_of 1 28) (n ∷ note_of 1 2147483676 ∷ []) n
      (here n (note_of 1 2147483676 ∷ []))) in
      let touched : IsTrue (is_of o 1 n) =
      subst (λ (k : ℕ). IsTrue (is_of k 1 n)) (sym zero_is) refl in
      let held = due.1.filed 1 n n among among touched touched 92 (omega arith) (omega arith) in
      let same = only_one put held.file
      (subst (λ (l : List PutFile). Contains l held.file) has.files_are held.among) in
      let table = ap (λ (f : PutFile). f.table) same in
      let asked = held.of_table in
      let first = of_first.table_is in
      omega (arith, table, asked, first)

  none : drops.ordinals ≡ []
  none = by drops.ordinals (λ o among. not_due o ((drops.exact o).0 among))
    where
      by : (os : List ℕ) → ((o : ℕ) → Contains os o → ⊥) → os ≡ []
      by [] never = refl
      by (o ∷ os) never = absurd (never o (here o os))

  pub waits : NoneHasGone now count
  waits = record {
    count_is = drops.counted ∙ ap (λ (l : List ℕ). length l) none;
    dropped_are = ap (λ (x : Holding). x.dropped) drops.holds
        ∙ ap (λ (l : List ℕ). h.dropped ++ l) none
        ∙ ap (λ (l : List ℕ). l ++ []) has.none_dropped;
    archived_are = ap (λ (x : Holding). x.archived) drops.holds
        ∙ ap (archived_with h) none ∙ by h.opening.archives;
  }
    where
      by : (b : Bool) → (if b then h.archived ++ [] else h.archived) ≡ []
      by true = ap (λ (l : List ℕ). l ++ []) has.none_archived
      by false = has.none_archived

module _ (h now : Holding) (count : ℕ) (a b : PutFile) (has : HasPut h (a ∷ b ∷ []))
    (of_first : IsUpToSecond 0 a) (of_second : IsUpToSecond 1 b) (drops : Drops h now 1 count)
  where
    abbrev both : List PutFile
    both = a ∷ b ∷ []

    -- each key up to the second entry's end lies in the table's file
    held : (t key : ℕ) → (t ≡ 0) ⊎ (t ≡ 1) → 0 < key → key ≤ 92 → IsFiledIn h.files t key
    held t key which low high = elim which [
      | inl zero_is ↦ record {
        file = a;
        among = subst (λ (l : List PutFile). Contains l a) (sym has.files_are) (here a (b ∷ []));
        of_table = of_first.table_is ∙ sym zero_is;
        above = let from = of_first.lower_is in omega (arith, low, from);
        up_to = let to = of_first.upper_is in omega (arith, high, to);
      }
      | inr one_is ↦ record {
        file = b;
        among = subst (λ (l : List PutFile). Contains l b) (sym has.files_are)
            (further a (b ∷ []) b (here b []));
        of_table = of_second.table_is ∙ sym one_is;
        above = let from = of_second.lower_is in omega (arith, low, from);
        up_to = let to = of_second.upper_is in omega (arith, high, to);
      }
    ]

    may : MayDrop h 0
    may = record {
      note = note_of 1 28;
      among = logged_now h both has (note_of 1 28)
          (here (note_of 1 28) (note_of 2 60 ∷ note_of 1 2147483676 ∷ []));
      here = refl;
      none_kept = λ n kept is.
          nothing_there n (subst (λ (l : List EntryNote). Contains l n) has.none_kept kept);
      filed = λ t m n first last of_m of_n key from to.
          let x = early t m (logged_then h both has m first) of_m in
          let y = early t n (logged_then h both has n last) of_n in
          held t key x.of_table (let least = x.least in omega (arith, least, from))
          (let most = y.most in omega (arith, most, to));
    }

    is_due : IsDue h 1 0
    is_due = (
      omega arith,
      may,
      λ gone. nothing_there 0 (subst (λ (l : List ℕ). Contains l 0) has.none_dropped gone),
    )

    first_alone_goes : drops.ordinals ≡ 0 ∷ []
    first_alone_goes =
        by drops.ordinals drops.ascending
        (λ o among. below_one h both has o ((drops.exact o).0 among)) ((drops.exact 0).1 is_due)
      where
        by : (os : List ℕ) → AllPairs (λ (m n : ℕ). m < n) os
            → ((o : ℕ) → Contains os o → o ≡ 0) → Contains os 0 → os ≡ 0 ∷ []
        by [] up each among = absurd (nothing_there 0 among)
        by (o ∷ []) up each among = ap (λ (k : ℕ). k ∷ []) (each o (here o []))
        by (o ∷ p ∷ os) up each among =
            let one = each o (here o (p ∷ os)) in
            let two = each p (further o (p ∷ os) p (here p os)) in
            let less : o < p = up 0 1 0 (omega arith) (omega arith) in
            absurd (omega (arith, one, two, less))

    pub goes : FirstHasGone h.opening.archives now count
    goes = record {
      count_is = drops.counted ∙ ap (λ (l : List ℕ). length l) first_alone_goes;
      dropped_are = ap (λ (x : Holding). x.dropped) drops.holds
          ∙ ap (λ (l : List ℕ). h.dropped ++ l) first_alone_goes
          ∙ ap (λ (l : List ℕ). l ++ 0 ∷ []) has.none_dropped;
      archived_are = ap (λ (x : Holding). x.archived) drops.holds
          ∙ ap (archived_with h) first_alone_goes ∙ by h.opening.archives;
    }
      where
        by : (b : Bool) → (if b then h.archived ++ 0 ∷ [] else h.archived)
            ≡ (if b then 0 ∷ [] else [])
        by true = ap (λ (l : List ℕ). l ++ 0 ∷ []) has.none_archived
        by false = has.none_archived
