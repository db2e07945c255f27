-- A keeper has finished: where it did nothing beside its log, and where it was drained of memtables
-- of all that it has logged.
use Rattle.std.proofs.Common.{
  ◌≡◌,
  ℕ,
  ◌<◌,
  ◌≤◌,
  inl,
  inr,
  Bool,
  false,
  true,
  ◌&&◌,
  List,
  [],
  ◌∷◌,
  ◌++◌,
  length,
  sym,
  ap,
  subst,
  arith,
  refl,
  ◌∙◌,
  append_assoc,
}
use Rattle.std.specs.Prelude.{Contains, IsTrue}
use Rattle.std.proofs.lemmas.Bool.{cases_lt, eq-eqb, false≢true}
use Rattle.std.proofs.lemmas.List.Elements.{Contains-append_left, Contains-append_right}
use Rattle.clog_spec.specs.Sizes.{most_tables}
use Rattle.clog_base.proofs.Members.{here, in_map, nothing_there}
use Rattle.clog_mutation.specs.declared.mutation.Update.{Update}
use Rattle.path_core.specs.declared.note.EntryNote.{EntryNote}
use Rattle.path_core.specs.Droppable.{is_of}
use Rattle.path_core.specs.History.{IsHistory}
use Rattle.path_core.specs.Keeper.{Holding, IsFiledIn, PutFile, upper_from}
use Rattle.path_core.specs.Keys.{ordinal_of}
use Rattle.path_core.specs.Parts.{touches}
use Rattle.path_core.specs.Whole.{IsWhole}
use Rattle.clog_memtable.specs.declared.flushing.Memtable.{Memtable}
use Rattle.clog_memtable.specs.Flushing.{file_of, files_of}
use Rattle.clog_closing.specs.Beside.{AreAllFiled, HasFinished}
use Rattle.clog_closing.specs.Drained.{Drains, HasNoDeeds, KeepsLog}
use Rattle.clog_closing.specs.Sequence.{AreInSequence}
use Rattle.clog_closing.proofs.Following.{holds_each}
use Rattle.clog_closing.proofs.Good.{filed_on, good_of_none}
use Rattle.clog_closing.proofs.LastEnd.{up_to_last}
use Rattle.clog_closing.proofs.MayFlush.{AreMemtablesFor}

-- ---- nothing was done

-- a whole note touches a table
touches_some : (n : EntryNote) → IsWhole n → (t : ℕ) × IsTrue (touches n.tables t)
touches_some n whole = by whole.mutation.updates refl
  where
    by : (us : List Update) → whole.mutation.updates ≡ us
        → (t : ℕ) × IsTrue (touches n.tables t)
    by [] is =
        let some = whole.stored.some in let none = ap length is in
        absurd (omega (arith, some, none))
    by (u ∷ us) is = (
      u.table.0,
      (whole.tables u.table.0).1 (record {
        update = u;
        among = subst (λ (l : List Update). Contains l u) (sym is) (here u us);
        table = refl;
      }),
    )

-- the note is of its own segment, and of each table that it touches
of_own : (n : EntryNote) (t : ℕ) → IsTrue (touches n.tables t)
    → IsTrue (is_of (ordinal_of n.start.0) t n)
of_own n t bit =
    ap (λ (b : Bool). b && touches n.tables t) (eq-eqb (ordinal_of n.start.0) (ordinal_of n.start.0)
    refl) ∙ bit

pub nothing_done : (h : Holding) → HasNoDeeds h
    → ((n : EntryNote) → Contains h.logged n → IsWhole n) → HasFinished false h
nothing_done h none whole = record {
  good = good_of_none h none;
  gone = λ o low may.
      let n = may.note in
      let t = touches_some n (whole n may.among) in
      let bit = subst (λ (k : ℕ). IsTrue (is_of k t.0 n)) may.here (of_own n t.0 t.1) in
      let filed = may.filed t.0 n n may.among may.among bit bit n.end.0 (omega arith)
      (omega arith) in
      absurd (nothing_there filed.file
      (subst (λ (l : List PutFile). Contains l filed.file) none.no_file filed.among));
  filed = λ drained. absurd (false≢true drained);
}

-- ---- it is drained

-- the first of files in sequence are
front_sequence : (files more : List PutFile) → AreInSequence (files ++ more)
    → AreInSequence files
front_sequence files more sequence front rest f cut =
    sequence front (rest ++ more) f
    (ap (λ (l : List PutFile). l ++ more) cut ∙ append_assoc front (f ∷ rest) more)

module _ (h : Holding) (capacity : ℕ) (in_log : IsHistory capacity h.logged) (ms : List Memtable)
    (are : AreMemtablesFor h ms) (now : Holding) (keeps : KeepsLog h now) (drains : Drains h now ms)
  where
    -- an entry up to the end of its table's last file
    filed_before : (t : ℕ) (n : EntryNote) → Contains h.logged n → n.end.0 ≤ upper_from t 0 h.files
        → IsFiledIn h.files t n.end.0
    filed_before t n among low =
        let inside = in_log.each n among in
        holds_each t h.files (front_sequence h.files (files_of ms)
        (subst AreInSequence drains.files_are drains.finished.good.in_sequence)) n.end.0
        (omega (arith, inside.behind_front, inside.long)) low

    -- and one above it
    filed_then : (t : ℕ) (n : EntryNote) → t < most_tables → Contains h.logged n
        → IsTrue (touches n.tables t) → upper_from t 0 h.files < n.end.0
        → IsFiledIn (files_of ms) t n.end.0
    filed_then t n low among bit above =
        let has = are.every t low
        (record { note = n; among = among; bit = bit; above = above }) in
        let m = has.memtable in
        let is = are.each m has.among in
        let lower : m.interval.lower.0 ≡ upper_from m.interval.table.0 0 h.files = is.lower_is in
        let upper = is.upper_is in
        let same = ap (λ (k : ℕ). upper_from k 0 h.files) has.table_is in
        let end = up_to_last capacity h.logged in_log n among in
        record {
          file = file_of m;
          among = in_map file_of ms m has.among;
          of_table = has.table_is;
          above = omega (arith, lower, same, above);
          up_to = omega (arith, upper, end);
        }

    all_filed : AreAllFiled now
    all_filed n listed t low bit =
        let among = subst (λ (l : List EntryNote). Contains l n)
        (ap (λ (k : Holding). k.logged) keeps) listed in
        subst (λ (l : List PutFile). IsFiledIn l t n.end.0) (sym drains.files_are)
        (elim (cases_lt (upper_from t 0 h.files) n.end.0) [
          | inl above ↦
              filed_on (files_of ms) (h.files ++ files_of ms) t n.end.0
              (λ f there. Contains-append_right h.files (files_of ms) f there)
              (filed_then t n low among bit above)
          | inr below ↦
              filed_on h.files (h.files ++ files_of ms) t n.end.0
              (λ f there. Contains-append_left h.files (files_of ms) f there)
              (filed_before t n among (omega (arith, below)))
        ])

    pub drained : HasFinished true now
    drained = record {
      good = drains.finished.good;
      gone = drains.finished.gone;
      filed = λ all. all_filed;
    }
