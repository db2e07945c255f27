-- A store's changes stay in order while its log and its deeds grow.
use Rattle.std.proofs.Common.{
  ◌≡◌,
  ◌⊎◌,
  ℕ,
  ◌<◌,
  inl,
  inr,
  List,
  [],
  ◌∷◌,
  ◌++◌,
  sym,
  ◌∙◌,
  ap,
  subst,
  arith,
  append_assoc,
  append-nil,
}
use Rattle.std.specs.Prelude.{Contains, IsTrue}
use Rattle.std.proofs.lemmas.List.Elements.{
  Contains-append_cases,
  Contains-append_left,
  Contains-append_right,
}
use Rattle.clog_base.specs.Positions.{ordinal_of}
use Rattle.clog_base.proofs.Members.{here}
use Rattle.clog_disk.specs.declared.change.Change.{Change}
use Rattle.clog_disk.specs.declared.change.Change.TheVariants as change
use Rattle.clog_scan.specs.Cut.{Section}
use Rattle.clog_crash.specs.Log.{Write}
use Rattle.path_core.specs.declared.note.EntryNote.{EntryNote}
use Rattle.path_core.specs.Droppable.{is_of}
use Rattle.path_core.specs.Keeper.{PutFile}
use Rattle.clog_segments.specs.Grows.{AreAppends, IsAppend}
use Rattle.clog_segments.specs.StoreFolder.{Deeds, IsPast, StoreLog}
use Rattle.clog_segments.specs.StoreOrder.{AreOrdered, ArePutBy, IsFiledWhole, StandsBehind}
use Rattle.clog_due.proofs.Cuts.{append_publishes, cut_of, put_still}
use Rattle.clog_due.proofs.TableLogs.{is_of_parts}

-- a log and deeds that have grown
abbrev pub grown_log : StoreLog → List Write → ℕ → List Section → List EntryNote → StoreLog
grown_log log past id sections logged = record log {
  past = past;
  id = id;
  sections = sections;
  logged = logged;
}

abbrev pub grown_deeds : Deeds → List PutFile → List ℕ → List ℕ → Deeds
grown_deeds deeds files dropped archived = record deeds {
  files = files;
  dropped = dropped;
  archived = archived;
}

-- the change is one of these
pub cut_among : (changes front : List Change) (c : Change) (rest : List Change)
    → changes ≡ front ++ c ∷ rest → Contains changes c
cut_among changes front c rest is =
    subst (λ (l : List Change). Contains l c) (sym is)
    (Contains-append_right front (c ∷ rest) c (here c rest))

-- nothing is asked of an append
pub append_stands : (log : StoreLog) (deeds : Deeds) (front : List Change) (c : Change)
    → IsAppend c → StandsBehind log deeds front c
append_stands log deeds front (change.Append name bytes) is = tt
append_stands log deeds front (change.Publish name bytes) is = absurd is
append_stands log deeds front (change.Link old new) is = absurd is
append_stands log deeds front (change.Remove name) is = absurd is

module _ (log : StoreLog) (deeds : Deeds) (past more : List Write) (id : ℕ)
    (sections : List Section) (logged run : List EntryNote) (files fs : List PutFile)
    (dropped archived : List ℕ) (past_is : past ≡ log.past ++ more)
    (logged_is : logged ≡ log.logged ++ run) (files_are : files ≡ deeds.files ++ fs)
    (above : (m : EntryNote) → Contains run m → (put : PutFile) → Contains deeds.files put
    → put.upper < m.end.0)
    (apart : (m : EntryNote) → Contains run m → Contains deeds.dropped (ordinal_of m.start.0) → ⊥)
    (drops : (o : ℕ) → Contains deeds.dropped o → Contains dropped o)
    (names : (o : ℕ) → Contains deeds.archived o → Contains archived o) where
  abbrev log' : StoreLog
  log' = grown_log log past id sections logged

  abbrev deeds' : Deeds
  deeds' = grown_deeds deeds files dropped archived

  old_or_new : (n : EntryNote) → Contains logged n → Contains log.logged n ⊎ Contains run n
  old_or_new n among =
      Contains-append_cases log.logged run n
      (subst (λ (l : List EntryNote). Contains l n) logged_is among)

  past_still : (o : ℕ) → IsPast log o → IsPast log' o
  past_still o p = record {
    segment = p.segment;
    among = subst (λ (l : List Write). Contains l p.segment) (sym past_is)
        (Contains-append_left log.past more p.segment p.among);
    some = p.some;
    id_is = p.id_is;
  }

  -- no further note is of a segment that was dropped
  filed_still : (o : ℕ) (put : List PutFile) → Contains deeds.dropped o
      → IsFiledWhole log.logged put o → IsFiledWhole logged put o
  filed_still o put listed filed t a b ha hb ta tb key low high =
      filed t a b (old a ha ta) (old b hb tb) ta tb key low high
    where
      old : (n : EntryNote) → Contains logged n → IsTrue (is_of o t n) → Contains log.logged n
      old n h is = elim (old_or_new n h) [
        | inl x ↦ x
        | inr r ↦ absurd (apart n r (subst (λ (k : ℕ). Contains deeds.dropped k)
            (sym (is_of_parts o t n is).0) listed))
      ]

  still : (front : List Change) (c : Change) → StandsBehind log deeds front c
      → StandsBehind log' deeds' front c
  unfolding past_still
  still front (change.Append name bytes) s = tt
  still front (change.Publish name bytes) s = record {
    file = s.file;
    was_put = subst (λ (l : List PutFile). Contains l s.file.put) (sym files_are)
        (Contains-append_left deeds.files fs s.file.put s.was_put);
    is_spelled = s.is_spelled;
    name_is = s.name_is;
    bytes_are = s.bytes_are;
    behind = λ n among upto. elim (old_or_new n among) [
      | inl old ↦ s.behind n old upto
      | inr new ↦ absurd (omega (arith, above n new s.file.put s.was_put, upto))
    ];
  }
  still front (change.Link old new) s = record {
    ordinal = s.ordinal;
    listed = names s.ordinal s.listed;
    past = past_still s.ordinal s.past;
    old_is = s.old_is;
    new_is = s.new_is;
    whole = s.whole;
  }
  still front (change.Remove name) s = record {
    ordinal = s.ordinal;
    listed = drops s.ordinal s.listed;
    past = past_still s.ordinal s.past;
    name_is = s.name_is;
    whole = s.whole;
    archived = s.archived;
    put = s.put;
    later = s.later ++ fs;
    files_are = files_are ∙ ap (λ (l : List PutFile). l ++ fs) s.files_are
        ∙ append_assoc s.put s.later fs;
    put_by = s.put_by;
    filed = filed_still s.ordinal s.put s.listed s.filed;
  }

  -- further changes that stand behind those of before
  module _ (changes added : List Change) (before : AreOrdered log deeds changes) where
    pub ordered_on : ((front rest : List Change) (c : Change) → added ≡ front ++ c ∷ rest
        → StandsBehind log' deeds' (changes ++ front) c)
        → ArePutBy log.base (changes ++ added) files → AreOrdered log' deeds' (changes ++ added)
    ordered_on new put_by = record {
      each = λ front rest c is. elim (cut_of changes added front c rest is) [
        | inl within ↦ still front c (before.each front within.rest c within.is)
        | inr behind ↦ subst (λ (f : List Change). StandsBehind log' deeds' f c)
            (sym behind.front_is) (new behind.more rest c behind.rest_is)
      ];
      files = put_by;
    }

    -- which append alone
    pub ordered_appended : AreAppends added → fs ≡ [] → AreOrdered log' deeds' (changes ++ added)
    ordered_appended alone none =
        let same : deeds.files ≡ files =
        sym (files_are ∙ ap (λ (l : List PutFile). deeds.files ++ l) none
        ∙ append-nil deeds.files) in
        ordered_on
        (λ front rest c is.
        append_stands log' deeds' (changes ++ front) c (alone c (cut_among added front c rest is)))
        (subst (λ (l : List PutFile). ArePutBy log.base (changes ++ added) l) same
        (put_still log.base changes added deeds.files (append_publishes added alone)
        before.files))
