-- How far a drain has come: what was put reaches as far as the log, from call to call.
use Rattle.std.proofs.Common.{
  ◌≡◌,
  ℕ,
  inl,
  inr,
  Bool,
  false,
  List,
  [],
  ◌∷◌,
  ◌++◌,
  take,
  drop,
  sym,
  ◌∙◌,
  ap,
  subst,
}
use Rattle.std.specs.Prelude.{Contains, if◌then◌else◌}
use Rattle.std.proofs.lemmas.List.{take-append-drop}
use Rattle.std.proofs.lemmas.List.Elements.{Contains-append_cases, Contains-append_left}
use Rattle.clog_base.proofs.Members.{from_map, nothing_there}
use Rattle.path_core.specs.declared.note.EntryNote.{EntryNote}
use Rattle.path_core.specs.Keeper.{DropRefused, Drops, Holding, Opening, PutFile, archived_with}
use Rattle.clog_memtable.specs.declared.flushing.Memtable.{Memtable}
use Rattle.clog_memtable.specs.Flushing.{HasPutFiles, file_of, files_of}
use Rattle.clog_memtable.specs.Touched.{AreMemtablesOf}
use Rattle.clog_closing.specs.Drained.{HasBegun, HasNoDeeds, ReachTo}

-- the memtables of notes reach so far, where no table has a file yet
pub reach_of : (notes : List EntryNote) (lowers : ℕ → ℕ) (upper below : ℕ) (ms : List Memtable)
    → ((t : ℕ) → lowers t ≡ 0) → AreMemtablesOf notes lowers upper below ms → ReachTo upper ms
reach_of notes lowers upper below ms none are m among =
    let is = are.each m among in (is.lower_is ∙ none m.interval.table.0, is.upper_is)

-- before anything was put
pub begun_of_none : (h : Holding) (upper : ℕ) → HasNoDeeds h → HasBegun h upper
begun_of_none h upper none = record {
  wide = λ put among.
      absurd (nothing_there put
      (subst (λ (l : List PutFile). Contains l put) none.no_file among));
  none_archived = λ archives. none.none_archived;
}

-- ---- files that were put

module _ (upper : ℕ) (ms : List Memtable) (reach : ReachTo upper ms) where
  wide_of : (put : PutFile) → Contains (files_of ms) put
      → (put.lower ≡ 0) × (put.upper ≡ upper)
  wide_of put among =
      let m = from_map file_of ms put among in
      let is = reach m.0 m.1 in (
        sym (ap (λ (f : PutFile). f.lower) m.2) ∙ is.0,
        sym (ap (λ (f : PutFile). f.upper) m.2) ∙ is.1,
      )

-- those of all memtables, or of the first of them
pub begun_put : (upper : ℕ) (ms : List Memtable) → ReachTo upper ms → (before now : Holding)
    (count : ℕ) → HasPutFiles before now (files_of (take count ms)) → HasBegun before upper
    → HasBegun now upper
begun_put upper ms reach before now count put begun = record {
  wide = λ f among. elim (Contains-append_cases before.files (files_of (take count ms)) f
      (subst (λ (l : List PutFile). Contains l f) (ap (λ (h : Holding). h.files) put) among)) [
        | inl old ↦ begun.wide f old
        | inr new ↦ wide_of upper (take count ms) (λ m h. reach m
            (subst (λ (l : List Memtable). Contains l m) (take-append-drop count ms)
            (Contains-append_left (take count ms) (drop count ms) m h))) f new
      ];
  none_archived = λ archives.
      ap (λ (h : Holding). h.archived) put
      ∙ begun.none_archived (sym (ap (λ (h : Holding). h.opening.archives) put) ∙ archives);
}

-- ---- segments that went

pub none_with : (h : Holding) (ordinals : List ℕ) → h.opening.archives ≡ false → h.archived ≡ []
    → archived_with h ordinals ≡ []
none_with h ordinals archives none =
    ap (λ (b : Bool). if b then h.archived ++ ordinals else h.archived) archives ∙ none

begun_as : (upper : ℕ) (before now : Holding) → now.files ≡ before.files
    → now.opening ≡ before.opening
    → (before.opening.archives ≡ false → before.archived ≡ [] → now.archived ≡ [])
    → HasBegun before upper → HasBegun now upper
begun_as upper before now files opening archived begun = record {
  wide = λ f among. begun.wide f (subst (λ (l : List PutFile). Contains l f) files among);
  none_archived = λ archives.
      let had = sym (ap (λ (o : Opening). o.archives) opening) ∙ archives in
      archived had (begun.none_archived had);
}

pub begun_drop : (upper : ℕ) (before now : Holding) (closed count : ℕ)
    → Drops before now closed count → HasBegun before upper → HasBegun now upper
begun_drop upper before now closed count drops =
    begun_as upper before now (ap (λ (h : Holding). h.files) drops.holds)
    (ap (λ (h : Holding). h.opening) drops.holds) (λ archives none.
    ap (λ (h : Holding). h.archived) drops.holds
    ∙ none_with before drops.ordinals archives none)

pub begun_refused : (upper : ℕ) (before now : Holding) (closed : ℕ)
    → DropRefused before now closed → HasBegun before upper → HasBegun now upper
begun_refused upper before now closed drops =
    begun_as upper before now (ap (λ (h : Holding). h.files) drops.holds)
    (ap (λ (h : Holding). h.opening) drops.holds) (λ archives none. elim drops.named [
      | inl same ↦ same ∙ none_with before drops.ordinals archives none
      | inr next ↦ next.2 ∙ none_with before (drops.ordinals ++ next.0 ∷ []) archives none
    ])
