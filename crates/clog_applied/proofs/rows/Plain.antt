-- Runs of one writer that log lines over a folder without segments, and flush and drain nothing:
-- what is left, from where the segments stand and that each other name is as it was.
use Rattle.std.proofs.Common.{
  ◌≡◌,
  ◌⊎◌,
  ℕ,
  ◌<◌,
  ◌≤◌,
  ◌^◌,
  inl,
  inr,
  List,
  [],
  ◌∷◌,
  ◌++◌,
  length,
  true,
  false,
  Some,
  None,
  refl,
  sym,
  ◌∙◌,
  subst,
  arith,
}
use Rattle.std.specs.Prelude.{Contains, IsSome}
use Rattle.std.specs.FinMap as finmap
use Rattle.std.proofs.lemmas.List.Elements.{Contains-append_right}
use Rattle.clog_spec.specs.Names.{archive_name_of, segment_name_of, IsSegmentName}
use Rattle.clog_base.proofs.Members.{here, in_map, nothing_there}
use Rattle.clog_base.proofs.NameLaws.{one_segment, segment_is_no_other}
use Rattle.clog_disk.specs.declared.change.Change.{Change}
use Rattle.clog_disk.specs.declared.change.Change.TheVariants as change
use Rattle.clog_disk.specs.Files.{Files}
use Rattle.clog_mutation.specs.declared.mutation.Mutation.{Mutation}
use Rattle.clog_mutation.specs.declared.mutation.Update.{Update}
use Rattle.clog_mutation.specs.Stored.{IsStored}
use Rattle.clog_scan.specs.Laws.{IsFile}
use Rattle.clog_scan.specs.Segment.{Entry}
use Rattle.clog_words.specs.declared.request.ApplyOptions.{ApplyOptions}
use Rattle.clog_crash.specs.Droppable.{IsDroppable, Touches}
use Rattle.clog_crash.specs.Folder.{HasSegmentFile, IsHeld}
use Rattle.clog_crash.proofs.changes.Names.{is_named, not_segment}
use Rattle.clog_applied.specs.Appended.{
  IsAppended,
  IsSegmentOf,
  appended,
  entries_in,
  segments_of,
}
use Rattle.clog_applied.specs.Asked.{capacity_of, flushes}
use Rattle.clog_applied.specs.Closed.{IsClosedPath, IsStoreLeft}
use Rattle.clog_applied.specs.Early.{IsRunChange}
use Rattle.clog_applied.specs.History.{
  IsLawful,
  LoggedLine,
  entry_of,
  share_of,
  written_by,
}
use Rattle.clog_applied.proofs.Changes.{in_appends}
use Rattle.clog_applied.proofs.Merged.{of_entry}

-- an update of a mutation that can be stored
pub first_update : (m : Mutation) → IsStored m → (u : Update) × Contains m.updates u
first_update m stored = by_case m.updates stored.some
  where
    by_case : (us : List Update) → 1 ≤ length us → (u : Update) × Contains us u
    by_case [] some = absurd (omega (arith, some))
    by_case (u ∷ us) some = (u, here u us)

-- its entry touches that update's table
pub touches_one : (w : LoggedLine) → (stored : IsStored w.mutation)
    → Touches (entry_of w) (first_update w.mutation stored).0.table
touches_one w stored =
    let u = first_update w.mutation stored in
    record {
      mutation = w.mutation;
      said = record { stored = stored; spelled = refl };
      update = u.0;
      listed = u.1;
      same_table = refl;
    }

-- the change appends bytes, to any name
abbrev pub IsAppendTo : Change → Type 0
IsAppendTo c = (name : List ℕ) × (bytes : List ℕ) × (c ≡ change.Append name bytes)

module _ (opened after : Files) (changes : List Change) (ids : List ℕ) (history : List LoggedLine)
    (no_segment : ¬ HasSegmentFile opened)
    (no_archive : (id : ℕ) → Contains ids id → finmap.get opened (archive_name_of id) ≡ None)
    (is_appended : IsAppended changes ids history)
    (bytes : (id : ℕ) → Contains ids id → IsFile (appended changes id))
    (some : (id : ℕ) → Contains ids id → (w : LoggedLine) × Contains history w × (w.id ≡ id))
    (stored : (w : LoggedLine) → Contains history w → IsStored w.mutation)
    (all : (c : Change) → Contains changes c → IsAppendTo c)
    (there : (id : ℕ) → Contains ids id
    → finmap.get after (segment_name_of 6 id) ≡ Some (appended changes id))
    (other : (name : List ℕ) → IsSegmentOf ids name
    ⊎ (finmap.get after name ≡ finmap.get opened name)) where
  fits : (id : ℕ) → Contains ids id → id < 2 ^ 63
  fits id h =
      let listed : Contains (segments_of ids history) (id, entries_in id history) =
      in_map (λ (i : ℕ). (i, entries_in i history)) ids id h in
      (is_appended.kept.each (id, entries_in id history) listed).0.fits

  its_name : (name : List ℕ) → (s : IsSegmentOf ids name) → IsSegmentName name 6 s.id
  its_name name s =
      subst (λ (n : List ℕ). IsSegmentName n 6 s.id) (sym s.named)
      (is_named s.id (fits s.id s.listed))

  as_opened : (name : List ℕ) → finmap.get after name ≡ finmap.get opened name
      → IsHeld after name → IsHeld opened name
  as_opened name same held = subst IsSome same held

  no_cut : (front rest : List Change) (c : Change) → changes ≡ front ++ c ∷ rest → IsAppendTo c
  no_cut front rest c is = all c
      (subst (λ (cs : List Change). Contains cs c) (sym is)
      (Contains-append_right front (c ∷ rest) c (here c rest)))

  no_publish : (front rest : List Change) (n b : List ℕ)
      → changes ≡ front ++ change.Publish n b ∷ rest → ⊥
  no_publish front rest n b is =
      let a = no_cut front rest (change.Publish n b) is in
      let clash : change.Publish n b ≡ change.Append a.0 a.1 = a.2 in
      cc

  no_remove : (front rest : List Change) (n : List ℕ)
      → changes ≡ front ++ change.Remove n ∷ rest → ⊥
  no_remove front rest n is =
      let a = no_cut front rest (change.Remove n) is in
      let clash : change.Remove n ≡ change.Append a.0 a.1 = a.2 in
      cc

  no_link : (front rest : List Change) (old new : List ℕ)
      → changes ≡ front ++ change.Link old new ∷ rest → ⊥
  no_link front rest old new is =
      let a = no_cut front rest (change.Link old new) is in
      let clash : change.Link old new ≡ change.Append a.0 a.1 = a.2 in
      cc

  not_droppable : (id : ℕ) → IsDroppable [] id (entries_in id history) → ⊥
  not_droppable id d =
      let e = of_entry history id d.entry d.has_entry in
      let can = stored e.line e.listed in
      let table = (first_update e.line.mutation can).0.table in
      let touches = subst (λ (x : Entry). Touches x table) e.is (touches_one e.line can) in
      let filed = d.filed table d.entry d.entry d.has_entry d.has_entry touches touches d.entry.end
      (omega arith) (omega arith) in
      nothing_there filed.file filed.listed

  pub store_plain : IsStoreLeft false opened after changes ids [] history []
  store_plain = record {
    is_appended = is_appended;
    bytes = bytes;
    some = some;
    order = record {
      published = λ front rest n b file is says any. absurd (no_publish front rest n b is);
      removed_whole = λ front rest id h is. absurd (no_remove front rest (segment_name_of 6 id) is);
      removed_filed = λ front rest id h is. absurd (no_remove front rest (segment_name_of 6 id) is);
      removed_archived = λ archive front rest id h is.
          absurd (no_remove front rest (segment_name_of 6 id) is);
      archived_whole = λ front rest id name h is.
          absurd (no_link front rest (segment_name_of 6 id) name is);
    };
    only = λ c h.
        let a = all c h in
        let among : Contains changes (change.Append a.0 a.1) =
        subst (λ (x : Change). Contains changes x) a.2 h in
        subst (IsRunChange false ids []) (sym a.2)
        (is_appended.only (a.0, a.1) (in_appends changes a.0 a.1 among));
    dropped_exactly = λ id h. (
      λ none. absurd (nothing_there id none),
      λ d. absurd (not_droppable id d),
    );
    segments = λ id h. inr (
      λ none. nothing_there id none,
      record {
        segment = there id h;
        archive = elim (other (archive_name_of id)) [
          | inl s ↦ absurd ((segment_is_no_other (archive_name_of id) 6 s.id
              (its_name (archive_name_of id) s)).0 id
              (record { form = refl; id_fits = fits id h }))
          | inr same ↦ same ∙ no_archive id h
        ];
      },
    );
    no_other = λ name version id named held. elim (other name) [
      | inl s ↦
          let one = one_segment name version id 6 s.id named (its_name name s) in
          (one.0, subst (λ (i : ℕ). Contains ids i) (sym one.1) s.listed)
      | inr same ↦ absurd (no_segment (name, as_opened name same held, (version, (id, named))))
    ];
    put = λ file h. absurd (nothing_there file h);
    rise = λ table i j d low high. absurd (omega (arith, high));
    tables = λ place name named held. elim (other name) [
      | inl s ↦ absurd (not_segment s.id name place.0.0 place.1 (fits s.id s.listed) named s.named)
      | inr same ↦ inl same
    ];
    others = λ name b none held. elim (other name) [
      | inl s ↦ absurd (none (6, (s.id, its_name name s)))
      | inr same ↦ same ∙ held
    ];
    no_stray = λ name absent held. elim (other name) [
      | inl s ↦ inl (s.id, s.listed, s.named)
      | inr same ↦
          let clash : IsSome {T = List ℕ} None = subst IsSome absent (as_opened name same held) in
          absurd cc
    ];
  }

-- ---- the path

module _ (options : ApplyOptions) (mutations : List Mutation) (base : ℕ)
    (history : List LoggedLine) (one : options.writers ≡ 1)
    (none : flushes options ≡ false) (no_drain : options.drain ≡ false)
    (no_flush : options.flush_at ≡ None) (lawful : IsLawful (capacity_of options) history)
    (from : (w : LoggedLine) → Contains history w → base ≤ w.id)
    (known : (w : LoggedLine) → Contains history w → w.writer < 1)
    (share : written_by 0 history ≡ share_of 1 0 mutations) where
  pub path_plain : IsClosedPath options mutations base history []
  path_plain = record {
    lawful = lawful;
    from_base = from;
    writers = omega (arith, one);
    known = λ w h. let k = known w h in omega (arith, k, one);
    shares = λ writer few.
        let zero_is : writer ≡ 0 = omega (arith, few, one) in
        subst (λ (n : ℕ). written_by writer history ≡ share_of n writer mutations) (sym one)
        (subst (λ (v : ℕ). written_by v history ≡ share_of 1 v mutations) (sym zero_is) share);
    follow = λ table. tt;
    are_true = λ f h. absurd (nothing_there f h);
    for_some = λ f h. absurd (nothing_there f h);
    drained = λ e. absurd (let clash : false ≡ true = sym no_drain ∙ e in cc);
    none = λ e. refl;
    flushed = λ most e. absurd (let clash : None ≡ Some most = sym no_flush ∙ e in cc);
  }
