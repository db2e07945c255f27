-- The worked rows of table files that may not come while writers flush, or have to be there, and of
-- segments that may not go.
use Rattle.std.proofs.Common.{
  ◌≡◌,
  ℕ,
  Bool,
  inl,
  inr,
  List,
  [],
  ◌∷◌,
  Option,
  Some,
  refl,
  sym,
  ◌∙◌,
  ap,
  subst,
  arith,
  true,
  ◌<◌,
  ◌++◌,
  length,
}
use Rattle.std.specs.Prelude.{Contains, unwrap_or}
use Rattle.std.specs.FinMap.{get-empty}
use Rattle.std.specs.Cmp.Lexicographic.{slice_cmp}
use Rattle.std.specs.List.{filter}
use Rattle.std.specs.List.Sorted.{IsStrictlySortedBy}
use Rattle.std.specs.Ordering.{nat_cmp}
use Rattle.std.proofs.lemmas.Bool.{eq-eqb}
use Rattle.std.proofs.lemmas.List.Elements.{Contains-append_left}
use Rattle.clog_spec.specs.Names.{table_name_of, archive_name_of}
use Rattle.clog_base.specs.declared.cell.Table.{Table}
use Rattle.clog_base.proofs.Members.{further, here, in_map, only_one, first_or_further}
use Rattle.clog_base.proofs.NameLaws.{one_table}
use Rattle.clog_disk.specs.declared.change.Change.{Change}
use Rattle.clog_disk.specs.declared.change.Change.TheVariants as change
use Rattle.clog_disk.specs.Files.{Files, no_files}
use Rattle.clog_mutation.specs.declared.mutation.Mutation.{Mutation}
use Rattle.clog_mutation.specs.Payload.{cells_of}
use Rattle.clog_scan.specs.Segment.{Entry}
use Rattle.clog_table.specs.declared.table_file.TableFile.{TableFile}
use Rattle.clog_table.specs.Format.{table_file_bytes}
use Rattle.clog_table.specs.Refusals.{IsFileOf}
use Rattle.clog_table.proofs.Again.{one_table_file}
use Rattle.clog_crash.specs.Worked.{first_table, logged, the_mutation, the_segment}
use Rattle.clog_applied.specs.Early.{AreRunChanges}
use Rattle.clog_applied.specs.History.{Line, is_by, line_of, written_by, LoggedLine}
use Rattle.clog_applied.specs.Worked.{
  comes,
  file_name,
  goes_in,
  goes_out,
  one_line,
  drained_changes,
  log_name,
}
use Rattle.clog_applied.proofs.Lists.{in_filter}
use Rattle.clog_applied.proofs.Merged.{of_entry}
use Rattle.clog_applied.proofs.rows.Drained.{is_named_so, spelled}
use Rattle.clog_closing.specs.WorkedComing.{for_nothing, hollow, hollow_changes, cut_off_changes}
use Rattle.clog_closing.specs.Written.{HasComeInOrder}
use Rattle.std.proofs.lemmas.List.{append-nil, length-append}
use Rattle.clog_crash.specs.Grown.{appends_of}
use Rattle.clog_crash.proofs.changes.Names.{one_id}
use Rattle.clog_crash.proofs.counts.Growing.{grown_here}
use Rattle.clog_applied.specs.Appended.{IsAppended, appended, entries_in}
use Rattle.clog_closing.proofs.WorkedComing.{f, its_entry, the_entry}

none_ordered : IsFileOf first_table (table_file_bytes hollow) hollow
unfolding IsStrictlySortedBy
none_ordered = record {
  is_file = record {
    table = omega arith;
    lower = record { id = omega arith; offset = omega arith };
    upper = record { id = omega arith; offset = omega arith };
    interval = inr (refl, omega arith);
    stored = tt;
    map = record { ordered = tt; few = omega arith };
  };
  same_table = refl;
  spelled = refl;
}

nothing_spelled : IsFileOf first_table (table_file_bytes for_nothing) for_nothing
unfolding IsStrictlySortedBy
nothing_spelled = record {
  is_file = record {
    table = omega arith;
    lower = record { id = omega arith; offset = omega arith };
    upper = record { id = omega arith; offset = omega arith };
    interval = inr (refl, omega arith);
    stored = tt;
    map = record { ordered = tt; few = omega arith };
  };
  same_table = refl;
  spelled = refl;
}

-- a file that came is one of those that are told
is_told : (archives : Bool) (ids : List ℕ) (files : List TableFile) (changes : List Change)
    (file : TableFile) → AreRunChanges archives ids files changes
    → Contains changes (comes file) → IsFileOf first_table (table_file_bytes file) file
    → Contains files file
is_told archives ids files changes file only listed own =
    let p = only (comes file) listed in
    let numbers = one_table file_name p.0.table.0 p.2.sequence 0 1 p.2.named is_named_so in
    let table : p.0.table ≡ first_table = (λ i. record { 0 = numbers.0 i }) in
    let bytes = table_file_bytes file in
    let same = one_table_file first_table bytes file p.0 own
    (subst (λ (t : Table). IsFileOf t bytes p.0) table p.2.spelled) in
    subst (Contains files) same p.1

module _ (archives : Bool) (base writers : ℕ) (ms : List Mutation) (changes : List Change) where
  -- in whose interval there is nothing
  pub not_for_nothing : (now : Option Files) → Contains changes (comes for_nothing)
      → HasComeInOrder archives base writers ms now changes → ⊥
  not_for_nothing now listed has =
      let some = has.turns.for_some for_nothing
      (is_told archives has.ids has.files changes for_nothing has.turns.only listed
      nothing_spelled) in
      elim some.inside.above [
        | inl low ↦ elim some.inside.up_to [
          | inl high ↦ omega (arith, low, high)
          | inr high ↦ omega (arith, low, high.0)
        ]
        | inr low ↦ elim some.inside.up_to [
          | inl high ↦ omega (arith, low.0, high)
          | inr high ↦ omega (arith, low.1, high.1)
        ]
      ]

  -- which does not stand at the end
  pub not_missing : Contains changes (comes f)
      → HasComeInOrder archives base writers ms (Some no_files) changes → ⊥
  not_missing listed has =
      let there = has.turns.stand no_files refl f
      (is_told archives has.ids has.files changes f has.turns.only listed spelled) in
      let none = ap (λ (o : Option (List ℕ)). unwrap_or o []) (get-empty (slice_cmp nat_cmp)
      (table_name_of 0 there.sequence)) in
      let clash : [] ≡ table_file_bytes f = sym none ∙ there.spelled.spelled in cc

-- which lacks a cell
pub not_hollow : (archives : Bool) (base : ℕ) (now : Option Files)
    → HasComeInOrder archives base 1 one_line now hollow_changes → ⊥
not_hollow archives base now has =
    let history = has.history in
    let e = of_entry history 1000 the_entry
    (its_entry hollow_changes refl has.ids history has.turns.is_appended) in
    let low = has.holds.known e.line e.listed in
    let first = has.holds.firsts 0 (omega arith) in
    let said = written_by 0 history in
    let among = Contains-append_left said first.rest (line_of e.line)
    (in_map line_of (filter (is_by 0) history) e.line
    (in_filter (is_by 0) history e.line e.listed (eq-eqb e.line.writer 0 (omega (arith, low))))) in
    let line = only_one (record { number = 1; mutation = the_mutation }) (line_of e.line)
    (subst (λ (l : List Line). Contains l (line_of e.line)) (sym first.parts) among) in
    let file = is_told archives has.ids has.files hollow_changes hollow has.turns.only
    (further goes_in (comes hollow ∷ goes_out ∷ []) (comes hollow)
    (here (comes hollow) (goes_out ∷ []))) none_ordered in
    let there = e.there in
    let end : e.line.end ≡ 60 = ap (λ (x : Entry). x.end) e.is in
    (has.turns.are_true hollow file).newest logged.0 logged.1 (record {
      line = e.line;
      listed = e.listed;
      inside = record {
        above = inr (omega (arith, there), omega (arith, end));
        up_to = inr (omega (arith, there), omega (arith, end));
      };
      cell = subst (λ (m : Mutation). Contains (cells_of m) logged)
          (ap (λ (l : Line). l.mutation) line) (here logged []);
      same_table = refl;
    })

-- ---- segments that may not go

-- the worked segment is one of those that were appended
is_appended_to : (changes : List Change) (ids : List ℕ) (history : List LoggedLine)
    → IsAppended changes ids history → Contains (appends_of changes) (log_name, the_segment)
    → Contains ids 1000
is_appended_to changes ids history is listed =
    let a = is.only (log_name, the_segment) listed in
    let has = (is.kept.each (a.id, entries_in a.id history)
    (in_map (λ (i : ℕ). (i, entries_in i history)) ids a.id a.listed)).0 in
    subst (λ (i : ℕ). Contains ids i) (one_id 1000 a.id (omega arith) has.fits (sym a.named))
    a.listed

-- without its archive name, where archives are kept
pub not_unnamed : (base writers : ℕ) (ms : List Mutation) (now : Option Files)
    → HasComeInOrder true base writers ms now drained_changes → ⊥
not_unnamed base writers ms now has =
    let its = is_appended_to drained_changes has.ids has.history has.turns.is_appended
    (here (log_name, the_segment) []) in
    let link = change.Link log_name (archive_name_of 1000) in
    elim (first_or_further goes_in (comes f ∷ []) link
    (has.turns.order.removed_archived refl (goes_in ∷ comes f ∷ []) [] 1000 its refl)) [
      | inl same ↦ (let clash : goes_in ≡ link = same in cc)
      | inr more ↦ (let clash : comes f ≡ link = only_one (comes f) link more in cc)
    ]

-- before all its bytes were appended
pub not_cut_off : (archives : Bool) (base writers : ℕ) (ms : List Mutation) (now : Option Files)
    (more : List ℕ) → 0 < length more
    → HasComeInOrder archives base writers ms now (cut_off_changes more) → ⊥
not_cut_off archives base writers ms now more some has =
    let its = is_appended_to (cut_off_changes more) has.ids has.history has.turns.is_appended
    (here (log_name, the_segment) ((log_name, more) ∷ [])) in
    let front : appended (goes_in ∷ comes f ∷ []) 1000 ≡ the_segment =
    grown_here log_name the_segment [] ∙ append-nil the_segment in
    let all : appended (cut_off_changes more) 1000 ≡ the_segment ++ more =
    grown_here log_name the_segment ((log_name, more) ∷ [])
    ∙ ap (λ (l : List ℕ). the_segment ++ l) (grown_here log_name more [] ∙ append-nil more) in
    let whole = has.turns.order.removed_whole (goes_in ∷ comes f ∷ [])
    (change.Append log_name more ∷ []) 1000 its refl in
    let long : length the_segment ≡ length (the_segment ++ more) =
    ap length (sym front ∙ whole ∙ all) in
    let parts = length-append the_segment more in omega (arith, long, parts, some)
