-- The changes of a run whose path is closed stand in order, and its table files are true.
use Rattle.std.proofs.Common.{
  ◌≡◌,
  ◌⊎◌,
  ℕ,
  ◌<◌,
  ◌≤◌,
  inl,
  inr,
  List,
  [],
  ◌∷◌,
  ◌++◌,
  Option,
  Some,
  None,
  length,
  true,
  refl,
  sym,
  ◌∙◌,
  ap,
  subst,
  arith,
}
use Rattle.std.specs.Prelude.{Contains}
use Rattle.std.specs.FinMap as finmap
use Rattle.std.proofs.lemmas.List.Elements.{Contains-append_right}
use Rattle.std.proofs.lemmas.Bool.Decides.{nat_tests}
use Rattle.std.proofs.lemmas.Bool.{cases_eq}
use Rattle.clog_spec.specs.Names.{archive_name_of, segment_name_of}
use Rattle.clog_base.specs.declared.cell.Table.{Table}
use Rattle.clog_base.specs.declared.position.Position.{Position}
use Rattle.clog_base.specs.Positions.{IsBelow, IsUpTo}
use Rattle.clog_base.proofs.Members.{here, further}
use Rattle.clog_base.proofs.PositionOrder.{up_to_trans}
use Rattle.clog_disk.specs.declared.change.Change.{Change}
use Rattle.clog_disk.specs.declared.change.Change.TheVariants as change
use Rattle.clog_disk.specs.Files.{Files}
use Rattle.clog_mutation.specs.declared.mutation.Mutation.{Mutation}
use Rattle.clog_scan.specs.Segment.{Entry}
use Rattle.clog_table.specs.declared.table_file.TableFile.{TableFile}
use Rattle.clog_words.specs.declared.request.ApplyOptions.{ApplyOptions}
use Rattle.clog_crash.specs.Droppable.{IsDroppable, IsFiled, Touches}
use Rattle.clog_crash.specs.Folder.{IsHeld}
use Rattle.clog_crash.specs.Grown.{Append, appends_of, grown}
use Rattle.clog_applied.specs.Appended.{appended, entries_in}
use Rattle.clog_applied.specs.Asked.{flushes}
use Rattle.clog_applied.specs.Closed.{ClosedRun}
use Rattle.clog_applied.specs.Early.{IsLoggedBehind, MayGoBehind, NothingGoesEarly, SaysFile}
use Rattle.clog_applied.specs.Filed.{
  BringsNoOther,
  IsAbove,
  IsInOne,
  IsNewName,
  KeepsOthers,
  TableFilesAreTrue,
  files_of,
  first_of,
  is_of,
  last_upper,
}
use Rattle.clog_applied.specs.History.{LoggedLine, entry_of, logged_at}
use Rattle.clog_applied.proofs.Covered.{each_below_last, ends_from, held_once}
use Rattle.clog_applied.proofs.Lists.{from_filter, in_filter}
use Rattle.clog_applied.proofs.Logs.{from_base, its_segment, same_appended, stays_so}
use Rattle.clog_applied.proofs.Merged.{its_entry, of_entry, old_or_new}
use Rattle.clog_applied.proofs.Opened.{
  appends_behind,
  older,
  publishes_older,
  removes_older,
}

-- Where two lists are cut at one element, it is of the first, or the cut is behind it.
pub record IsBehind {A : Type 0} (one two front : List A) (x : A) (rest : List A) : Type 0 where
  pub more : List A
  pub front_is : front ≡ one ++ more
  pub rest_is : two ≡ more ++ x ∷ rest

pub of_which : {A : Type 0} (one two front : List A) (x : A) (rest : List A)
    → one ++ two ≡ front ++ x ∷ rest → Contains one x ⊎ IsBehind one two front x rest
of_which [] two front x rest is = inr (record { more = front; front_is = refl; rest_is = is })
of_which (y ∷ one) two [] x rest is =
    let same : y ≡ x = cc in inl (subst (λ (z : _). Contains (y ∷ one) z) same (here y one))
of_which (y ∷ one) two (z ∷ front) x rest is =
    let same : y ≡ z = cc in
    let tails : one ++ two ≡ front ++ x ∷ rest = cc in
    elim (of_which one two front x rest tails) [
      | inl listed ↦ inl (further y one x listed)
      | inr behind ↦ inr (record {
        more = behind.more;
        front_is = (let f = behind.front_is in cc);
        rest_is = behind.rest_is;
      })
    ]

module _ (o : ApplyOptions) (before after : Files) (changes : List Change)
    (mutations : List Mutation) (c : ClosedRun o before after changes mutations) where
  -- ---- the order

  new_file : (file : TableFile) → Contains c.files file → IsAbove before file.upper.id
  new_file file h other named =
      let t = file.table in
      let low = c.opening.base_above other named in
      let from = ends_from (first_of c.base) (files_of t c.files) (c.path.follow t) file
      (in_filter (is_of t) c.files file h (grind (arith, nat_tests))) in
      elim from [
        | inl x ↦ omega (arith, low, x)
        | inr x ↦ omega (arith, low, x.0)
      ]

  -- what is appended in front of a place behind the opening
  appended_behind : (front more : List Change) → front ≡ c.recovery ++ more → (id : ℕ)
      → appended front id ≡ appended more id
  appended_behind front more is id =
      ap (λ (a : List Append). grown a (segment_name_of 6 id))
      (ap appends_of is ∙ appends_behind before c.opened c.recovery c.base c.opening more)

  published : (front rest : List Change) (name bytes : List ℕ) (file : TableFile)
      → changes ≡ front ++ change.Publish name bytes ∷ rest → SaysFile name bytes file
      → IsAbove before file.upper.id → IsLoggedBehind c.history front file
  published front rest name bytes file is says above =
      elim (of_which c.recovery c.later front (change.Publish name bytes) rest
      (sym c.parts ∙ is)) [
        | inl old ↦
            let named = publishes_older before c.opened c.recovery c.base c.opening name bytes file
            old says in
            let low = above file.upper.id named in absurd (omega (arith, low))
        | inr behind ↦ λ w hw touches below.
            let so = c.store.order.published behind.more rest name bytes file behind.rest_is
            says tt w hw touches below in
            subst (λ (l : List ℕ). w.end ≤ length l)
            (sym (appended_behind front behind.more behind.front_is w.id)) so
      ]

  cut_behind : (front rest : List Change) (id : ℕ) → Contains c.ids id
      → changes ≡ front ++ change.Remove (segment_name_of 6 id) ∷ rest
      → IsBehind c.recovery c.later front (change.Remove (segment_name_of 6 id)) rest
  cut_behind front rest id h is =
      elim (of_which c.recovery c.later front (change.Remove (segment_name_of 6 id)) rest
      (sym c.parts ∙ is)) [
        | inl old ↦
            let fits = (its_segment o before after changes mutations c id h).0 in
            let low = removes_older before c.opened c.recovery c.base c.opening id fits old in
            let high = from_base o before after changes mutations c id h in
            absurd (omega (arith, low, high))
        | inr behind ↦ behind
      ]

  removed_whole : (front rest : List Change) (id : ℕ) → Contains c.ids id
      → changes ≡ front ++ change.Remove (segment_name_of 6 id) ∷ rest
      → appended front id ≡ appended changes id
  removed_whole front rest id h is =
      let behind = cut_behind front rest id h is in
      appended_behind front behind.more behind.front_is id
      ∙ c.store.order.removed_whole behind.more rest id h behind.rest_is
      ∙ sym (same_appended o before after changes mutations c id)

  removed_filed : (front rest : List Change) (id : ℕ) → Contains c.ids id
      → changes ≡ front ++ change.Remove (segment_name_of 6 id) ∷ rest
      → MayGoBehind c.files front id (entries_in id c.history)
  removed_filed front rest id h is =
      let behind = cut_behind front rest id h is in
      let so = c.store.order.removed_filed behind.more rest id h behind.rest_is in
      record {
        put = so.put;
        each = λ file there.
            let e = so.each file there in
            let p = e.1 in (
              e.0,
              record {
                name = p.name;
                bytes = p.bytes;
                listed = subst (λ (cs : List Change).
                    Contains cs (change.Publish p.name p.bytes)) (sym behind.front_is)
                    (Contains-append_right c.recovery behind.more
                    (change.Publish p.name p.bytes) p.listed);
                says = p.says;
              },
            );
        droppable = so.droppable;
      }

  removed_archived : o.archive ≡ true → (front rest : List Change) (id : ℕ) → Contains c.ids id
      → changes ≡ front ++ change.Remove (segment_name_of 6 id) ∷ rest
      → Contains front (change.Link (segment_name_of 6 id) (archive_name_of id))
  removed_archived archive front rest id h is =
      let behind = cut_behind front rest id h is in
      let link = change.Link (segment_name_of 6 id) (archive_name_of id) in
      subst (λ (cs : List Change). Contains cs link) (sym behind.front_is)
      (Contains-append_right c.recovery behind.more link
      (c.store.order.removed_archived archive behind.more rest id h behind.rest_is))

  archived_whole : (front rest : List Change) (id : ℕ) (name : List ℕ) → Contains c.ids id
      → changes ≡ front ++ change.Link (segment_name_of 6 id) name ∷ rest
      → (name ≡ archive_name_of id) × (appended front id ≡ appended changes id)
  archived_whole front rest id name h is =
      let link = change.Link (segment_name_of 6 id) name in
      elim (of_which c.recovery c.later front link rest (sym c.parts ∙ is)) [
        | inl old ↦ absurd (c.opening.changes link old)
        | inr behind ↦
            let so = c.store.order.archived_whole behind.more rest id name h behind.rest_is in (
              so.0,
              appended_behind front behind.more behind.front_is id ∙ so.1
                  ∙ sym (same_appended o before after changes mutations c id),
            )
      ]

  -- ---- what is gone

  gone : (id : ℕ) → Contains c.ids id → IsHeld after (segment_name_of 6 id)
      → ¬ IsDroppable c.files id (entries_in id c.history)
  gone id h held droppable =
      (stays_so o before after changes mutations c id h held).0
      ((c.store.dropped_exactly id h).1 droppable)

  above_first : (id offset : ℕ) → Contains c.ids id → 0 < offset
      → IsBelow (first_of c.base) (record { id = id; offset = offset })
  above_first id offset h some =
      let from = from_base o before after changes mutations c id h in
      elim (cases_eq c.base id) [
        | inl same ↦ inr (same, some)
        | inr apart ↦ inl (omega (arith, from, apart))
      ]

  -- each place up to the end of one that is filed is filed
  filed_up_to : (table : Table) (id offset : ℕ) → Contains c.ids id → 0 < offset
      → (b : LoggedLine) → b.id ≡ id → offset ≤ b.end → IsFiled c.files table (logged_at b)
      → IsFiled c.files table (record { id = id; offset = offset })
  filed_up_to table id offset h some b there high end =
      let place : Position = record { id = id; offset = offset } in
      let first = first_of c.base in
      let files = files_of table c.files in
      let reached : IsUpTo place (logged_at b) = inr (sym there, high) in
      let its_number : end.file.table.0 ≡ table.0 = ap (λ (t : Table). t.0) end.same_table in
      let test = in_filter (is_of table) c.files end.file end.listed
      (grind (arith, nat_tests, its_number)) in
      let last = up_to_trans (logged_at b) end.file.upper (last_upper first files)
      end.inside.up_to (each_below_last first files (c.path.follow table) end.file test) in
      let below = up_to_trans place (logged_at b) (last_upper first files) reached last in
      let found = held_once first files (c.path.follow table) place
      (above_first id offset h some) below in
      let of_files = from_filter (is_of table) c.files found.file found.listed in
      let number : found.file.table.0 ≡ table.0 = grind (arith, nat_tests, of_files.1) in
      record {
        file = found.file;
        listed = of_files.0;
        same_table = λ i. record { 0 = number i };
        inside = found.inside;
      }

  drained_filed : o.drain ≡ true → (id : ℕ) → Contains c.ids id → (table : Table) (a b : Entry)
      → Contains (entries_in id c.history) a → Contains (entries_in id c.history) b
      → Touches a table → Touches b table → (offset : ℕ) → a.end ≤ offset → offset ≤ b.end
      → IsFiled c.files table (record { id = id; offset = offset })
  drained_filed drain id h table a b ha hb ta tb offset low high =
      let one = of_entry c.history id a ha in
      let two = of_entry c.history id b hb in
      let placed = c.path.lawful.each one.line one.listed in
      let front = placed.behind_front in
      let long = placed.long in
      let same_end : one.line.end ≡ a.end = ap (λ (e : Entry). e.end) one.is in
      let its_end : two.line.end ≡ b.end = ap (λ (e : Entry). e.end) two.is in
      let touches : Touches (entry_of two.line) table =
      subst (λ (e : Entry). Touches e table) (sym two.is) tb in
      filed_up_to table id offset h (omega (arith, front, long, same_end, low)) two.line two.there
      (omega (arith, its_end, high)) (c.path.drained drain table two.line two.listed touches)

  drained : o.drain ≡ true → (id : ℕ) → Contains c.ids id
      → ¬ IsHeld after (segment_name_of 6 id)
  drained drain id h held =
      let some = c.store.some id h in
      gone id h held (record {
        entry = entry_of some.0;
        has_entry = subst (λ (i : ℕ). Contains (entries_in i c.history) (entry_of some.0)) some.2
            (its_entry c.history some.0 some.1);
        filed = drained_filed drain id h;
      })

  others : KeepsOthers before after
  others name bytes none there =
      c.store.others name bytes none (c.opening.others name bytes none there)

  no_stray : BringsNoOther c.ids before after
  no_stray name absent held = by (finmap.get c.opened name) refl
    where
      by : (o : Option (List ℕ)) → finmap.get c.opened name ≡ o → IsNewName c.ids name
      by None none = c.store.no_stray name none held
      by (Some bytes) there =
          let said = (c.opening.came name bytes there absent).says in
          inr (inr (_, said.sequence, said.named))

  pub nothing_early : NothingGoesEarly o.archive o.drain before after changes c.ids c.history
      c.files
  nothing_early = record {
    order = record {
      published = published;
      removed_whole = removed_whole;
      removed_filed = removed_filed;
      removed_archived = removed_archived;
      archived_whole = archived_whole;
    };
    gone = gone;
    drained = drained;
    others = others;
    no_stray = no_stray;
  }

  -- ---- table files

  in_one : (table : Table) (w : LoggedLine) → Contains c.history w → Touches (entry_of w) table
      → IsUpTo (logged_at w) (last_upper (first_of c.base) (files_of table c.files))
      → IsInOne c.files table (logged_at w)
  in_one table w h touches below =
      let placed = c.path.lawful.each w h in
      let front = placed.behind_front in
      let long = placed.long in
      let found = held_once (first_of c.base) (files_of table c.files) (c.path.follow table)
      (logged_at w) (above_first w.id w.end (c.store.is_appended.no_other w h)
      (omega (arith, front, long))) below in
      record {
        file = found.file;
        listed = found.listed;
        inside = found.inside;
        one = found.one;
      }

  pub table_files : TableFilesAreTrue (flushes o) before after c.base c.ids c.history c.files
  table_files = record {
    files_are = record {
      each = λ file h. (c.store.put file h, new_file file h);
      every = λ file there above.
          elim (old_or_new o before after changes mutations c file there) [
            | inl old ↦
                let low = above file.upper.id
                (older before c.opened c.recovery c.base c.opening file old) in
                absurd (omega (arith, low))
            | inr new ↦ new
          ];
      rise = c.store.rise;
    };
    base_above = c.opening.base_above;
    base_below = from_base o before after changes mutations c;
    follow = c.path.follow;
    are_true = c.path.are_true;
    for_some = c.path.for_some;
    in_one = in_one;
    none = c.path.none;
  }
