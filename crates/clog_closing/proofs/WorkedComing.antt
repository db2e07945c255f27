-- The worked rows of what comes while writers flush: a line is appended, its table file comes, and
-- its segment goes; and lists of changes that are in no such order.
use Rattle.std.proofs.Common.{
  ◌≡◌,
  ◌++◌,
  ℕ,
  zero,
  suc,
  ◌<◌,
  Bool,
  false,
  inl,
  inr,
  List,
  [],
  ◌∷◌,
  Option,
  Some,
  length,
  refl,
  sym,
  ◌∙◌,
  ap,
  subst,
  arith,
}
use Rattle.std.specs.Prelude.{Contains}
use Rattle.std.specs.List.{filter}
use Rattle.std.proofs.lemmas.Bool.{eq-eqb}
use Rattle.std.proofs.lemmas.List.{length-append}
use Rattle.clog_base.proofs.Members.{from_map, here, in_map, nothing_there, only_one}
use Rattle.clog_disk.specs.declared.change.Change.{Change}
use Rattle.clog_disk.specs.declared.change.Change.TheVariants as change
use Rattle.clog_disk.specs.Files.{Files, bytes_at}
use Rattle.clog_mutation.specs.declared.mutation.Mutation.{Mutation}
use Rattle.clog_mutation.specs.Payload.{payload_of}
use Rattle.clog_scan.specs.Segment.{Entry}
use Rattle.clog_table.specs.declared.table_file.TableFile.{TableFile}
use Rattle.clog_table.specs.Format.{table_file_bytes}
use Rattle.clog_crash.specs.Droppable.{Touches}
use Rattle.clog_crash.specs.Grown.{appends_of}
use Rattle.clog_crash.specs.Readings.{IsTableIn}
use Rattle.clog_crash.specs.Worked.{first_table, the_mutation, the_segment}
use Rattle.clog_crash.proofs.worked.Files.{held, is_segment_file}
use Rattle.clog_applied.specs.Appended.{IsAppended, entries_in, is_in}
use Rattle.clog_applied.specs.Filed.{FollowFrom, HoldsSome, IsTrueFor, first_of}
use Rattle.clog_applied.specs.History.{
  IsBefore,
  Line,
  LoggedLine,
  entry_of,
  is_by,
  line_of,
  share_of,
  written_by,
}
use Rattle.clog_applied.specs.Onward.{EndsNear}
use Rattle.clog_applied.specs.Worked.{
  come_early,
  comes,
  drained_changes,
  far_end,
  file_name,
  file_to,
  goes_in,
  goes_out,
  gone_early,
  line_at,
  log_name,
  one_logged,
  the_end,
  with_file,
}
use Rattle.clog_applied.proofs.Lists.{from_filter, in_filter}
use Rattle.clog_applied.proofs.Merged.{of_entry}
use Rattle.clog_applied.proofs.rows.Drained.{
  inside,
  is_named_so,
  is_true,
  of_each,
  spelled_to,
  store_went,
}
use Rattle.clog_applied.proofs.rows.Empty.{all_of_one, one_apart}
use Rattle.clog_applied.proofs.rows.Synced.{touches_first}
use Rattle.clog_applied.proofs.rows.Wrong.{is_the_one, the_one_is}
use Rattle.clog_applied.proofs.rows.WrongLines.{entries_are}
use Rattle.clog_closing.specs.Written.{AreFirstLines, HasComeInOrder}

-- ---- of two lines the first has come

abbrev pub f : TableFile
f = file_to the_end

its_share : (other : Mutation) (writer : ℕ) → writer < 1 → AreFirstLines
    (share_of 1 writer (the_mutation ∷ other ∷ [])) (written_by writer one_logged)
its_share other zero low =
    record { rest = record { number = 2; mutation = other } ∷ []; parts = refl }
its_share other (suc writer) low = absurd (omega (arith, low))

pub come_first : (other : Mutation)
    → HasComeInOrder false 1000 1 (the_mutation ∷ other ∷ []) (Some with_file) drained_changes
come_first other = record {
  ids = 1000 ∷ [];
  history = one_logged;
  files = f ∷ [];
  turns = record {
    apart = one_apart IsBefore (line_at 1 28);
    is_appended = store_went.is_appended;
    order = store_went.order;
    only = store_went.only;
    follow = of_each (FollowFrom (first_of 1000)) (refl, inr (refl, omega arith), tt) tt;
    are_true = all_of_one (IsTrueFor one_logged) f is_true;
    for_some = all_of_one (HoldsSome one_logged) f (record {
      line = line_at 1 28;
      listed = here (line_at 1 28) [];
      touches = touches_first 1 28;
      inside = inside 60 (omega arith) (omega arith);
    });
    near = all_of_one (EndsNear one_logged) f (record {
      line = line_at 1 28;
      listed = here (line_at 1 28) [];
      near = omega arith;
    });
    stand = λ after is file h.
        let same : with_file ≡ after = cc in
        subst (λ (fs : Files). IsTableIn (bytes_at fs) file) same (store_went.put file h);
  };
  holds = record {
    known = all_of_one (λ (w : LoggedLine). w.writer < 1) (line_at 1 28) (omega arith);
    firsts = its_share other;
  };
}

-- ---- what is in no such order

abbrev pub the_entry : Entry
the_entry = entry_of (line_at 1 28)

-- where the worked segment alone was appended, it has the one entry
pub its_entry : (changes : List Change) → appends_of changes ≡ (log_name, the_segment) ∷ []
    → (ids : List ℕ) (history : List LoggedLine) → IsAppended changes ids history
    → Contains (entries_in 1000 history) the_entry
its_entry changes alone ids history is =
    subst (λ (es : List Entry). Contains es the_entry)
    (sym (entries_are changes the_segment alone is_segment_file (the_entry ∷ []) held ids history
    is)) (here the_entry [])

only_entry : (changes : List Change) → appends_of changes ≡ (log_name, the_segment) ∷ []
    → (ids : List ℕ) (history : List LoggedLine) → IsAppended changes ids history
    → (e : Entry) → Contains (entries_in 1000 history) e → the_entry ≡ e
only_entry changes alone ids history is e among =
    only_one the_entry e (subst (λ (es : List Entry). Contains es e)
    (entries_are changes the_segment alone is_segment_file (the_entry ∷ []) held ids history is)
    among)

module _ (archives : Bool) (base writers : ℕ) (ms : List Mutation) (now : Option Files) where
  pub not_gone_early : HasComeInOrder archives base writers ms now gone_early → ⊥
  not_gone_early has =
      let its = the_one_is the_segment gone_early refl has.ids has.history has.turns.is_appended in
      let may = has.turns.order.removed_filed (goes_in ∷ []) (comes (file_to the_end) ∷ []) 1000 its
      refl in
      let d = may.droppable in
      let one = only_entry gone_early refl has.ids has.history has.turns.is_appended d.entry
      d.has_entry in
      let touches = subst (λ (e : Entry). Touches e first_table) one (touches_first 1 28) in
      let filed = d.filed first_table d.entry d.entry d.has_entry d.has_entry touches touches
      d.entry.end (omega arith) (omega arith) in
      let put = (may.each filed.file filed.listed).1 in
      let clash : goes_in ≡ change.Publish put.name put.bytes =
      only_one goes_in (change.Publish put.name put.bytes) put.listed in
      cc

  pub not_come_early : HasComeInOrder archives base writers ms now come_early → ⊥
  not_come_early has =
      let e = of_entry has.history 1000 the_entry
      (its_entry come_early refl has.ids has.history has.turns.is_appended) in
      let touches = subst (λ (x : Entry). Touches x first_table) (sym e.is) (touches_first 1 28) in
      let there = e.there in
      let behind = has.turns.order.published [] (goes_in ∷ goes_out ∷ []) file_name
      (table_file_bytes (file_to far_end)) (file_to far_end) refl (record {
        sequence = 1;
        named = is_named_so;
        spelled = spelled_to far_end (inl (omega arith)) (omega arith) (omega arith);
      }) tt e.line e.listed touches (inl (omega (arith, there))) in
      let end = ap (λ (x : Entry). x.end) e.is in
      omega (arith, behind, end)

-- a line that was not asked for
pub not_unasked : (archives : Bool) (base writers : ℕ) (now : Option Files)
    → HasComeInOrder archives base writers [] now drained_changes → ⊥
not_unasked archives base writers now has =
    let e = of_entry has.history 1000 the_entry
    (its_entry drained_changes refl has.ids has.history has.turns.is_appended) in
    let w = e.line in
    let first = has.holds.firsts w.writer (has.holds.known w e.listed) in
    let said = written_by w.writer has.history in
    let long = ap length first.parts in
    let parts = length-append said first.rest in
    let among : Contains said (line_of w) =
    in_map line_of (filter (is_by w.writer) has.history) w
    (in_filter (is_by w.writer) has.history w e.listed (eq-eqb w.writer w.writer refl)) in
    let inside = among.1 in
    omega (arith, long, parts, inside)

-- ---- not the second before the first

-- what begins with a line has it, where it is something
begins_with : (l : Line) (all said rest : List Line) → (x : Line) → Contains said x
    → l ∷ all ≡ said ++ rest → Contains said l
begins_with l all [] rest x among is = absurd (nothing_there x among)
begins_with l all (y ∷ said) rest x among is =
    let same : y ≡ l = cc in subst (Contains (y ∷ said)) same (here y said)

pub not_second : (archives : Bool) (base : ℕ) (other : Mutation) (now : Option Files)
    → (payload_of other ≡ payload_of the_mutation → ⊥)
    → HasComeInOrder archives base 1 (other ∷ the_mutation ∷ []) now drained_changes → ⊥
not_second archives base other now apart has =
    let history = has.history in
    let is = has.turns.is_appended in
    let e = of_entry history 1000 the_entry (its_entry drained_changes refl has.ids history is) in
    let low = has.holds.known e.line e.listed in
    let first = has.holds.firsts 0 (omega arith) in
    let line : Line = record { number = 1; mutation = other } in
    let said = begins_with line (record { number = 2; mutation = the_mutation } ∷ [])
    (written_by 0 history) first.rest (line_of e.line)
    (in_map line_of (filter (is_by 0) history) e.line
    (in_filter (is_by 0) history e.line e.listed (eq-eqb e.line.writer 0 (omega (arith, low)))))
    first.parts in
    let v = from_map line_of (filter (is_by 0) history) line said in
    let listed = (from_filter (is_by 0) history v.0 v.1).0 in
    let there = is_the_one the_segment drained_changes refl has.ids history is v.0.id
    (is.no_other v.0 listed) in
    let one = only_entry drained_changes refl has.ids history is (entry_of v.0)
    (in_map entry_of (filter (is_in 1000) history) v.0
    (in_filter (is_in 1000) history v.0 listed (eq-eqb v.0.id 1000 there))) in
    apart (sym (ap (λ (l : Line). payload_of l.mutation) v.2)
    ∙ sym (ap (λ (x : Entry). x.payload) one))
