-- One section of notes is written, or refused.
use Rattle.std.proofs.Common.{
  ◌≡◌,
  ℕ,
  ◌+◌,
  ◌-◌,
  ◌<◌,
  ◌≤◌,
  inl,
  inr,
  true,
  false,
  true≢false,
  List,
  [],
  ◌++◌,
  length,
  length-drop,
  take,
  drop,
  get_or,
  sym,
  ◌∙◌,
  ap,
  subst,
  arith,
  ◌∷◌,
}
use Rattle.std.specs.Prelude.{Ok, Err}
use Rattle.std.specs.List.{Contains}
use Rattle.std.proofs.Math.Seq.{take-add}
use Rattle.std.proofs.lemmas.List.{drop-drop, length-take, get_or-take, get_or-drop, take_all}
use Rattle.clog_spec.specs.Sizes.{header_size, marker_size}
use Rattle.clog_base.specs.declared.sizes.Sizes.{Sizes}
use Rattle.clog_base.specs.Positions.{ordinal_of, offset_of}
use Rattle.clog_scan.specs.Cut.{Section, last_until}
use Rattle.clog_crash.specs.Sections.{next_section}
use Rattle.path_core.specs.declared.note.EntryNote.{EntryNote}
use Rattle.clog_segments.specs.declared.written.StoreFault.{StoreFault}
use Rattle.clog_segments.specs.declared.written.StoreFault.TheVariants.{Stopped, OutOfMemory}
use Rattle.clog_segments.specs.Life.{State}
use Rattle.clog_segments.specs.NoteLog.{IsApart, IsHeld, Stands, end_behind}
use Rattle.clog_segments.specs.NoteSections.{
  AreOneSection,
  EndToEnd,
  MayBeNext,
  first_start,
  payloads_in,
}
use Rattle.clog_store.specs.NoteSteps.{Enters, ReadyAt, StandAhead, StartsBehind, standing}
use Rattle.clog_segments.specs.Stepped.{Keeps}
use Rattle.clog_store.proofs.NoteCuts.{
  ahead_rest,
  begins_from,
  begins_in,
  cut_of,
  end_behind-append,
  same_start,
  starts,
}
use Rattle.clog_segments.proofs.NoteRuns.{first_is}
use Rattle.clog_store.proofs.NoteStands.{stands_by}
use Rattle.clog_store.proofs.NoteHeld.{
  enters_behind,
  enters_on,
  held_entered,
  held_kept,
  held_unentered,
  held_unkept,
  last_above,
  last_apart,
  last_low,
}

pub in_take : (k : ℕ) (ns : List EntryNote) (n : EntryNote) → Contains (take k ns) n
    → Contains ns n
in_take k ns n among =
    let long = length-take k ns in
    let l = among.1 in
    (among.0, omega arith, sym (get_or-take k ns among.0 n (omega arith)) ∙ among.2)

pub in_drop : (k : ℕ) (ns : List EntryNote) (n : EntryNote) → Contains (drop k ns) n
    → Contains ns n
in_drop k ns n among =
    let long = length-drop k ns in
    let l = among.1 in
    (k + among.0, omega arith, sym (get_or-drop k ns among.0 n) ∙ among.2)

pub same_rest : (k : ℕ) (ns : List EntryNote) → take (length ns - k) (drop k ns) ≡ drop k ns
same_rest k ns = take_all (length ns - k) (drop k ns) (omega (arith, length-drop k ns))

-- where the first of the rest starts
pub start_in : (base k : ℕ) (ns : List EntryNote) (n : EntryNote) → k < length ns
    → base + ordinal_of (get_or (take (length ns - k) (drop k ns)) 0 n).start.0
    ≡ base + ordinal_of (first_start (drop k ns))
start_in base k ns n some =
    let whole = same_rest k ns in
    ap (λ (key : ℕ). base + ordinal_of key)
    (first_is (take (length ns - k) (drop k ns)) n
    (omega (arith, ap length whole, length-drop k ns, some)) ∙ ap first_start whole)

pub enters_runs : {D : Type 0} (log mid : State D) (id : ℕ) (done : Unit {0})
    → Enters log mid id (Ok done) → log.is_stopped ≡ false → mid.is_stopped ≡ false
enters_runs log mid id done enters runs = elim enters [
  | inl same ↦ ap (λ s. s.is_stopped) same.1 ∙ runs
  | inr rolls ↦ ap (λ s. s.is_stopped) rolls.1
]

module _ {D : Type 0} (base : ℕ) (notes : List EntryNote) (sizes : Sizes) (synced : ℕ)
    (logged : List EntryNote) (upto : ℕ) (log : State D) (written : ℕ)
    (ready : ReadyAt sizes synced logged upto base log notes written)
    (some : written < length notes) where
  abbrev rest : List EntryNote
  rest = drop written notes

  abbrev key : ℕ
  key = end_behind synced (take written notes)

  abbrev id : ℕ
  id = base + ordinal_of (first_start rest)

  abbrev Held : State D → ℕ → Type 0
  Held s count = IsHeld (standing sizes synced logged base s notes count)

  more : 0 < length rest
  more = omega (arith, length-drop written notes, some)

  begun : StartsBehind key (first_start rest)
  begun = starts upto key rest more ready.ahead

  begins : log.sections ≡ [] → base + ordinal_of key < log.id → log.id ≤ id
  begins none later = begins_from base log.id rest more (ready.held.begins none later)

  pub goes_forward : log.id ≤ id
  goes_forward =
      enters_on base notes sizes synced logged log written ready.held (first_start rest) begun
      begins

  pub unentered : (now : State D) (fault : StoreFault)
      → Enters {T = Unit {0}} log now id (Err fault)
      → Held now written
  unentered now fault enters =
      held_unentered base notes sizes synced logged log now written id fault enters ready.held

  -- in the note's segment
  module _ (mid : State D) (done : Unit {0}) (enters : Enters log mid id (Ok done)) where
    held_mid : Held mid written
    held_mid =
        held_entered base notes sizes synced logged log written ready.held (first_start rest) begun
        begins mid done enters (begins_in base id rest (omega arith))
        (λ above all. omega (arith, some, all))

    here : (mid.id ≡ id)
        × (offset_of (first_start rest) ≡ last_until header_size mid.sections + marker_size)
    here =
        enters_behind base notes sizes synced logged log written ready.held (first_start rest) begun
        begins mid done enters

    module _ (count : ℕ) (one : AreOneSection rest count) where
      abbrev first : List EntryNote
      first = take count rest

      start : first_start first ≡ first_start rest
      start = same_start rest count one.some

      pub may_be : MayBeNext base mid first
      may_be = record {
        sizes = sizes;
        good = λ n among. ready.good n (in_drop written notes n (in_take count rest n among));
        some = omega (arith, length-take count rest, one.some, one.within);
        joined = subst (λ (k : ℕ). EndToEnd k first) (sym start) (cut_of rest count one).joined;
        segment_is = here.0 ∙ ap (λ (k : ℕ). base + ordinal_of k) (sym start);
        behind = ap offset_of start ∙ here.1;
      }

      pub unkept : (now : State D) (section : Section) (fault : StoreFault)
          → Keeps {T = Unit {0}} mid now section (Err fault) → mid.is_stopped ≡ false
          → now.is_stopped ≡ false → Held now written
      unkept now section fault keeps runs still =
          held_unkept base notes sizes synced logged mid now written section fault keeps runs still
          held_mid

      stands_torn : (now : State D) → mid.synced ≤ length mid.sections
          → now ≡ record mid {
            disk = now.disk;
            sections = mid.sections ++ next_section mid.sections (payloads_in first) ∷ [];
            is_stopped = true;
          } → Stands (standing sizes synced logged base now notes written)
      stands_torn now few torn =
          stands_by base notes sizes synced logged now written (written + count)
          (omega (arith, one.within, length-drop written notes, some))
          (held_kept base notes sizes synced logged mid written count one may_be begun now now.disk
          true torn few held_mid)

      pub stands_unkept : (now : State D) (fault : StoreFault)
          → Keeps {T = Unit {0}} mid now (next_section mid.sections (payloads_in first)) (Err fault)
          → mid.is_stopped ≡ false → mid.synced ≤ length mid.sections
          → Stands (standing sizes synced logged base now notes written)
      stands_unkept now OutOfMemory keeps runs few =
          stands_by base notes sizes synced logged now written written ready.few
          (held_unkept base notes sizes synced logged mid now written
          (next_section mid.sections (payloads_in first)) OutOfMemory keeps runs
          (ap (λ (s : State D). s.is_stopped) keeps ∙ runs) held_mid)
      stands_unkept now Stopped keeps runs few = elim keeps [
        | inl was ↦ absurd (true≢false (sym was.0 ∙ runs))
        | inr torn ↦ stands_torn now few torn
      ]

      pub ready_then : (now : State D) (kept : Unit {0})
          → Keeps mid now (next_section mid.sections (payloads_in first)) (Ok kept)
          → mid.synced ≤ length mid.sections
          → ReadyAt sizes synced logged upto base now notes (written + count)
      ready_then now kept keeps few =
          let all : take (written + count) notes ≡ take written notes ++ first =
          take-add written count notes in
          let behind : drop count rest ≡ drop (written + count) notes =
          drop-drop count written notes in
          let ends : end_behind key first ≡ end_behind synced (take (written + count) notes) =
          sym (ap (end_behind synced) all
          ∙ end_behind-append synced (take written notes) first) in
          let low = last_low base notes sizes synced logged mid written count one may_be begun in
          let apart = last_apart base notes sizes synced logged mid written count one may_be begun
          in
          let up = last_above base notes sizes synced logged mid written count one may_be begun in
          record {
            few = omega (arith, one.within, length-drop written notes);
            good = ready.good;
            held = held_kept base notes sizes synced logged mid written count one may_be begun now
                now.disk false keeps few held_mid;
            ahead = subst (λ (k : ℕ). StandAhead upto k (drop (written + count) notes)) ends
                (subst (StandAhead upto (end_behind key first)) behind
                (ahead_rest upto key count rest ready.ahead one.some more
                (omega (arith, ends, up)) (omega (arith, ap offset_of ends, low))
                (subst (λ (k : ℕ). IsApart k (drop count rest)) (sym ends)
                (subst (IsApart (end_behind synced (take (written + count) notes))) (sym behind)
                apart))));
          }
