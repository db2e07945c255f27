-- What is lasting and what is kept are the first of what was written, whatever was refused.
use Rattle.std.proofs.Common.{
  ◌≡◌,
  ℕ,
  ◌<◌,
  ◌≤◌,
  inl,
  inr,
  List,
  [],
  ◌∷◌,
  ◌++◌,
  take,
  drop,
  Option,
  refl,
  sym,
  ap,
  ◌∙◌,
  subst,
  arith,
  append-nil,
  append_assoc,
  take-append-drop,
}
use Rattle.std.specs.Prelude.{Contains}
use Rattle.std.specs.List.{filter}
use Rattle.std.proofs.lemmas.Bool.{cases_lt}
use Rattle.std.proofs.lemmas.List.Elements.{Contains-append_left, filter-append}
use Rattle.std.proofs.lemmas.List.Kept.{AllPairs-filter}
use Rattle.std.proofs.lemmas.List.Sorted.{Contains-permutation, IsPermutation-sym}
use Rattle.atomic_table.specs.Seated.{TableId}
use Rattle.clog_base.proofs.Members.{here, nothing_there}
use Rattle.clog_mutation.specs.declared.mutation.Mutation.{Mutation}
use Rattle.clog_applied.specs.History.{share_of}
use Rattle.clog_applied.proofs.Lists.{from_filter}
use Rattle.path_core.specs.declared.note.EntryNote.{EntryNote}
use Rattle.path_core.specs.History.{IsHistory}
use Rattle.path_core.specs.Keeper.{Holding}
use Rattle.path_core.specs.LawfulLog.{is_at_most}
use Rattle.path_core.specs.Next.{is_between}
use Rattle.path_core.proofs.log.Between.{between}
use Rattle.path_rule.specs.declared.view.PathSize.{PathSize}
use Rattle.path_table.specs.declared.trying.PathSeat.{PathSeat}
use Rattle.clog_layout.proofs.Pairs.{pairs_none}
use Rattle.write_path.specs.Closed.{IsOutcome, all_writes}
use Rattle.clog_shares.specs.declared.fault.WriteFault.{WriteFault}
use Rattle.clog_shares.specs.Crews.{HaveEnded}
use Rattle.clog_writers.specs.Logged.{HoldFirsts, is_note_of}
use Rattle.clog_shares.specs.Shares.{AreFirstWrites, AreWritesOf}
use Rattle.clog_writers.proofs.Firsts.{
  first_of_more,
  first_writes,
  none_between,
  none_pass,
  up_to,
}
use Rattle.clog_writers.proofs.Owned.{is_its, known, long, same_list}

-- where nothing was written
pub none_held : (writers : ℕ) (ms : List Mutation) (notes : List EntryNote) → notes ≡ []
    → HoldFirsts writers ms notes
none_held writers ms notes none = subst (HoldFirsts writers ms) (sym none) (record {
  known = λ n among. absurd (nothing_there n among);
  firsts = λ w low. record { done = []; left = share_of writers w ms; parts = refl; are = tt };
})

pub none_in_log : (capacity : ℕ) (notes : List EntryNote) → notes ≡ [] → IsHistory capacity notes
none_in_log capacity notes none = subst (IsHistory capacity) (sym none) (record {
  each = λ n among. absurd (nothing_there n among);
  apart = pairs_none (λ (a b : EntryNote). a.end.0 ≤ b.start.0);
})

no_member : {A : Type 0} (xs : List A) → ((x : A) → Contains xs x → ⊥) → xs ≡ []
no_member [] none = refl
no_member (x ∷ xs) none = absurd (none x (here x xs))

-- where no seat was there to write
pub none_written : {K : Type 0} (size : PathSize) (seats : List (PathSeat K)) (end : ℕ)
    (h : Holding) → IsOutcome size seats end h → seats ≡ [] → h.logged ++ h.kept ≡ []
none_written {K} size seats end h o none =
    let empty : o.core.notes ≡ [] = no_member o.core.notes (λ n among.
    nothing_there n (subst (λ (l : List (PathSeat K)). Contains (all_writes l) n) none
    (Contains-permutation o.core.notes (all_writes seats) n
    (IsPermutation-sym (all_writes seats) o.core.notes o.of_writes) among))) in
    ap (λ (l : List EntryNote). l ++ h.kept)
    (o.logged ∙ ap (filter (is_at_most h.synced)) empty)
    ∙ (o.kept ∙ ap (filter (is_between h.synced o.kept_to)) empty)

-- fewer of them
pub fewer_held : (writers : ℕ) (ms : List Mutation) (xs ys : List EntryNote)
    → HoldFirsts writers ms (xs ++ ys) → HoldFirsts writers ms xs
fewer_held writers ms xs ys held = record {
  known = λ n among. held.known n (Contains-append_left xs ys n among);
  firsts = λ w low.
      let first = held.firsts w low in
      first_of_more w (share_of writers w ms) first.done first.left (filter (is_note_of w) xs)
      first.parts
      (first_writes w first.done (filter (is_note_of w) xs) (filter (is_note_of w) ys)
      (subst (AreWritesOf w first.done) (filter-append (is_note_of w) xs ys) first.are));
}

-- with the first of what is kept
pub shown_held : (writers : ℕ) (ms : List Mutation) (logged kept : List EntryNote) (shown : ℕ)
    → HoldFirsts writers ms (logged ++ kept) → HoldFirsts writers ms (logged ++ take shown kept)
shown_held writers ms logged kept shown held =
    fewer_held writers ms (logged ++ take shown kept) (drop shown kept)
    (subst (HoldFirsts writers ms)
    (ap (λ (l : List EntryNote). logged ++ l) (sym (take-append-drop shown kept))
    ∙ sym (append_assoc logged (take shown kept) (drop shown kept))) held)

module _ {K : Type 0} (id : TableId) (size : PathSize) (flush : Option ℕ)
    (mutations : List Mutation) (fault : Option WriteFault) (seats : List (PathSeat K))
    (all : HaveEnded id size flush mutations fault seats) (end : ℕ) (h : Holding)
    (o : IsOutcome size seats end h) where
  abbrev notes : List EntryNote
  notes = o.core.notes

  -- the key up to which they are lasting or kept
  reached : (top : ℕ) × (h.logged ++ h.kept ≡ filter (is_at_most top) notes)
  reached = elim (cases_lt h.synced o.kept_to) [
    | inl less ↦ (
      o.kept_to,
      ap (λ (l : List EntryNote). l ++ h.kept) o.logged
          ∙ ap (λ (l : List EntryNote). filter (is_at_most h.synced) notes ++ l) o.kept
          ∙ between h.synced o.kept_to (omega (arith, less)) notes o.lawful.apart
          (long id size flush mutations fault seats all end h o),
    )
    | inr not ↦ (
      h.synced,
      ap (λ (l : List EntryNote). l ++ h.kept) o.logged
          ∙ ap (λ (l : List EntryNote). filter (is_at_most h.synced) notes ++ l)
          (o.kept ∙ none_pass (is_between h.synced o.kept_to) notes
          (λ n among. none_between h.synced o.kept_to (omega (arith, not)) n))
          ∙ append-nil (filter (is_at_most h.synced) notes),
    )
  ]

  -- in the order of the log, none over another
  pub in_order : IsHistory size.capacity (h.logged ++ h.kept)
  in_order =
      let pass = is_at_most reached.0 in
      subst (IsHistory size.capacity) (sym reached.1) (record {
        each = λ n among. o.lawful.each n (from_filter pass notes n among).0;
        apart = AllPairs-filter (λ (a b : EntryNote). a.end.0 ≤ b.start.0) pass notes
            o.lawful.apart;
      })

  its_first : (top w : ℕ) → w < size.seats
      → AreFirstWrites w (share_of size.seats w mutations)
      (filter (is_note_of w) (filter (is_at_most top) notes))
  its_first top w low =
      let logs = (is_its id size flush mutations fault seats all end h o w low).logs in
      let part =
      up_to top notes o.lawful.apart (long id size flush mutations fault seats all end h o) in
      let front = filter (is_at_most top) notes in
      let cut = sym (filter-append (is_note_of w) front part.0)
      ∙ ap (filter (is_note_of w)) (sym part.1)
      ∙ same_list id size flush mutations fault seats all end h o w low in
      first_of_more w (share_of size.seats w mutations) logs.done logs.left
      (filter (is_note_of w) front) logs.parts
      (first_writes w logs.done (filter (is_note_of w) front) (filter (is_note_of w) part.0)
      (subst (AreWritesOf w logs.done) (sym cut) logs.are))

  pub hold_firsts : HoldFirsts size.seats mutations (h.logged ++ h.kept)
  hold_firsts = subst (HoldFirsts size.seats mutations) (sym reached.1) (record {
    known = λ n among.
        known id size flush mutations fault seats all end h o n
        (from_filter (is_at_most reached.0) notes n among).0;
    firsts = its_first reached.0;
  })
