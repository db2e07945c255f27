-- What is held of a segment is what the segment holds.
use Rattle.std.proofs.Common.{◌≡◌, ℕ, ◌<◌, List, [], ◌∷◌, map, Contains, refl, sym, ap, subst, ◌∙◌}
use Rattle.std.proofs.Common.{inl, inr, arith}
use Rattle.std.specs.List.{AllByRecursion}
use Rattle.clog_base.specs.declared.position.Position.{Position}
use Rattle.clog_base.proofs.Members.{first_or_further, further, here, nothing_there}
use Rattle.clog_mutation.proofs.Decoding.{one_mutation}
use Rattle.clog_scan.specs.declared.answer.Found.{Found}
use Rattle.clog_mutation.specs.declared.mutation.Mutation.{Mutation}
use Rattle.clog_mutation.specs.Stored.{IsPayload}
use Rattle.clog_scan.specs.Laws.{AreLaidOut}
use Rattle.clog_scan.specs.Segment.{Entry, found_of}
use Rattle.clog_scan.proofs.Order.{laid}
use Rattle.clog_crash.specs.Restore.{AreMutations}
use Rattle.clog_crash.specs.Counts.{LoggedMutation}
use Rattle.clog_folder.specs.Entries.{IsGoodIn, payload_in}
use Rattle.clog_folder.specs.Folder.{Say}
use Rattle.clog_folder.specs.Listing.{Picks}
use Rattle.clog_folder.proofs.PairOrder.{AreOrdered, StandsBefore, nothing_ordered, ordered_first}

-- the position of an offset
abbrev pub at : ℕ → ℕ → Position
at id offset = record { id = id; offset = offset }

-- ---- entries by their ranges

-- the payload in the range of an entry is the entry's
module _ (bytes : List ℕ) (id : ℕ) where
  pub all_mutations : (from : ℕ) (entries : List Entry) (place : ℕ)
      → AreLaidOut bytes id from entries place
      → AllByRecursion (IsGoodIn bytes) (map found_of entries) → AreMutations entries
  all_mutations from [] place laid all = λ entry there. absurd (nothing_there entry there)
  all_mutations from (e ∷ es) place laid all = λ entry there.
      elim (first_or_further e es entry there) [
        | inl same ↦ (
          all.0.0,
          subst (λ (x : Entry). IsPayload x.payload all.0.0) same
              (subst (λ (p : List ℕ). IsPayload p all.0.0) laid.1.payload_is all.0.1),
        )
        | inr more ↦ all_mutations e.end es place laid.2 all.1 entry more
      ]

-- ---- the log of one segment

-- The payloads are these mutations'. Each stands at an entry's end behind an offset, and each entry
-- that has a mutation is among them, in the order of offsets.
pub record IsLogOf (bytes : List ℕ) (id from : ℕ) (entries : List Entry) (kept : List Found)
    (log : List LoggedMutation) : Type 0 where
  pub say : Say (map (λ (f : Found). (at id f.end, payload_in bytes f)) kept) log
  pub behind : AllByRecursion (λ (l : LoggedMutation). (l.at.id ≡ id) × (from < l.at.offset)) log
  pub ordered : AreOrdered log
  pub each : (l : LoggedMutation) → Contains log l
      → (entry : Entry) × Contains entries entry × (at id entry.end ≡ l.at)
      × IsPayload entry.payload l.mutation
  pub every : (entry : Entry) (m : Mutation) → Contains entries entry → IsPayload entry.payload m
      → Contains log (record { at = at id entry.end; mutation = m })

one_said : (payload : List ℕ) (m other : Mutation) → IsPayload payload m → IsPayload payload other
    → m ≡ other
one_said payload m other is is' =
    one_mutation m other is.stored is'.stored (sym is.spelled ∙ is'.spelled)

module _ (bytes : List ℕ) (id : ℕ) where
  abbrev IsLog : ℕ → List Entry → List Found → List LoggedMutation → Type 0
  IsLog from entries kept log = IsLogOf bytes id from entries kept log

  abbrev payload_at : Found → Position × List ℕ
  payload_at f = (at id f.end, payload_in bytes f)

  is_behind : (from until : ℕ) (log : List LoggedMutation) → from < until
      → AllByRecursion (λ (l : LoggedMutation). (l.at.id ≡ id) × (until < l.at.offset)) log
      → AllByRecursion (λ (l : LoggedMutation). (l.at.id ≡ id) × (from < l.at.offset)) log
  is_behind from until [] less all = tt
  is_behind from until (l ∷ log) less all =
      ((all.0.0, omega (arith, less, all.0.1)), is_behind from until log less all.1)

  stands_before : (first : LoggedMutation) (until : ℕ) (log : List LoggedMutation)
      → first.at ≡ at id until
      → AllByRecursion (λ (l : LoggedMutation). (l.at.id ≡ id) × (until < l.at.offset)) log
      → AllByRecursion (StandsBefore first) log
  stands_before first until [] is all = tt
  stands_before first until (l ∷ log) is all = (
    inr (
      ap (λ (p : Position). p.id) is ∙ sym all.0.0,
      subst (λ (n : ℕ). n < l.at.offset) (sym (ap (λ (p : Position). p.offset) is)) all.0.1,
    ),
    stands_before first until log is all.1,
  )

  no_log : (from : ℕ) → IsLog from [] [] []
  no_log from = record {
    say = refl;
    behind = tt;
    ordered = nothing_ordered;
    each = λ l there. absurd (nothing_there l there);
    every = λ entry m there said. absurd (nothing_there entry there);
  }

  -- an entry that counts is in front
  counted_first : (from : ℕ) (e : Entry) (es : List Entry) (rest : List Found) (m : Mutation)
      (log : List LoggedMutation) → from < e.end → payload_in bytes (found_of e) ≡ e.payload
      → IsPayload (payload_in bytes (found_of e)) m → IsLog e.end es rest log
      → IsLog from (e ∷ es) (found_of e ∷ rest) (record { at = at id e.end; mutation = m } ∷ log)
  counted_first from e es rest m log less payload said so_far =
      let first : LoggedMutation = record { at = at id e.end; mutation = m } in
      let says : IsPayload e.payload m =
      subst (λ (p : List ℕ). IsPayload p m) payload said in
      record {
        say = (first, (log, refl, refl, said, so_far.say));
        behind = ((refl, less), is_behind from e.end log less so_far.behind);
        ordered = ordered_first first log (stands_before first e.end log refl so_far.behind)
            so_far.ordered;
        each = λ l there. elim (first_or_further first log l there) [
          | inl same ↦ (
            e,
            here e es,
            ap (λ (x : LoggedMutation). x.at) same,
            subst (λ (x : Mutation). IsPayload e.payload x)
                (ap (λ (x : LoggedMutation). x.mutation) same) says,
          )
          | inr more ↦
              let old = so_far.each l more in
              (old.0, further e es old.0 old.1, old.2, old.3)
        ];
        every = λ entry m' there said'. elim (first_or_further e es entry there) [
          | inl same ↦
              let now : IsPayload e.payload m' =
              subst (λ (x : Entry). IsPayload x.payload m') (sym same) said' in
              let is : first ≡ record { at = at id entry.end; mutation = m' } =
              λ i. record {
                at = at id ((same i).end);
                mutation = one_said e.payload m m' says now i;
              } in
              subst (Contains (first ∷ log)) is (here first log)
          | inr more ↦ further first log (record { at = at id entry.end; mutation = m' })
              (so_far.every entry m' more said')
        ];
      }

  -- an entry whose payload is none is left out
  left_out : (from : ℕ) (e : Entry) (es : List Entry) (kept : List Found)
      (log : List LoggedMutation) → from < e.end → payload_in bytes (found_of e) ≡ e.payload
      → (¬ IsGoodIn bytes (found_of e)) → IsLog e.end es kept log → IsLog from (e ∷ es) kept log
  left_out from e es kept log less payload bad so_far = record {
    say = so_far.say;
    behind = is_behind from e.end log less so_far.behind;
    ordered = so_far.ordered;
    each = λ l there.
        let old = so_far.each l there in (old.0, further e es old.0 old.1, old.2, old.3);
    every = λ entry m there said. elim (first_or_further e es entry there) [
      | inl same ↦
          let now : IsPayload e.payload m =
          subst (λ (x : Entry). IsPayload x.payload m) (sym same) said in
          absurd (bad (m, subst (λ (p : List ℕ). IsPayload p m) (sym payload) now))
      | inr more ↦ so_far.every entry m more said
    ];
  }

  pub log_of : (from : ℕ) (entries : List Entry) (kept : List Found) (place : ℕ)
      → AreLaidOut bytes id from entries place
      → Picks (IsGoodIn bytes) (map found_of entries) kept
      → (log : List LoggedMutation) × IsLog from entries kept log
  log_of from [] kept place laid none =
      ([], subst (λ (k : List Found). IsLog from [] k []) (sym none) (no_log from))
  log_of from (e ∷ es) kept place laid (inl good) =
      let less : from < e.end = omega (arith, laid.0, laid.1.range) in
      let rest = log_of e.end es good.1.0 place laid.2 good.1.2 in
      let log = record { at = at id e.end; mutation = good.0.0 } ∷ rest.0 in (
        log,
        subst (λ (k : List Found). IsLog from (e ∷ es) k log) (sym good.1.1)
            (counted_first from e es good.1.0 good.0.0 rest.0 less laid.1.payload_is good.0.1
            rest.1),
      )
  log_of from (e ∷ es) kept place laid (inr bad) =
      let less : from < e.end = omega (arith, laid.0, laid.1.range) in
      let rest = log_of e.end es kept place laid.2 bad.1 in
      (rest.0, left_out from e es kept rest.0 less laid.1.payload_is bad.0 rest.1)
