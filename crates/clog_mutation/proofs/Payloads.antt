-- A whole payload and its grammar: what is read is one, what is one is read, and the same of
-- refusals.
use Rattle.std.proofs.Common.{◌≡◌, ℕ, zero, suc, ◌<◌, Bool, true, false, cond, eqb, List, [], ◌∷◌}
use Rattle.std.proofs.Common.{◌++◌, length, Result, Ok, Err, refl, sym, ap, subst, ◌∙◌}
use Rattle.std.proofs.Common.{append_assoc, arith, inl, inr}
use Rattle.std.specs.Prelude.{pos}
use Rattle.std.specs.List.{flat_map, AllByRecursion}
use Rattle.std.specs.Int.{w16, to_be_bytes}
use Rattle.std.proofs.lemmas.Bool.{ltb-true, lt-ltb, eqb-true, eqb-false}
use Rattle.std.proofs.lemmas.List.{append-nil, nil_from_length}
use Rattle.std.proofs.lemmas.List.Concat.{flat_map-cons}
use Rattle.clog_spec.specs.Crc.{IsBytes}
use Rattle.clog_base.specs.declared.cell.Kind.TheVariants.{Deletion}
use Rattle.clog_base.specs.declared.fault.PayloadFault.{PayloadFault}
use Rattle.clog_base.specs.declared.fault.PayloadFault.TheVariants.{Trailing}
use Rattle.clog_fields.specs.Refusals.{place, Refusing, Either, IsRefusedBehind}
use Rattle.clog_fields.specs.Refusals.{one_byte, NameIsRefused}
use Rattle.clog_fields.specs.Reading.{◌>>=◌, mapped, both_of, name_at, ts_at, tagged_at}
use Rattle.clog_fields.proofs.Readers.{IsReader, refusing, mapped_reader, both_reader}
use Rattle.clog_fields.proofs.Grammar.{name_reader, tagged_bytes}
use Rattle.clog_fields.proofs.Columns.{Column, spell_column, good_column, refuses_column}
use Rattle.clog_fields.proofs.Columns.{column_reader}
use Rattle.clog_mutation.specs.declared.mutation.Update.{Update}
use Rattle.clog_mutation.specs.declared.mutation.Mutation.{Mutation}
use Rattle.clog_mutation.specs.Payload.{short_text, timestamp_bytes, update_bytes, payload_of}
use Rattle.clog_mutation.specs.Stored.{IsNameText, IsStoredUpdate, IsStored, IsPayload}
use Rattle.clog_mutation.specs.Refusals.{IsTable, IsCount, TableIsRefused, CountIsRefused}
use Rattle.clog_mutation.specs.Refusals.{UpdateIsRefused, UpdatesAreRefused, MutationIsRefused}
use Rattle.clog_mutation.specs.Refusals.{IsTrailing, IsRefused}
use Rattle.clog_mutation.specs.Reading.{in_front, table_at, count_at, update_of, update_at}
use Rattle.clog_mutation.specs.Reading.{updates_at, mutation_of, mutation_at, ended, all_of}
use Rattle.clog_mutation.proofs.Grammar.{table_reader, count_reader}

-- ---- an update
abbrev Whole : Type 0
Whole = ℕ × Column

abbrev spell_table : Whole → List ℕ
spell_table x = one_byte x.0 ++ spell_column x.1

abbrev good_table : Whole → Type 0
good_table x = IsTable x.0 × good_column x.1

from_table : (end : ℕ)
    → IsReader (both_of (table_at end)
    (λ table. both_of (name_at end) (λ column. both_of (ts_at end) (λ ts. tagged_at end))))
    spell_table good_table (UpdateIsRefused end)
from_table end =
    both_reader (table_at end) one_byte IsTable (TableIsRefused end)
    (λ table. both_of (name_at end) (λ column. both_of (ts_at end) (λ ts. tagged_at end)))
    (λ table. spell_column) (λ table. good_column) (λ table. refuses_column end)
    (table_reader end) (λ table h. column_reader end)

fields_of : Update → Whole
fields_of u = (u.table.0, (u.column, (u.cell.ts, (u.cell.kind, u.cell.value))))

regroup : (a b c d : List ℕ) → ((a ++ b) ++ c) ++ d ≡ a ++ (b ++ (c ++ d))
regroup a b c d = simp append_assoc

update_spelled : (x : Whole) → good_table x → update_bytes (update_of x) ≡ spell_table x
update_spelled x h =
    regroup (one_byte x.0) (short_text x.1.0) (timestamp_bytes x.1.1.0) (tagged_bytes x.1.1.1)

update_good : (x : Whole) → good_table x → IsStoredUpdate (update_of x)
update_good x h = record {
  table = ltb-true _ _ h.0.1;
  column = h.1.0;
  ts = h.1.1.0;
  value = h.1.1.1;
}

good_update : (u : Update) → IsStoredUpdate u → good_table (fields_of u)
unfolding fields_of
good_update u h = ((omega (arith, h.table), lt-ltb _ _ h.table), (h.column, (h.ts, h.value)))

pub update_reader : (end : ℕ)
    → IsReader (update_at end) update_bytes IsStoredUpdate (UpdateIsRefused end)
unfolding update_at fields_of
update_reader end =
    mapped_reader
    (both_of (table_at end)
    (λ table. both_of (name_at end) (λ column. both_of (ts_at end) (λ ts. tagged_at end))))
    spell_table good_table (UpdateIsRefused end) update_of fields_of update_bytes IsStoredUpdate
    (from_table end) update_spelled update_good good_update (λ u h. refl)

-- ---- updates
abbrev all_bytes : List Update → List ℕ
all_bytes us = flat_map update_bytes us

abbrev AreUpdates : ℕ → List Update → Type 0
AreUpdates n us = (length us ≡ n) × AllByRecursion IsStoredUpdate us

none_reader : (end : ℕ)
    → IsReader (updates_at end zero) all_bytes (AreUpdates zero) (UpdatesAreRefused end zero)
unfolding updates_at
none_reader end = record {
  takes = λ bytes rest us fits e.
      let same : ◌≡◌ {A = List Update × List ℕ} ([], bytes) (us, rest) = cc in
      subst (λ (w : List Update × List ℕ). (bytes ≡ all_bytes w.0 ++ w.1)
      × AreUpdates zero w.0) same (refl, (refl, tt));
  again = λ rest us h. none_again rest us h.0;
  fails = λ bytes fault fits e. absurd cc;
  refused = λ bytes fault h. absurd (let more = h.more in omega arith);
} where
  none_again : (rest : List ℕ) (us : List Update) → length us ≡ 0
      → ◌≡◌ {A = Result (List Update × List ℕ) PayloadFault} (Ok ([], all_bytes us ++ rest))
      (Ok (us, rest))
  none_again rest [] e = refl
  none_again rest (u ∷ us) e = absurd (omega arith)

no_update : Update
no_update = record {
  table = record { 0 = 0 };
  column = [];
  cell = record { ts = pos 0; kind = Deletion; value = [] };
}

parted : List Update → Update × List Update
parted [] = (no_update, [])
parted (u ∷ us) = (u, us)

abbrev refuses_more : ℕ → ℕ → Refusing
refuses_more end n =
    Either (UpdateIsRefused end)
    (IsRefusedBehind update_bytes IsStoredUpdate (λ u. UpdatesAreRefused end n))

more_refused : (end n : ℕ) (bytes : List ℕ) (fault : PayloadFault) → refuses_more end n bytes fault
    → UpdatesAreRefused end (suc n) bytes fault
more_refused end n bytes fault (inl h) =
    record { read = []; rest = bytes; more = omega arith; are_good = tt; parts = refl; refused = h }
more_refused end n bytes fault (inr h) = record {
  read = h.read ∷ h.refused.read;
  rest = h.refused.rest;
  more = (let m = h.refused.more in omega arith);
  are_good = (h.is_good, h.refused.are_good);
  parts = h.parts ∙ ap (λ (l : List ℕ). update_bytes h.read ++ l) h.refused.parts
      ∙ sym (append_assoc (update_bytes h.read) (all_bytes h.refused.read) h.refused.rest)
      ∙ ap (λ (l : List ℕ). l ++ h.refused.rest)
      (sym (flat_map-cons update_bytes h.read h.refused.read));
  refused = h.refused.refused;
}

less_refused : (end n : ℕ) (bytes rest : List ℕ) (fault : PayloadFault) (us : List Update)
    → length us < suc n → AllByRecursion IsStoredUpdate us
    → bytes ≡ all_bytes us ++ rest → UpdateIsRefused end rest fault → refuses_more end n bytes fault
less_refused end n bytes rest fault [] more good parts h =
    inl (subst (λ (l : List ℕ). UpdateIsRefused end l fault) (sym parts) h)
less_refused end n bytes rest fault (u ∷ us) more good parts h = inr (record {
  read = u;
  rest = all_bytes us ++ rest;
  is_good = good.0;
  parts = parts ∙ ap (λ (l : List ℕ). l ++ rest) (flat_map-cons update_bytes u us)
      ∙ append_assoc (update_bytes u) (all_bytes us) rest;
  refused = record {
    read = us;
    rest = rest;
    more = omega arith;
    are_good = good.1;
    parts = refl;
    refused = h;
  };
})

parted_good : (n : ℕ) (us : List Update) → AreUpdates (suc n) us
    → IsStoredUpdate (parted us).0 × AreUpdates n (parted us).1
unfolding parted
parted_good n [] h = absurd (let e = h.0 in omega arith)
parted_good n (u ∷ us) h = (h.1.0, ((let e = h.0 in omega arith), h.1.1))

parted_again : (n : ℕ) (us : List Update) → AreUpdates (suc n) us → in_front (parted us) ≡ us
unfolding parted
parted_again n [] h = absurd (let e = h.0 in omega arith)
parted_again n (u ∷ us) h = refl

pub updates_reader : (end n : ℕ)
    → IsReader (updates_at end n) all_bytes (AreUpdates n) (UpdatesAreRefused end n)
unfolding updates_at
updates_reader end zero = none_reader end
updates_reader end (suc n) =
    refusing (mapped in_front (both_of (update_at end) (λ u. updates_at end n))) all_bytes
    (AreUpdates (suc n))
    (refuses_more end n) (UpdatesAreRefused end (suc n))
    (mapped_reader (both_of (update_at end) (λ u. updates_at end n))
    (λ x. update_bytes x.0 ++ all_bytes x.1)
    (λ x. IsStoredUpdate x.0 × AreUpdates n x.1) (refuses_more end n)
    in_front parted all_bytes (AreUpdates (suc n))
    (both_reader (update_at end) update_bytes IsStoredUpdate (UpdateIsRefused end)
    (λ u. updates_at end n) (λ u. all_bytes) (λ u. AreUpdates n) (λ u. UpdatesAreRefused end n)
    (update_reader end) (λ u h. updates_reader end n))
    (λ x h. flat_map-cons update_bytes x.0 x.1) (λ x h. (ap suc h.1.0, (h.0, h.1.1)))
    (parted_good n) (parted_again n))
    (more_refused end n)
    (λ bytes fault h. less_refused end n bytes h.rest fault h.read h.more h.are_good h.parts
    h.refused)

-- ---- a mutation
abbrev Counted : Type 0
Counted = ℕ × List Update

abbrev spell_counted : Counted → List ℕ
spell_counted x = to_be_bytes w16 x.0 ++ all_bytes x.1

abbrev good_counted : Counted → Type 0
good_counted x = IsCount x.0 × AreUpdates x.0 x.1

abbrev refuses_counted : ℕ → Refusing
refuses_counted end =
    Either (CountIsRefused end) (IsRefusedBehind (to_be_bytes w16) IsCount (UpdatesAreRefused end))

from_count : (end : ℕ)
    → IsReader (both_of (count_at end) (updates_at end)) spell_counted good_counted
    (refuses_counted end)
from_count end =
    both_reader (count_at end) (to_be_bytes w16) IsCount (CountIsRefused end)
    (updates_at end) (λ n. all_bytes) AreUpdates (UpdatesAreRefused end) (count_reader end)
    (λ n h. updates_reader end n)

abbrev Keyed : Type 0
Keyed = List ℕ × Counted

abbrev spell_keyed : Keyed → List ℕ
spell_keyed x = short_text x.0 ++ spell_counted x.1

abbrev good_keyed : Keyed → Type 0
good_keyed x = IsNameText x.0 × good_counted x.1

from_key : (end : ℕ)
    → IsReader (both_of (name_at end)
    (λ key. both_of (count_at end) (updates_at end))) spell_keyed good_keyed
    (MutationIsRefused end)
from_key end =
    both_reader (name_at end) short_text IsNameText (NameIsRefused end)
    (λ key. both_of (count_at end) (updates_at end)) (λ key. spell_counted) (λ key. good_counted)
    (λ key. refuses_counted end)
    (name_reader end) (λ key h. from_count end)

keyed : Mutation → Keyed
keyed m = (m.key, (length m.updates, m.updates))

with_count : (key updates : List ℕ) (m n : ℕ) → m ≡ n
    → (short_text key ++ to_be_bytes w16 m) ++ updates
    ≡ short_text key ++ (to_be_bytes w16 n ++ updates)
with_count key updates m n e =
    ap (λ k. (short_text key ++ to_be_bytes w16 k) ++ updates) e
    ∙ append_assoc (short_text key) (to_be_bytes w16 n) updates

mutation_spelled : (x : Keyed) → good_keyed x → payload_of (mutation_of x) ≡ spell_keyed x
mutation_spelled x h = with_count x.0 (all_bytes x.1.1) (length x.1.1) x.1.0 h.1.1.0

mutation_good : (x : Keyed) → good_keyed x → IsStored (mutation_of x)
mutation_good x h =
    let above : 0 < x.1.0 = ltb-true _ _ h.1.0.1 in
    let below = h.1.0.0 in
    let len = h.1.1.0 in
    record { key = h.0; some = omega arith; few = omega arith; updates = h.1.1.1 }

good_mutation : (m : Mutation) → IsStored m → good_keyed (keyed m)
unfolding keyed
good_mutation m h = (h.key, ((omega (arith, h.few), lt-ltb _ _ h.some), (refl, h.updates)))

pub mutation_reader : (end : ℕ)
    → IsReader (mutation_at end) payload_of IsStored (MutationIsRefused end)
unfolding mutation_at keyed
mutation_reader end =
    mapped_reader (both_of (name_at end) (λ key. both_of (count_at end) (updates_at end)))
    spell_keyed good_keyed (MutationIsRefused end) mutation_of keyed payload_of IsStored
    (from_key end) mutation_spelled mutation_good good_mutation (λ m h. refl)

-- ---- all of the bytes
abbrev Read : Type 0
Read = Result (Mutation × List ℕ) PayloadFault

ended_takes : (bytes : List ℕ) (x : Mutation × List ℕ) (m : Mutation)
    → (bytes ≡ payload_of x.0 ++ x.1) × IsStored x.0
    → (b : Bool) → eqb (length x.1) 0 ≡ b
    → ◌≡◌ {A = Result Mutation PayloadFault}
    (cond b (Ok x.0) (Err (Trailing (place (length bytes) x.1)))) (Ok m) → IsPayload bytes m
ended_takes bytes x m h false is e = absurd cc
ended_takes bytes x m h true is e =
    let nothing : x.1 ≡ [] = nil_from_length x.1 (eqb-true _ _ is) in
    let same : x.0 ≡ m = cc in
    let whole : bytes ≡ payload_of x.0 = h.0 ∙ ap (λ (r : List ℕ). payload_of x.0 ++ r) nothing
    ∙ append-nil (payload_of x.0) in
    subst (IsPayload bytes) same (record { stored = h.1; spelled = whole })

all_takes_from : (bytes : List ℕ) (m : Mutation) → IsBytes bytes → (r : Read)
    → mutation_at (length bytes) bytes ≡ r → (r >>= ended (length bytes)) ≡ Ok m → IsPayload bytes m
all_takes_from bytes m fits (Err f) is e = absurd cc
all_takes_from bytes m fits (Ok x) is e =
    ended_takes bytes x m ((mutation_reader (length bytes)).takes bytes x.1 x.0 fits is)
    (eqb (length x.1) 0) refl e

pub all_takes : (bytes : List ℕ) (m : Mutation) → IsBytes bytes → all_of bytes ≡ Ok m
    → IsPayload bytes m
unfolding all_of
all_takes bytes m fits e = all_takes_from bytes m fits (mutation_at (length bytes) bytes) refl e

pub all_again : (bytes : List ℕ) (m : Mutation) → IsPayload bytes m → all_of bytes ≡ Ok m
unfolding all_of
all_again bytes m h =
    ap (λ (l : List ℕ). mutation_at (length bytes) l >>= ended (length bytes)) (h.spelled
    ∙ sym (append-nil (payload_of m)))
    ∙ ap (λ (r : Read). r >>= ended (length bytes))
    ((mutation_reader (length bytes)).again [] m h.stored)

ended_fails : (bytes : List ℕ) (x : Mutation × List ℕ) (f : PayloadFault)
    → (bytes ≡ payload_of x.0 ++ x.1) × IsStored x.0
    → (b : Bool) → eqb (length x.1) 0 ≡ b
    → ◌≡◌ {A = Result Mutation PayloadFault}
    (cond b (Ok x.0) (Err (Trailing (place (length bytes) x.1)))) (Err f)
    → IsTrailing (length bytes) bytes f
ended_fails bytes x f h true is e = absurd cc
ended_fails bytes x f h false is e = record {
  read = x.0;
  rest = x.1;
  is_good = h.1;
  parts = h.0;
  some = (let other = eqb-false _ _ is in omega arith);
  fault_is = cc;
}

all_fails_from : (bytes : List ℕ) (f : PayloadFault) → IsBytes bytes → (r : Read)
    → mutation_at (length bytes) bytes ≡ r → (r >>= ended (length bytes)) ≡ Err f
    → IsRefused bytes f
all_fails_from bytes f fits (Err g) is e = let same : g ≡ f = cc in
    inl ((mutation_reader (length bytes)).fails bytes f fits (is ∙ ap Err same))
all_fails_from bytes f fits (Ok x) is e =
    inr (ended_fails bytes x f ((mutation_reader (length bytes)).takes bytes x.1 x.0 fits is)
    (eqb (length x.1) 0) refl e)

pub all_fails : (bytes : List ℕ) (f : PayloadFault) → IsBytes bytes → all_of bytes ≡ Err f
    → IsRefused bytes f
unfolding all_of
all_fails bytes f fits e = all_fails_from bytes f fits (mutation_at (length bytes) bytes) refl e

not_none : (n : ℕ) (b : Bool) → eqb n 0 ≡ b → 0 < n → b ≡ false
not_none n true e h = absurd (let zero_is = eqb-true _ _ e in omega arith)
not_none n false e h = refl

pub all_refused : (bytes : List ℕ) (f : PayloadFault) → IsRefused bytes f → all_of bytes ≡ Err f
unfolding all_of
all_refused bytes f (inl h) =
    ap (λ (r : Read). r >>= ended (length bytes))
    ((mutation_reader (length bytes)).refused bytes f h)
all_refused bytes f (inr h) =
    let more : eqb (length h.rest) 0 ≡ false =
    not_none (length h.rest) (eqb (length h.rest) 0) refl h.some in
    ap (λ (l : List ℕ). mutation_at (length bytes) l >>= ended (length bytes)) h.parts
    ∙ ap (λ (r : Read). r >>= ended (length bytes))
    ((mutation_reader (length bytes)).again h.rest h.read h.is_good)
    ∙ ap (λ b. cond b (Ok h.read) (Err (Trailing (place (length bytes) h.rest)))) more
    ∙ ap Err (sym h.fault_is)
