-- What tokens in the usual order say.
use Rattle.std.proofs.Common.{◌≡◌, ℕ, zero, suc, ◌+◌, ◌<◌, ◌≤◌, ℤ, List, [], ◌∷◌, ◌++◌, length}
use Rattle.std.proofs.Common.{codes, true, Option, Some, None, Ok, option_and_then}
use Rattle.std.proofs.Common.{refl, ap, ◌∙◌, arith}
use Rattle.std.proofs.lemmas.Bool.Decides.{nat_tests}
use Rattle.json.specs.Token.{Token, begin_object, end_object, end_array}
use Rattle.json.specs.Lex.{tokens}
use Rattle.json.specs.Json as json
use Rattle.json.specs.Json.{items, members, value}
use Rattle.serde_json.specs.Data as datum
use Rattle.serde_json.specs.Data.{Data, Num, unsigned}
use Rattle.serde_json.specs.Find.{as_i64}
use Rattle.serde_json.specs.Read.{number_of, of_json, of_items, read}
use Rattle.clog_spec.specs.Sizes.{longest_name, most_tables, most_updates}
use Rattle.clog_base.specs.declared.cell.Table.{Table}
use Rattle.clog_mutation.specs.declared.mutation.Update.{Update}
use Rattle.clog_text.specs.declared.refusal.Part.{Part}
use Rattle.clog_text.specs.declared.refusal.Part.TheVariants.{Key, Column}
use Rattle.clog_text.specs.LineMutation.{name_of, table_of, ts_of}
use Rattle.clog_text.specs.LineMutation.{update_of, updates_of, items_len, counted, list_of}
use Rattle.clog_text.specs.LineMutation.{mutation_of, is_text, value_of, line_mutation}
use Rattle.clog_text.specs.UsualLines.{Spelled, spelled_value, update_tokens, updates_tokens}
use Rattle.clog_text.specs.UsualLines.{line_tokens, value_data, Says, AllSay}

-- ---- from tokens to JSON

abbrev value_json : Option (List ℕ) → json.Json
value_json None = json.null
value_json (Some text) = json.string text

abbrev update_json : Spelled → json.Json
update_json u =
    json.object (json.member (codes "table") (json.number u.table)
    (json.member (codes "column") (json.string u.column)
    (json.member (codes "ts") (json.number u.ts)
    (json.member (codes "value") (value_json u.value) json.no_members))))

abbrev items_json : List Spelled → json.Items
items_json [] = json.no_items
items_json (u ∷ us) = json.item (update_json u) (items_json us)

abbrev line_json : List ℕ → List Spelled → json.Json
line_json key us =
    json.object (json.member (codes "key") (json.string key)
    (json.member (codes "updates") (json.array (items_json us)) json.no_members))

value_read : (depth : ℕ) (v : Option (List ℕ)) (rest : List Token)
    → value (suc depth) (spelled_value v ∷ rest) ≡ Some (value_json v, rest)
unfolding value
value_read depth None rest = refl
value_read depth (Some text) rest = refl

update_read : (depth : ℕ) (u : Spelled) (rest : List Token)
    → value (suc (suc depth)) (begin_object ∷ update_tokens u rest) ≡ Some (update_json u, rest)
unfolding value members
update_read depth u rest = rw (value_read depth u.value (end_object ∷ rest)) refl

items_read : (depth n : ℕ) (us : List Spelled) (rest : List Token) → length us < n
    → items (value (suc (suc depth))) n (updates_tokens us (end_array ∷ rest))
    ≡ Some (items_json us, rest)
unfolding items
items_read depth zero us rest h = absurd (omega arith)
items_read depth (suc n) [] rest h = refl
items_read depth (suc n) (u ∷ us) rest h =
    rw (
      update_read depth u (updates_tokens us (end_array ∷ rest)),
      items_read depth n us rest (omega arith),
    ) refl

enough : (us : List Spelled) (rest : List Token)
    → length us + length rest ≤ length (updates_tokens us rest)
enough [] rest = omega arith
enough (u ∷ us) rest = omega (arith, enough us rest)

line_read : (depth : ℕ) (key : List ℕ) (us : List Spelled)
    → value (suc (suc (suc (suc depth)))) (line_tokens key us) ≡ Some (line_json key us, [])
unfolding value members
line_read depth key us =
    let all = enough us (end_array ∷ end_object ∷ []) in
    rw (items_read depth (length (updates_tokens us (end_array ∷ end_object ∷ []))) us
    (end_object ∷ []) (omega (arith, all))) refl

-- ---- from JSON to data

abbrev update_data : Num → List ℕ → Num → Option (List ℕ) → Data
update_data table column ts v =
    datum.object (datum.member (codes "column") (datum.string column)
    (datum.member (codes "table") (datum.number table)
    (datum.member (codes "ts") (datum.number ts)
    (datum.member (codes "value") (value_data v) datum.no_members))))

of_value : (v : Option (List ℕ)) → of_json (value_json v) ≡ Some (value_data v)
of_value None = refl
of_value (Some text) = refl

of_update : (u : Spelled) (table ts : Num) → number_of u.table ≡ Some table
    → number_of u.ts ≡ Some ts
    → of_json (update_json u) ≡ Some (update_data table u.column ts u.value)
of_update u table ts is_table is_ts = rw (is_table, is_ts, of_value u.value) refl

-- ---- from data to a mutation

name_said : (part : Part) (text : List ℕ) → 1 ≤ length text → length text ≤ longest_name
    → name_of part (datum.string text) ≡ Ok text
name_said part text some short = grind (arith, nat_tests)

table_said : (t : Table) → t.0 < most_tables → table_of (datum.number (unsigned t.0)) ≡ Ok t
table_said t known = grind (arith, nat_tests)

ts_said : (n : Num) (ts : ℤ) → as_i64 n ≡ Some ts → ts_of (datum.number n) ≡ Ok ts
ts_said n ts is = rw is refl

abbrev unwrap_num : Num → Option Num → Num
unwrap_num other None = other
unwrap_num other (Some n) = n

as_number_of : (o : Option Num) (ts : ℤ) → option_and_then as_i64 o ≡ Some ts
    → (n : Num) × (o ≡ Some n) × (as_i64 n ≡ Some ts)
as_number_of None ts is = absurd (cc)
as_number_of (Some n) ts is = (n, refl, is)

update_said : (u : Spelled) (x : Update) → Says u x
    → (d : Data) × (of_json (update_json u) ≡ Some d) × (update_of d ≡ Ok x)
unfolding update_of
update_said u x says =
    let ts = as_number_of (number_of u.ts) x.cell.ts says.ts in (
      update_data (unsigned x.table.0) u.column ts.0 u.value,
      of_update u (unsigned x.table.0) ts.0 says.table ts.1,
      rw (
        table_said x.table says.known,
        says.column,
        name_said Column x.column says.some says.short,
        ts_said ts.0 x.cell.ts ts.2,
        says.cell,
      ) refl,
    )

all_said : (us : List Spelled) (xs : List Update) → AllSay us xs
    → (ds : datum.Items) × (of_items (items_json us) ≡ Some ds) × (updates_of ds ≡ Ok xs)
    × (items_len ds ≡ length xs)
unfolding updates_of
all_said [] [] all = (datum.no_items, refl, refl, refl)
all_said [] (x ∷ xs) all = absurd all
all_said (u ∷ us) [] all = absurd all
all_said (u ∷ us) (x ∷ xs) all =
    let one = update_said u x all.0 in
    let more = all_said us xs all.1 in (
      datum.item one.0 more.0,
      rw (one.1, more.1) refl,
      rw (one.2, more.2) refl,
      omega (arith, more.3),
    )

counted_said : (ds : datum.Items) (xs : List Update) → updates_of ds ≡ Ok xs
    → items_len ds ≡ length xs → 1 ≤ length xs → length xs ≤ most_updates → counted ds ≡ Ok xs
counted_said ds xs is count some few = grind (arith, nat_tests)

abbrev line_data : List ℕ → datum.Items → Data
line_data key ds =
    datum.object (datum.member (codes "key") (datum.string key)
    (datum.member (codes "updates") (datum.array ds) datum.no_members))

pub line_said : (bytes key : List ℕ) (us : List Spelled) (xs : List Update)
    → is_text bytes ≡ true → tokens bytes ≡ line_tokens key us → AllSay us xs
    → 1 ≤ length key → length key ≤ longest_name → 1 ≤ length xs → length xs ≤ most_updates
    → line_mutation bytes ≡ Ok (record { key = key; updates = xs })
unfolding line_mutation value_of mutation_of list_of
line_said bytes key us xs text is all some short filled few =
    let said = all_said us xs all in
    let json_is : value 127 (tokens bytes) ≡ Some (line_json key us, []) =
    ap (value 127) is ∙ line_read 123 key us in
    let data_is : read bytes ≡ Some (line_data key said.0) = rw (json_is, said.1) refl in
    rw (
      text,
      data_is,
      name_said Key key some short,
      counted_said said.0 xs said.2 said.3 filled few,
    ) refl

-- ---- one more update

pub tokens_more : (us : List Spelled) (u : Spelled) (rest : List Token)
    → updates_tokens (us ++ u ∷ []) rest
    ≡ updates_tokens us (begin_object ∷ update_tokens u rest)
tokens_more [] u rest = refl
tokens_more (v ∷ us) u rest =
    ap (λ (l : List Token). begin_object ∷ update_tokens v l) (tokens_more us u rest)

pub say_more : (us : List Spelled) (xs : List Update) (u : Spelled) (x : Update)
    → AllSay us xs → Says u x → AllSay (us ++ u ∷ []) (xs ++ x ∷ [])
say_more [] [] u x all more = (more, tt)
say_more [] (y ∷ xs) u x all more = absurd all
say_more (v ∷ us) [] u x all more = absurd all
say_more (v ∷ us) (y ∷ xs) u x all more = (all.0, say_more us xs u x all.1 more)

-- a token, and what stands behind it
pub follows : {A : Type 0} {x : A} {old new rest : List A} → old ≡ x ∷ new → new ≡ rest
    → old ≡ x ∷ rest
follows {x = x} e f = e ∙ ap (λ l. x ∷ l) f
