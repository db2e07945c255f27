-- Lines that one writer logs: a history of theirs is the first of all lines.
use Rattle.std.proofs.Common.{
  ◌≡◌,
  ℕ,
  ◌+◌,
  ◌≤◌,
  List,
  [],
  ◌∷◌,
  ◌++◌,
  length,
  map,
  take,
  drop,
  zero,
  suc,
  refl,
  sym,
  ◌∙◌,
  ap,
  subst,
  arith,
  append-nil,
  append_assoc,
  take-append-drop,
  inl,
  inr,
}
use Rattle.std.specs.Prelude.{Contains}
use Rattle.std.specs.List.{filter, flat_map}
use Rattle.std.proofs.lemmas.Bool.Decides.{nat_tests}
use Rattle.std.proofs.lemmas.List.{
  length-append,
  length-map,
  map-append,
  take-append-le,
  take-take,
  take_all,
}
use Rattle.std.proofs.lemmas.List.Elements.{Contains-append_left, filter-append}
use Rattle.clog_base.proofs.Members.{first_or_further, nothing_there}
use Rattle.clog_disk.specs.Files.{Files, bytes_at}
use Rattle.clog_mutation.specs.declared.mutation.Mutation.{Mutation}
use Rattle.clog_mutation.specs.Payload.{cells_of, payload_of}
use Rattle.clog_crash.specs.Covering.{Either, SameMerge}
use Rattle.clog_crash.specs.Log.{Write, entries_in}
use Rattle.clog_crash.specs.Readings.{Reading, RestoresIn}
use Rattle.clog_crash.specs.Runs.{Placed, placed_of}
use Rattle.clog_applied.specs.History.{
  Line,
  LoggedLine,
  is_by,
  is_for,
  line_of,
  numbered,
  share_of,
  written_by,
}
use Rattle.clog_closing.proofs.Segments.{placed_line}
use Rattle.clog_closing.specs.Written.{AreFirstLines, HoldsFirsts, RestoresLines, SaysFirst}
use Rattle.clog_closing.proofs.Showing.{of_log, payload_at, placed_payload}
use Rattle.clog_writers.specs.Left.{RestoresShares, SaysShares, said_by}
use Rattle.clog_writers.proofs.Firsts.{all_pass}

-- ---- the first of a history

pub first_of_each : (writers n : ℕ) (ms : List Mutation) (history : List LoggedLine)
    → HoldsFirsts writers ms history → HoldsFirsts writers ms (take n history)
first_of_each writers n ms history held =
    let whole = take-append-drop n history in
    record {
      known = λ w among. held.known w (subst (λ (l : List LoggedLine). Contains l w) whole
          (Contains-append_left (take n history) (drop n history) w among));
      firsts = λ writer low.
          let first = held.firsts writer low in
          let more = written_by writer (drop n history) in
          let cut : written_by writer history ≡ written_by writer (take n history) ++ more =
          ap (written_by writer) (sym whole)
          ∙ ap (map line_of) (filter-append (is_by writer) (take n history) (drop n history))
          ∙ map-append line_of (filter (is_by writer) (take n history))
          (filter (is_by writer) (drop n history)) in
          record {
            rest = more ++ first.rest;
            parts = first.parts ∙ ap (λ (l : List Line). l ++ first.rest) cut
                ∙ append_assoc (written_by writer (take n history)) more first.rest;
          };
    }

-- ---- what one writer has logged

only_share : (n : ℕ) (ms : List Mutation) → filter (is_for 1 0) (numbered n ms) ≡ numbered n ms
only_share n ms =
    all_pass (is_for 1 0) (numbered n ms) (λ l among. grind (arith, nat_tests))

numbers_said : (n : ℕ) (ms : List Mutation) → map (λ (l : Line). l.mutation) (numbered n ms) ≡ ms
numbers_said n [] = refl
numbers_said n (m ∷ ms) = ap (λ (l : List Mutation). m ∷ l) (numbers_said (n + 1) ms)

lines_said : (history : List LoggedLine)
    → map (λ (l : Line). l.mutation) (map line_of history) ≡ said_by history
lines_said [] = refl
lines_said (w ∷ ws) = ap (λ (l : List Mutation). w.mutation ∷ l) (lines_said ws)

lines_payload : (history : List LoggedLine)
    → map placed_payload (map placed_line history) ≡ map payload_of (said_by history)
lines_payload [] = refl
lines_payload (w ∷ ws) = ap (λ (l : List (List ℕ)). payload_of w.mutation ∷ l) (lines_payload ws)

module _ (ms : List Mutation) (history : List LoggedLine) (held : HoldsFirsts 1 ms history) where
  all_his : filter (is_by 0) history ≡ history
  all_his = all_pass (is_by 0) history (λ w among.
      let low = held.known w among in grind (arith, nat_tests, low))

  -- what is left
  rest : List Mutation
  rest = map (λ (l : Line). l.mutation) (held.firsts 0 (omega arith)).rest

  parts : ms ≡ said_by history ++ rest
  unfolding rest
  parts =
      let first = held.firsts 0 (omega arith) in
      let said = λ (l : Line). l.mutation in
      sym (numbers_said 1 ms) ∙ ap (map said) (sym (only_share 1 ms) ∙ first.parts
      ∙ ap (λ (l : List LoggedLine). map line_of l ++ first.rest) all_his)
      ∙ map-append said (map line_of history) first.rest
      ∙ ap (λ (l : List Mutation). l ++ map said first.rest) (lines_said history)

  pub the_first : said_by history ≡ take (length history) ms
  the_first =
      let long = length-map history (λ (w : LoggedLine). w.mutation) in
      sym (ap (take (length history)) parts
      ∙ take-append-le (length history) (said_by history) rest (omega (arith, long))
      ∙ take_all (length history) (said_by history) (omega (arith, long)))

  as_many : length history ≤ length ms
  as_many =
      let long = ap length parts in
      let more = length-append (said_by history) rest in
      let same = length-map history (λ (w : LoggedLine). w.mutation) in
      omega (arith, long, more, same)

  pub of_one_writer : (r : Reading) (least : ℕ) (image : Files)
      → RestoresShares r history least image → RestoresLines r ms least image
  of_one_writer r least image lines =
      let same = length-map history (λ (w : LoggedLine). w.mutation) in
      let some = lines.some in
      let few : lines.n ≤ length history = omega (arith, some, same) in
      let now : take lines.n (said_by history) ≡ take lines.n ms =
      ap (take lines.n) the_first ∙ take-take lines.n (length history) ms few in
      record {
        n = lines.n;
        enough = lines.enough;
        some = omega (arith, few, as_many);
        restores = subst (λ (l : List Mutation). SameMerge (RestoresIn (bytes_at image))
            (Either (RestoresIn r) (Contains (flat_map cells_of l)))) now lines.restores;
        undamaged = lines.undamaged;
      }

all_payloads : (log : List Write)
    → map payload_at (entries_in log) ≡ map placed_payload (flat_map placed_of log)
all_payloads log =
    ap (map payload_at) (sym (append-nil (entries_in log))) ∙ of_log log 0 []
    ∙ ap (map placed_payload) (append-nil (flat_map placed_of log))

pub says_first : (ms : List Mutation) (log : List Write) (history : List LoggedLine)
    → SaysShares 1 ms log history → SaysFirst log ms
says_first ms log history said = record {
  count = length history;
  says = all_payloads log ∙ ap (map placed_payload) said.says ∙ lines_payload history
      ∙ ap (map payload_of) (the_first ms history said.holds);
}

-- ---- the lines of a log, where it says the first

-- as lines of one writer, from a number on
lines_at : ℕ → List Placed → List Mutation → List LoggedLine
lines_at n [] [] = []
lines_at n [] (m ∷ ms) = []
lines_at n (p ∷ ps) [] = []
lines_at n (p ∷ ps) (m ∷ ms) =
    record {
      writer = 0;
      number = n;
      id = p.0;
      start = p.1.start;
      end = p.1.end;
      mutation = m;
    }
    ∷ lines_at (n + 1) ps ms

placed_back : (n : ℕ) (ps : List Placed) (ms : List Mutation)
    → map placed_payload ps ≡ map payload_of ms → map placed_line (lines_at n ps ms) ≡ ps
unfolding lines_at
placed_back n [] [] is = refl
placed_back n [] (m ∷ ms) is = refl
placed_back n (p ∷ ps) [] is = absurd (let long = ap length is in omega (arith, long))
placed_back n (p ∷ ps) (m ∷ ms) is =
    let one : p.1.payload ≡ payload_of m = cc in
    let tails : map placed_payload ps ≡ map payload_of ms = cc in
    let rest = placed_back (n + 1) ps ms tails in
    λ i. (p.0, record { start = p.1.start; end = p.1.end; payload = sym one i }) ∷ rest i

numbered_back : (n : ℕ) (ps : List Placed) (ms : List Mutation)
    → map placed_payload ps ≡ map payload_of ms → written_by 0 (lines_at n ps ms) ≡ numbered n ms
unfolding lines_at
numbered_back n [] [] is = refl
numbered_back n [] (m ∷ ms) is = absurd (let long = ap length is in omega (arith, long))
numbered_back n (p ∷ ps) [] is = absurd (let long = ap length is in omega (arith, long))
numbered_back n (p ∷ ps) (m ∷ ms) is =
    let tails : map placed_payload ps ≡ map payload_of ms = cc in
    ap (λ (l : List Line). record { number = n; mutation = m } ∷ l)
    (numbered_back (n + 1) ps ms tails)

said_back : (n : ℕ) (ps : List Placed) (ms : List Mutation)
    → map placed_payload ps ≡ map payload_of ms → said_by (lines_at n ps ms) ≡ ms
unfolding lines_at
said_back n [] [] is = refl
said_back n [] (m ∷ ms) is = absurd (let long = ap length is in omega (arith, long))
said_back n (p ∷ ps) [] is = absurd (let long = ap length is in omega (arith, long))
said_back n (p ∷ ps) (m ∷ ms) is =
    let tails : map placed_payload ps ≡ map payload_of ms = cc in
    ap (λ (l : List Mutation). m ∷ l) (said_back (n + 1) ps ms tails)

by_none_other : (n : ℕ) (ps : List Placed) (ms : List Mutation) (w : LoggedLine)
    → Contains (lines_at n ps ms) w → w.writer ≡ 0
unfolding lines_at
by_none_other n [] [] w among = absurd (nothing_there w among)
by_none_other n [] (m ∷ ms) w among = absurd (nothing_there w among)
by_none_other n (p ∷ ps) [] w among = absurd (nothing_there w among)
by_none_other n (p ∷ ps) (m ∷ ms) w among = elim (first_or_further _ _ w among) [
  | inl same ↦ ap (λ (x : LoggedLine). x.writer) (sym same)
  | inr more ↦ by_none_other (n + 1) ps ms w more
]

numbered_first : (n c : ℕ) (ms : List Mutation)
    → (rest : List Line) × (numbered n ms ≡ numbered n (take c ms) ++ rest)
numbered_first n zero ms = (numbered n ms, refl)
numbered_first n (suc c) [] = ([], refl)
numbered_first n (suc c) (m ∷ ms) =
    let more = numbered_first (n + 1) c ms in (
      more.0,
      ap (λ (l : List Line). record { number = n; mutation = m } ∷ l) more.1,
    )

pub by_one_writer : (ms : List Mutation) (log : List Write) → (said : SaysFirst log ms)
    → (history : List LoggedLine) × SaysShares 1 ms log history
    × (said_by history ≡ take said.count ms)
by_one_writer ms log said =
    let ps = flat_map placed_of log in
    let first = take said.count ms in
    let is = sym (all_payloads log) ∙ said.says in
    let history = lines_at 1 ps first in
    let more = numbered_first 1 said.count ms in
    let holds : HoldsFirsts 1 ms history = record {
      known = λ w among.
          let by = by_none_other 1 ps first w among in omega (arith, by);
      firsts = λ writer low.
          let none : 0 ≡ writer = omega (arith, low) in
          subst (λ (k : ℕ). AreFirstLines (share_of 1 k ms) (written_by k history)) none
          (record {
            rest = more.0;
            parts = only_share 1 ms ∙ more.1
                ∙ ap (λ (l : List Line). l ++ more.0) (sym (numbered_back 1 ps first is));
          });
    } in (
      history,
      record { holds = holds; says = sym (placed_back 1 ps first is) },
      said_back 1 ps first is,
    )
