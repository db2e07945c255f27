-- The flush limit is met where each writer has flushed.
use Rattle.std.proofs.Common.{
  ◌≡◌,
  ◌⊎◌,
  ℕ,
  ◌<◌,
  ◌≤◌,
  inl,
  inr,
  List,
  [],
  ◌∷◌,
  ◌++◌,
  Some,
  refl,
  sym,
  ◌∙◌,
  ap,
  subst,
  arith,
}
use Rattle.std.specs.Prelude.{Contains}
use Rattle.std.specs.List.{filter, sum_by}
use Rattle.std.proofs.lemmas.Bool.{cases_lt}
use Rattle.std.proofs.lemmas.Bool.Decides.{nat_tests}
use Rattle.std.proofs.lemmas.List.Elements.{Contains-append_left, Contains-append_right}
use Rattle.std.proofs.lemmas.List.Sums.{sum_by-append, sum_by-cons}
use Rattle.clog_base.specs.declared.cell.Table.{Table}
use Rattle.clog_base.specs.declared.position.Position.{Position}
use Rattle.clog_base.proofs.Members.{here, further}
use Rattle.clog_base.proofs.PositionOrder.{not_both, up_to_trans}
use Rattle.clog_disk.specs.declared.change.Change.{Change}
use Rattle.clog_disk.specs.Files.{Files}
use Rattle.clog_mutation.specs.declared.mutation.Mutation.{Mutation}
use Rattle.clog_mutation.specs.Stored.{IsStored}
use Rattle.clog_table.specs.declared.table_file.TableFile.{TableFile}
use Rattle.clog_words.specs.declared.request.ApplyOptions.{ApplyOptions}
use Rattle.clog_crash.specs.Droppable.{IsFiled, Touches}
use Rattle.clog_applied.specs.Closed.{ClosedRun}
use Rattle.clog_applied.specs.Filed.{files_of, first_of, is_of, last_upper}
use Rattle.clog_applied.specs.Flushed.{
  AreAbove,
  FlushLimitIsMet,
  is_update_of,
  updates_at,
  updates_in,
}
use Rattle.clog_applied.specs.History.{
  LoggedLine,
  entry_of,
  is_by,
  line_of,
  logged_at,
  share_of,
}
use Rattle.clog_applied.proofs.Covered.{each_below_last}
use Rattle.clog_applied.proofs.Lists.{
  counted_from,
  from_filter,
  in_filter,
  sum_of_map,
  sum_of_none,
}

-- of two ways to cut a list, one cuts first
splits : {A : Type 0} (a b c d : List A) → a ++ b ≡ c ++ d
    → ((mid : List A) × (b ≡ mid ++ d)) ⊎ ((mid : List A) × (d ≡ mid ++ b) × (a ≡ c ++ mid))
splits [] b c d is = inl (c, is)
splits (x ∷ a) b [] d is = inr (x ∷ a, sym is, refl)
splits (x ∷ a) b (y ∷ c) d is =
    let tails : a ++ b ≡ c ++ d = cc in
    elim (splits a b c d tails) [
      | inl one ↦ inl one
      | inr two ↦ inr (two.0, two.1, (let e = two.2 in cc))
    ]

-- where the sum is something, one of them gives something
one_of_sum : {A : Type 0} (f : A → ℕ) (xs : List A) → 0 < sum_by f xs
    → (x : A) × Contains xs x × (0 < f x)
one_of_sum f [] some = absurd (omega (arith, some))
one_of_sum f (x ∷ xs) some = elim (cases_lt 0 (f x)) [
  | inl here_is ↦ (x, here x xs, here_is)
  | inr none ↦
      let a = sum_by-cons f x xs in
      let rest = one_of_sum f xs (omega (arith, a, none, some)) in
      (rest.0, further x xs rest.0 rest.1, rest.2)
]

updates_touch : (table : Table) (w : LoggedLine) → IsStored w.mutation → 0 < updates_at table w
    → Touches (entry_of w) table
updates_touch table w stored some =
    let found = counted_from (is_update_of table) w.mutation.updates some in
    let number : found.0.table.0 ≡ table.0 = grind (arith, nat_tests, found.2) in
    record {
      mutation = w.mutation;
      said = record { stored = stored; spelled = refl };
      update = found.0;
      listed = found.1;
      same_table = λ i. record { 0 = number i };
    }

module _ (o : ApplyOptions) (before after : Files) (changes : List Change)
    (mutations : List Mutation) (c : ClosedRun o before after changes mutations) where
  in_files : (table : Table) (at : Position) → (filed : IsFiled c.files table at)
      → Contains (files_of table c.files) filed.file
  in_files table at filed =
      let number : filed.file.table.0 ≡ table.0 = ap (λ (t : Table). t.0) filed.same_table in
      in_filter (is_of table) c.files filed.file filed.listed (grind (arith, nat_tests, number))

  touches_of : (table : Table) (writer : ℕ) (w : LoggedLine)
      → Contains (filter (is_by writer) c.history) w → 0 < updates_at table w
      → Touches (entry_of w) table
  touches_of table writer w h some =
      updates_touch table w
      (c.path.lawful.each w (from_filter (is_by writer) c.history w h).0).stored some

  few : (most : ℕ) → o.flush_at ≡ Some most → (table : Table) (writer : ℕ)
      (above : List LoggedLine) → writer < o.writers
      → AreAbove c.history writer (last_upper (first_of c.base) (files_of table c.files)) above
      → sum_by (updates_at table) above < most
  few most asked table writer above known are =
      let flushed = c.path.flushed most asked table writer known in
      let last = last_upper (first_of c.base) (files_of table c.files) in
      elim (splits flushed.front flushed.rest are.front above
      (sym flushed.parts ∙ are.whole)) [
        | inl inside ↦
            let whole = sum_by-append (updates_at table) inside.0 above in
            let same : sum_by (updates_at table) flushed.rest
            ≡ sum_by (updates_at table) (inside.0 ++ above) =
            ap (sum_by (updates_at table)) inside.1 in
            let least = flushed.few in
            omega (arith, whole, same, least)
        | inr wider ↦
            let none = sum_of_none (updates_at table) wider.0 (λ w h.
            elim (cases_lt 0 (updates_at table w)) [
              | inr nothing ↦ omega (arith, nothing)
              | inl some ↦
                  let in_front : Contains flushed.front w =
                  subst (λ (l : List LoggedLine). Contains l w) (sym wider.2)
                  (Contains-append_right are.front wider.0 w h) in
                  let listed : Contains (filter (is_by writer) c.history) w =
                  subst (λ (l : List LoggedLine). Contains l w) (sym flushed.parts)
                  (Contains-append_left flushed.front flushed.rest w in_front) in
                  let filed = flushed.filed w in_front (touches_of table writer w listed some) in
                  let low = up_to_trans (logged_at w) filed.file.upper last filed.inside.up_to
                  (each_below_last (first_of c.base) (files_of table c.files)
                  (c.path.follow table) filed.file (in_files table (logged_at w) filed)) in
                  let high = are.are_above w (subst (λ (l : List LoggedLine). Contains l w)
                  (sym wider.1) (Contains-append_left wider.0 flushed.rest w h)) in
                  absurd (not_both last (logged_at w) high low)
            ]) in
            let whole = sum_by-append (updates_at table) wider.0 flushed.rest in
            let same : sum_by (updates_at table) above
            ≡ sum_by (updates_at table) (wider.0 ++ flushed.rest) =
            ap (sum_by (updates_at table)) wider.1 in
            let least = flushed.few in
            omega (arith, none, whole, same, least)
      ]

  some : (most : ℕ) → o.flush_at ≡ Some most → (table : Table) (writer : ℕ)
      → writer < o.writers
      → most ≤ sum_by (updates_in table) (share_of o.writers writer mutations)
      → (file : TableFile) × Contains (files_of table c.files) file
  some most asked table writer known many =
      let flushed = c.path.flushed most asked table writer known in
      let lines = ap (sum_by (updates_in table)) (c.path.shares writer known) in
      let logged = sum_of_map line_of (updates_in table) (filter (is_by writer) c.history) in
      let parts : sum_by (updates_at table) (filter (is_by writer) c.history)
      ≡ sum_by (updates_at table) (flushed.front ++ flushed.rest) =
      ap (sum_by (updates_at table)) flushed.parts in
      let whole = sum_by-append (updates_at table) flushed.front flushed.rest in
      let least = flushed.few in
      let w = one_of_sum (updates_at table) flushed.front
      (omega (arith, many, lines, logged, parts, whole, least)) in
      let listed : Contains (filter (is_by writer) c.history) w.0 =
      subst (λ (l : List LoggedLine). Contains l w.0) (sym flushed.parts)
      (Contains-append_left flushed.front flushed.rest w.0 w.1) in
      let filed = flushed.filed w.0 w.1 (touches_of table writer w.0 listed w.2) in
      (filed.file, in_files table (logged_at w.0) filed)

  pub flush_limit : FlushLimitIsMet o c.base mutations c.history c.files
  flush_limit most asked = record { few = few most asked; some = some most asked }
