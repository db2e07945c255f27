-- The writes of lines, each in its place, and how they are dealt out one by one.
use Rattle.std.proofs.Common.{
  ◌≡◌,
  ℕ,
  suc,
  zero,
  ◌+◌,
  ◌<◌,
  List,
  [],
  ◌∷◌,
  get_or,
  length,
  map,
  Option,
  sym,
  ap,
  ◌∙◌,
  subst,
  arith,
}
use Rattle.std.specs.List.{AllByRecursion}
use Rattle.std.proofs.lemmas.List.{length-map}
use Rattle.clog_base.specs.declared.sizes.Sizes.{Sizes}
use Rattle.clog_mutation.specs.declared.mutation.Mutation.{Mutation}
use Rattle.clog_mutation.specs.Limits.{IsWithinLimits}
use Rattle.clog_shares.specs.declared.preparing.LineWrite.{LineWrite}
use Rattle.clog_shares.specs.declared.preparing.LineWrite.TheVariants.{Waiting}
use Rattle.clog_shares.specs.declared.worker.Worker.{Worker}
use Rattle.clog_shares.specs.LineWrites.{
  HasWriteOf,
  HaveWritesOf,
  PreparesPlace,
  WaitsWithin,
}
use Rattle.clog_shares.proofs.Dealt.{DealsOut}

-- each line waits in its place
pub wait_each : (ms : List Mutation) → AllByRecursion IsWithinLimits ms → (i : ℕ) (d : LineWrite)
    → i < length (map Waiting ms) → WaitsWithin (get_or (map Waiting ms) i d)
wait_each [] within i d inside = absurd (omega (arith, inside))
wait_each (m ∷ ms) within zero d inside = within.0
wait_each (m ∷ ms) within (suc i) d inside =
    wait_each ms within.1 i d (omega (arith, inside))

-- each place was prepared
pub have_writes : (sizes : Sizes) (flush : Option ℕ) (before : ℕ) (ms : List Mutation)
    (places : List LineWrite) → length places ≡ length ms
    → ((i : ℕ) (d : LineWrite) → i < length ms
    → PreparesPlace sizes flush (before + i + 1) (get_or (map Waiting ms) i d)
    (get_or places i d))
    → HaveWritesOf sizes flush before ms places
have_writes sizes flush before [] [] long each = tt
have_writes sizes flush before [] (p ∷ ps) long each = absurd (omega (arith, long))
have_writes sizes flush before (m ∷ ms) [] long each = absurd (omega (arith, long))
have_writes sizes flush before (m ∷ ms) (p ∷ ps) long each =
    let first : before + 0 + 1 ≡ before + 1 = omega arith in
    let step : (i : ℕ) → before + suc i + 1 ≡ before + 1 + i + 1 = λ i. omega arith in (
      subst (λ (n : ℕ). HasWriteOf sizes flush n m p) first (each 0 p (omega arith)),
      have_writes sizes flush (before + 1) ms ps (omega (arith, long))
          (λ i d inside.
          subst (λ (n : ℕ). PreparesPlace sizes flush n (get_or (map Waiting ms) i d)
          (get_or ps i d)) (step i) (each (suc i) d (omega (arith, inside)))),
    )

-- each line waits in a place of this list
pub wait_in : (ms : List Mutation) (places : List LineWrite) → places ≡ map Waiting ms
    → AllByRecursion IsWithinLimits ms → (i : ℕ) (d : LineWrite) → i < length places
    → (i < length ms) × WaitsWithin (get_or places i d)
wait_in ms places are within i d inside =
    let long : length places ≡ length ms =
    ap (λ (l : List LineWrite). length l) are ∙ length-map ms Waiting in
    let here : i < length ms = omega (arith, inside, long) in
    let there : i < length (map Waiting ms) =
    subst (λ (l : List LineWrite). i < length l) are inside in (
      here,
      subst (λ (l : List LineWrite). WaitsWithin (get_or l i d)) (sym are)
          (wait_each ms within i d there),
    )

-- each place of a list in which all lines waited was prepared
pub have_all : (sizes : Sizes) (flush : Option ℕ) (ms : List Mutation)
    (before now : List LineWrite) → before ≡ map Waiting ms → length now ≡ length before
    → ((i : ℕ) (d : LineWrite) → i < length before
    → PreparesPlace sizes flush (i + 1) (get_or before i d) (get_or now i d))
    → HaveWritesOf sizes flush 0 ms now
have_all sizes flush ms before now are same each =
    let long : length before ≡ length ms =
    ap (λ (l : List LineWrite). length l) are ∙ length-map ms Waiting in
    have_writes sizes flush 0 ms now (same ∙ long) (λ i d inside.
    let line : i + 1 ≡ 0 + i + 1 = omega arith in
    let there : i < length before = omega (arith, inside, long) in
    subst (λ (n : ℕ). PreparesPlace sizes flush n (get_or (map Waiting ms) i d) (get_or now i d))
    line (subst (λ (l : List LineWrite). PreparesPlace sizes flush (i + 1) (get_or l i d)
    (get_or now i d)) are (each i d there)))

module _ {K : Type 0} (sizes : Sizes) where
  -- The first lines are dealt out, and each of the rest has its write in its place.
  pub record DealsWrites (flush : Option ℕ) (all : List Mutation) (places : List LineWrite)
      (line : ℕ) (ws : List (Worker K)) : Type 0 where
    pub rest : List Mutation
    pub deals : DealsOut sizes flush all rest line ws
    pub have : HaveWritesOf sizes flush line rest places

  -- So they are, and the next place has the write of the next line.
  pub record DealsNext (flush : Option ℕ) (all : List Mutation) (place : LineWrite)
      (places : List LineWrite) (line : ℕ) (ws : List (Worker K)) : Type 0 where
    pub next : Mutation
    pub rest : List Mutation
    pub deals : DealsOut sizes flush all (next ∷ rest) line ws
    pub has : HasWriteOf sizes flush (line + 1) next place
    pub have : HaveWritesOf sizes flush (line + 1) rest places

  of_rest : (flush : Option ℕ) (all rest : List Mutation) (place : LineWrite)
      (places : List LineWrite) (line : ℕ) (ws : List (Worker K))
      → DealsOut sizes flush all rest line ws → HaveWritesOf sizes flush line rest (place ∷ places)
      → DealsNext flush all place places line ws
  of_rest flush all [] place places line ws deals have = absurd have
  of_rest flush all (m ∷ rest) place places line ws deals have = record {
    next = m;
    rest = rest;
    deals = deals;
    has = have.0;
    have = have.1;
  }

  pub deals_next : (flush : Option ℕ) (all : List Mutation) (place : LineWrite)
      (left places : List LineWrite) (line : ℕ) (ws : List (Worker K)) → left ≡ place ∷ places
      → DealsWrites flush all left line ws → DealsNext flush all place places line ws
  deals_next flush all place left places line ws parts deals =
      let d = subst (λ (l : List LineWrite). DealsWrites flush all l line ws) parts deals in
      of_rest flush all d.rest place places line ws d.deals d.have

  none_left : (flush : Option ℕ) (all rest : List Mutation) (line : ℕ) (ws : List (Worker K))
      → DealsOut sizes flush all rest line ws → HaveWritesOf sizes flush line rest []
      → DealsOut sizes flush all [] line ws
  none_left flush all [] line ws deals have = deals
  none_left flush all (m ∷ rest) line ws deals have = absurd have

  -- no place is left, and so no line
  pub deals_last : (flush : Option ℕ) (all : List Mutation) (line : ℕ) (ws : List (Worker K))
      → DealsWrites flush all [] line ws → DealsOut sizes flush all [] line ws
  deals_last flush all line ws d = none_left flush all d.rest line ws d.deals d.have
