-- Words ask for one thing, and their numbers are within limits.
use Rattle.std.proofs.Common.{◌≡◌, ℕ, ◌≤◌, List, [], ◌∷◌, Option, Some, None, sym, ap, subst, ◌∙◌}
use Rattle.std.proofs.Common.{arith, codes}
use Rattle.clog_spec.specs.Names.{IsSegmentName}
use Rattle.clog_base.proofs.NameLaws.{one_segment}
use Rattle.clog_words.specs.declared.built.Built.{Built}
use Rattle.clog_words.specs.declared.built.Built.TheVariants as built
use Rattle.clog_words.specs.declared.request.ApplyOptions.{ApplyOptions}
use Rattle.clog_words.specs.declared.request.ReplayOptions.{ReplayOptions}
use Rattle.clog_words.specs.declared.request.Request.{Request}
use Rattle.clog_words.specs.declared.request.Request.TheVariants.{Apply, Replay, Scan, Drill}
use Rattle.clog_words.specs.declared.request.Request.TheVariants.{Orders}
use Rattle.clog_words.specs.Asks.{Asks, IsNumberIfSaid, IsNumberOr, IsValueWithin}
use Rattle.clog_words.specs.Built.{AsksBuilt, IsBuilt}
use Rattle.clog_words.specs.Given.{Setting, said}
use Rattle.clog_words.proofs.OneRequest.{one_request}
use Rattle.clog_engine.specs.Request.{IsDoable}

one_apply : (r : Request) (a b : ApplyOptions) → r ≡ Apply a → r ≡ Apply b → a ≡ b
one_apply r a b p q = let same : Apply a ≡ Apply b = sym p ∙ q in cc

one_replay : (r : Request) (a b : ReplayOptions) → r ≡ Replay a → r ≡ Replay b → a ≡ b
one_replay r a b p q = let same : Replay a ≡ Replay b = sym p ∙ q in cc

one_scan : (r : Request) (a b : List ℕ) → r ≡ Scan a → r ≡ Scan b → a ≡ b
one_scan r a b p q = let same : Scan a ≡ Scan b = sym p ∙ q in cc

one_drill : (r : Request) (s t m n : ℕ) → r ≡ Drill s m → r ≡ Drill t n
    → built.Drill s m ≡ built.Drill t n
one_drill r s t m n p q = let same : Drill s m ≡ Drill t n = sym p ∙ q in cc

one_orders : (r : Request) (s t m n : ℕ) → r ≡ Orders s m → r ≡ Orders t n
    → built.Orders s m ≡ built.Orders t n
one_orders r s t m n p q = let same : Orders s m ≡ Orders t n = sym p ∙ q in cc

-- a request asks for one thing
one_built : (r : Request) (a b : Built) → IsBuilt r a → IsBuilt r b → a ≡ b
one_built r (built.Apply o) (built.Apply o') p q = ap built.Apply (one_apply r o o' p q)
one_built r (built.Apply o) (built.Replay o') p q =
    let same : Apply o ≡ Replay o' = sym p ∙ q in cc
one_built r (built.Apply o) (built.Scan id) p q =
    let same : Apply o ≡ Scan q.0 = sym p ∙ q.1 in cc
one_built r (built.Apply o) (built.Drill t n) p q =
    let same : Apply o ≡ Drill t n = sym p ∙ q in cc
one_built r (built.Apply o) (built.Orders j i) p q =
    let same : Apply o ≡ Orders j i = sym p ∙ q in cc
one_built r (built.Replay o) (built.Apply o') p q =
    let same : Replay o ≡ Apply o' = sym p ∙ q in cc
one_built r (built.Replay o) (built.Replay o') p q = ap built.Replay (one_replay r o o' p q)
one_built r (built.Replay o) (built.Scan id) p q =
    let same : Replay o ≡ Scan q.0 = sym p ∙ q.1 in cc
one_built r (built.Replay o) (built.Drill t n) p q =
    let same : Replay o ≡ Drill t n = sym p ∙ q in cc
one_built r (built.Replay o) (built.Orders j i) p q =
    let same : Replay o ≡ Orders j i = sym p ∙ q in cc
one_built r (built.Scan id) (built.Apply o) p q =
    let same : Scan p.0 ≡ Apply o = sym p.1 ∙ q in cc
one_built r (built.Scan id) (built.Replay o) p q =
    let same : Scan p.0 ≡ Replay o = sym p.1 ∙ q in cc
one_built r (built.Scan id) (built.Scan id') p q =
    let same = one_scan r p.0 q.0 p.1 q.1 in
    ap built.Scan (one_segment q.0 6 id 6 id'
    (subst (λ (n : List ℕ). IsSegmentName n 6 id) same p.2) q.2).1
one_built r (built.Scan id) (built.Drill t n) p q =
    let same : Scan p.0 ≡ Drill t n = sym p.1 ∙ q in cc
one_built r (built.Scan id) (built.Orders j i) p q =
    let same : Scan p.0 ≡ Orders j i = sym p.1 ∙ q in cc
one_built r (built.Drill s m) (built.Apply o) p q =
    let same : Drill s m ≡ Apply o = sym p ∙ q in cc
one_built r (built.Drill s m) (built.Replay o) p q =
    let same : Drill s m ≡ Replay o = sym p ∙ q in cc
one_built r (built.Drill s m) (built.Scan id) p q =
    let same : Drill s m ≡ Scan q.0 = sym p ∙ q.1 in cc
one_built r (built.Drill s m) (built.Drill t n) p q = one_drill r s t m n p q
one_built r (built.Drill s m) (built.Orders j i) p q =
    let same : Drill s m ≡ Orders j i = sym p ∙ q in cc
one_built r (built.Orders k l) (built.Apply o) p q =
    let same : Orders k l ≡ Apply o = sym p ∙ q in cc
one_built r (built.Orders k l) (built.Replay o) p q =
    let same : Orders k l ≡ Replay o = sym p ∙ q in cc
one_built r (built.Orders k l) (built.Scan id) p q =
    let same : Orders k l ≡ Scan q.0 = sym p ∙ q.1 in cc
one_built r (built.Orders k l) (built.Drill t n) p q =
    let same : Orders k l ≡ Drill t n = sym p ∙ q in cc
one_built r (built.Orders k l) (built.Orders j i) p q = one_orders r k j l i p q

-- words do not ask for two things
pub one_asked : (words : List (List ℕ)) (a b : Built) → AsksBuilt words a → AsksBuilt words b
    → a ≡ b
one_asked words a b x y =
    let same : x.request ≡ y.request = one_request words x.request y.request x.asks y.asks in
    one_built y.request a b (subst (λ (r : Request). IsBuilt r a) same x.is_built) y.is_built

-- ---- numbers

-- a number that is given is within its limits
value_within : (least most : ℕ) (value : Option (List ℕ)) (n : ℕ)
    → IsValueWithin least most value n → (least ≤ n) × (n ≤ most)
value_within least most None n is = absurd is
value_within least most (Some text) n is = (is.from, is.up_to)

-- a number is within the limits in which it may be given, where its own default is
number_within : (default least most : ℕ) (option : Option Setting) (n : ℕ)
    → least ≤ default → default ≤ most → IsNumberOr default least most option n
    → (least ≤ n) × (n ≤ most)
number_within default least most None n low high is =
    (omega (arith, is, low), omega (arith, is, high))
number_within default least most (Some setting) n low high is =
    value_within least most setting.value n is

asked_workers : (words : List (List ℕ)) (options : ReplayOptions) → Asks words (Replay options)
    → (1 ≤ options.workers) × (options.workers ≤ 64)
asked_workers [] options asks = absurd asks
asked_workers (command ∷ words) options asks =
    number_within 1 1 64 (said (codes "workers") asks.1.settings) options.workers (omega arith)
    (omega arith) asks.1.says.workers

pub workers_within : (words : List (List ℕ)) (options : ReplayOptions)
    → AsksBuilt words (built.Replay options) → (1 ≤ options.workers) × (options.workers ≤ 64)
workers_within words options asked =
    asked_workers words options (subst (Asks words) asked.is_built asked.asks)

asked_count : (words : List (List ℕ)) (seed count : ℕ) → Asks words (Drill seed count)
    → count ≤ 1000000
asked_count [] seed count asks = absurd asks
asked_count (command ∷ words) seed count asks = asks.1.count_is.up_to

-- a drill makes no more lines than there may be
pub count_within : (words : List (List ℕ)) (seed count : ℕ)
    → AsksBuilt words (built.Drill seed count) → count ≤ 1000000
count_within words seed count asked =
    asked_count words seed count (subst (Asks words) asked.is_built asked.asks)

asked_rounds : (words : List (List ℕ)) (readers rounds : ℕ) → Asks words (Orders readers rounds)
    → (1 ≤ readers) × (readers ≤ 63) × (rounds ≤ 100000)
asked_rounds [] readers rounds asks = absurd asks
asked_rounds (command ∷ words) readers rounds asks =
    (asks.1.readers_is.from, asks.1.readers_is.up_to, asks.1.rounds_is.up_to)

-- there are as many readers and rounds as there may be
pub orders_within : (words : List (List ℕ)) (readers rounds : ℕ)
    → AsksBuilt words (built.Orders readers rounds)
    → (1 ≤ readers) × (readers ≤ 63) × (rounds ≤ 100000)
orders_within words readers rounds asked =
    asked_rounds words readers rounds (subst (Asks words) asked.is_built asked.asks)

asked_segments : (words : List (List ℕ)) (options : ApplyOptions) → Asks words (Apply options)
    → (4 ≤ options.segment_kib) × (options.segment_kib ≤ 32768)
asked_segments [] options asks = absurd asks
asked_segments (command ∷ words) options asks =
    number_within 32768 4 32768 (said (codes "segment-kib") asks.1.settings) options.segment_kib
    (omega arith) (omega arith) asks.1.says.segment_kib

asked_writers : (words : List (List ℕ)) (options : ApplyOptions) → Asks words (Apply options)
    → (1 ≤ options.writers) × (options.writers ≤ 64)
asked_writers [] options asks = absurd asks
asked_writers (command ∷ words) options asks =
    number_within 1 1 64 (said (codes "writers") asks.1.settings) options.writers (omega arith)
    (omega arith) asks.1.says.writers

-- a number that has no default is within its limits, where it is given
number_if_said : (least most : ℕ) (option : Option Setting) (said_count : Option ℕ) (n : ℕ)
    → IsNumberIfSaid least most option said_count → said_count ≡ Some n
    → (least ≤ n) × (n ≤ most)
number_if_said least most None said_count n is count =
    let none : None ≡ Some n = sym is ∙ count in absurd (cc)
number_if_said least most (Some setting) None n is count = absurd is
number_if_said least most (Some setting) (Some m) n is count =
    let same : m ≡ n = cc in
    subst (λ (k : ℕ). (least ≤ k) × (k ≤ most)) same (value_within least most setting.value m is)

asked_updates : (words : List (List ℕ)) (options : ApplyOptions) → Asks words (Apply options)
    → (count : ℕ) → options.flush_at ≡ Some count → (1 ≤ count) × (count ≤ 1000000)
asked_updates [] options asks count is = absurd asks
asked_updates (command ∷ words) options asks count is =
    number_if_said 1 1000000 (said (codes "flush-at") asks.1.settings) options.flush_at count
    asks.1.says.flush_at is

-- what words ask of `apply` can be done
pub doable : (words : List (List ℕ)) (options : ApplyOptions)
    → AsksBuilt words (built.Apply options) → IsDoable options
doable words options asked =
    let asks = subst (Asks words) asked.is_built asked.asks in
    let within = asked_segments words options asks in
    let writers = asked_writers words options asks in
    let updates = asked_updates words options asks in
    record {
      some_writer = writers.0;
      few_writers = writers.1;
      least = within.0;
      most = within.1;
      some_updates = λ count is. (updates count is).0;
      few_updates = λ count is. (updates count is).1;
    }
