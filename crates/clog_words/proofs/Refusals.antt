-- Where words ask for nothing.
use Rattle.std.proofs.Common.{◌≡◌, ℕ, List, ◌∷◌, codes, get_or, ap, sym, ◌∙◌, arith}
use Rattle.clog_words.specs.Asks.{Asks, AsksApply, AsksReplay, AsksScan, AsksDrill, OnUsage}
use Rattle.clog_words.specs.Orders.{AsksOrders}
use Rattle.clog_words.specs.declared.request.ApplyOptions.{ApplyOptions}
use Rattle.clog_words.specs.declared.request.ReplayOptions.{ReplayOptions}
use Rattle.clog_words.specs.declared.request.Request.{Request}
use Rattle.clog_words.specs.declared.request.Request.TheVariants.{Apply, Replay, Scan, Drill}
use Rattle.clog_words.specs.declared.request.Request.TheVariants.{Orders}
use Rattle.clog_words.specs.declared.request.WordsFault.{WordsFault}
use Rattle.clog_words.specs.declared.request.WordsFault.TheVariants.{Usage, OutOfMemory}

-- what follows from faulty words
pub on_usage : (fault : WordsFault) (P Q : Type 0) → (P → Q) → OnUsage fault P → OnUsage fault Q
on_usage Usage P Q f p = f p
on_usage OutOfMemory P Q f p = tt

-- A command's words ask for nothing where they ask nothing of each command that its word names.
pub nothing_asked : (command : List ℕ) (words : List (List ℕ))
    → (command ≡ codes "apply" → (options : ApplyOptions) → ¬ AsksApply words options)
    → (command ≡ codes "replay" → (options : ReplayOptions) → ¬ AsksReplay words options)
    → (command ≡ codes "scan" → (name : List ℕ) → ¬ AsksScan words name)
    → (command ≡ codes "drill" → (seed count : ℕ) → ¬ AsksDrill words seed count)
    → (command ≡ codes "orders" → (readers rounds : ℕ) → ¬ AsksOrders words readers rounds)
    → (request : Request) → ¬ Asks (command ∷ words) request
nothing_asked command words apply replay scan drill orders (Apply options) asked =
    apply asked.0 options asked.1
nothing_asked command words apply replay scan drill orders (Replay options) asked =
    replay asked.0 options asked.1
nothing_asked command words apply replay scan drill orders (Scan name) asked =
    scan asked.0 name asked.1
nothing_asked command words apply replay scan drill orders (Drill seed count) asked =
    drill asked.0 seed count asked.1
nothing_asked command words apply replay scan drill orders (Orders readers rounds) asked =
    orders asked.0 readers rounds asked.1

-- the commands' words differ in their first letter

pub apply_is_no_replay : (word : List ℕ) → word ≡ codes "apply" → word ≡ codes "replay" → ⊥
apply_is_no_replay word e f = omega (arith, ap (λ l. get_or l 0 0) (sym e ∙ f))

pub apply_is_no_scan : (word : List ℕ) → word ≡ codes "apply" → word ≡ codes "scan" → ⊥
apply_is_no_scan word e f = omega (arith, ap (λ l. get_or l 0 0) (sym e ∙ f))

pub apply_is_no_drill : (word : List ℕ) → word ≡ codes "apply" → word ≡ codes "drill" → ⊥
apply_is_no_drill word e f = omega (arith, ap (λ l. get_or l 0 0) (sym e ∙ f))

pub replay_is_no_scan : (word : List ℕ) → word ≡ codes "replay" → word ≡ codes "scan" → ⊥
replay_is_no_scan word e f = omega (arith, ap (λ l. get_or l 0 0) (sym e ∙ f))

pub replay_is_no_drill : (word : List ℕ) → word ≡ codes "replay" → word ≡ codes "drill" → ⊥
replay_is_no_drill word e f = omega (arith, ap (λ l. get_or l 0 0) (sym e ∙ f))

pub scan_is_no_drill : (word : List ℕ) → word ≡ codes "scan" → word ≡ codes "drill" → ⊥
scan_is_no_drill word e f = omega (arith, ap (λ l. get_or l 0 0) (sym e ∙ f))

pub apply_is_no_orders : (word : List ℕ) → word ≡ codes "apply" → word ≡ codes "orders" → ⊥
apply_is_no_orders word e f = omega (arith, ap (λ l. get_or l 0 0) (sym e ∙ f))

pub replay_is_no_orders : (word : List ℕ) → word ≡ codes "replay" → word ≡ codes "orders" → ⊥
replay_is_no_orders word e f = omega (arith, ap (λ l. get_or l 0 0) (sym e ∙ f))

pub scan_is_no_orders : (word : List ℕ) → word ≡ codes "scan" → word ≡ codes "orders" → ⊥
scan_is_no_orders word e f = omega (arith, ap (λ l. get_or l 0 0) (sym e ∙ f))

pub drill_is_no_orders : (word : List ℕ) → word ≡ codes "drill" → word ≡ codes "orders" → ⊥
drill_is_no_orders word e f = omega (arith, ap (λ l. get_or l 0 0) (sym e ∙ f))
