-- A list of words asks for one request at most.
use Rattle.std.proofs.Common.{◌≡◌, ℕ, List, [], ◌∷◌, get_or, Bool, Option, Some, None, codes, refl}
use Rattle.std.proofs.Common.{ap, ap₂, sym, subst, ◌∙◌, arith}
use Rattle.std.specs.Str.Parse.{digits_value}
use Rattle.sync_core.specs.declared.SyncCore.{SyncCore}
use Rattle.sync_core.specs.declared.SyncCore.TheVariants.{Batch, Periodic}
use Rattle.clog_words.specs.Given.{Setting, said}
use Rattle.clog_words.specs.Asks.{Asks, AsksScan, AsksDrill, SaysApply, SaysReplay, IsMark, IsMode}
use Rattle.clog_words.specs.Asks.{IsNumberIfSaid, IsNumberOr, IsSync, IsValueWithin}
use Rattle.clog_words.specs.Orders.{AsksOrders}
use Rattle.clog_words.specs.declared.request.ApplyOptions.{ApplyOptions}
use Rattle.clog_words.specs.declared.request.ReplayOptions.{ReplayOptions}
use Rattle.clog_words.specs.declared.request.Request.{Request}
use Rattle.clog_words.specs.declared.request.Request.TheVariants.{Apply, Replay, Scan, Drill}
use Rattle.clog_words.specs.declared.request.Request.TheVariants.{Orders}
use Rattle.clog_words.proofs.SettingLists.{same_settings}
use Rattle.clog_words.proofs.Refusals.{apply_is_no_replay, apply_is_no_scan, apply_is_no_drill}
use Rattle.clog_words.proofs.Refusals.{replay_is_no_scan, replay_is_no_drill, scan_is_no_drill}
use Rattle.clog_words.proofs.Refusals.{apply_is_no_orders, replay_is_no_orders, scan_is_no_orders}
use Rattle.clog_words.proofs.Refusals.{drill_is_no_orders}

-- ---- one option says one thing

one_mark : (setting : Option Setting) (x y : Bool) → IsMark setting x → IsMark setting y → x ≡ y
one_mark None x y e f = e ∙ sym f
one_mark (Some setting) x y e f = e.1 ∙ sym f.1

one_value : (least most : ℕ) (value : Option (List ℕ)) (x y : ℕ) → IsValueWithin least most value x
    → IsValueWithin least most value y → x ≡ y
one_value least most None x y e f = absurd e
one_value least most (Some text) x y e f = e.value ∙ sym f.value

one_number : (default least most : ℕ) (setting : Option Setting) (x y : ℕ)
    → IsNumberOr default least most setting x → IsNumberOr default least most setting y → x ≡ y
one_number default least most None x y e f = e ∙ sym f
one_number default least most (Some setting) x y e f = one_value least most setting.value x y e f

one_if_said : (least most : ℕ) (setting : Option Setting) (x y : Option ℕ)
    → IsNumberIfSaid least most setting x → IsNumberIfSaid least most setting y → x ≡ y
one_if_said least most None x y e f = e ∙ sym f
one_if_said least most (Some setting) None y e f = absurd e
one_if_said least most (Some setting) (Some x) None e f = absurd f
one_if_said least most (Some setting) (Some x) (Some y) e f =
    ap (λ (n : ℕ). Some n) (one_value least most setting.value x y e f)

one_mode : (setting : Option Setting) (x y : List ℕ) → IsMode setting x → IsMode setting y → x ≡ y
one_mode None x y e f = e ∙ sym f
one_mode (Some setting) x y e f = ap text_of (sym e ∙ f)
  where
    text_of : Option (List ℕ) → List ℕ
    text_of None = []
    text_of (Some text) = text

batch_is_not_periodic : (setting : Option Setting) → IsMode setting (codes "batch")
    → IsMode setting (codes "periodic") → ⊥
batch_is_not_periodic setting e f =
    omega (
      arith,
      ap (λ l. get_or l 0 0) (one_mode setting (codes "batch") (codes "periodic") e f),
    )

one_sync : (mode period : Option Setting) (x y : SyncCore) → IsSync mode period x
    → IsSync mode period y → x ≡ y
one_sync mode period Batch Batch e f = refl
one_sync mode period Batch (Periodic q) e f = absurd (batch_is_not_periodic mode e.0 f.0)
one_sync mode period (Periodic p) Batch e f = absurd (batch_is_not_periodic mode f.0 e.0)
one_sync mode period (Periodic p) (Periodic q) e f =
    ap (λ (n : ℕ). Periodic n) (one_number 10000 1 3600000 period p q e.1 f.1)

-- ---- so do all of a command

abbrev made : ℕ → SyncCore → ℕ → Option ℕ → Bool → Bool → Bool → Bool → ApplyOptions
made writers sync kib flush archive receipts drain dump = record {
  writers = writers;
  sync = sync;
  segment_kib = kib;
  flush_at = flush;
  archive = archive;
  receipts = receipts;
  drain = drain;
  dump = dump;
}

one_apply : (settings : List Setting) (x y : ApplyOptions) → SaysApply settings x
    → SaysApply settings y → x ≡ y
one_apply settings x y e f =
    let writers =
    one_number 1 1 64 (said (codes "writers") settings) x.writers y.writers e.writers f.writers in
    let sync = one_sync (said (codes "sync") settings) (said (codes "period") settings) x.sync
    y.sync e.sync f.sync in
    let kib =
    one_number 32768 4 32768 (said (codes "segment-kib") settings) x.segment_kib y.segment_kib
    e.segment_kib f.segment_kib in
    let flush =
    one_if_said 1 1000000 (said (codes "flush-at") settings) x.flush_at y.flush_at e.flush_at
    f.flush_at in
    let archive =
    one_mark (said (codes "archive") settings) x.archive y.archive e.archive f.archive in
    let receipts =
    one_mark (said (codes "receipts") settings) x.receipts y.receipts e.receipts f.receipts in
    let drain = one_mark (said (codes "drain") settings) x.drain y.drain e.drain f.drain in
    let dump = one_mark (said (codes "dump") settings) x.dump y.dump e.dump f.dump in
    ap (λ (v : ℕ). made v x.sync x.segment_kib x.flush_at x.archive x.receipts x.drain x.dump)
    writers
    ∙ ap (λ (v : SyncCore).
    made y.writers v x.segment_kib x.flush_at x.archive x.receipts x.drain x.dump)
    sync
    ∙ ap (λ (v : ℕ). made y.writers y.sync v x.flush_at x.archive x.receipts x.drain x.dump)
    kib
    ∙ ap (λ (v : Option ℕ).
    made y.writers y.sync y.segment_kib v x.archive x.receipts x.drain x.dump)
    flush
    ∙ ap (λ (v : Bool). made y.writers y.sync y.segment_kib y.flush_at v x.receipts x.drain x.dump)
    archive
    ∙ ap (λ (v : Bool). made y.writers y.sync y.segment_kib y.flush_at y.archive v x.drain x.dump)
    receipts
    ∙ ap (λ (v : Bool).
    made y.writers y.sync y.segment_kib y.flush_at y.archive y.receipts v x.dump)
    drain
    ∙ ap (λ (v : Bool).
    made y.writers y.sync y.segment_kib y.flush_at y.archive y.receipts y.drain v)
    dump

one_replay : (settings : List Setting) (x y : ReplayOptions) → SaysReplay settings x
    → SaysReplay settings y → x ≡ y
one_replay settings x y e f =
    ap₂ (λ (w : ℕ) (i : Bool). record { workers = w; ignore_errors = i })
    (one_number 1 1 64 (said (codes "workers") settings) x.workers y.workers e.workers f.workers)
    (one_mark (said (codes "ignore-errors") settings) x.ignore_errors y.ignore_errors
    e.ignore_errors f.ignore_errors)

one_scan : (words : List (List ℕ)) (x y : List ℕ) → AsksScan words x → AsksScan words y → x ≡ y
one_scan words x y e f = ap (λ l. get_or l 0 []) (sym e.words_are ∙ f.words_are)

one_drill : (words : List (List ℕ)) (s t m n : ℕ) → AsksDrill words s m → AsksDrill words t n
    → (s ≡ t) × (m ≡ n)
one_drill words s t m n e f =
    let same = sym e.words_are ∙ f.words_are in
    let seeds = ap (λ l. get_or l 0 []) same in
    let counts = ap (λ l. get_or l 1 []) same in (
      e.seed_is.value ∙ ap (λ l. digits_value 10 l) seeds ∙ sym f.seed_is.value,
      e.count_is.value ∙ ap (λ l. digits_value 10 l) counts ∙ sym f.count_is.value,
    )

one_orders : (words : List (List ℕ)) (s t m n : ℕ) → AsksOrders words s m → AsksOrders words t n
    → (s ≡ t) × (m ≡ n)
one_orders words s t m n e f =
    let same = sym e.words_are ∙ f.words_are in
    let readers = ap (λ l. get_or l 0 []) same in
    let rounds = ap (λ l. get_or l 1 []) same in (
      e.readers_is.value ∙ ap (λ l. digits_value 10 l) readers ∙ sym f.readers_is.value,
      e.rounds_is.value ∙ ap (λ l. digits_value 10 l) rounds ∙ sym f.rounds_is.value,
    )

-- ---- the words

one_asked : (command : List ℕ) (words : List (List ℕ)) (x y : Request) → Asks (command ∷ words) x
    → Asks (command ∷ words) y → x ≡ y
one_asked w ws (Apply x) (Apply y) (_, e) (_, f) =
    let same = same_settings f.settings e.settings ws f.given.given e.given.given in
    ap (λ (o : ApplyOptions). Apply o)
    (one_apply e.settings x y e.says (subst (λ (l : List Setting). SaysApply l y) same f.says))
one_asked w ws (Apply x) (Replay y) (e, _) (f, _) = absurd (apply_is_no_replay w e f)
one_asked w ws (Apply x) (Scan y) (e, _) (f, _) = absurd (apply_is_no_scan w e f)
one_asked w ws (Apply x) (Drill t n) (e, _) (f, _) = absurd (apply_is_no_drill w e f)
one_asked w ws (Apply x) (Orders r k) (e, _) (f, _) = absurd (apply_is_no_orders w e f)
one_asked w ws (Replay x) (Apply y) (e, _) (f, _) = absurd (apply_is_no_replay w f e)
one_asked w ws (Replay x) (Replay y) (_, e) (_, f) =
    let same = same_settings f.settings e.settings ws f.given.given e.given.given in
    ap (λ (o : ReplayOptions). Replay o)
    (one_replay e.settings x y e.says (subst (λ (l : List Setting). SaysReplay l y) same f.says))
one_asked w ws (Replay x) (Scan y) (e, _) (f, _) = absurd (replay_is_no_scan w e f)
one_asked w ws (Replay x) (Drill t n) (e, _) (f, _) = absurd (replay_is_no_drill w e f)
one_asked w ws (Replay x) (Orders r k) (e, _) (f, _) = absurd (replay_is_no_orders w e f)
one_asked w ws (Scan x) (Apply y) (e, _) (f, _) = absurd (apply_is_no_scan w f e)
one_asked w ws (Scan x) (Replay y) (e, _) (f, _) = absurd (replay_is_no_scan w f e)
one_asked w ws (Scan x) (Scan y) (_, e) (_, f) =
    ap (λ (name : List ℕ). Scan name) (one_scan ws x y e f)
one_asked w ws (Scan x) (Drill t n) (e, _) (f, _) = absurd (scan_is_no_drill w e f)
one_asked w ws (Scan x) (Orders r k) (e, _) (f, _) = absurd (scan_is_no_orders w e f)
one_asked w ws (Drill s m) (Apply y) (e, _) (f, _) = absurd (apply_is_no_drill w f e)
one_asked w ws (Drill s m) (Replay y) (e, _) (f, _) = absurd (replay_is_no_drill w f e)
one_asked w ws (Drill s m) (Scan y) (e, _) (f, _) = absurd (scan_is_no_drill w f e)
one_asked w ws (Drill s m) (Drill t n) (_, e) (_, f) =
    let same = one_drill ws s t m n e f in
    ap₂ (λ (seed count : ℕ). Drill seed count) same.0 same.1
one_asked w ws (Drill s m) (Orders r k) (e, _) (f, _) = absurd (drill_is_no_orders w e f)
one_asked w ws (Orders r k) (Apply y) (e, _) (f, _) = absurd (apply_is_no_orders w f e)
one_asked w ws (Orders r k) (Replay y) (e, _) (f, _) = absurd (replay_is_no_orders w f e)
one_asked w ws (Orders r k) (Scan y) (e, _) (f, _) = absurd (scan_is_no_orders w f e)
one_asked w ws (Orders r k) (Drill t n) (e, _) (f, _) = absurd (drill_is_no_orders w f e)
one_asked w ws (Orders r k) (Orders q l) (_, e) (_, f) =
    let same = one_orders ws r q k l e f in
    ap₂ (λ (readers rounds : ℕ). Orders readers rounds) same.0 same.1

pub one_request : (words : List (List ℕ)) (x y : Request) → Asks words x → Asks words y → x ≡ y
one_request [] x y e f = absurd e
one_request (command ∷ words) x y e f = one_asked command words x y e f
