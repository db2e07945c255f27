use Rattle.std.proofs.Common.{◌∷◌, codes, sym}
use Rattle.std.proofs.lemmas.Slice.Eq.{bytes_eq-Decides}
use Rattle.clog_words.specs.Asks.{Asks, AsksApply, AsksReplay}
use Rattle.clog_words.specs.Given.{texts}
use Rattle.clog_words.specs.declared.request.ApplyOptions.{ApplyOptions}
use Rattle.clog_words.specs.declared.request.ReplayOptions.{ReplayOptions}
use Rattle.clog_words.specs.declared.request.Request.{Request}
use Rattle.clog_words.proofs.Refusals.{on_usage, nothing_asked, apply_is_no_replay}
use Rattle.clog_words.proofs.Refusals.{apply_is_no_scan, apply_is_no_drill, replay_is_no_scan}
use Rattle.clog_words.proofs.Refusals.{replay_is_no_drill, scan_is_no_drill, apply_is_no_orders}
use Rattle.clog_words.proofs.Refusals.{replay_is_no_orders, scan_is_no_orders, drill_is_no_orders}
use Rattle.clog_words.proofs.commands.request_of.Goals as goal

pub returns-in-Err : goal.returns-in-Err
returns-in-Err c =
    let word = c.args.command.now in
    let words = texts c.args.words.now in
    let is = (bytes_eq-Decides word (codes "apply")).0 (sym c.if-eq.ensures) in
    on_usage c.in-Err.fault ((options : ApplyOptions) → ¬ AsksApply words options)
    ((request : Request) → ¬ Asks (word ∷ words) request)
    (λ none. nothing_asked word words (λ _. none)
    (λ e _ _. apply_is_no_replay word is e) (λ e _ _. apply_is_no_scan word is e)
    (λ e _ _ _. apply_is_no_drill word is e)
    (λ e _ _ _. apply_is_no_orders word is e))
    c.in-Err.ensures

pub returns-in-Err-replay : goal.returns-in-Err-replay
returns-in-Err-replay c =
    let word = c.args.command.now in
    let words = texts c.args.words.now in
    let is = (bytes_eq-Decides word (codes "replay")).0 (sym c.if-eq-2.ensures) in
    on_usage c.in-Err-replay.fault ((options : ReplayOptions) → ¬ AsksReplay words options)
    ((request : Request) → ¬ Asks (word ∷ words) request)
    (λ none. nothing_asked word words (λ e _ _. apply_is_no_replay word e is) (λ _. none)
    (λ e _ _. replay_is_no_scan word is e) (λ e _ _ _. replay_is_no_drill word is e)
    (λ e _ _ _. replay_is_no_orders word is e))
    c.in-Err-replay.ensures

pub returns-in-None : goal.returns-in-None
returns-in-None c =
    let word = c.args.command.now in
    let is = (bytes_eq-Decides word (codes "scan")).0 (sym c.if-eq-3.ensures) in
    nothing_asked word (texts c.args.words.now) (λ e _ _. apply_is_no_scan word e is)
    (λ e _ _. replay_is_no_scan word e is) (λ _. c.in-None.ensures)
    (λ e _ _ _. scan_is_no_drill word is e) (λ e _ _ _. scan_is_no_orders word is e)

pub returns-in-None-drill : goal.returns-in-None-drill
returns-in-None-drill c =
    let word = c.args.command.now in
    let is = (bytes_eq-Decides word (codes "drill")).0 (sym c.if-eq-4.ensures) in
    nothing_asked word (texts c.args.words.now) (λ e _ _. apply_is_no_drill word e is)
    (λ e _ _. replay_is_no_drill word e is) (λ e _ _. scan_is_no_drill word e is)
    (λ _. c.in-None-drill.ensures) (λ e _ _ _. drill_is_no_orders word is e)

pub returns-in-None-orders : goal.returns-in-None-orders
returns-in-None-orders c =
    let word = c.args.command.now in
    let is = (bytes_eq-Decides word (codes "orders")).0 (sym c.if-eq-5.ensures) in
    nothing_asked word (texts c.args.words.now) (λ e _ _. apply_is_no_orders word e is)
    (λ e _ _. replay_is_no_orders word e is) (λ e _ _. scan_is_no_orders word e is)
    (λ e _ _ _. drill_is_no_orders word e is) (λ _. c.in-None-orders.ensures)
