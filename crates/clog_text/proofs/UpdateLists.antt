-- The updates of an array, one after another.
use Rattle.std.proofs.Common.{◌≡◌, ℕ, suc, ◌+◌, ◌<◌, ◌≤◌, List, [], ◌∷◌, ◌++◌, length, drop, get_or}
use Rattle.std.proofs.Common.{Result, Ok, Err, refl, sym, ap, ◌∙◌, subst, append_assoc, add-one}
use Rattle.std.proofs.Common.{drop-cons}
use Rattle.std.proofs.lemmas.List.{append-nil, drop_all}
use Rattle.serde_json.specs.View.{view, items_view}
use Rattle.serde_json.specs.declared.value.Value.{Value}
use Rattle.clog_mutation.specs.declared.mutation.Update.{Update}
use Rattle.clog_text.specs.declared.refusal.BadLine.{BadLine}
use Rattle.clog_text.specs.declared.refusal.BadLine.TheVariants.{NotJson, Field, Range, NoUpdates}
use Rattle.clog_text.specs.declared.refusal.BadLine.TheVariants.{UnknownTable, OutOfMemory}
use Rattle.std.specs.List.{AllByRecursion}
use Rattle.clog_mutation.specs.Limits.{UpdateIsWithinLimits}
use Rattle.clog_text.specs.Refusals.{Fails}
use Rattle.clog_text.specs.LineMutation.{◌>>=◌, update_of, updates_of}

-- what was read, with these in front
unfoldable pub with_front : List Update → Result (List Update) BadLine
    → Result (List Update) BadLine
with_front front reading = reading >>= λ us. Ok (front ++ us)

pub with_none : (reading : Result (List Update) BadLine) → with_front [] reading ≡ reading
unfolding with_front
with_none (Ok us) = refl
with_none (Err e) = refl

pushed : (front : List Update) (u : Update) (reading : Result (List Update) BadLine)
    → with_front (front ++ u ∷ []) reading ≡ with_front front (reading >>= λ us. Ok (u ∷ us))
unfolding with_front
pushed front u (Ok us) = ap Ok (append_assoc front (u ∷ []) us)
pushed front u (Err e) = refl

pub one_more : (vs : List Value) (i : ℕ) (v : Value) (front : List Update) (u : Update)
    → i < length vs → v ≡ get_or vs i v → update_of (view v) ≡ Ok u
    → with_front (front ++ u ∷ [])
    (updates_of (items_view (drop (i + 1) vs))) ≡ with_front front
    (updates_of (items_view (drop i vs)))
unfolding updates_of
one_more vs i v front u h is e =
    let rest = updates_of (items_view (drop (i + 1) vs)) in
    let cons : drop i vs ≡ v ∷ drop (i + 1) vs = drop-cons vs i v h
    ∙ ap (λ (x : Value). x ∷ drop (suc i) vs) (sym is)
    ∙ ap (λ k. v ∷ drop k vs) (sym (add-one i)) in
    pushed front u rest
    ∙ ap (λ (r : Result Update BadLine). with_front front (r >>= λ x. rest >>= λ us. Ok (x ∷ us)))
    (sym e)
    ∙ ap (λ (l : List Value). with_front front (updates_of (items_view l))) (sym cons)

pub all_read : (vs : List Value) (i : ℕ) (front : List Update) → length vs ≤ i
    → with_front front (updates_of (items_view (drop i vs))) ≡ Ok front
unfolding updates_of with_front
all_read vs i front h =
    ap (λ (l : List Value). with_front front (updates_of (items_view l))) (drop_all i vs h)
    ∙ ap Ok (append-nil front)

refused : (e : BadLine) (r : Result Update BadLine) (rest : Result (List Update) BadLine)
    (front : List Update) (all : Result (List Update) BadLine)
    → Fails e r → with_front front (r >>= λ x. rest >>= λ us. Ok (x ∷ us)) ≡ all → Fails e all
unfolding with_front
refused OutOfMemory r rest front all h is = tt
refused NotJson r rest front all h is =
    sym is
    ∙ ap (λ (q : Result Update BadLine). with_front front (q >>= λ x. rest >>= λ us. Ok (x ∷ us))) h
refused (Field p) r rest front all h is =
    sym is
    ∙ ap (λ (q : Result Update BadLine). with_front front (q >>= λ x. rest >>= λ us. Ok (x ∷ us))) h
refused (Range p) r rest front all h is =
    sym is
    ∙ ap (λ (q : Result Update BadLine). with_front front (q >>= λ x. rest >>= λ us. Ok (x ∷ us))) h
refused NoUpdates r rest front all h is =
    sym is
    ∙ ap (λ (q : Result Update BadLine). with_front front (q >>= λ x. rest >>= λ us. Ok (x ∷ us))) h
refused UnknownTable r rest front all h is =
    sym is
    ∙ ap (λ (q : Result Update BadLine). with_front front (q >>= λ x. rest >>= λ us. Ok (x ∷ us))) h

pub first_refused : (vs : List Value) (i : ℕ) (v : Value) (front : List Update) (e : BadLine)
    → i < length vs → v ≡ get_or vs i v → Fails e (update_of (view v))
    → with_front front (updates_of (items_view (drop i vs))) ≡ updates_of (items_view vs)
    → Fails e (updates_of (items_view vs))
unfolding updates_of
first_refused vs i v front e h is f so_far =
    let cons : drop i vs ≡ v ∷ drop (i + 1) vs = drop-cons vs i v h
    ∙ ap (λ (x : Value). x ∷ drop (suc i) vs) (sym is)
    ∙ ap (λ k. v ∷ drop k vs) (sym (add-one i)) in
    refused e (update_of (view v)) (updates_of (items_view (drop (i + 1) vs))) front
    (updates_of (items_view vs)) f
    (ap (λ (l : List Value). with_front front (updates_of (items_view l))) (sym cons) ∙ so_far)

pub within_none : (us : List Update) → us ≡ [] → AllByRecursion UpdateIsWithinLimits us
within_none us e = subst (λ (l : List Update). AllByRecursion UpdateIsWithinLimits l) (sym e) tt

pub within_push : (us : List Update) (u : Update) → AllByRecursion UpdateIsWithinLimits us
    → UpdateIsWithinLimits u → AllByRecursion UpdateIsWithinLimits (us ++ u ∷ [])
within_push [] u p q = (q, tt)
within_push (v ∷ us) u p q = (p.0, within_push us u p.1 q)
