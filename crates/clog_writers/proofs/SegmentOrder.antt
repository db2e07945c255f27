-- Lines stand in the order of the segments that say them.
use Rattle.std.proofs.Common.{
  ◌≡◌,
  ℕ,
  ◌<◌,
  ◌≤◌,
  inl,
  inr,
  List,
  [],
  ◌∷◌,
  ◌++◌,
  map,
  get_or,
  sym,
  ap,
  subst,
  arith,
}
use Rattle.std.specs.List.{AllPairs, Contains, flat_map}
use Rattle.std.proofs.lemmas.List.{get_or-map, length-map}
use Rattle.std.proofs.lemmas.List.Elements.{Contains-append_cases, Contains-get_or}
use Rattle.clog_base.proofs.Members.{from_flat, from_map, further, here}
use Rattle.clog_mutation.specs.declared.mutation.Mutation.{Mutation}
use Rattle.clog_scan.specs.Segment.{Entry}
use Rattle.clog_crash.specs.Log.{Write}
use Rattle.clog_crash.specs.Runs.{Placed, placed, placed_of}
use Rattle.clog_applied.specs.History.{LoggedLine, entry_of}
use Rattle.clog_segments.specs.Grows.{IsLower}
use Rattle.clog_layout.proofs.Pairs.{pairs_cons, pairs_none}
use Rattle.path_core.proofs.lists.Heads.{ahead, behind}
use Rattle.clog_writers.specs.Left.{SaysShares}

abbrev IsNoLater : Placed → Placed → Type 0
IsNoLater p q = p.0 ≤ q.0

-- entries of one segment
of_one : (id : ℕ) (entries : List Entry) (p : Placed) → Contains (placed id entries) p
    → p.0 ≡ id
of_one id entries p among =
    let found = from_map (λ (e : Entry). (id, e)) entries p among in
    ap (λ (q : Placed). q.0) (sym found.2)

in_one : (id : ℕ) (entries : List Entry) → AllPairs IsNoLater (placed id entries)
in_one id entries i j d low high =
    let ps = placed id entries in
    let a = of_one id entries (get_or ps i d) (Contains-get_or ps i d (omega (arith, low, high))) in
    let b = of_one id entries (get_or ps j d) (Contains-get_or ps j d high) in
    omega (arith, a, b)

-- those of one list, and behind them those of another
both : (ps qs : List Placed) → AllPairs IsNoLater ps → AllPairs IsNoLater qs
    → ((p q : Placed) → Contains ps p → Contains qs q → p.0 ≤ q.0) → AllPairs IsNoLater (ps ++ qs)
both [] qs first then across = then
both (p ∷ ps) qs first then across =
    pairs_cons IsNoLater p (ps ++ qs) (λ q among. elim (Contains-append_cases ps qs q among) [
      | inl early ↦ ahead IsNoLater p ps first q early
      | inr late ↦ across p q (here p ps) late
    ])
    (both ps qs (behind IsNoLater p ps first) then
    (λ a b early late. across a b (further p ps a early) late))

-- those of segments in the order of their ids
in_all : (log : List Write) → AllPairs IsLower log → AllPairs IsNoLater (flat_map placed_of log)
in_all [] rise = pairs_none IsNoLater
in_all (w ∷ ws) rise =
    both (placed_of w) (flat_map placed_of ws) (in_one w.id _)
    (in_all ws (behind IsLower w ws rise)) (λ p q early late.
    let found = from_flat placed_of ws q late in
    let less = ahead IsLower w ws rise found.0 found.1 in
    let a = of_one w.id _ p early in
    let b = of_one found.0.id _ q found.2 in
    omega (arith, less, a, b))

pub lines_ascend : (writers : ℕ) (ms : List Mutation) (log : List Write)
    (history : List LoggedLine) → AllPairs (λ (a b : Write). a.id < b.id) log
    → SaysShares writers ms log history → AllPairs (λ (a b : LoggedLine). a.id ≤ b.id) history
lines_ascend writers ms log history rise said i j d low high =
    let its : LoggedLine → Placed = λ w. (w.id, entry_of w) in
    let all : AllPairs IsNoLater (map its history) =
    subst (AllPairs IsNoLater) said.says (in_all log rise) in
    let long = length-map history its in
    let pair = all i j (its d) low (omega (arith, high, long)) in
    let a = get_or-map its history i d (its d) (omega (arith, low, high)) in
    let b = get_or-map its history j d (its d) high in
    omega (arith, pair, ap (λ (p : Placed). p.0) a, ap (λ (p : Placed). p.0) b)
