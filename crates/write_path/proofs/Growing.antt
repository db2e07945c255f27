-- A seat's trail grows from step to step, and over calls one behind another.
use Rattle.std.proofs.Common.{◌≡◌, ℕ, ◌+◌, ◌≤◌, List, [], ◌∷◌, ◌++◌, length, refl, sym, ap, ◌∙◌}
use Rattle.std.proofs.Common.{⊎_elim, arith, None}
use Rattle.std.proofs.lemmas.List.{append_assoc, length-append}
use Rattle.atomic_table.specs.Seated.{TableId}
use Rattle.op_core.specs.declared.count.Order.{Order}
use Rattle.op_core.specs.declared.count.Order.TheVariants.{Write, Append}
use Rattle.path_core.specs.declared.event.Carried.TheVariants.{Nothing, Applied}
use Rattle.path_core.specs.declared.event.ClaimKind.TheVariants.{Entry}
use Rattle.path_core.specs.declared.event.Event.{Event}
use Rattle.path_core.specs.declared.event.Event.TheVariants.{Look, Register, Close, OpenGroup}
use Rattle.path_core.specs.declared.event.Event.TheVariants.{MoveCurrent, Expire, Advance, Claim}
use Rattle.path_core.specs.declared.event.Event.TheVariants.{Switch, Raise, Finalise, TakeTurn}
use Rattle.path_core.specs.declared.event.Event.TheVariants.{GiveTurn, Put}
use Rattle.path_core.specs.declared.event.Place.TheVariants.{Count, Current, Log}
use Rattle.op_core.specs.CountWords.{number_in}
use Rattle.path_rule.specs.declared.view.OwnStep.{OwnStep}
use Rattle.path_rule.specs.declared.view.PathSize.{PathSize}
use Rattle.path_rule.specs.declared.view.View.{View}
use Rattle.path_rule.specs.Calls.{Did, Started}
use Rattle.path_rule.specs.Issued.{issued_in}
use Rattle.path_table.specs.declared.table.Member.{Member}
use Rattle.write_path.specs.declared.deposited.Deposited.{Deposited}
use Rattle.write_path.specs.Claims.{IsClaim, IsAgain, IsSpent}
use Rattle.write_path.specs.Commits.{KeepsMemtables}
use Rattle.path_flush.specs.OwnWrites.{writes_of}
use Rattle.write_path.specs.Ends.{AreTries, EndsWrite, IsTry}
use Rattle.path_flush.specs.FlushSteps.{RetiresNo, RetiresNone, SwitchesNo, SwitchesNone}
use Rattle.path_flush.specs.Grown.{HasGrown}
use Rattle.path_flush.specs.Seats.{Stays}
use Rattle.write_path.specs.Tries.{Joined, OnlyLooked}
use Rattle.write_path.specs.Unretired.{GrowsUnretired}
use Rattle.path_flush.proofs.SwitchGoes.{kept_both, none_both}

-- by no step, by one, and by those of two calls
pub unmoved : (a b : List OwnStep) → b ≡ a → HasGrown a b
unmoved a b same = record { newer = []; is = same }

abbrev pub both : (a b c : List OwnStep) → HasGrown a b → HasGrown b c → HasGrown a c
both a b c G H = record {
  newer = H.newer ++ G.newer;
  is = H.is ∙ (ap (λ l. H.newer ++ l) G.is ∙ sym (append_assoc H.newer G.newer a));
}

-- the same of steps that retire no memtable, and switch none
pub then_kept : (a b c : List OwnStep) → GrowsUnretired a b → GrowsUnretired b c
    → GrowsUnretired a c
then_kept a b c G H = (
  both a b c G.0 H.0,
  kept_both H.0.newer G.0.newer H.1 G.1,
  none_both H.0.newer G.0.newer H.2 G.2,
)

pub one_step : (v : View) (w : ℕ) (e : Event) (n : ℕ) (after : View) → RetiresNo e
    → SwitchesNo e → Did v w e n after → GrowsUnretired v.trail after.trail
one_step v w e n after keeps leaves D = (
  record {
    newer = record { event = e; found = n; filed = None } ∷ [];
    is = ap (λ (u : View). u.trail) D.view;
  },
  (keeps, tt),
  (leaves, tt),
)

-- so it is as long at least
pub no_shorter : (a b : List OwnStep) → HasGrown a b → length a ≤ length b
no_shorter a b G = let long = ap (λ (l : List OwnStep). length l) G.is in
    let sum = length-append G.newer a in omega arith

abbrev step : Event → ℕ → OwnStep
step e n = record { event = e; found = n; filed = None }

-- tries at memtables retire none
try_keeps : (w : ℕ) (e : Event) → IsTry w e → RetiresNo e
try_keeps w (Look by at) is = tt
try_keeps w (Raise by t m to) is = tt
try_keeps w (Register by o g) is = tt
try_keeps w (Close by o g carried) is = tt
try_keeps w (OpenGroup by o g) is = tt
try_keeps w (MoveCurrent by o g) is = tt
try_keeps w (Expire by o g) is = tt
try_keeps w (Advance by o g) is = tt
try_keeps w (Claim by from to what) is = tt
try_keeps w (Switch by t m part) is = tt
try_keeps w (Finalise by t m) is = tt
try_keeps w (TakeTurn by turn) is = tt
try_keeps w (GiveTurn by turn) is = tt
try_keeps w (Put by cursor value) is = absurd is

tries_keep : (w : ℕ) (ts : List OwnStep) → AreTries w ts → RetiresNone ts
tries_keep w [] A = tt
tries_keep w (t ∷ ts) A = (try_keeps w t.event A.0, tries_keep w ts A.1)

-- nor do they switch one
try_leaves : (w : ℕ) (e : Event) → IsTry w e → SwitchesNo e
try_leaves w (Switch by t m part) is = absurd is
try_leaves w (Finalise by t m) is = absurd is
try_leaves w e is = tt

tries_leave : (w : ℕ) (ts : List OwnStep) → AreTries w ts → SwitchesNone ts
tries_leave w [] A = tt
tries_leave w (t ∷ ts) A = (try_leaves w t.event A.0, tries_leave w ts A.1)

-- a write that ends, by its looks and its last step
pub ended : {K : Type 0} (s : Deposited K) (after : Member K) → EndsWrite s after
    → GrowsUnretired s.member.seat.me.0.trail after.seat.me.0.trail
ended s after E = then_kept s.member.seat.me.0.trail E.before.trail after.seat.me.0.trail (
  record { newer = E.tried.tries; is = E.tried.trail },
  tries_keep s.member.number E.tried.tries E.tried.are,
  tries_leave s.member.number E.tried.tries E.tried.are,
)
    (one_step E.before s.member.number (Close s.member.number Write s.writing (Applied E.places))
    E.found after.seat.me.0 tt tt E.did)

-- ---- by the single tries, which leave the list

module _ {K : Type 0} (id : TableId) (size : PathSize) (m m' : Member K)
    (stays : Stays id size m m') where
  by : (u : View) (newer : List OwnStep) → m'.seat.me.0 ≡ u → u.trail ≡ newer ++ m.seat.me.0.trail
      → writes_of u.trail ≡ writes_of m.seat.me.0.trail → RetiresNone newer
      → SwitchesNone newer → issued_in u.trail ≡ issued_in m.seat.me.0.trail
      → KeepsMemtables id size m m'
  by u newer view trail list kept leaves issues = (
    stays,
    ap (λ (v : View). writes_of v.trail) view ∙ list,
    record { newer = newer; is = ap (λ (v : View). v.trail) view ∙ trail },
    kept,
    leaves,
    ap (λ (v : View). issued_in v.trail) view ∙ issues,
  )

  -- a look at the current group of an order and one at the word of its count
  abbrev looks : Order → ℕ → ℕ → List OwnStep
  looks o g k = step (Look m.number (Count o (number_in k))) k ∷ step (Look m.number (Current o)) g
      ∷ []

  pub started : (g : ℕ) → Started m.seat.me.0 m.number Write g m'.seat.me.0
      → KeepsMemtables id size m m'
  started g S = by _ (step (Register m.number Write g) (S.looked + 1) ∷ looks Write g S.looked)
      S.did.view refl refl (tt, (tt, (tt, tt))) (tt, (tt, (tt, tt))) refl

  pub joined : (g : ℕ) → Joined m.seat.me.0 m.number g m'.seat.me.0 → KeepsMemtables id size m m'
  joined g J = by _ (step (Register m.number Append g) (J.looked + 1) ∷ looks Append g J.looked)
      J.did.view refl refl (tt, (tt, (tt, tt))) (tt, (tt, (tt, tt))) refl

  pub only_looked : (o : Order) (k n : ℕ)
      → OnlyLooked o m.seat.me.0 m.number k n m'.seat.me.0 → KeepsMemtables id size m m'
  only_looked o k n L = let g = L.refused.group in ⊎_elim
      (λ once. by _ (looks o g k) once refl refl (tt, (tt, tt)) (tt, (tt, tt)) refl)
      (λ again. by _ (step (Look m.number (Count o (number_in n))) n ∷ looks o g k) again refl refl
      (tt, (tt, (tt, tt))) (tt, (tt, (tt, tt))) refl)
      L.refused.view

  pub claimed : (to : ℕ) → IsClaim m.seat.me.0 m.number to m'.seat.me.0
      → KeepsMemtables id size m m'
  claimed to C = by _ (step (Claim m.number (record { 0 = C.looked }) (record { 0 = to }) Entry) to
      ∷ step (Look m.number Log) C.looked ∷ []) C.did.view refl refl (tt, (tt, tt)) (tt, (tt, tt))
      refl

  pub again : (bytes k n : ℕ) → IsAgain size m.seat.me.0 m.number bytes k n m'.seat.me.0
      → KeepsMemtables id size m m'
  again bytes k n A = by _ (step (Look m.number Log) n ∷ step (Look m.number Log) k ∷ []) A.view
      refl refl (tt, (tt, tt)) (tt, (tt, tt)) refl

  pub spent : (bytes key : ℕ) → IsSpent size m.seat.me.0 m.number bytes key m'.seat.me.0
      → KeepsMemtables id size m m'
  spent bytes key S = by _ (step (Look m.number Log) key ∷ []) S.view refl refl (tt, tt) (tt, tt)
      refl

  -- a seat that leaves an order with nothing
  pub left : (o : Order) (g n : ℕ)
      → Did m.seat.me.0 m.number (Close m.number o g Nothing) n m'.seat.me.0
      → KeepsMemtables id size m m'
  left o g n D = by _ (step (Close m.number o g Nothing) n ∷ []) D.view refl refl (tt, tt) (tt, tt)
      refl

-- ---- by calls one behind another

pub keeps_on : {K : Type 0} (id : TableId) (size : PathSize) (m m' m'' : Member K)
    → KeepsMemtables id size m m' → KeepsMemtables id size m' m'' → KeepsMemtables id size m m''
keeps_on id size m m' m'' A B = (
  (B.0.0, B.0.1 ∙ A.0.1),
  B.1 ∙ A.1,
  both m.seat.me.0.trail m'.seat.me.0.trail m''.seat.me.0.trail A.2 B.2,
  kept_both B.2.newer A.2.newer B.3 A.3,
  none_both B.2.newer A.2.newer B.4 A.4,
  B.5 ∙ A.5,
)

-- a seat that made no step, as a call begins
pub keeps_first : {K : Type 0} (id : TableId) (size : PathSize) (m : Member K)
    → (m.seat.table_id ≡ id) × (m.seat.me.0.size ≡ size) → KeepsMemtables id size m m
keeps_first id size m of = ((of, refl), refl, record { newer = []; is = refl }, tt, tt, refl)
