-- Which flushes were tried, while a seat goes on from table to table.
use Rattle.std.proofs.Common.{
  ◌≡◌,
  ◌≢◌,
  ℕ,
  ◌+◌,
  ◌<◌,
  ◌≤◌,
  inl,
  inr,
  List,
  [],
  ◌∷◌,
  ◌++◌,
  get_or,
  length,
  Option,
  Some,
  None,
  sym,
  subst,
  arith,
}
use mathlib.Core.Logic.{dite}
use native.Mathlib.Decide.{ℕ_discrete}
use Rattle.path_core.specs.declared.event.Place.{Place}
use Rattle.path_core.specs.declared.event.Place.TheVariants.{TurnWord}
use Rattle.path_core.specs.declared.event.Turn.TheVariants.{Flush as FlushTurn}
use Rattle.path_rule.specs.declared.view.OwnStep.{OwnStep}
use Rattle.path_rule.specs.Calls.{FoundSince}
use Rattle.path_flush.specs.Grown.{HasGrown}
use Rattle.write_path.proofs.Rooms.{found_since}
use Rattle.clog_shares.specs.declared.tally.UpdateTally.{UpdateTally}
use Rattle.clog_shares.specs.Tallies.{IsTried, MayTry}

-- what was found is so on a trail that has grown
found_on : (before : ℕ) (at : Place) (n : ℕ) (newer older : List OwnStep)
    → FoundSince before at n older → FoundSince before at n (newer ++ older)
found_on before at n [] older F = F
found_on before at n (s ∷ ss) older F = inr (found_on before at n ss older F)

-- a table whose count is left alone
tried_on : (before t : ℕ) (tally now : UpdateTally) (old new : List OwnStep)
    → now.most ≡ tally.most → get_or now.counts t 0 ≡ get_or tally.counts t 0
    → HasGrown old new → IsTried before tally old t → IsTried before now new t
tried_on before t tally now old new most same G (inl less) =
    inl (omega (arith, less, most, same))
tried_on before t tally now old new most same G (inr found) =
    let turn = TurnWord (FlushTurn (record { 0 = t })) in
    inr (subst (λ (l : List OwnStep). FoundSince before turn 1 l) (sym G.is)
    (found_on before turn 1 G.newer old found))

-- what was found since is found since an earlier step
pub tried_since : (a b t : ℕ) (tally : UpdateTally) (trail : List OwnStep) → a ≤ b
    → IsTried b tally trail t → IsTried a tally trail t
tried_since a b t tally trail low (inl less) = inl less
tried_since a b t tally trail low (inr found) =
    inr (found_since a b low (TurnWord (FlushTurn (record { 0 = t }))) 1 trail found)

-- one table more
pub one_tried : (before i : ℕ) (tally now : UpdateTally) (old new : List OwnStep)
    → now.most ≡ tally.most
    → ((t : ℕ) → t ≢ i → get_or now.counts t 0 ≡ get_or tally.counts t 0) → HasGrown old new
    → before ≤ length old → ((t : ℕ) → t < i → IsTried before tally old t)
    → IsTried (length old) now new i → (t : ℕ) → t < i + 1 → IsTried before now new t
one_tried before i tally now old new most others G low all one t less = dite (ℕ_discrete t i)
    (λ own. subst (IsTried before now new) (sym own)
    (tried_since before (length old) i now new low one))
    (λ apart. tried_on before t tally now old new most (others t apart) G
    (all t (omega (arith, less, apart))))

pub may_since : (a b : ℕ) (tally : Option UpdateTally) (trail : List OwnStep) → a ≤ b
    → MayTry b tally trail → MayTry a tally trail
may_since a b None trail low all = tt
may_since a b (Some tally) trail low all = λ some t inside.
    tried_since a b t tally trail low (all some t inside)
