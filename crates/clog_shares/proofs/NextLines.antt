-- A writer's lines come one by one, each with its counts where they were taken.
use Rattle.std.proofs.Common.{
  ◌≡◌,
  ℕ,
  ◌+◌,
  List,
  [],
  ◌∷◌,
  ◌++◌,
  length,
  Option,
  Some,
  None,
  refl,
  sym,
  ap,
  ◌∙◌,
  subst,
  arith,
}
use Rattle.std.specs.Option.{MatchOption, option_to_list}
use Rattle.std.proofs.lemmas.List.{nil_from_length}
use Rattle.clog_base.specs.declared.sizes.Sizes.{Sizes}
use Rattle.clog_applied.specs.History.{Line}
use Rattle.path_rule.specs.declared.view.OwnStep.{OwnStep}
use Rattle.write_path.specs.declared.prepared.Prepared.{Prepared}
use Rattle.write_path.specs.Writes.{IsPrepared}
use Rattle.clog_shares.specs.declared.tally.LineCounts.{LineCounts}
use Rattle.clog_shares.specs.declared.tally.UpdateTally.{UpdateTally}
use Rattle.clog_shares.specs.Shares.{ArePrepared}
use Rattle.clog_shares.specs.Tallied.{AreCountedFor, AreCountsOf, IsCountedFor}
use Rattle.clog_shares.specs.Tallies.{MayTally, limit_of}

-- the counts of the next line come off, where they were taken
abbrev pub IsNextOf : List LineCounts → Option LineCounts → List LineCounts → Type 0
IsNextOf counts None now = (counts ≡ []) × (now ≡ [])
IsNextOf counts (Some c) now = counts ≡ c ∷ now

pub takes_next : (counts now : List LineCounts) (len left : ℕ) (c : Option LineCounts)
    → len ≡ length counts → counts ≡ option_to_list c ++ now
    → MatchOption c ((len ≡ 0) × (left ≡ 0)) (λ x. (counts ≡ x ∷ now) × (left + 1 ≡ len))
    → IsNextOf counts c now × (left ≡ length now)
takes_next counts now len left None long items is =
    let none = nil_from_length counts (omega (arith, long, is.0)) in
    let none_left : now ≡ [] = sym items ∙ none in
    ((none, none_left), is.1 ∙ ap length (sym none_left))
takes_next counts now len left (Some c) long items is =
    let more = ap length is.0 in (is.0, omega (arith, more, long, is.1))

-- no list with an element is empty
none_there : (c : LineCounts) (cs : List LineCounts) → c ∷ cs ≡ [] → ⊥
none_there c cs is = absurd (let q : c ∷ cs ≡ [] = is in cc)

next_counted : (flush : Option ℕ) (l : Line) (ls : List Line) (counts now : List LineCounts)
    (c : Option LineCounts) → IsNextOf counts c now → AreCountedFor flush (l ∷ ls) counts
    → IsCountedFor flush l.mutation c × AreCountedFor flush ls now
next_counted None l ls counts now None next are = (refl, next.1)
next_counted None l ls counts now (Some c) next are = absurd (none_there c now (sym next ∙ are))
next_counted (Some most) l ls counts now None next are =
    absurd (subst (AreCountsOf (l ∷ ls)) next.0 are)
next_counted (Some most) l ls counts now (Some c) next are =
    subst (AreCountsOf (l ∷ ls)) next are

module _ (sizes : Sizes) (w : ℕ) (flush : Option ℕ) where
  -- The writes and the counts that are to come are of these lines; the tally is of those before.
  pub record GoesCounted (rest : List Prepared) (counts : List LineCounts)
      (tally : Option UpdateTally) (trail : List OwnStep) : Type 0 where
    pub left : List Line
    pub prepared : ArePrepared sizes left rest
    pub counted : AreCountedFor flush left counts
    pub limit : limit_of tally ≡ flush
    pub tallies : MayTally w tally trail

  -- The next line, the counts of which come off.
  pub record IsNextLine (p : Prepared) (rest : List Prepared) (c : Option LineCounts)
      (now : List LineCounts) : Type 0 where
    pub line : Line
    pub others : List Line
    pub prepared : IsPrepared sizes line.number line.mutation p
    pub counted : IsCountedFor flush line.mutation c
    pub prepared_others : ArePrepared sizes others rest
    pub counted_others : AreCountedFor flush others now

  pub next_line : (p : Prepared) (rest : List Prepared) (counts now : List LineCounts)
      (c : Option LineCounts) (tally : Option UpdateTally) (trail : List OwnStep)
      → GoesCounted (p ∷ rest) counts tally trail → IsNextOf counts c now
      → IsNextLine p rest c now
  next_line p rest counts now c tally trail g next = by g.left g.prepared g.counted
    where
      by : (left : List Line) → ArePrepared sizes left (p ∷ rest)
          → AreCountedFor flush left counts → IsNextLine p rest c now
      by [] prepared counted = absurd prepared
      by (l ∷ ls) prepared counted =
          let one = next_counted flush l ls counts now c next counted in record {
            line = l;
            others = ls;
            prepared = prepared.0;
            counted = one.0;
            prepared_others = prepared.1;
            counted_others = one.1;
          }
