-- Parts of whole sections are whole.
use Rattle.std.proofs.Common.{ℕ, ◌≤◌, List, [], ◌∷◌, ◌++◌, arith}
use Rattle.clog_scan.specs.Cut.{Section, last_until}
use Rattle.clog_scan.specs.Laws.{AreWhole}

-- sections end behind where they begin
pub until_grows : (len at : ℕ) (ss : List Section) → AreWhole len at ss → at ≤ last_until at ss
until_grows len at [] whole = omega arith
until_grows len at (s ∷ ss) whole =
    omega (arith, whole.0.behind, until_grows len s.until ss whole.2)

pub whole_front : (len shorter at : ℕ) (ss more : List Section) → AreWhole len at (ss ++ more)
    → last_until at ss ≤ shorter → AreWhole shorter at ss
whole_front len shorter at [] more whole less = tt
whole_front len shorter at (s ∷ ss) more whole less =
    let rest = whole_front len shorter s.until ss more whole.2 less in (
      record {
        behind = whole.0.behind;
        within = omega (arith, less, until_grows shorter s.until ss rest);
        fits = whole.0.fits;
        least = whole.0.least;
      },
      whole.1,
      rest,
    )

pub whole_back : (len at : ℕ) (ss more : List Section) → AreWhole len at (ss ++ more)
    → AreWhole len (last_until at ss) more
whole_back len at [] more whole = whole
whole_back len at (s ∷ ss) more whole = whole_back len s.until ss more whole.2
