use Rattle.std.proofs.Common.{◌≡◌, ℕ, ◌<◌, inl, inr, List, [], ◌∷◌, refl, sym, ap, subst, arith}
use Rattle.std.proofs.lemmas.Bool.{cases_eq}
use Rattle.clog_base.proofs.Members.{first_or_further, nothing_there}
use Rattle.clog_applied.specs.History.{Line, LoggedLine, share_of, written_by}
use Rattle.clog_closing.specs.Written.{AreFirstLines}
use Rattle.clog_writers.specs.Worked.{all_three, line_by, second_alone, three_lines}
use Rattle.clog_writers.proofs.rows.a_line_comes_behind_the_earlier_ones_of_its_writer.Goals as goal

-- what holds of both writers
both : (P : ℕ → Type 0) → P 0 → P 1 → (w : ℕ) → w < 2 → P w
both P zeroth first w low = elim (cases_eq w 0) [
  | inl none ↦ subst P (sym none) zeroth
  | inr some ↦ subst P (let is : 1 ≡ w = omega (arith, low, some) in is) first
]

abbrev Firsts : List LoggedLine → ℕ → Type 0
Firsts history w = AreFirstLines (share_of 2 w three_lines) (written_by w history)

-- the writer of one of these is below 2
low : (v w : LoggedLine) → v.writer < 2 → v ≡ w → w.writer < 2
low v w less same = subst (λ (x : LoggedLine). x.writer < 2) same less

pub returns-clause-other : goal.returns-clause-other
returns-clause-other g = record {
  known = λ w among. elim (first_or_further (line_by 0 2 28) [] w among) [
    | inl same ↦ low (line_by 0 2 28) w (omega arith) same
    | inr none ↦ absurd (nothing_there w none)
  ];
  firsts = both (Firsts second_alone) (record { rest = []; parts = refl })
      (record { rest = share_of 2 1 three_lines; parts = refl });
}

pub returns-clause-all : goal.returns-clause-all
returns-clause-all g =
    let first = line_by 1 1 60 in
    let third = line_by 1 3 92 in
    record {
      known = λ w among.
          elim (first_or_further (line_by 0 2 28) (first ∷ third ∷ []) w among) [
            | inl same ↦ low (line_by 0 2 28) w (omega arith) same
            | inr more ↦ elim (first_or_further first (third ∷ []) w more) [
              | inl same ↦ low first w (omega arith) same
              | inr last ↦ elim (first_or_further third [] w last) [
                | inl same ↦ low third w (omega arith) same
                | inr none ↦ absurd (nothing_there w none)
              ]
            ]
          ];
      firsts = both (Firsts all_three) (record { rest = []; parts = refl })
          (record { rest = []; parts = refl });
    }

-- the number of the first
number : List Line → ℕ
number [] = 0
number (l ∷ ls) = l.number

pub returns-clause-own : goal.returns-clause-own
unfolding number
returns-clause-own g = λ held.
    let no : 1 ≡ 3 = ap number (held.firsts 1 (omega arith)).parts in omega (arith, no)

pub returns-clause-foreign : goal.returns-clause-foreign
unfolding number
returns-clause-foreign g = λ held.
    let no : 1 ≡ 2 = ap number (held.firsts 1 (omega arith)).parts in omega (arith, no)
