-- A write that asks the memtables of one table after another.
use Rattle.std.proofs.Common.{
  ◌≡◌,
  ◌≢◌,
  ℕ,
  suc,
  List,
  [],
  ◌∷◌,
  ◌++◌,
  sym,
  ap,
  ◌∙◌,
  subst,
  arith,
}
use Rattle.std.proofs.lemmas.List.{append_assoc}
use Rattle.atomic_table.specs.Seated.{TableId}
use Rattle.path_core.specs.declared.seat.SeatTable.{SeatTable}
use Rattle.path_core.specs.Parts.{seat_table}
use Rattle.path_rule.specs.declared.view.OwnStep.{OwnStep}
use Rattle.path_rule.specs.declared.view.PathSize.{PathSize}
use Rattle.path_table.specs.Members.{part_of}
use Rattle.write_path.specs.declared.deposited.Deposited.{Deposited}
use Rattle.write_path.specs.Ends.{AreTries, IsSameWrite, IsUntriedFrom}

pub are_both : (w : ℕ) (ts us : List OwnStep) → AreTries w ts → AreTries w us
    → AreTries w (ts ++ us)
are_both w [] us A B = B
are_both w (t ∷ ts) us A B = (A.0, are_both w ts us A.1 B)

module _ {K : Type 0} (id : TableId) (size : PathSize) where
  pub same_then : (s t u : Deposited K) → IsSameWrite id size s t → IsSameWrite id size t u
      → IsSameWrite id size s u
  same_then s t u A B = record {
    member = (B.member.0, B.member.1 ∙ A.member.1);
    writing = B.writing ∙ A.writing;
    start = B.start ∙ A.start;
    end = B.end ∙ A.end;
    tables = B.tables ∙ A.tables;
    list = B.list ∙ A.list;
    tried = record {
      tries = B.tried.tries ++ A.tried.tries;
      are = are_both s.member.number B.tried.tries A.tried.tries
          (subst (λ w. AreTries w B.tried.tries) A.member.1 B.tried.are) A.tried.are;
      trail = B.tried.trail ∙ (ap (λ l. B.tried.tries ++ l) A.tried.trail
          ∙ sym (append_assoc B.tried.tries A.tried.tries s.member.seat.me.0.trail));
      hands = B.tried.hands ∙ A.tried.hands;
      returned = B.tried.returned ∙ A.tried.returned;
    };
  }

module _ {K : Type 0} (k : ℕ) (s : Deposited K) where
  -- what it does at other tables stays
  pub untried_past : (u : Deposited K)
      → ((t : ℕ) → t ≢ k → seat_table (part_of u.member) t ≡ seat_table (part_of s.member) t)
      → IsUntriedFrom k s → IsUntriedFrom (suc k) u
  untried_past u others untried t low =
      ap (λ (st : SeatTable). st.trying) (others t (λ same. absurd (omega arith)))
      ∙ untried t (omega arith)
