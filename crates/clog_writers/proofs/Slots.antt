-- Receipts are put at the places of their lines, one after another.
use Rattle.std.proofs.Common.{◌≡◌, ℕ, ◌+◌, ◌<◌, ◌≤◌, List, get_or, length, sym, ap, ◌∙◌, arith}
use Rattle.std.specs.Prelude.{Contains}
use mathlib.Core.Logic.{dite}
use native.Mathlib.Decide.{ℕ_discrete, dec_lt}
use Rattle.path_core.specs.declared.note.EntryNote.{EntryNote}
use Rattle.write_path.specs.declared.commit.Receipt.{Receipt}
use Rattle.clog_writers.specs.Placed.{AreAtTheirLines, HasItsReceipt, receipt_of}

module _ (base : ℕ) (notes : List EntryNote) where
  -- The lines of the first entries have their receipts.
  pub record PlacedTo (j : ℕ) (receipts : List Receipt) : Type 0 where
    pub each : (k : ℕ) (d : EntryNote) → k < j → (i : ℕ) → (get_or notes k d).line ≡ i + 1
        → i < length receipts → HasItsReceipt base notes receipts i

  pub none_placed : (receipts : List Receipt) → PlacedTo 0 receipts
  none_placed receipts = record {
    each = λ k d low i line inside. absurd (omega (arith, low));
  }

  pub one_placed : (j : ℕ) (old now : List Receipt) (n : EntryNote) → Contains notes n
      → ((d : EntryNote) → get_or notes j d ≡ n) → length now ≡ length old
      → ((i : ℕ) (d : Receipt) → n.line ≡ i + 1 → i < length old
      → get_or now i d ≡ receipt_of base n)
      → ((i : ℕ) (d : Receipt) → (n.line ≡ i + 1 → ⊥) → get_or now i d ≡ get_or old i d)
      → PlacedTo j old → PlacedTo (j + 1) now
  one_placed j old now n among is long here others placed = record {
    each = λ k d low i line inside.
        dite (ℕ_discrete n.line (i + 1))
        (λ own. record {
          note = n;
          among = among;
          line = own;
          is = λ e. here i e own (omega (arith, inside, long));
        })
        (λ other. dite (dec_lt k j)
        (λ before.
        let old_one = placed.each k d before i line (omega (arith, inside, long)) in
        record {
          note = old_one.note;
          among = old_one.among;
          line = old_one.line;
          is = λ e. others i e other ∙ old_one.is e;
        })
        (λ late.
        let last : k ≡ j = omega (arith, low, late) in
        absurd (other (ap (λ (m : EntryNote). m.line)
        (sym (ap (λ (x : ℕ). get_or notes x d) last ∙ is d)) ∙ line))));
  }

  pub all_placed : (j : ℕ) (receipts : List Receipt) → length notes ≤ j → PlacedTo j receipts
      → AreAtTheirLines base notes receipts
  all_placed j receipts all placed = record {
    each = λ n among i line inside.
        let low = among.1 in
        placed.each among.0 n (omega (arith, low, all)) i
        (ap (λ (m : EntryNote). m.line) among.2 ∙ line) inside;
  }
