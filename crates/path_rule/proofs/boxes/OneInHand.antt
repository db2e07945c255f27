-- No two seats have one box of a memtable in hand, as their own or to read it.
use Rattle.std.proofs.Common.{◌≡◌, ℕ, Some, is_some, refl, sym, ap, ◌∙◌, ⊎_elim, arith}
use Rattle.std.proofs.lemmas.Option.{none-some}
use mathlib.Core.Option.{some}
use lib.ListN.{get_elem?}
use Rattle.atomic_table.specs.Table.{State}
use Rattle.path_core.specs.declared.event.Turn.TheVariants.{Flush}
use Rattle.path_core.specs.declared.seat.Seat.{Seat}
use Rattle.path_core.specs.Parts.{seat_of, seat_table}
use Rattle.path_rule.specs.declared.lasting.Beside.{Beside}
use Rattle.path_rule.specs.declared.lasting.Lasting.{Lasting}
use Rattle.path_rule.specs.declared.slot.Slot.{Slot}
use Rattle.path_rule.specs.declared.view.PathSize.{PathSize}
use Rattle.path_rule.specs.declared.view.Role.{Role}
use Rattle.path_rule.specs.declared.view.Role.TheVariants.{Opener, Steps, Spent}
use Rattle.path_rule.specs.declared.view.View.{View}
use Rattle.path_rule.specs.Memtables.{HasInHand, PutsAs, ReadsBox}
use Rattle.path_rule.specs.Reads.{ReadsAs}
use Rattle.path_rule.specs.Rule.{Knows, Ruled}
use Rattle.path_rule.proofs.boxes.InItsBox.{one_keeper}
use Rattle.path_rule.proofs.boxes.ReadsStay.{near_reads, none_reads}
use Rattle.path_rule.proofs.moves.Moving.{core_lawful, part_is}

module _ {K : Type 0} (shows : K → Lasting) (o : Beside) (size : PathSize) (s : State (Slot K) View)
    (r : Ruled shows o size s) where
  -- one that a seat has as its own nobody reads
  own_unread : (j i b : ℕ) (u v : View) → get_elem? s.views j ≡ some u
      → get_elem? s.views i ≡ some v → u.hands.memtable_box ≡ Some b → ReadsBox v.hands b → ⊥
  own_unread j i b u v at there has Q =
      by u.role refl v.role (r.memtables.in_hands j u at) (r.reads i v there)
    where
      by : (ρ : Role) → u.role ≡ ρ → (σ : Role)
          → PutsAs r.memtables.contents size.seats u.part u.hands ρ
          → ReadsAs size.seats r.core v.part v.hands σ → ⊥
      by (Opener n) is σ P S = none-some b (sym P ∙ has)
      by Spent is σ P S = none-some b (sym P ∙ has)
      by (Steps z) is (Opener n) P S = none-some Q.0 (sym S ∙ Q.1)
      by (Steps z) is Spent P S = none-some Q.0 (sym S ∙ Q.1)
      by (Steps z) is (Steps y) P S = let I = (P.in_hand b has).0 in let H = S Q.0 Q.1 in
          let box = (H.next b Q.2).0 in let own = I.is in let few = H.few in let small = I.few in
          let table : I.table ≡ Q.0.table = omega arith in
          none_reads r.core (core_lawful shows o size s r) z Q.0.table I.memtable Q.0.memtable
          (ap (λ (k : ℕ). (seat_table (seat_of r.core z) k).place) (sym table)
          ∙ (ap (λ (p : Seat). (seat_table p I.table).place)
          (sym (part_is shows o size s r j z u at is)) ∙ I.place)) H.passed
          (near_reads size.seats r.core v.part Q.0 H) (omega arith)

  -- one seat reads it
  one_reader : (j i b : ℕ) (u v : View) → get_elem? s.views j ≡ some u
      → get_elem? s.views i ≡ some v → ReadsBox u.hands b → ReadsBox v.hands b → j ≡ i
  one_reader j i b u v at there N Q = by u.role refl v.role refl (r.reads j u at)
      (r.reads i v there) (r.each_seat j u at).1 (r.each_seat i v there).1
    where
      by : (ρ : Role) → u.role ≡ ρ → (σ : Role) → v.role ≡ σ
          → ReadsAs size.seats r.core u.part u.hands ρ → ReadsAs size.seats r.core v.part v.hands σ
          → Knows r.core r.events r.owner r.made r.boss j ρ u.part u.trail u.returned
          → Knows r.core r.events r.owner r.made r.boss i σ v.part v.trail v.returned → j ≡ i
      by (Opener n) is σ is' R S k q = absurd (none-some N.0 (sym R ∙ N.1))
      by Spent is σ is' R S k q = absurd (none-some N.0 (sym R ∙ N.1))
      by (Steps z) is (Opener n) is' R S k q = absurd (none-some Q.0 (sym S ∙ Q.1))
      by (Steps z) is Spent is' R S k q = absurd (none-some Q.0 (sym S ∙ Q.1))
      by (Steps z) is (Steps y) is' R S k q = let H = R N.0 N.1 in let G = S Q.0 Q.1 in
          let mine = (H.next b N.2).0 in let yours = (G.next b Q.2).0 in let few = H.few in
          let small = G.few in let table : N.0.table ≡ Q.0.table = omega arith in
          let same : z ≡ y = (core_lawful shows o size s r).orders.one_holder_a_turn.one
          (Flush (record { 0 = Q.0.table })) z y
          (ap (λ (p : Seat). is_some (seat_table p Q.0.table).flush)
          (sym (part_is shows o size s r j z u at is))
          ∙ (ap (λ (c : ℕ). is_some (seat_table u.part c).flush) (sym table)
          ∙ H.held))
          (ap (λ (p : Seat). is_some (seat_table p Q.0.table).flush)
          (sym (part_is shows o size s r i y v there is'))
          ∙ G.held) in
          sym k.0.1 ∙ (ap r.owner same ∙ q.0.1)

  pub one_in_hand : (j i b : ℕ) (u v : View) → get_elem? s.views j ≡ some u
      → get_elem? s.views i ≡ some v → HasInHand u.hands b → HasInHand v.hands b → j ≡ i
  one_in_hand j i b u v at there mine yours = ⊎_elim
      (λ has. ⊎_elim (λ holds. one_keeper shows o size s r j i b u v at there has holds)
      (λ Q. absurd (own_unread j i b u v at there has Q)) yours)
      (λ N. ⊎_elim (λ holds. absurd (own_unread i j b v u there at holds N))
      (λ Q. one_reader j i b u v at there N Q) yours) mine
