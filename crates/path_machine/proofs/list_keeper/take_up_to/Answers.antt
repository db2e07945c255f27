use Rattle.std.proofs.Common.{◌≡◌, ℕ, List, take, drop, sym, subst, rules}
use Rattle.std.specs.List.Sorted.{IsNonDecreasingBy, IsPermutation}
use Rattle.std.proofs.lemmas.List.Sorted.{IsNonDecreasingBy-from_sort_by_key}
use Rattle.path_core.specs.declared.note.EntryNote.{EntryNote}
use Rattle.path_core.specs.Keeper.{IsParted}
use Rattle.path_core.proofs.lists.PartedNotes.{parted}
use Rattle.path_machine.proofs.list_keeper.take_up_to.Goals as goal

pub count_up_to-count-requires : goal.count_up_to-count-requires
count_up_to-count-requires c = subst (IsNonDecreasingBy (λ (n : EntryNote). n.end.0))
    (sym c.deref.ensures.value)
    (IsNonDecreasingBy-from_sort_by_key (λ (n : EntryNote). n.end.0) _
    c.sort_unstable_by_key.ensures.sorted (λ a r q k. search rules))

pub returns-clause-taken : goal.returns-clause-taken
returns-clause-taken c =
    let sorted : List EntryNote = c.sort_unstable_by_key.new.self.items in
    let shown : c.deref.result.now ≡ sorted = c.deref.ensures.value in
    let count : ℕ = c.count_up_to-count.result in
    let asks = c.count_up_to-count.ensures in
    let all = parted c.args.upto count c.args.pending.now.items c.deref.result.now
    (subst (IsPermutation c.args.pending.now.items) (sym shown)
    c.sort_unstable_by_key.ensures.permutation)
    (subst (IsNonDecreasingBy (λ (n : EntryNote). n.end.0)) (sym shown)
    (IsNonDecreasingBy-from_sort_by_key (λ (n : EntryNote). n.end.0) _
    c.sort_unstable_by_key.ensures.sorted (λ a r q k. search rules)))
    asks.within asks.low asks.high in
    let run : c.replace.result.items ≡ take count sorted = search rules in
    let left : c.replace.new.dest.items ≡ drop count sorted = search rules in
    subst (λ l. IsParted c.args.upto c.args.pending.now.items l c.replace.new.dest.items) (sym run)
    (subst (λ l. IsParted c.args.upto c.args.pending.now.items (take count sorted) l) (sym left)
    (subst (λ l. IsParted c.args.upto c.args.pending.now.items (take count l) (drop count l)) shown
    all))
