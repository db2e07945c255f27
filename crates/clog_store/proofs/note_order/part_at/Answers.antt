use Rattle.std.proofs.Common.{◌≡◌, List, take, drop, sym, subst, rules}
use Rattle.std.specs.List.Sorted.{IsNonDecreasingBy, IsPermutation}
use Rattle.std.proofs.lemmas.List.Sorted.{IsNonDecreasingBy-from_sort_by_key}
use Rattle.path_core.specs.declared.note.EntryNote.{EntryNote}
use Rattle.path_core.specs.Keeper.{IsParted}
use Rattle.path_core.proofs.lists.PartedNotes.{parted}
use Rattle.clog_store.proofs.note_order.part_at.Goals as goal

pub count_up_to-requires : goal.count_up_to-requires
count_up_to-requires c = subst (IsNonDecreasingBy (λ (n : EntryNote). n.end.0))
    (sym c.deref.ensures.value)
    (IsNonDecreasingBy-from_sort_by_key (λ (n : EntryNote). n.end.0) _
    c.sort_unstable_by_key.ensures.sorted (λ a r q k. search rules))

pub returns-clause-parted : goal.returns-clause-parted
returns-clause-parted c =
    let sorted : List EntryNote = c.sort_unstable_by_key.new.self.items in
    let shown : c.deref.result.now ≡ sorted = c.deref.ensures.value in
    let count = c.count_up_to.result in
    let asks = c.count_up_to.ensures in
    subst (λ l. IsParted c.args.upto c.args.pending.now.items (take count l) (drop count l)) shown
    (parted c.args.upto count c.args.pending.now.items c.deref.result.now
    (subst (IsPermutation c.args.pending.now.items) (sym shown)
    c.sort_unstable_by_key.ensures.permutation)
    (subst (IsNonDecreasingBy (λ (n : EntryNote). n.end.0)) (sym shown)
    (IsNonDecreasingBy-from_sort_by_key (λ (n : EntryNote). n.end.0) _
    c.sort_unstable_by_key.ensures.sorted (λ a r q k. search rules)))
    asks.within asks.low asks.high)
