use Rattle.std.proofs.Common.{◌≡◌, ◌++◌, [], ◌∷◌, zero, suc, refl, sym, ap, ◌∙◌, subst, arith}
use Rattle.std.specs.List.{Contains}
use Rattle.std.proofs.lemmas.List.Sorted.{IsPermutation-refl}
use mathlib.Core.Logic.{inl}
use Rattle.path_core.specs.declared.note.EntryNote.{EntryNote}
use Rattle.path_core.specs.Keys.{after}
use Rattle.path_core.specs.Keeper.{IsWritable, GoOnBehind}
use Rattle.path_core.proofs.keeper_law.a_first_entry_may_be_synced.Goals as goal

only : (n m : EntryNote) → Contains (n ∷ []) m → n ≡ m
only n m (zero, l, e) = e
only n m (suc k, l, e) = absurd (omega arith)

pub returns : goal.returns
returns c = λ base sizes h n F W start. record {
  run = n ∷ [];
  left = [];
  parted = record {
    all = IsPermutation-refl (n ∷ []);
    low = λ m among. let e = ap (λ (k : EntryNote). k.end.0) (only n m among) in omega arith;
    high = λ m among. absurd (let l = among.1 in omega arith);
    in_order = λ i j d l inside. absurd (omega arith);
  };
  may = record {
    each = λ m among. subst (IsWritable h) (only n m among) W;
    tiled = (inl (start ∙ sym (ap (after h.sizes.capacity) F.nothing_synced)), refl);
    more = n ∷ [];
    begins = ap (λ l. l ++ n ∷ []) (sym F.nothing_kept);
    go_on = subst (λ l. GoOnBehind h.sizes.capacity l (n ∷ [])) (sym F.nothing_kept) tt;
  };
}
