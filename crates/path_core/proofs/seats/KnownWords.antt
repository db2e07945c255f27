-- What a seat found or put of the words of no table still stands: each allowed step keeps it.
use Rattle.std.proofs.Common.{◌≡◌, ℕ, Option, Some, None, refl, sym, ◌∙◌, subst}
use Rattle.std.specs.Option.{option_map}
use Rattle.std.proofs.lemmas.Option.{none-some, same_Some}
use Rattle.op_core.specs.declared.count.Order.{Order}
use Rattle.op_core.specs.declared.count.Order.TheVariants.{Write, Append}
use Rattle.path_core.specs.declared.seat.FoundGroups.{FoundGroups}
use Rattle.path_core.specs.declared.seat.Seat.{Seat}
use Rattle.path_core.specs.declared.seat.SyncTurn.{SyncTurn}
use Rattle.path_core.specs.declared.state.PathState.{PathState}
use Rattle.path_core.specs.SeatParts.{in_turn_groups, keeps}
use Rattle.path_core.specs.LawfulSeats.{GroupsKnown, GroupsExact, WordsKnown}

-- What the holder of the Sync turn found or put is exact.
pub record SyncIs (x : PathState) (turn : SyncTurn) : Type 0 where
  pub write : GroupsExact x Write turn.write
  pub append : GroupsExact x Append turn.append
  pub synced : (key : ℕ) → turn.synced ≡ Some key → key ≡ x.synced
  pub stopped : (n : ℕ) → turn.stopped ≡ Some n → n ≡ x.stopped

-- What a seat knows of the words of no table.
pub record KnowsWords (x : PathState) (s : Seat) : Type 0 where
  pub words : WordsKnown x s.found
  pub sync : (turn : SyncTurn) → s.sync ≡ Some turn → SyncIs x turn

-- a seat that found the same and holds the same Sync turn
pub same_known : (x : PathState) (s after : Seat) → after.found ≡ s.found → after.sync ≡ s.sync
    → KnowsWords x s → KnowsWords x after
same_known x s after f t K = record {
  words = subst (WordsKnown x) (sym f) K.words;
  sync = λ turn h. K.sync turn (sym t ∙ h);
}

-- what is known of a Sync turn, where one is held
pub turn_mapped : {A : Type 0} (P : A → Type 0) (o : Option A) (f : A → A)
    → ((a : A) → o ≡ Some a → P (f a)) → (b : A) → option_map f o ≡ Some b → P b
turn_mapped P None f known b h = absurd (none-some b h)
turn_mapped P (Some a) f known b h = subst P (same_Some (f a) b h) (known a refl)

-- a word of an order's groups is found, also under the Sync turn
pub keeps_known : (x : PathState) (o : Order) (f : FoundGroups → FoundGroups) (s : Seat)
    → ((groups : FoundGroups) → GroupsKnown x o groups → GroupsKnown x o (f groups))
    → ((groups : FoundGroups) → GroupsExact x o groups → GroupsExact x o (f groups))
    → KnowsWords x s → KnowsWords x (keeps o f s)
keeps_known x Write f s known exact K = record {
  words = let W = K.words in record {
    write = known s.found.write W.write;
    append = W.append;
    log = W.log;
    synced = W.synced;
    stopped = W.stopped;
  };
  sync = turn_mapped (SyncIs x) s.sync (in_turn_groups Write f)
      (λ turn h. let E = K.sync turn h in record {
        write = exact turn.write E.write;
        append = E.append;
        synced = E.synced;
        stopped = E.stopped;
      });
}
keeps_known x Append f s known exact K = record {
  words = let W = K.words in record {
    write = W.write;
    append = known s.found.append W.append;
    log = W.log;
    synced = W.synced;
    stopped = W.stopped;
  };
  sync = turn_mapped (SyncIs x) s.sync (in_turn_groups Append f)
      (λ turn h. let E = K.sync turn h in record {
        write = E.write;
        append = exact turn.append E.append;
        synced = E.synced;
        stopped = E.stopped;
      });
}
