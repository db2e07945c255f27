-- What a keeper has done beside its log stays good while segments go that may, and behind a drain.
use Rattle.std.proofs.Common.{
  ◌≡◌,
  ◌⊎◌,
  ℕ,
  ◌<◌,
  inl,
  inr,
  Bool,
  true,
  false,
  if◌then◌else◌,
  List,
  [],
  ◌∷◌,
  ◌++◌,
  refl,
  sym,
  ◌∙◌,
  ap,
  subst,
}
use Rattle.std.specs.Prelude.{Contains}
use Rattle.std.proofs.lemmas.Bool.{cases_eq, false≢true}
use Rattle.std.proofs.lemmas.List.Elements.{
  Contains-append_cases,
  Contains-append_left,
  Contains-append_right,
}
use Rattle.clog_spec.specs.Sizes.{most_segments}
use Rattle.clog_base.proofs.Members.{only_one}
use Rattle.path_core.specs.Keeper.{DropRefused, Drops, Holding, MayDrop, PutFile, archived_with}
use Rattle.clog_memtable.specs.declared.flushing.Memtable.{Memtable}
use Rattle.clog_memtable.specs.Flushing.{FlushesAll, MayFlush, file_of}
use Rattle.clog_segments.proofs.FolderReads.{one_or_none}
use Rattle.clog_closing.specs.Beside.{HasGoodDeeds, HoldsNote}
use Rattle.clog_closing.specs.Drained.{Drains}
use Rattle.clog_closing.proofs.Begins.{none_with}
use Rattle.clog_closing.proofs.Good.{good_put, holds_on, may_drop_on, merged_on}

-- these are dropped, and more of them perhaps have archive names
module _ (before : Holding) (ordinals more : List ℕ)
    (might : (o : ℕ) → Contains ordinals o → MayDrop before o)
    (might_too : (o : ℕ) → Contains more o → MayDrop before o)
    (within : (o : ℕ) → Contains ordinals o → Contains more o) (good : HasGoodDeeds before)
    (faults : ℕ) (stopped : Bool) where
  abbrev without : Holding
  without = record before {
    faults = faults;
    stopped = stopped;
    dropped = before.dropped ++ ordinals;
    archived = archived_with before more;
  }

  may_go : (o : ℕ) → MayDrop before o → MayDrop without o
  may_go o = may_drop_on before without o refl refl (λ f there. there)

  -- what was dropped before or now might go before
  dropped_might : (o : ℕ) → Contains (before.dropped ++ ordinals) o → MayDrop before o
  dropped_might o among = elim (Contains-append_cases before.dropped ordinals o among) [
    | inl old ↦ good.droppable o old
    | inr new ↦ might o new
  ]

  archived_might : (b : Bool) (o : ℕ)
      → Contains (if b then before.archived ++ more else before.archived) o → MayDrop before o
  archived_might true o among = elim (Contains-append_cases before.archived more o among) [
    | inl old ↦ good.archivable o old
    | inr new ↦ might_too o new
  ]
  archived_might false o among = good.archivable o among

  archived_all : before.opening.archives ≡ true → (o : ℕ)
      → Contains (before.dropped ++ ordinals) o → Contains (archived_with before more) o
  archived_all archives o among =
      subst (λ (b : Bool). Contains
      (if b then before.archived ++ more else before.archived) o) (sym archives)
      (elim (Contains-append_cases before.dropped ordinals o among) [
        | inl old ↦
            Contains-append_left before.archived more o (good.all_archived archives o old)
        | inr new ↦ Contains-append_right before.archived more o (within o new)
      ])

  good_without : HasGoodDeeds without
  good_without = record {
    in_sequence = good.in_sequence;
    lasting = good.lasting;
    merged = λ f among. merged_on before without f refl (good.merged f among);
    for_some = λ f among. holds_on before without f refl (good.for_some f among);
    droppable = λ o among. may_go o (dropped_might o among);
    archivable = λ o among. may_go o (archived_might before.opening.archives o among);
    all_archived = archived_all;
    none_archived = λ archives. none_with before more archives (good.none_archived archives);
  }

-- also where the next one was refused
pub good_refused : (before now : Holding) (closed : ℕ) → DropRefused before now closed
    → HasGoodDeeds before → HasGoodDeeds now
good_refused before now closed drops good =
    let Named = λ (named : List ℕ). now ≡ record before {
      faults = now.faults;
      stopped = now.stopped;
      dropped = before.dropped ++ drops.ordinals;
      archived = named;
    } in
    let might = λ (o : ℕ) (new : Contains drops.ordinals o). (drops.due o new).1 in
    elim drops.named [
      | inl same ↦ subst HasGoodDeeds (sym (subst Named same drops.holds))
          (good_without before drops.ordinals drops.ordinals might might (λ o new. new) good
          now.faults now.stopped)
      | inr next ↦
          let more = drops.ordinals ++ next.0 ∷ [] in
          subst HasGoodDeeds (sym (subst Named next.2 drops.holds))
          (good_without before drops.ordinals more might
          (λ o among. elim (Contains-append_cases drops.ordinals (next.0 ∷ []) o among) [
            | inl old ↦ might o old
            | inr one ↦ subst (MayDrop before) (only_one next.0 o one) next.1.due.1
          ])
          (λ o new. Contains-append_left drops.ordinals (next.0 ∷ []) o new) good now.faults
          now.stopped)
    ]

module _ (before now : Holding) (closed count : ℕ) (drops : Drops before now closed count)
    (good : HasGoodDeeds before) where
  might_go : (o : ℕ) → Contains drops.ordinals o → MayDrop before o
  might_go o new = ((drops.exact o).0 new).1

  pub good_drop : HasGoodDeeds now
  good_drop = subst HasGoodDeeds (sym drops.holds)
      (good_without before drops.ordinals drops.ordinals might_go might_go (λ o new. new) good
      now.faults before.stopped)

  -- and none is left below those that are closed
  pub none_left : (o : ℕ) → o < closed → MayDrop now o → Contains now.dropped o
  none_left o low may =
      subst (λ (l : List ℕ). Contains l o) (sym (ap (λ (h : Holding). h.dropped) drops.holds))
      (by (one_or_none (λ (k : ℕ). k ≡ o) (λ k. cases_eq k o) before.dropped))
    where
      might : MayDrop before o
      might =
          may_drop_on now before o (sym (ap (λ (h : Holding). h.logged) drops.holds))
          (sym (ap (λ (h : Holding). h.kept) drops.holds)) (λ f there.
          subst (λ (l : List PutFile). Contains l f) (ap (λ (h : Holding). h.files) drops.holds)
          there) may

      by : ((k : ℕ) × Contains before.dropped k × (k ≡ o))
          ⊎ ((k : ℕ) → Contains before.dropped k → k ≡ o → ⊥)
          → Contains (before.dropped ++ drops.ordinals) o
      by found = elim found [
        | inl old ↦
            Contains-append_left before.dropped drops.ordinals o
            (subst (λ (k : ℕ). Contains before.dropped k) old.2 old.1)
        | inr none ↦
            Contains-append_right before.dropped drops.ordinals o
            ((drops.exact o).1 (low, might, λ there. none o there refl))
      ]

-- ---- drained

pub drains : (before mid now : Holding) (ms : List Memtable) (count : ℕ) → MayFlush before ms
    → ((m : Memtable) → Contains ms m → HoldsNote before (file_of m)) → HasGoodDeeds before
    → FlushesAll before mid ms → Drops mid now most_segments count → Drains before now ms
drains before mid now ms count may holds good flushes drops =
    let put = good_put before ms may holds good mid flushes.put in
    record {
      finished = record {
        good = good_drop mid now most_segments count drops put;
        gone = none_left mid now most_segments count drops put;
        filed = λ drained. absurd (false≢true drained);
      };
      files_are = ap (λ (h : Holding). h.files) drops.holds
          ∙ ap (λ (h : Holding). h.files) flushes.put;
    }
