-- From seats that have flushed to what is left of each writer's lasting entries: the first of them
-- lie in files, and the others have few updates.
use Rattle.std.proofs.Common.{
  ◌≡◌,
  ◌⊎◌,
  ℕ,
  ◌<◌,
  inl,
  inr,
  List,
  [],
  ◌++◌,
  Option,
  Some,
  None,
  IsTrue,
  refl,
  sym,
  ap,
  ◌∙◌,
  subst,
  arith,
}
use Rattle.std.specs.Prelude.{Contains}
use Rattle.std.specs.List.{filter}
use Rattle.std.proofs.lemmas.List.Elements.{All-contains, Contains-append_left}
use Rattle.atomic_table.specs.Seated.{TableId}
use Rattle.clog_spec.specs.Sizes.{most_tables}
use Rattle.clog_base.proofs.Members.{nothing_there}
use Rattle.clog_mutation.specs.declared.mutation.Mutation.{Mutation}
use Rattle.clog_applied.proofs.Lists.{from_filter}
use Rattle.path_core.specs.declared.note.EntryNote.{EntryNote}
use Rattle.path_core.specs.Keeper.{Holding, IsFiledIn}
use Rattle.path_core.specs.Parts.{touches}
use Rattle.path_rule.specs.declared.view.OwnStep.{OwnStep}
use Rattle.path_rule.specs.declared.view.PathSize.{PathSize}
use Rattle.path_table.specs.declared.trying.PathSeat.{PathSeat}
use Rattle.path_table.specs.Members.{view_of}
use Rattle.write_path.specs.Closed.{IsOutcome}
use Rattle.write_path.specs.ClosedFiles.{CoversFlushed}
use Rattle.clog_shares.specs.Crews.{HaveEnded}
use Rattle.clog_writers.specs.Logged.{HasFlushedShare, HaveFlushedShares, is_note_of}
use Rattle.clog_shares.specs.Shares.{AreWritesOf}
use Rattle.clog_shares.specs.Tallied.{HasFlushedAll, IsFlushedOf, IsFlushedOver}
use Rattle.clog_writers.proofs.Ending.{all_logged}
use Rattle.clog_writers.proofs.Owned.{is_its, its, same_list, seat_of}

module _ {K : Type 0} (id : TableId) (size : PathSize) (flush : Option ℕ)
    (mutations : List Mutation) (seats : List (PathSeat K))
    (all : HaveEnded id size flush mutations None seats) (end : ℕ) (h : Holding)
    (o : IsOutcome size seats end h) where
  module _ (most t w : ℕ) (limit : flush ≡ Some most) (table : t < most_tables)
      (low : w < size.seats) where
    abbrev seat : PathSeat K
    seat = its id size flush mutations None seats all end h o w low

    abbrev trail : List OwnStep
    trail = (view_of seat.member).trail

    knows : IsFlushedOf most t seat
    knows = subst (λ (f : Option ℕ). HasFlushedAll f seat) limit
        ((is_its id size flush mutations None seats all end h o w low).flushed refl) t table

    -- its entries, cut where it has flushed up to
    parts : filter (is_note_of w) o.core.notes ≡ knows.tallied.early ++ knows.tallied.late
    parts = same_list id size flush mutations None seats all end h o w low ∙ knows.tallied.parts

    in_run : (n : EntryNote) → Contains knows.tallied.early n → Contains o.core.notes n
    in_run n among = (from_filter (is_note_of w) o.core.notes n
        (subst (λ (l : List EntryNote). Contains l n) (sym parts)
        (Contains-append_left knows.tallied.early knows.tallied.late n among))).0

    filed : (n : EntryNote) → Contains knows.tallied.early n → IsTrue (touches n.tables t)
        → (knows.tallied.early ≡ []) ⊎ IsFlushedOver t knows.tallied.early trail
        → IsFiledIn h.files t n.end.0
    filed n among touched (inl none) =
        absurd (nothing_there n (subst (λ (l : List EntryNote). Contains l n) none among))
    filed n among touched (inr over) =
        All-contains
        (λ (s : PathSeat K). CoversFlushed o.core.notes h.files (view_of s.member).trail) seats
        seat o.covered (seat_of id size flush mutations None seats all end h o w low).1
        (record { 0 = t }) over.key over.flushed n (in_run n among) touched (over.covers n among)

    flushed_share : HasFlushedShare most t w h
    flushed_share = record {
      early = knows.tallied.early;
      late = knows.tallied.late;
      parts = ap (filter (is_note_of w))
          (all_logged id size flush mutations seats all end h o) ∙ parts;
      filed = λ n among touched. filed n among touched knows.tallied.flushed;
      rest = knows.tallied.rest;
      are_late = subst (λ (k : ℕ). AreWritesOf k knows.tallied.rest knows.tallied.late)
          (is_its id size flush mutations None seats all end h o w low).number_is
          knows.tallied.are_late;
      few = let few = knows.few in let counted = knows.tallied.counted in
          omega (arith, few, counted);
    }

  by : (limit : Option ℕ) → flush ≡ limit → HaveFlushedShares limit size.seats h
  by None is = tt
  by (Some most) is = λ t w table low. flushed_share most t w is table low

  pub have_flushed : HaveFlushedShares flush size.seats h
  have_flushed = by flush refl
