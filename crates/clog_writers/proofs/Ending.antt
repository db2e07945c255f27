-- From the seats that have logged all of their shares to what the keeper holds.
use Rattle.std.proofs.Common.{
  ◌≡◌,
  ℕ,
  ◌<◌,
  ◌≤◌,
  Bool,
  ◌&&◌,
  nat_le,
  List,
  [],
  ◌++◌,
  Option,
  None,
  refl,
  sym,
  ap,
  ◌∙◌,
  subst,
  arith,
  append-nil,
}
use Rattle.std.specs.Prelude.{Contains}
use Rattle.std.proofs.lemmas.Bool.{le-leb, le-ltb}
use Rattle.std.proofs.lemmas.List.Elements.{All-contains}
use Rattle.atomic_table.specs.Seated.{TableId}
use Rattle.clog_mutation.specs.declared.mutation.Mutation.{Mutation}
use Rattle.clog_applied.specs.History.{Line, share_of}
use Rattle.path_core.specs.declared.note.EntryNote.{EntryNote}
use Rattle.path_core.specs.Keeper.{Holding}
use Rattle.path_core.specs.LawfulLog.{is_at_most}
use Rattle.path_core.specs.Next.{is_between}
use Rattle.path_rule.specs.declared.view.PathSize.{PathSize}
use Rattle.path_table.specs.declared.trying.PathSeat.{PathSeat}
use Rattle.write_path.specs.Closed.{IsOutcome, IsSyncedFor}
use Rattle.clog_shares.specs.Crews.{HaveEnded}
use Rattle.clog_writers.specs.Logged.{HoldShares}
use Rattle.clog_shares.specs.Shares.{AreWritesOf, logged_by}
use Rattle.clog_writers.proofs.Firsts.{all_pass, none_pass}
use Rattle.clog_writers.proofs.Owned.{is_its, its, known, mine, of_place, owned, same_list}

module _ {K : Type 0} (id : TableId) (size : PathSize) (flush : Option ℕ)
    (mutations : List Mutation) (seats : List (PathSeat K))
    (all : HaveEnded id size flush mutations None seats) (end : ℕ) (h : Holding)
    (o : IsOutcome size seats end h) where
  -- each ends at or below the synced key
  below : (n : EntryNote) → Contains o.core.notes n → n.end.0 ≤ h.synced
  below n among =
      let p = owned id size flush mutations None seats all end h o n among in
      let s = of_place id size flush mutations None seats all end h o p.seat p.there in
      let known = s.synced refl in
      let low = known.2 n p.among in
      let reached =
      All-contains (IsSyncedFor h) seats p.seat o.found_synced p.there known.0 known.1 in
      omega (arith, low, reached)

  pub all_logged : h.logged ≡ o.core.notes
  all_logged = o.logged ∙ all_pass (is_at_most h.synced) o.core.notes
      (λ n among. le-leb n.end.0 h.synced (below n among))

  pub none_kept : h.kept ≡ []
  none_kept = o.kept ∙ none_pass (is_between h.synced o.kept_to) o.core.notes
      (λ n among. ap (λ (b : Bool). b && nat_le n.end.0 o.kept_to)
      (le-ltb h.synced n.end.0 (below n among)))

  pub share : (w : ℕ) (low : w < size.seats)
      → AreWritesOf w (share_of size.seats w mutations)
      (mine id size flush mutations None seats all end h o w low)
  share w low =
      let s = its id size flush mutations None seats all end h o w low in
      let logs = (is_its id size flush mutations None seats all end h o w low).logs in
      let whole : share_of size.seats w mutations ≡ logs.done =
      logs.parts ∙ ap (λ (l : List Line). logs.done ++ l) (logs.all refl) ∙ append-nil logs.done in
      subst (AreWritesOf w (share_of size.seats w mutations))
      (sym (same_list id size flush mutations None seats all end h o w low))
      (subst (λ (l : List Line). AreWritesOf w l (logged_by s.member)) (sym whole) logs.are)

  pub hold_shares : HoldShares size.capacity size.seats mutations h.logged
  hold_shares = subst (HoldShares size.capacity size.seats mutations) (sym all_logged) (record {
    lawful = o.lawful;
    whole = o.whole;
    known = known id size flush mutations None seats all end h o;
    shares = λ writer low. share writer low;
  })
