-- What the keeper of a closed path has done beside its log is good: its table files follow one
-- another and are true of what is lasting, and each segment that it dropped may go.
use Rattle.std.proofs.Common.{
  ◌≡◌,
  ◌==◌,
  ℕ,
  ◌≤◌,
  Bool,
  true,
  false,
  List,
  [],
  ◌∷◌,
  ◌++◌,
  length,
  map,
  IsTrue,
  refl,
  sym,
  ap,
  ◌∙◌,
  subst,
  arith,
}
use Rattle.std.specs.Prelude.{if◌then◌else◌}
use Rattle.std.specs.List.{Contains, filter}
use Rattle.std.proofs.lemmas.Bool.{
  and_from,
  and_parts,
  eq-eqb,
  eqb-true,
  le-leb,
  leb-true,
  ltb-true,
}
use Rattle.clog_cells.specs.Merge.{IsMergeOf}
use Rattle.clog_cells.proofs.Merging.{of_same}
use Rattle.clog_applied.proofs.Lists.{kept_one, left_one}
use Rattle.path_core.specs.declared.note.EntryNote.{EntryNote}
use Rattle.path_core.specs.declared.state.Claim.{Claim}
use Rattle.path_core.specs.declared.state.PathState.{PathState}
use Rattle.path_core.specs.declared.state.WrittenFile.{WrittenFile}
use Rattle.path_core.specs.Droppable.{IsDroppable, is_in_file}
use Rattle.path_core.specs.Keeper.{
  Holding,
  IsFiledIn,
  IsLoggedCell,
  MayDrop,
  PutFile,
  upper_from,
}
use Rattle.path_core.specs.Keys.{after, ordinal_of}
use Rattle.path_core.specs.Lawful.{IsLawfulPath}
use Rattle.path_core.specs.LawfulLog.{entry_claim, is_at_most}
use Rattle.path_core.specs.LawfulTables.{FollowFrom, is_file_of}
use Rattle.path_core.specs.Next.{is_between}
use Rattle.path_core.specs.Parts.{is_entry, is_entry_in, touches}
use Rattle.path_core.proofs.frame.Runs.{past_sizes}
use Rattle.path_core.proofs.lists.Inserted.{map_from, map_old}
use Rattle.path_core.proofs.lists.Passing.{any_to, filter_from, kept_in}
use Rattle.path_core.proofs.log.ClaimEnds.{same_end}
use Rattle.path_core.proofs.runs.EveryRun.{opening_lawful, past_lawful}
use Rattle.path_rule.specs.declared.view.PathSize.{PathSize}
use Rattle.path_rule.specs.Filing.{IsCellBetween, file_range}
use Rattle.path_rule.specs.Rule.{start_of}
use Rattle.path_rule.proofs.log.NotesBehind.{ends_below}
use Rattle.path_table.specs.declared.trying.PathSeat.{PathSeat}
use Rattle.clog_closing.specs.Beside.{HasGoodDeeds, HoldsNote}
use Rattle.clog_closing.specs.Sequence.{AreInSequence}
use Rattle.write_path.specs.Closed.{IsOutcome}
use Rattle.write_path.specs.ClosedFiles.{held_range}
use Rattle.write_path.proofs.SmallSets.{bit_below}

-- the table of a file, and its interval
abbrev Range : Type 0
Range = ℕ × (ℕ × ℕ)

-- ---- files of a keeper and of a run

module _ (files : List PutFile) (written : List WrittenFile)
    (same : map held_range files ≡ map file_range written) where
  -- a file of the keeper is one of the run
  in_run : (f : PutFile) → Contains files f
      → (g : WrittenFile) × Contains written g × (file_range g ≡ held_range f)
  in_run f there = map_from file_range written (held_range f)
      (subst (λ (l : List Range). Contains l (held_range f)) same
      (map_old held_range files f there))

  -- and the other way round
  is_held : (g : WrittenFile) → Contains written g
      → (f : PutFile) × Contains files f × (held_range f ≡ file_range g)
  is_held g there = map_from held_range files (file_range g)
      (subst (λ (l : List Range). Contains l (file_range g)) (sym same)
      (map_old file_range written g there))

-- ---- they follow one another

abbrev head_of : List Range → Range
head_of [] = (0, (0, 0))
head_of (r ∷ rs) = r

abbrev rest_of : List Range → List Range
rest_of [] = []
rest_of (r ∷ rs) = rs

void : (r : Range) (rs : List Range) → r ∷ rs ≡ [] → ⊥
void r rs same = absurd (let l = ap (λ (k : List Range). length k) same in omega (arith, l))

-- where a table's files of the run follow one another from a key on, so do the keeper's
follow_from : (t k : ℕ) (front rest : List PutFile) (f : PutFile) (written : List WrittenFile)
    → map held_range (front ++ f ∷ rest) ≡ map file_range written
    → FollowFrom k (filter (is_file_of t) written) → f.table ≡ t
    → (f.lower ≡ upper_from t k front) × (f.lower ≤ f.upper)
follow_from t k [] rest f [] same follow of =
    absurd (void (held_range f) (map held_range rest) same)
follow_from t k (p ∷ front) rest f [] same follow of =
    absurd (void (held_range p) (map held_range (front ++ f ∷ rest)) same)
follow_from t k [] rest f (g ∷ gs) same follow of =
    let r : held_range f ≡ file_range g = ap head_of same in
    let table : f.table ≡ g.table = ap (λ (x : Range). x.0) r in
    let lower : f.lower ≡ g.lower = ap (λ (x : Range). x.1.0) r in
    let upper : f.upper ≡ g.upper = ap (λ (x : Range). x.1.1) r in
    let kept = kept_one (is_file_of t) g gs (eq-eqb g.table t (sym table ∙ of)) in
    let first = subst (FollowFrom k) kept follow in
    let at = first.0 in let on = first.1 in
    (lower ∙ at, omega (arith, lower, upper, on))
follow_from t k (p ∷ front) rest f (g ∷ gs) same follow of =
    by (g.table == t) refl
    (λ j on. follow_from t j front rest f gs (ap rest_of same) on of)
  where
    r : held_range p ≡ file_range g
    r = ap head_of same

    next : (b : Bool) → (g.table == t) ≡ b
        → (if p.table == t then p.upper else k) ≡ (if b then g.upper else k)
    next b is = λ i. if (ap (λ (x : Range). x.0 == t) r ∙ is) i
        then (ap (λ (x : Range). x.1.1) r) i else k

    by : (b : Bool) → (g.table == t) ≡ b
        → ((j : ℕ) → FollowFrom j (filter (is_file_of t) gs)
        → (f.lower ≡ upper_from t j front) × (f.lower ≤ f.upper))
        → (f.lower ≡ upper_from t k (p ∷ front)) × (f.lower ≤ f.upper)
    by true is on =
        let first = subst (FollowFrom k) (kept_one (is_file_of t) g gs is) follow in
        let q = on g.upper first.2 in
        (q.0 ∙ ap (λ (j : ℕ). upper_from t j front) (sym (next true is)), q.1)
    by false is on =
        let q = on k (subst (FollowFrom k) (left_one (is_file_of t) g gs is) follow) in
        (q.0 ∙ ap (λ (j : ℕ). upper_from t j front) (sym (next false is)), q.1)

in_sequence : (x : PathState) → IsLawfulPath x → (files : List PutFile)
    → map held_range files ≡ map file_range x.files → AreInSequence files
in_sequence x L files same front rest f is =
    follow_from f.table 0 front rest f x.files
    (ap (λ (l : List PutFile). map held_range l) (sym is) ∙ same)
    (L.retired_is_filed.follow f.table) refl

-- ---- a closed path's keeper

module _ {K : Type 0} (size : PathSize) (seats : List (PathSeat K)) (end : ℕ) (h : Holding)
    (o : IsOutcome size seats end h) where
  abbrev x : PathState
  x = o.core

  L : IsLawfulPath x
  L = past_lawful o.events (start_of size) x
      (opening_lawful size.tables size.seats size.capacity size.ordinals size.base o.fit) o.run

  -- where its log goes on behind what is lasting
  after_is : after x.capacity x.synced ≡ after h.sizes.capacity h.synced
  after_is =
      let capacity = (past_sizes o.events (start_of size) x o.run).capacity
      ∙ sym o.sized.capacity_is in
      λ i. after (capacity i) (sym o.synced_is i)

  lasting : (f : PutFile) → Contains h.files f → f.upper ≤ after h.sizes.capacity h.synced
  lasting f there =
      let g = in_run h.files x.files o.files_are f there in
      let low = L.logged_is_the_synced_part.files_are_below g.0 g.1 in
      let upper = ap (λ (r : Range). r.1.1) g.2 in
      omega (arith, low, upper, after_is)

  -- ---- what is lasting

  of_run : (n : EntryNote) → Contains h.logged n → Contains x.notes n
  of_run n among = (filter_from (is_at_most h.synced) x.notes n
      (subst (λ (l : List EntryNote). Contains l n) o.logged among)).0

  of_synced : (n : EntryNote) → Contains x.notes n → n.end.0 ≤ x.synced → Contains h.logged n
  of_synced n among low =
      let synced = o.synced_is in
      subst (λ (l : List EntryNote). Contains l n) (sym o.logged)
      (kept_in (is_at_most h.synced) x.notes n among
      (le-leb n.end.0 h.synced (omega (arith, low, synced))))

  -- entries within a file's interval are
  is_lasting : (f : PutFile) → Contains h.files f → (n : EntryNote) → Contains x.notes n
      → n.end.0 ≤ f.upper → Contains h.logged n
  is_lasting f there n among low =
      let up = lasting f there in
      of_synced n among (ends_below x L n among (omega (arith, low, up, after_is)))

  merged : (f : PutFile) → Contains h.files f → IsMergeOf (IsLoggedCell h f) f.cells
  merged f there =
      of_same (IsCellBetween x.notes f.table f.lower f.upper) (IsLoggedCell h f) f.cells
      (λ pair. (
        (λ c. record {
          note = c.note;
          among = is_lasting f there c.note c.among c.up_to;
          whole = c.whole;
          listed = c.listed;
          of_table = c.of_table;
          above = c.above;
          up_to = c.up_to;
        }),
        (λ c. record {
          note = c.note;
          among = of_run c.note c.among;
          whole = c.whole;
          listed = c.listed;
          of_table = c.of_table;
          above = c.above;
          up_to = c.up_to;
        }),
      )) (o.true_files f there)

  for_some : (f : PutFile) → Contains h.files f → HoldsNote h f
  for_some f there =
      let s = o.for_some f there in
      record {
        note = s.note;
        among = is_lasting f there s.note s.among s.up_to;
        bit = s.touched;
        above = s.above;
        up_to = s.up_to;
      }

  -- ---- what may go

  -- what lies in a file of the run lies in one of its own
  filed_in : (t key : ℕ) (g : WrittenFile) → Contains x.files g → IsTrue (is_in_file t key g)
      → IsFiledIn h.files t key
  filed_in t key g there is =
      let f = is_held h.files x.files o.files_are g there in
      let p = and_parts _ _ is in
      let q = and_parts _ _ p.0 in
      let above = ltb-true g.lower key q.1 in
      let up_to = leb-true key g.upper p.1 in
      let lower = ap (λ (r : Range). r.1.0) f.2 in
      let upper = ap (λ (r : Range). r.1.1) f.2 in
      record {
        file = f.0;
        among = f.1;
        of_table = ap (λ (r : Range). r.0) f.2 ∙ eqb-true g.table t q.0;
        above = omega (arith, above, lower);
        up_to = omega (arith, up_to, upper);
      }

  -- the lasting entry that ends at a key
  at_key : (key : ℕ) → Contains x.logged key
      → (n : EntryNote) × Contains x.notes n × (n.end.0 ≡ key) × (n.end.0 ≤ x.synced)
  at_key key logged =
      let n = map_from (λ (m : EntryNote). m.end.0) (filter (is_at_most x.synced) x.notes) key
      (subst (λ (l : List ℕ). Contains l key) L.logged_is_the_synced_part.logged logged) in
      let f = filter_from (is_at_most x.synced) x.notes n.0 n.1 in
      (n.0, f.0, n.2, leb-true n.0.end.0 x.synced f.1)

  abbrev claim_of : EntryNote → Claim
  claim_of n = entry_claim n.writer.0 n.start.0 n.end.0

  -- entries of a segment that may go are lasting
  all_low : (z : ℕ) → IsDroppable x z → (n : EntryNote) → Contains x.notes n
      → ordinal_of n.start.0 ≡ z → n.end.0 ≤ x.synced
  all_low z drops n among here =
      let m = at_key n.end.0 (drops.logged (claim_of n) (L.notes_are_claims.each n among).claim
      (and_from (is_entry (claim_of n)) (ordinal_of n.start.0 == z) refl
      (eq-eqb (ordinal_of n.start.0) z here))) in
      let same = m.2 in let low = m.3 in omega (arith, same, low)

  -- and there is one
  one_there : (z : ℕ) → IsDroppable x z
      → (n : EntryNote) × Contains x.notes n × (ordinal_of n.start.0 ≡ z)
  one_there z drops =
      let c = any_to (is_entry_in z) x.claims drops.has_entry in
      let p = and_parts (is_entry c.0) (ordinal_of c.0.start == z) c.2 in
      let n = at_key c.0.end (drops.logged c.0 c.1 c.2) in
      let same = same_end x.capacity x.ordinals x.log x.claims L.claims_tile_the_log
      (claim_of n.0) c.0 (L.notes_are_claims.each n.0 n.1).claim c.1 refl p.0 n.2 in (
        n.0,
        n.1,
        ap (λ (k : Claim). ordinal_of k.start) same ∙ eqb-true (ordinal_of c.0.start) z p.1,
      )

  may_drop : (z : ℕ) → IsDroppable x z → MayDrop h z
  may_drop z drops =
      let one = one_there z drops in
      record {
        note = one.0;
        among = of_synced one.0 one.1 (all_low z drops one.0 one.1 one.2);
        here = one.2;
        none_kept = λ n among here.
            let k = filter_from (is_between h.synced o.kept_to) x.notes n
            (subst (λ (l : List EntryNote). Contains l n) o.kept among) in
            let above = ltb-true h.synced n.end.0 (and_parts _ _ k.1).0 in
            let low = all_low z drops n k.0 here in
            let synced = o.synced_is in
            absurd (omega (arith, above, low, synced));
        filed = λ t a b in_a in_b of_a of_b key from to.
            let among = of_run a in_a in
            let bit = (and_parts (ordinal_of a.start.0 == z) (touches a.tables t) of_a).1 in
            let there = bit_below (length x.tables) a.tables t
            (L.notes_are_claims.each a among).tables_are_there bit in
            let g = any_to (is_in_file t key) x.files
            (drops.filed t a b there among (of_run b in_b) of_a of_b key from to) in
            filed_in t key g.0 g.1 g.2;
      }

  pub has_good : HasGoodDeeds h
  has_good = record {
    in_sequence = in_sequence x L h.files o.files_are;
    lasting = lasting;
    merged = merged;
    for_some = for_some;
    droppable = λ z gone. may_drop z (o.droppable z gone).0;
    archivable = λ z named. may_drop z (o.archived_may z named).0;
    all_archived = o.all_archived;
    none_archived = o.none_archived;
  }
