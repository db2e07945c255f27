-- A writer commits the writes of its lines one after another.
use Rattle.std.proofs.Common.{◌≡◌, ℕ, suc, ◌/◌, ◌<◌, ◌≤◌, inl, inr, List, [], ◌∷◌, ◌++◌, drop}
use Rattle.std.proofs.Common.{get_or, reverse, Option, Some, None, refl, sym, ap, ◌∙◌, subst, arith}
use Rattle.std.proofs.Common.{append_assoc, length}
use Rattle.std.specs.Prelude.{Contains}
use Rattle.std.proofs.lemmas.List.{reverse-append}
use Rattle.std.proofs.lemmas.Option.{none-some}
use Rattle.std.proofs.lemmas.List.Elements.{Contains-get_or}
use Rattle.std.proofs.lemmas.List.Quantifiers.{all_pairs_push}
use Rattle.std.proofs.lemmas.List.Sorted.{Contains-permutation, IsPermutation-reverse}
use Rattle.std.proofs.lemmas.List.Sorted.{IsPermutation-sym}
use Rattle.clog_base.specs.declared.position.Key.{Key}
use Rattle.clog_base.specs.declared.sizes.Sizes.{Sizes}
use Rattle.clog_base.proofs.Members.{first_or_further, further}
use Rattle.clog_mutation.specs.declared.mutation.Mutation.{Mutation}
use Rattle.clog_applied.specs.History.{Line}
use Rattle.path_core.specs.declared.event.Cursor.TheVariants.{Stopped as StoppedCursor}
use Rattle.path_core.specs.declared.event.Place.{Place}
use Rattle.path_core.specs.declared.event.Place.TheVariants.{CursorWord}
use Rattle.path_core.specs.declared.note.EntryNote.{EntryNote}
use Rattle.path_core.specs.Keeper.{HasRisen}
use Rattle.path_rule.specs.declared.answer.SyncAnswer.{SyncAnswer}
use Rattle.path_rule.specs.declared.answer.SyncAnswer.TheVariants as sync
use Rattle.path_rule.specs.declared.view.OwnStep.{OwnStep}
use Rattle.path_rule.specs.declared.view.PathSize.{PathSize}
use Rattle.path_rule.specs.declared.view.View.{View}
use Rattle.path_rule.specs.Finds.{Finds}
use Rattle.path_rule.specs.SyncAnswers.{Answers}
use Rattle.path_rule.proofs.seats.Answering.{found_after, found_before}
use Rattle.path_table.specs.declared.trying.PathSeat.{PathSeat}
use Rattle.path_table.specs.Members.{view_of}
use Rattle.sync_core.specs.declared.SyncCore.{SyncCore}
use Rattle.sync_core.specs.declared.SyncCore.TheVariants.{Batch, Periodic}
use Rattle.write_path.specs.declared.commit.Commit.{Commit}
use Rattle.write_path.specs.declared.commit.Commit.TheVariants.{Logged, Durable, Unsynced}
use Rattle.write_path.specs.declared.commit.Commit.TheVariants.{Spent as NoRoom}
use Rattle.write_path.specs.declared.commit.Receipt.{Receipt}
use Rattle.write_path.specs.declared.commit.SyncFault.TheVariants.{Stopped as LogStopped}
use Rattle.write_path.specs.declared.commit.SyncFault.TheVariants.{OutOfMemory as NoMemory}
use Rattle.write_path.specs.declared.prepared.Prepared.{Prepared}
use Rattle.write_path.specs.Commits.{HasNoRoom, IsLogged}
use Rattle.path_flush.specs.OwnWrites.{writes_of}
use Rattle.path_flush.specs.Grown.{HasGrown}
use Rattle.write_path.specs.Receipts.{HasReceipt, IsCommitted}
use Rattle.write_path.specs.Sealed.{FoundWhileLast, IsSealed}
use Rattle.write_path.specs.Writes.{IsNoteOf, IsPrepared}
use Rattle.clog_shares.specs.declared.fault.WriteFault.{WriteFault}
use Rattle.clog_shares.specs.declared.fault.WriteFault.TheVariants.{OutOfMemory, Spent, Stopped}
use Rattle.write_path.proofs.Growing.{both}
use Rattle.write_path.proofs.Sealing.{still_sealed}
use Rattle.clog_shares.specs.Crews.{KnowsSpent, KnowsWhy}
use Rattle.clog_shares.specs.Sealing.{AreEarlierSealed, IsAllSealed}
use Rattle.clog_shares.specs.Shares.{AddsWrite, ArePrepared, AreWritesOf, IsWriteOf, LogsShare}
use Rattle.clog_shares.specs.Shares.{MayAddWrite, Rise, fault_of, refusal_in, refusal_of}

pub one_write : (w : ℕ) (ls : List Line) (ns : List EntryNote) (l : Line) (n : EntryNote)
    → AreWritesOf w ls ns → IsWriteOf w l n → AreWritesOf w (ls ++ l ∷ []) (ns ++ n ∷ [])
one_write w [] [] l n are is = (is, tt)
one_write w [] (m ∷ ns) l n are is = absurd are
one_write w (k ∷ ls) [] l n are is = absurd are
one_write w (k ∷ ls) (m ∷ ns) l n are is = (are.0, one_write w ls ns l n are.1 is)

-- there is one write for each line
pub as_many : (sizes : Sizes) (ps : List Prepared) (ls : List Line) → ArePrepared sizes ls ps
    → length ps ≡ length ls
as_many sizes [] [] are = refl
as_many sizes (p ∷ ps) [] are = absurd are
as_many sizes [] (l ∷ ls) are = absurd are
as_many sizes (p ∷ ps) (l ∷ ls) are = ap suc (as_many sizes ps ls are.1)

module _ (sizes : Sizes) (w : ℕ) (lines : List Line) where
  -- The first of the lines are logged, and the writes of the others are to come.
  pub record GoesOn (rest : List Prepared) (notes : List EntryNote) : Type 0 where
    pub done : List Line
    pub left : List Line
    pub parts : lines ≡ done ++ left
    pub are : AreWritesOf w done notes
    pub rise : Rise notes
    pub prepared : ArePrepared sizes left rest

  pub begins : (ps : List Prepared) → ArePrepared sizes lines ps → GoesOn ps []
  begins ps prepared = record {
    done = [];
    left = lines;
    parts = refl;
    are = tt;
    rise = λ i j d low high. absurd (omega (arith, high));
    prepared = prepared;
  }

  -- the next write is of a line
  pub record IsNext (p : Prepared) : Type 0 where
    pub line : Line
    pub prepared : IsPrepared sizes line.number line.mutation p

  pub next_of : (p : Prepared) (rest : List Prepared) (notes : List EntryNote)
      → GoesOn (p ∷ rest) notes → IsNext p
  next_of p rest notes g = by g.left g.prepared
    where
      by : (left : List Line) → ArePrepared sizes left (p ∷ rest) → IsNext p
      by [] are = absurd are
      by (l ∷ ls) are = record { line = l; prepared = are.0 }

  pub one_more : (p : Prepared) (rest : List Prepared) (notes : List EntryNote) (n : EntryNote)
      → GoesOn (p ∷ rest) notes → n.writer.0 ≡ w
      → ((z : Sizes) (line : ℕ) (m : Mutation) → IsPrepared z line m p → IsNoteOf line m n)
      → ((o : EntryNote) → Contains notes o → o.end.0 ≤ n.start.0)
      → GoesOn rest (notes ++ n ∷ [])
  one_more p rest notes n g by is up = step g.left g.parts g.prepared
    where
      step : (left : List Line) → lines ≡ g.done ++ left → ArePrepared sizes left (p ∷ rest)
          → GoesOn rest (notes ++ n ∷ [])
      step [] parts are = absurd are
      step (l ∷ ls) parts are = record {
        done = g.done ++ l ∷ [];
        left = ls;
        parts = parts ∙ sym (append_assoc g.done (l ∷ []) ls);
        are = one_write w g.done notes l n g.are
            (record { by = by; is = is sizes l.number l.mutation are.0 });
        rise = all_pairs_push (λ (a b : EntryNote). a.end.0 ≤ b.start.0) notes n g.rise
            (λ k d inside. up (get_or notes k d) (Contains-get_or notes k d inside));
        prepared = are.1;
      }

  -- what was logged, where nothing was refused unless writes are left
  pub ends : (rest : List Prepared) (notes : List EntryNote) (fault : Option WriteFault)
      → GoesOn rest notes → (fault ≡ None → rest ≡ []) → LogsShare w lines notes fault
  ends rest notes fault g none_left = record {
    done = g.done;
    left = g.left;
    parts = g.parts;
    are = g.are;
    rise = g.rise;
    all = λ none. by g.left (subst (λ (ps : List Prepared). ArePrepared sizes g.left ps)
        (none_left none) g.prepared);
  }
    where
      by : (left : List Line) → ArePrepared sizes left [] → left ≡ []
      by [] are = refl
      by (l ∷ ls) are = absurd are

  -- ---- by the seat's own list, which has the newest first

  -- one write more
  pub logged : (p : Prepared) (rest : List Prepared) (before after : List OwnStep)
      → AddsWrite w p before after → GoesOn (p ∷ rest) (reverse (writes_of before))
      → GoesOn rest (reverse (writes_of after))
  logged p rest before after a g =
      let list : reverse (writes_of before) ++ a.note ∷ [] ≡ reverse (writes_of after) =
      sym (reverse-append (a.note ∷ []) (writes_of before))
      ∙ ap (λ (l : List EntryNote). reverse l) (sym a.list) in
      subst (GoesOn rest) list
      (one_more p rest (reverse (writes_of before)) a.note g a.by a.of (λ o among.
      a.behind o
      (Contains-permutation (reverse (writes_of before)) (writes_of before) o
      (IsPermutation-sym (writes_of before) (reverse (writes_of before))
      (IsPermutation-reverse (writes_of before))) among)))

  -- or none
  pub none_more : (rest : List Prepared) (before after : List OwnStep)
      → writes_of after ≡ writes_of before → GoesOn rest (reverse (writes_of before))
      → GoesOn rest (reverse (writes_of after))
  none_more rest before after same g =
      subst (GoesOn rest) (ap (λ (l : List EntryNote). reverse l) (sym same)) g

  -- a refused one is logged or not
  pub stopped_with : (p : Prepared) (rest : List Prepared) (before after : List OwnStep)
      (f : WriteFault) → MayAddWrite w p before after
      → GoesOn (p ∷ rest) (reverse (writes_of before))
      → LogsShare w lines (reverse (writes_of after)) (Some f)
  stopped_with p rest before after f (inl more) g =
      ends rest (reverse (writes_of after)) (Some f) (logged p rest before after more g)
      (λ none. absurd (none-some f (sym none)))
  stopped_with p rest before after f (inr same) g =
      ends (p ∷ rest) (reverse (writes_of after)) (Some f)
      (none_more (p ∷ rest) before after same g) (λ none. absurd (none-some f (sym none)))

-- what a write adds is there behind what adds nothing
pub adds_on : (w : ℕ) (p : Prepared) (before then after : List OwnStep)
    → writes_of after ≡ writes_of then → AddsWrite w p before then → AddsWrite w p before after
adds_on w p before then after same a = record {
  note = a.note;
  list = same ∙ a.list;
  by = a.by;
  behind = a.behind;
  of = a.of;
}

pub may_on : (w : ℕ) (p : Prepared) (before then after : List OwnStep)
    → writes_of after ≡ writes_of then → MayAddWrite w p before then
    → MayAddWrite w p before after
may_on w p before then after same (inl more) = inl (adds_on w p before then after same more)
may_on w p before then after same (inr none) = inr (same ∙ none)

-- ---- what a commit answers

-- what is sealed stays so
pub sealed_still : (n : EntryNote) (before after : List OwnStep) → HasGrown before after
    → IsSealed n before → IsSealed n after
sealed_still n before after G S = subst (λ (l : List OwnStep). IsSealed n l) (sym G.is)
    (still_sealed n G.newer before S)

pub risen : (before now : ℕ) → HasRisen before now → 0 < now
risen before now rose = elim rose [
  | inl more ↦ omega (arith, more)
  | inr most ↦ omega (arith, most)
]

-- where each write is sealed, each one but the newest is
pub all_earlier : (trail : List OwnStep) → IsAllSealed trail → AreEarlierSealed trail
all_earlier trail all newest earlier is n among =
    all n (subst (λ (l : List EntryNote). Contains l n) (sym is) (further newest earlier n among))

-- what stands behind a new write of the list is what was there
earlier_is : (x newest : EntryNote) (before now earlier : List EntryNote) → now ≡ x ∷ before
    → now ≡ newest ∷ earlier → earlier ≡ before
earlier_is x newest before now earlier is other =
    ap (λ (l : List EntryNote). drop 1 l) (sym other ∙ is)

-- what was found while a write was the last of a trail was found in it
found_in : (n : EntryNote) (at : Place) (value : ℕ) (trail : List OwnStep)
    → FoundWhileLast n at value trail → Finds at value trail
found_in n at value trail F =
    subst (λ (l : List OwnStep). Finds at value l) (sym F.cut)
    (found_before at value F.later (F.step ∷ F.before) (inl F.found))

module _ (size : PathSize) (w : ℕ) (before : List OwnStep) (p : Prepared) (v : View) where
  adds_by : (r : Receipt) → HasReceipt size.base w before p r v.trail
      → AddsWrite w p before v.trail
  adds_by r is =
      let L = is.logged in
      record {
        note = L.listed.note;
        list = L.listed.list;
        by = L.listed.writer;
        behind = λ o among.
            let low = L.behind o among in
            let starts = L.listed.starts in omega (arith, low, starts);
        of = L.listed.of;
      }

  -- where nothing is refused
  pub where_logged : (mode : SyncCore) (c : Commit) → IsCommitted mode size w before p c v
      → refusal_in c ≡ None → AddsWrite w p before v.trail
  where_logged (Periodic k) (Logged r) is none = adds_by r is
  where_logged (Periodic k) (Durable r) is none = absurd is
  where_logged (Periodic k) (Unsynced r fault) is none = absurd is
  where_logged (Periodic k) (NoRoom back key) is none = absurd (none-some Spent (sym none))
  where_logged Batch (Logged r) is none = absurd is
  where_logged Batch (Durable r) is none = adds_by r is.0
  where_logged Batch (Unsynced r fault) is none = absurd (none-some (fault_of fault) (sym none))
  where_logged Batch (NoRoom back key) is none = absurd (none-some Spent (sym none))

  -- a refused one is logged, and waited in vain; or it is not, and the list is as it was
  pub may_add : (mode : SyncCore) (c : Commit) → IsCommitted mode size w before p c v
      → MayAddWrite w p before v.trail
  may_add (Periodic k) (Logged r) is = inl (adds_by r is)
  may_add (Periodic k) (Durable r) is = absurd is
  may_add (Periodic k) (Unsynced r fault) is = absurd is
  may_add (Periodic k) (NoRoom back key) is = inr is.1
  may_add Batch (Logged r) is = absurd is
  may_add Batch (Durable r) is = inl (adds_by r is.0)
  may_add Batch (Unsynced r fault) is = inl (adds_by r is.0)
  may_add Batch (NoRoom back key) is = inr is.1

  -- the seat's trail has grown, whatever is answered
  pub commit_grows : (mode : SyncCore) (c : Commit) → IsCommitted mode size w before p c v
      → HasGrown before v.trail
  commit_grows (Periodic k) (Logged r) is = is.logged.grown
  commit_grows (Periodic k) (Durable r) is = absurd is
  commit_grows (Periodic k) (Unsynced r fault) is = absurd is
  commit_grows (Periodic k) (NoRoom back key) is = is.3
  commit_grows Batch (Logged r) is = absurd is
  commit_grows Batch (Durable r) is = is.0.logged.grown
  commit_grows Batch (Unsynced r fault) is = is.0.logged.grown
  commit_grows Batch (NoRoom back key) is = is.3

  one_more_waits : (start end : ℕ) → IsLogged before w start end p v.trail → IsAllSealed before
      → AreEarlierSealed v.trail
  one_more_waits start end L all newest earlier is n among =
      sealed_still n before v.trail L.grown
      (all n (subst (λ (l : List EntryNote). Contains l n)
      (earlier_is L.listed.note newest (writes_of before) (writes_of v.trail) earlier
      L.listed.list is) among))

  -- in batch mode those before it are sealed, whatever is answered
  pub one_waits : (c : Commit) → IsCommitted Batch size w before p c v → IsAllSealed before
      → AreEarlierSealed v.trail
  one_waits (Logged r) is all = absurd is
  one_waits (Durable r) is all = one_more_waits is.0.start is.0.end is.0.logged all
  one_waits (Unsynced r fault) is all = one_more_waits is.0.start is.0.end is.0.logged all
  one_waits (NoRoom back key) is all =
      all_earlier v.trail (λ n among. sealed_still n before v.trail is.3
      (all n (subst (λ (l : List EntryNote). Contains l n) is.1 among)))

  -- in batch mode the write is sealed, and so are those before it
  pub one_sealed : (c : Commit) → IsCommitted Batch size w before p c v → refusal_in c ≡ None
      → IsAllSealed before → IsAllSealed v.trail
  one_sealed (Logged r) is none all = absurd is
  one_sealed (Durable r) is none all = λ n among.
      let L = is.0.logged in
      elim (first_or_further L.listed.note (writes_of before) n
      (subst (λ (l : List EntryNote). Contains l n) L.listed.list among)) [
        | inl same ↦ subst (λ (m : EntryNote). IsSealed m v.trail) same is.2
        | inr older ↦ sealed_still n before v.trail L.grown (all n older)
      ]
  one_sealed (Unsynced r fault) is none all = absurd (none-some (fault_of fault) (sym none))
  one_sealed (NoRoom back key) is none all = absurd (none-some Spent (sym none))

-- ---- why

found_no_room : {K : Type 0} (size : PathSize) (before : List OwnStep) (p : Prepared) (key : Key)
    (s : PathSeat K) → p.size ≤ size.capacity / 2
    → HasNoRoom size p.size (length before) key.0 (view_of s.member) → KnowsSpent size s
found_no_room size before p key s small none = (
  p.size,
  key.0,
  small,
  record {
    since = length before;
    after = view_of s.member;
    spent = none;
    grown = record { newer = []; is = refl };
  },
)

-- what a commit tells its seat has found
pub commit_why : {K : Type 0} (size : PathSize) (w : ℕ) (before : List OwnStep) (p : Prepared)
    (s : PathSeat K) → p.size ≤ size.capacity / 2 → (mode : SyncCore) (c : Commit)
    → IsCommitted mode size w before p c (view_of s.member) → KnowsWhy size (refusal_in c) s
commit_why size w before p s small (Periodic k) (Logged r) is = tt
commit_why size w before p s small (Periodic k) (Durable r) is = absurd is
commit_why size w before p s small (Periodic k) (Unsynced r fault) is = absurd is
commit_why size w before p s small (Periodic k) (NoRoom back key) is =
    found_no_room size before p key s small is.2
commit_why size w before p s small Batch (Logged r) is = absurd is
commit_why size w before p s small Batch (Durable r) is = tt
commit_why size w before p s small Batch (Unsynced r (LogStopped at_open now)) is = (
  is.1.0,
  found_in is.0.logged.listed.note (CursorWord StoppedCursor) now (view_of s.member).trail is.2,
  risen at_open now is.1.1,
)
commit_why size w before p s small Batch (Unsynced r NoMemory) is = tt
commit_why size w before p s small Batch (NoRoom back key) is =
    found_no_room size before p key s small is.2

-- a sync too
pub sync_why : {K : Type 0} (size : PathSize) (w : ℕ) (v : View) (s : PathSeat K)
    (answer : SyncAnswer) → Answers w 1 size.at_open v answer (view_of s.member)
    → KnowsWhy size (refusal_of answer) s
sync_why size w v s (sync.Done key) A = tt
sync_why size w v s (sync.Stopped at_open now) A = (
  A.is.0,
  subst (λ (l : List OwnStep). Finds (CursorWord StoppedCursor) now l) (sym A.steps.trail)
      (found_after (CursorWord StoppedCursor) now A.steps.steps v.trail A.now),
  risen at_open now A.is.1,
)
sync_why size w v s sync.OutOfMemory A = tt

-- and what a seat has found it tells also behind a sync
still_found : (at : Place) (value : ℕ) (before after : List OwnStep) → HasGrown before after
    → Finds at value before → Finds at value after
still_found at value before after G found =
    subst (λ (l : List OwnStep). Finds at value l) (sym G.is)
    (found_before at value G.newer before found)

pub still_why : {K : Type 0} (size : PathSize) (fault : Option WriteFault) (s t : PathSeat K)
    → HasGrown (view_of s.member).trail (view_of t.member).trail → KnowsWhy size fault s
    → KnowsWhy size fault t
still_why size None s t G why = tt
still_why size (Some OutOfMemory) s t G why = tt
still_why size (Some Spent) s t G (bytes, key, small, S) = (
  bytes,
  key,
  small,
  record {
    since = S.since;
    after = S.after;
    spent = S.spent;
    grown = both S.after.trail (view_of s.member).trail (view_of t.member).trail S.grown G;
  },
)
still_why size (Some (Stopped at_open now)) s t G why = (
  why.0,
  still_found (CursorWord StoppedCursor) now (view_of s.member).trail (view_of t.member).trail G
      why.1,
  why.2,
)

-- ---- behind a sync

-- what a seat has sealed stays so
pub sealed_on : (before after : List OwnStep) → writes_of after ≡ writes_of before
    → HasGrown before after → IsAllSealed before → IsAllSealed after
sealed_on before after list G all = λ n among.
    sealed_still n before after G
    (all n (subst (λ (l : List EntryNote). Contains l n) list among))

pub earlier_on : (before after : List OwnStep) → writes_of after ≡ writes_of before
    → HasGrown before after → AreEarlierSealed before → AreEarlierSealed after
earlier_on before after list G all newest earlier is n among =
    sealed_still n before after G (all newest earlier (sym list ∙ is) n among)

-- what was logged is so where none is logged behind it, and no less was refused
pub logs_on : (w : ℕ) (lines : List Line) (notes now : List EntryNote)
    (before after : Option WriteFault) → now ≡ notes → (after ≡ None → before ≡ None)
    → LogsShare w lines notes before → LogsShare w lines now after
logs_on w lines notes now before after same less L = record {
  done = L.done;
  left = L.left;
  parts = L.parts;
  are = subst (AreWritesOf w L.done) (sym same) L.are;
  rise = subst Rise (sym same) L.rise;
  all = λ none. L.all (less none);
}
