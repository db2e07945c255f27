-- Workers get their seats, the last one first.
use Rattle.std.proofs.Common.{◌≡◌, ℕ, suc, ◌+◌, ◌<◌, ◌≤◌, Bool, not, List, [], ◌∷◌, ◌++◌, get_or}
use Rattle.std.proofs.Common.{length, set, Option, Some, refl, sym, ap, ◌∙◌, subst, arith}
use Rattle.std.proofs.Common.{get_or-set_same, get_or-set_other, length-set}
use mathlib.Core.Logic.{dite}
use native.Mathlib.Decide.{ℕ_discrete}
use Rattle.std.specs.List.{filter, range_with_len}
use Rattle.std.proofs.lemmas.List.{get_or_append_left, get_or_default, length_push, map-append}
use Rattle.std.proofs.lemmas.List.{same_from_push}
use Rattle.std.proofs.lemmas.List.Elements.{All-contains, Contains-push}
use Rattle.std.proofs.lemmas.List.Filters.{length-filter_both}
use Rattle.atomic_table.specs.Seated.{TableId}
use Rattle.clog_base.specs.declared.sizes.Sizes.{Sizes}
use Rattle.clog_mutation.specs.declared.mutation.Mutation.{Mutation}
use Rattle.clog_applied.specs.History.{Line, is_for, numbered, share_of}
use Rattle.path_rule.specs.declared.view.PathSize.{PathSize}
use Rattle.path_rule.specs.declared.view.View.{View}
use Rattle.path_table.specs.declared.trying.PathSeat.{PathSeat}
use Rattle.write_path.specs.Opened.{AreNew, IsNewSeat, numbers_of}
use Rattle.write_path.proofs.Handing.{range_more}
use Rattle.clog_shares.specs.declared.worker.Worker.{Worker}
use Rattle.clog_shares.specs.Crews.{AreDealt, AreReady, IsDealt, IsSeated, IsSizedAs}
use Rattle.clog_shares.specs.Shares.{ArePrepared}
use Rattle.clog_shares.specs.Tallied.{AreCountedFor}

-- a share has no more lines than there are
as_many_lines : (from : ℕ) (ms : List Mutation) → length (numbered from ms) ≡ length ms
as_many_lines from [] = refl
as_many_lines from (m ∷ ms) = ap suc (as_many_lines (from + 1) ms)

shorter : {A : Type 0} (own : A → Bool) (lines : List A) → length (filter own lines) ≤ length lines
shorter {A} own lines =
    let both = length-filter_both own (λ (l : A). not (own l)) (λ l. refl) lines in
    omega (arith, both)

share_short : (writers i : ℕ) (ms : List Mutation)
    → length (share_of writers i ms) ≤ length ms
share_short writers i ms =
    let short = shorter (is_for writers i) (numbered 1 ms) in let all = as_many_lines 1 ms in
    omega (arith, short, all)

one_on : (n : ℕ) → n + 1 ≡ suc n
one_on n = omega arith

module _ {K : Type 0} (id : TableId) (size : PathSize) where
  -- ---- seats

  -- The last of new seats, and the others.
  pub record IsLastNew (rest : List (PathSeat K)) (s : PathSeat K) : Type 0 where
    pub others : AreNew id size (length rest) rest
    pub is_new : IsNewSeat id size s
    pub number_is : s.member.number ≡ length rest

  pub last_new : (count : ℕ) (rest : List (PathSeat K)) (s : PathSeat K)
      → AreNew id size count (rest ++ s ∷ []) → count ≡ length rest + 1 → IsLastNew rest s
  last_new count rest s all is =
      let n = length rest in
      let P : PathSeat K → Type 0 = λ p. IsNewSeat id size p in
      let numbers : numbers_of rest ++ s.member.number ∷ [] ≡ range_with_len 0 n ++ (0 + n) ∷ [] =
      sym (map-append (λ (p : PathSeat K). p.member.number) rest (s ∷ []))
      ∙ (all.numbers ∙ (ap (range_with_len 0) (is ∙ one_on n) ∙ range_more 0 n)) in
      let parts = same_from_push (numbers_of rest) (range_with_len 0 n) s.member.number (0 + n)
      numbers in
      let zero_more : 0 + n ≡ n = omega arith in
      let long = length_push rest s in
      record {
        others = record {
          each = λ i d inside.
              subst P (get_or_append_left rest (s ∷ []) d i inside)
              (all.each i d (omega (arith, inside, long)));
          numbers = parts.0;
        };
        is_new = All-contains P (rest ++ s ∷ []) s all.each (Contains-push rest s);
        number_is = parts.1 ∙ zero_more;
      }

  -- a worker with a new seat
  pub seated_by : (number : ℕ) (s : PathSeat K) (w : Worker K) → IsNewSeat id size s
      → s.member.number ≡ number → w.seat ≡ Some s → IsSeated id size number w
  seated_by number s w new is has = record {
    seat = s;
    has = has;
    of_path = new.of_path;
    number_is = is;
    unused = ap (λ (v : View). v.trail) new.unused;
  }

  -- ---- workers

  -- The workers behind the seats that are left have theirs.
  pub record SeatsFrom (from : ℕ) (workers : List (Worker K)) : Type 0 where
    pub count : length workers ≡ size.seats
    pub each : (i : ℕ) (d : Worker K) → from ≤ i → i < length workers
        → IsSeated id size i (get_or workers i d)

  pub one_seated : (at : ℕ) (ws : List (Worker K)) (now : Worker K) → SeatsFrom (at + 1) ws
      → IsSeated id size at now → SeatsFrom at (set ws at now)
  one_seated at ws now seats seated = record {
    count = length-set ws at now ∙ seats.count;
    each = λ i d from inside.
        let there = subst (λ (n : ℕ). i < n) (length-set ws at now) inside in
        dite (ℕ_discrete i at)
        (λ own. subst (λ (k : ℕ). IsSeated id size k (get_or (set ws at now) k d)) (sym own)
        (subst (IsSeated id size at)
        (sym (get_or-set_same ws at now d (omega (arith, own, there)))) seated))
        (λ other. subst (IsSeated id size i) (sym (get_or-set_other ws at i now d other))
        (seats.each i d (omega (arith, from, other)) there));
  }

  -- a worker keeps its writes, and their counts
  same_dealt : (sizes : Sizes) (flush : Option ℕ) (lines : List Line) (w now : Worker K)
      → now.writes ≡ w.writes → now.counts ≡ w.counts → IsDealt sizes flush lines w
      → IsDealt sizes flush lines now
  same_dealt sizes flush lines w now writes counts dealt = record {
    prepared = subst (λ (l : _). ArePrepared sizes lines l.items) (sym writes) dealt.prepared;
    counted = subst (λ (l : _). AreCountedFor flush lines l.items) (sym counts) dealt.counted;
  }

  pub still_dealt : (sizes : Sizes) (flush : Option ℕ) (ms : List Mutation) (at : ℕ)
      (ws : List (Worker K)) (now e : Worker K) → at < length ws
      → now.writes ≡ (get_or ws at e).writes → now.counts ≡ (get_or ws at e).counts
      → AreDealt sizes flush ms ws → AreDealt sizes flush ms (set ws at now)
  still_dealt sizes flush ms at ws now e low writes counts dealt = record {
    few = dealt.few;
    count = length-set ws at now ∙ dealt.count;
    each = λ i d inside.
        let there = subst (λ (n : ℕ). i < n) (length-set ws at now) inside in
        let lines = share_of sizes.writers i ms in
        let same : get_or ws at e ≡ get_or ws at d = get_or_default ws at e d low in
        dite (ℕ_discrete i at)
        (λ own. subst (IsDealt sizes flush lines)
        (sym (ap (λ (k : ℕ). get_or (set ws at now) k d) own
        ∙ get_or-set_same ws at now d low))
        (same_dealt sizes flush lines (get_or ws at d) now
        (writes ∙ ap (λ (w : Worker K). w.writes) same)
        (counts ∙ ap (λ (w : Worker K). w.counts) same)
        (subst (λ (k : ℕ). IsDealt sizes flush lines (get_or ws k d)) own
        (dealt.each i d there))))
        (λ other. subst (IsDealt sizes flush lines) (sym (get_or-set_other ws at i now d other))
        (dealt.each i d there));
  }

  -- all have their seats
  pub all_ready : (sizes : Sizes) (flush : Option ℕ) (ms : List Mutation) (ws : List (Worker K))
      → IsSizedAs size sizes → SeatsFrom 0 ws → AreDealt sizes flush ms ws
      → AreReady id size sizes flush ms ws
  all_ready sizes flush ms ws sized seats dealt = record {
    count = seats.count;
    each = λ i d inside. (
      seats.each i d (omega arith) inside,
      subst (λ (k : ℕ). IsDealt sizes flush (share_of k i ms) (get_or ws i d)) sized.writers
          (dealt.each i d inside),
      let short = share_short size.seats i ms in let few = dealt.few in omega (arith, short, few),
    );
  }
