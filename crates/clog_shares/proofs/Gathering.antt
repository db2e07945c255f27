-- Workers give their seats back one after another, once the log is synced behind their shares.
use Rattle.std.proofs.Common.{◌≡◌, ◌⊎◌, ℕ, suc, ◌+◌, ◌<◌, inl, inr, List, [], ◌∷◌, ◌++◌, get_or}
use Rattle.std.proofs.Common.{length, Option, Some, None, sym, ◌∙◌, subst, arith}
use Rattle.std.specs.Prelude.{Contains}
use mathlib.Core.Logic.{dite}
use native.Mathlib.Decide.{dec_lt}
use Rattle.std.proofs.Math.Seq.{get_or-append_seam}
use Rattle.std.proofs.lemmas.List.{get_or_append_left, length_push}
use Rattle.std.proofs.lemmas.List.Elements.{Contains-append_left, Contains-push}
use Rattle.std.proofs.lemmas.Option.{none-some}
use Rattle.atomic_table.specs.Seated.{TableId}
use Rattle.clog_mutation.specs.declared.mutation.Mutation.{Mutation}
use Rattle.clog_applied.specs.History.{Line, share_of}
use Rattle.path_rule.specs.declared.view.PathSize.{PathSize}
use Rattle.path_table.specs.declared.trying.PathSeat.{PathSeat}
use Rattle.clog_shares.specs.declared.fault.WriteFault.{WriteFault}
use Rattle.clog_shares.specs.declared.fault.WriteFault.TheVariants.{Spent, Stopped}
use Rattle.clog_shares.specs.declared.worker.Worker.{Worker}
use Rattle.clog_shares.specs.Crews.{HasEnded, HasLogged, HaveEnded, HaveLogged, KnowsSpent}
use Rattle.clog_shares.specs.Crews.{KnowsStopped, KnowsWhy}

-- the share of a number
abbrev its : PathSize → List Mutation → ℕ → List Line
its size ms i = share_of size.seats i ms

module _ {K : Type 0} (id : TableId) (size : PathSize) (flush : Option ℕ) where
  -- The first workers have given their seats back.
  pub record Gathers (ms : List Mutation) (rest : List (Worker K)) (seats : List (PathSeat K))
      (first : Option WriteFault) : Type 0 where
    pub count : length seats + length rest ≡ size.seats
    pub left : (i : ℕ) (d : Worker K) → i < length rest
        → HasLogged id size flush (length seats + i) (its size ms (length seats + i))
        (get_or rest i d)
    pub done : (i : ℕ) (d : PathSeat K) → i < length seats
        → HasEnded id size flush i (its size ms i) first (get_or seats i d)
    pub stops : (at_open now : ℕ) → first ≡ Some (Stopped at_open now)
        → (s : PathSeat K) × Contains seats s × KnowsStopped size at_open now s
    pub spent : first ≡ Some Spent → (s : PathSeat K) × Contains seats s × KnowsSpent size s

  pub none_gathered : (ms : List Mutation) (ws : List (Worker K)) → HaveLogged id size flush ms ws
      → Gathers ms ws [] None
  none_gathered ms ws all = record {
    count = let count = all.count in omega (arith, count);
    left = λ i d inside.
        let number : i ≡ 0 + i = omega arith in
        subst (λ (k : ℕ). HasLogged id size flush k (its size ms k) (get_or ws i d)) number
        (all.each i d inside);
    done = λ i d inside. absurd (omega (arith, inside));
    stops = λ at_open now is. absurd (none-some (Stopped at_open now) is);
    spent = λ is. absurd (none-some Spent is);
  }

  -- the next one
  pub next_logged : (ms : List Mutation) (w : Worker K) (rest : List (Worker K))
      (seats : List (PathSeat K)) (first : Option WriteFault) → Gathers ms (w ∷ rest) seats first
      → HasLogged id size flush (length seats) (its size ms (length seats)) w
  next_logged ms w rest seats first g =
      let number : length seats + 0 ≡ length seats = omega arith in
      subst (λ (k : ℕ). HasLogged id size flush k (its size ms k) w) number
      (g.left 0 w (omega arith))

  -- what is so of a seat is so where no less was refused
  still_ended : (i : ℕ) (ls : List Line) (before now : Option WriteFault) (s : PathSeat K)
      → (now ≡ None → before ≡ None) → HasEnded id size flush i ls before s
      → HasEnded id size flush i ls now s
  still_ended i ls before now s less e = record {
    of_path = e.of_path;
    number_is = e.number_is;
    logs = record {
      done = e.logs.done;
      left = e.logs.left;
      parts = e.logs.parts;
      are = e.logs.are;
      rise = e.logs.rise;
      all = λ none. e.logs.all (less none);
    };
    synced = λ none. e.synced (less none);
    flushed = λ none. e.flushed (less none);
    opened = e.opened;
  }

  pub one_gathered : (ms : List Mutation) (w : Worker K) (rest : List (Worker K))
      (seats : List (PathSeat K)) (first fault now : Option WriteFault) (s : PathSeat K)
      → Gathers ms (w ∷ rest) seats first
      → HasEnded id size flush (length seats) (its size ms (length seats)) fault s
      → KnowsWhy size fault s
      → (now ≡ None → (first ≡ None) × (fault ≡ None)) → (now ≡ first) ⊎ (now ≡ fault)
      → Gathers ms rest (seats ++ s ∷ []) now
  one_gathered ms w rest seats first fault now s g ends why none one =
      let long = length_push seats s in
      let count = g.count in
      let why_is = λ (f : Option WriteFault) (is : fault ≡ f).
      subst (λ (x : Option WriteFault). KnowsWhy size x s) is why in
      record {
        count = omega (arith, long, count);
        left = λ i d inside.
            let number : length seats + suc i ≡ length (seats ++ s ∷ []) + i = omega (arith, long)
            in
            subst (λ (k : ℕ). HasLogged id size flush k (its size ms k) (get_or rest i d)) number
            (g.left (suc i) d (omega (arith, inside)));
        done = λ i d inside. dite (dec_lt i (length seats))
            (λ low. subst (HasEnded id size flush i (its size ms i) now)
            (sym (get_or_append_left seats (s ∷ []) d i low))
            (still_ended i (its size ms i) first now (get_or seats i d) (λ q. (none q).0)
            (g.done i d low)))
            (λ not_low.
            let last : length seats ≡ i = omega (arith, inside, long, not_low) in
            subst (λ (k : ℕ).
            HasEnded id size flush k (its size ms k) now (get_or (seats ++ s ∷ []) k d)) last
            (subst (HasEnded id size flush (length seats) (its size ms (length seats)) now)
            (sym (get_or-append_seam seats s [] d))
            (still_ended (length seats) (its size ms (length seats)) fault now s (λ q. (none q).1)
            ends)));
        stops = λ at_open n is. elim one [
          | inl same ↦
              let old = g.stops at_open n (sym same ∙ is) in
              (old.0, Contains-append_left seats (s ∷ []) old.0 old.1, old.2)
          | inr same ↦ (s, Contains-push seats s, why_is (Some (Stopped at_open n)) (sym same ∙ is))
        ];
        spent = λ is. elim one [
          | inl same ↦
              let old = g.spent (sym same ∙ is) in
              (old.0, Contains-append_left seats (s ∷ []) old.0 old.1, old.2)
          | inr same ↦ (s, Contains-push seats s, why_is (Some Spent) (sym same ∙ is))
        ];
      }

  pub all_gathered : (ms : List Mutation) (seats : List (PathSeat K)) (first : Option WriteFault)
      → Gathers ms [] seats first → HaveEnded id size flush ms first seats
  all_gathered ms seats first g = record {
    count = let count = g.count in omega (arith, count);
    each = g.done;
    stops = g.stops;
    spent = g.spent;
  }
