-- Lines are dealt out one by one.
use Rattle.std.proofs.Common.{◌≡◌, ℕ, ◌+◌, ◌%◌, ◌^◌, ◌<◌, Bool, true, false, List, [], ◌∷◌, ◌++◌}
use Rattle.std.proofs.Common.{get_or, length, set, Option, Some, None, refl, sym, ap, ◌∙◌, subst}
use Rattle.std.proofs.Common.{arith, append-nil, append_assoc, get_or-set_same, get_or-set_other}
use Rattle.std.proofs.Common.{length-set}
use Rattle.std.specs.Prelude.{Err}
use Rattle.std.specs.List.{filter}
use Rattle.std.proofs.lemmas.Bool.{eq-eqb, ne_eqb}
use Rattle.std.proofs.lemmas.List.{get_or_default, length_push}
use Rattle.std.proofs.lemmas.List.Elements.{filter-append}
use mathlib.Core.Logic.{dite}
use native.Mathlib.Decide.{ℕ_discrete}
use Rattle.clog_base.specs.declared.sizes.Sizes.{Sizes}
use Rattle.clog_base.proofs.Members.{all_more}
use Rattle.clog_mutation.specs.declared.mutation.Mutation.{Mutation}
use Rattle.clog_applied.specs.History.{Line, is_for, numbered, share_of}
use Rattle.clog_applied.proofs.Lists.{kept_one, left_one}
use Rattle.clog_shares.specs.Fitting.{HasFittingEntry}
use Rattle.write_path.specs.declared.prepared.Prepared.{Prepared}
use Rattle.write_path.specs.Writes.{IsPrepared}
use Rattle.clog_shares.specs.declared.fault.PlanFault.{PlanFault}
use Rattle.clog_shares.specs.declared.fault.PlanFault.TheVariants.{OutOfMemory, TooLarge}
use Rattle.clog_shares.specs.declared.worker.Worker.{Worker}
use Rattle.clog_shares.specs.declared.tally.LineCounts.{LineCounts}
use Rattle.clog_shares.specs.Crews.{AreDealt, IsDealt}
use Rattle.clog_shares.specs.Planned.{AllFit, PlanRefused, PreparesLine}
use Rattle.clog_shares.specs.Shares.{ArePrepared}
use Rattle.clog_shares.specs.Tallied.{AreCountedFor, AreCountsOf, IsCountOf, IsCountedFor}
use Rattle.clog_shares.specs.Tallied.{with_counts}

-- ---- lists

pushed_kept : {A : Type 0} (p : A → Bool) (xs : List A) (x : A) → p x ≡ true
    → filter p (xs ++ x ∷ []) ≡ filter p xs ++ x ∷ []
pushed_kept {A} p xs x passes =
    filter-append p xs (x ∷ [])
    ∙ ap (λ (l : List A). filter p xs ++ l) (kept_one p x [] passes)

pushed_left : {A : Type 0} (p : A → Bool) (xs : List A) (x : A) → p x ≡ false
    → filter p (xs ++ x ∷ []) ≡ filter p xs
pushed_left {A} p xs x fails =
    filter-append p xs (x ∷ [])
    ∙ ap (λ (l : List A). filter p xs ++ l) (left_one p x [] fails) ∙ append-nil (filter p xs)

-- ---- one line more

one_numbered : (from : ℕ) (ms : List Mutation) (m : Mutation)
    → numbered from (ms ++ m ∷ [])
    ≡ numbered from ms ++ record { number = from + length ms; mutation = m } ∷ []
one_numbered from [] m =
    let number : from ≡ from + 0 = omega arith in
    λ i. record { number = number i; mutation = m } ∷ []
one_numbered from (n ∷ ms) m =
    let line : ℕ → Line = λ k. record { number = k; mutation = m } in
    let number : from + 1 + length ms ≡ from + length (n ∷ ms) = omega arith in
    ap (λ (l : List Line). record { number = from; mutation = n } ∷ l)
    (one_numbered (from + 1) ms m
    ∙ ap (λ (k : ℕ). numbered (from + 1) ms ++ line k ∷ []) number)

one_prepared : (sizes : Sizes) (ls : List Line) (ps : List Prepared) (l : Line) (p : Prepared)
    → ArePrepared sizes ls ps → IsPrepared sizes l.number l.mutation p
    → ArePrepared sizes (ls ++ l ∷ []) (ps ++ p ∷ [])
one_prepared sizes [] [] l p are is = (is, tt)
one_prepared sizes [] (q ∷ ps) l p are is = absurd are
one_prepared sizes (k ∷ ls) [] l p are is = absurd are
one_prepared sizes (k ∷ ls) (q ∷ ps) l p are is =
    (are.0, one_prepared sizes ls ps l p are.1 is)

module _ (writers number : ℕ) (ms : List Mutation) (m : Mutation) (line : ℕ)
    (is : line ≡ length ms + 1) where
  abbrev next : Line
  next = record { number = line; mutation = m }

  all_lines : numbered 1 (ms ++ m ∷ []) ≡ numbered 1 ms ++ next ∷ []
  all_lines =
      let same : 1 + length ms ≡ line = omega (arith, is) in
      one_numbered 1 ms m
      ∙ ap (λ (k : ℕ). numbered 1 ms ++ record { number = k; mutation = m } ∷ []) same

  pub its_line : number ≡ line % writers
      → share_of writers number (ms ++ m ∷ []) ≡ share_of writers number ms ++ next ∷ []
  its_line own =
      ap (filter (is_for writers number)) all_lines
      ∙ pushed_kept (is_for writers number) (numbered 1 ms) next
      (eq-eqb (line % writers) number (sym own))

  pub other_line : (number ≡ line % writers → ⊥)
      → share_of writers number (ms ++ m ∷ []) ≡ share_of writers number ms
  other_line other =
      ap (filter (is_for writers number)) all_lines
      ∙ pushed_left (is_for writers number) (numbered 1 ms) next
      (ne_eqb (line % writers) number (λ same. other (sym same)))

counts_more : (ls : List Line) (cs : List LineCounts) (l : Line) (c : LineCounts)
    → AreCountsOf ls cs → IsCountOf l.mutation c → AreCountsOf (ls ++ l ∷ []) (cs ++ c ∷ [])
counts_more [] [] l c are is = (is, tt)
counts_more [] (d ∷ cs) l c are is = absurd are
counts_more (k ∷ ls) [] l c are is = absurd are
counts_more (k ∷ ls) (d ∷ cs) l c are is = (are.0, counts_more ls cs l c are.1 is)

one_counted : (flush : Option ℕ) (ls : List Line) (cs : List LineCounts) (l : Line)
    (c : Option LineCounts) → AreCountedFor flush ls cs → IsCountedFor flush l.mutation c
    → AreCountedFor flush (ls ++ l ∷ []) (with_counts cs c)
one_counted None ls cs l c are is = ap (with_counts cs) is ∙ are
one_counted (Some most) ls cs l None are is = absurd is
one_counted (Some most) ls cs l (Some c) are is = counts_more ls cs l c are is

none_counted : (flush : Option ℕ) → AreCountedFor flush [] []
none_counted None = refl
none_counted (Some most) = tt

-- ---- workers

module _ {K : Type 0} (sizes : Sizes) where
  pub none_dealt : (ws : List (Worker K)) → length ws ≡ sizes.writers
      → ((i : ℕ) (d : Worker K) → i < length ws → ((get_or ws i d).writes.items ≡ [])
      × ((get_or ws i d).counts.items ≡ [])) → (flush : Option ℕ) → AreDealt sizes flush [] ws
  none_dealt ws count none flush = record {
    few = omega arith;
    count = count;
    each = λ i d inside. record {
      prepared = subst (ArePrepared sizes []) (sym (none i d inside).0) tt;
      counted = subst (AreCountedFor flush []) (sym (none i d inside).1) (none_counted flush);
    };
  }

  -- a worker gets one line more
  one_line : (flush : Option ℕ) (ls : List Line) (l : Line) (p : Prepared)
      (c : Option LineCounts) (w now : Worker K) → IsDealt sizes flush ls w
      → IsPrepared sizes l.number l.mutation p → IsCountedFor flush l.mutation c
      → now.writes.items ≡ w.writes.items ++ p ∷ []
      → now.counts.items ≡ with_counts w.counts.items c → IsDealt sizes flush (ls ++ l ∷ []) now
  one_line flush ls l p c w now dealt prepared counted writes counts = record {
    prepared = subst (ArePrepared sizes (ls ++ l ∷ [])) (sym writes)
        (one_prepared sizes ls w.writes.items l p dealt.prepared prepared);
    counted = subst (AreCountedFor flush (ls ++ l ∷ [])) (sym counts)
        (one_counted flush ls w.counts.items l c dealt.counted counted);
  }

  pub one_dealt : (flush : Option ℕ) (ms : List Mutation) (m : Mutation) (line at : ℕ)
      (ws : List (Worker K)) (p : Prepared) (c : Option LineCounts) (now e : Worker K)
      → AreDealt sizes flush ms ws → line ≡ length ms + 1 → line < 2 ^ 32
      → IsPrepared sizes line m p
      → IsCountedFor flush m c → at ≡ line % sizes.writers → at < length ws
      → now.writes.items ≡ (get_or ws at e).writes.items ++ p ∷ []
      → now.counts.items ≡ with_counts (get_or ws at e).counts.items c
      → AreDealt sizes flush (ms ++ m ∷ []) (set ws at now)
  one_dealt flush ms m line at ws p c now e dealt is low prepared counted at_is inside put
      counts =
      let its : ℕ → List Line = λ i. share_of sizes.writers i ms in
      let after : ℕ → List Line = λ i. share_of sizes.writers i (ms ++ m ∷ []) in
      let same : (d : Worker K) → get_or ws at e ≡ get_or ws at d =
      λ d. get_or_default ws at e d inside in
      record {
        few = let long = length_push ms m in omega (arith, long, is, low);
        count = length-set ws at now ∙ dealt.count;
        each = λ i d there.
            let low : i < length ws = subst (λ (n : ℕ). i < n) (length-set ws at now) there in
            dite (ℕ_discrete i at)
            (λ own. subst (IsDealt sizes flush (after i))
            (sym (ap (λ (k : ℕ). get_or (set ws at now) k d) own
            ∙ get_or-set_same ws at now d inside))
            (subst (λ (l : List Line). IsDealt sizes flush l now)
            (sym (its_line sizes.writers i ms m line is (own ∙ at_is)))
            (one_line flush (its i) (record { number = line; mutation = m }) p c
            (get_or ws at d) now
            (subst (λ (k : ℕ). IsDealt sizes flush (its i) (get_or ws k d)) own
            (dealt.each i d low)) prepared counted
            (put ∙ ap (λ (w : Worker K). w.writes.items ++ p ∷ []) (same d))
            (counts ∙ ap (λ (w : Worker K). with_counts w.counts.items c) (same d)))))
            (λ other. subst (IsDealt sizes flush (after i))
            (sym (get_or-set_other ws at i now d other))
            (subst (λ (l : List Line). IsDealt sizes flush l (get_or ws i d))
            (sym (other_line sizes.writers i ms m line is (λ same. other (same ∙ sym at_is))))
            (dealt.each i d low)));
      }

  -- The first lines are dealt out, and each of them fits.
  pub record DealsOut (flush : Option ℕ) (all rest : List Mutation) (line : ℕ)
      (ws : List (Worker K)) : Type 0 where
    pub done : List Mutation
    pub parts : all ≡ done ++ rest
    pub line_is : line ≡ length done
    pub dealt : AreDealt sizes flush done ws
    pub fit : AllFit sizes done

  pub begins_dealing : (flush : Option ℕ) (all : List Mutation) (ws : List (Worker K))
      → AreDealt sizes flush [] ws → DealsOut flush all all 0 ws
  begins_dealing flush all ws dealt = record {
    done = [];
    parts = refl;
    line_is = refl;
    dealt = dealt;
    fit = tt;
  }

  pub deals_one : (flush : Option ℕ) (all rest : List Mutation) (m : Mutation) (line : ℕ)
      (ws now : List (Worker K)) → DealsOut flush all (m ∷ rest) line ws
      → HasFittingEntry sizes.capacity m
      → ((done : List Mutation) → AreDealt sizes flush done ws → line + 1 ≡ length done + 1
      → AreDealt sizes flush (done ++ m ∷ []) now)
      → DealsOut flush all rest (line + 1) now
  deals_one flush all rest m line ws now d fits more =
      let is = d.line_is in
      let long = length_push d.done m in
      record {
        done = d.done ++ m ∷ [];
        parts = d.parts ∙ sym (append_assoc d.done (m ∷ []) rest);
        line_is = omega (arith, is, long);
        dealt = more d.done d.dealt (ap (λ (k : ℕ). k + 1) is);
        fit = all_more (HasFittingEntry sizes.capacity) d.done m d.fit fits;
      }

  pub all_out : (flush : Option ℕ) (all : List Mutation) (line : ℕ) (ws : List (Worker K))
      → DealsOut flush all [] line ws → AreDealt sizes flush all ws × AllFit sizes all
  all_out flush all line ws d =
      subst (λ (l : List Mutation). AreDealt sizes flush l ws × AllFit sizes l)
      (sym (d.parts ∙ append-nil d.done)) (d.dealt, d.fit)

  -- the next one is too large, as the first of all
  pub refused_at : (flush : Option ℕ) (all rest : List Mutation) (m : Mutation) (line : ℕ)
      (ws : List (Worker K)) (fault : PlanFault) → DealsOut flush all (m ∷ rest) line ws
      → PreparesLine sizes (line + 1) m (Err fault) → PlanRefused sizes all fault
  refused_at flush all rest m line ws (TooLarge number size most) d large = record {
    front = d.done;
    large = m;
    rest = rest;
    parts = d.parts;
    fitting = d.fit;
    number_is = large.0 ∙ ap (λ (k : ℕ). k + 1) d.line_is;
    over = large.1.over;
    size_is = large.1.size_is;
    most_is = large.1.max_is;
  }
  refused_at flush all rest m line ws OutOfMemory d large = tt
