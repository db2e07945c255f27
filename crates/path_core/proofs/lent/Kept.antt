-- The notes between two keys are those up to a key between, and behind them the others.
use Rattle.std.proofs.Common.{
  ◌≡◌,
  ℕ,
  zero,
  suc,
  ◌≤◌,
  nat_lt,
  nat_le,
  ◌&&◌,
  cond,
  Bool,
  true,
  false,
  List,
  [],
  ◌∷◌,
  ◌++◌,
  refl,
  sym,
  ap,
  ◌∙◌,
  arith,
}
use Rattle.std.specs.List.{Contains, AllPairs, filter}
use Rattle.std.proofs.lemmas.Bool.{cond-false, ltb-true, ltb-false, leb-true, leb-false, lt-leb}
use Rattle.path_core.specs.declared.note.EntryNote.{EntryNote}
use Rattle.path_core.specs.Next.{is_between}
use Rattle.path_core.proofs.lists.Heads.{ahead, behind}
use Rattle.path_core.proofs.lent.Numbers.{Rising}

none_pass : {A : Type 0} (p : A → Bool) (l : List A) → ((a : A) → Contains l a → p a ≡ false)
    → filter p l ≡ []
none_pass p [] out = refl
none_pass p (x ∷ xs) out = cond-false (p x) (x ∷ filter p xs) (filter p xs)
    (out x (zero, omega arith, refl)) ∙ none_pass p xs
    (λ a h. out a (suc h.0, (let l = h.1 in omega arith), h.2))

and_no : (a b : Bool) → b ≡ false → (a && b) ≡ false
and_no true b e = e
and_no false b e = refl

pub split_at : (low mid high : ℕ) → low ≤ mid → mid ≤ high → (l : List EntryNote)
    → AllPairs Rising l → filter (is_between low high) l ≡ filter (is_between low mid) l ++
    filter (is_between mid high) l
split_at low mid high lo hi [] order = refl
split_at low mid high lo hi (n ∷ ns) order =
    by (split_at low mid high lo hi ns (behind Rising n ns order)) (nat_lt low n.end.0)
    (nat_le n.end.0 mid) (nat_lt mid n.end.0) (nat_le n.end.0 high) refl refl refl refl
  where
    none : nat_le n.end.0 mid ≡ false → filter (is_between low mid) ns ≡ []
    none e = none_pass (is_between low mid) ns (λ m h. let r = ahead Rising n ns order m h in
        let g = leb-false n.end.0 mid e in and_no (nat_lt low m.end.0) (nat_le m.end.0 mid)
        (lt-leb m.end.0 mid (omega arith)))

    by : filter (is_between low high) ns ≡ filter (is_between low mid) ns ++ filter
        (is_between mid high) ns → (a b c d : Bool) → nat_lt low n.end.0 ≡ a
        → nat_le n.end.0 mid ≡ b → nat_lt mid n.end.0 ≡ c → nat_le n.end.0 high ≡ d
        → cond (a && d) (n ∷ filter (is_between low high) ns) (filter (is_between low high) ns) ≡
        cond (a && b) (n ∷ filter (is_between low mid) ns) (filter (is_between low mid) ns)
        ++ cond (c && d) (n ∷ filter (is_between mid high) ns) (filter (is_between mid high) ns)
    by rest a true true d ea eb ec ed = absurd (let l = leb-true n.end.0 mid eb in
        let g = ltb-true mid n.end.0 ec in omega arith)
    by rest a false false d ea eb ec ed = absurd (let l = leb-false n.end.0 mid eb in
        let g = ltb-false mid n.end.0 ec in omega arith)
    by rest a true false false ea eb ec ed = absurd (let l = leb-true n.end.0 mid eb in
        let g = leb-false n.end.0 high ed in omega arith)
    by rest true true false true ea eb ec ed = ap (λ l. n ∷ l) rest
    by rest false true false true ea eb ec ed = rest
    by rest false false true d ea eb ec ed = absurd (let l = leb-false n.end.0 mid eb in
        let g = ltb-false low n.end.0 ea in omega arith)
    by rest true false true true ea eb ec ed = ap
        (λ l. n ∷ l) (rest ∙ ap (λ g. g ++ filter (is_between mid high) ns) (none eb))
        ∙ sym (ap (λ g. g ++ n ∷ filter (is_between mid high) ns) (none eb))
    by rest true false true false ea eb ec ed = rest
