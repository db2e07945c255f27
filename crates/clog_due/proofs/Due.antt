-- What is computed of a keeper's entries and files is what is to be dropped.
use Rattle.std.proofs.Common.{
  ◌≡◌,
  ℕ,
  Bool,
  true,
  false,
  cond,
  List,
  [],
  ◌∷◌,
  ◌++◌,
  refl,
  sym,
  ap,
  subst,
  ◌∙◌,
  inl,
  inr,
  arith,
}
use Rattle.std.specs.Prelude.{◌↔◌, ◌⊎◌, Contains, IsTrue}
use Rattle.std.specs.BTreeMap.{is_at}
use Rattle.std.specs.BTreeSet.{BTreeSet, Updates, contains}
use Rattle.std.specs.Cmp.{unsigned_tied}
use Rattle.std.specs.List.{All}
use Rattle.std.specs.Ordering.{nat_cmp}
use Rattle.std.proofs.lemmas.Bool.{eq-eqb}
use Rattle.std.proofs.lemmas.Bool.Decides.{eqb_tells}
use Rattle.std.proofs.lemmas.Cmp.{nat_cmp_total}
use Rattle.std.proofs.lemmas.List.Elements.{
  Contains-append_left,
  Contains-push,
  Contains-push_cases,
}
use Rattle.std.proofs.lemmas.Map.Lookups.{exact_unsigned}
use Rattle.std.proofs.lemmas.Map.Views.{btree_set_contains_iff}
use Rattle.clog_spec.specs.Sizes.{most_tables}
use Rattle.path_core.specs.Keeper.{Holding, IsDue, MayDrop}
use Rattle.clog_due.specs.declared.counted.Counted.{Counted}
use Rattle.clog_due.specs.Counting.{IsAllCounted}
use Rattle.clog_due.specs.Dropping.{
  AreDue,
  AreFiled,
  ArePicked,
  ArePlaced,
  HasEntry,
  IsClosedAndGoes,
  IsFiledAt,
}
use Rattle.clog_due.proofs.TableLogs.{filed_tables, is_of_parts, tables_filed}

-- ---- sets of numbers

pub in_set : (s : BTreeSet ℕ) (o : ℕ) → IsTrue (contains nat_cmp s o) ↔ Contains s.keys o
in_set s o = btree_set_contains_iff nat_cmp_total exact_unsigned s o

cond_same : (b : Bool) → cond b true true ≡ true
cond_same true = refl
cond_same false = refl

-- one more is in a set
pub set_more : (before now : BTreeSet ℕ) (k : ℕ) → Updates nat_cmp before now k true → (o : ℕ)
    → Contains now.keys o ↔ (Contains before.keys o ⊎ (k ≡ o))
set_more before now k updates o = (
  λ there. elim (eqb_tells k o) [
    | inl same ↦ inr same.1
    | inr other ↦ inl ((in_set before o).0
        (sym (updates.0 o ∙ ap (λ (b : Bool). cond b true (contains nat_cmp before o))
        (unsigned_tied k o ∙ other.0)) ∙ (in_set now o).1 there))
  ],
  λ either. (in_set now o).0 (updates.0 o ∙ elim either [
    | inl old ↦ ap (λ (b : Bool). cond (is_at (nat_cmp k) o) true b) ((in_set before o).1 old)
        ∙ cond_same (is_at (nat_cmp k) o)
    | inr same ↦ ap (λ (b : Bool). cond b true (contains nat_cmp before o))
        (unsigned_tied k o ∙ eq-eqb k o same)
  ]),
)

-- ---- the numbers of a list, and of entries

pub numbers_more : (numbers : List ℕ) (k : ℕ) (before now : BTreeSet ℕ)
    → ((o : ℕ) → Contains before.keys o ↔ Contains numbers o) → Updates nat_cmp before now k true
    → (o : ℕ) → Contains now.keys o ↔ Contains (numbers ++ k ∷ []) o
numbers_more numbers k before now are updates o = (
  λ there. elim ((set_more before now k updates o).0 there) [
    | inl old ↦ Contains-append_left numbers (k ∷ []) o ((are o).0 old)
    | inr same ↦ subst (Contains (numbers ++ k ∷ [])) same (Contains-push numbers k)
  ],
  λ there. (set_more before now k updates o).1 (elim (Contains-push_cases numbers k o there) [
    | inl old ↦ inl ((are o).1 old)
    | inr same ↦ inr same
  ]),
)

-- ---- what is due

module _ (h : Holding) (placed : ArePlaced h.logged) where
  may_drop : (o : ℕ) → HasEntry h.logged o → (HasEntry h.kept o → ⊥)
      → AreFiled most_tables h.logged h.files o → MayDrop h o
  may_drop o has not_kept filed = record {
    note = has.0;
    among = has.1;
    here = has.2;
    none_kept = λ n among here. not_kept (n, among, here);
    filed = λ t a b in_a in_b is_a is_b key from to.
        let low = (placed a in_a).tables t (is_of_parts o t a is_a).1 in
        filed t low a b in_a in_b is_a is_b key from to;
  }

  module _ (closed : ℕ) (held : BTreeSet ℕ) (kept : BTreeSet ℕ) (c : Counted)
      (counted : IsAllCounted h.logged h.files h.dropped c)
      (held_are : (o : ℕ) → Contains held.keys o ↔ Contains c.held.items o)
      (kept_are : (o : ℕ) → Contains kept.keys o ↔ HasEntry h.kept o) where
    filed_there : (o : ℕ) → All (IsFiledAt o) c.tables.items
        → AreFiled most_tables h.logged h.files o
    filed_there o all t low =
        tables_filed h.logged h.files o placed 0 most_tables c.tables.items counted.tables all t
        (omega arith) low

    due_of : (o : ℕ) → Contains held.keys o
        → IsClosedAndGoes c.tables.items kept.keys closed o → IsDue h closed o
    due_of o there may =
        let is = (counted.held o).0 ((held_are o).0 there) in (
          may.below,
          may_drop o is.0 (λ has. may.goes.not_kept ((kept_are o).1 has))
              (filed_there o may.goes.filed),
          is.1,
        )

    goes_of : (o : ℕ) → IsDue h closed o
        → Contains held.keys o × IsClosedAndGoes c.tables.items kept.keys closed o
    goes_of o due =
        let may = due.1 in (
          (held_are o).1 ((counted.held o).1 ((may.note, may.among, may.here), due.2)),
          record {
            below = due.0;
            goes = record {
              not_kept = λ there.
                  let has = (kept_are o).0 there in may.none_kept has.0 has.1 has.2;
              filed = filed_tables h.logged h.files o placed 0 most_tables c.tables.items
                  counted.tables (λ t from low. may.filed t);
            };
          },
        )

    pub due_is : (due : List ℕ)
        → ArePicked (IsClosedAndGoes c.tables.items kept.keys closed) held.keys due
        → AreDue h closed due
    due_is due picked = record {
      ascending = picked.ascending;
      exact = λ o. (
        λ there. let may = (picked.exact o).0 there in due_of o may.0 may.1,
        λ is_due. (picked.exact o).1 (goes_of o is_due),
      );
    }
