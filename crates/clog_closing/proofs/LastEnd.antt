-- Where the last of notes in the order of the log ends.
use Rattle.std.proofs.Common.{
  ◌≡◌,
  ℕ,
  ◌-◌,
  ◌≤◌,
  inl,
  inr,
  List,
  [],
  ◌∷◌,
  get_or,
  length,
  refl,
  ◌∙◌,
  ap,
  subst,
  arith,
}
use Rattle.std.specs.Prelude.{Contains}
use Rattle.std.specs.List.{AllPairs}
use Rattle.std.proofs.lemmas.List.Elements.{Contains-get_or}
use Rattle.clog_base.proofs.Members.{first_or_further, further, here, nothing_there}
use Rattle.path_core.specs.declared.note.EntryNote.{EntryNote}
use Rattle.path_core.specs.History.{IsHistory}
use Rattle.path_core.proofs.lists.Heads.{ahead, behind}
use Rattle.clog_layout.specs.Ends.{end_behind, synced_to}

abbrev Before : EntryNote → EntryNote → Type 0
Before a b = a.end.0 ≤ b.start.0

-- none ends above the last one
behind_none : (n : EntryNote) (ns : List EntryNote) → AllPairs Before (n ∷ ns)
    → ((o : EntryNote) → Contains (n ∷ ns) o → o.start.0 ≤ o.end.0)
    → (n.end.0 ≤ end_behind n.end.0 ns)
    × ((o : EntryNote) → Contains ns o → o.end.0 ≤ end_behind n.end.0 ns)
behind_none n [] order forward = (omega arith, λ o among. absurd (nothing_there o among))
behind_none n (m ∷ ms) order forward =
    let rest = behind_none m ms (behind Before n (m ∷ ms) order)
    (λ o among. forward o (further n (m ∷ ms) o among)) in
    let up = ahead Before n (m ∷ ms) order m (here m ms) in
    let on = forward m (further n (m ∷ ms) m (here m ms)) in
    let last = rest.0 in (
      omega (arith, up, on, last),
      λ o among. elim (first_or_further m ms o among) [
        | inl same ↦ subst (λ (x : EntryNote). x.end.0 ≤ end_behind m.end.0 ms) same last
        | inr more ↦ rest.1 o more
      ],
    )

pub up_to_last : (capacity : ℕ) (notes : List EntryNote) → IsHistory capacity notes
    → (n : EntryNote) → Contains notes n → n.end.0 ≤ synced_to notes
up_to_last capacity [] is n among = absurd (nothing_there n among)
up_to_last capacity (m ∷ ms) is n among =
    let all = behind_none m ms is.apart
    (λ o h. let long = (is.each o h).long in omega (arith, long)) in
    elim (first_or_further m ms n among) [
      | inl same ↦ subst (λ (x : EntryNote). x.end.0 ≤ end_behind m.end.0 ms) same all.0
      | inr more ↦ all.1 n more
    ]

-- the last one
at_end : (n : EntryNote) (ns : List EntryNote) (d : EntryNote)
    → (get_or (n ∷ ns) (length ns) d).end.0 ≡ end_behind n.end.0 ns
at_end n [] d = refl
at_end n (m ∷ ms) d = at_end m ms d

pub last_ends : (notes : List EntryNote) (d : EntryNote) → 1 ≤ length notes
    → (get_or notes (length notes - 1) d).end.0 ≡ synced_to notes
last_ends [] d some = absurd (omega (arith, some))
last_ends (n ∷ ns) d some =
    let last : length (n ∷ ns) - 1 ≡ length ns = omega arith in
    ap (λ (i : ℕ). (get_or (n ∷ ns) i d).end.0) last ∙ at_end n ns d

-- it is not above a key above which none is
pub last_below : (key : ℕ) (notes : List EntryNote)
    → ((n : EntryNote) → Contains notes n → n.end.0 ≤ key) → synced_to notes ≤ key
last_below key [] low = omega arith
last_below key (n ∷ ns) low =
    subst (λ (e : ℕ). e ≤ key) (at_end n ns n)
    (low (get_or (n ∷ ns) (length ns) n)
    (Contains-get_or (n ∷ ns) (length ns) n (omega arith)))
