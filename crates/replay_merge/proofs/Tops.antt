-- The greatest position of payloads, one after another.
use Rattle.std.proofs.Common.{◌≡◌, ℕ, ◌+◌, ◌<◌, List, [], ◌∷◌, ◌++◌, length, map, take, get_or}
use Rattle.std.proofs.Common.{append_assoc, refl, sym, ap, subst, ◌∙◌, inl, inr, arith}
use Rattle.std.proofs.lemmas.Bool.{cases_lt}
use Rattle.std.proofs.lemmas.List.{append-nil, map-append, take_more}
use Rattle.std.proofs.lemmas.List.Elements.{Contains-append_left, Contains-push}
use Rattle.std.proofs.lemmas.List.Elements.{Contains-push_cases}
use Rattle.clog_base.specs.declared.position.Position.{Position}
use Rattle.clog_base.specs.Positions.{IsUpTo}
use Rattle.clog_base.proofs.Members.{nothing_there}
use Rattle.clog_base.proofs.PositionOrder.{up_to_trans}
use Rattle.clog_folder.specs.Folder.{PlacedPayload}
use Rattle.replay_merge.specs.Entries.{Entry}
use Rattle.replay_merge.specs.Logged.{IsLaterOf, IsTop, start}
use Rattle.replay_merge.specs.Piped.{placed_of}

pub from_start : (top : Position) → IsUpTo start top
from_start top = elim (cases_lt 0 top.id) [
  | inl some ↦ inl (omega (arith, some))
  | inr none ↦ inr (omega (arith, none), omega arith)
]

pub top_of_none : IsTop [] start
top_of_none = record {
  behind = λ p there. absurd (nothing_there p there);
  one = inl refl;
}

top_more : (ps : List PlacedPayload) (p : PlacedPayload) (top later : Position)
    → IsTop ps top → IsLaterOf top p.0 later → IsTop (ps ++ p ∷ []) later
top_more ps p top later so_far is = record {
  behind = λ q there. elim (Contains-push_cases ps p q there) [
    | inl old ↦ up_to_trans q.0 top later (so_far.behind q old) is.first
    | inr same ↦ subst (λ (x : PlacedPayload). IsUpTo x.0 later) same is.second
  ];
  one = elim is.one [
    | inl as_before ↦ elim so_far.one [
      | inl begins ↦ inl (as_before ∙ begins)
      | inr has ↦ inr (
        has.0,
        Contains-append_left ps (p ∷ []) has.0 has.1,
        has.2 ∙ sym as_before,
      )
    ]
    | inr new ↦ inr (p, Contains-push ps p, sym new)
  ];
}

-- With these behind whatever was, it is the one or the other.
abbrev pub Reaches : List Entry → Position → Position → Type 0
Reaches items top later =
    (before : List PlacedPayload) → IsTop before top → IsTop (before ++ map placed_of items) later

pub reaches_none : (top : Position) → Reaches [] top top
reaches_none top before is =
    subst (λ (ps : List PlacedPayload). IsTop ps top) (sym (append-nil before)) is

pub reaches_more : {A : Type 0} (f : A → Entry) (xs : List A) (i : ℕ) (d : A)
    (first top later : Position) → i < length xs → Reaches (map f (take i xs)) first top
    → IsLaterOf top (placed_of (f (get_or xs i d))).0 later
    → Reaches (map f (take (i + 1) xs)) first later
reaches_more f xs i d first top later inside so_far is before begins =
    let seen = map f (take i xs) in
    let e = f (get_or xs i d) in
    let items : map f (take (i + 1) xs) ≡ seen ++ e ∷ [] =
    ap (map f) (take_more xs i d inside) ∙ map-append f (take i xs) (get_or xs i d ∷ []) in
    subst (λ (ps : List PlacedPayload). IsTop ps later)
    (append_assoc before (map placed_of seen) (placed_of e ∷ [])
    ∙ ap (λ ps. before ++ ps) (sym (map-append placed_of seen (e ∷ [])))
    ∙ ap (λ es. before ++ map placed_of es) (sym items))
    (top_more (before ++ map placed_of seen) (placed_of e) top later (so_far before begins) is)
