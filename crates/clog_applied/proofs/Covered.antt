-- Files that follow one another hold each position between the first and the last once.
use Rattle.std.proofs.Common.{◌≡◌, ◌⊎◌, inl, inr, List, [], ◌∷◌, sym, ◌∙◌, ap, subst}
use Rattle.std.specs.Prelude.{Contains}
use Rattle.clog_base.specs.declared.cell.Table.{Table}
use Rattle.clog_base.specs.declared.position.Position.{Position}
use Rattle.clog_base.specs.Positions.{IsBelow, IsUpTo}
use Rattle.clog_base.proofs.Members.{nothing_there, here, further, first_or_further}
use Rattle.clog_base.proofs.PositionOrder.{
  below_or_up_to,
  not_both,
  up_to_itself,
  up_to_trans,
}
use Rattle.clog_table.specs.declared.table_file.TableFile.{TableFile}
use Rattle.clog_crash.specs.Droppable.{IsFiled}
use Rattle.clog_crash.specs.Restore.{IsInInterval}
use Rattle.clog_crash.proofs.changes.Intervals.{inside_or_not, table_or_not}
use Rattle.clog_applied.specs.Filed.{FollowFrom, last_upper}

-- each of them begins at or above the position
begins_from : (at : Position) (files : List TableFile) → FollowFrom at files
    → (file : TableFile) → Contains files file → IsUpTo at file.lower
begins_from at [] follow file h = absurd (nothing_there file h)
begins_from at (f ∷ fs) follow file h = elim (first_or_further f fs file h) [
  | inl is ↦
      subst (λ (x : TableFile). IsUpTo at x.lower) is
      (subst (λ (p : Position). IsUpTo at p) (sym follow.0) (up_to_itself at))
  | inr more ↦
      up_to_trans at f.upper file.lower
      (subst (λ (p : Position). IsUpTo p f.upper) follow.0 follow.1)
      (begins_from f.upper fs follow.2 file more)
]

-- and ends there or above it
pub ends_from : (at : Position) (files : List TableFile) → FollowFrom at files
    → (file : TableFile) → Contains files file → IsUpTo at file.upper
ends_from at [] follow file h = absurd (nothing_there file h)
ends_from at (f ∷ fs) follow file h =
    let first : IsUpTo at f.upper =
    subst (λ (p : Position). IsUpTo p f.upper) follow.0 follow.1 in
    elim (first_or_further f fs file h) [
      | inl is ↦ subst (λ (x : TableFile). IsUpTo at x.upper) is first
      | inr more ↦ up_to_trans at f.upper file.upper first
          (ends_from f.upper fs follow.2 file more)
    ]

-- the position is at or below the end of the last file, and so is each file's end
at_below_last : (at : Position) (files : List TableFile) → FollowFrom at files
    → IsUpTo at (last_upper at files)
at_below_last at [] follow = up_to_itself at
at_below_last at (f ∷ fs) follow =
    up_to_trans at f.upper (last_upper f.upper fs)
    (subst (λ (p : Position). IsUpTo p f.upper) follow.0 follow.1)
    (at_below_last f.upper fs follow.2)

pub each_below_last : (at : Position) (files : List TableFile) → FollowFrom at files
    → (file : TableFile) → Contains files file → IsUpTo file.upper (last_upper at files)
each_below_last at [] follow file h = absurd (nothing_there file h)
each_below_last at (f ∷ fs) follow file h = elim (first_or_further f fs file h) [
  | inl same ↦ subst (λ (x : TableFile). IsUpTo x.upper (last_upper f.upper fs)) same
      (at_below_last f.upper fs follow.2)
  | inr more ↦ each_below_last f.upper fs follow.2 file more
]

pub record IsHeldOnce (files : List TableFile) (p : Position) : Type 0 where
  pub file : TableFile
  pub listed : Contains files file
  pub inside : IsInInterval file p
  pub one : (other : TableFile) → Contains files other → IsInInterval other p → other ≡ file

pub held_once : (at : Position) (files : List TableFile) → FollowFrom at files
    → (p : Position) → IsBelow at p → IsUpTo p (last_upper at files) → IsHeldOnce files p
held_once at [] follow p above below = absurd (not_both at p above below)
held_once at (f ∷ fs) follow p above below = elim (below_or_up_to f.upper p) [
  | inr within ↦ record {
    file = f;
    listed = here f fs;
    inside = record {
      above = subst (λ (x : Position). IsBelow x p) (sym follow.0) above;
      up_to = within;
    };
    one = λ other h inside. elim (first_or_further f fs other h) [
      | inl is ↦ sym is
      | inr more ↦ absurd (not_both other.lower p inside.above
          (up_to_trans p f.upper other.lower within
          (begins_from f.upper fs follow.2 other more)))
    ];
  }
  | inl behind ↦
      let rest = held_once f.upper fs follow.2 p behind below in
      record {
        file = rest.file;
        listed = further f fs rest.file rest.listed;
        inside = rest.inside;
        one = λ other h inside. elim (first_or_further f fs other h) [
          | inl is ↦ absurd (not_both f.upper p behind
              (subst (λ (x : TableFile). IsUpTo p x.upper) (sym is) inside.up_to))
          | inr more ↦ rest.one other more inside
        ];
      }
]

-- ---- a file of a table that holds a position, or none

abbrev pub IsNoneOf : List TableFile → Table → Position → Type 0
IsNoneOf files table at = (file : TableFile) → Contains files file → file.table ≡ table
    → IsInInterval file at → ⊥

pub filed_or_not : (files : List TableFile) (table : Table) (at : Position)
    → IsFiled files table at ⊎ IsNoneOf files table at
filed_or_not [] table at = inr (λ file h same inside. nothing_there file h)
filed_or_not (f ∷ fs) table at = elim (filed_or_not fs table at) [
  | inl found ↦ inl (record {
    file = found.file;
    listed = further f fs found.file found.listed;
    same_table = found.same_table;
    inside = found.inside;
  })
  | inr none ↦ elim (table_or_not f.table table) [
    | inr apart ↦ inr (λ file h same inside. elim (first_or_further f fs file h) [
      | inl is ↦ apart (ap (λ (x : TableFile). x.table) is ∙ same)
      | inr more ↦ none file more same inside
    ])
    | inl same_table ↦ elim (inside_or_not f at) [
      | inl inside ↦ inl (record {
        file = f;
        listed = here f fs;
        same_table = same_table;
        inside = inside;
      })
      | inr out ↦ inr (λ file h same inside. elim (first_or_further f fs file h) [
        | inl is ↦ out (subst (λ (x : TableFile). IsInInterval x at) (sym is) inside)
        | inr more ↦ none file more same inside
      ])
    ]
  ]
]
