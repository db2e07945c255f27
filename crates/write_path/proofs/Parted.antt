-- A mark parts the entries: each ends in front of it, or behind the key at which the log goes on
-- behind it.
use Rattle.std.proofs.Common.{◌≡◌, ◌⊎◌, ℕ, ◌<◌, ◌≤◌, subst, ⊎_elim, arith}
use Rattle.std.specs.List.{Contains}
use mathlib.Core.Logic.{inl, inr}
use Rattle.path_core.specs.declared.note.EntryNote.{EntryNote}
use Rattle.path_core.specs.declared.state.PathState.{PathState}
use Rattle.path_core.specs.Keys.{after}
use Rattle.path_core.specs.Lawful.{IsLawfulPath}
use Rattle.path_core.proofs.log.KeepsNotes.{note_long}
use Rattle.path_rule.specs.Trails.{IsMark}
use Rattle.path_rule.proofs.log.Marks.{notes_around}

pub parts_at : (capacity : ℕ) (x : PathState) → IsLawfulPath x → x.capacity ≡ capacity
    → (key : ℕ) → IsMark x key → (n : EntryNote) → Contains x.notes n
    → (n.end.0 ≤ key) ⊎ (after capacity key < n.end.0)
parts_at capacity x L fits key M n h =
    subst (λ c. (n.end.0 ≤ key) ⊎ (after c key < n.end.0)) fits
    (⊎_elim (λ (low : n.end.0 ≤ key). inl low)
    (λ (behind : after x.capacity key ≤ n.start.0).
    let long = note_long x L.sized L.claims_tile_the_log L.orders L.own_claim
    L.each_claim_noted_once L.notes_are_claims n h in inr (omega (arith, behind, long)))
    (notes_around x L key M n h))
