-- What reading the segment at hand gives, whatever its disk has failed at.
use Rattle.std.proofs.Common.{
  ◌≡◌,
  ℕ,
  ◌≤◌,
  inl,
  inr,
  List,
  [],
  ◌∷◌,
  ◌++◌,
  length,
  Option,
  refl,
  sym,
  ◌∙◌,
  subst,
  arith,
  append-nil,
}
use Rattle.std.specs.Prelude.{unwrap_or}
use Rattle.clog_scan.specs.Cut.{Section}
use Rattle.clog_crash.specs.Chance.{NoChance}
use Rattle.clog_crash.specs.Rest.{Tail}
use Rattle.clog_crash.specs.Sections.{IsStored, segment_bytes}
use Rattle.clog_crash.proofs.rest.Left.{left_reads}
use Rattle.clog_segments.specs.Torn.{ReadsTorn, StandsTorn}

module _ (id count : ℕ) (what : Option (List ℕ)) where
  reads_with : (part more sections : List Section) → sections ≡ part ++ more → length more ≤ 1
      → count ≤ length part → Tail (length (segment_bytes id part)) (segment_bytes id sections) what
      → IsStored id sections → NoChance id sections (unwrap_or what [])
      → ReadsTorn id count sections (unwrap_or what [])
  reads_with part more sections parted few enough tail stored chance = record {
    part = part;
    more = more;
    parted = parted;
    few = few;
    enough = enough;
    reads = (left_reads id part more (subst (IsStored id) parted stored) (unwrap_or what [])
        (subst (λ (l : List Section). NoChance id l (unwrap_or what [])) parted chance) what refl
        (subst (λ (l : List Section). Tail (length (segment_bytes id part)) (segment_bytes id l)
        what) parted tail)).1;
  }

  pub reads_torn : (sections : List Section) → IsStored id sections
      → StandsTorn id count sections what → NoChance id sections (unwrap_or what [])
      → ReadsTorn id count sections (unwrap_or what [])
  reads_torn sections stored stands chance = elim stands.parted [
    | inl all ↦ reads_with stands.part [] sections (all ∙ sym (append-nil stands.part))
        (omega arith) stands.enough stands.tail stored chance
    | inr torn ↦ reads_with stands.part (torn.0 ∷ []) sections torn.1 (omega arith)
        stands.enough stands.tail stored chance
  ]
