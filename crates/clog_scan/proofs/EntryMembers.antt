-- The members of entries that are laid end to end.
use Rattle.std.proofs.Common.{◌≡◌, ℕ, ◌+◌, List, [], ◌∷◌, length, inl, inr, subst}
use Rattle.std.specs.Prelude.{Contains}
use Rattle.clog_base.proofs.Members.{nothing_there, here, further, first_or_further}
use Rattle.clog_scan.specs.Segment.{Entry, entry_from, entries_from}
use Rattle.clog_spec.specs.Sizes.{frame_size}

pub payload_in : (at : ℕ) (payloads : List (List ℕ)) (entry : Entry)
    → Contains (entries_from at payloads) entry → Contains payloads entry.payload
payload_in at [] entry h = absurd (nothing_there entry h)
payload_in at (p ∷ ps) entry h =
    elim (first_or_further (entry_from at p) (entries_from
    (at + frame_size + length p) ps) entry h) [
      | inl same ↦ subst (λ (e : Entry). Contains (p ∷ ps) e.payload) same (here p ps)
      | inr more ↦ further p ps entry.payload
          (payload_in (at + frame_size + length p) ps entry more)
    ]

pub entry_in : (at : ℕ) (payloads : List (List ℕ)) (payload : List ℕ) → Contains payloads payload
    → (entry : Entry) × Contains (entries_from at payloads) entry × (entry.payload ≡ payload)
entry_in at [] payload h = absurd (nothing_there payload h)
entry_in at (p ∷ ps) payload h = elim (first_or_further p ps payload h) [
  | inl same ↦ (
    entry_from at p,
    here (entry_from at p) (entries_from (at + frame_size + length p) ps),
    same,
  )
  | inr more ↦ let rest = entry_in (at + frame_size + length p) ps payload more in (
    rest.0,
    further (entry_from at p) (entries_from (at + frame_size + length p) ps) rest.0 rest.1,
    rest.2,
  )
]
