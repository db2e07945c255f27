-- What a crash leaves of the segment that is written to reads as the old entries and the first of
-- the new ones.
use Rattle.std.proofs.Common.{
  ◌≡◌,
  ℕ,
  inl,
  inr,
  List,
  [],
  ◌∷◌,
  ◌++◌,
  length,
  take,
  drop,
  Option,
  Some,
  None,
  refl,
  sym,
  ◌∙◌,
  ap,
  subst,
  arith,
}
use Rattle.std.specs.Prelude.{unwrap_or}
use Rattle.std.proofs.lemmas.List.{take-append-drop}
use Rattle.std.proofs.Math.Seq.{take-append_seam}
use Rattle.clog_scan.specs.Cut.{Section}
use Rattle.clog_scan.specs.Laws.{IsFile}
use Rattle.clog_crash.specs.Chance.{NoChance}
use Rattle.clog_crash.specs.Rest.{Kept, Tail}
use Rattle.clog_crash.specs.Sections.{segment_bytes, IsStored}
use Rattle.clog_crash.specs.Tail.{Written, Begins, ReadsFirst}
use Rattle.clog_crash.proofs.rest.Sectioned.{begins_with}
use Rattle.clog_crash.proofs.torn.Torn.{torn}

begins : (id : ℕ) (old : List Section) (rest b w : List ℕ) → w ≡ segment_bytes id old ++ rest
    → Kept (length (segment_bytes id old)) w b → Begins id old b
begins id [] rest b w is kept = inr refl
begins id (s ∷ ss) rest b w is kept =
    let k = length (segment_bytes id (s ∷ ss)) in
    let front : take k b ≡ segment_bytes id (s ∷ ss) =
    kept.front ∙ ap (take k) is ∙ take-append_seam (segment_bytes id (s ∷ ss)) rest in
    inl (
      drop k b,
      sym (take-append-drop k b) ∙ ap (λ (l : List ℕ). l ++ drop k b) front,
    )

begins_nowhere : (id : ℕ) (old : List Section) (b : List ℕ) → length (segment_bytes id old) ≡ 0
    → Begins id old b
begins_nowhere id [] b none = inr refl
begins_nowhere id (s ∷ ss) b none = absurd (omega (arith, none))

module _ (id : ℕ) (old more : List Section) (stored : IsStored id (old ++ more)) (b : List ℕ)
    (chance : NoChance id (old ++ more) b) where
  by_left : (left : Option (List ℕ)) → b ≡ unwrap_or left []
      → Tail (length (segment_bytes id old)) (segment_bytes id (old ++ more)) left
      → IsFile b × Begins id old b
  by_left None none tail = (
    record { are_bytes = chance.are_bytes; short = omega (arith, ap length none) },
    begins_nowhere id old b tail,
  )
  by_left (Some l) same tail =
      let parts = begins_with id old more in (
        record {
          are_bytes = chance.are_bytes;
          short = omega (arith, ap length same, tail.no_longer, stored.short);
        },
        subst (Begins id old) (sym same)
            (begins id old parts.0 l (segment_bytes id (old ++ more)) parts.1 tail),
      )

  pub left_reads : (left : Option (List ℕ)) → b ≡ unwrap_or left []
      → Tail (length (segment_bytes id old)) (segment_bytes id (old ++ more)) left
      → IsFile b × ReadsFirst id old more b
  left_reads left same tail =
      let begun = by_left left same tail in
      let written : Written old more =
      record { end = length (segment_bytes id (old ++ more)); whole = stored.whole } in (
        begun.0,
        torn id old more b (omega (arith, stored.fits)) begun.0 written begun.1 chance,
      )
