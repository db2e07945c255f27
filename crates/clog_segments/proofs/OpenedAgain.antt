-- A folder that was opened can be opened, and has room for one file less of each table.
use Rattle.std.proofs.Common.{
  ◌≡◌,
  ◌⊎◌,
  ℕ,
  ◌+◌,
  ◌≤◌,
  inl,
  inr,
  List,
  Option,
  Some,
  None,
  refl,
  sym,
  ◌∙◌,
  ap,
  arith,
}
use Rattle.std.specs.Prelude.{is_some}
use Rattle.std.specs.FinMap as finmap
use Rattle.clog_spec.specs.Names.{IsTableName}
use Rattle.clog_base.proofs.NameLaws.{one_table}
use Rattle.clog_disk.specs.Files.{Files}
use Rattle.clog_crash.specs.Folder.{IsHeld, IsNameOfSegment}
use Rattle.clog_crash.proofs.OneMore.{bytes_of}
use Rattle.clog_folder.proofs.Listed.{held_of}
use Rattle.clog_segments.specs.Filing.{ComesFrom, IsRecoveryPut}
use Rattle.clog_segments.specs.Named.{sequence_limit}
use Rattle.clog_segments.specs.Opened.{
  CanBeOpened,
  HasRoomFor,
  IsOpened,
  KeepsFolder,
  SequencesAreBelow,
}
use Rattle.clog_segments.proofs.ImagesOpen.{opens}

-- there is nothing, or something
nothing_or : {A : Type 0} (o : Option A) → (o ≡ None) ⊎ ((x : A) × (o ≡ Some x))
nothing_or None = inl refl
nothing_or (Some x) = inr (x, refl)

module _ (before now : Files) (moment base count : ℕ) (is : IsOpened before moment base now)
    (room : HasRoomFor before (count + 1)) where
  no_segment : (name bytes : List ℕ) → finmap.get now name ≡ Some bytes → ¬ IsNameOfSegment name
  no_segment name bytes there named =
      is.recovered.no_segment (name, ap is_some there, named)

  comes : ComesFrom before now
  comes name bytes there = elim (nothing_or (finmap.get before name)) [
    | inl none ↦ inr (is.recovered.came name bytes there none)
    | inr was ↦
        let stands = is.recovered.others name was.0 (no_segment name bytes there) was.1 in
        let same : Some was.0 ≡ Some bytes = sym stands ∙ there in
        inl (was.1 ∙ same)
  ]

  below : SequencesAreBelow before
  below name table sequence named held =
      let fits = room.each name table sequence named held in omega (arith, fits)

  keeps : KeepsFolder before now
  keeps = record {
    same = is.recovered.same.same;
    undamaged = λ undamaged. is.recovered.same.undamaged;
  }

  -- what was put is at most one above what was there
  put_few : (name bytes : List ℕ) (table sequence : ℕ) → IsTableName name table sequence
      → IsRecoveryPut before name bytes → sequence + count ≤ sequence_limit
  put_few name bytes table sequence named put =
      let same : sequence ≡ put.sequence =
      (one_table name table sequence put.file.table.0 put.sequence named put.named).1 in
      elim put.next.one [
        | inl least ↦ let one = room.least in omega (arith, same, least, one)
        | inr next ↦
            let one = next.1 in
            let low = room.each one.0 put.file.table.0 next.0 one.2
            (held_of before (finmap.keys before) refl one.0 one.1) in
            let at = next.2 in
            omega (arith, same, at, low)
      ]

  few : (name : List ℕ) (table sequence : ℕ) → IsTableName name table sequence
      → IsHeld now name → sequence + count ≤ sequence_limit
  few name table sequence named held =
      let there = bytes_of (finmap.get now name) held in
      elim (comes name there.0 there.1) [
        | inl was ↦
            let low = room.each name table sequence named (ap is_some was) in omega (arith, low)
        | inr put ↦ put_few name there.0 table sequence named put
      ]

  pub opens_again : CanBeOpened now × HasRoomFor now count
  opens_again = (
    opens before now is.within below keeps comes,
    record {
      least = let one = room.least in omega (arith, one);
      each = few;
    },
  )
