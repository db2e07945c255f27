-- What may stand under the name of a segment of whose last section a disk has not taken all.
use Rattle.std.specs.Prelude.{
  ◌≡◌,
  ◌⊎◌,
  ℕ,
  ◌≤◌,
  List,
  [],
  ◌∷◌,
  ◌++◌,
  length,
  Option,
  IfSome,
}
use Rattle.std.specs.FinMap as finmap
use Rattle.clog_spec.specs.Names.{segment_name_of}
use Rattle.clog_disk.specs.Files.{Files}
use Rattle.clog_scan.specs.Cut.{Section}
use Rattle.clog_crash.specs.Rest.{Tail}
use Rattle.clog_crash.specs.Sections.{segment_bytes}
use Rattle.clog_crash.specs.Tail.{ReadsFirst}

-- these are the sections, or all but the last of them
abbrev pub AreAllButLast : List Section → List Section → Type 0
AreAllButLast part sections =
    (sections ≡ part) ⊎ ((torn : Section) × (sections ≡ part ++ torn ∷ []))

-- All sections stand there, or all but the last, which is not one of the first so many, and behind
-- them any bytes, at most as many as that one has. A file without sections may be absent.
pub record StandsTorn (id count : ℕ) (sections : List Section) (what : Option (List ℕ)) : Type 0
  where
    pub part : List Section
    pub parted : AreAllButLast part sections
    pub enough : count ≤ length part
    pub tail : Tail (length (segment_bytes id part)) (segment_bytes id sections) what

-- So it is with what stands under the segment's name, where the disk tells its files.
abbrev pub HandStands : Option Files → ℕ → ℕ → List Section → Type 0
HandStands told id count sections =
    IfSome told (λ f. StandsTorn id count sections (finmap.get f (segment_name_of 6 id)))

-- Reading these bytes gives the entries of all sections, or of all but the last, the first so many
-- among them, and behind them the first entries of that one.
pub record ReadsTorn (id count : ℕ) (sections : List Section) (bytes : List ℕ) : Type 0 where
  pub part : List Section
  pub more : List Section
  pub parted : sections ≡ part ++ more
  pub few : length more ≤ 1
  pub enough : count ≤ length part
  pub reads : ReadsFirst id part more bytes
