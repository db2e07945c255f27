-- A name that reads as no bytes is no segment with entries, and no table file.
use Rattle.std.proofs.Common.{
  ◌≡◌,
  ◌⊎◌,
  ℕ,
  inl,
  inr,
  List,
  [],
  ◌∷◌,
  length,
  Option,
  Some,
  None,
  refl,
  sym,
  ◌∙◌,
  ap,
  subst,
  arith,
}
use Rattle.std.specs.Prelude.{Contains, unwrap_or}
use Rattle.std.specs.FinMap as finmap
use Rattle.clog_base.specs.declared.cell.Table.{Table}
use Rattle.clog_base.proofs.Members.{nothing_there}
use Rattle.clog_disk.specs.Files.{Files, bytes_at}
use Rattle.clog_scan.specs.declared.answer.End.{End}
use Rattle.clog_scan.specs.Laws.{AreLaidOut, place_of}
use Rattle.clog_scan.specs.Segment.{Entry, IsSegment}
use Rattle.clog_scan.proofs.Order.{laid}
use Rattle.clog_table.specs.declared.table_file.TableFile.{TableFile}
use Rattle.clog_table.specs.Refusals.{IsFileOf}

pub reads_as : (files : Files) (name bytes : List ℕ) → finmap.get files name ≡ Some bytes
    → bytes_at files name ≡ bytes
reads_as files name bytes there = ap (λ (o : Option (List ℕ)). unwrap_or o []) there

-- a file is there, or its name reads as nothing
pub there_or_nothing : (files : Files) (name : List ℕ)
    → (finmap.get files name ≡ Some (bytes_at files name)) ⊎ (bytes_at files name ≡ [])
there_or_nothing files name = by_case (finmap.get files name) refl
  where
    by_case : (o : Option (List ℕ)) → finmap.get files name ≡ o
        → (finmap.get files name ≡ Some (bytes_at files name)) ⊎ (bytes_at files name ≡ [])
    by_case None is = inr (ap (λ (x : Option (List ℕ)). unwrap_or x []) is)
    by_case (Some bytes) is = inl (is ∙ ap Some (sym (reads_as files name bytes is)))

none_held : (id from : ℕ) (entries : List Entry) (place : ℕ)
    → AreLaidOut [] id from entries place → (entry : Entry) → Contains entries entry → ⊥
none_held id from [] place laid entry h = nothing_there entry h
none_held id from (e ∷ es) place laid entry h =
    let held = laid.1 in
    absurd (omega (arith, held.range, held.section.within, held.section.is_marker.within))

pub none_logged : (id : ℕ) (entries : List Entry) (end : End) (bytes : List ℕ) → bytes ≡ []
    → IsSegment bytes id entries end → (entry : Entry) → Contains entries entry → ⊥
none_logged id entries end bytes none holds entry h =
    let nothing : IsSegment [] id entries end =
    subst (λ (b : List ℕ). IsSegment b id entries end) none holds in
    none_held id 0 entries (place_of end) (laid [] id entries end nothing) entry h

pub no_table : (table : Table) (file : TableFile) (bytes : List ℕ) → bytes ≡ []
    → IsFileOf table bytes file → ⊥
no_table table file bytes none is =
    let clash = sym none ∙ is.spelled in absurd (omega (arith, ap length clash))
