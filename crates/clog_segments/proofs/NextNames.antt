-- Which sequences the files of a table have in a store's folder: those of the opening, and those of
-- the files that were put.
use Rattle.std.proofs.Common.{
  ◌≡◌,
  ℕ,
  ◌^◌,
  ◌<◌,
  inl,
  inr,
  List,
  Some,
  None,
  refl,
  sym,
  ◌∙◌,
  ap,
  subst,
}
use Rattle.std.specs.Prelude.{Contains, IsSome, is_some}
use Rattle.std.specs.FinMap as finmap
use Rattle.clog_spec.specs.Names.{IsTableName}
use Rattle.clog_base.specs.declared.cell.Table.{Table}
use Rattle.clog_base.proofs.NameLaws.{one_table}
use Rattle.clog_disk.specs.Files.{Files}
use Rattle.clog_disk.proofs.Named.{same_or_other}
use Rattle.clog_crash.specs.Folder.{HoldsName, IsBase, IsHeld}
use Rattle.clog_crash.proofs.OneMore.{bytes_of}
use Rattle.clog_folder.proofs.Listed.{held_of, listed_of}
use Rattle.clog_segments.specs.Named.{HasSequence, OneHas}
use Rattle.clog_segments.specs.StoreFolder.{
  Deeds,
  HoldsStore,
  IsTaken,
  PlacedFile,
  StoreLog,
  name_of,
}
use Rattle.clog_segments.proofs.FolderNames.{AreBelow, table_elsewhere}
use Rattle.clog_segments.proofs.FolderReads.{one_or_none}
use Rattle.clog_segments.proofs.Ids.{same_base}

-- the next sequence by a folder's names is the next one of what it holds
pub held_next : (files : Files) (table : Table) (sequence : ℕ)
    → IsBase (OneHas (HasSequence table) (finmap.keys files)) 1 sequence
    → IsBase (λ (n : ℕ). HoldsName files (λ (name : List ℕ). IsTableName name table.0 n)) 1 sequence
held_next files table sequence is =
    same_base (OneHas (HasSequence table) (finmap.keys files))
    (λ (n : ℕ). HoldsName files (λ (name : List ℕ). IsTableName name table.0 n)) 1 sequence
    (λ n has. (has.0, held_of files (finmap.keys files) refl has.0 has.1, has.2))
    (λ n has. (has.0, listed_of files (finmap.keys files) refl has.0 has.1, has.2)) is

module _ (first f : Files) (log : StoreLog) (deeds : Deeds)
    (holds : HoldsStore first log deeds f) (low : AreBelow log) (fits : log.id < 2 ^ 63)
    (table : Table) where
  abbrev Here : ℕ → Type 0
  Here n = HoldsName f (λ (name : List ℕ). IsTableName name table.0 n)

  abbrev Taken : ℕ → Type 0
  Taken n = IsTaken first holds.placed table.0 n

  pub taken : (n : ℕ) → Here n → Taken n
  taken n has =
      let name = has.0 in
      elim (one_or_none (λ (q : PlacedFile). name ≡ name_of q)
      (λ q. same_or_other name (name_of q)) holds.placed) [
        | inl found ↦
            let q = found.0 in
            let its : IsTableName name q.put.table q.sequence =
            subst (λ (l : List ℕ). IsTableName l q.put.table q.sequence) (sym found.2)
            (holds.are_placed.each q found.1).named in
            let same = one_table name q.put.table q.sequence table.0 n its has.2 in
            inr (q, found.1, same.0, same.1)
        | inr none ↦
            inl (
              name,
              subst IsSome
                  (table_elsewhere first f log deeds holds low fits name table.0 n has.2 none)
                  has.1,
              has.2,
            )
      ]

  -- no file that was put has a name of the opening
  free_then : (name : List ℕ) → IsHeld first name → (q : PlacedFile)
      → Contains holds.placed q → name ≡ name_of q → ⊥
  free_then name there q among same =
      let old = bytes_of (finmap.get first name) there in
      let clash : None ≡ Some old.0 =
      sym (ap (finmap.get first) same ∙ (holds.are_placed.each q among).free) ∙ old.1 in
      cc

  pub held : (n : ℕ) → Taken n → Here n
  held n is = elim is [
    | inl old ↦
        let still = table_elsewhere first f log deeds holds low fits old.0 table.0 n old.2
        (free_then old.0 old.1) in
        (old.0, subst IsSome (sym still) old.1, old.2)
    | inr new ↦
        let q = new.0 in
        let named = (holds.are_placed.each q new.1).named in (
          name_of q,
          ap is_some (holds.stands.rows (name_of q) q.bytes (inr (inr (record {
            file = q;
            among = new.1;
            name_is = refl;
            bytes_are = refl;
          })))),
          subst (λ (k : ℕ). IsTableName (name_of q) table.0 k) new.3
              (subst (λ (t : ℕ). IsTableName (name_of q) t q.sequence) new.2 named),
        )
  ]

  -- the next sequence by the folder's names is the next one by what was put
  pub next_taken : (sequence : ℕ)
      → IsBase (OneHas (HasSequence table) (finmap.keys f)) 1 sequence → IsBase Taken 1 sequence
  next_taken sequence is =
      same_base Here Taken 1 sequence taken held (held_next f table sequence is)
