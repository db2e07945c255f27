-- Each entry of a segment that was dropped is in a file of each of its tables.
use Rattle.std.proofs.Common.{
  ◌≡◌,
  ℕ,
  ◌<◌,
  ◌==◌,
  ◌&&◌,
  nat_lt,
  nat_le,
  length,
  refl,
  sym,
  subst,
  arith,
  IsTrue,
}
use Rattle.std.specs.List.{Contains}
use Rattle.std.specs.Int.{bit_at}
use Rattle.std.proofs.lemmas.Bool.{
  and_parts,
  and_from,
  eq-eqb,
  eqb-true,
  leb-true,
  ltb-true,
}
use Rattle.std.proofs.lemmas.Nat.Bits.{bit_at_above}
use mathlib.Core.Logic.{dite}
use native.Mathlib.Decide.{dec_lt}
use Rattle.path_core.specs.declared.note.EntryNote.{EntryNote}
use Rattle.path_core.specs.declared.state.PathState.{PathState}
use Rattle.path_core.specs.Keys.{ordinal_of}
use Rattle.path_core.specs.Parts.{touches}
use Rattle.path_core.specs.History.{is_touching}
use Rattle.path_core.specs.Droppable.{IsDroppable, is_in_file}
use Rattle.path_core.specs.Lawful.{IsLawfulPath}
use Rattle.path_core.specs.Promises.{IsInFile}
use Rattle.path_core.proofs.lists.Passing.{any_to, kept_in}

-- an entry of a segment that may go is in a file of each of its tables
pub is_in_file_of : (x : PathState) → IsLawfulPath x → (o : ℕ) → IsDroppable x o
    → (n : EntryNote) (t : ℕ) → Contains x.notes n → ordinal_of n.start.0 ≡ o
    → IsTrue (touches n.tables t) → IsInFile x t n.end.0
is_in_file_of x L o D n t h segment touched =
    let here : IsTrue ((ordinal_of n.start.0 == o) && touches n.tables t)
    = and_from (ordinal_of n.start.0 == o) (touches n.tables t)
    (eq-eqb (ordinal_of n.start.0) o segment) touched in
    let r = any_to (is_in_file t n.end.0) x.files
    (D.filed t n n inside h h here here n.end.0 (omega arith) (omega arith)) in
    let f = r.0 in
    let p = and_parts ((f.table == t) && nat_lt f.lower n.end.0) (nat_le n.end.0 f.upper) r.2 in
    let q = and_parts (f.table == t) (nat_lt f.lower n.end.0) p.0 in
    let table : f.table ≡ t = eqb-true f.table t q.0 in
    record {
      file = f;
      among = r.1;
      table = table;
      above = ltb-true f.lower n.end.0 q.1;
      below = leb-true n.end.0 f.upper p.1;
      placed = subst (λ k. Contains x.placed (record {
        table = k;
        entry = n.end.0;
        memtable = f.memtable;
      })) table ((L.files_are_true f r.1 n.end.0).1 (record {
        note = n;
        among = kept_in (is_touching f.table f.lower f.upper) x.notes n h
            (and_from _ _ (and_from _ _ (subst (λ k. IsTrue (touches n.tables k)) (sym table)
            touched) q.1) p.1);
        position = refl;
      }));
    }
  where
    -- a note is of tables that there are
    inside : t < length x.tables
    inside = dite (dec_lt t (length x.tables)) (λ l. l)
        (λ past. absurd (let I = L.notes_are_claims.each n h in
        let few = I.tables_are_there in
        let z = bit_at_above n.tables (length x.tables) t few (omega arith) in
        let e = eqb-true (bit_at n.tables t) 1 touched in omega arith))
