-- A segment goes for all of whose cells table files stand: the folder restores the same.
use Rattle.std.proofs.Common.{
  ◌≡◌,
  ℕ,
  ◌<◌,
  ◌^◌,
  List,
  [],
  ◌++◌,
  Option,
  None,
  sym,
  ◌∙◌,
  ap,
  subst,
  arith,
}
use Rattle.std.specs.Prelude.{unwrap_or, IsSome}
use Rattle.std.specs.FinMap as finmap
use Rattle.clog_spec.specs.Names.{segment_name_of}
use Rattle.clog_disk.specs.Files.{Files, bytes_at}
use Rattle.clog_disk.proofs.Named.{gone_here, gone_there}
use Rattle.clog_scan.specs.Cut.{Section}
use Rattle.clog_crash.specs.Changes.{Loses}
use Rattle.clog_crash.specs.Flush.{IsCovered}
use Rattle.clog_crash.specs.Folder.{IsHeld}
use Rattle.clog_crash.specs.Readings.{RestoresIn}
use Rattle.clog_crash.specs.Rest.{IsInFiles, settled}
use Rattle.clog_crash.specs.Sections.{IsStored}
use Rattle.clog_crash.proofs.changes.Covering.{exactly}
use Rattle.clog_crash.proofs.changes.Elsewhere.{skipped_now}
use Rattle.clog_crash.proofs.changes.Lost.{lost}
use Rattle.clog_crash.proofs.changes.Names.{one_id}
use Rattle.clog_crash.proofs.flush.Comes.{settled_differs}
use Rattle.clog_crash.proofs.flush.Turns.{Turns}
use Rattle.clog_crash.proofs.rest.Sectioned.{nothing_logged_in}
use Rattle.clog_crash.proofs.rest.Settled.{settled_there}
use Rattle.clog_crash.proofs.rest.Standing.{
  held_before,
  table_stands,
  older_stands,
  reads_same,
}

-- what is still there when a name is gone
pub not_gone : (f : Files) (name n : List ℕ) → IsHeld (finmap.remove f name) n → n ≡ name → ⊥
not_gone f name n held same =
    let none = subst IsSome (gone_here f name)
    (subst (λ (m : List ℕ). IsHeld (finmap.remove f name) m) same held) in
    absurd cc

pub reads_nothing : (f : Files) (name : List ℕ) → bytes_at (finmap.remove f name) name ≡ []
reads_nothing f name = ap (λ (o : Option (List ℕ)). unwrap_or o []) (gone_here f name)

module _ (f : Files) (id : ℕ) (old kept : List Section) (other : ℕ)
    (stored : IsStored id (old ++ kept)) (in_f : IsInFiles f id old kept)
    (covered : IsCovered f id old other) where
  abbrev u : List ℕ
  u = segment_name_of 6 other

  abbrev h : Files
  h = finmap.remove f u

  fits : other < 2 ^ 63
  fits = omega (arith, covered.below, stored.fits)

  u_apart : u ≡ segment_name_of 6 id → ⊥
  u_apart same = omega (arith, covered.below, one_id id other stored.fits fits same)

  off : (n : List ℕ) → (n ≡ u → ⊥) → finmap.get h n ≡ finmap.get f n
  off n apart = gone_there f u n apart

  loses : Loses (settled f id old) (settled h id old) other
  loses = record {
    fits = fits;
    others = settled_differs f h u id old off;
    none = λ entry l. nothing_logged_in (settled h id old) other entry
        (settled_there h id old u u_apart ∙ reads_nothing f u) l;
    covered = covered.covered;
  }

  in_h : IsInFiles h id old kept
  in_h = record {
    reads = reads_same f h (segment_name_of 6 id)
        (off (segment_name_of 6 id) (λ same. u_apart (sym same))) ∙ in_f.reads;
    live = λ table at far skipped. in_f.live table at far
        (skipped_now (bytes_at h) (bytes_at f) other fits
        (λ n apart. sym (reads_same f h n (off n apart))) table at skipped);
    tables = λ place name named held.
        let stays = off name (not_gone f u name held) in
        let good = in_f.tables place name named (held_before f h name stays held) in
        (good.0, table_stands f h name stays place good.0 good.1);
    segments = λ name version its named apart held.
        let stays = off name (not_gone f u name held) in
        older_stands f h name stays version its id
        (in_f.segments name version its named apart (held_before f h name stays held));
  }

  pub gone_turns : Turns f h u None id old kept
  gone_turns = record {
    apart = u_apart;
    beside = off;
    here = gone_here f u;
    same = exactly (RestoresIn (settled h id old)) (RestoresIn (settled f id old))
        (lost (settled f id old) (settled h id old) other loses);
    in_files = in_h;
  }
