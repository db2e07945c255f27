-- What is so of a file is so wherever its name holds the same.
use Rattle.std.proofs.Common.{◌≡◌, ℕ, List, [], Option, ◌∙◌, ap, subst}
use Rattle.std.specs.Prelude.{IsSome, unwrap_or}
use Rattle.std.specs.FinMap as finmap
use Rattle.clog_disk.specs.Files.{Files, bytes_at}
use Rattle.clog_scan.specs.declared.answer.End.{End}
use Rattle.clog_scan.specs.declared.answer.End.TheVariants.{Clean}
use Rattle.clog_scan.specs.Segment.{Entry}
use Rattle.clog_table.specs.declared.table_file.TableFile.{TableFile}
use Rattle.clog_crash.specs.Folder.{IsGoodTable, IsHeld, Place}
use Rattle.clog_crash.specs.Rest.{IsOlder}
use Rattle.clog_crash.specs.Restore.{HoldsSegment}

module _ (f g : Files) (name : List ℕ) (same : finmap.get g name ≡ finmap.get f name) where
  pub reads_same : bytes_at g name ≡ bytes_at f name
  reads_same = ap (λ (o : Option (List ℕ)). unwrap_or o []) same

  pub held_before : IsHeld g name → IsHeld f name
  held_before held = subst IsSome same held

  pub table_stands : (place : Place) (file : TableFile) → IsGoodTable f place name file
      → IsGoodTable g place name file
  table_stands place file good = record {
    bytes = good.bytes;
    there = same ∙ good.there;
    spelled = good.spelled;
  }

  pub segment_stands : (id : ℕ) (entries : List Entry) (end : End)
      → HoldsSegment f name id entries end → HoldsSegment g name id entries end
  segment_stands id entries end holds = record {
    named = holds.named;
    bytes = holds.bytes;
    there = same ∙ holds.there;
    holds = holds.holds;
  }

  pub older_stands : (version other id : ℕ) → IsOlder f name version other id
      → IsOlder g name version other id
  older_stands version other id older = record {
    version_is = older.version_is;
    below = older.below;
    entries = older.entries;
    at = older.at;
    holds = segment_stands other older.entries (Clean older.at) older.holds;
    payloads = older.payloads;
  }
