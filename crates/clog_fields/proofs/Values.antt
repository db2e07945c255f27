-- Values and their sizes.
use Rattle.std.proofs.Common.{ℕ, ◌<◌, ◌^◌, List, length, sym, subst, arith}
use Rattle.std.specs.Prelude.{IsUtf8}
use Rattle.clog_base.specs.declared.cell.Kind.{Kind}
use Rattle.clog_base.specs.declared.cell.Kind.TheVariants.{Deletion, Live}
use Rattle.clog_fields.specs.Fields.{tagged}
use Rattle.clog_fields.specs.Limits.{IsValueOf, IsValueSize, IsStoredValue}
use Rattle.clog_fields.proofs.Texts.{nothing_is_text}

-- a value that is short with its tag is short
pub value_fits : (kind : Kind) (value : List ℕ) → IsValueOf kind value
    → length (tagged kind value) < 2 ^ 32 → IsValueSize kind value
value_fits Deletion value none short = none
value_fits Live value any short = omega (arith, short)

pub value_is_text : (kind : Kind) (value : List ℕ) → IsStoredValue kind value → IsUtf8 value
value_is_text Deletion value none = subst IsUtf8 (sym none) nothing_is_text
value_is_text Live value stored = stored.utf8

pub stored_size : (kind : Kind) (value : List ℕ) → IsStoredValue kind value
    → IsValueSize kind value
stored_size Deletion value none = none
stored_size Live value stored = stored.size

pub size_and_text : (kind : Kind) (value : List ℕ) → IsValueSize kind value → IsUtf8 value
    → IsStoredValue kind value
size_and_text Deletion value none utf8 = none
size_and_text Live value size utf8 = record { size = size; utf8 = utf8 }
