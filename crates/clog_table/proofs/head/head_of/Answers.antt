use Rattle.std.proofs.Common.{◌≡◌, ◌≤◌, length, refl, sym, subst, ◌∙◌, arith}
use Rattle.std.proofs.lemmas.Bool.{true≢false}
use Rattle.std.specs.Int.{w32, from_be_bytes}
use Rattle.clog_table.specs.Format.{head_size}
use Rattle.clog_table.specs.Heads.{BeginsWithHead}
use Rattle.clog_table.proofs.Numbers.{big_is}
use Rattle.clog_table.proofs.HeadParts.{begins_with, this_table, other_table}
use Rattle.clog_table.proofs.head.head_of.Goals as goal

pub returns-then-not-is_this_table : goal.returns-then-not-is_this_table
returns-then-not-is_this_table c =
    let bytes = c.args.bytes.now in
    let version : from_be_bytes w32 bytes ≡ 1 =
    sym (big_is bytes) ∙ sym c.read_u32-version.ensures ∙ c.if-version-ne1.false in
    let long : head_size ≤ length bytes = omega arith in
    record {
      head = c.head_at-head.result;
      begins = subst (BeginsWithHead bytes) (sym c.head_at-head.ensures)
          (begins_with bytes long (λ i. omega (arith, c.type_inv.bytes i)) version
          (c.if-not-is_checked.ensures.0 refl));
      other = other_table c.head_at-head.result.table c.args.table c.if-not-is_this_table.ensures;
    }

pub returns-then-not-is_up_to : goal.returns-then-not-is_up_to
returns-then-not-is_up_to c =
    let bytes = c.args.bytes.now in
    let version : from_be_bytes w32 bytes ≡ 1 =
    sym (big_is bytes) ∙ sym c.read_u32-version.ensures ∙ c.if-version-ne1.false in
    let long : head_size ≤ length bytes = omega arith in
    let this =
    this_table c.head_at-head.result.table c.args.table c.if-not-is_this_table.ensures in
    record {
      head = c.head_at-head.result;
      begins = subst (BeginsWithHead bytes) (sym c.head_at-head.ensures)
          (begins_with bytes long (λ i. omega (arith, c.type_inv.bytes i)) version
          (c.if-not-is_checked.ensures.0 refl));
      known = this.0;
      same_table = this.1;
      disordered = λ ordered. true≢false (sym (c.if-not-is_up_to.ensures.1 ordered));
    }

pub returns : goal.returns
returns c =
    let bytes = c.args.bytes.now in
    let version : from_be_bytes w32 bytes ≡ 1 =
    sym (big_is bytes) ∙ sym c.read_u32-version.ensures ∙ c.if-version-ne1.false in
    let long : head_size ≤ length bytes = omega arith in
    let this =
    this_table c.head_at-head.result.table c.args.table c.if-not-is_this_table.ensures in
    record {
      begins = subst (BeginsWithHead bytes) (sym c.head_at-head.ensures)
          (begins_with bytes long (λ i. omega (arith, c.type_inv.bytes i)) version
          (c.if-not-is_checked.ensures.0 refl));
      known = this.0;
      same_table = this.1;
      interval = c.if-not-is_up_to.ensures.0 refl;
    }
