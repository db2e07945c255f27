use Rattle.std.proofs.Common.{◌++◌, take, arith, ap, sym, ◌∙◌}
use Rattle.std.proofs.lemmas.List.{take-append-drop, drop-replicate}
use Rattle.clog_spec.specs.Names.{is_name}
use Rattle.clog_spec.specs.Sizes.{longest_file_name}
use Rattle.clog_base.proofs.Names.{name_is_short}
use Rattle.clog_base.proofs.name.padded.Goals as goal

pub invariant_of-result : goal.invariant_of-result
invariant_of-result c = record {
  len = omega (arith, name_is_short c.args.bytes.now c.requires, c.put-len.ensures.end);
  row = omega arith;
  zeros = sym (take-append-drop c.put-len.result c.put-len.new.row)
      ∙ ap (λ l. take c.put-len.result c.put-len.new.row ++ l) (c.put-len.ensures.rest
      ∙ drop-replicate c.put-len.result longest_file_name 0);
  name = ap is_name c.put-len.ensures.front ∙ c.requires;
}
