use Rattle.clog_mutation.proofs.Decoding.{one_mutation, one_refusal, never_both, one_of_both}
use Rattle.clog_mutation.proofs.laws.payload_laws.Goals as goal

pub returns : goal.returns
returns c = record {
  one_mutation = one_mutation;
  one_refusal = one_refusal;
  never_both = never_both;
  one_of_both = one_of_both;
}
