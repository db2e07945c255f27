-- What mutations are that are read without a copy.
use Rattle.std.specs.Prelude.{ℕ, List, ◌∷◌, map, Result, Ok, Err}
use Rattle.clog_base.specs.declared.fault.PayloadFault.{PayloadFault}
use Rattle.clog_mutation.specs.declared.lent.LentMutation.{LentMutation}
use Rattle.clog_mutation.specs.declared.lent.LentUpdate.{LentUpdate}
use Rattle.clog_mutation.specs.declared.mutation.Mutation.{Mutation}
use Rattle.clog_mutation.specs.declared.mutation.Update.{Update}
use Rattle.clog_mutation.specs.Refusals.{Decodes}
use Rattle.clog_mutation.specs.Stored.{IsPayload}

-- the update that is lent
abbrev pub update_lent : LentUpdate → Update
update_lent u = record {
  table = u.table;
  column = u.column.now;
  cell = record { ts = u.ts; kind = u.kind; value = u.value.now };
}

-- the mutation that is lent
abbrev pub mutation_lent : LentMutation → Mutation
mutation_lent m = record {
  key = m.key.now;
  updates = update_lent m.first ∷ map update_lent m.more.items;
}

-- what decoding gives, of a mutation that is lent
abbrev pub Lends : List ℕ → Result LentMutation PayloadFault → Type 0
Lends bytes (Ok m) = IsPayload bytes (mutation_lent m)
Lends bytes (Err fault) = Decodes bytes (Err fault)
