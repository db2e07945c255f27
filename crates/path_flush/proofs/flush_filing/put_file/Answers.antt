use Rattle.std.proofs.Common.{◌≡◌, ℕ, sym, ap, ◌∙◌, subst, arith}
use Rattle.atomic_table.specs.Table.{rest}
use Rattle.path_rule.specs.declared.view.View.{View}
use Rattle.path_rule.specs.Filing.{upper_of}
use Rattle.path_rule.specs.FilingTold.{CarriesNoted, TurnSynced}
use Rattle.path_rule.specs.Lasts.{shows_of}
use Rattle.path_rule.specs.Turns.{FoundRunning}
use Rattle.path_flush.specs.FlushFilings.{AwaitsFile, Refused, Retired, TellsFault, stopped_after}
use Rattle.path_flush.proofs.FilingGoes.{none_retired}
use Rattle.path_flush.proofs.FilingPuts.{desk_same, filed_at, on_err, on_ok, put_at, stopped_so}
use Rattle.path_flush.proofs.FilingPuts.{tells_so, turns_same}
use Rattle.path_flush.proofs.FilingRounds.{takes_none}
use Rattle.path_flush.proofs.flush_filing.put_file.Goals as goal

pub last_upper-member-requires-clause-there : goal.last_upper-member-requires-clause-there
last_upper-member-requires-clause-there g c = let few = c.args.path.now.fits.few_tables in
    let there = c.requires.holds.turns.holder.there in
    let of = ap (λ z. z.tables) c.requires.table.1 in omega (arith, few, there, of)

pub put_table-member-requires-clause-there : goal.put_table-member-requires-clause-there
put_table-member-requires-clause-there g c = let few = c.args.path.now.fits.few_tables in
    let there = c.requires.holds.turns.holder.there in
    let of = ap (λ z. z.tables) c.requires.table.1 in omega (arith, few, there, of)

pub put_table-member-requires-clause-desk : goal.put_table-member-requires-clause-desk
put_table-member-requires-clause-desk g c = let L = c.last_upper-member in
    desk_same (shows_of g.K.Keeper.holds) c.args.member.seat.me L.result.0.seat.me
    L.ensures.same.1 L.ensures.same.2 c.requires.holds.desk

pub put_table-member-requires-clause-put : goal.put_table-member-requires-clause-put
put_table-member-requires-clause-put g c = let L = c.last_upper-member in
    put_at c.args.member.seat.me.0 L.result.0.seat.me.0 c.args.table.0 L.result.1.0
    c.args.bound.0 c.args.cells.now L.ensures.same.1 L.ensures.upper c.requires.put

pub retire_put-requires-clause-table : goal.retire_put-requires-clause-table
retire_put-requires-clause-table g c =
    let L = c.last_upper-member in let P = c.put_table-member in
    let view = P.ensures.same.1 ∙ L.ensures.same.1 in (
      P.ensures.same.0.0 ∙ (L.ensures.same.0.0 ∙ c.requires.table.0),
      ap (λ (u : View). u.size) view ∙ c.requires.table.1,
    )

pub retire_put-requires-clause-turns : goal.retire_put-requires-clause-turns
retire_put-requires-clause-turns g c =
    let m = c.args.member in let L = c.last_upper-member in let P = c.put_table-member in
    let view = P.ensures.same.1 ∙ L.ensures.same.1 in
    let others = P.ensures.same.2 ∙ ap (λ l. rest l) L.ensures.same.2 in
    turns_same c.args.table.0 m.seat.me P.result.0.seat.me view others c.requires.holds.turns

pub retire_put-requires-clause-turn : goal.retire_put-requires-clause-turn
retire_put-requires-clause-turn g c = let L = c.last_upper-member in let P = c.put_table-member in
    let view = P.ensures.same.1 ∙ L.ensures.same.1 in
    let T = c.requires.turn in
    (subst (λ (u : View). TurnSynced u.part c.args.synced) (sym view) T.0, T.1, T.2)

pub retire_put-requires-clause-file : goal.retire_put-requires-clause-file
retire_put-requires-clause-file g c =
    let m = c.args.member in let L = c.last_upper-member in let P = c.put_table-member in
    let v = m.seat.me.0 in let view = P.ensures.same.1 ∙ L.ensures.same.1 in (
      c.args.cells.now,
      subst (λ (u : View). AwaitsFile c.args.path.now.size.seats c.args.table.0
          c.args.memtable c.args.bound.0 c.args.cells.now u) (sym view) c.requires.awaits,
      filed_at (shows_of g.K.Keeper.holds) v P.result.0.seat.me c.args.table.0 L.result.1.0
          c.args.bound.0 c.args.cells.now view L.ensures.upper
          (on_ok P.result.1 c.in-Ok.is P.ensures.put),
    )

pub retire_put-requires-clause-lower : goal.retire_put-requires-clause-lower
retire_put-requires-clause-lower g c = let L = c.last_upper-member in let P = c.put_table-member in
    let view = P.ensures.same.1 ∙ L.ensures.same.1 in
    L.ensures.upper ∙ ap (λ (u : View). upper_of c.args.table.0 u.hands.lasting.filed.files)
    (sym view)

pub note_fault-requires-clause-table : goal.note_fault-requires-clause-table
note_fault-requires-clause-table g c =
    let L = c.last_upper-member in let P = c.put_table-member in
    let view = P.ensures.same.1 ∙ L.ensures.same.1 in (
      P.ensures.same.0.0 ∙ (L.ensures.same.0.0 ∙ c.requires.table.0),
      ap (λ (u : View). u.size) view ∙ c.requires.table.1,
    )

pub note_fault-requires-clause-turns : goal.note_fault-requires-clause-turns
note_fault-requires-clause-turns g c =
    let m = c.args.member in let L = c.last_upper-member in let P = c.put_table-member in
    let view = P.ensures.same.1 ∙ L.ensures.same.1 in
    let others = P.ensures.same.2 ∙ ap (λ l. rest l) L.ensures.same.2 in
    let T = c.requires.turn.0 in (
      turns_same c.args.table.0 m.seat.me P.result.0.seat.me view others c.requires.holds.turns,
      subst (λ (u : View). FoundRunning u.part) (sym view) (T.0, T.1, T.2),
    )

pub note_fault-requires-clause-desk : goal.note_fault-requires-clause-desk
note_fault-requires-clause-desk g c = let L = c.last_upper-member in let P = c.put_table-member in
    let shows = shows_of g.K.Keeper.holds in let h = L.result.0.seat.me.0.hands in
    subst (λ (u : View). CarriesNoted shows (stopped_after u.hands.lasting.stopped c.in-Err.fault)
    P.result.0.seat.me) (sym P.ensures.same.1)
    (subst (λ s. CarriesNoted shows s P.result.0.seat.me)
    (stopped_so h.lasting.stopped P.result.1 c.in-Err.fault c.in-Err.is)
    (on_err P.result.1 c.in-Err.is P.ensures.refused))

pub note_fault-requires-clause-counts : goal.note_fault-requires-clause-counts
note_fault-requires-clause-counts g c =
    let L = c.last_upper-member in let P = c.put_table-member in
    let view = P.ensures.same.1 ∙ L.ensures.same.1 in (
      subst (λ (u : View). TellsFault u.hands.lasting.at_open c.in-Err.fault)
          (sym P.ensures.same.1) (tells_so L.result.0.seat.me.0.hands.lasting.at_open P.result.1
          c.in-Err.fault c.in-Err.is P.ensures.counts),
      subst (λ (u : View). u.hands.lasting.at_open ≡ u.size.at_open) (sym view)
          c.requires.awaits.opened,
    )

pub returns-in-Ok-clause-same : goal.returns-in-Ok-clause-same
returns-in-Ok-clause-same g c = let L = c.last_upper-member in let P = c.put_table-member in
    let number = P.ensures.same.0.1 ∙ L.ensures.same.0.1 in
    let E = c.retire_put in (E.ensures.same.0, E.ensures.same.1 ∙ number)

pub returns-in-Ok-clause-retired : goal.returns-in-Ok-clause-retired
returns-in-Ok-clause-retired g c =
    let m = c.args.member in let L = c.last_upper-member in let P = c.put_table-member in
    let v = m.seat.me.0 in let view = P.ensures.same.1 ∙ L.ensures.same.1 in
    let number = P.ensures.same.0.1 ∙ L.ensures.same.0.1 in
    let E = c.retire_put in let t = c.args.table.0 in let k = c.args.memtable in
    let after = E.result.0.seat.me.0 in let a = E.result.1 in
    subst (λ (n : ℕ). Retired n t k 0 v a after) number
    (subst (λ (u : View). Retired P.result.0.number t k 0 u a after) view E.ensures.retired)

pub returns-in-Err-clause-same : goal.returns-in-Err-clause-same
returns-in-Err-clause-same g c = let L = c.last_upper-member in let P = c.put_table-member in
    let number = P.ensures.same.0.1 ∙ L.ensures.same.0.1 in
    let E = c.note_fault in (E.ensures.same.0, E.ensures.same.1 ∙ number)

pub returns-in-Err-clause-unread : goal.returns-in-Err-clause-unread
returns-in-Err-clause-unread g c = let L = c.last_upper-member in let P = c.put_table-member in
    let view = P.ensures.same.1 ∙ L.ensures.same.1 in
    let E = c.note_fault in let A = c.requires.awaits in
    takes_none c.args.path.now.size.seats c.args.table.0 c.args.memtable
    E.result.0.seat.me.0.hands A.read (
      E.ensures.reading ∙ (ap (λ (u : View). u.hands.reading) view ∙ A.sees.0),
      A.sees.1,
      A.sees.2,
      A.sees.3,
      A.sees.4,
      A.sees.5,
    )

pub returns-in-Err-clause-retired : goal.returns-in-Err-clause-retired
returns-in-Err-clause-retired g c =
    let m = c.args.member in let L = c.last_upper-member in let P = c.put_table-member in
    let v = m.seat.me.0 in let view = P.ensures.same.1 ∙ L.ensures.same.1 in
    let number = P.ensures.same.0.1 ∙ L.ensures.same.0.1 in
    let E = c.note_fault in let t = c.args.table.0 in let k = c.args.memtable in
    let after = E.result.0.seat.me.0 in let a = E.result.1 in
    none_retired m.number t k v after a (subst (λ (n : ℕ). Refused n t 0 v a after) number
    (subst (λ (u : View). Refused P.result.0.number t 0 u a after) view E.ensures.refused))
