use Rattle.std.proofs.Common.{◌∙◌, ℕ, List, Some, sym, ap, subst}
use Rattle.clog_base.proofs.Follows.{on_err}
use Rattle.clog_spec.specs.Names.{table_name_of}
use Rattle.clog_base.specs.declared.cell.Table.{Table}
use Rattle.clog_segments.specs.Beside.{ImagesButOne, StayButOne}
use Rattle.clog_segments.specs.Resting.{ShowsBehind}
use Rattle.clog_segments.proofs.Beside.{comes_show, rests_with, rests_for_file}
use Rattle.clog_segments.proofs.Kept.{rests_show, rests_on}
use Rattle.clog_segments.proofs.Outcomes.{ok_both, one_call}
use Rattle.clog_segments.proofs.Stays.{stay_put, turned}
use Rattle.clog_segments.proofs.NamesKept.{each_by}
use Rattle.clog_segments.proofs.changing.put_table.Goals as goal

pub returns-clause-comes : goal.returns-clause-comes
returns-clause-comes g c r past id old kept file table_is may =
    let D = g.D.Disk in
    let before = c.args.disk.now in
    let after = c.publish.new.self in
    let name_is = c.table_name.ensures
    ∙ ap (λ (t : Table). table_name_of t.0 c.args.sequence) (sym table_is) in
    ok_both c.publish.result c.publish.ensures.puts c.publish.ensures.lasts (λ puts lasts.
    rests_with (D.leaves before) (D.leaves after) r past id old kept _ file c.args.sequence
    c.args.bytes.now name_is c.publish.ensures.crash (D.files before) (D.files after) may puts
    lasts)

pub returns-clause-refused : goal.returns-clause-refused
returns-clause-refused g c other r past id old kept rests =
    let D = g.D.Disk in
    let before = c.args.disk.now in
    let after = c.publish.new.self in
    on_err c.publish.result _ _ (c.publish.ensures.refused other) (λ unchanged.
    rests_on (D.files before) (D.files after) (D.leaves before) (D.leaves after) r past id old kept
    unchanged.files unchanged.images.fewer rests)

pub returns-clause-any_moment : goal.returns-clause-any_moment
returns-clause-any_moment g c r past id old kept file table_is may =
    let D = g.D.Disk in
    let before = c.args.disk.now in
    let after = c.publish.new.self in
    let name_is = c.table_name.ensures
    ∙ ap (λ (t : Table). table_name_of t.0 c.args.sequence) (sym table_is) in
    one_call D.moment D.since D.leaves D.read_at D.lasted_at before after
    (ShowsBehind r past id old kept)
    (g.met.D.Disk.only_now before)
    (rests_show (D.files before) (D.leaves before) r past id old kept
    (rests_for_file (D.files before) (D.leaves before) r past id old kept file c.args.sequence
    c.args.bytes.now may))
    c.publish.ensures.time
    (comes_show (D.leaves before) (D.leaves after) r past id old kept _ file c.args.sequence
    c.args.bytes.now name_is c.publish.ensures.crash (D.files before) may)

pub returns-clause-others : goal.returns-clause-others
returns-clause-others g c =
    let D = g.D.Disk in
    let before = c.args.disk.now in
    let after = c.publish.new.self in
    subst (λ (name : List ℕ). StayButOne name (D.files before) (D.files after))
    c.table_name.ensures
    (stay_put c.table_name.result (Some c.args.bytes.now) (D.files before) (D.files after)
    c.publish.result c.publish.ensures.puts c.publish.ensures.maybe)

pub returns-clause-elsewhere : goal.returns-clause-elsewhere
returns-clause-elsewhere g c =
    let D = g.D.Disk in
    let before = D.leaves c.args.disk.now in
    let after = D.leaves c.publish.new.self in
    subst (λ (name : List ℕ). ImagesButOne name before after) c.table_name.ensures
    (turned c.table_name.result (Some c.args.bytes.now) before after c.publish.ensures.crash)

pub returns-clause-names_last : goal.returns-clause-names_last
returns-clause-names_last g c other =
    let D = g.D.Disk in
    let before = c.args.disk.now in
    let after = c.publish.new.self in
    let is = c.publish.ensures in
    each_by (D.files before) (D.files after) (D.leaves before) (D.leaves after)
    c.table_name.result (Some c.args.bytes.now) c.publish.result other is.puts is.lasts
    (turned c.table_name.result (Some c.args.bytes.now) (D.leaves before) (D.leaves after)
    is.crash) is.refused
