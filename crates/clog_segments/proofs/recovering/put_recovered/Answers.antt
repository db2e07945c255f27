use Rattle.std.proofs.Common.{◌∙◌, ℕ, List, [], Some, sym, ap, subst}
use Rattle.clog_spec.specs.Names.{table_name_of}
use Rattle.clog_base.specs.declared.cell.Table.{Table}
use Rattle.clog_crash.specs.Flush.{IsSameFolder}
use Rattle.clog_crash.proofs.OneMore.{some_is}
use Rattle.clog_disk.specs.Images.{TurnsTo}
use Rattle.clog_segments.specs.Beside.{StayButOne}
use Rattle.clog_segments.specs.Filing.{IsRecoveryPut}
use Rattle.clog_segments.proofs.ComesFrom.{call_from, turned_from}
use Rattle.clog_segments.proofs.Recovered.{
  here_show,
  here_for_file,
  file_shows,
  file_settles,
  file_stands,
}
use Rattle.clog_segments.proofs.Outcomes.{ok_both, one_call}
use Rattle.clog_segments.proofs.Stays.{stay_put}
use Rattle.clog_segments.proofs.recovering.put_recovered.Goals as goal

pub returns-clause-comes : goal.returns-clause-comes
returns-clause-comes g c first file table_is may =
    let D = g.D.Disk in
    let before = c.args.disk.now in
    let after = c.publish.new.self in
    let name_is = c.table_name.ensures
    ∙ ap (λ (t : Table). table_name_of t.0 c.args.sequence) (sym table_is) in
    ok_both c.publish.result c.publish.ensures.puts c.publish.ensures.lasts (λ puts lasts.
    file_settles first (D.leaves before) (D.leaves after) _ file c.args.sequence c.args.bytes.now
    name_is c.publish.ensures.crash (D.files before) (D.files after) may puts lasts)

pub returns-clause-any_moment : goal.returns-clause-any_moment
returns-clause-any_moment g c first file table_is may =
    let D = g.D.Disk in
    let before = c.args.disk.now in
    let after = c.publish.new.self in
    let name_is = c.table_name.ensures
    ∙ ap (λ (t : Table). table_name_of t.0 c.args.sequence) (sym table_is) in
    one_call D.moment D.since D.leaves D.read_at D.lasted_at before after (IsSameFolder first)
    (g.met.D.Disk.only_now before)
    (here_show first (D.files before) (D.leaves before) []
    (here_for_file first (D.files before) (D.leaves before) file c.args.sequence c.args.bytes.now
    may))
    c.publish.ensures.time
    (file_shows first (D.leaves before) (D.leaves after) _ file c.args.sequence c.args.bytes.now
    name_is c.publish.ensures.crash (D.files before) may)

pub returns-clause-files : goal.returns-clause-files
returns-clause-files g c first file table_is may =
    let D = g.D.Disk in
    let name_is = c.table_name.ensures
    ∙ ap (λ (t : Table). table_name_of t.0 c.args.sequence) (sym table_is) in
    file_stands first _ c.publish.result file c.args.sequence c.args.bytes.now name_is
    (D.files c.args.disk.now) (D.files c.publish.new.self) c.publish.ensures.puts
    c.publish.ensures.maybe may

pub returns-clause-others : goal.returns-clause-others
returns-clause-others g c =
    let D = g.D.Disk in
    let before = c.args.disk.now in
    let after = c.publish.new.self in
    subst (λ (name : List ℕ). StayButOne name (D.files before) (D.files after))
    c.table_name.ensures
    (stay_put c.table_name.result (Some c.args.bytes.now) (D.files before) (D.files after)
    c.publish.result c.publish.ensures.puts c.publish.ensures.maybe)

pub returns-clause-from : goal.returns-clause-from
returns-clause-from g c first put from =
    let D = g.D.Disk in
    let before = c.args.disk.now in
    let after = c.publish.new.self in
    let bytes = c.args.bytes.now in
    let turns = subst (λ (name : List ℕ).
    TurnsTo (D.leaves before) (D.leaves after) name (Some bytes)) c.table_name.ensures
    c.publish.ensures.crash in
    call_from D.moment D.since D.leaves first D.read_at D.lasted_at before after
    (g.met.D.Disk.only_now before) c.publish.ensures.time from
    (turned_from first (D.leaves before) (D.leaves after) _ (Some bytes) turns
    (λ b is. subst (IsRecoveryPut first _) (some_is bytes b is) put) from)
