use Rattle.std.proofs.Common.{ap, sym, ◌∙◌, eqb}
use Rattle.serde_json.specs.View.{view, members_view}
use Rattle.clog_text.proofs.Objects.{with_members, members_len-members_view}
use Rattle.clog_text.proofs.read.has_members.Goals as goal

pub returns-in-Some : goal.returns-in-Some
returns-in-Some c =
    let w = with_members (view c.args.value.now) (members_view c.in-Some.members.now.entries)
    c.args.count c.in-Some.ensures in
    ap (λ k. eqb k c.args.count)
    (c.len.ensures.len ∙ sym (members_len-members_view c.in-Some.members.now.entries))
    ∙ sym w
