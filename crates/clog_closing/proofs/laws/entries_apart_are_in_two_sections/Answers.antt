use Rattle.clog_closing.proofs.Apart.{filled_row, gap_row, synced_apart}
use Rattle.clog_closing.proofs.laws.entries_apart_are_in_two_sections.Goals as goal

pub returns-clause-gap : goal.returns-clause-gap
returns-clause-gap c = gap_row

pub returns-clause-filled : goal.returns-clause-filled
returns-clause-filled c = filled_row

pub returns-clause-synced : goal.returns-clause-synced
returns-clause-synced c =
    λ changes base past id sections notes history capacity grows stands holds are few lawful apart.
    synced_apart changes base past id sections notes history grows stands holds are capacity few
    lawful apart
