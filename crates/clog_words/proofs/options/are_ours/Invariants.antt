use Rattle.std.proofs.Common.{◌≡◌, drop}
use Rattle.std.specs.List.{list_all}
use Rattle.clog_words.specs.Given.{texts}
use Rattle.clog_words.specs.Options.{is_own}
use Rattle.clog_words.proofs.options.are_ours.Given as goal

-- all are ours where those that are left are
abbrev pub invariant-loop-word : goal.invariant-loop-word
invariant-loop-word l =
    list_all is_own (texts (drop l.word-index l.words)) ≡ list_all is_own (texts l.words)
