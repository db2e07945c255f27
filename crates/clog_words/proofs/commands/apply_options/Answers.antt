use Rattle.std.proofs.Common.{rules, ◌≡◌, Option, None, codes, refl, subst, sym}
use Rattle.clap.specs.Matches.{found_of}
use Rattle.clog_words.specs.Asks.{IsNumberIfSaid, IsNumberOr}
use Rattle.clog_words.specs.Given.{Setting, said}
use Rattle.clog_words.specs.Options.{mark_named, value_named}
use Rattle.clog_words.proofs.Told.{mark_said, sync_said}
use Rattle.clog_words.proofs.commands.apply_options.Goals as goal

pub returns-in_err-number_or : goal.returns-in_err-number_or
returns-in_err-number_or c settings tells =
    let is = tells (codes "writers") (value_named (codes "writers")) refl in
    let none : c.from_residual.result ≡ None = search rules in
    rw (none) (λ options says.
    c.in_err-number_or.ensures options.writers
    (subst (λ (o : Option Setting). IsNumberOr 1 1 64 o options.writers) is says.writers))

pub returns-in_err-sync_of : goal.returns-in_err-sync_of
returns-in_err-sync_of c settings tells =
    let mode = tells (codes "sync") (value_named (codes "sync")) refl in
    let period = tells (codes "period") (value_named (codes "period")) refl in
    let none : c.from_residual-in_err-sync_of.result ≡ None = search rules in
    rw (none) (λ options says.
    c.in_err-sync_of.ensures options.sync
    (sync_said _ _ _ _ options.sync mode period says.sync))

pub returns-in_err-number_or-2 : goal.returns-in_err-number_or-2
returns-in_err-number_or-2 c settings tells =
    let is = tells (codes "segment-kib") (value_named (codes "segment-kib")) refl in
    let none : c.from_residual-in_err-number_or-2.result ≡ None = search rules in
    rw (none) (λ options says.
    c.in_err-number_or-2.ensures options.segment_kib
    (subst (λ (o : Option Setting). IsNumberOr 32768 4 32768 o options.segment_kib) is
    says.segment_kib))

pub returns-in_err-number_if_said : goal.returns-in_err-number_if_said
returns-in_err-number_if_said c settings tells =
    let is = tells (codes "flush-at") (value_named (codes "flush-at")) refl in
    let none : c.from_residual-in_err-number_if_said.result ≡ None = search rules in
    rw (none) (λ options says.
    c.in_err-number_if_said.ensures options.flush_at
    (subst (λ (o : Option Setting). IsNumberIfSaid 1 1000000 o options.flush_at) is
    says.flush_at))

pub returns : goal.returns
returns c settings tells =
    let found = found_of c.args.matches.now in
    let writers = tells (codes "writers") (value_named (codes "writers")) refl in
    let mode = tells (codes "sync") (value_named (codes "sync")) refl in
    let period = tells (codes "period") (value_named (codes "period")) refl in
    let segment_kib = tells (codes "segment-kib") (value_named (codes "segment-kib")) refl in
    let flush_at = tells (codes "flush-at") (value_named (codes "flush-at")) refl in
    record {
      writers = subst (λ (o : Option Setting). IsNumberOr 1 1 64 o c.in_ok-number_or.field-0)
          (sym writers) c.in_ok-number_or.ensures;
      sync = sync_said _ _ _ _ c.in_ok-sync_of.field-0 (sym mode) (sym period)
          c.in_ok-sync_of.ensures;
      segment_kib =
          subst (λ (o : Option Setting). IsNumberOr 32768 4 32768 o c.in_ok-number_or-2.field-0)
          (sym segment_kib) c.in_ok-number_or-2.ensures;
      flush_at =
          subst (λ (o : Option Setting). IsNumberIfSaid 1 1000000 o c.in_ok-number_if_said.field-0)
          (sym flush_at) c.in_ok-number_if_said.ensures;
      archive = mark_said (codes "archive") (said (codes "archive") settings) found
          (tells (codes "archive") (mark_named (codes "archive")) refl)
          c.get_flag.result c.get_flag.ensures.value c.get_flag.ensures.other;
      receipts = mark_said (codes "receipts") (said (codes "receipts") settings) found
          (tells (codes "receipts") (mark_named (codes "receipts")) refl)
          c.get_flag-2.result c.get_flag-2.ensures.value c.get_flag-2.ensures.other;
      drain = mark_said (codes "drain") (said (codes "drain") settings) found
          (tells (codes "drain") (mark_named (codes "drain")) refl)
          c.get_flag-3.result c.get_flag-3.ensures.value c.get_flag-3.ensures.other;
      dump = mark_said (codes "dump") (said (codes "dump") settings) found
          (tells (codes "dump") (mark_named (codes "dump")) refl)
          c.get_flag-4.result c.get_flag-4.ensures.value c.get_flag-4.ensures.other;
    }
