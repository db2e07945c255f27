use Rattle.std.proofs.Common.{sym, subst, ◌<◌, ℕ}
use Rattle.clog_store.proofs.FiledTo.{key_put}
use Rattle.clog_store.proofs.store.telling.put_upper.Goals as goal

pub returns : goal.returns
returns c t less =
    key_put c.args.uppers.now c.from-place.result c.args.file.table.0 c.args.file.upper
    c.from-place.ensures
    (subst (λ (k : ℕ). c.from-place.result < k) (sym c.told-uppers) c.if-place-ge16.false) t
