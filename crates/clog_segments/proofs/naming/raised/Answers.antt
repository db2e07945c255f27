use Rattle.std.proofs.Common.{◌≡◌, ℕ, refl, subst, sym, arith}
use Rattle.clog_segments.specs.Named.{IsIdBase}
use Rattle.clog_segments.proofs.Ids.{one_below}
use Rattle.clog_segments.proofs.naming.raised.Goals as goal

pub returns : goal.returns
returns c =
    subst (IsIdBase (λ (n : ℕ). n ≡ c.args.id) c.args.base) (sym c.max.ensures)
    (one_below (λ (n : ℕ). n ≡ c.args.id) c.args.base c.args.id refl (λ n e. e)
    (omega (arith, c.if-id-ge-ID_LIMIT.false)))
