-- What a memtable's bound answers a write.
use Rattle.std.specs.Prelude.{max, nat_le, Bool, true}
use Rattle.clog_base.specs.declared.position.Key.{Key}
use Rattle.path_core.specs.declared.state.Bound.{Bound}
use Rattle.path_core.specs.declared.state.Bound.TheVariants.{Live, Raising, Final}

-- Whether it takes a write at a position, and the bound afterwards: a live one takes it, a raising
-- one takes it and rises to it, a final one takes it at or below itself.
abbrev pub accepted : Bound → Key → Bool × Bound
accepted Live at = (true, Live)
accepted (Raising b) at = (true, Raising (record { 0 = max b.0 at.0 }))
accepted (Final b) at = (nat_le at.0 b.0, Final b)
