-- What the program does, of what words ask for.
use Rattle.std.specs.Prelude.{◌≡◌, ℕ, List}
use Rattle.clog_spec.specs.Names.{IsSegmentName}
use Rattle.clog_words.specs.Asks.{Asks}
use Rattle.clog_words.specs.declared.built.Built.{Built}
use Rattle.clog_words.specs.declared.built.Built.TheVariants as built
use Rattle.clog_words.specs.declared.request.Request.{Request}
use Rattle.clog_words.specs.declared.request.Request.TheVariants.{Apply, Replay, Scan, Drill}
use Rattle.clog_words.specs.declared.request.Request.TheVariants.{Orders}

-- The request asks for this, which the program does.
abbrev pub IsBuilt : Request → Built → Type 0
IsBuilt request (built.Apply options) = request ≡ Apply options
IsBuilt request (built.Replay options) = request ≡ Replay options
IsBuilt request (built.Scan id) =
    (name : List ℕ) × (request ≡ Scan name) × IsSegmentName name 6 id
IsBuilt request (built.Drill seed count) = request ≡ Drill seed count
IsBuilt request (built.Orders readers rounds) = request ≡ Orders readers rounds

-- The words ask for this, which the program does.
pub record AsksBuilt (words : List (List ℕ)) (asked : Built) : Type 0 where
  pub request : Request
  pub asks : Asks words request
  pub is_built : IsBuilt request asked
