-- The rule of the table: the words show a lawful state.
--
-- Word 0 is the root (its sequence above its place), 1 the current group, 2 the oldest one. Behind
-- them stand the values of the places. The ring of counts begins eight words behind the last of
-- these: readers change the counts, and look at all that is before in other cache lines.
use Rattle.std.specs.Prelude.{◌≡◌, ℕ, suc, ◌+◌, ◌*◌, ◌%◌, ◌≤◌, false, List, [], ◌∷◌, length}
use Rattle.std.specs.Prelude.{slice_index, None}
use Rattle.atomic_table.specs.Table.{State}
use Rattle.op_core.specs.declared.count.Tally.{Tally}
use Rattle.op_core.specs.Tallies.{tally_at}
use Rattle.op_order.specs.declared.view.OwnerPart.{OwnerPart}
use Rattle.op_order.specs.declared.view.ReaderPart.{ReaderPart}
use Rattle.op_order.specs.declared.view.Stage.TheVariants.{Rest, Stored}
use Rattle.op_order.specs.declared.view.View.{View}
use Rattle.op_order.specs.declared.view.View.TheVariants.{Owns}
use Rattle.op_order.specs.Law.{top_of, value_of, IsLawful}
use Rattle.op_order.specs.Ring.{RingShows}

-- which word has the value of a sequence, which the count of a group, and what the root's tells
abbrev pub value_at : ℕ → ℕ → ℕ
value_at places s = 3 + s % places

abbrev pub count_at : ℕ → ℕ → ℕ
count_at places g = 10 + places + g % suc places

abbrev pub root_word : ℕ → ℕ → ℕ
root_word places s = 1024 * s + s % places

-- the ring of counts in these words
abbrev pub ring_of : ℕ → List ℕ → ℕ → ℕ
ring_of places words i = slice_index words (10 + places + i)

-- The words show the owner's part and the counts.
pub record Shows (places : ℕ) (tallies : List Tally) (part : OwnerPart) (words : List ℕ) : Type 0
  where
    pub wide : length words ≡ 11 + 2 * places
    pub root : slice_index words 0 ≡ root_word places part.sequence
    pub current : slice_index words 1 ≡ part.current
    pub oldest : slice_index words 2 ≡ part.oldest
    pub values : (s : ℕ) → part.oldest ≤ s → s ≤ part.sequence
        → slice_index words (value_at places s) ≡ value_of part.values s
    pub next : part.stage ≡ Stored
        → slice_index words (value_at places (suc part.sequence)) ≡ part.next
    pub ring : RingShows (suc places) part.oldest (top_of part.stage part.current)
        (ring_of places words) (tally_at tallies)

pub record Ruled (fits : ℕ → ℕ → Type 0) (places : ℕ) {S : Type 0} (s : State S View) : Type 0
  where
    pub tallies : List Tally
    pub part : OwnerPart
    -- which seat of the table is the owner's
    pub boss : ℕ
    pub lawful : IsLawful fits places boss tallies part s.views
    pub shown : Shows places tallies part s.words

-- before the first publication
abbrev pub first_part : ℕ → OwnerPart
first_part first = record {
  stage = Rest;
  sequence = 0;
  values = first ∷ [];
  next = 0;
  current = 0;
  oldest = 0;
  gone = false;
  seats = 1;
  looks = [];
}

abbrev pub first_view : ℕ → View
first_view first = Owns (first_part first)

-- a reader that has made no step
abbrev pub new_reader : ReaderPart
new_reader = record { group = None; looked = None; current = 0; seen = 0; trail = [] }
