-- What a seat knows of its boxes after a step that moves one, or that changes what stands on the
-- desk of the Sync turn.
use Rattle.std.specs.Prelude.{
  ℕ,
  suc,
  ◌==◌,
  ◌||◌,
  Bool,
  cond,
  false,
  List,
  [],
  ◌∷◌,
  ◌++◌,
  Option,
  Some,
  None,
}
use Rattle.std.specs.Option.{option_map}
use Rattle.path_core.specs.declared.note.EntryNote.{EntryNote}
use Rattle.path_core.specs.declared.seat.LastMarker.{LastMarker}
use Rattle.path_core.specs.declared.state.Placed.{Placed}
use Rattle.path_rule.specs.declared.lasting.Lasting.{Lasting}
use Rattle.path_rule.specs.declared.view.FlushRead.{FlushRead}
use Rattle.path_rule.specs.declared.view.Hands.{Hands}
use Rattle.path_rule.specs.declared.view.Progress.{Progress}

-- these notes are in its own box
abbrev pub with_notes : List EntryNote → Hands → Hands
with_notes notes h = record h { notes = notes }

-- it knows of the desk what stands there
abbrev pub with_desk : Lasting → List EntryNote → Progress → Hands → Hands
with_desk lasting pending progress h = record h {
  pending = pending;
  lasting = lasting;
  swept = 0;
  progress = progress;
}

-- the box of another seat was taken, or is at home again
abbrev pub with_taken : Option ℕ → List EntryNote → Hands → Hands
with_taken b taken h = record h { box_taken = b; taken = taken }

-- what was taken is pending, and one more box is gathered, perhaps the last one
abbrev pub with_swept : ℕ → Hands → Hands
with_swept seats h = record h {
  box_taken = None;
  taken = [];
  pending = h.pending ++ h.taken;
  swept = suc h.swept;
  progress = record h.progress {
    gathered = h.progress.gathered || (suc h.swept == seats);
  };
}

-- it gathers no more: the turn is given back
abbrev pub unswept_hands : Hands → Hands
unswept_hands h = record h { swept = 0 }

-- The barrier of the marker is issued, and nothing is gathered behind it yet.
abbrev pub barred : ℕ → Progress → Progress
barred group k = record {
  gathered = false;
  marker = option_map (λ (m : LastMarker). record m { barrier = Some group }) k.marker;
}

-- a marker of seat w that starts at the key is the last one
abbrev pub with_marker : ℕ → ℕ → Hands → Hands
with_marker w key h = record h {
  progress = record h.progress {
    marker = Some (record { by = w; start = key; barrier = None });
  };
}

-- The desk tells that the barrier of the last marker is issued.
abbrev pub issued_hands : ℕ → Hands → Hands
issued_hands group h = with_desk h.lasting h.pending (barred group h.progress) h

-- its box of a memtable was taken, with these notes in it
abbrev pub with_held : ℕ → List EntryNote → Hands → Hands
with_held b held h = record h { memtable_box = Some b; held = held }

-- that box is at home again, with an entry that the seat put into it
abbrev pub with_applied : Placed → Hands → Hands
with_applied a h = record h { memtable_box = None; held = []; applied = a ∷ h.applied }

-- as the holder of a Flush turn it has read this of a memtable, or reads none
abbrev pub with_reading : Option FlushRead → Hands → Hands
with_reading q h = record h { reading = q }

-- nothing of the memtable is read yet, which is retired or not
abbrev pub first_read : ℕ → ℕ → Bool → FlushRead
first_read t m retired = record {
  table = t;
  memtable = m;
  retired = retired;
  seen = [];
  seen_to = 0;
  taken = None;
  held = [];
}

-- the box of the next seat was taken, with these notes in it
abbrev pub box_read : ℕ → List EntryNote → FlushRead → FlushRead
box_read b held q = record q { taken = Some b; held = held }

-- what is left in it when it goes home: nothing of a retired memtable
abbrev pub left_in : FlushRead → List EntryNote
left_in q = cond q.retired [] q.held

-- it is at home again, and what it held was seen
abbrev pub box_seen : FlushRead → FlushRead
box_seen q = record q {
  seen = q.seen ++ q.held;
  seen_to = suc q.seen_to;
  taken = None;
  held = [];
}
