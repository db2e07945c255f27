-- Where the cursor is, and what it has found.
use Rattle.std.proofs.Common.{
  ◌≡◌,
  ℕ,
  ◌+◌,
  ◌<◌,
  ◌≤◌,
  List,
  [],
  ◌∷◌,
  ◌++◌,
  length,
  drop,
  map,
  refl,
  sym,
  ◌∙◌,
  ap,
  ap₂,
  subst,
  arith,
}
use Rattle.std.proofs.lemmas.List.{length-take, length-drop}
use Rattle.clog_entry.specs.Fields.{entry_front_size}
use Rattle.clog_entry.specs.Spelled.{IsMarkerAt, IsEntryAt, payload_at}
use Rattle.clog_scan.specs.declared.answer.Found.{Found}
use Rattle.clog_scan.specs.Segment.{Entry, entry_from, found_of}
use Rattle.clog_scan.proofs.Trace.{
  Item,
  Marked,
  Held,
  Trace,
  held_from,
  marked_last,
  held_last,
  held_from-marked,
  held_from-held,
}
use Rattle.clog_spec.specs.Sizes.{header_size, marker_size, frame_size}

pub record Reached (bytes : List ℕ) (id at until : ℕ) (found : List Found) : Type 0 where
  pub items : List Item
  pub way : Trace bytes id header_size header_size items at until
  pub found_are : found ≡ map found_of (held_from header_size items)
  pub order : at ≤ until
  pub within : until ≤ length bytes

pub starts : (bytes : List ℕ) (id : ℕ) → header_size ≤ length bytes
    → Reached bytes id header_size header_size []
starts bytes id enough = record {
  items = [];
  way = (refl, refl);
  found_are = refl;
  order = omega arith;
  within = enough;
}

pub reaches_section : (bytes : List ℕ) (id at until next : ℕ) (found : List Found)
    → Reached bytes id at until found → at ≡ until → IsMarkerAt bytes id at next
    → Reached bytes id (at + marker_size) next found
reaches_section bytes id at until next found so_far full marked = record {
  items = so_far.items ++ Marked next ∷ [];
  way = marked_last bytes id header_size header_size so_far.items at until next so_far.way full
      marked;
  found_are = so_far.found_are
      ∙ ap (map found_of)
      (sym (held_from-marked bytes id header_size header_size so_far.items at until next
      so_far.way));
  order = marked.behind;
  within = marked.within;
}

map-last : (es : List Entry) (e : Entry)
    → map found_of (es ++ e ∷ []) ≡ map found_of es ++ found_of e ∷ []
map-last [] e = refl
map-last (x ∷ es) e = ap (λ fs. found_of x ∷ fs) (map-last es e)

pub reaches_entry : (bytes : List ℕ) (id at until : ℕ) (payload : List ℕ) (found now : List Found)
    (end : ℕ) → Reached bytes id at until found → at < until → IsEntryAt bytes at until payload
    → end ≡ at + frame_size + length payload
    → now ≡ found ++ record { start = at; end = end } ∷ []
    → Reached bytes id end until now
reaches_entry bytes id at until payload found now end so_far room held end_is now_is = record {
  items = so_far.items ++ Held payload ∷ [];
  way = subst (λ k. Trace bytes id header_size header_size (so_far.items
      ++ Held payload ∷ []) k until) (sym end_is)
      (held_last bytes id header_size header_size so_far.items at until payload so_far.way
      room held);
  found_are = now_is
      ∙ ap₂ (λ (fs : List Found) (k : ℕ). fs ++ record { start = at; end = k } ∷ [])
      so_far.found_are end_is
      ∙ sym (map-last (held_from header_size so_far.items) (entry_from at payload))
      ∙ ap (map found_of)
      (sym (held_from-held bytes id header_size header_size so_far.items at until payload
      so_far.way));
  order = omega (arith, end_is, held.fits);
  within = so_far.within;
}

-- the payload of an entry within the file has the size that was read
pub payload_size : (bytes : List ℕ) (at until size : ℕ)
    → IsEntryAt bytes at until (payload_at bytes at size) → until ≤ length bytes
    → length (payload_at bytes at size) ≡ size
payload_size bytes at until size held within = omega (
  arith,
  held.fits,
  within,
  length-take size (drop (at + entry_front_size) bytes),
  length-drop (at + entry_front_size) bytes,
)
