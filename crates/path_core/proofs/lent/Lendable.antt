-- What the notes between the synced key and a marker are, which a sync may make lasting.
use Rattle.std.proofs.Common.{
  ◌≡◌,
  ℕ,
  suc,
  ◌+◌,
  ◌-◌,
  ◌<◌,
  ◌≤◌,
  nat_lt,
  nat_le,
  cond,
  length,
  IsTrue,
  not,
  sym,
  ap,
  ◌∙◌,
  subst,
  arith,
  eqb-true,
  ne_eqb,
  List,
}
use Rattle.std.specs.List.{Contains, filter, count_by}
use Rattle.std.proofs.lemmas.Bool.{and_from, and_parts, ltb-true, lt-ltb, le-leb, leb-true}
use Rattle.std.proofs.lemmas.List.{get_or_default}
use Rattle.std.proofs.lemmas.List.Elements.{Contains-get_or}
use Rattle.std.proofs.lemmas.List.Kept.{AllPairs-filter}
use mathlib.Core.Logic.{dite}
use native.Mathlib.Decide.{ℕ_discrete, dec_lt}
use Rattle.path_core.specs.declared.event.ClaimKind.TheVariants.{Entry, Marker}
use Rattle.path_core.specs.declared.note.EntryNote.{EntryNote}
use Rattle.path_core.specs.declared.state.Claim.{Claim}
use Rattle.path_core.specs.declared.state.PathState.{PathState}
use Rattle.path_core.specs.Keys.{ordinal_of, offset_of, first_offset, behind_marker, after}
use Rattle.path_core.specs.Parts.{no_claim, is_entry, is_marker, is_marker_kind}
use Rattle.path_core.specs.Next.{is_between}
use Rattle.path_core.specs.Lawful.{IsLawfulPath}
use Rattle.path_core.specs.LawfulLog.{claim_in, key_before, key_behind, is_note_at}
use Rattle.path_core.specs.History.{IsInSegment}
use Rattle.path_core.specs.Whole.{IsWhole}
use Rattle.path_core.specs.Keeper.{Tile}
use Rattle.path_core.proofs.lists.Passing.{filter_from, kept_in}
use Rattle.path_core.proofs.lists.Replaced.{counted_from}
use Rattle.path_core.proofs.lent.Numbers.{IsEntryAt, Rising, FirstStarts, stands_entry}
use Rattle.path_core.proofs.lent.Tiling.{tiles, first_starts}
use Rattle.path_core.proofs.lent.Beginnings.{
  is_marked,
  notes_rise,
  note_at,
  entries_long,
  never,
  entry_behind,
  first_entry,
}

-- a whole note, in one segment that there is and that was not dropped
pub record StandsIn (x : PathState) (n : EntryNote) : Type 0 where
  pub whole : IsWhole n
  pub in_segment : IsInSegment x.capacity n
  pub segment_is : ordinal_of n.start.0 < x.ordinals
  pub not_dropped : Contains x.dropped (ordinal_of n.start.0) → ⊥

-- What the notes between two keys are that a sync may make lasting.
pub record LentAt (x : PathState) (low_key value : ℕ) (run : List EntryNote) : Type 0 where
  pub each : (n : EntryNote) → Contains run n → StandsIn x n
  pub tiled : Tile x.capacity low_key value run
  pub starts : FirstStarts x.capacity low_key run

module _ (x : PathState) (L : IsLawfulPath x) where
  -- the first entry behind a key, which is the synced one or the start of a later marker
  module _ (low_key : ℕ) (base : x.synced ≤ low_key) (is_key : 0 < low_key
      → (c : Claim) × Contains x.claims c × IsTrue (is_marker c) × (c.start ≡ low_key)) where
    record Begins (v : ℕ) : Type 0 where
      pub number : ℕ
      pub below : number < v
      pub entry : (claim_in x.claims number).what ≡ Entry
      pub key : key_before x.capacity x.claims number ≡ after x.capacity low_key
      pub from : (k : ℕ) → k < length x.claims → (claim_in x.claims k).what ≡ Entry
          → low_key < (claim_in x.claims k).end → number ≤ k
      pub above : (k : ℕ) → number ≤ k → k < length x.claims → low_key ≤ (claim_in x.claims k).start

    module _ (value v : ℕ) (low : low_key < value) (within : v < length x.claims)
        (mark : (claim_in x.claims v).what ≡ Marker) (at : (claim_in x.claims v).start ≡ value)
      where
        begins : Begins v
        begins = dite (ℕ_discrete low_key 0)
            (λ none. record {
              number = 0;
              below = dite (ℕ_discrete v 0)
                  (λ z. absurd (never x L v (ap (λ j. (claim_in x.claims j).what) z
                  ∙ first_entry x L (omega arith)) mark)) (λ n. omega arith);
              entry = first_entry x L (omega arith);
              key = ap (after x.capacity) (sym none);
              from = λ k _ _ _. omega arith;
              above = λ k _ _. omega arith;
            })
            (λ some. let m = is_key (omega arith) in let u = m.1.0 in let lu = m.1.1 in
            let read : claim_in x.claims u ≡ m.0 = get_or_default x.claims u no_claim m.0 lu
            ∙ m.1.2 in
            let mu : (claim_in x.claims u).what ≡ Marker = is_marked (claim_in x.claims u).what
            (ap (λ (c : Claim). is_marker c) read ∙ m.2) in
            let su : (claim_in x.claims u).start ≡ low_key = ap (λ (c : Claim). c.start) read
            ∙ m.3 in
            let before : u < v = dite (dec_lt u v) (λ l. l)
            (λ g. dite (ℕ_discrete u v)
            (λ e. absurd (let q = ap (λ j. (claim_in x.claims j).start) e in omega arith))
            (λ apart. absurd (let t = L.claims_tile_the_log.apart v u (omega arith) lu in
            let f = L.claims_tile_the_log.forward v within in omega arith))) in
            let eu = entry_behind x L u (omega arith) mu in record {
              number = suc u;
              below = dite (ℕ_discrete (suc u) v)
                  (λ e. absurd (never x L v (ap (λ j. (claim_in x.claims j).what) (sym e)
                  ∙ eu) mark))
                  (λ n. omega arith);
              entry = eu;
              key = ap (λ k. key_behind k x.capacity (claim_in x.claims u).start
                  (claim_in x.claims u).end) mu ∙ (ap (behind_marker x.capacity) su
                  ∙ sym (ap (λ b. cond b first_offset (behind_marker x.capacity low_key))
                  (ne_eqb low_key 0 some)));
              from = λ k l e up. dite (dec_lt u k) (λ q. omega arith)
                  (λ g. dite (ℕ_discrete k u)
                  (λ q. absurd (never x L u (ap (λ j. (claim_in x.claims j).what) (sym q) ∙ e) mu))
                  (λ apart. absurd (let t = L.claims_tile_the_log.apart k u (omega arith) lu in
                  omega arith)));
              above = λ k q l. let t = L.claims_tile_the_log.apart u k (omega arith) l in
                  let f = L.claims_tile_the_log.forward u lu in omega arith;
            })

        module _ (gathered : (c : Claim) → Contains x.claims c → IsTrue (is_entry c)
            → c.end ≤ value → count_by (is_note_at c.end) x.notes ≡ 1) where
          each : (n : EntryNote) → Contains (filter (is_between low_key value) x.notes) n
              → (k : ℕ) × IsEntryAt x.claims n k × (begins.number ≤ k) × (k < v)
          each n h = let f = filter_from (is_between low_key value) x.notes n h in
              let b = and_parts (nat_lt low_key n.end.0) (nat_le n.end.0 value) f.1 in
              let lo = ltb-true low_key n.end.0 b.0 in let hi = leb-true n.end.0 value b.1 in
              let k = note_at x L n f.0 in let e = k.1.end in
              let long = entries_long x L k.0 k.1.inside k.1.what in (
                k.0,
                k.1,
                begins.from k.0 k.1.inside k.1.what (omega arith),
                dite (dec_lt k.0 v) (λ l. l)
                    (λ g. dite (ℕ_discrete k.0 v)
                    (λ q. absurd (never x L v (ap (λ j. (claim_in x.claims j).what) (sym q)
                    ∙ k.1.what)
                    mark))
                    (λ apart. absurd (let t = L.claims_tile_the_log.apart v k.0
                    (omega arith) k.1.inside in
                    let w = L.claims_tile_the_log.forward v within in omega arith))),
              )

          all : (k : ℕ) → begins.number ≤ k → k < v → (claim_in x.claims k).what ≡ Entry
              → (n : EntryNote) × Contains (filter (is_between low_key value) x.notes) n ×
              IsEntryAt x.claims n k
          all k up low entry = let l : k < length x.claims = omega arith in
              let t = L.claims_tile_the_log.apart k v low within in let a = begins.above k up l in
              let long = entries_long x L k l entry in
              let one = gathered (claim_in x.claims k) (Contains-get_or x.claims k no_claim l)
              (ap (λ q. not (is_marker_kind q)) entry) (omega arith) in
              let c = counted_from (is_note_at (claim_in x.claims k).end) x.notes (omega arith) in
              let n = c.0 in let same : n.end.0 ≡ (claim_in x.claims k).end =
              eqb-true n.end.0 (claim_in x.claims k).end c.2 in
              let p = note_at x L n c.1 in let e = p.1.end in
              let other = entries_long x L p.0 p.1.inside p.1.what in
              let is : p.0 ≡ k = dite (ℕ_discrete p.0 k) (λ q. q)
              (λ apart. dite (dec_lt p.0 k)
              (λ q. absurd (let z = L.claims_tile_the_log.apart p.0 k q l in omega arith))
              (λ q. absurd (let z = L.claims_tile_the_log.apart k p.0 (omega arith) p.1.inside in
              omega arith))) in (
                n,
                kept_in (is_between low_key value) x.notes n c.1 (and_from (nat_lt low_key n.end.0)
                    (nat_le n.end.0 value) (lt-ltb low_key n.end.0 (omega arith))
                    (le-leb n.end.0 value (omega arith))),
                subst (λ j. IsEntryAt x.claims n j) is p.1,
              )

          stands : (n : EntryNote) → Contains (filter (is_between low_key value) x.notes) n
              → StandsIn x n
          stands n h =
              let f = filter_from (is_between low_key value) x.notes n h in
              let k = each n h in
              let e = k.1.end in
              let a = k.1.start in
              let I = (L.notes_are_claims.each n f.0).whole in
              let in_it = subst (λ (q : ℕ × ℕ). (first_offset ≤ offset_of q.0)
              × (offset_of q.0 + (q.1 - q.0) ≤ x.capacity)) (λ i. (a i, e i))
              (L.claims_tile_the_log.inside k.0 k.1.inside
              (ap (λ q. not (is_marker_kind q)) k.1.what)) in
              let s = stands_entry x.capacity x.ordinals x.log x.claims L.claims_tile_the_log k.0
              k.1.inside k.1.what in
              let segment = s.segment in
              let long = s.least in
              let above = begins.above k.0 k.2 k.1.inside in
              let bytes = I.long in
              let inner = in_it.1 in
              record {
                whole = I;
                in_segment = record {
                  behind_front = in_it.0;
                  inside = omega arith;
                  long = bytes;
                };
                segment_is = omega arith;
                not_dropped = λ d.
                    let b = L.dropped_was_droppable.below_synced (ordinal_of n.start.0) d in
                    absurd (omega arith);
              }

          pub lent_at : LentAt x low_key value (filter (is_between low_key value) x.notes)
          lent_at = let b = L.sized.limits.least_capacity in
              let rising = AllPairs-filter Rising (is_between low_key value) x.notes
              (notes_rise x L) in
              record {
                each = stands;
                tiled = tiles x.capacity x.ordinals x.log x.claims L.claims_tile_the_log
                    L.sized.limits.greatest_capacity (omega arith) value v within mark at low_key
                    begins.number begins.below begins.entry begins.key
                    (filter (is_between low_key value) x.notes) rising each all;
                starts = first_starts x.capacity x.ordinals x.log x.claims L.claims_tile_the_log
                    L.sized.limits.greatest_capacity (omega arith) value v within mark at low_key
                    begins.number begins.below begins.entry begins.key
                    (filter (is_between low_key value) x.notes) rising each all;
              }
