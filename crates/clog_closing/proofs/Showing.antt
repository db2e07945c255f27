-- What entries of a log show of lines: their cells, where their payloads are those of the lines.
use Rattle.std.proofs.Common.{
  ◌≡◌,
  ℕ,
  ◌≤◌,
  inl,
  inr,
  List,
  [],
  ◌∷◌,
  ◌++◌,
  length,
  map,
  take,
  drop,
  refl,
  sym,
  ◌∙◌,
  ap,
  subst,
  arith,
  append-nil,
  append_assoc,
  take-append-drop,
}
use Rattle.std.specs.Prelude.{Contains, ◌↔◌}
use Rattle.std.specs.List.{flat_map}
use Rattle.std.proofs.lemmas.List.{length-map, length-take, map-append, take-map, take-take}
use Rattle.std.proofs.lemmas.List.Elements.{Contains-append_left}
use Rattle.clog_spec.specs.Sizes.{header_size}
use Rattle.clog_base.specs.declared.cell.Cell.{Cell}
use Rattle.clog_base.specs.declared.cell.CellKey.{CellKey}
use Rattle.clog_base.proofs.Members.{
  first_or_further,
  from_flat,
  from_map,
  in_flat,
  in_map,
  nothing_there,
}
use Rattle.clog_disk.specs.Files.{Files, bytes_at}
use Rattle.clog_mutation.specs.declared.mutation.Mutation.{Mutation}
use Rattle.clog_mutation.specs.Payload.{cells_of, payload_of}
use Rattle.clog_mutation.specs.Stored.{IsStored}
use Rattle.clog_mutation.proofs.Decoding.{one_mutation}
use Rattle.clog_scan.specs.Cut.{Section}
use Rattle.clog_scan.specs.Segment.{Entry, entries_of}
use Rattle.clog_crash.specs.Covering.{Either, SameMerge}
use Rattle.clog_crash.specs.Log.{Write, entries_in, logged_in}
use Rattle.clog_crash.specs.Readings.{IsCellAmong, Reading, RestoresIn}
use Rattle.clog_crash.specs.Runs.{Placed, placed, placed_log, placed_of}
use Rattle.clog_crash.specs.Showing.{RestoresFirst}
use Rattle.clog_crash.proofs.changes.Covering.{exactly, merge_then}
use Rattle.path_core.specs.declared.note.EntryNote.{EntryNote}
use Rattle.clog_segments.specs.Grows.{segments_with}
use Rattle.clog_segments.specs.Notes.{payload_in, places_of}
use Rattle.clog_layout.specs.Logged.{AreEntriesOf}
use Rattle.clog_closing.specs.Written.{RestoresLines}

-- ---- payloads, one by one

abbrev pub payload_at : Entry → List ℕ
payload_at e = e.payload

abbrev pub placed_payload : Placed → List ℕ
placed_payload p = p.1.payload

abbrev pub noted_payload : EntryNote → List ℕ
noted_payload n = payload_in n.bytes

of_placed : (id : ℕ) (es : List Entry) → map placed_payload (placed id es) ≡ map payload_at es
of_placed id [] = refl
of_placed id (e ∷ es) = ap (λ (l : List (List ℕ)). e.payload ∷ l) (of_placed id es)

-- of the segments of a log
pub of_log : (past : List Write) (id : ℕ) (ss : List Section)
    → map payload_at (logged_in past ss) ≡ map placed_payload (placed_log past id ss)
of_log [] id ss = sym (of_placed id (entries_of header_size ss))
of_log (v ∷ vs) id ss =
    let first = entries_of header_size v.sections in
    let rest = flat_map placed_of vs ++ placed id (entries_of header_size ss) in
    ap (map payload_at) (append_assoc first (entries_in vs) (entries_of header_size ss))
    ∙ map-append payload_at first (logged_in vs ss)
    ∙ ap (λ (l : List (List ℕ)). l ++ map payload_at (logged_in vs ss))
    (sym (of_placed v.id first))
    ∙ ap (λ (l : List (List ℕ)). map placed_payload (placed_of v) ++ l) (of_log vs id ss)
    ∙ sym (map-append placed_payload (placed_of v) rest)
    ∙ ap (map placed_payload)
    (sym (append_assoc (placed_of v) (flat_map placed_of vs)
    (placed id (entries_of header_size ss))))

pub with_hand : (past : List Write) (id : ℕ) (ss : List Section)
    → entries_in (segments_with past id ss) ≡ logged_in past ss
with_hand [] id ss = append-nil (entries_of header_size ss)
with_hand (v ∷ vs) id ss =
    let first = entries_of header_size v.sections in
    ap (λ (l : List Entry). first ++ l) (with_hand vs id ss)
    ∙ sym (append_assoc first (entries_in vs) (entries_of header_size ss))

-- of notes
pub of_places : (base : ℕ) (ns : List EntryNote)
    → map placed_payload (places_of base ns) ≡ map noted_payload ns
of_places base [] = refl
of_places base (n ∷ ns) =
    ap (λ (l : List (List ℕ)). noted_payload n ∷ l) (of_places base ns)

-- ---- cells

pub each_stored : (ms : List Mutation) (ns : List EntryNote) → AreEntriesOf ms ns → (m : Mutation)
    → Contains ms m → IsStored m
each_stored [] [] are m h = absurd (nothing_there m h)
each_stored [] (n ∷ ns) are m h = absurd are
each_stored (k ∷ ms) [] are m h = absurd are
each_stored (k ∷ ms) (n ∷ ns) are m h = elim (first_or_further k ms m h) [
  | inl same ↦ subst IsStored same are.0.stored
  | inr more ↦ each_stored ms ns are.1 m more
]

module _ (es : List Entry) (ms : List Mutation) (says : map payload_at es ≡ map payload_of ms)
    (stored : (m : Mutation) → Contains ms m → IsStored m) (pair : CellKey × Cell) where
  to_lines : IsCellAmong es pair → Contains (flat_map cells_of ms) pair
  to_lines c =
      let there = subst (λ (l : List (List ℕ)). Contains l (payload_at c.entry)) says
      (in_map payload_at es c.entry c.listed) in
      let found = from_map payload_of ms (payload_at c.entry) there in
      let same = one_mutation c.cell.mutation found.0 c.cell.said.stored
      (stored found.0 found.1) (sym c.cell.said.spelled ∙ sym found.2) in
      in_flat cells_of ms found.0 pair found.1
      (subst (λ (m : Mutation). Contains (cells_of m) pair) same c.cell.listed)

  to_entries : Contains (flat_map cells_of ms) pair → IsCellAmong es pair
  to_entries h =
      let line = from_flat cells_of ms pair h in
      let there = subst (λ (l : List (List ℕ)). Contains l (payload_of line.0)) (sym says)
      (in_map payload_of ms line.0 line.1) in
      let found = from_map payload_at es (payload_of line.0) there in
      record {
        entry = found.0;
        listed = found.1;
        cell = record {
          mutation = line.0;
          said = record { stored = stored line.0 line.1; spelled = found.2 };
          listed = line.2;
        };
      }

  pub same_cells : IsCellAmong es pair ↔ Contains (flat_map cells_of ms) pair
  same_cells = (to_lines, to_entries)

-- ---- images

-- the first of lines up to a count are the first of them
first_of : (n count : ℕ) (ms : List Mutation) → n ≤ length (take count ms)
    → (n ≤ length ms) × (take n (take count ms) ≡ take n ms)
first_of n count ms few = (
  omega (arith, few, length-take count ms),
  take-take n count ms (omega (arith, few, length-take count ms)),
)

module _ (r : Reading) (mutations : List Mutation) (notes : List EntryNote)
    (entries : AreEntriesOf mutations notes) (count : ℕ) (es : List Entry)
    (says : map payload_at es ≡ map payload_of (take count mutations)) where
  -- an image that restores the first of the entries restores the first of the lines that they say
  pub restores_said : (least enough : ℕ) (image : Files) → RestoresFirst r least es image
      → enough ≤ least → RestoresLines r (take count mutations) enough image
  restores_said least enough image f le =
      let said = take count mutations in
      let long : length es ≡ length said =
      sym (length-map es payload_at) ∙ ap length says ∙ length-map said payload_of in
      let few = first_of f.n count mutations (omega (arith, f.some, long)) in
      let first : map payload_at (take f.n es) ≡ map payload_of (take f.n said) =
      sym (take-map payload_at f.n es) ∙ ap (take f.n) says ∙ take-map payload_of f.n said in
      let stored : (m : Mutation) → Contains (take f.n said) m → IsStored m = λ m h.
      each_stored mutations notes entries m
      (subst (λ (l : List Mutation). Contains l m) (take-append-drop f.n mutations)
      (Contains-append_left (take f.n mutations) (drop f.n mutations) m
      (subst (λ (l : List Mutation). Contains l m) few.1 h))) in
      let same = same_cells (take f.n es) (take f.n said) first stored in
      record {
        n = f.n;
        enough = omega (arith, le, f.enough);
        some = omega (arith, f.some, long);
        restores = merge_then (RestoresIn (bytes_at image))
            (Either (RestoresIn r) (IsCellAmong (take f.n es)))
            (Either (RestoresIn r) (Contains (flat_map cells_of (take f.n said)))) f.restores
            (exactly (Either (RestoresIn r) (IsCellAmong (take f.n es)))
            (Either (RestoresIn r) (Contains (flat_map cells_of (take f.n said))))
            (λ pair. (
              λ h. elim h [ inl old ↦ inl old | inr new ↦ inr ((same pair).0 new) ],
              λ h. elim h [ inl old ↦ inl old | inr new ↦ inr ((same pair).1 new) ],
            )));
        undamaged = f.undamaged;
      }

  -- which are the first of all lines
  pub restores_lines : (least enough : ℕ) (image : Files) → RestoresFirst r least es image
      → enough ≤ least → RestoresLines r mutations enough image
  restores_lines least enough image f le =
      let said = restores_said least enough image f le in
      let few = first_of said.n count mutations said.some in
      record {
        n = said.n;
        enough = said.enough;
        some = few.0;
        restores = subst (λ (l : List Mutation). SameMerge (RestoresIn (bytes_at image))
            (Either (RestoresIn r) (Contains (flat_map cells_of l)))) few.1 said.restores;
        undamaged = said.undamaged;
      }
