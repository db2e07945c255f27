-- What a keeper shows of table files and segments, as its own lists and as those of the state.
use Rattle.std.proofs.Common.{◌≡◌, ◌==◌, ℕ, zero, suc, ◌+◌, ◌-◌, ◌<◌, ◌≤◌, List, [], ◌∷◌, ◌++◌}
use Rattle.std.proofs.Common.{length, map, IsTrue, refl, sym, ap, ◌∙◌, subst, arith}
use Rattle.std.specs.Prelude.{if◌then◌else◌}
use Rattle.std.specs.List.{Contains, filter, fold}
use Rattle.std.proofs.lemmas.Bool.{and_from, and_parts, eq-eqb, eqb-true, le-leb, lt-ltb}
use Rattle.std.proofs.lemmas.List.{length-map}
use Rattle.path_core.specs.declared.note.EntryNote.{EntryNote}
use Rattle.path_core.specs.declared.state.Claim.{Claim}
use Rattle.path_core.specs.declared.state.PathState.{PathState}
use Rattle.path_core.specs.declared.state.WrittenFile.{WrittenFile}
use Rattle.path_core.specs.Droppable.{IsDroppable, is_filed, is_in_file, is_of}
use Rattle.path_core.specs.Keeper.{Holding, IsFiledIn, MayDrop, PutFile, upper_from}
use Rattle.path_core.specs.Keys.{offset_of, ordinal_of}
use Rattle.path_core.specs.Lawful.{IsLawfulPath}
use Rattle.path_core.specs.LawfulLog.{entry_claim, is_at_most, is_note_at}
use Rattle.path_core.specs.Parts.{is_entry, is_entry_in, last_upper}
use Rattle.path_core.proofs.lists.Inserted.{map_from, map_old}
use Rattle.path_core.proofs.lists.Passing.{any_from, filter_from, kept_in}
use Rattle.path_core.proofs.lists.Replaced.{counted_from}
use Rattle.path_core.proofs.log.ClaimEnds.{read_claim}
use Rattle.path_rule.specs.declared.lasting.Beside.{Beside}
use Rattle.path_rule.specs.declared.lasting.Filed.{Filed}
use Rattle.path_rule.specs.declared.lasting.PutTable.{PutTable}
use Rattle.path_rule.specs.declared.view.PathSize.{PathSize}
use Rattle.path_rule.specs.Filing.{HasFiled, IsPutIn, MayGo, file_range, put_range, retired_in}
use Rattle.path_rule.specs.Filing.{upper_after, upper_of}
use Rattle.path_rule.specs.Lasts.{lasting_of, put_table, shown}
use Rattle.path_rule.specs.Limits.{made_below, most_memtables}
use Rattle.path_rule.specs.Rule.{HasRows}
use Rattle.path_rule.proofs.log.FilingStays.{written_of}

-- ---- where a table's last file ends

abbrev head_of : List (ℕ × (ℕ × ℕ)) → ℕ × (ℕ × ℕ)
head_of [] = (0, (0, 0))
head_of (r ∷ rs) = r

abbrev rest_of : List (ℕ × (ℕ × ℕ)) → List (ℕ × (ℕ × ℕ))
rest_of [] = []
rest_of (r ∷ rs) = rs

abbrev long_of : List (ℕ × (ℕ × ℕ)) → ℕ
long_of [] = 0
long_of (r ∷ rs) = 1

void : (r : ℕ × (ℕ × ℕ)) (rs : List (ℕ × (ℕ × ℕ))) → [] ≡ r ∷ rs → ⊥
void r rs same = absurd (let l : 0 ≡ 1 = ap long_of same in omega arith)

-- as the state has it
upper_is : (t k : ℕ) (files : List PutTable) (written : List WrittenFile)
    → map put_range files ≡ map file_range written
    → upper_after t k files
    ≡ fold (λ (j : ℕ) (f : WrittenFile). if f.table == t then f.upper else j) k written
upper_is t k [] [] same = refl
upper_is t k [] (g ∷ gs) same = absurd (void (file_range g) (map file_range gs) same)
upper_is t k (f ∷ fs) [] same = absurd (void (put_range f) (map put_range fs) (sym same))
upper_is t k (f ∷ fs) (g ∷ gs) same =
    upper_is t (if f.table == t then f.upper else k) fs gs (ap rest_of same)
    ∙ ap (λ (r : ℕ × (ℕ × ℕ)).
    fold (λ (j : ℕ) (h : WrittenFile). if h.table == t then h.upper else j)
    (if r.0 == t then r.1.1 else k) gs) (ap head_of same)

pub last_is : (t : ℕ) (files : List PutTable) (written : List WrittenFile)
    → map put_range files ≡ map file_range written → upper_of t files ≡ last_upper written t
last_is t files written same = upper_is t 0 files written same

-- as the keeper has it
pub upper_held : (t k : ℕ) (files : List PutFile)
    → upper_after t k (map put_table files) ≡ upper_from t k files
upper_held t k [] = refl
upper_held t k (f ∷ fs) = upper_held t (if f.table == t then f.upper else k) fs

-- behind one file more
pub upper_more : (t k : ℕ) (files : List PutTable) (f : PutTable)
    → upper_after t k (files ++ f ∷ []) ≡ (if f.table == t then f.upper else upper_after t k files)
upper_more t k [] f = refl
upper_more t k (g ∷ gs) f = upper_more t (if g.table == t then g.upper else k) gs f

-- ---- how many files there are

pub as_many : (files : List PutTable) (written : List WrittenFile)
    → map put_range files ≡ map file_range written → length files ≡ length written
as_many files written same = sym (length-map files put_range)
    ∙ (ap (λ (l : List (ℕ × (ℕ × ℕ))). length l) same ∙ length-map written file_range)

retired_few : (x : PathState) → IsLawfulPath x → (n : ℕ) → retired_in x n ≤ made_below n x
unfolding made_below
retired_few x L zero = omega arith
retired_few x L (suc n) = let few = retired_few x L n in
    let B = (L.switches.tables n).bounds_rise in let made = B.made in let low = B.oldest_is_made in
    omega (arith, few, made, low)

pub few_files : {b : Beside} (x : PathState) → IsLawfulPath x → HasRows x → (size : PathSize)
    (filed : Filed) (dropped : List ℕ) → HasFiled b size x filed dropped
    → length filed.files ≤ most_memtables
few_files x L rows size filed dropped F = let same = as_many filed.files x.files F.ranged in
    let few = F.few in let most = retired_few x L 16 in let all = rows.all in
    omega (arith, same, few, most, all)

-- ---- which segments may go

put_in : (files : List PutFile) (t key : ℕ) → IsFiledIn files t key
    → IsPutIn (map put_table files) t key
put_in files t key P = record {
  file = put_table P.file;
  among = map_old put_table files P.file P.among;
  of_table = P.of_table;
  above = P.above;
  up_to = P.up_to;
}

filed_in : (files : List PutFile) (t key : ℕ) → IsPutIn (map put_table files) t key
    → IsFiledIn files t key
filed_in files t key P = let f = map_from put_table files P.file P.among in record {
  file = f.0;
  among = f.1;
  of_table = ap (λ (g : PutTable). g.table) f.2 ∙ P.of_table;
  above = subst (λ (k : ℕ). k < key) (sym (ap (λ (g : PutTable). g.lower) f.2)) P.above;
  up_to = subst (λ (k : ℕ). key ≤ k) (sym (ap (λ (g : PutTable). g.upper) f.2)) P.up_to;
}

pub may_go : (h : Holding) (o : ℕ) → MayDrop h o → MayGo (lasting_of h) o
may_go h o M = record {
  note = M.note;
  among = M.among;
  here = M.here;
  none_kept = M.none_kept;
  filed = λ t a b ha hb ia ib key low high.
      put_in h.files t key (M.filed t a b ha hb ia ib key low high);
}

pub may_drop : (h : Holding) (o : ℕ) → MayGo (lasting_of h) o → MayDrop h o
may_drop h o M = record {
  note = M.note;
  among = M.among;
  here = M.here;
  none_kept = M.none_kept;
  filed = λ t a b ha hb ia ib key low high.
      filed_in h.files t key (M.filed t a b ha hb ia ib key low high);
}

module _ (x : PathState) (L : IsLawfulPath x) where
  -- entries of a segment below that of the synced key are lasting
  claim_low : (c : Claim) → Contains x.claims c → IsTrue (is_entry c)
      → ordinal_of c.start < ordinal_of x.synced → c.end ≤ x.synced
  claim_low c h entry below = let T = L.claims_tile_the_log in
      let read = read_claim x.capacity x.ordinals x.log x.claims T c h in
      let I = (T.inside h.0 h.1 (subst (λ (d : Claim). IsTrue (is_entry d)) (sym read) entry)).1 in
      let forward = T.forward h.0 h.1 in
      let inside = subst (λ (d : Claim). offset_of d.start + (d.end - d.start) ≤ x.capacity) read I
      in
      let ahead = subst (λ (d : Claim). d.start ≤ d.end) read forward in
      let few = L.sized.limits.greatest_capacity in omega arith

  note_low : (n : EntryNote) → Contains x.notes n → ordinal_of n.start.0 < ordinal_of x.synced
      → n.end.0 ≤ x.synced
  note_low n h below = claim_low (entry_claim n.writer.0 n.start.0 n.end.0)
      (L.notes_are_claims.each n h).claim refl below

  among_logged : (n : EntryNote) → Contains x.notes n → n.end.0 ≤ x.synced
      → Contains (filter (is_at_most x.synced) x.notes) n
  among_logged n h low = kept_in (is_at_most x.synced) x.notes n h (le-leb n.end.0 x.synced low)

  module _ {b : Beside} (size : PathSize) (filed : Filed) (dropped : List ℕ)
      (F : HasFiled b size x filed dropped) (o : Beside) (opened key : ℕ) (z : ℕ)
      (M : MayGo (shown o opened key filed dropped x) z) (below : z < ordinal_of x.synced) where
    in_files : (t k : ℕ) → IsPutIn filed.files t k → IsTrue (is_filed x.files t k)
    in_files t k P = let g = written_of filed.files x.files F.ranged P.file P.among in
        let lower = P.above in let upper = P.up_to in
        let table : g.0.table ≡ t = ap (λ (r : ℕ × (ℕ × ℕ)). r.0) g.2 ∙ P.of_table in
        let from = ap (λ (r : ℕ × (ℕ × ℕ)). r.1.0) g.2 in
        let to = ap (λ (r : ℕ × (ℕ × ℕ)). r.1.1) g.2 in
        any_from (is_in_file t k) x.files g.0 g.1 (and_from _ _ (and_from _ _
        (eq-eqb g.0.table t table) (lt-ltb g.0.lower k (omega arith)))
        (le-leb k g.0.upper (omega arith)))

    -- by what it shows it is droppable
    pub droppable_shown : IsDroppable x z
    droppable_shown = record {
      closed = (let low = L.synced_below_the_log.below_log in omega arith);
      has_entry = let n = filter_from (is_at_most x.synced) x.notes M.note M.among in
          let c = entry_claim M.note.writer.0 M.note.start.0 M.note.end.0 in
          any_from (is_entry_in z) x.claims c (L.notes_are_claims.each M.note n.0).claim
          (and_from (is_entry c) (ordinal_of c.start == z) refl
          (eq-eqb (ordinal_of c.start) z M.here));
      logged = λ c h entry. let parts = and_parts (is_entry c) (ordinal_of c.start == z) entry in
          let at = eqb-true (ordinal_of c.start) z parts.1 in
          let low = claim_low c h parts.0 (omega arith) in
          let n = counted_from (is_note_at c.end) x.notes
          (let once = L.logged_is_the_synced_part.gathered c h parts.0 low in omega arith) in
          let ends : n.0.end.0 ≡ c.end = eqb-true n.0.end.0 c.end n.2 in
          subst (λ (l : List ℕ). Contains l c.end) (sym L.logged_is_the_synced_part.logged)
          (subst (λ (k : ℕ). Contains (map (λ (m : EntryNote). m.end.0)
          (filter (is_at_most x.synced) x.notes)) k) ends
          (map_old (λ (m : EntryNote). m.end.0) (filter (is_at_most x.synced) x.notes) n.0
          (among_logged n.0 n.1 (omega arith))));
      filed = λ t a b inside ha hb ia ib k low high. in_files t k
          (M.filed t a b (among_logged a ha (low_of t a ha ia)) (among_logged b hb
          (low_of t b hb ib)) ia ib k low high);
    }
      where
        low_of : (t : ℕ) (n : EntryNote) → Contains x.notes n → IsTrue (is_of z t n)
            → n.end.0 ≤ x.synced
        low_of t n h is = let at = eqb-true (ordinal_of n.start.0) z
            (and_parts (ordinal_of n.start.0 == z) _ is).0 in note_low n h (omega arith)
