-- What a scanner has given, from piece to piece.
use Rattle.std.proofs.Common.{◌≡◌, ℕ, ◌+◌, ◌-◌, ◌^◌, ◌<◌, ◌≤◌, List, [], ◌++◌, length, drop, map}
use Rattle.std.proofs.Common.{Bool, true, false, Option, Some, None, Ok, Err, refl, sym, ◌∙◌, ap}
use Rattle.std.proofs.Common.{subst, arith, append_assoc}
use Rattle.std.specs.Prelude.{is_some}
use Rattle.std.proofs.lemmas.List.{append-nil, length-append, length-drop, drop-append-le}
use Rattle.clog_spec.specs.Sizes.{header_size}
use Rattle.clog_entry.specs.declared.cause.Cause.{Cause}
use Rattle.clog_entry.specs.Spelled.{IsHeaderAt}
use Rattle.clog_entry.proofs.HeaderLaws.{header_found}
use Rattle.clog_entry.proofs.Pieces.{drop_more}
use Rattle.clog_scan.specs.declared.answer.End.{End}
use Rattle.clog_scan.specs.declared.answer.End.TheVariants.{Torn}
use Rattle.clog_scan.specs.declared.scanner.Scanner.{Scanner}
use Rattle.clog_scan.specs.declared.walking.Walked.{Walked}
use Rattle.clog_scan.specs.declared.whole.Whole.{Whole}
use Rattle.clog_scan.specs.Ahead.{HeaderIs}
use Rattle.clog_scan.specs.Laws.{IsFile}
use Rattle.clog_scan.specs.Pieces.{IsWindow, entry_of}
use Rattle.clog_scan.specs.Segment.{Entry, IsSegment}
use Rattle.clog_scan.specs.Walks.{AreUpTo, Begins, Feeds, FirstIs, HasCome, HasScanned, HasWalked}
use Rattle.clog_scan.specs.Walks.{Reads, ReadsHeld, ScannedTo, WalksTo}
use Rattle.clog_scan.proofs.Coming.{come_start, none_yet, up_to}
use Rattle.clog_scan.proofs.Theorems.{one_segment, segment_without_header}
use Rattle.clog_scan.proofs.WindowLaws.{window_on}

scanned_of : (file : List ℕ) (id at until : ℕ) (end : Option End) (fed : ℕ)
    (given : List Entry) → WalksTo file id at until end fed given
    → ScannedTo file id at until true end fed given
scanned_of file id at until None fed given to = to
scanned_of file id at until (Some end) fed given to = to

pub reads_begun : (len id : ℕ) (window : List ℕ) (from until : ℕ) (w : Walked)
    → HasWalked len id window from until w → Reads len id window from until true (w, true)
reads_begun len id window from until w walked = record {
  forward = walked.forward;
  inside = walked.inside;
  order = walked.order;
  within = walked.within;
  reads = λ file given is begins. scanned_of file id w.at w.until w.end (from + length window)
      (given ++ map entry_of w.wholes.items) (walked.walks file given is begins);
}

-- a window at the front
at_front : (file : List ℕ) (len : ℕ) (window : List ℕ) (from : ℕ)
    → IsWindow file len window from → from ≡ 0 → IsWindow file len window 0
at_front file len window from is front = subst (IsWindow file len window) front is

pub reads_header : (len id : ℕ) (window rest : List ℕ) (from until : ℕ) (w : Walked)
    → HeaderIs len id window (Some (Ok tt)) → rest ≡ drop header_size window
    → HasWalked len id rest (from + header_size) (from + header_size) w
    → Reads len id window from until false (w, true)
reads_header len id window rest from until w header rest_is walked =
    let enough = header.0 in
    let long = ap length rest_is in
    let forward = walked.forward in
    let inside = walked.inside in
    let whole : from + header_size + length rest ≡ from + length window =
    omega (arith, enough, long, length-drop header_size window) in
    record {
      forward = omega (arith, forward);
      inside = omega (arith, inside, whole);
      order = walked.order;
      within = walked.within;
      reads = λ file given is begins.
          let front = begins.0 in
          let there : IsHeaderAt file id = header_found file id is.is_file.are_bytes
          (header.1 file (at_front file len window from is front)) in
          let place : header_size ≡ from + header_size = omega (arith, front) in
          let Comes : ℕ → ℕ → List Entry → Type 0 = λ a u g. HasCome file id a u g in
          let come : HasCome file id (from + header_size) (from + header_size) given =
          subst (λ k. HasCome file id k k given) place
          (subst (HasCome file id header_size header_size) (sym begins.1)
          (come_start file id there)) in
          let on = window_on file len window from (from + header_size) is (omega arith)
          (omega (arith, enough)) in
          let less : from + header_size - from ≡ header_size = omega arith in
          let behind : IsWindow file len rest (from + header_size) =
          subst (λ (r : List ℕ). IsWindow file len r (from + header_size))
          (ap (λ k. drop k window) less ∙ sym rest_is) on in
          let es = given ++ map entry_of w.wholes.items in
          scanned_of file id w.at w.until w.end (from + length window) es
          (subst (λ k. WalksTo file id w.at w.until w.end k es) whole
          (walked.walks file given behind come));
    }

pub reads_torn : (len id : ℕ) (window : List ℕ) (from until : ℕ) (w : Walked) (cause : Cause)
    → id < 2 ^ 64 → from ≤ until → until ≤ len → HeaderIs len id window (Some (Err cause))
    → w.wholes.items ≡ [] → w.at ≡ from → w.until ≡ until → w.end ≡ Some (Torn 0 cause)
    → Reads len id window from until false (w, false)
reads_torn len id window from until w cause fits order within header none at_is until_is end_is =
    record {
      forward = omega (arith, at_is);
      inside = omega (arith, at_is);
      order = omega (arith, order, at_is, until_is);
      within = omega (arith, within, until_is);
      reads = λ file given is begins.
          let torn = segment_without_header file id cause fits
          (header (file) (at_front file len window from is begins.0)) in
          let nothing : [] ≡ given ++ map entry_of w.wholes.items =
          sym (ap (λ (ws : List Whole). given ++ map entry_of ws) none ∙ append-nil given
          ∙ begins.1) in
          subst (λ e. ScannedTo file id w.at w.until false e (from + length window)
          (given ++ map entry_of w.wholes.items)) (sym end_is)
          (subst (λ es. IsSegment file id es (Torn 0 cause)) nothing torn);
    }

pub reads_wait : (len id : ℕ) (window : List ℕ) (from until : ℕ) (w : Walked)
    → from ≤ until → until ≤ len → HeaderIs len id window None
    → w.wholes.items ≡ [] → w.at ≡ from → w.until ≡ until → w.end ≡ None
    → Reads len id window from until false (w, false)
reads_wait len id window from until w order within header none at_is until_is end_is =
    record {
      forward = omega (arith, at_is);
      inside = omega (arith, at_is);
      order = omega (arith, order, at_is, until_is);
      within = omega (arith, within, until_is);
      reads = λ file given is begins.
          let front = begins.0 in
          let less = header.0 in
          subst (λ e. ScannedTo file id w.at w.until false e (from + length window)
          (given ++ map entry_of w.wholes.items)) (sym end_is) (
            omega (arith, at_is, front),
            ap (λ (ws : List Whole). given ++ map entry_of ws) none ∙ append-nil given ∙ begins.1,
            (λ there. let few = header.1 file (at_front file len window from is front) there in
                omega (arith, few, front)),
            omega (arith, less, front, is.len_is),
          );
    }

begins_of : (file : List ℕ) (id at until : ℕ) (begun : Bool) (end : Option End) (fed : ℕ)
    (given : List Entry) → end ≡ None → ScannedTo file id at until begun end fed given
    → Begins file id at until begun given
begins_of file id at until begun (Some end) fed given none to = absurd cc
begins_of file id at until false None fed given none to = (to.0, to.1)
begins_of file id at until true None fed given none to = to.0

pub feeds_more : (old new : Scanner) (piece : List ℕ) (r : Walked × Bool) (left : List ℕ)
    → old.end ≡ None
    → ReadsHeld old.len old.id old.held.items old.fed old.until old.begun piece left r
    → new.id ≡ old.id → new.len ≡ old.len → new.fed ≡ old.fed + length piece
    → new.begun ≡ r.1 → new.end ≡ r.0.end → new.end ≡ None → new.until ≡ r.0.until
    → new.held.items ≡ left → length old.held.items ≤ old.fed
    → Feeds old new piece r.0.wholes.items
feeds_more old new piece r left going held id_is len_is fed_is begun_is end_is none until_is
    held_is most = record {
      same_id = id_is;
      same_len = len_is;
      fed = fed_is;
      scans = λ file given so piece_there.
          let from = old.fed - length old.held.items in
          let window = old.held.items ++ piece in
          let there : drop from file ≡ window ++ drop new.fed file =
          so.held ∙ ap (λ l. old.held.items ++ l) piece_there
          ∙ sym (append_assoc old.held.items piece (drop new.fed file)) in
          let is : IsWindow file old.len window from = record {
            is_file = so.is_file;
            len_is = so.len_is;
            ahead = record { rest = drop new.fed file; there = there };
          } in
          let forward = held.reads.forward in
          let inside = held.reads.inside in
          let size = length-append old.held.items piece in
          let k = r.0.at - from in
          let left_is : new.held.items ≡ drop k window = held_is ∙ held.left_is in
          let long = ap length left_is in
          let place : r.0.at ≡ new.fed - length new.held.items = omega (
            arith,
            forward,
            inside,
            size,
            long,
            length-drop k window,
            fed_is,
            most,
          ) in
          let fed : from + length window ≡ new.fed = omega (arith, size, fed_is, most) in
          let es = given ++ map entry_of r.0.wholes.items in
          let to = held.reads.reads file given is
          (begins_of file old.id from old.until old.begun old.end old.fed given going so.state) in
          let less : k ≤ length window = omega (arith, forward, inside) in
          let at_is : r.0.at ≡ from + k = omega (arith, forward) in
          record {
            is_file = so.is_file;
            len_is = so.len_is ∙ sym len_is;
            held = ap (λ n. drop n file) (sym place ∙ at_is) ∙ drop_more from k file
                ∙ ap (drop k) there ∙ drop-append-le k window (drop new.fed file) less
                ∙ ap (λ l. l ++ drop new.fed file) (sym left_is);
            state = (
                let Goes : ℕ → ℕ → ℕ → Bool → Option End → ℕ → Type 0 =
                λ i a u b e f. ScannedTo file i a u b e f es in
                let a = subst (λ f. Goes old.id r.0.at r.0.until r.1 r.0.end f) fed to in
                let b = subst (λ n. Goes old.id n r.0.until r.1 r.0.end new.fed) place a in
                let at = new.fed - length new.held.items in
                let c = subst (λ i. Goes i at r.0.until r.1 r.0.end new.fed) (sym id_is) b in
                let d = subst (λ u. Goes new.id at u r.1 r.0.end new.fed) (sym until_is) c in
                let e = subst (λ g. Goes new.id at new.until g r.0.end new.fed) (sym begun_is) d in
                subst (λ g. Goes new.id at new.until new.begun g new.fed) (sym end_is) e);
          };
    }

ended_of : (file : List ℕ) (id at until : ℕ) (begun : Bool) (end : Option End) (e : End)
    (fed : ℕ) (given : List Entry) → end ≡ Some e
    → ScannedTo file id at until begun end fed given → IsSegment file id given e
ended_of file id at until begun (Some end) e fed given is to =
    let same : end ≡ e = cc in subst (IsSegment file id given) same to
ended_of file id at until false None e fed given is to = absurd cc
ended_of file id at until true None e fed given is to = absurd cc

-- at its end a scanner holds nothing more
pub stands_ended : (file : List ℕ) (s : Scanner) (given : List Entry) (e : End) → IsFile file
    → length file ≡ s.len → s.held.items ≡ [] → s.end ≡ Some e → IsSegment file s.id given e
    → HasScanned file s given
stands_ended file s given e is_file len_is none end_is is =
    let long = ap length none in
    let place : s.fed - length s.held.items ≡ s.fed = omega (arith, long) in
    record {
      is_file = is_file;
      len_is = len_is;
      held = ap (λ n. drop n file) place ∙ ap (λ l. l ++ drop s.fed file) (sym none);
      state = subst (λ g. ScannedTo file s.id (s.fed - length s.held.items) s.until s.begun g
          s.fed given) (sym end_is) is;
    }

is_an_end : (end : Option End) → is_some end ≡ true → (e : End) × (end ≡ Some e)
is_an_end None is = absurd cc
is_an_end (Some e) is = (e, refl)

pub no_end : (end : Option End) → is_some end ≡ false → end ≡ None
no_end None is = refl
no_end (Some e) is = absurd cc

pub feeds_last : (old new : Scanner) (piece : List ℕ) (r : Walked × Bool) (left : List ℕ)
    → old.end ≡ None
    → ReadsHeld old.len old.id old.held.items old.fed old.until old.begun piece left r
    → new.id ≡ old.id → new.len ≡ old.len → new.fed ≡ old.fed + length piece
    → new.end ≡ r.0.end → is_some new.end ≡ true → new.held.items ≡ []
    → Feeds old new piece r.0.wholes.items
feeds_last old new piece r left going held id_is len_is fed_is end_is ended none = record {
  same_id = id_is;
  same_len = len_is;
  fed = fed_is;
  scans = λ file given so piece_there.
      let from = old.fed - length old.held.items in
      let window = old.held.items ++ piece in
      let there : drop from file ≡ window ++ drop new.fed file =
      so.held ∙ ap (λ l. old.held.items ++ l) piece_there
      ∙ sym (append_assoc old.held.items piece (drop new.fed file)) in
      let is : IsWindow file old.len window from = record {
        is_file = so.is_file;
        len_is = so.len_is;
        ahead = record { rest = drop new.fed file; there = there };
      } in
      let one = is_an_end new.end ended in
      let e = one.0 in
      let some = one.1 in
      let es = given ++ map entry_of r.0.wholes.items in
      let to = held.reads.reads file given is
      (begins_of file old.id from old.until old.begun old.end old.fed given going so.state) in
      let segment = ended_of file old.id r.0.at r.0.until r.1 r.0.end e (from + length window) es
      (sym end_is ∙ some) to in
      stands_ended file new es e so.is_file (so.len_is ∙ sym len_is) none some
      (subst (λ i. IsSegment file i es e) (sym id_is) segment);
}

-- behind the end no piece gives anything
pub feeds_none : (old new : Scanner) (piece : List ℕ) (e : End) (wholes : List Whole)
    → old.end ≡ Some e → new.id ≡ old.id → new.len ≡ old.len
    → new.fed ≡ old.fed + length piece → new.end ≡ old.end → new.held.items ≡ []
    → wholes ≡ [] → Feeds old new piece wholes
feeds_none old new piece e wholes some id_is len_is fed_is end_is none nothing = record {
  same_id = id_is;
  same_len = len_is;
  fed = fed_is;
  scans = λ file given so piece_there.
      let from = old.fed - length old.held.items in
      let segment = ended_of file old.id from old.until old.begun old.end e old.fed given some
      so.state in
      let same : given ≡ given ++ map entry_of wholes =
      sym (ap (λ (ws : List Whole). given ++ map entry_of ws) nothing ∙ append-nil given) in
      stands_ended file new (given ++ map entry_of wholes) e so.is_file (so.len_is ∙ sym len_is)
      none (end_is ∙ some)
      (subst (λ es. IsSegment file new.id es e) same
      (subst (λ i. IsSegment file i given e) (sym id_is) segment));
}

up_to_state : (file : List ℕ) (id at until : ℕ) (begun : Bool) (end : Option End) (fed : ℕ)
    (given entries : List Entry) (e : End) → IsFile file → id < 2 ^ 64
    → ScannedTo file id at until begun end fed given → IsSegment file id entries e
    → AreUpTo entries given fed
up_to_state file id at until begun (Some end) fed given entries e is_file fits to is =
    let one = one_segment file id entries e given end is_file fits is to in
    record { more = []; are = one.entries_are ∙ sym (append-nil given); behind = tt }
up_to_state file id at until false None fed given entries e is_file fits to is =
    subst (λ g. AreUpTo entries g fed) (sym to.1) (none_yet file id fed entries e to.2 is)
up_to_state file id at until true None fed given entries e is_file fits to is =
    up_to file id at until fed given entries e is_file fits to.0 to.1 is

pub given_so_far : (file : List ℕ) (s : Scanner) (given entries : List Entry) (e : End)
    → s.id < 2 ^ 64 → HasScanned file s given → IsSegment file s.id entries e
    → AreUpTo entries given s.fed
given_so_far file s given entries e fits so is =
    up_to_state file s.id (s.fed - length s.held.items) s.until s.begun s.end s.fed given entries e
    so.is_file fits so.state is

pub first_torn : (len id : ℕ) (cause : Cause) → id < 2 ^ 64
    → HeaderIs len id [] (Some (Err cause)) → FirstIs len id (Some (Torn 0 cause))
first_torn len id cause fits header = λ file is_file len_is.
    segment_without_header file id cause fits (header file (record {
      is_file = is_file;
      len_is = len_is;
      ahead = record { rest = file; there = refl };
    }))

starts_state : (file : List ℕ) (len id : ℕ) (end : Option End) → IsFile file
    → length file ≡ len → FirstIs len id end → ScannedTo file id 0 0 false end 0 []
starts_state file len id (Some end) is_file len_is first = first file is_file len_is
starts_state file len id None is_file len_is first =
    (refl, refl, (λ there. omega arith), omega (arith, first, len_is))

pub starts : (file : List ℕ) (s : Scanner) → IsFile file → length file ≡ s.len → s.fed ≡ 0
    → s.until ≡ 0 → s.begun ≡ false → s.held.items ≡ [] → FirstIs s.len s.id s.end
    → HasScanned file s []
starts file s is_file len_is fed_is until_is begun_is none first =
    let long = ap length none in
    let place : 0 ≡ s.fed - length s.held.items = omega (arith, fed_is) in
    let front : s.fed - length s.held.items ≡ s.fed = omega (arith, long) in
    record {
      is_file = is_file;
      len_is = len_is;
      held = ap (λ n. drop n file) front ∙ ap (λ l. l ++ drop s.fed file) (sym none);
      state = (
          let a = starts_state file s.len s.id s.end is_file len_is first in
          let b = subst (λ f. ScannedTo file s.id 0 0 false s.end f []) (sym fed_is) a in
          let c = subst (λ n. ScannedTo file s.id n 0 false s.end s.fed []) place b in
          let d = subst
          (λ u. ScannedTo file s.id (s.fed - length s.held.items) u false s.end s.fed [])
          (sym until_is) c in
          subst (λ g. ScannedTo file s.id (s.fed - length s.held.items) s.until g s.end s.fed [])
          (sym begun_is) d);
    }
