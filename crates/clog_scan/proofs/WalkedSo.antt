-- How far a window is read: from step to step.
use Rattle.std.proofs.Common.{◌≡◌, ℕ, ◌+◌, ◌-◌, ◌≤◌, List, [], ◌∷◌, ◌++◌, length, take, drop, map}
use Rattle.std.proofs.Common.{Some, None, sym, ◌∙◌, ap, subst, arith, append_assoc}
use Rattle.std.proofs.lemmas.List.{append-nil, length-drop, length-take, map-append}
use Rattle.clog_spec.specs.Sizes.{marker_size, frame_size}
use Rattle.clog_entry.specs.Fields.{entry_front_size}
use Rattle.clog_scan.specs.declared.answer.End.{End}
use Rattle.clog_scan.specs.declared.next.Next.TheVariants as nexts
use Rattle.clog_scan.specs.declared.walking.Walked.{Walked}
use Rattle.clog_scan.specs.declared.whole.Whole.{Whole}
use Rattle.clog_scan.specs.Pieces.{IsStuck, IsWindow, NextIs, entry_of}
use Rattle.clog_scan.specs.Segment.{Entry, entry_from}
use Rattle.clog_scan.specs.Walks.{HasCome, HasWalked, WalksTo}
use Rattle.clog_scan.proofs.Coming.{come_entry, come_section, come_stops}
use Rattle.clog_scan.proofs.WindowLaws.{window_on}

-- a window from one place on is read up to another, and these are given
pub record WalkedSo (len id : ℕ) (window : List ℕ) (from until at until' : ℕ)
    (wholes : List Whole) : Type 0 where
  pub forward : from ≤ at
  pub inside : at ≤ from + length window
  pub order : at ≤ until'
  pub within : until' ≤ len
  pub comes : (file : List ℕ) (given : List Entry) → IsWindow file len window from
      → HasCome file id from until given
      → HasCome file id at until' (given ++ map entry_of wholes)

pub walk_starts : (len id : ℕ) (window : List ℕ) (from until : ℕ) (wholes : List Whole)
    → wholes ≡ [] → from ≤ until → until ≤ len → WalkedSo len id window from until from until wholes
walk_starts len id window from until wholes none order within = record {
  forward = omega arith;
  inside = omega arith;
  order = order;
  within = within;
  comes = λ file given is come. subst (HasCome file id from until)
      (sym (append-nil given) ∙ ap (λ (ws : List Whole). given ++ map entry_of ws) (sym none)) come;
}

rest_window : (file : List ℕ) (len : ℕ) (window rest : List ℕ) (from at : ℕ)
    → rest ≡ drop (at - from) window → IsWindow file len window from → from ≤ at
    → at ≤ from + length window → IsWindow file len rest at
rest_window file len window rest from at is w forward inside =
    subst (λ (r : List ℕ). IsWindow file len r at) (sym is)
    (window_on file len window from at w forward (omega (arith, forward, inside)))

pub walk_section : (len id : ℕ) (window : List ℕ) (from until at until' : ℕ)
    (wholes : List Whole) (rest : List ℕ) (next : ℕ)
    → WalkedSo len id window from until at until' wholes → rest ≡ drop (at - from) window
    → NextIs len id rest at until' (nexts.Section next)
    → WalkedSo len id window from until (at + marker_size) next wholes
walk_section len id window from until at until' wholes rest next so is step =
    let long = ap length is in
    let enough = step.1 in
    let forward = so.forward in
    record {
      forward = omega (arith, forward);
      inside = omega (arith, forward, enough, long, length-drop (at - from) window);
      order = step.2;
      within = step.3;
      comes = λ file given w come. come_section file id at until' next
          (given ++ map entry_of wholes) (so.comes file given w come) step.0
          (step.4 file (rest_window file len window rest from at is w so.forward so.inside));
    }

pub walk_entry : (len id : ℕ) (window : List ℕ) (from until at until' : ℕ)
    (wholes : List Whole) (rest : List ℕ) (size : ℕ) (whole : Whole)
    → WalkedSo len id window from until at until' wholes → rest ≡ drop (at - from) window
    → NextIs len id rest at until' (nexts.Entry size) → whole.start ≡ at
    → whole.end ≡ at + size + frame_size
    → whole.payload.items ≡ take size (drop entry_front_size rest)
    → WalkedSo len id window from until (at + size + frame_size) until' (wholes ++ whole ∷ [])
walk_entry len id window from until at until' wholes rest size whole so is step start_is end_is
    payload_is =
    let long = ap length is in
    let enough = step.1 in
    let most = step.2 in
    let forward = so.forward in
    let payload = take size (drop entry_front_size rest) in
    let sized : length payload ≡ size = omega (
      arith,
      enough,
      length-take size (drop entry_front_size rest),
      length-drop entry_front_size rest,
    ) in
    let ends : at + size + frame_size ≡ at + frame_size + length payload = omega (arith, sized) in
    let entry_is : entry_of whole ≡ entry_from at payload =
    (λ i. record { start = start_is i; end = (end_is ∙ ends) i; payload = payload_is i }) in
    record {
      forward = omega (arith, forward);
      inside = omega (arith, forward, enough, long, length-drop (at - from) window);
      order = omega (arith, most);
      within = so.within;
      comes = λ file given w come.
          let held = step.3 file
          (rest_window file len window rest from at is w so.forward so.inside) in
          let es = given ++ map entry_of wholes in
          let all : es ++ entry_from at payload ∷ []
          ≡ given ++ map entry_of (wholes ++ whole ∷ []) =
          ap (λ e. es ++ e ∷ []) (sym entry_is)
          ∙ append_assoc given (map entry_of wholes) (entry_of whole ∷ [])
          ∙ ap (λ l. given ++ l) (sym (map-append entry_of wholes (whole ∷ []))) in
          subst (HasCome file id (at + size + frame_size) until') all
          (come_entry file id at until' (at + size + frame_size) payload es
          (so.comes file given w come) step.0 held ends);
    }

pub walk_ends : (len id : ℕ) (window : List ℕ) (from until : ℕ) (w : Walked) (rest : List ℕ)
    (end : End) → WalkedSo len id window from until w.at w.until w.wholes.items
    → rest ≡ drop (w.at - from) window → NextIs len id rest w.at w.until (nexts.End end)
    → w.end ≡ Some end → HasWalked len id window from until w
walk_ends len id window from until w rest end so is step end_is = record {
  forward = so.forward;
  inside = so.inside;
  order = so.order;
  within = so.within;
  walks = λ file given there come.
      let es = given ++ map entry_of w.wholes.items in
      subst (λ e. WalksTo file id w.at w.until e (from + length window) es) (sym end_is)
      (come_stops file id w.at w.until es end there.is_file (so.comes file given there come)
      (step file (rest_window file len window rest from w.at is there so.forward so.inside)));
}

pub walk_waits : (len id : ℕ) (window : List ℕ) (from until : ℕ) (w : Walked) (rest : List ℕ)
    → WalkedSo len id window from until w.at w.until w.wholes.items
    → rest ≡ drop (w.at - from) window → NextIs len id rest w.at w.until nexts.Wait
    → w.end ≡ None → HasWalked len id window from until w
walk_waits len id window from until w rest so is step end_is =
    let forward = so.forward in
    let inside = so.inside in
    let long = ap length is in
    let fed : w.at + length rest ≡ from + length window =
    omega (arith, forward, inside, long, length-drop (w.at - from) window) in
    let more = step.0 in
    record {
      forward = so.forward;
      inside = so.inside;
      order = so.order;
      within = so.within;
      walks = λ file given there come.
          let es = given ++ map entry_of w.wholes.items in
          let stuck = subst (IsStuck file w.at w.until) fed (step.1 file
          (rest_window file len window rest from w.at is there so.forward so.inside)) in
          subst (λ e. WalksTo file id w.at w.until e (from + length window) es) (sym end_is)
          (so.comes file given there come, stuck, omega (arith, more, fed, there.len_is));
    }
