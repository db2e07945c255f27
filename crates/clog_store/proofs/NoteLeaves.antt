-- What the steps of a log of notes leave of the other files.
use Rattle.std.proofs.Common.{
  ◌≡◌,
  ℕ,
  ◌<◌,
  ◌≤◌,
  ◌^◌,
  inl,
  inr,
  List,
  [],
  ◌∷◌,
  ◌++◌,
  Option,
  Some,
  None,
  false,
  true≢false,
  refl,
  sym,
  ◌∙◌,
  ap,
  subst,
  arith,
  append-nil,
  append_assoc,
  length,
  length-append,
}
use Rattle.std.specs.Prelude.{Result, Ok, Err, OnOk, OnErr, unwrap_or}
use Rattle.std.proofs.lemmas.List.Elements.{
  Contains-append_cases,
  Contains-append_left,
  Contains-append_right,
  Contains-push_cases,
}
use Rattle.std.specs.FinMap as finmap
use Rattle.std.specs.List.{Contains}
use Rattle.clog_spec.specs.Names.{segment_name_of}
use Rattle.clog_base.proofs.Members.{here, nothing_there, only_one}
use Rattle.clog_disk.specs.Files.{Files, SameTold, Told, bytes_at}
use Rattle.clog_disk.specs.declared.change.Change.{Change}
use Rattle.clog_disk.proofs.Telling.{same_told_then}
use Rattle.clog_scan.specs.Cut.{Section}
use Rattle.clog_crash.specs.Log.{Write}
use Rattle.clog_crash.specs.Sections.{segment_bytes}
use Rattle.clog_crash.proofs.changes.Names.{one_id}
use Rattle.clog_segments.specs.declared.written.StoreFault.{StoreFault}
use Rattle.clog_segments.specs.declared.written.StoreFault.TheVariants.{Stopped, OutOfMemory}
use Rattle.clog_segments.specs.Beside.{StayButOne}
use Rattle.clog_segments.specs.Grows.{Writes}
use Rattle.clog_segments.specs.Life.{ReadsAs, State, past_with}
use Rattle.clog_segments.specs.NoteLog.{HasWritten, IsNotOf}
use Rattle.clog_store.specs.NoteSteps.{Leaves}
use Rattle.clog_segments.specs.Stepped.{AddsBytes, Keeps, Settles}
use Rattle.clog_store.proofs.NoteGrows.{
  grows_of,
  grows_rolled,
  grows_same,
  writes_kept,
  writes_of,
  writes_then,
}
use Rattle.clog_segments.proofs.Lived.{at_told, same_told, told_before}

told_weaker : (o : Option Files) (P Q : Files → Type 0) → Told o P → ((f : Files) → P f → Q f)
    → Told o Q
told_weaker None P Q p h = p
told_weaker (Some f) P Q p h = h f p

told_is : (o : Option Files) (P : Files → Type 0) → Told o P → (f : Files) × (o ≡ Some f) × P f
told_is None P p = absurd p
told_is (Some f) P p = (f, refl, p)

-- a further segment at the end of those that were written before
written_more : (m1 m2 : List Write) (v : Write) (w : Write) → Contains (m2 ++ v ∷ []) w
    → Contains ((m1 ++ m2) ++ v ∷ []) w
written_more m1 m2 v w among =
    subst (λ (l : List Write). Contains l w) (sym (append_assoc m1 m2 (v ∷ [])))
    (Contains-append_right m1 (m2 ++ v ∷ []) w among)

written_first : (m1 m2 : List Write) (v : Write) (w : Write) → Contains m1 w
    → Contains ((m1 ++ m2) ++ v ∷ []) w
written_first m1 m2 v w among =
    Contains-append_left (m1 ++ m2) (v ∷ []) w (Contains-append_left m1 m2 w among)

-- what a log leaves that goes on in a further segment: the one at hand, where it has a section
abbrev pub left_behind : List Write → ℕ → List Section → List Write
left_behind past id [] = []
left_behind past id (s ∷ ss) = record { id = id; sections = s ∷ ss } ∷ []

pub behind_are : (past : List Write) (id : ℕ) (ss : List Section)
    → past_with past id ss ≡ past ++ left_behind past id ss
behind_are past id [] = sym (append-nil past)
behind_are past id (s ∷ ss) = refl

pub behind_one : (past : List Write) (id : ℕ) (ss : List Section) (P : Write → Type 0)
    → P (record { id = id; sections = ss }) → (w : Write) → Contains (left_behind past id ss) w
    → P w
behind_one past id [] P one w among = absurd (nothing_there w among)
behind_one past id (s ∷ ss) P one w among =
    subst P (only_one (record { id = id; sections = s ∷ ss }) w among) one

-- and the one in which it goes on
pub behind_or_on : (past : List Write) (id : ℕ) (ss : List Section) (v : Write) (P : Write → Type 0)
    → P (record { id = id; sections = ss }) → P v → (w : Write)
    → Contains (left_behind past id ss ++ v ∷ []) w → P w
behind_or_on past id ss v P one on w among =
    elim (Contains-push_cases (left_behind past id ss) v w among) [
      | inl h ↦ behind_one past id ss P one w h
      | inr same ↦ subst P same on
    ]

pub behind_grown : (past : List Write) (id : ℕ) (ss : List Section) (v : Write) → 0 < length ss
    → HasWritten id (left_behind past id ss ++ v ∷ [])
behind_grown past id [] v some = absurd (omega (arith, some))
behind_grown past id (s ∷ ss) v some = record {
  segment = record { id = id; sections = s ∷ ss };
  among = here (record { id = id; sections = s ∷ ss }) (v ∷ []);
  id_is = refl;
  some = some;
}

module _ {D : Type 0} (files : D → Option Files) (changes : D → Option (List Change)) where
  abbrev Leaving : State D → State D → Type 0
  Leaving a b = Leaves files changes a b

  abbrev hand : State D → Write
  hand s = record { id = s.id; sections = s.sections }

  -- nothing else has changed
  others_same : (a b : State D) (segments : List Write) → files b.disk ≡ files a.disk
      → (f : Files) → files a.disk ≡ Some f → Told (files b.disk) (λ g. (name : List ℕ)
      → IsNotOf segments name → finmap.get g name ≡ finmap.get f name)
  others_same a b segments same f is =
      subst (λ (o : Option Files). Told o (λ g. (name : List ℕ) → IsNotOf segments name
      → finmap.get g name ≡ finmap.get f name)) (sym (same ∙ is)) (λ name apart. refl)

  -- the files are the same, and the segment at hand
  pub leaves_same : (a b : State D) → files b.disk ≡ files a.disk
      → changes b.disk ≡ changes a.disk → b.past ≡ a.past → b.id ≡ a.id
      → b.sections ≡ a.sections → Leaving a b
  leaves_same a b same quiet past id sections = record {
    told = same_told (files a.disk) (files b.disk) same;
    forward = omega (arith, id);
    rest = record {
      more = [];
      past = past ∙ sym (append-nil a.past);
      later = λ w among. subst (λ (x : Write). a.id ≤ x.id) (only_one (hand b) w among)
          (omega (arith, id));
      grown = λ some. record {
        segment = hand b;
        among = here (hand b) [];
        id_is = id;
        some = subst (λ (l : List Section). 0 < length l) (sym sections) some;
      };
      others = others_same a b (hand b ∷ []) same;
      left = λ f is w among. absurd (nothing_there w among);
    };
    below = λ w among. absurd (nothing_there w among);
    brings = writes_of changes a b (grows_same changes a b quiet past id sections);
  }

  -- nothing has changed
  pub leaves_still : (s : State D) → Leaving s s
  leaves_still s = leaves_same s s refl refl refl refl refl

  -- bytes come behind those of the segment at hand, or perhaps a part of them
  leaves_more : (a b : State D) → SameTold (files a.disk) (files b.disk)
      → StayButOne (segment_name_of 6 a.id) (files a.disk) (files b.disk) → a.id < 2 ^ 63
      → b.past ≡ a.past → b.id ≡ a.id → 0 < length b.sections → Writes changes a b → Leaving a b
  leaves_more a b told beside fits past id some brings = record {
    told = told;
    forward = omega (arith, id);
    rest = record {
      more = [];
      past = past ∙ sym (append-nil a.past);
      later = λ w among. subst (λ (x : Write). a.id ≤ x.id) (only_one (hand b) w among)
          (omega (arith, id));
      grown = λ before. record {
        segment = hand b;
        among = here (hand b) [];
        id_is = id;
        some = some;
      };
      others = λ f is.
          told_weaker (files b.disk) _ _ (beside f is) (λ g same name apart. same name (λ own.
          apart (hand b) (here (hand b) []) some (omega (arith, id, fits))
          (own ∙ ap (segment_name_of 6) (sym id))));
      left = λ f is w among. absurd (nothing_there w among);
    };
    below = λ w among. absurd (nothing_there w among);
    brings = brings;
  }

  -- the log goes on in a further segment
  pub leaves_rolled : (a b : State D) → b.disk ≡ a.disk
      → b.past ≡ past_with a.past a.id a.sections → a.id < b.id
      → ReadsAs (files a.disk) (segment_name_of 6 a.id) (segment_bytes a.id a.sections)
      → b.sections ≡ [] → b.id < 2 ^ 63 → ((w : Write) → Contains a.past w → w.id < a.id)
      → Leaving a b
  leaves_rolled a b disk past above reads none fits low =
      let same : files b.disk ≡ files a.disk = ap files disk in
      record {
        told = same_told (files a.disk) (files b.disk) same;
        forward = omega (arith, above);
        rest = record {
          more = left_behind a.past a.id a.sections;
          past = past ∙ behind_are a.past a.id a.sections;
          later = behind_or_on a.past a.id a.sections (hand b) (λ (x : Write). a.id ≤ x.id)
              (omega arith) (omega (arith, above));
          grown = behind_grown a.past a.id a.sections (hand b);
          others = others_same a b (left_behind a.past a.id a.sections ++ hand b ∷ []) same;
          left = λ f is. behind_one a.past a.id a.sections
              (λ (x : Write). bytes_at f (segment_name_of 6 x.id) ≡ segment_bytes x.id x.sections)
              (subst (λ (o : Option Files). ReadsAs o (segment_name_of 6 a.id)
              (segment_bytes a.id a.sections)) (sym same ∙ is) reads);
        };
        below = behind_one a.past a.id a.sections (λ (x : Write). x.id < b.id) above;
        brings = writes_of changes a b
            (grows_rolled changes a b (ap changes disk) past none above fits low);
      }

  -- one step after another, where the disk has not failed between
  module _ (a b c : State D) (runs : b.is_stopped ≡ false) (first : Leaving a b)
      (next : Leaving b c) where
    abbrev m1 : List Write
    m1 = first.rest.more

    abbrev m2 : List Write
    m2 = next.rest.more

    later_both : (w : Write) → Contains ((m1 ++ m2) ++ hand c ∷ []) w → a.id ≤ w.id
    later_both w among =
        let parts = subst (λ (l : List Write). Contains l w) (append_assoc m1 m2 (hand c ∷ []))
        among in
        elim (Contains-append_cases m1 (m2 ++ hand c ∷ []) w parts) [
          | inl h ↦ first.rest.later w (Contains-append_left m1 (hand b ∷ []) w h)
          | inr h ↦ omega (arith, first.forward, next.rest.later w h)
        ]

    -- the segment that was at hand between has its sections still
    grown_next : 0 < length b.sections → HasWritten b.id ((m1 ++ m2) ++ hand c ∷ [])
    grown_next some =
        let has = next.rest.grown some in
        record {
          segment = has.segment;
          among = written_more m1 m2 (hand c) has.segment has.among;
          id_is = has.id_is;
          some = has.some;
        }

    grown_both : 0 < length a.sections → HasWritten a.id ((m1 ++ m2) ++ hand c ∷ [])
    grown_both some =
        let has = first.rest.grown some in
        elim (Contains-push_cases m1 (hand b) has.segment has.among) [
          | inl h ↦ record {
            segment = has.segment;
            among = written_first m1 m2 (hand c) has.segment h;
            id_is = has.id_is;
            some = has.some;
          }
          | inr same ↦
              let last = grown_next (subst (λ (x : Write). 0 < length x.sections) (sym same)
              has.some) in
              record {
                segment = last.segment;
                among = last.among;
                id_is = last.id_is ∙ ap (λ (x : Write). x.id) same ∙ has.id_is;
                some = last.some;
              }
        ]

    apart_first : (name : List ℕ) → IsNotOf ((m1 ++ m2) ++ hand c ∷ []) name
        → IsNotOf (m1 ++ hand b ∷ []) name
    apart_first name apart w among some fits same =
        elim (Contains-push_cases m1 (hand b) w among) [
          | inl h ↦ apart w (written_first m1 m2 (hand c) w h) some fits same
          | inr is ↦
              let last = grown_next (subst (λ (x : Write). 0 < length x.sections) (sym is) some) in
              let ids : last.segment.id ≡ w.id = last.id_is ∙ ap (λ (x : Write). x.id) is in
              apart last.segment last.among last.some (omega (arith, ids, fits))
              (same ∙ ap (segment_name_of 6) (sym ids))
        ]

    others_both : (f : Files) → files a.disk ≡ Some f → Told (files c.disk) (λ g.
        (name : List ℕ) → IsNotOf ((m1 ++ m2) ++ hand c ∷ []) name
        → finmap.get g name ≡ finmap.get f name)
    others_both f is =
        let mid = told_is (files b.disk) _ (first.rest.others f is) in
        told_weaker (files c.disk) _ _ (next.rest.others mid.0 mid.1) (λ h same name apart.
        same name (λ w among some fits is.
        apart w (written_more m1 m2 (hand c) w among) some fits is)
        ∙ mid.2 name (apart_first name apart))

    left_both : (f : Files) → files c.disk ≡ Some f → (w : Write) → Contains (m1 ++ m2) w
        → bytes_at f (segment_name_of 6 w.id) ≡ segment_bytes w.id w.sections
    left_both f is w among = elim (Contains-append_cases m1 m2 w among) [
      | inl h ↦
          let mid = told_before (files b.disk) (files c.disk) f next.told is in
          ap (λ (o : Option (List ℕ)). unwrap_or o [])
          (at_told (files c.disk) f _ is (next.rest.others mid.0 mid.1)
          (segment_name_of 6 w.id)
          (λ v there some fits same.
          let low = first.below w h in
          let le = next.rest.later v there in
          let one = one_id v.id w.id fits (omega (arith, low, le, fits)) same in
          absurd (omega (arith, one, low, le))))
          ∙ first.rest.left mid.0 mid.1 w h
      | inr h ↦ next.rest.left f is w h
    ]

    pub leaves_then : Leaving a c
    leaves_then = record {
      told = same_told_then (files a.disk) (files b.disk) (files c.disk) first.told next.told;
      forward = omega (arith, first.forward, next.forward);
      rest = record {
        more = m1 ++ m2;
        past = next.rest.past ∙ ap (λ (l : List Write). l ++ m2) first.rest.past
            ∙ append_assoc a.past m1 m2;
        later = later_both;
        grown = grown_both;
        others = others_both;
        left = left_both;
      };
      below = λ w among. elim (Contains-append_cases m1 m2 w among) [
        | inl h ↦ omega (arith, first.below w h, next.forward)
        | inr h ↦ next.below w h
      ];
      brings = writes_then changes a b c (grows_of changes a b first.brings runs) next.brings;
    }

  -- ---- the calls

  some_more : (a b : State D) (section : Section) → b.sections ≡ a.sections ++ section ∷ []
      → 0 < length b.sections
  some_more a b section are =
      subst (λ (l : List Section). 0 < length l) (sym are)
      (omega (arith, length-append a.sections (section ∷ [])))

  pub leaves_kept : {T : Type 0} (a b : State D) (section : Section) (bytes : List ℕ)
      (result : Result T StoreFault) → Keeps a b section result
      → AddsBytes (files a.disk) (files b.disk) (changes a.disk) (changes b.disk)
      (segment_name_of 6 a.id) bytes result
      → StayButOne (segment_name_of 6 a.id) (files a.disk) (files b.disk)
      → a.is_stopped ≡ false → a.id < 2 ^ 63
      → ((w : Write) → Contains a.past w → w.id < a.id) → a.synced ≤ length a.sections
      → segment_bytes a.id a.sections ++ bytes ≡ segment_bytes a.id (a.sections ++ section ∷ [])
      → 0 < length section.payloads → Leaving a b
  leaves_kept a b section bytes (Ok done) keeps adds beside runs fits low few spelled filled
      =
      leaves_more a b adds.still_told beside fits (ap (λ (s : State D). s.past) keeps)
      (ap (λ (s : State D). s.id) keeps)
      (some_more a b section (ap (λ (s : State D). s.sections) keeps))
      (writes_kept changes a b section bytes (Ok done) keeps adds.adds runs fits low few spelled
      filled)
  leaves_kept a b section bytes (Err OutOfMemory) keeps adds beside runs fits low few spelled filled
      =
      leaves_same a b (adds.same refl) adds.adds (ap (λ (s : State D). s.past) keeps)
      (ap (λ (s : State D). s.id) keeps) (ap (λ (s : State D). s.sections) keeps)
  leaves_kept {T} a b section bytes (Err Stopped) keeps adds beside runs fits low few spelled filled
      =
      elim keeps [
        | inl was ↦ absurd (true≢false (sym was.0 ∙ runs))
        | inr torn ↦
            leaves_more a b adds.still_told beside fits (ap (λ (s : State D). s.past) torn)
            (ap (λ (s : State D). s.id) torn)
            (some_more a b section (ap (λ (s : State D). s.sections) torn))
            (writes_kept changes {T = T} a b section bytes (Err Stopped) (inr torn) adds.adds runs
            fits low few spelled filled)
      ]

  pub leaves_settled : {T : Type 0} (a b : State D) (result : Result T StoreFault)
      → Settles a b result → files b.disk ≡ files a.disk → changes b.disk ≡ changes a.disk
      → Leaving a b
  leaves_settled a b (Ok done) settles same quiet =
      leaves_same a b same quiet (ap (λ (s : State D). s.past) settles)
      (ap (λ (s : State D). s.id) settles) (ap (λ (s : State D). s.sections) settles)
  leaves_settled a b (Err OutOfMemory) settles same quiet =
      leaves_same a b same quiet (ap (λ (s : State D). s.past) settles)
      (ap (λ (s : State D). s.id) settles) (ap (λ (s : State D). s.sections) settles)
  leaves_settled a b (Err Stopped) settles same quiet =
      leaves_same a b same quiet (ap (λ (s : State D). s.past) settles)
      (ap (λ (s : State D). s.id) settles) (ap (λ (s : State D). s.sections) settles)

  -- a further segment is entered: all sections of this one last, and then the log goes on
  pub leaves_entered : {T : Type 0} (a mid b rolled : State D) (result : Result T StoreFault)
      → mid.is_stopped ≡ false → files mid.disk ≡ files a.disk
      → changes mid.disk ≡ changes a.disk → mid.past ≡ a.past → mid.id ≡ a.id
      → mid.sections ≡ a.sections
      → ReadsAs (files a.disk) (segment_name_of 6 a.id) (segment_bytes a.id a.sections)
      → rolled.disk ≡ mid.disk
      → rolled.past ≡ past_with mid.past mid.id mid.sections
      → mid.id < rolled.id → rolled.sections ≡ [] → rolled.id < 2 ^ 63
      → ((w : Write) → Contains a.past w → w.id < a.id) → OnOk result (b ≡ rolled)
      → OnErr result (b ≡ mid) → Leaving a b
  leaves_entered a mid b rolled result runs same quiet past id sections reads disk rolls above none
      fits low ok err =
      leaves_then a mid b runs (leaves_same a mid same quiet past id sections) (by result ok err)
    where
      there : ReadsAs (files mid.disk) (segment_name_of 6 mid.id)
          (segment_bytes mid.id mid.sections)
      there =
          subst (λ (o : Option Files). ReadsAs o (segment_name_of 6 mid.id)
          (segment_bytes mid.id mid.sections)) (sym same)
          (subst (λ (k : ℕ). ReadsAs (files a.disk) (segment_name_of 6 k)
          (segment_bytes k mid.sections)) (sym id)
          (subst (λ (l : List Section). ReadsAs (files a.disk) (segment_name_of 6 a.id)
          (segment_bytes a.id l)) (sym sections) reads))

      by : {U : Type 0} (r : Result U StoreFault) → OnOk r (b ≡ rolled) → OnErr r (b ≡ mid)
          → Leaving mid b
      by (Ok done) ok err =
          subst (Leaving mid) (sym ok)
          (leaves_rolled mid rolled disk rolls above there none fits
          (λ w among. subst (λ (k : ℕ). w.id < k) (sym id)
          (low w (subst (λ (l : List Write). Contains l w) past among))))
      by (Err fault) ok err =
          leaves_same mid b (ap (λ (s : State D). files s.disk) err)
          (ap (λ (s : State D). changes s.disk) err) (ap (λ (s : State D). s.past) err)
          (ap (λ (s : State D). s.id) err) (ap (λ (s : State D). s.sections) err)
