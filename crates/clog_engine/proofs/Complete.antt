-- Why a good run ends well: each row of a refusal contradicts what is good.
use Rattle.std.proofs.Common.{◌≡◌, ℕ, List, length, Option, Some, None, Result, Ok as ok}
use Rattle.std.proofs.Common.{Err as err, inl, inr, refl, sym, ap, subst, ◌∙◌, arith, Global}
use Rattle.std.specs.Prelude.{false, String, IfSome}
use Rattle.std.specs.FinMap as finmap
use Rattle.clog_spec.specs.Names.{segment_name_of}
use Rattle.clog_base.specs.declared.fault.Quantity.TheVariants.{FileBytes, Lines, SegmentBytes, Ids}
use Rattle.clog_base.specs.declared.fault.Quantity.TheVariants.{TableFiles}
use Rattle.clog_disk.specs.Files.{Files, Told}
use Rattle.clog_engine.specs.declared.status.Status.{Status}
use Rattle.clog_engine.specs.declared.status.Status.TheVariants.{Ok, Usage, BadLine, TooLarge}
use Rattle.clog_engine.specs.declared.status.Status.TheVariants.{ReadFault, WriteFault, DiskFault}
use Rattle.clog_engine.specs.declared.status.Status.TheVariants.{Damaged, BadTable, OutOfMemory}
use Rattle.clog_engine.specs.declared.status.Status.TheVariants.{Limit, Absent}
use Rattle.clog_mutation.specs.declared.mutation.Mutation.{Mutation}
use Rattle.clog_text.specs.Made.{made_lines}
use Rattle.clog_words.specs.declared.built.Built.{Built}
use Rattle.clog_words.specs.declared.built.Built.TheVariants.{Apply, Replay, Scan, Drill, Orders}
use Rattle.clog_words.specs.declared.request.ApplyOptions.{ApplyOptions}
use Rattle.clog_words.specs.declared.request.ReplayOptions.{ReplayOptions}
use Rattle.clog_words.specs.Given.{texts}
use Rattle.clog_applied.specs.Asked.{capacity_of}
use Rattle.clog_engine.specs.Apply.{ApplyRefuses}
use Rattle.clog_engine.specs.Answering.{Answers, Does, DoesAsked, Prints, Reports}
use Rattle.clog_engine.specs.Completes.{Tells, IsOpenable, IsScannable, IsReplayable, IsFit}
use Rattle.clog_engine.specs.Completes.{IsQuiet, EndsWell, Completes}
use Rattle.clog_engine.specs.Input.{IsGood}
use Rattle.clog_engine.specs.Outside.{Outside, Sinks}
use Rattle.clog_engine.specs.Request.{Asks}
use Rattle.clog_entry.specs.declared.cause.Cause.{Cause}
use Rattle.clog_table.specs.declared.fault.TableFault.{TableFault}
use Rattle.clog_crash.specs.Folder.{IsFirstBad}
use Rattle.clog_crash.proofs.damage.BadTables.{good_has_none}
use Rattle.clog_crash.proofs.damage.First.{undamaged_has_none}
use Rattle.clog_folder.specs.Folder.{HasDamage, HasLongSegment}
use Rattle.clog_folder.specs.Segments.{IsTooLong}
use Rattle.clog_engine.specs.Drill.{DrillRefuses, IsRefusedFor}
use Rattle.clog_engine.specs.Replaying.{ReplayRefused}
use Rattle.clog_engine.specs.Scanning.{ReadRefused}
use Rattle.clog_engine.proofs.Readable.{no_bad_table, no_damage, no_long_segment}
use Rattle.clog_engine.proofs.WordsAsked.{one_asked}
use Rattle.clog_engine.proofs.GoodInput.{taken_good, good_is_no_bad_line, good_is_not_large}
use Rattle.clog_engine.proofs.GoodInput.{good_has_few_lines, good_is_short}

-- ---- a folder that can be opened is not refused

-- what is told of a folder contradicts that it can be opened
told_openable : (files : Option Files) (P : Files → Type 0) → Told files IsOpenable
    → IfSome files P → ((held : Files) → IsOpenable held → P held → ⊥) → ⊥
told_openable None P fit other clash = fit
told_openable (Some files) P fit other clash = clash files fit other

-- a good mutation file and a folder that can be opened are not refused
apply_completes : (options : ApplyOptions) (status : Status) (o : Outside) (s : Sinks)
    → Tells o.left (IsGood (capacity_of options)) → Told o.files IsOpenable → IsQuiet o s
    → ApplyRefuses options status o → EndsWell status
apply_completes options Ok o s good fit quiet refused = absurd refused
apply_completes options Usage o s good fit quiet refused = absurd refused
apply_completes options (BadLine number cause) o s good fit quiet refused =
    let capacity = capacity_of options in
    absurd (taken_good capacity o _ good refused.0 (good_is_no_bad_line capacity number cause))
apply_completes options (TooLarge number size most) o s good fit quiet refused =
    let capacity = capacity_of options in
    absurd (taken_good capacity o _ good refused.0 (good_is_not_large capacity number size most))
apply_completes options ReadFault o s good fit quiet refused = absurd (quiet.source refused.0)
apply_completes options WriteFault o s good fit quiet refused = absurd refused
apply_completes options DiskFault o s good fit quiet refused = absurd (quiet.disk refused.1)
apply_completes options (Damaged name at cause) o s good fit quiet refused =
    absurd (told_openable o.files _ fit refused.1 (λ files can damage.
    undamaged_has_none files name at cause can.segments (can.within.readable.undamaged refl)
    damage.first.damage))
apply_completes options (BadTable name fault) o s good fit quiet refused =
    absurd (told_openable o.files _ fit refused.1 (λ files can bad.
    good_has_none files name fault can.within.readable.tables bad))
apply_completes options OutOfMemory o s good fit quiet refused = tt
apply_completes options (Limit FileBytes most) o s good fit quiet refused =
    absurd (good_is_short (capacity_of options) o.left good refused.1)
apply_completes options (Limit Lines most) o s good fit quiet refused =
    let capacity = capacity_of options in
    absurd (taken_good capacity o _ good refused.1 (good_has_few_lines capacity))
apply_completes options (Limit SegmentBytes most) o s good fit quiet refused =
    absurd (told_openable o.files _ fit refused.2 (λ files can long.
    can.within.readable.short long.first.name long.first.id long.first.named long.first.long))
apply_completes options (Limit Ids most) o s good fit quiet refused =
    absurd (told_openable o.files _ fit refused.2 (λ files can great.
    let low = can.within.low great.id great.named in omega (arith, low, great.great)))
apply_completes options (Limit TableFiles most) o s good fit quiet refused =
    absurd (told_openable o.files _ fit refused.2 (λ files can many.
    can.within.few many.late))
apply_completes options (Absent name) o s good fit quiet refused = absurd refused

-- ---- a file that is there is not refused

there_is_there : (files : Option Files) (name : List ℕ)
    → Told files (λ held. IsScannable held name)
    → IfSome files (λ held. finmap.get held name ≡ None) → ⊥
there_is_there None name there absent = there
there_is_there (Some files) name there absent =
    let same : Some there.bytes ≡ None = sym there.there ∙ absent in cc

short_is_short : (files : Option Files) (name : List ℕ)
    → Told files (λ held. IsScannable held name)
    → IfSome files (λ held. IsTooLong held name) → ⊥
short_is_short None name there long = there
short_is_short (Some files) name there long =
    let same : Some there.bytes ≡ Some long.bytes = sym there.there ∙ long.there in
    let bytes : there.bytes ≡ long.bytes = cc in
    omega (arith, ap length bytes, there.few, long.long)

-- a file that is there, and not too long, is not refused
scan_completes : (id : ℕ) (status : Status) (o : Outside) (s : Sinks) (name : List ℕ)
    → Told o.files (λ files. IsScannable files name) → IsQuiet o s
    → ReadRefused o.files o.disk_faults o.disk_faults_now name status
    → EndsWell status
scan_completes id Ok o s name there quiet refused = absurd refused
scan_completes id Usage o s name there quiet refused = absurd refused
scan_completes id (BadLine number cause) o s name there quiet refused = absurd refused
scan_completes id (TooLarge number size most) o s name there quiet refused = absurd refused
scan_completes id ReadFault o s name there quiet refused = absurd refused
scan_completes id WriteFault o s name there quiet refused = absurd refused
scan_completes id DiskFault o s name there quiet refused = absurd (quiet.disk refused)
scan_completes id (Damaged other at cause) o s name there quiet refused = absurd refused
scan_completes id (BadTable other fault) o s name there quiet refused = absurd refused
scan_completes id OutOfMemory o s name there quiet refused = tt
scan_completes id (Limit FileBytes most) o s name there quiet refused = absurd refused
scan_completes id (Limit Lines most) o s name there quiet refused = absurd refused
scan_completes id (Limit SegmentBytes most) o s name there quiet refused =
    absurd (short_is_short o.files name there refused.1)
scan_completes id (Limit Ids most) o s name there quiet refused = absurd refused
scan_completes id (Limit TableFiles most) o s name there quiet refused = absurd refused
scan_completes id (Absent other) o s name there quiet refused =
    absurd (there_is_there o.files name there refused.1)

-- ---- a folder that can be read is not refused

replay_completes : (options : ReplayOptions) (status : Status) (o : Outside) (s : Sinks)
    → Told o.files (IsReplayable options.ignore_errors) → IsQuiet o s
    → ReplayRefused options.ignore_errors o.files o.disk_faults o.disk_faults_now status
    → EndsWell status
replay_completes options Ok o s fit quiet refused = absurd refused
replay_completes options Usage o s fit quiet refused = absurd refused
replay_completes options (BadLine number cause) o s fit quiet refused = absurd refused
replay_completes options (TooLarge number size most) o s fit quiet refused = absurd refused
replay_completes options ReadFault o s fit quiet refused = absurd refused
replay_completes options WriteFault o s fit quiet refused = absurd refused
replay_completes options DiskFault o s fit quiet refused = absurd (quiet.disk refused)
replay_completes options (Damaged name at cause) o s fit quiet refused =
    absurd (no_damage options.ignore_errors o.files name at cause fit refused.0 refused.1)
replay_completes options (BadTable name fault) o s fit quiet refused =
    absurd (no_bad_table options.ignore_errors o.files name fault fit refused)
replay_completes options OutOfMemory o s fit quiet refused = tt
replay_completes options (Limit FileBytes most) o s fit quiet refused = absurd refused
replay_completes options (Limit Lines most) o s fit quiet refused = absurd refused
replay_completes options (Limit SegmentBytes most) o s fit quiet refused =
    absurd (no_long_segment options.ignore_errors o.files fit refused.1)
replay_completes options (Limit Ids most) o s fit quiet refused = absurd refused
replay_completes options (Limit TableFiles most) o s fit quiet refused = absurd refused
replay_completes options (Absent name) o s fit quiet refused = absurd refused

-- ---- nor is one that is drilled

module _ (lines : List Mutation) (o : Outside) (s : Sinks) (opens : Told o.files IsOpenable)
    (quiet : IsQuiet o s) where
  -- a disk that tells a folder that can be opened is not refused
  not_refused : (P : Files → Type 0) → ((held : Files) → IsOpenable held → P held → ⊥)
      → IsRefusedFor o lines P → ⊥
  not_refused P clash (inl now) = told_openable o.files P opens now.0 clash
  not_refused P clash (inr behind) =
      subst (λ (files : Option Files). Told files IsOpenable) behind.0 opens

  not_damaged : (name : List ℕ) (at : ℕ) (cause : Cause)
      → IsRefusedFor o lines (λ files. HasDamage files name at cause) → ⊥
  not_damaged name at cause = not_refused _ (λ files can is.
      undamaged_has_none files name at cause can.segments (can.within.readable.undamaged refl)
      is.first.damage)

  not_long : IsRefusedFor o lines (HasLongSegment false) → ⊥
  not_long = not_refused _ (λ files can is.
      can.within.readable.short is.first.name is.first.id is.first.named is.first.long)

  no_bad : (name : List ℕ) (fault : TableFault)
      → IsRefusedFor o lines (λ files. IsFirstBad files name fault) → ⊥
  no_bad name fault = not_refused _ (λ files can is.
      good_has_none files name fault can.within.readable.tables is)

  drill_completes : (seed count : ℕ) (status : Status) → DrillRefuses lines status o
      → EndsWell status
  drill_completes seed count Ok refused = absurd refused
  drill_completes seed count Usage refused = absurd refused
  drill_completes seed count (BadLine number cause) refused = absurd refused
  drill_completes seed count (TooLarge number size most) refused = absurd refused
  drill_completes seed count ReadFault refused = absurd refused
  drill_completes seed count WriteFault refused = absurd refused
  drill_completes seed count DiskFault refused = absurd (quiet.disk refused.0)
  drill_completes seed count (Damaged name at cause) refused = absurd (not_damaged name at cause
      refused)
  drill_completes seed count (BadTable name fault) refused = absurd (no_bad name fault refused)
  drill_completes seed count OutOfMemory refused = tt
  drill_completes seed count (Limit FileBytes most) refused = absurd refused
  drill_completes seed count (Limit Lines most) refused = absurd refused
  drill_completes seed count (Limit SegmentBytes most) refused = absurd (not_long refused.1)
  drill_completes seed count (Limit Ids most) refused =
      absurd (told_openable o.files _ opens refused.1 (λ files can great.
      let low = can.within.low great.id great.named in omega (arith, low, great.great)))
  drill_completes seed count (Limit TableFiles most) refused =
      absurd (told_openable o.files _ opens refused.1 (λ files can many. can.within.few many.late))
  drill_completes seed count (Absent name) refused = absurd refused

does_complete : (request : Built) (o : Outside) (s : Sinks) (status : Status) → IsFit request o
    → IsQuiet o s → Does (Some request) o (err status) → EndsWell status
does_complete (Apply options) o s status fit quiet done =
    apply_completes options status o s fit.0 fit.1 quiet done
does_complete (Replay options) o s status fit quiet done =
    replay_completes options status o s fit quiet done.0
does_complete (Scan id) o s status fit quiet done =
    scan_completes id status o s (segment_name_of 6 id) fit quiet done.0
does_complete (Drill seed count) o s status fit quiet done =
    drill_completes (made_lines seed count) o s fit quiet seed count status done.0
does_complete (Orders readers rounds) o s status fit quiet done =
    subst EndsWell (sym done.0) tt

-- a report goes out, where the sink does not fail
reports_complete : (report : List ℕ) (status : Status) (o : Outside)
    (s : Sinks) → IsQuiet o s → Reports report status s → EndsWell status
reports_complete report Ok o s quiet reports = tt
reports_complete report Usage o s quiet reports = absurd reports
reports_complete report (BadLine number cause) o s quiet reports = absurd reports
reports_complete report (TooLarge number size most) o s quiet reports = absurd reports
reports_complete report ReadFault o s quiet reports = absurd reports
reports_complete report WriteFault o s quiet reports = absurd (quiet.sink reports.cause)
reports_complete report DiskFault o s quiet reports = absurd reports
reports_complete report (Damaged name at cause) o s quiet reports = absurd reports
reports_complete report (BadTable name fault) o s quiet reports = absurd reports
reports_complete report OutOfMemory o s quiet reports = absurd reports
reports_complete report (Limit what most) o s quiet reports = absurd reports
reports_complete report (Absent name) o s quiet reports = absurd reports

outcome_completes : (request : Built) (o : Outside) (s : Sinks) (status : Status)
    (outcome : Result (List ℕ) Status) → IsFit request o → IsQuiet o s
    → Does (Some request) o outcome → Prints outcome status s → EndsWell status
outcome_completes request o s status (ok report) fit quiet done prints =
    reports_complete report status o s quiet prints
outcome_completes request o s status (err refusal) fit quiet done prints =
    subst EndsWell (sym prints.0)
    (does_complete request o s refusal fit quiet done)

request_completes : (request : Option Built) (words : List (String Global)) (o : Outside)
    (s : Sinks) (status : Status) (outcome : Result (List ℕ) Status) → Asks words request
    → Does request o outcome → Prints outcome status s → Completes words o s status
request_completes None words o s status outcome asks done prints request says fit quiet =
    absurd (asks request says)
request_completes (Some other) words o s status outcome asks done prints request says fit quiet =
    let same = one_asked (texts words) other request asks says in
    outcome_completes other o s status outcome
    (subst (λ (r : Built). IsFit r o) (sym same) fit) quiet done prints

no_words_complete : (o : Outside) (s : Sinks) (status : Status)
    (outcome : Result (List ℕ) Status) → outcome ≡ err OutOfMemory → Prints outcome status s
    → EndsWell status
no_words_complete o s status outcome is prints =
    let told = subst (λ (r : Result (List ℕ) Status). Prints r status s) is prints in
    subst EndsWell (sym told.0) tt

asked_completes : (words : List (String Global)) (o : Outside) (s : Sinks) (status : Status)
    (outcome : Result (List ℕ) Status) → DoesAsked words o outcome → Prints outcome status s
    → Completes words o s status
asked_completes words o s status outcome (inl done) prints =
    request_completes done.request words o s status outcome done.asked done.done prints
asked_completes words o s status outcome (inr none) prints =
    λ request says fit quiet. no_words_complete o s status outcome none.0 prints

pub completes : (words : List (String Global)) (o : Outside) (s : Sinks) (status : Status)
    → Answers words o s status → Completes words o s status
completes words o s status a = asked_completes words o s status a.outcome a.done a.printed
