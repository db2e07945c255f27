-- From what was found to what the options say.
use Rattle.std.proofs.Common.{
  ◌≡◌,
  ℕ,
  List,
  Bool,
  true,
  false,
  is_some,
  Option,
  Some,
  None,
  codes,
  unwrap_or,
  refl,
  ap,
  subst,
  sym,
  ◌∙◌,
}
use Rattle.clap.specs.Matches.{one_text}
use Rattle.clap.specs.declared.parser.matches.Found.{Found}
use Rattle.clog_words.specs.Asks.{
  IsMark,
  IsMode,
  IsNumberIfSaid,
  IsNumberOr,
  IsSync,
  IsValueWithin,
  SaysApply,
  SaysReplay,
}
use Rattle.clog_words.specs.Given.{Setting, said}
use Rattle.clog_words.specs.Options.{
  HasKinds,
  IsReadable,
  TellsOf,
  apply_options,
  replay_options,
}
use Rattle.clog_words.specs.declared.request.ApplyOptions.{ApplyOptions}
use Rattle.clog_words.specs.declared.request.ReplayOptions.{ReplayOptions}
use Rattle.sync_core.specs.declared.SyncCore.{SyncCore}
use Rattle.sync_core.specs.declared.SyncCore.TheVariants.{Batch, Periodic}

pub mark_said : (name : List ℕ) (setting : Option Setting) (found : Found)
    → TellsOf false name setting found → (flag : Bool)
    → (one_text found name ≡ Some (codes "true") → flag ≡ true)
    → (one_text found name ≡ Some (codes "false") → flag ≡ false) → IsMark setting flag
mark_said name setting found (true, is, text) flag given absent =
    subst (λ (o : Option Setting). IsMark o flag) (sym is) (refl, given text)
mark_said name setting found (false, is, text) flag given absent =
    subst (λ (o : Option Setting). IsMark o flag) (sym is) (absent text)

pub sync_said : (mode period other_mode other_period : Option Setting) (sync : SyncCore)
    → mode ≡ other_mode → period ≡ other_period → IsSync mode period sync
    → IsSync other_mode other_period sync
sync_said mode period other_mode other_period sync e f is =
    subst (λ (o : Option Setting). IsSync o other_period sync) e
    (subst (λ (o : Option Setting). IsSync mode o sync) f is)

-- ---- each option that is given has a value where it should

abbrev Valued : Option Setting → Type 0
Valued o = (setting : Setting) → o ≡ Some setting → is_some setting.value ≡ true

abbrev Marked : Option Setting → Type 0
Marked o = (setting : Setting) → o ≡ Some setting → is_some setting.value ≡ false

valued_one : (one : Setting) → is_some one.value ≡ true → Valued (Some one)
valued_one one e setting same =
    ap (λ (o : Option Setting). is_some ((unwrap_or o one).value)) (sym same) ∙ e

mark_kind : (o : Option Setting) (given : Bool) → IsMark o given → Marked o
mark_kind None given mark setting same = absurd (cc)
mark_kind (Some one) given mark setting same =
    ap (λ (o : Option Setting). is_some ((unwrap_or o one).value)) (sym same)
    ∙ ap is_some mark.0

number_kind : (o : Option Setting) (default least most number : ℕ)
    → IsNumberOr default least most o number → Valued o
number_kind None default least most number is setting same = absurd (cc)
number_kind (Some one) default least most number is setting same =
    valued_one one (go one.value is) setting same
  where
    go : (value : Option (List ℕ)) → IsValueWithin least most value number
        → is_some value ≡ true
    go None is = absurd is
    go (Some text) is = refl

if_said_kind : (o : Option Setting) (least most : ℕ) (number : Option ℕ)
    → IsNumberIfSaid least most o number → Valued o
if_said_kind None least most number is setting same = absurd (cc)
if_said_kind (Some one) least most None is setting same = absurd is
if_said_kind (Some one) least most (Some number) is setting same =
    valued_one one (go one.value is) setting same
  where
    go : (value : Option (List ℕ)) → IsValueWithin least most value number
        → is_some value ≡ true
    go None is = absurd is
    go (Some text) is = refl

mode_kind : (o : Option Setting) (mode : List ℕ) → IsMode o mode → Valued o
mode_kind None mode is setting same = absurd (cc)
mode_kind (Some one) mode is setting same = valued_one one (ap is_some is) setting same

sync_kinds : (mode period : Option Setting) (sync : SyncCore) → IsSync mode period sync
    → Valued mode × Valued period
sync_kinds mode period Batch is = (
  mode_kind mode (codes "batch") is.0,
  number_kind period 10000 1 3600000 is.1.0 is.1.1,
)
sync_kinds mode period (Periodic number) is = (
  mode_kind mode (codes "periodic") is.0,
  number_kind period 10000 1 3600000 number is.1,
)

pub apply_kinds : (settings : List Setting) (options : ApplyOptions)
    → SaysApply settings options → HasKinds apply_options settings
apply_kinds settings options says =
    let sync =
    sync_kinds (said (codes "sync") settings) (said (codes "period") settings) options.sync
    says.sync in (
      number_kind (said (codes "writers") settings) 1 1 64 options.writers says.writers,
      (
        sync.0,
        (
          sync.1,
          (
            number_kind (said (codes "segment-kib") settings) 32768 4 32768 options.segment_kib
                says.segment_kib,
            (
              if_said_kind (said (codes "flush-at") settings) 1 1000000 options.flush_at
                  says.flush_at,
              (
                mark_kind (said (codes "archive") settings) options.archive says.archive,
                (
                  mark_kind (said (codes "receipts") settings) options.receipts says.receipts,
                  (
                    mark_kind (said (codes "drain") settings) options.drain says.drain,
                    (mark_kind (said (codes "dump") settings) options.dump says.dump, tt),
                  ),
                ),
              ),
            ),
          ),
        ),
      ),
    )

pub replay_kinds : (settings : List Setting) (options : ReplayOptions)
    → SaysReplay settings options → HasKinds replay_options settings
replay_kinds settings options says = (
  number_kind (said (codes "workers") settings) 1 1 64 options.workers says.workers,
  (
    mark_kind (said (codes "ignore-errors") settings) options.ignore_errors says.ignore_errors,
    tt,
  ),
)

-- ---- `clap` says what it makes of the words of these commands

pub apply_readable : IsReadable (codes "apply") apply_options
apply_readable = record {
  simple = refl;
  named = refl;
  distinct = (refl, (refl, (refl, (refl, (refl, (refl, (refl, (refl, (refl, tt)))))))));
}

pub replay_readable : IsReadable (codes "replay") replay_options
replay_readable = record { simple = refl; named = refl; distinct = (refl, (refl, tt)) }
