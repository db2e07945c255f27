-- What is read without a copy is what is decoded.
use Rattle.std.proofs.Common.{◌≡◌, ℕ, ◌<◌, List, Bool, true, false, Result, Ok, Err, refl, sym, ap}
use Rattle.std.proofs.Common.{◌∙◌, ltb-true}
use Rattle.std.specs.Prelude.{if◌then◌else◌}
use Rattle.std.specs.Int.{w16}
use Rattle.clog_spec.specs.Crc.{IsBytes}
use Rattle.clog_base.specs.declared.fault.PayloadFault.{PayloadFault}
use Rattle.clog_base.specs.declared.fault.PayloadFault.TheVariants.{Short, BadTag, Count, NotUtf8}
use Rattle.clog_base.specs.declared.fault.PayloadFault.TheVariants.{Trailing, NameLength, BadTable}
use Rattle.clog_base.specs.declared.fault.PayloadFault.TheVariants.{OutOfMemory}
use Rattle.clog_fields.specs.Reading.{◌>>=◌, number_at}
use Rattle.clog_mutation.specs.declared.lent.LentMutation.{LentMutation}
use Rattle.clog_mutation.specs.Lent.{Lends, mutation_lent}
use Rattle.clog_mutation.specs.Reading.{Fails, Gives, all_of, count_at}
use Rattle.clog_mutation.specs.Refusals.{is_count}
use Rattle.clog_mutation.proofs.Decoding.{decodes}
use Rattle.clog_mutation.proofs.Payloads.{all_takes}

-- what is refused fails so
pub fails : {Y : Type 0} (fault : PayloadFault) (read : Result Y PayloadFault) → read ≡ Err fault
    → Fails fault read
fails OutOfMemory read is = tt
fails (Short at) read is = is
fails (BadTag at) read is = is
fails Count read is = is
fails (NotUtf8 at) read is = is
fails (Trailing at) read is = is
fails (NameLength at) read is = is
fails (BadTable at) read is = is

-- a count that is read is not 0
tested : (n : ℕ) (test : Bool) (rest : List ℕ) (m : ℕ) (after : List ℕ) → is_count n ≡ test
    → ◌≡◌ {A = Result (ℕ × List ℕ) PayloadFault} (if test then Ok (n, rest) else Err Count)
    (Ok (m, after))
    → is_count m ≡ true
tested n true rest m after is e =
    let same : ◌≡◌ {A = ℕ × List ℕ} (n, rest) (m, after) = cc in
    sym (ap (λ (x : ℕ × List ℕ). is_count x.0) same) ∙ is
tested n false rest m after is e = absurd cc

counted : (read : Result (ℕ × List ℕ) PayloadFault) (m : ℕ) (after : List ℕ)
    → read >>= (λ x. if is_count x.0 then Ok x else Err Count) ≡ Ok (m, after) → is_count m ≡ true
counted (Ok x) m after e = tested x.0 (is_count x.0) x.1 m after refl e
counted (Err f) m after e = absurd cc

pub some_counted : (end : ℕ) (bytes : List ℕ) (m : ℕ) (after : List ℕ)
    → count_at end bytes ≡ Ok (m, after) → 0 < m
unfolding count_at
some_counted end bytes m after e =
    ltb-true 0 m (counted (number_at w16 end bytes) m after e)

pub lends : (bytes : List ℕ) (r : Result LentMutation PayloadFault) → IsBytes bytes
    → Gives mutation_lent r (all_of bytes) → Lends bytes r
lends bytes (Ok m) fits h = all_takes bytes (mutation_lent m) fits h
lends bytes (Err f) fits h = decodes bytes (Err f) fits h
