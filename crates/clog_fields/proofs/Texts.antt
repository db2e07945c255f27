-- The test of UTF-8 answers as its definition does.
use Rattle.std.proofs.Common.{◌≡◌, ℕ, Bool, true, false, List, [], refl}
use Rattle.std.specs.Prelude.{IsUtf8}
use Rattle.std.specs.Str.{is_utf8, chars}
use Rattle.std.proofs.lemmas.Str.{IsUtf8-from_is_utf8, is_utf8-from_IsUtf8}

pub utf8_passes : (text : List ℕ) → IsUtf8 text → is_utf8 text ≡ true
utf8_passes text h = is_utf8-from_IsUtf8 text h

pub utf8_from_test : (text : List ℕ) → is_utf8 text ≡ true → IsUtf8 text
utf8_from_test text h = IsUtf8-from_is_utf8 text h

fails_as : (text : List ℕ) → ¬ (IsUtf8 text) → (b : Bool) → is_utf8 text ≡ b → b ≡ false
fails_as text h true e = absurd (h (IsUtf8-from_is_utf8 text e))
fails_as text h false e = refl

pub utf8_fails : (text : List ℕ) → ¬ (IsUtf8 text) → is_utf8 text ≡ false
utf8_fails text h = fails_as text h (is_utf8 text) refl

pub ruleset utf8_tests = (utf8_passes, utf8_fails)

-- no bytes are a text
pub nothing_is_text : IsUtf8 []
unfolding is_utf8 chars
nothing_is_text = IsUtf8-from_is_utf8 [] refl
