-- The form of words that bytes are.
use Rattle.std.proofs.Common.{◌≡◌, refl, ap, Bool, true, false, cond, Option, None}
use Rattle.std.specs.Str.{IsUtf8, is_utf8}
use Rattle.std.proofs.lemmas.Str.{IsUtf8-from_is_utf8, is_utf8-from_IsUtf8}
use Rattle.vx_dtype.specs.Types.{Bytes}
use Rattle.vx_query.specs.Running.{Form, form_of}
use Rattle.vx_run_calls.specs.MemoryRuns.{form_in, words_of}

abbrev form_where : Bytes → Bool → Option Form
form_where words b = cond b (form_of (words_of words)) None

pub form_known : (words : Bytes) → IsUtf8 words → form_in words ≡ form_of (words_of words)
form_known words h = ap (form_where words) (is_utf8-from_IsUtf8 words h)

pub form_unknown : (words : Bytes) → ¬ (IsUtf8 words) → form_in words ≡ None
form_unknown words h = ap (form_where words) (by-test (is_utf8 words) refl) where
  by-test : (b : Bool) → is_utf8 words ≡ b → b ≡ false
  by-test true is = absurd (h (IsUtf8-from_is_utf8 words is))
  by-test false is = refl
