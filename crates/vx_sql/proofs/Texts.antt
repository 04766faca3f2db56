-- Texts and digits as UTF-8.
use Rattle.std.proofs.Common.{◌≡◌, refl, ℕ, Bool, true, false, List}
use Rattle.std.specs.Str.{IsUtf8, is_utf8}
use Rattle.std.proofs.lemmas.Str.{IsUtf8-from_is_utf8, is_utf8-from_IsUtf8}

pub known_text : (bs : List ℕ) → IsUtf8 bs → is_utf8 bs ≡ true
known_text bs h = is_utf8-from_IsUtf8 bs h

pub no_text : (bs : List ℕ) → (IsUtf8 bs → ⊥) → is_utf8 bs ≡ false
no_text bs h = by-test (is_utf8 bs) refl where
  by-test : (b : Bool) → is_utf8 bs ≡ b → b ≡ false
  by-test true is = absurd (h (IsUtf8-from_is_utf8 bs is))
  by-test false is = refl
