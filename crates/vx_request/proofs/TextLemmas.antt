-- Bytes as the text of a value.
use Rattle.std.proofs.Common.{◌≡◌, ℕ, Bool, true, false, cond, List, Option, None, IsUtf8, refl}
use Rattle.std.specs.Str.{is_utf8}
use Rattle.std.proofs.lemmas.Str.{IsUtf8-from_is_utf8, is_utf8-from_IsUtf8}

-- what is read of bytes that are text
pub read_of_text : {A : Type 0} → (bs : List ℕ) (o : Option A) → IsUtf8 bs → cond (is_utf8 bs) o None ≡ o
read_of_text bs o utf8 = rw (is_utf8-from_IsUtf8 bs utf8)

none_unless : {A : Type 0} → (b : Bool) (o : Option A) → (b ≡ true → o ≡ None) → cond b o None ≡ None
none_unless true o none = none refl
none_unless false o none = refl

-- nothing is read of bytes that aren't text, or of which nothing is read where they are
pub none_of_text : {A : Type 0} → (bs : List ℕ) (o : Option A) → (IsUtf8 bs → o ≡ None) → cond (is_utf8 bs) o None ≡ None
none_of_text bs o none = none_unless (is_utf8 bs) o (λ h. none (IsUtf8-from_is_utf8 bs h))
