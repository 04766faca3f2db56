-- Tokens without the test of what stands between two marks: in a text that is UTF-8 the test refuses nothing.
use Rattle.std.specs.Prelude.{◌≡◌, ℕ, zero, suc, ◌<◌, ◌==◌, true, List, [], ◌∷◌, ◌++◌, length, Option, Some, None}
use Rattle.std.specs.Prelude.{if◌then◌else◌}
use Rattle.std.specs.Str.{is_utf8}
use Rattle.vx_dtype.specs.Types.{Bytes}
use Rattle.vx_tokens.specs.declared.tokens.Token.{Token}
use Rattle.vx_tokens.specs.declared.tokens.Token.TheVariants.{Quoted, Quote}
use Rattle.vx_tokens.specs.Tokens.{◌>>=◌, is_first, is_digit, is_inner, run_of, word_behind}
use Rattle.vx_tokens.specs.Tokens.{number_behind, sign_at, quoted_run, behind_blank, token_at, tokens_of}

-- the token between two marks, whatever stands there
abbrev pub unchecked_name : Option (Bytes × Bytes) → Option (Token × Bytes)
unchecked_name r = r >>= λ x. Some (Quoted x.0, x.1)

abbrev pub unchecked_text : Option (Bytes × Bytes) → Option (Token × Bytes)
unchecked_text r = r >>= λ x. Some (Quote x.0, x.1)

-- the longest token at the front, as with the test
abbrev pub unchecked_mark_at : ℕ → Bytes → Option (Token × Bytes)
unchecked_mark_at b bytes =
    if b == 34 then unchecked_name (quoted_run 34 bytes) else
    (if b == 39 then unchecked_text (quoted_run 39 bytes) else sign_at b bytes)

abbrev pub unchecked_from : ℕ → Bytes → Option (Token × Bytes)
unchecked_from b bytes =
    if is_first b then word_behind (run_of is_inner (b ∷ bytes)) else
    (if is_digit b then number_behind (run_of is_digit (b ∷ bytes)) else unchecked_mark_at b bytes)

unfoldable pub unchecked_at : Bytes → Option (Token × Bytes)
unchecked_at [] = None
unchecked_at (b ∷ bytes) = unchecked_from b bytes

-- the tokens of a text, as with the test
abbrev pub unchecked_next : (List Token → Bytes → Option (List Token)) → List Token → Bytes → Option Bytes → Option (List Token)
unchecked_next go_on so_far bytes (Some rest) = go_on so_far rest
unchecked_next go_on so_far bytes None = unchecked_at bytes >>= λ t. go_on (so_far ++ t.0 ∷ []) t.1

unfoldable pub unchecked_within : ℕ → List Token → Bytes → Option (List Token)
unchecked_within zero so_far [] = Some so_far
unchecked_within zero so_far (b ∷ bytes) = None
unchecked_within (suc more) so_far [] = Some so_far
unchecked_within (suc more) so_far (b ∷ bytes) = unchecked_next (unchecked_within more) so_far (b ∷ bytes) (behind_blank (b ∷ bytes))

abbrev pub unchecked_tokens_of : Bytes → Option (List Token)
unchecked_tokens_of bytes = unchecked_within (length bytes) [] bytes

-- what stands up to the next mark of a text that is UTF-8, and what stands behind the mark, are UTF-8
abbrev pub QuotedIsUtf8 : Type 0
QuotedIsUtf8 =
    (mark : ℕ) (bytes inner rest : Bytes) → mark < 128 → is_utf8 bytes ≡ true → quoted_run mark bytes ≡ Some (inner, rest)
    → (is_utf8 inner ≡ true) × (is_utf8 rest ≡ true)

-- what stands behind a token of a text that is UTF-8 is UTF-8
abbrev pub RestIsUtf8 : Type 0
RestIsUtf8 = (bytes rest : Bytes) (t : Token) → is_utf8 bytes ≡ true → token_at bytes ≡ Some (t, rest) → is_utf8 rest ≡ true

-- a text that is UTF-8 has the same tokens with the test and without
abbrev pub TestChangesNothing : Type 0
TestChangesNothing = (bytes : Bytes) → is_utf8 bytes ≡ true → tokens_of bytes ≡ unchecked_tokens_of bytes
