-- The tokens of a text: at each place the longest one that stands there, but for characters that mean nothing.
use Rattle.std.specs.Prelude.{◌≡◌, ℕ, ◌≤◌, true, List, [], ◌∷◌, length, Some}
use Rattle.vx_dtype.specs.Types.{Bytes}
use Rattle.vx_tokens.specs.declared.tokens.Token.{Token}
use Rattle.vx_tokens.specs.Tokens.{is_blank, tokens_of}
use Rattle.vx_laws_text.specs.Longest.{Stands}

-- a token stands at the front of a text, and no longer one does
pub record StandsLongest (bytes : Bytes) (t : Token) (rest : Bytes) : Type 0 where
  pub stands : Stands bytes t rest
  pub longest : (u : Token) (others : Bytes) → Stands bytes u others → length rest ≤ length others

-- a text is cut into tokens
pub data Cuts : Bytes → List Token → Type 0 where
  no_bytes : Cuts [] []
  blank_first : (b : ℕ) (bytes : Bytes) (tokens : List Token) → is_blank b ≡ true → Cuts bytes tokens → Cuts (b ∷ bytes) tokens
  token_first : (bytes rest : Bytes) (t : Token) (tokens : List Token) → StandsLongest bytes t rest → Cuts rest tokens → Cuts bytes (t ∷ tokens)

-- the tokens that are found are those that a text is cut into
abbrev pub FoundAreCut : Type 0
FoundAreCut = (bytes : Bytes) (tokens : List Token) → tokens_of bytes ≡ Some tokens → Cuts bytes tokens

-- the tokens that a text is cut into are found
abbrev pub CutAreFound : Type 0
CutAreFound = (bytes : Bytes) (tokens : List Token) → Cuts bytes tokens → tokens_of bytes ≡ Some tokens
