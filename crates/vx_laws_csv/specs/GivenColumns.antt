-- The columns that a text gives: their names and plain types, with a comma between any two, as `id i64, price i32, name utf8?`. It is cut into the tokens of
-- a query, and its names and types are written as in one.
use Rattle.std.specs.Prelude.{ℕ, zero, suc, List, [], ◌∷◌, Option, Some, None, option_map}
use Rattle.vx_dtype.specs.Types.{Bytes, Ty, Fields}
use Rattle.vx_dtype.specs.Zipped.{zipped}
use Rattle.vx_tokens.specs.Tokens.{◌>>=◌, tokens_of}
use Rattle.vx_tokens.specs.declared.tokens.Sign.TheVariants as signs
use Rattle.vx_tokens.specs.declared.tokens.Token.{Token}
use Rattle.vx_tokens.specs.declared.tokens.Token.TheVariants.{Reserved, Word, Quoted, Quote, Number, Mark}
use Rattle.vx_text.specs.Grammar.{Read, after, and_field, marked, most_tokens, name_at, plain_type}

-- the word of a plain type
unfoldable pub word_type : List Token → Read Ty
word_type [] = None
word_type (Word s ∷ rest) = plain_type s >>= λ t. Some (t, rest)
word_type (Quoted f ∷ rest) = None
word_type (Reserved k ∷ rest) = None
word_type (Quote s ∷ rest) = None
word_type (Number digits suffix ∷ rest) = None
word_type (Mark s ∷ rest) = None

-- column = name type [ "?" ]
abbrev pub named_type : Bytes → Ty × List Token → (Bytes × Ty) × List Token
named_type f t = ((f, t.0), t.1)

abbrev pub column_at : List Token → Read (Bytes × Ty)
column_at tokens = name_at tokens >>= λ f. word_type f.1 >>= λ t. Some (named_type f.0 (marked t))

-- columns = column { "," column }, each added to those before it. One more follows; so many more at most.
abbrev pub columns_end : (List Token → Option (List Bytes × List Ty)) → List Bytes × List Ty → List Token → Option (List Bytes × List Ty)
columns_end go_on so_far [] = Some so_far
columns_end go_on so_far (t ∷ rest) = after signs.Comma (t ∷ rest) >>= go_on

unfoldable pub more_columns : ℕ → List Bytes × List Ty → List Token → Option (List Bytes × List Ty)
more_columns zero so_far tokens = None
more_columns (suc more) so_far tokens = column_at tokens >>= λ c. columns_end (more_columns more (and_field so_far c.0)) (and_field so_far c.0) c.1

-- the columns that tokens give and nothing else, at most as many as a query has tokens
abbrev pub columns_in : List Token → Option Fields
columns_in tokens = option_map (λ fs. zipped fs.0 fs.1) (more_columns most_tokens ([], []) tokens)

-- the columns that a text gives; none where it is no such text
abbrev pub columns_given : Bytes → Option Fields
columns_given text = tokens_of text >>= columns_in
