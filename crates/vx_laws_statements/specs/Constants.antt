-- Constants, texts and names of types, as SQL writes them.
use Rattle.std.specs.Prelude.{ℕ, zero, suc, ◌+◌, ◌-◌, ◌*◌, ◌^◌, nat_lt, ℤ, pos, negsuc, Bool, true, false, cond, if◌then◌else◌, codes}
use Rattle.std.specs.Prelude.{List, [], ◌∷◌, ◌++◌, length, take, Option, Some, None, option_map, Result, Ok, Err}
use Rattle.std.specs.List.{list_all}
use Rattle.std.specs.Char.{is_ascii_digit}
use Rattle.std.specs.Str.{bytes_eq, is_utf8}
use Rattle.std.specs.Io.BufRead.{ends_with_byte}
use Rattle.sqlite_ast.specs.declared.Unary.{Unary}
use Rattle.sqlite_ast.specs.declared.Unary.TheVariants as unary
use Rattle.sqlite_ast.specs.declared.Expr.{Expr, out-Expr}
use Rattle.sqlite_ast.specs.declared.Expr.TheOpen.{Expr-F}
use Rattle.sqlite_ast.specs.Layer.{Layer}
use Rattle.vx_dtype.specs.declared.Nullability.{Nullability}
use Rattle.vx_dtype.specs.declared.Nullability.TheVariants.{NonNullable, Nullable}
use Rattle.vx_dtype.specs.Types.{Bytes, Ty, bool_ty, int_ty, text_ty}
use Rattle.vx_dtype.specs.Values.{Raw, raw_null, raw_bool, raw_int, raw_text}
use Rattle.vx_dtype.specs.Texts.{integer_named}
use Rattle.vx_laws_statements.specs.Refusals.{Refusal, no_hexadecimal, no_integer, no_text, no_type, listed_column, no_constant, ◌>>=◌, unless, there}

-- bytes as a text
abbrev pub text_of : Bytes → Result Bytes Refusal
text_of s = unless (is_utf8 s) (no_text s) (Ok s)

-- the number of decimal digits behind another one; none from 2 ^ 120 on, which is far from each integer type
unfoldable pub digits_behind : ℕ → Bytes → Option ℕ
digits_behind n [] = Some n
digits_behind n (d ∷ digits) = if nat_lt (10 * n + (d - 48)) (2 ^ 120) then digits_behind (10 * n + (d - 48)) digits else None

-- a number, with a minus before it or without
abbrev pub signed : Bool → ℕ → ℤ
signed true zero = pos zero
signed true (suc n) = negsuc n
signed false n = pos n

abbrev pub integer_of : Bool → Bytes → Option ℤ
integer_of negative digits = option_map (signed negative) (digits_behind 0 digits)

-- a number of decimal digits, with a minus before it or without
abbrev pub number_of : Bool → Bytes → Result Raw Refusal
number_of negative digits =
    unless (list_all is_ascii_digit digits) (no_hexadecimal digits) (there (no_integer digits) (option_map raw_int (integer_of negative digits)))

-- a number behind a sign, and no constant else
abbrev pub signed_at : Bool → Layer → Result Raw Refusal
signed_at negative (Expr-F.Integer digits) = number_of negative digits
signed_at negative _ = Err no_constant

abbrev pub signed_constant : Unary → Expr → Result Raw Refusal
signed_constant unary.Minus x = signed_at true (out-Expr x)
signed_constant unary.Plus x = signed_at false (out-Expr x)
signed_constant _ x = Err no_constant

-- a constant of a list: NULL, a boolean, a number or a text
abbrev pub constant_at : Layer → Result Raw Refusal
constant_at Expr-F.Null = Ok raw_null
constant_at (Expr-F.Integer digits) = number_of false digits
constant_at (Expr-F.Text s) = text_of s >>= λ u. Ok (raw_text u)
constant_at (Expr-F.Truth name b) = Ok (raw_bool b)
constant_at (Expr-F.Unary sign x) = signed_constant sign x
constant_at (Expr-F.Column c f) = Err (listed_column c f)
constant_at _ = Err no_constant

unfoldable pub constant_of : Expr → Result Raw Refusal
constant_of e = constant_at (out-Expr e)

-- the constants of a list, or the first refusal
abbrev pub constants_behind : List Raw → List Expr → Result (List Raw) Refusal
constants_behind found [] = Ok found
constants_behind found (e ∷ es) = constant_of e >>= λ c. constants_behind (found ++ c ∷ []) es

abbrev pub constants_of : List Expr → Result (List Raw) Refusal
constants_of es = constants_behind [] es

-- the plain type of a name
abbrev pub plain_named : Nullability → Bytes → Option Ty
plain_named n s =
    cond (bytes_eq s (codes "bool")) (Some (bool_ty n))
    (cond (bytes_eq s (codes "utf8")) (Some (text_ty n)) (option_map (λ p. int_ty p n) (integer_named s)))

-- the type of a name, nullable with `?` behind it
abbrev pub type_named : Bytes → Result Ty Refusal
type_named s =
    there (no_type s) (cond (ends_with_byte 63 s) (plain_named Nullable (take (length s - 1) s)) (plain_named NonNullable s))
