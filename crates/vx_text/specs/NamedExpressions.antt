-- What tokens name: an expression, or none where a number or an item isn't a value of its type.
use Rattle.std.specs.Prelude.{ℕ, zero, suc, ◌+◌, ◌==◌, Bool, true, false, List, [], ◌∷◌, ◌++◌, map, Option, Some, None}
use Rattle.std.specs.Prelude.{option_map, if◌then◌else◌}
use Rattle.vx_dtype.specs.declared.PType.{PType}
use Rattle.vx_dtype.specs.declared.PType.TheVariants.{I64}
use Rattle.vx_dtype.specs.declared.Nullability.{Nullability}
use Rattle.vx_dtype.specs.declared.Nullability.TheVariants.{NonNullable, Nullable}
use Rattle.vx_dtype.specs.Types.{Bytes, Ty, bool_ty, int_ty, text_ty}
use Rattle.vx_dtype.specs.Values.{Raw, raw_bool, raw_int, raw_text}
use Rattle.vx_dtype.specs.Fits.{fits}
use Rattle.vx_dtype.specs.ScalarAnswers.{typed}
use Rattle.vx_dtype.specs.declared.StrictComparison.{StrictComparison}
use Rattle.vx_dtype.specs.declared.StrictComparison.TheVariants.{Strict, NonStrict}
use Rattle.vx_dtype.specs.declared.BetweenOptions.{BetweenOptions}
use Rattle.vx_expr.specs.declared.operators.Operator.{Operator}
use Rattle.vx_expr.specs.Trees.{Tree, literal, binary, not_of, is_null_of, like, between, list_contains, pack, merge, trees_of}
use Rattle.vx_expr.specs.Children.{one_of, two_of, three_of}
use Rattle.vx_tokens.specs.declared.tokens.Keyword.{Keyword}
use Rattle.vx_tokens.specs.declared.tokens.Keyword.TheVariants as words
use Rattle.vx_tokens.specs.Numbers.{integer_of}

-- an expression, or none where a number or an item in it isn't a value of its type
abbrev pub Named : Type 0
Named = Option Tree

-- the same of two
abbrev pub both : (Tree → Tree → Tree) → Named → Named → Named
both f (Some l) (Some r) = Some (f l r)
both f _ _ = None

-- two operands under an operator
unfoldable pub binary_of : Named → Operator → Named → Named
binary_of l op r = both (λ x y. binary x op y) l r

-- an operand under so many `not`
unfoldable pub negated : ℕ → Named → Named
negated zero e = e
negated (suc n) e = negated n (option_map not_of e)

-- the constant, where the value is one of the type
abbrev pub constant : Ty → Raw → Named
constant t r = if fits r t then Some (literal (typed t r)) else None

abbrev pub constant_of : Ty → Option Raw → Named
constant_of t (Some r) = constant t r
constant_of t None = None

-- the type of a number: the named one, or i64
abbrev pub integer_type : Option PType → PType
integer_type (Some p) = p
integer_type None = I64

abbrev pub number_literal : Bool → Bytes → Option PType → Named
number_literal negative digits suffix = constant_of (int_ty (integer_type suffix) NonNullable) (option_map raw_int (integer_of negative digits))

abbrev pub bool_literal : Bool → Tree
bool_literal b = literal (typed (bool_ty NonNullable) (raw_bool b))

abbrev pub text_literal : Bytes → Tree
text_literal s = literal (typed (text_ty NonNullable) (raw_text s))

-- whether each bound of a range is strict
abbrev pub bounds : StrictComparison → StrictComparison → BetweenOptions
bounds lower upper = record { lower_strict = lower; upper_strict = upper }

-- the calls of fixed arguments
abbrev pub is_null_call : List Tree → Option Tree
is_null_call es = option_map is_null_of (one_of es)

abbrev pub contains_call : List Tree → Option Tree
contains_call es = option_map (λ x. list_contains x.0 x.1) (two_of es)

-- a match: negated, without regard to case
abbrev pub like_call : Bool → Bool → List Tree → Option Tree
like_call negated fold_case es = option_map (λ x. like x.0 x.1 negated fold_case) (two_of es)

abbrev pub between_call : StrictComparison → StrictComparison → List Tree → Option Tree
between_call lower upper es = option_map (λ x. between x.0 x.1 x.2 (bounds lower upper)) (three_of es)

-- the table of calls: the expression of a word and its arguments
abbrev pub call_tree : Keyword → List Tree → Option Tree
call_tree words.IsNull es = is_null_call es
call_tree words.Contains es = contains_call es
call_tree words.Like es = like_call false false es
call_tree words.NotLike es = like_call true false es
call_tree words.Ilike es = like_call false true es
call_tree words.NotIlike es = like_call true true es
call_tree words.Between es = between_call NonStrict NonStrict es
call_tree words.BetweenOo es = between_call Strict Strict es
call_tree words.BetweenOc es = between_call Strict NonStrict es
call_tree words.BetweenCo es = between_call NonStrict Strict es
call_tree words.Merge es = Some (merge (trees_of es) NonNullable)
call_tree words.MergeNull es = Some (merge (trees_of es) Nullable)
call_tree _ es = None

-- how many arguments a call has
abbrev pub takes : Keyword → ℕ → Bool
takes words.IsNull n = n == 1
takes words.Contains n = n == 2
takes words.Like n = n == 2
takes words.NotLike n = n == 2
takes words.Ilike n = n == 2
takes words.NotIlike n = n == 2
takes words.Between n = n == 3
takes words.BetweenOo n = n == 3
takes words.BetweenOc n = n == 3
takes words.BetweenCo n = n == 3
takes words.Merge n = true
takes words.MergeNull n = true
takes _ n = false

-- arguments: how many there are, and their expressions
abbrev pub Arguments : Type 0
Arguments = ℕ × Option (List Tree)

-- a list with one more behind it, where there is a list and one more
abbrev pub and_one : {A : Type 0} → Option (List A) → Option A → Option (List A)
and_one (Some xs) (Some x) = Some (xs ++ x ∷ [])
and_one _ _ = None

abbrev pub and_argument : Arguments → Named → Arguments
and_argument es e = (es.0 + 1, and_one es.1 e)

abbrev pub called_with : Keyword → Option (List Tree) → Named
called_with k (Some es) = call_tree k es
called_with k None = None

-- what a call of a word with these arguments names; none where it is no call
abbrev pub call_of : Keyword → Arguments → Option Named
call_of k es = if takes k es.0 then Some (called_with k es.1) else None

-- an expression with a name
abbrev pub with_name : Bytes → Named → Option (Bytes × Tree)
with_name f e = option_map (λ x. (f, x)) e

-- the struct of named expressions
abbrev pub pack_of : Nullability → Option (List (Bytes × Tree)) → Named
pack_of n es = option_map (λ xs. pack (map (λ e. e.0) xs) (trees_of (map (λ e. e.1) xs)) n) es
