-- The grammar of queries, a definition for each of its rules. Each reads its rule at the front of tokens, and gives what it names and
-- the tokens behind it; none where the rule doesn't stand there.
use Rattle.std.specs.Prelude.{ℕ, zero, suc, ◌+◌, ◌==◌, Bool, true, false, List, [], ◌∷◌, ◌++◌, codes}
use Rattle.std.specs.Prelude.{Option, Some, None, option_map, if◌then◌else◌}
use Rattle.std.specs.Str.{bytes_eq}
use Rattle.vx_dtype.specs.Types.{Bytes, Ty, bool_ty, int_ty, text_ty, list_ty, struct_ty}
use Rattle.vx_dtype.specs.declared.PType.{PType}
use Rattle.vx_dtype.specs.declared.Nullability.{Nullability}
use Rattle.vx_dtype.specs.declared.Nullability.TheVariants.{NonNullable, Nullable}
use Rattle.vx_dtype.specs.Values.{Raw, raw_null, raw_bool, raw_int, raw_text, raw_list, raw_struct}
use Rattle.vx_dtype.specs.RawViews.{raws_of}
use Rattle.vx_dtype.specs.TypeRules.{with_nullability}
use Rattle.vx_dtype.specs.Zipped.{zipped}
use Rattle.vx_expr.specs.declared.operators.Operator.{Operator}
use Rattle.vx_expr.specs.declared.selections.FieldSelection.{FieldSelection}
use Rattle.vx_expr.specs.Trees.{Tree, root, get_item, select, cast}
use Rattle.vx_tokens.specs.declared.tokens.Keyword.{Keyword}
use Rattle.vx_tokens.specs.declared.tokens.Keyword.TheVariants as words
use Rattle.vx_tokens.specs.declared.tokens.Sign.{Sign}
use Rattle.vx_tokens.specs.declared.tokens.Sign.TheVariants as signs
use Rattle.vx_tokens.specs.declared.tokens.Token.{Token}
use Rattle.vx_tokens.specs.declared.tokens.Token.TheVariants.{Reserved, Word, Quoted, Quote, Number, Mark}
use Rattle.vx_text.specs.declared.operators.Level.{Level}
use Rattle.vx_text.specs.declared.operators.Level.TheVariants as levels
use Rattle.vx_text.specs.declared.steps.Step.{Step}
use Rattle.vx_text.specs.declared.steps.Step.TheVariants as step_kinds
use Rattle.vx_tokens.specs.Tokens.{◌>>=◌, integer_named, is_sign, is_not}
use Rattle.vx_tokens.specs.Numbers.{integer_of}
use Rattle.vx_text.specs.NamedExpressions.{Named, Arguments, binary_of, negated, constant_of, number_literal, bool_literal, text_literal}
use Rattle.vx_text.specs.NamedExpressions.{and_one, and_argument, call_of, with_name, pack_of}

-- what a rule gives: a meaning, and the tokens behind the rule
abbrev pub Read : Type 0 → Type 0
Read A = Option (A × List Token)

-- the tokens behind a sign at the front
unfoldable pub after : Sign → List Token → Option (List Token)
after s [] = None
after s (t ∷ tokens) = if is_sign s t then Some tokens else None

-- what is read where a sign stands, and where it doesn't
abbrev pub choose : {A : Type 0} → Option (List Token) → (List Token → A) → A → A
choose (Some rest) there otherwise = there rest
choose None there otherwise = otherwise

-- what was read, where a sign stands behind it
abbrev pub closed : {A : Type 0} → Sign → A × List Token → Read A
closed close x = after close x.1 >>= λ rest. Some (x.0, rest)

-- No query has more tokens, and so no more parts of any kind one behind another, or one in another.
abbrev pub most_tokens : ℕ
most_tokens = 4096

-- Parts with a comma between any two, the last before a closing sign, each added to those before it. One more follows; so many more at most.
unfoldable pub more_parts : {A S : Type 0} → (List Token → Read A) → (S → A → S) → Sign → ℕ → S → List Token → Read S
more_parts part add close zero so_far tokens = None
more_parts part add close (suc more) so_far tokens =
    part tokens >>= λ x. choose (after signs.Comma x.1) (more_parts part add close more (add so_far x.0)) (closed close (add so_far x.0, x.1))

-- [ part { "," part } ], and the closing sign
abbrev pub parts : {A S : Type 0} → (List Token → Read A) → (S → A → S) → S → Sign → List Token → Read S
parts part add none close tokens = choose (after close tokens) (λ rest. Some (none, rest)) (more_parts part add close most_tokens none tokens)

-- one more behind a list
abbrev pub and_then : {A : Type 0} → List A → A → List A
and_then xs x = xs ++ x ∷ []

-- a name: a quoted one, or a word that isn't reserved
unfoldable pub name_at : List Token → Read Bytes
name_at [] = None
name_at (Word f ∷ rest) = Some (f, rest)
name_at (Quoted f ∷ rest) = Some (f, rest)
name_at (Reserved k ∷ rest) = None
name_at (Quote s ∷ rest) = None
name_at (Number digits suffix ∷ rest) = None
name_at (Mark s ∷ rest) = None

-- names = [ name { "," name } ], and the closing brace
abbrev pub names_at : List Token → Read (List Bytes)
names_at tokens = parts name_at and_then [] signs.CurlyClose tokens

-- name ":" and a part
abbrev pub labelled : {A : Type 0} → (List Token → Read A) → List Token → Read (Bytes × A)
labelled part tokens = name_at tokens >>= λ f. after signs.Colon f.1 >>= λ rest. part rest >>= λ x. Some ((f.0, x.0), x.1)

-- the names and the types of fields, with one more behind them
abbrev pub and_field : List Bytes × List Ty → Bytes × Ty → List Bytes × List Ty
and_field fs f = (fs.0 ++ f.0 ∷ [], fs.1 ++ f.1 ∷ [])

-- base, a type that isn't nullable; the types in it are read as given
abbrev pub list_with : (List Token → Read Ty) → List Token → Read Ty
list_with read tokens = after signs.RoundOpen tokens >>= λ rest. read rest >>= λ t. closed signs.RoundClose (list_ty t.0 NonNullable, t.1)

abbrev pub struct_type : List Bytes × List Ty → Ty
struct_type fs = struct_ty (zipped fs.0 fs.1) NonNullable

abbrev pub struct_with : (List Token → Read Ty) → List Token → Read Ty
struct_with read tokens = parts (labelled read) and_field ([], []) signs.CurlyClose tokens >>= λ fs. Some (struct_type fs.0, fs.1)

abbrev pub plain_type : Bytes → Option Ty
plain_type s =
    if bytes_eq s (codes "bool") then Some (bool_ty NonNullable) else
    (if bytes_eq s (codes "utf8") then Some (text_ty NonNullable) else option_map (λ p. int_ty p NonNullable) (integer_named s))

abbrev pub word_base : (List Token → Read Ty) → Bytes → List Token → Read Ty
word_base read s rest = if bytes_eq s (codes "list") then list_with read rest else (plain_type s >>= λ t. Some (t, rest))

abbrev pub sign_base : (List Token → Read Ty) → Sign → List Token → Read Ty
sign_base read signs.CurlyOpen rest = struct_with read rest
sign_base read _ rest = None

abbrev pub base_with : (List Token → Read Ty) → List Token → Read Ty
base_with read [] = None
base_with read (Word s ∷ rest) = word_base read s rest
base_with read (Mark s ∷ rest) = sign_base read s rest
base_with read (Reserved k ∷ rest) = None
base_with read (Quoted f ∷ rest) = None
base_with read (Quote s ∷ rest) = None
base_with read (Number digits suffix ∷ rest) = None

-- type = base [ "?" ]
abbrev pub marked : Ty × List Token → Ty × List Token
marked t = choose (after signs.Question t.1) (λ rest. (with_nullability t.0 Nullable, rest)) t

abbrev pub type_with : (List Token → Read Ty) → List Token → Read Ty
type_with read tokens = base_with read tokens >>= λ t. Some (marked t)

-- a type with so many types one in another at most
unfoldable pub type_at : ℕ → List Token → Read Ty
type_at zero tokens = None
type_at (suc deep) tokens = type_with (type_at deep) tokens

-- a type
abbrev pub type_front : List Token → Read Ty
type_front tokens = type_at most_tokens tokens

-- item: a value without its type, none where a number in it is one of no type
abbrev pub list_item : Option (List Raw) → Option Raw
list_item xs = option_map (λ ys. raw_list (raws_of ys)) xs

abbrev pub struct_item : Option (List Raw) → Option Raw
struct_item xs = option_map (λ ys. raw_struct (raws_of ys)) xs

abbrev pub integer_item : Bool → Bytes → Option PType → List Token → Read (Option Raw)
integer_item negative digits None rest = Some (option_map raw_int (integer_of negative digits), rest)
integer_item negative digits (Some p) rest = None

abbrev pub negative_item : List Token → Read (Option Raw)
negative_item [] = None
negative_item (Number digits suffix ∷ rest) = integer_item true digits suffix rest
negative_item (Word s ∷ rest) = None
negative_item (Mark s ∷ rest) = None
negative_item (Reserved k ∷ rest) = None
negative_item (Quoted f ∷ rest) = None
negative_item (Quote s ∷ rest) = None

abbrev pub sign_item : (List Token → Read (Option Raw)) → Sign → List Token → Read (Option Raw)
sign_item read signs.Minus rest = negative_item rest
sign_item read signs.SquareOpen rest = parts read and_one (Some []) signs.SquareClose rest >>= λ xs. Some (list_item xs.0, xs.1)
sign_item read signs.CurlyOpen rest = parts read and_one (Some []) signs.CurlyClose rest >>= λ xs. Some (struct_item xs.0, xs.1)
sign_item read _ rest = None

abbrev pub word_item : Keyword → Option Raw
word_item words.Null = Some raw_null
word_item words.True = Some (raw_bool true)
word_item words.False = Some (raw_bool false)
word_item _ = None

abbrev pub item_with : (List Token → Read (Option Raw)) → List Token → Read (Option Raw)
item_with read [] = None
item_with read (Reserved k ∷ rest) = word_item k >>= λ x. Some (Some x, rest)
item_with read (Number digits suffix ∷ rest) = integer_item false digits suffix rest
item_with read (Quote s ∷ rest) = Some (Some (raw_text s), rest)
item_with read (Mark s ∷ rest) = sign_item read s rest
item_with read (Word s ∷ rest) = None
item_with read (Quoted f ∷ rest) = None

-- an item with so many items one in another at most
unfoldable pub item_at : ℕ → List Token → Read (Option Raw)
item_at zero tokens = None
item_at (suc deep) tokens = item_with (item_at deep) tokens

abbrev pub item_front : List Token → Read (Option Raw)
item_front tokens = item_at most_tokens tokens

-- "lit" "(" type "," item ")", behind its word
unfoldable pub lit_behind : List Token → Read Named
lit_behind tokens =
    after signs.RoundOpen tokens >>= λ rest. type_front rest >>= λ t. after signs.Comma t.1 >>= λ more. item_front more >>= λ x.
    closed signs.RoundClose (constant_of t.0 x.0, x.1)

-- the operator of a token, and how tightly each one binds
abbrev pub word_operator : Keyword → Option Operator
word_operator words.Or = Some Operator.Or
word_operator words.And = Some Operator.And
word_operator _ = None

abbrev pub sign_operator : Sign → Option Operator
sign_operator signs.Eq = Some Operator.Eq
sign_operator signs.NotEq = Some Operator.NotEq
sign_operator signs.Gt = Some Operator.Gt
sign_operator signs.Gte = Some Operator.Gte
sign_operator signs.Lt = Some Operator.Lt
sign_operator signs.Lte = Some Operator.Lte
sign_operator signs.Plus = Some Operator.Add
sign_operator signs.Minus = Some Operator.Sub
sign_operator _ = None

abbrev pub token_operator : Token → Option Operator
token_operator (Reserved k) = word_operator k
token_operator (Mark s) = sign_operator s
token_operator (Word f) = None
token_operator (Quoted f) = None
token_operator (Quote s) = None
token_operator (Number digits suffix) = None

abbrev pub level_of : Operator → Level
level_of Operator.Or = levels.Disjunction
level_of Operator.And = levels.Conjunction
level_of Operator.Add = levels.Sum
level_of Operator.Sub = levels.Sum
level_of _ = levels.Comparison

abbrev pub level_number : Level → ℕ
level_number levels.Disjunction = 0
level_number levels.Conjunction = 1
level_number levels.Comparison = 2
level_number levels.Sum = 3

abbrev pub operator_within : Level → Option Operator → List Token → Read Operator
operator_within level None rest = None
operator_within level (Some op) rest = if level_number (level_of op) == level_number level then Some (op, rest) else None

-- an operator of a level, and the tokens behind it
unfoldable pub operator_at : Level → List Token → Read Operator
operator_at level [] = None
operator_at level (t ∷ rest) = operator_within level (token_operator t) rest

-- { operator operand }, behind a left operand: a left chain. So many more operands at most.
abbrev pub next_operand : (Named → List Token → Read Named) → (List Token → Read Named) → Named → List Token → Read Operator → Read Named
next_operand go_on operand left tokens None = Some (left, tokens)
next_operand go_on operand left tokens (Some op) = operand op.1 >>= λ r. go_on (binary_of left op.0 r.0) r.1

unfoldable pub chain : Level → (List Token → Read Named) → ℕ → Named → List Token → Read Named
chain level operand zero left tokens = Some (left, tokens)
chain level operand (suc more) left tokens = next_operand (chain level operand more) operand left tokens (operator_at level tokens)

-- operand { operator operand }
abbrev pub chained : Level → (List Token → Read Named) → List Token → Read Named
chained level operand tokens = operand tokens >>= λ l. chain level operand most_tokens l.0 l.1

-- { "." name | "{" names "}" | "~" "{" names "}" }, behind an expression; so many more at most
abbrev pub field_of : Named → Bytes → Named
field_of e f = option_map (get_item f) e

abbrev pub included : Named → List Bytes → Named
included e fs = option_map (select (FieldSelection.Include fs)) e

abbrev pub excluded : Named → List Bytes → Named
excluded e fs = option_map (select (FieldSelection.Exclude fs)) e

abbrev pub dot_step : Named → List Token → Read Named
dot_step e tokens = name_at tokens >>= λ f. Some (field_of e f.0, f.1)

abbrev pub include_step : Named → List Token → Read Named
include_step e tokens = names_at tokens >>= λ fs. Some (included e fs.0, fs.1)

abbrev pub exclude_step : Named → List Token → Read Named
exclude_step e tokens = after signs.CurlyOpen tokens >>= λ rest. names_at rest >>= λ fs. Some (excluded e fs.0, fs.1)

-- which of these steps a sign begins
abbrev pub step_of : Sign → Option Step
step_of signs.Dot = Some step_kinds.Field
step_of signs.CurlyOpen = Some step_kinds.Include
step_of signs.Tilde = Some step_kinds.Exclude
step_of _ = None

abbrev pub token_step : Token → Option Step
token_step (Mark s) = step_of s
token_step (Reserved k) = None
token_step (Word f) = None
token_step (Quoted f) = None
token_step (Quote s) = None
token_step (Number digits suffix) = None

unfoldable pub step_at : List Token → Read Step
step_at [] = None
step_at (t ∷ rest) = token_step t >>= λ s. Some (s, rest)

abbrev pub step_with : Step → Named → List Token → Read Named
step_with step_kinds.Field e tokens = dot_step e tokens
step_with step_kinds.Include e tokens = include_step e tokens
step_with step_kinds.Exclude e tokens = exclude_step e tokens

abbrev pub next_step : (Named → List Token → Read Named) → Named → List Token → Read Step → Read Named
next_step go_on e tokens None = Some (e, tokens)
next_step go_on e tokens (Some s) = step_with s.0 e s.1 >>= λ x. go_on x.0 x.1

unfoldable pub steps : ℕ → Named → List Token → Read Named
steps zero e tokens = Some (e, tokens)
steps (suc more) e tokens = next_step (steps more) e tokens (step_at tokens)

abbrev pub steps_behind : Named → List Token → Read Named
steps_behind e tokens = steps most_tokens e tokens

-- a number behind "-"
abbrev pub negative_number : List Token → Read Named
negative_number [] = None
negative_number (Number digits suffix ∷ rest) = Some (number_literal true digits suffix, rest)
negative_number (Word s ∷ rest) = None
negative_number (Mark s ∷ rest) = None
negative_number (Reserved k ∷ rest) = None
negative_number (Quoted f ∷ rest) = None
negative_number (Quote s ∷ rest) = None

-- the calls, behind their word; the queries in them are read as given
abbrev pub arguments_with : (List Token → Read Named) → List Token → Read Arguments
arguments_with read tokens = parts read and_argument (0, Some []) signs.RoundClose tokens

unfoldable pub plain_call : (List Token → Read Named) → Keyword → List Token → Read Named
plain_call read k tokens = after signs.RoundOpen tokens >>= λ rest. arguments_with read rest >>= λ es. call_of k es.0 >>= λ e. Some (e, es.1)

abbrev pub named : (List Token → Read Named) → List Token → Read (Option (Bytes × Tree))
named read tokens = labelled read tokens >>= λ e. Some (with_name e.0.0 e.0.1, e.1)

abbrev pub all_named_with : (List Token → Read Named) → List Token → Read (Option (List (Bytes × Tree)))
all_named_with read tokens = parts (named read) and_one (Some []) signs.RoundClose tokens

unfoldable pub pack_call : (List Token → Read Named) → Nullability → List Token → Read Named
pack_call read n tokens = after signs.RoundOpen tokens >>= λ rest. all_named_with read rest >>= λ es. Some (pack_of n es.0, es.1)

unfoldable pub cast_call : (List Token → Read Named) → List Token → Read Named
cast_call read tokens =
    after signs.RoundOpen tokens >>= λ rest. read rest >>= λ e. after signs.Comma e.1 >>= λ more. type_front more >>= λ t.
    closed signs.RoundClose (option_map (λ x. cast x t.0) e.0, t.1)

-- atom, by its first token; the queries in it are read as given
abbrev pub word_atom : (List Token → Read Named) → Keyword → List Token → Read Named
word_atom read words.True rest = Some (Some (bool_literal true), rest)
word_atom read words.False rest = Some (Some (bool_literal false), rest)
word_atom read words.Lit rest = lit_behind rest
word_atom read words.Cast rest = cast_call read rest
word_atom read words.Pack rest = pack_call read NonNullable rest
word_atom read words.PackNull rest = pack_call read Nullable rest
word_atom read k rest = plain_call read k rest

abbrev pub sign_atom : (List Token → Read Named) → Sign → List Token → Read Named
sign_atom read signs.RoundOpen rest = read rest >>= closed signs.RoundClose
sign_atom read signs.Dollar rest = Some (Some root, rest)
sign_atom read signs.Minus rest = negative_number rest
sign_atom read _ rest = None

abbrev pub column : Bytes → Tree
column f = get_item f root

abbrev pub atom_with : (List Token → Read Named) → List Token → Read Named
atom_with read [] = None
atom_with read (Mark s ∷ rest) = sign_atom read s rest
atom_with read (Word f ∷ rest) = Some (Some (column f), rest)
atom_with read (Quoted f ∷ rest) = Some (Some (column f), rest)
atom_with read (Number digits suffix ∷ rest) = Some (number_literal false digits suffix, rest)
atom_with read (Quote s ∷ rest) = Some (Some (text_literal s), rest)
atom_with read (Reserved k ∷ rest) = word_atom read k rest

-- post = atom { "." name | "{" names "}" | "~" "{" names "}" }
abbrev pub post_with : (List Token → Read Named) → List Token → Read Named
post_with read tokens = atom_with read tokens >>= λ e. steps_behind e.0 e.1

-- sum = post { ("+" | "-") post }
abbrev pub sum_with : (List Token → Read Named) → List Token → Read Named
sum_with read tokens = chained levels.Sum (post_with read) tokens

-- compare = sum [ ("=" | "!=" | ">" | ">=" | "<" | "<=") sum ]
abbrev pub compared : (List Token → Read Named) → Named → List Token → Read Operator → Read Named
compared operand left tokens None = Some (left, tokens)
compared operand left tokens (Some op) = operand op.1 >>= λ r. Some (binary_of left op.0 r.0, r.1)

abbrev pub compare_with : (List Token → Read Named) → List Token → Read Named
compare_with read tokens = sum_with read tokens >>= λ l. compared (sum_with read) l.0 l.1 (operator_at levels.Comparison l.1)

-- not = "not" not | compare: a comparison behind so many `not`
abbrev pub one_more : ℕ × List Token → ℕ × List Token
one_more n = (1 + n.0, n.1)

unfoldable pub nots_at : List Token → ℕ × List Token
nots_at [] = (0, [])
nots_at (t ∷ tokens) = if is_not t then one_more (nots_at tokens) else (0, t ∷ tokens)

abbrev pub not_with : (List Token → Read Named) → List Token → Read Named
not_with read tokens = compare_with read (nots_at tokens).1 >>= λ e. Some (negated (nots_at tokens).0 e.0, e.1)

-- and = not { "and" not }
abbrev pub and_with : (List Token → Read Named) → List Token → Read Named
and_with read tokens = chained levels.Conjunction (not_with read) tokens

-- or = and { "or" and }
abbrev pub or_with : (List Token → Read Named) → List Token → Read Named
or_with read tokens = chained levels.Disjunction (and_with read) tokens

-- what stands on either side of an operator of a level
abbrev pub operand_with : Level → (List Token → Read Named) → List Token → Read Named
operand_with levels.Disjunction read tokens = and_with read tokens
operand_with levels.Conjunction read tokens = not_with read tokens
operand_with levels.Comparison read tokens = sum_with read tokens
operand_with levels.Sum read tokens = post_with read tokens

-- query = or, with so many queries one in another at most
unfoldable pub query_at : ℕ → List Token → Read Named
query_at zero tokens = None
query_at (suc deep) tokens = or_with (query_at deep) tokens

-- what tokens name that are a query and nothing else
abbrev pub whole : {A : Type 0} → A × List Token → Option A
whole (x, []) = Some x
whole (x, t ∷ rest) = None

unfoldable pub query_of : List Token → Option Named
query_of tokens = query_at most_tokens tokens >>= whole
