-- The line that is told of a refused statement, and the place in the statement that is told with it.
use Rattle.std.specs.Prelude.{ℕ, ◌+◌, ◌-◌, max, Bool, true, false, not, ◌&&◌, ◌||◌, ◌==◌, nat_eq, nat_lt, nat_le, cond, codes, decimal}
use Rattle.std.specs.Prelude.{List, [], ◌∷◌, ◌++◌, length, map, take, drop, slice_index, Option, Some, None}
use Rattle.std.specs.List.{flat_map, list_any, prefix_len, starts_with}
use Rattle.std.specs.Option.{option_map_or, unwrap_or}
use Rattle.std.specs.Char.{is_ascii_alphanumeric}
use Rattle.std.specs.Fmt.{signed_decimal}
use Rattle.std.specs.Str.{is_utf8}
use Rattle.sqlite_ast.specs.declared.Unary.{Unary}
use Rattle.sqlite_ast.specs.declared.Unary.TheVariants as before_one
use Rattle.sqlite_ast.specs.declared.Binary.{Binary}
use Rattle.sqlite_ast.specs.declared.Binary.TheVariants as between_two
use Rattle.sqlite_syntax.specs.declared.error.ParseError.{ParseError}
use Rattle.sqlite_syntax.specs.declared.error.ParseError.TheVariants as parsing
use Rattle.vx_dtype.specs.ScalarTexts.{scalar_text}
use Rattle.vx_dtype.specs.Texts.{ptype_text, ty_text}
use Rattle.vx_dtype.specs.TypeRules.{fields_of, field_names}
use Rattle.vx_dtype.specs.Types.{Bytes, Ty}
use Rattle.vx_dtype.specs.Values.{Raw, raw_null, raw_bool, raw_int, raw_text}
use Rattle.vx_expr.specs.CompactTexts.{compact_text}
use Rattle.vx_expr.specs.SelectionTexts.{joined_names}
use Rattle.vx_expr.specs.Trees.{Tree, root, literal, get_item}
use Rattle.vx_laws_sql.specs.Operands.{Operand, known, number, untyped_null, Mismatch, out_of_range, other_kinds, not_plain, no_common_type, no_boolean}
use Rattle.vx_laws_sql.specs.Operands.{no_number, no_cast, no_constants}
use Rattle.vx_laws_sql.specs.Operands as sql
use Rattle.vx_laws_statements.specs.Refusals.{Refusal, too_deep, no_call, no_case, no_query, no_parameter, no_fraction, no_hexadecimal, no_blob}
use Rattle.vx_laws_statements.specs.Refusals.{no_prefix, no_operator, no_integer, no_text, no_column, no_field, no_type, listed_column, no_constant}
use Rattle.vx_laws_statements.specs.Refusals.{misplaced, no_condition, StatementRefusal, zero_byte, unread, no_statement, no_select}
use Rattle.vx_laws_statements.specs.Refusals.{second_statement, no_with, no_compound, no_join, no_inner_query, no_alias, no_distinct, no_group}
use Rattle.vx_laws_statements.specs.Refusals.{no_having, no_offset, no_parameters, no_clock, no_table, no_table_name, in_where, in_select}
use Rattle.vx_laws_statements.specs.Refusals.{in_order, no_inner_columns, no_name, name_twice, several_keys, no_nulls_first, no_key, no_order, no_limit}

-- ---- words

-- a byte of a word: a letter, a digit, `_`, or one from 128 on
abbrev pub is_of_word : ℕ → Bool
is_of_word b = is_ascii_alphanumeric b || (b == 95 || nat_le 128 b)

-- the word, or the one mark, that a text begins with; nothing of an empty text
abbrev pub first_word : Bytes → Bytes
first_word s = take (max (prefix_len is_of_word s) 1) s

-- what stands between statements: white space, and `;`
abbrev pub is_between_statements : ℕ → Bool
is_between_statements b = b == 32 || (b == 59 || (nat_le 9 b && nat_le b 13))

-- the word that the first statement of a text begins with; nothing where it begins with something else
abbrev pub statement_word : Bytes → Bytes
statement_word text = let s = drop (prefix_len is_between_statements text) text in take (prefix_len is_of_word s) s

-- ---- names and texts

-- a byte of what is no text: as it is up to 127, else `?`
abbrev pub ascii_byte : ℕ → ℕ
ascii_byte b = cond (nat_lt b 128) b 63

-- bytes as a line shows them: as they are where they are UTF-8
unfoldable pub shown : Bytes → Bytes
shown s = cond (is_utf8 s) s (map ascii_byte s)

-- a name between two texts
abbrev pub named : Bytes → Bytes → Bytes → Bytes
named before s behind = before ++ (shown s ++ behind)

-- a text between `'`, with each `'` of it doubled
abbrev pub doubled_quote : ℕ → Bytes
doubled_quote b = cond (b == 39) (codes "''") (b ∷ [])

abbrev pub text_literal : Bytes → Bytes
text_literal s = codes "'" ++ (flat_map doubled_quote s ++ codes "'")

-- ---- expressions, as far as they can be as SQL writes them

-- a constant; a list or a struct stands as in the compact text of an expression
abbrev pub constant_text : Raw → Ty → Bytes
constant_text raw_null t = codes "NULL"
constant_text (raw_bool b) t = cond b (codes "TRUE") (codes "FALSE")
constant_text (raw_int i) t = signed_decimal i
constant_text (raw_text s) t = text_literal s
constant_text r t = scalar_text r t

-- whether an expression is the row, and the name of the column that it is
abbrev pub is_row : Tree → Bool
is_row root = true
is_row e = false

abbrev pub column_name : Tree → Option Bytes
column_name (get_item f e) = cond (is_row e) (Some f) None
column_name e = None

-- a column, and a field of a column; a field of something else stands as in the compact text
abbrev pub item_text : Bytes → Tree → Bytes
item_text f e = cond (is_row e) f (unwrap_or (column_name e) (compact_text e) ++ (codes "." ++ f))

unfoldable pub expression_text : Tree → Bytes
expression_text (literal s) = constant_text s.value s.ty
expression_text (get_item f e) = item_text f e
expression_text e = compact_text e

-- ---- operands that have no place in their form

-- of what kind an expression is: a constant a text or a boolean, and else one of a type
abbrev pub constant_kind : Raw → Ty → Bytes
constant_kind (raw_bool b) t = codes "a boolean"
constant_kind (raw_text s) t = codes "a text"
constant_kind r t = ty_text t

abbrev pub kind_text : Tree → Ty → Bytes
kind_text (literal s) t = constant_kind s.value t
kind_text e t = ty_text t

-- an operand, and of what kind it is
unfoldable pub operand_text : Operand → Bytes
operand_text (known e) = expression_text e.tree ++ (codes " is " ++ kind_text e.tree e.ty)
operand_text (number i) = signed_decimal i ++ codes " is a number"
operand_text untyped_null = codes "NULL"

-- an operand, and what stands in place of what it has to be
abbrev pub operand_line : Operand → Bytes → Bytes
operand_line o what = operand_text o ++ (codes ", " ++ what)

unfoldable pub mismatch_text : Mismatch → Bytes
mismatch_text (out_of_range i p) = signed_decimal i ++ (codes " is no " ++ ptype_text p)
mismatch_text (other_kinds l r) = operand_line l (operand_text r)
mismatch_text (not_plain o) = operand_line o (codes "a list or a struct")
mismatch_text (no_common_type p q) =
    codes "no integer type holds both " ++ (ptype_text p ++ (codes " and " ++ (ptype_text q ++ codes "; cast one of the two")))
mismatch_text (no_boolean o) = operand_line o (codes "no boolean")
mismatch_text (sql.no_text o) = operand_line o (codes "no text")
mismatch_text (no_number o) = operand_line o (codes "no number")
mismatch_text (no_cast o t) = operand_line o (codes "which isn't cast to " ++ ty_text t)
mismatch_text no_constants = codes "no constants stand in the list"

-- ---- refusals of an expression

-- an operator before its operand, or behind it
abbrev pub prefix_text : Unary → Bytes
prefix_text before_one.Minus = codes "-"
prefix_text before_one.Plus = codes "+"
prefix_text before_one.Not = codes "NOT"
prefix_text before_one.BitNot = codes "~"
prefix_text (before_one.Collate c) = codes "COLLATE"

-- an operator between two operands
abbrev pub operator_text : Binary → Bytes
operator_text between_two.Or = codes "OR"
operator_text between_two.And = codes "AND"
operator_text between_two.Eq = codes "="
operator_text between_two.Ne = codes "<>"
operator_text between_two.Is = codes "IS"
operator_text between_two.IsNot = codes "IS"
operator_text between_two.Like = codes "LIKE"
operator_text between_two.Lt = codes "<"
operator_text between_two.Le = codes "<="
operator_text between_two.Gt = codes ">"
operator_text between_two.Ge = codes ">="
operator_text between_two.BitAnd = codes "&"
operator_text between_two.BitOr = codes "|"
operator_text between_two.LShift = codes "<<"
operator_text between_two.RShift = codes ">>"
operator_text between_two.Add = codes "+"
operator_text between_two.Sub = codes "-"
operator_text between_two.Mul = codes "*"
operator_text between_two.Div = codes "/"
operator_text between_two.Rem = codes "%"
operator_text between_two.Concat = codes "||"

-- a name that is no column, with the names that are some
abbrev pub no_column_text : Ty → Bytes → Bytes
no_column_text t f = named (codes "no column ") f (codes "; the columns are " ++ joined_names [] (field_names (fields_of t)))

-- a name that is no field of a column
abbrev pub no_field_text : Bytes → Bytes → Bytes
no_field_text c f = named (codes "no field ") f (named (codes " of the column ") c [])

-- a column, or a field of one, in a list of constants
abbrev pub listed_text : Option Bytes → Bytes → Bytes
listed_text None f = named [] f (codes " is no constant")
listed_text (Some c) f = named [] c (named (codes ".") f (codes " is no constant"))

unfoldable pub refusal_text : Ty → Refusal → Bytes
refusal_text t too_deep = codes "the expression is too deep"
refusal_text t (no_call f) = named (codes "the call of ") f (codes " is not taken")
refusal_text t no_case = codes "CASE is not taken"
refusal_text t no_query = codes "a query is not taken"
refusal_text t no_parameter = codes "a parameter is not taken"
refusal_text t (no_fraction s) = named (codes "the number ") s (codes " is not taken")
refusal_text t (no_hexadecimal s) = named (codes "the number ") s (codes " is not taken")
refusal_text t (no_blob s) = named (codes "the blob ") s (codes " is not taken")
refusal_text t (no_prefix op) = prefix_text op ++ codes " is not taken"
refusal_text t (no_operator op) = operator_text op ++ codes " is not taken"
refusal_text t (no_integer s) = named (codes "the number ") s (codes " is of no integer type")
refusal_text t (no_text s) = named (codes "the text ") s (codes " isn't UTF-8")
refusal_text t (no_column f) = no_column_text t f
refusal_text t (no_field c f) = no_field_text c f
refusal_text t (no_type s) =
    named (codes "no type ") s (codes "; the types are bool, utf8, u8 to u64, i8 to i64, each with ? behind it or without")
refusal_text t (listed_column c f) = listed_text c f
refusal_text t no_constant = codes "a member of a list is no constant"
refusal_text t (misplaced m) = mismatch_text m
refusal_text t (no_condition o) = operand_line o (codes "no boolean")

-- ---- what can't be read

-- a place in a text, and what is told of it
abbrev pub at_byte : ℕ → Bytes → Bytes
at_byte place what = codes "at byte " ++ (decimal place ++ (codes ": " ++ what))

-- the word where a text can't be read, which is empty at its end
abbrev pub unread_word : Bytes → Bytes
unread_word s = cond (length s == 0) (codes "the statement ends too early") (named (codes "\"") s (codes "\" can't be read here"))

abbrev pub unread_at : Bytes → ℕ → Bytes
unread_at text place = at_byte place (unread_word (first_word (drop place text)))

-- no line for want of memory, which is no refusal
abbrev pub unread_line : Bytes → ParseError → Bytes
unread_line text (parsing.Syntax left) = unread_at text (length text - left)
unread_line text (parsing.Unsupported left) = unread_at text (length text - left)
unread_line text parsing.TooDeep = codes "the statement is too deep"
unread_line text parsing.BadParameter = codes "parameters are not taken"
unread_line text parsing.OutOfMemory = []

-- another statement than SELECT, by the word that it begins with, where there is one
abbrev pub no_select_line : Bytes → Bytes
no_select_line s = cond (length s == 0) (codes "another statement than SELECT is not taken") (named [] s (codes " is not taken"))

-- ---- lines

-- the line of a refusal that holds nothing
abbrev pub fixed_line : StatementRefusal → Option Bytes
fixed_line no_statement = Some (codes "no statement")
fixed_line no_with = Some (codes "WITH is not taken")
fixed_line no_compound = Some (codes "UNION, EXCEPT and INTERSECT are not taken")
fixed_line no_distinct = Some (codes "DISTINCT is not taken")
fixed_line no_group = Some (codes "GROUP BY is not taken")
fixed_line no_having = Some (codes "HAVING is not taken")
fixed_line no_offset = Some (codes "OFFSET is not taken")
fixed_line no_parameters = Some (codes "parameters are not taken")
fixed_line no_clock = Some (codes "what reads the clock is not taken")
fixed_line no_table = Some (codes "FROM: no table")
fixed_line no_join = Some (codes "FROM: a join is not taken")
fixed_line no_inner_query = Some (codes "FROM: a query is not taken")
fixed_line several_keys = Some (codes "ORDER BY: more than one key")
fixed_line no_nulls_first = Some (codes "ORDER BY: NULLS FIRST is not taken")
fixed_line no_key = Some (codes "ORDER BY: the key is no column")
fixed_line no_limit = Some (codes "LIMIT: no number from 0 to 2^64 - 1")
fixed_line _ = None

-- how an expression that is written so gets a name
unfoldable pub naming_advice : Bytes → Bytes
naming_advice s = named (codes " has no name; write ") s (codes " AS a name")

-- an expression without a name, as it is written
abbrev pub no_name_line : Bytes → Bytes
no_name_line s = named (codes "SELECT: ") s (naming_advice s)

-- the line of a refusal that holds a place, a name or an expression, or is told by the statement
unfoldable pub held_line : Bytes → Ty → StatementRefusal → Bytes
held_line text t (zero_byte place) = at_byte place (codes "a byte 0 can't be read")
held_line text t (unread e) = unread_line text e
held_line text t no_select = no_select_line (statement_word text)
held_line text t (second_statement place) = at_byte place (codes "a second statement")
held_line text t (no_alias s) = named (codes "FROM: the alias ") s (codes " is not taken")
held_line text t (no_table_name s) = named (codes "FROM: the name ") s (codes " isn't UTF-8")
held_line text t (in_where r) = codes "WHERE: " ++ refusal_text t r
held_line text t (in_select r) = codes "SELECT: " ++ refusal_text t r
held_line text t (in_order r) = codes "ORDER BY: " ++ refusal_text t r
held_line text t (no_inner_columns s) = named (codes "SELECT: ") s (codes ".* is not taken")
held_line text t (no_name s) = no_name_line s
held_line text t (name_twice s) = named (codes "SELECT: the name ") s (codes " stands twice")
held_line text t (no_order f) = named (codes "ORDER BY: ") f (codes " is of no plain type")
held_line text t _ = []

-- the line that is told where a statement over a table whose rows have this type is refused
unfoldable pub line_of : Bytes → Ty → StatementRefusal → Bytes
line_of text t r = option_map_or (λ line. line) (fixed_line r) (held_line text t r)

-- ---- the word that a refusal of a clause quotes

-- a name is looked for in a text where no quote stands in it: a quote is written twice, or it isn't, by what the name stands between
abbrev pub is_quote : ℕ → Bool
is_quote b = b == 34 || (b == 39 || b == 96)

abbrev pub name_word : Bytes → Option Bytes
name_word s = cond (list_any is_quote s) None (Some s)

-- the name of a column, or of a field
abbrev pub item_word : Tree → Option Bytes
item_word (get_item f e) = name_word f
item_word e = None

abbrev pub operand_word : Operand → Option Bytes
operand_word (known e) = item_word e.tree
operand_word o = None

abbrev pub either_word : Option Bytes → Option Bytes → Option Bytes
either_word (Some s) other = Some s
either_word None other = other

-- a number isn't looked for where the refusal has it without its digits
abbrev pub mismatch_word : Mismatch → Option Bytes
mismatch_word (out_of_range i p) = None
mismatch_word (other_kinds l r) = either_word (operand_word l) (operand_word r)
mismatch_word (not_plain o) = operand_word o
mismatch_word (no_common_type p q) = None
mismatch_word (no_boolean o) = operand_word o
mismatch_word (sql.no_text o) = operand_word o
mismatch_word (no_number o) = operand_word o
mismatch_word (no_cast o t) = operand_word o
mismatch_word no_constants = None

-- an operator isn't looked for: the same sign may stand in another form
abbrev pub refusal_word : Refusal → Option Bytes
refusal_word (no_call f) = name_word f
refusal_word (no_fraction s) = Some s
refusal_word (no_hexadecimal s) = Some s
refusal_word (no_blob s) = Some s
refusal_word (no_integer s) = Some s
refusal_word (no_text s) = name_word s
refusal_word (no_column f) = name_word f
refusal_word (no_field c f) = name_word f
refusal_word (no_type s) = name_word s
refusal_word (listed_column c f) = name_word f
refusal_word (misplaced m) = mismatch_word m
refusal_word (no_condition o) = operand_word o
refusal_word r = None

-- the word that a refusal of a clause quotes, and that stands in the statement
unfoldable pub quoted_word : StatementRefusal → Option Bytes
quoted_word (no_alias s) = name_word s
quoted_word (no_table_name s) = name_word s
quoted_word (in_where r) = refusal_word r
quoted_word (in_select r) = refusal_word r
quoted_word (in_order r) = refusal_word r
quoted_word (no_inner_columns s) = name_word s
quoted_word (no_name s) = Some s
quoted_word (name_twice s) = name_word s
quoted_word (no_order f) = name_word f
quoted_word r = None

-- ---- places

-- whether the word at the head of a text goes on with the word before it: both bytes are of a word
abbrev pub begins_within : Bool → Bytes → Bool
begins_within before word = before && is_of_word (slice_index word 0)

-- whether a word goes on with a text behind it
abbrev pub ends_within : Bytes → Bytes → Bool
ends_within word behind = is_of_word (slice_index word (length word - 1)) && is_of_word (slice_index behind 0)

-- whether a text begins with a word that stands there whole, behind a byte that is of a word or isn't
abbrev pub begins_with_word : Bytes → Bool → Bytes → Bool
begins_with_word word before s = starts_with nat_eq s word && (not (begins_within before word) && not (ends_within word (drop (length word) s)))

abbrev pub placed_where : Bool → ℕ → List ℕ → List ℕ
placed_where true place places = place ∷ places
placed_where false place places = places

-- the places where a word stands whole in a text, of which the first is given by its number
unfoldable pub places_from : Bytes → Bool → ℕ → Bytes → List ℕ
places_from word before place [] = []
places_from word before place (b ∷ s) =
    placed_where (begins_with_word word before (b ∷ s)) place (places_from word (is_of_word b) (place + 1) s)

abbrev pub only_one : List ℕ → Option ℕ
only_one (place ∷ []) = Some place
only_one places = None

-- the place where a word that isn't empty stands whole in a text, where it stands there once
unfoldable pub place_of : Bytes → Bytes → Option ℕ
place_of text word = cond (length word == 0) None (only_one (places_from word false 0 text))

-- a longer word isn't looked for, so that a text is gone over in a time that its length bounds
abbrev pub longest_word : ℕ
longest_word = 128

abbrev pub word_place : Bytes → Option Bytes → Option ℕ
word_place text None = None
word_place text (Some word) = cond (nat_le (length word) longest_word) (place_of text word) None

-- where a text of so many bytes can't be read
abbrev pub unread_place : ℕ → ParseError → Option ℕ
unread_place n (parsing.Syntax left) = Some (n - left)
unread_place n (parsing.Unsupported left) = Some (n - left)
unread_place n e = None

-- the place that is told with the line: where the text can't be read, or where the word stands that the line quotes
unfoldable pub refused_at : Bytes → StatementRefusal → Option ℕ
refused_at text (zero_byte place) = Some place
refused_at text (unread e) = unread_place (length text) e
refused_at text (second_statement place) = Some place
refused_at text r = word_place text (quoted_word r)
