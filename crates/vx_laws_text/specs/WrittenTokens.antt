-- The tokens of a written text, each time with the tokens that stand behind it.
use Rattle.std.specs.Prelude.{suc, ℤ, pos, negsuc, Bool, true, false, List, [], ◌∷◌, ◌++◌, Option, Some, None, if◌then◌else◌, codes, decimal}
use Rattle.vx_dtype.specs.declared.StrictComparison.{StrictComparison}
use Rattle.vx_dtype.specs.declared.StrictComparison.TheVariants.{Strict, NonStrict}
use Rattle.vx_dtype.specs.declared.BetweenOptions.{BetweenOptions}
use Rattle.vx_dtype.specs.declared.PType.{PType}
use Rattle.vx_dtype.specs.declared.Nullability.{Nullability}
use Rattle.vx_dtype.specs.declared.Nullability.TheVariants.{NonNullable, Nullable}
use Rattle.vx_dtype.specs.Types.{Bytes, Ty, bool_ty, int_ty, text_ty, list_ty, struct_ty, Fields, no_fields, field}
use Rattle.vx_dtype.specs.Values.{Raw, raw_null, raw_bool, raw_int, raw_text, raw_list, raw_struct, Raws, no_raws, raw, Typed}
use Rattle.vx_dtype.specs.Texts.{ptype_text}
use Rattle.vx_expr.specs.declared.operators.Operator.{Operator}
use Rattle.vx_expr.specs.declared.selections.FieldSelection.{FieldSelection}
use Rattle.vx_expr.specs.Trees.{Tree, root, literal, get_item, binary, not_of, is_null_of, like, between, cast}
use Rattle.vx_expr.specs.Trees.{list_contains, pack, merge, select, dynamic, Trees, no_trees, tree}
use Rattle.vx_tokens.specs.declared.tokens.Keyword.{Keyword}
use Rattle.vx_tokens.specs.declared.tokens.Keyword.TheVariants as words
use Rattle.vx_tokens.specs.declared.tokens.Sign.TheVariants as signs
use Rattle.vx_tokens.specs.declared.tokens.Token.{Token}
use Rattle.vx_tokens.specs.declared.tokens.Token.TheVariants.{Reserved, Word, Quoted, Quote, Number, Mark}
use Rattle.vx_tokens.specs.Names.{is_plain_word}
use Rattle.vx_text.specs.Writing.{is_bare}

-- a name: a word where it can be one
unfoldable pub name_token : Bytes → Token
name_token s = if is_plain_word s then Word s else Quoted s

-- names, the first behind the separator, each other one behind a comma
unfoldable pub name_tokens : List Token → List Bytes → List Token → List Token
name_tokens separator [] rest = rest
name_tokens separator (f ∷ fs) rest = separator ++ (name_token f ∷ name_tokens (Mark signs.Comma ∷ []) fs rest)

abbrev pub choice_tokens : FieldSelection → List Token → List Token
choice_tokens (FieldSelection.Include fs) rest = Mark signs.CurlyOpen ∷ name_tokens [] fs (Mark signs.CurlyClose ∷ rest)
choice_tokens (FieldSelection.Exclude fs) rest = Mark signs.Tilde ∷ Mark signs.CurlyOpen ∷ name_tokens [] fs (Mark signs.CurlyClose ∷ rest)

abbrev pub nullability_tokens : Nullability → List Token → List Token
nullability_tokens NonNullable rest = rest
nullability_tokens Nullable rest = Mark signs.Question ∷ rest

unfoldable mutual
  -- a type
  pub type_tokens : Ty → List Token → List Token
  type_tokens (bool_ty n) rest = Word (codes "bool") ∷ nullability_tokens n rest
  type_tokens (int_ty p n) rest = Word (ptype_text p) ∷ nullability_tokens n rest
  type_tokens (text_ty n) rest = Word (codes "utf8") ∷ nullability_tokens n rest
  type_tokens (list_ty e n) rest = Word (codes "list") ∷ Mark signs.RoundOpen ∷ type_tokens e (Mark signs.RoundClose ∷ nullability_tokens n rest)
  type_tokens (struct_ty fs n) rest = Mark signs.CurlyOpen ∷ label_tokens [] fs (Mark signs.CurlyClose ∷ nullability_tokens n rest)

  -- the types of fields, each behind its name
  pub label_tokens : List Token → Fields → List Token → List Token
  label_tokens separator no_fields rest = rest
  label_tokens separator (field f t fs) rest =
      separator ++ (name_token f ∷ Mark signs.Colon ∷ type_tokens t (label_tokens (Mark signs.Comma ∷ []) fs rest))

-- a number, with the name of an integer type behind it or without
abbrev pub number_tokens : ℤ → Option PType → List Token → List Token
number_tokens (pos n) suffix rest = Number (decimal n) suffix ∷ rest
number_tokens (negsuc n) suffix rest = Mark signs.Minus ∷ Number (decimal (suc n)) suffix ∷ rest

abbrev pub truth_token : Bool → Token
truth_token true = Reserved words.True
truth_token false = Reserved words.False

unfoldable mutual
  -- an item
  pub item_tokens : Raw → List Token → List Token
  item_tokens raw_null rest = Reserved words.Null ∷ rest
  item_tokens (raw_bool b) rest = truth_token b ∷ rest
  item_tokens (raw_int i) rest = number_tokens i None rest
  item_tokens (raw_text s) rest = Quote s ∷ rest
  item_tokens (raw_list xs) rest = Mark signs.SquareOpen ∷ items_tokens [] xs (Mark signs.SquareClose ∷ rest)
  item_tokens (raw_struct xs) rest = Mark signs.CurlyOpen ∷ items_tokens [] xs (Mark signs.CurlyClose ∷ rest)

  -- items, the first behind the separator, each other one behind a comma
  pub items_tokens : List Token → Raws → List Token → List Token
  items_tokens separator no_raws rest = rest
  items_tokens separator (raw x xs) rest = separator ++ item_tokens x (items_tokens (Mark signs.Comma ∷ []) xs rest)

-- a constant that is written without its type, but for the one of a number
abbrev pub number_type : Ty → Option PType
number_type (int_ty p n) = Some p
number_type _ = None

abbrev pub bare_tokens : Ty → Raw → List Token → List Token
bare_tokens t (raw_int i) rest = number_tokens i (number_type t) rest
bare_tokens t x rest = item_tokens x rest

-- a constant
unfoldable pub literal_tokens : Typed → List Token → List Token
literal_tokens s rest =
    if is_bare s.ty then bare_tokens s.ty s.value rest
    else Reserved words.Lit ∷ Mark signs.RoundOpen ∷ type_tokens s.ty (Mark signs.Comma ∷ item_tokens s.value (Mark signs.RoundClose ∷ rest))

abbrev pub operator_token : Operator → Token
operator_token Operator.Or = Reserved words.Or
operator_token Operator.And = Reserved words.And
operator_token Operator.Eq = Mark signs.Eq
operator_token Operator.NotEq = Mark signs.NotEq
operator_token Operator.Gt = Mark signs.Gt
operator_token Operator.Gte = Mark signs.Gte
operator_token Operator.Lt = Mark signs.Lt
operator_token Operator.Lte = Mark signs.Lte
operator_token Operator.Add = Mark signs.Plus
operator_token Operator.Sub = Mark signs.Minus

abbrev pub like_keyword : Bool → Bool → Keyword
like_keyword false false = words.Like
like_keyword true false = words.NotLike
like_keyword false true = words.Ilike
like_keyword true true = words.NotIlike

abbrev pub range_keyword : StrictComparison → StrictComparison → Keyword
range_keyword NonStrict NonStrict = words.Between
range_keyword Strict Strict = words.BetweenOo
range_keyword Strict NonStrict = words.BetweenOc
range_keyword NonStrict Strict = words.BetweenCo

abbrev pub between_keyword : BetweenOptions → Keyword
between_keyword options = range_keyword options.lower_strict options.upper_strict

abbrev pub pack_keyword : Nullability → Keyword
pack_keyword NonNullable = words.Pack
pack_keyword Nullable = words.PackNull

abbrev pub merge_keyword : Nullability → Keyword
merge_keyword NonNullable = words.Merge
merge_keyword Nullable = words.MergeNull

unfoldable mutual
  -- an expression
  pub query_tokens : Tree → List Token → List Token
  query_tokens root rest = Mark signs.Dollar ∷ rest
  query_tokens (literal s) rest = literal_tokens s rest
  query_tokens (get_item f e) rest = query_tokens e (Mark signs.Dot ∷ name_token f ∷ rest)
  query_tokens (binary l op r) rest =
      Mark signs.RoundOpen ∷ query_tokens l (operator_token op ∷ query_tokens r (Mark signs.RoundClose ∷ rest))
  query_tokens (not_of e) rest = Mark signs.RoundOpen ∷ Reserved words.Not ∷ query_tokens e (Mark signs.RoundClose ∷ rest)
  query_tokens (is_null_of e) rest = Reserved words.IsNull ∷ Mark signs.RoundOpen ∷ query_tokens e (Mark signs.RoundClose ∷ rest)
  query_tokens (like e p negated fold_case) rest =
      Reserved (like_keyword negated fold_case) ∷ Mark signs.RoundOpen ∷ query_tokens e (Mark signs.Comma ∷ query_tokens p (Mark signs.RoundClose ∷ rest))
  query_tokens (between e lower upper options) rest =
      Reserved (between_keyword options) ∷ Mark signs.RoundOpen
      ∷ query_tokens e (Mark signs.Comma ∷ query_tokens lower (Mark signs.Comma ∷ query_tokens upper (Mark signs.RoundClose ∷ rest)))
  query_tokens (cast e t) rest =
      Reserved words.Cast ∷ Mark signs.RoundOpen ∷ query_tokens e (Mark signs.Comma ∷ type_tokens t (Mark signs.RoundClose ∷ rest))
  query_tokens (list_contains l v) rest =
      Reserved words.Contains ∷ Mark signs.RoundOpen ∷ query_tokens l (Mark signs.Comma ∷ query_tokens v (Mark signs.RoundClose ∷ rest))
  query_tokens (pack names es n) rest = Reserved (pack_keyword n) ∷ Mark signs.RoundOpen ∷ named_tokens [] names es (Mark signs.RoundClose ∷ rest)
  query_tokens (merge es n) rest = Reserved (merge_keyword n) ∷ Mark signs.RoundOpen ∷ listed_tokens [] es (Mark signs.RoundClose ∷ rest)
  query_tokens (select s e) rest = query_tokens e (choice_tokens s rest)
  query_tokens (dynamic e op k t default) rest = rest

  -- expressions, the first behind the separator, each other one behind a comma
  pub listed_tokens : List Token → Trees → List Token → List Token
  listed_tokens separator no_trees rest = rest
  listed_tokens separator (tree e es) rest = separator ++ query_tokens e (listed_tokens (Mark signs.Comma ∷ []) es rest)

  -- the same with a name before each, as far as both lists go
  pub named_tokens : List Token → List Bytes → Trees → List Token → List Token
  named_tokens separator (f ∷ names) (tree e es) rest =
      separator ++ (name_token f ∷ Mark signs.Colon ∷ query_tokens e (named_tokens (Mark signs.Comma ∷ []) names es rest))
  named_tokens separator _ _ rest = rest
