-- The written text of an expression, one line for each kind.
use Rattle.std.specs.Prelude.{◌≡◌, Bool, true, false, not, ◌&&◌, List, [], ◌∷◌, ◌++◌, Result, Ok, Err, if◌then◌else◌, codes}
use Rattle.std.specs.Fmt.{signed_decimal}
use Rattle.vx_dtype.specs.declared.StrictComparison.{StrictComparison}
use Rattle.vx_dtype.specs.declared.StrictComparison.TheVariants.{Strict, NonStrict}
use Rattle.vx_dtype.specs.declared.BetweenOptions.{BetweenOptions}
use Rattle.vx_dtype.specs.declared.Nullability.{Nullability}
use Rattle.vx_dtype.specs.declared.Nullability.TheVariants.{NonNullable, Nullable}
use Rattle.vx_dtype.specs.Types.{Bytes, Ty, bool_ty, int_ty, text_ty, list_ty, struct_ty, Fields, no_fields, field}
use Rattle.vx_dtype.specs.TypeRules.{nullability_of, is_nullable, is_plain}
use Rattle.vx_dtype.specs.Values.{Raw, raw_null, raw_bool, raw_int, raw_text, raw_list, raw_struct, Raws, no_raws, raw, Typed}
use Rattle.vx_dtype.specs.Texts.{nullability_text, ptype_text}
use Rattle.vx_dtype.specs.ScalarTexts.{number_suffix, in_brackets, in_braces}
use Rattle.vx_expr.specs.declared.selections.FieldSelection.{FieldSelection}
use Rattle.vx_expr.specs.OperatorTexts.{operator_text}
use Rattle.vx_expr.specs.Trees.{Tree, root, literal, get_item, binary, not_of, is_null_of, like, between, cast}
use Rattle.vx_expr.specs.Trees.{list_contains, pack, merge, select, dynamic, Trees, no_trees, tree}
use Rattle.vx_text.specs.declared.errors.TextError.{TextError}
use Rattle.vx_text.specs.declared.errors.TextError.TheVariants as errors
use Rattle.vx_tokens.specs.Names.{within_marks, name_text, names_text}

-- a choice of fields: `{a, b}`, or `~{a, b}`
abbrev pub choice_text : FieldSelection → Bytes
choice_text (FieldSelection.Include fs) = codes "{" ++ (names_text [] fs ++ codes "}")
choice_text (FieldSelection.Exclude fs) = codes "~{" ++ (names_text [] fs ++ codes "}")

unfoldable mutual
  -- a type: its name, `list(type)` or `{name: type, name: type}`, and `?` where it is nullable
  pub type_text : Ty → Bytes
  type_text (bool_ty n) = codes "bool" ++ nullability_text n
  type_text (int_ty p n) = ptype_text p ++ nullability_text n
  type_text (text_ty n) = codes "utf8" ++ nullability_text n
  type_text (list_ty e n) = codes "list(" ++ (type_text e ++ (codes ")" ++ nullability_text n))
  type_text (struct_ty fs n) = codes "{" ++ (labels_text [] fs ++ (codes "}" ++ nullability_text n))

  -- the types of fields, each behind its name
  pub labels_text : Bytes → Fields → Bytes
  labels_text separator no_fields = []
  labels_text separator (field f t fs) = separator ++ (name_text f ++ (codes ": " ++ (type_text t ++ labels_text (codes ", ") fs)))

unfoldable mutual
  -- an item: a value without its type, as `null`, `true`, `-5`, `'a'`, `[1, 2]`, `{1, 'a'}`
  pub item_text : Raw → Bytes
  item_text raw_null = codes "null"
  item_text (raw_bool b) = if b then codes "true" else codes "false"
  item_text (raw_int i) = signed_decimal i
  item_text (raw_text s) = within_marks 39 s
  item_text (raw_list xs) = in_brackets (items_text [] xs)
  item_text (raw_struct xs) = in_braces (items_text [] xs)

  -- items, the first behind the separator, each other one behind `, `
  pub items_text : Bytes → Raws → Bytes
  items_text separator no_raws = []
  items_text separator (raw x xs) = separator ++ (item_text x ++ items_text (codes ", ") xs)

-- whether a constant of this type is written without `lit`: a boolean, number or text, where null isn't one of its values
abbrev pub is_bare : Ty → Bool
is_bare t = is_plain t && not (is_nullable (nullability_of t))

-- a constant: `true`, `10i32`, `-5i8`, `'a'`, or else `lit(type, item)`
unfoldable pub literal_text : Typed → Bytes
literal_text s =
    if is_bare s.ty then item_text s.value ++ number_suffix s.ty else codes "lit(" ++ (type_text s.ty ++ (codes ", " ++ (item_text s.value ++ codes ")")))

-- the words of the calls that have several: a match by whether it is negated, and whether it disregards case; a range by which bounds are strict
abbrev pub like_word : Bool → Bool → Bytes
like_word false false = codes "like"
like_word true false = codes "not_like"
like_word false true = codes "ilike"
like_word true true = codes "not_ilike"

abbrev pub range_word : StrictComparison → StrictComparison → Bytes
range_word NonStrict NonStrict = codes "between"
range_word Strict Strict = codes "between_oo"
range_word Strict NonStrict = codes "between_oc"
range_word NonStrict Strict = codes "between_co"

abbrev pub between_word : BetweenOptions → Bytes
between_word options = range_word options.lower_strict options.upper_strict

abbrev pub pack_word : Nullability → Bytes
pack_word NonNullable = codes "pack"
pack_word Nullable = codes "pack_null"

abbrev pub merge_word : Nullability → Bytes
merge_word NonNullable = codes "merge"
merge_word Nullable = codes "merge_null"

unfoldable mutual
  -- the text of an expression; a dynamic comparison has none
  pub query_text : Tree → Bytes
  query_text root = codes "$"
  query_text (literal s) = literal_text s
  query_text (get_item f e) = query_text e ++ (codes "." ++ name_text f)
  query_text (binary l op r) = codes "(" ++ (query_text l ++ (codes " " ++ (operator_text op ++ (codes " " ++ (query_text r ++ codes ")")))))
  query_text (not_of e) = codes "(not " ++ (query_text e ++ codes ")")
  query_text (is_null_of e) = codes "is_null(" ++ (query_text e ++ codes ")")
  query_text (like e p negated fold_case) = like_word negated fold_case ++ (codes "(" ++ (query_text e ++ (codes ", " ++ (query_text p ++ codes ")"))))
  query_text (between e lower upper options) =
      between_word options ++ (codes "(" ++ (query_text e ++ (codes ", " ++ (query_text lower ++ (codes ", " ++ (query_text upper ++ codes ")"))))))
  query_text (cast e t) = codes "cast(" ++ (query_text e ++ (codes ", " ++ (type_text t ++ codes ")")))
  query_text (list_contains l v) = codes "contains(" ++ (query_text l ++ (codes ", " ++ (query_text v ++ codes ")")))
  query_text (pack names es n) = pack_word n ++ (codes "(" ++ (named_texts [] names es ++ codes ")"))
  query_text (merge es n) = merge_word n ++ (codes "(" ++ (listed_texts [] es ++ codes ")"))
  query_text (select s e) = query_text e ++ choice_text s
  query_text (dynamic e op k t default) = []

  -- expressions, the first behind the separator, each other one behind `, `
  pub listed_texts : Bytes → Trees → Bytes
  listed_texts separator no_trees = []
  listed_texts separator (tree e es) = separator ++ (query_text e ++ listed_texts (codes ", ") es)

  -- the same with a name before each, as far as both lists go
  pub named_texts : Bytes → List Bytes → Trees → Bytes
  named_texts separator (f ∷ names) (tree e es) = separator ++ (name_text f ++ (codes ": " ++ (query_text e ++ named_texts (codes ", ") names es)))
  named_texts separator _ _ = []

unfoldable mutual
  -- whether an expression has a text: no dynamic comparison stands in it
  pub is_writable : Tree → Bool
  is_writable root = true
  is_writable (literal s) = true
  is_writable (get_item f e) = is_writable e
  is_writable (binary l op r) = is_writable l && is_writable r
  is_writable (not_of e) = is_writable e
  is_writable (is_null_of e) = is_writable e
  is_writable (like e p negated fold_case) = is_writable e && is_writable p
  is_writable (between e lower upper options) = is_writable e && (is_writable lower && is_writable upper)
  is_writable (cast e t) = is_writable e
  is_writable (list_contains l v) = is_writable l && is_writable v
  is_writable (pack names es n) = all_writable es
  is_writable (merge es n) = all_writable es
  is_writable (select s e) = is_writable e
  is_writable (dynamic e op k t default) = false

  pub all_writable : Trees → Bool
  all_writable no_trees = true
  all_writable (tree e es) = is_writable e && all_writable es

-- the text of an expression, or the refusal
abbrev pub writing_of : Tree → Result Bytes TextError
writing_of e = if is_writable e then Ok (query_text e) else Err errors.NotWritable

-- the answer is this, but for want of memory, which may be answered at any time
abbrev pub IsWritten : Tree → Result Bytes TextError → Type 0
IsWritten e (Err errors.NoMemory) = Unit {0}
IsWritten e answer = writing_of e ≡ answer
