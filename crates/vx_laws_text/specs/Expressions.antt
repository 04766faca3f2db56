-- What an expression of the code is: names and texts are UTF-8, a constant is one of its type, and a struct has as many values as names.
use Rattle.std.specs.Prelude.{◌≡◌, true, List, length}
use Rattle.std.specs.List.{AllByRecursion}
use Rattle.std.specs.Str.{is_utf8}
use Rattle.vx_dtype.specs.Types.{Bytes, Ty, bool_ty, int_ty, text_ty, list_ty, struct_ty, Fields, no_fields, field}
use Rattle.vx_dtype.specs.Values.{Raw, raw_null, raw_bool, raw_int, raw_text, raw_list, raw_struct, Raws, no_raws, raw, Typed}
use Rattle.vx_dtype.specs.Fits.{fits}
use Rattle.vx_expr.specs.Selections.{listed_names}
use Rattle.vx_expr.specs.Trees.{Tree, root, literal, get_item, binary, not_of, is_null_of, like, between, cast}
use Rattle.vx_expr.specs.Trees.{list_contains, pack, merge, select, dynamic, Trees, no_trees, tree, listed}

-- bytes of a text or a name
abbrev pub IsText : Bytes → Type 0
IsText s = is_utf8 s ≡ true

abbrev pub AreTexts : List Bytes → Type 0
AreTexts names = AllByRecursion IsText names

abbrev mutual
  -- each name in a type is UTF-8
  pub IsType : Ty → Type 0
  IsType (bool_ty n) = Unit {0}
  IsType (int_ty p n) = Unit {0}
  IsType (text_ty n) = Unit {0}
  IsType (list_ty e n) = IsType e
  IsType (struct_ty fs n) = AreFields fs

  pub AreFields : Fields → Type 0
  AreFields no_fields = Unit {0}
  AreFields (field f t fs) = IsText f × IsType t × AreFields fs

abbrev mutual
  -- each text in a value is UTF-8
  pub HasTexts : Raw → Type 0
  HasTexts raw_null = Unit {0}
  HasTexts (raw_bool b) = Unit {0}
  HasTexts (raw_int i) = Unit {0}
  HasTexts (raw_text s) = IsText s
  HasTexts (raw_list xs) = HaveTexts xs
  HasTexts (raw_struct xs) = HaveTexts xs

  pub HaveTexts : Raws → Type 0
  HaveTexts no_raws = Unit {0}
  HaveTexts (raw x xs) = HasTexts x × HaveTexts xs

-- a constant
pub record IsConstant (s : Typed) : Type 0 where
  pub type : IsType s.ty
  pub texts : HasTexts s.value
  pub fit : fits s.value s.ty ≡ true

abbrev mutual
  -- an expression
  pub IsExpression : Tree → Type 0
  IsExpression root = Unit {0}
  IsExpression (literal s) = IsConstant s
  IsExpression (get_item f e) = IsText f × IsExpression e
  IsExpression (binary l op r) = IsExpression l × IsExpression r
  IsExpression (not_of e) = IsExpression e
  IsExpression (is_null_of e) = IsExpression e
  IsExpression (like e p negated fold_case) = IsExpression e × IsExpression p
  IsExpression (between e lower upper options) = IsExpression e × IsExpression lower × IsExpression upper
  IsExpression (cast e t) = IsExpression e × IsType t
  IsExpression (list_contains l v) = IsExpression l × IsExpression v
  IsExpression (pack names es n) = AreTexts names × (length names ≡ length (listed es)) × AreExpressions es
  IsExpression (merge es n) = AreExpressions es
  IsExpression (select s e) = AreTexts (listed_names s) × IsExpression e
  IsExpression (dynamic e op k t default) = IsExpression e × IsType t

  -- expressions
  pub AreExpressions : Trees → Type 0
  AreExpressions no_trees = Unit {0}
  AreExpressions (tree e es) = IsExpression e × AreExpressions es
