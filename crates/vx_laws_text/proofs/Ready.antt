-- What is used of an expression that is written: no dynamic comparison stands in it, and each number in a constant is one of an integer type.
use Rattle.std.proofs.Common.{◌≡◌, ℕ, suc, ◌^◌, ◌<◌, true, length, arith, ◌&&◌, ℤ, pos, negsuc, leb, leb-true}
use Rattle.std.proofs.lemmas.Bool.{and_parts}
use Rattle.vx_dtype.specs.declared.PType.{PType}
use Rattle.vx_dtype.specs.declared.PType.TheVariants.{U8, U16, U32, U64, I8, I16, I32, I64}
use Rattle.vx_dtype.specs.Types.{Ty, bool_ty, int_ty, text_ty, list_ty, struct_ty, Fields, no_fields, field}
use Rattle.vx_dtype.specs.Values.{Raw, raw_null, raw_bool, raw_int, raw_text, raw_list, raw_struct, Raws, no_raws, raw, Typed}
use Rattle.vx_dtype.specs.Fits.{fits, all_fit, fields_fit, in_range}
use Rattle.vx_expr.specs.Selections.{listed_names}
use Rattle.vx_expr.specs.Trees.{Tree, root, literal, get_item, binary, not_of, is_null_of, like, between, cast}
use Rattle.vx_expr.specs.Trees.{list_contains, pack, merge, select, dynamic, Trees, no_trees, tree, listed}
use Rattle.vx_text.specs.Writing.{is_writable, all_writable}
use Rattle.vx_laws_text.specs.Expressions.{IsText, AreTexts, IsType, HasTexts, HaveTexts, IsConstant, IsExpression, AreExpressions}

-- a number of an integer type, without its sign
abbrev pub IsShort : ℤ → Type 0
IsShort (pos n) = n < 2 ^ 64
IsShort (negsuc n) = suc n < 2 ^ 64

positive : (n most : ℕ) → most < 2 ^ 64 → (leb 0 n && leb n most) ≡ true → n < 2 ^ 64
positive n most within e = omega (arith, leb-true n most (and_parts (leb 0 n) (leb n most) e).1)

signed : (n most : ℕ) → most < 2 ^ 64 → leb n most ≡ true → n < 2 ^ 64
signed n most within e = omega (arith, leb-true n most e)

negative : (n most : ℕ) → suc most < 2 ^ 64 → (leb n most && true) ≡ true → suc n < 2 ^ 64
negative n most within e = omega (arith, leb-true n most (and_parts (leb n most) true e).0)

short : (p : PType) (i : ℤ) → in_range p i ≡ true → IsShort i
short U8 (pos n) e = positive n 255 (omega arith) e
short U16 (pos n) e = positive n 65535 (omega arith) e
short U32 (pos n) e = positive n 4294967295 (omega arith) e
short U64 (pos n) e = positive n 18446744073709551615 (omega arith) e
short I8 (pos n) e = signed n 127 (omega arith) e
short I16 (pos n) e = signed n 32767 (omega arith) e
short I32 (pos n) e = signed n 2147483647 (omega arith) e
short I64 (pos n) e = signed n 9223372036854775807 (omega arith) e
short I8 (negsuc n) e = negative n 127 (omega arith) e
short I16 (negsuc n) e = negative n 32767 (omega arith) e
short I32 (negsuc n) e = negative n 2147483647 (omega arith) e
short I64 (negsuc n) e = negative n 9223372036854775807 (omega arith) e
short U8 (negsuc n) e = absurd cc
short U16 (negsuc n) e = absurd cc
short U32 (negsuc n) e = absurd cc
short U64 (negsuc n) e = absurd cc

abbrev mutual
  -- an item whose texts are UTF-8, and whose numbers are some of integer types
  pub IsItem : Raw → Type 0
  IsItem raw_null = Unit {0}
  IsItem (raw_bool b) = Unit {0}
  IsItem (raw_int i) = IsShort i
  IsItem (raw_text s) = IsText s
  IsItem (raw_list xs) = AreItems xs
  IsItem (raw_struct xs) = AreItems xs

  pub AreItems : Raws → Type 0
  AreItems no_raws = Unit {0}
  AreItems (raw x xs) = IsItem x × AreItems xs

mutual
  unfolding fits

  pub item_of : (x : Raw) (t : Ty) → HasTexts x → fits x t ≡ true → IsItem x
  item_of raw_null t h e = tt
  item_of (raw_bool b) t h e = tt
  item_of (raw_int i) (int_ty p n) h e = short p i e
  item_of (raw_int i) (bool_ty n) h e = absurd cc
  item_of (raw_int i) (text_ty n) h e = absurd cc
  item_of (raw_int i) (list_ty t n) h e = absurd cc
  item_of (raw_int i) (struct_ty fs n) h e = absurd cc
  item_of (raw_text s) t h e = h
  item_of (raw_list xs) (list_ty t n) h e = items_of xs t h e
  item_of (raw_list xs) (bool_ty n) h e = absurd cc
  item_of (raw_list xs) (int_ty p n) h e = absurd cc
  item_of (raw_list xs) (text_ty n) h e = absurd cc
  item_of (raw_list xs) (struct_ty fs n) h e = absurd cc
  item_of (raw_struct xs) (struct_ty fs n) h e = members_of xs fs h e
  item_of (raw_struct xs) (bool_ty n) h e = absurd cc
  item_of (raw_struct xs) (int_ty p n) h e = absurd cc
  item_of (raw_struct xs) (text_ty n) h e = absurd cc
  item_of (raw_struct xs) (list_ty t n) h e = absurd cc

  items_of : (xs : Raws) (t : Ty) → HaveTexts xs → all_fit xs t ≡ true → AreItems xs
  items_of no_raws t h e = tt
  items_of (raw x xs) t h e =
      let both = and_parts (fits x t) (all_fit xs t) e in
      (item_of x t h.0 both.0, items_of xs t h.1 both.1)

  members_of : (xs : Raws) (fs : Fields) → HaveTexts xs → fields_fit xs fs ≡ true → AreItems xs
  members_of no_raws fs h e = tt
  members_of (raw x xs) no_fields h e = absurd cc
  members_of (raw x xs) (field f t fs) h e =
      let both = and_parts (fits x t) (fields_fit xs fs) e in
      (item_of x t h.0 both.0, members_of xs fs h.1 both.1)

-- a constant
pub record ReadyConstant (s : Typed) : Type 0 where
  pub type : IsType s.ty
  pub item : IsItem s.value
  pub fit : fits s.value s.ty ≡ true

constant_ready : (s : Typed) → IsConstant s → ReadyConstant s
constant_ready s k = record { type = k.type; item = item_of s.value s.ty k.texts k.fit; fit = k.fit }

abbrev mutual
  pub IsReady : Tree → Type 0
  IsReady root = Unit {0}
  IsReady (literal s) = ReadyConstant s
  IsReady (get_item f e) = IsText f × IsReady e
  IsReady (binary l op r) = IsReady l × IsReady r
  IsReady (not_of e) = IsReady e
  IsReady (is_null_of e) = IsReady e
  IsReady (like e p negated fold_case) = IsReady e × IsReady p
  IsReady (between e lower upper options) = IsReady e × IsReady lower × IsReady upper
  IsReady (cast e t) = IsReady e × IsType t
  IsReady (list_contains l v) = IsReady l × IsReady v
  IsReady (pack names es n) = AreTexts names × (length names ≡ length (listed es)) × AreReady es
  IsReady (merge es n) = AreReady es
  IsReady (select s e) = AreTexts (listed_names s) × IsReady e
  IsReady (dynamic e op k t default) = ⊥

  pub AreReady : Trees → Type 0
  AreReady no_trees = Unit {0}
  AreReady (tree e es) = IsReady e × AreReady es

mutual
  unfolding is_writable

  pub ready : (e : Tree) → IsExpression e → is_writable e ≡ true → IsReady e
  ready root k w = tt
  ready (literal s) k w = constant_ready s k
  ready (get_item f e) k w = (k.0, ready e k.1 w)
  ready (binary l op r) k w =
      let h = and_parts (is_writable l) (is_writable r) w in
      (ready l k.0 h.0, ready r k.1 h.1)
  ready (not_of e) k w = ready e k w
  ready (is_null_of e) k w = ready e k w
  ready (like e p negated fold_case) k w =
      let h = and_parts (is_writable e) (is_writable p) w in
      (ready e k.0 h.0, ready p k.1 h.1)
  ready (between e lower upper options) k w =
      let h = and_parts (is_writable e) (is_writable lower && is_writable upper) w in
      let g = and_parts (is_writable lower) (is_writable upper) h.1 in
      (ready e k.0 h.0, ready lower k.1 g.0, ready upper k.2 g.1)
  ready (cast e t) k w = (ready e k.0 w, k.1)
  ready (list_contains l v) k w =
      let h = and_parts (is_writable l) (is_writable v) w in
      (ready l k.0 h.0, ready v k.1 h.1)
  ready (pack names es n) k w = (k.0, k.1, all_ready es k.2 w)
  ready (merge es n) k w = all_ready es k w
  ready (select s e) k w = (k.0, ready e k.1 w)
  ready (dynamic e op k t default) h w = absurd cc

  all_ready : (es : Trees) → AreExpressions es → all_writable es ≡ true → AreReady es
  all_ready no_trees k w = tt
  all_ready (tree e es) k w =
      let h = and_parts (is_writable e) (all_writable es) w in
      (ready e k.0 h.0, all_ready es k.1 h.1)
