-- How many tokens written texts have.
use Rattle.std.proofs.Common.{◌≡◌, ℕ, ◌+◌, Bool, true, false, List, [], ◌∷◌, length, Option, None, arith, ℤ, pos, negsuc, length-append}
use Rattle.std.specs.Prelude.{if◌then◌else◌}
use Rattle.vx_dtype.specs.declared.PType.{PType}
use Rattle.vx_dtype.specs.declared.Nullability.{Nullability}
use Rattle.vx_dtype.specs.declared.Nullability.TheVariants.{NonNullable, Nullable}
use Rattle.vx_dtype.specs.Types.{Bytes, Ty, bool_ty, int_ty, text_ty, list_ty, struct_ty, Fields, no_fields, field}
use Rattle.vx_dtype.specs.Values.{Raw, raw_null, raw_bool, raw_int, raw_text, raw_list, raw_struct, Raws, no_raws, raw, Typed}
use Rattle.vx_expr.specs.declared.selections.FieldSelection.{FieldSelection}
use Rattle.vx_expr.specs.Trees.{Tree, root, literal, get_item, binary, not_of, is_null_of, like, between, cast}
use Rattle.vx_expr.specs.Trees.{list_contains, pack, merge, select, dynamic, Trees, no_trees, tree}
use Rattle.vx_tokens.specs.declared.tokens.Keyword.TheVariants as words
use Rattle.vx_tokens.specs.declared.tokens.Sign.TheVariants as signs
use Rattle.vx_tokens.specs.declared.tokens.Token.{Token}
use Rattle.vx_tokens.specs.declared.tokens.Token.TheVariants.{Reserved, Mark}
use Rattle.vx_text.specs.Writing.{is_bare}
use Rattle.vx_laws_text.specs.WrittenTokens.{name_token, operator_token, name_tokens, choice_tokens, nullability_tokens, type_tokens, label_tokens, number_tokens, number_type, item_tokens, items_tokens, bare_tokens, literal_tokens, query_tokens, listed_tokens, named_tokens}

-- names, each behind so many tokens but for the first, which stands behind the given number
abbrev pub names_size : ℕ → List Bytes → ℕ
names_size before [] = 0
names_size before (f ∷ fs) = before + (1 + names_size 1 fs)

abbrev pub choice_size : FieldSelection → ℕ
choice_size (FieldSelection.Include fs) = 2 + names_size 0 fs
choice_size (FieldSelection.Exclude fs) = 3 + names_size 0 fs

abbrev pub null_size : Nullability → ℕ
null_size NonNullable = 0
null_size Nullable = 1

unfoldable mutual
  pub type_size : Ty → ℕ
  type_size (bool_ty n) = 1 + null_size n
  type_size (int_ty p n) = 1 + null_size n
  type_size (text_ty n) = 1 + null_size n
  type_size (list_ty t n) = 3 + (type_size t + null_size n)
  type_size (struct_ty fs n) = 2 + (labels_size 0 fs + null_size n)

  pub labels_size : ℕ → Fields → ℕ
  labels_size before no_fields = 0
  labels_size before (field f t fs) = before + (2 + (type_size t + labels_size 1 fs))

abbrev pub number_size : ℤ → ℕ
number_size (pos n) = 1
number_size (negsuc n) = 2

unfoldable mutual
  pub item_size : Raw → ℕ
  item_size raw_null = 1
  item_size (raw_bool b) = 1
  item_size (raw_int i) = number_size i
  item_size (raw_text s) = 1
  item_size (raw_list xs) = 2 + items_size 0 xs
  item_size (raw_struct xs) = 2 + items_size 0 xs

  pub items_size : ℕ → Raws → ℕ
  items_size before no_raws = 0
  items_size before (raw x xs) = before + (item_size x + items_size 1 xs)

abbrev pub literal_size : Typed → ℕ
literal_size s = if is_bare s.ty then item_size s.value else 4 + (type_size s.ty + item_size s.value)

unfoldable mutual
  pub query_size : Tree → ℕ
  query_size root = 1
  query_size (literal s) = literal_size s
  query_size (get_item f e) = 2 + query_size e
  query_size (binary l op r) = 3 + (query_size l + query_size r)
  query_size (not_of e) = 3 + query_size e
  query_size (is_null_of e) = 3 + query_size e
  query_size (like e p negated fold_case) = 4 + (query_size e + query_size p)
  query_size (between e lower upper options) = 5 + (query_size e + (query_size lower + query_size upper))
  query_size (cast e t) = 4 + (query_size e + type_size t)
  query_size (list_contains l v) = 4 + (query_size l + query_size v)
  query_size (pack names es n) = 3 + named_size 0 names es
  query_size (merge es n) = 3 + listed_size 0 es
  query_size (select s e) = query_size e + choice_size s
  query_size (dynamic e op k t default) = 0

  pub listed_size : ℕ → Trees → ℕ
  listed_size before no_trees = 0
  listed_size before (tree e es) = before + (query_size e + listed_size 1 es)

  pub named_size : ℕ → List Bytes → Trees → ℕ
  named_size before (f ∷ names) (tree e es) = before + (2 + (query_size e + named_size 1 names es))
  named_size before _ _ = 0

-- ---- these are the numbers of tokens

names_length : (before : List Token) (fs : List Bytes) (rest : List Token) → length (name_tokens before fs rest) ≡ names_size (length before) fs + length rest
unfolding name_tokens
names_length before [] rest = omega arith
names_length before (f ∷ fs) rest = omega (arith, length-append {A = Token}, names_length (Mark signs.Comma ∷ []) fs rest)

choice_length : (s : FieldSelection) (rest : List Token) → length (choice_tokens s rest) ≡ choice_size s + length rest
choice_length (FieldSelection.Include fs) rest = omega (arith, names_length [] fs (Mark signs.CurlyClose ∷ rest))
choice_length (FieldSelection.Exclude fs) rest = omega (arith, names_length [] fs (Mark signs.CurlyClose ∷ rest))

null_length : (n : Nullability) (rest : List Token) → length (nullability_tokens n rest) ≡ null_size n + length rest
null_length NonNullable rest = omega arith
null_length Nullable rest = omega arith

mutual
  unfolding type_tokens type_size

  type_length : (t : Ty) (rest : List Token) → length (type_tokens t rest) ≡ type_size t + length rest
  type_length (bool_ty n) rest = omega (arith, null_length n rest)
  type_length (int_ty p n) rest = omega (arith, null_length n rest)
  type_length (text_ty n) rest = omega (arith, null_length n rest)
  type_length (list_ty t n) rest = omega (arith, type_length t (Mark signs.RoundClose ∷ nullability_tokens n rest), null_length n rest)
  type_length (struct_ty fs n) rest = omega (arith, labels_length fs [] (Mark signs.CurlyClose ∷ nullability_tokens n rest), null_length n rest)

  labels_length : (fs : Fields) (before rest : List Token) → length (label_tokens before fs rest) ≡ labels_size (length before) fs + length rest
  labels_length no_fields before rest = omega arith
  labels_length (field f t fs) before rest =
      omega (arith, length-append {A = Token}, type_length t (label_tokens (Mark signs.Comma ∷ []) fs rest), labels_length fs (Mark signs.Comma ∷ []) rest)

number_length : (i : ℤ) (p : Option PType) (rest : List Token) → length (number_tokens i p rest) ≡ number_size i + length rest
number_length (pos n) p rest = omega arith
number_length (negsuc n) p rest = omega arith

mutual
  unfolding item_tokens item_size

  item_length : (x : Raw) (rest : List Token) → length (item_tokens x rest) ≡ item_size x + length rest
  item_length raw_null rest = omega arith
  item_length (raw_bool b) rest = omega arith
  item_length (raw_int i) rest = number_length i None rest
  item_length (raw_text s) rest = omega arith
  item_length (raw_list xs) rest = omega (arith, items_length xs [] (Mark signs.SquareClose ∷ rest))
  item_length (raw_struct xs) rest = omega (arith, items_length xs [] (Mark signs.CurlyClose ∷ rest))

  items_length : (xs : Raws) (before rest : List Token) → length (items_tokens before xs rest) ≡ items_size (length before) xs + length rest
  items_length no_raws before rest = omega arith
  items_length (raw x xs) before rest =
      omega (arith, length-append {A = Token}, item_length x (items_tokens (Mark signs.Comma ∷ []) xs rest), items_length xs (Mark signs.Comma ∷ []) rest)

bare_length : (t : Ty) (x : Raw) (rest : List Token) → length (bare_tokens t x rest) ≡ item_size x + length rest
unfolding item_size
bare_length t (raw_int i) rest = number_length i (number_type t) rest
bare_length t raw_null rest = item_length raw_null rest
bare_length t (raw_bool b) rest = item_length (raw_bool b) rest
bare_length t (raw_text s) rest = item_length (raw_text s) rest
bare_length t (raw_list xs) rest = item_length (raw_list xs) rest
bare_length t (raw_struct xs) rest = item_length (raw_struct xs) rest

literal_length : (s : Typed) (rest : List Token) → length (literal_tokens s rest) ≡ literal_size s + length rest
unfolding literal_tokens
literal_length s rest = go (is_bare s.ty)
  where
    go : (b : Bool) → length (if b then bare_tokens s.ty s.value rest else Reserved words.Lit ∷ Mark signs.RoundOpen ∷ type_tokens s.ty (Mark signs.Comma ∷ item_tokens s.value (Mark signs.RoundClose ∷ rest)))
        ≡ (if b then item_size s.value else 4 + (type_size s.ty + item_size s.value)) + length rest
    go true = bare_length s.ty s.value rest
    go false = omega (arith, type_length s.ty (Mark signs.Comma ∷ item_tokens s.value (Mark signs.RoundClose ∷ rest)), item_length s.value (Mark signs.RoundClose ∷ rest))

mutual
  unfolding query_tokens query_size

  pub query_length : (e : Tree) (rest : List Token) → length (query_tokens e rest) ≡ query_size e + length rest
  query_length root rest = omega arith
  query_length (literal s) rest = literal_length s rest
  query_length (get_item f e) rest = omega (arith, query_length e (Mark signs.Dot ∷ name_token f ∷ rest))
  query_length (binary l op r) rest = omega (arith, query_length l (operator_token op ∷ query_tokens r (Mark signs.RoundClose ∷ rest)), query_length r (Mark signs.RoundClose ∷ rest))
  query_length (not_of e) rest = omega (arith, query_length e (Mark signs.RoundClose ∷ rest))
  query_length (is_null_of e) rest = omega (arith, query_length e (Mark signs.RoundClose ∷ rest))
  query_length (like e p negated fold_case) rest = omega (arith, query_length e (Mark signs.Comma ∷ query_tokens p (Mark signs.RoundClose ∷ rest)), query_length p (Mark signs.RoundClose ∷ rest))
  query_length (between e lower upper options) rest =
      omega (arith, query_length e (Mark signs.Comma ∷ query_tokens lower (Mark signs.Comma ∷ query_tokens upper (Mark signs.RoundClose ∷ rest))), query_length lower (Mark signs.Comma ∷ query_tokens upper (Mark signs.RoundClose ∷ rest)), query_length upper (Mark signs.RoundClose ∷ rest))
  query_length (cast e t) rest = omega (arith, query_length e (Mark signs.Comma ∷ type_tokens t (Mark signs.RoundClose ∷ rest)), type_length t (Mark signs.RoundClose ∷ rest))
  query_length (list_contains l v) rest = omega (arith, query_length l (Mark signs.Comma ∷ query_tokens v (Mark signs.RoundClose ∷ rest)), query_length v (Mark signs.RoundClose ∷ rest))
  query_length (pack names es n) rest = omega (arith, named_length es names [] (Mark signs.RoundClose ∷ rest))
  query_length (merge es n) rest = omega (arith, listed_length es [] (Mark signs.RoundClose ∷ rest))
  query_length (select s e) rest = omega (arith, query_length e (choice_tokens s rest), choice_length s rest)
  query_length (dynamic e op k t default) rest = omega arith

  pub listed_length : (es : Trees) (before rest : List Token) → length (listed_tokens before es rest) ≡ listed_size (length before) es + length rest
  listed_length no_trees before rest = omega arith
  listed_length (tree e es) before rest =
      omega (arith, length-append {A = Token}, query_length e (listed_tokens (Mark signs.Comma ∷ []) es rest), listed_length es (Mark signs.Comma ∷ []) rest)

  pub named_length : (es : Trees) (names : List Bytes) (before rest : List Token) → length (named_tokens before names es rest) ≡ named_size (length before) names es + length rest
  named_length no_trees [] before rest = omega arith
  named_length no_trees (f ∷ names) before rest = omega arith
  named_length (tree e es) [] before rest = omega arith
  named_length (tree e es) (f ∷ names) before rest =
      omega (arith, length-append {A = Token}, query_length e (named_tokens (Mark signs.Comma ∷ []) names es rest), named_length es names (Mark signs.Comma ∷ []) rest)
