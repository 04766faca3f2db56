-- How much an expression holds: its nodes, and the lengths of its names, its texts and its lists.
use Rattle.std.proofs.Common.{◌≡◌, ◌∙◌, sym, ap, refl, ℕ, ◌+◌, ◌≤◌, ◌<◌, ◌^◌, List, [], ◌∷◌, ◌++◌, length, arith}
use Rattle.std.specs.List.{AllByRecursion}
use Rattle.vx_dtype.specs.Types.{Bytes, Ty, bool_ty, int_ty, text_ty, list_ty, struct_ty, Fields, no_fields, field}
use Rattle.vx_dtype.specs.Values.{Raw, raw_null, raw_bool, raw_int, raw_text, raw_list, raw_struct, Raws, no_raws, raw}
use Rattle.vx_expr.specs.Selections.{listed_names}
use Rattle.vx_expr.specs.Trees.{Tree, root, literal, get_item, binary, not_of, is_null_of, like, between, cast, list_contains, pack, merge, select, dynamic, Trees, no_trees, tree}
use Rattle.vx_wire_bytes.specs.Fields.{IsShort}
use Rattle.vx_wire_bytes.specs.TypeForms.{fields_number, NamesAre, FieldNamesAre}
use Rattle.vx_wire_bytes.specs.ValueForms.{raws_number, TextsAre, AllTextsAre}
use Rattle.vx_wire.specs.Forms.{Everywhere, EverywhereIn}
use Rattle.vx_wire.specs.Metadata.{HasShortMetadata}

abbrev pub names_bulk : List Bytes → ℕ
names_bulk [] = 0
names_bulk (f ∷ fs) = 1 + (length f + names_bulk fs)

abbrev mutual
  pub type_bulk : Ty → ℕ
  type_bulk (bool_ty n) = 1
  type_bulk (int_ty p n) = 1
  type_bulk (text_ty n) = 1
  type_bulk (list_ty t n) = 1 + type_bulk t
  type_bulk (struct_ty fs n) = 1 + fields_bulk fs

  pub fields_bulk : Fields → ℕ
  fields_bulk no_fields = 0
  fields_bulk (field f t fs) = 1 + (length f + (type_bulk t + fields_bulk fs))

abbrev mutual
  pub value_bulk : Raw → ℕ
  value_bulk raw_null = 1
  value_bulk (raw_bool b) = 1
  value_bulk (raw_int i) = 1
  value_bulk (raw_text s) = 1 + length s
  value_bulk (raw_list xs) = 1 + values_bulk xs
  value_bulk (raw_struct xs) = 1 + values_bulk xs

  pub values_bulk : Raws → ℕ
  values_bulk no_raws = 0
  values_bulk (raw x xs) = value_bulk x + values_bulk xs

abbrev mutual
  pub bulk : Tree → ℕ
  bulk root = 1
  bulk (literal s) = 1 + (type_bulk s.ty + value_bulk s.value)
  bulk (get_item f e) = 1 + (length f + bulk e)
  bulk (binary l op r) = 1 + (bulk l + bulk r)
  bulk (not_of e) = 1 + bulk e
  bulk (is_null_of e) = 1 + bulk e
  bulk (like e p negated fold_case) = 1 + (bulk e + bulk p)
  bulk (between e lower upper options) = 1 + (bulk e + (bulk lower + bulk upper))
  bulk (cast e t) = 1 + (type_bulk t + bulk e)
  bulk (list_contains l v) = 1 + (bulk l + bulk v)
  bulk (pack names es n) = 1 + (names_bulk names + bulks es)
  bulk (merge es n) = 1 + bulks es
  bulk (select s e) = 1 + (names_bulk (listed_names s) + bulk e)
  bulk (dynamic e op k t default) = 1 + (type_bulk t + bulk e)

  pub bulks : Trees → ℕ
  bulks no_trees = 0
  bulks (tree e es) = 1 + (bulk e + bulks es)

-- ---- what is no longer than the whole

pub names_number : (fs : List Bytes) → length fs ≤ names_bulk fs
names_number [] = omega arith
names_number (f ∷ fs) = let rest = names_number fs in omega (arith, rest)

pub fields_few : (fs : Fields) → fields_number fs ≤ fields_bulk fs
fields_few no_fields = omega arith
fields_few (field f t fs) = let rest = fields_few fs in omega (arith, rest)

pub value_some : (x : Raw) → 1 ≤ value_bulk x
value_some raw_null = omega arith
value_some (raw_bool b) = omega arith
value_some (raw_int i) = omega arith
value_some (raw_text s) = omega arith
value_some (raw_list xs) = omega arith
value_some (raw_struct xs) = omega arith

pub raws_few : (xs : Raws) → raws_number xs ≤ values_bulk xs
raws_few no_raws = omega arith
raws_few (raw x xs) = let some = value_some x in let rest = raws_few xs in omega (arith, some, rest)

module _ (m : ℕ) (small : m < 2 ^ 32) where
  names_short : (fs : List Bytes) → names_bulk fs ≤ m → AllByRecursion IsShort fs
  names_short [] h = tt
  names_short (f ∷ fs) h = (omega (arith, h, small), names_short fs (omega (arith, h)))

  mutual
    type_short : (t : Ty) → type_bulk t ≤ m → NamesAre IsShort t
    type_short (bool_ty n) h = tt
    type_short (int_ty p n) h = tt
    type_short (text_ty n) h = tt
    type_short (list_ty t n) h = type_short t (omega (arith, h))
    type_short (struct_ty fs n) h = let few = fields_few fs in (omega (arith, h, small, few), fields_short fs (omega (arith, h)))

    fields_short : (fs : Fields) → fields_bulk fs ≤ m → FieldNamesAre IsShort fs
    fields_short no_fields h = tt
    fields_short (field f t fs) h = (omega (arith, h, small), type_short t (omega (arith, h)), fields_short fs (omega (arith, h)))

  mutual
    value_short : (x : Raw) → value_bulk x ≤ m → TextsAre IsShort x
    value_short raw_null h = tt
    value_short (raw_bool b) h = tt
    value_short (raw_int i) h = tt
    value_short (raw_text s) h = omega (arith, h, small)
    value_short (raw_list xs) h = let few = raws_few xs in (omega (arith, h, small, few), values_short xs (omega (arith, h)))
    value_short (raw_struct xs) h = values_short xs (omega (arith, h))

    values_short : (xs : Raws) → values_bulk xs ≤ m → AllTextsAre IsShort xs
    values_short no_raws h = tt
    values_short (raw x xs) h = (value_short x (omega (arith, h)), values_short xs (omega (arith, h)))

  mutual
    pub metadata_short : (e : Tree) → bulk e ≤ m → Everywhere HasShortMetadata e
    metadata_short root h = tt
    metadata_short (literal s) h = (type_short s.ty (omega (arith, h)), value_short s.value (omega (arith, h)))
    metadata_short (get_item f e) h = (omega (arith, h, small), metadata_short e (omega (arith, h)))
    metadata_short (binary l op r) h = (tt, metadata_short l (omega (arith, h)), metadata_short r (omega (arith, h)))
    metadata_short (not_of e) h = (tt, metadata_short e (omega (arith, h)))
    metadata_short (is_null_of e) h = (tt, metadata_short e (omega (arith, h)))
    metadata_short (like e p negated fold_case) h = (tt, metadata_short e (omega (arith, h)), metadata_short p (omega (arith, h)))
    metadata_short (between e lower upper options) h =
        (tt, metadata_short e (omega (arith, h)), metadata_short lower (omega (arith, h)), metadata_short upper (omega (arith, h)))
    metadata_short (cast e t) h = (type_short t (omega (arith, h)), metadata_short e (omega (arith, h)))
    metadata_short (list_contains l v) h = (tt, metadata_short l (omega (arith, h)), metadata_short v (omega (arith, h)))
    metadata_short (pack names es n) h =
        let few = names_number names in
        ((omega (arith, h, small, few), names_short names (omega (arith, h))), all_metadata_short es (omega (arith, h)))
    metadata_short (merge es n) h = (tt, all_metadata_short es (omega (arith, h)))
    metadata_short (select s e) h =
        let few = names_number (listed_names s) in
        ((omega (arith, h, small, few), names_short (listed_names s) (omega (arith, h))), metadata_short e (omega (arith, h)))
    metadata_short (dynamic e op k t default) h = (type_short t (omega (arith, h)), metadata_short e (omega (arith, h)))

    all_metadata_short : (es : Trees) → bulks es ≤ m → EverywhereIn HasShortMetadata es
    all_metadata_short no_trees h = tt
    all_metadata_short (tree e es) h = (metadata_short e (omega (arith, h)), all_metadata_short es (omega (arith, h)))
