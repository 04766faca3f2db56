-- How long the bytes of an expression's parts are.
use Rattle.std.proofs.Common.{◌≡◌, ◌∙◌, sym, ap, refl, ℕ, zero, suc, ◌+◌, ◌*◌, ◌/◌, ◌%◌, ◌≤◌, ◌<◌, ◌^◌, nat_lt, Bool, true, false, List, [], ◌∷◌, ◌++◌, length, length-append, arith}
use Rattle.std.specs.Prelude.{if◌then◌else◌}
use Rattle.vx_dtype.specs.declared.PType.{PType}
use Rattle.vx_dtype.specs.declared.PType.TheVariants.{U8, U16, U32, U64, I8, I16, I32, I64}
use Rattle.vx_dtype.specs.Types.{Bytes, Ty, bool_ty, int_ty, text_ty, list_ty, struct_ty, Fields, no_fields, field}
use Rattle.vx_dtype.specs.Values.{Raw, raw_null, raw_bool, raw_int, raw_text, raw_list, raw_struct, Raws, no_raws, raw}
use Rattle.vx_expr.specs.Children.{id_of}
use Rattle.vx_expr.specs.Selections.{listed_names}
use Rattle.vx_expr.specs.Trees.{Tree, root, literal, get_item, binary, not_of, is_null_of, like, between, cast, list_contains, pack, merge, select, dynamic, Trees, no_trees, tree}
use Rattle.vx_wire_bytes.specs.Numbers.{sevens, number_bytes, piece_bytes}
use Rattle.vx_wire_bytes.specs.TypeForms.{fields_number, type_bytes, fields_bytes}
use Rattle.vx_wire_bytes.specs.ValueForms.{width_of, little_endian, twos_complement, integer_bytes, raws_number, value_bytes, elements_bytes, members_bytes}
use Rattle.vx_wire_bytes.specs.Wires.{Wires, no_wires, first, number_of, HasShortParts, HaveShortParts}
use Rattle.vx_wire.specs.Forms.{wire_of, wires_of}
use Rattle.vx_wire.specs.Metadata.{texts_bytes, names_bytes, metadata_bytes}
use Rattle.vx_laws_bytes.proofs.Bulk.{names_bulk, type_bulk, fields_bulk, value_bulk, values_bulk, value_some, bulk, bulks}

sevens_length : (more n : ℕ) → length (sevens more n) ≤ suc more
sevens_length zero n = omega arith
sevens_length (suc more) n = by (nat_lt n 128) (sevens_length more (n / 128))
  where
    by : (b : Bool) → length (sevens more (n / 128)) ≤ suc more
        → length (if b then n ∷ [] else ((n % 128 + 128) ∷ sevens more (n / 128))) ≤ suc (suc more)
    by true h = omega arith
    by false h = omega (arith, h)

number_length : (n : ℕ) → length (number_bytes n) ≤ 5
unfolding number_bytes
number_length n = sevens_length 4 n

piece_length : (b : Bytes) → length (piece_bytes b) ≤ 5 + length b
piece_length b = let own = number_length (length b) in let both = length-append (number_bytes (length b)) b in omega (arith, own, both)

texts_length : (fs : List Bytes) → length (texts_bytes fs) ≤ 5 * names_bulk fs
texts_length [] = omega arith
texts_length (f ∷ fs) =
    let own = piece_length f in
    let rest = texts_length fs in
    let both = length-append (piece_bytes f) (texts_bytes fs) in
    omega (arith, own, rest, both)

names_length : (fs : List Bytes) → length (names_bytes fs) ≤ 5 + 5 * names_bulk fs
names_length fs =
    let own = number_length (length fs) in
    let rest = texts_length fs in
    let both = length-append (number_bytes (length fs)) (texts_bytes fs) in
    omega (arith, own, rest, both)

mutual
  type_length : (t : Ty) → length (type_bytes t) ≤ 8 * type_bulk t
  type_length (bool_ty n) = omega arith
  type_length (int_ty p n) = omega arith
  type_length (text_ty n) = omega arith
  type_length (list_ty t n) = let own = type_length t in omega (arith, own)
  type_length (struct_ty fs n) =
      let own = number_length (fields_number fs) in
      let rest = fields_length fs in
      let both = length-append (number_bytes (fields_number fs)) (fields_bytes fs) in
      omega (arith, own, rest, both)

  fields_length : (fs : Fields) → length (fields_bytes fs) ≤ 8 * fields_bulk fs
  fields_length no_fields = omega arith
  fields_length (field f t fs) =
      let name = piece_length f in
      let own = type_length t in
      let rest = fields_length fs in
      let both = length-append (piece_bytes f) (type_bytes t ++ fields_bytes fs) in
      let two = length-append (type_bytes t) (fields_bytes fs) in
      omega (arith, name, own, rest, both, two)

little_length : (n i : ℕ) → length (little_endian n i) ≡ n
little_length zero i = refl
little_length (suc n) i = ap suc (little_length n (i / 256))

width_small : (p : PType) → width_of p ≤ 8
width_small U8 = omega arith
width_small U16 = omega arith
width_small U32 = omega arith
width_small U64 = omega arith
width_small I8 = omega arith
width_small I16 = omega arith
width_small I32 = omega arith
width_small I64 = omega arith

mutual
  unfolding integer_bytes

  value_length : (t : Ty) (x : Raw) → length (value_bytes t x) ≤ 9 * value_bulk x
  value_length t raw_null = omega arith
  value_length t (raw_bool b) = omega arith
  value_length (int_ty p n) (raw_int i) =
      let own = little_length (width_of p) (twos_complement (width_of p) i) in
      let small = width_small p in
      omega (arith, own, small)
  value_length (bool_ty n) (raw_int i) = omega arith
  value_length (text_ty n) (raw_int i) = omega arith
  value_length (list_ty e n) (raw_int i) = omega arith
  value_length (struct_ty fs n) (raw_int i) = omega arith
  value_length t (raw_text s) = let own = piece_length s in omega (arith, own)
  value_length (list_ty e n) (raw_list xs) =
      let own = number_length (raws_number xs) in
      let rest = elements_length e xs in
      let both = length-append (number_bytes (raws_number xs)) (elements_bytes e xs) in
      omega (arith, own, rest, both)
  value_length (bool_ty n) (raw_list xs) = omega arith
  value_length (int_ty p n) (raw_list xs) = omega arith
  value_length (text_ty n) (raw_list xs) = omega arith
  value_length (struct_ty fs n) (raw_list xs) = omega arith
  value_length (struct_ty fs n) (raw_struct xs) = let rest = members_length fs xs in omega (arith, rest)
  value_length (bool_ty n) (raw_struct xs) = omega arith
  value_length (int_ty p n) (raw_struct xs) = omega arith
  value_length (text_ty n) (raw_struct xs) = omega arith
  value_length (list_ty e n) (raw_struct xs) = omega arith

  elements_length : (t : Ty) (xs : Raws) → length (elements_bytes t xs) ≤ 9 * values_bulk xs
  elements_length t no_raws = omega arith
  elements_length t (raw x xs) =
      let own = value_length t x in
      let rest = elements_length t xs in
      let both = length-append (value_bytes t x) (elements_bytes t xs) in
      omega (arith, own, rest, both)

  members_length : (fs : Fields) (xs : Raws) → length (members_bytes fs xs) ≤ 9 * values_bulk xs
  members_length no_fields xs = omega arith
  members_length (field f t fs) no_raws = omega arith
  members_length (field f t fs) (raw x xs) =
      let own = value_length t x in
      let rest = members_length fs xs in
      let both = length-append (value_bytes t x) (members_bytes fs xs) in
      omega (arith, own, rest, both)

metadata_length : (e : Tree) → length (metadata_bytes e) ≤ 9 * bulk e
metadata_length root = omega arith
metadata_length (literal s) =
    let own = type_length s.ty in
    let rest = value_length s.ty s.value in
    let both = length-append (type_bytes s.ty) (value_bytes s.ty s.value) in
    omega (arith, own, rest, both)
metadata_length (not_of e) = omega arith
metadata_length (is_null_of e) = omega arith
metadata_length (list_contains l v) = omega arith
metadata_length (binary l op r) = omega arith
metadata_length (between e lower upper options) = omega arith
metadata_length (like e p negated fold_case) = omega arith
metadata_length (get_item f e) = let own = piece_length f in omega (arith, own)
metadata_length (cast e t) = let own = type_length t in omega (arith, own)
metadata_length (select s e) = let own = names_length (listed_names s) in omega (arith, own)
metadata_length (pack names es n) = let own = names_length names in omega (arith, own)
metadata_length (merge es n) = omega arith
metadata_length (dynamic e op k t default) = omega arith

id_length : (e : Tree) → length (id_of e) ≤ 16
id_length root = omega arith
id_length (literal s) = omega arith
id_length (get_item f e) = omega arith
id_length (binary l op r) = omega arith
id_length (not_of e) = omega arith
id_length (is_null_of e) = omega arith
id_length (like e p negated fold_case) = omega arith
id_length (between e lower upper options) = omega arith
id_length (cast e t) = omega arith
id_length (list_contains l v) = omega arith
id_length (pack names es n) = omega arith
id_length (merge es n) = omega arith
id_length (select s e) = omega arith
id_length (dynamic e op k t default) = omega arith

children_few : (es : Trees) → number_of (wires_of es) ≤ bulks es
children_few no_trees = omega arith
children_few (tree e es) = let rest = children_few es in omega (arith, rest)

module _ (m : ℕ) (large : 16 ≤ m) (small : m < 2 ^ 32) where
  -- the parts of a node by itself
  id_short : (e : Tree) → length (id_of e) < 2 ^ 32
  id_short e = let own = id_length e in omega (arith, own, large, small)

  own_short : (e : Tree) → 9 * bulk e ≤ m → length (metadata_bytes e) < 2 ^ 32
  own_short e h = let own = metadata_length e in omega (arith, own, h, small)

  few_short : (k : ℕ) → k ≤ m → k < 2 ^ 32
  few_short k h = omega (arith, h, small)

  mutual
    pub parts_short : (e : Tree) → 9 * bulk e ≤ m → HasShortParts (wire_of e)
    parts_short root h = (id_short root, own_short root h, few_short 0 (omega arith), tt)
    parts_short (literal s) h = (id_short (literal s), own_short (literal s) h, few_short 0 (omega arith), tt)
    parts_short (get_item f e) h =
        (id_short (get_item f e), own_short (get_item f e) h, few_short 1 (omega (arith, large)), (parts_short e (omega (arith, h)), tt))
    parts_short (binary l op r) h =
        (id_short (binary l op r), own_short (binary l op r) h, few_short 2 (omega (arith, large)), (parts_short l (omega (arith, h)), (parts_short r (omega (arith, h)), tt)))
    parts_short (not_of e) h = (id_short (not_of e), own_short (not_of e) h, few_short 1 (omega (arith, large)), (parts_short e (omega (arith, h)), tt))
    parts_short (is_null_of e) h =
        (id_short (is_null_of e), own_short (is_null_of e) h, few_short 1 (omega (arith, large)), (parts_short e (omega (arith, h)), tt))
    parts_short (like e p negated fold_case) h = (
      id_short (like e p negated fold_case),
      own_short (like e p negated fold_case) h,
      few_short 2 (omega (arith, large)),
      (parts_short e (omega (arith, h)), (parts_short p (omega (arith, h)), tt)),
    )
    parts_short (between e lower upper options) h = (
      id_short (between e lower upper options),
      own_short (between e lower upper options) h,
      few_short 3 (omega (arith, large)),
      (parts_short e (omega (arith, h)), (parts_short lower (omega (arith, h)), (parts_short upper (omega (arith, h)), tt))),
    )
    parts_short (cast e t) h = (id_short (cast e t), own_short (cast e t) h, few_short 1 (omega (arith, large)), (parts_short e (omega (arith, h)), tt))
    parts_short (list_contains l v) h = (
      id_short (list_contains l v),
      own_short (list_contains l v) h,
      few_short 2 (omega (arith, large)),
      (parts_short l (omega (arith, h)), (parts_short v (omega (arith, h)), tt)),
    )
    parts_short (pack names es n) h =
        let few = children_few es in
        (id_short (pack names es n), own_short (pack names es n) h, few_short (number_of (wires_of es)) (omega (arith, h, few)), all_short es (omega (arith, h)))
    parts_short (merge es n) h =
        let few = children_few es in
        (id_short (merge es n), own_short (merge es n) h, few_short (number_of (wires_of es)) (omega (arith, h, few)), all_short es (omega (arith, h)))
    parts_short (select s e) h = (id_short (select s e), own_short (select s e) h, few_short 1 (omega (arith, large)), (parts_short e (omega (arith, h)), tt))
    parts_short (dynamic e op k t default) h = (
      id_short (dynamic e op k t default),
      own_short (dynamic e op k t default) h,
      few_short 1 (omega (arith, large)),
      (parts_short e (omega (arith, h)), tt),
    )

    all_short : (es : Trees) → 9 * bulks es ≤ m → HaveShortParts (wires_of es)
    all_short no_trees h = tt
    all_short (tree e es) h = (parts_short e (omega (arith, h)), all_short es (omega (arith, h)))
