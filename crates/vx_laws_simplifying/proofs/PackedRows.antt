-- A pack of all fields of a struct is the struct, in type and in meaning.
use Rattle.std.proofs.Common.{◌≡◌, refl, ap, sym, ◌∙◌, Bool, true, false, not, ◌||◌, Some, subst, List, [], ◌∷◌, Ok, Err, suc}
use Rattle.std.specs.Prelude.{length, map}
use Rattle.std.specs.Str.{bytes_eq}
use Rattle.std.proofs.lemmas.Bool.{eq-eqb, and_parts}
use Rattle.vx_dtype.specs.declared.Nullability.TheVariants.{NonNullable, Nullable}
use Rattle.vx_dtype.specs.Types.{Bytes, Ty, bool_ty, int_ty, text_ty, list_ty, struct_ty, Fields, no_fields, field}
use Rattle.vx_dtype.specs.TypeRules.{widened, field_names, field_type, has_name, distinct_names, no_name_twice}
use Rattle.vx_dtype.specs.StructTypes.{field_types}
use Rattle.vx_dtype.specs.Zipped.{zipped}
use Rattle.vx_dtype.specs.Values.{Val, struct_val, member}
use Rattle.vx_dtype.specs.Fits.{fits_but_for_faults}
use Rattle.vx_dtype.specs.Structs.{field_of, members_at}
use Rattle.vx_expr.specs.Trees.{Tree, root, trees_of}
use Rattle.vx_semantics.specs.Tables.{row_type}
use Rattle.vx_semantics.specs.Typing.{duplicate_field, and_then, unless, pack_type, typed_of, all_typed}
use Rattle.vx_semantics.specs.Meaning.{Slots, zip_members, mean, meanings}
use Rattle.vx_passes.specs.Replacing.{column, packed_row, packed_where_root}
use Rattle.vx_laws.proofs.Structs.{struct-value}
use Rattle.vx_laws.proofs.Inverting.{bytes_eq-itself}
use Rattle.vx_laws.proofs.Distinct.{bytes_differ, not-has, members_at-own, struct-distinct}
use Rattle.vx_laws_simplifying.specs.PackedRows.{PackedRowsKeepType, PackedRowsKeepMeaning}
use Rattle.vx_laws_simplifying.proofs.Changing.{typed_of-changed, mean-changed}

pub widened-NonNullable : (t : Ty) → widened t NonNullable ≡ t
widened-NonNullable (bool_ty NonNullable) = refl
widened-NonNullable (bool_ty Nullable) = refl
widened-NonNullable (int_ty p NonNullable) = refl
widened-NonNullable (int_ty p Nullable) = refl
widened-NonNullable (text_ty NonNullable) = refl
widened-NonNullable (text_ty Nullable) = refl
widened-NonNullable (list_ty e NonNullable) = refl
widened-NonNullable (list_ty e Nullable) = refl
widened-NonNullable (struct_ty fs NonNullable) = refl
widened-NonNullable (struct_ty fs Nullable) = refl

-- the names of some fields have their types among the fields
abbrev pub TypedIn : Fields → Fields → Type 0
TypedIn fs no_fields = Unit {0}
TypedIn fs (field g w gs) = (field_type g fs ≡ Some w) × TypedIn fs gs

-- one more field of another name
typed_in-past : (f : Bytes) (t : Ty) (fs gs : Fields) → has_name f (field_names gs) ≡ false → TypedIn fs gs → TypedIn (field f t fs) gs
typed_in-past f t fs no_fields h k = tt
typed_in-past f t fs (field g w gs) h k =
    let r = by-test (bytes_eq f g) refl h in
    (rw (bytes_differ f g r.0) k.0, typed_in-past f t fs gs r.1 k.1)
  where
    by-test : (b : Bool) → bytes_eq f g ≡ b → (b || has_name f (field_names gs)) ≡ false → (bytes_eq f g ≡ false) × (has_name f (field_names gs) ≡ false)
    by-test true e i = let no : ⊥ = cc in absurd no
    by-test false e i = (e, i)

pub typed_in-own : (fs : Fields) → distinct_names (field_names fs) ≡ true → TypedIn fs fs
typed_in-own no_fields h = tt
typed_in-own (field f t fs) h =
    let parts = and_parts (not (has_name f (field_names fs))) (distinct_names (field_names fs)) h in
    (own-first f t fs, typed_in-past f t fs fs (not-has (has_name f (field_names fs)) parts.0) (typed_in-own fs parts.1))
  where
    own-first : (g : Bytes) (w : Ty) (gs : Fields) → field_type g (field g w gs) ≡ Some w
    own-first g w gs = rw (bytes_eq-itself g) refl

-- the columns of a row have the fields' types
columns-typed : (fs gs : Fields) → no_name_twice (row_type fs) ≡ true → TypedIn fs gs → all_typed (row_type fs) (trees_of (map column (field_names gs))) ≡ Ok (field_types gs)
unfolding typed_of
columns-typed fs no_fields d h = refl
columns-typed fs (field g w gs) d h =
    let rest = columns-typed fs gs d h.1 in
    rw (d, h.0, widened-NonNullable w, rest) refl

pub zipped-own : (fs : Fields) → zipped (field_names fs) (field_types fs) ≡ fs
zipped-own no_fields = refl
zipped-own (field f t fs) = ap (field f t) (zipped-own fs)

pub as_many : (fs : Fields) → length (field_names fs) ≡ length (field_types fs)
as_many no_fields = refl
as_many (field f t fs) = ap suc (as_many fs)

none-twice : no_name_twice (row_type no_fields) ≡ true
unfolding no_name_twice
none-twice = refl

pub packed_row-typed : (fs : Fields) → typed_of (row_type fs) (packed_row fs) ≡ typed_of (row_type fs) root
unfolding typed_of
packed_row-typed fs = by-test (no_name_twice (row_type fs)) refl
  where
    twice : (gs : Fields) → no_name_twice (row_type fs) ≡ false → gs ≡ fs → typed_of (row_type fs) (packed_row fs) ≡ Err duplicate_field
    twice no_fields d e = let none : no_name_twice (row_type fs) ≡ true = subst (λ (z : Fields). no_name_twice (row_type z) ≡ true) e none-twice in let no : ⊥ = cc in absurd no
    twice (field g w gs) d e = subst (λ (z : Fields). and_then (all_typed (row_type fs) (trees_of (map column (field_names z)))) (pack_type (field_names z) NonNullable) ≡ Err duplicate_field) e (rw d refl)

    by-test : (b : Bool) → no_name_twice (row_type fs) ≡ b → typed_of (row_type fs) (packed_row fs) ≡ unless b duplicate_field (Ok (row_type fs))
    by-test true d =
        let names = (struct-distinct fs NonNullable d).names in
        rw (columns-typed fs fs d (typed_in-own fs names), names, eq-eqb (length (field_names fs)) (length (field_types fs)) (as_many fs), zipped-own fs) refl
    by-test false d = twice fs d refl

columns-mean : (fs : Fields) (slots : Slots) (row : Val) (names : List Bytes) → zip_members names (meanings (row_type fs) slots row (trees_of (map column names))) ≡ members_at names row
unfolding mean
columns-mean fs slots row [] = refl
columns-mean fs slots row (f ∷ names) = ap (member f (field_of f row)) (columns-mean fs slots row names)

pub packed_row-means : (fs : Fields) (slots : Slots) (row : Val) → distinct_names (field_names fs) ≡ true → fits_but_for_faults row (row_type fs) ≡ true
    → mean (row_type fs) slots row (packed_row fs) ≡ row
unfolding mean
packed_row-means fs slots row d h =
    let s = struct-value row fs h in
    ap struct_val (columns-mean fs slots row (field_names fs))
    ∙ (ap (λ (v : Val). struct_val (members_at (field_names fs) v)) s.is ∙ (ap struct_val (members_at-own s.members fs s.fit d) ∙ sym s.is))

types-kept : (fs : Fields) (n : Tree) → typed_of (row_type fs) (packed_where_root fs n) ≡ typed_of (row_type fs) n
types-kept fs root = packed_row-typed fs
types-kept fs _ = refl

meanings-kept : (fs : Fields) (slots : Slots) (row : Val) → distinct_names (field_names fs) ≡ true → fits_but_for_faults row (row_type fs) ≡ true
    → (n : Tree) → mean (row_type fs) slots row (packed_where_root fs n) ≡ mean (row_type fs) slots row n
unfolding mean
meanings-kept fs slots row d h root = packed_row-means fs slots row d h
meanings-kept fs slots row d h _ = refl

pub packed_rows_typed : PackedRowsKeepType
packed_rows_typed fs e = typed_of-changed (row_type fs) (packed_where_root fs) (types-kept fs) e

pub packed_rows_mean : PackedRowsKeepMeaning
packed_rows_mean fs slots row e d h =
    mean-changed (row_type fs) slots row (packed_where_root fs) (record { types = types-kept fs; meanings = meanings-kept fs slots row d h }) e
