-- For the checker: no public clause cites this. The column of a field is of a lesser type than the struct's, and so is the column that another masks: so recursions over
-- columns end.
use Rattle.std.specs.Prelude.{◌≡◌, ◌+◌, ◌*◌, ◌≤◌, Bool, true, false, not, ◌&&◌, cond, List, [], ◌∷◌}
use Rattle.std.proofs.Common.{arith, ap, ◌∙◌, refl}
use denote.Param.Weighed.{most}
use Rattle.vx_dtype.specs.declared.Nullability.{Nullability}
use Rattle.vx_dtype.specs.declared.Nullability.TheVariants.{Nullable}
use Rattle.vx_dtype.specs.Types.{Ty, bool_ty, int_ty, text_ty, list_ty, struct_ty, Fields, no_fields, field}
use Rattle.vx_dtype.specs.TypeRules.{depth_of, depth_below, fields_of, is_bool_ty, is_int_ty, is_nullable, nullability_of, with_nullability}
use Rattle.vx_dtype.specs.StructTypes.{field_types}
use Rattle.vx_column.specs.declared.cells.Cells.{Cells}
use Rattle.vx_column.specs.declared.cells.Cells.TheVariants.{Constant, Rows, Truths, Numbers, Columns, Masked}
use Rattle.vx_column.specs.declared.columns.ColumnRef.TheDeep.{deep-Cells}
use Rattle.vx_column.specs.Columns.{Column}
use Rattle.vx_column.specs.StructColumns.{column_types}
use Rattle.vx_column.specs.TypeSizes.{size_of}
use Rattle.vx_column.specs.Cells.{ArePartsOf, AreMaskedOf, masks_apart}

bit_le : (b : Bool) → cond b 1 0 ≤ 1
bit_le true = omega arith
bit_le false = omega arith

pub size_le : (t : Ty) → size_of t ≤ 2 * depth_of t + 1
size_le t = omega (arith, bit_le (is_nullable (nullability_of t)))

most_le-depth_below : (cs : List Column) (fs : Fields) → column_types cs ≡ field_types fs → most (λ c. size_of c.ty + 1) cs ≤ 2 * depth_below fs + 2
unfolding depth_of
most_le-depth_below [] fs e = omega arith
most_le-depth_below (c ∷ cs) no_fields e = absurd cc
most_le-depth_below (c ∷ cs) (field f t fs) e =
    let here : c.ty ≡ t = cc in
    let rest : column_types cs ≡ field_types fs = cc in
    omega (arith, size_le c.ty, ap depth_of here, most_le-depth_below cs fs rest)

pub depth_with : (t : Ty) (n : Nullability) → depth_of (with_nullability t n) ≡ depth_of t
unfolding depth_of
depth_with (bool_ty m) n = refl
depth_with (int_ty p m) n = refl
depth_with (text_ty m) n = refl
depth_with (list_ty t m) n = refl
depth_with (struct_ty fs m) n = refl

nullable_with : (t : Ty) → is_nullable (nullability_of (with_nullability t Nullable)) ≡ true
nullable_with (bool_ty m) = refl
nullable_with (int_ty p m) = refl
nullable_with (text_ty m) = refl
nullable_with (list_ty t m) = refl
nullable_with (struct_ty fs m) = refl

never_nullable : (b c : Bool) → not b && c ≡ true → b ≡ false
never_nullable true c e = absurd cc
never_nullable false c e = refl

no_bit : (b : Bool) → b ≡ false → cond b 1 0 ≤ 0
no_bit true e = absurd cc
no_bit false e = omega arith

one_bit : (b : Bool) → b ≡ true → 1 ≤ cond b 1 0
one_bit true e = omega arith
one_bit false e = absurd cc

pub size_apart : (t : Ty) → masks_apart t ≡ true → size_of (with_nullability t Nullable) ≡ size_of t + 1
size_apart t e =
    let whole = never_nullable (is_nullable (nullability_of t)) (not (is_bool_ty t) && not (is_int_ty t)) e in
    omega (
      arith,
      no_bit (is_nullable (nullability_of t)) whole,
      one_bit (is_nullable (nullability_of (with_nullability t Nullable))) (nullable_with t),
      bit_le (is_nullable (nullability_of (with_nullability t Nullable))),
      depth_with t Nullable,
    )

pub size_masked : (t : Ty) (c : Column) (ts : _) → AreMaskedOf t c ts → size_of t ≡ size_of c.ty + 1
size_masked t c ts h = ap size_of h.whole ∙ size_apart c.ty h.apart

pub deep_le-size_of : (t : Ty) (x : Cells) → ArePartsOf t x → deep-Cells x ≤ size_of t
unfolding depth_of
deep_le-size_of t (Constant x n) h = omega arith
deep_le-size_of t (Rows xs) h = omega arith
deep_le-size_of t (Truths ts) h = omega arith
deep_le-size_of t (Numbers ns) h = omega arith
deep_le-size_of t (Columns cs n) h = omega (arith, most_le-depth_below cs.value.items (fields_of t) h.types, ap depth_of h.shape)
deep_le-size_of t (Masked c ns) h = omega (arith, size_masked t c.value ns.value h)
