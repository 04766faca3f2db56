-- Zones without statistics of plain columns whose names are distinct break no rule.
use Rattle.std.proofs.Common.{◌≡◌, refl, ℕ, nat_le, Bool, true, false, cond, not, List, [], Some, None}
use Rattle.std.specs.List.{list_all}
use Rattle.std.proofs.lemmas.Bool.{and_parts, and_from}
use Rattle.vx_dtype.specs.Types.{Ty, bool_ty, int_ty, text_ty, list_ty, struct_ty, Fields, no_fields, field}
use Rattle.vx_dtype.specs.TypeRules.{is_plain, field_names, distinct_names, no_name_twice, no_name_twice_below, depth_of, most_deep}
use Rattle.vx_dtype.specs.StructTypes.{field_types}
use Rattle.vx_semantics.specs.Tables.{row_type}
use Rattle.vx_zones.specs.declared.errors.ZoneError.TheVariants as errors
use Rattle.vx_zones.specs.Zoning.{are_shallow, broken_rule}
use Rattle.vx_zones.specs.ZoneViews.{zones_with}

shallow : (t : Ty) → is_plain t ≡ true → nat_le (depth_of t) most_deep ≡ true
unfolding depth_of
shallow (bool_ty n) h = refl
shallow (int_ty p n) h = refl
shallow (text_ty n) h = refl
shallow (list_ty e n) h = absurd cc
shallow (struct_ty fs n) h = absurd cc

once : (t : Ty) → is_plain t ≡ true → no_name_twice t ≡ true
unfolding no_name_twice
once (bool_ty n) h = refl
once (int_ty p n) h = refl
once (text_ty n) h = refl
once (list_ty e n) h = absurd cc
once (struct_ty fs n) h = absurd cc

all-shallow : (fs : Fields) → list_all is_plain (field_types fs) ≡ true → are_shallow fs ≡ true
all-shallow no_fields h = refl
all-shallow (field f t fs) h =
    let parts = and_parts (is_plain t) (list_all is_plain (field_types fs)) h in
    and_from (nat_le (depth_of t) most_deep) (are_shallow fs) (shallow t parts.0) (all-shallow fs parts.1)

all-once : (fs : Fields) → list_all is_plain (field_types fs) ≡ true → no_name_twice_below fs ≡ true
unfolding no_name_twice
all-once no_fields h = refl
all-once (field f t fs) h =
    let parts = and_parts (is_plain t) (list_all is_plain (field_types fs)) h in
    and_from (no_name_twice t) (no_name_twice_below fs) (once t parts.0) (all-once fs parts.1)

row-names : (fs : Fields) → distinct_names (field_names fs) ≡ true → list_all is_plain (field_types fs) ≡ true → no_name_twice (row_type fs) ≡ true
unfolding no_name_twice
row-names fs d h = and_from (distinct_names (field_names fs)) (no_name_twice_below fs) d (all-once fs h)

by-tests : (a b : Bool) → a ≡ true → b ≡ true → cond (not a) (Some errors.DuplicateName) (cond (not b) (Some errors.DeepType) None) ≡ None
by-tests true true h k = refl
by-tests true false h k = absurd cc
by-tests false b h k = absurd cc

pub no-rule-broken : (fs : Fields) (lengths : List ℕ) → distinct_names (field_names fs) ≡ true → list_all is_plain (field_types fs) ≡ true
    → broken_rule (zones_with (row_type fs) lengths []) ≡ None
unfolding broken_rule
no-rule-broken fs lengths d h = by-tests (no_name_twice (row_type fs)) (are_shallow fs) (row-names fs d h) (all-shallow fs h)
