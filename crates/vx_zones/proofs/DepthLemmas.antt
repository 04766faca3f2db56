-- How deep the types of columns are: a test of the columns tests the type of each.
use Rattle.std.proofs.Common.{◌≡◌, refl, ap, ◌&&◌, nat_le}
use Rattle.std.specs.List.{list_all}
use Rattle.vx_dtype.specs.Types.{Fields, no_fields, field}
use Rattle.vx_dtype.specs.TypeRules.{depth_of, most_deep}
use Rattle.vx_dtype.specs.StructTypes.{field_types}
use Rattle.vx_zones.specs.Zoning.{are_shallow}

pub are_shallow_all : (fs : Fields) → are_shallow fs ≡ list_all (λ t. nat_le (depth_of t) most_deep) (field_types fs)
are_shallow_all no_fields = refl
are_shallow_all (field f t fs) = ap (λ b. nat_le (depth_of t) most_deep && b) (are_shallow_all fs)
