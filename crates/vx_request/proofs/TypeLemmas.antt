-- Types with one level more.
use Rattle.std.proofs.Common.{◌≡◌, ℕ, zero, suc, ◌-◌, refl, arith}
use Rattle.std.specs.Option.{option_or}
use Rattle.serde_json.specs.Data.{Data}
use Rattle.vx_request.specs.WrittenTypes.{plain_type_in, list_type_in, struct_type_in, type_within}

-- a type with some levels is plain, or a list's or a struct's with one level fewer
pub within_levels : (levels : ℕ) (d : Data) → (levels ≡ 0 → ⊥)
    → type_within levels d ≡ option_or (plain_type_in d) (option_or (list_type_in (type_within (levels - 1)) d) (struct_type_in (type_within (levels - 1)) d))
unfolding type_within
within_levels zero d h = absurd (h refl)
within_levels (suc levels) d h = let e : suc levels - 1 ≡ levels = omega arith in rw e refl
