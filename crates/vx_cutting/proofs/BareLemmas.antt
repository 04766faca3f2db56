-- Zones without statistics break no rule where zones of the same columns break none.
use Rattle.std.proofs.Common.{◌≡◌, refl, sym, ◌∙◌, Bool, true, false, cond, not, List, ℕ, Option, Some, None, Err}
use Rattle.vx_dtype.specs.TypeRules.{no_name_twice}
use Rattle.vx_semantics.specs.Tables.{Zones, row_type}
use Rattle.vx_zones.specs.Zoning.{are_shallow, broken_rule}
use Rattle.vx_zones.specs.declared.errors.ZoneError.{ZoneError}
use Rattle.vx_zones.specs.declared.errors.ZoneError.TheVariants as errors
use Rattle.vx_zones.specs.ZoneAnswers.{MakesZones}
use Rattle.vx_cutting.specs.Cutting.{bare_zones}

-- a rule that isn't broken, and those behind it
passed : (b : Bool) (e : ZoneError) (y : Option ZoneError) → cond (not b) (Some e) y ≡ None → (b ≡ true) × (y ≡ None)
passed true e y h = (refl, h)
passed false e y h = let no : ⊥ = cc in absurd no

kept_rule : (b : Bool) (x y : Option ZoneError) → b ≡ true → cond (not b) x y ≡ y
kept_rule true x y h = refl
kept_rule false x y h = let no : ⊥ = cc in absurd no

-- names are distinct in the row type
pub distinct_in : (z : Zones) → broken_rule z ≡ None → no_name_twice (row_type z.columns) ≡ true
unfolding broken_rule
distinct_in z h = (passed (no_name_twice (row_type z.columns)) _ _ h).0

pub bare_unbroken : (z : Zones) (ns : List ℕ) → broken_rule z ≡ None → broken_rule (bare_zones z ns) ≡ None
unfolding broken_rule
bare_unbroken z ns h =
    let first = passed (no_name_twice (row_type z.columns)) _ _ h in
    let second = passed (are_shallow z.columns) _ _ first.1 in
    kept_rule (no_name_twice (row_type z.columns)) (Some errors.DuplicateName) _ first.0 ∙ kept_rule (are_shallow z.columns) (Some errors.DeepType) None second.0

-- zones that break no rule are refused for want of memory alone
never_broken : (o : Option ZoneError) (e : ZoneError) → o ≡ None → o ≡ Some e → ⊥
never_broken o e h k = let no : None ≡ Some e = sym h ∙ k in cc

pub only_memory : (z : Zones) (e : ZoneError) → MakesZones z (Err e) → broken_rule z ≡ None → e ≡ errors.NoMemory
only_memory z errors.NoMemory h k = refl
only_memory z errors.DuplicateName h k = absurd (never_broken (broken_rule z) errors.DuplicateName k h)
only_memory z errors.DeepType h k = absurd (never_broken (broken_rule z) errors.DeepType k h)
only_memory z errors.BadStatPath h k = absurd (never_broken (broken_rule z) errors.BadStatPath k h)
only_memory z errors.DuplicateStat h k = absurd (never_broken (broken_rule z) errors.DuplicateStat k h)
only_memory z errors.WrongStatCount h k = absurd (never_broken (broken_rule z) errors.WrongStatCount k h)
only_memory z errors.WrongStatType h k = absurd (never_broken (broken_rule z) errors.WrongStatType k h)
