-- For the checker: no public clause cites this.
-- The elements of a constant list, each outside two bounds.
use Rattle.vx_dtype.specs.Types.{Ty}
use Rattle.vx_dtype.specs.Values.{Raws, no_raws, raw}
use Rattle.vx_expr.specs.Trees.{Tree, literal}
use Rattle.vx_dtype.specs.declared.Stat.TheVariants.{Min, Max}
use Rattle.vx_passes.specs.Catalogs.{Catalog}
use Rattle.vx_passes.specs.Falsifying.{Found, bound_of, found_next, outside, all_outside_after, unasked}

-- the first element outside the bounds, and so each of those behind it; without elements the greatest value stands for nothing
abbrev pub all_outside : Tree → Tree → Ty → Raws → Tree
all_outside greatest least t no_raws = greatest
all_outside greatest least t (raw x xs) = all_outside_after greatest least t (outside greatest least (literal (record { ty = t; value = x }))) xs

-- membership in a list that has elements
abbrev pub some_falsified : Tree → Ty → Raws → Catalog → Found
some_falsified e t xs catalog =
    found_next (bound_of catalog Max e) (λ greatest. found_next (bound_of catalog Min e) (λ least. unasked (all_outside greatest least t xs)))
