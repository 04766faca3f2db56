use Rattle.std.proofs.Common.{ap, ◌∙◌, map, arith}
use Rattle.std.proofs.lemmas.List.{take_all}
use Rattle.vx_dtype.specs.declared.Nullability.TheVariants.{Nullable}
use Rattle.vx_dtype.specs.RawViews.{raw_view}
use Rattle.vx_numbers.specs.Numbers.{all_in_range}
use Rattle.vx_column.specs.RawParts.{raw_number}
use Rattle.vx_column.proofs.NumberLemmas.{numbers_in_range, raw_numbers_fit}
use Rattle.vx_column.proofs.numbers.numbers_of_values.Goals as goal

pub from_options-requires : goal.from_options-requires
from_options-requires c =
    let made = c.as_slice.ensures.value ∙ c.loop-value.invariant ∙ ap (λ xs. map (λ x. raw_number (raw_view x)) xs) (take_all c.loop-value.value-index c.args.values.now (omega arith)) in
    ap (all_in_range c.args.ptype) made ∙ numbers_in_range c.args.ptype Nullable (map (λ x. raw_number (raw_view x)) c.args.values.now) (raw_numbers_fit c.args.ptype Nullable c.args.values.now c.requires)
