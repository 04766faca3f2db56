-- What has to unfold for the worked examples to compute.
use Rattle.std.specs.Fmt.{digits}
use Rattle.std.specs.Str.{chars}
use Rattle.vx_dtype.specs.TypeRules.{alike, no_name_twice, depth_of}
use Rattle.vx_dtype.specs.Equal.{ty_eq, raw_eq}
use Rattle.vx_dtype.specs.Values.{valued}
use Rattle.vx_dtype.specs.Fits.{fits, val_fits, fits_but_for_faults, holds_fault}
use Rattle.vx_dtype.specs.Like.{matches}
use Rattle.vx_expr.specs.Conjuncts.{conjuncts_of}
use Rattle.vx_expr.specs.Equal.{tree_eq}
use Rattle.vx_semantics.specs.Typing.{typed_of}
use Rattle.vx_semantics.specs.LooseTyping.{loosely_typed}
use Rattle.vx_semantics.specs.Meaning.{mean}
use Rattle.vx_semantics.specs.Asked.{asked}
use Rattle.vx_semantics.specs.Pruning.{rules_out}
use Rattle.vx_semantics.specs.Slots.{slots_fit}
use Rattle.vx_semantics.specs.Instances.{without_ranges, IsReplaced}
use Rattle.vx_passes.specs.Rebuilding.{rebuilt}
use Rattle.vx_passes.specs.Replacing.{changed_by}
use Rattle.vx_passes.specs.Annotating.{annotated_from}
use Rattle.vx_passes.specs.Splitting.{taken_from}
use Rattle.vx_passes.specs.Falsifying.{falsified}
use Rattle.vx_laws_scan.specs.Exactness.{is_plain_filter, is_exact_filter, PathsAreBounded}

-- named on an `unfolding` line it opens all of these
unfoldable pub all_definitions : Unit {0}
unfolding digits chars alike no_name_twice depth_of ty_eq raw_eq valued fits val_fits fits_but_for_faults holds_fault matches conjuncts_of
    typed_of loosely_typed mean asked rules_out slots_fit without_ranges IsReplaced tree_eq rebuilt changed_by annotated_from taken_from
    falsified is_plain_filter is_exact_filter PathsAreBounded
all_definitions = tt
