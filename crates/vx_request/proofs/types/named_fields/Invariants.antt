use Rattle.std.proofs.Common.{◌≡◌, length, map}
use Rattle.vx_dtype.specs.TypeViews.{type_view}
use Rattle.vx_request.specs.RequestViews.{named_type_view}
use Rattle.vx_request.proofs.types.named_fields.Given as goal

-- the names and the types so far are those of the pairs so far
abbrev pub invariant-loop-name : goal.invariant-loop-name
invariant-loop-name l = record {
  names : l.names.items ≡ map (λ f. f.0) (map named_type_view l.yielded);
  types : map type_view l.dtypes.items ≡ map (λ f. f.1) (map named_type_view l.yielded);
  same : length l.names.items ≡ length l.dtypes.items;
}
