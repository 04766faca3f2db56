-- Registries: which kinds of expressions are built from wire trees.
use Rattle.std.specs.Prelude.{Bool, false, ◌||◌, List, [], ◌∷◌, Option, Some, None, slice_index_or, if◌then◌else◌}
use Rattle.std.specs.Option.{option_and_then}
use Rattle.vx_dtype.specs.Types.{Bytes}
use Rattle.vx_wire.specs.Encodings.{kind_place, kind_named, same_kind}
use Rattle.vx_wire.specs.declared.encodings.ExprEncoding.{ExprEncoding}
use Rattle.vx_wire.specs.declared.registries.ExprRegistry.{ExprRegistry}

-- whether a registry holds a kind
abbrev pub registered : ExprRegistry → ExprEncoding → Bool
registered r e = slice_index_or r.held (kind_place e) false

-- whether a kind is held once these are registered, where it was held before or not
abbrev pub held_after : List ExprEncoding → ExprEncoding → Bool → Bool
held_after [] e before = before
held_after (first ∷ others) e before = held_after others e (same_kind first e || before)

-- the kind of this name, where it is one of those that are held
abbrev pub held_named : (ExprEncoding → Bool) → Bytes → Option ExprEncoding
held_named holds id = option_and_then (λ e. if holds e then Some e else None) (kind_named id)
