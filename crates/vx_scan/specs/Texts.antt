-- What the two byte texts of a scan spell, and why they spell no expressions.
use Rattle.std.specs.Prelude.{◌≡◌, ◌⊎◌, Bool}
use Rattle.vx_dtype.specs.Types.{Bytes}
use Rattle.vx_expr.specs.Trees.{Tree}
use Rattle.vx_wire_bytes.specs.Wires.{Wire}
use Rattle.vx_wire_bytes.specs.ReadAnswers.{IsRead, IsRefused}
use Rattle.vx_wire_bytes.specs.declared.errors.WireError.TheVariants as wires
use Rattle.vx_wire.specs.Building.{IsBuilt, IsUnbuilt}
use Rattle.vx_wire.specs.declared.encodings.ExprEncoding.{ExprEncoding}
use Rattle.vx_wire.specs.declared.errors.BuildError.{BuildError}
use Rattle.vx_wire.specs.declared.errors.BuildError.TheVariants as builds
use Rattle.vx_scan.specs.declared.errors.Side.{Side}
use Rattle.vx_scan.specs.declared.errors.Side.TheVariants.{Filter, Projection}
use Rattle.vx_scan.specs.declared.errors.ScanError.{ScanError}
use Rattle.vx_scan.specs.declared.errors.ScanError.TheVariants as errors

-- bytes that spell an expression of which each kind is held
abbrev pub SpellsTree : (ExprEncoding → Bool) → Bytes → Tree → Type 0
SpellsTree holds bytes e = (wire : Wire) × IsRead bytes wire × IsBuilt holds wire e

-- bytes that spell a wire tree that builds nothing, for this reason
abbrev pub SpellsUnbuilt : (ExprEncoding → Bool) → Bytes → BuildError → Type 0
SpellsUnbuilt holds bytes why = (wire : Wire) × IsRead bytes wire × IsUnbuilt holds wire why

-- why a text spells no expression, with its side: it is no wire text within the limits, or its tree builds nothing
abbrev pub IsTextRefused : (ExprEncoding → Bool) → Side → Bytes → ScanError → Type 0
IsTextRefused holds side bytes (errors.BadWire s) = (s ≡ side) × IsRefused bytes wires.BadWire
IsTextRefused holds side bytes (errors.TooDeep s) = (s ≡ side) × IsRefused bytes wires.TooDeep
IsTextRefused holds side bytes (errors.TooManyNodes s) = (s ≡ side) × IsRefused bytes wires.TooManyNodes
IsTextRefused holds side bytes (errors.UnknownExpr s) = (s ≡ side) × SpellsUnbuilt holds bytes builds.UnknownExpr
IsTextRefused holds side bytes (errors.BadMetadata s) = (s ≡ side) × SpellsUnbuilt holds bytes builds.BadMetadata
IsTextRefused holds side bytes (errors.WrongChildren s) = (s ≡ side) × SpellsUnbuilt holds bytes builds.WrongChildren
IsTextRefused holds side bytes _ = ⊥

-- two texts that spell this filter and this projection
pub record SpellBoth (holds : ExprEncoding → Bool) (filter_text projection_text : Bytes) (filter_expr projection : Tree) : Type 0 where
  pub filter_spelled : SpellsTree holds filter_text filter_expr
  pub projection_spelled : SpellsTree holds projection_text projection

-- the first refusal of two texts: of the filter's, else of the projection's
abbrev pub AreRefused : (ExprEncoding → Bool) → Bytes → Bytes → ScanError → Type 0
AreRefused holds filter_text projection_text e =
    IsTextRefused holds Filter filter_text e
    ⊎ (((filter_expr : Tree) × SpellsTree holds filter_text filter_expr) × IsTextRefused holds Projection projection_text e)
