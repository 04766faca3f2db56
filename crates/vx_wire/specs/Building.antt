-- Building expressions from wire trees: what is built, and why a tree is refused.
use Rattle.std.specs.Prelude.{◌≡◌, ◌⊎◌, ℕ, Bool, true, false, List, [], ◌∷◌, length, Option, Some, None}
use Rattle.vx_dtype.specs.Types.{Bytes}
use Rattle.vx_expr.specs.Trees.{Tree, children_of}
use Rattle.vx_wire_bytes.specs.Wires.{Wire, node, Wires, no_wires, first, number_of}
use Rattle.vx_wire.specs.Encodings.{encoding_of}
use Rattle.vx_wire.specs.Registries.{held_named}
use Rattle.vx_wire.specs.Metadata.{metadata_bytes, HasMetadata, takes, HasForm}
use Rattle.vx_wire.specs.Forms.{wire_of, Everywhere}
use Rattle.vx_wire.specs.declared.encodings.ExprEncoding.{ExprEncoding}
use Rattle.vx_wire.specs.declared.errors.BuildError.{BuildError}
use Rattle.vx_wire.specs.declared.errors.BuildError.TheVariants as errors

-- the expression is of the kind, and has these bytes as its metadata
pub record IsSpelled (kind : ExprEncoding) (metadata : Bytes) (e : Tree) : Type 0 where
  pub is_kind : encoding_of e ≡ kind
  pub form : HasMetadata e
  pub bytes : metadata ≡ metadata_bytes e

-- the expression is the one of this kind with this metadata and these children, in the number that it takes
pub record IsBuiltOf (kind : ExprEncoding) (metadata : Bytes) (children : List Tree) (e : Tree) : Type 0 where
  pub spelled : IsSpelled kind metadata e
  pub children_are : children_of e ≡ children
  pub number : takes e (length children) ≡ true

-- why a kind builds nothing of this metadata and so many children; want of memory has no cause in them
abbrev pub IsUnbuiltOf : ExprEncoding → Bytes → ℕ → BuildError → Type 0
IsUnbuiltOf kind metadata children errors.NoMemory = Unit {0}
IsUnbuiltOf kind metadata children errors.UnknownExpr = ⊥
IsUnbuiltOf kind metadata children errors.BadMetadata = (e : Tree) → ¬ (IsSpelled kind metadata e)
IsUnbuiltOf kind metadata children errors.WrongChildren = (e : Tree) × IsSpelled kind metadata e × (takes e children ≡ false)

-- the expression is the one whose wire form this is, each node has a form, and each kind is held
pub record IsBuilt (holds : ExprEncoding → Bool) (wire : Wire) (e : Tree) : Type 0 where
  pub form : wire ≡ wire_of e
  pub forms : Everywhere HasForm e
  pub held : Everywhere (λ n. holds (encoding_of n) ≡ true) e

-- each wire node of a list builds an expression
abbrev pub AreBuilt : (ExprEncoding → Bool) → Wires → Type 0
AreBuilt holds no_wires = Unit {0}
AreBuilt holds (first n ns) = ((e : Tree) × IsBuilt holds n e) × AreBuilt holds ns

-- each wire node of a list builds the expression at its place
abbrev pub AreBuiltTo : (ExprEncoding → Bool) → Wires → List Tree → Type 0
AreBuiltTo holds no_wires [] = Unit {0}
AreBuiltTo holds no_wires (e ∷ es) = ⊥
AreBuiltTo holds (first n ns) [] = ⊥
AreBuiltTo holds (first n ns) (e ∷ es) = IsBuilt holds n e × AreBuiltTo holds ns es

-- why a wire node whose children are built, so many, is refused: its kind, its metadata, the number of its children, in this order
abbrev pub IsRefusedAt : Option ExprEncoding → Bytes → ℕ → BuildError → Type 0
IsRefusedAt None metadata children why = why ≡ errors.UnknownExpr
IsRefusedAt (Some kind) metadata children errors.NoMemory = ⊥
IsRefusedAt (Some kind) metadata children why = IsUnbuiltOf kind metadata children why

abbrev mutual
  -- the refusal is that of the first node in post-order that has one
  pub IsRefusedFirst : (ExprEncoding → Bool) → BuildError → Wire → Type 0
  IsRefusedFirst holds why (node id metadata children) =
      IsOneRefused holds why children ⊎ (AreBuilt holds children × IsRefusedAt (held_named holds id) metadata (number_of children) why)

  pub IsOneRefused : (ExprEncoding → Bool) → BuildError → Wires → Type 0
  IsOneRefused holds why no_wires = ⊥
  IsOneRefused holds why (first n ns) = IsRefusedFirst holds why n ⊎ (((e : Tree) × IsBuilt holds n e) × IsOneRefused holds why ns)

-- why a wire tree builds nothing; want of memory has no cause in it
abbrev pub IsUnbuilt : (ExprEncoding → Bool) → Wire → BuildError → Type 0
IsUnbuilt holds wire errors.NoMemory = Unit {0}
IsUnbuilt holds wire why = IsRefusedFirst holds why wire
