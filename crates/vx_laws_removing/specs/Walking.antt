-- One walk from the leaves up that does the work of three passes: selects and merges become packs, and fields straight on packs their values.
use Rattle.std.specs.Prelude.{◌≡◌, List, [], ◌∷◌, not, Result, Ok, Err}
use Rattle.vx_dtype.specs.declared.Nullability.{Nullability}
use Rattle.vx_dtype.specs.Types.{Bytes, Ty, struct_ty, Fields}
use Rattle.vx_dtype.specs.TypeRules.{is_nullable, field_names}
use Rattle.vx_expr.specs.declared.FieldSelection.{FieldSelection}
use Rattle.vx_expr.specs.Selections.{names_where_known}
use Rattle.vx_expr.specs.Trees.{Tree, get_item, pack, merge, select, Trees, no_trees, tree}
use Rattle.vx_semantics.specs.Typing.{Refusal, not_struct, nullable_select, and_then, unless, typed_of}
use Rattle.vx_semantics.specs.LooseTyping.{loosely_typed}
use Rattle.vx_passes.specs.Rebuilding.{rebuilt}
use Rattle.vx_passes.specs.Simplifying.{field_of_pack, without_packed_fields}
use Rattle.vx_passes.specs.Selecting.{fields_pack, without_select}
use Rattle.vx_passes.specs.Merging.{Giving, givings_pack, without_merge}

-- what a select asks of the type of its struct: the fields' names, and whether the struct may be null
pub record StructHead : Type 0 where
  pub names : List Bytes
  pub nullability : Nullability

-- of a type; what is no struct is refused
abbrev pub head_in : Ty → Result StructHead Refusal
head_in (struct_ty fs n) = Ok (record { names = field_names fs; nullability = n })
head_in _ = Err not_struct

-- of an expression over the scope's type: a pack shows it itself, any other expression by its looser type
abbrev pub head_of : Ty → Tree → Result StructHead Refusal
head_of t (pack names es n) = Ok (record { names = names; nullability = n })
head_of t e = and_then (loosely_typed t e) head_in

-- each of a list's fields straight on packs as the pack's value
abbrev pub fields_taken : Trees → Result Trees Refusal
fields_taken no_trees = Ok no_trees
fields_taken (tree e es) = and_then (field_of_pack e) (λ d. and_then (fields_taken es) (λ ds. Ok (tree d ds)))

-- a pack of such fields with their values; any other expression stays
abbrev pub pack_taken : Tree → Result Tree Refusal
pack_taken (pack names es n) = and_then (fields_taken es) (λ ds. Ok (pack names ds n))
pack_taken e = Ok e

-- a select of a struct with this head as a pack of its fields
abbrev pub select_by_head : FieldSelection → Tree → StructHead → Result Tree Refusal
select_by_head s e head = unless (not (is_nullable head.nullability)) nullable_select (fields_pack e (names_where_known s head.names))

-- an expression as one that goes into a merge, by its head
abbrev pub giving_by_head : Ty → Tree → Result Giving Refusal
giving_by_head t e = and_then (head_of t e) (λ head. Ok (record { names = head.names; expression = e }))

-- the structs that go into a merge, by their heads
abbrev pub givings_by_head : Ty → Trees → Result (List Giving) Refusal
givings_by_head t no_trees = Ok []
givings_by_head t (tree e es) = and_then (giving_by_head t e) (λ g. and_then (givings_by_head t es) (λ gs. Ok (g ∷ gs)))

-- a select as such a pack, its fields straight on a pack at once that pack's values
abbrev pub walked_select : Ty → FieldSelection → Tree → Result Tree Refusal
walked_select t s e = and_then (and_then (head_of t e) (select_by_head s e)) pack_taken

-- a merge as a pack of what its structs give, its fields straight on packs at once those packs' values
abbrev pub walked_merge : Ty → Trees → Nullability → Result Tree Refusal
walked_merge t es n = and_then (givings_by_head t es) (λ gs. pack_taken (givings_pack n gs))

-- the step of the walk: what becomes of a node whose children are walked
abbrev pub walked_node : Ty → Tree → Result Tree Refusal
walked_node t (get_item f e) = field_of_pack (get_item f e)
walked_node t (select s e) = walked_select t s e
walked_node t (merge es n) = walked_merge t es n
walked_node t e = Ok e

-- the expression over the scope's type, walked
abbrev pub walked : Ty → Tree → Result Tree Refusal
walked t e = rebuilt (walked_node t) e

-- the three passes whose work the walk does, one after another
abbrev pub passed : Ty → Tree → Result Tree Refusal
passed t e = and_then (without_select t e) (λ d. and_then (without_merge t d) without_packed_fields)

-- of a strictly typed expression the walk makes what the passes make
abbrev pub WalkMakesThePasses : Type 0
WalkMakesThePasses = (t : Ty) (e : Tree) (u : Ty) → typed_of t e ≡ Ok u → walked t e ≡ passed t e

-- a walked struct has the names that its type had as it stood, by either typing: they are what the walk asks at a select or a merge above
abbrev pub WalkedStructsKeepNames : Type 0
WalkedStructsKeepNames =
    (t : Ty) (e d : Tree) (fs : Fields) (n : Nullability) → typed_of t e ≡ Ok (struct_ty fs n) → walked t e ≡ Ok d
    → (loosely_typed t e ≡ Ok (struct_ty fs n)) × (head : StructHead) × (head_of t d ≡ Ok head) × (head.names ≡ field_names fs)
