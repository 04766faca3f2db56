-- A pass from the leaves up, node by node: first the children, then the node with these.
use Rattle.std.specs.Prelude.{List, [], ◌∷◌, Option, unwrap_or, Result, Ok, Err}
use Rattle.vx_expr.specs.Children.{with_children_of}
use Rattle.vx_expr.specs.Trees.{Tree, children_of}
use Rattle.vx_semantics.specs.Typing.{Refusal, and_then}
use Rattle.vx_transform.specs.declared.errors.TransformError.{TransformError}
use Rattle.vx_transform.specs.declared.errors.TransformError.TheVariants.{NoMemory}
use Rattle.vx_passes.specs.Rebuilding.{rebuilt}
use Rattle.vx_passes.specs.Simplifying.{field_of_pack}

-- what a rule gives each of a list, or its first refusal
abbrev pub each : {A B : Type 0} → (A → Result B Refusal) → List A → Result (List B) Refusal
each rule [] = Ok []
each rule (x ∷ xs) = and_then (rule x) (λ y. and_then (each rule xs) (λ ys. Ok (y ∷ ys)))

-- what was made of an expression; itself where nothing was
abbrev pub or_same : Tree → Option Tree → Tree
or_same e made = unwrap_or made e

-- what was made of each expression of a list; itself where nothing was
abbrev pub all_or_same : List Tree → List (Option Tree) → List Tree
all_or_same [] made = []
all_or_same (e ∷ es) [] = e ∷ es
all_or_same (e ∷ es) (m ∷ made) = or_same e m ∷ all_or_same es made

-- the node with these children, as many as its own
abbrev pub with_these : Tree → List Tree → Tree
with_these e cs = unwrap_or (with_children_of e cs) e

-- the node with its children rebuilt
abbrev pub children_rebuilt : (Tree → Result Tree Refusal) → Tree → Result Tree Refusal
children_rebuilt step e = and_then (each (rebuilt step) (children_of e)) (λ cs. Ok (with_these e cs))

-- the node with each child that is a field straight on a pack as that pack's value
abbrev pub children_taken : Tree → Result Tree Refusal
children_taken e = and_then (each field_of_pack (children_of e)) (λ cs. Ok (with_these e cs))

-- the answer is no refusal but of memory
abbrev pub OkOrNoMemory : {A : Type 0} → Result A TransformError → Type 0
OkOrNoMemory (Ok made) = Unit {0}
OkOrNoMemory (Err NoMemory) = Unit {0}
OkOrNoMemory (Err e) = ⊥
