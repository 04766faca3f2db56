-- For the checker: no public clause cites this.
-- Numbers of expressions: equal ones have the same number.
use Rattle.std.specs.Prelude.{◌≡◌, ℕ, pos, List, [], ◌∷◌, map, Some}
use Rattle.std.specs.List.{slice_get}
use Rattle.vx_dtype.specs.declared.Nullability.TheVariants.{NonNullable}
use Rattle.vx_dtype.specs.declared.integers.PType.TheVariants.{U64}
use Rattle.vx_dtype.specs.Types.{int_ty}
use Rattle.vx_dtype.specs.Values.{raw_int}
use Rattle.vx_dtype.specs.ScalarAnswers.{typed}
use Rattle.vx_expr.specs.Trees.{Tree, literal, children_of}
use Rattle.vx_transform.specs.Rebuilds.{with_these}
use Rattle.vx_partition.specs.declared.numbers.Numbered.{Numbered}
use Rattle.vx_partition.specs.declared.numbers.Numbers.{Numbers}

-- a number as a constant
abbrev pub number_tree : ℕ → Tree
number_tree n = literal (typed (int_ty U64 NonNullable) (raw_int (pos n)))

-- a node with the numbers of its children in the children's place
abbrev pub over_numbers : Tree → List ℕ → Tree
over_numbers e ns = with_these e (map number_tree ns)

-- the expressions of a table's entries; the place of each is its number
abbrev pub exprs_of : List (Tree × Numbered) → List Tree
exprs_of nodes = map (λ r. r.1.expr) nodes

-- the expressions that have numbers
abbrev pub known : Numbers → List Tree
known numbers = exprs_of numbers.nodes.entries

-- these are the numbers of the expressions of a list, one by one
abbrev pub AreNumbersOf : List Tree → List ℕ → List Tree → Type 0
AreNumbersOf known [] [] = Unit {0}
AreNumbersOf known (n ∷ ns) (e ∷ es) = (slice_get known n ≡ Some e) × AreNumbersOf known ns es
AreNumbersOf known _ _ = ⊥

-- each entry has the numbers of its expression's children and stands under the node over these, and no expression has two numbers
pub record IsNumbering (nodes : List (Tree × Numbered)) : Type 0 where
  pub keyed : (n : ℕ) (r : Tree × Numbered) → slice_get nodes n ≡ Some r → r.0 ≡ over_numbers r.1.expr r.1.below.items
  pub numbered : (n : ℕ) (r : Tree × Numbered) → slice_get nodes n ≡ Some r → AreNumbersOf (exprs_of nodes) r.1.below.items (children_of r.1.expr)
  pub once : (m n : ℕ) (e : Tree) → slice_get (exprs_of nodes) m ≡ Some e → slice_get (exprs_of nodes) n ≡ Some e → m ≡ n

-- each expression keeps its number
abbrev pub KeepsNumbers : List Tree → List Tree → Type 0
KeepsNumbers old new = (n : ℕ) (e : Tree) → slice_get old n ≡ Some e → slice_get new n ≡ Some e

-- the table is a numbering again, and each expression keeps its number
pub record Grows (old new : Numbers) : Type 0 where
  pub numbering : IsNumbering new.nodes.entries
  pub kept : KeepsNumbers (known old) (known new)

-- these expressions were numbered so
pub record HasNumbered (old : Numbers) (es : List Tree) (ns : List ℕ) (new : Numbers) : Type 0 where
  pub numbers : AreNumbersOf (known new) ns es
  pub grown : Grows old new
