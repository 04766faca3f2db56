-- For the checker: no public clause cites this.
-- The lines of a tree as they are written: the columns, the branch, the name, and the node's own text.
use Rattle.std.specs.Prelude.{Bool, cond, [], ◌++◌, Option, Some, None, codes}
use Rattle.vx_dtype.specs.Types.{Bytes}
use Rattle.vx_expr.specs.NodeTexts.{node_text}
use Rattle.vx_expr.specs.Trees.{Tree}
use Rattle.vx_display.specs.TreeTexts.{middle_branch, last_branch, beside_branch}
use Rattle.vx_display.specs.declared.trees.Prefix.{Prefix, fold-Prefix}
use Rattle.vx_display.specs.declared.trees.Prefix.TheOpen.{Prefix-F}

-- the branch before a child: of the last one, and of one that others follow
abbrev pub branch : Bool → Bytes
branch last = cond last last_branch middle_branch

-- the column that stands before what is below such a child
abbrev pub column : Bool → Bytes
column last = cond last (codes "    ") beside_branch

-- all columns before what is below a node
abbrev pub prefix_step : Prefix-F Bytes → Bytes
prefix_step Prefix-F.Empty = []
prefix_step (Prefix-F.Below above last) = above.now ++ column last

abbrev pub prefix_text : Prefix → Bytes
prefix_text = fold-Prefix Bytes prefix_step

-- a name and `: `, nothing where there is none
abbrev pub label_of : Option Bytes → Bytes
label_of None = []
label_of (Some name) = name ++ codes ": "

-- the line of a child
abbrev pub line : Bytes → Bool → Bytes → Tree → Bytes
line prefix last label e = prefix ++ (branch last ++ (label ++ (node_text e ++ codes "\n")))
