-- For the checker: no public clause cites this.
-- What is left to write of a binary node, piece by piece: a loop keeps the pieces, so that a deep chain needs no call for each link.
use Rattle.std.specs.Prelude.{◌≡◌, ◌<◌, ◌≤◌, ℕ, ◌+◌, max, [], ◌∷◌, ◌++◌, List, map, codes}
use Rattle.std.specs.Fmt.{IsPlainFormatter, HasWritten}
use Rattle.std.specs.declared.fmt.Formatter.{Formatter}
use Rattle.vx_dtype.specs.Types.{Bytes}
use Rattle.vx_expr.specs.declared.operators.Operator.{Operator}
use Rattle.vx_expr.specs.declared.display.Piece.{Piece}
use Rattle.vx_expr.specs.declared.display.Piece.TheVariants.{Whole, Behind, Closing}
use Rattle.vx_expr.specs.OperatorTexts.{operator_text}
use Rattle.vx_expr.specs.Trees.{Tree, binary}
use Rattle.vx_expr.specs.Nodes.{binary_operator, binary_right}
use Rattle.vx_expr.specs.Heights.{height}
use Rattle.vx_expr.specs.CompactTexts.{compact_text}

-- a piece: an expression, what stands behind a left operand, or the closing bracket
pub data Part : Type 0 where
  whole : Tree → Part
  behind : Operator → Tree → Part
  closing : Part

abbrev pub part_of : Piece → Part
part_of (Whole e) = whole e.now
part_of (Behind x) = behind (binary_operator x.now) (binary_right x.now)
part_of Closing = closing

abbrev pub parts_of : List Piece → List Part
parts_of pieces = map part_of pieces

-- the text of a piece
abbrev pub part_text : Part → Bytes
part_text (whole e) = compact_text e
part_text (behind op r) = codes " " ++ (operator_text op ++ (codes " " ++ (compact_text r ++ codes ")")))
part_text closing = codes ")"

-- the texts of pieces, the last piece first
abbrev pub parts_text : List Part → Bytes
parts_text [] = []
parts_text (p ∷ ps) = parts_text ps ++ part_text p

-- how many further steps the loop takes for an expression
abbrev pub further_steps : Tree → ℕ
further_steps (binary l op r) = 4 + further_steps l + further_steps r
further_steps _ = 0

-- in how many steps the loop writes a piece, and all of these
abbrev pub part_steps : Part → ℕ
part_steps (whole e) = 1 + further_steps e
part_steps (behind op r) = 3 + further_steps r
part_steps closing = 1

abbrev pub parts_steps : List Part → ℕ
parts_steps [] = 0
parts_steps (p ∷ ps) = part_steps p + parts_steps ps

-- the height of the expression in a piece, and of the highest of these
abbrev pub part_height : Part → ℕ
part_height (whole e) = height e
part_height (behind op r) = height r
part_height closing = 0

abbrev pub parts_height : List Part → ℕ
parts_height [] = 0
parts_height (p ∷ ps) = max (part_height p) (parts_height ps)

-- a text was written of a piece, and lower pieces, of fewer steps, are left to write in its place, none higher than this
pub record Began {W : Type 0} (took : W → List ℕ → W → Type 0) (f g : Formatter W) (before after : List Part) (p : Part) (highest : ℕ) : Type 0 where
  pub written : Bytes
  pub rest : List Part
  pub wrote : IsPlainFormatter f → HasWritten took f written g
  pub left : after ≡ before ++ rest
  pub text : part_text p ≡ written ++ parts_text rest
  pub steps : parts_steps rest < part_steps p
  pub lower : parts_height rest ≤ highest
