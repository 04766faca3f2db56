-- For the checker: no public clause cites this.
-- What is left to write of nodes: a loop keeps a list of them, so that a deep expression needs no call for each level.
use Rattle.std.specs.Prelude.{◌≡◌, ◌<◌, ℕ, ◌+◌, ◌*◌, Bool, true, false, ◌==◌, cond, List, [], ◌∷◌, ◌++◌, length, map, take, drop, get_or, codes}
use Rattle.std.specs.Fmt.{IsPlainFormatter, HasWritten}
use Rattle.std.specs.declared.fmt.Formatter.{Formatter}
use Rattle.vx_dtype.specs.Types.{Bytes}
use Rattle.vx_dtype.specs.Texts.{separator_at}
use Rattle.vx_expr.specs.OperatorTexts.{operator_text}
use Rattle.vx_expr.specs.Trees.{Tree, root, literal, get_item, binary, not_of, is_null_of, like, between, cast, list_contains, pack, merge, select, dynamic, trees_of, children_of}
use Rattle.vx_expr.specs.PostOrders.{post_order_all}
use Rattle.vx_tokens.specs.Names.{name_text}
use Rattle.vx_text.specs.declared.writing.Part.{Part}
use Rattle.vx_text.specs.Writing.{type_text, literal_text, choice_text, like_word, between_word, pack_word, merge_word, query_text}

-- whether a node is a dynamic comparison
abbrev pub is_dynamic : Tree → Bool
is_dynamic (dynamic e op k t default) = true
is_dynamic _ = false

-- how many children of a node stand in its text at most: none of a dynamic comparison, and one for each name where they have names
abbrev pub most_written : Tree → ℕ
most_written (dynamic e op k t default) = 0
most_written (pack names es n) = length names
most_written e = length (children_of e)

-- the children that stand in the text of a node
abbrev pub written_children : Tree → List Tree
written_children e = take (most_written e) (children_of e)

-- the text of a node before its children
abbrev pub opening_text : Tree → Bytes
opening_text root = codes "$"
opening_text (literal s) = literal_text s
opening_text (binary l op r) = codes "("
opening_text (not_of e) = codes "(not "
opening_text (is_null_of e) = codes "is_null("
opening_text (like e p negated fold_case) = like_word negated fold_case ++ codes "("
opening_text (between e lower upper options) = between_word options ++ codes "("
opening_text (cast e t) = codes "cast("
opening_text (list_contains l v) = codes "contains("
opening_text (pack names es n) = pack_word n ++ codes "("
opening_text (merge es n) = merge_word n ++ codes "("
opening_text _ = []

-- what stands right before the child at this place: an operator, or a separator and a name
abbrev pub before_text : Tree → ℕ → Bytes
before_text (binary l op r) i = cond (i == 0) [] (codes " " ++ (operator_text op ++ codes " "))
before_text (pack names es n) i = separator_at i ++ (name_text (get_or names i []) ++ codes ": ")
before_text e i = separator_at i

-- the text of a node behind its children
abbrev pub closing_text : Tree → Bytes
closing_text root = []
closing_text (literal s) = []
closing_text (dynamic e op k t default) = []
closing_text (get_item f e) = codes "." ++ name_text f
closing_text (cast e t) = codes ", " ++ (type_text t ++ codes ")")
closing_text (select s e) = choice_text s
closing_text _ = codes ")"

-- the texts of children from this place on, each behind what stands before it, and behind them a closing text
abbrev pub children_text : (ℕ → Bytes) → Bytes → ℕ → List Tree → Bytes
children_text before closing i [] = closing
children_text before closing i (c ∷ cs) = before i ++ (query_text c ++ children_text before closing (i + 1) cs)

-- a node and the place of a child: the text of the node from there on
abbrev pub part_text : Tree × ℕ → Bytes
part_text (e, i) = children_text (before_text e) (closing_text e) i (drop i (written_children e))

-- the texts of parts, the last part first
abbrev pub parts_text : List (Tree × ℕ) → Bytes
parts_text [] = []
parts_text (p ∷ ps) = parts_text ps ++ part_text p

-- how many steps the loop takes at most for a part: one, and two for each node below it; and for all of these
abbrev pub part_steps : Tree × ℕ → ℕ
part_steps (e, i) = 1 + 2 * length (post_order_all (trees_of (drop i (written_children e))))

abbrev pub parts_steps : List (Tree × ℕ) → ℕ
parts_steps [] = 0
parts_steps (p ∷ ps) = part_steps p + parts_steps ps

-- a part as the code has it
abbrev pub part_of : Part → Tree × ℕ
part_of p = (p.expr.now, p.next)

abbrev pub parts_of : List Part → List (Tree × ℕ)
parts_of parts = map part_of parts

-- a text was written of a part, and parts of fewer steps are left to write in its place
pub record Began {W : Type 0} (took : W → List ℕ → W → Type 0) (f g : Formatter W) (before after : List (Tree × ℕ)) (p : Tree × ℕ) : Type 0 where
  pub written : Bytes
  pub rest : List (Tree × ℕ)
  pub wrote : IsPlainFormatter f → HasWritten took f written g
  pub left : after ≡ before ++ rest
  pub text : part_text p ≡ written ++ parts_text rest
  pub steps : parts_steps rest < part_steps p
