-- What an expression is in which parts were taken out, over the struct of the packs of its parts.
use Rattle.std.specs.Prelude.{◌≡◌, Bool, true, false, ◌&&◌, List, [], ◌∷◌, map, Ok}
use Rattle.vx_dtype.specs.declared.Nullability.TheVariants.{NonNullable}
use Rattle.vx_dtype.specs.Types.{Bytes, Ty}
use Rattle.vx_dtype.specs.Values.{Val}
use Rattle.vx_expr.specs.Trees.{Tree, root, literal, get_item, binary, not_of, is_null_of, like, between, cast, list_contains, pack, merge, select, dynamic}
use Rattle.vx_expr.specs.Trees.{Trees, no_trees, tree, trees_of}
use Rattle.vx_semantics.specs.Typing.{typed_of}
use Rattle.vx_semantics.specs.Meaning.{Slots, mean}
use Rattle.vx_passes.specs.Annotating.{Entry, entry_of}
use Rattle.vx_passes.specs.Splitting.{Share, taken_from, packed_parts}

-- whether a node with these annotations becomes a part, or what is said of the nodes below it holds
abbrev pub part_or : {A : Type 0} → List A → Bool → Bool
part_or (a ∷ []) below = true
part_or _ below = below

unfoldable mutual
  -- whether the row stands in an expression only in nodes that become parts by the entries of a map
  pub row_in_parts : {A : Type 0} → List (Entry A) → Tree → Bool
  row_in_parts m root = part_or (entry_of root m) false
  row_in_parts m (literal s) = part_or (entry_of (literal s) m) true
  row_in_parts m (get_item f e) = part_or (entry_of (get_item f e) m) (row_in_parts m e)
  row_in_parts m (binary l op r) = part_or (entry_of (binary l op r) m) (row_in_parts m l && row_in_parts m r)
  row_in_parts m (not_of e) = part_or (entry_of (not_of e) m) (row_in_parts m e)
  row_in_parts m (is_null_of e) = part_or (entry_of (is_null_of e) m) (row_in_parts m e)
  row_in_parts m (like e p negated fold_case) = part_or (entry_of (like e p negated fold_case) m) (row_in_parts m e && row_in_parts m p)
  row_in_parts m (between e lower upper options) =
      part_or (entry_of (between e lower upper options) m) (row_in_parts m e && (row_in_parts m lower && row_in_parts m upper))
  row_in_parts m (cast e t) = part_or (entry_of (cast e t) m) (row_in_parts m e)
  row_in_parts m (list_contains l v) = part_or (entry_of (list_contains l v) m) (row_in_parts m l && row_in_parts m v)
  row_in_parts m (pack names es n) = part_or (entry_of (pack names es n) m) (row_in_parts_of_all m es)
  row_in_parts m (merge es n) = part_or (entry_of (merge es n) m) (row_in_parts_of_all m es)
  row_in_parts m (select s e) = part_or (entry_of (select s e) m) (row_in_parts m e)
  row_in_parts m (dynamic e op k t default) = part_or (entry_of (dynamic e op k t default) m) (row_in_parts m e)

  -- the same of each expression of a list
  pub row_in_parts_of_all : {A : Type 0} → List (Entry A) → Trees → Bool
  row_in_parts_of_all m no_trees = true
  row_in_parts_of_all m (tree e es) = row_in_parts m e && row_in_parts_of_all m es

-- the packs of the parts of all shares, as a pack under the texts of their annotations
abbrev pub packed_shares : {A : Type 0} → (A → Bytes) → List (Share A) → Tree
packed_shares text shares =
    pack (map (λ x. text x.annotation) shares) (trees_of (map (λ x. packed_parts (text x.annotation) x.parts) shares)) NonNullable

-- an expression whose every place of the row becomes part of a share, and the type of the packs of the shares
pub record TakesParts (A : Type 0) (same : A → A → Bool) (text : A → Bytes) (m : List (Entry A)) (t : Ty) (e : Tree) (u : Ty) : Type 0 where
  pub decides : (a b : A) → same a b ≡ true → a ≡ b
  pub covered : row_in_parts m e ≡ true
  pub typed : typed_of t (packed_shares text (taken_from same text m e []).shares) ≡ Ok u

-- over that type the expression without its parts has the type, or the refusal, of the expression
abbrev pub TakenKeepsType : Type 0 → Type 0
TakenKeepsType A =
    (same : A → A → Bool) (text : A → Bytes) (m : List (Entry A)) (t : Ty) (e : Tree) (u : Ty) → TakesParts A same text m t e u
    → typed_of u (taken_from same text m e []).expression ≡ typed_of t e

-- at what the packs mean at a row, it means what the expression means at the row
abbrev pub TakenKeepsMeaning : Type 0 → Type 0
TakenKeepsMeaning A =
    (same : A → A → Bool) (text : A → Bytes) (m : List (Entry A)) (t : Ty) (slots : Slots) (row : Val) (e : Tree) (u : Ty)
    → TakesParts A same text m t e u
    → mean u slots (mean t slots row (packed_shares text (taken_from same text m e []).shares)) (taken_from same text m e []).expression ≡ mean t slots row e
