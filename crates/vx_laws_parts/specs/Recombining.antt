-- An expression split by its annotations, put together again from what its partitions mean.
use Rattle.std.specs.Prelude.{◌≡◌, ◌<◌, ◌^◌, Bool, true, List, [], length, map, Ok, Decides}
use Rattle.vx_dtype.specs.Types.{Bytes, Ty}
use Rattle.vx_dtype.specs.TypeRules.{distinct_names}
use Rattle.vx_dtype.specs.Values.{Val, struct_val}
use Rattle.vx_dtype.specs.Fits.{fits_but_for_faults}
use Rattle.vx_expr.specs.Trees.{Tree}
use Rattle.vx_semantics.specs.Typing.{typed_of}
use Rattle.vx_semantics.specs.Meaning.{Slots, zip_members, mean}
use Rattle.vx_semantics.specs.Nodes.{nodes_of}
use Rattle.vx_passes.specs.Annotating.{annotated}
use Rattle.vx_passes.specs.Splitting.{Partition, Split, split, partitions_type, taken_from}
use Rattle.vx_laws_parts.specs.Taking.{row_in_parts, TakesParts}

-- the texts of an expression's shares, in order of first use
abbrev pub share_texts : {A : Type 0} → (A → A → Bool) → (A → Bytes) → (Tree → List A) → Tree → List Bytes
share_texts same text annotate e = map (λ x. text x.annotation) (taken_from same text (annotated same annotate e) e []).shares

-- where `same` tells equal annotations, no two of which have one text, no two shares have one text
abbrev pub TextsTellShares : Type 0 → Type 0
TextsTellShares A =
    (same : A → A → Bool) (text : A → Bytes) (annotate : Tree → List A) (e : Tree)
    → ((a b : A) → Decides (same a b) (a ≡ b)) → ((a b : A) → text a ≡ text b → a ≡ b)
    → distinct_names (share_texts same text annotate e) ≡ true

-- a strictly typed expression whose every place of the row becomes part of a share: `same` tells equal annotations, no two shares have one text,
-- and the nodes, so the parts too, are fewer than 2 ^ 64, up to where the numbers in the parts' names are told apart
pub record Splits (A : Type 0) (same : A → A → Bool) (text : A → Bytes) (annotate : Tree → List A) (t : Ty) (e : Tree) (w : Ty) : Type 0 where
  pub decides : (a b : A) → Decides (same a b) (a ≡ b)
  pub distinct : distinct_names (share_texts same text annotate e) ≡ true
  pub covered : row_in_parts (annotated same annotate e) e ≡ true
  pub few : length (nodes_of e) < 2 ^ 64
  pub typed : typed_of t e ≡ Ok w

-- there the packs of the parts have a strict type
abbrev pub PartsAreTyped : Type 0 → Type 0
PartsAreTyped A =
    (same : A → A → Bool) (text : A → Bytes) (annotate : Tree → List A) (t : Ty) (e : Tree) (w : Ty)
    → Splits A same text annotate t e w → (u : Ty) × TakesParts A same text (annotated same annotate e) t e u

-- the struct of what the partitions mean at a row, each under the text of its annotation
abbrev pub partitions_row : {A : Type 0} → (A → Bytes) → Ty → Slots → Val → List (Partition A) → Val
partitions_row text t slots row ps = struct_val (zip_members (map (λ p. text p.annotation) ps) (map (λ p. mean t slots row p.expression) ps))

-- there splitting is not refused; the partitions have the shares' annotations in order
abbrev pub SplitsWithoutRefusal : Type 0 → Type 0
SplitsWithoutRefusal A =
    (same : A → A → Bool) (text : A → Bytes) (annotate : Tree → List A) (t : Ty) (e : Tree) (w : Ty)
    → Splits A same text annotate t e w
    → (s : Split A) × (split same text annotate t e ≡ Ok s)
    × (map (λ p. p.annotation) s.partitions ≡ map (λ x. x.annotation) (taken_from same text (annotated same annotate e) e []).shares)

-- there, at each row that fits but for faults, with any slots, the root at what the partitions mean means what the expression means
abbrev pub SplitRecombines : Type 0 → Type 0
SplitRecombines A =
    (same : A → A → Bool) (text : A → Bytes) (annotate : Tree → List A) (t : Ty) (slots : Slots) (row : Val) (e : Tree) (w : Ty) (s : Split A)
    → Splits A same text annotate t e w
    → fits_but_for_faults row t ≡ true → split same text annotate t e ≡ Ok s
    → mean (partitions_type text s.partitions) slots (partitions_row text t slots row s.partitions) s.root_expression ≡ mean t slots row e
