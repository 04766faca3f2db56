-- The metadata of nodes in the wire form: the bytes of each kind, and how many children it takes.
use Rattle.std.specs.Prelude.{◌≡◌, ℕ, ◌≤◌, ◌==◌, nat_le, Bool, true, false, List, [], ◌∷◌, ◌++◌, length}
use Rattle.std.specs.List.{AllByRecursion}
use Rattle.vx_dtype.specs.Types.{Bytes}
use Rattle.vx_dtype.specs.TypeRules.{depth_of, most_deep, null_number}
use Rattle.vx_dtype.specs.declared.StrictComparison.{StrictComparison}
use Rattle.vx_dtype.specs.declared.StrictComparison.TheVariants.{Strict, NonStrict}
use Rattle.vx_expr.specs.Trees.{Tree, root, literal, get_item, binary, not_of, is_null_of, like, between, cast, list_contains, pack, merge, select}
use Rattle.vx_expr.specs.Trees.{dynamic, children_of}
use Rattle.vx_expr.specs.Operators.{operator_number}
use Rattle.vx_expr.specs.Selections.{is_included, listed_names}
use Rattle.vx_wire_bytes.specs.Numbers.{number_bytes, piece_bytes}
use Rattle.vx_wire_bytes.specs.Fields.{IsNumber, IsShort, IsText}
use Rattle.vx_wire_bytes.specs.TypeForms.{type_bytes, NamesAre, IsType}
use Rattle.vx_wire_bytes.specs.ValueForms.{truth_byte, value_bytes, TextsAre, IsValue}

-- the byte of a bound: 1 where it is strict
abbrev pub strictness_byte : StrictComparison → ℕ
strictness_byte NonStrict = 0
strictness_byte Strict = 1

-- the byte of a choice of fields: 0 where it lists what it takes, 1 where it lists what it leaves
abbrev pub choice_byte : Bool → ℕ
choice_byte true = 0
choice_byte false = 1

-- texts one after the other
abbrev pub texts_bytes : List Bytes → Bytes
texts_bytes [] = []
texts_bytes (s ∷ ss) = piece_bytes s ++ texts_bytes ss

-- how many names there are, and these names
abbrev pub names_bytes : List Bytes → Bytes
names_bytes names = number_bytes (length names) ++ texts_bytes names

-- the metadata of a node, by its kind
abbrev pub metadata_bytes : Tree → Bytes
metadata_bytes root = []
metadata_bytes (literal s) = type_bytes s.ty ++ value_bytes s.ty s.value
metadata_bytes (not_of e) = []
metadata_bytes (is_null_of e) = []
metadata_bytes (list_contains l v) = []
metadata_bytes (binary l op r) = operator_number op ∷ []
metadata_bytes (between e lower upper options) = strictness_byte options.lower_strict ∷ strictness_byte options.upper_strict ∷ []
metadata_bytes (like e p negated fold_case) = truth_byte negated ∷ truth_byte fold_case ∷ []
metadata_bytes (get_item f e) = piece_bytes f
metadata_bytes (cast e t) = type_bytes t
metadata_bytes (select s e) = choice_byte (is_included s) ∷ names_bytes (listed_names s)
metadata_bytes (pack names es n) = null_number n ∷ names_bytes names
metadata_bytes (merge es n) = null_number n ∷ []
metadata_bytes (dynamic e op k t default) = []

-- names that have a spelling as a list
abbrev pub AreNames : List Bytes → Type 0
AreNames names = IsNumber (length names) × AllByRecursion IsText names

-- names whose number and whose lengths have spellings
abbrev pub AreShort : List Bytes → Type 0
AreShort names = IsNumber (length names) × AllByRecursion IsShort names

-- whether the metadata of a node has a spelling; that of a dynamic comparison has none
abbrev pub HasMetadata : Tree → Type 0
HasMetadata (literal s) = IsType s.ty × IsValue s.ty s.value
HasMetadata (get_item f e) = IsText f
HasMetadata (cast e t) = IsType t
HasMetadata (select s e) = AreNames (listed_names s)
HasMetadata (pack names es n) = AreNames names
HasMetadata (dynamic e op k t default) = ⊥
HasMetadata _ = Unit {0}

-- whether a node with this metadata takes so many children
abbrev pub takes : Tree → ℕ → Bool
takes root k = k == 0
takes (literal s) k = k == 0
takes (not_of e) k = k == 1
takes (is_null_of e) k = k == 1
takes (list_contains l v) k = k == 2
takes (binary l op r) k = k == 2
takes (between e lower upper options) k = k == 3
takes (like e p negated fold_case) k = k == 2
takes (get_item f e) k = k == 1
takes (cast e t) k = k == 1
takes (select s e) k = k == 1
takes (pack names es n) k = k == length names
takes (merge es n) k = nat_le 1 k
takes (dynamic e op k t default) n = n == 1

-- a node that has a form: its metadata has a spelling, and it has the number of children that it takes
pub record HasForm (e : Tree) : Type 0 where
  pub metadata : HasMetadata e
  pub children : takes e (length (children_of e)) ≡ true

-- a node of a kind that is written, with no type deeper than 64
abbrev pub IsSerializable : Tree → Type 0
IsSerializable (literal s) = depth_of s.ty ≤ most_deep
IsSerializable (cast e t) = depth_of t ≤ most_deep
IsSerializable (dynamic e op k t default) = ⊥
IsSerializable _ = Unit {0}

-- a node whose metadata has no text and no list that is too long for a spelling
abbrev pub HasShortMetadata : Tree → Type 0
HasShortMetadata (literal s) = NamesAre IsShort s.ty × TextsAre IsShort s.value
HasShortMetadata (get_item f e) = IsShort f
HasShortMetadata (cast e t) = NamesAre IsShort t
HasShortMetadata (select s e) = AreShort (listed_names s)
HasShortMetadata (pack names es n) = AreShort names
HasShortMetadata (dynamic e op k t default) = NamesAre IsShort t
HasShortMetadata _ = Unit {0}

-- a node that has a child where its kind asks for one
abbrev pub IsNoEmptyMerge : Tree → Type 0
IsNoEmptyMerge (merge es n) = 1 ≤ length (children_of (merge es n))
IsNoEmptyMerge _ = Unit {0}
