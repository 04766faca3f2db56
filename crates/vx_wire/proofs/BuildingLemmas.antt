-- One node that is built of its metadata and children, or refused.
use Rattle.std.proofs.Common.{◌≡◌, ◌≢◌, ℕ, Bool, true, false, nat_eq, List, [], ◌∷◌, length, Some, None, option_map, refl, sym, subst, ap, arith}
use Rattle.vx_dtype.specs.Types.{Bytes}
use Rattle.vx_dtype.specs.declared.Nullability.{Nullability}
use Rattle.vx_expr.specs.Trees.{Tree, like, pack, children_of, trees_of}
use Rattle.vx_expr.specs.Children.{one_of, two_of, three_of, where_so, packed_of}
use Rattle.vx_expr.specs.Packed.{pack_tree}
use Rattle.vx_expr.proofs.TreeLemmas.{listed_trees_of}
use Rattle.std.proofs.lemmas.Option.{same_Some, none-some}
use Rattle.std.proofs.lemmas.Bool.{eqb-true}
use Rattle.vx_wire.specs.Encodings.{encoding_of, kind_place}
use Rattle.vx_wire.specs.Metadata.{metadata_bytes, HasMetadata, takes, AreNames}
use Rattle.vx_wire.specs.Building.{IsSpelled, IsBuiltOf, IsUnbuiltOf}
use Rattle.vx_wire.specs.ReadBack.{IsReadBack, IsAny, truths_bytes, packing_bytes, IsPacking}
use Rattle.vx_wire.specs.declared.encodings.ExprEncoding.TheVariants as kinds
use Rattle.vx_wire.specs.declared.errors.BuildError.TheVariants as errors

-- a node of the kind with this metadata takes another number of children
pub wrong_children : (e : Tree) (metadata : Bytes) (k : ℕ) → HasMetadata e → metadata ≡ metadata_bytes e → takes e k ≡ false → IsUnbuiltOf (encoding_of e) metadata k errors.WrongChildren
wrong_children e metadata k form bytes other = (e, record { is_kind = refl; form = form; bytes = bytes }, other)

pub built : (e made : Tree) (metadata : Bytes) (cs : List Tree) → made ≡ e → HasMetadata e → metadata ≡ metadata_bytes e → children_of e ≡ cs → takes e (length cs) ≡ true → IsBuiltOf (encoding_of e) metadata cs made
built e made metadata cs is form bytes children number =
    let all : IsBuiltOf (encoding_of e) metadata cs e = record { spelled = record { is_kind = refl; form = form; bytes = bytes }; children_are = children; number = number } in
    subst (IsBuiltOf (encoding_of e) metadata cs) (sym is) all

pub other_number : (m n : ℕ) → m ≢ n → nat_eq m n ≡ false
other_number m n h = grind arith

pub not_one : (cs : List Tree) → None ≡ one_of cs → nat_eq (length cs) 1 ≡ false
not_one [] e = other_number 0 1 (omega arith)
not_one (a ∷ []) e = absurd cc
not_one (a ∷ b ∷ cs) e = other_number (length (a ∷ b ∷ cs)) 1 (omega arith)

pub not_two : (cs : List Tree) → None ≡ two_of cs → nat_eq (length cs) 2 ≡ false
not_two [] e = other_number 0 2 (omega arith)
not_two (a ∷ []) e = other_number 1 2 (omega arith)
not_two (a ∷ b ∷ []) e = absurd cc
not_two (a ∷ b ∷ c ∷ cs) e = other_number (length (a ∷ b ∷ c ∷ cs)) 2 (omega arith)

pub not_three : (cs : List Tree) → None ≡ three_of cs → nat_eq (length cs) 3 ≡ false
not_three [] e = other_number 0 3 (omega arith)
not_three (a ∷ []) e = other_number 1 3 (omega arith)
not_three (a ∷ b ∷ []) e = other_number 2 3 (omega arith)
not_three (a ∷ b ∷ c ∷ []) e = absurd cc
not_three (a ∷ b ∷ c ∷ d ∷ cs) e = other_number (length (a ∷ b ∷ c ∷ d ∷ cs)) 3 (omega arith)

-- bytes that are no two truth values are no match's metadata
pub no_like : (metadata : Bytes) (e : Tree) → IsReadBack truths_bytes IsAny metadata None → ¬ (IsSpelled kinds.Like metadata e)
no_like metadata (like e p negated fold_case) h s = h (negated, fold_case) tt s.bytes
no_like metadata e h s = absurd (omega (arith, ap kind_place s.is_kind))

-- bytes that are no nullability and names are no struct's metadata
pub no_pack : (metadata : Bytes) (e : Tree) → IsReadBack packing_bytes IsPacking metadata None → ¬ (IsSpelled kinds.Pack metadata e)
no_pack metadata (pack names es n) h s = h (n, names) s.form s.bytes
no_pack metadata e h s = absurd (omega (arith, ap kind_place s.is_kind))

pub packed_again : (names : List Bytes) (cs : List Tree) (n : Nullability) (made : Tree) → option_map pack_tree (packed_of names cs n) ≡ Some made → (made ≡ pack names (trees_of cs) n) × (nat_eq (length names) (length cs) ≡ true)
packed_again names cs n made e = go (nat_eq (length names) (length cs)) e
  where
    go : (b : Bool) → option_map pack_tree (where_so b (record { names = names; values = cs; nullability = n })) ≡ Some made → (made ≡ pack names (trees_of cs) n) × (b ≡ true)
    go true h = (sym (same_Some (pack names (trees_of cs) n) made h), refl)
    go false h = absurd (none-some made h)

pub same_number : (m n : ℕ) → nat_eq m n ≡ true → nat_eq n m ≡ true
same_number m n e = grind (arith, eqb-true)

pub pack_built : (names : List Bytes) (cs : List Tree) (n : Nullability) (made : Tree) (metadata : Bytes) → AreNames names → metadata ≡ packing_bytes (n, names) → option_map pack_tree (packed_of names cs n) ≡ Some made → IsBuiltOf kinds.Pack metadata cs made
pack_built names cs n made metadata form bytes e =
    let p = packed_again names cs n made e in
    built (pack names (trees_of cs) n) made metadata cs p.0 form bytes (listed_trees_of cs) (same_number (length names) (length cs) p.1)
