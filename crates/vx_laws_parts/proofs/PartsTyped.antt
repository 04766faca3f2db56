-- The packs of the parts of a strictly typed expression have a strict type.
use Rattle.std.proofs.Common.{arith, ◌≡◌, refl, ap, sym, ◌∙◌, Bool, true, false, cond, not, ◌||◌, subst, List, [], ◌∷◌, ◌++◌, length, map, ℕ, suc, ◌+◌, ◌<◌, ◌≤◌, ◌^◌, Result, Ok}
use Rattle.std.specs.Prelude.{nat_eq, codes, decimal, Decides}
use Rattle.std.specs.List.{AllByRecursion, list_any}
use Rattle.std.specs.Str.{bytes_eq}
use Rattle.std.proofs.lemmas.Bool.{and_from, and_parts, or_from, or_parts, eq-eqb}
use Rattle.std.proofs.lemmas.List.{map-append, length-map}
use Rattle.std.proofs.lemmas.List.Folds.{list_any-append}
use Rattle.std.proofs.lemmas.Fmt.{decimal_injective}
use Rattle.vx_dtype.specs.declared.Nullability.TheVariants.{NonNullable}
use Rattle.vx_dtype.specs.Types.{Bytes, Ty, struct_ty}
use Rattle.vx_dtype.specs.TypeRules.{has_name, distinct_names}
use Rattle.vx_dtype.specs.Zipped.{zipped}
use Rattle.vx_expr.specs.Trees.{Tree, pack, trees_of}
use Rattle.vx_semantics.specs.Nodes.{nodes_of}
use Rattle.vx_semantics.specs.Typing.{Refusal, duplicate_field, type_mismatch, unless, and_then, pack_type, typed_of, all_typed}
use Rattle.vx_passes.specs.Annotating.{Entry, entry_of, annotated, joined_sets}
use Rattle.vx_passes.specs.Splitting.{Share, taken_from, part_name, part_names, packed_parts}
use Rattle.vx_laws.proofs.Inverting.{bytes_same, bytes_eq-itself}
use Rattle.vx_laws.proofs.EachNode.{IsTyped, nodes-typed, all-map}
use Rattle.vx_laws_parts.specs.Taking.{packed_shares}
use Rattle.vx_laws_parts.specs.Recombining.{PartsAreTyped, TextsTellShares}
use Rattle.vx_laws_parts.proofs.SharesHold.{map-twice, SharesHold, shares-hold, taken-hold, annotations, annotations-with_part, parts_in, parts-few}

same-end : (xs ys zs : Bytes) → xs ++ ys ≡ xs ++ zs → ys ≡ zs
same-end [] ys zs h = h
same-end (x ∷ xs) ys zs h = let k : xs ++ ys ≡ xs ++ zs = cc in same-end xs ys zs k

is-false : (b : Bool) → (b ≡ true → ⊥) → b ≡ false
is-false true h = absurd (h refl)
is-false false h = refl

-- the names of two parts of one annotation differ
numbers-differ : (text : Bytes) (i j : ℕ) → i < j → j < 2 ^ 64 → bytes_eq (part_name text i) (part_name text j) ≡ false
numbers-differ text i j lt small =
    is-false (bytes_eq (part_name text i) (part_name text j))
    (λ h.
    let ends : codes "_" ++ decimal i ≡ codes "_" ++ decimal j = same-end text (codes "_" ++ decimal i) (codes "_" ++ decimal j) (bytes_same (part_name text i) (part_name text j) h) in
    let same : i ≡ j = decimal_injective i j (omega arith) small (same-end (codes "_") (decimal i) (decimal j) ends) in
    omega arith)

no-later : (text : Bytes) (i j : ℕ) (es : List Tree) → i < j → j + length es ≤ 2 ^ 64 → has_name (part_name text i) (part_names text j es) ≡ false
no-later text i j [] lt small = refl
no-later text i j (e ∷ es) lt small =
    or_from (bytes_eq (part_name text i) (part_name text j)) (has_name (part_name text i) (part_names text (suc j) es)) (numbers-differ text i j lt (omega arith))
    (no-later text i (suc j) es (omega arith) (omega arith))

not-so : (b : Bool) → b ≡ false → not b ≡ true
not-so false h = refl
not-so true h = let no : ⊥ = cc in absurd no

pub parts-distinct : (text : Bytes) (i : ℕ) (es : List Tree) → i + length es ≤ 2 ^ 64 → distinct_names (part_names text i es) ≡ true
parts-distinct text i [] small = refl
parts-distinct text i (e ∷ es) small =
    let few : suc i + length es ≤ 2 ^ 64 = omega arith in
    and_from (not (has_name (part_name text i) (part_names text (suc i) es))) (distinct_names (part_names text (suc i) es))
    (not-so (has_name (part_name text i) (part_names text (suc i) es)) (no-later text i (suc i) es (omega arith) few)) (parts-distinct text (suc i) es few)

pub names-many : (text : Bytes) (i : ℕ) (es : List Tree) → length (part_names text i es) ≡ length es
names-many text i [] = refl
names-many text i (e ∷ es) = ap suc (names-many text (suc i) es)

-- the types of expressions each of which has one
record TheirTypes (t : Ty) (es : List Tree) : Type 0 where
  pub types : List Ty
  pub typed : all_typed t (trees_of es) ≡ Ok types
  pub many : length types ≡ length es

their-types : (t : Ty) (es : List Tree) → AllByRecursion (IsTyped t) es → TheirTypes t es
unfolding typed_of
their-types t [] h = record { types = []; typed = refl; many = refl }
their-types t (e ∷ es) h =
    let r = their-types t es h.1 in
    record {
      types = h.0.0 ∷ r.types;
      typed =
          ap (λ (x : Result Ty Refusal). and_then x (λ a. and_then (all_typed t (trees_of es)) (λ ts. Ok (a ∷ ts)))) h.0.1
          ∙ ap (λ (x : Result (List Ty) Refusal). and_then x (λ ts. Ok (h.0.0 ∷ ts))) r.typed;
      many = ap suc r.many;
    }

-- a pack of typed values under distinct names has a type
pub typed-pack : (t : Ty) (names : List Bytes) (es : List Tree) → AllByRecursion (IsTyped t) es → distinct_names names ≡ true → length names ≡ length es → IsTyped t (pack names (trees_of es) NonNullable)
unfolding typed_of
typed-pack t names es h d l =
    let r = their-types t es h in
    let made = struct_ty (zipped names r.types) NonNullable in
    let even = eq-eqb (length names) (length r.types) (l ∙ sym r.many) in (
      made,
      ap (λ (x : Result (List Ty) Refusal). and_then x (pack_type names NonNullable)) r.typed
          ∙ (ap (λ (b : Bool). unless b duplicate_field (unless (nat_eq (length names) (length r.types)) type_mismatch (Ok made))) d
          ∙ ap (λ (b : Bool). unless b type_mismatch (Ok made)) even),
    )

-- a name behind distinct ones that are others
distinct-last : (fs : List Bytes) (f : Bytes) → distinct_names fs ≡ true → has_name f fs ≡ false → distinct_names (fs ++ f ∷ []) ≡ true
distinct-last [] f d h = refl
distinct-last (g ∷ fs) f d h =
    let p = and_parts (not (has_name g fs)) (distinct_names fs) d in
    let q = or_parts (bytes_eq f g) (has_name f fs) h in
    and_from (not (has_name g (fs ++ f ∷ []))) (distinct_names (fs ++ f ∷ []))
    (not-so (has_name g (fs ++ f ∷ [])) (list_any-append (bytes_eq g) fs (f ∷ []) ∙ or_from (has_name g fs) (bytes_eq g f || false) (so-not (has_name g fs) p.0) (or_from (bytes_eq g f) false (others f g q.0) refl)))
    (distinct-last fs f p.1 q.1)
  where
    so-not : (b : Bool) → not b ≡ true → b ≡ false
    so-not false i = refl
    so-not true i = let no : ⊥ = cc in absurd no

    others : (a b : Bytes) → bytes_eq a b ≡ false → bytes_eq b a ≡ false
    others a b i = is-false (bytes_eq b a) (λ k. let same : a ≡ b = sym (bytes_same b a k) in let no : true ≡ false = sym (bytes_eq-itself b) ∙ (ap (λ (z : Bytes). bytes_eq z b) (sym same) ∙ i) in let wrong : ⊥ = cc in wrong)

module _ {A : Type 0} (same : A → A → Bool) (text : A → Bytes) (decides : (a b : A) → Decides (same a b) (a ≡ b)) (distinct : (a b : A) → text a ≡ text b → a ≡ b) where
  -- annotations whose texts differ
  TextsDiffer : List A → Type 0
  TextsDiffer xs = distinct_names (map text xs) ≡ true

  no-text : (a : A) (xs : List A) → list_any (same a) xs ≡ false → has_name (text a) (map text xs) ≡ false
  no-text a [] h = refl
  no-text a (x ∷ xs) h =
      let p = or_parts (same a x) (list_any (same a) xs) h in
      or_from (bytes_eq (text a) (text x)) (has_name (text a) (map text xs))
      (is-false (bytes_eq (text a) (text x)) (λ k. let no : true ≡ false = sym ((decides a x).1 (distinct a x (bytes_same (text a) (text x) k))) ∙ p.0 in let wrong : ⊥ = cc in wrong)) (no-text a xs p.1)

  joined-differ : (xs : List A) (a : A) → TextsDiffer xs → TextsDiffer (joined_sets same xs (a ∷ []))
  unfolding TextsDiffer
  joined-differ xs a h = by-test (list_any (same a) xs) refl
    where
      by-test : (b : Bool) → list_any (same a) xs ≡ b → distinct_names (map text (cond b xs (xs ++ a ∷ []))) ≡ true
      by-test true e = h
      by-test false e = subst (λ (fs : List Bytes). distinct_names fs ≡ true) (sym (map-append text xs (a ∷ []))) (distinct-last (map text xs) (text a) h (no-text a xs e))

  module _ (m : List (Entry A)) where
    -- the texts of an expression's shares differ
    texts-differ : (e : Tree) → distinct_names (map text (annotations same text m (taken_from same text m e []).shares)) ≡ true
    unfolding TextsDiffer
    texts-differ e =
        taken-hold same text m (λ n. Unit {0}) (λ ss. TextsDiffer (annotations same text m ss))
        (λ a n ss h i k. subst TextsDiffer (sym (annotations-with_part same text m a n ss)) (joined-differ (annotations same text m ss) a k)) e (any-node (nodes_of e)) [] refl
      where
        any-node : (ns : List Tree) → AllByRecursion (λ n. Unit {0}) ns
        any-node [] = tt
        any-node (n ∷ ns) = (tt, any-node ns)

pub texts_tell_shares : (A : Type 0) → TextsTellShares A
texts_tell_shares A same text annotate e decides distinct =
    let m = annotated same annotate e in
    subst (λ (fs : List Bytes). distinct_names fs ≡ true) (map-twice text (λ (x : Share A). x.annotation) (taken_from same text m e []).shares) (texts-differ same text decides distinct m e)

module _ {A : Type 0} (same : A → A → Bool) (text : A → Bytes) (decides : (a b : A) → Decides (same a b) (a ≡ b)) (m : List (Entry A)) where
  shares-typed : (t : Ty) (ss : List (Share A)) → SharesHold same text m (λ a. IsTyped t) ss → parts_in same text m ss ≤ 2 ^ 64
      → AllByRecursion (IsTyped t) (map (λ x. packed_parts (text x.annotation) x.parts) ss)
  shares-typed t [] h few = tt
  shares-typed t (x ∷ xs) h few = (
    typed-pack t (part_names (text x.annotation) 0 x.parts) x.parts h.0 (parts-distinct (text x.annotation) 0 x.parts (omega arith)) (names-many (text x.annotation) 0 x.parts),
    shares-typed t xs h.1 (omega arith),
  )

  packs-typed : (t : Ty) (e : Tree) → IsTyped t e → length (nodes_of e) ≤ 2 ^ 64 → distinct_names (map (λ x. text x.annotation) (taken_from same text m e []).shares) ≡ true
      → IsTyped t (packed_shares text (taken_from same text m e []).shares)
  packs-typed t e h few distinct =
      let ss = (taken_from same text m e []).shares in
      let typed = shares-hold same text m (λ a. IsTyped t) (λ a b. (decides a b).0) e (all-map (IsTyped t) (λ n. (a : A) → entry_of n m ≡ a ∷ [] → IsTyped t n) (nodes_of e) (λ n k a i. k) (nodes-typed t e h.0 h.1)) [] tt in
      let names = map (λ (x : Share A). text x.annotation) ss in
      let total = parts-few same text m e [] in
      typed-pack t names (map (λ x. packed_parts (text x.annotation) x.parts) ss) (shares-typed t ss typed (omega arith))
      distinct (length-map ss (λ (x : Share A). text x.annotation) ∙ sym (length-map ss (λ (x : Share A). packed_parts (text x.annotation) x.parts)))

pub parts_are_typed : (A : Type 0) → PartsAreTyped A
parts_are_typed A same text annotate t e w p =
    let m = annotated same annotate e in
    let k = packs-typed same text p.decides m t e (w, p.typed) (omega (arith, p.few)) p.distinct in
    (k.0, record { decides = λ a b. (p.decides a b).0; covered = p.covered; typed = k.1 })
