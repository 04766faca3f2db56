-- A wire tree builds one expression or is refused, and what was written is read and built again.
use Rattle.std.proofs.Common.{◌≡◌, ◌≢◌, ℕ, zero, suc, ◌&&◌, Bool, true, false, nat_eq, ltb, List, [], ◌∷◌, ◌++◌, length, Option, Some, None, cond, refl, sym, ap, subst, ◌∙◌, true≢false, inl, inr, arith}
use Rattle.std.specs.Option.{option_and_then}
use Rattle.std.specs.Str.{is_utf8, IsAscii}
use Rattle.std.proofs.lemmas.Str.{is_utf8-from_IsUtf8, IsUtf8-from_ascii}
use Rattle.std.proofs.lemmas.Bool.{ltb-true}
use Rattle.std.specs.List.{AllByRecursion}
use Rattle.std.proofs.lemmas.Option.{same_Some}
use Rattle.vx_dtype.specs.Types.{Bytes, Ty}
use Rattle.vx_dtype.specs.Values.{Typed}
use Rattle.vx_dtype.specs.declared.Nullability.{Nullability}
use Rattle.vx_dtype.specs.declared.Nullability.TheVariants.{NonNullable, Nullable}
use Rattle.vx_dtype.specs.declared.StrictComparison.{StrictComparison}
use Rattle.vx_dtype.specs.declared.StrictComparison.TheVariants.{Strict, NonStrict}
use Rattle.vx_dtype.specs.declared.BetweenOptions.{BetweenOptions}
use Rattle.vx_expr.specs.declared.operators.Operator.{Operator}
use Rattle.vx_expr.specs.declared.selections.FieldSelection.{FieldSelection}
use Rattle.vx_expr.specs.Operators.{operator_number}
use Rattle.vx_expr.specs.Codes.{operator_at, operator_at-number}
use Rattle.vx_expr.specs.Trees.{Tree, root, literal, get_item, binary, not_of, is_null_of, like, between, cast, list_contains, pack, merge, select, dynamic, Trees, trees_of, listed, children_of}
use Rattle.vx_expr.specs.Children.{id_of}
use Rattle.vx_expr.proofs.TreeLemmas.{trees_of_listed}
use Rattle.vx_wire_bytes.specs.Wires.{Wire, node, Wires, no_wires, first, number_of, wire_bytes, IsSpellable, AreSpellable, HasShortParts, HaveShortParts}
use Rattle.vx_wire_bytes.specs.Openings.{IsTooDeep, IsTooMany}
use Rattle.vx_wire_bytes.specs.ReadAnswers.{IsRead}
use Rattle.vx_wire_bytes.specs.Numbers.{piece_bytes}
use Rattle.vx_wire_bytes.specs.Fields.{IsText}
use Rattle.vx_wire_bytes.specs.TypeForms.{type_bytes, IsType}
use Rattle.vx_dtype.specs.TypeRules.{null_number}
use Rattle.vx_wire_bytes.specs.ValueForms.{truth_byte, value_bytes, IsValue}
use Rattle.vx_wire.specs.Encodings.{encoding_of, encoding_id, kind_named, kind_place, is_default_kind}
use Rattle.vx_wire.specs.Registries.{held_named}
use Rattle.vx_wire.specs.Metadata.{strictness_byte, texts_bytes, names_bytes, AreNames, metadata_bytes, HasMetadata, takes, HasForm}
use Rattle.vx_wire.specs.Forms.{wire_of, wires_of, Everywhere, EverywhereIn}
use Rattle.vx_wire.specs.Building.{IsUnbuiltOf, IsBuilt, IsRefusedAt, IsRefusedFirst, IsOneRefused, IsUnbuilt}
use Rattle.vx_wire.specs.ReadBack.{IsLiteral, literal_bytes}
use Rattle.vx_wire.specs.declared.encodings.ExprEncoding.{ExprEncoding}
use Rattle.vx_wire.specs.declared.errors.BuildError.{BuildError}
use Rattle.vx_wire.specs.declared.errors.BuildError.TheVariants as errors
use Rattle.vx_wire.proofs.KindLemmas.{named_again, encoding_id-encoding_of}
use Rattle.vx_wire.proofs.FieldLemmas.{number_free, text_free, type_free}
use Rattle.vx_wire.proofs.LiteralLemmas.{value_free}
use Rattle.vx_wire.proofs.WireLemmas.{wire_of-children, here, below}
use Rattle.vx_wire.proofs.EverywhereLemmas.{also_everywhere}
use Rattle.vx_wire.proofs.SerialLemmas.{default_kind}

-- ---- metadata tells its parts

heads : (a b : ℕ) (x y : Bytes) → a ∷ x ≡ b ∷ y → (a ≡ b) × (x ≡ y)
heads a b x y e = (cc, cc)

same_truth : (a b : Bool) → truth_byte a ≡ truth_byte b → a ≡ b
same_truth true true e = refl
same_truth true false e = absurd (omega (arith, e))
same_truth false true e = absurd (omega (arith, e))
same_truth false false e = refl

same_null : (a b : Nullability) → null_number a ≡ null_number b → a ≡ b
same_null Nullable Nullable e = refl
same_null Nullable NonNullable e = absurd (omega (arith, e))
same_null NonNullable Nullable e = absurd (omega (arith, e))
same_null NonNullable NonNullable e = refl

same_strictness : (a b : StrictComparison) → strictness_byte a ≡ strictness_byte b → a ≡ b
same_strictness Strict Strict e = refl
same_strictness Strict NonStrict e = absurd (omega (arith, e))
same_strictness NonStrict Strict e = absurd (omega (arith, e))
same_strictness NonStrict NonStrict e = refl

same_operator : (a b : Operator) → operator_number a ≡ operator_number b → a ≡ b
same_operator a b e = sym (operator_at-number a) ∙ ap operator_at e ∙ operator_at-number b

texts_same : (a b : List Bytes) → AllByRecursion IsText a → AllByRecursion IsText b → length a ≡ length b → texts_bytes a ≡ texts_bytes b → a ≡ b
texts_same [] [] p q n e = refl
texts_same [] (t ∷ b) p q n e = absurd (omega (arith, n))
texts_same (s ∷ a) [] p q n e = absurd (omega (arith, n))
texts_same (s ∷ a) (t ∷ b) p q n e =
    let both = text_free s t (texts_bytes a) (texts_bytes b) p.0 q.0 e in
    ap (λ x. x ∷ a) both.0 ∙ ap (λ x. t ∷ x) (texts_same a b p.1 q.1 (omega (arith, n)) both.1)

names_same : (a b : List Bytes) → AreNames a → AreNames b → names_bytes a ≡ names_bytes b → a ≡ b
names_same a b p q e =
    let both = number_free (length a) (length b) (texts_bytes a) (texts_bytes b) p.0 q.0 e in
    texts_same a b p.1 q.1 both.0 both.1

same_piece : (a b : Bytes) → IsText a → IsText b → piece_bytes a ≡ piece_bytes b → a ≡ b
same_piece a b p q e = (text_free a b [] [] p q (ap (λ (x : Bytes). x ++ []) e)).0

alike : (a b : Ty) → IsType a → IsType b → type_bytes a ≡ type_bytes b → a ≡ b
alike a b p q e = (type_free a b [] [] p q (ap (λ (x : Bytes). x ++ []) e)).0

same_literal : (a b : Typed) → IsLiteral a → IsLiteral b → literal_bytes a ≡ literal_bytes b → a ≡ b
same_literal a b p q e =
    let types = type_free a.ty b.ty (value_bytes a.ty a.value) (value_bytes b.ty b.value) p.0 q.0 e in
    let same : value_bytes b.ty a.value ++ [] ≡ value_bytes b.ty b.value ++ [] = ap (λ (x : Bytes). x ++ []) (ap (λ t. value_bytes t a.value) (sym types.0) ∙ types.1) in
    let values = (value_free b.ty a.value b.value [] [] (subst (λ t. IsValue t a.value) types.0 p.1) q.1 same).0 in
    λ i. record { ty = types.0 i; value = values i }

same_bounds : (a b : BetweenOptions) → strictness_byte a.lower_strict ∷ strictness_byte a.upper_strict ∷ [] ≡ strictness_byte b.lower_strict ∷ strictness_byte b.upper_strict ∷ [] → a ≡ b
same_bounds a b e =
    let one = heads (strictness_byte a.lower_strict) (strictness_byte b.lower_strict) (strictness_byte a.upper_strict ∷ []) (strictness_byte b.upper_strict ∷ []) e in
    let two = heads (strictness_byte a.upper_strict) (strictness_byte b.upper_strict) [] [] one.1 in
    let lower = same_strictness a.lower_strict b.lower_strict one.0 in
    let upper = same_strictness a.upper_strict b.upper_strict two.0 in
    λ i. record { lower_strict = lower i; upper_strict = upper i }

same_selection : (a b : FieldSelection) → HasMetadata (select a root) → HasMetadata (select b root) → metadata_bytes (select a root) ≡ metadata_bytes (select b root) → a ≡ b
same_selection (FieldSelection.Include f) (FieldSelection.Include g) p q e = ap (λ x. FieldSelection.Include x) (names_same f g p q (heads 0 0 (names_bytes f) (names_bytes g) e).1)
same_selection (FieldSelection.Include f) (FieldSelection.Exclude g) p q e = absurd (omega (arith, (heads 0 1 (names_bytes f) (names_bytes g) e).0))
same_selection (FieldSelection.Exclude f) (FieldSelection.Include g) p q e = absurd (omega (arith, (heads 1 0 (names_bytes f) (names_bytes g) e).0))
same_selection (FieldSelection.Exclude f) (FieldSelection.Exclude g) p q e = ap (λ x. FieldSelection.Exclude x) (names_same f g p q (heads 1 1 (names_bytes f) (names_bytes g) e).1)

-- ---- nodes of one kind, one metadata and the same children are the same

only_child : (e d : Tree) → e ∷ [] ≡ d ∷ [] → e ≡ d
only_child e d h = cc

both_children : (a b c d : Tree) → a ∷ b ∷ [] ≡ c ∷ d ∷ [] → (a ≡ c) × (b ≡ d)
both_children a b c d h = (cc, cc)

all_children : (a b c x y z : Tree) → a ∷ b ∷ c ∷ [] ≡ x ∷ y ∷ z ∷ [] → (a ≡ x) × (b ≡ y) × (c ≡ z)
all_children a b c x y z h = (cc, cc, cc)

all_values : (es ds : Trees) → listed es ≡ listed ds → es ≡ ds
all_values es ds h = sym (trees_of_listed es) ∙ ap trees_of h ∙ trees_of_listed ds

same_node : (a b : Tree) → encoding_of a ≡ encoding_of b → HasMetadata a → HasMetadata b → metadata_bytes a ≡ metadata_bytes b → children_of a ≡ children_of b → a ≡ b
same_node root root k p q m h = refl
same_node (literal s) (literal t) k p q m h = ap literal (same_literal s t p q m)
same_node (get_item f e) (get_item g d) k p q m h =
    let name = same_piece f g p q m in let child = only_child e d h in λ i. get_item (name i) (child i)
same_node (binary l op r) (binary x o y) k p q m h =
    let operator = same_operator op o (heads (operator_number op) (operator_number o) [] [] m).0 in let both = both_children l r x y h in λ i. binary (both.0 i) (operator i) (both.1 i)
same_node (not_of e) (not_of d) k p q m h = ap not_of (only_child e d h)
same_node (is_null_of e) (is_null_of d) k p q m h = ap is_null_of (only_child e d h)
same_node (like e x n f) (like d y o g) k p q m h =
    let one = heads (truth_byte n) (truth_byte o) (truth_byte f ∷ []) (truth_byte g ∷ []) m in
    let negated = same_truth n o one.0 in
    let fold_case = same_truth f g (heads (truth_byte f) (truth_byte g) [] [] one.1).0 in
    let both = both_children e x d y h in
    λ i. like (both.0 i) (both.1 i) (negated i) (fold_case i)
same_node (between a b c o) (between x y z w) k p q m h =
    let options = same_bounds o w m in let all = all_children a b c x y z h in λ i. between (all.0 i) (all.1 i) (all.2 i) (options i)
same_node (cast e t) (cast d u) k p q m h = let dtype = alike t u p q m in let child = only_child e d h in λ i. cast (child i) (dtype i)
same_node (list_contains l v) (list_contains x y) k p q m h = let both = both_children l v x y h in λ i. list_contains (both.0 i) (both.1 i)
same_node (pack f es n) (pack g ds o) k p q m h =
    let one = heads (null_number n) (null_number o) (names_bytes f) (names_bytes g) m in
    let names = names_same f g p q one.1 in
    let null = same_null n o one.0 in
    let values = all_values es ds h in
    λ i. pack (names i) (values i) (null i)
same_node (merge es n) (merge ds o) k p q m h =
    let null = same_null n o (heads (null_number n) (null_number o) [] [] m).0 in let values = all_values es ds h in λ i. merge (values i) (null i)
same_node (select s e) (select t d) k p q m h = let fields = same_selection s t p q m in let child = only_child e d h in λ i. select (fields i) (child i)
same_node (dynamic e op slot t default) b k p q m h = absurd p
same_node a b k p q m h = absurd (omega (arith, ap kind_place k))

-- nodes of one kind and one metadata take the same number of children
same_takes : (a b : Tree) (n : ℕ) → encoding_of a ≡ encoding_of b → HasMetadata a → HasMetadata b → metadata_bytes a ≡ metadata_bytes b → takes a n ≡ takes b n
same_takes root root n k p q m = refl
same_takes (literal s) (literal t) n k p q m = refl
same_takes (get_item f e) (get_item g d) n k p q m = refl
same_takes (binary l op r) (binary x o y) n k p q m = refl
same_takes (not_of e) (not_of d) n k p q m = refl
same_takes (is_null_of e) (is_null_of d) n k p q m = refl
same_takes (like e x c f) (like d y o g) n k p q m = refl
same_takes (between a b c o) (between x y z w) n k p q m = refl
same_takes (cast e t) (cast d u) n k p q m = refl
same_takes (list_contains l v) (list_contains x y) n k p q m = refl
same_takes (pack f es c) (pack g ds o) n k p q m =
    ap (λ x. nat_eq n (length x)) (names_same f g p q (heads (null_number c) (null_number o) (names_bytes f) (names_bytes g) m).1)
same_takes (merge es c) (merge ds o) n k p q m = refl
same_takes (select s e) (select t d) n k p q m = refl
same_takes (dynamic e op slot t default) b n k p q m = absurd p
same_takes a b n k p q m = absurd (omega (arith, ap kind_place k))

-- ---- one expression

parts : (id x : Bytes) (m y : Bytes) (ns ms : Wires) → node id m ns ≡ node x y ms → (id ≡ x) × (m ≡ y) × (ns ≡ ms)
parts id x m y ns ms e = (cc, cc, cc)

row_parts : (n m : Wire) (ns ms : Wires) → first n ns ≡ first m ms → (n ≡ m) × (ns ≡ ms)
row_parts n m ns ms e = (cc, cc)

-- the parts of a wire node of an expression
parts_of : (id m : Bytes) (ns : Wires) (e : Tree) → node id m ns ≡ wire_of e → (id ≡ id_of e) × (m ≡ metadata_bytes e) × (ns ≡ wires_of (trees_of (children_of e)))
parts_of id m ns e h = parts id (id_of e) m (metadata_bytes e) ns (wires_of (trees_of (children_of e))) (h ∙ wire_of-children e)

same_kinds : (a b : ExprEncoding) → encoding_id a ≡ encoding_id b → a ≡ b
same_kinds a b e = same_Some a b (sym (named_again a) ∙ ap kind_named e ∙ named_again b)

kinds_of : (a b : Tree) → id_of a ≡ id_of b → encoding_of a ≡ encoding_of b
kinds_of a b e = same_kinds (encoding_of a) (encoding_of b) (encoding_id-encoding_of a ∙ e ∙ sym (encoding_id-encoding_of b))

mutual
  one_form : (w : Wire) (a b : Tree) → w ≡ wire_of a → w ≡ wire_of b → Everywhere HasForm a → Everywhere HasForm b → a ≡ b
  one_form (node id m ns) a b x y p q =
      let s = parts_of id m ns a x in
      let t = parts_of id m ns b y in
      let children = one_row ns (children_of a) (children_of b) s.2 t.2 (below HasForm a p) (below HasForm b q) in
      same_node a b (kinds_of a b (sym s.0 ∙ t.0)) (here HasForm a p).metadata (here HasForm b q).metadata (sym s.1 ∙ t.1) children

  one_row : (ns : Wires) (es ds : List Tree) → ns ≡ wires_of (trees_of es) → ns ≡ wires_of (trees_of ds) → EverywhereIn HasForm (trees_of es) → EverywhereIn HasForm (trees_of ds) → es ≡ ds
  one_row no_wires [] [] x y p q = refl
  one_row no_wires [] (b ∷ ds) x y p q = absurd cc
  one_row no_wires (a ∷ es) ds x y p q = absurd cc
  one_row (first n ns) [] ds x y p q = absurd cc
  one_row (first n ns) (a ∷ es) [] x y p q = absurd cc
  one_row (first n ns) (a ∷ es) (b ∷ ds) x y p q =
      let s = row_parts n (wire_of a) ns (wires_of (trees_of es)) x in
      let t = row_parts n (wire_of b) ns (wires_of (trees_of ds)) y in
      ap (λ c. c ∷ es) (one_form n a b s.0 t.0 p.0 q.0) ∙ ap (λ cs. b ∷ cs) (one_row ns es ds s.1 t.1 p.1 q.1)

pub one_built : (holds : ExprEncoding → Bool) (w : Wire) (a b : Tree) → IsBuilt holds w a → IsBuilt holds w b → a ≡ b
one_built holds w a b p q = one_form w a b p.form q.form p.forms q.forms

-- ---- never both built and refused

-- the kind of a node that is held is found by its name
found_kind : (holds : ExprEncoding → Bool) (id : Bytes) (e : Tree) → id ≡ id_of e → holds (encoding_of e) ≡ true → held_named holds id ≡ Some (encoding_of e)
found_kind holds id e name held =
    let known : kind_named id ≡ Some (encoding_of e) = ap kind_named (name ∙ sym (encoding_id-encoding_of e)) ∙ named_again (encoding_of e) in
    ap (λ o. option_and_then (λ k. cond (holds k) (Some k) None) o) known ∙ ap (λ b. cond b (Some (encoding_of e)) None) held

number_in_row : (es : List Tree) → number_of (wires_of (trees_of es)) ≡ length es
number_in_row [] = refl
number_in_row (e ∷ es) = omega (arith, number_in_row es)

not_refused_of : (e : Tree) (m : Bytes) (n : ℕ) (why : BuildError) → why ≢ errors.NoMemory → m ≡ metadata_bytes e → HasForm e → n ≡ length (children_of e) → ¬ (IsUnbuiltOf (encoding_of e) m n why)
not_refused_of e m n errors.NoMemory cause bytes form number h = cause refl
not_refused_of e m n errors.UnknownExpr cause bytes form number h = h
not_refused_of e m n errors.BadMetadata cause bytes form number h = h e (record { is_kind = refl; form = form.metadata; bytes = bytes })
not_refused_of e m n errors.WrongChildren cause bytes form number h =
    let same = same_takes e h.0 n (sym h.1.is_kind) form.metadata h.1.form (sym bytes ∙ h.1.bytes) in
    true≢false (sym form.children ∙ ap (takes e) (sym number) ∙ same ∙ h.2)

not_refused_at : (k : Option ExprEncoding) (e : Tree) (m : Bytes) (n : ℕ) (why : BuildError) → why ≢ errors.NoMemory → k ≡ Some (encoding_of e) → m ≡ metadata_bytes e → HasForm e → n ≡ length (children_of e) → ¬ (IsRefusedAt k m n why)
not_refused_at k e m n why cause known bytes form number h = go why cause (subst (λ x. IsRefusedAt x m n why) known h)
  where
    go : (r : BuildError) → r ≢ errors.NoMemory → ¬ (IsRefusedAt (Some (encoding_of e)) m n r)
    go errors.NoMemory c r = r
    go errors.UnknownExpr c r = not_refused_of e m n errors.UnknownExpr c bytes form number r
    go errors.BadMetadata c r = not_refused_of e m n errors.BadMetadata c bytes form number r
    go errors.WrongChildren c r = not_refused_of e m n errors.WrongChildren c bytes form number r

mutual
  not_refused : (holds : ExprEncoding → Bool) (why : BuildError) → why ≢ errors.NoMemory → (w : Wire) (e : Tree) → w ≡ wire_of e → Everywhere HasForm e → Everywhere (λ n. holds (encoding_of n) ≡ true) e → ¬ (IsRefusedFirst holds why w)
  not_refused holds why cause (node id m ns) e x p q h =
      let s = parts_of id m ns e x in
      elim h [
        | inl child ↦ row_not_refused holds why cause ns (children_of e) s.2 (below HasForm e p) (below (λ n. holds (encoding_of n) ≡ true) e q) child
        | inr itself ↦
            let number : number_of ns ≡ length (children_of e) = ap number_of s.2 ∙ number_in_row (children_of e) in
            not_refused_at (held_named holds id) e m (number_of ns) why cause (found_kind holds id e s.0 (here (λ n. holds (encoding_of n) ≡ true) e q)) s.1 (here HasForm e p) number itself.1
      ]

  row_not_refused : (holds : ExprEncoding → Bool) (why : BuildError) → why ≢ errors.NoMemory → (ns : Wires) (es : List Tree) → ns ≡ wires_of (trees_of es) → EverywhereIn HasForm (trees_of es) → EverywhereIn (λ n. holds (encoding_of n) ≡ true) (trees_of es) → ¬ (IsOneRefused holds why ns)
  row_not_refused holds why cause no_wires es x p q h = h
  row_not_refused holds why cause (first n ns) [] x p q h = absurd cc
  row_not_refused holds why cause (first n ns) (e ∷ es) x p q h =
      let s = row_parts n (wire_of e) ns (wires_of (trees_of es)) x in
      elim h [
        | inl one ↦ not_refused holds why cause n e s.0 p.0 q.0 one
        | inr others ↦ row_not_refused holds why cause ns es s.1 p.1 q.1 others.1
      ]

pub never_both : (holds : ExprEncoding → Bool) (w : Wire) (e : Tree) (why : BuildError) → IsBuilt holds w e → why ≢ errors.NoMemory → ¬ (IsUnbuilt holds w why)
never_both holds w e errors.NoMemory b cause h = cause refl
never_both holds w e errors.UnknownExpr b cause h = not_refused holds errors.UnknownExpr cause w e b.form b.forms b.held h
never_both holds w e errors.BadMetadata b cause h = not_refused holds errors.BadMetadata cause w e b.form b.forms b.held h
never_both holds w e errors.WrongChildren b cause h = not_refused holds errors.WrongChildren cause w e b.form b.forms b.held h

-- ---- read and built again

-- whether each byte is ASCII
abbrev all_ascii : Bytes → Bool
all_ascii [] = true
all_ascii (b ∷ bytes) = ltb b 128 && all_ascii bytes

and_parts : (a b : Bool) → (a && b) ≡ true → (a ≡ true) × (b ≡ true)
and_parts true b e = (refl, e)
and_parts false b e = absurd cc

ascii : (bytes : Bytes) → all_ascii bytes ≡ true → IsAscii bytes
ascii [] e i = omega arith
ascii (b ∷ bytes) e zero = ltb-true b 128 (and_parts (ltb b 128) (all_ascii bytes) e).0
ascii (b ∷ bytes) e (suc i) = ascii bytes (and_parts (ltb b 128) (all_ascii bytes) e).1 i

id_ascii : (e : Tree) → all_ascii (id_of e) ≡ true
id_ascii root = refl
id_ascii (literal s) = refl
id_ascii (get_item f e) = refl
id_ascii (binary l op r) = refl
id_ascii (not_of e) = refl
id_ascii (is_null_of e) = refl
id_ascii (like e p negated fold_case) = refl
id_ascii (between e lower upper options) = refl
id_ascii (cast e t) = refl
id_ascii (list_contains l v) = refl
id_ascii (pack names es n) = refl
id_ascii (merge es n) = refl
id_ascii (select s e) = refl
id_ascii (dynamic e op k t default) = refl

id_utf8 : (e : Tree) → is_utf8 (id_of e) ≡ true
id_utf8 e = is_utf8-from_IsUtf8 (id_of e) (IsUtf8-from_ascii (id_of e) (ascii (id_of e) (id_ascii e)))

mutual
  spellable : (w : Wire) (e : Tree) → w ≡ wire_of e → HasShortParts w → IsSpellable w
  spellable (node id m ns) e x short =
      let s = parts_of id m ns e x in
      (record { text = ap is_utf8 s.0 ∙ id_utf8 e; id = short.0; metadata = short.1; children = short.2 }, row_spellable ns (children_of e) s.2 short.3)

  row_spellable : (ns : Wires) (es : List Tree) → ns ≡ wires_of (trees_of es) → HaveShortParts ns → AreSpellable ns
  row_spellable no_wires es x short = tt
  row_spellable (first n ns) [] x short = absurd cc
  row_spellable (first n ns) (e ∷ es) x short =
      let s = row_parts n (wire_of e) ns (wires_of (trees_of es)) x in
      (spellable n e s.0 short.0, row_spellable ns es s.1 short.1)

pub read_again : (e : Tree) → HasShortParts (wire_of e) → ¬ (IsTooDeep (wire_bytes (wire_of e))) → ¬ (IsTooMany (wire_bytes (wire_of e))) → IsRead (wire_bytes (wire_of e)) (wire_of e)
read_again e short shallow few = record { spelled = record { spellable = spellable (wire_of e) e refl short; spelled = refl }; not_deep = shallow; not_many = few }

pub form_built : (e : Tree) → Everywhere HasForm e → IsBuilt is_default_kind (wire_of e) e
form_built e forms = record { form = refl; forms = forms; held = also_everywhere HasForm (λ d. is_default_kind (encoding_of d) ≡ true) (λ d f. default_kind d f.metadata) e forms }
