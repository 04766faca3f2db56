-- The constants that stand in for operands: any value between the operand's bounds.
use Rattle.std.proofs.Common.{◌≡◌, ℕ, refl, ap, sym, ◌∙◌, Bool, true, false, not, Option, Some, None, subst, List, [], Ok}
use Rattle.std.specs.Prelude.{ℤ, ◌<ℤ◌, is_some, MatchOption}
use Rattle.std.specs.declared.cmp.Ordering.{Ordering}
use Rattle.std.specs.declared.cmp.Ordering.TheVariants.{Less, Equal, Greater}
use Rattle.std.specs.Ordering.{nat_cmp, int_cmp, bool_cmp, ordering_reverse, MatchOrdering, is_eq}
use Rattle.std.specs.Cmp.Lexicographic.{slice_cmp}
use Rattle.std.proofs.lemmas.Cmp.{int_ranked}
use Rattle.std.proofs.lemmas.Map.Text.{is_eq-slice_cmp}
use Rattle.std.proofs.lemmas.Bool.{and_parts}
use Rattle.vx_dtype.specs.declared.PType.{PType}
use Rattle.vx_dtype.specs.declared.Nullability.{Nullability}
use Rattle.vx_dtype.specs.declared.CompareOperator.{CompareOperator}
use Rattle.vx_dtype.specs.declared.CompareOperator.TheVariants.{Eq, NotEq, Gt, Gte, Lt, Lte}
use Rattle.vx_dtype.specs.declared.Stat.{Stat}
use Rattle.vx_dtype.specs.declared.Stat.TheVariants.{Min, Max}
use Rattle.vx_dtype.specs.Types.{Bytes, Ty, bool_ty, int_ty, text_ty, list_ty, struct_ty}
use Rattle.vx_dtype.specs.TypeRules.{alike, same_ptype, is_plain}
use Rattle.vx_dtype.specs.Values.{Raw, raw_bool, raw_int, raw_text, raw_list, raw_struct, Raws, Val, null_val, bool_val, int_val, text_val, list_val, struct_val, fault, Typed, valued, value_of}
use Rattle.vx_dtype.specs.Fits.{fits, val_fits, in_range}
use Rattle.vx_dtype.specs.Order.{order, meets, compares}
use Rattle.vx_expr.specs.Trees.{Tree, root, literal, get_item}
use Rattle.vx_expr.specs.Operators.{inverse_comparison}
use Rattle.vx_semantics.specs.Typing.{typed_of}
use Rattle.vx_semantics.specs.Meaning.{Slots, mean}
use Rattle.vx_semantics.specs.Tables.{Zones, row_type}
use Rattle.vx_dtype.specs.Logic.{is_null_val}
use Rattle.vx_semantics.specs.Pruning.{known, known_at, known_bound, known_compare}
use Rattle.vx_semantics.specs.Paths.{path_of}
use Rattle.vx_semantics.specs.Instances.{without_ranges, IsConstantFor, IsReplaced}
use Rattle.vx_laws.proofs.Inverting.{bytes_same}
use Rattle.vx_laws.proofs.Comparing.{same_ptype-same, order-swap, reversed}
use Rattle.vx_laws.proofs.Fitting.{valued-fits}
use Rattle.vx_laws.proofs.Preserving.{literal_type-ok}
use Rattle.vx_laws.proofs.Sound.{kind_of}
use Rattle.vx_laws_scan.specs.Exactness.{is_operand, IsBounded, PathsAreBounded}
use Rattle.vx_laws.proofs.Paths.{begun}
use Rattle.vx_laws_scan.proofs.HonestRows.{}
use Rattle.vx_laws_scan.proofs.Ordered.{compares-stands, compares-order, stands-compares, IsAtMost, IsAtMost-itself, is_ordered, ordered-left, ordered-right}
use Rattle.vx_laws_scan.proofs.Bounds.{IsWithin, itself-within}

-- values of plain types of one kind that are not null have an order
order-booleans : (l r : Val) (n m : Nullability) → val_fits l (bool_ty n) ≡ true → val_fits r (bool_ty m) ≡ true → is_null_val l ≡ false → is_null_val r ≡ false → is_some (order l r) ≡ true
unfolding val_fits
order-booleans (bool_val a) (bool_val b) n m h k i j = refl
order-booleans _ _ n m h k i j = let no : ⊥ = cc in absurd no

order-integers : (l r : Val) (p q : PType) (n m : Nullability) → val_fits l (int_ty p n) ≡ true → val_fits r (int_ty q m) ≡ true → is_null_val l ≡ false → is_null_val r ≡ false → is_some (order l r) ≡ true
unfolding val_fits
order-integers (int_val o a) (int_val s b) p q n m h k i j = refl
order-integers _ _ p q n m h k i j = let no : ⊥ = cc in absurd no

order-texts : (l r : Val) (n m : Nullability) → val_fits l (text_ty n) ≡ true → val_fits r (text_ty m) ≡ true → is_null_val l ≡ false → is_null_val r ≡ false → is_some (order l r) ≡ true
unfolding val_fits
order-texts (text_val a) (text_val b) n m h k i j = refl
order-texts _ _ n m h k i j = let no : ⊥ = cc in absurd no

pub order-plain : (l r : Val) (a b : Ty) → kind_of a ≡ kind_of b → is_plain a ≡ true → val_fits l a ≡ true → val_fits r b ≡ true → is_null_val l ≡ false → is_null_val r ≡ false → is_some (order l r) ≡ true
order-plain l r (bool_ty n) (bool_ty m) e p = order-booleans l r n m
order-plain l r (int_ty o n) (int_ty q m) e p = order-integers l r o q n m
order-plain l r (text_ty n) (text_ty m) e p = order-texts l r n m
order-plain l r _ _ e p = let no : ⊥ = cc in absurd no

-- of values that have an order, where a comparison is not true its inverse is
pub inverse-true : (op : CompareOperator) (l r : Val) → is_some (order l r) ≡ true → compares op l r ≡ false → compares (inverse_comparison op) l r ≡ true
inverse-true op l r h c = by-order (order l r) refl h
  where
    flip : (op : CompareOperator) (o : Ordering) → meets op o ≡ false → meets (inverse_comparison op) o ≡ true
    flip Eq Less k = refl
    flip Eq Greater k = refl
    flip NotEq Equal k = refl
    flip Gt Less k = refl
    flip Gt Equal k = refl
    flip Gte Less k = refl
    flip Lt Equal k = refl
    flip Lt Greater k = refl
    flip Lte Greater k = refl
    flip _ _ k = let no : ⊥ = cc in absurd no

    by-order : (o : Option Ordering) → order l r ≡ o → is_some o ≡ true → compares (inverse_comparison op) l r ≡ true
    by-order None e k = let no : ⊥ = cc in absurd no
    by-order (Some o) e k = stands-compares (inverse_comparison op) l r o e (flip op o (sym (compares-order op l r o e) ∙ c))

-- values that are each at most the other stand equal
pub equal-stand : (x y : Val) → IsAtMost x y → IsAtMost y x → order x y ≡ Some Equal
equal-stand x y h k =
    let a = compares-stands Lte x y h in
    let b = compares-stands Lte y x k in
    let back : order y x ≡ Some (ordering_reverse a.stand) = order-swap y x ∙ ap reversed a.is in
    let same : b.stand ≡ ordering_reverse a.stand = cc in
    by-stand a.stand a.is a.meeting (subst (λ (z : Ordering). meets Lte z ≡ true) same b.meeting)
  where
    by-stand : (o : Ordering) → order x y ≡ Some o → meets Lte o ≡ true → meets Lte (ordering_reverse o) ≡ true → order x y ≡ Some Equal
    by-stand Equal e i j = e
    by-stand Less e i j = let no : ⊥ = cc in absurd no
    by-stand Greater e i j = let no : ⊥ = cc in absurd no

equal-booleans : (a b : Bool) → bool_cmp a b ≡ Equal → a ≡ b
equal-booleans true true h = refl
equal-booleans false false h = refl
equal-booleans true false h = let no : ⊥ = cc in absurd no
equal-booleans false true h = let no : ⊥ = cc in absurd no

equal-integers : (a b : ℤ) (o : Ordering) → o ≡ int_cmp a b → o ≡ Equal → a ≡ b
equal-integers a b o e k = by-stand o (int_ranked a b o e) k
  where
    by-stand : (o : Ordering) → MatchOrdering o (a <ℤ b) (a ≡ b) (b <ℤ a) → o ≡ Equal → a ≡ b
    by-stand Equal r k = r
    by-stand Less r k = let no : ⊥ = cc in absurd no
    by-stand Greater r k = let no : ⊥ = cc in absurd no

equal-texts : (a b : Bytes) → slice_cmp nat_cmp a b ≡ Equal → a ≡ b
equal-texts a b h = bytes_same a b (sym (is_eq-slice_cmp a b) ∙ ap is_eq h)

int-own : (p q : PType) (i : ℤ) (n : Nullability) → val_fits (int_val p i) (int_ty q n) ≡ true → p ≡ q
unfolding val_fits
int-own p q i n h = same_ptype-same p q (and_parts (same_ptype p q) (in_range q i) h).0

ints-same : (p q : PType) (a b : ℤ) (t : Ty) → val_fits (int_val p a) t ≡ true → val_fits (int_val q b) t ≡ true → p ≡ q
unfolding val_fits
ints-same p q a b (int_ty o n) h k = int-own p o a n h ∙ sym (int-own q o b n k)
ints-same p q a b _ h k = let no : ⊥ = cc in absurd no

-- values of one type that stand equal are the same
pub equal-same : (x y : Val) (t : Ty) → val_fits x t ≡ true → val_fits y t ≡ true → order x y ≡ Some Equal → x ≡ y
equal-same (bool_val a) (bool_val b) t h k e = let stand : bool_cmp a b ≡ Equal = cc (e) in ap bool_val (equal-booleans a b stand)
equal-same (int_val p a) (int_val q b) t h k e =
    let types = ints-same p q a b t h k in
    let stand : int_cmp a b ≡ Equal = cc (e) in
    let same = equal-integers a b (int_cmp a b) refl stand in
    cc
equal-same (text_val a) (text_val b) t h k e = let stand : slice_cmp nat_cmp a b ≡ Equal = cc (e) in ap text_val (equal-texts a b stand)
equal-same (bool_val a) _ t h k e = let no : ⊥ = cc in absurd no
equal-same (int_val p a) _ t h k e = let no : ⊥ = cc in absurd no
equal-same (text_val a) _ t h k e = let no : ⊥ = cc in absurd no
equal-same _ y t h k e = let no : ⊥ = cc in absurd no

-- an instance of an expression, of whose meaning a fact holds
pub record Witness (zones : Zones) (block : ℕ) (slots : Slots) (row : Val) (e : Tree) (P : Val → Type 0) : Type 0 where
  pub tree : Tree
  pub replaced : IsReplaced zones block e tree
  pub fact : P (mean (row_type zones.columns) slots row tree)

-- an operand: its type, its bounds, a constant for each value between them, and that each constant lies between them
pub record Operand (zones : Zones) (block : ℕ) (slots : Slots) (row : Val) (e : Tree) : Type 0 where
  pub ty : Ty
  pub low : Raw
  pub high : Raw
  pub typed : typed_of (row_type zones.columns) e ≡ Ok ty
  pub low_fits : fits low ty ≡ true
  pub high_fits : fits high ty ≡ true
  pub least : known_bound zones block Min e ≡ Some (valued low ty)
  pub greatest : known_bound zones block Max e ≡ Some (valued high ty)
  pub low_known : is_null_val (valued low ty) ≡ false
  pub high_known : is_null_val (valued high ty) ≡ false
  pub in_order : IsAtMost (valued low ty) (valued high ty)
  pub unranged : without_ranges e ≡ e
  pub at : (x : Raw) → fits x ty ≡ true → IsAtMost (valued low ty) (valued x ty) → IsAtMost (valued x ty) (valued high ty) → Witness zones block slots row e (λ v. v ≡ valued x ty)
  pub within : (i : Tree) → IsReplaced zones block e i → IsWithin (λ s. known_bound zones block s e) (mean (row_type zones.columns) slots row i)

-- a chain of field accesses has no range in it
path-unranged : (e : Tree) (path : List Bytes) → path_of e ≡ Some path → without_ranges e ≡ e
unfolding without_ranges
path-unranged root path h = refl
path-unranged (get_item f d) path h = let b = begun (path_of d) f path h in ap (get_item f) (path-unranged d b.0 b.1)
path-unranged _ path h = let no : ⊥ = cc in absurd no

-- a path is replaced by a constant, as a whole
replaced-from : (zones : Zones) (block : ℕ) (e : Tree) (path : List Bytes) (i : Tree) → path_of e ≡ Some path → IsConstantFor zones block e i → IsReplaced zones block e i
unfolding IsReplaced
replaced-from zones block root path i h c = c
replaced-from zones block (get_item f d) path i h c =
    subst (λ (o : Option (List Bytes)). MatchOption o ((x : Tree) × (i ≡ get_item f x) × IsReplaced zones block d x) (λ _. IsConstantFor zones block (get_item f d) i)) (sym h) c
replaced-from zones block _ path i h c = let no : ⊥ = cc (h) in absurd no

constant-of : (zones : Zones) (block : ℕ) (e : Tree) (path : List Bytes) (i : Tree) → path_of e ≡ Some path → IsReplaced zones block e i → IsConstantFor zones block e i
unfolding IsReplaced
constant-of zones block root path i h c = c
constant-of zones block (get_item f d) path i h c =
    subst (λ (o : Option (List Bytes)). MatchOption o ((x : Tree) × (i ≡ get_item f x) × IsReplaced zones block d x) (λ _. IsConstantFor zones block (get_item f d) i)) h c
constant-of zones block _ path i h c = let no : ⊥ = cc (h) in absurd no

ordered-not_null : (v : Val) → is_ordered v ≡ true → is_null_val v ≡ false
ordered-not_null null_val h = let no : ⊥ = cc in absurd no
ordered-not_null _ h = refl

-- a bounded path as an operand
path-operand : (zones : Zones) (block : ℕ) (slots : Slots) (row : Val) (e : Tree) (path : List Bytes) → path_of e ≡ Some path
    → ((stat : Stat) → known_bound zones block stat e ≡ known_at zones block stat (path_of e)) → IsBounded zones block e → Operand zones block slots row e
unfolding mean
path-operand zones block slots row e path h kb b = record {
  ty = b.ty;
  low = b.low;
  high = b.high;
  typed = b.of_its_type;
  low_fits = b.low_fits;
  high_fits = b.high_fits;
  least = kb Min ∙ b.least;
  greatest = kb Max ∙ b.greatest;
  low_known = ordered-not_null (valued b.low b.ty) (ordered-left Lte (valued b.low b.ty) (valued b.high b.ty) b.in_order);
  high_known = ordered-not_null (valued b.high b.ty) (ordered-right Lte (valued b.low b.ty) (valued b.high b.ty) b.in_order);
  in_order = b.in_order;
  unranged = path-unranged e path h;
  at = λ x f lo hi. record {
    tree = literal (record { ty = b.ty; value = x });
    replaced = replaced-from zones block e path (literal (record { ty = b.ty; value = x })) h (
      record { ty = b.ty; value = x },
      refl,
      record {
        of_its_type = b.of_its_type;
        is_value = f;
        not_below = subst (λ (o : Option Val). known_compare Lte o (Some (valued x b.ty)) ≡ true) (sym b.least) lo;
        not_above = subst (λ (o : Option Val). known_compare Lte (Some (valued x b.ty)) o ≡ true) (sym b.greatest) hi;
      },
    );
    fact = refl;
  };
  within = λ i r. constant-within (constant-of zones block e path i h r);
}
  where
    constant-within : {i : Tree} → IsConstantFor zones block e i → IsWithin (λ s. known_bound zones block s e) (mean (row_type zones.columns) slots row i)
    constant-within {i} c =
        subst (λ (z : Tree). IsWithin (λ s. known_bound zones block s e) (mean (row_type zones.columns) slots row z)) (sym c.1)
        (record {
          least = λ m k o. subst (λ (z : Option Val). known_compare Lte z (Some (value_of c.0)) ≡ true) (sym (kb Min) ∙ k) c.2.not_below;
          greatest = λ m k o. subst (λ (z : Option Val). known_compare Lte (Some (value_of c.0)) z ≡ true) (sym (kb Max) ∙ k) c.2.not_above;
        })

not-true : (b : Bool) → not b ≡ true → b ≡ false
not-true false h = refl
not-true true h = let no : ⊥ = cc in absurd no

known-itself : (v : Val) → is_null_val v ≡ false → known v ≡ Some v
known-itself null_val h = let no : ⊥ = cc in absurd no
known-itself (bool_val b) h = refl
known-itself (int_val p b) h = refl
known-itself (text_val b) h = refl
known-itself (list_val b) h = refl
known-itself (struct_val b) h = refl
known-itself fault h = refl

-- a constant as an operand
constant-operand : (zones : Zones) (block : ℕ) (slots : Slots) (row : Val) (s : Typed) (ty : Ty) → is_null_val (value_of s) ≡ false → typed_of (row_type zones.columns) (literal s) ≡ Ok ty → is_plain ty ≡ true
    → Operand zones block slots row (literal s)
unfolding mean typed_of without_ranges IsReplaced
constant-operand zones block slots row s ty n e p =
    let k = literal_type-ok s ty e in
    let v = value_of s in
    let fit = valued-fits s.value s.ty k.is_value in
    let ordered : is_ordered v ≡ true = order-plain v v s.ty s.ty refl (subst (λ (z : Ty). is_plain z ≡ true) (sym k.same) p) fit fit n n in
    record {
      ty = s.ty;
      low = s.value;
      high = s.value;
      typed = subst (λ (z : Ty). typed_of (row_type zones.columns) (literal s) ≡ Ok z) (sym k.same) e;
      low_fits = k.is_value;
      high_fits = k.is_value;
      least = known-itself v n;
      greatest = known-itself v n;
      low_known = n;
      high_known = n;
      in_order = IsAtMost-itself v ordered;
      unranged = refl;
      at = λ x f lo hi. record { tree = literal s; replaced = refl; fact = equal-same v (valued x s.ty) s.ty fit (valued-fits x s.ty f) (equal-stand v (valued x s.ty) lo hi) };
      within = λ i r. subst (λ (z : Tree). IsWithin (λ _. known v) (mean (row_type zones.columns) slots row z)) (sym r) (itself-within (λ _. known v) v refl refl);
    }

pub operand-ok : (zones : Zones) (block : ℕ) (slots : Slots) (row : Val) (e : Tree) (ty : Ty) → is_operand e ≡ true → typed_of (row_type zones.columns) e ≡ Ok ty → is_plain ty ≡ true → PathsAreBounded zones block e
    → Operand zones block slots row e
unfolding PathsAreBounded
operand-ok zones block slots row (literal s) ty h e p b = constant-operand zones block slots row s ty (not-true (is_null_val (value_of s)) h) e p
operand-ok zones block slots row root ty h e p b = path-operand zones block slots row root [] refl (λ stat. refl) b
operand-ok zones block slots row (get_item f d) ty h e p b = by-path (path_of (get_item f d)) refl h
  where
    by-path : (o : Option (List Bytes)) → path_of (get_item f d) ≡ o → is_some o ≡ true → Operand zones block slots row (get_item f d)
    by-path None k j = let no : ⊥ = cc in absurd no
    by-path (Some path) k j = path-operand zones block slots row (get_item f d) path k (λ stat. refl) b
operand-ok zones block slots row _ ty h e p b = let no : ⊥ = cc (h) in absurd no

-- a plain value of one type is one of an equal type
pub record Carried (x : Raw) (a b : Ty) : Type 0 where
  pub fit : fits x b ≡ true
  pub same : valued x a ≡ valued x b

no-list : (c : Raws) (a : Ty) → is_plain a ≡ true → fits (raw_list c) a ≡ true → ⊥
unfolding fits
no-list c (list_ty e n) p h = cc
no-list c _ p h = cc

no-struct : (c : Raws) (a : Ty) → is_plain a ≡ true → fits (raw_struct c) a ≡ true → ⊥
unfolding fits
no-struct c (struct_ty fs n) p h = cc
no-struct c _ p h = cc

pub carried : (x : Raw) (a b : Ty) → alike a b ≡ true → is_plain a ≡ true → fits x a ≡ true → is_null_val (valued x a) ≡ false → Carried x a b
unfolding alike fits valued
carried (raw_bool c) (bool_ty n) (bool_ty m) e p h k = record { fit = refl; same = refl }
carried (raw_text c) (text_ty n) (text_ty m) e p h k = record { fit = refl; same = refl }
carried (raw_int c) (int_ty o n) (int_ty q m) e p h k =
    let same = same_ptype-same o q e in
    record { fit = subst (λ (z : PType). in_range z c ≡ true) same h; same = ap (λ (z : PType). int_val z c) same }
carried (raw_list c) a b e p h k = absurd (no-list c a p h)
carried (raw_struct c) a b e p h k = absurd (no-struct c a p h)
carried _ _ _ e p h k = let no : ⊥ = cc in absurd no
