-- The nullability of booleans, measured over conjuncts and their ranges.
use Rattle.std.proofs.Common.{◌⊎◌, inl, inr, ◌≡◌, refl, ap, sym, ◌∙◌, Bool, true, false, cond, ◌&&◌, Option, Some, None, Result, Ok, Err}
use Rattle.vx_dtype.specs.declared.Nullability.{Nullability}
use Rattle.vx_dtype.specs.declared.Nullability.TheVariants.{NonNullable, Nullable}
use Rattle.vx_dtype.specs.declared.PType.{PType}
use Rattle.vx_dtype.specs.declared.PType.TheVariants.{U8, U16, U32, U64, I8, I16, I32, I64}
use Rattle.vx_dtype.specs.Types.{Ty, bool_ty, int_ty, text_ty, list_ty, struct_ty}
use Rattle.vx_dtype.specs.TypeRules.{union, nullability_of, same_ptype, alike, alike_fields}
use Rattle.vx_expr.specs.declared.Operator.{Operator}
use Rattle.vx_expr.specs.Trees.{Tree, literal}
use Rattle.vx_semantics.specs.Typing.{Refusal, type_mismatch, and_then, unless, union_of, equal_plain, logic_type, binary_type, between_type, typed_of}
use Rattle.vx_passes.specs.Ranges.{Reading, range_of}
use Rattle.vx_laws_simplifying.proofs.RangeParts.{Reads, left_read, right_read, Bounds, RangeParts, range_of-parts}
use Rattle.vx_laws_simplifying.proofs.RangedMeasures.{is_order, below-order, above-order, swapped-order}
use Rattle.vx_laws_simplifying.proofs.Chains.{Measure}

-- the nullability of an answer that is a boolean
abbrev pub bool_answer : Result Ty Refusal → Option Nullability
bool_answer (Ok (bool_ty n)) = Some n
bool_answer _ = None

abbrev pub join_null : Option Nullability → Option Nullability → Option Nullability
join_null (Some n) (Some m) = Some (union n m)
join_null _ _ = None

pub union-assoc : (a b c : Nullability) → union (union a b) c ≡ union a (union b c)
union-assoc NonNullable b c = refl
union-assoc Nullable b c = refl

pub union-comm : (a b : Nullability) → union a b ≡ union b a
union-comm NonNullable NonNullable = refl
union-comm NonNullable Nullable = refl
union-comm Nullable NonNullable = refl
union-comm Nullable Nullable = refl

pub join_null-assoc : (a b c : Option Nullability) → join_null (join_null a b) c ≡ join_null a (join_null b c)
join_null-assoc (Some a) (Some b) (Some c) = ap Some (union-assoc a b c)
join_null-assoc (Some a) (Some b) None = refl
join_null-assoc (Some a) None c = refl
join_null-assoc None b c = refl

pub join_null-comm : (a b : Option Nullability) → join_null a b ≡ join_null b a
join_null-comm (Some a) (Some b) = ap Some (union-comm a b)
join_null-comm (Some a) None = refl
join_null-comm None (Some b) = refl
join_null-comm None None = refl

pub and-answer : (a b : Result Ty Refusal) → bool_answer (and_then a (λ x. and_then b (logic_type x))) ≡ join_null (bool_answer a) (bool_answer b)
and-answer (Ok (bool_ty n)) (Ok (bool_ty m)) = refl
and-answer (Ok (bool_ty n)) (Ok _) = refl
and-answer (Ok (bool_ty n)) (Err r) = refl
and-answer (Ok _) (Ok b) = refl
and-answer (Ok _) (Err r) = refl
and-answer (Err r) b = refl

-- the nullability of a comparison of two operands
abbrev pub compared : Result Ty Refusal → Result Ty Refusal → Option Nullability
compared (Ok a) (Ok b) = cond (equal_plain a b) (Some (union_of a b)) None
compared _ _ = None

compare-answer : (a b : Ty) (x : Bool) → bool_answer (unless x type_mismatch (Ok (bool_ty (union_of a b)))) ≡ cond x (Some (union_of a b)) None
compare-answer a b true = refl
compare-answer a b false = refl

order-answer : (op : Operator) → is_order op ≡ true → (a b : Result Ty Refusal) → bool_answer (and_then a (λ x. and_then b (binary_type op x))) ≡ compared a b
order-answer op h (Err r) b = refl
order-answer op h (Ok a) (Err r) = refl
order-answer Operator.Gt h (Ok a) (Ok b) = compare-answer a b (equal_plain a b)
order-answer Operator.Gte h (Ok a) (Ok b) = compare-answer a b (equal_plain a b)
order-answer Operator.Lt h (Ok a) (Ok b) = compare-answer a b (equal_plain a b)
order-answer Operator.Lte h (Ok a) (Ok b) = compare-answer a b (equal_plain a b)
order-answer _ h (Ok a) (Ok b) = let no : ⊥ = cc in absurd no

same_ptype-comm : (p q : PType) → same_ptype p q ≡ same_ptype q p
same_ptype-comm U8 U8 = refl
same_ptype-comm U16 U16 = refl
same_ptype-comm U32 U32 = refl
same_ptype-comm U64 U64 = refl
same_ptype-comm I8 I8 = refl
same_ptype-comm I16 I16 = refl
same_ptype-comm I32 I32 = refl
same_ptype-comm I64 I64 = refl
same_ptype-comm _ _ = refl

never : (a b : Bool) → (a && false) ≡ (b && false)
never true true = refl
never true false = refl
never false true = refl
never false false = refl

equal_plain-comm : (a b : Ty) → equal_plain a b ≡ equal_plain b a
unfolding alike
equal_plain-comm (bool_ty n) (bool_ty m) = refl
equal_plain-comm (int_ty p n) (int_ty q m) = ap (λ (x : Bool). x && true) (same_ptype-comm p q)
equal_plain-comm (text_ty n) (text_ty m) = refl
equal_plain-comm (list_ty e n) (list_ty d m) = never (alike e d) (alike d e)
equal_plain-comm (struct_ty fs n) (struct_ty gs m) = never (alike_fields fs gs) (alike_fields gs fs)
equal_plain-comm _ _ = refl

compared-comm : (a b : Result Ty Refusal) → compared a b ≡ compared b a
compared-comm (Ok a) (Ok b) =
    ap (λ (x : Bool). cond x (Some (union_of a b)) None) (equal_plain-comm a b)
    ∙ ap (λ (n : Nullability). cond (equal_plain b a) (Some n) None) (union-comm (nullability_of a) (nullability_of b))
compared-comm (Ok a) (Err r) = refl
compared-comm (Err r) (Ok b) = refl
compared-comm (Err r) (Err q) = refl

union-between : (a b c : Nullability) → union a (union b c) ≡ union (union a b) (union a c)
union-between NonNullable b c = refl
union-between Nullable b c = refl

join_null-none : (a : Option Nullability) → join_null a None ≡ None
join_null-none (Some n) = refl
join_null-none None = refl

between-answer : (a b c : Result Ty Refusal) → bool_answer (and_then a (λ x. and_then b (λ y. and_then c (between_type x y)))) ≡ join_null (compared a b) (compared a c)
between-answer (Err r) b c = refl
between-answer (Ok a) (Err r) c = refl
between-answer (Ok a) (Ok b) (Err r) = sym (join_null-none (cond (equal_plain a b) (Some (union_of a b)) None))
between-answer (Ok a) (Ok b) (Ok c) = by-tests (equal_plain a b) (equal_plain a c)
  where
    by-tests : (x y : Bool) → bool_answer (unless (x && y) type_mismatch (Ok (bool_ty (union (nullability_of a) (union_of b c)))))
        ≡ join_null (cond x (Some (union_of a b)) None) (cond y (Some (union_of a c)) None)
    by-tests true true = ap Some (union-between (nullability_of a) (nullability_of b) (nullability_of c))
    by-tests true false = refl
    by-tests false y = refl

read-answer : (t : Ty) (c : Tree) (a : Reading) → Reads c a → is_order a.operator ≡ true → bool_answer (typed_of t c) ≡ compared (typed_of t a.operand) (typed_of t a.other)
unfolding typed_of
read-answer t c a (left_read l op r) h = order-answer op h (typed_of t l) (typed_of t r)
read-answer t c a (right_read l op r) h = order-answer op (sym (swapped-order op) ∙ h) (typed_of t l) (typed_of t r) ∙ compared-comm (typed_of t l) (typed_of t r)

bounds-answer : (t : Ty) (a b : Reading) (x : Tree) → Bounds a b x
    → bool_answer (typed_of t x) ≡ join_null (compared (typed_of t a.operand) (typed_of t a.other)) (compared (typed_of t b.operand) (typed_of t b.other))
unfolding typed_of
bounds-answer t a b x k =
    ap (λ (z : Tree). bool_answer (typed_of t z)) k.is
    ∙ (between-answer (typed_of t a.operand) (typed_of t (literal k.lower)) (typed_of t (literal k.upper))
    ∙ (ap (λ (z : Tree). join_null (compared (typed_of t a.operand) (typed_of t z)) (compared (typed_of t a.operand) (typed_of t (literal k.upper)))) (sym k.is_lower)
    ∙ (ap (λ (z : Tree). join_null (compared (typed_of t a.operand) (typed_of t a.other)) (compared (typed_of t a.operand) (typed_of t z))) (sym k.is_upper)
    ∙ ap (λ (z : Tree). join_null (compared (typed_of t a.operand) (typed_of t a.other)) (compared (typed_of t z) (typed_of t b.other))) k.shared)))

pub range-answer : (t : Ty) (c d x : Tree) → range_of c d ≡ Some x → bool_answer (typed_of t x) ≡ join_null (bool_answer (typed_of t c)) (bool_answer (typed_of t d))
range-answer t c d x h = let p = range_of-parts c d x h in by-bounds p p.bounds
  where
    both : (a b : Reading) (e f : Tree) → Reads e a → Reads f b → Bounds a b x → bool_answer (typed_of t x) ≡ join_null (bool_answer (typed_of t e)) (bool_answer (typed_of t f))
    both a b e f i j k =
        bounds-answer t a b x k
        ∙ (ap (λ (y : Option Nullability). join_null y (compared (typed_of t b.operand) (typed_of t b.other))) (sym (read-answer t e a i (below-order a.operator k.below k.is_below)))
        ∙ ap (join_null (bool_answer (typed_of t e))) (sym (read-answer t f b j (above-order b.operator k.above k.is_above))))

    by-bounds : (p : RangeParts c d x) → Bounds p.first p.second x ⊎ Bounds p.second p.first x → bool_answer (typed_of t x) ≡ join_null (bool_answer (typed_of t c)) (bool_answer (typed_of t d))
    by-bounds p (inl k) = both p.first p.second c d p.reads_first p.reads_second k
    by-bounds p (inr k) = both p.second p.first d c p.reads_second p.reads_first k ∙ join_null-comm (bool_answer (typed_of t d)) (bool_answer (typed_of t c))

unfoldable pub typing : Ty → Measure (Option Nullability)
unfolding typed_of
typing t = record {
  join = join_null;
  assoc = join_null-assoc;
  comm = join_null-comm;
  alone = λ e. bool_answer (typed_of t e);
  within = λ e. bool_answer (typed_of t e);
  and_alone = λ l r. and-answer (typed_of t l) (typed_of t r);
  and_within = λ l r. and-answer (typed_of t l) (typed_of t r);
  range_alone = range-answer t;
  range_within = range-answer t;
}
