-- Meaning, asking, slots and types measured over conjuncts and their ranges.
use Rattle.std.proofs.Common.{◌⊎◌, inl, inr, ◌≡◌, refl, ap, sym, ◌∙◌, Bool, true, false, ◌&&◌, ◌||◌, Some, subst, List, [], ◌++◌}
use Rattle.std.specs.List.{list_any}
use Rattle.vx_dtype.specs.declared.BetweenOptions.{BetweenOptions}
use Rattle.vx_dtype.specs.declared.CompareOperator.TheVariants.{Lt, Lte}
use Rattle.vx_dtype.specs.declared.StrictComparison.{StrictComparison}
use Rattle.vx_dtype.specs.declared.StrictComparison.TheVariants.{Strict, NonStrict}
use Rattle.vx_dtype.specs.Types.{Bytes, Ty}
use Rattle.vx_dtype.specs.Values.{Val, Typed, value_of}
use Rattle.vx_dtype.specs.Logic.{and3}
use Rattle.vx_dtype.specs.Order.{compare3, bound_operator}
use Rattle.vx_expr.specs.declared.Operator.{Operator}
use Rattle.vx_expr.specs.Operators.{swapped}
use Rattle.vx_expr.specs.Trees.{Tree, literal, binary, between}
use Rattle.vx_semantics.specs.Meaning.{Slots, binary3, mean}
use Rattle.vx_semantics.specs.Asked.{Asking, asked}
use Rattle.vx_semantics.specs.Slots.{slots_fit}
use Rattle.vx_passes.specs.Ranges.{Reading, bound_below, bound_above, range_of}
use Rattle.vx_laws.specs.Operators.{may_swap}
use Rattle.vx_laws.proofs.Kleene.{and3_assoc, and3_comm}
use Rattle.vx_laws.proofs.Comparing.{compare3-swap, swap_keeps}
use Rattle.vx_laws_simplifying.proofs.Observing.{Observes, seen, is_still, seen-both, seen-below, or-assoc, or-comm, or-twice, or-false, and-assoc, and-comm, and-twice}
use Rattle.vx_laws_simplifying.proofs.RangeParts.{Reads, left_read, right_read, Bounds, RangeParts, range_of-parts}
use Rattle.vx_laws_simplifying.proofs.Chains.{Measure}

-- whether an operator orders its operands
abbrev pub is_order : Operator → Bool
is_order Operator.Gt = true
is_order Operator.Gte = true
is_order Operator.Lt = true
is_order Operator.Lte = true
is_order _ = false

pub below-order : (op : Operator) (s : StrictComparison) → bound_below op ≡ Some s → is_order op ≡ true
below-order Operator.Gt s h = refl
below-order Operator.Gte s h = refl
below-order _ s h = let no : ⊥ = cc in absurd no

pub above-order : (op : Operator) (s : StrictComparison) → bound_above op ≡ Some s → is_order op ≡ true
above-order Operator.Lt s h = refl
above-order Operator.Lte s h = refl
above-order _ s h = let no : ⊥ = cc in absurd no

pub swapped-order : (op : Operator) → is_order (swapped op) ≡ is_order op
swapped-order Operator.Gt = refl
swapped-order Operator.Gte = refl
swapped-order Operator.Lt = refl
swapped-order Operator.Lte = refl
swapped-order _ = refl

order-may_swap : (op : Operator) (a b : Val) → is_order op ≡ true → may_swap op a b ≡ true
order-may_swap Operator.Add a b h = let no : ⊥ = cc in absurd no
order-may_swap Operator.Sub a b h = let no : ⊥ = cc in absurd no
order-may_swap _ a b h = refl

order-still : (l : Tree) (op : Operator) (r : Tree) → is_order op ≡ true → is_still (binary l op r) ≡ true
order-still l Operator.Add r h = h
order-still l Operator.Sub r h = h
order-still l _ r h = refl

-- a reading means the conjunct
read-means : (t : Ty) (slots : Slots) (row : Val) (c : Tree) (a : Reading) → Reads c a → is_order a.operator ≡ true
    → binary3 a.operator (mean t slots row a.operand) (mean t slots row a.other) ≡ mean t slots row c
unfolding mean
read-means t slots row c a (left_read l op r) h = refl
read-means t slots row c a (right_read l op r) h =
    sym (swap_keeps op (mean t slots row l) (mean t slots row r) (order-may_swap op (mean t slots row l) (mean t slots row r) (sym (swapped-order op) ∙ h)))

below-means : (op : Operator) (s : StrictComparison) (v w : Val) → bound_below op ≡ Some s → compare3 (bound_operator s) w v ≡ binary3 op v w
below-means Operator.Gt s v w h = let same : Strict ≡ s = cc in subst (λ (z : StrictComparison). compare3 (bound_operator z) w v ≡ binary3 Operator.Gt v w) same (compare3-swap Lt w v)
below-means Operator.Gte s v w h = let same : NonStrict ≡ s = cc in subst (λ (z : StrictComparison). compare3 (bound_operator z) w v ≡ binary3 Operator.Gte v w) same (compare3-swap Lte w v)
below-means _ s v w h = let no : ⊥ = cc in absurd no

above-means : (op : Operator) (s : StrictComparison) (v w : Val) → bound_above op ≡ Some s → compare3 (bound_operator s) v w ≡ binary3 op v w
above-means Operator.Lt s v w h = let same : Strict ≡ s = cc in subst (λ (z : StrictComparison). compare3 (bound_operator z) v w ≡ binary3 Operator.Lt v w) same refl
above-means Operator.Lte s v w h = let same : NonStrict ≡ s = cc in subst (λ (z : StrictComparison). compare3 (bound_operator z) v w ≡ binary3 Operator.Lte v w) same refl
above-means _ s v w h = let no : ⊥ = cc in absurd no

bounds-mean : (t : Ty) (slots : Slots) (row : Val) (a b : Reading) (x : Tree) → Bounds a b x
    → mean t slots row x ≡ and3 (binary3 a.operator (mean t slots row a.operand) (mean t slots row a.other)) (binary3 b.operator (mean t slots row b.operand) (mean t slots row b.other))
unfolding mean
bounds-mean t slots row a b x k =
    let v = mean t slots row a.operand in
    let low = below-means a.operator k.below v (value_of k.lower) k.is_below ∙ ap (λ (z : Tree). binary3 a.operator v (mean t slots row z)) (sym k.is_lower) in
    let high = above-means b.operator k.above v (value_of k.upper) k.is_above
    ∙ (ap (λ (z : Tree). binary3 b.operator (mean t slots row z) (value_of k.upper)) k.shared ∙ ap (λ (z : Tree). binary3 b.operator (mean t slots row b.operand) (mean t slots row z)) (sym k.is_upper)) in
    ap (mean t slots row) k.is
    ∙ (ap (λ (y : Val). and3 y (compare3 (bound_operator k.above) v (value_of k.upper))) low
    ∙ ap (and3 (binary3 a.operator (mean t slots row a.operand) (mean t slots row a.other))) high)

pub range-means : (t : Ty) (slots : Slots) (row : Val) (c d x : Tree) → range_of c d ≡ Some x → mean t slots row x ≡ and3 (mean t slots row c) (mean t slots row d)
range-means t slots row c d x h = let p = range_of-parts c d x h in by-bounds p p.bounds
  where
    both : (a b : Reading) (e f : Tree) → Reads e a → Reads f b → Bounds a b x → mean t slots row x ≡ and3 (mean t slots row e) (mean t slots row f)
    both a b e f i j k =
        bounds-mean t slots row a b x k
        ∙ (ap (λ (y : Val). and3 y (binary3 b.operator (mean t slots row b.operand) (mean t slots row b.other))) (read-means t slots row e a i (below-order a.operator k.below k.is_below))
        ∙ ap (and3 (mean t slots row e)) (read-means t slots row f b j (above-order b.operator k.above k.is_above)))

    by-bounds : (p : RangeParts c d x) → Bounds p.first p.second x ⊎ Bounds p.second p.first x → mean t slots row x ≡ and3 (mean t slots row c) (mean t slots row d)
    by-bounds p (inl k) = both p.first p.second c d p.reads_first p.reads_second k
    by-bounds p (inr k) = both p.second p.first d c p.reads_second p.reads_first k ∙ and3_comm (mean t slots row d) (mean t slots row c)

unfoldable pub meaning : (t : Ty) (slots : Slots) (row : Val) → Measure Val
unfolding mean
meaning t slots row = record {
  join = and3;
  assoc = and3_assoc;
  comm = and3_comm;
  alone = mean t slots row;
  within = mean t slots row;
  and_alone = λ l r. refl;
  and_within = λ l r. refl;
  range_alone = range-means t slots row;
  range_within = range-means t slots row;
}

-- a constant shows nothing, and two operands of an operator that doesn't break what each shows
pub constant-seen : (t : Ty) (slots : Slots) (row : Val) (test : Asking → Bool) → Observes t slots row test → (s : Typed) (path : List Bytes) → seen test t (literal s) path ≡ false
unfolding asked
constant-seen t slots row test o s path = seen-below t slots row test o (literal s) [] refl

pub two-seen : (t : Ty) (slots : Slots) (row : Val) (test : Asking → Bool) → Observes t slots row test → (l : Tree) (op : Operator) (r : Tree) (path : List Bytes) → is_still (binary l op r) ≡ true
    → seen test t (binary l op r) path ≡ (seen test t l [] || seen test t r [])
unfolding asked
two-seen t slots row test o l op r path h = seen-below t slots row test o (binary l op r) (asked t l [] ++ asked t r []) h ∙ seen-both test (asked t l []) (asked t r [])

-- what a comparison with a constant asks is what the other operand asks
read-seen : (t : Ty) (slots : Slots) (row : Val) (test : Asking → Bool) → Observes t slots row test → (c : Tree) (a : Reading) (s : Typed) → Reads c a → is_order a.operator ≡ true → a.other ≡ literal s
    → seen test t c [] ≡ seen test t a.operand []
read-seen t slots row test o c a s (left_read l op r) h e =
    two-seen t slots row test o l op r [] (order-still l op r h)
    ∙ (ap (λ (z : Tree). seen test t l [] || seen test t z []) e ∙ (ap (λ (b : Bool). seen test t l [] || b) (constant-seen t slots row test o s []) ∙ or-false (seen test t l [])))
read-seen t slots row test o c a s (right_read l op r) h e =
    two-seen t slots row test o l op r [] (order-still l op r (sym (swapped-order op) ∙ h))
    ∙ (ap (λ (z : Tree). seen test t z [] || seen test t r []) e ∙ ap (λ (b : Bool). b || seen test t r []) (constant-seen t slots row test o s []))

between-seen : (t : Ty) (slots : Slots) (row : Val) (test : Asking → Bool) → Observes t slots row test → (a b : Reading) (x : Tree) (path : List Bytes) → Bounds a b x
    → seen test t x path ≡ seen test t a.operand []
unfolding asked
between-seen t slots row test o a b x path k =
    let options : BetweenOptions = record { lower_strict = k.below; upper_strict = k.above } in
    let low = literal k.lower in
    let high = literal k.upper in
    let none : list_any test (asked t low [] ++ asked t high []) ≡ false =
    seen-both test (asked t low []) (asked t high [])
    ∙ (ap (λ (y : Bool). y || seen test t high []) (constant-seen t slots row test o k.lower []) ∙ constant-seen t slots row test o k.upper []) in
    ap (λ (z : Tree). seen test t z path) k.is
    ∙ (seen-below t slots row test o (between a.operand low high options) (asked t a.operand [] ++ (asked t low [] ++ asked t high [])) refl
    ∙ (seen-both test (asked t a.operand []) (asked t low [] ++ asked t high [])
    ∙ (ap (λ (y : Bool). seen test t a.operand [] || y) none ∙ or-false (seen test t a.operand []))))

pub range-seen : (t : Ty) (slots : Slots) (row : Val) (test : Asking → Bool) → Observes t slots row test → (path : List Bytes) (c d x : Tree) → range_of c d ≡ Some x
    → seen test t x path ≡ (seen test t c [] || seen test t d [])
range-seen t slots row test o path c d x h = let p = range_of-parts c d x h in by-bounds p p.bounds
  where
    both : (a b : Reading) (e f : Tree) → Reads e a → Reads f b → Bounds a b x → seen test t x path ≡ (seen test t e [] || seen test t f [])
    both a b e f i j k =
        let own = seen test t a.operand [] in
        between-seen t slots row test o a b x path k
        ∙ (sym (or-twice own)
        ∙ (ap (λ (y : Bool). y || own) (sym (read-seen t slots row test o e a k.lower i (below-order a.operator k.below k.is_below) k.is_lower))
        ∙ ap (λ (y : Bool). seen test t e [] || y)
        (ap (λ (z : Tree). seen test t z []) k.shared ∙ sym (read-seen t slots row test o f b k.upper j (above-order b.operator k.above k.is_above) k.is_upper))))

    by-bounds : (p : RangeParts c d x) → Bounds p.first p.second x ⊎ Bounds p.second p.first x → seen test t x path ≡ (seen test t c [] || seen test t d [])
    by-bounds p (inl k) = both p.first p.second c d p.reads_first p.reads_second k
    by-bounds p (inr k) = both p.second p.first d c p.reads_second p.reads_first k ∙ or-comm (seen test t d []) (seen test t c [])

unfoldable pub asking : (t : Ty) (slots : Slots) (row : Val) (test : Asking → Bool) → Observes t slots row test → List Bytes → Measure Bool
asking t slots row test o path = record {
  join = λ a b. a || b;
  assoc = or-assoc;
  comm = or-comm;
  alone = λ e. seen test t e path;
  within = λ e. seen test t e [];
  and_alone = λ l r. two-seen t slots row test o l Operator.And r path refl;
  and_within = λ l r. two-seen t slots row test o l Operator.And r [] refl;
  range_alone = range-seen t slots row test o path;
  range_within = range-seen t slots row test o [];
}

-- slots
read-slots : (slots : Slots) (c : Tree) (a : Reading) (s : Typed) → Reads c a → a.other ≡ literal s → slots_fit slots c ≡ slots_fit slots a.operand
unfolding slots_fit
read-slots slots c a s (left_read l op r) e = ap (λ (z : Tree). slots_fit slots l && slots_fit slots z) e ∙ and-comm (slots_fit slots l) true
read-slots slots c a s (right_read l op r) e = ap (λ (z : Tree). slots_fit slots z && slots_fit slots r) e

between-slots : (slots : Slots) (a b : Reading) (x : Tree) → Bounds a b x → slots_fit slots x ≡ slots_fit slots a.operand
unfolding slots_fit
between-slots slots a b x k = ap (slots_fit slots) k.is ∙ and-comm (slots_fit slots a.operand) true

pub range-slots : (slots : Slots) (c d x : Tree) → range_of c d ≡ Some x → slots_fit slots x ≡ (slots_fit slots c && slots_fit slots d)
range-slots slots c d x h = let p = range_of-parts c d x h in by-bounds p p.bounds
  where
    both : (a b : Reading) (e f : Tree) → Reads e a → Reads f b → Bounds a b x → slots_fit slots x ≡ (slots_fit slots e && slots_fit slots f)
    both a b e f i j k =
        between-slots slots a b x k
        ∙ (sym (and-twice (slots_fit slots a.operand))
        ∙ (ap (λ (y : Bool). y && slots_fit slots a.operand) (sym (read-slots slots e a k.lower i k.is_lower))
        ∙ ap (λ (y : Bool). slots_fit slots e && y) (ap (slots_fit slots) k.shared ∙ sym (read-slots slots f b k.upper j k.is_upper))))

    by-bounds : (p : RangeParts c d x) → Bounds p.first p.second x ⊎ Bounds p.second p.first x → slots_fit slots x ≡ (slots_fit slots c && slots_fit slots d)
    by-bounds p (inl k) = both p.first p.second c d p.reads_first p.reads_second k
    by-bounds p (inr k) = both p.second p.first d c p.reads_second p.reads_first k ∙ and-comm (slots_fit slots d) (slots_fit slots c)

unfoldable pub fitting : Slots → Measure Bool
unfolding slots_fit
fitting slots = record {
  join = λ a b. a && b;
  assoc = and-assoc;
  comm = and-comm;
  alone = slots_fit slots;
  within = slots_fit slots;
  and_alone = λ l r. refl;
  and_within = λ l r. refl;
  range_alone = range-slots slots;
  range_within = range-slots slots;
}
