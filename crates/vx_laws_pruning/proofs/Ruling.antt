-- The pruning expression of a filter means true exactly where the filter rules the block out.
use Rattle.std.proofs.Common.{◌≡◌, ℕ, refl, ap, sym, ◌∙◌, Bool, true, false, not, ◌&&◌, ◌||◌, Option, Some, None, subst, List, Ok}
use Rattle.std.specs.Prelude.{pos, option_map, MatchOption}
use Rattle.std.proofs.Math.Bool.{and-true, and_assoc}
use Rattle.std.proofs.lemmas.Bool.{and_parts}
use Rattle.vx_dtype.specs.declared.PType.TheVariants.{U64}
use Rattle.vx_dtype.specs.declared.Nullability.TheVariants.{NonNullable}
use Rattle.vx_dtype.specs.declared.CompareOperator.{CompareOperator}
use Rattle.vx_dtype.specs.declared.CompareOperator.TheVariants.{Eq, NotEq, Gt, Gte, Lt, Lte}
use Rattle.vx_dtype.specs.declared.Stat.TheVariants.{Min, Max, NullCount}
use Rattle.vx_dtype.specs.Types.{Ty, bool_ty, int_ty, text_ty, list_ty, struct_ty}
use Rattle.vx_dtype.specs.TypeRules.{alike, is_plain}
use Rattle.vx_dtype.specs.Values.{Raw, raw_null, raw_bool, raw_int, raw_text, raw_list, raw_struct, Raws, no_raws, raw, Val, list_val, Typed, valued, all_valued, value_of}
use Rattle.vx_dtype.specs.Fits.{fits, all_fit}
use Rattle.vx_dtype.specs.Logic.{tri, is_true_val}
use Rattle.vx_dtype.specs.Order.{bound_operator}
use Rattle.vx_expr.specs.declared.Operator.{Operator}
use Rattle.vx_expr.specs.Operators.{inverse_comparison}
use Rattle.vx_expr.specs.Slots.{slot_held}
use Rattle.vx_expr.specs.Trees.{Tree, literal, binary, not_of, is_null_of, between, list_contains, dynamic}
use Rattle.vx_semantics.specs.Typing.{and_then, type_mismatch, equal_plain, union_of, compare_type, logic_type, between_type, contains_type, dynamic_type, not_type, typed_of}
use Rattle.vx_semantics.specs.Meaning.{Slots, slot_value, dynamic3, mean}
use Rattle.vx_semantics.specs.Slots.{null_allowed, held_fits, slots_fit}
use Rattle.vx_semantics.specs.Tables.{Zones, row_type}
use Rattle.vx_semantics.specs.Paths.{path_of}
use Rattle.vx_semantics.specs.Pruning.{comparison_ruled_out, known, known_at, known_bound, known_compare, is_zero, all_outside, bound_available, elements_ruled_out, contains_ruled_out, needed_bound, dynamic_ruled_out_by, rules_out, rules_out_negation}
use Rattle.vx_passes.specs.Falsifying.{Question, found_by, found_in, unasked, count_of, is_zero_count, bound_of, comparison_falsified, compared_by, outside, all_outside_after, and_of, elements_falsified, list_falsified, contains_falsified, dynamic_falsified, falsified, negation_falsified}
use Rattle.vx_passes.specs.PruningTables.{pruning_where}
use Rattle.vx_laws.proofs.Inverting.{and_then-ok, unless-ok}
use Rattle.vx_laws.proofs.Sound.{is_broken}
use Rattle.vx_laws_pruning.specs.PruningLaws.{AreAccepted, PruningTreeRulesOut}
use Rattle.vx_laws_pruning.proofs.PlainKinds.{is_kind, kind-alike, kind-back, kind-valued, compared-sound, known-compared, default-kind, bool-true, bool-unbroken}
use Rattle.vx_laws_pruning.proofs.Accepted.{count-kind}
use Rattle.vx_laws_pruning.proofs.Telling.{meant, Tells, Agrees, or-tells, and-tells, and-right_false, tells-same, either-agrees, both-agrees}
use Rattle.vx_laws_pruning.proofs.Bounding.{catalog_of, Stands, IsBound, literal-typed, path-bound, Operand, operand, stand-compared, comparison-agrees}

pub plain-alike : (t u : Ty) → alike t u ≡ true → is_plain t ≡ true → is_plain u ≡ true
unfolding alike
plain-alike (bool_ty n) (bool_ty m) h k = refl
plain-alike (int_ty p n) (int_ty q m) h k = refl
plain-alike (text_ty n) (text_ty m) h k = refl
plain-alike _ _ h k = let no : ⊥ = cc in absurd no

pub plain-back : (t u : Ty) → alike t u ≡ true → is_plain u ≡ true → is_plain t ≡ true
unfolding alike
plain-back (bool_ty n) u h k = refl
plain-back (int_ty p n) u h k = refl
plain-back (text_ty n) u h k = refl
plain-back (list_ty e n) (list_ty d m) h k = k
plain-back (struct_ty fs n) (struct_ty gs m) h k = k
plain-back _ _ h k = let no : ⊥ = cc in absurd no

-- a bound of one type is one of a type that is equal but for nullability
bound-alike : (zones : Zones) (slots : Slots) (block : ℕ) (t u : Ty) (o : Option Tree) (k : Option Val) (there : Bool) → alike t u ≡ true → IsBound zones slots block u o k there → IsBound zones slots block t o k there
bound-alike zones slots block t u None k there h i = i
bound-alike zones slots block t u (Some e) k there h i =
    (record { known_so = i.0.known_so; kind = kind-back t u (meant zones slots block e) h i.0.kind }, i.1)

operand-alike : (zones : Zones) (slots : Slots) (block : ℕ) (t u : Ty) (e : Tree) → alike t u ≡ true → Operand zones slots block u e → Operand zones slots block t e
operand-alike zones slots block t u e h o = record {
  least = bound-alike zones slots block t u (bound_of (catalog_of zones) Min e).tree (known_bound zones block Min e) (bound_available zones e Min) h o.least;
  greatest = bound-alike zones slots block t u (bound_of (catalog_of zones) Max e).tree (known_bound zones block Max e) (bound_available zones e Max) h o.greatest;
}

-- the operand of a type that is equal to a plain one but for nullability
other-operand : (zones : Zones) (slots : Slots) (block : ℕ) (t u : Ty) (e : Tree) → AreAccepted zones → equal_plain t u ≡ true → typed_of (row_type zones.columns) e ≡ Ok u → Operand zones slots block t e
other-operand zones slots block t u e a h k =
    let parts = and_parts (alike t u) (is_plain t) h in
    operand-alike zones slots block t u e parts.0 (operand zones slots block u e a k (plain-alike t u parts.0 parts.1))

-- the two operands of a comparison
record Compared (zones : Zones) (slots : Slots) (block : ℕ) (l r : Tree) : Type 0 where
  ty : Ty
  left : Operand zones slots block ty l
  right : Operand zones slots block ty r

compared-operands : (zones : Zones) (slots : Slots) (block : ℕ) (l r : Tree) (u : Ty) → AreAccepted zones
    → and_then (typed_of (row_type zones.columns) l) (λ a. and_then (typed_of (row_type zones.columns) r) (compare_type a)) ≡ Ok u → Compared zones slots block l r
compared-operands zones slots block l r u a h =
    let t = row_type zones.columns in
    let x = and_then-ok (typed_of t l) (λ z. and_then (typed_of t r) (compare_type z)) u h in
    let y = and_then-ok (typed_of t r) (compare_type x.given) u x.gave in
    let z = unless-ok (equal_plain x.given y.given) type_mismatch (Ok (bool_ty (union_of x.given y.given))) u y.gave in
    record {
      ty = x.given;
      left = operand zones slots block x.given l a x.was (and_parts (alike x.given y.given) (is_plain x.given) z.holds).1;
      right = other-operand zones slots block x.given y.given r a z.holds y.was;
    }

-- a comparison, and a negated one
compares-agree : (zones : Zones) (slots : Slots) (block : ℕ) (op : CompareOperator) (l r : Tree) → AreAccepted zones → Compared zones slots block l r
    → Agrees zones slots block (comparison_falsified (catalog_of zones) l r op).tree (comparison_ruled_out op (λ s. known_bound zones block s l) (λ s. known_bound zones block s r))
compares-agree zones slots block op l r a c = comparison-agrees zones slots block c.ty op l r a c.left c.right

-- the three operands of a range
record Ranged (zones : Zones) (slots : Slots) (block : ℕ) (e lower upper : Tree) : Type 0 where
  low : Compared zones slots block lower e
  high : Compared zones slots block e upper

ranged-operands : (zones : Zones) (slots : Slots) (block : ℕ) (e lower upper : Tree) (u : Ty) → AreAccepted zones
    → and_then (typed_of (row_type zones.columns) e) (λ a. and_then (typed_of (row_type zones.columns) lower) (λ b. and_then (typed_of (row_type zones.columns) upper) (between_type a b))) ≡ Ok u
    → Ranged zones slots block e lower upper
ranged-operands zones slots block e lower upper u a h =
    let t = row_type zones.columns in
    let x = and_then-ok (typed_of t e) (λ v. and_then (typed_of t lower) (λ w. and_then (typed_of t upper) (between_type v w))) u h in
    let y = and_then-ok (typed_of t lower) (λ w. and_then (typed_of t upper) (between_type x.given w)) u x.gave in
    let z = and_then-ok (typed_of t upper) (between_type x.given y.given) u y.gave in
    let made = unless-ok (equal_plain x.given y.given && equal_plain x.given z.given) type_mismatch _ u z.gave in
    let parts = and_parts (equal_plain x.given y.given) (equal_plain x.given z.given) made.holds in
    let own = operand zones slots block x.given e a x.was (and_parts (alike x.given y.given) (is_plain x.given) parts.0).1 in
    record {
      low = record { ty = x.given; left = other-operand zones slots block x.given y.given lower a parts.0 y.was; right = own };
      high = record { ty = x.given; left = own; right = other-operand zones slots block x.given z.given upper a parts.1 z.was };
    }

-- a null test, by the count of nulls
null-agrees : (zones : Zones) (slots : Slots) (block : ℕ) (e : Tree) → AreAccepted zones
    → Agrees zones slots block (found_in is_zero_count (count_of (catalog_of zones) NullCount e)).tree (is_zero (known_at zones block NullCount (path_of e)))
unfolding mean valued
null-agrees zones slots block e a =
    by-count (count_of (catalog_of zones) NullCount e).tree (known_at zones block NullCount (path_of e)) _
    (path-bound zones slots block (int_ty U64 NonNullable) NullCount (path_of e) refl (λ path i z v s k. count-kind zones a path z block s v k))
  where
    zero-compared : (k : Option Val) → known_compare Eq k (known (valued (raw_int (pos 0)) (int_ty U64 NonNullable))) ≡ is_zero k
    zero-compared None = refl
    zero-compared (Some v) = refl

    by-count : (o : Option Tree) (k : Option Val) (there : Bool) → IsBound zones slots block (int_ty U64 NonNullable) o k there → Agrees zones slots block (option_map is_zero_count o) (is_zero k)
    by-count None k there i = ap is_zero i.0
    by-count (Some x) k there i =
        tells-same (meant zones slots block (is_zero_count x)) (known_compare Eq k (known (valued (raw_int (pos 0)) (int_ty U64 NonNullable)))) (is_zero k) (zero-compared k)
        (stand-compared zones slots block (int_ty U64 NonNullable) Eq x (literal (record { ty = int_ty U64 NonNullable; value = raw_int (pos 0) })) k (known (valued (raw_int (pos 0)) (int_ty U64 NonNullable))) i.0
        (record { known_so = refl; kind = refl }))

-- an element outside of two bounds
constant-stands : (zones : Zones) (slots : Slots) (block : ℕ) (t u : Ty) (x : Raw) → alike u t ≡ true → is_plain u ≡ true → fits x u ≡ true
    → Stands zones slots block t (literal (record { ty = u; value = x })) (known (valued x u))
unfolding mean
constant-stands zones slots block t u x h p k = record { known_so = refl; kind = kind-alike u t (valued x u) h (kind-valued x u p k) }

outside-tells : (zones : Zones) (slots : Slots) (block : ℕ) (t : Ty) (greatest least x : Tree) (k m v : Option Val) → Stands zones slots block t greatest k → Stands zones slots block t least m
    → Stands zones slots block t x v → Tells (meant zones slots block (outside greatest least x)) (known_compare Lt k v || known_compare Gt m v)
unfolding mean
outside-tells zones slots block t greatest least x k m v g l i =
    or-tells (meant zones slots block (compared_by Lt greatest x)) (meant zones slots block (compared_by Gt least x)) (known_compare Lt k v) (known_compare Gt m v)
    (stand-compared zones slots block t Lt greatest x k v g i) (stand-compared zones slots block t Gt least x m v l i)

outside-all : (zones : Zones) (slots : Slots) (block : ℕ) (t u : Ty) (greatest least : Tree) (k m : Option Val) → Stands zones slots block t greatest k → Stands zones slots block t least m
    → alike u t ≡ true → is_plain u ≡ true → (xs : Raws) → all_fit xs u ≡ true → (e : Tree) (b : Bool) → Tells (meant zones slots block e) b
    → Tells (meant zones slots block (all_outside_after greatest least u e xs)) (b && all_outside (all_valued xs u) m k)
unfolding mean fits valued
outside-all zones slots block t u greatest least k m g l h p no_raws f e b i = tells-same (meant zones slots block e) b (b && true) (sym (and-true b)) i
outside-all zones slots block t u greatest least k m g l h p (raw x xs) f e b i =
    let parts = and_parts (fits x u) (all_fit xs u) f in
    let c = literal (record { ty = u; value = x }) in
    let v = known (valued x u) in
    let out = outside greatest least c in
    let test = known_compare Lt k v || known_compare Gt m v in
    tells-same (meant zones slots block (all_outside_after greatest least u (and_of e out) xs)) ((b && test) && all_outside (all_valued xs u) m k) (b && (test && all_outside (all_valued xs u) m k))
    (and_assoc b test (all_outside (all_valued xs u) m k))
    (outside-all zones slots block t u greatest least k m g l h p xs parts.1 (and_of e out) (b && test)
    (and-tells (meant zones slots block e) (meant zones slots block out) b test i
    (outside-tells zones slots block t greatest least c k m v g l (constant-stands zones slots block t u x h p parts.0))))

-- membership in a constant list
elements-by : (zones : Zones) (slots : Slots) (block : ℕ) (t u : Ty) (x : Raw) (xs : Raws) → alike u t ≡ true → is_plain u ≡ true → all_fit (raw x xs) u ≡ true
    → (o p : Option Tree) (asked more : List Question) (k m : Option Val) (a b : Bool) → IsBound zones slots block t o k a → IsBound zones slots block t p m b
    → Agrees zones slots block
    (found_by (λ greatest. found_by (λ least. unasked (all_outside_after greatest least u (outside greatest least (literal (record { ty = u; value = x }))) xs)) p more) o asked).tree
    ((b && a) && all_outside (all_valued (raw x xs) u) m k)
unfolding mean fits valued
elements-by zones slots block t u x xs h q f None p asked more k m a b i j =
    ap (λ (c : Bool). c && all_outside (all_valued (raw x xs) u) m k) (and-right_false b a i.1)
elements-by zones slots block t u x xs h q f (Some g) None asked more k m a b i j =
    ap (λ (c : Bool). (c && a) && all_outside (all_valued (raw x xs) u) m k) j.1
elements-by zones slots block t u x xs h q f (Some g) (Some l) asked more k m a b i j =
    let parts = and_parts (fits x u) (all_fit xs u) f in
    let c = literal (record { ty = u; value = x }) in
    let v = known (valued x u) in
    tells-same (meant zones slots block (all_outside_after g l u (outside g l c) xs)) (all_outside (all_valued (raw x xs) u) m k) ((b && a) && all_outside (all_valued (raw x xs) u) m k)
    (sym (λ s. (j.1 s && i.1 s) && all_outside (all_valued (raw x xs) u) m k))
    (outside-all zones slots block t u g l k m i.0 j.0 h q xs parts.1 (outside g l c) (known_compare Lt k v || known_compare Gt m v)
    (outside-tells zones slots block t g l c k m v i.0 j.0 (constant-stands zones slots block t u x h q parts.0)))

elements-agree : (zones : Zones) (slots : Slots) (block : ℕ) (t u : Ty) (e : Tree) (xs : Raws) → alike u t ≡ true → is_plain u ≡ true → all_fit xs u ≡ true → Operand zones slots block t e
    → Agrees zones slots block (elements_falsified (catalog_of zones) e u xs).tree
    (elements_ruled_out (list_val (all_valued xs u)) (bound_available zones e Min && bound_available zones e Max) (known_bound zones block Min e) (known_bound zones block Max e))
unfolding mean valued
elements-agree zones slots block t u e no_raws h p f o = record { is = refl; sound = refl }
elements-agree zones slots block t u e (raw x xs) h p f o =
    elements-by zones slots block t u x xs h p f (bound_of (catalog_of zones) Max e).tree (bound_of (catalog_of zones) Min e).tree _ _ (known_bound zones block Max e) (known_bound zones block Min e)
    (bound_available zones e Max) (bound_available zones e Min) o.greatest o.least

list-agrees : (zones : Zones) (slots : Slots) (block : ℕ) (t u w : Ty) (e : Tree) (v : Raw) → AreAccepted zones → contains_type t u ≡ Ok w → fits v t ≡ true → typed_of (row_type zones.columns) e ≡ Ok u
    → Agrees zones slots block (list_falsified (catalog_of zones) e t v).tree
    (elements_ruled_out (valued v t) (bound_available zones e Min && bound_available zones e Max) (known_bound zones block Min e) (known_bound zones block Max e))
unfolding valued fits
list-agrees zones slots block (list_ty d n) u w e (raw_list xs) a h f k =
    let made = unless-ok (equal_plain d u) type_mismatch _ w h in
    let parts = and_parts (alike d u) (is_plain d) made.holds in
    elements-agree zones slots block u d e xs parts.0 parts.1 f (operand zones slots block u e a k (plain-alike d u parts.0 parts.1))
list-agrees zones slots block (list_ty d n) u w e raw_null a h f k = refl
list-agrees zones slots block (list_ty d n) u w e (raw_bool b) a h f k = refl
list-agrees zones slots block (list_ty d n) u w e (raw_int i) a h f k = refl
list-agrees zones slots block (list_ty d n) u w e (raw_text s) a h f k = refl
list-agrees zones slots block (list_ty d n) u w e (raw_struct xs) a h f k = refl
list-agrees zones slots block _ u w e v a h f k = let no : ⊥ = cc (h) in absurd no

contains-agrees : (zones : Zones) (slots : Slots) (block : ℕ) (l e : Tree) (w : Ty) → AreAccepted zones
    → and_then (typed_of (row_type zones.columns) l) (λ a. and_then (typed_of (row_type zones.columns) e) (contains_type a)) ≡ Ok w
    → Agrees zones slots block (contains_falsified (catalog_of zones) l e).tree (contains_ruled_out zones block l e)
contains-agrees zones slots block (literal s) e w a h =
    let t = row_type zones.columns in
    let x = and_then-ok (typed_of t (literal s)) (λ v. and_then (typed_of t e) (contains_type v)) w h in
    let y = and_then-ok (typed_of t e) (contains_type x.given) w x.gave in
    let c = literal-typed t s x.given x.was in
    list-agrees zones slots block s.ty y.given w e s.value a (ap (λ (v : Ty). contains_type v y.given) c.is ∙ y.gave) c.fitting y.was
contains-agrees zones slots block _ e w a h = refl

-- what a slot holds is of the kind of a type
abbrev SlotKind : Ty → Option Val → Type 0
SlotKind t None = Unit {0}
SlotKind t (Some v) = is_kind t v ≡ true

slot-kind : (t u : Ty) (o : Option Typed) → equal_plain t u ≡ true → held_fits o u ≡ true → SlotKind t (option_map value_of o)
slot-kind t u None h k = tt
slot-kind t u (Some s) h k =
    let parts = and_parts (alike t u) (is_plain t) h in
    let held = and_parts (alike s.ty u) (fits s.value s.ty && null_allowed s.value u) k in
    let fit = and_parts (fits s.value s.ty) (null_allowed s.value u) held.1 in
    let plain = plain-back s.ty u held.0 (plain-alike t u parts.0 parts.1) in
    kind-back t u (value_of s) parts.0 (kind-alike s.ty u (value_of s) held.0 (kind-valued s.value s.ty plain fit.0))

-- what a comparison with a slot rules out by a bound, with the inverse comparison
abbrev slot_ruled : CompareOperator → Bool → Option Val → Bool → Option Val → Bool
slot_ruled op default k there (Some v) = known_compare op k (known v)
slot_ruled op default k there None = not default && there

slot-tells : (t : Ty) (op : CompareOperator) (default there : Bool) (v : Val) (k slot : Option Val) → known v ≡ k → is_kind t v ≡ true → there ≡ true → SlotKind t slot
    → Tells (dynamic3 op (not default) v slot) (slot_ruled op default k there slot)
slot-tells t op default there v k (Some w) h i e s = record {
  is = known-compared op v w ∙ ap (λ (z : Option Val). known_compare op z (known w)) h;
  sound = compared-sound op t v w i s;
}
slot-tells t op default there v k None h i e s = record {
  is = ap is_true_val (default-kind t (not default) v i) ∙ (bool-true (not default) ∙ (sym (and-true (not default)) ∙ sym (ap (λ (b : Bool). not default && b) e)));
  sound = ap (λ (z : Val). is_broken (tri z)) (default-kind t (not default) v i) ∙ bool-unbroken (not default);
}

slot-agrees : (zones : Zones) (slots : Slots) (block : ℕ) (t u : Ty) (op : CompareOperator) (n : ℕ) (default there : Bool) (o : Option Tree) (k : Option Val) → IsBound zones slots block t o k there
    → SlotKind t (slot_value slots n) → Agrees zones slots block (option_map (λ b. dynamic b op n u (not default)) o) (slot_ruled op default k there (slot_value slots n))
unfolding mean
slot-agrees zones slots block t u op n default there None k i s = by-slot (slot_value slots n)
  where
    by-slot : (slot : Option Val) → slot_ruled op default k there slot ≡ false
    by-slot (Some v) = ap (λ (z : Option Val). known_compare op z (known v)) i.0
    by-slot None = and-right_false (not default) there i.1
slot-agrees zones slots block t u op n default there (Some x) k i s =
    slot-tells t op default there (meant zones slots block x) k (slot_value slots n) i.0.known_so i.0.kind i.1 s

dynamic-agrees : (zones : Zones) (slots : Slots) (block : ℕ) (t u : Ty) (e : Tree) (op : CompareOperator) (n : ℕ) (default : Bool) → Operand zones slots block t e → SlotKind t (slot_value slots n)
    → Agrees zones slots block (dynamic_falsified (catalog_of zones) e op (λ o. λ b. dynamic b o n u (not default))).tree (dynamic_ruled_out_by zones block e op default (slot_value slots n) (needed_bound op))
dynamic-agrees zones slots block t u e Gt n default o s =
    subst (Agrees zones slots block _) (by-slot (slot_value slots n)) (slot-agrees zones slots block t u Lte n default _ (bound_of (catalog_of zones) Max e).tree _ o.greatest s)
  where
    by-slot : (slot : Option Val) → slot_ruled Lte default (known_bound zones block Max e) (bound_available zones e Max) slot ≡ dynamic_ruled_out_by zones block e Gt default slot (Some Max)
    by-slot (Some v) = refl
    by-slot None = refl
dynamic-agrees zones slots block t u e Gte n default o s =
    subst (Agrees zones slots block _) (by-slot (slot_value slots n)) (slot-agrees zones slots block t u Lt n default _ (bound_of (catalog_of zones) Max e).tree _ o.greatest s)
  where
    by-slot : (slot : Option Val) → slot_ruled Lt default (known_bound zones block Max e) (bound_available zones e Max) slot ≡ dynamic_ruled_out_by zones block e Gte default slot (Some Max)
    by-slot (Some v) = refl
    by-slot None = refl
dynamic-agrees zones slots block t u e Lt n default o s =
    subst (Agrees zones slots block _) (by-slot (slot_value slots n)) (slot-agrees zones slots block t u Gte n default _ (bound_of (catalog_of zones) Min e).tree _ o.least s)
  where
    by-slot : (slot : Option Val) → slot_ruled Gte default (known_bound zones block Min e) (bound_available zones e Min) slot ≡ dynamic_ruled_out_by zones block e Lt default slot (Some Min)
    by-slot (Some v) = refl
    by-slot None = refl
dynamic-agrees zones slots block t u e Lte n default o s =
    subst (Agrees zones slots block _) (by-slot (slot_value slots n)) (slot-agrees zones slots block t u Gt n default _ (bound_of (catalog_of zones) Min e).tree _ o.least s)
  where
    by-slot : (slot : Option Val) → slot_ruled Gt default (known_bound zones block Min e) (bound_available zones e Min) slot ≡ dynamic_ruled_out_by zones block e Lte default slot (Some Min)
    by-slot (Some v) = refl
    by-slot None = refl
dynamic-agrees zones slots block t u e Eq n default o s = refl
dynamic-agrees zones slots block t u e NotEq n default o s = refl

dynamic-typed : (zones : Zones) (slots : Slots) (block : ℕ) (u w : Ty) (e : Tree) (op : CompareOperator) (n : ℕ) (default : Bool) → AreAccepted zones
    → and_then (typed_of (row_type zones.columns) e) (dynamic_type u) ≡ Ok w → held_fits (slot_held slots n) u ≡ true
    → Agrees zones slots block (dynamic_falsified (catalog_of zones) e op (λ o. λ b. dynamic b o n u (not default))).tree (dynamic_ruled_out_by zones block e op default (slot_value slots n) (needed_bound op))
dynamic-typed zones slots block u w e op n default a h k =
    let x = and_then-ok (typed_of (row_type zones.columns) e) (dynamic_type u) w h in
    let y = unless-ok (equal_plain x.given u) type_mismatch _ w x.gave in
    dynamic-agrees zones slots block x.given u e op n default
    (operand zones slots block x.given e a x.was (and_parts (alike x.given u) (is_plain x.given) y.holds).1) (slot-kind x.given u (slot_held slots n) y.holds k)

-- the types of the two sides of a connective
record Sides (t : Ty) (l r : Tree) : Type 0 where
  left : Ty
  right : Ty
  is_left : typed_of t l ≡ Ok left
  is_right : typed_of t r ≡ Ok right

sides : (t : Ty) (l r : Tree) (u : Ty) → and_then (typed_of t l) (λ a. and_then (typed_of t r) (logic_type a)) ≡ Ok u → Sides t l r
sides t l r u h =
    let x = and_then-ok (typed_of t l) (λ z. and_then (typed_of t r) (logic_type z)) u h in
    let y = and_then-ok (typed_of t r) (logic_type x.given) u x.gave in
    record { left = x.given; right = y.given; is_left = x.was; is_right = y.was }

mutual
  unfolding falsified rules_out typed_of slots_fit

  pub falsified-agrees : (zones : Zones) (slots : Slots) (block : ℕ) (e : Tree) (u : Ty) → AreAccepted zones → typed_of (row_type zones.columns) e ≡ Ok u → slots_fit slots e ≡ true
      → Agrees zones slots block (falsified (catalog_of zones) e).tree (rules_out zones slots block e)
  falsified-agrees zones slots block (binary l Operator.And r) u a h k =
      let s = sides (row_type zones.columns) l r u h in
      let fit = and_parts (slots_fit slots l) (slots_fit slots r) k in
      either-agrees zones slots block (falsified (catalog_of zones) l).tree (falsified (catalog_of zones) r).tree (rules_out zones slots block l) (rules_out zones slots block r)
      (falsified-agrees zones slots block l s.left a s.is_left fit.0) (falsified-agrees zones slots block r s.right a s.is_right fit.1)
  falsified-agrees zones slots block (binary l Operator.Or r) u a h k =
      let s = sides (row_type zones.columns) l r u h in
      let fit = and_parts (slots_fit slots l) (slots_fit slots r) k in
      both-agrees zones slots block (falsified (catalog_of zones) l).tree (falsified (catalog_of zones) l).asked (falsified (catalog_of zones) r) (rules_out zones slots block l) (rules_out zones slots block r)
      (falsified-agrees zones slots block l s.left a s.is_left fit.0) (falsified-agrees zones slots block r s.right a s.is_right fit.1)
  falsified-agrees zones slots block (binary l Operator.Eq r) u a h k = compares-agree zones slots block Eq l r a (compared-operands zones slots block l r u a h)
  falsified-agrees zones slots block (binary l Operator.NotEq r) u a h k = compares-agree zones slots block NotEq l r a (compared-operands zones slots block l r u a h)
  falsified-agrees zones slots block (binary l Operator.Gt r) u a h k = compares-agree zones slots block Gt l r a (compared-operands zones slots block l r u a h)
  falsified-agrees zones slots block (binary l Operator.Gte r) u a h k = compares-agree zones slots block Gte l r a (compared-operands zones slots block l r u a h)
  falsified-agrees zones slots block (binary l Operator.Lt r) u a h k = compares-agree zones slots block Lt l r a (compared-operands zones slots block l r u a h)
  falsified-agrees zones slots block (binary l Operator.Lte r) u a h k = compares-agree zones slots block Lte l r a (compared-operands zones slots block l r u a h)
  falsified-agrees zones slots block (binary l Operator.Add r) u a h k = refl
  falsified-agrees zones slots block (binary l Operator.Sub r) u a h k = refl
  falsified-agrees zones slots block (between e lower upper options) u a h k =
      let o = ranged-operands zones slots block e lower upper u a h in
      either-agrees zones slots block _ _ _ _ (compares-agree zones slots block (bound_operator options.lower_strict) lower e a o.low)
      (compares-agree zones slots block (bound_operator options.upper_strict) e upper a o.high)
  falsified-agrees zones slots block (is_null_of e) u a h k = null-agrees zones slots block e a
  falsified-agrees zones slots block (list_contains l e) u a h k = contains-agrees zones slots block l e u a h
  falsified-agrees zones slots block (dynamic e op n t default) u a h k =
      dynamic-typed zones slots block t u e op n default a h (and_parts (held_fits (slot_held slots n) t) (slots_fit slots e) k).0
  falsified-agrees zones slots block (not_of e) u a h k =
      let x = and_then-ok (typed_of (row_type zones.columns) e) not_type u h in
      negation-agrees zones slots block e x.given a x.was k
  falsified-agrees zones slots block _ u a h k = refl

  pub negation-agrees : (zones : Zones) (slots : Slots) (block : ℕ) (e : Tree) (u : Ty) → AreAccepted zones → typed_of (row_type zones.columns) e ≡ Ok u → slots_fit slots e ≡ true
      → Agrees zones slots block (negation_falsified (catalog_of zones) e).tree (rules_out_negation zones slots block e)
  negation-agrees zones slots block (binary l Operator.And r) u a h k =
      let s = sides (row_type zones.columns) l r u h in
      let fit = and_parts (slots_fit slots l) (slots_fit slots r) k in
      both-agrees zones slots block (negation_falsified (catalog_of zones) l).tree (negation_falsified (catalog_of zones) l).asked (negation_falsified (catalog_of zones) r)
      (rules_out_negation zones slots block l) (rules_out_negation zones slots block r)
      (negation-agrees zones slots block l s.left a s.is_left fit.0) (negation-agrees zones slots block r s.right a s.is_right fit.1)
  negation-agrees zones slots block (binary l Operator.Or r) u a h k =
      let s = sides (row_type zones.columns) l r u h in
      let fit = and_parts (slots_fit slots l) (slots_fit slots r) k in
      either-agrees zones slots block (negation_falsified (catalog_of zones) l).tree (negation_falsified (catalog_of zones) r).tree (rules_out_negation zones slots block l) (rules_out_negation zones slots block r)
      (negation-agrees zones slots block l s.left a s.is_left fit.0) (negation-agrees zones slots block r s.right a s.is_right fit.1)
  negation-agrees zones slots block (binary l Operator.Eq r) u a h k = compares-agree zones slots block NotEq l r a (compared-operands zones slots block l r u a h)
  negation-agrees zones slots block (binary l Operator.NotEq r) u a h k = compares-agree zones slots block Eq l r a (compared-operands zones slots block l r u a h)
  negation-agrees zones slots block (binary l Operator.Gt r) u a h k = compares-agree zones slots block Lte l r a (compared-operands zones slots block l r u a h)
  negation-agrees zones slots block (binary l Operator.Gte r) u a h k = compares-agree zones slots block Lt l r a (compared-operands zones slots block l r u a h)
  negation-agrees zones slots block (binary l Operator.Lt r) u a h k = compares-agree zones slots block Gte l r a (compared-operands zones slots block l r u a h)
  negation-agrees zones slots block (binary l Operator.Lte r) u a h k = compares-agree zones slots block Gt l r a (compared-operands zones slots block l r u a h)
  negation-agrees zones slots block (binary l Operator.Add r) u a h k = refl
  negation-agrees zones slots block (binary l Operator.Sub r) u a h k = refl
  negation-agrees zones slots block (between e lower upper options) u a h k =
      let o = ranged-operands zones slots block e lower upper u a h in
      both-agrees zones slots block _ _ (comparison_falsified (catalog_of zones) e upper (inverse_comparison (bound_operator options.upper_strict))) _ _
      (compares-agree zones slots block (inverse_comparison (bound_operator options.lower_strict)) lower e a o.low)
      (compares-agree zones slots block (inverse_comparison (bound_operator options.upper_strict)) e upper a o.high)
  negation-agrees zones slots block (not_of e) u a h k =
      let x = and_then-ok (typed_of (row_type zones.columns) e) not_type u h in
      falsified-agrees zones slots block e x.given a x.was k
  negation-agrees zones slots block _ u a h k = refl

pub pruning_tree_rules_out : PruningTreeRulesOut
pruning_tree_rules_out zones slots e block p =
    by-tree (falsified (catalog_of zones) e).tree (falsified (catalog_of zones) e).asked (rules_out zones slots block e)
    (falsified-agrees zones slots block e p.ty p.accepted p.typed p.slots_fitting)
  where
    by-tree : (o : Option Tree) (asked : List Question) (b : Bool) → Agrees zones slots block o b
        → MatchOption (pruning_where (catalog_of zones) o asked) (b ≡ false) (λ x. is_true_val (meant zones slots block x.tree) ≡ b)
    by-tree None asked b h = h
    by-tree (Some x) asked b h = h.is
