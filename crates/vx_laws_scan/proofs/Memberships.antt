-- Membership of an operand in a constant list is exact.
use Rattle.std.proofs.Common.{◌≡◌, ℕ, refl, ap, sym, ◌∙◌, Bool, true, false, cond, not, ◌&&◌, ◌||◌, Option, Some, None, subst, List, Ok, ⊎_elim}
use Rattle.std.specs.Prelude.{is_some}
use Rattle.std.proofs.lemmas.Bool.{and_parts, and_from, and_cases, or_parts, or_left, or_right}
use Rattle.vx_dtype.specs.declared.Nullability.{Nullability}
use Rattle.vx_dtype.specs.declared.CompareOperator.TheVariants.{Eq, Gt, Lt, Lte}
use Rattle.vx_dtype.specs.declared.Stat.{Stat}
use Rattle.vx_dtype.specs.declared.Stat.TheVariants.{Min, Max}
use Rattle.vx_dtype.specs.Types.{Bytes, Ty, bool_ty, int_ty, text_ty, list_ty, struct_ty}
use Rattle.vx_dtype.specs.TypeRules.{alike, is_plain, nullability_of, union}
use Rattle.vx_dtype.specs.Values.{Raw, raw_null, raw_bool, raw_int, raw_text, raw_list, raw_struct, Raws, no_raws, raw, Val, null_val, bool_val, int_val, text_val, list_val, struct_val, fault, Vals, Members, Typed, valued, all_valued, members_valued, as_many, value_of}
use Rattle.vx_dtype.specs.Fits.{fits, all_fit}
use Rattle.vx_dtype.specs.Logic.{is_true_val, is_null_val}
use Rattle.vx_dtype.specs.Lists.{has_element, contains3}
use Rattle.vx_expr.specs.Trees.{Tree, literal, list_contains}
use Rattle.vx_semantics.specs.Typing.{and_then, equal_plain, contains_type, literal_type, typed_of}
use Rattle.vx_semantics.specs.Meaning.{Slots, mean}
use Rattle.vx_semantics.specs.Tables.{ZoneStat, Zones, row_type}
use Rattle.vx_dtype.specs.Order.{compares}
use Rattle.vx_semantics.specs.Pruning.{known, available, known_in, available_at, known_at, known_bound, known_compare, all_outside, bound_available, elements_ruled_out, contains_ruled_out, rules_out}
use Rattle.vx_semantics.specs.Paths.{path_of}
use Rattle.vx_semantics.specs.Instances.{without_ranges, IsReplaced}
use Rattle.vx_laws.proofs.Inverting.{and_then-ok, Ok-same}
use Rattle.vx_laws.proofs.Fitting.{valued-fits}
use Rattle.vx_laws.proofs.Preserving.{one_test, literal_type-ok}
use Rattle.vx_laws.proofs.Sound.{alike-kind}
use Rattle.vx_laws_scan.specs.Exactness.{is_operand, none_is_null, is_list_without_null, PathsAreBounded}
use Rattle.vx_laws_scan.proofs.Ordered.{IsAtMost, IsAtMost-from_gte, is_ordered, IsAtMost-itself, ordered-left, ordered-right}
use Rattle.vx_laws_scan.proofs.Ruling.{Holds, contains-apart}
use Rattle.vx_laws_scan.proofs.Constants.{order-plain, inverse-true, Witness, Operand, operand-ok, carried}
use Rattle.vx_laws_scan.proofs.Connectives.{IsExact, IsUnbroken}
use Rattle.vx_laws_scan.proofs.Comparisons.{eq-itself, known-both, at-low, kind-plain}

-- a constant list without a null element
pub record ListShape (v : Val) (ty : Ty) : Type 0 where
  pub element : Ty
  pub nullability : Nullability
  pub items : Raws
  pub is : ty ≡ list_ty element nullability
  pub value : v ≡ list_val (all_valued items element)
  pub fit : all_fit items element ≡ true
  pub known : none_is_null (all_valued items element) ≡ true

-- what a raw struct stands for is no list
struct-no_list : (same : Bool) (ms : Members) → is_list_without_null (cond same (struct_val ms) fault) ≡ true → ⊥
struct-no_list true ms k = cc
struct-no_list false ms k = cc

pub list-shape : (x : Raw) (ty : Ty) → fits x ty ≡ true → is_list_without_null (valued x ty) ≡ true → ListShape (valued x ty) ty
unfolding fits valued
list-shape (raw_list xs) (list_ty d n) h k = record { element = d; nullability = n; items = xs; is = refl; value = refl; fit = h; known = k }
list-shape (raw_list xs) _ h k = let no : ⊥ = cc (h) in absurd no
list-shape raw_null ty h k = let no : ⊥ = cc (k) in absurd no
list-shape (raw_bool b) (bool_ty n) h k = let no : ⊥ = cc (k) in absurd no
list-shape (raw_bool b) _ h k = let no : ⊥ = cc (h) in absurd no
list-shape (raw_int b) (int_ty p n) h k = let no : ⊥ = cc (k) in absurd no
list-shape (raw_int b) _ h k = let no : ⊥ = cc (h) in absurd no
list-shape (raw_text b) (text_ty n) h k = let no : ⊥ = cc (k) in absurd no
list-shape (raw_text b) _ h k = let no : ⊥ = cc (h) in absurd no
list-shape (raw_struct b) (struct_ty fs n) h k = absurd (struct-no_list (as_many b fs) (members_valued b fs) k)
list-shape (raw_struct b) _ h k = let no : ⊥ = cc (h) in absurd no

-- an element that does not lie outside of the bounds
pub record Inside (xs : Raws) (d : Ty) (least_known greatest_known : Option Val) : Type 0 where
  pub item : Raw
  pub fit : fits item d ≡ true
  pub not_null : is_null_val (valued item d) ≡ false
  pub not_above : known_compare Lt greatest_known (known (valued item d)) ≡ false
  pub not_below : known_compare Gt least_known (known (valued item d)) ≡ false
  pub has : (w : Val) → compares Eq (valued item d) w ≡ true → has_element (all_valued xs d) w ≡ true

pub not-null : (b : Bool) → not b ≡ true → b ≡ false
not-null false h = refl
not-null true h = let no : ⊥ = cc in absurd no

pub inside : (xs : Raws) (d : Ty) (least_known greatest_known : Option Val) → all_fit xs d ≡ true → none_is_null (all_valued xs d) ≡ true → all_outside (all_valued xs d) least_known greatest_known ≡ false → Inside xs d least_known greatest_known
unfolding fits valued
inside no_raws d least_known greatest_known h k j = let no : ⊥ = cc (j) in absurd no
inside (raw x xs) d least_known greatest_known h k j =
    let v = valued x d in
    let fit = and_parts (fits x d) (all_fit xs d) h in
    let nulls = and_parts (not (is_null_val v)) (none_is_null (all_valued xs d)) k in
    ⊎_elim
    (λ (i : (known_compare Lt greatest_known (known v) || known_compare Gt least_known (known v)) ≡ false).
    let parts = or_parts (known_compare Lt greatest_known (known v)) (known_compare Gt least_known (known v)) i in
    record {
      item = x;
      fit = fit.0;
      not_null = not-null (is_null_val v) nulls.0;
      not_above = parts.0;
      not_below = parts.1;
      has = λ w e. or_left (compares Eq v w) (has_element (all_valued xs d) w) e;
    })
    (λ (i : all_outside (all_valued xs d) least_known greatest_known ≡ false).
    let r = inside xs d least_known greatest_known fit.1 nulls.1 i in
    record {
      item = r.item;
      fit = r.fit;
      not_null = r.not_null;
      not_above = r.not_above;
      not_below = r.not_below;
      has = λ w e. or_right (compares Eq v w) (has_element (all_valued xs d) w) (r.has w e);
    })
    (and_cases (known_compare Lt greatest_known (known v) || known_compare Gt least_known (known v)) (all_outside (all_valued xs d) least_known greatest_known) j)

pub contains-holds : (vs : Vals) (w : Val) → is_ordered w ≡ true → has_element vs w ≡ true → Holds (contains3 (list_val vs) w)
contains-holds vs (bool_val b) h e = ap (λ (x : Bool). is_true_val (bool_val x)) e
contains-holds vs (int_val p b) h e = ap (λ (x : Bool). is_true_val (bool_val x)) e
contains-holds vs (text_val b) h e = ap (λ (x : Bool). is_true_val (bool_val x)) e
contains-holds vs _ h e = let no : ⊥ = cc (h) in absurd no

pub bool-IsUnbroken : (b : Bool) → IsUnbroken (bool_val b)
bool-IsUnbroken true = refl
bool-IsUnbroken false = refl

pub contains-IsUnbroken : (vs : Vals) (w : Val) → is_ordered w ≡ true → IsUnbroken (contains3 (list_val vs) w)
contains-IsUnbroken vs (bool_val b) h = bool-IsUnbroken (has_element vs (bool_val b))
contains-IsUnbroken vs (int_val p b) h = bool-IsUnbroken (has_element vs (int_val p b))
contains-IsUnbroken vs (text_val b) h = bool-IsUnbroken (has_element vs (text_val b))
contains-IsUnbroken vs _ h = let no : ⊥ = cc (h) in absurd no

-- an operand whose bound is known has the statistic available
pub available-by : (zones : Zones) (block : ℕ) (stat : Stat) (o : Option (List Bytes)) (m : Val) → known_at zones block stat o ≡ Some m → available_at zones o stat ≡ true
available-by zones block stat None m h = let no : ⊥ = cc (h) in absurd no
available-by zones block stat (Some path) m h = by-statistic (available zones path stat) h
  where
    by-statistic : (z : Option ZoneStat) → known_in z block ≡ Some m → is_some z ≡ true
    by-statistic None k = let no : ⊥ = cc (k) in absurd no
    by-statistic (Some z) k = refl

pub bound-available : (zones : Zones) (block : ℕ) (stat : Stat) (e : Tree) (m : Val) → known_bound zones block stat e ≡ Some m → bound_available zones e stat ≡ true
bound-available zones block stat (literal s) m h = refl
bound-available zones block stat e m h = available-by zones block stat (path_of e) m h

pub known-some : (v : Val) → is_null_val v ≡ false → known v ≡ Some v
known-some null_val h = let no : ⊥ = cc in absurd no
known-some (bool_val b) h = refl
known-some (int_val p b) h = refl
known-some (text_val b) h = refl
known-some (list_val b) h = refl
known-some (struct_val b) h = refl
known-some fault h = refl

-- a list with an element that is not ruled out
pub elements-inside : (xs : Raws) (d : Ty) (bounded : Bool) (least_known greatest_known : Option Val) → bounded ≡ true → all_fit xs d ≡ true → none_is_null (all_valued xs d) ≡ true → elements_ruled_out (list_val (all_valued xs d)) bounded least_known greatest_known ≡ false
    → Inside xs d least_known greatest_known
unfolding valued
elements-inside no_raws d bounded least_known greatest_known b h k j = let no : ⊥ = cc (j) in absurd no
elements-inside (raw x xs) d bounded least_known greatest_known b h k j =
    inside (raw x xs) d least_known greatest_known h k (subst (λ (z : Bool). (z && all_outside (all_valued (raw x xs) d) least_known greatest_known) ≡ false) b j)

-- membership of an operand in a constant list
pub record Membership (zones : Zones) (block : ℕ) (slots : Slots) (row : Val) (s : Typed) (e : Tree) : Type 0 where
  pub operand : Operand zones block slots row e
  pub shape : ListShape (value_of s) s.ty
  pub same : alike shape.element operand.ty ≡ true
  pub plain : is_plain shape.element ≡ true

pub membership-witness : (zones : Zones) (block : ℕ) (slots : Slots) (row : Val) (s : Typed) (e : Tree) (P : Val → Type 0) (x : Val) → Membership zones block slots row s e
    → Witness zones block slots row e (λ v. v ≡ x) → P (contains3 (value_of s) x) → Witness zones block slots row (without_ranges (list_contains (literal s) e)) P
unfolding mean without_ranges IsReplaced
membership-witness zones block slots row s e P x o a h =
    record {
      tree = list_contains (literal s) a.tree;
      replaced = (literal s, a.tree, refl, refl, subst (λ (z : Tree). IsReplaced zones block z a.tree) (sym o.operand.unranged) a.replaced);
      fact = subst (λ (v : Val). P (contains3 (value_of s) v)) (sym a.fact) h;
    }

pub membership-complete : (zones : Zones) (block : ℕ) (slots : Slots) (row : Val) (s : Typed) (e : Tree) → Membership zones block slots row s e → contains_ruled_out zones block (literal s) e ≡ false
    → Witness zones block slots row (without_ranges (list_contains (literal s) e)) Holds
membership-complete zones block slots row s e o k =
    let low = valued o.operand.low o.operand.ty in
    let high = valued o.operand.high o.operand.ty in
    let d = o.shape.element in
    let bounded = and_from (bound_available zones e Min) (bound_available zones e Max) (bound-available zones block Min e low o.operand.least) (bound-available zones block Max e high o.operand.greatest) in
    let r = elements-inside o.shape.items d (bound_available zones e Min && bound_available zones e Max) (known_bound zones block Min e) (known_bound zones block Max e) bounded o.shape.fit o.shape.known
    (subst (λ (v : Val). elements_ruled_out v (bound_available zones e Min && bound_available zones e Max) (known_bound zones block Min e) (known_bound zones block Max e) ≡ false) o.shape.value k) in
    let v = valued r.item d in
    let kinds = alike-kind d o.operand.ty o.same in
    let plain = kind-plain d o.operand.ty kinds o.plain in
    let fit = valued-fits r.item d r.fit in
    let below = inverse-true Lt high v (order-plain high v o.operand.ty d (sym kinds) plain (valued-fits o.operand.high o.operand.ty o.operand.high_fits) fit o.operand.high_known r.not_null)
    (sym (known-both Lt (known_bound zones block Max e) (known v) high v o.operand.greatest (known-some v r.not_null)) ∙ r.not_above) in
    let above = inverse-true Gt low v (order-plain low v o.operand.ty d (sym kinds) plain (valued-fits o.operand.low o.operand.ty o.operand.low_fits) fit o.operand.low_known r.not_null)
    (sym (known-both Gt (known_bound zones block Min e) (known v) low v o.operand.least (known-some v r.not_null)) ∙ r.not_below) in
    let c = carried r.item d o.operand.ty o.same o.plain r.fit r.not_null in
    let w = valued r.item o.operand.ty in
    let itself : IsAtMost v v = IsAtMost-itself v (ordered-right Lte low v above) in
    let found = r.has w (subst (λ (z : Val). compares Eq v z ≡ true) c.same (eq-itself v itself)) in
    membership-witness zones block slots row s e Holds w o
    (o.operand.at r.item c.fit (subst (IsAtMost low) c.same above) (subst (λ (z : Val). IsAtMost z high) c.same (IsAtMost-from_gte high v below)))
    (subst (λ (z : Val). Holds (contains3 z w)) (sym o.shape.value)
    (contains-holds (all_valued o.shape.items d) w (subst (λ (z : Val). is_ordered z ≡ true) c.same (ordered-right Lte low v above)) found))

pub membership-exact : (zones : Zones) (block : ℕ) (slots : Slots) (row : Val) (s : Typed) (e : Tree) → Membership zones block slots row s e → IsExact zones slots block row (list_contains (literal s) e)
unfolding mean rules_out without_ranges IsReplaced
membership-exact zones block slots row s e o =
    let t = row_type zones.columns in
    let low = valued o.operand.low o.operand.ty in
    record {
      sound = λ k i (a, b, h, p, q) c.
          let within = o.operand.within b (subst (λ (z : Tree). IsReplaced zones block z b) o.operand.unranged q) in
          let holds_there : Holds (contains3 (value_of s) (mean t slots row b)) =
          subst (λ (z : Tree). Holds (contains3 (mean t slots row z) (mean t slots row b))) p (subst (λ (z : Tree). Holds (mean t slots row z)) h c) in
          contains-apart (value_of s) (mean t slots row b) (bound_available zones e Min && bound_available zones e Max) (λ st. known_bound zones block st e) within k holds_there;
      complete = λ k. membership-complete zones block slots row s e o k;
      some = membership-witness zones block slots row s e IsUnbroken low o (at-low zones block slots row e o.operand)
          (subst (λ (z : Val). IsUnbroken (contains3 z low)) (sym o.shape.value)
          (contains-IsUnbroken (all_valued o.shape.items o.shape.element) low (ordered-left Lte low (valued o.operand.high o.operand.ty) o.operand.in_order)));
    }

membership-from : (zones : Zones) (block : ℕ) (slots : Slots) (row : Val) (s : Typed) (v : Tree) (o : Operand zones block slots row v) (h : ListShape (value_of s) s.ty) (b : Ty) → b ≡ o.ty
    → alike h.element b ≡ true → is_plain h.element ≡ true → Membership zones block slots row s v
membership-from zones block slots row s v o h b e k p = record { operand = o; shape = h; same = subst (λ (z : Ty). alike h.element z ≡ true) e k; plain = p }

pub membership-ok : (zones : Zones) (block : ℕ) (slots : Slots) (row : Val) (s : Typed) (v : Tree) (u : Ty) → is_list_without_null (value_of s) ≡ true → is_operand v ≡ true
    → typed_of (row_type zones.columns) (list_contains (literal s) v) ≡ Ok u → PathsAreBounded zones block v → Membership zones block slots row s v
unfolding typed_of
membership-ok zones block slots row s v u h o e b =
    let t = row_type zones.columns in
    let x = and_then-ok (literal_type s) (λ z. and_then (typed_of t v) (contains_type z)) u e in
    let y = and_then-ok (typed_of t v) (contains_type x.given) u x.gave in
    let k = literal_type-ok s x.given x.was in
    let shape = list-shape s.value s.ty k.is_value h in
    let types : contains_type (list_ty shape.element shape.nullability) y.given ≡ Ok u = subst (λ (z : Ty). contains_type z y.given ≡ Ok u) (sym k.same ∙ shape.is) y.gave in
    let test = one_test (equal_plain shape.element y.given) (bool_ty (union shape.nullability (nullability_of y.given))) u types in
    let equal = and_parts (alike shape.element y.given) (is_plain shape.element) test.0 in
    let operand = operand-ok zones block slots row v y.given o y.was (kind-plain shape.element y.given (alike-kind shape.element y.given equal.0) equal.1) b in
    membership-from zones block slots row s v operand shape y.given (Ok-same (typed_of t v) y.given operand.ty y.was operand.typed) equal.0 equal.1
