-- The bounds of operands that a catalog of statistics answers.
use Rattle.std.proofs.Common.{◌≡◌, ℕ, refl, ap, sym, ◌∙◌, Bool, true, false, cond, ◌&&◌, Option, Some, None, subst, List, Ok}
use Rattle.std.specs.Prelude.{is_some, option_map, slice_get}
use Rattle.vx_dtype.specs.declared.CompareOperator.{CompareOperator}
use Rattle.vx_dtype.specs.declared.CompareOperator.TheVariants.{Eq, NotEq, Gt, Gte, Lt, Lte}
use Rattle.vx_dtype.specs.declared.Stat.{Stat}
use Rattle.vx_dtype.specs.declared.Stat.TheVariants.{Min, Max, NaNCount}
use Rattle.vx_dtype.specs.Types.{Bytes, Ty}
use Rattle.vx_dtype.specs.TypeRules.{is_plain, no_name_twice}
use Rattle.vx_dtype.specs.Values.{Val, Typed, value_of}
use Rattle.vx_dtype.specs.Fits.{fits}
use Rattle.vx_dtype.specs.Logic.{tri, is_true_val}
use Rattle.vx_expr.specs.Trees.{Tree, literal}
use Rattle.vx_semantics.specs.Typing.{unless, distinct_type, type_mismatch, duplicate_field, typed_of}
use Rattle.vx_semantics.specs.Meaning.{Slots, mean}
use Rattle.vx_semantics.specs.Tables.{Zones, ZoneStat, row_type}
use Rattle.vx_semantics.specs.Paths.{path_of}
use Rattle.vx_semantics.specs.Pruning.{available, known, value_in, known_in, known_at, known_bound, known_compare, available_at, bound_available, comparison_ruled_out}
use Rattle.vx_passes.specs.Catalogs.{statistic_column, statistics_among, available_paths, Catalog}
use Rattle.vx_passes.specs.Falsifying.{Question, Found, found_in, found_by, asked_for, bound_of, compared_by, compared_where, bounds_falsified, one_value, are_numbers, behind_guard, comparison_falsified, is_zero_count, joined_known, and_of}
use Rattle.vx_passes.specs.PruningTables.{value_or_null}
use Rattle.vx_zones.specs.Zoning.{statistic_type}
use Rattle.vx_laws.proofs.Comparing.{binary3-operator_of}
use Rattle.vx_laws.proofs.Inverting.{and_then-ok, unless-ok, Ok-same}
use Rattle.vx_laws.proofs.Sound.{is_broken}
use Rattle.vx_laws_pruning.specs.PruningLaws.{AreAccepted}
use Rattle.vx_laws_pruning.proofs.PlainKinds.{is_kind, null-kind, kind-valued, known-compared, compared-sound}
use Rattle.vx_laws_pruning.proofs.Columns.{answered, column-value}
use Rattle.vx_laws_pruning.proofs.Accepted.{bound-kind, no_nan_count}
use Rattle.vx_laws_pruning.proofs.Telling.{meant, Tells, Agrees, and-tells, and-right_false, either-agrees}

-- the catalog of the statistics of zones
abbrev pub catalog_of : Zones → Catalog
catalog_of zones = statistics_among (available_paths zones)

-- an expression that means a known value, or null where none is known, of the kind of a type
pub record Stands (zones : Zones) (slots : Slots) (block : ℕ) (t : Ty) (e : Tree) (k : Option Val) : Type 0 where
  pub known_so : known (meant zones slots block e) ≡ k
  pub kind : is_kind t (meant zones slots block e) ≡ true

-- such an expression where the value is available; else nothing is known
abbrev pub IsBound : Zones → Slots → ℕ → Ty → Option Tree → Option Val → Bool → Type 0
IsBound zones slots block t None k there = (k ≡ None) × (there ≡ false)
IsBound zones slots block t (Some e) k there = Stands zones slots block t e k × (there ≡ true)

column-stands : (zones : Zones) (slots : Slots) (block : ℕ) (t : Ty) (path : List Bytes) (stat : Stat) (z : ZoneStat) → is_plain t ≡ true → available zones path stat ≡ Some z
    → ((s : Typed) → slice_get z.values block ≡ Some s → is_kind t (value_of s) ≡ true) → Stands zones slots block t (statistic_column path stat) (known_in (Some z) block)
unfolding mean
column-stands zones slots block t path stat z p h kinds =
    let same = column-value zones path stat z block h in
    record {
      known_so = ap known same ∙ known-by (slice_get z.values block);
      kind = ap (is_kind t) same ∙ kind-by (slice_get z.values block) refl;
    }
  where
    known-by : (o : Option Typed) → known (value_or_null o) ≡ value_in o
    known-by None = refl
    known-by (Some s) = refl

    kind-by : (o : Option Typed) → slice_get z.values block ≡ o → is_kind t (value_or_null o) ≡ true
    kind-by None e = null-kind t p
    kind-by (Some s) e = kinds s e

pub path-bound : (zones : Zones) (slots : Slots) (block : ℕ) (t : Ty) (stat : Stat) (o : Option (List Bytes)) → is_plain t ≡ true
    → ((path : List Bytes) → o ≡ Some path → (z : ZoneStat) → available zones path stat ≡ Some z → (s : Typed) → slice_get z.values block ≡ Some s → is_kind t (value_of s) ≡ true)
    → IsBound zones slots block t (asked_for (catalog_of zones) stat o).tree (known_at zones block stat o) (available_at zones o stat)
path-bound zones slots block t stat None p kinds = (refl, refl)
path-bound zones slots block t stat (Some path) p kinds =
    subst (λ (x : Option Tree). IsBound zones slots block t x (known_in (available zones path stat) block) (is_some (available zones path stat))) (sym (answered zones path stat))
    (by-statistic (available zones path stat) refl)
  where
    by-statistic : (o : Option ZoneStat) → available zones path stat ≡ o → IsBound zones slots block t (cond (is_some o) (Some (statistic_column path stat)) None) (known_in o block) (is_some o)
    by-statistic None e = (refl, refl)
    by-statistic (Some z) e = (column-stands zones slots block t path stat z p e (kinds path refl z e), refl)

-- a constant that fits its type
pub record Constant (s : Typed) (t : Ty) : Type 0 where
  pub is : s.ty ≡ t
  pub fitting : fits s.value s.ty ≡ true

pub literal-typed : (t : Ty) (s : Typed) (u : Ty) → typed_of t (literal s) ≡ Ok u → Constant s u
unfolding typed_of
literal-typed t s u h =
    let x = and_then-ok (distinct_type s.ty) (λ v. unless (fits s.value v) type_mismatch (Ok v)) u h in
    let y = unless-ok (no_name_twice s.ty) duplicate_field (Ok s.ty) x.given x.was in
    let z = unless-ok (fits s.value x.given) type_mismatch (Ok x.given) u x.gave in
    let same : s.ty ≡ x.given = Ok-same (Ok x.given) s.ty x.given (sym y.gave) refl in
    record { is = same ∙ Ok-same (Ok u) x.given u (sym z.gave) refl; fitting = ap (fits s.value) same ∙ z.holds }

pub operand-bound : (zones : Zones) (slots : Slots) (block : ℕ) (t : Ty) (stat : Stat) (e : Tree) → AreAccepted zones → ((u : Ty) → statistic_type stat u ≡ Some u)
    → typed_of (row_type zones.columns) e ≡ Ok t → is_plain t ≡ true
    → IsBound zones slots block t (bound_of (catalog_of zones) stat e).tree (known_bound zones block stat e) (bound_available zones e stat)
unfolding mean
operand-bound zones slots block t stat (literal s) a b h p =
    let c = literal-typed (row_type zones.columns) s t h in (
      record {
        known_so = refl;
        kind = subst (λ (u : Ty). is_kind u (value_of s) ≡ true) c.is (kind-valued s.value s.ty (ap is_plain c.is ∙ p) c.fitting);
      },
      refl,
    )
operand-bound zones slots block t stat e a b h p =
    path-bound zones slots block t stat (path_of e) p (λ path i z v s k. bound-kind zones a stat b e t path z block s i h p v k)

-- both bounds of an operand
pub record Operand (zones : Zones) (slots : Slots) (block : ℕ) (t : Ty) (e : Tree) : Type 0 where
  pub least : IsBound zones slots block t (bound_of (catalog_of zones) Min e).tree (known_bound zones block Min e) (bound_available zones e Min)
  pub greatest : IsBound zones slots block t (bound_of (catalog_of zones) Max e).tree (known_bound zones block Max e) (bound_available zones e Max)

pub operand : (zones : Zones) (slots : Slots) (block : ℕ) (t : Ty) (e : Tree) → AreAccepted zones → typed_of (row_type zones.columns) e ≡ Ok t → is_plain t ≡ true → Operand zones slots block t e
operand zones slots block t e a h p = record {
  least = operand-bound zones slots block t Min e a (λ u. refl) h p;
  greatest = operand-bound zones slots block t Max e a (λ u. refl) h p;
}

none-right : (op : CompareOperator) (k : Option Val) → known_compare op k None ≡ false
none-right op None = refl
none-right op (Some v) = refl

pub stand-compared : (zones : Zones) (slots : Slots) (block : ℕ) (t : Ty) (op : CompareOperator) (x y : Tree) (k m : Option Val) → Stands zones slots block t x k → Stands zones slots block t y m
    → Tells (meant zones slots block (compared_by op x y)) (known_compare op k m)
unfolding mean
stand-compared zones slots block t op x y k m h i =
    let v = meant zones slots block x in
    let w = meant zones slots block y in
    record {
      is = ap is_true_val (binary3-operator_of op v w) ∙ (known-compared op v w ∙ (λ j. known_compare op (h.known_so j) (i.known_so j)));
      sound = ap (λ (z : Val). is_broken (tri z)) (binary3-operator_of op v w) ∙ compared-sound op t v w h.kind i.kind;
    }

pub compared-agrees : (zones : Zones) (slots : Slots) (block : ℕ) (t : Ty) (op : CompareOperator) (o p : Option Tree) (k m : Option Val) (a b : Bool) → IsBound zones slots block t o k a
    → IsBound zones slots block t p m b → Agrees zones slots block (compared_where op o p) (known_compare op k m)
compared-agrees zones slots block t op (Some x) (Some y) k m a b h i = stand-compared zones slots block t op x y k m h.0 i.0
compared-agrees zones slots block t op (Some x) None k m a b h i = ap (known_compare op k) i.0 ∙ none-right op k
compared-agrees zones slots block t op None p k m a b h i = ap (λ (z : Option Val). known_compare op z m) h.0

both-compared : (zones : Zones) (slots : Slots) (block : ℕ) (t : Ty) (op : CompareOperator) (o : Option Tree) (asked : List Question) (y : Found) (k m : Option Val) (a b : Bool)
    → IsBound zones slots block t o k a → IsBound zones slots block t y.tree m b → Agrees zones slots block (found_by (λ x. found_in (compared_by op x) y) o asked).tree (known_compare op k m)
both-compared zones slots block t op None asked y k m a b h i = compared-agrees zones slots block t op None y.tree k m a b h i
both-compared zones slots block t op (Some x) asked y k m a b h i = by-second y.tree i
  where
    by-second : (p : Option Tree) → IsBound zones slots block t p m b → Agrees zones slots block (option_map (compared_by op x) p) (known_compare op k m)
    by-second None j = compared-agrees zones slots block t op (Some x) None k m a b h j
    by-second (Some z) j = compared-agrees zones slots block t op (Some x) (Some z) k m a b h j

inequality-agrees : (zones : Zones) (slots : Slots) (block : ℕ) (t : Ty) (o p q : Option Tree) (asked more most : List Question) (y : Found) (k l m n : Option Val) (a b c d : Bool)
    → IsBound zones slots block t o k a → IsBound zones slots block t p l b → IsBound zones slots block t q m c → IsBound zones slots block t y.tree n d
    → Agrees zones slots block (found_by (λ u. found_by (λ v. found_by (λ w. found_in (one_value u v w) y) q most) p more) o asked).tree (known_compare Eq k n && known_compare Eq l m)
unfolding mean
inequality-agrees zones slots block t None p q asked more most y k l m n a b c d e f g h = ap (λ (z : Option Val). known_compare Eq z n && known_compare Eq l m) e.0
inequality-agrees zones slots block t (Some u) None q asked more most y k l m n a b c d e f g h =
    and-right_false (known_compare Eq k n) (known_compare Eq l m) (ap (λ (z : Option Val). known_compare Eq z m) f.0)
inequality-agrees zones slots block t (Some u) (Some v) None asked more most y k l m n a b c d e f g h =
    and-right_false (known_compare Eq k n) (known_compare Eq l m) (ap (known_compare Eq l) g.0 ∙ none-right Eq l)
inequality-agrees zones slots block t (Some u) (Some v) (Some w) asked more most y k l m n a b c d e f g h = by-last y.tree h
  where
    by-last : (r : Option Tree) → IsBound zones slots block t r n d → Agrees zones slots block (option_map (one_value u v w) r) (known_compare Eq k n && known_compare Eq l m)
    by-last None i = ap (λ (z : Option Val). known_compare Eq k z && known_compare Eq l m) i.0 ∙ ap (λ (z : Bool). z && known_compare Eq l m) (none-right Eq k)
    by-last (Some x) i =
        and-tells (meant zones slots block (compared_by Eq u x)) (meant zones slots block (compared_by Eq v w)) (known_compare Eq k n) (known_compare Eq l m)
        (stand-compared zones slots block t Eq u x k n e.0 i.0) (stand-compared zones slots block t Eq v w l m f.0 g.0)

-- the comparison of two operands by their bounds alone
bounds-agree : (zones : Zones) (slots : Slots) (block : ℕ) (t : Ty) (op : CompareOperator) (l r : Tree) → Operand zones slots block t l → Operand zones slots block t r
    → Agrees zones slots block (bounds_falsified (catalog_of zones) op l r).tree (comparison_ruled_out op (λ s. known_bound zones block s l) (λ s. known_bound zones block s r))
bounds-agree zones slots block t Gt l r h k = both-compared zones slots block t Lte _ _ (bound_of (catalog_of zones) Min r) _ _ _ _ h.greatest k.least
bounds-agree zones slots block t Gte l r h k = both-compared zones slots block t Lt _ _ (bound_of (catalog_of zones) Min r) _ _ _ _ h.greatest k.least
bounds-agree zones slots block t Lt l r h k = both-compared zones slots block t Gte _ _ (bound_of (catalog_of zones) Max r) _ _ _ _ h.least k.greatest
bounds-agree zones slots block t Lte l r h k = both-compared zones slots block t Gt _ _ (bound_of (catalog_of zones) Max r) _ _ _ _ h.least k.greatest
bounds-agree zones slots block t Eq l r h k =
    either-agrees zones slots block _ _ _ _ (compared-agrees zones slots block t Gt _ _ _ _ _ _ h.least k.greatest) (compared-agrees zones slots block t Gt _ _ _ _ _ _ k.least h.greatest)
bounds-agree zones slots block t NotEq l r h k =
    inequality-agrees zones slots block t _ _ _ _ _ _ (bound_of (catalog_of zones) Max r) _ _ _ _ _ _ _ _ h.least h.greatest k.least k.greatest

-- no count of what is no number is asked with an answer
pub no-guard : (zones : Zones) (l r : Tree) → AreAccepted zones → (are_numbers (catalog_of zones) l r).tree ≡ None
no-guard zones l r a = λ i. joined_known and_of (option_map is_zero_count (none (path_of l) i)) (option_map is_zero_count (none (path_of r) i))
  where
    none : (o : Option (List Bytes)) → (asked_for (catalog_of zones) NaNCount o).tree ≡ None
    none None = refl
    none (Some path) = answered zones path NaNCount ∙ ap (λ (o : Option ZoneStat). cond (is_some o) (Some (statistic_column path NaNCount)) None) (no_nan_count zones a path)

-- a comparison by the bounds of its operands
pub comparison-agrees : (zones : Zones) (slots : Slots) (block : ℕ) (t : Ty) (op : CompareOperator) (l r : Tree) → AreAccepted zones → Operand zones slots block t l → Operand zones slots block t r
    → Agrees zones slots block (comparison_falsified (catalog_of zones) l r op).tree (comparison_ruled_out op (λ s. known_bound zones block s l) (λ s. known_bound zones block s r))
comparison-agrees zones slots block t op l r a h k =
    behind (bounds_falsified (catalog_of zones) op l r).tree (are_numbers (catalog_of zones) l r).tree _ _ _ (no-guard zones l r a) (bounds-agree zones slots block t op l r h k)
  where
    behind : (o guard : Option Tree) (asked more : List Question) (b : Bool) → guard ≡ None → Agrees zones slots block o b
        → Agrees zones slots block (found_by (λ e. record { tree = Some (behind_guard guard e); asked = more }) o asked).tree b
    behind None guard asked more b e i = i
    behind (Some x) guard asked more b e i = subst (λ (g : Option Tree). Tells (meant zones slots block (behind_guard g x)) b) (sym e) i
