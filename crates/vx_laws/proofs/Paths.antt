-- Paths in types and values, and what is asked along them.
use Rattle.std.proofs.Common.{◌≡◌, refl, ap, sym, ◌∙◌, Bool, true, false, cond, ◌||◌, Option, Some, None, subst, List, [], ◌∷◌, ◌++◌}
use Rattle.std.specs.Prelude.{unwrap_or, option_map}
use Rattle.std.specs.Str.{bytes_eq}
use Rattle.std.specs.List.{list_any, flat_map, AllByRecursion}
use Rattle.std.proofs.lemmas.Bool.{or_parts, or_from}
use Rattle.vx_dtype.specs.declared.Nullability.{Nullability}
use Rattle.vx_dtype.specs.Types.{Bytes, Ty, bool_ty, int_ty, text_ty, list_ty, struct_ty, Fields, no_fields, field}
use Rattle.vx_dtype.specs.TypeRules.{widened, is_plain, fields_of, field_names, field_type, has_name, distinct_names}
use Rattle.vx_dtype.specs.Values.{Val, null_val, struct_val, fault, Members, no_members, member}
use Rattle.vx_dtype.specs.Fits.{fits_but_for_faults, members_fit_but_for_faults, holds_fault, member_holds_fault}
use Rattle.vx_dtype.specs.Structs.{member_named, field_of, members_at}
use Rattle.vx_expr.specs.Trees.{Tree, root, get_item}
use Rattle.vx_semantics.specs.Meaning.{Slots, mean}
use Rattle.vx_semantics.specs.Asked.{Asking, asks_node, asks_column, each_asked, node_in}
use Rattle.vx_semantics.specs.Paths.{path_of, path_value}
use Rattle.vx_semantics.specs.Breaks.{breaks}
use Rattle.vx_laws.specs.Values.{AccessesMeanTheirPath}
use Rattle.vx_laws.proofs.Structs.{member-fits, no-member-fits, no-field-fits, field_of-fits, IsStructOf, has_field}
use Rattle.vx_laws.proofs.Preserving.{FitsButFaults}
use Rattle.vx_laws.proofs.Sound.{IsNoFault, HoldsNoFault, plain-HoldsNoFault}
use Rattle.vx_laws.proofs.Distinct.{members_at-own}

-- whether a path leads to a field in a type
abbrev pub in_option : (Ty → Bool) → Option Ty → Bool
in_option test None = false
in_option test (Some t) = test t

abbrev pub path_in : List Bytes → Ty → Bool
path_in [] t = true
path_in (f ∷ path) t = in_option (path_in path) (field_type f (fields_of t))

-- the type of the first field of a path, in which the rest leads on
pub record FirstOf (f : Bytes) (path : List Bytes) (fs : Fields) : Type 0 where
  pub own : Ty
  pub found : field_type f fs ≡ Some own
  pub rest : path_in path own ≡ true

pub first_of_path : (f : Bytes) (path : List Bytes) (fs : Fields) → in_option (path_in path) (field_type f fs) ≡ true → FirstOf f path fs
first_of_path f path fs h = by-type (field_type f fs) refl h
  where
    by-type : (o : Option Ty) → field_type f fs ≡ o → in_option (path_in path) o ≡ true → FirstOf f path fs
    by-type None e k = let no : ⊥ = cc in absurd no
    by-type (Some w) e k = record { own = w; found = e; rest = k }

pub path_in-first : (f : Bytes) (path : List Bytes) (fs : Fields) (w : Ty) → field_type f fs ≡ Some w → path_in path w ≡ true → in_option (path_in path) (field_type f fs) ≡ true
path_in-first f path fs w e h = rw e h

fields_of-widened : (t : Ty) (n : Nullability) → fields_of (widened t n) ≡ fields_of t
fields_of-widened (bool_ty m) n = refl
fields_of-widened (int_ty p m) n = refl
fields_of-widened (text_ty m) n = refl
fields_of-widened (list_ty e m) n = refl
fields_of-widened (struct_ty fs m) n = refl

pub path_in-widened : (path : List Bytes) (t : Ty) (n : Nullability) → path_in path (widened t n) ≡ path_in path t
path_in-widened [] t n = refl
path_in-widened (f ∷ path) t n = ap (λ (fs : Fields). in_option (path_in path) (field_type f fs)) (fields_of-widened t n)

-- a path of a plain type is empty
pub plain-path : (path : List Bytes) (u : Ty) → is_plain u ≡ true → path_in path u ≡ true → path ≡ []
plain-path [] u h k = refl
plain-path (f ∷ path) (bool_ty n) h k = let no : ⊥ = cc in absurd no
plain-path (f ∷ path) (int_ty p n) h k = let no : ⊥ = cc in absurd no
plain-path (f ∷ path) (text_ty n) h k = let no : ⊥ = cc in absurd no
plain-path (f ∷ path) _ h k = let no : ⊥ = cc in absurd no

pub plain-path-HoldsNoFault : (path : List Bytes) (u : Ty) (v : Val) → is_plain u ≡ true → path_in path u ≡ true → FitsButFaults v u → IsNoFault v → HoldsNoFault (path_value path v)
plain-path-HoldsNoFault path u v p k h i = subst (λ (z : List Bytes). HoldsNoFault (path_value z v)) (sym (plain-path path u p k)) (plain-HoldsNoFault v u h p i)

-- a field of a value without a fault has none
field-HoldsNoFault : (f : Bytes) (ms : Members) (fs : Fields) (w : Ty) → members_fit_but_for_faults ms fs ≡ true → member_holds_fault ms ≡ false → field_type f fs ≡ Some w
    → HoldsNoFault (unwrap_or (member_named f ms) fault)
unfolding holds_fault
field-HoldsNoFault f no_members no_fields w h k e = let no : ⊥ = cc in absurd no
field-HoldsNoFault f no_members (field g t fs) w h k e = absurd (no-field-fits g t fs h)
field-HoldsNoFault f (member g x ms) no_fields w h k e = absurd (no-member-fits g x ms h)
field-HoldsNoFault f (member g x ms) (field i t fs) w h k e =
    let m = member-fits g x ms i t fs h in
    let parts = or_parts (holds_fault x) (member_holds_fault ms) k in
    by-test (bytes_eq f g) (subst (λ (z : Bytes). cond (bytes_eq f z) (Some t) (field_type f fs) ≡ Some w) (sym m.same) e) parts.0 (field-HoldsNoFault f ms fs w m.rest parts.1)
  where
    by-test : (b : Bool) → cond b (Some t) (field_type f fs) ≡ Some w → HoldsNoFault x → (field_type f fs ≡ Some w → HoldsNoFault (unwrap_or (member_named f ms) fault)) → HoldsNoFault (unwrap_or (cond b (Some x) (member_named f ms)) fault)
    by-test true d a r = a
    by-test false d a r = r d

field_of-HoldsNoFault : (f : Bytes) (v : Val) (fs : Fields) (n : Nullability) (w : Ty) → FitsButFaults v (struct_ty fs n) → HoldsNoFault v → field_type f fs ≡ Some w → HoldsNoFault (field_of f v)
unfolding holds_fault fits_but_for_faults
field_of-HoldsNoFault f null_val fs n w h k e = refl
field_of-HoldsNoFault f (struct_val ms) fs n w h k e = field-HoldsNoFault f ms fs w h k e
field_of-HoldsNoFault f _ fs n w h k e = let no : ⊥ = cc in absurd no

-- what lies along a path of a value without a fault has none
pub path-HoldsNoFault : (path : List Bytes) (v : Val) (u : Ty) → FitsButFaults v u → HoldsNoFault v → path_in path u ≡ true → HoldsNoFault (path_value path v)
path-HoldsNoFault [] v u h k p = k
path-HoldsNoFault (f ∷ path) v (struct_ty fs n) h k p =
    let first = first_of_path f path fs p in
    path-HoldsNoFault path (field_of f v) (widened first.own n) (field_of-fits f v fs n first.own h first.found) (field_of-HoldsNoFault f v fs n first.own h k first.found)
    (path_in-widened path first.own n ∙ first.rest)
path-HoldsNoFault (f ∷ path) v (bool_ty n) h k p = let no : ⊥ = cc in absurd no
path-HoldsNoFault (f ∷ path) v (int_ty q n) h k p = let no : ⊥ = cc in absurd no
path-HoldsNoFault (f ∷ path) v (text_ty n) h k p = let no : ⊥ = cc in absurd no
path-HoldsNoFault (f ∷ path) v (list_ty e n) h k p = let no : ⊥ = cc in absurd no

-- whether what is asked is a node that breaks
abbrev pub asking_breaks : Ty → Slots → Val → Asking → Bool
asking_breaks t slots row (asks_node e) = breaks t slots row e
asking_breaks t slots row (asks_column c) = false

-- no asked node breaks
abbrev pub Quiet : Ty → Slots → Val → List Asking → Type 0
Quiet t slots row asks = list_any (asking_breaks t slots row) asks ≡ false

list_any-append : {X : Type 0} (test : X → Bool) (xs ys : List X) → list_any test (xs ++ ys) ≡ (list_any test xs || list_any test ys)
list_any-append test [] ys = refl
list_any-append test (x ∷ xs) ys = by-test (test x) (list_any-append test xs ys)
  where
    by-test : (b : Bool) → list_any test (xs ++ ys) ≡ (list_any test xs || list_any test ys) → (b || list_any test (xs ++ ys)) ≡ ((b || list_any test xs) || list_any test ys)
    by-test true r = refl
    by-test false r = r

pub quiet-parts : (t : Ty) (slots : Slots) (row : Val) (xs ys : List Asking) → Quiet t slots row (xs ++ ys) → Quiet t slots row xs × Quiet t slots row ys
quiet-parts t slots row xs ys h =
    or_parts (list_any (asking_breaks t slots row) xs) (list_any (asking_breaks t slots row) ys) (sym (list_any-append (asking_breaks t slots row) xs ys) ∙ h)

-- the asked nodes are those of what is asked
pub some_asked-same : (t : Ty) (slots : Slots) (row : Val) (asks : List Asking) → list_any (breaks t slots row) (flat_map node_in asks) ≡ list_any (asking_breaks t slots row) asks
some_asked-same t slots row [] = refl
some_asked-same t slots row (asks_node e ∷ asks) = ap (λ (b : Bool). breaks t slots row e || b) (some_asked-same t slots row asks)
some_asked-same t slots row (asks_column c ∷ asks) = some_asked-same t slots row asks

-- what is asked for each of several names
pub each-quiet : (t : Ty) (slots : Slots) (row : Val) (ask : List Bytes → List Asking) (names : List Bytes) → Quiet t slots row (each_asked ask names)
    → AllByRecursion (λ f. Quiet t slots row (ask (f ∷ []))) names
each-quiet t slots row ask [] h = tt
each-quiet t slots row ask (f ∷ names) h =
    let parts = quiet-parts t slots row (ask (f ∷ [])) (each_asked ask names) h in
    (parts.0, each-quiet t slots row ask names parts.1)

members_at-HoldsNoFault : (names : List Bytes) (v : Val) → AllByRecursion (λ f. HoldsNoFault (field_of f v)) names → member_holds_fault (members_at names v) ≡ false
unfolding holds_fault
members_at-HoldsNoFault [] v h = refl
members_at-HoldsNoFault (f ∷ names) v h = or_from (holds_fault (field_of f v)) (member_holds_fault (members_at names v)) h.0 (members_at-HoldsNoFault names v h.1)

struct-HoldsNoFault : (ms : Members) → member_holds_fault ms ≡ false → HoldsNoFault (struct_val ms)
unfolding holds_fault
struct-HoldsNoFault ms h = h

-- a struct of distinct names holds no fault where none of its fields does
pub fields-HoldsNoFault : (v : Val) (fs : Fields) → IsStructOf v fs → distinct_names (field_names fs) ≡ true → AllByRecursion (λ f. HoldsNoFault (field_of f v)) (field_names fs) → HoldsNoFault v
fields-HoldsNoFault v fs s d h =
    subst HoldsNoFault (sym s.is)
    (struct-HoldsNoFault s.members
    (subst (λ (z : Members). member_holds_fault z ≡ false) (members_at-own s.members fs s.fit d)
    (members_at-HoldsNoFault (field_names fs) (struct_val s.members) (subst (λ (z : Val). AllByRecursion (λ f. HoldsNoFault (field_of f z)) (field_names fs)) s.is h))))

-- the empty path from each path of one name
pub each-path : (P Q : Bytes → Type 0) (fs : Fields) (names : List Bytes) → ((f : Bytes) → in_option (path_in []) (field_type f fs) ≡ true → P f → Q f)
    → AllByRecursion (λ f. has_name f (field_names fs) ≡ true) names → AllByRecursion P names → AllByRecursion Q names
each-path P Q fs [] s h k = tt
each-path P Q fs (f ∷ names) s h k =
    let found = has_field f fs h.0 in
    (s f (path_in-first f [] fs found.own found.found refl) k.0, each-path P Q fs names s h.1 k.1)

-- the path of a field of an expression is the expression's, with the field behind it
pub begun : (o : Option (List Bytes)) (f : Bytes) (path : List Bytes) → option_map (λ names. names ++ f ∷ []) o ≡ Some path → (before : List Bytes) × (o ≡ Some before) × (before ++ f ∷ [] ≡ path)
begun None f path h = let no : ⊥ = cc in absurd no
begun (Some before) f path h = (before, refl, cc)

-- the value of a path with one more name behind
path_value-behind : (fs : List Bytes) (f : Bytes) (v : Val) → path_value (fs ++ f ∷ []) v ≡ field_of f (path_value fs v)
path_value-behind [] f v = refl
path_value-behind (g ∷ fs) f v = path_value-behind fs f (field_of g v)

-- a chain of field accesses means the value of its path
pub path_of-means : (t : Ty) (slots : Slots) (row : Val) (e : Tree) (path : List Bytes) → path_of e ≡ Some path → mean t slots row e ≡ path_value path row
unfolding mean
path_of-means t slots row root path h = let same : [] ≡ path = cc in ap (λ (p : List Bytes). path_value p row) same
path_of-means t slots row (get_item f d) path h =
    let b = begun (path_of d) f path h in
    ap (field_of f) (path_of-means t slots row d b.0 b.1) ∙ (sym (path_value-behind b.0 f row) ∙ ap (λ (p : List Bytes). path_value p row) b.2)
path_of-means t slots row _ path h = let no : ⊥ = cc in absurd no

pub accesses_mean_their_path : AccessesMeanTheirPath
accesses_mean_their_path t slots row e path h = path_of-means t slots row e path h
