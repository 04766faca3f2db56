-- Types of one shape whose nullabilities are in a relation, place by place; the rules of typing keep it.
use Rattle.std.proofs.Common.{◌≡◌, refl, ap, sym, ◌∙◌, Bool, true, false, cond, not, ◌&&◌, Option, Some, None, subst, List, [], ◌∷◌, ◌++◌, Result, Ok, suc}
use Rattle.std.specs.Prelude.{nat_eq, length, option_map, ok_or}
use Rattle.std.specs.Option.{option_or, option_and_then}
use Rattle.std.specs.Str.{bytes_eq}
use Rattle.std.specs.List.{list_all, flat_map}
use Rattle.vx_dtype.specs.declared.Nullability.{Nullability}
use Rattle.vx_dtype.specs.declared.Nullability.TheVariants.{NonNullable}
use Rattle.vx_dtype.specs.declared.PType.{PType}
use Rattle.vx_dtype.specs.Types.{Bytes, Ty, bool_ty, int_ty, text_ty, list_ty, struct_ty, Fields, no_fields, field}
use Rattle.vx_dtype.specs.TypeRules.{union, is_nullable, nullability_of, with_nullability, widened, same_ptype, alike, is_bool_ty, is_int_ty, is_text_ty, fields_of, field_names, field_type, has_name, distinct_names}
use Rattle.vx_dtype.specs.StructTypes.{is_struct_ty, with_field, fields_at, all_known}
use Rattle.vx_dtype.specs.Zipped.{zipped}
use Rattle.vx_dtype.specs.Casts.{takes_cast}
use Rattle.vx_expr.specs.declared.Operator.{Operator}
use Rattle.vx_expr.specs.declared.FieldSelection.{FieldSelection}
use Rattle.vx_expr.specs.declared.FieldSelection.TheVariants.{Include, Exclude}
use Rattle.vx_expr.specs.Selections.{listed_names}
use Rattle.vx_semantics.specs.Typing.{Refusal, not_struct, nullable_select, unknown_field, duplicate_field, type_mismatch, unless, item_type, fields_without, selected_fields, included_once, select_type, pack_type, names_in, type_in, merged_type_at, merged_fields_at, merge_type, union_of, equal_plain, binary_type, not_type, like_type, between_type, contains_type, cast_type, dynamic_type}
use Rattle.vx_semantics.specs.Merging.{merged_names, last_giver}
use Rattle.vx_dtype.specs.Structs.{first_names}
use Rattle.vx_laws.proofs.Inverting.{Ok-same}

-- a relation of nullabilities that is one's own, and goes with unions
pub record Nulling (rel : Nullability → Nullability → Bool) : Type 0 where
  pub own : (n : Nullability) → rel n n ≡ true
  pub unions : (a b c d : Nullability) → rel a b ≡ true → rel c d ≡ true → rel (union a c) (union b d) ≡ true

mutual
  pub data Under (rel : Nullability → Nullability → Bool) : Ty → Ty → Type 0 where
    bools : (n m : Nullability) → rel n m ≡ true → Under rel (bool_ty n) (bool_ty m)
    ints : (p : PType) (n m : Nullability) → rel n m ≡ true → Under rel (int_ty p n) (int_ty p m)
    texts : (n m : Nullability) → rel n m ≡ true → Under rel (text_ty n) (text_ty m)
    lists : (e d : Ty) (n m : Nullability) → Under rel e d → rel n m ≡ true → Under rel (list_ty e n) (list_ty d m)
    structs : (fs gs : Fields) (n m : Nullability) → UnderFields rel fs gs → rel n m ≡ true → Under rel (struct_ty fs n) (struct_ty gs m)

  pub data UnderFields (rel : Nullability → Nullability → Bool) : Fields → Fields → Type 0 where
    no_more : UnderFields rel no_fields no_fields
    one_more : (f : Bytes) (t u : Ty) (fs gs : Fields) → Under rel t u → UnderFields rel fs gs → UnderFields rel (field f t fs) (field f u gs)

pub data UnderOption (rel : Nullability → Nullability → Bool) : Option Ty → Option Ty → Type 0 where
  neither : UnderOption rel None None
  both : (t u : Ty) → Under rel t u → UnderOption rel (Some t) (Some u)

pub data UnderList (rel : Nullability → Nullability → Bool) : List Ty → List Ty → Type 0 where
  ended : UnderList rel [] []
  further : (t u : Ty) (ts us : List Ty) → Under rel t u → UnderList rel ts us → UnderList rel (t ∷ ts) (u ∷ us)

-- an answer that is a type under this one
pub record Ranked (rel : Nullability → Nullability → Bool) (r : Result Ty Refusal) (u : Ty) : Type 0 where
  pub ty : Ty
  pub is : r ≡ Ok ty
  pub under : Under rel ty u

-- the kinds of plain types
pub data Plain : Type 0 where
  a_bool : Plain
  an_int : PType → Plain
  a_text : Plain
  not_plain : Plain

abbrev pub plain_of : Ty → Plain
plain_of (bool_ty n) = a_bool
plain_of (int_ty p n) = an_int p
plain_of (text_ty n) = a_text
plain_of _ = not_plain

abbrev pub same_plain : Plain → Plain → Bool
same_plain a_bool a_bool = true
same_plain (an_int p) (an_int q) = same_ptype p q && true
same_plain a_text a_text = true
same_plain _ _ = false

abbrev pub same_int : Plain → Plain → Bool
same_int (an_int p) (an_int q) = same_ptype p q && true
same_int _ _ = false

and-false : (a : Bool) → (a && false) ≡ false
and-false true = refl
and-false false = refl

equal_plain-kinds : (a b : Ty) → equal_plain a b ≡ same_plain (plain_of a) (plain_of b)
unfolding alike
equal_plain-kinds (bool_ty n) (bool_ty m) = refl
equal_plain-kinds (int_ty p n) (int_ty q m) = refl
equal_plain-kinds (text_ty n) (text_ty m) = refl
equal_plain-kinds (list_ty e n) b = and-false (alike (list_ty e n) b)
equal_plain-kinds (struct_ty fs n) b = and-false (alike (struct_ty fs n) b)
equal_plain-kinds _ _ = refl

same_int-kinds : (a b : Ty) → (alike a b && is_int_ty a) ≡ same_int (plain_of a) (plain_of b)
unfolding alike
same_int-kinds (int_ty p n) (int_ty q m) = refl
same_int-kinds (int_ty p n) _ = refl
same_int-kinds (bool_ty n) b = and-false (alike (bool_ty n) b)
same_int-kinds (text_ty n) b = and-false (alike (text_ty n) b)
same_int-kinds (list_ty e n) b = and-false (alike (list_ty e n) b)
same_int-kinds (struct_ty fs n) b = and-false (alike (struct_ty fs n) b)

module _ (rel : Nullability → Nullability → Bool) (k : Nulling rel) where
  pub plain_of-under : (a b : Ty) → Under rel a b → plain_of a ≡ plain_of b
  plain_of-under _ _ (bools n m h) = refl
  plain_of-under _ _ (ints p n m h) = refl
  plain_of-under _ _ (texts n m h) = refl
  plain_of-under _ _ (lists e d n m x h) = refl
  plain_of-under _ _ (structs fs gs n m x h) = refl

  pub null-under : (a b : Ty) → Under rel a b → rel (nullability_of a) (nullability_of b) ≡ true
  null-under _ _ (bools n m h) = h
  null-under _ _ (ints p n m h) = h
  null-under _ _ (texts n m h) = h
  null-under _ _ (lists e d n m x h) = h
  null-under _ _ (structs fs gs n m x h) = h

  mutual
    pub under-own : (a : Ty) → Under rel a a
    under-own (bool_ty n) = bools n n (k.own n)
    under-own (int_ty p n) = ints p n n (k.own n)
    under-own (text_ty n) = texts n n (k.own n)
    under-own (list_ty e n) = lists e e n n (under-own e) (k.own n)
    under-own (struct_ty fs n) = structs fs fs n n (fields-own fs) (k.own n)

    pub fields-own : (fs : Fields) → UnderFields rel fs fs
    fields-own no_fields = no_more
    fields-own (field f t fs) = one_more f t t fs fs (under-own t) (fields-own fs)

  pub renulled-under : (a b : Ty) (n m : Nullability) → Under rel a b → rel n m ≡ true → Under rel (with_nullability a n) (with_nullability b m)
  renulled-under _ _ n m (bools i j h) g = bools n m g
  renulled-under _ _ n m (ints p i j h) g = ints p n m g
  renulled-under _ _ n m (texts i j h) g = texts n m g
  renulled-under _ _ n m (lists e d i j x h) g = lists e d n m x g
  renulled-under _ _ n m (structs fs gs i j x h) g = structs fs gs n m x g

  pub widened-under : (a b : Ty) (n m : Nullability) → Under rel a b → rel n m ≡ true → Under rel (widened a n) (widened b m)
  widened-under a b n m x h = renulled-under a b (union (nullability_of a) n) (union (nullability_of b) m) x (k.unions (nullability_of a) (nullability_of b) n m (null-under a b x) h)

  pub union-under : (a b c d : Ty) → Under rel a b → Under rel c d → rel (union_of a c) (union_of b d) ≡ true
  union-under a b c d x y = k.unions (nullability_of a) (nullability_of b) (nullability_of c) (nullability_of d) (null-under a b x) (null-under c d y)

  pub equal_plain-under : (a b c d : Ty) → Under rel a b → Under rel c d → equal_plain a c ≡ equal_plain b d
  equal_plain-under a b c d x y =
      equal_plain-kinds a c
      ∙ (ap (λ (z : Plain). same_plain z (plain_of c)) (plain_of-under a b x) ∙ (ap (same_plain (plain_of b)) (plain_of-under c d y) ∙ sym (equal_plain-kinds b d)))

  same_int-under : (a b c d : Ty) → Under rel a b → Under rel c d → (alike a c && is_int_ty a) ≡ (alike b d && is_int_ty b)
  same_int-under a b c d x y =
      same_int-kinds a c
      ∙ (ap (λ (z : Plain). same_int z (plain_of c)) (plain_of-under a b x) ∙ (ap (same_int (plain_of b)) (plain_of-under c d y) ∙ sym (same_int-kinds b d)))

  is_bool-under : (a b : Ty) → Under rel a b → is_bool_ty a ≡ is_bool_ty b
  is_bool-under _ _ (bools n m h) = refl
  is_bool-under _ _ (ints p n m h) = refl
  is_bool-under _ _ (texts n m h) = refl
  is_bool-under _ _ (lists e d n m x h) = refl
  is_bool-under _ _ (structs fs gs n m x h) = refl

  is_text-under : (a b : Ty) → Under rel a b → is_text_ty a ≡ is_text_ty b
  is_text-under _ _ (bools n m h) = refl
  is_text-under _ _ (ints p n m h) = refl
  is_text-under _ _ (texts n m h) = refl
  is_text-under _ _ (lists e d n m x h) = refl
  is_text-under _ _ (structs fs gs n m x h) = refl

  is_struct-under : (a b : Ty) → Under rel a b → is_struct_ty a ≡ is_struct_ty b
  is_struct-under _ _ (bools n m h) = refl
  is_struct-under _ _ (ints p n m h) = refl
  is_struct-under _ _ (texts n m h) = refl
  is_struct-under _ _ (lists e d n m x h) = refl
  is_struct-under _ _ (structs fs gs n m x h) = refl

  takes_cast-under : (a b t : Ty) → Under rel a b → takes_cast a t ≡ takes_cast b t
  takes_cast-under _ _ (bool_ty i) (bools n m h) = refl
  takes_cast-under _ _ (int_ty q i) (ints p n m h) = refl
  takes_cast-under _ _ (text_ty i) (texts n m h) = refl
  takes_cast-under _ _ t (lists e d n m x h) = refl
  takes_cast-under _ _ t (structs fs gs n m x h) = refl
  takes_cast-under _ _ _ (bools n m h) = refl
  takes_cast-under _ _ _ (ints p n m h) = refl
  takes_cast-under _ _ _ (texts n m h) = refl

  -- an answer behind a test
  pub ranked-unless : (b c : Bool) (r : Refusal) (x y : Result Ty Refusal) (u : Ty) → b ≡ c → (y ≡ Ok u → Ranked rel x u) → unless c r y ≡ Ok u → Ranked rel (unless b r x) u
  ranked-unless true true r x y u e f h = f h
  ranked-unless false false r x y u e f h = let no : ⊥ = cc in absurd no
  ranked-unless true false r x y u e f h = let no : ⊥ = cc in absurd no
  ranked-unless false true r x y u e f h = let no : ⊥ = cc in absurd no

  pub ranked-ok : (a b u : Ty) → Under rel a b → ◌≡◌ {A = Result Ty Refusal} (Ok b) (Ok u) → Ranked rel (Ok a) u
  ranked-ok a b u x h = let same : b ≡ u = Ok-same (Ok u) b u (sym h) refl in record { ty = a; is = refl; under = subst (Under rel a) same x }

  pub ranked-test : (b c : Bool) (r : Refusal) (x y u : Ty) → b ≡ c → Under rel x y → unless c r (Ok y) ≡ Ok u → Ranked rel (unless b r (Ok x)) u
  ranked-test b c r x y u e w h = ranked-unless b c r (Ok x) (Ok y) u e (ranked-ok x y u w) h

  pub binary-under : (op : Operator) (a b c d u : Ty) → Under rel a b → Under rel c d → binary_type op b d ≡ Ok u → Ranked rel (binary_type op a c) u
  binary-under Operator.And a b c d u x y h =
      ranked-test (is_bool_ty a && is_bool_ty c) (is_bool_ty b && is_bool_ty d) type_mismatch (bool_ty (union_of a c)) (bool_ty (union_of b d)) u
      (ap (λ (z : Bool). z && is_bool_ty c) (is_bool-under a b x) ∙ ap (λ (z : Bool). is_bool_ty b && z) (is_bool-under c d y))
      (bools (union_of a c) (union_of b d) (union-under a b c d x y)) h
  binary-under Operator.Or a b c d u x y h =
      ranked-test (is_bool_ty a && is_bool_ty c) (is_bool_ty b && is_bool_ty d) type_mismatch (bool_ty (union_of a c)) (bool_ty (union_of b d)) u
      (ap (λ (z : Bool). z && is_bool_ty c) (is_bool-under a b x) ∙ ap (λ (z : Bool). is_bool_ty b && z) (is_bool-under c d y))
      (bools (union_of a c) (union_of b d) (union-under a b c d x y)) h
  binary-under Operator.Add a b c d u x y h =
      ranked-test (alike a c && is_int_ty a) (alike b d && is_int_ty b) type_mismatch (with_nullability a (union_of a c)) (with_nullability b (union_of b d)) u (same_int-under a b c d x y)
      (renulled-under a b (union_of a c) (union_of b d) x (union-under a b c d x y)) h
  binary-under Operator.Sub a b c d u x y h =
      ranked-test (alike a c && is_int_ty a) (alike b d && is_int_ty b) type_mismatch (with_nullability a (union_of a c)) (with_nullability b (union_of b d)) u (same_int-under a b c d x y)
      (renulled-under a b (union_of a c) (union_of b d) x (union-under a b c d x y)) h
  binary-under _ a b c d u x y h =
      ranked-test (equal_plain a c) (equal_plain b d) type_mismatch (bool_ty (union_of a c)) (bool_ty (union_of b d)) u (equal_plain-under a b c d x y)
      (bools (union_of a c) (union_of b d) (union-under a b c d x y)) h

  pub not-under : (a b u : Ty) → Under rel a b → not_type b ≡ Ok u → Ranked rel (not_type a) u
  not-under a b u x h = ranked-test (is_bool_ty a) (is_bool_ty b) type_mismatch a b u (is_bool-under a b x) x h

  pub like-under : (a b c d u : Ty) → Under rel a b → Under rel c d → like_type b d ≡ Ok u → Ranked rel (like_type a c) u
  like-under a b c d u x y h =
      ranked-test (is_text_ty a && is_text_ty c) (is_text_ty b && is_text_ty d) type_mismatch (bool_ty (union_of a c)) (bool_ty (union_of b d)) u
      (ap (λ (z : Bool). z && is_text_ty c) (is_text-under a b x) ∙ ap (λ (z : Bool). is_text_ty b && z) (is_text-under c d y))
      (bools (union_of a c) (union_of b d) (union-under a b c d x y)) h

  pub between-under : (a b c d e f u : Ty) → Under rel a b → Under rel c d → Under rel e f → between_type b d f ≡ Ok u → Ranked rel (between_type a c e) u
  between-under a b c d e f u x y z h =
      let low = union (nullability_of a) (union_of c e) in
      let high = union (nullability_of b) (union_of d f) in
      ranked-test (equal_plain a c && equal_plain a e) (equal_plain b d && equal_plain b f) type_mismatch (bool_ty low) (bool_ty high) u
      (ap (λ (w : Bool). w && equal_plain a e) (equal_plain-under a b c d x y) ∙ ap (λ (w : Bool). equal_plain b d && w) (equal_plain-under a b e f x z))
      (bools low high (k.unions (nullability_of a) (nullability_of b) (union_of c e) (union_of d f) (null-under a b x) (union-under c d e f y z))) h

  pub cast-under : (t a b u : Ty) → Under rel a b → cast_type t b ≡ Ok u → Ranked rel (cast_type t a) u
  cast-under t a b u x h = ranked-test (takes_cast a t) (takes_cast b t) type_mismatch t t u (takes_cast-under a b t x) (under-own t) h

  pub contains-under : (a b c d u : Ty) → Under rel a b → Under rel c d → contains_type b d ≡ Ok u → Ranked rel (contains_type a c) u
  contains-under _ _ c d u (lists e f n m x g) y h =
      ranked-test (equal_plain e c) (equal_plain f d) type_mismatch (bool_ty (union n (nullability_of c))) (bool_ty (union m (nullability_of d))) u (equal_plain-under e f c d x y)
      (bools (union n (nullability_of c)) (union m (nullability_of d)) (k.unions n m (nullability_of c) (nullability_of d) g (null-under c d y))) h
  contains-under _ _ c d u (bools n m g) y h = let no : ⊥ = cc in absurd no
  contains-under _ _ c d u (ints p n m g) y h = let no : ⊥ = cc in absurd no
  contains-under _ _ c d u (texts n m g) y h = let no : ⊥ = cc in absurd no
  contains-under _ _ c d u (structs fs gs n m x g) y h = let no : ⊥ = cc in absurd no

  pub dynamic-under : (s a b u : Ty) → Under rel a b → dynamic_type s b ≡ Ok u → Ranked rel (dynamic_type s a) u
  dynamic-under s a b u x h =
      ranked-test (equal_plain a s) (equal_plain b s) type_mismatch (bool_ty (union_of a s)) (bool_ty (union_of b s)) u (equal_plain-under a b s s x (under-own s))
      (bools (union_of a s) (union_of b s) (union-under a b s s x (under-own s))) h

  -- fields
  pub names-under : (fs gs : Fields) → UnderFields rel fs gs → field_names fs ≡ field_names gs
  names-under _ _ no_more = refl
  names-under _ _ (one_more f t u fs gs x y) = ap (λ (ns : List Bytes). f ∷ ns) (names-under fs gs y)

  pub field_type-under : (f : Bytes) (fs gs : Fields) → UnderFields rel fs gs → UnderOption rel (field_type f fs) (field_type f gs)
  field_type-under f _ _ no_more = neither
  field_type-under f _ _ (one_more g t u fs gs x y) = by-test (bytes_eq f g) (field_type-under f fs gs y)
    where
      by-test : (b : Bool) → UnderOption rel (field_type f fs) (field_type f gs) → UnderOption rel (cond b (Some t) (field_type f fs)) (cond b (Some u) (field_type f gs))
      by-test true r = both t u x
      by-test false r = r

  pub fields_of-under : (a b : Ty) → Under rel a b → UnderFields rel (fields_of a) (fields_of b)
  fields_of-under _ _ (structs fs gs n m x h) = x
  fields_of-under _ _ (bools n m h) = no_more
  fields_of-under _ _ (ints p n m h) = no_more
  fields_of-under _ _ (texts n m h) = no_more
  fields_of-under _ _ (lists e d n m x h) = no_more

  pub names_in-under : (a b : Ty) → Under rel a b → names_in a ≡ names_in b
  names_in-under a b x = names-under (fields_of a) (fields_of b) (fields_of-under a b x)

  pub type_in-under : (f : Bytes) (a b : Ty) → Under rel a b → UnderOption rel (type_in f a) (type_in f b)
  type_in-under f a b x = widen (field_type f (fields_of a)) (field_type f (fields_of b)) (field_type-under f (fields_of a) (fields_of b) (fields_of-under a b x))
    where
      widen : (o p : Option Ty) → UnderOption rel o p → UnderOption rel (option_map (λ (w : Ty). widened w (nullability_of a)) o) (option_map (λ (w : Ty). widened w (nullability_of b)) p)
      widen _ _ neither = neither
      widen _ _ (both t u y) = both (widened t (nullability_of a)) (widened u (nullability_of b)) (widened-under t u (nullability_of a) (nullability_of b) y (null-under a b x))

  pub item-under : (f : Bytes) (a b u : Ty) → Under rel a b → item_type f b ≡ Ok u → Ranked rel (item_type f a) u
  item-under f _ _ u (structs fs gs n m x g) h = found (type_in f (struct_ty fs n)) (type_in f (struct_ty gs m)) (type_in-under f (struct_ty fs n) (struct_ty gs m) (structs fs gs n m x g)) h
    where
      found : (o p : Option Ty) → UnderOption rel o p → ok_or p unknown_field ≡ Ok u → Ranked rel (ok_or o unknown_field) u
      found _ _ neither i = let no : ⊥ = cc in absurd no
      found _ _ (both t w y) i = ranked-ok t w u y i
  item-under f _ _ u (bools n m g) h = let no : ⊥ = cc in absurd no
  item-under f _ _ u (ints p n m g) h = let no : ⊥ = cc in absurd no
  item-under f _ _ u (texts n m g) h = let no : ⊥ = cc in absurd no
  item-under f _ _ u (lists e d n m x g) h = let no : ⊥ = cc in absurd no

  pub with_field-under : (f : Bytes) (o p : Option Ty) (fs gs : Fields) → UnderOption rel o p → UnderFields rel fs gs → UnderFields rel (with_field f o fs) (with_field f p gs)
  with_field-under f _ _ fs gs neither y = y
  with_field-under f _ _ fs gs (both t u x) y = one_more f t u fs gs x y

  fields_at-under : (names : List Bytes) (fs gs : Fields) → UnderFields rel fs gs → UnderFields rel (fields_at names fs) (fields_at names gs)
  fields_at-under [] fs gs x = no_more
  fields_at-under (f ∷ names) fs gs x =
      with_field-under f (field_type f fs) (field_type f gs) (fields_at names fs) (fields_at names gs) (field_type-under f fs gs x) (fields_at-under names fs gs x)

  fields_without-under : (names : List Bytes) (fs gs : Fields) → UnderFields rel fs gs → UnderFields rel (fields_without names fs) (fields_without names gs)
  fields_without-under names _ _ no_more = no_more
  fields_without-under names _ _ (one_more f t u fs gs x y) = by-test (has_name f names) (fields_without-under names fs gs y)
    where
      by-test : (b : Bool) → UnderFields rel (fields_without names fs) (fields_without names gs)
          → UnderFields rel (cond b (fields_without names fs) (field f t (fields_without names fs))) (cond b (fields_without names gs) (field f u (fields_without names gs)))
      by-test true r = r
      by-test false r = one_more f t u (fields_without names fs) (fields_without names gs) x r

  pub selected-under : (s : FieldSelection) (fs gs : Fields) → UnderFields rel fs gs → UnderFields rel (selected_fields s fs) (selected_fields s gs)
  selected-under (Include names) fs gs x = fields_at-under names fs gs x
  selected-under (Exclude names) fs gs x = fields_without-under names fs gs x

  -- a struct that is no more nullable than one that isn't
  pub select-under : (s : FieldSelection) (a b u : Ty) → Under rel a b → is_nullable (nullability_of a) ≡ is_nullable (nullability_of b) → select_type s b ≡ Ok u → Ranked rel (select_type s a) u
  select-under s _ _ u (structs fs gs n m x g) e h =
      let made = struct_ty (selected_fields s fs) NonNullable in
      let mades = struct_ty (selected_fields s gs) NonNullable in
      let once = unless (included_once s) duplicate_field (Ok made) in
      let onces = unless (included_once s) duplicate_field (Ok mades) in
      let known : all_known (listed_names s) fs ≡ all_known (listed_names s) gs = ap (λ (ns : List Bytes). list_all (λ f. has_name f ns) (listed_names s)) (names-under fs gs x) in
      ranked-unless (not (is_nullable n)) (not (is_nullable m)) nullable_select (unless (all_known (listed_names s) fs) unknown_field once) (unless (all_known (listed_names s) gs) unknown_field onces) u (ap not e)
      (ranked-unless (all_known (listed_names s) fs) (all_known (listed_names s) gs) unknown_field once onces u known
      (ranked-test (included_once s) (included_once s) duplicate_field made mades u refl
      (structs (selected_fields s fs) (selected_fields s gs) NonNullable NonNullable (selected-under s fs gs x) (k.own NonNullable)))) h
  select-under s _ _ u (bools n m g) e h = let no : ⊥ = cc in absurd no
  select-under s _ _ u (ints p n m g) e h = let no : ⊥ = cc in absurd no
  select-under s _ _ u (texts n m g) e h = let no : ⊥ = cc in absurd no
  select-under s _ _ u (lists d f n m x g) e h = let no : ⊥ = cc in absurd no

  -- lists of types
  length-under : (ts us : List Ty) → UnderList rel ts us → length ts ≡ length us
  length-under _ _ ended = refl
  length-under _ _ (further t u ts us x y) = ap suc (length-under ts us y)

  pub zipped-under : (names : List Bytes) (ts us : List Ty) → UnderList rel ts us → UnderFields rel (zipped names ts) (zipped names us)
  zipped-under [] ts us x = no_more
  zipped-under (f ∷ names) _ _ ended = no_more
  zipped-under (f ∷ names) _ _ (further t u ts us x y) = one_more f t u (zipped names ts) (zipped names us) x (zipped-under names ts us y)

  pub pack-under : (names : List Bytes) (n : Nullability) (ts us : List Ty) (u : Ty) → UnderList rel ts us → pack_type names n us ≡ Ok u → Ranked rel (pack_type names n ts) u
  pack-under names n ts us u x h =
      let made = struct_ty (zipped names ts) n in
      let mades = struct_ty (zipped names us) n in
      ranked-unless (distinct_names names) (distinct_names names) duplicate_field (unless (nat_eq (length names) (length ts)) type_mismatch (Ok made))
      (unless (nat_eq (length names) (length us)) type_mismatch (Ok mades)) u refl
      (ranked-test (nat_eq (length names) (length ts)) (nat_eq (length names) (length us)) type_mismatch made mades u (ap (nat_eq (length names)) (length-under ts us x))
      (structs (zipped names ts) (zipped names us) n n (zipped-under names ts us x) (k.own n))) h

  last_giver-under : (f : Bytes) (ts us : List Ty) → UnderList rel ts us → UnderOption rel (last_giver names_in f ts) (last_giver names_in f us)
  last_giver-under f _ _ ended = neither
  last_giver-under f _ _ (further t u ts us x y) = later (last_giver names_in f ts) (last_giver names_in f us) (last_giver-under f ts us y)
    where
      here : (b c : Bool) → b ≡ c → UnderOption rel (cond b (Some t) None) (cond c (Some u) None)
      here true true e = both t u x
      here false false e = neither
      here true false e = let no : ⊥ = cc in absurd no
      here false true e = let no : ⊥ = cc in absurd no

      later : (o p : Option Ty) → UnderOption rel o p → UnderOption rel (option_or o (cond (has_name f (names_in t)) (Some t) None)) (option_or p (cond (has_name f (names_in u)) (Some u) None))
      later _ _ neither = here (has_name f (names_in t)) (has_name f (names_in u)) (ap (has_name f) (names_in-under t u x))
      later _ _ (both v w z) = both v w z

  pub merged_type_at-under : (f : Bytes) (ts us : List Ty) → UnderList rel ts us → UnderOption rel (merged_type_at f ts) (merged_type_at f us)
  merged_type_at-under f ts us x = go (last_giver names_in f ts) (last_giver names_in f us) (last_giver-under f ts us x)
    where
      go : (o p : Option Ty) → UnderOption rel o p → UnderOption rel (option_and_then (type_in f) o) (option_and_then (type_in f) p)
      go _ _ neither = neither
      go _ _ (both t u y) = type_in-under f t u y

  merged_fields-under : (names : List Bytes) (ts us : List Ty) → UnderList rel ts us → UnderFields rel (merged_fields_at names ts) (merged_fields_at names us)
  merged_fields-under [] ts us x = no_more
  merged_fields-under (f ∷ names) ts us x =
      with_field-under f (merged_type_at f ts) (merged_type_at f us) (merged_fields_at names ts) (merged_fields_at names us) (merged_type_at-under f ts us x) (merged_fields-under names ts us x)

  pub all_names-under : (ts us : List Ty) → UnderList rel ts us → flat_map names_in ts ≡ flat_map names_in us
  all_names-under _ _ ended = refl
  all_names-under _ _ (further t u ts us x y) =
      ap (λ (ns : List Bytes). ns ++ flat_map names_in ts) (names_in-under t u x) ∙ ap (λ (ns : List Bytes). names_in u ++ ns) (all_names-under ts us y)

  all_structs-under : (ts us : List Ty) → UnderList rel ts us → list_all is_struct_ty ts ≡ list_all is_struct_ty us
  all_structs-under _ _ ended = refl
  all_structs-under _ _ (further t u ts us x y) =
      ap (λ (b : Bool). b && list_all is_struct_ty ts) (is_struct-under t u x) ∙ ap (λ (b : Bool). is_struct_ty u && b) (all_structs-under ts us y)

  pub merge-under : (n : Nullability) (ts us : List Ty) (u : Ty) → UnderList rel ts us → merge_type n us ≡ Ok u → Ranked rel (merge_type n ts) u
  merge-under n ts us u x h =
      let names = merged_names names_in us in
      let fields : UnderFields rel (merged_fields_at (merged_names names_in ts) ts) (merged_fields_at names us) =
      subst (λ (ns : List Bytes). UnderFields rel (merged_fields_at (first_names ns) ts) (merged_fields_at names us)) (sym (all_names-under ts us x)) (merged_fields-under names ts us x) in
      ranked-test (list_all is_struct_ty ts) (list_all is_struct_ty us) not_struct (struct_ty (merged_fields_at (merged_names names_in ts) ts) n) (struct_ty (merged_fields_at names us) n) u
      (all_structs-under ts us x) (structs (merged_fields_at (merged_names names_in ts) ts) (merged_fields_at names us) n n fields (k.own n)) h
