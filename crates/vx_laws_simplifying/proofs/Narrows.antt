-- Types that are another but perhaps less nullable.
use Rattle.std.proofs.Common.{◌≡◌, refl, true, ◌&&◌, Option, List, [], ◌∷◌}
use Rattle.std.proofs.lemmas.Bool.{and_from}
use Rattle.vx_dtype.specs.declared.Nullability.{Nullability}
use Rattle.vx_dtype.specs.declared.Nullability.TheVariants.{NonNullable, Nullable}
use Rattle.vx_dtype.specs.Types.{Bytes, Ty, Fields}
use Rattle.vx_dtype.specs.TypeRules.{union, same_ptype, fields_of, field_type}
use Rattle.std.specs.Str.{bytes_eq}
use Rattle.vx_laws.proofs.Inverting.{bytes_eq-itself}
use Rattle.vx_laws.proofs.Fitting.{same_ptype-itself}
use Rattle.vx_laws.proofs.Paths.{in_option, path_in}
use Rattle.vx_laws_simplifying.specs.Narrowing.{no_more_nullable, narrows, narrow_fields}
use Rattle.vx_laws_simplifying.proofs.Under.{Nulling, Under, bools, ints, texts, lists, structs, UnderFields, no_more, one_more, UnderOption, neither, both, field_type-under, fields_of-under}

no_more-own : (n : Nullability) → no_more_nullable n n ≡ true
no_more-own NonNullable = refl
no_more-own Nullable = refl

no_more-unions : (a b c d : Nullability) → no_more_nullable a b ≡ true → no_more_nullable c d ≡ true → no_more_nullable (union a c) (union b d) ≡ true
no_more-unions a Nullable NonNullable d h k = top (union a NonNullable)
  where
    top : (n : Nullability) → no_more_nullable n Nullable ≡ true
    top NonNullable = refl
    top Nullable = refl
no_more-unions NonNullable Nullable Nullable d h k = refl
no_more-unions Nullable Nullable Nullable d h k = refl
no_more-unions NonNullable NonNullable c d h k = k
no_more-unions Nullable NonNullable c d h k = let no : ⊥ = cc in absurd no

no_more-then : (a b c : Nullability) → no_more_nullable a b ≡ true → no_more_nullable b c ≡ true → no_more_nullable a c ≡ true
no_more-then NonNullable b c h k = refl
no_more-then Nullable Nullable c h k = k
no_more-then Nullable NonNullable c h k = let no : ⊥ = cc in absurd no

pub narrowing : Nulling no_more_nullable
narrowing = record { own = no_more-own; unions = no_more-unions }

-- a type that narrows another
abbrev pub Narrow : Ty → Ty → Type 0
Narrow a b = Under no_more_nullable a b

mutual
  pub narrow-then : (a b c : Ty) → Narrow a b → Narrow b c → Narrow a c
  narrow-then _ _ _ (bools n m h) (bools _ l g) = bools n l (no_more-then n m l h g)
  narrow-then _ _ _ (ints p n m h) (ints _ _ l g) = ints p n l (no_more-then n m l h g)
  narrow-then _ _ _ (texts n m h) (texts _ l g) = texts n l (no_more-then n m l h g)
  narrow-then _ _ _ (lists e d n m x h) (lists _ f _ l y g) = lists e f n l (narrow-then e d f x y) (no_more-then n m l h g)
  narrow-then _ _ _ (structs fs gs n m x h) (structs _ is _ l y g) = structs fs is n l (fields-then fs gs is x y) (no_more-then n m l h g)

  pub fields-then : (fs gs is : Fields) → UnderFields no_more_nullable fs gs → UnderFields no_more_nullable gs is → UnderFields no_more_nullable fs is
  fields-then _ _ _ no_more no_more = no_more
  fields-then _ _ _ (one_more f t u fs gs x y) (one_more _ _ w _ is z v) = one_more f t w fs is (narrow-then t u w x z) (fields-then fs gs is y v)

mutual
  unfolding narrows

  pub narrow-narrows : (a b : Ty) → Narrow a b → narrows a b ≡ true
  narrow-narrows _ _ (bools n m h) = h
  narrow-narrows _ _ (ints p n m h) = and_from (same_ptype p p) (no_more_nullable n m) (same_ptype-itself p) h
  narrow-narrows _ _ (texts n m h) = h
  narrow-narrows _ _ (lists e d n m x h) = and_from (narrows e d) (no_more_nullable n m) (narrow-narrows e d x) h
  narrow-narrows _ _ (structs fs gs n m x h) = and_from (narrow_fields fs gs) (no_more_nullable n m) (narrow-fields fs gs x) h

  pub narrow-fields : (fs gs : Fields) → UnderFields no_more_nullable fs gs → narrow_fields fs gs ≡ true
  narrow-fields _ _ no_more = refl
  narrow-fields _ _ (one_more f t u fs gs x y) =
      and_from (bytes_eq f f) (narrows t u && narrow_fields fs gs) (bytes_eq-itself f) (and_from (narrows t u) (narrow_fields fs gs) (narrow-narrows t u x) (narrow-fields fs gs y))

-- a path leads on in both
pub path_in-narrow : (path : List Bytes) (a b : Ty) → Narrow a b → path_in path a ≡ path_in path b
path_in-narrow [] a b x = refl
path_in-narrow (f ∷ path) a b x =
    by-types (field_type f (fields_of a)) (field_type f (fields_of b)) (field_type-under no_more_nullable narrowing f (fields_of a) (fields_of b) (fields_of-under no_more_nullable narrowing a b x)) (λ v w y. path_in-narrow path v w y)
  where
    by-types : (o p : Option Ty) → UnderOption no_more_nullable o p → ((v w : Ty) → Narrow v w → path_in path v ≡ path_in path w) → in_option (path_in path) o ≡ in_option (path_in path) p
    by-types _ _ neither k = refl
    by-types _ _ (both v w y) k = k v w y

pub not_nullable : (n : Nullability) → no_more_nullable n NonNullable ≡ true → n ≡ NonNullable
not_nullable NonNullable h = refl
not_nullable Nullable h = let no : ⊥ = cc in absurd no
