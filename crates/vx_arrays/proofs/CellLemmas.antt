-- Cells as the columns of the layer below take them.
use Rattle.std.proofs.Common.{◌≡◌, List, [], ◌∷◌, ◌++◌, Bool, true, ◌&&◌, Option, Some, None, refl, ◌∙◌, ap}
use Rattle.std.specs.Prelude.{ℤ}
use Rattle.std.proofs.lemmas.Bool.{and_parts, and_from}
use Rattle.std.proofs.lemmas.List.Folds.{list_all-append}
use Rattle.vx_dtype.specs.declared.Nullability.{Nullability}
use Rattle.vx_dtype.specs.declared.Nullability.TheVariants.{NonNullable, Nullable}
use Rattle.vx_dtype.specs.declared.PType.{PType}
use Rattle.vx_dtype.specs.Fits.{in_range}
use Rattle.vx_numbers.specs.Numbers.{NumberList, number_list, all_in_range, fits_ptype}
use Rattle.vx_column.specs.ColumnParts.{truths_fit, numbers_fit}
use Rattle.vx_column.proofs.TruthLemmas.{truths_fit_nullable}
use Rattle.vx_arrays.specs.Arrays.{may_have}

-- a column of booleans may have them
pub truths_may : (n : Nullability) (ts : List (Option Bool)) → may_have n ts ≡ true → truths_fit n ts ≡ true
truths_may Nullable ts h = truths_fit_nullable ts
truths_may NonNullable [] h = refl
truths_may NonNullable (None ∷ ts) h = absurd cc
truths_may NonNullable (Some b ∷ ts) h = truths_may NonNullable ts h

-- a column of integers, where they are numbers of the type
pub numbers_may : (p : PType) (n : Nullability) (ns : List (Option ℤ)) → all_in_range p ns ≡ true → may_have n ns ≡ true → numbers_fit p n ns ≡ true
numbers_may p n [] f h = refl
numbers_may p Nullable (None ∷ ns) f h = numbers_may p Nullable ns f refl
numbers_may p Nullable (Some i ∷ ns) f h =
    let both = and_parts (in_range p i) (all_in_range p ns) f in
    and_from (in_range p i) (numbers_fit p Nullable ns) both.0 (numbers_may p Nullable ns both.1 refl)
numbers_may p NonNullable (None ∷ ns) f h = absurd cc
numbers_may p NonNullable (Some i ∷ ns) f h =
    let both = and_parts (in_range p i) (all_in_range p ns) f in
    and_from (in_range p i) (numbers_fit p NonNullable ns) both.0 (numbers_may p NonNullable ns both.1 h)

-- the same of their list
pub number_list_may : (p : PType) (n : Nullability) (ns : List (Option ℤ)) (l : NumberList) → l ≡ number_list p ns → all_in_range p ns ≡ true
    → may_have n ns ≡ true → numbers_fit l.ptype n l.numbers ≡ true
number_list_may p n ns l e f h = ap (λ (m : NumberList). numbers_fit m.ptype n m.numbers) e ∙ numbers_may p n ns f h

-- one number more
pub pushed_in_range : (p : PType) (ns ms : List (Option ℤ)) (i : Option ℤ) → ms ≡ ns ++ i ∷ [] → all_in_range p ns ≡ true → fits_ptype p i ≡ true
    → all_in_range p ms ≡ true
pushed_in_range p ns ms i e f h =
    ap (all_in_range p) e ∙ list_all-append (fits_ptype p) ns (i ∷ []) ∙ λ k. f k && (h k && true)
