-- Blocks that are a table: the columns at a place of them, and steps over lists.
use Rattle.std.proofs.Common.{◌≡◌, ap, ◌∙◌, subst, ℕ, zero, suc, ◌+◌, ◌<◌, ◌≤◌, true, Some, List, [], ◌∷◌, length, map, drop, get_or, arith}
use Rattle.std.specs.Cmp.{first_so, second_so}
use Rattle.std.specs.List.{AllByRecursion, list_all, slice_get}
use Rattle.std.specs.declared.vec.Vec.{Vec}
use Rattle.std.specs.declared.alloc.Global.{Global}
use Rattle.std.proofs.lemmas.Bool.{and_parts}
use Rattle.std.proofs.lemmas.List.{drop_all}
use Rattle.vx_dtype.specs.Types.{Ty, Fields, no_fields, field, struct_ty}
use Rattle.vx_dtype.specs.declared.Nullability.{Nullability}
use Rattle.vx_dtype.specs.Equal.{ty_eq}
use Rattle.vx_dtype.specs.EqualLaws.{ty_decides}
use Rattle.vx_dtype.specs.StructTypes.{field_types}
use Rattle.vx_dtype.specs.TypeRules.{distinct_names, field_names, no_name_twice, no_name_twice_below}
use Rattle.vx_column.specs.Columns.{Column}
use Rattle.vx_tables.specs.Blocks.{block_view, block_long, blocks_long, block_typed}
use Rattle.vx_tables.proofs.MemberLemmas.{equal_numbers}
use Rattle.vx_cutting.specs.Cutting.{column_there, joined_column, joined_from, HasColumn}

-- each block of a table has a column of the type of the field at a place
typed_there : (ts : List Ty) (cs : List Column) (i : ℕ) (t : Ty) → block_typed ts cs ≡ true → slice_get ts i ≡ Some t → i < length cs → (column_there i cs).ty ≡ t
typed_there ts [] i t h e l = absurd (omega (arith, l))
typed_there [] (c ∷ cs) i t h e l = let no : ⊥ = cc in absurd no
typed_there (u ∷ ts) (c ∷ cs) zero t h e l =
    let same : u ≡ t = cc in
    (ty_decides c.ty u).0 (first_so (ty_eq c.ty u) (block_typed ts cs) h) ∙ same
typed_there (u ∷ ts) (c ∷ cs) (suc i) t h e l = typed_there ts cs i t (second_so (ty_eq c.ty u) (block_typed ts cs) h) e (omega (arith, l))

pub each_has : (ts : List Ty) (w : ℕ) (ns : List ℕ) (bs : List (List Column)) (i : ℕ) (t : Ty) → blocks_long w ns bs ≡ true → list_all (block_typed ts) bs ≡ true → slice_get ts i ≡ Some t → i < w → AllByRecursion (HasColumn i t) bs
each_has ts w [] [] i t h k e l = tt
each_has ts w [] (cs ∷ bs) i t h k e l = let no : ⊥ = cc in absurd no
each_has ts w (n ∷ ns) [] i t h k e l = let no : ⊥ = cc in absurd no
each_has ts w (n ∷ ns) (cs ∷ bs) i t h k e l =
    let long = and_parts (block_long w n cs) (blocks_long w ns bs) h in
    let wide : length cs ≡ w = equal_numbers (length cs) w (first_so _ _ long.0) in
    let typed = and_parts (block_typed ts cs) (list_all (block_typed ts) bs) k in
    let within : i < length cs = omega (arith, l, wide) in
    ((within, typed_there ts cs i t typed.0 e within), each_has ts w ns bs i t long.1 typed.1 e l)

-- so the one at a place has
pub has_at : (xs : List (Vec Column Global)) (i place : ℕ) (t : Ty) (d : Vec Column Global) → AllByRecursion (HasColumn place t) (map block_view xs) → i < length xs → HasColumn place t (get_or xs i d).items
has_at [] i place t d h k = absurd (omega (arith, k))
has_at (x ∷ xs) zero place t d h k = h.0
has_at (x ∷ xs) (suc i) place t d h k = has_at xs i place t d h.1 (omega (arith, k))

-- in no struct of a field's type a name stands twice, where none does in the row type
names_at : (fs : Fields) (i : ℕ) (t : Ty) → no_name_twice_below fs ≡ true → slice_get (field_types fs) i ≡ Some t → no_name_twice t ≡ true
unfolding no_name_twice
names_at no_fields i t h e = let no : ⊥ = cc in absurd no
names_at (field f u fs) zero t h e = let same : u ≡ t = cc in subst (λ (w : Ty). no_name_twice w ≡ true) same (and_parts (no_name_twice u) (no_name_twice_below fs) h).0
names_at (field f u fs) (suc i) t h e = names_at fs i t (and_parts (no_name_twice u) (no_name_twice_below fs) h).1 e

pub names_there : (fs : Fields) (n : Nullability) (i : ℕ) (t : Ty) → no_name_twice (struct_ty fs n) ≡ true → slice_get (field_types fs) i ≡ Some t → no_name_twice t ≡ true
unfolding no_name_twice
names_there fs n i t h e = names_at fs i t (and_parts (distinct_names (field_names fs)) (no_name_twice_below fs) h).1 e

-- what stands at a place, and what behind it
drop_here : {A : Type 0} (xs : List A) (i : ℕ) (x : A) → slice_get xs i ≡ Some x → drop i xs ≡ x ∷ drop (i + 1) xs
drop_here [] i x e = let no : ⊥ = cc in absurd no
drop_here (y ∷ ys) zero x e = let same : y ≡ x = cc in ap (λ z. z ∷ ys) same
drop_here (y ∷ ys) (suc i) x e =
    let on : suc (i + 1) ≡ suc i + 1 = omega arith in
    drop_here ys i x e ∙ ap (λ k. x ∷ drop k (y ∷ ys)) on

-- the columns from a place on are the one there and those behind it
pub joined_step : (bs : List (List Column)) (i : ℕ) (ts : List Ty) (t : Ty) → slice_get ts i ≡ Some t → joined_from bs i (drop i ts) ≡ joined_column bs i t ∷ joined_from bs (i + 1) (drop (i + 1) ts)
joined_step bs i ts t e = ap (joined_from bs i) (drop_here ts i t e)

-- none are past the last
pub joined_past : (bs : List (List Column)) (i : ℕ) (ts : List Ty) → length ts ≤ i → joined_from bs i (drop i ts) ≡ []
joined_past bs i ts l = ap (joined_from bs i) (drop_all i ts l)
