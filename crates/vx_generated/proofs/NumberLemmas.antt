-- Lists that grow by one number at a time, and numbers that are constants of their types.
use Rattle.std.proofs.Common.{◌≡◌, ◌∙◌, sym, ap, ap₂, refl, subst, ℕ, ◌+◌, ◌/◌, ◌^◌, ◌<◌, true, pos, List, [], ◌∷◌, ◌++◌, map, Option, arith}
use Rattle.std.specs.List.{range_with_len}
use Rattle.std.proofs.lemmas.Bool.{le-leb}
use Rattle.std.proofs.lemmas.List.FromFn.{map-range_with_len_more}
use Rattle.vx_dtype.specs.declared.Nullability.TheVariants.{NonNullable}
use Rattle.vx_dtype.specs.declared.PType.{PType}
use Rattle.vx_dtype.specs.declared.Stat.{Stat}
use Rattle.vx_dtype.specs.Types.{int_ty}
use Rattle.vx_dtype.specs.Fits.{fits}
use Rattle.vx_dtype.specs.Values.{raw_int}
use Rattle.vx_laws_generated.specs.GeneratedTable.{GeneratedColumn, id_column, v_column, integer_of, numbers_in, bound_of, bound_value, bound_in}
use Rattle.vx_laws_generated.proofs.Lawful.{bound-in_fits}

-- one more behind those of a range
pub more-of_range : {X : Type 0} (f : ℕ → X) (a n : ℕ) (xs ys : List X) (x : X) → ys ≡ xs ++ x ∷ [] → xs ≡ map f (range_with_len a n) → x ≡ f (a + n)
    → ys ≡ map f (range_with_len a (n + 1))
more-of_range {X} f a n xs ys x e g h =
    e ∙ ap₂ (λ (zs : List X) (z : X). zs ++ z ∷ []) g h ∙ sym (map-range_with_len_more f a n (a + n) refl)

pub more-from_zero : {X : Type 0} (f : ℕ → X) (n : ℕ) (xs ys : List X) (x : X) → ys ≡ xs ++ x ∷ [] → xs ≡ map f (range_with_len 0 n) → x ≡ f n
    → ys ≡ map f (range_with_len 0 (n + 1))
more-from_zero f n xs ys x e g h = let here : n ≡ 0 + n = omega arith in more-of_range f 0 n xs ys x e g (h ∙ ap f here)

-- the half of the rows, and the bound of the second column
pub half-fits : (rows : ℕ) → rows < 2 ^ 32 → fits (raw_int (pos (rows / 2))) (int_ty (integer_of id_column) NonNullable) ≡ true
unfolding fits
half-fits rows h = le-leb (rows / 2) 9223372036854775807 (omega arith)

pub v_bound-fits : fits (raw_int (pos 50)) (int_ty (integer_of v_column) NonNullable) ≡ true
unfolding fits
v_bound-fits = refl

-- a bound of a block is a value of its type
pub bound-told : (c : GeneratedColumn) (stat : Stat) (rows block : ℕ) (p : PType) (numbers : List (Option ℕ)) (bound : Option ℕ) → p ≡ integer_of c
    → numbers ≡ numbers_in c rows block → bound ≡ bound_of stat numbers → bound_value p bound ≡ bound_in c stat rows block
bound-told c stat rows block p numbers bound e g h =
    ap₂ (λ (q : PType) (n : Option ℕ). bound_value q n) e (h ∙ ap (bound_of stat) g)

pub told-fits : (c : GeneratedColumn) (stat : Stat) (rows block : ℕ) (p : PType) (numbers : List (Option ℕ)) (bound : Option ℕ) → p ≡ integer_of c
    → numbers ≡ numbers_in c rows block → bound ≡ bound_of stat numbers → rows < 2 ^ 32 → block < (rows + 63) / 64
    → fits (bound_value p bound).value (bound_value p bound).ty ≡ true
told-fits c stat rows block p numbers bound e g h few within =
    subst (λ s. fits s.value s.ty ≡ true) (sym (bound-told c stat rows block p numbers bound e g h)) (bound-in_fits rows few c stat block (omega arith))
