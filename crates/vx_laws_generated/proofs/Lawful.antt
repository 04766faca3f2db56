-- The statistics break no rule of zones, and each of their values is one of its type.
use Rattle.std.proofs.Common.{◌≡◌, ◌∙◌, sym, ap, refl, ℕ, ◌+◌, ◌*◌, ◌/◌, ◌^◌, ◌<◌, min, max, Bool, true, cond, not, ◌&&◌, length, Option, Some, None, eq-eqb, arith}
use Rattle.std.specs.List.{list_all}
use Rattle.std.proofs.lemmas.Bool.{and_from, le-leb}
use Rattle.std.proofs.lemmas.List.{length-map}
use Rattle.vx_dtype.specs.declared.Stat.{Stat}
use Rattle.vx_dtype.specs.declared.Stat.TheVariants.{Min, Max, NaNCount, NullCount}
use Rattle.vx_dtype.specs.declared.Nullability.TheVariants.{Nullable}
use Rattle.vx_dtype.specs.Types.{int_ty}
use Rattle.vx_dtype.specs.TypeRules.{no_name_twice, depth_of}
use Rattle.vx_dtype.specs.Equal.{ty_eq}
use Rattle.vx_dtype.specs.Fits.{fits}
use Rattle.vx_dtype.specs.Values.{Typed}
use Rattle.vx_zones.specs.declared.errors.ZoneError.TheVariants as errors
use Rattle.vx_zones.specs.Zoning.{broken_rule, counts_blocks, has_its_type, scalars_fit}
use Rattle.vx_laws_generated.specs.GeneratedTable.{GeneratedColumn, id_column, v_column, number_at, integer_of, numbers_in, block_numbers, block_length, bound_of, bound_value, bound_in, bounds_of, generated_zones}
use Rattle.vx_laws_generated.specs.GeneratedLaws.{GeneratedZonesAreLawful}
use Rattle.vx_laws_generated.proofs.Ranges.{all-of-range}
use Rattle.vx_laws_generated.proofs.Chosen.{OnNumber, OnNumbers, on-range, chosen-keeps}
use Rattle.vx_laws_generated.proofs.Blocks.{block-within, v-below}

-- one value per block
counted : (rows : ℕ) (c : GeneratedColumn) (stat : Stat) → counts_blocks (generated_zones rows).lengths (bounds_of rows c stat) ≡ true
counted rows c stat =
    eq-eqb (length (bounds_of rows c stat).values) (length (generated_zones rows).lengths)
    (length-map (block_numbers rows) (bound_in c stat rows) ∙ sym (length-map (block_numbers rows) (block_length rows)))

-- of the column's type, nullable
typed-bound : (c : GeneratedColumn) (n : Option ℕ) → ty_eq (bound_value (integer_of c) n).ty (int_ty (integer_of c) Nullable) ≡ true
unfolding ty_eq
typed-bound id_column None = refl
typed-bound id_column (Some n) = refl
typed-bound v_column None = refl
typed-bound v_column (Some n) = refl

typed-bounds : (rows : ℕ) (c : GeneratedColumn) (stat : Stat) → list_all (λ s. ty_eq s.ty (int_ty (integer_of c) Nullable)) (bounds_of rows c stat).values ≡ true
typed-bounds rows c stat =
    all-of-range (λ (s : Typed). ty_eq s.ty (int_ty (integer_of c) Nullable)) (bound_in c stat rows) 0 ((rows + 63) / 64)
    (λ block within. typed-bound c (bound_of stat (numbers_in c rows block)))

-- ---- values of the types

-- each number of a block is small enough
abbrev most : GeneratedColumn → ℕ
most id_column = 4294967296
most v_column = 100

number-below : (c : GeneratedColumn) (row : ℕ) → row < 2 ^ 32 → OnNumber (λ n. n < most c) (number_at c row)
number-below id_column row h = let below : row < 4294967296 = omega arith in below
number-below v_column row h = v-below row

numbers-below : (rows : ℕ) → rows < 2 ^ 32 → (c : GeneratedColumn) (block : ℕ) → block < 0 + (rows + 63) / 64 → OnNumbers (λ n. n < most c) (numbers_in c rows block)
numbers-below rows h c block within =
    on-range (λ n. n < most c) (number_at c) (64 * block) (block_length rows block)
    (λ row here. let end = block-within rows block within in number-below c row (omega arith))

bound-below : (c : GeneratedColumn) (stat : Stat) (rows block : ℕ) → OnNumbers (λ n. n < most c) (numbers_in c rows block)
    → OnNumber (λ n. n < most c) (bound_of stat (numbers_in c rows block))
bound-below c Min rows block h = chosen-keeps min (λ n. n < most c) (λ n m p q. omega arith) (numbers_in c rows block) h
bound-below c Max rows block h = chosen-keeps max (λ n. n < most c) (λ n m p q. omega arith) (numbers_in c rows block) h
bound-below c NaNCount rows block h = tt
bound-below c NullCount rows block h = tt

bound-fits : (c : GeneratedColumn) (n : Option ℕ) → OnNumber (λ n. n < most c) n
    → fits (bound_value (integer_of c) n).value (bound_value (integer_of c) n).ty ≡ true
unfolding fits
bound-fits id_column None h = refl
bound-fits id_column (Some n) h = le-leb n 9223372036854775807 (omega arith)
bound-fits v_column None h = refl
bound-fits v_column (Some n) h = le-leb n 2147483647 (omega arith)

pub bound-in_fits : (rows : ℕ) → rows < 2 ^ 32 → (c : GeneratedColumn) (stat : Stat) (block : ℕ) → block < 0 + (rows + 63) / 64
    → fits (bound_in c stat rows block).value (bound_in c stat rows block).ty ≡ true
bound-in_fits rows h c stat block within = bound-fits c (bound_of stat (numbers_in c rows block)) (bound-below c stat rows block (numbers-below rows h c block within))

bounds-fit : (rows : ℕ) → rows < 2 ^ 32 → (c : GeneratedColumn) (stat : Stat) → scalars_fit (bounds_of rows c stat).values ≡ true
bounds-fit rows h c stat =
    all-of-range (λ (s : Typed). fits s.value s.ty) (bound_in c stat rows) 0 ((rows + 63) / 64)
    (λ block within. bound-in_fits rows h c stat block within)

-- ---- the rules

-- what holds of the four statistics
all-four : (a b c d : Bool) → a ≡ true → b ≡ true → c ≡ true → d ≡ true → (a && (b && (c && (d && true)))) ≡ true
all-four a b c d p q r s = and_from a (b && (c && (d && true))) p (and_from b (c && (d && true)) q (and_from c (d && true) r (and_from d true s refl)))

no-rule-broken : (rows : ℕ) → broken_rule (generated_zones rows) ≡ None
unfolding broken_rule no_name_twice depth_of
no-rule-broken rows =
    let zones = generated_zones rows in
    let counts : list_all (counts_blocks zones.lengths) zones.stats ≡ true =
    all-four _ _ _ _ (counted rows id_column Min) (counted rows id_column Max) (counted rows v_column Min) (counted rows v_column Max) in
    let types : list_all (has_its_type zones.columns) zones.stats ≡ true =
    all-four _ _ _ _ (typed-bounds rows id_column Min) (typed-bounds rows id_column Max) (typed-bounds rows v_column Min) (typed-bounds rows v_column Max) in
    ap (λ (b : Bool). cond (not b) (Some errors.WrongStatCount) (cond (not (list_all (has_its_type zones.columns) zones.stats)) (Some errors.WrongStatType) None)) counts
    ∙ ap (λ (b : Bool). cond (not b) (Some errors.WrongStatType) None) types

pub generated_zones_are_lawful : GeneratedZonesAreLawful
generated_zones_are_lawful rows h = record {
  lawful = no-rule-broken rows;
  fitting = all-four _ _ _ _ (bounds-fit rows h id_column Min) (bounds-fit rows h id_column Max) (bounds-fit rows h v_column Min) (bounds-fit rows h v_column Max);
}
