-- Numbers as columns of their types.
use Rattle.std.proofs.Common.{◌≡◌, ◌∙◌, ap, ap₂, refl, subst, ℕ, zero, suc, ◌+◌, ◌*◌, ◌/◌, ◌^◌, ◌<◌, Bool, true, ℤ, pos, List, [], ◌∷◌, map, option_map, Option, Some, None, Result, Ok, Err, IfOk, arith}
use Rattle.std.specs.List.{range_with_len}
use Rattle.std.proofs.lemmas.Bool.{and_from, le-leb}
use Rattle.vx_dtype.specs.declared.PType.{PType}
use Rattle.vx_dtype.specs.declared.Nullability.{Nullability}
use Rattle.vx_dtype.specs.Types.{int_ty}
use Rattle.vx_dtype.specs.TypeRules.{no_name_twice}
use Rattle.vx_dtype.specs.Fits.{fits}
use Rattle.vx_dtype.specs.Values.{Raw, raw_int, Val, valued}
use Rattle.vx_column.specs.Columns.{Column, column, raws_fit, raw_rows}
use Rattle.vx_column.specs.Answers.{AnswersColumn, unless, optional_raw, column_of_raws}
use Rattle.vx_column.specs.declared.errors.ColumnError.{ColumnError}
use Rattle.vx_column.specs.declared.errors.ColumnError.TheVariants.{WrongValue}
use Rattle.vx_laws_generated.specs.GeneratedTable.{GeneratedColumn, id_column, v_column, integer_of, nullability_of, number_at, number_val, numbers_in, block_length}
use Rattle.vx_laws_generated.proofs.Chosen.{OnNumber}
use Rattle.vx_laws_generated.proofs.Blocks.{block-within, v-below}
use Rattle.vx_generated.specs.GeneratedBlocks.{column_in}
use Rattle.vx_generated.specs.GeneratedViews.{integers_of}

-- the raw values of numbers
abbrev raws_of_numbers : List (Option ℕ) → List Raw
raws_of_numbers ns = map (optional_raw raw_int) (integers_of ns)

-- a number of a column's type, or a null where the column can be null
abbrev IsOf : GeneratedColumn → Option ℕ → Type 0
IsOf id_column None = ⊥
IsOf id_column (Some n) = n < 4294967296
IsOf v_column None = Unit {0}
IsOf v_column (Some n) = n < 100

abbrev AreOf : GeneratedColumn → List (Option ℕ) → Type 0
AreOf c [] = Unit {0}
AreOf c (n ∷ ns) = IsOf c n × AreOf c ns

one-fits : (c : GeneratedColumn) (n : Option ℕ) → IsOf c n → fits (optional_raw raw_int (option_map pos n)) (int_ty (integer_of c) (nullability_of c)) ≡ true
unfolding fits
one-fits id_column None h = absurd h
one-fits id_column (Some n) h = le-leb n 9223372036854775807 (omega arith)
one-fits v_column None h = refl
one-fits v_column (Some n) h = le-leb n 2147483647 (omega arith)

all-fit : (c : GeneratedColumn) (ns : List (Option ℕ)) → AreOf c ns → raws_fit (int_ty (integer_of c) (nullability_of c)) (raws_of_numbers ns) ≡ true
all-fit c [] h = refl
all-fit c (n ∷ ns) h = and_from _ _ (one-fits c n h.0) (all-fit c ns h.1)

-- what they stand for
one-value : (p : PType) (m : Nullability) (n : Option ℕ) → valued (optional_raw raw_int (option_map pos n)) (int_ty p m) ≡ number_val p n
unfolding valued
one-value p m None = refl
one-value p m (Some n) = refl

all-values : (p : PType) (m : Nullability) (ns : List (Option ℕ)) → raw_rows (int_ty p m) (raws_of_numbers ns) ≡ map (number_val p) ns
all-values p m [] = refl
all-values p m (n ∷ ns) = ap₂ (λ (x : Val) (xs : List Val). x ∷ xs) (one-value p m n) (all-values p m ns)

-- the numbers of a block are of their column's type
v-is_of : (n : Option ℕ) → OnNumber (λ k. k < 100) n → IsOf v_column n
v-is_of None h = tt
v-is_of (Some n) h = h

row-is_of : (c : GeneratedColumn) (row : ℕ) → row < 2 ^ 32 → IsOf c (number_at c row)
row-is_of id_column row h = let below : row < 4294967296 = omega arith in below
row-is_of v_column row h = v-is_of (number_at v_column row) (v-below row)

are-of_range : (c : GeneratedColumn) (a n : ℕ) → ((i : ℕ) → i < a + n → IsOf c (number_at c i)) → AreOf c (map (number_at c) (range_with_len a n))
are-of_range c a zero h = tt
are-of_range c a (suc n) h = (h a (omega arith), are-of_range c (a + 1) n (λ i k. h i (omega arith)))

are-of : (c : GeneratedColumn) (rows block : ℕ) → rows < 2 ^ 32 → block < (rows + 63) / 64 → AreOf c (numbers_in c rows block)
are-of c rows block h within =
    are-of_range c (64 * block) (block_length rows block) (λ row here. let end = block-within rows block (omega arith) in row-is_of c row (omega arith))

-- the column that is made of them
made-of : (c : GeneratedColumn) (ns : List (Option ℕ)) → AreOf c ns
    → column_of_raws (int_ty (integer_of c) (nullability_of c)) (raws_of_numbers ns) ≡ Ok (column (int_ty (integer_of c) (nullability_of c)) (map (number_val (integer_of c)) ns))
unfolding no_name_twice
made-of c ns h =
    let t = int_ty (integer_of c) (nullability_of c) in
    ap (λ (b : Bool). unless b WrongValue (Ok (column t (raw_rows t (raws_of_numbers ns))))) (all-fit c ns h)
    ∙ ap (λ (rows : List Val). Ok (column t rows)) (all-values (integer_of c) (nullability_of c) ns)

pub made-in : (c : GeneratedColumn) (rows block : ℕ) (integers : List (Option ℤ)) → rows < 2 ^ 32 → block < (rows + 63) / 64
    → integers ≡ integers_of (numbers_in c rows block)
    → column_of_raws (int_ty (integer_of c) (nullability_of c)) (map (optional_raw raw_int) integers) ≡ Ok (column_in c rows block)
made-in c rows block integers h within e =
    ap (λ (is : List (Option ℤ)). column_of_raws (int_ty (integer_of c) (nullability_of c)) (map (optional_raw raw_int) is)) e
    ∙ made-of c (numbers_in c rows block) (are-of c rows block h within)

-- an answer that is made of them
pub answers-made : (c : GeneratedColumn) (rows block : ℕ) (p : PType) (m : Nullability) (integers : List (Option ℤ)) (answer : Result Column ColumnError)
    → rows < 2 ^ 32 → block < (rows + 63) / 64 → p ≡ integer_of c → m ≡ nullability_of c → integers ≡ integers_of (numbers_in c rows block)
    → AnswersColumn answer (column_of_raws (int_ty p m) (map (optional_raw raw_int) integers)) → AnswersColumn answer (Ok (column_in c rows block))
answers-made c rows block p m integers answer h within e g k told =
    let types : column_of_raws (int_ty p m) (map (optional_raw raw_int) integers)
    ≡ column_of_raws (int_ty (integer_of c) (nullability_of c)) (map (optional_raw raw_int) integers) =
    ap₂ (λ (q : PType) (n : Nullability). column_of_raws (int_ty q n) (map (optional_raw raw_int) integers)) e g in
    subst (AnswersColumn answer) (types ∙ made-in c rows block integers h within k) told

pub made-is : {E : Type 0} (told : Column) (answer : Result Column ColumnError) (result : Result Column E) → IfOk result (λ c. answer ≡ Ok c) → AnswersColumn answer (Ok told)
    → IfOk result (λ c. c ≡ told)
made-is {E} told answer (Err e) h k = tt
made-is {E} told answer (Ok c) h k = ok-is c told (subst (λ a. AnswersColumn a (Ok told)) h k)
  where
    ok-is : (a b : Column) → AnswersColumn (Ok a) (Ok b) → a ≡ b
    ok-is a b e = cc
