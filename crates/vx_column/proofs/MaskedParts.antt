-- Columns that are masked by truths beside them: masked again, of the rows that are kept, of fields, and made of structs.
use Rattle.std.proofs.Common.{◌≡◌, refl, ap, ◌∙◌, sym, ℕ, ◌<◌, ◌==◌, Bool, true, false, not, cond, Option, Some, None, List, [], ◌∷◌, map, length, get_or, Ok, arith}
use Rattle.std.specs.Simd.Lanes.{zip2}
use Rattle.std.specs.List.{range_with_len}
use Rattle.std.proofs.lemmas.Bool.Decides.{nat_tests}
use Rattle.std.proofs.lemmas.List.{get_or-map, length-map}
use Rattle.std.proofs.lemmas.List.FromFn.{fill_by_all, get_or-map-range_with_len, length-map-range_with_len}
use Rattle.vx_dtype.specs.declared.Nullability.{Nullability}
use Rattle.vx_dtype.specs.declared.Nullability.TheVariants.{NonNullable, Nullable}
use Rattle.vx_dtype.specs.Types.{Bytes, Ty, bool_ty, int_ty, text_ty, list_ty, struct_ty, Fields}
use Rattle.vx_dtype.specs.TypeRules.{distinct_names, field_type, fields_of, nullability_of, union, widened, with_nullability}
use Rattle.vx_dtype.specs.StructTypes.{projected}
use Rattle.vx_dtype.specs.Structs.{field_of, selected}
use Rattle.vx_dtype.specs.Values.{Val, null_val, struct_val}
use Rattle.vx_dtype.specs.Logic.{is_true_val, or3}
use Rattle.vx_words.specs.Words.{truth_val}
use Rattle.vx_words.specs.Truths.{is_true, vals_of, kept_items}
use Rattle.vx_column.specs.Answers.{field_column, found_column}
use Rattle.vx_column.specs.Columns.{Column, column, kept_rows, masked, zip_rows}
use Rattle.vx_column.specs.StructColumns.{all_have_rows, found_fields, lengths_agree, made_struct, projected_column, row_members, struct_row, truths_number}
use Rattle.vx_column.specs.Cells.{AreMaskedOf, kept_column, structs_of}
use Rattle.vx_column.proofs.FitLemmas.{nullability_with, of_both}
use Rattle.vx_column.proofs.MaskedLemmas.{masked_number, masked_there}
use Rattle.vx_column.proofs.RowLemmas.{length_zip_rows}
use Rattle.vx_column.proofs.TrueCounts.{length_kept}
use Rattle.vx_column.proofs.TruthLemmas.{kept_truths_rows, length_vals, zipped_rows}

-- rows that are masked twice are masked where one of the two is true
masked_either : (v : Val) (t k : Option Bool) → masked (masked v (truth_val t)) (truth_val k) ≡ masked v (or3 (truth_val t) (truth_val k))
masked_either v None None = refl
masked_either v None (Some true) = refl
masked_either v None (Some false) = refl
masked_either v (Some true) None = refl
masked_either v (Some true) (Some true) = refl
masked_either v (Some true) (Some false) = refl
masked_either v (Some false) None = refl
masked_either v (Some false) (Some true) = refl
masked_either v (Some false) (Some false) = refl

masked_twice : (vs : List Val) (ts ks : List (Option Bool)) → zip_rows masked (zip_rows masked vs (vals_of ts)) (vals_of ks) ≡ zip_rows masked vs (zip2 or3 (vals_of ts) (vals_of ks))
masked_twice [] ts ks = refl
masked_twice (v ∷ vs) [] ks = refl
masked_twice (v ∷ vs) (t ∷ ts) [] = refl
masked_twice (v ∷ vs) (t ∷ ts) (k ∷ ks) = λ j. masked_either v t k j ∷ masked_twice vs ts ks j

pub either_rows : (vs : List Val) (ts ks us : List (Option Bool)) → vals_of us ≡ zip2 or3 (vals_of ts) (vals_of ks) → zip_rows masked vs (vals_of us) ≡ zip_rows masked (zip_rows masked vs (vals_of ts)) (vals_of ks)
either_rows vs ts ks us e = ap (zip_rows masked vs) e ∙ sym (masked_twice vs ts ks)

pub either_length : (ts ks us : List (Option Bool)) → length ts ≡ length ks → vals_of us ≡ zip2 or3 (vals_of ts) (vals_of ks) → length us ≡ length ts
either_length ts ks us l e =
    let same : length (vals_of ts) ≡ length (vals_of ks) = length_vals ts ∙ l ∙ sym (length_vals ks) in
    sym (length_vals us) ∙ ap length (e ∙ zipped_rows or3 (vals_of ts) (vals_of ks)) ∙ length_zip_rows or3 (vals_of ts) (vals_of ks) same ∙ length_vals ts

-- of masked rows those are kept that are masked of the kept rows by the kept truths
kept_step : (b : Bool) (v m : Val) (vs ms ws : List Val) → zip_rows masked vs ms ≡ ws → zip_rows masked (cond b (v ∷ vs) vs) (cond b (m ∷ ms) ms) ≡ cond b (masked v m ∷ ws) ws
kept_step true v m vs ms ws e = ap (λ zs. masked v m ∷ zs) e
kept_step false v m vs ms ws e = e

kept_masked : (vs ms ks : List Val) → length ms ≡ length vs → zip_rows masked (kept_rows vs ks) (kept_rows ms ks) ≡ kept_rows (zip_rows masked vs ms) ks
kept_masked [] ms ks e = refl
kept_masked (v ∷ vs) [] ks e = absurd (omega (arith, e))
kept_masked (v ∷ vs) (m ∷ ms) [] e = refl
kept_masked (v ∷ vs) (m ∷ ms) (k ∷ ks) e = kept_step (is_true_val k) v m (kept_rows vs ks) (kept_rows ms ks) _ (kept_masked vs ms ks (omega (arith, e)))

pub kept_number : (vs : List Val) (ts ks : List (Option Bool)) → length ts ≡ length vs → length vs ≡ length (vals_of ks) → length (kept_items ts ks) ≡ length (kept_rows vs (vals_of ks))
kept_number vs ts ks e k =
    let own : length (vals_of ts) ≡ length (vals_of ks) = length_vals ts ∙ e ∙ k in
    sym (length_vals (kept_items ts ks)) ∙ ap length (kept_truths_rows ts ks) ∙ length_kept (vals_of ts) (vals_of ks) own ∙ sym (length_kept vs (vals_of ks) k)

pub kept_masked_column : (c d : Column) (ts ks us : List (Option Bool)) → AreMaskedOf c.ty d ts → zip_rows masked d.rows (vals_of ts) ≡ c.rows → us ≡ kept_items ts ks → column (with_nullability d.ty Nullable) (zip_rows masked (kept_rows d.rows (vals_of ks)) (vals_of us)) ≡ kept_column (vals_of ks) c
kept_masked_column c d ts ks us h r e =
    let truths : vals_of us ≡ kept_rows (vals_of ts) (vals_of ks) = ap vals_of e ∙ kept_truths_rows ts ks in
    let rows : zip_rows masked (kept_rows d.rows (vals_of ks)) (vals_of us) ≡ kept_rows c.rows (vals_of ks) =
    ap (zip_rows masked (kept_rows d.rows (vals_of ks))) truths ∙ kept_masked d.rows (vals_of ts) (vals_of ks) (length_vals ts ∙ h.lengths) ∙ ap (λ vs. kept_rows vs (vals_of ks)) r in
    λ j. column (sym h.whole j) (rows j)

-- a rule that gives null for null goes through the mask
rule_step : (f : Val → Val) (b : Bool) (v : Val) → f null_val ≡ null_val → cond b null_val (f v) ≡ f (cond b null_val v)
rule_step f true v e = sym e
rule_step f false v e = refl

rule_rows : (f : Val → Val) (vs ms : List Val) → f null_val ≡ null_val → zip_rows masked (map f vs) ms ≡ map f (zip_rows masked vs ms)
rule_rows f [] ms e = refl
rule_rows f (v ∷ vs) [] e = refl
rule_rows f (v ∷ vs) (m ∷ ms) e = λ j. rule_step f (is_true_val m) v e j ∷ rule_rows f vs ms e j

-- the fields of a type are those of the type with another nullability
fields_with : (t : Ty) (n : Nullability) → fields_of (with_nullability t n) ≡ fields_of t
fields_with (bool_ty m) n = refl
fields_with (int_ty p m) n = refl
fields_with (text_ty m) n = refl
fields_with (list_ty e m) n = refl
fields_with (struct_ty fs m) n = refl

-- so a masked column has the fields of the column within
pub masked_fields : (t : Ty) (d : Column) (ts : List (Option Bool)) → AreMaskedOf t d ts → fields_of t ≡ fields_of d.ty
masked_fields t d ts h = ap fields_of h.whole ∙ fields_with d.ty Nullable

-- a field that is null where the struct is, is of a nullable type
with_twice : (t : Ty) (n : Nullability) → with_nullability (with_nullability t n) Nullable ≡ with_nullability t Nullable
with_twice (bool_ty m) n = refl
with_twice (int_ty p m) n = refl
with_twice (text_ty m) n = refl
with_twice (list_ty e m) n = refl
with_twice (struct_ty fs m) n = refl

union_nullable : (n : Nullability) → union n Nullable ≡ Nullable
union_nullable NonNullable = refl
union_nullable Nullable = refl

widened_nullable : (t : Ty) (n : Nullability) → with_nullability (widened t n) Nullable ≡ widened t Nullable
widened_nullable t n = with_twice t (union (nullability_of t) n) ∙ ap (with_nullability t) (sym (union_nullable (nullability_of t)))

-- the field of what is masked is the field of the column within, masked by the same truths
field_step : (f : Bytes) (c d a b : Column) (ts : List (Option Bool)) (o : Option Ty) → AreMaskedOf c.ty d ts → zip_rows masked d.rows (vals_of ts) ≡ c.rows → Ok a ≡ found_column f d o → b.ty ≡ with_nullability a.ty Nullable → b.rows ≡ zip_rows masked a.rows (vals_of ts) → Ok b ≡ found_column f c o
field_step f c d a b ts None h r e t v = absurd cc
field_step f c d a b ts (Some u) h r e t v =
    let same : a ≡ column (widened u (nullability_of d.ty)) (map (field_of f) d.rows) = cc in
    let whole : Nullable ≡ nullability_of c.ty = sym (ap nullability_of h.whole ∙ nullability_with d.ty Nullable) in
    let type : b.ty ≡ widened u (nullability_of c.ty) = t ∙ ap (λ (k : Column). with_nullability k.ty Nullable) same ∙ widened_nullable u (nullability_of d.ty) ∙ ap (widened u) whole in
    let rows : b.rows ≡ map (field_of f) c.rows = v ∙ ap (λ (k : Column). zip_rows masked k.rows (vals_of ts)) same ∙ rule_rows (field_of f) d.rows (vals_of ts) refl ∙ ap (map (field_of f)) r in
    λ j. Ok (column (type j) (rows j))

pub masked_field : (f : Bytes) (c d a b : Column) (ts : List (Option Bool)) → AreMaskedOf c.ty d ts → zip_rows masked d.rows (vals_of ts) ≡ c.rows → Ok a ≡ field_column f d → b.ty ≡ with_nullability a.ty Nullable → b.rows ≡ zip_rows masked a.rows (vals_of ts) → Ok b ≡ field_column f c
masked_field f c d a b ts h r e t v = rw (ap (field_type f) (masked_fields c.ty d ts h)) (field_step f c d a b ts (field_type f (fields_of d.ty)) h r e t v)

-- and the projection of what is masked is that of the column within, masked by the same truths
project_step : (fs : List Bytes) (c d a b : Column) (ts : List (Option Bool)) (o : Option Fields) (k : Bool) → distinct_names fs ≡ k → nullability_of c.ty ≡ Nullable → zip_rows masked d.rows (vals_of ts) ≡ c.rows → Ok a ≡ found_fields fs d o → b ≡ column (with_nullability a.ty Nullable) (zip_rows masked a.rows (vals_of ts)) → Ok b ≡ found_fields fs c o
project_step fs c d a b ts None k p n r e y = absurd cc
project_step fs c d a b ts (Some gs) false p n r e y = absurd cc
project_step fs c d a b ts (Some gs) true p n r e y =
    let told : Ok a ≡ Ok (column (struct_ty gs (nullability_of d.ty)) (map (selected fs) d.rows)) = rw p at e in
    let same : a ≡ column (struct_ty gs (nullability_of d.ty)) (map (selected fs) d.rows) = cc in
    let type : with_nullability a.ty Nullable ≡ struct_ty gs (nullability_of c.ty) = ap (λ (x : Column). with_nullability x.ty Nullable) same ∙ ap (struct_ty gs) (sym n) in
    let rows : zip_rows masked a.rows (vals_of ts) ≡ map (selected fs) c.rows = ap (λ (x : Column). zip_rows masked x.rows (vals_of ts)) same ∙ rule_rows (selected fs) d.rows (vals_of ts) refl ∙ ap (map (selected fs)) r in
    rw p (ap (λ (z : Column). Ok z) (y ∙ (λ j. column (type j) (rows j))))

pub masked_project : (fs : List Bytes) (c d a b : Column) (ts : List (Option Bool)) → AreMaskedOf c.ty d ts → zip_rows masked d.rows (vals_of ts) ≡ c.rows → Ok a ≡ projected_column fs d → b ≡ column (with_nullability a.ty Nullable) (zip_rows masked a.rows (vals_of ts)) → Ok b ≡ projected_column fs c
masked_project fs c d a b ts h r e y =
    let whole = ap nullability_of h.whole ∙ nullability_with d.ty Nullable in
    rw (ap (projected fs) (masked_fields c.ty d ts h)) (project_step fs c d a b ts (projected fs (fields_of d.ty)) (distinct_names fs) refl whole r e y)

-- structs of which some aren't valid are masked at those
valid_step : (b : Bool) (v : Val) → cond (is_true (Some (not b))) null_val v ≡ cond b v null_val
valid_step true v = refl
valid_step false v = refl

abbrev pub nulls_by : List Bool → List (Option Bool)
nulls_by bs = map (λ b. Some (not b)) bs

structs_number : (fs : List Bytes) (cs : List Column) (n : ℕ) → length (structs_of fs cs n) ≡ n
structs_number fs cs n = length-map-range_with_len (struct_row fs cs None) 0 n

valid_row : (fs : List Bytes) (cs : List Column) (bs : List Bool) (n i : ℕ) → length bs ≡ n → i < n → get_or (zip_rows masked (structs_of fs cs n) (vals_of (nulls_by bs))) i null_val ≡ struct_row fs cs (Some bs) i
valid_row fs cs bs n i e h =
    let lengths : length (nulls_by bs) ≡ length (structs_of fs cs n) = length-map bs (λ b. Some (not b)) ∙ e ∙ sym (structs_number fs cs n) in
    let within : i < length (structs_of fs cs n) = omega (arith, h, structs_number fs cs n) in
    let null : get_or (nulls_by bs) i None ≡ Some (not (get_or bs i true)) = get_or-map (λ b. Some (not b)) bs i true None (omega (arith, h, e)) in
    let row : get_or (structs_of fs cs n) i null_val ≡ struct_val (row_members fs cs i) = get_or-map-range_with_len (struct_row fs cs None) 0 n i i null_val h (omega arith) in
    masked_there (structs_of fs cs n) (nulls_by bs) i lengths within ∙ (λ j. cond (is_true (null j)) null_val (row j)) ∙ valid_step (get_or bs i true) (struct_val (row_members fs cs i))

valid_rows : (fs : List Bytes) (cs : List Column) (bs : List Bool) (n : ℕ) → length bs ≡ n → zip_rows masked (structs_of fs cs n) (vals_of (nulls_by bs)) ≡ map (struct_row fs cs (Some bs)) (range_with_len 0 n)
valid_rows fs cs bs n e =
    let lengths : length (nulls_by bs) ≡ length (structs_of fs cs n) = length-map bs (λ b. Some (not b)) ∙ e ∙ sym (structs_number fs cs n) in
    fill_by_all (struct_row fs cs (Some bs)) (zip_rows masked (structs_of fs cs n) (vals_of (nulls_by bs))) n null_val (masked_number (structs_of fs cs n) (nulls_by bs) lengths ∙ structs_number fs cs n) (λ k w. valid_row fs cs bs n k e w)

pub agreed : (fs : List Bytes) (cs : List Column) (n : ℕ) (valid : Option (List Bool)) → length fs ≡ length cs → all_have_rows n cs ≡ true → truths_number n valid ≡ true → lengths_agree fs cs n valid ≡ true
agreed fs cs n valid e h t =
    let same : (length fs == length cs) ≡ true = grind (arith, nat_tests, e) in
    of_both _ _ same (of_both _ _ h t)

truths_length : (n : ℕ) (valid : Option (List Bool)) (bs : List Bool) → valid ≡ Some bs → truths_number n valid ≡ true → length bs ≡ n
truths_length n valid bs v e =
    let same : (length bs == n) ≡ true = sym (ap (truths_number n) v) ∙ e in
    grind (arith, nat_tests, same)

-- what is known of structs that aren't null anywhere, and of truths that say which are made null
pub record AreMadeNull (fs : List Bytes) (cs : List Column) (n : ℕ) (valid : Option (List Bool)) (a : Column) (ts : List (Option Bool)) : Type 0 where
  pub lengths : length ts ≡ length a.rows
  pub answer : column (with_nullability a.ty Nullable) (zip_rows masked a.rows (vals_of ts)) ≡ made_struct fs cs n valid

pub made_masked : (fs : List Bytes) (cs : List Column) (n : ℕ) (valid : Option (List Bool)) (bs : List Bool) (a : Column) (ts : List (Option Bool)) → valid ≡ Some bs → truths_number n valid ≡ true → ts ≡ nulls_by bs → a ≡ made_struct fs cs n None → AreMadeNull fs cs n valid a ts
made_masked fs cs n valid bs a ts v e s y =
    let number = truths_length n valid bs v e in
    let rows : a.rows ≡ structs_of fs cs n = ap (λ (x : Column). x.rows) y in
    let all : zip_rows masked a.rows (vals_of ts) ≡ map (struct_row fs cs (Some bs)) (range_with_len 0 n) = (λ j. zip_rows masked (rows j) (vals_of (s j))) ∙ valid_rows fs cs bs n number in
    let made : column (with_nullability a.ty Nullable) (zip_rows masked a.rows (vals_of ts)) ≡ made_struct fs cs n (Some bs) = λ j. column (with_nullability (y j).ty Nullable) (all j) in
    record {
      lengths = ap length s ∙ length-map bs (λ b. Some (not b)) ∙ number ∙ sym (structs_number fs cs n) ∙ sym (ap length rows);
      answer = made ∙ ap (made_struct fs cs n) (sym v);
    }
