-- The rows of a block: how many there are, and the member of a name in each.
use Rattle.std.proofs.Common.{◌≡◌, refl, ap, ◌∙◌, ℕ, zero, suc, true, false, cond, nat_eq, List, [], ◌∷◌, map, length, replicate, unwrap_or, Some, arith}
use Rattle.std.specs.Cmp.{first_so, second_so}
use Rattle.std.specs.List.{list_all}
use Rattle.std.specs.Str.{bytes_eq}
use Rattle.std.proofs.lemmas.Bool.Decides.{nat_tests}
use Rattle.vx_dtype.specs.Types.{Bytes, Fields, no_fields, field}
use Rattle.vx_dtype.specs.Values.{Val, struct_val, fault, Members, no_members, member}
use Rattle.vx_dtype.specs.Structs.{member_named, field_of}
use Rattle.vx_column.specs.Columns.{Column, zip_rows}
use Rattle.vx_tables.specs.Blocks.{block_members, rows_of_columns}

pub equal_numbers : (a b : ℕ) → nat_eq a b ≡ true → a ≡ b
equal_numbers a b h = grind (arith, nat_tests)

pub length_replicate : {X : Type 0} (n : ℕ) (x : X) → length (replicate n x) ≡ n
length_replicate zero x = refl
length_replicate (suc n) x = ap suc (length_replicate n x)

pub length_mapped : {X Y : Type 0} (f : X → Y) (xs : List X) → length (map f xs) ≡ length xs
length_mapped f [] = refl
length_mapped f (x ∷ xs) = ap suc (length_mapped f xs)

-- two lists of one length are zipped into one of this length
length_zip : {A B C : Type 0} (f : A → B → C) (xs : List A) (ys : List B) (n : ℕ) → length xs ≡ n → length ys ≡ n → length (zip_rows f xs ys) ≡ n
length_zip f [] ys n h k = h
length_zip f (x ∷ xs) [] n h k = k
length_zip f (x ∷ xs) (y ∷ ys) zero h k = absurd (omega (arith, h))
length_zip f (x ∷ xs) (y ∷ ys) (suc n) h k = ap suc (length_zip f xs ys n (omega (arith, h)) (omega (arith, k)))

-- each row has members
pub members_count : (fs : Fields) (n : ℕ) (cs : List Column) → list_all (λ c. nat_eq (length c.rows) n) cs ≡ true → length (block_members fs n cs) ≡ n
members_count no_fields n cs h = length_replicate n no_members
members_count (field f t fs) n [] h = length_replicate n no_members
members_count (field f t fs) n (c ∷ cs) h =
    length_zip (member f) c.rows (block_members fs n cs) n (equal_numbers (length c.rows) n (first_so _ _ h)) (members_count fs n cs (second_so _ _ h))

pub rows_count : (fs : Fields) (n : ℕ) (cs : List Column) → list_all (λ c. nat_eq (length c.rows) n) cs ≡ true → length (rows_of_columns fs n cs) ≡ n
rows_count fs n cs h = length_mapped struct_val (block_members fs n cs) ∙ members_count fs n cs h

-- the field of the name of the first members is their value
pub first_of : (f g : Bytes) → bytes_eq f g ≡ true → (xs : List Val) (ms : List Members) → length xs ≡ length ms → map (field_of f) (map struct_val (zip_rows (member g) xs ms)) ≡ xs
first_of f g e [] ms h = refl
first_of f g e (x ∷ xs) [] h = absurd (omega (arith, h))
first_of f g e (x ∷ xs) (m ∷ ms) h =
    let here : field_of f (struct_val (member g x m)) ≡ x = ap (λ b. unwrap_or (cond b (Some x) (member_named f m)) fault) e in
    let rest : map (field_of f) (map struct_val (zip_rows (member g) xs ms)) ≡ xs = first_of f g e xs ms (omega (arith, h)) in
    λ i. here i ∷ rest i

-- and the field of another name is that of the rest
pub rest_of : (f g : Bytes) → bytes_eq f g ≡ false → (xs : List Val) (ms : List Members) → length xs ≡ length ms → map (field_of f) (map struct_val (zip_rows (member g) xs ms)) ≡ map (field_of f) (map struct_val ms)
rest_of f g e [] [] h = refl
rest_of f g e [] (m ∷ ms) h = absurd (omega (arith, h))
rest_of f g e (x ∷ xs) [] h = absurd (omega (arith, h))
rest_of f g e (x ∷ xs) (m ∷ ms) h =
    let here : field_of f (struct_val (member g x m)) ≡ field_of f (struct_val m) = ap (λ b. unwrap_or (cond b (Some x) (member_named f m)) fault) e in
    let rest : map (field_of f) (map struct_val (zip_rows (member g) xs ms)) ≡ map (field_of f) (map struct_val ms) = rest_of f g e xs ms (omega (arith, h)) in
    λ i. here i ∷ rest i
