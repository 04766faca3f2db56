-- The names of numbered files ascend.
use Rattle.std.proofs.Common.{◌≡◌, refl, ap, sym, ◌∙◌, subst, ℕ, zero, suc, ◌⊎◌, ◌+◌, ◌-◌, ◌/◌, ◌%◌, ◌^◌, ◌<◌, ◌≤◌, List, [], ◌∷◌, ◌++◌, inl, inr, length, map, replicate, codes, add-one, append_assoc, length-append, arith}
use Rattle.std.proofs.lemmas.Bool.{cases_lt}
use Rattle.std.proofs.lemmas.Cmp.{nat_cmp_total, tied_itself}
use Rattle.std.proofs.lemmas.Fmt.{decimal_by_steps}
use Rattle.std.proofs.lemmas.Grind.{replicate_next}
use Rattle.std.specs.Cmp.{nat_cmp_is}
use Rattle.std.specs.Cmp.Lexicographic.{slice_cmp}
use Rattle.std.specs.List.{AllByRecursion}
use Rattle.std.specs.List.Sorted.{IsStrictlySortedBy}
use Rattle.std.specs.Ordering.{nat_cmp, ordering_then}
use Rattle.std.specs.declared.cmp.Ordering.{Ordering}
use Rattle.std.specs.declared.cmp.Ordering.TheVariants.{Less}
use Rattle.vx_dtype.specs.Types.{Bytes}
use Rattle.vx_files.specs.FolderKeeping.{NamedFile}
use Rattle.vx_laws_writing.specs.Writing.{file_name, numbered_from}
use Rattle.vx_laws_writing.specs.NameLaws.{NumberedNamesAscend}

abbrev order : Bytes → Bytes → Ordering
order = slice_cmp nat_cmp

-- ---- digits by their place

-- the last digits of a number, as many as there are places, before other bytes
abbrev digits_before : ℕ → ℕ → Bytes → Bytes
digits_before zero number bytes = bytes
digits_before (suc places) number bytes = digits_before places (number / 10) ((48 + number % 10) ∷ bytes)

-- a number of one place more has a front of these places
front_places : (places number : ℕ) → number < 10 ^ suc places → number / 10 < 10 ^ places
front_places places number small = omega arith

-- of two texts a lower first byte decides
lower_first : (a b : ℕ) (xs ys : Bytes) → a < b → order (a ∷ xs) (b ∷ ys) ≡ Less
lower_first a b xs ys less = ap (λ o. ordering_then o (order xs ys)) (sym (nat_cmp_is a b Less less))

-- a first byte that they have in common is passed over
order_behind : (byte : ℕ) (xs ys : Bytes) → order (byte ∷ xs) (byte ∷ ys) ≡ order xs ys
order_behind byte xs ys = ap (λ o. ordering_then o (order xs ys)) (tied_itself nat_cmp_total byte)

-- and so are digits that they have in common
order_behind_digits : (places number : ℕ) (xs ys : Bytes) → order (digits_before places number xs) (digits_before places number ys) ≡ order xs ys
order_behind_digits zero number xs ys = refl
order_behind_digits (suc places) number xs ys =
    let last = 48 + number % 10 in
    order_behind_digits places (number / 10) (last ∷ xs) (last ∷ ys) ∙ order_behind last xs ys

-- the digits of a lower number are lower, whatever stands behind them
lower_digits : (places n m : ℕ) (xs ys : Bytes) → n < m → m < 10 ^ places → order (digits_before places n xs) (digits_before places m ys) ≡ Less
lower_digits zero n m xs ys below small = absurd (omega (arith, below, small))
lower_digits (suc places) n m xs ys below small =
    by (cases_lt (n / 10) (m / 10)) (λ less. lower_digits places (n / 10) (m / 10) ((48 + n % 10) ∷ xs) ((48 + m % 10) ∷ ys) less (front_places places m small))
  where
    by : (n / 10 < m / 10) ⊎ (m / 10 ≤ n / 10) → (n / 10 < m / 10 → order (digits_before (suc places) n xs) (digits_before (suc places) m ys) ≡ Less)
        → order (digits_before (suc places) n xs) (digits_before (suc places) m ys) ≡ Less
    by (inl less) lower_front = lower_front less
    by (inr more) lower_front =
        let same : n / 10 ≡ m / 10 = omega (arith, below, more) in
        let last : 48 + n % 10 < 48 + m % 10 = omega (arith, below, same) in
        subst (λ (front : ℕ). order (digits_before (suc places) n xs) (digits_before places front ((48 + m % 10) ∷ ys)) ≡ Less) same
        (order_behind_digits places (n / 10) ((48 + n % 10) ∷ xs) ((48 + m % 10) ∷ ys) ∙ lower_first (48 + n % 10) (48 + m % 10) xs ys last)

-- ---- names

-- a number of one digit, with zeros before it
digit_behind_zeros : (number : ℕ) → number < 10 → (zeros : ℕ) (bytes : Bytes)
    → replicate zeros 48 ++ ((48 + number) ∷ []) ++ bytes ≡ digits_before (suc zeros) number bytes
digit_behind_zeros number one zero bytes = ap (λ d. (48 + d) ∷ bytes) (omega (arith, one))
digit_behind_zeros number one (suc zeros) bytes =
    let zero_one : 0 < 10 = omega arith in
    let front : 0 ≡ number / 10 = omega (arith, one) in
    let last : number ≡ number % 10 = omega (arith, one) in
    let more : replicate (suc zeros) 48 ≡ replicate zeros 48 ++ (48 ∷ []) = ap (λ n. replicate n 48) (sym (add-one zeros)) ∙ replicate_next zeros 48 in
    append_assoc (replicate (suc zeros) 48) ((48 + number) ∷ []) bytes
    ∙ ap (λ (front : Bytes). front ++ ((48 + number) ∷ bytes)) more
    ∙ digit_behind_zeros 0 zero_one zeros ((48 + number) ∷ bytes)
    ∙ (λ i. digits_before (suc zeros) (front i) ((48 + last i) ∷ bytes))

-- a number's digits are its digits by their place once zeros stand before them
abbrev AreFilled : ℕ → Bytes → Type 0
AreFilled number digits =
    (places : ℕ) (bytes : Bytes) → number < 10 ^ suc places
    → replicate (suc places - length digits) 48 ++ digits ++ bytes ≡ digits_before (suc places) number bytes

one_filled : (number : ℕ) → number < 10 → AreFilled number ((48 + number) ∷ [])
one_filled number one places bytes small =
    let count : suc places - 1 ≡ places = omega arith in
    ap (λ zeros. replicate zeros 48 ++ ((48 + number) ∷ []) ++ bytes) count ∙ digit_behind_zeros number one places bytes

more_filled : (number : ℕ) (digits : Bytes) → 10 ≤ number → AreFilled (number / 10) digits → AreFilled number (digits ++ ((48 + number % 10) ∷ []))
more_filled number digits more filled zero bytes small = absurd (omega (arith, more, small))
more_filled number digits more filled (suc places) bytes small =
    let last : Bytes = (48 + number % 10) ∷ [] in
    let zeros : Bytes = replicate (suc places - length digits) 48 in
    let count : suc (suc places) - length (digits ++ last) ≡ suc places - length digits = omega (arith, length-append digits last) in
    ap (λ n. replicate n 48 ++ (digits ++ last) ++ bytes) count ∙ ap (λ (front : Bytes). front ++ bytes) (sym (append_assoc zeros digits last))
    ∙ append_assoc (zeros ++ digits) last bytes ∙ filled places ((48 + number % 10) ∷ bytes) (front_places (suc places) number small)

-- a name has six digits of its number
six_digits : (number : ℕ) → number < 10 ^ 6 → file_name number ≡ digits_before 6 number (codes ".vxb")
six_digits number small = decimal_by_steps AreFilled one_filled more_filled number (omega (arith, small)) 5 (codes ".vxb") small

-- the name of a lower number is lower
lower_name : (n m : ℕ) → n < m → m < 10 ^ 6 → order (file_name n) (file_name m) ≡ Less
lower_name n m below small =
    (λ i. order (six_digits n (omega (arith, below, small)) i) (six_digits m small i)) ∙ lower_digits 6 n m (codes ".vxb") (codes ".vxb") below small

-- ---- files

abbrev names_from : ℕ → List Bytes → List Bytes
names_from number files = map (λ (file : NamedFile). file.name) (numbered_from number files)

names_behind : (number next : ℕ) (files : List Bytes) → number < next → next + length files ≤ 10 ^ 6
    → AllByRecursion (λ name. order (file_name number) name ≡ Less) (names_from next files)
names_behind number next [] below few = tt
names_behind number next (bytes ∷ files) below few =
    (lower_name number next below (omega (arith, few)), names_behind number (next + 1) files (omega (arith, below)) (omega (arith, few)))

names_ascend : (number : ℕ) (files : List Bytes) → number + length files ≤ 10 ^ 6 → IsStrictlySortedBy order (names_from number files)
unfolding IsStrictlySortedBy
names_ascend number [] few = tt
names_ascend number (bytes ∷ files) few =
    (names_behind number (number + 1) files (omega arith) (omega (arith, few)), names_ascend (number + 1) files (omega (arith, few)))

pub numbered_names_ascend : NumberedNamesAscend
numbered_names_ascend files few = names_ascend 0 files (omega (arith, few))
