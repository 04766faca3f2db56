-- How long numbers are, and how much they are together.
use Rattle.std.proofs.Common.{◌≡◌, ℕ, zero, suc, ◌+◌, ◌*◌, ◌/◌, ◌%◌, ◌≤◌, ◌<◌, ◌^◌, nat_lt, Bool, true, false, List, [], ◌∷◌, ◌++◌, map, length, sum, length-append, arith}
use Rattle.std.specs.Prelude.{if◌then◌else◌}
use Rattle.std.specs.List.{AllByRecursion, flat_map}
use Rattle.std.proofs.lemmas.List.Sums.{sum_by-cons}
use Rattle.vx_dtype.specs.TypeRules.{field_names}
use Rattle.vx_semantics.specs.Tables.{row_type}
use Rattle.vx_wire_bytes.specs.Fields.{IsNumber, IsShort}
use Rattle.vx_wire_bytes.specs.TypeForms.{type_bytes}
use Rattle.vx_wire_bytes.specs.Numbers.{sevens, number_bytes, piece_bytes}
use Rattle.vx_wire_bytes.proofs.NumberLemmas.{number_some}
use Rattle.vx_laws_file.specs.FileForms.{mark, counted_bytes, statistic_bytes, Header, header_bytes, lengths_bytes, AreRangeLengths, IsHeader}
use Rattle.vx_laws_file.specs.Opening.{all_lengths}
use Rattle.vx_file_open.specs.Layouts.{front_length}

sevens_length : (more n : ℕ) → length (sevens more n) ≤ suc more
sevens_length zero n = omega arith
sevens_length (suc more) n = by (nat_lt n 128) (sevens_length more (n / 128))
  where
    by : (b : Bool) → length (sevens more (n / 128)) ≤ suc more → length (if b then n ∷ [] else ((n % 128 + 128) ∷ sevens more (n / 128))) ≤ suc (suc more)
    by true h = omega arith
    by false h = omega (arith, h)

-- a number has five bytes at most
pub number_length : (n : ℕ) → length (number_bytes n) ≤ 5
unfolding number_bytes
number_length n = sevens_length 4 n

sum_cons : (n : ℕ) (ns : List ℕ) → sum (n ∷ ns) ≡ n + sum ns
sum_cons n ns = sum_by-cons (λ x. x) n ns

-- numbers that are spelled are no more together than 2 ^ 32 - 1 for each byte
pub numbers_sum : (ns : List ℕ) → AllByRecursion IsNumber ns → sum ns ≤ 4294967295 * length (flat_map number_bytes ns)
numbers_sum [] h = omega arith
numbers_sum (n ∷ ns) h =
    let rest = numbers_sum ns h.1 in
    let own : n ≤ 4294967295 = omega (arith, h.0) in
    let some = number_some n in
    omega (arith, rest, own, some, sum_cons n ns, length-append (number_bytes n) (flat_map number_bytes ns))

-- ranges of blocks, whose lengths are spelled, are no more together than that
pub blocks_sum : (w : ℕ) (nss : List (List ℕ)) → AllByRecursion (AreRangeLengths w) nss → sum (map sum nss) ≤ 4294967295 * length (flat_map lengths_bytes nss)
blocks_sum w [] h = omega arith
blocks_sum w (ns ∷ nss) h =
    let rest = blocks_sum w nss h.1 in
    let own = numbers_sum ns h.0.1 in
    omega (arith, rest, own, sum_cons (sum ns) (map sum nss), length-append (lengths_bytes ns) (flat_map lengths_bytes nss))

-- the last range of a file ends at a place
pub layout_small : (h : Header) → IsHeader h → IsShort (header_bytes h) → front_length h + all_lengths h < 2 ^ 64
layout_small h is short =
    let ranges = flat_map lengths_bytes h.range_lengths in
    let total = blocks_sum (length (field_names h.zones.columns)) h.range_lengths is.each_range in
    let columns = type_bytes (row_type h.zones.columns) in
    let lengths = counted_bytes number_bytes h.zones.lengths in
    let stats = counted_bytes statistic_bytes h.zones.stats in
    let one = length-append columns (lengths ++ (stats ++ ranges)) in
    let two = length-append lengths (stats ++ ranges) in
    let three = length-append stats ranges in
    let within : length ranges ≤ length (header_bytes h) = omega (arith, one, two, three) in
    let front = length-append mark (piece_bytes (header_bytes h)) in
    let behind = length-append (number_bytes (length (header_bytes h))) (header_bytes h) in
    let number = number_length (length (header_bytes h)) in
    omega (arith, total, within, front, behind, number, short)
