-- The blocks of columns that a table is cut into are the table cut anew.
use Rattle.std.proofs.Common.{◌≡◌, ap, sym, ◌∙◌, subst, ℕ, zero, suc, ◌+◌, ◌*◌, ◌<◌, ◌≤◌, List, length, map, drop, take, arith}
use Rattle.std.specs.List.{range_with_len}
use Rattle.std.proofs.lemmas.List.{length-take, length-drop}
use native.Mathlib.Nat.{add-mul, one-mul, mul-le-mul_right}
use Rattle.vx_dtype.specs.Values.{Val}
use Rattle.vx_tables.specs.Blocks.{table_of_blocks}
use Rattle.vx_cutting.specs.Cutting.{blocks_cut, zones_cut, blocks_anew}
use Rattle.vx_cutting.proofs.CutLists.{part, spans}
use Rattle.vx_cutting.proofs.CutLaws.{cut_parts, cutting_keeps_rows, whole_rows}
use Rattle.vx_laws_shell.specs.CutAnew.{AreBlocksOf}
use Rattle.vx_laws_shell.proofs.CutAnew.{tables_are_cut_anew}
use Rattle.vx_laws_writing.specs.WriteLaws.{BlocksCutAreCutAnew}
use Rattle.std.proofs.Common.{refl}

part_count : (n k : ℕ) (xs : List Val) → length (part n xs k) ≡ (length (take n (drop (k * n) xs)))
part_count n k xs = refl

-- parts of so many, but the last
are_parts : (n count m k : ℕ) (xs : List Val) → 0 < n → k + m ≡ count → length xs ≤ count * n → count * n < length xs + n → AreBlocksOf n (map (part n xs) (range_with_len k m))
are_parts n count zero k xs some at enough few = tt
are_parts n count (suc zero) k xs some at enough few =
    let last : count * n ≡ k * n + n = ap (λ c. c * n) (sym at) ∙ add-mul k 1 n ∙ ap (λ r. k * n + r) (one-mul n) in
    let long = length-take n (drop (k * n) xs) in
    let left = length-drop (k * n) xs in
    (omega (arith, some, last, few, long, left), omega (arith, long))
are_parts n count (suc (suc m)) k xs some at enough few =
    let below : k + 2 ≤ count = omega (arith, at) in
    let two : (k + 2) * n ≡ k * n + 2 * n = add-mul k 2 n in
    let more = mul-le-mul_right n below in
    let long = length-take n (drop (k * n) xs) in
    let left = length-drop (k * n) xs in
    (omega (arith, two, more, few, long, left), are_parts n count (suc m) (k + 1) xs some (omega (arith, at)) enough few)

pub blocks_cut_are_cut_anew : BlocksCutAreCutAnew
blocks_cut_are_cut_anew n zones blocks some is =
    let table = table_of_blocks zones blocks in
    let cut = table_of_blocks (zones_cut n zones) (blocks_anew n zones blocks) in
    let whole = whole_rows zones blocks in
    let count = blocks_cut n (length whole) in
    let bounds = spans count (length whole) n some refl in
    let parts = are_parts n count count 0 whole some (omega arith) bounds.0 bounds.1 in
    let are : AreBlocksOf n cut.blocks = subst (AreBlocksOf n) (sym (cut_parts n zones blocks is)) parts in
    let same = (tables_are_cut_anew n table some).no_others cut.blocks (cutting_keeps_rows n zones blocks some is) are in
    λ i. record { columns = zones.columns; blocks = same i }
