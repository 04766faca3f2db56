-- All blocks have fewer than 2^64 rows, since each has fewer than 2^32 and there are fewer than 2^32 of them.
use Rattle.std.proofs.Common.{◌≡◌, subst, ℕ, suc, ◌+◌, ◌-◌, ◌*◌, ◌^◌, ◌<◌, ◌≤◌, List, [], ◌∷◌, length, get_or, arith}
use Rattle.std.specs.List.{sum}
use Rattle.std.proofs.lemmas.List.Sums.{sum_by-cons}

most_rows : (lengths : List ℕ) → ((k : ℕ) → get_or lengths k 0 < 2 ^ 32) → sum lengths ≤ length lengths * (2 ^ 32 - 1)
most_rows [] each = omega arith
most_rows (n ∷ ns) each =
    let first : n < 2 ^ 32 = each 0 in
    let rest = most_rows ns (λ k. each (suc k)) in
    let split : sum (n ∷ ns) ≡ n + sum ns = sum_by-cons (λ x. x) n ns in
    omega (arith, first, rest, split)

product_least : (n : ℕ) → n < 2 ^ 32 → n * (2 ^ 32 - 1) < 2 ^ 64
product_least n h = omega (arith, h)

pub few_rows : (lengths seen : List ℕ) → seen ≡ lengths → length lengths < 2 ^ 32 → ((k : ℕ) → get_or seen k 0 < 2 ^ 32) → sum lengths < 2 ^ 64
few_rows lengths seen same few each =
    let most = most_rows lengths (λ k. subst (λ (ns : List ℕ). get_or ns k 0 < 2 ^ 32) same (each k)) in
    let all = product_least (length lengths) few in
    omega (arith, most, all)
