-- Counts of calls and of faults, and the numbers of the calls that are to fail.
use Rattle.std.specs.Prelude.{ℕ, ◌+◌, ◌-◌, ◌^◌, min, nat_eq, Bool, true, false, List, [], ◌∷◌}
use Rattle.std.specs.List.{list_any}

-- the count after one more; at its last value it stays
abbrev pub one_more : ℕ → ℕ
one_more n = min (n + 1) (2 ^ 64 - 1)

-- whether a number of a call is listed
abbrev pub is_listed : ℕ → List ℕ → Bool
is_listed n listed = list_any (nat_eq n) listed

-- whether no call is to fail
abbrev pub is_nothing : List ℕ → Bool
is_nothing [] = true
is_nothing (n ∷ ns) = false
