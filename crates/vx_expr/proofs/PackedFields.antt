-- The value of a pack's field, by the place of its name.
use Rattle.std.proofs.Common.{◌≡◌, ℕ, zero, suc, ◌+◌, Bool, true, false, cond, List, [], ◌∷◌, length, Option, Some, None, refl, ap, sym, ◌∙◌, arith}
use Rattle.std.specs.Prelude.{position, nat_lt, not}
use Rattle.std.specs.Option.{option_and_then}
use Rattle.std.specs.List.{slice_get, position_or_len}
use Rattle.std.specs.Str.{bytes_eq}
use Rattle.vx_dtype.specs.Types.{Bytes}
use Rattle.vx_expr.specs.Trees.{Tree, trees_of}
use Rattle.vx_expr.specs.Children.{packed_value}

-- the place of the first of these at which a test passes, by whether it passes at the head
head_or_later : (b c : Bool) (n : ℕ) (e : Tree) (es : List Tree) → cond b (Some e) (option_and_then (λ i. slice_get es i) (cond c (Some n) None))
    ≡ option_and_then (λ i. slice_get (e ∷ es) i) (cond b (Some zero) (cond c (Some (suc n)) None))
head_or_later true c n e es = refl
head_or_later false true n e es = refl
head_or_later false false n e es = refl

below_behind : (n m : ℕ) (c : Bool) → nat_lt n m ≡ c → nat_lt (1 + n) (suc m) ≡ c
below_behind n m true h = grind (arith, h)
below_behind n m false h = grind (arith, h)

place_by : (b : Bool) (n m : ℕ) → cond b (Some zero) (cond (nat_lt n m) (Some (suc n)) None)
    ≡ cond (nat_lt (cond (not b) (1 + n) 0) (suc m)) (Some (cond (not b) (1 + n) 0)) None
place_by true n m = let e : true ≡ nat_lt 0 (suc m) = grind arith in ap (λ c. cond c (Some zero) None) e
place_by false n m =
    let e : suc n ≡ 1 + n = omega arith in
    ap (λ c. cond c (Some (suc n)) None) (sym (below_behind n m (nat_lt n m) refl)) ∙ ap (λ k. cond (nat_lt (1 + n) (suc m)) (Some k) None) e

nothing_at : (o : Option ℕ) → None ≡ option_and_then (λ i. slice_get {X = Tree} [] i) o
nothing_at None = refl
nothing_at (Some i) = refl

-- the first value of a name is the one at the name's first place
pub packed_value_at : (f : Bytes) (names : List Bytes) (es : List Tree) → packed_value f names (trees_of es) ≡ option_and_then (λ i. slice_get es i) (position (bytes_eq f) names)
packed_value_at f [] es = refl
packed_value_at f (g ∷ names) [] = nothing_at (position (bytes_eq f) (g ∷ names))
packed_value_at f (g ∷ names) (e ∷ es) =
    let n = position_or_len (bytes_eq f) names in
    ap (λ o. cond (bytes_eq f g) (Some e) o) (packed_value_at f names es)
    ∙ head_or_later (bytes_eq f g) (nat_lt n (length names)) n e es
    ∙ ap (λ o. option_and_then (λ i. slice_get (e ∷ es) i) o) (place_by (bytes_eq f g) n (length names))
