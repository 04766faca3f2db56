-- The order of plain values finds two of them equal exactly where they are the same.
use Rattle.std.proofs.Common.{◌≡◌, ◌↔◌, ℤ, Bool, true, false, refl, sym, ap, ◌∙◌}
use Rattle.std.specs.Ordering.{nat_cmp, int_cmp, bool_cmp}
use Rattle.std.specs.declared.cmp.Ordering.TheVariants.{Equal}
use Rattle.std.specs.Cmp.{tied_itself, int_cmp_total}
use Rattle.std.specs.Cmp.Lexicographic.{slice_cmp, nat_list_cmp_total}
use Rattle.std.proofs.lemmas.Map.Lookups.{exact_signed, exact_bytes}
use Rattle.vx_dtype.specs.Types.{Bytes}
use Rattle.vx_dtype.specs.Values.{raw_bool, raw_int, raw_text}

-- two booleans
pub bool_cmp_equal : (b c : Bool) → (bool_cmp b c ≡ Equal) ↔ (raw_bool b ≡ raw_bool c)
bool_cmp_equal true true = (λ _. refl, λ _. refl)
bool_cmp_equal false false = (λ _. refl, λ _. refl)
bool_cmp_equal true false = (λ e. absurd cc, λ e. absurd cc)
bool_cmp_equal false true = (λ e. absurd cc, λ e. absurd cc)

-- two numbers
pub int_cmp_equal : (i j : ℤ) → (int_cmp i j ≡ Equal) ↔ (raw_int i ≡ raw_int j)
int_cmp_equal i j =
    (λ e. ap raw_int (exact_signed i j e), λ e. let same : i ≡ j = cc in ap (int_cmp i) (sym same) ∙ tied_itself int_cmp_total i)

-- two texts
pub slice_cmp_equal : (s t : Bytes) → (slice_cmp nat_cmp s t ≡ Equal) ↔ (raw_text s ≡ raw_text t)
slice_cmp_equal s t =
    (λ e. ap raw_text (exact_bytes s t e), λ e. let same : s ≡ t = cc in ap (slice_cmp nat_cmp s) (sym same) ∙ tied_itself nat_list_cmp_total s)
