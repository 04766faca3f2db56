-- The names from a place on are the one there and those behind it.
use Rattle.std.proofs.Common.{◌≡◌, drop, ℕ, ◌+◌, ◌<◌, ◌++◌, ap, List, length, ◌∙◌}
use Rattle.std.proofs.Math.ListN.{get_or}
use Rattle.std.proofs.lemmas.List.{drop_more}
use Rattle.vx_dtype.specs.Types.{Bytes}
use Rattle.vx_dtype.specs.Texts.{separator_at}
use Rattle.vx_dtype.proofs.TextLemmas.{separator_after}
use Rattle.vx_expr.specs.SelectionTexts.{joined_names}

pub joined_names_step : (fs : List Bytes) (i : ℕ) (f : Bytes) → i < length fs → joined_names (separator_at i) (drop i fs) ≡ separator_at i ++ get_or fs i f ++ joined_names (separator_at (i + 1)) (drop (i + 1) fs)
joined_names_step fs i f h =
    ap (joined_names (separator_at i)) (drop_more fs i f h)
    ∙ ap (λ s. separator_at i ++ get_or fs i f ++ joined_names s (drop (i + 1) fs)) (separator_after i)
