-- Texts in a line, with a space between any two.
use Rattle.std.specs.Prelude.{List, [], ◌∷◌, codes}
use Rattle.std.specs.List.{join_by}
use Rattle.vx_dtype.specs.Types.{Bytes}

-- texts with a space between, or `-` where there are none
abbrev pub spaced : List Bytes → Bytes
spaced [] = codes "-"
spaced (t ∷ ts) = join_by (λ u. u) (codes " ") (t ∷ ts)
