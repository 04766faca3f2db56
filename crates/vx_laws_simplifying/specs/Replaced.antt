-- Replacing an expression by another that means the same.
use Rattle.std.specs.Prelude.{◌≡◌, true, Ok}
use Rattle.vx_dtype.specs.Types.{Ty}
use Rattle.vx_dtype.specs.TypeRules.{alike}
use Rattle.vx_dtype.specs.Values.{Val}
use Rattle.vx_expr.specs.Trees.{Tree}
use Rattle.vx_semantics.specs.Typing.{typed_of}
use Rattle.vx_semantics.specs.Meaning.{Slots, mean}
use Rattle.vx_passes.specs.Replacing.{replaced}

-- a needle and its replacement, both strictly typed with types that are equal but for nullability
pub record MayReplace (t : Ty) (needle replacement : Tree) : Type 0 where
  pub needle_type : Ty
  pub replacement_type : Ty
  pub needle_typed : typed_of t needle ≡ Ok needle_type
  pub replacement_typed : typed_of t replacement ≡ Ok replacement_type
  pub alike_types : alike replacement_type needle_type ≡ true

-- where an expression has a strict type before and after, the types are equal but for nullability
abbrev pub ReplacingKeepsType : Type 0
ReplacingKeepsType =
    (t : Ty) (needle replacement e : Tree) (u v : Ty)
    → MayReplace t needle replacement → typed_of t e ≡ Ok u → typed_of t (replaced needle replacement e) ≡ Ok v → alike v u ≡ true

-- and where the two mean the same at a row, the expression means the same after as before
abbrev pub ReplacingKeepsMeaning : Type 0
ReplacingKeepsMeaning =
    (t : Ty) (slots : Slots) (row : Val) (needle replacement e : Tree) (u v : Ty)
    → MayReplace t needle replacement → mean t slots row replacement ≡ mean t slots row needle
    → typed_of t e ≡ Ok u → typed_of t (replaced needle replacement e) ≡ Ok v
    → mean t slots row (replaced needle replacement e) ≡ mean t slots row e
