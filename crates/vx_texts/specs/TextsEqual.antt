-- Equality of lists of texts.
use Rattle.std.specs.Prelude.{◌≡◌, Bool, true, false, Option, Some, None, List, refl, Decides}
use Rattle.std.proofs.Common.{ap}
use Rattle.std.specs.Cmp.{IsEquivalence, decided}
use Rattle.std.specs.Cmp.Lexicographic.{pointwise}
use Rattle.std.specs.Str.{bytes_eq}
use Rattle.std.proofs.lemmas.Slice.Eq.{slice_eq-Decides, bytes_eq-Decides}
use Rattle.vx_dtype.specs.Types.{Bytes}

-- whether two texts are one, or both null
abbrev pub text_eq : Option Bytes → Option Bytes → Bool
text_eq None None = true
text_eq (Some a) (Some b) = bytes_eq a b
text_eq _ _ = false

-- whether two lists have the same texts
abbrev pub texts_eq : List (Option Bytes) → List (Option Bytes) → Bool
texts_eq ts us = pointwise text_eq ts us

pub text_decides : (a b : Option Bytes) → Decides (text_eq a b) (a ≡ b)
text_decides None None = (λ e. refl, λ e. refl)
text_decides None (Some b) = (λ e. cc, λ e. cc)
text_decides (Some a) None = (λ e. cc, λ e. cc)
text_decides (Some a) (Some b) =
    let d : Decides (bytes_eq a b) (a ≡ b) = bytes_eq-Decides a b in
    (λ e. ap Some (d.0 e), λ e. d.1 (let same : a ≡ b = cc in same))

pub texts_decides : (ts us : List (Option Bytes)) → Decides (texts_eq ts us) (ts ≡ us)
texts_decides ts us = slice_eq-Decides text_decides ts us (pointwise text_eq ts us) refl

pub texts_eq_equiv : IsEquivalence texts_eq
texts_eq_equiv = decided texts_eq texts_decides
