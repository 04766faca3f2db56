-- The laws of three-valued logic with faults.
use Rattle.std.proofs.Common.{◌≡◌, refl, ap, sym, ◌∙◌}
use Rattle.vx_dtype.specs.Values.{Val}
use Rattle.vx_dtype.specs.Logic.{Tri, holds, fails, unknown, broken, tri, truth, and_tri, or_tri, not_tri, and3, or3, not3}

pub tri-truth : (x : Tri) → tri (truth x) ≡ x
tri-truth holds = refl
tri-truth fails = refl
tri-truth unknown = refl
tri-truth broken = refl

pub and_tri_comm : (x y : Tri) → and_tri x y ≡ and_tri y x
and_tri_comm holds holds = refl
and_tri_comm fails holds = refl
and_tri_comm unknown holds = refl
and_tri_comm broken holds = refl
and_tri_comm _ _ = refl

pub or_tri_comm : (x y : Tri) → or_tri x y ≡ or_tri y x
or_tri_comm holds holds = refl
or_tri_comm fails holds = refl
or_tri_comm unknown holds = refl
or_tri_comm broken holds = refl
or_tri_comm _ _ = refl

-- each case of x and y, with z split below
pub and_tri_assoc : (x y z : Tri) → and_tri (and_tri x y) z ≡ and_tri x (and_tri y z)
and_tri_assoc holds holds holds = refl
and_tri_assoc holds fails holds = refl
and_tri_assoc holds unknown holds = refl
and_tri_assoc holds broken holds = refl
and_tri_assoc fails holds holds = refl
and_tri_assoc fails fails holds = refl
and_tri_assoc fails unknown holds = refl
and_tri_assoc fails broken holds = refl
and_tri_assoc unknown holds holds = refl
and_tri_assoc unknown fails holds = refl
and_tri_assoc unknown unknown holds = refl
and_tri_assoc unknown broken holds = refl
and_tri_assoc broken holds holds = refl
and_tri_assoc _ _ _ = refl

pub or_tri_assoc : (x y z : Tri) → or_tri (or_tri x y) z ≡ or_tri x (or_tri y z)
or_tri_assoc holds holds holds = refl
or_tri_assoc holds fails holds = refl
or_tri_assoc holds unknown holds = refl
or_tri_assoc holds broken holds = refl
or_tri_assoc fails holds holds = refl
or_tri_assoc fails fails holds = refl
or_tri_assoc fails unknown holds = refl
or_tri_assoc fails broken holds = refl
or_tri_assoc unknown holds holds = refl
or_tri_assoc unknown fails holds = refl
or_tri_assoc unknown unknown holds = refl
or_tri_assoc unknown broken holds = refl
or_tri_assoc broken holds holds = refl
or_tri_assoc _ _ _ = refl

pub and3_comm : (a b : Val) → and3 a b ≡ and3 b a
and3_comm a b = ap truth (and_tri_comm (tri a) (tri b))

pub or3_comm : (a b : Val) → or3 a b ≡ or3 b a
or3_comm a b = ap truth (or_tri_comm (tri a) (tri b))

pub and3_assoc : (a b c : Val) → and3 (and3 a b) c ≡ and3 a (and3 b c)
and3_assoc a b c =
    ap (λ (x : Tri). truth (and_tri x (tri c))) (tri-truth (and_tri (tri a) (tri b)))
    ∙ (ap truth (and_tri_assoc (tri a) (tri b) (tri c)) ∙ sym (ap (λ (x : Tri). truth (and_tri (tri a) x)) (tri-truth (and_tri (tri b) (tri c)))))

pub or3_assoc : (a b c : Val) → or3 (or3 a b) c ≡ or3 a (or3 b c)
or3_assoc a b c =
    ap (λ (x : Tri). truth (or_tri x (tri c))) (tri-truth (or_tri (tri a) (tri b)))
    ∙ (ap truth (or_tri_assoc (tri a) (tri b) (tri c)) ∙ sym (ap (λ (x : Tri). truth (or_tri (tri a) x)) (tri-truth (or_tri (tri b) (tri c)))))

pub not_tri-and : (x y : Tri) → not_tri (and_tri x y) ≡ or_tri (not_tri x) (not_tri y)
not_tri-and holds holds = refl
not_tri-and fails holds = refl
not_tri-and unknown holds = refl
not_tri-and broken holds = refl
not_tri-and _ _ = refl

pub not_tri-or : (x y : Tri) → not_tri (or_tri x y) ≡ and_tri (not_tri x) (not_tri y)
not_tri-or holds holds = refl
not_tri-or fails holds = refl
not_tri-or unknown holds = refl
not_tri-or broken holds = refl
not_tri-or _ _ = refl

pub not3-and3 : (a b : Val) → not3 (and3 a b) ≡ or3 (not3 a) (not3 b)
not3-and3 a b =
    ap (λ (x : Tri). truth (not_tri x)) (tri-truth (and_tri (tri a) (tri b)))
    ∙ (ap truth (not_tri-and (tri a) (tri b))
    ∙ (sym (ap (λ (x : Tri). truth (or_tri x (not_tri (tri b)))) (tri-truth (not_tri (tri a)))) ∙ sym (ap (λ (x : Tri). truth (or_tri (tri (not3 a)) x)) (tri-truth (not_tri (tri b))))))

pub not3-or3 : (a b : Val) → not3 (or3 a b) ≡ and3 (not3 a) (not3 b)
not3-or3 a b =
    ap (λ (x : Tri). truth (not_tri x)) (tri-truth (or_tri (tri a) (tri b)))
    ∙ (ap truth (not_tri-or (tri a) (tri b))
    ∙ (sym (ap (λ (x : Tri). truth (and_tri x (not_tri (tri b)))) (tri-truth (not_tri (tri a)))) ∙ sym (ap (λ (x : Tri). truth (and_tri (tri (not3 a)) x)) (tri-truth (not_tri (tri b))))))
