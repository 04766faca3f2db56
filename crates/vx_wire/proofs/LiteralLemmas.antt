-- The metadata of constants: a type, and a value of it behind.
use Rattle.std.proofs.Common.{◌≡◌, ℕ, ◌<◌, [], ◌++◌, length, drop, Some, None, sym, ap, subst, ◌∙◌, arith, length-drop}
use Rattle.std.proofs.lemmas.List.{append-nil}
use Rattle.vx_dtype.specs.Types.{Bytes, Ty}
use Rattle.vx_dtype.specs.Values.{Raw, Typed}
use Rattle.vx_wire_bytes.specs.Fields.{IsFieldAt}
use Rattle.vx_wire_bytes.specs.TypeForms.{type_bytes, IsType}
use Rattle.vx_wire_bytes.specs.ValueForms.{value_bytes, IsValue}
use Rattle.vx_wire.specs.ReadBack.{IsReadBack, literal_bytes, IsLiteral}
use Rattle.vx_wire_bytes.specs.ValueReading.{value_at}
use Rattle.vx_wire_bytes.proofs.ValueLemmas.{value_again}
use Rattle.vx_wire.proofs.FieldLemmas.{IsPrefixFree, same_found, type_free}

pub value_free : (t : Ty) → IsPrefixFree (value_bytes t) (IsValue t)
value_free t a b x y p q e = same_found (a, x) (b, y) (sym (value_again a t x p.fit p.texts) ∙ ap (value_at t) e ∙ value_again b t y q.fit q.texts)

-- the bytes behind the type of a constant are its value's
value_left : (bytes : Bytes) (t : Ty) (at : ℕ) → IsFieldAt type_bytes IsType bytes 0 (Some (t, at)) → (s : Typed) → IsLiteral s → bytes ≡ literal_bytes s → IsValue t s.value × (drop at bytes ≡ value_bytes t s.value)
value_left bytes t at h s fits e =
    let both = type_free t s.ty (drop at bytes) (value_bytes s.ty s.value) h.0 fits.0 (sym h.1.stands ∙ e) in
    (subst (λ u. IsValue u s.value) (sym both.0) fits.1, both.1 ∙ ap (λ u. value_bytes u s.value) (sym both.0))

pub no_value : (bytes : Bytes) (t : Ty) (at : ℕ) → IsFieldAt type_bytes IsType bytes 0 (Some (t, at)) → IsFieldAt (value_bytes t) (IsValue t) bytes at None → IsReadBack literal_bytes IsLiteral bytes None
no_value bytes t at h none s fits e =
    let left = value_left bytes t at h s fits e in
    none s.value [] left.0 (left.1 ∙ sym (append-nil (value_bytes t s.value)))

pub value_behind : (bytes : Bytes) (t : Ty) (at : ℕ) (x : Raw) (after : ℕ) → IsFieldAt type_bytes IsType bytes 0 (Some (t, at)) → IsFieldAt (value_bytes t) (IsValue t) bytes at (Some (x, after)) → after < length bytes → IsReadBack literal_bytes IsLiteral bytes None
value_behind bytes t at x after h found lt s fits e =
    let left = value_left bytes t at h s fits e in
    let same : value_bytes t x ++ drop after bytes ≡ value_bytes t s.value ++ [] = sym found.1.stands ∙ left.1 ∙ sym (append-nil (value_bytes t s.value)) in
    let rest : drop after bytes ≡ [] = (value_free t x s.value (drop after bytes) [] found.0 left.0 same).1 in
    omega (arith, ap length rest, length-drop after bytes)
