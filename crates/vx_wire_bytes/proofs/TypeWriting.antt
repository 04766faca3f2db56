-- Writing fields one after the other, as a loop does.
use Rattle.std.proofs.Common.{◌≡◌, ℕ, suc, ◌+◌, ◌≤◌, [], ◌++◌, length, Some, refl, sym, ap, ◌∙◌, subst, append_assoc, arith}
use Rattle.std.specs.List.{slice_get}
use Rattle.std.proofs.lemmas.List.{append-nil}
use Rattle.vx_dtype.specs.Types.{Bytes, Ty, Fields, no_fields, field}
use Rattle.vx_dtype.specs.TypeRules.{field_names}
use Rattle.vx_dtype.specs.StructTypes.{field_types}
use Rattle.vx_dtype.proofs.FieldsFrom.{fields_from, fields_from-here, fields_from-past}
use Rattle.vx_wire_bytes.specs.Numbers.{number_bytes, piece_bytes}
use Rattle.vx_wire_bytes.specs.Fields.{Extends, IsText}
use Rattle.vx_wire_bytes.specs.TypeForms.{fields_number, type_bytes, fields_bytes, HasNames, HaveNames}

pub extends_by : (old new more : Bytes) → new ≡ old ++ more → Extends old new
extends_by old new more e = record { more = more; is = e }

pub extends_same : (old new : Bytes) → new ≡ old → Extends old new
extends_same old new e = record { more = []; is = e ∙ sym (append-nil old) }

pub extends_then : (a b c : Bytes) → Extends a b → Extends b c → Extends a c
extends_then a b c p q = record { more = p.more ++ q.more; is = q.is ∙ ap (λ (x : Bytes). x ++ q.more) p.is ∙ append_assoc a p.more q.more }

pub length-field_names : (fs : Fields) → length (field_names fs) ≡ fields_number fs
length-field_names no_fields = refl
length-field_names (field f t fs) = omega (arith, length-field_names fs)

-- what was written and the fields from a place on are the spelling behind what stood there
pub record IsWritingFields (old new : Bytes) (fs : Fields) (i : ℕ) : Type 0 where
  pub whole : new ++ fields_bytes (fields_from i fs) ≡ old ++ (number_bytes (fields_number fs) ++ fields_bytes fs)
  pub left : HaveNames (fields_from i fs)
  pub so_far : Extends old new

pub fields_start : (old new : Bytes) (fs : Fields) (n : ℕ) → HaveNames fs → n ≡ fields_number fs → new ≡ old ++ number_bytes n → IsWritingFields old new fs 0
fields_start old new fs n names is e =
    let e' : new ≡ old ++ number_bytes (fields_number fs) = e ∙ ap (λ k. old ++ number_bytes k) is in
    record { whole = ap (λ (x : Bytes). x ++ fields_bytes fs) e' ∙ append_assoc old (number_bytes (fields_number fs)) (fields_bytes fs); left = names; so_far = extends_by old new (number_bytes n) e }

pub field_names_here : (old new : Bytes) (fs : Fields) (i : ℕ) (f : Bytes) (t : Ty) → slice_get (field_names fs) i ≡ Some f → slice_get (field_types fs) i ≡ Some t → IsWritingFields old new fs i → IsText f × HasNames t
field_names_here old new fs i f t a b w = let h = subst HaveNames (fields_from-here i fs f t a b) w.left in (h.0, h.1)

pub fields_step : (old new named after : Bytes) (fs : Fields) (i : ℕ) (f : Bytes) (t : Ty) → slice_get (field_names fs) i ≡ Some f → slice_get (field_types fs) i ≡ Some t
    → named ≡ new ++ piece_bytes f → after ≡ named ++ type_bytes t → IsWritingFields old new fs i → IsWritingFields old after fs (i + 1)
fields_step old new named after fs i f t a b n e w =
    let k : i + 1 ≡ suc i = omega arith in
    let here = fields_from-here i fs f t a b in
    let others = fields_bytes (fields_from (suc i) fs) in
    let all : after ++ others ≡ new ++ fields_bytes (fields_from i fs) =
    ap (λ (x : Bytes). x ++ others) (e ∙ ap (λ (x : Bytes). x ++ type_bytes t) n) ∙ append_assoc (new ++ piece_bytes f) (type_bytes t) others ∙ append_assoc new (piece_bytes f) (type_bytes t ++ others)
    ∙ ap (λ gs. new ++ fields_bytes gs) (sym here) in
    record {
      whole = ap (λ j. after ++ fields_bytes (fields_from j fs)) k ∙ all ∙ w.whole;
      left = subst (λ j. HaveNames (fields_from j fs)) (sym k) (subst HaveNames here w.left).2;
      so_far = extends_then old new after w.so_far (extends_then new named after (extends_by new named (piece_bytes f) n) (extends_by named after (type_bytes t) e));
    }

pub fields_end : (old new : Bytes) (fs : Fields) (i : ℕ) → length (field_names fs) ≤ i → IsWritingFields old new fs i → new ≡ old ++ (number_bytes (fields_number fs) ++ fields_bytes fs)
fields_end old new fs i le w = sym (append-nil new) ∙ ap (λ gs. new ++ fields_bytes gs) (sym (fields_from-past i fs le)) ∙ w.whole
