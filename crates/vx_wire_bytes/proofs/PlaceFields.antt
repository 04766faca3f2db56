-- Fields that are read at a place.
use Rattle.std.proofs.Common.{◌≡◌, ℕ, ◌+◌, ◌-◌, ◌≤◌, ◌++◌, length, drop, Some, None, refl, sym, ap, ◌∙◌, arith}
use Rattle.std.proofs.lemmas.List.{length-append, length-drop, drop_at, drop-drop, get_or-drop}
use Rattle.std.proofs.lemmas.Option.{none-some}
use Rattle.vx_dtype.specs.Types.{Bytes, Ty}
use Rattle.vx_wire_bytes.specs.TypeForms.{type_bytes, IsType}
use Rattle.vx_dtype.specs.TypeRules.{most_deep}
use Rattle.vx_wire_bytes.specs.TypeReading.{type_at}
use Rattle.vx_dtype.specs.Values.{Raw}
use Rattle.vx_wire_bytes.specs.ValueForms.{value_bytes, IsValue}
use Rattle.vx_wire_bytes.specs.ValueReading.{value_at}
use Rattle.vx_wire_bytes.proofs.ValueLemmas.{value_takes, value_again}
use Rattle.vx_wire_bytes.proofs.TypeLemmas.{type_takes, type_again}
use Rattle.vx_wire_bytes.specs.Fields.{Stands, IsFieldAt, IsNumber, IsText}
use Rattle.vx_wire_bytes.specs.Numbers.{number_bytes, piece_bytes}
use Rattle.vx_wire_bytes.specs.Reading.{number_at, text_at}
use Rattle.vx_wire_bytes.proofs.NumberLemmas.{IsBytes, number_takes, number_again}
use Rattle.vx_wire_bytes.proofs.HeadLemmas.{text_takes, text_again}

pub bytes_from : (bytes : Bytes) (at : ℕ) → IsBytes bytes → IsBytes (drop at bytes)
bytes_from bytes at fits i = rw get_or-drop (fits (at + i))

-- what was taken from a place stands there
pub stands_at : (bytes : Bytes) (at : ℕ) (text rest : Bytes) → at ≤ length bytes → drop at bytes ≡ text ++ rest → Stands bytes at text (length bytes - length rest)
stands_at bytes at text rest le e =
    let len : length bytes ≡ at + length text + length rest = omega (arith, length-drop at bytes, ap length e, length-append text rest) in
    let after : length bytes - length rest ≡ at + length text = omega arith in
    let left : drop (at + length text) bytes ≡ rest = sym (drop-drop (length text) at bytes) ∙ ap (drop (length text)) e ∙ drop_at text rest (length text) refl in
    record { ends = sym after; stands = e ∙ ap (λ (r : Bytes). text ++ r) (sym left ∙ ap (λ n. drop n bytes) (sym after)) }

pub number_there : (bytes : Bytes) (at n : ℕ) (rest : Bytes) → IsBytes bytes → at ≤ length bytes → Some (n, rest) ≡ number_at (drop at bytes) → IsFieldAt number_bytes IsNumber bytes at (Some (n, length bytes - length rest))
number_there bytes at n rest fits le e =
    let t = number_takes (drop at bytes) (n, rest) (bytes_from bytes at fits) (sym e) in
    (t.1, stands_at bytes at (number_bytes n) rest le t.0.parts)

pub no_number_there : (bytes : Bytes) (at : ℕ) → None ≡ number_at (drop at bytes) → IsFieldAt number_bytes IsNumber bytes at None
no_number_there bytes at e n rest fits is = none-some (n, rest) (e ∙ ap number_at is ∙ number_again n rest fits)

pub text_there : (bytes : Bytes) (at : ℕ) (text rest : Bytes) → IsBytes bytes → at ≤ length bytes → Some (text, rest) ≡ text_at (drop at bytes) → IsFieldAt piece_bytes IsText bytes at (Some (text, length bytes - length rest))
text_there bytes at text rest fits le e =
    let t = text_takes (drop at bytes) (text, rest) (bytes_from bytes at fits) (sym e) in
    (record { utf8 = t.2; short = t.1 }, stands_at bytes at (piece_bytes text) rest le t.0.parts)

pub no_text_there : (bytes : Bytes) (at : ℕ) → None ≡ text_at (drop at bytes) → IsFieldAt piece_bytes IsText bytes at None
no_text_there bytes at e text rest fits is = none-some (text, rest) (e ∙ ap text_at is ∙ text_again text rest fits.short fits.utf8)

pub number_shorter : (bytes : Bytes) (at n : ℕ) (rest : Bytes) → IsBytes bytes → Some (n, rest) ≡ number_at (drop at bytes) → length rest ≤ length bytes
number_shorter bytes at n rest fits e =
    let t = number_takes (drop at bytes) (n, rest) (bytes_from bytes at fits) (sym e) in
    omega (arith, length-drop at bytes, ap length t.0.parts, length-append (number_bytes n) rest)

pub text_shorter : (bytes : Bytes) (at : ℕ) (text rest : Bytes) → IsBytes bytes → Some (text, rest) ≡ text_at (drop at bytes) → length rest ≤ length bytes
text_shorter bytes at text rest fits e =
    let t = text_takes (drop at bytes) (text, rest) (bytes_from bytes at fits) (sym e) in
    omega (arith, length-drop at bytes, ap length t.0.parts, length-append (piece_bytes text) rest)

pub type_there : (bytes : Bytes) (at : ℕ) (t : Ty) (rest : Bytes) → IsBytes bytes → at ≤ length bytes → Some (t, rest) ≡ type_at most_deep (drop at bytes) → IsFieldAt type_bytes IsType bytes at (Some (t, length bytes - length rest))
type_there bytes at t rest fits le e =
    let taken = type_takes most_deep (drop at bytes) (t, rest) (bytes_from bytes at fits) (sym e) in
    (record { names = taken.names; depth = taken.depth }, stands_at bytes at (type_bytes t) rest le taken.taken.parts)

pub no_type_there : (bytes : Bytes) (at : ℕ) → None ≡ type_at most_deep (drop at bytes) → IsFieldAt type_bytes IsType bytes at None
no_type_there bytes at e t rest fits is = none-some (t, rest) (e ∙ ap (type_at most_deep) is ∙ type_again t most_deep rest fits.names fits.depth)

pub type_shorter : (bytes : Bytes) (at : ℕ) (t : Ty) (rest : Bytes) → IsBytes bytes → Some (t, rest) ≡ type_at most_deep (drop at bytes) → length rest ≤ length bytes
type_shorter bytes at t rest fits e =
    let taken = type_takes most_deep (drop at bytes) (t, rest) (bytes_from bytes at fits) (sym e) in
    omega (arith, length-drop at bytes, ap length taken.taken.parts, length-append (type_bytes t) rest)

pub value_there : (bytes : Bytes) (at : ℕ) (t : Ty) (x : Raw) (rest : Bytes) → IsBytes bytes → at ≤ length bytes → Some (x, rest) ≡ value_at t (drop at bytes) → IsFieldAt (value_bytes t) (IsValue t) bytes at (Some (x, length bytes - length rest))
value_there bytes at t x rest fits le e =
    let taken = value_takes t (drop at bytes) (x, rest) (bytes_from bytes at fits) (sym e) in
    (record { fit = taken.fit; texts = taken.texts }, stands_at bytes at (value_bytes t x) rest le taken.taken.parts)

pub no_value_there : (bytes : Bytes) (at : ℕ) (t : Ty) → None ≡ value_at t (drop at bytes) → IsFieldAt (value_bytes t) (IsValue t) bytes at None
no_value_there bytes at t e x rest fits is = none-some (x, rest) (e ∙ ap (value_at t) is ∙ value_again x t rest fits.fit fits.texts)

pub value_shorter : (bytes : Bytes) (at : ℕ) (t : Ty) (x : Raw) (rest : Bytes) → IsBytes bytes → Some (x, rest) ≡ value_at t (drop at bytes) → length rest ≤ length bytes
value_shorter bytes at t x rest fits e =
    let taken = value_takes t (drop at bytes) (x, rest) (bytes_from bytes at fits) (sym e) in
    omega (arith, length-drop at bytes, ap length taken.taken.parts, length-append (value_bytes t x) rest)
