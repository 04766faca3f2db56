-- A head that is read is the head that was written, and what was written is read again.
use Rattle.std.proofs.Common.{◌≡◌, ◌⊎◌, ℕ, ◌+◌, ◌^◌, ◌<◌, ◌≤◌, Bool, true, false, cond, ltb, ◌++◌, length, drop, take, Some, None, refl, sym, ap, subst, ◌∙◌, append_assoc, arith, inl, inr}
use Rattle.std.specs.Str.{is_utf8, IsUtf8}
use Rattle.std.proofs.lemmas.Str.{is_utf8-from_IsUtf8, IsUtf8-from_is_utf8}
use Rattle.std.proofs.lemmas.Bool.{ltb-false, le-ltb}
use Rattle.std.proofs.lemmas.List.{take_at, drop_at, take-append-drop, length-append, length-take, get_or-drop}
use Rattle.vx_dtype.specs.Types.{Bytes}
use Rattle.vx_wire_bytes.specs.Numbers.{number_bytes, piece_bytes}
use Rattle.vx_wire_bytes.specs.Wires.{Head, head_bytes, IsHead}
use Rattle.vx_wire_bytes.specs.Reading.{◌>>=◌, number_at, split_bytes, piece_at, checked_text, text_at, head_at}
use Rattle.vx_wire_bytes.proofs.NumberLemmas.{IsBytes, bind_some, guard_some, some_is, Takes, Takes-then, number_takes, number_again, number_some}

IsBytes-drop : (n : ℕ) (bytes : Bytes) → IsBytes bytes → IsBytes (drop n bytes)
IsBytes-drop n bytes h i = rw get_or-drop (h (n + i))

passed : {A : Type 0} (b : Bool) (x y : A) → cond b (Some x) None ≡ Some y → (b ≡ true) × (x ≡ y)
passed true x y e = (refl, cc)
passed false x y e = absurd cc

pub piece_takes : (bytes : Bytes) (x : Bytes × Bytes) → IsBytes bytes → piece_at bytes ≡ Some x → Takes bytes (piece_bytes x.0) x.1 × (length x.0 < 2 ^ 32)
unfolding piece_at
piece_takes bytes x fits e =
    let b = bind_some (number_at bytes) split_bytes x e in
    let n = b.0 in
    let t = number_takes bytes n fits b.1 in
    let g = guard_some (ltb (length n.1) n.0) (take n.0 n.1, drop n.0 n.1) x b.2 in
    let long : n.0 ≤ length n.1 = ltb-false _ _ g.0 in
    let len : length (take n.0 n.1) ≡ n.0 = omega (arith, length-take n.0 n.1) in
    let second : Takes n.1 (take n.0 n.1) (drop n.0 n.1) = record { parts = sym (take-append-drop n.0 n.1); fits = IsBytes-drop n.0 n.1 t.0.fits } in
    let both = Takes-then bytes (number_bytes n.0) n.1 (take n.0 n.1) (drop n.0 n.1) t.0 second in
    let whole : Takes bytes (piece_bytes (take n.0 n.1)) (drop n.0 n.1) = subst (λ (k : ℕ). Takes bytes (number_bytes k ++ take n.0 n.1) (drop n.0 n.1)) (sym len) both in
    subst (λ (p : Bytes × Bytes). Takes bytes (piece_bytes p.0) p.1 × (length p.0 < 2 ^ 32)) g.1 (whole, omega (arith, t.1))

pub piece_again : (piece rest : Bytes) → length piece < 2 ^ 32 → piece_at (piece_bytes piece ++ rest) ≡ Some (piece, rest)
unfolding piece_at
piece_again piece rest lt =
    let long : ltb (length (piece ++ rest)) (length piece) ≡ false = le-ltb _ _ (omega (arith, length-append piece rest)) in
    ap piece_at (append_assoc (number_bytes (length piece)) piece rest)
    ∙ rw (number_again (length piece) (piece ++ rest) lt, long, take_at piece rest (length piece) refl, drop_at piece rest (length piece) refl) refl

pub text_takes : (bytes : Bytes) (x : Bytes × Bytes) → IsBytes bytes → text_at bytes ≡ Some x → Takes bytes (piece_bytes x.0) x.1 × (length x.0 < 2 ^ 32) × (is_utf8 x.0 ≡ true)
unfolding text_at
text_takes bytes x fits e =
    let b = bind_some (piece_at bytes) checked_text x e in
    let t = piece_takes bytes b.0 fits b.1 in
    let g = passed (is_utf8 b.0.0) b.0 x b.2 in
    subst (λ (p : Bytes × Bytes). Takes bytes (piece_bytes p.0) p.1 × (length p.0 < 2 ^ 32) × (is_utf8 p.0 ≡ true)) g.1 (t.0, t.1, g.0)

pub text_again : (text rest : Bytes) → length text < 2 ^ 32 → is_utf8 text ≡ true → text_at (piece_bytes text ++ rest) ≡ Some (text, rest)
unfolding text_at
text_again text rest lt utf8 = rw (piece_again text rest lt, utf8) refl

pub head_takes : (bytes : Bytes) (x : Head × Bytes) → IsBytes bytes → head_at bytes ≡ Some x → Takes bytes (head_bytes x.0) x.1 × IsHead x.0
unfolding head_at
head_takes bytes x fits e =
    let a = bind_some (text_at bytes) (λ id. piece_at id.1 >>= λ metadata. number_at metadata.1 >>= λ children. Some (record { id = id.0; metadata = metadata.0; children = children.0 }, children.1)) x e in
    let b = bind_some (piece_at a.0.1) (λ metadata. number_at metadata.1 >>= λ children. Some (record { id = a.0.0; metadata = metadata.0; children = children.0 }, children.1)) x a.2 in
    let c = bind_some (number_at b.0.1) (λ children. Some (record { id = a.0.0; metadata = b.0.0; children = children.0 }, children.1)) x b.2 in
    let t0 = text_takes bytes a.0 fits a.1 in
    let t1 = piece_takes a.0.1 b.0 t0.0.fits b.1 in
    let t2 = number_takes b.0.1 c.0 t1.0.fits c.1 in
    let e12 = Takes-then a.0.1 (piece_bytes b.0.0) b.0.1 (number_bytes c.0.0) c.0.1 t1.0 t2.0 in
    let e02 = Takes-then bytes (piece_bytes a.0.0) a.0.1 (piece_bytes b.0.0 ++ number_bytes c.0.0) c.0.1 t0.0 e12 in
    let made : Head × Bytes = (record { id = a.0.0; metadata = b.0.0; children = c.0.0 }, c.0.1) in
    subst (λ (y : Head × Bytes). Takes bytes (head_bytes y.0) y.1 × IsHead y.0) (some_is made x c.2)
    (e02, record { text = t0.2; id = t0.1; metadata = t1.1; children = t2.1 })

pub head_again : (h : Head) (rest : Bytes) → IsHead h → head_at (head_bytes h ++ rest) ≡ Some (h, rest)
unfolding head_at
head_again h rest fits =
    let regrouped : head_bytes h ++ rest ≡ piece_bytes h.id ++ (piece_bytes h.metadata ++ (number_bytes h.children ++ rest)) =
    append_assoc (piece_bytes h.id) (piece_bytes h.metadata ++ number_bytes h.children) rest ∙ ap (λ (x : Bytes). piece_bytes h.id ++ x) (append_assoc (piece_bytes h.metadata) (number_bytes h.children) rest) in
    ap head_at regrouped
    ∙ rw (text_again h.id (piece_bytes h.metadata ++ (number_bytes h.children ++ rest)) fits.id fits.text, piece_again h.metadata (number_bytes h.children ++ rest) fits.metadata, number_again h.children rest fits.children) refl

pub head_some : (h : Head) → 0 < length (head_bytes h)
head_some h =
    let n = number_some h.children in
    omega (arith, length-append (piece_bytes h.id) (piece_bytes h.metadata ++ number_bytes h.children), length-append (piece_bytes h.metadata) (number_bytes h.children))

cases_bool : (b : Bool) → (b ≡ true) ⊎ (b ≡ false)
cases_bool true = inl refl
cases_bool false = inr refl

pub text_front_ok : (bytes piece rest text : Bytes) → Some (piece, rest) ≡ piece_at bytes → text ≡ piece → IsUtf8 piece → Some (text, rest) ≡ text_at bytes
unfolding text_at
text_front_ok bytes piece rest text e same utf8 = rw (← e, is_utf8-from_IsUtf8 piece utf8, same) refl

pub text_front_err : (bytes piece rest : Bytes) → Some (piece, rest) ≡ piece_at bytes → ¬ (IsUtf8 piece) → None ≡ text_at bytes
unfolding text_at
text_front_err bytes piece rest e bad = rw (← e) (elim (cases_bool (is_utf8 piece)) [
  | inl good ↦ absurd (bad (IsUtf8-from_is_utf8 piece good))
  | inr none ↦ rw none refl
])
