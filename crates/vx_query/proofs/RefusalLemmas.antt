-- An input holds one scan, or a scan whose expressions are refused for one reason.
use Rattle.std.proofs.Common.{◌≡◌, ◌∙◌, sym, subst, inl, inr, Bool, Result, Ok, Err}
use Rattle.vx_dtype.specs.Types.{Bytes, Ty}
use Rattle.vx_expr.specs.Trees.{Tree}
use Rattle.vx_wire.specs.Building.{IsBuilt}
use Rattle.vx_wire.specs.Encodings.{is_default_kind}
use Rattle.vx_wire.specs.declared.ExprEncoding.{ExprEncoding}
use Rattle.vx_scan.specs.Texts.{SpellsTree}
use Rattle.vx_scan.specs.declared.errors.ScanError.{ScanError}
use Rattle.vx_scan.proofs.TextLemmas.{both_are_taken, one_text_refusal}
use Rattle.vx_request.specs.Requests.{RequestedScan, request_of}
use Rattle.vx_query.specs.Exclusions.{IsSameScan}
use Rattle.vx_query.specs.WireLaws.{WireLaws}
use Rattle.vx_query.specs.Running.{SpellsScan, HoldsScan, HoldsRefused, IsScanRefused, type_of_scan}

-- ---- the texts of a scan

-- bytes spell one expression at most
one_spelled : WireLaws → (holds : ExprEncoding → Bool) (bytes : Bytes) (a b : Tree) → SpellsTree holds bytes a → SpellsTree holds bytes b → a ≡ b
one_spelled laws holds bytes a b x y =
    laws.builds holds y.0 a b (subst (λ w. IsBuilt holds w a) (laws.spells bytes x.0 y.0 x.1.spelled y.1.spelled) x.2) y.2

-- the texts of a scan spell one filter and one projection
pub one_pair : WireLaws → (a : RequestedScan) (f p g q : Tree) → SpellsScan a f p → SpellsScan a g q → (f ≡ g) × (p ≡ q)
one_pair laws a f p g q x y = (
  one_spelled laws is_default_kind a.filter f g x.filter_spelled y.filter_spelled,
  one_spelled laws is_default_kind a.projection p q x.projection_spelled y.projection_spelled,
)

-- an answer that is a refusal is one
pub one_err : {T E : Type 0} (r : Result T E) (e g : E) → r ≡ Err e → r ≡ Err g → e ≡ g
one_err (Ok x) e g h k = absurd (cc h)
one_err (Err x) e g h k =
    let own : x ≡ e = cc h in
    let other : x ≡ g = cc k in
    sym own ∙ other

-- the type of a pair is that of the pair that is spelled
typed_alike : WireLaws → (a : RequestedScan) (f p g q : Tree) (r : Result Ty ScanError) → SpellsScan a f p → SpellsScan a g q → type_of_scan a f p ≡ r
    → type_of_scan a g q ≡ r
typed_alike laws a f p g q r x y h = let same = one_pair laws a f p g q x y in sym (λ i. type_of_scan a (same.0 i) (same.1 i)) ∙ h

-- the expressions of a scan are refused for one reason
one_scan_refusal : WireLaws → (a : RequestedScan) (e g : ScanError) → IsScanRefused a e → IsScanRefused a g → e ≡ g
one_scan_refusal laws a e g h k =
    elim h [
      | inl texts ↦ elim k [
        | inl texts' ↦ one_text_refusal is_default_kind a.filter a.projection e g texts texts'
        | inr typed' ↦ absurd (both_are_taken is_default_kind a.filter a.projection typed'.0 typed'.1 e typed'.2 texts)
      ]
      | inr typed ↦ elim k [
        | inl texts' ↦ absurd (both_are_taken is_default_kind a.filter a.projection typed.0 typed.1 g typed.2 texts')
        | inr typed' ↦
            one_err (type_of_scan a typed'.0 typed'.1) e g (typed_alike laws a typed.0 typed.1 typed'.0 typed'.1 (Err e) typed.2 typed'.2 typed.3) typed'.3
      ]
    ]

-- an answer is no refusal
pub not_err : {T E : Type 0} (r : Result T E) (x : T) (e : E) → r ≡ Ok x → ¬ (r ≡ Err e)
not_err (Ok y) x e h k = absurd (cc k)
not_err (Err y) x e h k = absurd (cc h)

-- expressions that are typed are not refused
not_refused : WireLaws → (a : RequestedScan) (f p : Tree) (t : Ty) (e : ScanError) → SpellsScan a f p → type_of_scan a f p ≡ Ok t → ¬ (IsScanRefused a e)
not_refused laws a f p t e spelled typed h =
    elim h [
      | inl texts ↦ both_are_taken is_default_kind a.filter a.projection f p e spelled texts
      | inr typed' ↦ not_err (type_of_scan a typed'.0 typed'.1) t e (typed_alike laws a f p typed'.0 typed'.1 (Ok t) spelled typed'.2 typed) typed'.3
    ]

-- ---- the scan of an input

-- an answer is one value
pub one_ok : {T E : Type 0} (r : Result T E) (x y : T) → r ≡ Ok x → r ≡ Ok y → x ≡ y
one_ok (Err e) x y h k = absurd (cc h)
one_ok (Ok z) x y h k =
    let own : z ≡ x = cc h in
    let other : z ≡ y = cc k in
    sym own ∙ other

-- an input that holds a request is refused for one reason, and holds no scan then
pub one_held_refusal : WireLaws → (input : Bytes) (e g : ScanError) → HoldsRefused input e → HoldsRefused input g → e ≡ g
one_held_refusal laws input e g h k =
    let same : h.asked ≡ k.asked = one_ok (request_of input) h.asked k.asked h.held k.held in
    one_scan_refusal laws k.asked e g (subst (λ a. IsScanRefused a e) same h.refused) k.refused

pub held_unrefused : WireLaws → (input : Bytes) (a : RequestedScan) (f p : Tree) (e : ScanError) → HoldsScan input a f p → ¬ (HoldsRefused input e)
held_unrefused laws input a f p e h k =
    let same : k.asked ≡ a = one_ok (request_of input) k.asked a k.held h.asked in
    not_refused laws a f p h.ty e h.spelled h.typed (subst (λ b. IsScanRefused b e) same k.refused)

-- an input holds one scan
pub one_scan : WireLaws → (input : Bytes) (a : RequestedScan) (f p : Tree) (b : RequestedScan) (g q : Tree) → HoldsScan input a f p
    → HoldsScan input b g q → IsSameScan a f p b g q
one_scan laws input a f p b g q h k =
    let asked : a ≡ b = one_ok (request_of input) a b h.asked k.asked in
    let pair = one_pair laws b f p g q (subst (λ c. SpellsScan c f p) asked h.spelled) k.spelled in
    record { asked = asked; filter = pair.0; projection = pair.1 }
