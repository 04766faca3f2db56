-- The refusals of a request's expressions, each by its cause, and the rows of all refusals.
use Rattle.std.proofs.Common.{◌≡◌, ◌∙◌, sym, ap, refl, subst, Bool, true, false, cond, [], Option, Some, None, Result, Ok, Err, inl, inr, true≢false}
use Rattle.std.proofs.lemmas.Option.{same_Some}
use Rattle.vx_dtype.specs.Types.{Bytes, Ty}
use Rattle.vx_dtype.specs.TypeRules.{is_bool_ty}
use Rattle.vx_expr.specs.Trees.{Tree}
use Rattle.vx_semantics.specs.Slots.{slots_fit}
use Rattle.vx_semantics.specs.Tables.{row_type}
use Rattle.vx_semantics.specs.Typing.{Refusal, not_struct, nullable_select, unknown_field, duplicate_field, type_mismatch, typed_of, and_then, unless}
use Rattle.vx_laws_simplifying.proofs.Passes.{no_slots-fit}
use Rattle.vx_wire.specs.Encodings.{is_default_kind}
use Rattle.vx_scan.specs.ErrorKinds.{ErrorKind, of_text, of_types, kind_of}
use Rattle.vx_scan.specs.Scanning.{typing_error, on_side, after_filter}
use Rattle.vx_scan.specs.Texts.{AreRefused}
use Rattle.vx_scan.specs.declared.errors.Side.{Side}
use Rattle.vx_scan.specs.declared.errors.Side.TheVariants.{Filter, Projection, Text}
use Rattle.vx_scan.specs.declared.errors.ScanError.{ScanError}
use Rattle.vx_scan.specs.declared.errors.ScanError.TheVariants as scans
use Rattle.vx_request.specs.Requests.{RequestedScan}
use Rattle.vx_request.specs.declared.errors.RequestError.{RequestError}
use Rattle.vx_query.specs.Refusals.{request_refusal_name, scan_refusal_name}
use Rattle.vx_query.specs.Running.{Form, HasNoKey, HoldsRefused, IsScanRefused, reads_request, uses_expressions, type_of_scan}
use Rattle.vx_query.specs.WireLaws.{WireLaws}
use Rattle.vx_query.specs.RequestCauses.{IsNoRequest}
use Rattle.vx_query.specs.ExpressionCauses.{HoldsBadText, IsTyped, IsUntyped, IsBoolean, IsNoBoolean, IsIllTyped, HoldsExpressions, HoldsIllTyped, HoldsNoBoolean}
use Rattle.vx_query.specs.Exactly.{RequestsEndSo, ExpressionsEndSo, taken_of}
use Rattle.vx_query.proofs.KeyLemmas.{text_free}
use Rattle.vx_query.proofs.CauseLemmas.{told_request, told_expressions, says_why, says_refusal}
use Rattle.vx_query.proofs.RequestCauseLemmas.{why_refused, refused_so}
use Rattle.vx_query.proofs.RequestEnds.{uses_reads}

-- ---- rows

-- the row of a refusal of a request
pub request_row : (e : RequestError) → RequestsEndSo reads_request 3 (request_refusal_name e) (IsNoRequest e)
request_row e = record {
  only = λ form i i' o o' used reads tells.
      let found = told_request e form i i' o o' used reads tells in
      (found.0, found.1, why_refused e found.0 found.2);
  always = λ form i i' o o' used status input reads told cause well still.
      says_why e form i i' o o' used status input reads told (refused_so e (taken_of input) cause) well still;
}

-- the row of a refusal of its expressions, by a cause that is the same
pub expression_row : WireLaws → (e : ScanError) (Cause : Bytes → Type 0) → ((input : Bytes) → HoldsRefused input e → Cause input)
    → ((input : Bytes) → Cause input → HoldsRefused input e) → ((form : Option Form) (input : Bytes) → Cause input → ¬ (HasNoKey form input))
    → RequestsEndSo uses_expressions 4 (scan_refusal_name e) Cause
expression_row laws e Cause forth back free = record {
  only = λ form i i' o o' used uses tells.
      let found = told_expressions e form i i' o o' used (uses_reads form uses) tells in
      (found.0, found.1, forth found.0 found.2);
  always = λ form i i' o o' used status input uses told cause well still.
      says_refusal laws e form i i' o o' used status input uses told (back (taken_of input) cause) (free form (taken_of input) cause) well still;
}

-- the row of one that comes behind the key
keyed_row : WireLaws → (e : ScanError) (Cause : Bytes → Type 0) → ((input : Bytes) → HoldsRefused input e → Cause input)
    → ((input : Bytes) → Cause input → HoldsRefused input e) → ExpressionsEndSo 4 (scan_refusal_name e) Cause
keyed_row laws e Cause forth back = record {
  only = λ form i i' o o' used uses tells.
      let found = told_expressions e form i i' o o' used (uses_reads form uses) tells in
      (found.0, found.1, forth found.0 found.2, found.3);
  always = λ form i i' o o' used status input uses told cause keyed well still.
      says_refusal laws e form i i' o o' used status input uses told (back (taken_of input) cause) keyed well still;
}

-- ---- typing

-- without slots the typing of an expression is the strict typing alone
unslotted : (b : Bool) (r : Result Ty Refusal) → b ≡ true → and_then r (λ u. unless b type_mismatch (Ok u)) ≡ r
unslotted true (Ok u) h = refl
unslotted true (Err e) h = refl
unslotted false r h = absurd (true≢false (sym h))

-- the answers of typing both expressions of a scan
abbrev type_of : RequestedScan → Tree → Result Ty Refusal
type_of a e = typed_of (row_type a.zones.columns) e

abbrev both_types : RequestedScan → Tree → Tree → Result Ty ScanError
both_types a f p = after_filter (on_side Filter (type_of a f)) (on_side Projection (type_of a p))

scan_typed : (a : RequestedScan) (f p : Tree) → type_of_scan a f p ≡ both_types a f p
scan_typed a f p =
    let one : (e : Tree) → and_then (type_of a e) (λ u. unless (slots_fit [] e) type_mismatch (Ok u)) ≡ type_of a e =
    λ e. unslotted (slots_fit [] e) (type_of a e) (no_slots-fit e) in
    λ i. after_filter (on_side Filter (one f i)) (on_side Projection (one p i))

-- a refusal of typing, with its side
typing_in : ScanError → Option (Side × Refusal)
typing_in (scans.NotStruct side) = Some (side, not_struct)
typing_in (scans.NullableSelect side) = Some (side, nullable_select)
typing_in (scans.UnknownField side) = Some (side, unknown_field)
typing_in (scans.DuplicateField side) = Some (side, duplicate_field)
typing_in (scans.TypeMismatch side) = Some (side, type_mismatch)
typing_in _ = None

found_typing : (side : Side) (r : Refusal) → typing_in (typing_error side r) ≡ Some (side, r)
unfolding typing_in
found_typing side not_struct = refl
found_typing side nullable_select = refl
found_typing side unknown_field = refl
found_typing side duplicate_field = refl
found_typing side type_mismatch = refl

-- why both expressions of a scan are refused: the filter's typing, a filter that is no boolean, the projection's typing
data IllTyped (a : RequestedScan) (f p : Tree) (e : ScanError) : Type 0 where
  filter_refused : (r : Refusal) → IsUntyped a f r → typing_error Filter r ≡ e → IllTyped a f p e
  no_boolean : IsNoBoolean a f → scans.FilterNotBool ≡ e → IllTyped a f p e
  projection_refused : (r : Refusal) → IsBoolean a f → IsUntyped a p r → typing_error Projection r ≡ e → IllTyped a f p e

abbrev no_type : ScanError → Result Ty ScanError
no_type e = Err e

one_error : (e g : ScanError) → no_type e ≡ no_type g → e ≡ g
one_error e g h = cc h

ill_projection : (a : RequestedScan) (f p : Tree) (e : ScanError) (u : Ty) (r : Result Ty Refusal) → type_of a f ≡ Ok u → is_bool_ty u ≡ true → type_of a p ≡ r
    → on_side Projection r ≡ Err e → IllTyped a f p e
ill_projection a f p e u (Ok v) own bool is h = absurd (cc h)
ill_projection a f p e u (Err r) own bool is h = projection_refused r (u, own, bool) is (one_error (typing_error Projection r) e h)

ill_filter : (a : RequestedScan) (f p : Tree) (e : ScanError) (u : Ty) (b : Bool) → type_of a f ≡ Ok u → is_bool_ty u ≡ b
    → cond b (on_side Projection (type_of a p)) (Err scans.FilterNotBool) ≡ Err e → IllTyped a f p e
ill_filter a f p e u true own bool h = ill_projection a f p e u (type_of a p) own bool refl h
ill_filter a f p e u false own bool h = no_boolean (u, own, bool) (one_error scans.FilterNotBool e h)

ill_both : (a : RequestedScan) (f p : Tree) (e : ScanError) (r : Result Ty Refusal) → type_of a f ≡ r
    → after_filter (on_side Filter r) (on_side Projection (type_of a p)) ≡ Err e → IllTyped a f p e
ill_both a f p e (Ok u) is h = ill_filter a f p e u (is_bool_ty u) is refl h
ill_both a f p e (Err r) is h = filter_refused r is (one_error (typing_error Filter r) e h)

ill_typed : (a : RequestedScan) (f p : Tree) (e : ScanError) → type_of_scan a f p ≡ Err e → IllTyped a f p e
ill_typed a f p e h = ill_both a f p e (type_of a f) refl (sym (scan_typed a f p) ∙ h)

-- and back
refused_filter : (a : RequestedScan) (f p : Tree) (r : Refusal) → IsUntyped a f r → type_of_scan a f p ≡ Err (typing_error Filter r)
refused_filter a f p r h = scan_typed a f p ∙ ap (λ t. after_filter (on_side Filter t) (on_side Projection (type_of a p))) h

behind_filter : (a : RequestedScan) (f p : Tree) (u : Ty) (b : Bool) → IsTyped a f u → is_bool_ty u ≡ b
    → type_of_scan a f p ≡ cond b (on_side Projection (type_of a p)) (Err scans.FilterNotBool)
behind_filter a f p u b own bool =
    scan_typed a f p ∙ ap (λ t. after_filter (on_side Filter t) (on_side Projection (type_of a p))) own
    ∙ ap (λ c. cond c (on_side Projection (type_of a p)) (Err scans.FilterNotBool)) bool

refused_projection : (a : RequestedScan) (f p : Tree) (r : Refusal) → IsBoolean a f → IsUntyped a p r
    → type_of_scan a f p ≡ Err (typing_error Projection r)
refused_projection a f p r (u, own, bool) h = behind_filter a f p u true own bool ∙ ap (on_side Projection) h

refused_boolean : (a : RequestedScan) (f p : Tree) → IsNoBoolean a f → type_of_scan a f p ≡ Err scans.FilterNotBool
refused_boolean a f p (u, own, bool) = behind_filter a f p u false own bool

-- ---- byte texts

-- no byte text is refused by typing, nor by a filter that is no boolean
untyped_text : (a : RequestedScan) (side : Side) (r : Refusal) → ¬ (AreRefused is_default_kind a.filter a.projection (typing_error side r))
untyped_text a side not_struct h = elim h [ inl none ↦ none | inr later ↦ later.1 ]
untyped_text a side nullable_select h = elim h [ inl none ↦ none | inr later ↦ later.1 ]
untyped_text a side unknown_field h = elim h [ inl none ↦ none | inr later ↦ later.1 ]
untyped_text a side duplicate_field h = elim h [ inl none ↦ none | inr later ↦ later.1 ]
untyped_text a side type_mismatch h = elim h [ inl none ↦ none | inr later ↦ later.1 ]

no_boolean_text : (a : RequestedScan) → ¬ (AreRefused is_default_kind a.filter a.projection scans.FilterNotBool)
no_boolean_text a h = elim h [ inl none ↦ none | inr later ↦ later.1 ]

-- a refusal of typing is none of a byte text
typing_kind : (side : Side) (r : Refusal) → kind_of (typing_error side r) ≡ of_types
typing_kind side not_struct = refl
typing_kind side nullable_select = refl
typing_kind side unknown_field = refl
typing_kind side duplicate_field = refl
typing_kind side type_mismatch = refl

types_no_text : (k : ErrorKind) → k ≡ of_types → k ≡ of_text → ⊥
types_no_text k h text = absurd cc

typed_no_text : (a : RequestedScan) (f p : Tree) (e : ScanError) → IllTyped a f p e → kind_of e ≡ of_text → ⊥
typed_no_text a f p e (filter_refused r h same) text = types_no_text (kind_of e) (sym (ap kind_of same) ∙ typing_kind Filter r) text
typed_no_text a f p e (no_boolean h same) text = types_no_text (kind_of e) (sym (ap kind_of same)) text
typed_no_text a f p e (projection_refused r b h same) text = types_no_text (kind_of e) (sym (ap kind_of same) ∙ typing_kind Projection r) text

bad_text : (e : ScanError) → kind_of e ≡ of_text → (input : Bytes) → HoldsRefused input e → HoldsBadText e input
bad_text e text input h = by h.refused
  where
    by : IsScanRefused h.asked e → HoldsBadText e input
    by (inl refused) = record { asked = h.asked; held = h.held; refused = refused }
    by (inr (f, p, spelled, typed)) = absurd (typed_no_text h.asked f p e (ill_typed h.asked f p e typed) text)

refused_text : (e : ScanError) (input : Bytes) → HoldsBadText e input → HoldsRefused input e
refused_text e input h = record { asked = h.asked; held = h.held; refused = inl h.refused }

pub text_row : WireLaws → (e : ScanError) → kind_of e ≡ of_text → RequestsEndSo uses_expressions 4 (scan_refusal_name e) (HoldsBadText e)
text_row laws e text = expression_row laws e (HoldsBadText e) (bad_text e text) (refused_text e) (text_free e)

-- ---- the rows of typing

holds_so : (So : RequestedScan → Tree → Tree → Type 0) (e : ScanError) → ((a : RequestedScan) → ¬ (AreRefused is_default_kind a.filter a.projection e))
    → ((a : RequestedScan) (f p : Tree) → type_of_scan a f p ≡ Err e → So a f p) → (input : Bytes) → HoldsRefused input e → HoldsExpressions So input
holds_so So e no_text so input h = by h.refused
  where
    by : IsScanRefused h.asked e → HoldsExpressions So input
    by (inl refused) = absurd (no_text h.asked refused)
    by (inr (f, p, spelled, typed)) =
        record { asked = h.asked; held = h.held; filter = f; projection = p; spelled = spelled; so = so h.asked f p typed }

refused_typing : (So : RequestedScan → Tree → Tree → Type 0) (e : ScanError) → ((a : RequestedScan) (f p : Tree) → So a f p → type_of_scan a f p ≡ Err e)
    → (input : Bytes) → HoldsExpressions So input → HoldsRefused input e
refused_typing So e typed input h =
    record { asked = h.asked; held = h.held; refused = inr (h.filter, h.projection, h.spelled, typed h.asked h.filter h.projection h.so) }

-- the side and the refusal that a typing told
abbrev sided : Side → Refusal → Side × Refusal
sided side r = (side, r)

one_typing : (side other : Side) (r s : Refusal) → typing_error side r ≡ typing_error other s → sided side r ≡ sided other s
one_typing side other r s h = same_Some (sided side r) (sided other s) (sym (found_typing side r) ∙ ap typing_in h ∙ found_typing other s)

no_typing : (side : Side) (r : Refusal) → ¬ (scans.FilterNotBool ≡ typing_error side r)
unfolding typing_in
no_typing side r h = absurd (cc (ap typing_in h ∙ found_typing side r))

by_typing : (side : Side) (r : Refusal) (a : RequestedScan) (f p : Tree) → type_of_scan a f p ≡ Err (typing_error side r) → IsIllTyped side r a f p
by_typing side r a f p h = by (ill_typed a f p (typing_error side r) h)
  where
    by : IllTyped a f p (typing_error side r) → IsIllTyped side r a f p
    by (filter_refused s own same) =
        subst (λ x. IsIllTyped x.0 x.1 a f p) (one_typing Filter side s r same) own
    by (no_boolean own same) = absurd (no_typing side r same)
    by (projection_refused s bool own same) =
        subst (λ x. IsIllTyped x.0 x.1 a f p) (one_typing Projection side s r same) (bool, own)

to_typing : (side : Side) (r : Refusal) (a : RequestedScan) (f p : Tree) → IsIllTyped side r a f p → type_of_scan a f p ≡ Err (typing_error side r)
to_typing Filter r a f p own = refused_filter a f p r own
to_typing Projection r a f p own = refused_projection a f p r own.0 own.1
to_typing Text r a f p own = absurd own

pub typing_row : WireLaws → (side : Side) (r : Refusal) → ExpressionsEndSo 4 (scan_refusal_name (typing_error side r)) (HoldsIllTyped side r)
typing_row laws side r =
    keyed_row laws (typing_error side r) (HoldsIllTyped side r)
    (holds_so (IsIllTyped side r) (typing_error side r) (λ a. untyped_text a side r) (by_typing side r))
    (refused_typing (IsIllTyped side r) (typing_error side r) (to_typing side r))

by_boolean : (a : RequestedScan) (f p : Tree) → type_of_scan a f p ≡ Err scans.FilterNotBool → IsNoBoolean a f
by_boolean a f p h = by (ill_typed a f p scans.FilterNotBool h)
  where
    by : IllTyped a f p scans.FilterNotBool → IsNoBoolean a f
    by (filter_refused r own same) = absurd (no_typing Filter r (sym same))
    by (no_boolean own same) = own
    by (projection_refused r bool own same) = absurd (no_typing Projection r (sym same))

pub boolean_row : WireLaws → ExpressionsEndSo 4 (scan_refusal_name scans.FilterNotBool) HoldsNoBoolean
boolean_row laws =
    keyed_row laws scans.FilterNotBool HoldsNoBoolean
    (holds_so (λ a f p. IsNoBoolean a f) scans.FilterNotBool no_boolean_text by_boolean)
    (refused_typing (λ a f p. IsNoBoolean a f) scans.FilterNotBool refused_boolean)
