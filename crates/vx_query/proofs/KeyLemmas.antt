-- Of one input a key is refused for one reason, or is that of one search; and neither where the input is no request, or its texts spell no expressions.
use Rattle.std.proofs.Common.{◌≡◌, ◌∙◌, sym, ap, refl, subst, Option, Some, None, true, true≢false}
use Rattle.std.proofs.lemmas.Option.{same_Some}
use Rattle.vx_dtype.specs.Types.{Bytes, Ty}
use Rattle.vx_dtype.specs.TypeRules.{field_type, is_plain}
use Rattle.vx_wire.specs.Encodings.{is_default_kind}
use Rattle.vx_scan.specs.Texts.{AreRefused}
use Rattle.vx_scan.specs.declared.errors.ScanError.{ScanError}
use Rattle.vx_scan.proofs.TextLemmas.{both_are_taken}
use Rattle.vx_laws_topk.specs.TopRows.{TopAsk}
use Rattle.vx_request.specs.Requests.{RequestedScan, request_of}
use Rattle.vx_query.specs.TopWords.{KeyRefusal, unknown_key, bad_key, IsNoKey}
use Rattle.vx_query.specs.Running.{Form, HoldsNoKey, HasNoKey, HoldsTop, words_of, scan_form, explain_form, show_form, text_form, gen_form, top_form, file_form, scan_file_form, help_form, version_form}
use Rattle.vx_query.specs.ExpressionCauses.{HoldsBadText}
use Rattle.vx_query.specs.Exclusions.{KeysMeanOne, IsSameTop}
use Rattle.vx_query.specs.WireLaws.{WireLaws}
use Rattle.vx_query.proofs.RefusalLemmas.{not_err, one_ok, one_scan}
use Rattle.vx_query.proofs.RequestCauseLemmas.{refused_so}
use Rattle.vx_query.proofs.RequestEnds.{not_none}

-- ---- the key of a table

one_no_key : (r q : KeyRefusal) (key : Bytes) (a : RequestedScan) → IsNoKey r key a → IsNoKey q key a → r ≡ q
one_no_key unknown_key unknown_key key a h k = refl
one_no_key unknown_key bad_key key a h k = absurd (not_none (sym k.1 ∙ h))
one_no_key bad_key unknown_key key a h k = absurd (not_none (sym h.1 ∙ k))
one_no_key bad_key bad_key key a h k = refl

pub no_key_typed : (r : KeyRefusal) (key : Bytes) (a : RequestedScan) (t : Ty) → IsNoKey r key a → field_type key a.zones.columns ≡ Some t
    → ¬ (is_plain t ≡ true)
no_key_typed unknown_key key a t h column plain = not_none (sym column ∙ h)
no_key_typed bad_key key a t h column plain =
    let same : h.0 ≡ t = same_Some h.0 t (sym h.1 ∙ column) in
    true≢false (sym plain ∙ sym (ap is_plain same) ∙ h.2)

-- ---- the key of an input

pub one_key_refusal : (key input : Bytes) (r q : KeyRefusal) → HoldsNoKey r key input → HoldsNoKey q key input → r ≡ q
one_key_refusal key input r q h k =
    let same : h.asked ≡ k.asked = one_ok (request_of input) h.asked k.asked h.held k.held in
    one_no_key r q key k.asked (subst (IsNoKey r key) same h.no_key) k.no_key

pub key_unsearched : (input : Bytes) (r : KeyRefusal) (a : RequestedScan) (ask : TopAsk) → HoldsNoKey r ask.key input → ¬ (HoldsTop input a ask)
key_unsearched input r a ask h k =
    let same : h.asked ≡ a = one_ok (request_of input) h.asked a h.held k.scan.asked in
    no_key_typed r ask.key a ask.key_type (subst (IsNoKey r ask.key) same h.no_key) k.column k.plain

pub text_keyed : (key input : Bytes) (e : ScanError) (r : KeyRefusal) → HoldsBadText e input → ¬ (HoldsNoKey r key input)
text_keyed key input e r h k =
    let same : h.asked ≡ k.asked = one_ok (request_of input) h.asked k.asked h.held k.held in
    both_are_taken is_default_kind k.asked.filter k.asked.projection k.filter k.projection e k.spelled
    (subst (λ a. AreRefused is_default_kind a.filter a.projection e) same h.refused)

-- whatever the arguments
pub text_free : (e : ScanError) (form : Option Form) (input : Bytes) → HoldsBadText e input → ¬ (HasNoKey form input)
text_free e None input h k = k
text_free e (Some (scan_form chosen)) input h k = k
text_free e (Some explain_form) input h k = k
text_free e (Some (show_form showing word)) input h k = k
text_free e (Some (text_form query)) input h k = k
text_free e (Some (gen_form rows)) input h k = k
text_free e (Some (top_form top)) input h k = text_keyed top.key input e k.0 h k.1
text_free e (Some file_form) input h k = k
text_free e (Some scan_file_form) input h k = k
text_free e (Some help_form) input h k = k
text_free e (Some version_form) input h k = k

-- ---- one search

pub one_search : WireLaws → (input : Bytes) (a b : RequestedScan) (ask other : TopAsk) → words_of ask ≡ words_of other → HoldsTop input a ask
    → HoldsTop input b other → IsSameTop a ask b other
one_search laws input a b ask other words h k =
    let same = one_scan laws input a ask.filter_expr ask.projection b other.filter_expr other.projection h.scan k.scan in
    let key : ask.key ≡ other.key = ap (λ w. w.key) words in
    let own : field_type ask.key a.zones.columns ≡ field_type other.key b.zones.columns = λ i. field_type (key i) (same.asked i).zones.columns in
    let ty : ask.key_type ≡ other.key_type = same_Some ask.key_type other.key_type (sym h.column ∙ own ∙ k.column) in
    let descending : ask.descending ≡ other.descending = ap (λ w. w.descending) words in
    let count : ask.count ≡ other.count = ap (λ w. w.count) words in
    record {
      asked = same.asked;
      search = λ i. record {
        filter_expr = same.filter i;
        projection = same.projection i;
        key = key i;
        key_type = ty i;
        descending = descending i;
        count = count i;
      };
    }

pub keys_mean_one : WireLaws → KeysMeanOne
keys_mean_one laws = record {
  one_reason = one_key_refusal;
  one_search = one_search laws;
  none_refused_searched = key_unsearched;
  no_request_refused = λ key input e r h k. not_err (request_of input) k.asked e k.held (refused_so e input h);
  no_text_refused = text_keyed;
}
