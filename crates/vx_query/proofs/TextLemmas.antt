-- What answers an input by an explanation, and a word by a text.
use Rattle.std.proofs.Common.{◌≡◌, sym, subst, Some, Result, Ok, Err, inl, inr}
use Rattle.std.specs.Result.{IsErrAnd}
use Rattle.std.specs.declared.string.String.{String}
use Rattle.std.specs.declared.alloc.Global.{Global}
use Rattle.vx_dtype.specs.Types.{Bytes}
use Rattle.vx_expr.specs.Trees.{Tree}
use Rattle.vx_wire.specs.Encodings.{is_default_kind}
use Rattle.vx_scan.specs.ErrorKinds.{ErrorKind, of_memory, of_text, of_types, of_break, of_read, kind_of, OnlyOfText}
use Rattle.vx_scan.specs.Texts.{IsTextRefused}
use Rattle.vx_scan.specs.declared.errors.Side.TheVariants.{Text}
use Rattle.vx_scan.specs.declared.errors.ScanError.{ScanError}
use Rattle.vx_explain.specs.Explaining.{IsUnexplained, Explains, Shows}
use Rattle.vx_request.specs.Requests.{RequestedScan, request_of, hex_bytes}
use Rattle.vx_query.specs.RefusalViews.{kind_refusal, scan_refusal, IsUnanswered, IsWordUnshown}
use Rattle.vx_query.specs.TextViews.{ExplainsInput, ShowsWord}
use Rattle.vx_query.specs.declared.refusals.Refusal.{Refusal}

-- an answer that is a refusal
pub input_err : (input : Bytes) (r : Refusal) (result : Result (String Global) Refusal) → IsErrAnd result (λ x. x ≡ r) → IsUnanswered input r → ExplainsInput input result
input_err input r (Ok x) h k = absurd h
input_err input r (Err x) h k = subst (IsUnanswered input) (sym h) k

pub word_err : (told : Tree → Bytes) (word : Bytes) (r : Refusal) (result : Result (String Global) Refusal) → IsErrAnd result (λ x. x ≡ r) → IsWordUnshown word r → ShowsWord told word result
word_err told word r (Ok x) h k = absurd h
word_err told word r (Err x) h k = subst (IsWordUnshown word) (sym h) k

-- two texts that are not explained
pub unexplained : (input : Bytes) (a : RequestedScan) (e : ScanError) → request_of input ≡ Ok a → Explains is_default_kind a.zones a.filter a.projection (Err e)
    → IsUnanswered input (scan_refusal e)
unexplained input a e found h = by (kind_of e) h
  where
    by : (k : ErrorKind) → IsUnexplained k is_default_kind a.zones a.filter a.projection e → IsUnanswered input (kind_refusal k e)
    by of_memory r = tt
    by of_text r = record { asked = a; held = found; refused = inl r }
    by of_types r = record { asked = a; held = found; refused = inr r }
    by (of_break cause) r = absurd r
    by of_read r = absurd r

-- bytes that are not shown
pub unshown_word : (told : Tree → Bytes) (word bytes : Bytes) (e : ScanError) → hex_bytes word ≡ Some bytes → Shows told is_default_kind bytes (Err e)
    → IsWordUnshown word (scan_refusal e)
unshown_word told word bytes e digits h = by (kind_of e) h
  where
    by : (k : ErrorKind) → OnlyOfText k (IsTextRefused is_default_kind Text bytes e) → IsWordUnshown word (kind_refusal k e)
    by of_memory r = tt
    by of_text r = record { bytes = bytes; digits = digits; refused = r }
    by of_types r = absurd r
    by (of_break cause) r = absurd r
    by of_read r = absurd r
