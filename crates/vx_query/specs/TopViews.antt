-- For the checker: no public clause cites this. How the search for the first rows of a request's table ends, and why it gives no report.
use Rattle.std.specs.Prelude.{◌≡◌, true, false, Some, Result, Ok, Err}
use Rattle.std.specs.String.{string_bytes}
use Rattle.vx_dtype.specs.Types.{Bytes, Ty}
use Rattle.vx_dtype.specs.TypeRules.{field_type, is_plain}
use Rattle.vx_expr.specs.Trees.{Tree}
use Rattle.vx_semantics.specs.Breaks.{by_sum, by_cast}
use Rattle.vx_wire.specs.Encodings.{is_default_kind}
use Rattle.vx_scan.specs.ErrorKinds.{ErrorKind, of_types, of_break, kind_of, OnlyOfText}
use Rattle.vx_scan.specs.Stores.{StoreSeen}
use Rattle.vx_scan.specs.Texts.{SpellBoth, AreRefused}
use Rattle.vx_scan.specs.declared.errors.ScanError.{ScanError}
use Rattle.vx_laws_topk.specs.TopRows.{TopAsk}
use Rattle.vx_topk.specs.declared.errors.TopError.{TopError}
use Rattle.vx_topk.specs.declared.errors.TopError.TheVariants as tops
use Rattle.vx_request.specs.Requests.{RequestedScan}
use Rattle.vx_query.specs.TopWords.{AskedTop, unknown_key, bad_key, IsNoKey}
use Rattle.vx_query.specs.Running.{HoldsTop, HoldsNoKey, HoldsRefused, HasNoKey, top_form}
use Rattle.vx_query.specs.Running.{type_of_scan, top_report, topped_store, top_broken_store, top_breaks, top_breaks_by}
use Rattle.vx_query.specs.RefusalViews.{IsUnanswered}
use Rattle.vx_query.specs.EndingViews.{break_ending}
use Rattle.vx_query.specs.declared.endings.Ending.{Ending}
use Rattle.vx_query.specs.declared.endings.Ending.TheVariants.{Report, Overflow, BadCast}
use Rattle.vx_query.specs.declared.refusals.Refusal.{Refusal}
use Rattle.vx_query.specs.declared.refusals.Refusal.TheVariants.{NoMemory, Scan, UnknownKey, BadKey}

-- the two texts of a scan spell these expressions, or are refused; want of memory may come at any time
abbrev pub DecodesBoth : Bytes → Bytes → Result (Tree × Tree) ScanError → Type 0
DecodesBoth f p (Ok both) = SpellBoth is_default_kind f p both.0 both.1
DecodesBoth f p (Err e) = OnlyOfText (kind_of e) (AreRefused is_default_kind f p e)

-- what is asked of a filter and a projection by these words, where the key has this type
abbrev pub ask_of : AskedTop → Tree → Tree → Ty → TopAsk
ask_of top f p t =
    record { filter_expr = f; projection = p; key = top.key; key_type = t; descending = top.descending; count = top.count }

-- the search for the first rows that are asked ends so, and leaves its store so
abbrev pub TopEndsBy : RequestedScan → TopAsk → Ending → StoreSeen → Type 0
TopEndsBy a ask (Report text) seen = (top_breaks a ask ≡ false) × (string_bytes text ≡ top_report a ask) × (seen ≡ topped_store a ask)
TopEndsBy a ask Overflow seen = (top_breaks_by by_sum a ask ≡ true) × (seen ≡ top_broken_store a ask)
TopEndsBy a ask BadCast seen = (top_breaks_by by_cast a ask ≡ true) × (seen ≡ top_broken_store a ask)

-- the key is a column of a plain type
pub record IsKey (key : Bytes) (a : RequestedScan) (t : Ty) : Type 0 where
  pub column : field_type key a.zones.columns ≡ Some t
  pub plain : is_plain t ≡ true

-- a filter and a projection are strictly typed for the table of a scan, the key is a column of a plain type, and the search ends so
pub record IsSearched (a : RequestedScan) (top : AskedTop) (f p : Tree) (ending : Ending) (seen : StoreSeen) : Type 0 where
  pub key_type : Ty
  pub key : IsKey top.key a key_type
  pub ty : Ty
  pub typed : type_of_scan a f p ≡ Ok ty
  pub ends : TopEndsBy a (ask_of top f p key_type) ending seen

-- an input holds a search that ends so
pub record IsTopAnswered (top : AskedTop) (input : Bytes) (ending : Ending) (seen : StoreSeen) : Type 0 where
  pub asked : RequestedScan
  pub filter : Tree
  pub projection : Tree
  pub key_type : Ty
  pub holds : HoldsTop input asked (ask_of top filter projection key_type)
  pub ends : TopEndsBy asked (ask_of top filter projection key_type) ending seen

-- the key is good, and the expressions are refused by their typing
abbrev pub IsKeyedUntyped : RequestedScan → AskedTop → Tree → Tree → ScanError → Type 0
IsKeyedUntyped a top f p e = ((t : Ty) × IsKey top.key a t) × (type_of_scan a f p ≡ Err e)

-- why a search whose store counts no fault gives no report, by the kind of the scan's error
abbrev pub IsSearchStopped : ErrorKind → RequestedScan → AskedTop → Tree → Tree → ScanError → StoreSeen → Type 0
IsSearchStopped of_types a top f p e seen = IsKeyedUntyped a top f p e
IsSearchStopped (of_break cause) a top f p e seen = IsSearched a top f p (break_ending cause) seen
IsSearchStopped _ a top f p e seen = ⊥

-- why it gives none
abbrev pub IsUnsearched : RequestedScan → AskedTop → Tree → Tree → TopError → StoreSeen → Type 0
IsUnsearched a top f p tops.NoMemory seen = Unit {0}
IsUnsearched a top f p tops.UnknownKey seen = IsNoKey unknown_key top.key a
IsUnsearched a top f p tops.BadKey seen = IsNoKey bad_key top.key a
IsUnsearched a top f p (tops.Scan e) seen = IsSearchStopped (kind_of e) a top f p e seen

-- a search is answered by this refusal: want of memory at any time, else a key that is refused, else expressions that are
abbrev pub IsTopRefused : RequestedScan → AskedTop → Tree → Tree → Refusal → Type 0
IsTopRefused a top f p NoMemory = Unit {0}
IsTopRefused a top f p UnknownKey = IsNoKey unknown_key top.key a
IsTopRefused a top f p BadKey = IsNoKey bad_key top.key a
IsTopRefused a top f p (Scan e) = IsKeyedUntyped a top f p e
IsTopRefused a top f p _ = ⊥

-- an input of which first rows are asked is answered by this refusal: by that of the key before that of the typing, else as any input
abbrev pub IsTopUnanswered : AskedTop → Bytes → Refusal → Type 0
IsTopUnanswered top input UnknownKey = HoldsNoKey unknown_key top.key input
IsTopUnanswered top input BadKey = HoldsNoKey bad_key top.key input
IsTopUnanswered top input (Scan e) = HoldsRefused input e × (¬ (HasNoKey (Some (top_form top)) input))
IsTopUnanswered top input r = IsUnanswered input r
