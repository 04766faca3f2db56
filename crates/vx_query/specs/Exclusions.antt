-- Of one input, of one word and of one query at most one thing is told: the causes exclude one another.
use Rattle.std.specs.Prelude.{◌≡◌, None}
use Rattle.vx_dtype.specs.Types.{Bytes}
use Rattle.vx_expr.specs.Trees.{Tree}
use Rattle.vx_scan.specs.declared.errors.ScanError.{ScanError}
use Rattle.vx_request.specs.Requests.{RequestedScan, hex_bytes}
use Rattle.vx_request.specs.declared.errors.RequestError.{RequestError}
use Rattle.vx_laws_topk.specs.TopRows.{TopAsk}
use Rattle.vx_query.specs.TopWords.{KeyRefusal}
use Rattle.vx_query.specs.Running.{HoldsScan, HoldsRefused, HoldsNoKey, HoldsTop, words_of, HoldsFile, HoldsLongTable, WordSpells, WordIsRefused, Names, HasBytes}
use Rattle.vx_query.specs.ExpressionCauses.{HoldsBadText}
use Rattle.vx_query.specs.RequestCauses.{IsNoRequest}
use Rattle.vx_query.specs.Causes.{HasNoBytes}

-- two scans are of one table and one pair of byte texts, of one filter and of one projection
pub record IsSameScan (a : RequestedScan) (f p : Tree) (b : RequestedScan) (g q : Tree) : Type 0 where
  pub asked : a ≡ b
  pub filter : f ≡ g
  pub projection : p ≡ q

-- an input is no request for one reason, is one whose expressions are refused for one reason, or holds one scan; and only one of the three
pub record InputsMeanOne : Type 0 where
  pub one_reason : (input : Bytes) (e g : RequestError) → IsNoRequest e input → IsNoRequest g input → e ≡ g
  pub one_refusal : (input : Bytes) (e g : ScanError) → HoldsRefused input e → HoldsRefused input g → e ≡ g
  pub one_scan : (input : Bytes) (a b : RequestedScan) (f p g q : Tree) → HoldsScan input a f p → HoldsScan input b g q → IsSameScan a f p b g q
  pub no_request_refused : (input : Bytes) (e : RequestError) (g : ScanError) → IsNoRequest e input → ¬ (HoldsRefused input g)
  pub no_request_scanned : (input : Bytes) (e : RequestError) (a : RequestedScan) (f p : Tree) → IsNoRequest e input → ¬ (HoldsScan input a f p)
  pub none_refused_scanned : (input : Bytes) (e : ScanError) (a : RequestedScan) (f p : Tree) → HoldsRefused input e → ¬ (HoldsScan input a f p)

-- two searches for first rows are in one table, and of one thing asked
pub record IsSameTop (a : RequestedScan) (ask : TopAsk) (b : RequestedScan) (other : TopAsk) : Type 0 where
  pub asked : a ≡ b
  pub search : ask ≡ other

-- of an input that holds two texts that spell expressions a key is refused for one reason, or is that of one search by the same words; and only one of
-- the two, and neither of an input that is no request or whose texts are refused
pub record KeysMeanOne : Type 0 where
  pub one_reason : (key input : Bytes) (r q : KeyRefusal) → HoldsNoKey r key input → HoldsNoKey q key input → r ≡ q
  pub one_search : (input : Bytes) (a b : RequestedScan) (ask other : TopAsk) → words_of ask ≡ words_of other → HoldsTop input a ask → HoldsTop input b other
      → IsSameTop a ask b other
  pub none_refused_searched : (input : Bytes) (r : KeyRefusal) (a : RequestedScan) (ask : TopAsk) → HoldsNoKey r ask.key input → ¬ (HoldsTop input a ask)
  pub no_request_refused : (key input : Bytes) (e : RequestError) (r : KeyRefusal) → IsNoRequest e input → ¬ (HoldsNoKey r key input)
  pub no_text_refused : (key input : Bytes) (e : ScanError) (r : KeyRefusal) → HoldsBadText e input → ¬ (HoldsNoKey r key input)

-- the table of an input has one block file or is too long for one, and not both; and neither is so of an input that is no request
pub record TablesMeanOne : Type 0 where
  pub one_table : (input : Bytes) (a b : RequestedScan) → HoldsFile input a → HoldsFile input b → a ≡ b
  pub none_long_filed : (input : Bytes) (a : RequestedScan) → HoldsLongTable input → ¬ (HoldsFile input a)
  pub no_request_filed : (input : Bytes) (e : RequestError) (a : RequestedScan) → IsNoRequest e input → ¬ (HoldsFile input a)
  pub no_request_long : (input : Bytes) (e : RequestError) → IsNoRequest e input → ¬ (HoldsLongTable input)

-- a word is no hexadecimal text, is refused for one reason, or spells one expression; and only one of the three
pub record WordsMeanOne : Type 0 where
  pub one_refusal : (word : Bytes) (e g : ScanError) → WordIsRefused word e → WordIsRefused word g → e ≡ g
  pub one_expression : (word : Bytes) (e g : Tree) → WordSpells word e → WordSpells word g → e ≡ g
  pub no_digits_refused : (word : Bytes) (e : ScanError) → hex_bytes word ≡ None → ¬ (WordIsRefused word e)
  pub no_digits_spelled : (word : Bytes) (e : Tree) → hex_bytes word ≡ None → ¬ (WordSpells word e)
  pub none_refused_spelled : (word : Bytes) (e : ScanError) (g : Tree) → WordIsRefused word e → ¬ (WordSpells word g)

-- a query names one expression, and one that names an expression with bytes isn't refused
pub record QueriesMeanOne : Type 0 where
  pub one_expression : (query : Bytes) (e g : Tree) → Names query e → Names query g → e ≡ g
  pub none_refused_named : (query name : Bytes) (e : Tree) → HasNoBytes query name → Names query e → ¬ (HasBytes e)
