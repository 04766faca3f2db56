-- A packed row is a struct of its key and its value.
use Rattle.std.proofs.Common.{◌≡◌, refl, ap, ap₂, sym, ◌∙◌, true, ◌&&◌, List, [], ◌∷◌, map, length}
use Rattle.std.proofs.Math.ListN.{get_or}
use Rattle.std.proofs.lemmas.Bool.{and_parts}
use Rattle.vx_dtype.specs.Types.{Ty}
use Rattle.vx_dtype.specs.Values.{Raw, raw_struct, valued}
use Rattle.vx_dtype.specs.Fits.{fits}
use Rattle.vx_dtype.specs.RawViews.{raw_view, raws_of}
use Rattle.vx_dtype.specs.declared.values.ScalarValue.{ScalarValue}
use Rattle.vx_laws_topk.specs.TopRows.{Keyed}
use Rattle.vx_laws_topk.specs.BoundLaws.{keyed_type, unpacked}
use Rattle.vx_topk.specs.RowKeys.{key_raw}
use Rattle.vx_topk.specs.FirstRows.{ArePartsOf}
use Rattle.vx_topk.specs.declared.row_keys.SortKey.{SortKey}

-- the row of a raw key and a raw value
abbrev row-of : Ty → Ty → Raw → Raw → Keyed
row-of k v r s = record { key = valued r k; value = valued s v }

-- parts are those of a packed row
pub record IsPair (k v : Ty) (parts : List ScalarValue) : Type 0 where
  pub key : ScalarValue
  pub own : ScalarValue
  pub are : parts ≡ key ∷ own ∷ []
  pub key_fits : fits (raw_view key) k ≡ true
  pub own_fits : fits (raw_view own) v ≡ true
  pub row : unpacked (valued (raw_struct (raws_of (map raw_view parts))) (keyed_type k v)) ≡ record { key = valued (raw_view key) k; value = valued (raw_view own) v }

pub is_pair : (k v : Ty) (parts : List ScalarValue) → fits (raw_struct (raws_of (map raw_view parts))) (keyed_type k v) ≡ true → IsPair k v parts
unfolding fits valued
is_pair k v [] h = let no : ⊥ = cc in absurd no
is_pair k v (a ∷ []) h =
    let p = and_parts (fits (raw_view a) k) _ h in
    let no : ⊥ = cc (p.1) in absurd no
is_pair k v (a ∷ b ∷ []) h =
    let p = and_parts (fits (raw_view a) k) (fits (raw_view b) v && true) h in
    let q = and_parts (fits (raw_view b) v) true p.1 in
    record { key = a; own = b; are = refl; key_fits = p.0; own_fits = q.0; row = refl }
is_pair k v (a ∷ b ∷ c ∷ rest) h =
    let p = and_parts (fits (raw_view a) k) _ h in
    let q = and_parts (fits (raw_view b) v) _ p.1 in
    let no : ⊥ = cc (q.1) in absurd no

pub pair-long : (k v : Ty) (parts : List ScalarValue) → fits (raw_struct (raws_of (map raw_view parts))) (keyed_type k v) ≡ true → length parts ≡ 2
pair-long k v parts h = ap length (is_pair k v parts h).are

pub pair-first : (k v : Ty) (parts : List ScalarValue) (x : ScalarValue) → fits (raw_struct (raws_of (map raw_view parts))) (keyed_type k v) ≡ true → x ≡ get_or parts 0 x
    → fits (raw_view x) k ≡ true
pair-first k v parts x h e =
    let p = is_pair k v parts h in
    let is : x ≡ p.key = e ∙ ap (λ (xs : List ScalarValue). get_or xs 0 x) p.are in
    ap (λ (y : ScalarValue). fits (raw_view y) k) is ∙ p.key_fits

pub pair-second : (k v : Ty) (parts : List ScalarValue) (x : ScalarValue) → fits (raw_struct (raws_of (map raw_view parts))) (keyed_type k v) ≡ true → x ≡ get_or parts 1 x
    → fits (raw_view x) v ≡ true
pair-second k v parts x h e =
    let p = is_pair k v parts h in
    let is : x ≡ p.own = e ∙ ap (λ (xs : List ScalarValue). get_or xs 1 x) p.are in
    ap (λ (y : ScalarValue). fits (raw_view y) v) is ∙ p.own_fits

pub pair-parts : (k v : Ty) (parts : List ScalarValue) (a b : ScalarValue) (key : SortKey) (value : ScalarValue)
    → fits (raw_struct (raws_of (map raw_view parts))) (keyed_type k v) ≡ true → a ≡ get_or parts 0 a → b ≡ get_or parts 1 b → key_raw key ≡ raw_view a → raw_view value ≡ raw_view b
    → ArePartsOf k v (valued (raw_struct (raws_of (map raw_view parts))) (keyed_type k v)) (key, value)
pair-parts k v parts a b key value h ea eb ek ev =
    let p = is_pair k v parts h in
    let first : a ≡ p.key = ea ∙ ap (λ (xs : List ScalarValue). get_or xs 0 a) p.are in
    let second : b ≡ p.own = eb ∙ ap (λ (xs : List ScalarValue). get_or xs 1 b) p.are in
    let own_key : key_raw key ≡ raw_view p.key = ek ∙ ap raw_view first in
    let own : raw_view value ≡ raw_view p.own = ev ∙ ap raw_view second in
    record {
      key = ap (λ (r : Raw). fits r k) own_key ∙ p.key_fits;
      value = ap (λ (r : Raw). fits r v) own ∙ p.own_fits;
      row_is = p.row ∙ ap₂ (λ (r s : Raw). row-of k v r s) (sym own_key) (sym own);
    }
