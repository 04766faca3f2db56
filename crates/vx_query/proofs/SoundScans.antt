-- How the scan that an input holds is made: its zones break no rule, and its blocks are columns of cells. So the names of its columns are distinct.
use Rattle.std.proofs.Common.{◌≡◌, refl, ap, subst, Bool, true, false, not, cond, List, length, nat_le, Option, Some, None, is_some, Result, Ok, Err, true≢false}
use Rattle.vx_dtype.specs.Types.{Bytes}
use Rattle.vx_dtype.specs.TypeRules.{field_names, distinct_names, no_name_twice, no_name_twice_below}
use Rattle.vx_semantics.specs.Tables.{Zones, row_type}
use Rattle.vx_zones.specs.Zoning.{broken_rule}
use Rattle.vx_zones.specs.declared.errors.ZoneError.{ZoneError}
use Rattle.vx_zones.specs.declared.errors.ZoneError.TheVariants as rules
use Rattle.vx_request.specs.RequestMembers.{BlockText}
use Rattle.vx_request.specs.Requests.{◌>>=◌, RequestText, RequestedScan, ensured, json_in, bytes_in, most_bytes, block_columns, zones_of, zones_by, sound_zones, scan_in, request_of, text_in}
use Rattle.vx_request.specs.declared.errors.RequestError.{RequestError}
use Rattle.vx_request.specs.declared.errors.RequestError.TheVariants.{InputTooLong}
use Rattle.vx_request.specs.declared.errors.Side.TheVariants.{Filter, Projection}
use Rattle.vx_query.proofs.BlockAgreementLemmas.{with_zones, with_projection, with_filter, of_value}
use Rattle.vx_query.proofs.CellLemmas.{and_left}

-- a scan that is made so
pub record IsMade (a : RequestedScan) : Type 0 where
  pub blocks : List BlockText
  pub columns : block_columns a.zones.columns blocks ≡ Ok a.blocks
  pub unbroken : broken_rule a.zones ≡ None

-- each scan that is answered is
abbrev pub AreMade : Result RequestedScan RequestError → Type 0
AreMade (Err e) = Unit {0}
AreMade (Ok a) = IsMade a

-- what is made in a step is where it is for whatever the step before gave
step : {A : Type 0} (r : Result A RequestError) (f : A → Result RequestedScan RequestError) → ((x : A) → r ≡ Ok x → AreMade (f x)) → AreMade (r >>= f)
step (Err e) f h = tt
step (Ok x) f h = h x refl

sound : (z x : Zones) (o : Option ZoneError) → broken_rule z ≡ o → zones_by z o ≡ Ok x → (z ≡ x) × (broken_rule x ≡ None)
sound z x None none h =
    let same : z ≡ x = cc h in
    (same, subst (λ y. broken_rule y ≡ None) same none)
sound z x (Some e) none h = absurd (cc h)

with_made : (r : RequestText) (f p : Bytes) (z : Zones) → sound_zones (zones_of r.columns r.blocks r.stats) ≡ Ok z → AreMade (with_zones r f p z)
with_made r f p z h =
    let both = sound (zones_of r.columns r.blocks r.stats) z (broken_rule (zones_of r.columns r.blocks r.stats)) refl h in
    step (block_columns r.columns r.blocks) (λ made. Ok (record { zones = z; blocks = made; filter = f; projection = p }))
    (λ made found. record {
      blocks = r.blocks;
      columns = subst (λ fs. block_columns fs r.blocks ≡ Ok made) (ap (λ y. y.columns) both.0) found;
      unbroken = both.1;
    })

text_made : (r : RequestText) → AreMade (scan_in r)
text_made r =
    step (bytes_in Filter r.filter) (with_filter r)
    (λ f _. step (bytes_in Projection r.projection) (with_projection r f)
    (λ p _. step (sound_zones (zones_of r.columns r.blocks r.stats)) (with_zones r f p) (λ z h. with_made r f p z h)))

made_in : (input : Bytes) → AreMade (request_of input)
unfolding request_of
made_in input =
    step (ensured (nat_le (length input) most_bytes) InputTooLong) (λ _. json_in input >>= of_value)
    (λ w _. step (json_in input) of_value (λ d _. step (text_in d) scan_in (λ r _. text_made r)))

-- the scan that an input holds
pub scan_made : (input : Bytes) (a : RequestedScan) → request_of input ≡ Ok a → IsMade a
scan_made input a asked = subst AreMade asked (made_in input)

-- in the row type of zones that break no rule no struct has two fields of one name
pub unbroken_type : (z : Zones) → broken_rule z ≡ None → no_name_twice (row_type z.columns) ≡ true
unfolding broken_rule
unbroken_type z h = by (no_name_twice (row_type z.columns)) _ h
  where
    by : (own : Bool) (others : Option ZoneError) → cond (not own) (Some rules.DuplicateName) others ≡ None → own ≡ true
    by true others h = refl
    by false others h = absurd (true≢false (ap is_some h))

-- the names of the columns of a request are distinct
pub request_names : (input : Bytes) (a : RequestedScan) → request_of input ≡ Ok a → distinct_names (field_names a.zones.columns) ≡ true
unfolding no_name_twice
request_names input a asked =
    and_left (distinct_names (field_names a.zones.columns)) (no_name_twice_below a.zones.columns) (unbroken_type a.zones (scan_made input a asked).unbroken)
