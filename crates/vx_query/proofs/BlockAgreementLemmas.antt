-- The blocks of a request agree with its zones.
use Rattle.std.proofs.Common.{◌≡◌, nat_le, Bool, true, false, List, length, map, Option, Some, None, Result, Ok, Err, ok_or, refl, sym, ap, subst}
use Rattle.std.specs.List.{list_all}
use Rattle.vx_dtype.specs.StructTypes.{field_types}
use Rattle.vx_dtype.specs.TypeRules.{field_names}
use Rattle.vx_dtype.specs.Types.{Bytes, Fields}
use Rattle.vx_column.specs.Columns.{Column}
use Rattle.vx_semantics.specs.Tables.{Zones}
use Rattle.vx_zones.specs.Zoning.{broken_rule}
use Rattle.vx_zones.specs.declared.errors.ZoneError.{ZoneError}
use Rattle.vx_request.specs.RequestMembers.{BlockText, StatText}
use Rattle.vx_request.specs.Cells.{blocks_of}
use Rattle.vx_request.specs.Requests.{◌>>=◌, RequestedScan, ensured, json_in, bytes_in, most_bytes, RequestText, is_rectangle, block_columns, zones_of, zones_by, sound_zones, scan_with, scan_in, request_of, text_in}
use Rattle.vx_request.specs.declared.errors.RequestError.{RequestError}
use Rattle.vx_request.specs.declared.errors.RequestError.TheVariants.{InputTooLong}
use Rattle.vx_request.specs.declared.errors.Side.TheVariants.{Filter, Projection}
use Rattle.serde_json.specs.Data.{Data}
use Rattle.vx_query.specs.BlockAgreement.{agree}
use Rattle.vx_query.proofs.CellLemmas.{both_true, blocks_shape, BlocksShape}

-- what is made in a step agrees where it does for whatever the step before gave
agree_step : {A : Type 0} (r : Result A RequestError) (f : A → Result RequestedScan RequestError) → ((x : A) → r ≡ Ok x → agree (f x) ≡ true) → agree (r >>= f) ≡ true
agree_step (Err e) f h = refl
agree_step (Ok x) f h = h x refl

zones_same : (z x : Zones) (o : Option ZoneError) → zones_by z o ≡ Ok x → z ≡ x
zones_same z x None h = cc h
zones_same z x (Some e) h = absurd (cc h)

pub found_ok : {A : Type 0} (o : Option A) (e : RequestError) (x : A) → ok_or o e ≡ Ok x → o ≡ Some x
found_ok None e x h = absurd (cc h)
found_ok (Some y) e x h = let same : y ≡ x = cc h in ap Some same

-- the blocks that are made of rectangles have the lengths and the types of the columns
made_shape : (fs : Fields) (bs : List BlockText) (b : Bool) (e g : RequestError) (made : List (List Column)) → (b ≡ list_all (is_rectangle (length (field_names fs))) bs)
    → (ensured b e >>= λ shaped. ok_or (blocks_of (field_types fs) (map (λ b. b.values) bs)) g) ≡ Ok made → BlocksShape fs bs made
made_shape fs bs true e g made is h = blocks_shape fs bs made (sym is) (found_ok _ g made h)
made_shape fs bs false e g made is h = absurd (cc h)

agree_with : (z : Zones) (fs : Fields) (bs : List BlockText) (ss : List StatText) (filter projection : Bytes) → zones_of fs bs ss ≡ z
    → agree (scan_with z fs bs filter projection) ≡ true
agree_with z fs bs ss filter projection is = subst (λ k. agree (scan_with k fs bs filter projection) ≡ true) is
    (agree_step (block_columns fs bs) (λ made. Ok (record { zones = zones_of fs bs ss; blocks = made; filter = filter; projection = projection }))
    (λ made h. let shape = made_shape fs bs _ _ _ made refl h in both_true _ _ shape.0 shape.1))

-- the scan of zones, once both texts are read
abbrev pub with_zones : RequestText → Bytes → Bytes → Zones → Result RequestedScan RequestError
with_zones r f p z = scan_with z r.columns r.blocks f p

abbrev pub with_projection : RequestText → Bytes → Bytes → Result RequestedScan RequestError
with_projection r f p = sound_zones (zones_of r.columns r.blocks r.stats) >>= with_zones r f p

abbrev pub with_filter : RequestText → Bytes → Result RequestedScan RequestError
with_filter r f = bytes_in Projection r.projection >>= with_projection r f

agree_text : (r : RequestText) → agree (scan_in r) ≡ true
agree_text r =
    agree_step (bytes_in Filter r.filter) (with_filter r)
    (λ f _. agree_step (bytes_in Projection r.projection) (with_projection r f)
    (λ p _. agree_step (sound_zones (zones_of r.columns r.blocks r.stats)) (with_zones r f p)
    (λ z h. agree_with z r.columns r.blocks r.stats f p (zones_same (zones_of r.columns r.blocks r.stats) z (broken_rule (zones_of r.columns r.blocks r.stats)) h))))

abbrev pub of_value : Data → Result RequestedScan RequestError
of_value d = text_in d >>= scan_in

-- what an input holds agrees
pub agree_in : (input : Bytes) → agree (request_of input) ≡ true
unfolding request_of
agree_in input =
    agree_step (ensured (nat_le (length input) most_bytes) InputTooLong) (λ _. json_in input >>= of_value)
    (λ w _. agree_step (json_in input) of_value (λ d _. agree_step (text_in d) scan_in (λ r _. agree_text r)))
