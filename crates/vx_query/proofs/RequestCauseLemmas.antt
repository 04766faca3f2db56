-- An input is no request for just one cause, and where it has that cause.
use Rattle.std.proofs.Common.{◌≡◌, ◌∙◌, sym, ap, refl, subst, ◌≤◌, nat_le, Bool, true, false, cond, List, [], ◌∷◌, length, map, Option, Some, None, Result, Ok, Err, ok_or, true≢false}
use Rattle.std.proofs.lemmas.Bool.{leb-true, leb-false, le-leb, lt-leb}
use Rattle.serde_json.specs.Data.{Data}
use Rattle.vx_dtype.specs.Types.{Bytes}
use Rattle.vx_dtype.specs.StructTypes.{field_types}
use Rattle.vx_column.specs.Columns.{Column}
use Rattle.vx_semantics.specs.Tables.{Zones}
use Rattle.vx_zones.specs.Zoning.{broken_rule}
use Rattle.vx_zones.specs.declared.errors.ZoneError.{ZoneError}
use Rattle.vx_zones.specs.declared.errors.ZoneError.TheVariants as rules
use Rattle.vx_request.specs.RequestMembers.{columns_in, blocks_in, stats_in}
use Rattle.vx_request.specs.Objects.{object_of}
use Rattle.vx_request.specs.Cells.{blocks_of}
use Rattle.serde_json.specs.Find.{as_str}
use Rattle.vx_request.specs.Requests.{◌>>=◌, RequestText, RequestedScan, request_of, ensured, most_bytes, value_in, json_in, at_place, members_text, text_in, member_names, hex_bytes, bytes_in, zones_by, sound_zones, block_columns, scan_with, scan_in, scan_of}
use Rattle.vx_request.specs.declared.errors.Place.{Place}
use Rattle.vx_request.specs.declared.errors.Place.TheVariants.{Top, Columns, Blocks, Stats}
use Rattle.vx_request.specs.declared.errors.Place.TheVariants as places
use Rattle.vx_request.specs.declared.errors.Side.{Side}
use Rattle.vx_request.specs.declared.errors.Side.TheVariants.{Filter, Projection}
use Rattle.vx_request.specs.declared.errors.TableRefusal.{TableRefusal}
use Rattle.vx_request.specs.declared.errors.TableRefusal.TheVariants as tables
use Rattle.vx_request.specs.declared.errors.RequestError.{RequestError}
use Rattle.vx_request.specs.declared.errors.RequestError.TheVariants.{NoMemory, InputTooLong, BadJson, BadRequest, BadHex, BadTable}
use Rattle.vx_query.proofs.StopLemmas.{Stop, here, later, stop_of, stops_here, goes_on, found_or, none_or, ok_found, some_found, ensured_or, ensured_ok, ensured_so, ensured_not}
use Rattle.vx_query.specs.RequestCauses.{IsTextOf, IsFormed, HasDigits, formed_zones, has_rectangles, HasBadDigits, IsNoTable, IsNoRequest}

-- ---- the form

-- whether a refusal names a place
is_place : RequestError → Bool
is_place (BadRequest place) = true
is_place _ = false

-- each refusal of an answer names a place
abbrev ByPlace : {A : Type 0} → Result A RequestError → Type 0
ByPlace r = (e : RequestError) → r ≡ Err e → is_place e ≡ true

place_step : {A B : Type 0} (r : Result A RequestError) (f : A → Result B RequestError) → ByPlace r → ((x : A) → ByPlace (f x)) → ByPlace (r >>= f)
place_step {A} r f first next e h = by (stop_of r f e h)
  where
    by : Stop r f e → is_place e ≡ true
    by (here is) = first e is
    by (later x is rest) = next x e rest

at_its_place : {A : Type 0} (place : Place) (o : Option A) → ByPlace (at_place place o)
unfolding is_place
at_its_place place o e h = subst (λ g. is_place g ≡ true) (found_or o (BadRequest place) e h).1 refl

abbrev not_at_top : Result RequestText RequestError
not_at_top = Err (BadRequest Top)

at_top : ByPlace not_at_top
unfolding is_place
at_top e h = let same : BadRequest Top ≡ e = cc h in subst (λ g. is_place g ≡ true) same refl

none_refused : {A : Type 0} (x : A) → ByPlace (Ok x)
none_refused x e h = absurd (cc h)

places_of : (ds : List Data) → ByPlace (members_text ds)
places_of [] = at_top
places_of (a ∷ []) = at_top
places_of (a ∷ b ∷ []) = at_top
places_of (a ∷ b ∷ c ∷ []) = at_top
places_of (a ∷ b ∷ c ∷ d ∷ []) = at_top
places_of (a ∷ b ∷ c ∷ d ∷ g ∷ h ∷ ds) = at_top
places_of (columns ∷ blocks ∷ stats ∷ filter ∷ projection ∷ []) =
    place_step (at_place Columns (columns_in columns)) _ (at_its_place Columns (columns_in columns)) (λ cs.
    place_step (at_place Blocks (blocks_in blocks)) _ (at_its_place Blocks (blocks_in blocks)) (λ bs.
    place_step (at_place Stats (stats_in stats)) _ (at_its_place Stats (stats_in stats)) (λ ss.
    place_step (at_place places.Filter (as_str filter)) _ (at_its_place places.Filter (as_str filter)) (λ f.
    place_step (at_place places.Projection (as_str projection)) _ (at_its_place places.Projection (as_str projection)) (λ p.
    none_refused (record { columns = cs; blocks = bs; stats = ss; filter = f; projection = p }))))))

-- a value that isn't of a request's form is refused by a place
misformed : (input : Bytes) (d : Data) (e : RequestError) → IsTextOf input d → text_in d ≡ Err e → IsNoRequest e input
unfolding is_place
misformed input d e read h = by e (place_step (at_place Top (object_of member_names d)) members_text (at_its_place Top (object_of member_names d)) places_of e h) h
  where
    by : (g : RequestError) → is_place g ≡ true → text_in d ≡ Err g → IsNoRequest g input
    by NoMemory named h = absurd (true≢false (sym named))
    by InputTooLong named h = absurd (true≢false (sym named))
    by BadJson named h = absurd (true≢false (sym named))
    by (BadRequest place) named h = (d, read, h)
    by (BadHex side) named h = absurd (true≢false (sym named))
    by (BadTable refusal) named h = absurd (true≢false (sym named))

-- ---- the table

-- no rule is want of memory
no_rule : (a b c d e f : Bool)
    → cond a (Some rules.DuplicateName) (cond b (Some rules.DeepType) (cond c (Some rules.BadStatPath) (cond d (Some rules.DuplicateStat)
    (cond e (Some rules.WrongStatCount) (cond f (Some rules.WrongStatType) None))))) ≡ Some rules.NoMemory → ⊥
no_rule true b c d e f h = cc h
no_rule false true c d e f h = cc h
no_rule false false true d e f h = cc h
no_rule false false false true e f h = cc h
no_rule false false false false true f h = cc h
no_rule false false false false false true h = cc h
no_rule false false false false false false h = cc h

never_memory : (z : Zones) → broken_rule z ≡ Some rules.NoMemory → ⊥
unfolding broken_rule
never_memory z h = no_rule _ _ _ _ _ _ h

-- a request whose table breaks a rule
rule_broken : (input : Bytes) (r : RequestText) (e : RequestError) (o : Option ZoneError) → IsFormed input r → HasDigits r → broken_rule (formed_zones r) ≡ o
    → zones_by (formed_zones r) o ≡ Err e → IsNoRequest e input
rule_broken input r e None formed digits is h = absurd (cc h)
rule_broken input r e (Some rules.NoMemory) formed digits is h = absurd (never_memory (formed_zones r) is)
rule_broken input r e (Some rules.DuplicateName) formed digits is h =
    let same : BadTable tables.DuplicateName ≡ e = cc h in subst (λ g. IsNoRequest g input) same (r, formed, digits, is)
rule_broken input r e (Some rules.DeepType) formed digits is h =
    let same : BadTable tables.DeepType ≡ e = cc h in subst (λ g. IsNoRequest g input) same (r, formed, digits, is)
rule_broken input r e (Some rules.BadStatPath) formed digits is h =
    let same : BadTable tables.BadStatPath ≡ e = cc h in subst (λ g. IsNoRequest g input) same (r, formed, digits, is)
rule_broken input r e (Some rules.DuplicateStat) formed digits is h =
    let same : BadTable tables.DuplicateStat ≡ e = cc h in subst (λ g. IsNoRequest g input) same (r, formed, digits, is)
rule_broken input r e (Some rules.WrongStatCount) formed digits is h =
    let same : BadTable tables.WrongStatCount ≡ e = cc h in subst (λ g. IsNoRequest g input) same (r, formed, digits, is)
rule_broken input r e (Some rules.WrongStatType) formed digits is h =
    let same : BadTable tables.WrongStatType ≡ e = cc h in subst (λ g. IsNoRequest g input) same (r, formed, digits, is)

none_broken : (z x : Zones) (o : Option ZoneError) → zones_by z o ≡ Ok x → o ≡ None
none_broken z x None h = refl
none_broken z x (Some e) h = absurd (cc h)

unbroken_zones : (z : Zones) → broken_rule z ≡ None → sound_zones z ≡ Ok z
unbroken_zones z is = ap (zones_by z) is

-- the columns of a request's blocks
abbrev cells_of : RequestText → Option (List (List Column))
cells_of r = blocks_of (field_types r.columns) (map (λ b. b.values) r.blocks)

-- a request whose cells aren't those of its columns
cells_wrong : (input : Bytes) (r : RequestText) (e : RequestError) → IsFormed input r → HasDigits r → broken_rule (formed_zones r) ≡ None
    → block_columns r.columns r.blocks ≡ Err e → IsNoRequest e input
cells_wrong input r e formed digits sound h =
    by (stop_of (ensured (has_rectangles r) (BadTable tables.WrongLength)) (λ _. ok_or (cells_of r) (BadTable tables.WrongValue)) e h)
  where
    by : Stop (ensured (has_rectangles r) (BadTable tables.WrongLength)) (λ _. ok_or (cells_of r) (BadTable tables.WrongValue)) e → IsNoRequest e input
    by (here is) =
        let why = ensured_or (has_rectangles r) (BadTable tables.WrongLength) e is in
        subst (λ g. IsNoRequest g input) why.1 (r, formed, digits, (sound, why.0))
    by (later x is rest) =
        let why = found_or (cells_of r) (BadTable tables.WrongValue) e rest in
        subst (λ g. IsNoRequest g input) why.1 (r, formed, digits, (sound, ensured_ok (has_rectangles r) (BadTable tables.WrongLength) x is, why.0))

-- the scan of zones and two byte texts, of the columns that are made
abbrev scan_made : Zones → Bytes → Bytes → List (List Column) → Result RequestedScan RequestError
scan_made z f p made = Ok (record { zones = z; blocks = made; filter = f; projection = p })

-- a request whose blocks are no columns
scan_wrong : (input : Bytes) (r : RequestText) (z : Zones) (f p : Bytes) (e : RequestError) → IsFormed input r → HasDigits r
    → broken_rule (formed_zones r) ≡ None → scan_with z r.columns r.blocks f p ≡ Err e → IsNoRequest e input
scan_wrong input r z f p e formed digits sound h =
    by (stop_of (block_columns r.columns r.blocks) (scan_made z f p) e h)
  where
    by : Stop (block_columns r.columns r.blocks) (scan_made z f p) e → IsNoRequest e input
    by (here is) = cells_wrong input r e formed digits sound is
    by (later x is rest) = absurd (cc rest)

-- ---- the whole request

-- a request as it stands that holds no scan
abbrev behind_digits : RequestText → Bytes → Bytes → Result RequestedScan RequestError
behind_digits r f p = sound_zones (formed_zones r) >>= λ z. scan_with z r.columns r.blocks f p

abbrev behind_filter : RequestText → Bytes → Result RequestedScan RequestError
behind_filter r f = bytes_in Projection r.projection >>= behind_digits r f

table_wrong : (input : Bytes) (r : RequestText) (f p : Bytes) (e : RequestError) → IsFormed input r → HasDigits r → behind_digits r f p ≡ Err e
    → IsNoRequest e input
table_wrong input r f p e formed digits h = by (stop_of (sound_zones (formed_zones r)) (λ z. scan_with z r.columns r.blocks f p) e h)
  where
    by : Stop (sound_zones (formed_zones r)) (λ z. scan_with z r.columns r.blocks f p) e → IsNoRequest e input
    by (here is) = rule_broken input r e (broken_rule (formed_zones r)) formed digits refl is
    by (later z is rest) =
        scan_wrong input r z f p e formed digits (none_broken (formed_zones r) z (broken_rule (formed_zones r)) is) rest

projection_wrong : (input : Bytes) (r : RequestText) (f : Bytes) (e : RequestError) → IsFormed input r → hex_bytes r.filter ≡ Some f
    → behind_filter r f ≡ Err e → IsNoRequest e input
projection_wrong input r f e formed filter h = by (stop_of (bytes_in Projection r.projection) (behind_digits r f) e h)
  where
    by : Stop (bytes_in Projection r.projection) (behind_digits r f) e → IsNoRequest e input
    by (here is) =
        let why = found_or (hex_bytes r.projection) (BadHex Projection) e is in
        subst (λ g. IsNoRequest g input) why.1 (r, formed, ((f, filter), why.0))
    by (later p is rest) =
        let digits : HasDigits r =
        record { filter = f; projection = p; filter_digits = filter; projection_digits = ok_found (hex_bytes r.projection) (BadHex Projection) p is } in
        table_wrong input r f p e formed digits rest

filter_wrong : (input : Bytes) (r : RequestText) (e : RequestError) → IsFormed input r → scan_in r ≡ Err e → IsNoRequest e input
filter_wrong input r e formed h = by (stop_of (bytes_in Filter r.filter) (behind_filter r) e h)
  where
    by : Stop (bytes_in Filter r.filter) (behind_filter r) e → IsNoRequest e input
    by (here is) =
        let why = found_or (hex_bytes r.filter) (BadHex Filter) e is in
        subst (λ g. IsNoRequest g input) why.1 (r, formed, why.0)
    by (later f is rest) = projection_wrong input r f e formed (ok_found (hex_bytes r.filter) (BadHex Filter) f is) rest

value_wrong : (input : Bytes) (d : Data) (e : RequestError) → IsTextOf input d → scan_of d ≡ Err e → IsNoRequest e input
value_wrong input d e read h = by (stop_of (text_in d) scan_in e h)
  where
    by : Stop (text_in d) scan_in e → IsNoRequest e input
    by (here is) = misformed input d e read is
    by (later r is rest) = filter_wrong input r e (d, read, is) rest

text_wrong : (input : Bytes) (e : RequestError) → length input ≤ most_bytes → (json_in input >>= scan_of) ≡ Err e → IsNoRequest e input
text_wrong input e within h = by (stop_of (json_in input) scan_of e h)
  where
    by : Stop (json_in input) scan_of e → IsNoRequest e input
    by (here is) =
        let why = found_or (value_in input) BadJson e is in
        subst (λ g. IsNoRequest g input) why.1 (within, why.0)
    by (later d is rest) = value_wrong input d e (within, ok_found (value_in input) BadJson d is) rest

abbrev is_within : Bytes → Bool
is_within input = nat_le (length input) most_bytes

-- why an input is no request
pub why_refused : (e : RequestError) (input : Bytes) → request_of input ≡ Err e → IsNoRequest e input
unfolding request_of
why_refused e input h = by (stop_of (ensured (is_within input) InputTooLong) (λ _. json_in input >>= scan_of) e h)
  where
    by : Stop (ensured (is_within input) InputTooLong) (λ _. json_in input >>= scan_of) e → IsNoRequest e input
    by (here is) =
        let why = ensured_or (is_within input) InputTooLong e is in
        subst (λ g. IsNoRequest g input) why.1 (leb-false (length input) most_bytes why.0)
    by (later x is rest) = text_wrong input e (leb-true (length input) most_bytes (ensured_ok (is_within input) InputTooLong x is)) rest

-- ---- and back

within_is : (input : Bytes) → length input ≤ most_bytes → request_of input ≡ (json_in input >>= scan_of)
unfolding request_of
within_is input within =
    goes_on (ensured (is_within input) InputTooLong) (λ _. json_in input >>= scan_of) tt
    (ensured_so (is_within input) InputTooLong (le-leb (length input) most_bytes within))

value_is : (input : Bytes) (d : Data) → IsTextOf input d → request_of input ≡ (text_in d >>= scan_in)
value_is input d (within, read) = within_is input within ∙ goes_on (json_in input) scan_of d (some_found (value_in input) BadJson d read)

formed_is : (input : Bytes) (r : RequestText) → IsFormed input r → request_of input ≡ (bytes_in Filter r.filter >>= behind_filter r)
formed_is input r (d, read, formed) = value_is input d read ∙ goes_on (text_in d) scan_in r formed

filter_is : (input : Bytes) (r : RequestText) (f : Bytes) → IsFormed input r → hex_bytes r.filter ≡ Some f
    → request_of input ≡ (bytes_in Projection r.projection >>= behind_digits r f)
filter_is input r f formed digits =
    formed_is input r formed ∙ goes_on (bytes_in Filter r.filter) (behind_filter r) f (some_found (hex_bytes r.filter) (BadHex Filter) f digits)

digits_is : (input : Bytes) (r : RequestText) (digits : HasDigits r) → IsFormed input r → request_of input ≡ behind_digits r digits.filter digits.projection
digits_is input r digits formed =
    filter_is input r digits.filter formed digits.filter_digits
    ∙ goes_on (bytes_in Projection r.projection) (behind_digits r digits.filter) digits.projection
    (some_found (hex_bytes r.projection) (BadHex Projection) digits.projection digits.projection_digits)

sound_is : (input : Bytes) (r : RequestText) (digits : HasDigits r) → IsFormed input r → broken_rule (formed_zones r) ≡ None
    → request_of input ≡ scan_with (formed_zones r) r.columns r.blocks digits.filter digits.projection
sound_is input r digits formed sound =
    digits_is input r digits formed
    ∙ goes_on (sound_zones (formed_zones r)) (λ z. scan_with z r.columns r.blocks digits.filter digits.projection) (formed_zones r)
    (unbroken_zones (formed_zones r) sound)

broken_is : (input : Bytes) (r : RequestText) (e : RequestError) → IsFormed input r → HasDigits r → sound_zones (formed_zones r) ≡ Err e
    → request_of input ≡ Err e
broken_is input r e formed digits broken =
    digits_is input r digits formed
    ∙ stops_here (sound_zones (formed_zones r)) (λ z. scan_with z r.columns r.blocks digits.filter digits.projection) e broken

cells_is : (input : Bytes) (r : RequestText) (e : RequestError) → IsFormed input r → HasDigits r → broken_rule (formed_zones r) ≡ None
    → block_columns r.columns r.blocks ≡ Err e → request_of input ≡ Err e
cells_is input r e formed digits sound wrong =
    sound_is input r digits formed sound
    ∙ stops_here (block_columns r.columns r.blocks)
    (scan_made (formed_zones r) digits.filter digits.projection) e wrong

-- why an input is refused, by its table
table_refused : (input : Bytes) (r : RequestText) (refusal : TableRefusal) → IsFormed input r → HasDigits r → IsNoTable refusal r
    → request_of input ≡ Err (BadTable refusal)
table_refused input r tables.DuplicateName formed digits is = broken_is input r (BadTable tables.DuplicateName) formed digits (ap (zones_by (formed_zones r)) is)
table_refused input r tables.DeepType formed digits is = broken_is input r (BadTable tables.DeepType) formed digits (ap (zones_by (formed_zones r)) is)
table_refused input r tables.BadStatPath formed digits is = broken_is input r (BadTable tables.BadStatPath) formed digits (ap (zones_by (formed_zones r)) is)
table_refused input r tables.DuplicateStat formed digits is = broken_is input r (BadTable tables.DuplicateStat) formed digits (ap (zones_by (formed_zones r)) is)
table_refused input r tables.WrongStatCount formed digits is = broken_is input r (BadTable tables.WrongStatCount) formed digits (ap (zones_by (formed_zones r)) is)
table_refused input r tables.WrongStatType formed digits is = broken_is input r (BadTable tables.WrongStatType) formed digits (ap (zones_by (formed_zones r)) is)
table_refused input r tables.WrongLength formed digits is =
    cells_is input r (BadTable tables.WrongLength) formed digits is.0
    (stops_here (ensured (has_rectangles r) (BadTable tables.WrongLength)) (λ _. ok_or (cells_of r) (BadTable tables.WrongValue)) (BadTable tables.WrongLength)
    (ensured_not (has_rectangles r) (BadTable tables.WrongLength) is.1))
table_refused input r tables.WrongValue formed digits is =
    cells_is input r (BadTable tables.WrongValue) formed digits is.0
    (goes_on (ensured (has_rectangles r) (BadTable tables.WrongLength)) (λ _. ok_or (cells_of r) (BadTable tables.WrongValue)) tt
    (ensured_so (has_rectangles r) (BadTable tables.WrongLength) is.1) ∙ none_or (cells_of r) (BadTable tables.WrongValue) is.2)

hex_refused : (input : Bytes) (r : RequestText) (side : Side) → IsFormed input r → HasBadDigits side r → request_of input ≡ Err (BadHex side)
hex_refused input r Filter formed is =
    formed_is input r formed
    ∙ stops_here (bytes_in Filter r.filter) (behind_filter r) (BadHex Filter) (none_or (hex_bytes r.filter) (BadHex Filter) is)
hex_refused input r Projection formed ((f, digits), is) =
    filter_is input r f formed digits
    ∙ stops_here (bytes_in Projection r.projection) (behind_digits r f) (BadHex Projection) (none_or (hex_bytes r.projection) (BadHex Projection) is)

-- an input that has a cause is refused so
pub refused_so : (e : RequestError) (input : Bytes) → IsNoRequest e input → request_of input ≡ Err e
unfolding request_of
refused_so NoMemory input is = absurd is
refused_so InputTooLong input is =
    stops_here (ensured (is_within input) InputTooLong) (λ _. json_in input >>= scan_of) InputTooLong
    (ensured_not (is_within input) InputTooLong (lt-leb (length input) most_bytes is))
refused_so BadJson input (within, is) = within_is input within ∙ stops_here (json_in input) scan_of BadJson (none_or (value_in input) BadJson is)
refused_so (BadRequest place) input (d, read, is) = value_is input d read ∙ stops_here (text_in d) scan_in (BadRequest place) is
refused_so (BadHex side) input (r, formed, is) = hex_refused input r side formed is
refused_so (BadTable refusal) input (r, formed, digits, is) = table_refused input r refusal formed digits is
