-- An input is no request of a block file for just one cause, and where it has that cause.
use Rattle.std.proofs.Common.{◌≡◌, ◌∙◌, sym, refl, subst, ◌≤◌, nat_le, Bool, true, false, List, [], ◌∷◌, length, Option, Some, Result, Ok, Err, ok_or, true≢false}
use Rattle.std.proofs.lemmas.Bool.{leb-true, leb-false, le-leb, lt-leb}
use Rattle.serde_json.specs.Data.{Data}
use Rattle.serde_json.specs.Find.{as_str}
use Rattle.vx_dtype.specs.Types.{Bytes}
use Rattle.vx_request.specs.Objects.{object_of}
use Rattle.vx_request.specs.Requests.{◌>>=◌, ensured, most_bytes, value_in, hex_bytes}
use Rattle.vx_request.specs.FileRequests.{FileRequestText, RequestedFile, at_file_place, file_members_text, file_member_names, file_text_in, file_bytes_in, file_in, file_of, file_request_of}
use Rattle.vx_request.specs.declared.errors.FilePlace.{FilePlace}
use Rattle.vx_request.specs.declared.errors.FilePlace.TheVariants as places
use Rattle.vx_request.specs.declared.errors.FileText.{FileText}
use Rattle.vx_request.specs.declared.errors.FileText.TheVariants.{File, Filter, Projection}
use Rattle.vx_request.specs.declared.errors.FileRequestError.{FileRequestError}
use Rattle.vx_request.specs.declared.errors.FileRequestError.TheVariants.{NoMemory, InputTooLong, BadJson, BadRequest, BadHex}
use Rattle.vx_query.specs.RequestCauses.{IsTextOf}
use Rattle.vx_query.specs.FileScanCauses.{IsFormedFile, HasDigitsOf, HasBadFileDigits, IsNoFileRequest}
use Rattle.vx_query.proofs.StopLemmas.{Stop, here, later, stop_of, stops_here, goes_on, found_or, none_or, ok_found, some_found, ensured_or, ensured_ok, ensured_so, ensured_not}

-- ---- the form

-- whether a refusal names a place
is_place : FileRequestError → Bool
is_place (BadRequest place) = true
is_place _ = false

-- each refusal of an answer names a place
abbrev ByPlace : {A : Type 0} → Result A FileRequestError → Type 0
ByPlace r = (e : FileRequestError) → r ≡ Err e → is_place e ≡ true

place_step : {A B : Type 0} (r : Result A FileRequestError) (f : A → Result B FileRequestError) → ByPlace r → ((x : A) → ByPlace (f x)) → ByPlace (r >>= f)
place_step {A} r f first next e h = by (stop_of r f e h)
  where
    by : Stop r f e → is_place e ≡ true
    by (here is) = first e is
    by (later x is rest) = next x e rest

at_its_place : {A : Type 0} (place : FilePlace) (o : Option A) → ByPlace (at_file_place place o)
unfolding is_place
at_its_place place o e h = subst (λ g. is_place g ≡ true) (found_or o (BadRequest place) e h).1 refl

abbrev not_at_top : Result FileRequestText FileRequestError
not_at_top = Err (BadRequest places.Top)

at_top : ByPlace not_at_top
unfolding is_place
at_top e h = let same : BadRequest places.Top ≡ e = cc h in subst (λ g. is_place g ≡ true) same refl

none_refused : {A : Type 0} (x : A) → ByPlace (Ok x)
none_refused x e h = absurd (cc h)

places_of : (ds : List Data) → ByPlace (file_members_text ds)
places_of [] = at_top
places_of (a ∷ []) = at_top
places_of (a ∷ b ∷ []) = at_top
places_of (a ∷ b ∷ c ∷ d ∷ ds) = at_top
places_of (file ∷ filter ∷ projection ∷ []) =
    place_step (at_file_place places.File (as_str file)) _ (at_its_place places.File (as_str file)) (λ b.
    place_step (at_file_place places.Filter (as_str filter)) _ (at_its_place places.Filter (as_str filter)) (λ f.
    place_step (at_file_place places.Projection (as_str projection)) _ (at_its_place places.Projection (as_str projection)) (λ p.
    none_refused (record { file = b; filter = f; projection = p }))))

-- a value that isn't of a request's form is refused by a place
misformed : (input : Bytes) (d : Data) (e : FileRequestError) → IsTextOf input d → file_text_in d ≡ Err e → IsNoFileRequest e input
unfolding is_place
misformed input d e read h =
    by e (place_step (at_file_place places.Top (object_of file_member_names d)) file_members_text (at_its_place places.Top (object_of file_member_names d)) places_of e h) h
  where
    by : (g : FileRequestError) → is_place g ≡ true → file_text_in d ≡ Err g → IsNoFileRequest g input
    by NoMemory named h = absurd (true≢false (sym named))
    by InputTooLong named h = absurd (true≢false (sym named))
    by BadJson named h = absurd (true≢false (sym named))
    by (BadRequest place) named h = (d, read, h)
    by (BadHex which) named h = absurd (true≢false (sym named))

-- ---- the digits

-- the bytes of all three texts, and what is read behind the file, and behind the filter
abbrev all_read : Bytes → Bytes → Bytes → Result RequestedFile FileRequestError
all_read b f p = Ok (record { file = b; filter = f; projection = p })

abbrev behind_filter : FileRequestText → Bytes → Bytes → Result RequestedFile FileRequestError
behind_filter r b f = file_bytes_in Projection r.projection >>= all_read b f

abbrev behind_file : FileRequestText → Bytes → Result RequestedFile FileRequestError
behind_file r b = file_bytes_in Filter r.filter >>= behind_filter r b

projection_wrong : (input : Bytes) (r : FileRequestText) (b f : Bytes) (e : FileRequestError) → IsFormedFile input r → HasDigitsOf r.file
    → HasDigitsOf r.filter → behind_filter r b f ≡ Err e → IsNoFileRequest e input
projection_wrong input r b f e formed file filter h =
    by (stop_of (file_bytes_in Projection r.projection) (all_read b f) e h)
  where
    by : Stop (file_bytes_in Projection r.projection) (all_read b f) e → IsNoFileRequest e input
    by (here is) =
        let why = found_or (hex_bytes r.projection) (BadHex Projection) e is in
        subst (λ g. IsNoFileRequest g input) why.1 (r, formed, (file, (filter, why.0)))
    by (later p is rest) = absurd (cc rest)

filter_wrong : (input : Bytes) (r : FileRequestText) (b : Bytes) (e : FileRequestError) → IsFormedFile input r → HasDigitsOf r.file
    → behind_file r b ≡ Err e → IsNoFileRequest e input
filter_wrong input r b e formed file h = by (stop_of (file_bytes_in Filter r.filter) (behind_filter r b) e h)
  where
    by : Stop (file_bytes_in Filter r.filter) (behind_filter r b) e → IsNoFileRequest e input
    by (here is) =
        let why = found_or (hex_bytes r.filter) (BadHex Filter) e is in
        subst (λ g. IsNoFileRequest g input) why.1 (r, formed, (file, why.0))
    by (later f is rest) = projection_wrong input r b f e formed file (f, ok_found (hex_bytes r.filter) (BadHex Filter) f is) rest

file_wrong : (input : Bytes) (r : FileRequestText) (e : FileRequestError) → IsFormedFile input r → file_in r ≡ Err e → IsNoFileRequest e input
file_wrong input r e formed h = by (stop_of (file_bytes_in File r.file) (behind_file r) e h)
  where
    by : Stop (file_bytes_in File r.file) (behind_file r) e → IsNoFileRequest e input
    by (here is) =
        let why = found_or (hex_bytes r.file) (BadHex File) e is in
        subst (λ g. IsNoFileRequest g input) why.1 (r, formed, why.0)
    by (later b is rest) = filter_wrong input r b e formed (b, ok_found (hex_bytes r.file) (BadHex File) b is) rest

-- ---- the whole request

value_wrong : (input : Bytes) (d : Data) (e : FileRequestError) → IsTextOf input d → file_of d ≡ Err e → IsNoFileRequest e input
value_wrong input d e read h = by (stop_of (file_text_in d) file_in e h)
  where
    by : Stop (file_text_in d) file_in e → IsNoFileRequest e input
    by (here is) = misformed input d e read is
    by (later r is rest) = file_wrong input r e (d, read, is) rest

abbrev json_of : Bytes → Result Data FileRequestError
json_of input = ok_or (value_in input) BadJson

text_wrong : (input : Bytes) (e : FileRequestError) → length input ≤ most_bytes → (json_of input >>= file_of) ≡ Err e → IsNoFileRequest e input
text_wrong input e within h = by (stop_of (json_of input) file_of e h)
  where
    by : Stop (json_of input) file_of e → IsNoFileRequest e input
    by (here is) =
        let why = found_or (value_in input) BadJson e is in
        subst (λ g. IsNoFileRequest g input) why.1 (within, why.0)
    by (later d is rest) = value_wrong input d e (within, ok_found (value_in input) BadJson d is) rest

abbrev is_within : Bytes → Bool
is_within input = nat_le (length input) most_bytes

-- why an input is no such request
pub why_misasked : (e : FileRequestError) (input : Bytes) → file_request_of input ≡ Err e → IsNoFileRequest e input
unfolding file_request_of
why_misasked e input h = by (stop_of (ensured (is_within input) InputTooLong) (λ _. json_of input >>= file_of) e h)
  where
    by : Stop (ensured (is_within input) InputTooLong) (λ _. json_of input >>= file_of) e → IsNoFileRequest e input
    by (here is) =
        let why = ensured_or (is_within input) InputTooLong e is in
        subst (λ g. IsNoFileRequest g input) why.1 (leb-false (length input) most_bytes why.0)
    by (later x is rest) = text_wrong input e (leb-true (length input) most_bytes (ensured_ok (is_within input) InputTooLong x is)) rest

-- an input that is one is no longer than the most
pub file_within : (input : Bytes) (a : RequestedFile) → file_request_of input ≡ Ok a → length input ≤ most_bytes
unfolding file_request_of
file_within input a h = leb-true (length input) most_bytes (by (is_within input) h)
  where
    by : (b : Bool) → (ensured b InputTooLong >>= λ _. json_of input >>= file_of) ≡ Ok a → b ≡ true
    by true h = refl
    by false h = absurd (cc h)

-- ---- and back

within_is : (input : Bytes) → length input ≤ most_bytes → file_request_of input ≡ (json_of input >>= file_of)
unfolding file_request_of
within_is input within =
    goes_on (ensured (is_within input) InputTooLong) (λ _. json_of input >>= file_of) tt
    (ensured_so (is_within input) InputTooLong (le-leb (length input) most_bytes within))

value_is : (input : Bytes) (d : Data) → IsTextOf input d → file_request_of input ≡ (file_text_in d >>= file_in)
value_is input d (within, read) = within_is input within ∙ goes_on (json_of input) file_of d (some_found (value_in input) BadJson d read)

formed_is : (input : Bytes) (r : FileRequestText) → IsFormedFile input r → file_request_of input ≡ (file_bytes_in File r.file >>= behind_file r)
formed_is input r (d, read, formed) = value_is input d read ∙ goes_on (file_text_in d) file_in r formed

file_is : (input : Bytes) (r : FileRequestText) (b : Bytes) → IsFormedFile input r → hex_bytes r.file ≡ Some b
    → file_request_of input ≡ (file_bytes_in Filter r.filter >>= behind_filter r b)
file_is input r b formed digits =
    formed_is input r formed ∙ goes_on (file_bytes_in File r.file) (behind_file r) b (some_found (hex_bytes r.file) (BadHex File) b digits)

filter_is : (input : Bytes) (r : FileRequestText) (b f : Bytes) → IsFormedFile input r → hex_bytes r.file ≡ Some b → hex_bytes r.filter ≡ Some f
    → file_request_of input ≡ behind_filter r b f
filter_is input r b f formed file filter =
    file_is input r b formed file
    ∙ goes_on (file_bytes_in Filter r.filter) (behind_filter r b) f (some_found (hex_bytes r.filter) (BadHex Filter) f filter)

hex_refused : (input : Bytes) (r : FileRequestText) (which : FileText) → IsFormedFile input r → HasBadFileDigits which r
    → file_request_of input ≡ Err (BadHex which)
hex_refused input r File formed is =
    formed_is input r formed
    ∙ stops_here (file_bytes_in File r.file) (behind_file r) (BadHex File) (none_or (hex_bytes r.file) (BadHex File) is)
hex_refused input r Filter formed ((b, file), is) =
    file_is input r b formed file
    ∙ stops_here (file_bytes_in Filter r.filter) (behind_filter r b) (BadHex Filter) (none_or (hex_bytes r.filter) (BadHex Filter) is)
hex_refused input r Projection formed ((b, file), ((f, filter), is)) =
    filter_is input r b f formed file filter
    ∙ stops_here (file_bytes_in Projection r.projection) (all_read b f) (BadHex Projection)
    (none_or (hex_bytes r.projection) (BadHex Projection) is)

-- an input that has a cause is refused so
pub misasked_so : (e : FileRequestError) (input : Bytes) → IsNoFileRequest e input → file_request_of input ≡ Err e
unfolding file_request_of
misasked_so NoMemory input is = absurd is
misasked_so InputTooLong input is =
    stops_here (ensured (is_within input) InputTooLong) (λ _. json_of input >>= file_of) InputTooLong
    (ensured_not (is_within input) InputTooLong (lt-leb (length input) most_bytes is))
misasked_so BadJson input (within, is) = within_is input within ∙ stops_here (json_of input) file_of BadJson (none_or (value_in input) BadJson is)
misasked_so (BadRequest place) input (d, read, is) = value_is input d read ∙ stops_here (file_text_in d) file_in (BadRequest place) is
misasked_so (BadHex which) input (r, formed, is) = hex_refused input r which formed is
