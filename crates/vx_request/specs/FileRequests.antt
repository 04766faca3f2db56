-- A request of the scan of a block file: one function of the bytes, with the first refusal in the order of its places.
use Rattle.std.specs.Prelude.{nat_le, List, [], ◌∷◌, length, codes, Option, ok_or, Result, Ok, Err}
use Rattle.serde_json.specs.Data.{Data}
use Rattle.serde_json.specs.Find.{as_str}
use Rattle.vx_dtype.specs.Types.{Bytes}
use Rattle.vx_request.specs.Objects.{object_of}
use Rattle.vx_request.specs.Requests.{◌>>=◌, ensured, most_bytes, value_in, hex_bytes}
use Rattle.vx_request.specs.declared.errors.FilePlace.{FilePlace}
use Rattle.vx_request.specs.declared.errors.FilePlace.TheVariants as places
use Rattle.vx_request.specs.declared.errors.FileText.{FileText}
use Rattle.vx_request.specs.declared.errors.FileText.TheVariants as texts
use Rattle.vx_request.specs.declared.errors.FileRequestError.{FileRequestError}
use Rattle.vx_request.specs.declared.errors.FileRequestError.TheVariants.{InputTooLong, BadJson, BadRequest, BadHex}

-- such a request as it stands: three texts of hexadecimal digits
pub record FileRequestText : Type 0 where
  pub file : Bytes
  pub filter : Bytes
  pub projection : Bytes

-- what it holds: the bytes of a file, of a filter and of a projection
pub record RequestedFile : Type 0 where
  pub file : Bytes
  pub filter : Bytes
  pub projection : Bytes

-- what is read at a place, else the refusal that names the place
abbrev pub at_file_place : {A : Type 0} → FilePlace → Option A → Result A FileRequestError
at_file_place p found = ok_or found (BadRequest p)

-- its three members, read one after another
abbrev pub file_members_text : List Data → Result FileRequestText FileRequestError
file_members_text (file ∷ filter ∷ projection ∷ []) = do
  b ← at_file_place places.File (as_str file)
  f ← at_file_place places.Filter (as_str filter)
  p ← at_file_place places.Projection (as_str projection)
  Ok (record { file = b; filter = f; projection = p })
file_members_text _ = Err (BadRequest places.Top)

abbrev pub file_member_names : List Bytes
file_member_names = codes "file" ∷ codes "filter" ∷ codes "projection" ∷ []

-- the request that a value is: an object of exactly these members
abbrev pub file_text_in : Data → Result FileRequestText FileRequestError
file_text_in d = do
  members ← at_file_place places.Top (object_of file_member_names d)
  file_members_text members

-- the bytes of one of its texts
abbrev pub file_bytes_in : FileText → Bytes → Result Bytes FileRequestError
file_bytes_in which text = ok_or (hex_bytes text) (BadHex which)

-- what it holds, where each text is of digits of bytes
abbrev pub file_in : FileRequestText → Result RequestedFile FileRequestError
file_in r = do
  file ← file_bytes_in texts.File r.file
  filter ← file_bytes_in texts.Filter r.filter
  projection ← file_bytes_in texts.Projection r.projection
  Ok (record { file = file; filter = filter; projection = projection })

-- what a value holds
abbrev pub file_of : Data → Result RequestedFile FileRequestError
file_of d = file_text_in d >>= file_in

-- what an input holds, or the first refusal: of its length, of its text, of its places in order, of its bytes
unfoldable pub file_request_of : Bytes → Result RequestedFile FileRequestError
file_request_of input = do
  within ← ensured (nat_le (length input) most_bytes) InputTooLong
  d ← ok_or (value_in input) BadJson
  file_of d
