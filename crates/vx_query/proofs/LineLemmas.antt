-- A line of a refusal tells which one it is.
use Rattle.std.proofs.Common.{◌≡◌, ◌∙◌, sym, ap, refl, subst, cond, List, [], ◌∷◌, ◌++◌, codes, Option, Some, None}
use Rattle.std.proofs.lemmas.Option.{same_Some}
use Rattle.std.proofs.lemmas.List.{append_cancel_left, append_cancel_right}
use Rattle.std.specs.Str.{bytes_eq}
use Rattle.vx_dtype.specs.Types.{Bytes}
use Rattle.vx_io.specs.Ends.{Added}
use Rattle.vx_semantics.specs.Breaks.{Cause, by_sum, by_cast}
use Rattle.vx_scan.specs.declared.errors.Side.{Side as ScannedSide}
use Rattle.vx_scan.specs.declared.errors.Side.TheVariants as scanned
use Rattle.vx_scan.specs.declared.errors.ScanError.{ScanError}
use Rattle.vx_scan.specs.declared.errors.ScanError.TheVariants as scans
use Rattle.vx_request.specs.declared.errors.Place.TheVariants as places
use Rattle.vx_request.specs.declared.errors.Side.TheVariants as sides
use Rattle.vx_request.specs.declared.errors.TableRefusal.TheVariants as tables
use Rattle.vx_request.specs.declared.errors.RequestError.{RequestError}
use Rattle.vx_request.specs.declared.errors.RequestError.TheVariants as requests
use Rattle.vx_request.specs.declared.errors.FilePlace.TheVariants as file_places
use Rattle.vx_request.specs.declared.errors.FileText.TheVariants as file_texts
use Rattle.vx_request.specs.declared.errors.FileRequestError.{FileRequestError}
use Rattle.vx_request.specs.declared.errors.FileRequestError.TheVariants as file_requests
use Rattle.vx_file_query.specs.declared.errors.FilePart.{FilePart}
use Rattle.vx_file_query.specs.declared.errors.FilePart.TheVariants as parts
use Rattle.vx_text.specs.declared.errors.TextError.{TextError}
use Rattle.vx_text.specs.declared.errors.TextError.TheVariants as texts
use Rattle.vx_query.specs.Refusals.{request_refusal_name, scan_refusal_name, text_refusal_name, key_refusal_name, break_name, refusal_line}
use Rattle.vx_query.specs.Refusals.{file_request_refusal_name, bad_file_name}
use Rattle.vx_query.specs.TopWords.{KeyRefusal, unknown_key, bad_key}
use Rattle.vx_query.proofs.RequestEnds.{not_none}

-- the first of some values that has this name
named_so : {E : Type 0} → (E → Bytes) → List E → Bytes → Option E
named_so name [] told = None
named_so name (e ∷ es) told = cond (bytes_eq (name e) told) (Some e) (named_so name es told)

-- names that each find their own value are those of one value
one_named : {E : Type 0} (name : E → Bytes) (all : List E) → ((e : E) → named_so name all (name e) ≡ Some e) → (e g : E) → name e ≡ name g → e ≡ g
one_named name all finds e g same = same_Some e g (sym (finds e) ∙ ap (named_so name all) same ∙ finds g)

all_requests : List RequestError
all_requests =
    requests.NoMemory ∷ requests.InputTooLong ∷ requests.BadJson ∷ requests.BadRequest places.Top ∷ requests.BadRequest places.Columns
    ∷ requests.BadRequest places.Blocks ∷ requests.BadRequest places.Stats ∷ requests.BadRequest places.Filter ∷ requests.BadRequest places.Projection
    ∷ requests.BadHex sides.Filter ∷ requests.BadHex sides.Projection ∷ requests.BadTable tables.DuplicateName ∷ requests.BadTable tables.DeepType
    ∷ requests.BadTable tables.BadStatPath ∷ requests.BadTable tables.DuplicateStat ∷ requests.BadTable tables.WrongStatCount
    ∷ requests.BadTable tables.WrongStatType ∷ requests.BadTable tables.WrongLength ∷ requests.BadTable tables.WrongValue ∷ []

finds_request : (e : RequestError) → named_so request_refusal_name all_requests (request_refusal_name e) ≡ Some e
unfolding named_so all_requests
finds_request requests.NoMemory = refl
finds_request requests.InputTooLong = refl
finds_request requests.BadJson = refl
finds_request (requests.BadRequest places.Top) = refl
finds_request (requests.BadRequest places.Columns) = refl
finds_request (requests.BadRequest places.Blocks) = refl
finds_request (requests.BadRequest places.Stats) = refl
finds_request (requests.BadRequest places.Filter) = refl
finds_request (requests.BadRequest places.Projection) = refl
finds_request (requests.BadHex sides.Filter) = refl
finds_request (requests.BadHex sides.Projection) = refl
finds_request (requests.BadTable tables.DuplicateName) = refl
finds_request (requests.BadTable tables.DeepType) = refl
finds_request (requests.BadTable tables.BadStatPath) = refl
finds_request (requests.BadTable tables.DuplicateStat) = refl
finds_request (requests.BadTable tables.WrongStatCount) = refl
finds_request (requests.BadTable tables.WrongStatType) = refl
finds_request (requests.BadTable tables.WrongLength) = refl
finds_request (requests.BadTable tables.WrongValue) = refl

of_sides : (ScannedSide → ScanError) → List ScanError → List ScanError
of_sides of es = of scanned.Filter ∷ of scanned.Projection ∷ of scanned.Text ∷ es

all_scans : List ScanError
all_scans =
    of_sides scans.BadWire (of_sides scans.TooDeep (of_sides scans.TooManyNodes (of_sides scans.UnknownExpr (of_sides scans.BadMetadata
    (of_sides scans.WrongChildren (of_sides scans.NotStruct (of_sides scans.NullableSelect (of_sides scans.UnknownField
    (of_sides scans.DuplicateField (of_sides scans.TypeMismatch
    (scans.NoMemory ∷ scans.FilterNotBool ∷ scans.Overflow ∷ scans.BadCast ∷ scans.StoreFault ∷ [])))))))))))

finds_scan : (e : ScanError) → named_so scan_refusal_name all_scans (scan_refusal_name e) ≡ Some e
unfolding named_so all_scans of_sides
finds_scan scans.NoMemory = refl
finds_scan (scans.BadWire scanned.Filter) = refl
finds_scan (scans.BadWire scanned.Projection) = refl
finds_scan (scans.BadWire scanned.Text) = refl
finds_scan (scans.TooDeep scanned.Filter) = refl
finds_scan (scans.TooDeep scanned.Projection) = refl
finds_scan (scans.TooDeep scanned.Text) = refl
finds_scan (scans.TooManyNodes scanned.Filter) = refl
finds_scan (scans.TooManyNodes scanned.Projection) = refl
finds_scan (scans.TooManyNodes scanned.Text) = refl
finds_scan (scans.UnknownExpr scanned.Filter) = refl
finds_scan (scans.UnknownExpr scanned.Projection) = refl
finds_scan (scans.UnknownExpr scanned.Text) = refl
finds_scan (scans.BadMetadata scanned.Filter) = refl
finds_scan (scans.BadMetadata scanned.Projection) = refl
finds_scan (scans.BadMetadata scanned.Text) = refl
finds_scan (scans.WrongChildren scanned.Filter) = refl
finds_scan (scans.WrongChildren scanned.Projection) = refl
finds_scan (scans.WrongChildren scanned.Text) = refl
finds_scan (scans.NotStruct scanned.Filter) = refl
finds_scan (scans.NotStruct scanned.Projection) = refl
finds_scan (scans.NotStruct scanned.Text) = refl
finds_scan (scans.NullableSelect scanned.Filter) = refl
finds_scan (scans.NullableSelect scanned.Projection) = refl
finds_scan (scans.NullableSelect scanned.Text) = refl
finds_scan (scans.UnknownField scanned.Filter) = refl
finds_scan (scans.UnknownField scanned.Projection) = refl
finds_scan (scans.UnknownField scanned.Text) = refl
finds_scan (scans.DuplicateField scanned.Filter) = refl
finds_scan (scans.DuplicateField scanned.Projection) = refl
finds_scan (scans.DuplicateField scanned.Text) = refl
finds_scan (scans.TypeMismatch scanned.Filter) = refl
finds_scan (scans.TypeMismatch scanned.Projection) = refl
finds_scan (scans.TypeMismatch scanned.Text) = refl
finds_scan scans.FilterNotBool = refl
finds_scan scans.Overflow = refl
finds_scan scans.BadCast = refl
finds_scan scans.StoreFault = refl

all_texts : List TextError
all_texts =
    texts.NoMemory ∷ texts.TooLong ∷ texts.BadToken ∷ texts.TooManyTokens ∷ texts.BadQuery ∷ texts.BadValue ∷ texts.NotWritable ∷ []

finds_text : (e : TextError) → named_so text_refusal_name all_texts (text_refusal_name e) ≡ Some e
unfolding named_so all_texts
finds_text texts.NoMemory = refl
finds_text texts.TooLong = refl
finds_text texts.BadToken = refl
finds_text texts.TooManyTokens = refl
finds_text texts.BadQuery = refl
finds_text texts.BadValue = refl
finds_text texts.NotWritable = refl

all_causes : List Cause
all_causes = by_sum ∷ by_cast ∷ []

finds_cause : (c : Cause) → named_so break_name all_causes (break_name c) ≡ Some c
unfolding named_so all_causes
finds_cause by_sum = refl
finds_cause by_cast = refl

all_keys : List KeyRefusal
all_keys = unknown_key ∷ bad_key ∷ []

finds_key : (r : KeyRefusal) → named_so key_refusal_name all_keys (key_refusal_name r) ≡ Some r
unfolding named_so all_keys
finds_key unknown_key = refl
finds_key bad_key = refl

-- the refusals of a key have names of their own
finds_no_scan : (r : KeyRefusal) → named_so scan_refusal_name all_scans (key_refusal_name r) ≡ None
unfolding named_so all_scans of_sides
finds_no_scan unknown_key = refl
finds_no_scan bad_key = refl

pub no_key_name : (e : ScanError) (r : KeyRefusal) → ¬ (scan_refusal_name e ≡ key_refusal_name r)
no_key_name e r same = not_none (sym (finds_scan e) ∙ ap (named_so scan_refusal_name all_scans) same ∙ finds_no_scan r)

-- no refusal of a request has the name of that of a table that is too long for a block file
finds_no_request : named_so request_refusal_name all_requests (codes "TooLong") ≡ None
unfolding named_so all_requests
finds_no_request = refl

pub no_long_name : (e : RequestError) → ¬ (request_refusal_name e ≡ codes "TooLong")
no_long_name e same = not_none (sym (finds_request e) ∙ ap (named_so request_refusal_name all_requests) same ∙ finds_no_request)

-- the refusals of a request of a block file, and the parts of one
all_file_requests : List FileRequestError
all_file_requests =
    file_requests.NoMemory ∷ file_requests.InputTooLong ∷ file_requests.BadJson ∷ file_requests.BadRequest file_places.Top
    ∷ file_requests.BadRequest file_places.File ∷ file_requests.BadRequest file_places.Filter ∷ file_requests.BadRequest file_places.Projection
    ∷ file_requests.BadHex file_texts.File ∷ file_requests.BadHex file_texts.Filter ∷ file_requests.BadHex file_texts.Projection ∷ []

finds_file_request : (e : FileRequestError) → named_so file_request_refusal_name all_file_requests (file_request_refusal_name e) ≡ Some e
unfolding named_so all_file_requests
finds_file_request file_requests.NoMemory = refl
finds_file_request file_requests.InputTooLong = refl
finds_file_request file_requests.BadJson = refl
finds_file_request (file_requests.BadRequest file_places.Top) = refl
finds_file_request (file_requests.BadRequest file_places.File) = refl
finds_file_request (file_requests.BadRequest file_places.Filter) = refl
finds_file_request (file_requests.BadRequest file_places.Projection) = refl
finds_file_request (file_requests.BadHex file_texts.File) = refl
finds_file_request (file_requests.BadHex file_texts.Filter) = refl
finds_file_request (file_requests.BadHex file_texts.Projection) = refl

all_parts : List FilePart
all_parts = parts.Magic ∷ parts.Header ∷ parts.Zones ∷ parts.End ∷ parts.Column ∷ []

finds_part : (part : FilePart) → named_so bad_file_name all_parts (bad_file_name part) ≡ Some part
unfolding named_so all_parts
finds_part parts.Magic = refl
finds_part parts.Header = refl
finds_part parts.Zones = refl
finds_part parts.End = refl
finds_part parts.Column = refl

-- no refusal of a request has the name of that of a part
finds_no_part : (part : FilePart) → named_so file_request_refusal_name all_file_requests (bad_file_name part) ≡ None
unfolding named_so all_file_requests
finds_no_part parts.Magic = refl
finds_no_part parts.Header = refl
finds_no_part parts.Zones = refl
finds_no_part parts.End = refl
finds_no_part parts.Column = refl

pub no_part_name : (e : FileRequestError) (part : FilePart) → ¬ (file_request_refusal_name e ≡ bad_file_name part)
no_part_name e part same =
    not_none (sym (finds_file_request e) ∙ ap (named_so file_request_refusal_name all_file_requests) same ∙ finds_no_part part)

-- ---- what a line tells

pub one_file_request : (e g : FileRequestError) → file_request_refusal_name e ≡ file_request_refusal_name g → e ≡ g
one_file_request = one_named file_request_refusal_name all_file_requests finds_file_request

pub one_part : (part other : FilePart) → bad_file_name part ≡ bad_file_name other → part ≡ other
one_part = one_named bad_file_name all_parts finds_part

pub one_request : (e g : RequestError) → request_refusal_name e ≡ request_refusal_name g → e ≡ g
one_request = one_named request_refusal_name all_requests finds_request

pub one_scan_error : (e g : ScanError) → scan_refusal_name e ≡ scan_refusal_name g → e ≡ g
one_scan_error = one_named scan_refusal_name all_scans finds_scan

pub one_text : (e g : TextError) → text_refusal_name e ≡ text_refusal_name g → e ≡ g
one_text = one_named text_refusal_name all_texts finds_text

pub one_key : (r q : KeyRefusal) → key_refusal_name r ≡ key_refusal_name q → r ≡ q
one_key = one_named key_refusal_name all_keys finds_key

pub one_cause : (e g : Cause) → break_name e ≡ break_name g → e ≡ g
one_cause = one_named break_name all_causes finds_cause

-- the line that was added is the one that is told
pub told_name : (before told : Option Bytes) (bytes name own : Bytes) → before ≡ Some bytes → told ≡ Some (bytes ++ refusal_line name)
    → Added before told (refusal_line own) → own ≡ name
told_name before told bytes name own stood written added =
    let here : Added (Some bytes) told (refusal_line own) = subst (λ b. Added b told (refusal_line own)) stood added in
    let texts : bytes ++ refusal_line own ≡ bytes ++ refusal_line name = same_Some _ _ (sym here ∙ written) in
    let lines : refusal_line own ≡ refusal_line name = append_cancel_left bytes (refusal_line own) (refusal_line name) texts in
    append_cancel_right own name (codes "\n") (append_cancel_left (codes "error: ") (own ++ codes "\n") (name ++ codes "\n") lines)
