-- What the program does: the forms of its arguments, how it comes to an end, and what it writes then.
use Rattle.std.specs.Prelude.{◌≡◌, ◌⊎◌, ℕ, ◌+◌, ◌≤◌, Bool, true, false, ◌&&◌, cond, List, [], ◌∷◌, ◌++◌, length, map, codes, Option, Some, None, Result, Ok}
use Rattle.std.specs.Prelude.{Err, option_map}
use Rattle.std.specs.Str.{bytes_eq}
use Rattle.vx_dtype.specs.Types.{Bytes, Ty}
use Rattle.vx_dtype.specs.TypeRules.{field_type, is_plain}
use Rattle.vx_expr.specs.Trees.{Tree}
use Rattle.vx_semantics.specs.Breaks.{Cause}
use Rattle.vx_semantics.specs.Tables.{Table, row_type}
use Rattle.vx_semantics.specs.Scans.{kept_rows_of, skipped_blocks, reads_of, reads_to_break, read_columns, Phase, phases_of, some_phase_breaks, first_breaks_by}
use Rattle.vx_wire_bytes.specs.Wires.{HasShortParts}
use Rattle.vx_wire.specs.Encodings.{is_default_kind}
use Rattle.vx_wire.specs.Forms.{wire_of, wire_text, Everywhere}
use Rattle.vx_wire.specs.Metadata.{IsSerializable, HasShortMetadata}
use Rattle.vx_text.specs.Reading.{reading_of}
use Rattle.vx_text.specs.declared.errors.TextError.{TextError}
use Rattle.vx_display.specs.ValueTexts.{value_text}
use Rattle.vx_display.specs.TreeTexts.{tree_text_of}
use Rattle.vx_explain.specs.Explanations.{explain_text}
use Rattle.vx_explain.specs.Explaining.{shown_line, query_line}
use Rattle.vx_tables.specs.Blocks.{table_of_blocks}
use Rattle.vx_io.specs.Counts.{one_more}
use Rattle.vx_scan.specs.Scanning.{scan_type}
use Rattle.vx_scan.specs.Stores.{Read, StoreSeen}
use Rattle.vx_scan.specs.Texts.{SpellBoth, AreRefused, SpellsTree, IsTextRefused}
use Rattle.vx_scan.specs.declared.errors.Side.TheVariants.{Text}
use Rattle.vx_scan.specs.declared.errors.ScanError.{ScanError}
use Rattle.vx_io.specs.Ends.{TookPart, TookUpTo, Added, AddedPrefix}
use Rattle.vx_laws_generated.specs.GeneratedLine.{gen_line}
use Rattle.vx_laws_file.specs.FileForms.{FileContent, file_bytes}
use Rattle.vx_laws_file.specs.HeldTables.{held_blocks}
use Rattle.vx_laws_file.specs.Lengths.{IsShortTable, HasFile}
use Rattle.vx_laws_stats.specs.BuiltStatistics.{built_zones}
use Rattle.vx_laws_topk.specs.TopRows.{TopAsk, top_rows_of, top_skipped}
use Rattle.vx_laws_topk.specs.TopPhases.{top_reads, top_reads_to_break, some_top_phase_breaks, first_top_breaks_by}
use Rattle.vx_generated.specs.GeneratedBlocks.{generated_store}
use Rattle.vx_query.specs.GeneratedWords.{rows_of_word}
use Rattle.vx_query.specs.TopWords.{AskedTop, KeyRefusal, IsNoKey, count_of_word}
use Rattle.vx_query.specs.Reports.{report_text, hex_line}
use Rattle.vx_request.specs.Requests.{RequestedScan, request_of, most_bytes, hex_bytes}
use Rattle.vx_request.specs.FileRequests.{RequestedFile}
use Rattle.vx_file_query.specs.FileEndings.{FileEnding, misasked, misfiled, file_unscanned, file_broken, file_reported, FileEnds}
use Rattle.vx_request.specs.declared.errors.RequestError.{RequestError}
use Rattle.vx_query.specs.Refusals.{request_refusal_name, scan_refusal_name, text_refusal_name, key_refusal_name, break_name, refusal_line}
use Rattle.vx_query.specs.Refusals.{file_request_refusal_name, bad_file_name}

-- how an expression is shown: in a line, as a tree, or as the query that names it
pub data Showing : Type 0 where
  as_line : Showing
  as_tree : Showing
  as_query : Showing

-- the text of an expression that is shown so
abbrev pub shown_text : Showing → Tree → Bytes
shown_text as_line = shown_line
shown_text as_tree = tree_text_of
shown_text as_query = query_line

-- by which statistics a scan goes: those that its request gives, or those that its table has
pub data Statistics : Type 0 where
  given : Statistics
  built : Statistics

-- the forms of arguments
pub data Form : Type 0 where
  scan_form : Statistics → Form
  explain_form : Form
  show_form : Showing → Bytes → Form
  text_form : Bytes → Form
  gen_form : ℕ → Form
  top_form : AskedTop → Form
  file_form : Form
  scan_file_form : Form
  help_form : Form
  version_form : Form

-- the form of one argument
abbrev pub form_named : Bytes → Option Form
form_named argument =
    cond (bytes_eq argument (codes "scan")) (Some (scan_form given))
    (cond (bytes_eq argument (codes "explain")) (Some explain_form)
    (cond (bytes_eq argument (codes "file")) (Some file_form)
    (cond (bytes_eq argument (codes "--help")) (Some help_form)
    (cond (bytes_eq argument (codes "--version")) (Some version_form) None))))

-- where a word stands behind `scan`
abbrev pub scan_worded : Bytes → Option Form
scan_worded word = cond (bytes_eq word (codes "built")) (Some (scan_form built)) (cond (bytes_eq word (codes "file")) (Some scan_file_form) None)

-- the form that asks the first so many rows by this key
abbrev pub top_of : Bytes → Bool → ℕ → Form
top_of key descending count = top_form (record { key = key; descending = descending; count = count })

-- where a word is a direction, and another one tells a number of rows
abbrev pub top_worded : Bytes → Bytes → Bytes → Option Form
top_worded direction key word =
    cond (bytes_eq direction (codes "asc")) (option_map (top_of key false) (count_of_word word))
    (cond (bytes_eq direction (codes "desc")) (option_map (top_of key true) (count_of_word word)) None)

-- the form that arguments have; `built` and `file` may stand behind `scan`, any one word behind `show`, `show tree`, `show query` and `text`, one that
-- tells a number of rows behind `gen`, and any one word and a number of rows behind `top asc` and `top desc`
abbrev pub form_of : List Bytes → Option Form
form_of (argument ∷ []) = form_named argument
form_of (first ∷ word ∷ []) =
    cond (bytes_eq first (codes "scan")) (scan_worded word)
    (cond (bytes_eq first (codes "show")) (Some (show_form as_line word))
    (cond (bytes_eq first (codes "text")) (Some (text_form word))
    (cond (bytes_eq first (codes "gen")) (option_map gen_form (rows_of_word word)) None)))
form_of (first ∷ second ∷ word ∷ []) =
    cond (bytes_eq first (codes "show") && bytes_eq second (codes "tree")) (Some (show_form as_tree word))
    (cond (bytes_eq first (codes "show") && bytes_eq second (codes "query")) (Some (show_form as_query word)) None)
form_of (first ∷ direction ∷ key ∷ word ∷ []) = cond (bytes_eq first (codes "top")) (top_worded direction key word) None
form_of _ = None

-- whether arguments of this form read a request
abbrev pub reads_request : Option Form → Bool
reads_request (Some (scan_form s)) = true
reads_request (Some explain_form) = true
reads_request (Some (top_form top)) = true
reads_request (Some file_form) = true
reads_request _ = false

-- whether they read an input: a request, or one of the scan of a block file
abbrev pub reads_input : Option Form → Bool
reads_input (Some (scan_form s)) = true
reads_input (Some explain_form) = true
reads_input (Some (top_form top)) = true
reads_input (Some file_form) = true
reads_input (Some scan_file_form) = true
reads_input _ = false

-- whether they use the expressions of the request that they read, and not its table alone
abbrev pub uses_expressions : Option Form → Bool
uses_expressions (Some (scan_form s)) = true
uses_expressions (Some explain_form) = true
uses_expressions (Some (top_form top)) = true
uses_expressions _ = false

-- whether they ask the block file of a request's table
abbrev pub asks_file : Option Form → Bool
asks_file (Some file_form) = true
asks_file _ = false

-- whether they ask the scan of a block file
abbrev pub scans_file : Option Form → Bool
scans_file (Some scan_file_form) = true
scans_file _ = false

-- the statistics of a scan of a request, where the arguments have that form
abbrev pub asked_statistics : Option Form → Option Statistics
asked_statistics (Some (scan_form s)) = Some s
asked_statistics _ = None

-- the word of an expression that is to be shown, where the arguments have such a form
abbrev pub shown_word : Option Form → Option Bytes
shown_word (Some (show_form showing word)) = Some word
shown_word _ = None

-- the query whose expression's bytes are to be written, where the arguments have that form
abbrev pub asked_query : Option Form → Option Bytes
asked_query (Some (text_form query)) = Some query
asked_query _ = None

-- the number of rows of the generated table that is to be scanned, where the arguments have that form
abbrev pub asked_rows : Option Form → Option ℕ
asked_rows (Some (gen_form rows)) = Some rows
asked_rows _ = None

-- the first rows that are asked of a request, where the arguments have that form
abbrev pub asked_top : Option Form → Option AskedTop
asked_top (Some (top_form top)) = Some top
asked_top _ = None

-- an end of the program: its bytes, to come or written, where they are told, and how many of its faults were counted
pub record End : Type 0 where
  pub bytes : Option Bytes
  pub faults : ℕ

-- the end of these meanings
abbrev pub end_by : {E : Type 0} → (E → Option Bytes) → (E → ℕ) → E → End
end_by bytes faults end = record { bytes = bytes end; faults = faults end }

-- the table of a scan
abbrev pub scan_table : RequestedScan → Table
scan_table a = table_of_blocks a.zones a.blocks

-- the scan by these statistics; its table stays
abbrev pub scan_by : Statistics → RequestedScan → RequestedScan
scan_by given a = a
scan_by built a = record { zones = built_zones (scan_table a); blocks = a.blocks; filter = a.filter; projection = a.projection }

-- the reads of the scan of a filter and a projection
abbrev pub scan_reads : RequestedScan → Tree → Tree → List Read
scan_reads a f p = reads_of (scan_table a) a.zones [] f p

-- the report of this scan: what the projection means at the rows of the kept blocks at which the filter means true, the blocks that the statistics
-- rule out, and the reads
abbrev pub scan_report : RequestedScan → Tree → Tree → Bytes
scan_report a f p =
    report_text (map value_text (kept_rows_of (scan_table a) a.zones [] f p)) (skipped_blocks a.zones [] f)
    (read_columns (scan_table a) (scan_reads a f p)) (length (scan_reads a f p))

-- the store of a scan with these reads: it holds the table; no read failed, and none can
abbrev pub store_with : RequestedScan → List Read → StoreSeen
store_with a reads = record { zones = a.zones; held = Some (scan_table a); log = reads; faults = 0; failed = None; faultless = true }

-- the store that was scanned: its reads are those of the scan; and the store of a scan that broke: they are those up to the first phase that breaks
abbrev pub scanned_store : RequestedScan → Tree → Tree → StoreSeen
scanned_store a f p = store_with a (scan_reads a f p)

abbrev pub broken_store : RequestedScan → Tree → Tree → StoreSeen
broken_store a f p = store_with a (reads_to_break (scan_table a) a.zones [] f p)

-- the words that ask this
abbrev pub words_of : TopAsk → AskedTop
words_of ask = record { key = ask.key; descending = ask.descending; count = ask.count }

-- the report of the first rows that are asked of a scan's table: these rows, over the blocks that aren't skipped, the skipped ones, and the reads
abbrev pub top_report : RequestedScan → TopAsk → Bytes
top_report a ask =
    report_text (map value_text (top_rows_of ask (scan_table a) a.zones)) (top_skipped ask (scan_table a) a.zones)
    (read_columns (scan_table a) (top_reads ask (scan_table a) a.zones)) (length (top_reads ask (scan_table a) a.zones))

-- the store in which they were found: its reads are those by which they are; and the store of a search that broke: they are those up to the first phase
-- that breaks
abbrev pub topped_store : RequestedScan → TopAsk → StoreSeen
topped_store a ask = store_with a (top_reads ask (scan_table a) a.zones)

abbrev pub top_broken_store : RequestedScan → TopAsk → StoreSeen
top_broken_store a ask = store_with a (top_reads_to_break ask (scan_table a) a.zones)

-- whether a phase breaks in which they are found, and whether the first that does so breaks by this cause
abbrev pub top_breaks : RequestedScan → TopAsk → Bool
top_breaks a ask = some_top_phase_breaks ask (scan_table a) a.zones

abbrev pub top_breaks_by : Cause → RequestedScan → TopAsk → Bool
top_breaks_by cause a ask = first_top_breaks_by cause ask (scan_table a) a.zones

-- the type of a scan's rows, or the refusal of its expressions
abbrev pub type_of_scan : RequestedScan → Tree → Tree → Result Ty ScanError
type_of_scan a f p = scan_type (row_type a.zones.columns) [] f p

-- the two byte texts of a scan spell this filter and this projection
abbrev pub SpellsScan : RequestedScan → Tree → Tree → Type 0
SpellsScan a f p = SpellBoth is_default_kind a.filter a.projection f p

-- an input that holds this scan, of this filter and this projection, both strictly typed for its table, the filter a boolean
pub record HoldsScan (input : Bytes) (a : RequestedScan) (f p : Tree) : Type 0 where
  pub asked : request_of input ≡ Ok a
  pub spelled : SpellsScan a f p
  pub ty : Ty
  pub typed : type_of_scan a f p ≡ Ok ty

-- why the expressions of a scan are refused: its texts spell none, or they are not typed so
abbrev pub IsScanRefused : RequestedScan → ScanError → Type 0
IsScanRefused a e =
    AreRefused is_default_kind a.filter a.projection e ⊎ ((f : Tree) × (p : Tree) × SpellsScan a f p × (type_of_scan a f p ≡ Err e))

-- an input that holds a scan whose expressions are refused so
pub record HoldsRefused (input : Bytes) (e : ScanError) : Type 0 where
  pub asked : RequestedScan
  pub held : request_of input ≡ Ok asked
  pub refused : IsScanRefused asked e

-- an input that holds a scan whose texts spell two expressions, and of whose table a name is no key
pub record HoldsNoKey (refusal : KeyRefusal) (key input : Bytes) : Type 0 where
  pub asked : RequestedScan
  pub held : request_of input ≡ Ok asked
  pub filter : Tree
  pub projection : Tree
  pub spelled : SpellsScan asked filter projection
  pub no_key : IsNoKey refusal key asked

-- the key that the arguments ask is refused; those that ask no first rows ask none
abbrev pub HasNoKey : Option Form → Bytes → Type 0
HasNoKey (Some (top_form top)) input = (refusal : KeyRefusal) × HoldsNoKey refusal top.key input
HasNoKey _ input = ⊥

-- an input that holds the scan of a filter and a projection, of whose table the first rows are asked so: the key is a column of a plain type
pub record HoldsTop (input : Bytes) (a : RequestedScan) (ask : TopAsk) : Type 0 where
  pub scan : HoldsScan input a ask.filter_expr ask.projection
  pub column : field_type ask.key a.zones.columns ≡ Some ask.key_type
  pub plain : is_plain ask.key_type ≡ true

-- an input that holds a scan whose table has a block file
pub record HoldsFile (input : Bytes) (a : RequestedScan) : Type 0 where
  pub asked : request_of input ≡ Ok a
  pub has_file : HasFile a.zones a.blocks

-- an input that holds a scan whose table is too long for a block file: a text, a list, the range of a column or the header has 2 ^ 32 or more, or the
-- blocks have more rows together than a file may have
pub record HoldsLongTable (input : Bytes) : Type 0 where
  pub asked : RequestedScan
  pub held : request_of input ≡ Ok asked
  pub long : ¬ (IsShortTable asked.zones asked.blocks)

-- the line of the block file of a scan's table: two hexadecimal digits for each byte
abbrev pub file_line : RequestedScan → Bytes
file_line a = hex_line (file_bytes a.zones a.blocks)

-- a word of hexadecimal digits, two for each byte, whose bytes spell this expression
pub record WordSpells (word : Bytes) (e : Tree) : Type 0 where
  pub bytes : Bytes
  pub digits : hex_bytes word ≡ Some bytes
  pub spelled : SpellsTree is_default_kind bytes e

-- a word of hexadecimal digits whose bytes spell no expression, for this reason
pub record WordIsRefused (word : Bytes) (e : ScanError) : Type 0 where
  pub bytes : Bytes
  pub digits : hex_bytes word ≡ Some bytes
  pub refused : IsTextRefused is_default_kind Text bytes e

-- a query that names this expression
abbrev pub Names : Bytes → Tree → Type 0
Names query e = reading_of query ≡ Ok e

-- an expression in which no type is deeper than 64, and no dynamic comparison stands
abbrev pub IsShallow : Tree → Type 0
IsShallow e = Everywhere IsSerializable e

-- one in which a name, a text or a list, the bytes of a node's metadata or the list of its children has 2 ^ 32 or more
abbrev pub IsOverlong : Tree → Type 0
IsOverlong e = (¬ (Everywhere HasShortMetadata e)) ⊎ (¬ (HasShortParts (wire_of e)))

-- one that has bytes
abbrev pub HasBytes : Tree → Type 0
HasBytes e = IsShallow e × (¬ (IsOverlong e))

-- a query that names an expression in which a type is too deep for its bytes, or a part too long
abbrev pub HasDeepType : Bytes → Type 0
HasDeepType query = (e : Tree) × Names query e × (¬ (IsShallow e))

abbrev pub HasLongPart : Bytes → Type 0
HasLongPart query = (e : Tree) × Names query e × IsShallow e × IsOverlong e

-- the line of an expression's bytes: two hexadecimal digits for each
abbrev pub bytes_line : Tree → Bytes
bytes_line e = hex_line (wire_text e)

-- the phases of the scan of a filter and a projection
abbrev pub scan_phases : RequestedScan → Tree → Tree → List Phase
scan_phases a f p = phases_of (scan_table a) a.zones [] f p

-- whether one of them breaks, and whether the first that does so breaks by this cause
abbrev pub scan_breaks : RequestedScan → Tree → Tree → Bool
scan_breaks a f p = some_phase_breaks (scan_table a) a.zones [] f p

abbrev pub scan_breaks_by : Cause → RequestedScan → Tree → Tree → Bool
scan_breaks_by cause a f p = first_breaks_by cause (row_type a.zones.columns) [] (scan_phases a f p)

-- the scan of the table that a block file holds, by the texts of its request
abbrev pub held_scan : RequestedFile → FileContent → RequestedScan
held_scan a content = record { zones = content.zones; blocks = held_blocks content; filter = a.filter; projection = a.projection }

-- the exit status of the scan of a block file that ends so, and the text that is written
abbrev pub file_status : FileEnding → ℕ
file_status (misasked e) = 3
file_status (misfiled part) = 3
file_status (file_unscanned e) = 4
file_status (file_broken cause) = 5
file_status (file_reported a content f p) = 0

abbrev pub file_text : FileEnding → Bytes
file_text (misasked e) = refusal_line (file_request_refusal_name e)
file_text (misfiled part) = refusal_line (bad_file_name part)
file_text (file_unscanned e) = refusal_line (scan_refusal_name e)
file_text (file_broken cause) = refusal_line (break_name cause)
file_text (file_reported a content f p) = scan_report (held_scan a content) f p

-- how the program comes to an end: arguments of no form, help, the version, no memory, an input that can't be read, one that is no request, one whose
-- expressions are refused, one whose scan by some statistics breaks by a sum or a cast, one that is answered by the report of its scan by some statistics
-- and one by an explanation; a word to be shown that is no hexadecimal text, one whose bytes spell no expression, and one that is shown; a query that names
-- no expression, one of whose expression there are no bytes, for a type that is too deep or a part that is too long, and one of whose expression the bytes
-- are written; a generated table of so many rows that is scanned; of those that ask first rows, one of whose table the key is refused, one that breaks
-- where they are searched, and one that is answered by their report; of those that ask a block file, one whose table is too long for it, and one whose
-- table's file is written; and one that asks the scan of a block file, which ends so
pub data Outcome : Type 0 where
  misused : Outcome
  helped : Outcome
  versioned : Outcome
  out_of_memory : Outcome
  unread : Outcome
  refused : Bytes → RequestError → Outcome
  unscanned : Bytes → ScanError → Outcome
  broken : Statistics → Cause → Bytes → RequestedScan → Tree → Tree → Outcome
  answered : Statistics → Bytes → RequestedScan → Tree → Tree → Outcome
  explained : Bytes → RequestedScan → Tree → Tree → Outcome
  undecoded : Outcome
  unshown : ScanError → Outcome
  shown : Showing → Tree → Outcome
  unnamed : TextError → Outcome
  unserialized : Outcome
  overlong : Outcome
  named : Tree → Outcome
  summed : ℕ → Outcome
  unkeyed : AskedTop → Bytes → KeyRefusal → Outcome
  top_broken : Cause → Bytes → RequestedScan → TopAsk → Outcome
  topped : Bytes → RequestedScan → TopAsk → Outcome
  unfiled : Bytes → Outcome
  filed : Bytes → RequestedScan → Outcome
  file_ended : Bytes → FileEnding → Outcome

-- the input was taken to its end, or to one byte more than the most, and no read failed; that many bytes are no request
pub record IsTaken (before after : End) (input : Bytes) : Type 0 where
  pub bytes : TookUpTo (most_bytes + 1) before.bytes after.bytes input
  pub within : length input ≤ most_bytes + 1
  pub quiet : after.faults ≡ before.faults

-- a first part of the input was taken, at most one byte more than the most
abbrev pub IsPartTaken : End → End → Type 0
IsPartTaken before after = TookPart (most_bytes + 1) before.bytes after.bytes

-- what was taken where there was no memory: a first part of the input, no read of which failed, by arguments that read one, and nothing by those
-- that give a word, a query or a number of rows
abbrev pub IsCutShort : Option Form → End → End → Type 0
IsCutShort form before after =
    ((reads_input form ≡ true) × (IsPartTaken before after × (after.faults ≡ before.faults)))
    ⊎ ((((word : Bytes) × ((shown_word form ≡ Some word) ⊎ (asked_query form ≡ Some word))) ⊎ ((rows : ℕ) × (asked_rows form ≡ Some rows)))
    × (after ≡ before))

-- arguments that read an input couldn't read it: a first part of it was taken, and the source counted a fault
pub record FailsToRead (form : Option Form) (before after : End) : Type 0 where
  pub reads : reads_input form ≡ true
  pub part : IsPartTaken before after
  pub risen : one_more before.faults ≤ after.faults

-- arguments that ask this took an input, of which this holds
pub record TakesInput (Asks : Type 0) (before after : End) (input : Bytes) (Holds : Type 0) : Type 0 where
  pub asks : Asks
  pub taken : IsTaken before after input
  pub holds : Holds

-- arguments gave a word, as they do that ask this, of which this holds, and took nothing
pub record GivesWord (Asks Holds : Bytes → Type 0) (before after : End) : Type 0 where
  pub word : Bytes
  pub asks : Asks word
  pub holds : Holds word
  pub untaken : after ≡ before

-- what an outcome says of arguments and of the source: arguments that read no input take nothing
abbrev pub IsOutcome : Option Form → End → End → Outcome → Type 0
IsOutcome form before after misused = (form ≡ None) × (after ≡ before)
IsOutcome form before after helped = (form ≡ Some help_form) × (after ≡ before)
IsOutcome form before after versioned = (form ≡ Some version_form) × (after ≡ before)
IsOutcome form before after out_of_memory = IsCutShort form before after
IsOutcome form before after unread = FailsToRead form before after
IsOutcome form before after (refused input e) = TakesInput (reads_request form ≡ true) before after input (request_of input ≡ Err e)
IsOutcome form before after (unscanned input e) =
    TakesInput (uses_expressions form ≡ true) before after input (HoldsRefused input e × (¬ (HasNoKey form input)))
IsOutcome form before after (broken s cause input a f p) =
    TakesInput (form ≡ Some (scan_form s)) before after input (HoldsScan input a f p × (scan_breaks_by cause (scan_by s a) f p ≡ true))
IsOutcome form before after (answered s input a f p) =
    TakesInput (form ≡ Some (scan_form s)) before after input (HoldsScan input a f p × (scan_breaks (scan_by s a) f p ≡ false))
IsOutcome form before after (explained input a f p) = TakesInput (form ≡ Some explain_form) before after input (HoldsScan input a f p)
IsOutcome form before after undecoded = GivesWord (λ word. shown_word form ≡ Some word) (λ word. hex_bytes word ≡ None) before after
IsOutcome form before after (unshown e) = GivesWord (λ word. shown_word form ≡ Some word) (λ word. WordIsRefused word e) before after
IsOutcome form before after (shown showing e) = GivesWord (λ word. form ≡ Some (show_form showing word)) (λ word. WordSpells word e) before after
IsOutcome form before after (unnamed e) = GivesWord (λ query. asked_query form ≡ Some query) (λ query. reading_of query ≡ Err e) before after
IsOutcome form before after unserialized = GivesWord (λ query. asked_query form ≡ Some query) HasDeepType before after
IsOutcome form before after overlong = GivesWord (λ query. asked_query form ≡ Some query) HasLongPart before after
IsOutcome form before after (named e) = GivesWord (λ query. asked_query form ≡ Some query) (λ query. Names query e × HasBytes e) before after
IsOutcome form before after (summed rows) = (form ≡ Some (gen_form rows)) × (after ≡ before)
IsOutcome form before after (unkeyed top input refusal) =
    TakesInput (form ≡ Some (top_form top)) before after input (HoldsNoKey refusal top.key input)
IsOutcome form before after (top_broken cause input a ask) =
    TakesInput (form ≡ Some (top_form (words_of ask))) before after input (HoldsTop input a ask × (top_breaks_by cause a ask ≡ true))
IsOutcome form before after (topped input a ask) =
    TakesInput (form ≡ Some (top_form (words_of ask))) before after input (HoldsTop input a ask × (top_breaks a ask ≡ false))
IsOutcome form before after (unfiled input) = TakesInput (form ≡ Some file_form) before after input (HoldsLongTable input)
IsOutcome form before after (filed input a) = TakesInput (form ≡ Some file_form) before after input (HoldsFile input a)
IsOutcome form before after (file_ended input ending) = TakesInput (form ≡ Some scan_file_form) before after input (FileEnds input ending)

-- the text of `--version`
abbrev pub version_text : Bytes
version_text = codes "vx 0.1.0\n"

-- the text of `--help`
abbrev pub help_text : Bytes
help_text =
    codes "vx scan < REQUEST      prints the selected rows, the skipped blocks and the columns read, as in: vx scan < examples/first.json\n"
    ++ (codes "vx scan built < REQ    prints the same by the statistics that the table has, as in: vx scan built < examples/built.json\n"
    ++ (codes "vx explain < REQUEST   prints what a scan does with its filter and its projection, as in: vx explain < examples/explain.json\n"
    ++ (codes "vx show HEX            prints the expression that the bytes spell, as in: vx show 04726f6f740000\n"
    ++ (codes "vx show tree HEX       prints it as a tree, as in: vx show tree 04726f6f740000\n"
    ++ (codes "vx show query HEX      prints the query that names it, as in: vx show query 04726f6f740000\n"
    ++ (codes "vx text QUERY          prints the bytes of the expression that a query names, as in: vx text 'x > 10i32'\n"
    ++ (codes "vx gen ROWS            prints what the scan of a generated table of so many rows gives, as in: vx gen 200\n"
    ++ (codes "vx top asc KEY K < REQ prints the first K rows by a column (desc: greatest first), as in: vx top desc price 2 < examples/catalog.json\n"
    ++ (codes "vx file < REQUEST      prints the table as a block file, two hexadecimal digits for each byte, as in: vx file < examples/file.json\n"
    ++ (codes "vx scan file < FILE    prints what scan does of a block file by two expressions, as in: vx scan file < examples/held.json\n"
    ++ (codes "vx --help              prints this text\n"
    ++ (codes "vx --version           prints the version\n"
    ++ (codes "exit status: 0 written whole, 2 wrong arguments, 3 no request, no hex, too long a table or a bad file, 4 refused expressions\n"
    ++ (codes "or query, 5 overflow or bad cast, 6 input not read, 7 output not written, 8 no memory\n"))))))))))))))

-- the exit status of an outcome
abbrev pub status_of : Outcome → ℕ
status_of misused = 2
status_of helped = 0
status_of versioned = 0
status_of out_of_memory = 8
status_of unread = 6
status_of (refused input e) = 3
status_of (unscanned input e) = 4
status_of (broken s cause input a f p) = 5
status_of (answered s input a f p) = 0
status_of (explained input a f p) = 0
status_of undecoded = 3
status_of (unshown e) = 4
status_of (shown showing e) = 0
status_of (unnamed e) = 4
status_of unserialized = 4
status_of overlong = 4
status_of (named e) = 0
status_of (summed rows) = 0
status_of (unkeyed top input refusal) = 4
status_of (top_broken cause input a ask) = 5
status_of (topped input a ask) = 0
status_of (unfiled input) = 3
status_of (filed input a) = 0
status_of (file_ended input ending) = file_status ending

-- the text that an outcome writes
abbrev pub outcome_text : Outcome → Bytes
outcome_text misused = refusal_line (codes "Usage")
outcome_text helped = help_text
outcome_text versioned = version_text
outcome_text out_of_memory = refusal_line (codes "NoMemory")
outcome_text unread = refusal_line (codes "ReadFault")
outcome_text (refused input e) = refusal_line (request_refusal_name e)
outcome_text (unscanned input e) = refusal_line (scan_refusal_name e)
outcome_text (broken s cause input a f p) = refusal_line (break_name cause)
outcome_text (answered s input a f p) = scan_report (scan_by s a) f p
outcome_text (explained input a f p) = explain_text a.zones f p
outcome_text undecoded = refusal_line (codes "BadHex text")
outcome_text (unshown e) = refusal_line (scan_refusal_name e)
outcome_text (shown showing e) = shown_text showing e
outcome_text (unnamed e) = refusal_line (text_refusal_name e)
outcome_text unserialized = refusal_line (codes "NotSerializable")
outcome_text overlong = refusal_line (codes "TooLong")
outcome_text (named e) = bytes_line e
outcome_text (summed rows) = gen_line rows
outcome_text (unkeyed top input refusal) = refusal_line (key_refusal_name refusal)
outcome_text (top_broken cause input a ask) = refusal_line (break_name cause)
outcome_text (topped input a ask) = top_report a ask
outcome_text (unfiled input) = refusal_line (codes "TooLong")
outcome_text (filed input a) = file_line a
outcome_text (file_ended input ending) = file_text ending

-- the store that is held after an outcome: the one that was scanned, where a report or the line of a generated table was made, or a phase broke
abbrev pub used_by : Outcome → Option StoreSeen
used_by (broken s cause input a f p) = Some (broken_store (scan_by s a) f p)
used_by (answered s input a f p) = Some (scanned_store (scan_by s a) f p)
used_by (summed rows) = Some (generated_store rows)
used_by (top_broken cause input a ask) = Some (top_broken_store a ask)
used_by (topped input a ask) = Some (topped_store a ask)
used_by _ = None

-- how a text is written: whole, or only a first part of it
pub data Writing : Type 0 where
  whole : Writing
  cut : Writing

-- a whole text leaves the exit status that goes with it; one that is cut leaves 7, and the sink counted a fault
abbrev pub IsWriting : End → End → Bytes → ℕ → ℕ → Writing → Type 0
IsWriting before after text told status whole = (status ≡ told) × (Added before.bytes after.bytes text × (before.faults ≤ after.faults))
IsWriting before after text told status cut = (status ≡ 7) × (AddedPrefix before.bytes after.bytes text × (one_more before.faults ≤ after.faults))

-- a run of the program: an outcome, its text as it was written, and the store that is held
pub record IsRun (form : Option Form) (in_before in_after out_before out_after : End) (used : Option StoreSeen) (status : ℕ) : Type 0 where
  pub outcome : Outcome
  pub comes : IsOutcome form in_before in_after outcome
  pub writing : Writing
  pub written : IsWriting out_before out_after (outcome_text outcome) (status_of outcome) status writing
  pub held : used ≡ used_by outcome
