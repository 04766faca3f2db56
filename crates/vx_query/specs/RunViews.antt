-- How forms of arguments and the scan of a store are seen.
use Rattle.vx_scan.specs.StoreViews.{StoreState}
use Rattle.vx_dtype.specs.Types.{Bytes}
use Rattle.vx_request.specs.Requests.{RequestedScan}
use Rattle.vx_query.specs.Running as running
use Rattle.vx_query.specs.declared.forms.Showing.{Showing}
use Rattle.vx_query.specs.declared.forms.Showing.TheVariants.{Line, Tree, Query}
use Rattle.vx_query.specs.declared.forms.Statistics.{Statistics}
use Rattle.vx_query.specs.declared.forms.Statistics.TheVariants.{Given, Built}
use Rattle.vx_query.specs.declared.forms.Top.{Top as AskedRows}
use Rattle.vx_query.specs.declared.forms.Form.{Form}
use Rattle.vx_query.specs.declared.forms.Form.TheVariants.{Scan, Explain, Show, Text, Generated, Top, File, ScanFile, Help, Version}
use Rattle.vx_query.specs.TopWords.{AskedTop}

-- how an expression is shown, as a value of the code says
abbrev pub showing_view : Showing → running.Showing
showing_view Line = running.as_line
showing_view Tree = running.as_tree
showing_view Query = running.as_query

-- by which statistics a scan goes, as a value of the code says
abbrev pub statistics_view : Statistics → running.Statistics
statistics_view Given = running.given
statistics_view Built = running.built

-- what first rows are asked, as a value of the code says
abbrev pub top_view : AskedRows → AskedTop
top_view top = record { key = top.key.now; descending = top.descending; count = top.count }

-- the form that a value of the code stands for
abbrev pub form_view : Form → running.Form
form_view (Scan statistics) = running.scan_form (statistics_view statistics)
form_view Explain = running.explain_form
form_view (Show showing hex) = running.show_form (showing_view showing) hex.now
form_view (Text query) = running.text_form query.now
form_view (Generated rows) = running.gen_form rows
form_view (Top top) = running.top_form (top_view top)
form_view File = running.file_form
form_view ScanFile = running.scan_file_form
form_view Help = running.help_form
form_view Version = running.version_form

-- the scan of a store and two byte texts
abbrev pub scan_of : StoreState → Bytes → Bytes → RequestedScan
scan_of store filter projection = record { zones = store.zones; blocks = store.blocks; filter = filter; projection = projection }
