-- How what is explained is seen.
use Rattle.std.specs.Prelude.{map}
use Rattle.std.specs.String.{string_bytes}
use Rattle.vx_laws_explaining.specs.Explained as spec
use Rattle.vx_laws_explaining.specs.ExplainingWords as words
use Rattle.vx_explaining.specs.declared.columns.Usage.{Usage}
use Rattle.vx_explaining.specs.declared.columns.Usage.TheVariants as usages
use Rattle.vx_explaining.specs.declared.columns.UsedColumn.{UsedColumn}
use Rattle.vx_explaining.specs.declared.deciders.Decider.{Decider}
use Rattle.vx_explaining.specs.declared.explained.Explained.{Explained}
use Rattle.vx_explaining.specs.declared.words.Form.{Form}
use Rattle.vx_explaining.specs.declared.words.Form.TheVariants as forms
use Rattle.vx_explaining.specs.declared.words.Asked.{Asked}

abbrev pub usage_view : Usage → spec.Usage
usage_view usages.Filter = spec.for_filter
usage_view usages.Rows = spec.for_rows
usage_view usages.Nothing = spec.for_nothing

abbrev pub column_view : UsedColumn → spec.UsedColumn
column_view c = record { name = c.name.now; usage = usage_view c.usage }

abbrev pub decider_view : Decider → spec.Decider
decider_view d = record { name = string_bytes d.name; statistic = d.statistic.now }

abbrev pub explained_view : Explained → spec.Explained
explained_view x = record {
  filter = x.filter;
  projection = x.projection;
  pruning = x.pruning;
  deciders = map decider_view x.deciders.items;
  columns = map column_view x.columns.items;
  lengths = x.lengths.now;
  skipped = x.skipped.items;
}

-- the form that words ask, and what they ask
abbrev pub form_view : Form → words.Form
form_view forms.Text = words.as_text
form_view forms.Json = words.as_json
form_view forms.Picture = words.as_picture

abbrev pub asked_view : Asked → words.Asked
asked_view asked = record { statement = asked.statement.now; form = form_view asked.form }
