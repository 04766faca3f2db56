use Rattle.std.proofs.Common.{◌∙◌, sym, ap}
use Rattle.std.specs.List.{position}
use Rattle.std.specs.Str.{bytes_eq}
use Rattle.vx_tables.proofs.NamedLemmas.{named_at, named_nowhere}
use Rattle.vx_tables.proofs.tables.column_named.Goals as goal

pub returns-in-Some : goal.returns-in-Some
returns-in-Some c =
    let at = sym (ap (position (bytes_eq c.args.name.now)) c.names.ensures) ∙ sym c.in-Some.ensures in
    c.column_at.ensures ∙ named_at c.args.name.now c.args.fields.now c.args.columns.now c.in-Some.place c.requires at

pub returns-in-None : goal.returns-in-None
returns-in-None c =
    let at = sym (ap (position (bytes_eq c.args.name.now)) c.names.ensures) ∙ sym c.in-None.ensures in
    sym (named_nowhere c.args.name.now c.args.fields.now c.args.columns.now c.requires at)
