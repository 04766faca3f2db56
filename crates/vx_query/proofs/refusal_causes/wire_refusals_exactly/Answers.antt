use Rattle.std.proofs.Common.{refl}
use Rattle.vx_scan.specs.declared.errors.Side.TheVariants.{Text}
use Rattle.vx_scan.specs.declared.errors.ScanError.TheVariants as scans
use Rattle.vx_query.proofs.ExpressionCauseLemmas.{text_row}
use Rattle.vx_query.proofs.WordLemmas.{unexpressed}
use Rattle.vx_query.proofs.refusal_causes.wire_refusals_exactly.Goals as goal

pub returns-clause-bad_wire : goal.returns-clause-bad_wire
returns-clause-bad_wire c = λ side. text_row c.wire_laws.ensures (scans.BadWire side) refl

pub returns-clause-too_deep : goal.returns-clause-too_deep
returns-clause-too_deep c = λ side. text_row c.wire_laws.ensures (scans.TooDeep side) refl

pub returns-clause-too_many_nodes : goal.returns-clause-too_many_nodes
returns-clause-too_many_nodes c = λ side. text_row c.wire_laws.ensures (scans.TooManyNodes side) refl

pub returns-clause-bad_wire_word : goal.returns-clause-bad_wire_word
returns-clause-bad_wire_word c = unexpressed (scans.BadWire Text)

pub returns-clause-too_deep_word : goal.returns-clause-too_deep_word
returns-clause-too_deep_word c = unexpressed (scans.TooDeep Text)

pub returns-clause-too_many_nodes_word : goal.returns-clause-too_many_nodes_word
returns-clause-too_many_nodes_word c = unexpressed (scans.TooManyNodes Text)
