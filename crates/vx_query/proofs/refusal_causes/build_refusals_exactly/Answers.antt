use Rattle.std.proofs.Common.{refl}
use Rattle.vx_scan.specs.declared.errors.Side.TheVariants.{Text}
use Rattle.vx_scan.specs.declared.errors.ScanError.TheVariants as scans
use Rattle.vx_query.proofs.ExpressionCauseLemmas.{text_row}
use Rattle.vx_query.proofs.WordLemmas.{unexpressed}
use Rattle.vx_query.proofs.refusal_causes.build_refusals_exactly.Goals as goal

pub returns-clause-unknown_expr : goal.returns-clause-unknown_expr
returns-clause-unknown_expr c = λ side. text_row c.wire_laws.ensures (scans.UnknownExpr side) refl

pub returns-clause-bad_metadata : goal.returns-clause-bad_metadata
returns-clause-bad_metadata c = λ side. text_row c.wire_laws.ensures (scans.BadMetadata side) refl

pub returns-clause-wrong_children : goal.returns-clause-wrong_children
returns-clause-wrong_children c = λ side. text_row c.wire_laws.ensures (scans.WrongChildren side) refl

pub returns-clause-unknown_expr_word : goal.returns-clause-unknown_expr_word
returns-clause-unknown_expr_word c = unexpressed (scans.UnknownExpr Text)

pub returns-clause-bad_metadata_word : goal.returns-clause-bad_metadata_word
returns-clause-bad_metadata_word c = unexpressed (scans.BadMetadata Text)

pub returns-clause-wrong_children_word : goal.returns-clause-wrong_children_word
returns-clause-wrong_children_word c = unexpressed (scans.WrongChildren Text)
