use Rattle.vx_laws_topk.proofs.Finding as finding
use Rattle.vx_laws_topk.proofs.top.top_is_of_all_rows.Goals as goal

pub returns-clause-first : goal.returns-clause-first
returns-clause-first c = finding.top_is_of_all_rows

pub returns-clause-all : goal.returns-clause-all
returns-clause-all c = finding.all_keyed_are_rows
