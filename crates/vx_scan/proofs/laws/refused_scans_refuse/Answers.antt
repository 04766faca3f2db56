use Rattle.vx_scan.proofs.LawLemmas.{refused_types_so, refused_texts_so}
use Rattle.vx_scan.proofs.laws.refused_scans_refuse.Goals as goal

pub returns-clause-types : goal.returns-clause-types
returns-clause-types c = refused_types_so

pub returns-clause-texts : goal.returns-clause-texts
returns-clause-texts c = refused_texts_so
