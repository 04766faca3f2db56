use Rattle.vx_laws_explaining.proofs.OneExplanation.{one_explanation_of_file, one_explanation_of_folder}
use Rattle.vx_laws_explaining.proofs.laws.one_explanation.Goals as goal

pub returns : goal.returns
returns c = record { file = one_explanation_of_file; folder = one_explanation_of_folder }
