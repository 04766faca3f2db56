use Rattle.vx_laws_csv.proofs.Found.{found_types_take_all, found_types_are_least, nulls_are_texts}
use Rattle.vx_laws_csv.proofs.laws.found_types_are_least.Goals as goal

pub returns : goal.returns
returns c = record { take = found_types_take_all; least = found_types_are_least; nulls = nulls_are_texts }
