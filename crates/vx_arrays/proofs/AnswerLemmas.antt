-- Answers that are refusals.
use Rattle.std.proofs.Common.{◌≡◌}
use Rattle.std.specs.Prelude.{Result, Err}
use Rattle.vx_arrays.specs.declared.errors.ArrayError.{ArrayError}
use Rattle.vx_arrays.specs.declared.errors.ArrayError.TheVariants.{NoMemory, NoArray, WrongBuffers, BadText, NullCell}
use Rattle.vx_arrays.specs.Arrays.{Answers}

-- a refusal that is answered of a part is answered of the whole, where what is told of the part is told of the whole
pub refused_by : {A B X Y : Type 0} (view : X → A) (whole : Y → B) (part : Result A ArrayError) (told : Result B ArrayError) (e : ArrayError)
    → (part ≡ Err e → told ≡ Err e) → Answers view part (Err e) → Answers whole told (Err e)
refused_by view whole part told NoMemory f h = tt
refused_by view whole part told NoArray f h = f h
refused_by view whole part told WrongBuffers f h = f h
refused_by view whole part told BadText f h = f h
refused_by view whole part told NullCell f h = f h
