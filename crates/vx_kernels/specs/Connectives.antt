-- For the checker: no public clause cites this. The connectives of Kleene's logic by one name.
use Rattle.vx_dtype.specs.Values.{Val}
use Rattle.vx_dtype.specs.Logic.{and3, or3}
use Rattle.vx_kernels.specs.declared.logic.Connective.{Connective}
use Rattle.vx_kernels.specs.declared.logic.Connective.TheVariants.{And, Or}

-- what a connective makes of two values
abbrev pub connected3 : Connective → Val → Val → Val
connected3 And = and3
connected3 Or = or3
