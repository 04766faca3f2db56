-- How what a plan wants is seen.
use Rattle.std.specs.Prelude.{◌≡◌, Result, Ok, Err}
use Rattle.vx_dtype.specs.Types.{Fields}
use Rattle.vx_laws_statements.specs.Statements.{Plan}
use Rattle.vx_laws_shell.specs.Wants as spec
use Rattle.vx_sql.specs.StatementAnswers.{key_view}
use Rattle.vx_shell.specs.declared.wants.Wanted.{Wanted}
use Rattle.vx_shell.specs.declared.wants.Wanted.TheVariants.{InOrder, FirstBy}
use Rattle.vx_shell.specs.declared.errors.Refusal.{Refusal}
use Rattle.vx_shell.specs.declared.errors.Refusal.TheVariants.{Unlimited, TooMany}

-- the answer is what a plan wants, or the refusal of its order
abbrev pub WantsOf : Fields → Plan → Result spec.Wanted spec.OrderRefusal → Result Wanted Refusal → Type 0
WantsOf columns plan given (Ok (InOrder limit)) = given ≡ Ok (spec.in_order limit)
WantsOf columns plan given (Ok (FirstBy key count)) = given ≡ Ok (spec.first_by (spec.ask_by columns plan (key_view key.now) count))
WantsOf columns plan given (Err Unlimited) = given ≡ Err spec.unlimited
WantsOf columns plan given (Err (TooMany count)) = given ≡ Err (spec.too_many count)
WantsOf columns plan given (Err _) = ⊥
