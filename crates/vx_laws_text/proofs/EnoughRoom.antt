-- As much room as there are tokens is enough.
use Rattle.std.proofs.Common.{ℕ, List, length, refl, arith}
use Rattle.vx_tokens.specs.declared.tokens.Token.{Token}
use Rattle.vx_text.specs.NamedExpressions.{and_argument}
use Rattle.vx_text.specs.Grammar.{Read, and_then, name_at}
use Rattle.vx_laws_text.specs.Fuel.{Shrinks, QueriesHaveRoom, TypesHaveRoom, ItemsHaveRoom, NamesHaveRoom, ArgumentsHaveRoom, ChainsHaveRoom, StepsHaveRoom}
use Rattle.vx_laws_text.proofs.Alike.{Alike, more-both, name-alike, no_name, types_alike, items_alike, chain-both, steps-both, queries_alike}

shrinking : {A : Type 0} (k : ℕ) (part : List Token → Read A) → Shrinks part → Alike k part part
shrinking k part h = record { alike = λ tokens le. record { same = refl; short = h tokens } }

pub queries_have_room : QueriesHaveRoom
queries_have_room tokens n m most ln lm = ((queries_alike (length tokens) n m most ln lm).alike tokens (omega arith)).same

pub types_have_room : TypesHaveRoom
types_have_room tokens n m most ln lm = ((types_alike (length tokens) n m most ln lm).alike tokens (omega arith)).same

pub items_have_room : ItemsHaveRoom
items_have_room tokens n m most ln lm = ((items_alike (length tokens) n m most ln lm).alike tokens (omega arith)).same

pub names_have_room : NamesHaveRoom
names_have_room close so_far tokens n m ln lm = (more-both name_at name_at and_then close (length tokens) (name-alike (length tokens)) no_name n m so_far tokens (omega arith) ln lm).same

pub arguments_have_room : ArgumentsHaveRoom
arguments_have_room read close so_far tokens n m shrinks none ln lm =
    (more-both read read and_argument close (length tokens) (shrinking (length tokens) read shrinks) none n m so_far tokens (omega arith) ln lm).same

pub chains_have_room : ChainsHaveRoom
chains_have_room level operand left tokens n m shrinks ln lm =
    (chain-both level operand operand (length tokens) (shrinking (length tokens) operand shrinks) n m left tokens (omega arith) ln lm).same

pub steps_have_room : StepsHaveRoom
steps_have_room e tokens n m most ln lm = (steps-both n m e tokens most ln lm).same
