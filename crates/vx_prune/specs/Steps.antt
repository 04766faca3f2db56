-- For the checker: no public clause cites this.
-- What is left to find of a filter, step by step: a loop keeps the steps, so that a deep filter needs no call for each level.
use Rattle.std.specs.Prelude.{◌≡◌, ◌<◌, ℕ, ◌+◌, Bool, true, false, List, [], ◌∷◌, ◌++◌, map, Option, Result, Ok, Err}
use Rattle.vx_dtype.specs.declared.CompareOperator.{CompareOperator}
use Rattle.vx_expr.specs.Operators.{inverse_comparison}
use Rattle.vx_expr.specs.Trees.{Tree, binary, not_of}
use Rattle.vx_passes.specs.Catalogs.{Catalog}
use Rattle.vx_passes.specs.Falsifying.{Question, Found, found_in, both, either, joined_known, and_of, or_of, falsified, negation_falsified}
use Rattle.vx_prune.specs.Finding.{Finds}
use Rattle.vx_prune.specs.declared.falsify.Step.{Step}
use Rattle.vx_prune.specs.declared.falsify.Step.TheVariants.{Ask, SecondOfEither, SecondOfBoth, JoinEither, JoinBoth}

-- the falsification of a filter, or of its negation
abbrev pub filtered : Bool → Catalog → Tree → Found
filtered true catalog e = negation_falsified catalog e
filtered false catalog e = falsified catalog e

-- the comparison itself, or that which is true where it is false
abbrev pub asked_comparison : Bool → CompareOperator → CompareOperator
asked_comparison true op = inverse_comparison op
asked_comparison false op = op

-- whether a node leaves its operands to be asked, or may do so
abbrev pub is_joined : Tree → Bool
is_joined (binary l op r) = true
is_joined (not_of e) = true
is_joined _ = false

-- a step: an expression or its negation is asked, after nothing or after the first operand; or what was found of the first operand waits for the second
pub data Task : Type 0 where
  ask : Bool → Tree → Task
  second_of_either : Bool → Tree → Task
  second_of_both : Bool → Tree → Task
  join_either : Option Tree → Task
  join_both : Tree → Task

abbrev pub task_of : Step → Task
task_of (Ask e negated) = ask negated e.now
task_of (SecondOfEither e negated) = second_of_either negated e.now
task_of (SecondOfBoth e negated) = second_of_both negated e.now
task_of (JoinEither first) = join_either first
task_of (JoinBoth first) = join_both first

abbrev pub tasks_of : List Step → List Task
tasks_of steps = map task_of steps

-- the step that asks the second operand, by whether either operand is enough
abbrev pub second_task : Bool → Bool → Tree → Task
second_task true negated e = second_of_either negated e
second_task false negated e = second_of_both negated e

-- what was found, for which nothing is asked any more
abbrev pub held : Option Tree → Found
held found = record { tree = found; asked = [] }

-- the same found after these questions
abbrev pub after_asking : List Question → Found → Found
after_asking questions x = record { tree = x.tree; asked = questions ++ x.asked }

-- what a step finds where this was found before it
abbrev pub stepped : Catalog → Task → Found → Found
stepped catalog (ask negated e) x = record { tree = (filtered negated catalog e).tree; asked = x.asked ++ (filtered negated catalog e).asked }
stepped catalog (second_of_either negated e) x = either or_of x (filtered negated catalog e)
stepped catalog (second_of_both negated e) x = both and_of x (filtered negated catalog e)
stepped catalog (join_either first) x = record { tree = joined_known or_of first x.tree; asked = x.asked }
stepped catalog (join_both first) x = found_in (and_of first) x

-- what steps find, the last one first
abbrev pub all_stepped : Catalog → List Task → Found → Found
all_stepped catalog [] x = x
all_stepped catalog (s ∷ ss) x = stepped catalog s (all_stepped catalog ss x)

-- how many further steps an expression takes at most
abbrev pub further_steps : Tree → ℕ
further_steps (binary l op r) = 4 + further_steps l + further_steps r
further_steps (not_of e) = 1 + further_steps e
further_steps _ = 0

-- how many steps a step stands for at most, and all of these
abbrev pub task_steps : Task → ℕ
task_steps (ask negated e) = 1 + further_steps e
task_steps (second_of_either negated e) = 3 + further_steps e
task_steps (second_of_both negated e) = 3 + further_steps e
task_steps (join_either first) = 1
task_steps (join_both first) = 1

abbrev pub tasks_steps : List Task → ℕ
tasks_steps [] = 0
tasks_steps (s ∷ ss) = task_steps s + tasks_steps ss

module _ {S : Type 0} (answer : S → Catalog) (asked : S → List Question) where
  -- some questions of what is to be found were asked, this is left to be found, and the catalog answers what it answered
  pub record Leads (find rest : Catalog → Found) (before now : S) : Type 0 where
    pub same : answer now ≡ answer before
    pub part : List Question
    pub grown : asked now ≡ asked before ++ part
    pub left : find (answer before) ≡ after_asking part (rest (answer before))

  -- fewer steps are left in the place of what is to be found, and find it of what was found last
  pub record Takes (find : Catalog → Found) (most : ℕ) (old new : List Task) (before after : S) (found : Option Tree) : Type 0 where
    pub rest : List Task
    pub left : new ≡ old ++ rest
    pub fewer : tasks_steps rest < most
    pub leads : Leads find (λ catalog. all_stepped catalog rest (held found)) before after

  -- the same where there is memory; else a first part of the questions was asked
  abbrev pub Goes : {E : Type 0} → (Catalog → Found) → ℕ → List Task → List Task → S → S → Result (Option Tree) E → Type 0
  Goes find most old new before after (Ok found) = Takes find most old new before after found
  Goes find most old new before after (Err e) = Finds answer asked find before after (Err e)
