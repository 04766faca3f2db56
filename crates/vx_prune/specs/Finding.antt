-- What a call that asks a catalog answers, and how it leaves the catalog.
use Rattle.std.specs.Prelude.{◌≡◌, List, ◌++◌, Option, Result, Ok, Err}
use Rattle.vx_expr.specs.Trees.{Tree}
use Rattle.vx_passes.specs.Catalogs.{Catalog}
use Rattle.vx_passes.specs.Falsifying.{Question, Found}

-- a first part of these questions was asked
pub record AsksSome (all before after : List Question) : Type 0 where
  pub part : List Question
  pub rest : List Question
  pub whole : all ≡ part ++ rest
  pub grown : after ≡ before ++ part

-- the answer is what is found, and just the questions for it were asked; without memory a first part of them was asked
abbrev pub AnswersFound : {E : Type 0} → Found → List Question → List Question → Result (Option Tree) E → Type 0
AnswersFound x before after (Ok tree) = (tree ≡ x.tree) × (after ≡ before ++ x.asked)
AnswersFound x before after (Err e) = AsksSome x.asked before after

-- the answer is what is found of the catalog as it was, just the questions for it were asked, and the catalog answers what it answered
pub record Finds {S E : Type 0} (answer : S → Catalog) (asked : S → List Question) (find : Catalog → Found) (before after : S)
    (result : Result (Option Tree) E) : Type 0 where
  pub same : answer after ≡ answer before
  pub found : AnswersFound (find (answer before)) (asked before) (asked after) result
