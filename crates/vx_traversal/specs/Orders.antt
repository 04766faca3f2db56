-- The signal of a walk, and what the two calls that read it answer.
use Rattle.std.specs.Prelude.{◌≡◌, Result, Ok, ⊤}
use Rattle.vx_traversal.specs.declared.order.TraversalOrder.{TraversalOrder}
use Rattle.vx_traversal.specs.declared.order.TraversalOrder.TheVariants.{Skip, Stop, Continue}

-- the fact where the walk goes on
abbrev pub ForGoingOn : TraversalOrder → Type 0 → Type 0
ForGoingOn Skip P = ⊤
ForGoingOn Stop P = ⊤
ForGoingOn Continue P = P

-- the order after the children: Continue for Skip, Stop for Stop, what was answered for Continue
abbrev pub AnswersChildren : {E : Type 0} → TraversalOrder → (Result TraversalOrder E → Type 0) → Result TraversalOrder E → Type 0
AnswersChildren Skip Answers r = r ≡ Ok Continue
AnswersChildren Stop Answers r = r ≡ Ok Stop
AnswersChildren Continue Answers r = Answers r

-- the order after the parent: what was answered for Continue, else the order itself
abbrev pub AnswersParent : {E : Type 0} → TraversalOrder → (Result TraversalOrder E → Type 0) → Result TraversalOrder E → Type 0
AnswersParent Skip Answers r = r ≡ Ok Skip
AnswersParent Stop Answers r = r ≡ Ok Stop
AnswersParent Continue Answers r = Answers r
