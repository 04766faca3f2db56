-- The conjuncts of an expression, joined again.
use Rattle.std.proofs.Common.{◌≡◌, refl, ap, sym, ◌∙◌, List, [], ◌∷◌, ◌++◌, Some}
use Rattle.std.specs.Prelude.{option_map}
use Rattle.vx_dtype.specs.Types.{Ty}
use Rattle.vx_dtype.specs.Values.{Val}
use Rattle.vx_dtype.specs.Logic.{and3}
use Rattle.vx_expr.specs.declared.Operator.{Operator}
use Rattle.vx_expr.specs.Trees.{Tree, binary}
use Rattle.vx_expr.specs.Conjuncts.{conjuncts_of}
use Rattle.vx_semantics.specs.Meaning.{Slots, mean}
use Rattle.vx_build.specs.Collectors.{joined_before, joined_right}
use Rattle.vx_laws.specs.Operators.{ConjunctsMeanTheWhole}
use Rattle.vx_laws.proofs.Kleene.{and3_assoc}

-- two chains in one mean the two under `and`
pub mean-joined-append : (t : Ty) (slots : Slots) (row : Val) (e : Tree) (ds : List Tree) (f : Tree) (fs : List Tree)
    → mean t slots row (joined_before Operator.And e (ds ++ (f ∷ fs))) ≡ and3 (mean t slots row (joined_before Operator.And e ds)) (mean t slots row (joined_before Operator.And f fs))
unfolding mean
mean-joined-append t slots row e [] f fs = refl
mean-joined-append t slots row e (d ∷ ds) f fs =
    ap (and3 (mean t slots row e)) (mean-joined-append t slots row d ds f fs)
    ∙ sym (and3_assoc (mean t slots row e) (mean t slots row (joined_before Operator.And d ds)) (mean t slots row (joined_before Operator.And f fs)))

-- a list of conjuncts is not empty, and means a value under `and`
pub record IsChain (t : Ty) (slots : Slots) (row : Val) (es : List Tree) (v : Val) : Type 0 where
  pub first : Tree
  pub rest : List Tree
  pub is : es ≡ first ∷ rest
  pub means : mean t slots row (joined_before Operator.And first rest) ≡ v

pub IsChain-append : (t : Ty) (slots : Slots) (row : Val) (es fs : List Tree) (v w : Val)
    → IsChain t slots row es v → IsChain t slots row fs w → IsChain t slots row (es ++ fs) (and3 v w)
IsChain-append t slots row es fs v w a b = record {
  first = a.first;
  rest = a.rest ++ (b.first ∷ b.rest);
  is = ap (λ (xs : List Tree). xs ++ fs) a.is ∙ ap (λ (ys : List Tree). (a.first ∷ a.rest) ++ ys) b.is;
  means = mean-joined-append t slots row a.first a.rest b.first b.rest ∙ (ap (λ (x : Val). and3 x (mean t slots row (joined_before Operator.And b.first b.rest))) a.means ∙ ap (and3 v) b.means);
}

alone : (t : Ty) (slots : Slots) (row : Val) (e : Tree) → IsChain t slots row (e ∷ []) (mean t slots row e)
alone t slots row e = record { first = e; rest = []; is = refl; means = refl }

pub conjuncts_of-chain : (t : Ty) (slots : Slots) (row : Val) (e : Tree) → IsChain t slots row (conjuncts_of e) (mean t slots row e)
unfolding mean conjuncts_of
conjuncts_of-chain t slots row (binary l Operator.And r) =
    IsChain-append t slots row (conjuncts_of l) (conjuncts_of r) (mean t slots row l) (mean t slots row r) (conjuncts_of-chain t slots row l) (conjuncts_of-chain t slots row r)
conjuncts_of-chain t slots row e = alone t slots row e

pub conjuncts_mean_whole : ConjunctsMeanTheWhole
conjuncts_mean_whole t slots row e =
    let c = conjuncts_of-chain t slots row e in
    ap (λ (es : List Tree). option_map (mean t slots row) (joined_right Operator.And es)) c.is ∙ ap Some c.means
