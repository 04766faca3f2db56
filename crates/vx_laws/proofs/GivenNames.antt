-- The names that the structs of a merge give are those of their types.
use Rattle.std.proofs.Common.{◌≡◌, refl, ap, sym, ◌∙◌, Bool, true, cond, List, [], ◌∷◌, ◌++◌, Result, Ok}
use Rattle.std.specs.List.{flat_map}
use Rattle.vx_dtype.specs.Types.{Bytes, Ty}
use Rattle.vx_dtype.specs.TypeRules.{has_name}
use Rattle.vx_dtype.specs.Values.{Val}
use Rattle.vx_expr.specs.Trees.{Trees, no_trees, tree}
use Rattle.vx_semantics.specs.Typing.{Refusal, and_then, names_in, typed_of, all_typed, type_or_empty, given_names}
use Rattle.vx_semantics.specs.Meaning.{Slots, source_names, mean, sources}
use Rattle.vx_laws.proofs.Inverting.{and_then-ok, Ok-same}
use Rattle.vx_laws.proofs.Merging.{some_gives, some_gives-step}

-- of one name, whether some struct gives it
pub gives-typed : (t : Ty) (slots : Slots) (row : Val) (f : Bytes) (es : Trees) (us : List Ty) → all_typed t es ≡ Ok us → some_gives source_names f (sources t slots row es) ≡ some_gives names_in f us
unfolding typed_of mean
gives-typed t slots row f no_trees us h = ap (some_gives names_in f) (Ok-same (Ok us) [] us (sym h) refl)
gives-typed t slots row f (tree d ds) us h =
    let a = and_then-ok (typed_of t d) (λ x. and_then (all_typed t ds) (λ xs. Ok (x ∷ xs))) us h in
    let b = and_then-ok (all_typed t ds) (λ xs. Ok (a.given ∷ xs)) us a.gave in
    let named : given_names t d ≡ names_in a.given = ap (λ (r : Result Ty Refusal). names_in (type_or_empty r)) a.was in
    some_gives-step source_names f (record { names = given_names t d; whole = mean t slots row d }) (sources t slots row ds)
    ∙ (ap (λ (x : Bool). cond x true (has_name f (given_names t d))) (gives-typed t slots row f ds b.given b.was)
    ∙ (ap (λ (ns : List Bytes). cond (some_gives names_in f b.given) true (has_name f ns)) named
    ∙ (sym (some_gives-step names_in f a.given b.given) ∙ ap (some_gives names_in f) (Ok-same (Ok us) (a.given ∷ b.given) us (sym b.gave) refl))))

-- and all their names, in order
pub names-typed : (t : Ty) (slots : Slots) (row : Val) (es : Trees) (us : List Ty) → all_typed t es ≡ Ok us → flat_map source_names (sources t slots row es) ≡ flat_map names_in us
unfolding typed_of mean
names-typed t slots row no_trees us h = ap (λ (z : List Ty). flat_map names_in z) (Ok-same (Ok us) [] us (sym h) refl)
names-typed t slots row (tree d ds) us h =
    let a = and_then-ok (typed_of t d) (λ x. and_then (all_typed t ds) (λ xs. Ok (x ∷ xs))) us h in
    let b = and_then-ok (all_typed t ds) (λ xs. Ok (a.given ∷ xs)) us a.gave in
    ap (λ (r : Result Ty Refusal). names_in (type_or_empty r) ++ flat_map source_names (sources t slots row ds)) a.was
    ∙ (ap (λ (ns : List Bytes). names_in a.given ++ ns) (names-typed t slots row ds b.given b.was)
    ∙ ap (λ (z : List Ty). flat_map names_in z) (Ok-same (Ok us) (a.given ∷ b.given) us (sym b.gave) refl))
