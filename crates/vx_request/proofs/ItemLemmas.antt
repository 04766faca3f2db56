-- What is read of the items of a list, one after another.
use Rattle.std.proofs.Common.{◌≡◌, ℕ, ◌+◌, ◌<◌, List, [], ◌∷◌, ◌++◌, length, drop, get_or, map, Option, Some, None, option_map, refl, sym, ap, ◌∙◌, append_assoc}
use Rattle.std.proofs.lemmas.List.{drop_more, map-append}
use Rattle.serde_json.proofs.Views.{items_len-items_view}
use Rattle.serde_json.specs.Events.{items_len}
use Rattle.serde_json.specs.Data.{Data}
use Rattle.serde_json.specs.View.{view, items_view}
use Rattle.serde_json.specs.declared.value.Value.{Value}
use Rattle.vx_request.specs.Objects.{◌>>=◌, each_item}

-- what was read before, and then what is read of the rest
abbrev pub found_before : {A : Type 0} → List A → Option (List A) → Option (List A)
found_before xs rest = option_map (λ ys. xs ++ ys) rest

-- one more item comes behind those before
pub found_one_more : (A : Type 0) (xs : List A) (x : A) (rest : Option (List A)) → found_before xs (rest >>= λ ys. Some (x ∷ ys)) ≡ found_before (xs ++ x ∷ []) rest
found_one_more A xs x None = refl
found_one_more A xs x (Some ys) = ap Some (sym (append_assoc xs (x ∷ []) ys))

-- nothing comes behind the last
pub found_at_end : (A : Type 0) (xs : List A) → found_before xs (Some []) ≡ Some xs
found_at_end A [] = refl
found_at_end A (x ∷ xs) = ap (λ o. option_map (λ ys. x ∷ ys) o) (found_at_end A xs)

-- one more item of a list was read
pub read_more : (A X : Type 0) (read : Data → Option A) (see : X → A) (vs : List Value) (i : ℕ) (v : Value) (x : X) (found found' : List X)
    (all : Option (List A)) → i < length vs → v ≡ get_or vs i v → read (view v) ≡ Some (see x)
    → all ≡ found_before (map see found) (each_item read (items_view (drop i vs))) → found' ≡ found ++ x ∷ []
    → all ≡ found_before (map see found') (each_item read (items_view (drop (i + 1) vs)))
read_more A X read see vs i v x found found' all h is one before new =
    let next : drop i vs ≡ v ∷ drop (i + 1) vs = drop_more vs i v h ∙ ap (λ y. y ∷ drop (i + 1) vs) (sym is) in
    let rest = each_item read (items_view (drop (i + 1) vs)) in
    before ∙ ap (λ ys. found_before (map see found) (each_item read (items_view ys))) next
    ∙ ap (λ o. found_before (map see found) (o >>= λ y. rest >>= λ ys. Some (y ∷ ys))) one
    ∙ found_one_more A (map see found) (see x) rest
    ∙ ap (λ ys. found_before ys rest) (sym (ap (map see) new ∙ map-append see found (x ∷ [])))

-- a list has as many items as its vector
pub cells_number : (vs : List Value) → items_len (items_view vs) ≡ length vs
cells_number vs = items_len-items_view vs
