-- What is held of a run of blocks.
use Rattle.std.proofs.Common.{◌≡◌, ap, sym, ◌∙◌, ℕ, ◌+◌, ◌<◌, Bool, List, [], map, length, get_or}
use Rattle.std.specs.List.{range_with_len}
use Rattle.std.proofs.lemmas.List.FromFn.{length-map-range_with_len, get_or-map-range_with_len}

-- nothing is said of no block
pub none-told : (says : ℕ → Bool) (first : ℕ) (bs : List Bool) → bs ≡ [] → bs ≡ map says (range_with_len first (length bs))
none-told says first bs e = e ∙ sym (ap (λ (xs : List Bool). map says (range_with_len first (length xs))) e)

-- what is said of the blocks of a run: of how many, what as a run that is held, and what of one of them
module _ (says : ℕ → Bool) (first count : ℕ) (bs : List Bool) (told : bs ≡ map says (range_with_len first count)) where
  pub run-long : length bs ≡ count
  run-long = ap length told ∙ length-map-range_with_len says first count

  pub run-told : bs ≡ map says (range_with_len first (length bs))
  run-told = told ∙ ap (λ (n : ℕ). map says (range_with_len first n)) (sym run-long)

  pub told-at : (place block : ℕ) (d : Bool) → place < count → first + place ≡ block → get_or bs place d ≡ says block
  told-at place block d l e = ap (λ (xs : List Bool). get_or xs place d) told ∙ get_or-map-range_with_len says first count place block d l e
