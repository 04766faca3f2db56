-- What is added to an output by one piece of lines after another.
use Rattle.std.proofs.Common.{◌≡◌, refl, ap, sym, ◌∙◌, ℕ, ◌+◌, Option, Some, None, List, [], ◌++◌, length, take, length-append, arith, append_assoc, append-nil, subst}
use Rattle.std.proofs.Math.Seq.{take-append-add}
use Rattle.std.proofs.lemmas.List.{take-append-le, take_all}
use Rattle.vx_io.specs.Ends.{Added, AddedPrefix}

-- nothing
pub added_nothing : (at : Option (List ℕ)) → Added at at []
added_nothing None = refl
added_nothing (Some old) = ap Some (sym (append-nil old))

pub added_none_of : (at : Option (List ℕ)) (lines : List ℕ) → AddedPrefix at at lines
added_none_of at lines = (0, omega arith, added_nothing at)

-- some lines and then others
pub added_both : (before middle after : Option (List ℕ)) (xs ys : List ℕ) → Added before middle xs → Added middle after ys → Added before after (xs ++ ys)
added_both None None after xs ys h k = k
added_both None (Some now) after xs ys h k = let no : ⊥ = cc in absurd no
added_both (Some old) None after xs ys h k = let no : ⊥ = cc in absurd no
added_both (Some old) (Some now) after xs ys h k =
    let now_is : now ≡ old ++ xs = cc in
    k ∙ ap Some (ap (λ (zs : List ℕ). zs ++ ys) now_is ∙ append_assoc old xs ys)

-- first bytes of lines are first bytes of those with more lines behind
pub prefix_of_more : (before after : Option (List ℕ)) (xs ys : List ℕ) → AddedPrefix before after xs → AddedPrefix before after (xs ++ ys)
prefix_of_more before after xs ys h =
    (h.0, omega (arith, length-append xs ys, h.1), subst (Added before after) (sym (take-append-le h.0 xs ys h.1)) h.2)

-- lines and then first bytes of others
pub prefix_behind : (before middle after : Option (List ℕ)) (xs ys : List ℕ) → Added before middle xs → AddedPrefix middle after ys → AddedPrefix before after (xs ++ ys)
prefix_behind before middle after xs ys h k = (
  length xs + k.0,
  omega (arith, length-append xs ys, k.1),
  subst (Added before after) (sym (take-append-add xs ys k.0)) (added_both before middle after xs (take k.0 ys) h k.2),
)

-- lines that were added whole are first bytes of themselves
pub prefix_of_whole : (before after : Option (List ℕ)) (xs : List ℕ) → Added before after xs → AddedPrefix before after xs
prefix_of_whole before after xs h = (length xs, omega arith, subst (Added before after) (sym (take_all (length xs) xs (omega arith))) h)

-- and there are bytes that were added, wherever first ones were
pub added_some : (before after : Option (List ℕ)) (xs : List ℕ) → AddedPrefix before after xs → (bytes : List ℕ) × Added before after bytes
added_some before after xs h = (take h.0 xs, h.2)
