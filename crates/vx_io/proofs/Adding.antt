-- What is added in one more write.
use Rattle.std.proofs.Common.{◌≡◌, ℕ, ◌+◌, ◌≤◌, List, ◌++◌, length, take, drop, sym, ap, ◌∙◌, append_assoc}
use Rattle.std.proofs.Math.Seq.{take-add}
use Rattle.std.specs.Prelude.{Option, Some, None, Ok, Err}
use Rattle.vx_io.specs.Ends.{WritesTo, Added, AddedPrefix}

-- what a write took comes behind what was added before
pub added_more : (E : Type 0) (at n : ℕ) (before mid after : Option (List ℕ)) (text : List ℕ)
    → Added before mid (take at text) → WritesTo {E = E} mid after (drop at text) (Ok n) → Added before after (take (at + n) text)
added_more E at n None None after text added wrote = wrote
added_more E at n None (Some old) after text added wrote = absurd (let e = added in cc)
added_more E at n (Some old) None after text added wrote = absurd (let e = added in cc)
added_more E at n (Some old) (Some now) after text added wrote =
    let now_is : now ≡ old ++ take at text = cc added in
    wrote ∙ ap Some (ap (λ xs. xs ++ take n (drop at text)) now_is ∙ append_assoc old (take at text) (take n (drop at text)) ∙ ap (λ xs. old ++ xs) (sym (take-add at n text)))

-- a failed write leaves what was added before
pub added_no_more : (E : Type 0) (at : ℕ) (e : E) (before mid after : Option (List ℕ)) (text : List ℕ)
    → at ≤ length text → Added before mid (take at text) → WritesTo {E = E} mid after (drop at text) (Err e) → AddedPrefix before after text
added_no_more E at e None None after text within added wrote = (at, within, wrote)
added_no_more E at e None (Some old) after text within added wrote = absurd (let e = added in cc)
added_no_more E at e (Some old) None after text within added wrote = absurd (let e = added in cc)
added_no_more E at e (Some old) (Some now) after text within added wrote = (at, within, wrote ∙ added)
