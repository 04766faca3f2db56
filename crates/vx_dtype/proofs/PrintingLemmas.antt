-- What the loops that print lists and structs have written so far.
use Rattle.std.proofs.Common.{◌≡◌, ℕ, ◌+◌, ◌<◌, ◌≤◌, List, [], ◌∷◌, ◌++◌, length, map, drop, refl, sym, ap, ◌∙◌, append_assoc, append-nil}
use Rattle.std.proofs.Math.ListN.{get_or}
use Rattle.std.proofs.lemmas.List.{drop_more, drop_all}
use Rattle.std.proofs.Output.{has_written_append, has_written_of_eq, writes_in_calls_nil}
use Rattle.std.specs.Fmt.{IsPlainFormatter, HasWritten}
use Rattle.std.specs.declared.fmt.Formatter.{Formatter}
use lib.Chars.{codes}
use Rattle.vx_dtype.specs.Types.{Bytes, Ty}
use Rattle.vx_dtype.specs.Values.{Raw}
use Rattle.vx_dtype.specs.Zipped.{zipped}
use Rattle.vx_dtype.specs.RawViews.{raws_of}
use Rattle.vx_dtype.specs.ScalarTexts.{scalar_text, items_text, members_text}

module _ {W : Type 0} (took : W → List ℕ → W → Type 0) where
  -- g is f after a part of the text, and this is left of it
  abbrev pub HasBegun : Formatter W → Bytes → Formatter W → Bytes → Type 0
  HasBegun f whole g left = (done : List ℕ) × HasWritten took f done g × (done ++ left ≡ whole)

  -- at first all is left
  pub has_begun_nothing : (f : Formatter W) (whole left : Bytes) → left ≡ whole → IsPlainFormatter f → HasBegun f whole f left
  has_begun_nothing f whole left same plain = ([], record { wrote = writes_in_calls_nil took f.writer; plain = plain }, same)

  -- a further part
  pub has_begun_more : (f : Formatter W) (whole : Bytes) (g : Formatter W) (left a b : Bytes) (h : Formatter W) → left ≡ a ++ b → HasBegun f whole g left → HasWritten took g a h → HasBegun f whole h b
  has_begun_more f whole g left a b h parts begun wrote =
      (begun.0 ++ a, has_written_append took f begun.0 g a h begun.1 wrote, append_assoc begun.0 a b ∙ ap (λ rest. begun.0 ++ rest) (sym parts) ∙ begun.2)

  -- all of it where nothing is left
  pub has_written_begun : (f : Formatter W) (whole : Bytes) (g : Formatter W) (left : Bytes) → left ≡ [] → HasBegun f whole g left → HasWritten took f whole g
  has_written_begun f whole g left none begun =
      has_written_of_eq took f begun.0 whole g (sym (append-nil begun.0) ∙ ap (λ rest. begun.0 ++ rest) (sym none) ∙ begun.2) begun.1

module _ {V : Type 0} (show : V → Raw) where
  -- from a place within on the text is that of the value there and of those behind it
  pub items_text_step : (before : Bytes) (vs : List V) (t : Ty) (i : ℕ) (v : V) → i < length vs → get_or vs i v ≡ v
      → items_text before (raws_of (map show (drop i vs))) t ≡ before ++ (scalar_text (show v) t ++ items_text (codes ", ") (raws_of (map show (drop (i + 1) vs))) t)
  unfolding items_text
  items_text_step before vs t i v h e =
      ap (λ ws. items_text before (raws_of (map show ws)) t) (drop_more vs i v h)
      ∙ ap (λ w. items_text before (raws_of (map show (w ∷ drop (i + 1) vs))) t) e

  -- behind the last place it is empty
  pub items_text_end : (before : Bytes) (vs : List V) (t : Ty) (i : ℕ) → length vs ≤ i → items_text before (raws_of (map show (drop i vs))) t ≡ []
  unfolding items_text
  items_text_end before vs t i h = ap (λ ws. items_text before (raws_of (map show ws)) t) (drop_all i vs h)

  module _ {A : Type 0} (see : A → Ty) where
    -- the same of the values of fields
    pub members_text_step : (before : Bytes) (vs : List V) (fs : List Bytes) (xs : List A) (i : ℕ) (v : V) (f : Bytes) (x : A) → i < length vs → i < length fs → i < length xs
        → get_or vs i v ≡ v → get_or fs i f ≡ f → get_or xs i x ≡ x
        → members_text before (raws_of (map show (drop i vs))) (zipped (drop i fs) (map see (drop i xs)))
        ≡ before ++ (f ++ (codes ": " ++ (scalar_text (show v) (see x) ++ members_text (codes ", ") (raws_of (map show (drop (i + 1) vs))) (zipped (drop (i + 1) fs) (map see (drop (i + 1) xs))))))
    unfolding members_text
    members_text_step before vs fs xs i v f x h k m d e g =
        ap (λ ws. members_text before (raws_of (map show ws)) (zipped (drop i fs) (map see (drop i xs)))) (drop_more vs i v h ∙ ap (λ w. w ∷ drop (i + 1) vs) d)
        ∙ ap (λ gs. members_text before (raws_of (map show (v ∷ drop (i + 1) vs))) (zipped gs (map see (drop i xs)))) (drop_more fs i f k ∙ ap (λ w. w ∷ drop (i + 1) fs) e)
        ∙ ap (λ ys. members_text before (raws_of (map show (v ∷ drop (i + 1) vs))) (zipped (f ∷ drop (i + 1) fs) (map see ys))) (drop_more xs i x m ∙ ap (λ w. w ∷ drop (i + 1) xs) g)

    -- without a value, or without a field, there is no text
    pub members_text_no_value : (before : Bytes) (vs : List V) (fs : List Bytes) (xs : List A) (i : ℕ) → length vs ≤ i
        → members_text before (raws_of (map show (drop i vs))) (zipped (drop i fs) (map see (drop i xs))) ≡ []
    unfolding members_text
    members_text_no_value before vs fs xs i h = ap (λ ws. members_text before (raws_of (map show ws)) (zipped (drop i fs) (map see (drop i xs)))) (drop_all i vs h)

    without_fields : (before : Bytes) (vs : List V) → members_text before (raws_of (map show vs)) (zipped [] []) ≡ []
    unfolding members_text
    without_fields before [] = refl
    without_fields before (v ∷ vs) = refl

    pub members_text_no_field : (before : Bytes) (vs : List V) (fs : List Bytes) (xs : List A) (i : ℕ) → length fs ≤ i → length xs ≤ i
        → members_text before (raws_of (map show (drop i vs))) (zipped (drop i fs) (map see (drop i xs))) ≡ []
    members_text_no_field before vs fs xs i h k =
        ap (λ gs. members_text before (raws_of (map show (drop i vs))) (zipped gs (map see (drop i xs)))) (drop_all i fs h)
        ∙ ap (λ ys. members_text before (raws_of (map show (drop i vs))) (zipped [] (map see ys))) (drop_all i xs k)
        ∙ without_fields before (drop i vs)
