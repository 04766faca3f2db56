-- Texts of columns and of statistics, as loops write them: what was written and what is left.
use Rattle.std.proofs.Common.{◌≡◌, ℕ, zero, suc, ◌+◌, ◌-◌, ◌<◌, ◌≤◌, List, [], ◌∷◌, ◌++◌, length, map, take, drop, Some, codes, sym, ap, ◌∙◌, append_assoc, append-nil, arith}
use Rattle.std.proofs.Math.ListN.{get_or}
use Rattle.std.specs.List.{slice_get}
use Rattle.std.proofs.lemmas.List.{drop_more, drop_all, take_all}
use Rattle.vx_dtype.specs.Types.{Bytes, Ty, Fields}
use Rattle.vx_dtype.specs.TypeRules.{field_names}
use Rattle.vx_dtype.specs.StructTypes.{field_types}
use Rattle.vx_dtype.proofs.FieldsFrom.{fields_from, fields_from-here, fields_from-past}
use Rattle.vx_semantics.specs.Tables.{ZoneStat, Zones}
use Rattle.vx_folder.specs.FolderTables.{Ascend}
use Rattle.vx_laws_listing.specs.ListingTexts.{block_line, block_lines, end_among, fields_json, lengths_between, name_json, part_lines, type_json, with_commas}

-- from a place within on the text is that of the field there and of those behind it
pub fields_step : (before : Bytes) (fs : Fields) (i : ℕ) (f : Bytes) (t : Ty) → slice_get (field_names fs) i ≡ Some f → slice_get (field_types fs) i ≡ Some t
    → fields_json before (fields_from i fs) ≡ before ++ (name_json f ++ (type_json t ++ (codes "}" ++ fields_json (codes ",") (fields_from (i + 1) fs))))
unfolding fields_json
fields_step before fs i f t n d =
    let next : suc i ≡ i + 1 = omega arith in
    ap (fields_json before) (fields_from-here i fs f t n d)
    ∙ ap (λ j. before ++ (name_json f ++ (type_json t ++ (codes "}" ++ fields_json (codes ",") (fields_from j fs))))) next

pub fields_end : (before : Bytes) (fs : Fields) (i : ℕ) → length (field_names fs) ≤ i → fields_json before (fields_from i fs) ≡ []
unfolding fields_json
fields_end before fs i le = ap (fields_json before) (fields_from-past i fs le)

module _ {V A : Type 0} (see : V → A) (show : A → Bytes) where
  -- the same of items with a comma between
  pub items_step : (before : Bytes) (vs : List V) (i : ℕ) (v : V) → i < length vs → get_or vs i v ≡ v
      → with_commas show before (map see (drop i vs)) ≡ before ++ (show (see v) ++ with_commas show (codes ",") (map see (drop (i + 1) vs)))
  items_step before vs i v h e =
      ap (λ ws. with_commas show before (map see ws)) (drop_more vs i v h)
      ∙ ap (λ x. before ++ (show (see x) ++ with_commas show (codes ",") (map see (drop (i + 1) vs)))) e

  pub items_end : (before : Bytes) (vs : List V) (i : ℕ) → length vs ≤ i → with_commas show before (map see (drop i vs)) ≡ []
  items_end before vs i le = ap (λ ws. with_commas show before (map see ws)) (drop_all i vs le)

-- the lines of the blocks from a number on up to another
between_step : (lengths : List ℕ) (i end : ℕ) → i < end → end ≤ length lengths → lengths_between i end lengths ≡ get_or lengths i 0 ∷ lengths_between (i + 1) end lengths
between_step lengths i end h within =
    let more : end - i ≡ suc (end - (i + 1)) = omega (arith, h) in
    let there : i < length lengths = omega (arith, h, within) in
    ap (λ n. take n (drop i lengths)) more ∙ ap (take (suc (end - (i + 1)))) (drop_more lengths i 0 there)

pub lines_step : (path : Bytes) (stats : List ZoneStat) (lengths : List ℕ) (i end : ℕ) → i < end → end ≤ length lengths
    → block_lines path stats i (lengths_between i end lengths) ≡ block_line path stats i (get_or lengths i 0) ++ block_lines path stats (i + 1) (lengths_between (i + 1) end lengths)
lines_step path stats lengths i end h within =
    let next : suc i ≡ i + 1 = omega arith in
    ap (block_lines path stats i) (between_step lengths i end h within)
    ∙ ap (λ j. block_line path stats i (get_or lengths i 0) ++ block_lines path stats j (lengths_between (i + 1) end lengths)) next

pub lines_end : (path : Bytes) (stats : List ZoneStat) (lengths : List ℕ) (i end : ℕ) → end ≤ i → block_lines path stats i (lengths_between i end lengths) ≡ []
lines_end path stats lengths i end le =
    let none : end - i ≡ 0 = omega (arith, le) in ap (λ n. block_lines path stats i (take n (drop i lengths))) none

-- all of them
pub all_between : (lengths : List ℕ) → lengths_between 0 (length lengths) lengths ≡ lengths
all_between lengths = take_all (length lengths - 0) lengths (omega arith)

-- ---- files

-- where the blocks of a file end is within the blocks of all
low_within : (low high : ℕ) (ns : List ℕ) → Ascend low ns high → low ≤ high
low_within low high [] h = h
low_within low high (n ∷ ns) h = let rest = low_within n high ns h.1 in omega (arith, h.0, rest)

pub end_within : (low high i : ℕ) (ns : List ℕ) → Ascend low ns high → end_among high (drop i ns) ≤ high
end_within low high zero [] h = omega arith
end_within low high (suc i) [] h = omega arith
end_within low high zero (n ∷ ns) h = low_within n high ns h.1
end_within low high (suc i) (n ∷ ns) h = end_within n high i ns h.1

-- where there is one behind it, and where there is none
pub end_next : (blocks next : ℕ) (begins : List ℕ) → next < length begins → end_among blocks (drop next begins) ≡ get_or begins next 0
end_next blocks next begins h = ap (end_among blocks) (drop_more begins next 0 h)

pub end_last : (blocks next : ℕ) (begins : List ℕ) → length begins ≤ next → end_among blocks (drop next begins) ≡ blocks
end_last blocks next begins h = ap (end_among blocks) (drop_all next begins h)

-- the lines of the files from a place on
module _ {V : Type 0} (see : V → Bytes) (path : Bytes) (zones : Zones) (names : List V) (begins : List ℕ) where
  pub parts_step : (i : ℕ) (name : V) → i < length names → length begins ≡ length names → get_or names i name ≡ name
      → part_lines path zones (map see (drop i names)) (drop i begins)
      ≡ block_lines (path ++ see name) zones.stats (get_or begins i 0)
      (lengths_between (get_or begins i 0) (end_among (length zones.lengths) (drop (i + 1) begins)) zones.lengths)
      ++ part_lines path zones (map see (drop (i + 1) names)) (drop (i + 1) begins)
  parts_step i name h paired e =
      let there : i < length begins = omega (arith, h, paired) in
      let begin = get_or begins i 0 in
      let rest = drop (i + 1) begins in
      ap (λ vs. part_lines path zones (map see vs) (drop i begins)) (drop_more names i name h)
      ∙ ap (λ bs. part_lines path zones (map see (get_or names i name ∷ drop (i + 1) names)) bs) (drop_more begins i 0 there)
      ∙ ap (λ v. block_lines (path ++ see v) zones.stats begin (lengths_between begin (end_among (length zones.lengths) rest) zones.lengths)
      ++ part_lines path zones (map see (drop (i + 1) names)) rest) e

  pub parts_end : (i : ℕ) → length names ≤ i → part_lines path zones (map see (drop i names)) (drop i begins) ≡ []
  parts_end i le = ap (λ vs. part_lines path zones (map see vs) (drop i begins)) (drop_all i names le)

-- what was written before, and its parts behind it, with what is left behind them
pub written_two : (b c d x y left whole : Bytes) → c ≡ b ++ x → d ≡ c ++ y → b ++ (x ++ (y ++ left)) ≡ whole → d ++ left ≡ whole
written_two b c d x y left whole p q e =
    ap (λ (z : Bytes). z ++ left) (q ∙ ap (λ (z : Bytes). z ++ y) p) ∙ append_assoc (b ++ x) y left ∙ append_assoc b x (y ++ left) ∙ e

pub written_four : (b c d f g x y z w left whole : Bytes) → c ≡ b ++ x → d ≡ c ++ y → f ≡ d ++ z → g ≡ f ++ w → b ++ (x ++ (y ++ (z ++ (w ++ left)))) ≡ whole → g ++ left ≡ whole
written_four b c d f g x y z w left whole p q r s e =
    written_two d f g z w left whole r s (written_two b c d x y (z ++ (w ++ left)) whole p q e)

-- at the end nothing is left
pub written_all : (now left whole : Bytes) → left ≡ [] → now ++ left ≡ whole → now ≡ whole
written_all now left whole none e = sym (append-nil now) ∙ ap (λ (z : Bytes). now ++ z) (sym none) ∙ e

pub written_five_end : (a b c d e f p q r s t : Bytes) → b ≡ a ++ p → c ≡ b ++ q → d ≡ c ++ r → e ≡ d ++ s → f ≡ e ++ t → f ≡ a ++ (p ++ (q ++ (r ++ (s ++ t))))
written_five_end a b c d e f p q r s t u v w x y =
    y ∙ ap (λ (z : Bytes). z ++ t) (x ∙ ap (λ (z : Bytes). z ++ s) (w ∙ ap (λ (z : Bytes). z ++ r) (v ∙ ap (λ (z : Bytes). z ++ q) u)))
    ∙ append_assoc (((a ++ p) ++ q) ++ r) s t ∙ append_assoc ((a ++ p) ++ q) r (s ++ t) ∙ append_assoc (a ++ p) q (r ++ (s ++ t)) ∙ append_assoc a p (q ++ (r ++ (s ++ t)))
