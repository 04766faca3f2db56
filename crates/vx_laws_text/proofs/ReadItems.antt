-- The tokens of a written item are read as the item.
use Rattle.std.proofs.Common.{◌≡◌, ℕ, zero, suc, ◌<◌, ◌≤◌, Bool, true, false, List, [], ◌∷◌, ◌++◌, refl, sym, ap, ◌∙◌, append_assoc, append-nil, Option, Some, None, arith, ℤ, pos, negsuc, decimal}
use Rattle.std.specs.Prelude.{option_map}
use Rattle.vx_dtype.specs.declared.PType.{PType}
use Rattle.vx_dtype.specs.Values.{Raw, raw_null, raw_bool, raw_int, raw_text, raw_list, raw_struct, Raws, no_raws, raw}
use Rattle.vx_dtype.specs.RawViews.{raws_of}
use Rattle.vx_tokens.specs.declared.tokens.Sign.{Sign}
use Rattle.vx_tokens.specs.declared.tokens.Sign.TheVariants as signs
use Rattle.vx_tokens.specs.declared.tokens.Token.{Token}
use Rattle.vx_tokens.specs.declared.tokens.Token.TheVariants.{Mark}
use Rattle.vx_tokens.specs.Tokens.{◌>>=◌}
use Rattle.vx_tokens.specs.Numbers.{signed, number_value}
use Rattle.vx_text.specs.NamedExpressions.{and_one}
use Rattle.vx_text.specs.Grammar.{Read, after, more_parts, parts, list_item, struct_item, item_with, item_at, item_front}
use Rattle.vx_laws_text.specs.WrittenTokens.{number_tokens, item_tokens, items_tokens}
use Rattle.vx_laws_text.proofs.Sizes.{item_size, items_size}
use Rattle.vx_laws_text.proofs.Decimals.{are_digits}
use Rattle.vx_laws_text.proofs.Ready.{IsShort, IsItem, AreItems}
use Rattle.vx_laws_text.proofs.ReadParts.{Closes, closes_square, closes_curly, after_comma, last_part, next_part, no_parts, some_parts}

-- the number of a written number, without its sign
pub natural_read : (n : ℕ) → IsShort (pos n) → number_value (decimal n) ≡ Some n
natural_read n short = (are_digits n short).value short

-- items, one behind the other
abbrev added : Option (List Raw) → Raws → Option (List Raw)
added so_far no_raws = so_far
added so_far (raw x xs) = added (and_one so_far (Some x)) xs

abbrev items_in : Raws → List Raw
items_in no_raws = []
items_in (raw x xs) = x ∷ items_in xs

added_all : (so_far : List Raw) (xs : Raws) → added (Some so_far) xs ≡ Some (so_far ++ items_in xs)
added_all so_far no_raws = ap Some (sym (append-nil so_far))
added_all so_far (raw x xs) = added_all (so_far ++ x ∷ []) xs ∙ ap Some (append_assoc so_far (x ∷ []) (items_in xs))

raws_again : (xs : Raws) → raws_of (items_in xs) ≡ xs
raws_again no_raws = refl
raws_again (raw x xs) = ap (raw x) (raws_again xs)

list_again : (xs : Raws) → list_item (added (Some []) xs) ≡ Some (raw_list xs)
list_again xs = ap list_item (added_all [] xs) ∙ ap (λ (ys : Raws). Some (raw_list ys)) (raws_again xs)

struct_again : (xs : Raws) → struct_item (added (Some []) xs) ≡ Some (raw_struct xs)
struct_again xs = ap struct_item (added_all [] xs) ∙ ap (λ (ys : Raws). Some (raw_struct ys)) (raws_again xs)

-- the first token of an item closes no list
record Opens (tokens : List Token) : Type 0 where
  square : after signs.SquareClose tokens ≡ None
  curly : after signs.CurlyClose tokens ≡ None

number_opens : (i : ℤ) (p : Option PType) (rest : List Token) → Opens (number_tokens i p rest)
unfolding after
number_opens (pos n) p rest = record { square = refl; curly = refl }
number_opens (negsuc n) p rest = record { square = refl; curly = refl }

truth_opens : (b : Bool) (rest : List Token) → Opens (item_tokens (raw_bool b) rest)
unfolding after item_tokens
truth_opens true rest = record { square = refl; curly = refl }
truth_opens false rest = record { square = refl; curly = refl }

item_opens : (x : Raw) (rest : List Token) → Opens (item_tokens x rest)
unfolding after item_tokens
item_opens raw_null rest = record { square = refl; curly = refl }
item_opens (raw_bool b) rest = truth_opens b rest
item_opens (raw_int i) rest = number_opens i None rest
item_opens (raw_text s) rest = record { square = refl; curly = refl }
item_opens (raw_list xs) rest = record { square = refl; curly = refl }
item_opens (raw_struct xs) rest = record { square = refl; curly = refl }

module _ (read : List Token → Read (Option Raw)) where
  truth_read : (b : Bool) (rest : List Token) → item_with read (item_tokens (raw_bool b) rest) ≡ Some (Some (raw_bool b), rest)
  unfolding item_tokens
  truth_read true rest = refl
  truth_read false rest = refl

  number_read : (i : ℤ) (rest : List Token) → IsShort i → item_with read (number_tokens i None rest) ≡ Some (Some (raw_int i), rest)
  number_read (pos n) rest short = ap (λ (o : Option ℕ). Some (option_map raw_int (option_map (signed false) o), rest)) (natural_read n short)
  number_read (negsuc n) rest short = ap (λ (o : Option ℕ). Some (option_map raw_int (option_map (signed true) o), rest)) (natural_read (suc n) short)

  list_read : (xs : Raws) (tokens rest : List Token) → parts read and_one (Some []) signs.SquareClose tokens ≡ Some (added (Some []) xs, rest)
      → item_with read (Mark signs.SquareOpen ∷ tokens) ≡ Some (Some (raw_list xs), rest)
  list_read xs tokens rest h = ap (λ r. r >>= λ ys. Some (list_item ys.0, ys.1)) h ∙ ap (λ (o : Option Raw). Some (o, rest)) (list_again xs)

  struct_read : (xs : Raws) (tokens rest : List Token) → parts read and_one (Some []) signs.CurlyClose tokens ≡ Some (added (Some []) xs, rest)
      → item_with read (Mark signs.CurlyOpen ∷ tokens) ≡ Some (Some (raw_struct xs), rest)
  struct_read xs tokens rest h = ap (λ r. r >>= λ ys. Some (struct_item ys.0, ys.1)) h ∙ ap (λ (o : Option Raw). Some (o, rest)) (struct_again xs)

-- how a list of items ends: its sign, which no item begins with
record Ending (close : Sign) : Type 0 where
  closes : (rest : List Token) → Closes close (Mark close ∷ rest) rest
  opens : (x : Raw) (rest : List Token) → after close (item_tokens x rest) ≡ None

in_square : Ending signs.SquareClose
in_square = record { closes = closes_square; opens = λ x rest. (item_opens x rest).square }

in_curly : Ending signs.CurlyClose
in_curly = record { closes = closes_curly; opens = λ x rest. (item_opens x rest).curly }

mutual
  unfolding item_at item_tokens item_size

  read_item : (x : Raw) (deep : ℕ) (rest : List Token) → IsItem x → item_size x ≤ deep → deep ≤ 4096 → item_at deep (item_tokens x rest) ≡ Some (Some x, rest)
  read_item raw_null zero rest k le most = absurd (omega arith)
  read_item raw_null (suc deep) rest k le most = refl
  read_item (raw_bool b) zero rest k le most = absurd (omega arith)
  read_item (raw_bool b) (suc deep) rest k le most = truth_read (item_at deep) b rest
  read_item (raw_int (pos n)) zero rest k le most = absurd (omega arith)
  read_item (raw_int (negsuc n)) zero rest k le most = absurd (omega arith)
  read_item (raw_int i) (suc deep) rest k le most = number_read (item_at deep) i rest k
  read_item (raw_text s) zero rest k le most = absurd (omega arith)
  read_item (raw_text s) (suc deep) rest k le most = refl
  read_item (raw_list xs) zero rest k le most = absurd (omega arith)
  read_item (raw_list xs) (suc deep) rest k le most = list_read (item_at deep) xs _ rest (read_items xs signs.SquareClose in_square deep rest k (omega arith) (omega arith))
  read_item (raw_struct xs) zero rest k le most = absurd (omega arith)
  read_item (raw_struct xs) (suc deep) rest k le most = struct_read (item_at deep) xs _ rest (read_items xs signs.CurlyClose in_curly deep rest k (omega arith) (omega arith))

  read_items : (xs : Raws) (close : Sign) → Ending close → (deep : ℕ) (rest : List Token) → AreItems xs → items_size 0 xs ≤ deep → deep < 4096
      → parts (item_at deep) and_one (Some []) close (items_tokens [] xs (Mark close ∷ rest)) ≡ Some (added (Some []) xs, rest)
  read_items no_raws close is deep rest k le most = no_parts (item_at deep) and_one (Some []) close _ rest (is.closes rest).closed_by
  read_items (raw x xs) close is deep rest k le most =
      some_parts (item_at deep) and_one (Some []) close _ (is.opens x _)
      ∙ read_more xs x close is deep 4095 (Some []) rest k.1 (read_item x deep _ k.0 (omega arith) (omega arith)) (omega arith) (omega arith) (omega arith)

  -- the items behind one that is read
  read_more : (xs : Raws) (x : Raw) (close : Sign) → Ending close → (deep n : ℕ) (so_far : Option (List Raw)) (rest : List Token) → AreItems xs
      → item_at deep (item_tokens x (items_tokens (Mark signs.Comma ∷ []) xs (Mark close ∷ rest))) ≡ Some (Some x, items_tokens (Mark signs.Comma ∷ []) xs (Mark close ∷ rest))
      → items_size 1 xs ≤ deep → deep ≤ 4096 → items_size 1 xs ≤ n
      → more_parts (item_at deep) and_one close (suc n) so_far (item_tokens x (items_tokens (Mark signs.Comma ∷ []) xs (Mark close ∷ rest))) ≡ Some (added (and_one so_far (Some x)) xs, rest)
  read_more no_raws x close is deep n so_far rest k h le most more = last_part (item_at deep) and_one close n so_far _ _ rest (Some x) h (is.closes rest)
  read_more (raw y xs) x close is deep zero so_far rest k h le most more = absurd (omega arith)
  read_more (raw y xs) x close is deep (suc n) so_far rest k h le most more =
      next_part (item_at deep) and_one close (suc n) so_far _ _ _ (Some x) h (after_comma _)
      ∙ read_more xs y close is deep n (and_one so_far (Some x)) rest k.1 (read_item y deep _ k.0 (omega arith) most) (omega arith) most (omega arith)

pub item_read : (x : Raw) (rest : List Token) → IsItem x → item_size x ≤ 4096 → item_front (item_tokens x rest) ≡ Some (Some x, rest)
item_read x rest k le = read_item x 4096 rest k le (omega arith)
