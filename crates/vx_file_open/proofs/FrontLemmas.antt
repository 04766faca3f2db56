-- The mark, the number and the header at the front of a source, read piece by piece.
use Rattle.std.proofs.Common.{◌≡◌, refl, sym, ap, ◌∙◌, subst, append_assoc, ℕ, suc, ◌+◌, ◌-◌, ◌<◌, ◌^◌, Bool, Option, Some, None, [], ◌∷◌, ◌++◌, length, take, drop, arith, length-append}
use Rattle.std.specs.Prelude.{Decides}
use Rattle.std.specs.Str.{bytes_eq}
use Rattle.std.proofs.lemmas.Slice.Eq.{bytes_eq-Decides}
use Rattle.std.proofs.lemmas.List.{take_at, drop_at, drop-drop, take-append-drop}
use Rattle.vx_dtype.specs.Types.{Bytes}
use Rattle.vx_wire_bytes.specs.Fields.{IsNumber, IsFieldAt}
use Rattle.vx_wire_bytes.specs.Numbers.{number_bytes, piece_bytes}
use Rattle.vx_wire.proofs.FieldLemmas.{number_free}
use Rattle.vx_laws_file.specs.FileForms.{mark, Header, header_bytes}
use Rattle.vx_laws_file.specs.Opening.{HasMark, HasHeader}
use Rattle.vx_file_bytes.specs.ReadingAnswers.{IsHeaderRead}
use Rattle.vx_file_ranges.specs.Places.{IsPieceAt}
use Rattle.vx_file_open.specs.Layouts.{WhereBytes}
use Rattle.vx_file_open.specs.OpenAnswers.{IsNumberAt, IsNumberFound, NumberStands, IsFront, FrontStands}
use Rattle.vx_file_open.proofs.Lengths.{number_length}

-- ---- the mark

by_mark : (told : Option Bytes) (piece : Bytes) (same : Bool) → IsPieceAt told 0 8 piece → Decides same (piece ≡ mark) → WhereBytes told (λ bytes. Decides same (HasMark bytes))
by_mark None piece same p d = tt
by_mark (Some bytes) piece same p d = (
  λ e. (drop 8 bytes, sym (take-append-drop 8 bytes) ∙ ap (λ (b : Bytes). b ++ drop 8 bytes) (sym p ∙ d.0 e)),
  λ h. d.1 (p ∙ ap (take 8) h.1 ∙ take_at mark h.0 8 refl),
)

pub mark_decides : (told : Option Bytes) (piece a b : Bytes) (same : Bool) → IsPieceAt told 0 8 piece → a ≡ piece → b ≡ mark → same ≡ bytes_eq a b
    → WhereBytes told (λ bytes. Decides same (HasMark bytes))
mark_decides told piece a b same p left right is =
    by_mark told piece same p (subst (λ c. Decides c (piece ≡ mark)) (sym (is ∙ (λ i. bytes_eq (left i) (right i)))) (bytes_eq-Decides piece mark))

-- ---- the number behind it

-- bytes of which the first ones are known
take_past : (xs ys : Bytes) (k : ℕ) → take (length xs + k) (xs ++ ys) ≡ xs ++ take k ys
take_past [] ys k = let none : 0 + k ≡ k = omega arith in ap (λ j. take j ys) none
take_past (x ∷ xs) ys k =
    let next : suc (length xs) + k ≡ suc (length xs + k) = omega arith in
    ap (λ j. take j (x ∷ (xs ++ ys))) next ∙ ap (λ (b : Bytes). x ∷ b) (take_past xs ys k)

pub number_stands : (told : Option Bytes) (piece : Bytes) (n after : ℕ) → IsPieceAt told 8 5 piece → IsFieldAt number_bytes IsNumber piece 0 (Some (n, after))
    → WhereBytes told (NumberStands (Some (n, 8 + after)))
number_stands None piece n after p f = tt
number_stands (Some bytes) piece n after p f =
    let behind = drop 8 bytes in
    let rest = drop after piece ++ drop 5 behind in
    let whole : behind ≡ number_bytes n ++ rest =
    sym (take-append-drop 5 behind) ∙ ap (λ (b : Bytes). b ++ drop 5 behind) (sym p ∙ f.1.stands) ∙ append_assoc (number_bytes n) (drop after piece) (drop 5 behind) in
    let there : drop after behind ≡ rest = ap (drop after) whole ∙ drop_at (number_bytes n) rest after (omega (arith, f.1.ends)) in
    whole ∙ ap (λ (b : Bytes). number_bytes n ++ b) (sym there ∙ drop-drop after 8 bytes)

pub no_number_stands : (told : Option Bytes) (piece : Bytes) → IsPieceAt told 8 5 piece → IsFieldAt number_bytes IsNumber piece 0 None → WhereBytes told (NumberStands None)
no_number_stands None piece p none = tt
no_number_stands (Some bytes) piece p none =
    λ n rest number e.
    let left = 5 - length (number_bytes n) in
    let whole : 5 ≡ length (number_bytes n) + left = omega (arith, number_length n) in
    none n (take left rest) number (p ∙ ap (take 5) e ∙ ap (λ k. take k (number_bytes n ++ rest)) whole ∙ take_past (number_bytes n) rest left)

pub number_at_is : (found : Option (ℕ × ℕ)) (n place : ℕ) → found ≡ Some (n, place) → IsNumberFound found → IsNumberAt n place
number_at_is found n place e h = subst IsNumberFound e h

pub number_there : (told : Option Bytes) (found : Option (ℕ × ℕ)) (n place : ℕ) → found ≡ Some (n, place) → WhereBytes told (NumberStands found) → WhereBytes told (NumberStands (Some (n, place)))
number_there told found n place e h = subst (λ o. WhereBytes told (NumberStands o)) e h

-- the place behind the header is a place
pub place_small : (n place : ℕ) → IsNumberAt n place → place + n < 2 ^ 64
place_small n place h = omega (arith, h.number, h.ends, number_length n)

-- ---- the header

-- a header that stands there is behind that number
pub header_behind : (bytes : Bytes) (h : Header) (rest : Bytes) (n place : ℕ) → IsNumber n → drop 8 bytes ≡ number_bytes n ++ drop place bytes → HasHeader bytes h rest
    → (n ≡ length (header_bytes h)) × (drop place bytes ≡ header_bytes h ++ rest)
header_behind bytes h rest n place number e p =
    let len = length (header_bytes h) in
    let parts : bytes ≡ mark ++ (number_bytes len ++ (header_bytes h ++ rest)) =
    p.stands ∙ append_assoc mark (piece_bytes (header_bytes h)) rest ∙ ap (λ (b : Bytes). mark ++ b) (append_assoc (number_bytes len) (header_bytes h) rest) in
    let behind : drop 8 bytes ≡ number_bytes len ++ (header_bytes h ++ rest) = ap (drop 8) parts ∙ drop_at mark (number_bytes len ++ (header_bytes h ++ rest)) 8 refl in
    number_free n len (drop place bytes) (header_bytes h ++ rest) number p.short (sym e ∙ behind)

-- a piece that is shorter than the number is no header
pub short_is_none : (told : Option Bytes) (n place : ℕ) (piece : Bytes) → IsNumberAt n place → WhereBytes told (NumberStands (Some (n, place))) → IsPieceAt told place n piece → length piece < n
    → WhereBytes told (λ bytes. HasMark bytes → FrontStands None bytes)
short_is_none None n place piece a s p short = tt
short_is_none (Some bytes) n place piece a s p short =
    λ m h rest x.
    let there = header_behind bytes h rest n place a.number s x in
    let same : piece ≡ header_bytes h = p ∙ ap (take n) there.1 ∙ take_at (header_bytes h) rest n (sym there.0) in
    absurd (omega (arith, short, ap length same, there.0))

-- nor is one that spells none
pub unread_is_none : (told : Option Bytes) (n place : ℕ) (piece : Bytes) → IsNumberAt n place → WhereBytes told (NumberStands (Some (n, place))) → IsPieceAt told place n piece
    → IsHeaderRead piece None → WhereBytes told (λ bytes. HasMark bytes → FrontStands None bytes)
unread_is_none None n place piece a s p none = tt
unread_is_none (Some bytes) n place piece a s p none =
    λ m h rest x.
    let there = header_behind bytes h rest n place a.number s x in
    none h x.header (p ∙ ap (take n) there.1 ∙ take_at (header_bytes h) rest n (sym there.0))

-- a header that was read ends at the place behind its bytes
pub front_is : (n place : ℕ) (piece : Bytes) (h : Header) → IsNumberAt n place → IsHeaderRead piece (Some h) → length piece ≡ n → IsFront h (place + n)
front_is n place piece h a read whole =
    let same : n ≡ length (header_bytes h) = sym whole ∙ ap length read.1 in
    let number : number_bytes n ≡ number_bytes (length (header_bytes h)) = ap number_bytes same in
    let front = length-append mark (piece_bytes (header_bytes h)) in
    let behind = length-append (number_bytes (length (header_bytes h))) (header_bytes h) in
    record {
      header = read.0;
      short = subst IsNumber same a.number;
      ends = omega (arith, a.ends, ap length number, front, behind, same);
    }

-- and stands there
pub front_stands : (told : Option Bytes) (n place : ℕ) (piece : Bytes) (h : Header) → IsNumberAt n place → WhereBytes told (NumberStands (Some (n, place))) → IsPieceAt told place n piece
    → IsHeaderRead piece (Some h) → length piece ≡ n → WhereBytes told (λ bytes. HasMark bytes → FrontStands (Some (h, place + n)) bytes)
front_stands None n place piece h a s p read whole = tt
front_stands (Some bytes) n place piece h a s p read whole =
    λ m.
    let front = front_is n place piece h a read whole in
    let same : n ≡ length (header_bytes h) = sym whole ∙ ap length read.1 in
    let rest = drop (place + n) bytes in
    let behind : drop 8 bytes ≡ m.0 = ap (drop 8) m.1 ∙ drop_at mark m.0 8 refl in
    let header : drop place bytes ≡ header_bytes h ++ rest =
    sym (take-append-drop n (drop place bytes)) ∙ ap (λ (b : Bytes). b ++ drop n (drop place bytes)) (sym p ∙ read.1) ∙ ap (λ (b : Bytes). header_bytes h ++ b) (drop-drop n place bytes) in
    let numbered : m.0 ≡ number_bytes (length (header_bytes h)) ++ (header_bytes h ++ rest) =
    sym behind ∙ s ∙ ap (λ k. number_bytes k ++ drop place bytes) same ∙ ap (λ (b : Bytes). number_bytes (length (header_bytes h)) ++ b) header in
    record {
      header = front.header;
      short = front.short;
      stands =
          m.1 ∙ ap (λ (b : Bytes). mark ++ b) (numbered ∙ sym (append_assoc (number_bytes (length (header_bytes h))) (header_bytes h) rest))
          ∙ sym (append_assoc mark (piece_bytes (header_bytes h)) rest);
    }
