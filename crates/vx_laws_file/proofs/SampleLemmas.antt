-- The premises of the laws of files, met by examples; and bytes that are refused.
use Rattle.std.proofs.Common.{sym, ◌≤◌, zero, suc, ltb, true≢false, ◌≡◌, refl, ap, ℕ, ◌<◌, ◌^◌, List, [], ◌∷◌, get_or, length, true, encode_utf8_all, arith}
use Rattle.std.specs.Prelude.{codes, ◌++◌}
use Rattle.std.specs.List.{list_all}
use Rattle.std.proofs.lemmas.Bool.{and_parts, ltb-true}
use Rattle.std.proofs.lemmas.Option.{none-some}
use Rattle.std.proofs.lemmas.Str.{is_utf8-from_IsUtf8}
use lib.Utf8.{scalars, encode}
use Rattle.vx_dtype.specs.Types.{Bytes}
use Rattle.vx_zones.specs.declared.errors.ZoneError.TheVariants.{DuplicateName}
use Rattle.vx_wire_bytes.specs.Fields.{IsText}
use Rattle.vx_laws_file.specs.FileForms.{IsHeader, header_of, content_of}
use Rattle.vx_laws_file.specs.Opening.{IsOpened, bad_magic, bad_header, bad_zones, bad_end, IsRefusedFile}
use Rattle.vx_laws_file.specs.Ranges.{IsDamaged}
use Rattle.vx_laws_file.specs.HeldTables.{held_blocks}
use Rattle.vx_laws_file.specs.Lengths.{HasFile}
use Rattle.vx_laws_file.specs.FileLaws.{AreBytes}
use Rattle.vx_laws_file.specs.FileSamples.{headless_file, header_of_rows, header_of_lists, number, first_zones, first_blocks, first_file, first_range, without_mark, cut_file, spoilt_range, spoilt_content, doubled_header, doubled_file, kinds_zones, kinds_blocks, kinds_file}
use Rattle.vx_laws_file.proofs.Computing.{all_forms}
use Rattle.vx_laws_file.proofs.HeaderReaders.{answer_is_computed}
use Rattle.vx_laws_file.proofs.WrittenLemmas.{written_header, written_is_opened, written_is_held}
use Rattle.vx_laws_file.proofs.RangeLemmas.{values_read}

-- a text of these characters
text_of : (cs : List ℕ) (text : Bytes) → scalars cs ≡ true → encode_utf8_all cs ≡ text → length text < 2 ^ 32 → IsText text
text_of cs text p q few = record { utf8 = is_utf8-from_IsUtf8 text (cs, (p, q)); short = few }

x_is_text : IsText (codes "x")
unfolding encode
x_is_text = text_of (codes "x") (codes "x") refl refl (omega arith)

pub first_has_file : HasFile first_zones first_blocks
unfolding all_forms
first_has_file = record {
  rules = refl;
  statistics_fit = refl;
  table = refl;
  cells_fit = refl;
  parts = record {
    names = (omega arith, (x_is_text, tt, tt));
    number_of_blocks = omega arith;
    statistics = (omega arith, tt);
    values = (((tt, (tt, tt)), tt), (((tt, tt), tt), tt));
    rows = omega arith;
    ranges = ((omega arith, tt), ((omega arith, tt), tt));
    header = omega arith;
  };
}

pub first_is_opened : IsOpened first_file (content_of first_zones first_blocks)
unfolding all_forms
first_is_opened = written_is_opened first_zones first_blocks first_has_file

-- the texts in the table of each kind
e_acute_is_text : IsText (0xc3 ∷ 0xa9 ∷ [])
unfolding encode
e_acute_is_text = text_of (233 ∷ []) (0xc3 ∷ 0xa9 ∷ []) refl refl (omega arith)

empty_is_text : IsText []
empty_is_text = text_of [] [] refl refl (omega arith)

b_is_text : IsText (codes "b")
unfolding encode
b_is_text = text_of (codes "b") (codes "b") refl refl (omega arith)

n_is_text : IsText (codes "n")
unfolding encode
n_is_text = text_of (codes "n") (codes "n") refl refl (omega arith)

s_is_text : IsText (codes "s")
unfolding encode
s_is_text = text_of (codes "s") (codes "s") refl refl (omega arith)

l_is_text : IsText (codes "l")
unfolding encode
l_is_text = text_of (codes "l") (codes "l") refl refl (omega arith)

t_is_text : IsText (codes "t")
unfolding encode
t_is_text = text_of (codes "t") (codes "t") refl refl (omega arith)

p_is_text : IsText (codes "p")
unfolding encode
p_is_text = text_of (codes "p") (codes "p") refl refl (omega arith)

pub kinds_have_file : HasFile kinds_zones kinds_blocks
unfolding all_forms
kinds_have_file = record {
  rules = refl;
  statistics_fit = refl;
  table = refl;
  cells_fit = refl;
  parts = record {
    names = (omega arith, (b_is_text, tt, (n_is_text, tt, (s_is_text, tt, (l_is_text, tt, (t_is_text, (omega arith, (p_is_text, tt, tt)), tt))))));
    number_of_blocks = omega arith;
    statistics = (
      omega arith,
      (
        ((omega arith, (n_is_text, tt)), (tt, (tt, (tt, tt)))),
        (
          ((omega arith, (t_is_text, (p_is_text, tt))), (tt, (tt, (tt, tt)))),
          (((omega arith, (s_is_text, tt)), (e_acute_is_text, (tt, (empty_is_text, tt)))), tt),
        ),
      ),
    );
    values = (
      (
        (tt, (tt, tt)),
        ((tt, (tt, tt)), ((e_acute_is_text, (tt, tt)), (((omega arith, (tt, (tt, tt))), ((omega arith, tt), tt)), (((tt, tt), (tt, tt)), tt)))),
      ),
      (
        (tt, (tt, (tt, (tt, (tt, tt))))),
        (((tt, tt), ((tt, tt), ((empty_is_text, tt), (((omega arith, (tt, tt)), tt), (((tt, tt), tt), tt))))), tt),
      ),
    );
    rows = omega arith;
    ranges = (
      (omega arith, (omega arith, (omega arith, (omega arith, (omega arith, tt))))),
      (
        (omega arith, (omega arith, (omega arith, (omega arith, (omega arith, tt))))),
        ((omega arith, (omega arith, (omega arith, (omega arith, (omega arith, tt))))), tt),
      ),
    );
    header = omega arith;
  };
}

pub kinds_are_opened : IsOpened kinds_file (content_of kinds_zones kinds_blocks)
unfolding all_forms
kinds_are_opened = written_is_opened kinds_zones kinds_blocks kinds_have_file

pub kinds_are_held : held_blocks (content_of kinds_zones kinds_blocks) ≡ kinds_blocks
kinds_are_held = written_is_held kinds_zones kinds_blocks kinds_have_file

-- ---- bytes that are refused

pub mark_is_missing : IsRefusedFile without_mark bad_magic
mark_is_missing m = let first = ap (λ (bytes : Bytes). get_or bytes 0 0) m.1 in absurd (omega (arith, first))

pub end_is_missing : IsRefusedFile cut_file bad_end
unfolding all_forms
end_is_missing = (
  header_of (content_of first_zones first_blocks),
  first_range ++ 0x01 ∷ 0x14 ∷ 0x00 ∷ 0x00 ∷ [],
  record { header = written_header first_zones first_blocks first_has_file; short = first_has_file.parts.header; stands = refl },
  refl,
  λ e. absurd (omega (arith, e)),
)

doubled_is_header : IsHeader doubled_header
unfolding all_forms
doubled_is_header = record {
  names = (omega arith, (x_is_text, tt, (x_is_text, tt, tt)));
  shallow = refl;
  number_of_blocks = omega arith;
  rows = omega arith;
  statistics = (omega arith, tt);
  each_block = refl;
  each_range = tt;
}

pub name_is_doubled : IsRefusedFile doubled_file (bad_zones DuplicateName)
unfolding all_forms
name_is_doubled = (doubled_header, [], record { header = doubled_is_header; short = omega arith; stands = refl }, refl)

are_bytes : (bytes : Bytes) → list_all (λ b. ltb b 256) bytes ≡ true → AreBytes bytes
are_bytes [] h i = omega arith
are_bytes (b ∷ bytes) h zero = ltb-true b 256 (and_parts (ltb b 256) (list_all (λ c. ltb c 256) bytes) h).0
are_bytes (b ∷ bytes) h (suc i) = are_bytes bytes (and_parts (ltb b 256) (list_all (λ c. ltb c 256) bytes) h).1 i

pub header_is_missing : IsRefusedFile headless_file bad_header
unfolding all_forms
header_is_missing = answer_is_computed headless_file (are_bytes headless_file refl)

-- ---- the limits of a header

pub most_rows_fit : IsHeader (header_of_rows 1048576)
unfolding all_forms
most_rows_fit = record {
  names = (omega arith, tt);
  shallow = refl;
  number_of_blocks = omega arith;
  rows = omega arith;
  statistics = (omega arith, tt);
  each_block = refl;
  each_range = ((refl, tt), tt);
}

pub more_rows_are_refused : ¬ (IsHeader (header_of_rows 1048577))
more_rows_are_refused h = let few : 1048577 ≤ 1048576 = h.rows in absurd (omega (arith, few))

pub deepest_type_fits : IsHeader (header_of_lists 63)
unfolding all_forms
deepest_type_fits = record {
  names = (omega arith, (x_is_text, tt, tt));
  shallow = refl;
  number_of_blocks = omega arith;
  rows = omega arith;
  statistics = (omega arith, tt);
  each_block = refl;
  each_range = tt;
}

pub deeper_type_is_refused : ¬ (IsHeader (header_of_lists 64))
unfolding all_forms
deeper_type_is_refused h = true≢false (sym h.shallow)

-- ---- a range that is damaged

pub range_is_damaged : IsDamaged spoilt_content 1 (codes "x")
unfolding all_forms
range_is_damaged = (number, 1, spoilt_range, record { number = refl; ty = refl; stands = refl }, λ values p. none-some values (values_read number 1 spoilt_range values p))
