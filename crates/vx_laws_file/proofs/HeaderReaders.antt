-- A header is read where one stands, and so bytes are opened or refused.
use Rattle.std.proofs.Common.{cond, Ok, Err, ◌≡◌, refl, sym, ap, ◌∙◌, subst, append_assoc, append-nil, ℕ, Bool, true, false, true≢false, eqb, Option, Some, None, List, [], ◌∷◌, ◌++◌, length, take, drop}
use Rattle.std.specs.List.{flat_map}
use Rattle.std.specs.Str.{bytes_eq}
use Rattle.std.proofs.lemmas.Bool.{eqb-true, eqb-false}
use Rattle.std.proofs.lemmas.List.{append_cancel_left, take_at, take-append-drop}
use Rattle.std.proofs.lemmas.Option.{none-some}
use Rattle.std.proofs.lemmas.Slice.Eq.{bytes_eq-Decides}
use Rattle.vx_dtype.specs.Types.{Bytes, Fields}
use Rattle.vx_dtype.specs.TypeRules.{field_names}
use Rattle.vx_semantics.specs.Tables.{ZoneStat}
use Rattle.vx_zones.specs.declared.errors.ZoneError.{ZoneError}
use Rattle.vx_zones.specs.Zoning.{broken_rule}
use Rattle.vx_wire_bytes.specs.Numbers.{number_bytes, piece_bytes}
use Rattle.vx_wire_bytes.specs.Fields.{IsShort}
use Rattle.vx_wire_bytes.specs.Reading.{◌>>=◌, piece_at}
use Rattle.vx_wire_bytes.proofs.NumberLemmas.{IsBytes, bind_some, some_is, Takes, Takes-then}
use Rattle.vx_wire_bytes.proofs.HeadLemmas.{piece_again, piece_takes}
use Rattle.vx_laws_file.specs.FileForms.{mark, counted_bytes, statistic_bytes, IsStatistic, Header, lengths_bytes, header_bytes, IsHeader}
use Rattle.vx_laws_file.specs.Opening.{HasHeader, bad_magic, bad_end, all_lengths, content_with}
use Rattle.vx_laws_file.specs.HeaderReading.{counted_with, columns_at, statistic_at, lengths_at, range_lengths_at, header_with, header_at, with_nothing_left, front_at}
use Rattle.vx_laws_file.specs.FileReading.{opened_with, opened_behind, opened_of, IsFileAnswer}
use Rattle.vx_laws_file.specs.FileLaws.{AnswerIsComputed}
use Rattle.vx_laws_file.proofs.Lists.{bytes_behind, bytes_before}
use Rattle.vx_laws_file.proofs.Headers.{small_each, ranges_part, statistics_part, blocks_part}
use Rattle.vx_laws_file.proofs.Readers.{IsReader, columns_bytes, columns_reader, lengths_reader, statistic_reader, counted_reader, range_lengths_reader}
use Rattle.vx_laws_file.proofs.Openings.{header_and_end_open}

-- ---- a header

-- what is left to read behind the columns, and behind the lengths, and behind the statistics
header_of_ranges : Fields → List ℕ → List ZoneStat → List (List ℕ) × Bytes → Option (Header × Bytes)
header_of_ranges columns lengths stats rs = Some (header_with columns lengths stats rs.0, rs.1)

behind_statistics : Fields → List ℕ → List ZoneStat × Bytes → Option (Header × Bytes)
behind_statistics columns lengths zs = range_lengths_at (length lengths) (length (field_names columns)) zs.1 >>= header_of_ranges columns lengths zs.0

behind_lengths : Fields → List ℕ × Bytes → Option (Header × Bytes)
behind_lengths columns ns = counted_with (statistic_at columns ns.0) ns.1 >>= behind_statistics columns ns.0

behind_columns : Fields × Bytes → Option (Header × Bytes)
behind_columns c = lengths_at c.1 >>= behind_lengths c.0

header_steps : (bytes : Bytes) → header_at bytes ≡ (columns_at bytes >>= behind_columns)
unfolding header_at behind_columns behind_lengths behind_statistics header_of_ranges
header_steps bytes = refl

header_again : (h : Header) (rest : Bytes) → IsHeader h → header_at (header_bytes h ++ rest) ≡ Some (h, rest)
unfolding behind_columns behind_lengths behind_statistics header_of_ranges
header_again h rest p =
    let columns = h.zones.columns in
    let lengths = h.zones.lengths in
    let stats = h.zones.stats in
    let ranges = ranges_part h ++ rest in
    let statistics = counted_bytes statistic_bytes stats ++ ranges in
    let blocks = counted_bytes number_bytes lengths ++ statistics in
    let regrouped : header_bytes h ++ rest ≡ columns_bytes columns ++ blocks =
    append_assoc (columns_bytes columns) (blocks_part h) rest
    ∙ ap (λ (b : Bytes). columns_bytes columns ++ b) (append_assoc (counted_bytes number_bytes lengths) (statistics_part h) rest)
    ∙ ap (λ (b : Bytes). columns_bytes columns ++ (counted_bytes number_bytes lengths ++ b)) (append_assoc (counted_bytes statistic_bytes stats) (ranges_part h) rest) in
    let width = length (field_names columns) in
    header_steps (header_bytes h ++ rest)
    ∙ ap (λ b. columns_at b >>= behind_columns) regrouped
    ∙ ap (λ o. o >>= behind_columns) (columns_reader.again columns blocks (p.names, p.shallow))
    ∙ ap (λ o. o >>= behind_lengths columns) (lengths_reader.again lengths statistics (record { counted = (p.number_of_blocks, small_each lengths p.rows); rows = p.rows }))
    ∙ ap (λ o. o >>= behind_statistics columns lengths)
    ((counted_reader statistic_bytes (IsStatistic columns lengths) (statistic_at columns lengths) (statistic_reader columns lengths)).again stats ranges p.statistics)
    ∙ ap (λ o. o >>= header_of_ranges columns lengths stats) ((range_lengths_reader (length lengths) width).again h.range_lengths rest (p.each_block, p.each_range))

header_takes : (bytes : Bytes) (x : Header × Bytes) → IsBytes bytes → header_at bytes ≡ Some x → Takes bytes (header_bytes x.0) x.1 × IsHeader x.0
unfolding behind_columns behind_lengths behind_statistics header_of_ranges
header_takes bytes x here e =
    let a = bind_some (columns_at bytes) behind_columns x (sym (header_steps bytes) ∙ e) in
    let columns = columns_reader.takes bytes a.0 here a.1 in
    let b = bind_some (lengths_at a.0.1) (behind_lengths a.0.0) x a.2 in
    let lengths = lengths_reader.takes a.0.1 b.0 columns.0.fits b.1 in
    let c = bind_some (counted_with (statistic_at a.0.0 b.0.0) b.0.1) (behind_statistics a.0.0 b.0.0) x b.2 in
    let stats = (counted_reader statistic_bytes (IsStatistic a.0.0 b.0.0) (statistic_at a.0.0 b.0.0) (statistic_reader a.0.0 b.0.0)).takes b.0.1 c.0 lengths.0.fits c.1 in
    let d = bind_some (range_lengths_at (length b.0.0) (length (field_names a.0.0)) c.0.1) (header_of_ranges a.0.0 b.0.0 c.0.0) x c.2 in
    let ranges = (range_lengths_reader (length b.0.0) (length (field_names a.0.0))).takes c.0.1 d.0 stats.0.fits d.1 in
    let made : Header × Bytes = (header_with a.0.0 b.0.0 c.0.0 d.0.0, d.0.1) in
    let last = Takes-then b.0.1 (counted_bytes statistic_bytes c.0.0) c.0.1 (flat_map lengths_bytes d.0.0) d.0.1 stats.0 ranges.0 in
    let middle = Takes-then a.0.1 (counted_bytes number_bytes b.0.0) b.0.1 (counted_bytes statistic_bytes c.0.0 ++ flat_map lengths_bytes d.0.0) d.0.1 lengths.0 last in
    let whole = Takes-then bytes (columns_bytes a.0.0) a.0.1 (counted_bytes number_bytes b.0.0 ++ (counted_bytes statistic_bytes c.0.0 ++ flat_map lengths_bytes d.0.0)) d.0.1 columns.0 middle in
    subst (λ (y : Header × Bytes). Takes bytes (header_bytes y.0) y.1 × IsHeader y.0) (some_is made x d.2) (
      whole,
      record {
        names = columns.1.0;
        shallow = columns.1.1;
        number_of_blocks = lengths.1.counted.0;
        rows = lengths.1.rows;
        statistics = stats.1;
        each_block = ranges.1.0;
        each_range = ranges.1.1;
      },
    )

pub header_reader : IsReader header_bytes IsHeader header_at
header_reader = record { again = header_again; takes = header_takes }

-- ---- a header behind the mark

-- where one stands there, it is the piece there
its_piece : (bytes behind : Bytes) (h : Header) (rest : Bytes) → bytes ≡ mark ++ behind → HasHeader bytes h rest → piece_at behind ≡ Some (header_bytes h, rest)
its_piece bytes behind h rest e p =
    let same : behind ≡ piece_bytes (header_bytes h) ++ rest =
    append_cancel_left mark behind (piece_bytes (header_bytes h) ++ rest) (sym e ∙ p.stands ∙ append_assoc mark (piece_bytes (header_bytes h)) rest) in
    ap piece_at same ∙ piece_again (header_bytes h) rest p.short

pub front_again : (bytes behind : Bytes) (h : Header) (rest : Bytes) → bytes ≡ mark ++ behind → HasHeader bytes h rest → front_at behind ≡ Some (h, rest)
unfolding front_at
front_again bytes behind h rest e p =
    ap (λ o. o >>= λ piece. header_at piece.0 >>= λ g. with_nothing_left g.0 piece.1 g.1) (its_piece bytes behind h rest e p)
    ∙ ap (λ o. o >>= λ g. with_nothing_left g.0 rest g.1) (ap header_at (sym (append-nil (header_bytes h))) ∙ header_again h [] p.header)

nothing_left : (h : Header) (rest left : Bytes) (x : Header × Bytes) → with_nothing_left h rest left ≡ Some x → (left ≡ []) × (◌≡◌ {A = Header × Bytes} (h, rest) x)
nothing_left h rest [] x e = (refl, some_is (h, rest) x e)
nothing_left h rest (b ∷ left) x e = absurd (none-some x e)

pub front_takes : (behind : Bytes) (x : Header × Bytes) → IsBytes behind → front_at behind ≡ Some x → HasHeader (mark ++ behind) x.0 x.1
unfolding front_at
front_takes behind x here e =
    let a = bind_some (piece_at behind) (λ piece. header_at piece.0 >>= λ g. with_nothing_left g.0 piece.1 g.1) x e in
    let piece = piece_takes behind a.0 here a.1 in
    let own = bytes_behind (number_bytes (length a.0.0)) a.0.0 (bytes_before (piece_bytes a.0.0) a.0.1 (subst IsBytes piece.0.parts here)) in
    let b = bind_some (header_at a.0.0) (λ g. with_nothing_left g.0 a.0.1 g.1) x a.2 in
    let taken = header_takes a.0.0 b.0 own b.1 in
    let left = nothing_left b.0.0 a.0.1 b.0.1 x b.2 in
    let h = b.0.0 in
    let same : a.0.0 ≡ header_bytes h = taken.0.parts ∙ ap (λ (r : Bytes). header_bytes h ++ r) left.0 ∙ append-nil (header_bytes h) in
    let stands : behind ≡ piece_bytes (header_bytes h) ++ a.0.1 = piece.0.parts ∙ ap (λ (p : Bytes). piece_bytes p ++ a.0.1) same in
    let found : HasHeader (mark ++ behind) h a.0.1 = record {
      header = taken.1;
      short = subst IsShort same piece.1;
      stands = ap (λ (b : Bytes). mark ++ b) stands ∙ sym (append_assoc mark (piece_bytes (header_bytes h)) a.0.1);
    } in
    subst (λ (y : Header × Bytes). HasHeader (mark ++ behind) y.0 y.1) left.1 found

-- ---- opened or refused

by_end : (bytes : Bytes) (h : Header) (rest : Bytes) → HasHeader bytes h rest → broken_rule h.zones ≡ None → (b : Bool) → eqb (length rest) (all_lengths h) ≡ b
    → IsFileAnswer bytes (cond b (Ok (content_with h rest)) (Err bad_end))
by_end bytes h rest p rules true e = header_and_end_open bytes h rest p rules (eqb-true (length rest) (all_lengths h) e)
by_end bytes h rest p rules false e = (h, rest, p, rules, eqb-false (length rest) (all_lengths h) e)

by_rule : (bytes : Bytes) (h : Header) (rest : Bytes) → HasHeader bytes h rest → (o : Option ZoneError) → broken_rule h.zones ≡ o → IsFileAnswer bytes (opened_with h rest o)
by_rule bytes h rest p None e = by_end bytes h rest p e (eqb (length rest) (all_lengths h)) refl
by_rule bytes h rest p (Some error) e = (h, rest, p, e)

by_front : (bytes behind : Bytes) → bytes ≡ mark ++ behind → IsBytes behind → (o : Option (Header × Bytes)) → front_at behind ≡ o → IsFileAnswer bytes (opened_behind o)
by_front bytes behind whole here None e = ((behind, whole), λ h rest p. none-some (h, rest) (sym e ∙ front_again bytes behind h rest whole p))
by_front bytes behind whole here (Some x) e =
    by_rule bytes x.0 x.1 (subst (λ (b : Bytes). HasHeader b x.0 x.1) (sym whole) (front_takes behind x here e)) (broken_rule x.0.zones) refl

by_mark : (bytes : Bytes) → IsBytes bytes → (b : Bool) → bytes_eq (take (length mark) bytes) mark ≡ b
    → IsFileAnswer bytes (cond b (opened_behind (front_at (drop (length mark) bytes))) (Err bad_magic))
by_mark bytes here true e =
    let behind = drop (length mark) bytes in
    let same : take (length mark) bytes ≡ mark = (bytes_eq-Decides (take (length mark) bytes) mark).0 e in
    let whole : bytes ≡ mark ++ behind = sym (take-append-drop (length mark) bytes) ∙ ap (λ (f : Bytes). f ++ behind) same in
    by_front bytes behind whole (bytes_behind mark behind (subst IsBytes whole here)) (front_at behind) refl
by_mark bytes here false e = λ m.
    let same : take (length mark) bytes ≡ mark = ap (take (length mark)) m.1 ∙ take_at mark m.0 (length mark) refl in
    true≢false (sym ((bytes_eq-Decides (take (length mark) bytes) mark).1 same) ∙ e)

pub answer_is_computed : AnswerIsComputed
unfolding opened_of
answer_is_computed bytes here = by_mark bytes here (bytes_eq (take (length mark) bytes) mark) refl
