-- What the status of a run whose arguments ask the bytes of a query tells.
use Rattle.std.proofs.Common.{◌≡◌, ◌∙◌, sym, ap, subst, ℕ, length, ◌++◌, codes, Option, Some, Err, inl, inr, arith}
use Rattle.vx_dtype.specs.Types.{Bytes}
use Rattle.vx_expr.specs.Trees.{Tree}
use Rattle.vx_io.specs.Ends.{Added}
use Rattle.vx_scan.specs.Stores.{StoreSeen}
use Rattle.vx_text.specs.Reading.{reading_of}
use Rattle.vx_text.specs.declared.errors.TextError.{TextError}
use Rattle.vx_text.specs.declared.errors.TextError.TheVariants as texts
use Rattle.vx_query.specs.Refusals.{text_refusal_name, refusal_line}
use Rattle.vx_query.specs.Running.{End, text_form, Names, IsShallow, IsOverlong, HasDeepType, HasLongPart, HasBytes, bytes_line, IsRun}
use Rattle.vx_query.specs.Causes.{IsNamed, IsLongQuery}
use Rattle.vx_query.specs.Exactly.{RunsWell, EndsWith, QueriesEndSo}
use Rattle.vx_query.proofs.RefusalLemmas.{one_err, not_err, one_ok}
use Rattle.vx_query.proofs.LineLemmas.{one_text, told_name}
use Rattle.vx_query.proofs.QueryEnds.{QueryEnd, cut_off, without_memory, no_query, too_deep, too_long, bytes, query_end}

-- the bytes that status 0 means
pub was_named : (query : Bytes) (i i' o o' : End) (used : Option StoreSeen) → IsRun (Some (text_form query)) i i' o o' used 0 → IsNamed query i i' o o' used
was_named query i i' o o' used run = by (query_end query i i' o o' used 0 run)
  where
    by : QueryEnd query i i' o o' used 0 → IsNamed query i i' o o' used
    by (cut_off s risen) = absurd (omega (arith, s))
    by (without_memory s) = absurd (omega (arith, s))
    by (no_query e s why written) = absurd (omega (arith, s))
    by (too_deep e s names deep written) = absurd (omega (arith, s))
    by (too_long e s names has long written) = absurd (omega (arith, s))
    by (bytes e s names has untaken written held) =
        record { expression = e; names = names; bytes = has; untaken = untaken; written = written; unheld = held }

-- a query that names an expression with bytes ends with them
pub was_named_whole : (query : Bytes) (e : Tree) (i i' o o' : End) (used : Option StoreSeen) (status : ℕ) → Names query e → HasBytes e
    → RunsWell (Some (text_form query)) i i' o o' used status → EndsWith 0 (bytes_line e) o o' status
was_named_whole query e i i' o o' used status names has well = by (query_end query i i' o o' used status well.run)
  where
    same : (g : Tree) → Names query g → g ≡ e
    same g own = one_ok (reading_of query) g e own names

    by : QueryEnd query i i' o o' used status → EndsWith 0 (bytes_line e) o o' status
    by (cut_off s risen) = absurd (well.quiet risen)
    by (without_memory s) = absurd (well.memory s)
    by (no_query r s why written) = absurd (not_err (reading_of query) e r names why)
    by (too_deep g s own deep written) = absurd (deep (subst IsShallow (sym (same g own)) has.0))
    by (too_long g s own fits long written) = absurd (has.1 (subst IsOverlong (same g own) long))
    by (bytes g s own fits untaken written held) = (s, subst (λ x. Added o.bytes o'.bytes (bytes_line x)) (same g own) written)

-- ---- queries that are refused

-- what a run that ends with 4 tells: why the query has no bytes
data Refused (query : Bytes) (o o' : End) : Type 0 where
  unnamed_so : (e : TextError) → reading_of query ≡ Err e → Added o.bytes o'.bytes (refusal_line (text_refusal_name e)) → Refused query o o'
  deep_so : HasDeepType query → Added o.bytes o'.bytes (refusal_line (codes "NotSerializable")) → Refused query o o'
  long_so : HasLongPart query → Added o.bytes o'.bytes (refusal_line (codes "TooLong")) → Refused query o o'

refused_of : (query : Bytes) (i i' o o' : End) (used : Option StoreSeen) → IsRun (Some (text_form query)) i i' o o' used 4 → Refused query o o'
refused_of query i i' o o' used run = by (query_end query i i' o o' used 4 run)
  where
    by : QueryEnd query i i' o o' used 4 → Refused query o o'
    by (cut_off s risen) = absurd (omega (arith, s))
    by (without_memory s) = absurd (omega (arith, s))
    by (no_query e s why written) = unnamed_so e why written
    by (too_deep e s names deep written) = deep_so (e, names, deep) written
    by (too_long e s names fits long written) = long_so (e, names, fits, long) written
    by (bytes e s names has untaken written held) = absurd (omega (arith, s))

-- the name of a refusal that the reading of a query doesn't have
no_text : (e : TextError) → ¬ (text_refusal_name e ≡ codes "NotSerializable")
no_text e same = short e (sym (ap (λ n. length n) same))
  where
    short : (g : TextError) → 15 ≡ length (text_refusal_name g) → ⊥
    short texts.NoMemory h = absurd (omega (arith, h))
    short texts.TooLong h = absurd (omega (arith, h))
    short texts.BadToken h = absurd (omega (arith, h))
    short texts.TooManyTokens h = absurd (omega (arith, h))
    short texts.BadQuery h = absurd (omega (arith, h))
    short texts.BadValue h = absurd (omega (arith, h))
    short texts.NotWritable h = absurd (omega (arith, h))

no_long : ¬ (codes "NotSerializable" ≡ codes "TooLong")
no_long same = let h : 15 ≡ 7 = ap (λ n. length n) same in absurd (omega (arith, h))

-- the name that was written is the one that is told
told_as : (o o' : End) (before : Bytes) (name own : Bytes) → o.bytes ≡ Some before → o'.bytes ≡ Some (before ++ refusal_line name)
    → Added o.bytes o'.bytes (refusal_line own) → own ≡ name
told_as o o' before name own stood written added = told_name o.bytes o'.bytes before name own stood written added

-- a query that names no expression
pub unnamed_row : (e : TextError) → ¬ (e ≡ texts.TooLong) → QueriesEndSo 4 (text_refusal_name e) (λ query. reading_of query ≡ Err e)
unnamed_row e short = record {
  only = λ query i i' o o' used tells. means query o o' tells.before tells.stood tells.written (refused_of query i i' o o' used tells.run);
  always = λ query i i' o o' used status refuses well. says query i i' o o' used status refuses well (query_end query i i' o o' used status well.run);
}
  where
    means : (query : Bytes) (o o' : End) (before : Bytes) → o.bytes ≡ Some before → o'.bytes ≡ Some (before ++ refusal_line (text_refusal_name e))
        → Refused query o o' → reading_of query ≡ Err e
    means query o o' before stood told (unnamed_so g why written) =
        why ∙ ap Err (one_text g e (told_as o o' before (text_refusal_name e) (text_refusal_name g) stood told written))
    means query o o' before stood told (deep_so why written) =
        absurd (no_text e (sym (told_as o o' before (text_refusal_name e) (codes "NotSerializable") stood told written)))
    means query o o' before stood told (long_so why written) =
        absurd (short (sym (one_text texts.TooLong e (told_as o o' before (text_refusal_name e) (codes "TooLong") stood told written))))

    says : (query : Bytes) (i i' o o' : End) (used : Option StoreSeen) (status : ℕ) → reading_of query ≡ Err e
        → RunsWell (Some (text_form query)) i i' o o' used status → QueryEnd query i i' o o' used status
        → EndsWith 4 (refusal_line (text_refusal_name e)) o o' status
    says query i i' o o' used status refuses well (cut_off s risen) = absurd (well.quiet risen)
    says query i i' o o' used status refuses well (without_memory s) = absurd (well.memory s)
    says query i i' o o' used status refuses well (no_query g s why written) =
        (s, subst (λ x. Added o.bytes o'.bytes (refusal_line (text_refusal_name x))) (one_err (reading_of query) g e why refuses) written)
    says query i i' o o' used status refuses well (too_deep g s names deep written) = absurd (not_err (reading_of query) g e names refuses)
    says query i i' o o' used status refuses well (too_long g s names fits long written) = absurd (not_err (reading_of query) g e names refuses)
    says query i i' o o' used status refuses well (bytes g s names has untaken written held) = absurd (not_err (reading_of query) g e names refuses)

-- one that is too long, or of whose expression a part is
pub long_row : QueriesEndSo 4 (codes "TooLong") IsLongQuery
long_row = record {
  only = λ query i i' o o' used tells. means query o o' tells.before tells.stood tells.written (refused_of query i i' o o' used tells.run);
  always = λ query i i' o o' used status long well. says query i i' o o' used status long well (query_end query i i' o o' used status well.run);
}
  where
    means : (query : Bytes) (o o' : End) (before : Bytes) → o.bytes ≡ Some before → o'.bytes ≡ Some (before ++ refusal_line (codes "TooLong"))
        → Refused query o o' → IsLongQuery query
    means query o o' before stood told (unnamed_so g why written) =
        inl (why ∙ ap Err (one_text g texts.TooLong (told_as o o' before (codes "TooLong") (text_refusal_name g) stood told written)))
    means query o o' before stood told (deep_so why written) =
        absurd (no_long (told_as o o' before (codes "TooLong") (codes "NotSerializable") stood told written))
    means query o o' before stood told (long_so why written) = inr why

    says : (query : Bytes) (i i' o o' : End) (used : Option StoreSeen) (status : ℕ) → IsLongQuery query
        → RunsWell (Some (text_form query)) i i' o o' used status → QueryEnd query i i' o o' used status
        → EndsWith 4 (refusal_line (codes "TooLong")) o o' status
    says query i i' o o' used status long well (cut_off s risen) = absurd (well.quiet risen)
    says query i i' o o' used status long well (without_memory s) = absurd (well.memory s)
    says query i i' o o' used status (inl refuses) well (no_query g s why written) =
        (s, subst (λ x. Added o.bytes o'.bytes (refusal_line (text_refusal_name x))) (one_err (reading_of query) g texts.TooLong why refuses) written)
    says query i i' o o' used status (inl refuses) well (too_deep g s names deep written) = absurd (not_err (reading_of query) g texts.TooLong names refuses)
    says query i i' o o' used status (inl refuses) well (too_long g s names fits long written) = (s, written)
    says query i i' o o' used status (inl refuses) well (bytes g s names has untaken written held) =
        absurd (not_err (reading_of query) g texts.TooLong names refuses)
    says query i i' o o' used status (inr long) well (no_query g s why written) = absurd (not_err (reading_of query) long.0 g long.1 why)
    says query i i' o o' used status (inr long) well (too_deep g s names deep written) =
        absurd (deep (subst IsShallow (one_ok (reading_of query) long.0 g long.1 names) long.2))
    says query i i' o o' used status (inr long) well (too_long g s names fits own written) = (s, written)
    says query i i' o o' used status (inr long) well (bytes g s names has untaken written held) =
        absurd (has.1 (subst IsOverlong (one_ok (reading_of query) long.0 g long.1 names) long.3))

-- one in which a type is too deep
pub deep_row : QueriesEndSo 4 (codes "NotSerializable") HasDeepType
deep_row = record {
  only = λ query i i' o o' used tells. means query o o' tells.before tells.stood tells.written (refused_of query i i' o o' used tells.run);
  always = λ query i i' o o' used status deep well. says query i i' o o' used status deep well (query_end query i i' o o' used status well.run);
}
  where
    means : (query : Bytes) (o o' : End) (before : Bytes) → o.bytes ≡ Some before → o'.bytes ≡ Some (before ++ refusal_line (codes "NotSerializable"))
        → Refused query o o' → HasDeepType query
    means query o o' before stood told (unnamed_so g why written) =
        absurd (no_text g (told_as o o' before (codes "NotSerializable") (text_refusal_name g) stood told written))
    means query o o' before stood told (deep_so why written) = why
    means query o o' before stood told (long_so why written) =
        absurd (no_long (sym (told_as o o' before (codes "NotSerializable") (codes "TooLong") stood told written)))

    says : (query : Bytes) (i i' o o' : End) (used : Option StoreSeen) (status : ℕ) → HasDeepType query
        → RunsWell (Some (text_form query)) i i' o o' used status → QueryEnd query i i' o o' used status
        → EndsWith 4 (refusal_line (codes "NotSerializable")) o o' status
    says query i i' o o' used status deep well (cut_off s risen) = absurd (well.quiet risen)
    says query i i' o o' used status deep well (without_memory s) = absurd (well.memory s)
    says query i i' o o' used status deep well (no_query g s why written) = absurd (not_err (reading_of query) deep.0 g deep.1 why)
    says query i i' o o' used status deep well (too_deep g s names own written) = (s, written)
    says query i i' o o' used status deep well (too_long g s names fits long written) =
        absurd (deep.2 (subst IsShallow (one_ok (reading_of query) g deep.0 names deep.1) fits))
    says query i i' o o' used status deep well (bytes g s names has untaken written held) =
        absurd (deep.2 (subst IsShallow (one_ok (reading_of query) g deep.0 names deep.1) has.0))
