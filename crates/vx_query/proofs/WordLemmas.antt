-- What the status of a run whose arguments show a word tells.
use Rattle.std.proofs.Common.{◌≡◌, ◌∙◌, sym, refl, subst, ℕ, codes, Option, Some, None, arith}
use Rattle.std.proofs.lemmas.Option.{same_Some}
use Rattle.vx_dtype.specs.Types.{Bytes}
use Rattle.vx_expr.specs.Trees.{Tree}
use Rattle.vx_wire.specs.Encodings.{is_default_kind}
use Rattle.vx_io.specs.Ends.{Added}
use Rattle.vx_scan.specs.Stores.{StoreSeen}
use Rattle.vx_scan.specs.Texts.{SpellsTree, IsTextRefused}
use Rattle.vx_scan.specs.declared.errors.Side.TheVariants.{Text}
use Rattle.vx_scan.specs.declared.errors.ScanError.{ScanError}
use Rattle.vx_scan.proofs.TextLemmas.{one_spelled, spelled_is_taken, one_refusal_of}
use Rattle.vx_request.specs.Requests.{hex_bytes}
use Rattle.vx_query.specs.Refusals.{scan_refusal_name, refusal_line}
use Rattle.vx_query.specs.Running.{End, Form, Showing, as_line, as_tree, as_query, show_form, shown_text, WordSpells, WordIsRefused, IsRun}
use Rattle.vx_query.specs.Causes.{IsShown}
use Rattle.vx_query.specs.Exactly.{Tells, RunsWell, EndsWith, WordsEndSo}
use Rattle.vx_query.proofs.RequestEnds.{not_none}
use Rattle.vx_query.proofs.LineLemmas.{one_scan_error, told_name}
use Rattle.vx_query.proofs.WordEnds.{WordEnd, cut_off, without_memory, no_digits, no_expression, told, word_end}

-- ---- words

-- a word spells one expression, and is refused for one reason; both never
pub one_word : (word : Bytes) (e g : Tree) → WordSpells word e → WordSpells word g → e ≡ g
one_word word e g x y =
    let same : x.bytes ≡ y.bytes = same_Some _ _ (sym x.digits ∙ y.digits) in
    one_spelled is_default_kind y.bytes e g (subst (λ b. SpellsTree is_default_kind b e) same x.spelled) y.spelled

pub one_word_refusal : (word : Bytes) (e g : ScanError) → WordIsRefused word e → WordIsRefused word g → e ≡ g
one_word_refusal word e g x y =
    let same : x.bytes ≡ y.bytes = same_Some _ _ (sym x.digits ∙ y.digits) in
    one_refusal_of is_default_kind Text y.bytes e g (subst (λ b. IsTextRefused is_default_kind Text b e) same x.refused) y.refused

pub unrefused_word : (word : Bytes) (e : Tree) (r : ScanError) → WordSpells word e → ¬ (WordIsRefused word r)
unrefused_word word e r x y =
    let same : x.bytes ≡ y.bytes = same_Some _ _ (sym x.digits ∙ y.digits) in
    spelled_is_taken is_default_kind Text y.bytes e r (subst (λ b. SpellsTree is_default_kind b e) same x.spelled) y.refused

-- a form shows in one way
one_showing : (showing other : Showing) (word : Bytes) → Some (show_form showing word) ≡ Some (show_form other word) → other ≡ showing
one_showing as_line as_line word same = refl
one_showing as_tree as_tree word same = refl
one_showing as_query as_query word same = refl
one_showing _ _ word same = cc

-- ---- what status 0 means

pub was_shown : (showing : Showing) (word : Bytes) (i i' o o' : End) (used : Option StoreSeen) → IsRun (Some (show_form showing word)) i i' o o' used 0
    → IsShown (shown_text showing) word i i' o o' used
was_shown showing word i i' o o' used run = by (word_end (Some (show_form showing word)) word i i' o o' used 0 refl run)
  where
    by : WordEnd (Some (show_form showing word)) word i i' o o' used 0 → IsShown (shown_text showing) word i i' o o' used
    by (cut_off s risen) = absurd (omega (arith, s))
    by (without_memory s) = absurd (omega (arith, s))
    by (no_digits s none written) = absurd (omega (arith, s))
    by (no_expression e s why written) = absurd (omega (arith, s))
    by (told other e s form spells untaken written held) = record {
      expression = e;
      spelled = spells;
      untaken = untaken;
      written = subst (λ way. Added o.bytes o'.bytes (shown_text way e)) (one_showing showing other word form) written;
      unheld = held;
    }

-- ---- a word that spells an expression is shown

pub was_shown_whole : (showing : Showing) (word : Bytes) (e : Tree) (i i' o o' : End) (used : Option StoreSeen) (status : ℕ) → WordSpells word e
    → RunsWell (Some (show_form showing word)) i i' o o' used status → EndsWith 0 (shown_text showing e) o o' status
was_shown_whole showing word e i i' o o' used status spells well =
    by (word_end (Some (show_form showing word)) word i i' o o' used status refl well.run)
  where
    by : WordEnd (Some (show_form showing word)) word i i' o o' used status → EndsWith 0 (shown_text showing e) o o' status
    by (cut_off s risen) = absurd (well.quiet risen)
    by (without_memory s) = absurd (well.memory s)
    by (no_digits s none written) = absurd (not_none (sym spells.digits ∙ none))
    by (no_expression r s why written) = absurd (unrefused_word word e r spells why)
    by (told other g s form own untaken written held) =
        let same = one_showing showing other word form in
        (s, subst (λ k. k) (λ j. Added o.bytes o'.bytes (shown_text (same j) (one_word word g e own spells j))) written)

-- ---- words that are refused

-- a word that is no hexadecimal text
pub undigited : WordsEndSo 3 (codes "BadHex text") (λ word. hex_bytes word ≡ None)
undigited = record {
  only = λ form word i i' o o' used shows tells. means form word i i' o o' used (word_end form word i i' o o' used 3 shows tells.run);
  always = λ form word i i' o o' used status shows none well. says form word i i' o o' used status none well (word_end form word i i' o o' used status shows well.run);
}
  where
    means : (form : Option Form) (word : Bytes) (i i' o o' : End) (used : Option StoreSeen) → WordEnd form word i i' o o' used 3 → hex_bytes word ≡ None
    means form word i i' o o' used (cut_off s risen) = absurd (omega (arith, s))
    means form word i i' o o' used (without_memory s) = absurd (omega (arith, s))
    means form word i i' o o' used (no_digits s none written) = none
    means form word i i' o o' used (no_expression e s why written) = absurd (omega (arith, s))
    means form word i i' o o' used (told showing e s is spells untaken written held) = absurd (omega (arith, s))

    says : (form : Option Form) (word : Bytes) (i i' o o' : End) (used : Option StoreSeen) (status : ℕ) → hex_bytes word ≡ None
        → RunsWell form i i' o o' used status → WordEnd form word i i' o o' used status
        → EndsWith 3 (refusal_line (codes "BadHex text")) o o' status
    says form word i i' o o' used status none well (cut_off s risen) = absurd (well.quiet risen)
    says form word i i' o o' used status none well (without_memory s) = absurd (well.memory s)
    says form word i i' o o' used status none well (no_digits s own written) = (s, written)
    says form word i i' o o' used status none well (no_expression e s why written) = absurd (not_none (sym why.digits ∙ none))
    says form word i i' o o' used status none well (told showing e s is spells untaken written held) = absurd (not_none (sym spells.digits ∙ none))

-- one whose bytes spell no expression
pub unexpressed : (e : ScanError) → WordsEndSo 4 (scan_refusal_name e) (λ word. WordIsRefused word e)
unexpressed e = record {
  only = λ form word i i' o o' used shows tells. means form word i i' o o' used tells (word_end form word i i' o o' used 4 shows tells.run);
  always = λ form word i i' o o' used status shows refuses well. says form word i i' o o' used status refuses well (word_end form word i i' o o' used status shows well.run);
}
  where
    means : (form : Option Form) (word : Bytes) (i i' o o' : End) (used : Option StoreSeen)
        → Tells form i i' o o' used 4 (refusal_line (scan_refusal_name e)) → WordEnd form word i i' o o' used 4 → WordIsRefused word e
    means form word i i' o o' used tells (cut_off s risen) = absurd (omega (arith, s))
    means form word i i' o o' used tells (without_memory s) = absurd (omega (arith, s))
    means form word i i' o o' used tells (no_digits s none written) = absurd (omega (arith, s))
    means form word i i' o o' used tells (no_expression g s why written) =
        let same : g ≡ e =
        one_scan_error g e (told_name o.bytes o'.bytes tells.before (scan_refusal_name e) (scan_refusal_name g) tells.stood tells.written written) in
        subst (λ r. WordIsRefused word r) same why
    means form word i i' o o' used tells (told showing g s is spells untaken written held) = absurd (omega (arith, s))

    says : (form : Option Form) (word : Bytes) (i i' o o' : End) (used : Option StoreSeen) (status : ℕ) → WordIsRefused word e
        → RunsWell form i i' o o' used status → WordEnd form word i i' o o' used status
        → EndsWith 4 (refusal_line (scan_refusal_name e)) o o' status
    says form word i i' o o' used status refuses well (cut_off s risen) = absurd (well.quiet risen)
    says form word i i' o o' used status refuses well (without_memory s) = absurd (well.memory s)
    says form word i i' o o' used status refuses well (no_digits s none written) = absurd (not_none (sym refuses.digits ∙ none))
    says form word i i' o o' used status refuses well (no_expression g s why written) =
        (s, subst (λ x. Added o.bytes o'.bytes (refusal_line (scan_refusal_name x))) (one_word_refusal word g e why refuses) written)
    says form word i i' o o' used status refuses well (told showing g s is spells untaken written held) = absurd (unrefused_word word g e spells refuses)
