use Rattle.std.proofs.Common.{◌≡◌, ◌++◌, ap, ◌∙◌, append_assoc, codes}
use Rattle.std.specs.String.{string_bytes}
use Rattle.vx_dtype.specs.Types.{Bytes}
use Rattle.vx_laws_listing.specs.ListingTexts.{nullable_text}
use Rattle.vx_listing.proofs.columns.push_struct.Goals as goal

-- three texts, one behind another
written_three : (a b c d p q r : Bytes) → b ≡ a ++ p → c ≡ b ++ q → d ≡ c ++ r → d ≡ a ++ (p ++ (q ++ r))
written_three a b c d p q r s t u =
    u ∙ ap (λ (z : Bytes). z ++ r) (t ∙ ap (λ (z : Bytes). z ++ q) s)
    ∙ append_assoc (a ++ p) q r ∙ append_assoc a p (q ++ r)

pub returns : goal.returns
returns c =
    written_three
    (string_bytes c.args.out.now) (string_bytes c.push_str.new.self) (string_bytes c.push_str-2.new.self) (string_bytes c.push_str-3.new.self)
    (codes "{\"nullable\":") (nullable_text c.args.nullability) (codes ",\"struct\":[")
    c.in_ok-push_str.ensures.bytes
    (c.in_ok-push_str-2.ensures.bytes ∙ ap (λ (z : Bytes). string_bytes c.push_str.new.self ++ z) c.nullable_text.ensures)
    c.in_ok-push_str-3.ensures.bytes
