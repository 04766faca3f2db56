use Rattle.vx_laws_text.proofs.Utf8Texts.{quoted_is_utf8, rest_is_utf8, test_changes_nothing}
use Rattle.vx_laws_text.proofs.tokens.quoted_texts_are_utf8.Goals as goal

pub returns : goal.returns
returns c = record { quoted = quoted_is_utf8; rest = rest_is_utf8; tokens = test_changes_nothing }
