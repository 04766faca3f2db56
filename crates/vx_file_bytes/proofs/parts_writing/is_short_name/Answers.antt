use Rattle.std.proofs.Common.{length, ap, ◌∙◌, subst, arith}
use Rattle.std.specs.Str.{IsUtf8}
use Rattle.std.proofs.lemmas.Str.{is_utf8-from_IsUtf8}
use Rattle.std.proofs.lemmas.Bool.{ltb-true}
use Rattle.vx_file_bytes.proofs.parts_writing.is_short_name.Goals as goal

pub returns-clause-text : goal.returns-clause-text
returns-clause-text c e =
    let short = ltb-true _ _ e in
    let same = c.as_bytes.ensures.value ∙ c.as_str.ensures in
    record { utf8 = is_utf8-from_IsUtf8 _ (subst IsUtf8 same c.as_bytes.ensures.utf8); short = omega (arith, short, ap length same) }
