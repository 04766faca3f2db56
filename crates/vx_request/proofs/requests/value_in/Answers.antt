-- What is read of bytes is read of text alone.
use Rattle.std.proofs.Common.{◌∙◌, sym}
use Rattle.serde_json.specs.Read.{read}
use Rattle.vx_request.proofs.TextLemmas.{read_of_text, none_of_text}
use Rattle.vx_request.proofs.requests.value_in.Goals as goal

pub returns-in-Ok : goal.returns-in-Ok
returns-in-Ok c = sym (read_of_text c.args.input.now (read c.args.input.now) c.in-Ok.ensures.ok.0 ∙ c.in-Ok.ensures.ok.1)

pub returns-else-is_memory : goal.returns-else-is_memory
returns-else-is_memory c =
    sym (none_of_text c.args.input.now (read c.args.input.now) (c.in-Err.ensures.err (λ h. absurd (let t = c.is_memory.ensures.1 h in cc))))
