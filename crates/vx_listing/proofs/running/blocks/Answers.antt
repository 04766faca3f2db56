use Rattle.std.proofs.Common.{refl, ◌∙◌, subst, Option}
use Rattle.vx_dtype.specs.Types.{Bytes}
use Rattle.vx_laws_shell.specs.Running.{end_by}
use Rattle.vx_laws_listing.specs.Listing.{IsToldBy, listed}
use Rattle.vx_listing.proofs.running.blocks.Goals as goal

pub returns-in-Ok : goal.returns-in-Ok
returns-in-Ok g c = record { end = listed; is = c.in-Ok.ensures; status_is = refl; told = refl }

pub returns-in-Err : goal.returns-in-Err
returns-in-Err g c =
    let answer = c.in-Err.ensures in
    let told = end_by g.E.Sink.written g.E.Sink.faults in
    record {
      end = answer.0;
      is = answer.1;
      status_is = c.status.ensures ∙ answer.2.status;
      told = subst (λ (line : Option Bytes). IsToldBy (told c.args.errors.now) (told c.tell.new.errors) line) answer.2.line c.tell.ensures;
    }
