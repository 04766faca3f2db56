use Rattle.std.proofs.Common.{◌∙◌, sym, ap, refl, map, option_map, Some, None}
use Rattle.std.specs.String.{string_bytes}
use Rattle.vx_query.specs.Running.{end_by, form_of, explain_form, file_form, scan_file_form, show_form, text_form, gen_form, scan_form, top_form, misused, helped, versioned}
use Rattle.vx_scan.specs.StoreViews.{store_seen}
use Rattle.vx_query.specs.RunViews.{form_view, showing_view, statistics_view, top_view}
use Rattle.vx_query.proofs.OutcomeLemmas.{run_of, run_told, run_same, run_answered, run_ended, word_shown, query_answered}
use Rattle.vx_query.proofs.running.run.Goals as goal

pub returns-in-None : goal.returns-in-None
returns-in-None g c =
    let input = end_by g.I.Source.left g.I.Source.faults c.args.input.now in
    let sink = end_by g.O.Sink.written g.O.Sink.faults in
    run_of (form_of (map string_bytes c.args.arguments.now)) input input (sink c.args.output.now) (sink c.write.new.output) None c.write.result misused
    (sym c.form_of.ensures ∙ ap (option_map form_view) c.in-None.is, refl) refl c.write.ensures

pub returns-in-Some-Help : goal.returns-in-Some-Help
returns-in-Some-Help g c =
    let input = end_by g.I.Source.left g.I.Source.faults c.args.input.now in
    let sink = end_by g.O.Sink.written g.O.Sink.faults in
    run_of (form_of (map string_bytes c.args.arguments.now)) input input (sink c.args.output.now) (sink c.write-in-Some-Help.new.output) None c.write-in-Some-Help.result helped
    (sym c.form_of.ensures ∙ ap (option_map form_view) (c.in-Some-Help.is ∙ ap Some c.in-Some-Help.field-0-is), refl) refl c.write-in-Some-Help.ensures

pub returns-in-Some-Version : goal.returns-in-Some-Version
returns-in-Some-Version g c =
    let input = end_by g.I.Source.left g.I.Source.faults c.args.input.now in
    let sink = end_by g.O.Sink.written g.O.Sink.faults in
    run_of (form_of (map string_bytes c.args.arguments.now)) input input (sink c.args.output.now) (sink c.write-in-Some-Version.new.output) None c.write-in-Some-Version.result versioned
    (sym c.form_of.ensures ∙ ap (option_map form_view) (c.in-Some-Version.is ∙ ap Some c.in-Some-Version.field-0-is), refl) refl c.write-in-Some-Version.ensures

pub returns-in-Some-Explain : goal.returns-in-Some-Explain
returns-in-Some-Explain g c =
    let source = end_by g.I.Source.left g.I.Source.faults in
    let sink = end_by g.O.Sink.written g.O.Sink.faults in
    run_answered (form_of (map string_bytes c.args.arguments.now)) (Some explain_form) (source c.args.input.now) (source c.explain_input.new.input) (sink c.args.output.now)
    (sink c.write_answer.new.output) c.write_answer.result c.explain_input.result (sym c.form_of.ensures ∙ ap (option_map form_view) (c.in-Some-Explain.is ∙ ap Some c.in-Some-Explain.field-0-is))
    c.explain_input.ensures c.write_answer.ensures

pub returns-in-Some-File : goal.returns-in-Some-File
returns-in-Some-File g c =
    let source = end_by g.I.Source.left g.I.Source.faults in
    let sink = end_by g.O.Sink.written g.O.Sink.faults in
    run_answered (form_of (map string_bytes c.args.arguments.now)) (Some file_form) (source c.args.input.now) (source c.file_input.new.input) (sink c.args.output.now)
    (sink c.write_answer-in-Some-File.new.output) c.write_answer-in-Some-File.result c.file_input.result (sym c.form_of.ensures ∙ ap (option_map form_view) (c.in-Some-File.is ∙ ap Some c.in-Some-File.field-0-is))
    c.file_input.ensures c.write_answer-in-Some-File.ensures

pub returns-in-Some-ScanFile : goal.returns-in-Some-ScanFile
returns-in-Some-ScanFile g c =
    let source = end_by g.I.Source.left g.I.Source.faults in
    let sink = end_by g.O.Sink.written g.O.Sink.faults in
    run_answered (form_of (map string_bytes c.args.arguments.now)) (Some scan_file_form) (source c.args.input.now) (source c.scan_file_input.new.input) (sink c.args.output.now)
    (sink c.write_answer-in-Some-ScanFile.new.output) c.write_answer-in-Some-ScanFile.result c.scan_file_input.result
    (sym c.form_of.ensures ∙ ap (option_map form_view) (c.in-Some-ScanFile.is ∙ ap Some c.in-Some-ScanFile.field-0-is))
    c.scan_file_input.ensures c.write_answer-in-Some-ScanFile.ensures

pub returns-in-Some-Show : goal.returns-in-Some-Show
returns-in-Some-Show g c =
    let source = end_by g.I.Source.left g.I.Source.faults in
    let sink = end_by g.O.Sink.written g.O.Sink.faults in
    let word = c.in-Some-Show.hex.now in
    let showing = showing_view c.in-Some-Show.showing in
    run_answered (form_of (map string_bytes c.args.arguments.now)) (Some (show_form showing word)) (source c.args.input.now) (source c.args.input.now) (sink c.args.output.now)
    (sink c.write_answer-in-Some-Show.new.output) c.write_answer-in-Some-Show.result c.shown.result (sym c.form_of.ensures ∙ ap (option_map form_view) (c.in-Some-Show.is ∙ ap Some c.in-Some-Show.field-0-is))
    (word_shown showing word (source c.args.input.now) c.shown.result c.shown.ensures) c.write_answer-in-Some-Show.ensures

pub returns-in-Some-Text : goal.returns-in-Some-Text
returns-in-Some-Text g c =
    let source = end_by g.I.Source.left g.I.Source.faults in
    let sink = end_by g.O.Sink.written g.O.Sink.faults in
    let query = c.in-Some-Text.query.now in
    run_answered (form_of (map string_bytes c.args.arguments.now)) (Some (text_form query)) (source c.args.input.now) (source c.args.input.now) (sink c.args.output.now)
    (sink c.write_answer-in-Some-Text.new.output) c.write_answer-in-Some-Text.result c.query_bytes.result (sym c.form_of.ensures ∙ ap (option_map form_view) (c.in-Some-Text.is ∙ ap Some c.in-Some-Text.field-0-is))
    (query_answered query (source c.args.input.now) c.query_bytes.result c.query_bytes.ensures) c.write_answer-in-Some-Text.ensures

pub returns-in-Ok : goal.returns-in-Ok
returns-in-Ok g c =
    let source = end_by g.I.Source.left g.I.Source.faults in
    let sink = end_by g.O.Sink.written g.O.Sink.faults in
    run_ended (Some (scan_form (statistics_view c.in-Some-Scan.statistics))) (form_of (map string_bytes c.args.arguments.now)) (source c.args.input.now) (source c.scan_input.new.input) (sink c.args.output.now) (sink c.write-in-Ok.new.output)
    (option_map store_seen c.scan_input.new.used) c.write-in-Ok.result c.status.result c.text.result.now c.in-Ok.ending
    (sym c.form_of.ensures ∙ ap (option_map form_view) (c.in-Some-Scan.is ∙ ap Some c.in-Some-Scan.field-0-is)) c.in-Ok.ensures.told c.status.ensures c.text.ensures
    c.write-in-Ok.ensures

pub returns-in-Some-Generated : goal.returns-in-Some-Generated
returns-in-Some-Generated g c =
    let source = end_by g.I.Source.left g.I.Source.faults c.args.input.now in
    let sink = end_by g.O.Sink.written g.O.Sink.faults in
    let rows = c.in-Some-Generated.rows in
    let told = c.write_generated.ensures source in
    run_told (form_of (map string_bytes c.args.arguments.now)) (Some (gen_form rows)) source source (sink c.args.output.now) (sink c.write_generated.new.output)
    (option_map store_seen c.write_generated.new.used) c.write_generated.result told.0
    (sym c.form_of.ensures ∙ ap (option_map form_view) (c.in-Some-Generated.is ∙ ap Some c.in-Some-Generated.field-0-is)) told.1 told.2 told.3

pub returns-in-Some-Top : goal.returns-in-Some-Top
returns-in-Some-Top g c =
    let source = end_by g.I.Source.left g.I.Source.faults in
    let sink = end_by g.O.Sink.written g.O.Sink.faults in
    run_same (form_of (map string_bytes c.args.arguments.now)) (Some (top_form (top_view c.in-Some-Top.top))) (source c.args.input.now) (source c.write_top.new.input)
    (sink c.args.output.now) (sink c.write_top.new.output) (option_map store_seen c.write_top.new.used) c.write_top.result
    (sym c.form_of.ensures ∙ ap (option_map form_view) (c.in-Some-Top.is ∙ ap Some c.in-Some-Top.field-0-is)) c.write_top.ensures
