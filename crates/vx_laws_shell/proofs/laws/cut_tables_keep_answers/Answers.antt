use Rattle.vx_laws_shell.proofs.CutAnew.{cut_tables_keep_rows, cut_tables_stay_tables, built_anew_are_honest, cut_tables_lose_no_row, cut_tables_keep_limits}
use Rattle.vx_laws_shell.proofs.CutAnew.{cut_tables_keep_first_rows}
use Rattle.vx_laws_shell.proofs.laws.cut_tables_keep_answers.Goals as goal

pub returns : goal.returns
returns c = record {
  rows = cut_tables_keep_rows;
  tables = cut_tables_stay_tables;
  honest = built_anew_are_honest;
  scans = cut_tables_lose_no_row;
  limits = cut_tables_keep_limits;
  first = cut_tables_keep_first_rows;
}
