use Rattle.tree_laws.specs.Logs.{after_log, rows_after_log}
use Rattle.tree_laws.proofs.LogLaws.{log_sets, map_from_root}
use Rattle.tree_laws.proofs.logs.a_log_sets_its_rows.Goals as goal

pub returns : goal.returns
returns c = λ images groups table rows fit tiles is.
    let d = log_sets images groups table rows fit tiles is in
    let r = map_from_root (after_log images groups) table (rows_after_log table rows groups) d.0 d.1 in
    (d.0, d.1, r.0, r.1)
