use Rattle.crash_disk.proofs.Words.{false, true, List, ◌∙◌, ap, arith, err_from_is_err_and, FileCall, syncs_bytes, syncs_name, marked, asked}
use Rattle.crash_disk.proofs.disk_over.synced_first.Goals as goal

pub returns-in_err-name_synced-clause-made : goal.returns-in_err-name_synced-clause-made
returns-in_err-name_synced-clause-made g c =
    let p = err_from_is_err_and c.from_residual-in_err-name_synced.result
    c.from_residual-in_err-name_synced.ensures.1 in
    let bytes = c.in_ok-bytes_synced.ensures.calls
    ∙ ap (λ (l : List FileCall). marked (asked syncs_bytes false l)) c.in_ok-open_folder.ensures.calls in
    rw p.1 (
      2,
      omega arith,
      c.in_err-name_synced.ensures.calls ∙ ap (λ (l : List FileCall). marked (asked syncs_name true l)) bytes,
    )
