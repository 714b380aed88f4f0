-- The length refuses, or the file is written.
use Rattle.std.proofs.lemmas.Result.{err_from_is_err_and}
use Rattle.file_put.proofs.Outcomes.{writes_none, writes_file}
use Rattle.file_put.proofs.write.Goals as goal

pub returns-in_err-length_refusal : goal.returns-in_err-length_refusal
returns-in_err-length_refusal c =
    let p = err_from_is_err_and c.from_residual.result c.from_residual.ensures.1 in
    rw (p.1, p.2) (writes_none _ _ _ c.file_length-len.ensures _ c.in_err-length_refusal.ensures)

pub returns : goal.returns
returns c = writes_file _ _ _ c.file_length-len.ensures _ c.in_ok-length_refusal.ensures c.write_file.ensures
