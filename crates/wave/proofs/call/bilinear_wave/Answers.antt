use Rattle.std.proofs.lemmas.Result.{err_from_is_err_and}
use Rattle.wave.proofs.Calling.{called_refused, accepted-lent, called_accepted}
use Rattle.wave.proofs.call.bilinear_wave.Goals as goal

pub returns-in_err-check : goal.returns-in_err-check
returns-in_err-check c = let p = err_from_is_err_and c.from_residual.result c.from_residual.ensures.1 in rw (p.1, p.2) (called_refused _ _ _ _ c.in_err-check.ensures _ _ _ _)

pub work-requires : goal.work-requires
work-requires c = let all = accepted-lent _ _ _ _ _ _ _ _ _ _ c.in_ok-check.ensures in record { first_run = all.0; second_run = all.1.0; room = all.1.1 }

pub returns : goal.returns
returns c = called_accepted _ _ _ _ _ _ _ _ _ _ c.in_ok-check.ensures c.work.ensures
