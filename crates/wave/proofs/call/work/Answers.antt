use native.Mathlib.Omega.{arith}
use Rattle.wave.proofs.Calling.{called_over, called_done}
use Rattle.wave.proofs.call.work.Goals as goal

pub returns-then-count-gt-MOST_EMISSIONS : goal.returns-then-count-gt-MOST_EMISSIONS
returns-then-count-gt-MOST_EMISSIONS c = called_over c.requires.first_run.1 c.requires.second_run.1 c.emit_all-count.ensures c.if-count-gt-MOST_EMISSIONS.true (omega arith) (omega arith) (omega arith) (omega arith) c.clear_columns-then-count-gt-MOST_EMISSIONS.ensures

pub returns-else-count-gt-MOST_EMISSIONS : goal.returns-else-count-gt-MOST_EMISSIONS
returns-else-count-gt-MOST_EMISSIONS c = called_done c.requires.first_run.1 c.requires.second_run.1 c.emit_all-count.ensures c.if-count-gt-MOST_EMISSIONS.false c.requires.room c.clear_columns.ensures
