use Rattle.input.proofs.Forming.{formed}
use Rattle.input.proofs.form_input.Goals as goal

pub returns : goal.returns
returns c = formed (record { keys = c.args.oldkeys.now; values = c.args.oldvalues.now; times = c.args.oldtimes.now; diffs = c.args.olddiffs.now }) (record { keys = c.args.newkeys.now; values = c.args.newvalues.now; times = c.args.newtimes.now; diffs = c.args.newdiffs.now }) _ c.requires.runs _ c.join_runs.ensures c.arrange.ensures
