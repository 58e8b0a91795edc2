-- The runs of a call that is lent, once its input is formed.
--
-- formed_runs: the runs of a request, with its input, old and new together, in columns. runs_of: the same, with a run that is lent
use Rattle.grid.specs.Records.{Columns}
use Rattle.requests.specs.Runs.{columns_of}
use Rattle.requests.specs.declared.Request.{Request}
use Rattle.requests.specs.declared.Run.{Run}
use Rattle.turns.specs.Runs.{Runs, runs}

abbrev pub formed_runs : Request → Columns → Runs
formed_runs q input =
    runs q.frontiers.upper.now q.new.keys.now q.new.times.now q.pending.keys.now q.pending.times.now
    input.keys input.values input.times input.diffs q.out.keys.now q.out.values.now q.out.times.now q.out.diffs.now

abbrev pub runs_of : Request → Run → Runs
runs_of q input = formed_runs q (columns_of input)
