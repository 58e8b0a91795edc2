use mathlib.Core.Path.{◌∙◌}
use Rattle.distinct.proofs.Removing.{removed_sorted, sort_fixed}
use Rattle.distinct.proofs.sort_distinct.Goals as goal

pub remove_equals-requires : goal.remove_equals-requires
remove_equals-requires c = sort_fixed c.args.s.now c.sort_times.ensures.sorted

pub returns : goal.returns
returns c = (removed_sorted c.args.s.now c.sort_times.ensures.sorted c.remove_equals.ensures, c.sort_times.ensures.work-same ∙ c.sort_times.ensures.sorted)
