use Rattle.steps.proofs.Arms.{lent, settled}
use Rattle.steps.proofs.acts.settle.Goals as goal

pub advance_edits-icount-requires : goal.advance_edits-icount-requires
advance_edits-icount-requires c = lent c.requires.ready

pub returns : goal.returns
returns c = settled _ _ c.requires.ready c.args.m _ _ _ c.requires.n_value c.advance_edits-icount.auto.times c.advance_edits-icount.auto.values c.advance_edits-icount.auto.diffs c.advance_edits-icount.ensures c.advance_times-ocount.ensures c.join_both-c.ensures.1 c.join_both-d.ensures
