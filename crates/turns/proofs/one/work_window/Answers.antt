use mathlib.Core.Path.{refl}
use Rattle.turns.proofs.Turning.{turn_seeks, turn_lends, turn_wide, turn_corrects, turned}
use Rattle.turns.proofs.one.work_window.Goals as goal

pub seek_fronts-f-requires : goal.seek_fronts-f-requires
seek_fronts-f-requires c = record { lent_fronts = turn_lends c.requires.lent_work refl c.requires.takes; seeks = (turn_seeks c.requires.takes.good c.requires.lent_work.long_nk c.requires.lent_work.wide.room_few, c.requires.takes.reached) }

pub correct_fronts-requires : goal.correct_fronts-requires
correct_fronts-requires c = record { wide = turn_wide c.requires.lent_work c.seek_fronts-f.auto.uv c.seek_fronts-f.auto.ut c.seek_fronts-f.auto.ud c.seek_fronts-f.auto.iv c.seek_fronts-f.auto.id c.seek_fronts-f.auto.ov c.seek_fronts-f.auto.res; full = (c.seek_fronts-f.ensures.0, turn_corrects c.requires.takes c.seek_fronts-f.ensures.0 c.requires.lent_work.long_nk c.seek_fronts-f.ensures.1 c.requires.lent_work.wide.room_few c.requires.lent_work.lent) }

pub returns : goal.returns
returns c = turned c.requires.takes c.seek_fronts-f.ensures.0 c.requires.lent_work.long_nk c.seek_fronts-f.ensures.1 c.correct_fronts.ensures
