use mathlib.Core.Path.{refl}
use Rattle.turns.proofs.Turning.{fronts_scratch, fronts_room}
use Rattle.turns.proofs.first.seek_fronts.Goals as goal

pub seek_window-progress-requires : goal.seek_window-progress-requires
seek_window-progress-requires c = record { scratch = fronts_scratch c.requires.lent_fronts refl refl; seeks = (c.requires.seeks.0, (c.requires.seeks.1, fronts_room c.requires.lent_fronts refl refl refl refl refl)) }

pub returns : goal.returns
returns c = (record { long_mends = c.seek_window-progress.auto.mends; long_ifrom = c.seek_window-progress.auto.ifrom; long_ito = c.seek_window-progress.auto.ito; long_ofrom = c.seek_window-progress.auto.ofrom; long_oto = c.seek_window-progress.auto.oto }, c.seek_window-progress.ensures)
