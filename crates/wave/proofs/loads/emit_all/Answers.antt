use Rattle.wave.proofs.Loading.{wave-loaded}
use Rattle.wave.proofs.loads.emit_all.Goals as goal

pub returns : goal.returns
returns c = rw (← wave-loaded c.load_side-n.ensures c.load_side-m.ensures) c.replay.ensures
