use mathlib.Core.Path.{refl}
use Rattle.writing.proofs.Lines.{written_fits}
use Rattle.writing.proofs.write_bad.Goals as goal

pub returns : goal.returns
returns c = written_fits refl c.put_bad-n.ensures refl c.text_of.ensures
