use mathlib.Core.Path.{refl, sym, ◌∙◌}
use Rattle.writing.proofs.Lines.{written_fits}
use Rattle.writing.proofs.write_answer.Goals as goal

pub put_answer-n-requires : goal.put_answer-n-requires
put_answer-n-requires c = sym c.memory_fits.ensures ∙ c.if-memory_fits.true

pub returns-then-memory_fits : goal.returns-then-memory_fits
returns-then-memory_fits c = written_fits (sym c.memory_fits.ensures ∙ c.if-memory_fits.true) c.put_answer-n.ensures refl c.text_of.ensures
