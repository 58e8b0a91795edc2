use Rattle.std.proofs.Common.{ℕ, refl, sym}
use lib.ListN.{length-replicate}
use Rattle.answering.proofs.Replying.{call-replied}
use Rattle.answering.proofs.call.Goals as goal

pub returns : goal.returns
returns c = call-replied (sym (length-replicate {A = ℕ} 25632 0)) refl (sym (length-replicate {A = ℕ} 65537 0)) refl refl refl refl refl refl refl c.requires c.retire-outcome.ensures.retires c.results_of.ensures c.write_answer.ensures c.unwrap_or.ensures
