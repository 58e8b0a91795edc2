use Rattle.answering.proofs.Replying.{read-holds}
use Rattle.answering.proofs.answer.Goals as goal

pub returns : goal.returns
returns c = c.reply_to.ensures c.args.request.now (read-holds _ c.read_request-asked.ensures)
