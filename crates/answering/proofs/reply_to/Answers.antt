use Rattle.answering.proofs.Replying.{bad-replied, held-replied}
use Rattle.answering.proofs.reply_to.Goals as goal

pub returns-in-Err : goal.returns-in-Err
returns-in-Err c = bad-replied c.requires c.in-Err.is c.write_bad.ensures c.unwrap_or.ensures

pub returns-in-Ok : goal.returns-in-Ok
returns-in-Ok c = held-replied c.front_lists.result c.in-Ok.is c.front_lists.ensures c.call.ensures
