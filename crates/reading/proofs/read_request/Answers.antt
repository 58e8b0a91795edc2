use Rattle.reading.proofs.Wholes.{request-read}
use Rattle.reading.proofs.read_request.Goals as goal

pub returns : goal.returns
returns c = request-read c.in_ok-found.ensures (rw c.in_ok-found.was at c.found_or_nothing.ensures) c.store_rows.ensures c.store_rows-2.ensures c.store_rows-3.ensures c.store_pairs.ensures
