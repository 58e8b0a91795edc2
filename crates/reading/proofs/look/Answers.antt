use Rattle.std.proofs.lemmas.Result.{err_from_is_err_and}
use Rattle.reading.proofs.Wholes.{parse_long, head_bad, finish_bad, looked_bad, looked_good}
use Rattle.reading.proofs.look.Goals as goal

pub returns-then-s-gt-MOST_BYTES : goal.returns-then-s-gt-MOST_BYTES
returns-then-s-gt-MOST_BYTES c = looked_bad 0 (parse_long _ c.if-s-gt-MOST_BYTES.true)

pub returns-in_err-head : goal.returns-in_err-head
returns-in_err-head c =
    let p = err_from_is_err_and c.from_residual.result c.from_residual.ensures.1 in
    rw (p.1, p.2) (looked_bad _ (head_bad c.args.s.now c.if-s-gt-MOST_BYTES.false c.in_err-head.ensures.told))

pub returns-in_err-read_end : goal.returns-in_err-read_end
returns-in_err-read_end c =
    let h = c.in_ok-head.head in
    let p = err_from_is_err_and c.from_residual-in_err-read_end.result c.from_residual-in_err-read_end.ensures.1 in
    rw (p.1, p.2) (looked_bad _ (finish_bad c.args.s.now c.read_head.new.lower c.read_head.new.upper c.read_head.new.held h.mode h.width h.lower h.upper h.held c.in_ok-head.at c.if-s-gt-MOST_BYTES.false c.in_ok-head.ensures.told c.find_sections-lines.ensures c.line_after.ensures c.in_err-read_end.ensures))

pub returns : goal.returns
returns c =
    let h = c.in_ok-head.head in
    looked_good c.args.s.now c.read_head.new.lower c.read_head.new.upper c.read_head.new.held h.mode h.width h.lower h.upper h.held c.in_ok-head.at c.if-s-gt-MOST_BYTES.false c.in_ok-head.ensures.told c.find_sections-lines.ensures c.line_after.ensures c.in_ok-read_end.ensures c.in_ok-head.ensures.few c.args.lower.now c.args.upper.now c.args.held.now c.requires.room_lower c.requires.room_upper c.requires.room_held c.read_head.auto.lower c.read_head.auto.upper c.read_head.auto.held
