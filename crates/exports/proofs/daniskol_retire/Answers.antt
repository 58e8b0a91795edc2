use Rattle.std.proofs.Common.{rules, sym, ◌∙◌}
use Rattle.exports.proofs.Exporting.{export_short, export_long, read_back}
use Rattle.exports.proofs.daniskol_retire.Goals as goal

pub returns-then-counts-lt6 : goal.returns-then-counts-lt6
returns-then-counts-lt6 c = export_short _ _ c.if-counts-lt6.true

pub returns : goal.returns
returns c =
    read_back c.retire-r.new.results c.retire-r.new.w (search rules) (search rules) (search rules) (search rules) (search rules) (search rules) (search rules) (search rules) (search rules)
    (rw c.number.ensures (export_long c.if-counts-lt6.false c.retire-r.ensures.retires c.tell.ensures))
