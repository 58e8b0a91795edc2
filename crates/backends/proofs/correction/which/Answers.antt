use borrow.Author.Rules.{rules}
use Rattle.backends.proofs.Signed.{told-listed}
use Rattle.backends.proofs.Turns.{turn_end, turn_unlisted, turn_last, turn_less, turn_greater, turn_equal}
use Rattle.backends.proofs.correction.which.Goals as goal

pub returns-then-i-iv : goal.returns-then-i-iv
returns-then-i-iv c = turn_end _ _ _ c.args.ov.now c.args.j c.requires c.if-i-iv.true

pub returns-then-not-is_listed : goal.returns-then-not-is_listed
returns-then-not-is_listed c = turn_unlisted _ _ _ c.args.ov.now c.args.j c.requires c.if-i-iv.false (told-listed (search rules) c.if-not-is_listed.ensures)

pub returns-then-j-ov : goal.returns-then-j-ov
returns-then-j-ov c = turn_last _ _ _ _ _ c.requires c.if-i-iv.false (told-listed (search rules) c.if-not-is_listed.ensures) c.if-j-ov.true

pub returns-in-Less : goal.returns-in-Less
returns-in-Less c = turn_less c.args.iv.now c.args.id.now c.args.i c.args.ov.now c.args.j c.requires c.if-i-iv.false (told-listed (search rules) c.if-not-is_listed.ensures) c.if-j-ov.false c.in-Less.ensures

pub returns-in-Greater : goal.returns-in-Greater
returns-in-Greater c = turn_greater c.args.iv.now c.args.id.now c.args.i c.args.ov.now c.args.j c.requires c.if-i-iv.false (told-listed (search rules) c.if-not-is_listed.ensures) c.if-j-ov.false c.in-Greater.ensures

pub returns-in-Equal : goal.returns-in-Equal
returns-in-Equal c = turn_equal c.args.iv.now c.args.id.now c.args.i c.args.ov.now c.args.j c.requires c.if-i-iv.false (told-listed (search rules) c.if-not-is_listed.ensures) c.if-j-ov.false c.in-Equal.ensures
