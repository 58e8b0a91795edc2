use native.Mathlib.Omega.{arith}
use borrow.Author.Rules.{rules}
use mathlib.Core.Path.{◌≡◌}
use lib.ListN.{length}
use Rattle.std.specs.Prelude.{replicate}
use Rattle.tallies.proofs.Appending.{appends_few}
use Rattle.tallies.proofs.next.append_pended.Goals as goal

pub returns-then-end-keys : goal.returns-then-end-keys
returns-then-end-keys c =
    let f : c.fill.new.self ≡ replicate (length c.args.pended.now) c.args.key.0 = search rules in
    appends_few c.if-end-keys.true c.if-end-keys.true (omega (arith, c.requires.keys_room, c.requires.times_room)) f c.copy_from_slice.ensures.after
