use Rattle.std.proofs.Common.{rules, ◌≡◌, replicate, sym}
use Rattle.tiles.proofs.Writing.{laid_part, zeros_length}
use Rattle.tiles.proofs.write.write_zeros.Goals as goal

pub returns : goal.returns
returns c =
    let z : c.fill.new.self ≡ replicate c.args.n 0 = search rules in
    laid_part c.args.out.now c.args.at (replicate c.args.n 0) c.requires (sym (zeros_length c.args.n)) z
