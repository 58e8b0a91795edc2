use native.Mathlib.Omega.{arith}
use borrow.Author.Rules.{rules}
use mathlib.Core.Path.{◌≡◌}
use Prim.Native.Nat.{◌-◌}
use Rattle.std.specs.Prelude.{replicate}
use Rattle.pops.proofs.Tracks.{equal_within, tracks}
use Rattle.pops.proofs.stepping.track_pending.Goals as goal

pub overflow_add-after : goal.overflow_add-after
overflow_add-after c = let h = equal_within _ _ _ c.requires.0 c.end_of_equal-end.ensures in omega (arith, c.requires.1)

pub slice_bounds-fill-end : goal.slice_bounds-fill-end
slice_bounds-fill-end c = let h = equal_within _ _ _ c.requires.0 c.end_of_equal-end.ensures in search rules

pub returns : goal.returns
returns c =
    let f : c.fill.new.self ≡ replicate (c.end_of_equal-end.result - c.args.at) c.args.n.0 = search rules in
    tracks _ _ _ _ _ c.requires.0 c.requires.1 c.end_of_equal-end.ensures f
