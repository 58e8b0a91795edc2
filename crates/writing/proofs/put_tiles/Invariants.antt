use Prim.Native.Nat.{◌-◌}
use Rattle.print.proofs.Put.{Writing}
use Rattle.writing.specs.Answered.{places, tile_at}
use Rattle.form.specs.Show.{show_line, show_tile}
use Rattle.grid.specs.Lists.{flat}
use mathlib.Core.List.{map}
use Rattle.writing.proofs.put_tiles.Given as goal

abbrev pub invariant-loop-i : goal.invariant-loop-i
invariant-loop-i l = Writing (flat (λ t. show_line "tile=" (show_tile t)) (map (tile_at l.numbers) (places 0 l.n))) l.initial.out l.from l.out l.at (flat (λ t. show_line "tile=" (show_tile t)) (map (tile_at l.numbers) (places l.i (l.n - l.i))))
