use Prim.Native.Nat.{◌-◌}
use Rattle.print.proofs.Put.{Writing}
use Rattle.writing.specs.Answered.{places, pair_at}
use Rattle.form.specs.Show.{show_line, show_pair}
use Rattle.grid.specs.Lists.{flat}
use mathlib.Core.List.{map}
use Rattle.writing.proofs.put_pending.Given as goal

abbrev pub invariant-loop-i : goal.invariant-loop-i
invariant-loop-i l = Writing (flat (λ p. show_line "pend=" (show_pair p)) (map (pair_at l.numbers) (places 0 l.n))) l.initial.out l.from l.out l.at (flat (λ p. show_line "pend=" (show_pair p)) (map (pair_at l.numbers) (places l.i (l.n - l.i))))
