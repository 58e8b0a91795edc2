use Prim.Native.Nat.{◌-◌}
use Rattle.print.proofs.Put.{Writing}
use Rattle.writing.specs.Answered.{places, fix_at}
use Rattle.form.specs.Show.{show_line, show_fix}
use Rattle.grid.specs.Lists.{flat}
use mathlib.Core.List.{map}
use Rattle.writing.proofs.put_fixes.Given as goal

abbrev pub invariant-loop-i : goal.invariant-loop-i
invariant-loop-i l = Writing (flat (λ f. show_line "fix=" (show_fix f)) (map (fix_at l.numbers l.diffs) (places 0 l.n))) l.initial.out l.from l.out l.at (flat (λ f. show_line "fix=" (show_fix f)) (map (fix_at l.numbers l.diffs) (places l.i (l.n - l.i))))
