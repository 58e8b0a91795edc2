-- head_with xs o: the lesser of the head of xs and o, where they are there
use Rattle.std.specs.Prelude.{ℕ, List, [], ◌∷◌}
use Rattle.std.proofs.Math.Option.{Option, some}
use Rattle.rules.specs.Discover.{lesser}

unfoldable pub head_with : List ℕ → Option ℕ → Option ℕ
head_with [] o = o
head_with (x ∷ xs) o = some (lesser x o)
