-- A window's discovery, key by key.
--
-- found_at: what discover_times finds of a key, from the runs of a call: its new times, the pending list, the input, and the times of the old output
use Rattle.std.specs.Prelude.{ℕ, List}
use Rattle.grid.specs.Records.{Row}
use Rattle.rules.specs.Discover.{State, discover}
use Rattle.rules.specs.Call.{edits_of, pending_of}

unfoldable pub found_at : List ℕ → List (ℕ × ℕ) → List (ℕ × ℕ) → List Row → List (ℕ × ℕ) → ℕ → State
found_at upper new pending input out k = discover upper (pending_of k new) (pending_of k pending) (edits_of k input) (pending_of k out)
