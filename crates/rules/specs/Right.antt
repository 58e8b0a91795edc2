-- The plain reading of rightness: "a collection at t is the sum of the differences at times at or below t"; the output is right at t if what
-- is seen of it there is the reduction of what is seen there of the input.
--
-- Right: of one key's edits at t
-- RightAt: of all keys of two runs at t
-- with_fixes: an output run with the corrections of an answer
-- touched: some new or pending time of the key is at or below t
use Rattle.std.specs.Prelude.{ℕ, Bool, List, ◌++◌, map, ◌≡◌}
use Rattle.grid.specs.Lists.{any}
use Rattle.grid.specs.Times.{below}
use Rattle.grid.specs.Records.{Row}
use Rattle.rules.specs.Histories.{Edit}
use Rattle.rules.specs.Backends.{wanted}
use Rattle.rules.specs.Retire.{seen}
use Rattle.rules.specs.Call.{Request, Fix, Answer, edits_of, times_of, pending_of}

pub record Right (mode : ℕ) (input output : List Edit) (t : ℕ) : Type 0 where
  pub is_reduction : seen t output ≡ wanted mode (seen t input)

pub record RightAt (mode : ℕ) (input output : List Row) (t : ℕ) : Type 0 where
  pub each_key : (k : ℕ) → Right mode (edits_of k input) (edits_of k output) t

unfoldable pub with_fixes : List Row → Answer → List Row
with_fixes out a = out ++ map (λ (f : Fix). f.row) a.fixes

unfoldable pub touched : Request → ℕ → ℕ → Bool
touched q k t = any (λ s. below s t) (times_of k q.new ++ pending_of k q.pending)
