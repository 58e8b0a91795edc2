-- "The key's records are the part of the lent run that has this key, found once and handed back as that part."
--
-- Reaches keys start k: the keys ascend, equals allowed, and those before `start` are below k, so that the part of k is found from there on
-- Spans keys start k s: from `start` on, s is past the keys below k, and then past those that equal it
-- Within n s: s is a part of a column of length n
-- Level: the four columns of a run are of one length
use Rattle.std.specs.Prelude.{ℕ, ◌+◌, ◌≤◌, ◌<◌, List, ◌≡◌, eqb, leb, ltb, ℤ, length, take, drop}
use Rattle.grid.specs.Lists.{front}
use Rattle.grid.proofs.Lists.{All}
use Rattle.grid.proofs.Sort.{Sorted}
use Rattle.keys.specs.declared.Span.{Span}

pub record Reaches (keys : List ℕ) (start k : ℕ) : Type 0 where
  pub ascends : Sorted leb keys
  pub within : start ≤ length keys
  pub passed : All (λ x. x < k) (take start keys)

pub record Spans (keys : List ℕ) (start k : ℕ) (s : Span) : Type 0 where
  pub from_is : s.from ≡ start + length (front (λ x. ltb x k) (drop start keys))
  pub to_is : s.to ≡ s.from + length (front (eqb k) (drop s.from keys))

pub record Within (n : ℕ) (s : Span) : Type 0 where
  pub ordered : s.from ≤ s.to
  pub inside : s.to ≤ n

pub record Level (keys values times : List ℕ) (diffs : List ℤ) : Type 0 where
  pub values_long : length values ≡ length keys
  pub times_long : length times ≡ length keys
  pub diffs_long : length diffs ≡ length keys
