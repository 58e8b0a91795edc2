-- What is printed for the bytes of a request.
--
-- Replied text out out' n: out' is the whole text, which has n bytes, and then what out held. The last two fields follow from the others: with them a
-- caller that lends the front &out[..n] needs no proof
use Rattle.std.specs.Prelude.{ℕ, ◌≤◌, List, ◌++◌, ◌≡◌, length, take, drop}

pub record Replied (text out out' : List ℕ) (n : ℕ) : Type 0 where
  pub long : n ≡ length text
  pub holds : out' ≡ text ++ drop n out
  pub fits : n ≤ length out'
  pub counts : n ≡ length (take n out')
