-- The loop that compares lengths with sizes.
--
-- room_short: fewer lengths than sizes. room_hit, room_miss, room_end: the length at i is too short, is enough, all sizes are read
use Prim.Native.Nat.{ℕ, ◌+◌, ◌≤◌, ◌<◌}
use native.Mathlib.Omega.{arith}
use native.Mathlib.Numerals.{add-one}
use mathlib.Core.Bool.{Bool, true, false}
use mathlib.Core.List.{List, [], ◌∷◌}
use mathlib.Core.Path.{◌≡◌, refl}
use lib.Dec.{leb}
use lib.ListN.{length, drop, get_or, drop_of_length-le}
use lib.Seq.{drop-cons}
use borrow.Author.Tests.{le-leb, lt-leb}
use Rattle.grid.proofs.Tests.{by-test}
use Rattle.checks.specs.Checks.{room_for}

pub room_short : (ns ls : List ℕ) → length ls < length ns → false ≡ room_for ns ls
room_short [] ls h = absurd (omega arith)
room_short (n ∷ ns) [] h = refl
room_short (n ∷ ns) (l ∷ ls) h = by-test (leb n l) (λ e. rw e (room_short ns ls (omega arith))) (λ e. rw e)

module _ (ns ls : List ℕ) (i : ℕ) {a : Bool} where
  pub room_hit : i < length ns → length ns ≤ length ls → room_for (drop i ns) (drop i ls) ≡ a → get_or ls i 0 < get_or ns i 0 → false ≡ a
  room_hit h k e t = rw (← e, drop-cons ns i 0 h, drop-cons ls i 0 (omega arith), lt-leb (get_or ns i 0) (get_or ls i 0) t)

  pub room_miss : i < length ns → length ns ≤ length ls → room_for (drop i ns) (drop i ls) ≡ a → get_or ns i 0 ≤ get_or ls i 0 → room_for (drop (i + 1) ns) (drop (i + 1) ls) ≡ a
  room_miss h k e t = rw (← e, drop-cons ns i 0 h, drop-cons ls i 0 (omega arith), le-leb (get_or ns i 0) (get_or ls i 0) t, add-one)

  pub room_end : length ns ≤ i → room_for (drop i ns) (drop i ls) ≡ a → true ≡ a
  room_end h e = rw (← e, drop_of_length-le ns {i = i} h)
