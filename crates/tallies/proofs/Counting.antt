-- What is counted of one key.
--
-- tallied_more: the tally, where no limit was passed and the next list has room
use Rattle.std.specs.Prelude.{Some}
use Prim.Native.Nat.{ℕ, ◌+◌, ◌≤◌}
use native.Mathlib.Omega.{arith}
use mathlib.Core.Bool.{Bool, true, false, ◌||◌}
use mathlib.Core.Path.{◌≡◌, refl, sym, ◌∙◌, ap}
use borrow.Author.Tests.{le-ltb}
use Rattle.discover.specs.declared.Found.{Found}
use Rattle.tallies.specs.Tallied.{Counts, Tallied}
use Rattle.tallies.specs.declared.Tally.{Tally}

or_none : (a : Bool) → (a || false) ≡ a
or_none true = refl
or_none false = refl

pub tallied_more : {p : Tally} (f : Found) (most n : ℕ) → Counts p (Some f) → n ≤ most → Tallied most p (Some f) n (record { moments = p.moments + f.moments; pended = n; over = p.over })
tallied_more {p} f most n c h =
    record {
      over_is = sym (ap (λ b. p.over || b) (le-ltb most n h) ∙ or_none p.over);
      moments_few = omega (arith, c.found_few);
      pended_few = λ _. h;
      moments_are = λ _. refl;
      pended_are = λ _. (refl, h);
    }
