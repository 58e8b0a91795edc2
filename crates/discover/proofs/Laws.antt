-- A state of discover_times as the code answers it.
--
-- answered D moments pended: the state D with the moments and the pended times of an answer
use Prim.Native.Nat.{ℕ}
use mathlib.Core.List.{List}
use Rattle.rules.specs.Discover.{State}

abbrev pub answered : State → List ℕ → List ℕ → State
answered D moments pended =
    record {
      seeds = D.seeds;
      pending = D.pending;
      input = D.input;
      output = D.output;
      waiting = D.waiting;
      tracked = D.tracked;
      m = D.m;
      moments = moments;
      pended = pended;
      over = D.over;
    }
