-- discover_times, per key: steps 1 to 5 of document 01, each sentence at its definition below.
--
-- State: the five things that are replayed (seeds, pending, input, output, waiting joins), the tracked times, the meet m, and what was found
-- next: step 2. interesting: step 3. made, acted: steps 3 and 4. remeet: step 5. step: all of them at n
-- start: step 1. run: at most k steps. discover: the whole
use Rattle.std.specs.Prelude.{ℕ, zero, suc, ◌+◌, Bool, false, cond, ◌&&◌, ◌||◌, not, List, [], ◌∷◌, ◌++◌, map, ltb, eqb, length, take}
use Rattle.std.proofs.Math.Option.{Option, none, some}
use Rattle.grid.specs.Lists.{any, keep, front, past}
use Rattle.grid.specs.Times.{join, below, joined, meets, put, puts}
use Rattle.grid.specs.Frontiers.{beyond, short_of}
use Rattle.rules.specs.Histories.{Edit, TimeHistory, ValueHistory, time_of, load_times, load_edits, loaded, stepped, moved, advance_times, advance_edits}

-- the most moments, waiting joins and pended times of a key
abbrev pub most_moments : ℕ
most_moments = 1024

pub record State : Type 0 where
  pub seeds : TimeHistory
  pub pending : List ℕ
  pub input : ValueHistory
  pub output : TimeHistory
  pub waiting : List ℕ
  pub tracked : List ℕ
  pub m : Option ℕ
  pub moments : List ℕ
  pub pended : List ℕ
  -- a limit was passed
  pub over : Bool

-- all that remains to be replayed
unfoldable pub remaining : State → List ℕ
remaining s = s.seeds.ahead ++ (s.pending ++ (map time_of s.input.ahead ++ (s.output.ahead ++ s.waiting)))

-- "1. m is the meet of seeds and pending, absent if there are none. Seeds are the new run's own times. Input (old and new) and output are
-- loaded joined with m. Input is a ValueHistory; seeds and output are TimeHistories, so their edits never cancel."
unfoldable pub start : List ℕ → List ℕ → List Edit → List ℕ → State
start seeds pending input output =
    let m = meets (seeds ++ pending) none in
    record {
      seeds = loaded (load_times none seeds);
      pending = pending;
      input = loaded (load_edits m input);
      output = loaded (load_times m output);
      waiting = [];
      tracked = [];
      m = m;
      moments = [];
      pended = [];
      over = false;
    }

-- "2. n is the least head of seeds, pending, input, output, waiting joins. None: stop." It stops, too, once a limit was passed.
unfoldable pub lesser : ℕ → Option ℕ → ℕ
lesser a none = a
lesser a (some b) = cond (ltb b a) b a

unfoldable pub least : List ℕ → Option ℕ
least [] = none
least (t ∷ ts) = some (lesser t (least ts))

unfoldable pub heads : State → List ℕ
heads s = take 1 s.seeds.ahead ++ (take 1 s.pending ++ (take 1 (map time_of s.input.ahead) ++ (take 1 s.output.ahead ++ take 1 s.waiting)))

unfoldable pub next : State → Option ℕ
next s = cond s.over none (least (heads s))

-- "3. Step all five past n. Popped pending and waiting joins become tracked; popped seeds enter the seed buffer, advanced by m if any was
-- popped."
unfoldable pub seeds_past : ℕ → State → TimeHistory
seeds_past n s =
    let h = stepped (eqb n) s.seeds in
    cond (moved (eqb n) s.seeds.ahead) (record { ahead = h.ahead; buffer = advance_times s.m h.buffer }) h

unfoldable pub tracked_past : ℕ → State → List ℕ
tracked_past n s = s.tracked ++ (front (eqb n) s.pending ++ front (eqb n) s.waiting)

-- the seed_buffer and tracked times
unfoldable pub known : ℕ → State → List ℕ
known n s = (seeds_past n s).buffer ++ tracked_past n s

-- "n is interesting if it was a seed, pending or waiting join, or a seed_buffer or tracked time is at or below it."
unfoldable pub interesting : ℕ → State → Bool
interesting n s =
    (moved (eqb n) s.seeds.ahead || (moved (eqb n) s.pending || moved (eqb n) s.waiting)) || any (λ t. below t n) (known n s)

-- "4. n short of upper: if interesting, advance the input and output buffers by m, join n with each buffered time not at or below n, and
-- record n as a moment."
unfoldable pub is_moment : List ℕ → ℕ → State → Bool
is_moment upper n s = interesting n s && short_of upper n

unfoldable pub input_past : List ℕ → ℕ → State → ValueHistory
input_past upper n s =
    let h = stepped (λ e. eqb n (time_of e)) s.input in
    cond (is_moment upper n s) (record { ahead = h.ahead; buffer = advance_edits s.m h.buffer }) h

unfoldable pub output_past : List ℕ → ℕ → State → TimeHistory
output_past upper n s =
    let h = stepped (eqb n) s.output in
    cond (is_moment upper n s) (record { ahead = h.ahead; buffer = advance_times s.m h.buffer }) h

unfoldable pub joins : ℕ → List ℕ → List ℕ
joins n ts = map (join n) (keep (λ t. not (below t n)) ts)

unfoldable pub made_of_buffers : List ℕ → ℕ → State → List ℕ
made_of_buffers upper n s = cond (is_moment upper n s) (joins n (map time_of (input_past upper n s).buffer ++ (output_past upper n s).buffer)) []

-- "Interesting or not, join n with each seed_buffer and tracked time not at or below n."
unfoldable pub made_short : List ℕ → ℕ → State → List ℕ
made_short upper n s = made_of_buffers upper n s ++ joins n (known n s)

-- at n beyond upper no joins are made
unfoldable pub made_beyond : ℕ → State → List ℕ
made_beyond n s = []

unfoldable pub made : List ℕ → ℕ → State → List ℕ
made upper n s = cond (beyond upper n) (made_beyond n s) (made_short upper n s)

-- "Joins beyond upper are pended, the others wait. n beyond upper: pended if interesting."
unfoldable pub waiting_past : List ℕ → ℕ → State → List ℕ
waiting_past upper n s = puts (keep (short_of upper) (made upper n s)) (past (eqb n) s.waiting)

unfoldable pub pended_past : List ℕ → ℕ → State → List ℕ
pended_past upper n s = puts (keep (beyond upper) (made upper n s)) (cond (beyond upper n && interesting n s) (put n s.pended) s.pended)

unfoldable pub moments_past : List ℕ → ℕ → State → List ℕ
moments_past upper n s = cond (is_moment upper n s) (s.moments ++ (n ∷ [])) s.moments

unfoldable pub passes : List ℕ → Bool
passes ts = ltb most_moments (length ts)

-- steps 3 and 4
unfoldable pub acted : List ℕ → ℕ → State → State
acted upper n s =
    let waiting = waiting_past upper n s in
    let moments = moments_past upper n s in
    let pended = pended_past upper n s in
    record {
      seeds = seeds_past n s;
      pending = past (eqb n) s.pending;
      input = input_past upper n s;
      output = output_past upper n s;
      waiting = waiting;
      tracked = tracked_past n s;
      m = s.m;
      moments = moments;
      pended = pended;
      over = s.over || (passes moments || (passes waiting || passes pended));
    }

-- "5. m becomes the meet of all that remains; tracked times are joined with it, equals removed. Go to 2."
unfoldable pub remeet : State → State
remeet s =
    let m = meets (remaining s) none in
    record {
      seeds = s.seeds;
      pending = s.pending;
      input = s.input;
      output = s.output;
      waiting = s.waiting;
      tracked = puts (map (joined m) s.tracked) [];
      m = m;
      moments = s.moments;
      pended = s.pended;
      over = s.over;
    }

unfoldable pub step : List ℕ → ℕ → State → State
step upper n s = remeet (acted upper n s)

unfoldable pub run : List ℕ → ℕ → State → State
run upper zero s = s
run upper (suc k) s = elim (next s) [ none ↦ s | some n ↦ run upper k (step upper n s) ]

-- each step takes away something that was loaded, or settles a waiting join as one of at most 1,025 moments
unfoldable pub discover : List ℕ → List ℕ → List ℕ → List Edit → List ℕ → State
discover upper seeds pending input output =
    run upper (length seeds + length pending + length input + length output + suc most_moments) (start seeds pending input output)
