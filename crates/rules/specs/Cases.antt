-- "Checks by hand (K1 to K12, proved together). Lower is (0,0) and upper empty unless given." Beside them the smallest requests that show the
-- "errors that look right", and requests for each status and its place in the table. proofs/Cases.antt computes
-- them all.
--
-- Question: a call, or a wave. Outcome: its whole answer; of a worked call also the moments of each changed key, in the keys' order
-- Case: a question and what it gives. outcome: what the rules give
use Rattle.std.specs.Prelude.{ℕ, ◌+◌, true, cond, List, [], ◌∷◌, ◌++◌, map, eqb, ℤ, pos, neg_ℤ}
use Rattle.grid.specs.Times.{hi, lo, at, join, meet, below, joined, meet_onto, meets}
use Rattle.grid.specs.Frontiers.{beyond, comparable, antichain, is_frontier, inserted, all_inserted, minimal}
use Rattle.grid.specs.Records.{Row, rank, rank_before, before, in_range, good_diff, good_run}
use Rattle.rules.specs.Histories.{Edit, time_of, value_of, load_times, joined_edit, load_edits, stepped, moved, advance_times, advance_edits}
use Rattle.rules.specs.Wave.{WaveAnswer, emission, cross, first_steps, advanced_by, step_one, wave, wave_of, good_wave_run, wave_refused, wave_call}
use Rattle.rules.specs.Tiles.{Tile, tiles, place, holder, tile_of}
use Rattle.rules.specs.Discover.{start, lesser, least, heads, next, seeds_past, tracked_past, known, interesting, is_moment, input_past, output_past, joins, made_of_buffers, made_short, made_beyond, made, waiting_past, pended_past, moments_past, passes, acted, remaining, remeet, step, run, discover}
use Rattle.rules.specs.Backends.{count, listed, distinct, wanted, minus, correction}
use Rattle.rules.specs.Retire.{seen, crosses, dated, round_at, settle, crossings}
use Rattle.rules.specs.Call.{Request, Fix, Answer, check11, check12, check13, check14, check15, check16, is_held, check17, quiet, unchanged, verdict, together, changed, edits_of, times_of, pending_of, Done, work, work_all, fixes_of, fix_before, fixes_all, pended_all, crossed_of, too_many, too_large, refused, worked, quiet_answer, call}

pub data Question : Type 0 where
  ask : Request → Question
  waves : List Edit → List Edit → Question

pub data Outcome : Type 0 where
  answered : Answer → List (List ℕ) → Outcome
  emitted : WaveAnswer → Outcome

pub record Case : Type 0 where
  pub given : Question
  pub gives : Outcome

unfoldable pub call_outcome : Request → Outcome
call_outcome q =
    let a = call q in
    let moments = map (λ (d : Done). d.found.moments) (work_all q) in
    answered a (cond (eqb a.status 0) moments [])

unfoldable pub outcome : Question → Outcome
outcome (ask q) = call_outcome q
outcome (waves as' bs) = emitted (wave_call true as' bs)

-- all that an outcome rests on, opened at once
unfoldable pub opened : Question → Outcome
unfolding hi lo at join meet below joined meet_onto meets beyond comparable antichain is_frontier inserted all_inserted minimal
    rank rank_before before in_range good_diff good_run
    time_of value_of load_times joined_edit load_edits stepped moved advance_times advance_edits
    emission cross first_steps advanced_by step_one wave wave_of good_wave_run wave_refused wave_call
    tiles place holder tile_of
    start lesser least heads next seeds_past tracked_past known interesting is_moment input_past output_past joins made_of_buffers made_short made_beyond
    made waiting_past pended_past moments_past passes acted remaining remeet step run discover
    count listed distinct wanted minus correction
    seen crosses dated round_at settle crossings
    check11 check12 check13 check14 check15 check16 is_held check17 quiet unchanged verdict together changed edits_of times_of pending_of work work_all
    fixes_of fix_before fixes_all pended_all crossed_of too_many too_large refused worked quiet_answer call
    call_outcome outcome
opened q = outcome q

-- ---- words for the table
abbrev pub row : ℕ → ℕ → ℕ → ℤ → Row
row k v t d = record { key = k; value = v; time = t; diff = d }

abbrev pub fix : ℕ → ℕ → ℕ → ℕ → ℤ → Fix
fix i k v t d = record { tile = i; row = row k v t d }

abbrev pub tile : List ℕ → List ℕ → ℕ → Tile
tile l u h = record { lower = l; upper = u; held = h }

abbrev pub neg : ℕ → ℤ
neg n = neg_ℤ (pos n)

-- the value id of a count
abbrev pub counted : ℕ → ℕ
counted c = 9223372036854775808 + c

-- mode and width, lower, upper, held; old, new, out, pending
abbrev pub asking : ℕ → ℕ → List ℕ → List ℕ → List ℕ → List Row → List Row → List Row → List (ℕ × ℕ) → Question
asking m w l u h o n t p = ask (record { mode = m; width = w; lower = l; upper = u; held = h; old = o; new = n; out = t; pending = p })

-- status and crossings; tiles; fixes; pending and next frontier; the moments of each changed key
abbrev pub giving : ℕ → ℕ → List Tile → List Fix → List (ℕ × ℕ) → List ℕ → List (List ℕ) → Outcome
giving s c t f p n m = answered (record { status = s; crossings = c; tiles = t; fixes = f; pending = p; frontier = n }) m

abbrev pub refusal : ℕ → Outcome
refusal n = giving n 0 [] [] [] [] []

-- ---- K1 to K12
-- K1: the listing.
k1 : Case
unfolding at
k1 = record {
  given =
      asking 1 1 (at 0 0 ∷ []) [] (at 0 0 ∷ [])
      []
      (row 7 1 (at 0 1) (pos 1) ∷ row 7 1 (at 1 0) (pos 1) ∷ [])
      []
      [];
  gives =
      giving 0 3
      (tile (at 0 0 ∷ []) [] (at 0 0) ∷ [])
      (fix 0 7 (counted 1) (at 0 1) (pos 1) ∷ fix 0 7 (counted 1) (at 1 0) (pos 1) ∷ fix 0 7 (counted 1) (at 1 1) (neg 2) ∷ fix 0 7 (counted 2) (at 1 1) (pos 1) ∷ [])
      [] []
      ((at 0 1 ∷ at 1 0 ∷ at 1 1 ∷ []) ∷ []);
}

abbrev k2_fixes : List Fix
unfolding at
k2_fixes = fix 0 7 (counted 1) (at 0 1) (pos 1) ∷ fix 0 7 (counted 1) (at 1 0) (pos 1) ∷ []

-- K2: the same, upper 1:1: two fixes, pended (1,1), frontier 1:1.
k2 : Case
unfolding at
k2 = record {
  given =
      asking 1 1 (at 0 0 ∷ []) (at 1 1 ∷ []) (at 0 0 ∷ [])
      []
      (row 7 1 (at 0 1) (pos 1) ∷ row 7 1 (at 1 0) (pos 1) ∷ [])
      []
      [];
  gives =
      giving 0 2
      (tile (at 0 0 ∷ []) (at 1 1 ∷ []) (at 0 0) ∷ [])
      k2_fixes
      ((7, at 1 1) ∷ []) (at 1 1 ∷ [])
      ((at 0 1 ∷ at 1 0 ∷ []) ∷ []);
}

-- K3: then lower and held 1:1, pending (7,(1,1)): one moment, fixes -2 and +1. The old output is K2's fixes.
k3 : Case
unfolding at
k3 = record {
  given =
      asking 1 1 (at 1 1 ∷ []) [] (at 1 1 ∷ [])
      (row 7 1 (at 0 1) (pos 1) ∷ row 7 1 (at 1 0) (pos 1) ∷ [])
      []
      (map (λ (f : Fix). f.row) k2_fixes)
      ((7, at 1 1) ∷ []);
  gives =
      giving 0 1
      (tile (at 1 1 ∷ []) [] (at 1 1) ∷ [])
      (fix 0 7 (counted 1) (at 1 1) (neg 2) ∷ fix 0 7 (counted 2) (at 1 1) (pos 1) ∷ [])
      [] []
      ((at 1 1 ∷ []) ∷ []);
}

-- K4: no new, no pending, held 0:0: status 2.
k4 : Case
unfolding at
k4 = record {
  given =
      asking 1 1 (at 0 0 ∷ []) [] (at 0 0 ∷ [])
      []
      []
      []
      [];
  gives =
      giving 2 0
      []
      []
      [] []
      [];
}

-- K5: held 3:3, upper 2:2, pending (7,(4,4)): status 1, frontier 3:3.
k5 : Case
unfolding at
k5 = record {
  given =
      asking 1 1 (at 0 0 ∷ []) (at 2 2 ∷ []) (at 3 3 ∷ [])
      []
      []
      []
      ((7, at 4 4) ∷ []);
  gives =
      giving 1 0
      []
      []
      ((7, at 4 4) ∷ []) (at 3 3 ∷ [])
      [];
}

-- K6: old value 1 +1 and value 2 -1 at (0,4), reversed at (1,4); new value 1 +1 at (2,0): moments (2,0) only.
k6 : Case
unfolding at
k6 = record {
  given =
      asking 1 1 (at 2 0 ∷ []) [] (at 2 0 ∷ [])
      (row 7 1 (at 0 4) (pos 1) ∷ row 7 1 (at 1 4) (neg 1) ∷ row 7 2 (at 0 4) (neg 1) ∷ row 7 2 (at 1 4) (pos 1) ∷ [])
      (row 7 1 (at 2 0) (pos 1) ∷ [])
      []
      [];
  gives =
      giving 0 1
      (tile (at 2 0 ∷ []) [] (at 2 0) ∷ [])
      (fix 0 7 (counted 1) (at 2 0) (pos 1) ∷ [])
      [] []
      ((at 2 0 ∷ []) ∷ []);
}

-- K7: held 0:3;2:0, new at (1,3) and (2,3): tiles to 2:0 and to empty; (1,3) is in the first, (2,3) in the second.
k7 : Case
unfolding at
k7 = record {
  given =
      asking 1 1 (at 0 0 ∷ []) [] (at 0 3 ∷ at 2 0 ∷ [])
      []
      (row 7 1 (at 1 3) (pos 1) ∷ row 8 1 (at 2 3) (pos 1) ∷ [])
      []
      [];
  gives =
      giving 0 2
      (tile (at 0 0 ∷ []) (at 2 0 ∷ []) (at 0 3) ∷ tile (at 2 0 ∷ []) [] (at 2 0) ∷ [])
      (fix 0 7 (counted 1) (at 1 3) (pos 1) ∷ fix 1 8 (counted 1) (at 2 3) (pos 1) ∷ [])
      [] []
      ((at 1 3 ∷ []) ∷ (at 2 3 ∷ []) ∷ []);
}

-- K8: lower and held 0:3;2:0, upper 0:3, new at (2,1): the first held time has no tile.
k8 : Case
unfolding at
k8 = record {
  given =
      asking 1 1 (at 0 3 ∷ at 2 0 ∷ []) (at 0 3 ∷ []) (at 0 3 ∷ at 2 0 ∷ [])
      []
      (row 7 1 (at 2 1) (pos 1) ∷ [])
      []
      [];
  gives =
      giving 0 1
      (tile (at 0 3 ∷ at 2 0 ∷ []) (at 0 3 ∷ []) (at 2 0) ∷ [])
      (fix 0 7 (counted 1) (at 2 1) (pos 1) ∷ [])
      [] []
      ((at 2 1 ∷ []) ∷ []);
}

-- K9: new at (0,1), held 1:0: 17.
k9 : Case
unfolding at
k9 = record {
  given =
      asking 1 1 (at 0 0 ∷ []) [] (at 1 0 ∷ [])
      []
      (row 7 1 (at 0 1) (pos 1) ∷ [])
      []
      [];
  gives = refusal 17;
}

-- K10: wave of (1,(0,1),2) and (9,(0,1),3): one emission, diff 6.
k10 : Case
unfolding at
k10 = record {
  given = waves (((at 0 1, 1), pos 2) ∷ []) (((at 0 1, 9), pos 3) ∷ []);
  gives = emitted (record { status = 0; emitted = ((at 0 1, (1, 9)), pos 6) ∷ [] });
}

-- K11: pending (3,(0,1)), new (3,5,(0,2),1): two rounds, crossings 1.
k11 : Case
unfolding at
k11 = record {
  given =
      asking 1 1 (at 0 0 ∷ []) [] (at 0 0 ∷ [])
      []
      (row 3 5 (at 0 2) (pos 1) ∷ [])
      []
      ((3, at 0 1) ∷ []);
  gives =
      giving 0 1
      (tile (at 0 0 ∷ []) [] (at 0 0) ∷ [])
      (fix 0 3 (counted 1) (at 0 2) (pos 1) ∷ [])
      [] []
      ((at 0 1 ∷ at 0 2 ∷ []) ∷ []);
}

-- K12: old output value 1 with -2^31 at (0,0) and (0,1): 19;
k12a : Case
unfolding at
k12a = record {
  given =
      asking 1 1 (at 0 2 ∷ []) [] (at 0 2 ∷ [])
      []
      []
      (row 7 1 (at 0 0) (neg 2147483648) ∷ row 7 1 (at 0 1) (neg 2147483648) ∷ [])
      ((7, at 0 2) ∷ []);
  gives = refusal 19;
}

-- with the first only, one fix of +2^31.
k12b : Case
unfolding at
k12b = record {
  given =
      asking 1 1 (at 0 2 ∷ []) [] (at 0 2 ∷ [])
      []
      []
      (row 7 1 (at 0 0) (neg 2147483648) ∷ [])
      ((7, at 0 2) ∷ []);
  gives =
      giving 0 1
      (tile (at 0 2 ∷ []) [] (at 0 2) ∷ [])
      (fix 0 7 1 (at 0 2) (pos 2147483648) ∷ [])
      [] []
      ((at 0 2 ∷ []) ∷ []);
}

unfoldable pub by_hand : List Case
unfolding k1 k2 k3 k4 k5 k6 k7 k8 k9 k10 k11 k12a k12b
by_hand = k1 ∷ k2 ∷ k3 ∷ k4 ∷ k5 ∷ k6 ∷ k7 ∷ k8 ∷ k9 ∷ k10 ∷ k11 ∷ k12a ∷ k12b ∷ []

-- ---- errors that look right, and readings

-- Taking seeds from the merged run: the new record cancels an old one that load brings to its time.
merged_seeds : Case
unfolding at
merged_seeds = record {
  given =
      asking 1 1 (at 1 3 ∷ []) [] (at 1 3 ∷ [])
      (row 1 1 (at 0 3) (pos 1) ∷ row 1 1 (at 2 1) (pos 1) ∷ [])
      (row 1 1 (at 1 3) (neg 1) ∷ [])
      []
      [];
  gives =
      giving 0 1
      (tile (at 1 3 ∷ []) [] (at 1 3) ∷ [])
      (fix 0 1 (counted 1) (at 2 3) (pos 1) ∷ [])
      [] []
      ((at 1 3 ∷ at 2 3 ∷ []) ∷ []);
}

-- Advancing by the meet after n is gone from it.
late_meet : Case
unfolding at
late_meet = record {
  given =
      asking 1 1 (at 2 0 ∷ []) [] (at 2 0 ∷ [])
      (row 1 1 (at 0 1) (pos 1) ∷ [])
      (row 1 1 (at 2 2) (pos 1) ∷ row 1 1 (at 3 0) (pos 1) ∷ [])
      []
      [];
  gives =
      giving 0 4
      (tile (at 2 0 ∷ []) [] (at 2 0) ∷ [])
      (fix 0 1 (counted 1) (at 3 0) (pos 1) ∷ fix 0 1 (counted 1) (at 3 1) (neg 1) ∷ fix 0 1 (counted 2) (at 2 2) (pos 1) ∷ fix 0 1 (counted 2) (at 3 1) (pos 1) ∷ fix 0 1 (counted 2) (at 3 2) (neg 2) ∷ fix 0 1 (counted 3) (at 3 2) (pos 1) ∷ [])
      [] []
      ((at 2 2 ∷ at 3 0 ∷ at 3 1 ∷ at 3 2 ∷ []) ∷ []);
}

-- Synthesising only at interesting n.
quiet_joins : Case
unfolding at
quiet_joins = record {
  given =
      asking 1 1 (at 0 1 ∷ []) [] (at 0 1 ∷ [])
      (row 3 2 (at 1 0) (pos 1) ∷ [])
      (row 3 1 (at 2 1) (pos 1) ∷ row 3 2 (at 0 2) (pos 1) ∷ [])
      []
      [];
  gives =
      giving 0 4
      (tile (at 0 1 ∷ []) [] (at 0 1) ∷ [])
      (fix 0 3 (counted 1) (at 0 2) (pos 1) ∷ fix 0 3 (counted 1) (at 1 2) (neg 1) ∷ fix 0 3 (counted 2) (at 1 2) (pos 1) ∷ fix 0 3 (counted 2) (at 2 1) (pos 1) ∷ fix 0 3 (counted 2) (at 2 2) (neg 2) ∷ fix 0 3 (counted 3) (at 2 2) (pos 1) ∷ [])
      [] []
      ((at 0 2 ∷ at 1 2 ∷ at 2 1 ∷ at 2 2 ∷ []) ∷ []);
}

-- Distinct lists each value whose sum is not 0 once, above or below 0.
each_once : Case
unfolding at
each_once = record {
  given =
      asking 2 1 (at 0 0 ∷ []) [] (at 0 0 ∷ [])
      []
      (row 7 1 (at 0 0) (pos 2) ∷ row 7 2 (at 0 0) (neg 1) ∷ row 7 3 (at 0 0) (pos 1) ∷ row 7 3 (at 1 0) (neg 1) ∷ [])
      []
      [];
  gives =
      giving 0 2
      (tile (at 0 0 ∷ []) [] (at 0 0) ∷ [])
      (fix 0 7 1 (at 0 0) (pos 1) ∷ fix 0 7 2 (at 0 0) (pos 1) ∷ fix 0 7 3 (at 0 0) (pos 1) ∷ fix 0 7 3 (at 1 0) (neg 1) ∷ [])
      [] []
      ((at 0 0 ∷ at 1 0 ∷ []) ∷ []);
}

-- Count of values whose total is 0: they cross, and nothing is wanted.
zero_total : Case
unfolding at
zero_total = record {
  given =
      asking 1 1 (at 0 0 ∷ []) [] (at 0 0 ∷ [])
      []
      (row 7 1 (at 0 0) (pos 1) ∷ row 7 2 (at 0 0) (neg 1) ∷ [])
      []
      [];
  gives =
      giving 0 1
      (tile (at 0 0 ∷ []) [] (at 0 0) ∷ [])
      []
      [] []
      ((at 0 0 ∷ []) ∷ []);
}

-- Three keys in windows of two: the rounds of the first window are its longest list of moments.
windowed : Case
unfolding at
windowed = record {
  given =
      asking 1 2 (at 0 0 ∷ []) [] (at 0 0 ∷ [])
      []
      (row 1 1 (at 0 0) (pos 1) ∷ row 2 1 (at 0 1) (pos 1) ∷ row 2 1 (at 1 0) (pos 1) ∷ row 3 1 (at 0 0) (pos 1) ∷ [])
      []
      [];
  gives =
      giving 0 4
      (tile (at 0 0 ∷ []) [] (at 0 0) ∷ [])
      (fix 0 1 (counted 1) (at 0 0) (pos 1) ∷ fix 0 2 (counted 1) (at 0 1) (pos 1) ∷ fix 0 2 (counted 1) (at 1 0) (pos 1) ∷ fix 0 2 (counted 1) (at 1 1) (neg 2) ∷ fix 0 2 (counted 2) (at 1 1) (pos 1) ∷ fix 0 3 (counted 1) (at 0 0) (pos 1) ∷ [])
      [] []
      ((at 0 0 ∷ []) ∷ (at 0 1 ∷ at 1 0 ∷ at 1 1 ∷ []) ∷ (at 0 0 ∷ []) ∷ []);
}

-- A held time beyond upper has a tile if its cut differs from the last kept one.
held_beyond : Case
unfolding at
held_beyond = record {
  given =
      asking 1 1 (at 0 0 ∷ []) (at 0 3 ∷ []) (at 0 3 ∷ at 2 0 ∷ [])
      []
      (row 7 1 (at 2 1) (pos 1) ∷ [])
      []
      [];
  gives =
      giving 0 1
      (tile (at 0 0 ∷ []) (at 0 3 ∷ at 2 0 ∷ []) (at 0 3) ∷ tile (at 0 3 ∷ at 2 0 ∷ []) (at 0 3 ∷ []) (at 2 0) ∷ [])
      (fix 1 7 (counted 1) (at 2 1) (pos 1) ∷ [])
      [] []
      ((at 2 1 ∷ []) ∷ []);
}

-- A wave whose heads are equal twice: the second history steps, and a buffer is emitted by ascending value.
equal_heads : Case
unfolding at
equal_heads = record {
  given = waves (((at 0 1, 1), pos 2) ∷ ((at 1 0, 2), pos 1) ∷ []) (((at 1 0, 8), pos 1) ∷ ((at 0 1, 9), pos 3) ∷ []);
  gives = emitted (record { status = 0; emitted = ((at 0 1, (1, 9)), pos 6) ∷ ((at 1 1, (1, 8)), pos 2) ∷ ((at 1 0, (2, 8)), pos 1) ∷ ((at 1 1, (2, 9)), pos 3) ∷ [] });
}

unfoldable pub misleading : List Case
unfolding merged_seeds late_meet quiet_joins each_once zero_total windowed held_beyond equal_heads
misleading = merged_seeds ∷ late_meet ∷ quiet_joins ∷ each_once ∷ zero_total ∷ windowed ∷ held_beyond ∷ equal_heads ∷ []

-- ---- each status of the table, and which of several rows wins

-- lower 1:1, a new record of key 7 at 1:1, and the rest as given
abbrev crowded : ℕ → List ℕ → List ℕ → ℕ → ℤ → List (ℕ × ℕ) → Question
unfolding at
crowded width upper held old_time new_diff pending =
    asking 1 width (at 1 1 ∷ []) upper held (row 7 1 old_time (pos 1) ∷ []) (row 7 1 (at 1 1) new_diff ∷ []) [] pending

abbrev once : List (ℕ × ℕ)
unfolding at
once = (7, at 1 1) ∷ []

abbrev twice : List (ℕ × ℕ)
unfolding at
twice = (7, at 1 1) ∷ (7, at 1 1) ∷ []

-- 17 pending times of key 7, no two of them comparable
abbrev many : List (ℕ × ℕ)
unfolding at
many =
    (7, at 1 18) ∷ (7, at 2 17) ∷ (7, at 3 16) ∷ (7, at 4 15) ∷ (7, at 5 14) ∷ (7, at 6 13) ∷ (7, at 7 12) ∷ (7, at 8 11) ∷ (7, at 9 10)
    ∷ (7, at 10 9) ∷ (7, at 11 8) ∷ (7, at 12 7) ∷ (7, at 13 6) ∷ (7, at 14 5) ∷ (7, at 15 4) ∷ (7, at 16 3) ∷ (7, at 17 2) ∷ []

unfoldable pub statuses : List Case
unfolding at
statuses =
    -- the rows 11 to 17 hold; then 12 to 17, and so on
    record { given = crowded 0 (at 5 5 ∷ at 5 5 ∷ []) (at 0 3 ∷ []) (at 2 2) (pos 0) twice; gives = refusal 11 }
    ∷ record { given = crowded 1 (at 5 5 ∷ at 5 5 ∷ []) (at 0 3 ∷ []) (at 2 2) (pos 0) twice; gives = refusal 12 }
    ∷ record { given = crowded 1 (at 5 5 ∷ []) (at 0 3 ∷ []) (at 2 2) (pos 0) twice; gives = refusal 13 }
    ∷ record { given = crowded 1 (at 5 5 ∷ []) (at 1 3 ∷ []) (at 2 2) (pos 0) twice; gives = refusal 14 }
    ∷ record { given = crowded 1 (at 5 5 ∷ []) (at 1 3 ∷ []) (at 2 2) (pos 1) twice; gives = refusal 15 }
    ∷ record { given = crowded 1 (at 5 5 ∷ []) (at 1 3 ∷ []) (at 2 2) (pos 1) once; gives = refusal 16 }
    -- 17 and 1
    ∷ record { given = crowded 1 (at 5 5 ∷ []) (at 6 6 ∷ []) (at 0 2) (pos 1) once; gives = refusal 17 }
    -- 1 and 2
    ∷ record { given = asking 1 1 (at 0 0 ∷ []) (at 5 5 ∷ []) (at 6 6 ∷ []) [] [] [] []; gives = giving 1 0 [] [] [] (at 6 6 ∷ []) [] }
    -- a next frontier of 17 times for key 7, and K12's correction out of range for key 9: 18 and 19
    ∷ record { given = asking 1 1 (at 0 2 ∷ []) (at 1 2 ∷ []) (at 0 2 ∷ []) [] [] (row 9 1 (at 0 0) (neg 2147483648) ∷ row 9 1 (at 0 1) (neg 2147483648) ∷ []) (many ++ (9, at 0 2) ∷ []); gives = refusal 18 }
    ∷ []
