-- What is said of an answer, from what was written of it.
--
-- nothing_tells, quiet_tells, worked_tells: of calls that come to nothing, that are quiet, and that worked
-- says_over, says_many, says_large, says_worked: of a call whose windows are done: 18, 18, 19 or 0. ready: what is written in the last case
use Prim.Native.Nat.{ℕ, ◌+◌, ◌-◌, ◌≤◌, ◌<◌, min}
use native.Mathlib.Nat.{sub-zero}
use native.Mathlib.Omega.{arith}
use mathlib.Core.Bool.{true, false, ◌&&◌}
use mathlib.Core.List.{List}
use mathlib.Core.Path.{◌≡◌, refl, sym}
use lib.Dec.{leb}
use lib.IntN.{ℤ}
use lib.ListN.{length, take, length-take}
use borrow.Author.Tests.{lt-ltb, le-ltb}
use Rattle.std.specs.Prelude.{Option, Some, None}
use Rattle.grid.specs.Frontiers.{most_times, minimal}
use Rattle.grid.specs.Slices.{laid}
use Rattle.times.specs.Fitted.{fitted}
use Rattle.grid.specs.Records.{Row, rows, pairs}
use Rattle.grid.proofs.Operations.{pairs-times}
use Rattle.rules.specs.Call.{Answer, refused, quiet_answer}
use Rattle.answers.proofs.Frontier.{frontier_found, frontier_over}
use Rattle.results.specs.Told.{Told, Counted, Published, QuietTold, NothingTold, Ready, published}
use Rattle.requests.specs.Statuses.{number_of}
use Rattle.requests.specs.declared.status.Status.{Status}
use Rattle.results.specs.declared.worked.Counts.{Counts}
use Rattle.answers.specs.Tells.{Tells, TellsQuiet, Concludes, concluded}
use Rattle.answers.specs.declared.Outcome.{Outcome}
use Rattle.answers.specs.declared.Course.{Course}

-- an outcome with these counts
abbrev pub outcome : Status → ℕ → Counts → Outcome
outcome status crossings n = record { status = status; crossings = crossings; tiles = n.tiles; fixes = n.fixes; pending = n.pending; frontier = n.frontier }

counted_tells : {a : Answer} {n : Counts} {res res' : List ℕ} {rd rd' : List ℤ} (s : Status) → number_of s ≡ a.status → Counted a n → Told a res res' rd rd' → Tells a (outcome s a.crossings n) res res' rd rd'
counted_tells s e c t = record {
  status_is = e;
  crossings_are = refl;
  tiles-many = c.tiles-counted;
  fixes-many = c.fixes-counted;
  pending_many = c.pending_counted;
  frontier_many = c.frontier_counted;
  told = t;
}

module _ {n : Counts} {res res' : List ℕ} {rd rd' : List ℤ} where
  pub nothing_tells : (status : Status) → (leb 11 (number_of status) && leb (number_of status) 17) ≡ false → NothingTold res res' rd rd' n → Tells (refused (number_of status)) (outcome status 0 n) res res' rd rd'
  unfolding refused
  nothing_tells status e t = counted_tells status refl (t.counted (number_of status)) (t.told (number_of status) e)

  pub quiet_tells : {held pendkeys pendtimes : List ℕ} → QuietTold held pendkeys pendtimes res res' rd rd' n → TellsQuiet held pendkeys pendtimes (outcome (record { 0 = 1 }) 0 n) res res' rd rd'
  unfolding quiet_answer
  quiet_tells t = record { tells = λ q h p. counted_tells (record { 0 = 1 }) refl (t.counted q h p) (t.told q h p) }

  pub worked_tells : {keys values times : List ℕ} {diffs : List ℤ} {pendkeys pendtimes frontier lower upper held : List ℕ} (crossings : ℕ) → Published keys values times diffs pendkeys pendtimes frontier lower upper held res res' rd rd' n
      → Tells (published crossings lower upper held (rows keys values times diffs) (pairs pendkeys pendtimes) frontier) (outcome (record { 0 = 0 }) crossings n) res res' rd rd'
  unfolding published
  worked_tells crossings t = counted_tells (record { 0 = 0 }) refl (t.counted crossings) (t.told crossings)

-- ---- which answer it is
module _ (c : Course) (lower upper held : List ℕ) (rs : List Row) (ks ts : List ℕ) where
  abbrev one : Answer
  one = concluded c lower upper held rs (pairs ks ts)

  concluded-over : c.over ≡ true → one ≡ refused 18
  unfolding concluded
  concluded-over e = rw e

  module _ (e : c.over ≡ false) (same : length ks ≡ length ts) where
    concluded-many : most_times < length (minimal ts) → one ≡ refused 18
    unfolding concluded
    concluded-many h = rw (e, pairs-times ks ts (sym same), lt-ltb most_times (length (minimal ts)) h)

    concluded_large : length (minimal ts) ≤ most_times → c.large ≡ true → one ≡ refused 19
    unfolding concluded
    concluded_large h l = rw (e, pairs-times ks ts (sym same), le-ltb most_times (length (minimal ts)) h, l)

    concluded-worked : length (minimal ts) ≤ most_times → c.large ≡ false → one ≡ published c.crossings lower upper held rs (pairs ks ts) (minimal ts)
    unfolding concluded
    concluded-worked h l = rw (e, pairs-times ks ts (sym same), le-ltb most_times (length (minimal ts)) h, l)

-- ---- the call, branch by branch
module _ {most : ℕ} {c : Course} {lower upper held keys values times : List ℕ} {diffs : List ℤ} {pendkeys pendtimes out places work res : List ℕ} {rd : List ℤ}
    (C : Concludes most c lower upper held keys values times diffs pendkeys pendtimes out places work res rd) where
  abbrev corrections : List Row
  corrections = rows (take c.fixes keys) (take c.fixes values) (take c.fixes times) (take c.fixes diffs)

  abbrev its : Answer
  its = concluded c lower upper held corrections (pairs (take c.pended pendkeys) (take c.pended pendtimes))

  pub says_over : {r : Outcome} {res' : List ℕ} {rd' : List ℤ} → c.over ≡ true → Tells (refused 18) r res res' rd rd' → Tells its r res res' rd rd'
  says_over e t = rw (concluded-over c lower upper held corrections (take c.pended pendkeys) (take c.pended pendtimes) e) t

  module _ (e : c.over ≡ false) where
    pub pended_within : c.pended ≤ length pendtimes
    pended_within = omega (arith, C.few_pended e, C.room_pendtimes)

    same_long : length (take c.pended pendkeys) ≡ length (take c.pended pendtimes)
    same_long = rw (length-take c.pended pendkeys, length-take c.pended pendtimes) (omega (arith, C.few_pended e, C.room_pendkeys, C.room_pendtimes))

    -- the minimal pended times, as far as there is room for them
    module _ (front : List ℕ) {front' : List ℕ} {o : Option ℕ} (long : length front ≡ most_times)
        (N : (o ≡ fitted (length (minimal (take c.pended pendtimes))) (length front)) × (front' ≡ laid (minimal (take c.pended pendtimes)) front)) where
      pub says_many : {r : Outcome} {res' : List ℕ} {rd' : List ℤ} → o ≡ None → Tells (refused 18) r res res' rd rd' → Tells its r res res' rd rd'
      says_many n t =
          rw (concluded-many c lower upper held corrections (take c.pended pendkeys) (take c.pended pendtimes) e same_long (omega (arith, frontier_over (take c.pended pendtimes) front N n))) t

      module _ {f : ℕ} (n : o ≡ Some f) where
        few : length (minimal (take c.pended pendtimes)) ≤ most_times
        few = let k = (frontier_found (take c.pended pendtimes) front N n).1.0 in omega (arith, k)

        frontier_is : take f front' ≡ minimal (take c.pended pendtimes)
        frontier_is = (frontier_found (take c.pended pendtimes) front N n).1.1

        pub frontier_fits : f ≤ most_times
        frontier_fits = let k = frontier_found (take c.pended pendtimes) front N n in omega (arith, k.0, k.1.0)

        pub says_large : {r : Outcome} {res' : List ℕ} {rd' : List ℤ} → c.large ≡ true → Tells (refused 19) r res res' rd rd' → Tells its r res res' rd rd'
        says_large l t = rw (concluded_large c lower upper held corrections (take c.pended pendkeys) (take c.pended pendtimes) e same_long few l) t

        module _ (l : c.large ≡ false) where
          pub ready : Ready keys values times diffs c.fixes pendkeys pendtimes c.pended (take f front') lower upper held out places work res rd
          ready = record {
            few_fixes = omega (arith, C.few_fixes e l, C.room_few);
            in_keys = omega (arith, C.few_fixes e l, C.room_keys);
            in_values = omega (arith, C.few_fixes e l, C.room_values);
            in_times = omega (arith, C.few_fixes e l, C.room_times);
            in_diffs = omega (arith, C.few_fixes e l, C.room_diffs);
            few_pending = omega (arith, C.few_pended e, C.room_few);
            in_pendkeys = omega (arith, C.few_pended e, C.room_pendkeys);
            in_pendtimes = pended_within;
            few_frontier = rw frontier_is few;
            few_lower = C.few_lower;
            few_upper = C.few_upper;
            few_held = C.few_held;
            room_out = omega (arith, C.few_fixes e l, C.room_out);
            room_places = omega (arith, C.few_fixes e l, C.room_places);
            room_work = omega (arith, C.few_fixes e l, C.room_work);
            wide_numbers = C.wide_numbers;
            wide_diffs = C.wide_diffs;
          }

          pub says_worked : {r : Outcome} {res' : List ℕ} {rd' : List ℤ} → Tells (published c.crossings lower upper held corrections (pairs (take c.pended pendkeys) (take c.pended pendtimes)) (take f front')) r res res' rd rd' → Tells its r res res' rd rd'
          says_worked t =
              let t' = rw frontier_is at t in
              rw (concluded-worked c lower upper held corrections (take c.pended pendkeys) (take c.pended pendtimes) e same_long few l) t'
