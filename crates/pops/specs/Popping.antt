-- What stepping all five past n does to the columns.
--
-- seeds_after m n h: the seeds h stepped past n, their buffer advanced by m if any was
-- SeedsStepped: so were the seeds of a column
-- Tracking: the pending times equal to n went to the tracked times
-- Taking: the waiting join n, if there is one, went to the tracked times
-- Popping: all that is equal to n went where it goes
use Rattle.std.specs.Prelude.{ℕ, ◌+◌, ◌≤◌, Bool, cond, ◌||◌, List, ◌++◌, ◌≡◌, ltb, eqb, length, take, drop}
use Rattle.std.proofs.Math.Option.{Option}
use Rattle.grid.specs.Lists.{front, past}
use Rattle.times.specs.Meets.{optional}
use Rattle.rules.specs.Histories.{Edit, TimeHistory, time_of, stepped, moved, advance_times}
use Rattle.histories.specs.Places.{history_of, Placed}
use Rattle.histories.specs.declared.Place.{Place}
use Rattle.histories.specs.declared.Stepped.{Stepped}
use Rattle.joins.specs.Sets.{Set}
use Rattle.pops.specs.declared.Walk.{Walk}
use Rattle.pops.specs.declared.Taken.{Taken}

unfoldable pub seeds_after : Option ℕ → ℕ → TimeHistory → TimeHistory
seeds_after m n h =
    let g = stepped (eqb n) h in
    cond (moved (eqb n) h.ahead) (record { ahead = g.ahead; buffer = advance_times m g.buffer }) g

pub record SeedsStepped (m : Option ℕ) (n : ℕ) (col : List ℕ) (p : Place) (col' : List ℕ) (r : Stepped) : Type 0 where
  pub placed : Placed (length col) r.place
  pub history : history_of col' r.place ≡ seeds_after m n (history_of col p)
  pub told : r.moved ≡ moved (eqb n) (drop p.at col)
  pub same_ahead : drop r.place.at col' ≡ drop r.place.at col
  pub later : p.at ≤ r.place.at

pub record Tracking (n : ℕ) (pending : List ℕ) (at : ℕ) (tracked : List ℕ) (count : ℕ) (tracked' : List ℕ) (r : Place) : Type 0 where
  pub later : at ≤ r.at
  pub within : r.at ≤ length pending
  pub ahead : drop r.at pending ≡ past (eqb n) (drop at pending)
  pub held : take r.count tracked' ≡ take count tracked ++ front (eqb n) (drop at pending)
  pub counted : r.count + at ≡ count + r.at
  pub told : ltb at r.at ≡ moved (eqb n) (drop at pending)

pub record Taking (n : ℕ) (waiting : List ℕ) (wcount : ℕ) (tracked : List ℕ) (tcount : ℕ) (waiting' tracked' : List ℕ) (r : Taken) : Type 0 where
  pub set : Set waiting' r.waiting
  pub rest : take r.waiting waiting' ≡ past (eqb n) (take wcount waiting)
  pub held : take r.tracked tracked' ≡ take tcount tracked ++ front (eqb n) (take wcount waiting)
  pub fewer : r.waiting ≤ wcount
  pub one : wcount ≤ r.waiting + 1
  pub counted : r.tracked + r.waiting ≡ tcount + wcount
  pub told : ltb r.waiting wcount ≡ moved (eqb n) (take wcount waiting)

pub record Popping (n : ℕ) (seeds pending : List ℕ) (E : List Edit) (output waiting tracked : List ℕ) (p : Walk) (seeds' : List ℕ) (E' : List Edit) (output' waiting' tracked' : List ℕ) (hit : Bool) (q : Walk) : Type 0 where
  pub seeds_are : history_of seeds' q.seeds ≡ seeds_after (optional p.m) n (history_of seeds p.seeds)
  pub seeds_placed : Placed (length seeds) q.seeds
  pub seeds_ahead : drop q.seeds.at seeds' ≡ drop q.seeds.at seeds
  pub seeds_later : p.seeds.at ≤ q.seeds.at
  pub pending_is : drop q.pending pending ≡ past (eqb n) (drop p.pending pending)
  pub pending_within : q.pending ≤ length pending
  pub pending_later : p.pending ≤ q.pending
  pub input_is : history_of E' q.input ≡ stepped (λ e. eqb n (time_of e)) (history_of E p.input)
  pub input_placed : Placed (length E) q.input
  pub input_ahead : drop q.input.at E' ≡ drop q.input.at E
  pub input_later : p.input.at ≤ q.input.at
  pub output_is : history_of output' q.output ≡ stepped (eqb n) (history_of output p.output)
  pub output_placed : Placed (length output) q.output
  pub output_ahead : drop q.output.at output' ≡ drop q.output.at output
  pub output_later : p.output.at ≤ q.output.at
  pub waiting_set : Set waiting' q.waiting
  pub waiting_is : take q.waiting waiting' ≡ past (eqb n) (take p.waiting waiting)
  pub waiting_fewer : q.waiting ≤ p.waiting
  pub waiting_one : p.waiting ≤ q.waiting + 1
  pub waiting_told : ltb q.waiting p.waiting ≡ moved (eqb n) (take p.waiting waiting)
  pub tracked_is : take q.tracked tracked' ≡ take p.tracked tracked ++ (front (eqb n) (drop p.pending pending) ++ front (eqb n) (take p.waiting waiting))
  pub tracked_counted : (q.tracked + p.pending) + q.waiting ≡ (p.tracked + q.pending) + p.waiting
  pub hit_is : hit ≡ (moved (eqb n) (drop p.seeds.at seeds) || (moved (eqb n) (drop p.pending pending) || moved (eqb n) (take p.waiting waiting)))
  pub same_moments : q.moments ≡ p.moments
  pub same_pended : q.pended ≡ p.pended
  pub same_m : q.m ≡ p.m
