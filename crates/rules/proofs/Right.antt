-- Rightness of one key: what document 01's moments settle, what they leave alone, and both together.
--
-- found: what discover_times finds. Its corrections: `corrected mode input output found.moments` is the output with them
-- untouched: where no seed or pending time is at or below, no correction is seen
-- settled: where one is, the output with the corrections is right, whatever it was before
-- kept: where none is, it is right if the old output was so for the old input
-- rightness: if the old output was right for the old input where no pending time is at or below, then with the corrections it is right
use Prim.Native.Nat.{ℕ, suc, ◌+◌}
use mathlib.Core.Bool.{true, false}
use mathlib.Core.List.{List, ◌++◌, map}
use mathlib.Core.Option.{none}
use mathlib.Core.Path.{◌≡◌, sym, ◌∙◌, ap}
use lib.Dec.{ltb, leb}
use lib.IntN.{◌+ℤ◌, +ℤ_idr}
use lib.ListN.{length}
use Rattle.grid.specs.Lists.{any, ascending}
use Rattle.grid.specs.Times.{below, joined}
use Rattle.grid.proofs.Tests.{by-test, clash}
use Rattle.grid.proofs.Lists.{All, all_append, all_l, all_r, map_all, sort_all}
use Rattle.grid.proofs.Meets.{Unseen, any_unseen, unseen_any}
use Rattle.grid.proofs.Consolidate.{tally}
use Rattle.rules.specs.Histories.{Edit, time_of, load_times}
use Rattle.rules.specs.Discover.{State, most_moments, start, remaining, discover}
use Rattle.rules.specs.Retire.{seen}
use Rattle.rules.specs.Right.{Right}
use Rattle.rules.proofs.Histories.{visible}
use Rattle.rules.proofs.Retire.{seen_ext, none_visible, visible_append, right_as, corrected, corrected_unseen}
use Rattle.rules.proofs.Order.{ascending_rising, remaining_each, next_none, run-keeps}
use Rattle.rules.proofs.Walk.{begun, start_replayed}
use Rattle.rules.proofs.Grounded.{discover_grounded}
use Rattle.rules.proofs.Settling.{Live, touched-under, Settling, step_settling}
use Rattle.rules.proofs.Fuel.{discover_ends}

abbrev pub found : List ℕ → List ℕ → List ℕ → List Edit → List Edit → State
found upper seeds pending input output = discover upper seeds pending input (map time_of output)

module _ (mode : ℕ) (upper seeds pending : List ℕ) (input output : List Edit) where
  abbrev final : State
  final = found upper seeds pending input output

  abbrev steps : ℕ
  steps = length seeds + length pending + length input + length (map time_of output) + suc most_moments

  abbrev first_state_lem : State
  first_state_lem = begun upper seeds pending input output

  pub untouched : (t : ℕ) → any (λ x. below x t) (seeds ++ pending) ≡ false → seen t (corrected mode input output final.moments) ≡ seen t output
  untouched t e = corrected_unseen mode input t output (discover_grounded upper seeds pending input (map time_of output) t (any_unseen t (seeds ++ pending) e)).moments

  -- pending ascends by check 15
  module _ {D : State → ℕ → Type 0} (live : Live upper D) (ascends : ascending ltb pending ≡ true) where
    start_unseen : (t : ℕ) → All (Unseen t) (remaining first_state_lem) → All (Unseen t) (seeds ++ pending)
    unfolding start load_times joined
    start_unseen t h =
        let r = remaining_each first_state_lem h in
        all_append (map_all (joined none) seeds (sort_all leb (map (joined none) seeds) r.seeds)) r.pending

    found_settling : (t : ℕ) → any (λ x. below x t) (seeds ++ pending) ≡ true → Settling mode upper seeds pending input output live final
    unfolding discover
    found_settling t e =
        run-keeps (Settling mode upper seeds pending input output live) upper (step_settling mode upper seeds pending input output live) steps first_state_lem
        (record {
          replayed = start_replayed upper seeds pending input output t (touched-under mode upper seeds pending input output live t e) (ascending_rising pending ascends);
          right = λ r d h c. clash (any (λ x. below x r) (seeds ++ pending)) c (unseen_any r (start_unseen r h));
        })

    pub settled : final.over ≡ false → (t : ℕ) → D final t → any (λ x. below x t) (seeds ++ pending) ≡ true → Right mode input (corrected mode input output final.moments) t
    settled o t d e =
        let settling = found_settling t e in
        settling.right t d (next_none final settling.replayed.ordered o (discover_ends upper seeds pending input (map time_of output))) e

-- the input is the old and the new edits together, the seeds are the times of the new ones
module _ (mode : ℕ) (upper pending : List ℕ) (old new input output : List Edit) (together : (t : ℕ) → seen t input ≡ seen t (old ++ new)) where
  -- no new edit is seen where no seed is
  old_seen : (t : ℕ) → All (Unseen t) (map time_of new) → seen t old ≡ seen t input
  unfolding time_of
  old_seen t h =
      seen_ext t t old (old ++ new)
      (λ p. sym (visible_append t p old new ∙ ap (λ z. tally (visible t p) old +ℤ z) (none_visible t p (map_all time_of new h)) ∙ +ℤ_idr (tally (visible t p) old)))
      ∙ sym (together t)

  abbrev found_new : State
  found_new = found upper (map time_of new) pending input output

  pub kept : (t : ℕ) → any (λ x. below x t) (map time_of new ++ pending) ≡ false → Right mode old output t → Right mode input (corrected mode input output found_new.moments) t
  kept t e r =
      right_as mode t t (old_seen t (all_l (map time_of new) pending (any_unseen t (map time_of new ++ pending) e)))
      (sym (untouched mode upper (map time_of new) pending input output t e)) r

  module _ {D : State → ℕ → Type 0} (live : Live upper D) (ascends : ascending ltb pending ≡ true) where
    pub rightness : found_new.over ≡ false → ((t : ℕ) → D found_new t → any (λ x. below x t) pending ≡ false → Right mode old output t) → (t : ℕ) → D found_new t → Right mode input (corrected mode input output found_new.moments) t
    rightness o before t d =
        by-test (any (λ x. below x t) (map time_of new ++ pending))
        (λ e. settled mode upper (map time_of new) pending input output live ascends o t d e)
        (λ e. kept t e (before t d (unseen_any t (all_r (map time_of new) pending (any_unseen t (map time_of new ++ pending) e)))))
