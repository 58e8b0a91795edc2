use native.Mathlib.Omega.{arith}
use Prim.Native.Nat.{◌≤◌}
use mathlib.Core.Path.{sym, ◌∙◌}
use lib.ListN.{length}
use lib.Seq.{length-take-le}
use Rattle.joins.proofs.Sets.{set_within}
use Rattle.steps.proofs.Together.{together}
use Rattle.steps.proofs.Kept.{few, alike-kept, tracked_within, ready, known_popped}
use Rattle.steps.proofs.whole.step.Goals as goal
use Rattle.steps.proofs.whole.step.Goals.{After-meet_of_four-ahead}

pub pop_all-s-requires : goal.pop_all-s-requires
pop_all-s-requires c = record { standing = c.requires.standing; set = (c.requires.roomy.waiting_set, (c.requires.worked.for_seeds, omega (arith, c.requires.roomy.tracked_room, few _ _ _ _ _ _ _ _ _ _ _ c.requires.calm))) }

pub meet_of_four-ahead-requires : goal.meet_of_four-ahead-requires
meet_of_four-ahead-requires c = let K = known_popped _ _ _ c.pop_all-s.ensures c.requires.standing c.requires.known c.pop_all-s.auto.seeds (alike-kept c.requires.standing.input_alike c.pop_all-s.auto.times c.pop_all-s.auto.values c.pop_all-s.auto.diffs) c.pop_all-s.auto.times c.pop_all-s.auto.output in (K.of_seeds, (K.of_pending, (K.of_input, K.of_output)))

tracked_fit : (c : After-meet_of_four-ahead) → c.pop_all-s.result.walk.tracked ≤ length c.pop_all-s.new.tracked
tracked_fit c = tracked_within _ _ _ c.pop_all-s.ensures c.requires.standing c.requires.roomy.tracked_room (few _ _ _ _ _ _ _ _ _ _ _ c.requires.calm) c.pop_all-s.auto.tracked

pub slice_bounds-tracked_times-end : goal.slice_bounds-tracked_times-end
slice_bounds-tracked_times-end c = tracked_fit c

pub slice_bounds-tracked_times-end-2 : goal.slice_bounds-tracked_times-end-2
slice_bounds-tracked_times-end-2 c = sym (length-take-le _ _ (tracked_fit c))

pub act-a-requires : goal.act-a-requires
act-a-requires c = ready _ _ _ c.pop_all-s.ensures c.requires.standing c.pop_all-s.auto.seeds c.pop_all-s.auto.times c.pop_all-s.auto.values c.pop_all-s.auto.diffs c.pop_all-s.auto.output c.pop_all-s.auto.tracked c.pop_all-s.auto.work c.requires.roomy c.requires.worked (few _ _ _ _ _ _ _ _ _ _ _ c.requires.calm)

pub finish-requires : goal.finish-requires
finish-requires c = (set_within c.act-a.ensures.waiting_set, (omega (arith, c.act-a.ensures.same_tracked, tracked_within _ _ _ c.pop_all-s.ensures c.requires.standing c.requires.roomy.tracked_room (few _ _ _ _ _ _ _ _ _ _ _ c.requires.calm) c.pop_all-s.auto.tracked), omega (arith, c.pop_all-s.auto.tracked, c.requires.worked.for_tracked, c.act-a.auto.work, c.pop_all-s.auto.work)))

pub returns : goal.returns
returns c =
    let all = together _ _ _ _ _ _ c.requires.standing c.requires.known c.requires.roomy c.requires.calm c.pop_all-s.ensures c.is_interesting-keen.ensures c.meet_of_four-ahead.ensures c.act-a.ensures c.finish.ensures (alike-kept c.requires.standing.input_alike c.pop_all-s.auto.times c.pop_all-s.auto.values c.pop_all-s.auto.diffs) c.pop_all-s.auto.seeds (c.act-a.auto.times ∙ c.pop_all-s.auto.times) (c.act-a.auto.values ∙ c.pop_all-s.auto.values) (c.act-a.auto.diffs ∙ c.pop_all-s.auto.diffs) (c.act-a.auto.output ∙ c.pop_all-s.auto.output) c.pop_all-s.auto.tracked c.finish.auto.tracked c.act-a.auto.moments in record { steps = all.0; still_standing = all.1.0; still_known = all.1.1.0; still_roomy = all.1.1.1 }
