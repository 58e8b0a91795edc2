use Rattle.rules.specs.Discover.{run}
use Rattle.rules.proofs.Fuel.{measure}
use Rattle.steps.specs.Walks.{state_of}
use Rattle.discover.specs.Walking.{Kept, Going}
use Rattle.discover.proofs.Going.{left}
use Rattle.discover.proofs.walks.walk.Given as goal

abbrev pub invariant-loop-next : goal.invariant-loop-next
invariant-loop-next l = Going l.upper (run l.upper (measure (state_of l.initial.seeds l.pending l.initial.times l.initial.values l.initial.diffs l.initial.output l.initial.waiting l.initial.tracked l.initial.moments l.initial.pended l.initial.w)) (state_of l.initial.seeds l.pending l.initial.times l.initial.values l.initial.diffs l.initial.output l.initial.waiting l.initial.tracked l.initial.moments l.initial.pended l.initial.w)) (state_of l.seeds l.pending l.times l.values l.diffs l.output l.waiting l.tracked l.moments l.pended l.w) × Kept l.seeds l.seedm l.pending l.pendm l.times l.values l.diffs l.inputm l.output l.outputm l.waiting l.tracked l.moments l.pended l.work l.places l.wvalues l.wdiffs l.w

abbrev pub decreases-loop-next : goal.decreases-loop-next
decreases-loop-next l = left (state_of l.seeds l.pending l.times l.values l.diffs l.output l.waiting l.tracked l.moments l.pended l.w)
