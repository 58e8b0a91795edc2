use Rattle.std.proofs.Common.{sym, ◌∙◌, ap}
use Rattle.std.proofs.lemmas.List.{nil_from_length}
use mathlib.Core.Option.{some}
use Rattle.grid.specs.Times.{meets}
use Rattle.times.specs.Meets.{optional}
use Rattle.times.proofs.Times.{meets_push}
use Rattle.times.proofs.optional.meets.Goals as goal

pub loop-t-preserved : goal.loop-t-preserved
loop-t-preserved c =
    ap (λ t. meets c.next.new.self.iter.rest.now (some t)) c.meet_onto.ensures
    ∙ (sym (meets_push c.next.new.self.iter.rest.now c.in-Some.t.now (optional c.loop-t.found))
    ∙ (sym (ap (λ ts. meets ts (optional c.loop-t.found)) c.in-Some.ensures.steps) ∙ c.loop-t.invariant))

pub returns : goal.returns
unfolding meets
returns c = ap (λ ts. meets ts (optional c.loop-t.found)) (sym (nil_from_length _ c.in-None.ensures.steps.0)) ∙ c.loop-t.invariant
