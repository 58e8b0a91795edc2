use borrow.Author.Rules.{rules}
use borrow.Author.Tests.{not-true, not-false}
use mathlib.Core.Bool.{true}
use Rattle.grid.proofs.Tests.{clash}
use Rattle.backends.specs.Modes.{mode_number}
use Rattle.looping.proofs.Looping.{fresh}
use Rattle.windows.proofs.Going.{same_more, going_start, going_less, going_asks, going_more, going_end}
use mathlib.Core.Path.{◌≡◌, refl, sym, ◌∙◌}
use Rattle.windows.proofs.all.work_windows.Goals as goal
use Rattle.windows.proofs.all.work_windows.Goals.{then-loop-p-test+else-not-w, else-loop-p-test}

pub loop-p-init : goal.loop-p-init
loop-p-init c = let e : c.default-w.result ≡ fresh = search rules in rw e (going_start (mode_number c.args.mode) c.requires.loops c.requires.lent_work)

pub work_window-w-requires : goal.work_window-w-requires
work_window-w-requires c =
    let all = going_asks c.loop-p.invariant c.loop-p-test.true (not-true _ c.if-not-w.true) c.window_end-e.ensures in record { lent_work = all.0; takes = all.1 }

pub loop-p-smaller : goal.loop-p-smaller
loop-p-smaller c = going_less c.loop-p.invariant c.loop-p-test.true (not-true _ c.if-not-w.true) c.window_end-e.ensures

pub loop-p-preserved : goal.loop-p-preserved
loop-p-preserved c = record { loops = c.loop-p.invariant.loops; lent = c.loop-p.invariant.lent; same = (same_more c.loop-p.invariant.same (c.work_window-w.auto.moments, (c.work_window-w.auto.uv, (c.work_window-w.auto.ut, (c.work_window-w.auto.ud, (c.work_window-w.auto.iv, (c.work_window-w.auto.id, (c.work_window-w.auto.ov, (c.work_window-w.auto.od, (c.work_window-w.auto.cd, (c.work_window-w.auto.wv, (c.work_window-w.auto.seeds, (c.work_window-w.auto.output, (c.work_window-w.auto.tracked, (c.work_window-w.auto.nk, (c.work_window-w.auto.nt, (c.work_window-w.auto.fk, (c.work_window-w.auto.fv, (c.work_window-w.auto.ft, (c.work_window-w.auto.fd, (c.work_window-w.auto.res, c.work_window-w.auto.p))))))))))))))))))))); looping = (going_more c.loop-p.invariant c.loop-p-test.true (not-true _ c.if-not-w.true) c.window_end-e.ensures c.work_window-w.ensures) }

pub returns : goal.returns
returns c =
    going_end c.loop-p.invariant
    (elim c.loop-p-test.branch [ then-loop-p-test+else-not-w w ↦ (λ o. clash true refl (sym (not-false _ w.if-not-w.false) ∙ o)) | else-loop-p-test w ↦ (λ o. w.loop-p-test.false) ])
    c.course.ensures
