use Rattle.std.proofs.Common.{arith, refl, sym}
use lib.Seq.{length-take-le}
use Rattle.concluding.proofs.Answering.{keys_asked, keys_many, keys_are, loops, lent-work, answers-call}
use Rattle.full.proofs.answer_fully.Goals as goal

pub changed_keys-n-requires : goal.changed_keys-n-requires
changed_keys-n-requires c = keys_asked c.requires refl

pub slice_bounds-keys-end : goal.slice_bounds-keys-end
slice_bounds-keys-end c = keys_many c.requires refl c.changed_keys-n.ensures

pub slice_bounds-work_windows-end : goal.slice_bounds-work_windows-end
slice_bounds-work_windows-end c = sym (length-take-le _ _ (keys_many c.requires refl c.changed_keys-n.ensures))

pub work_windows-c-requires : goal.work_windows-c-requires
work_windows-c-requires c = record { lent_work = lent-work c.requires refl c.changed_keys-n.ensures refl refl refl refl refl refl refl refl (omega arith) refl refl refl (omega arith) refl refl refl refl refl refl; loops = loops c.requires refl c.changed_keys-n.ensures }

pub returns-clause-answered : goal.returns-clause-answered
returns-clause-answered c = answers-call c.requires c.work_windows-c.ensures (λ q l. l) (keys_are c.requires refl c.changed_keys-n.ensures) c.work_windows-c.auto.res c.conclude.ensures.tells
