use mathlib.Core.Path.{◌∙◌}
use Rattle.working.proofs.Working.{forms, forms-room, few, begins-room, answering, asked, kept, reach, same_six, same_two, work-retires, input_asked, input_answered}
use Rattle.working.proofs.work.Goals as goal

pub form-n-requires-clause-runs : goal.form-n-requires-clause-runs
form-n-requires-clause-runs c = forms c.requires

pub form-n-requires-clause-forms : goal.form-n-requires-clause-forms
form-n-requires-clause-forms c = forms-room c.requires (begins-room c.requires)

pub input-requires : goal.input-requires
input-requires c =
    let F = few c.requires c.form-n.ensures.formed in
    let room = begins-room c.requires in
    let s = c.form-n.ensures.same in
    (reach F (kept s.long_keys room.for_tk), (reach F (kept s.long_values room.for_tv), (reach F (kept s.long_times room.for_tt), reach F (kept s.long_diffs room.for_td))))

pub answer-outcome-requires : goal.answer-outcome-requires
answer-outcome-requires c =
    let F = c.form-n.ensures.formed in
    let few_are = few c.requires F in
    let room = begins-room c.requires in
    let s = c.form-n.ensures.same in
    input_asked c.args.q.now c.input.result c.input.ensures
    (answering c.requires F
    (record { for_keys = reach few_are (kept s.long_keys room.for_tk); for_values = reach few_are (kept s.long_values room.for_tv); for_times = reach few_are (kept s.long_times room.for_tt); for_diffs = reach few_are (kept s.long_diffs room.for_td) })
    (kept c.form-n.auto.moments room.for_moments) (kept c.form-n.auto.scratch room.for_numbers) room.for_diffs)

pub returns-clause-retires : goal.returns-clause-retires
returns-clause-retires c =
    let s = c.form-n.ensures.same in
    work-retires c.requires (asked c.requires c.form-n.ensures.formed) (input_answered c.args.q.now c.input.result c.input.ensures c.answer-outcome.ensures.answered) c.form-n.auto.scratch
    (same_six (c.answer-outcome.auto.moments ∙ c.form-n.auto.moments) s.long_keys s.long_values s.long_times s.long_out_values s.long_out_times) c.clear_work.ensures.numbers
    (same_two s.long_diffs s.long_out_diffs) c.clear_work.ensures.diffs
