use Rattle.std.proofs.Common.{rules, ◌≡◌, ◌∙◌, sym, count_by, nat_eq}
use Rattle.marks.proofs.Marking.{marks_counted}
use Rattle.marks.proofs.count_marks.Goals as goal

pub returns : goal.returns
returns c = (let e : c.count.result ≡ count_by (λ m. nat_eq m 1) c.args.marks.now = search rules in e) ∙ sym (marks_counted c.args.marks.now)
