use borrow.Author.Rules.{rules}
use mathlib.Core.Path.{sym, ◌∙◌}
use Rattle.times.proofs.Inserting.{insert_full, insert_beyond, insert_put, kept_short}
use Rattle.times.proofs.insert.insert_time.Goals as goal

pub returns-then-f-count : goal.returns-then-f-count
returns-then-f-count c = insert_full _ _ _ c.if-f-count.true

pub returns-then-is_beyond : goal.returns-then-is_beyond
returns-then-is_beyond c =
    let a = c.args in
    insert_beyond a.t.0 a.f.now a.count c.if-f-count.false (sym c.is_beyond.ensures ∙ c.if-is_beyond.true)

pub place_of-place-requires : goal.place_of-place-requires
place_of-place-requires c =
    let a = c.args in
    let left = c.remove_dominated-kept.ensures in
    (search rules, kept_short a.t.0 a.f.now a.count c.if-f-count.false left.0 left.1 (sym c.is_beyond.ensures ∙ c.if-is_beyond.false))

pub returns : goal.returns
returns c =
    let a = c.args in
    let left = c.remove_dominated-kept.ensures in
    let place = c.place_of-place.ensures in
    insert_put a.t.0 a.f.now a.count c.if-f-count.false left.0 left.1 (sym c.is_beyond.ensures ∙ c.if-is_beyond.false) place.0 place.1 c.put_at.ensures
