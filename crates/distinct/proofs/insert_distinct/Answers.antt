use Rattle.std.proofs.Common.{◌≡◌, refl, arith, length, take}
use lib.Seq.{length-take-le}
use Rattle.distinct.proofs.Inserting.{turned, inserted_same, inserted_new}
use Rattle.distinct.proofs.insert_distinct.Goals as goal

pub returns-in-Ok : goal.returns-in-Ok
returns-in-Ok c =
    let found = rw c.in-Ok.is at c.place_of.ensures in
    inserted_same c.args.t.0 c.args.count c.args.s.now c.requires.0 c.in-Ok.field-0 c.requires.1 found.0 found.1

pub returns-in-Err : goal.returns-in-Err
returns-in-Err c =
    let found = rw c.in-Err.is at c.place_of.ensures in
    let all : length (take c.args.count c.args.s.now) ≡ c.args.count = length-take-le c.args.count c.args.s.now (omega arith) in
    inserted_new c.args.t.0 c.args.count c.args.s.now c.requires.0 c.in-Err.place found.within found.below found.above
    (turned c.args.s.now c.args.t.0 c.args.count c.in-Err.place (omega (arith, found.within)) c.requires.0 c.rotate_right.new.self _ refl c.rotate_right.ensures.after)
