-- Right because each number comes after the one before it. Assumes nothing.
use Rattle.std.proofs.Common.{rules}
use Rattle.transcript.specs.Line.{field, decimal}
use Rattle.transcript.specs.Written.{Adds}
use Rattle.transcript.proofs.Written.{adds-then, room-after, room-front}
use Rattle.transcript.proofs.Line.numbers.Goals as goal

pub field-requires-2 : goal.field-requires-2
field-requires-2 c = let r = room-front c.field.new.self (field c.args.reason) _ (room-after c.field.ensures _ c.requires) in search rules

pub field-requires-3 : goal.field-requires-3
field-requires-3 c =
    let p : Adds c.field.new.self (field c.args.reason) c.field-2.new.self = search rules in
    let r = room-front c.field-2.new.self (field c.args.code) _ (room-after p _ (room-after c.field.ensures _ c.requires)) in search rules

pub number-requires : goal.number-requires
number-requires c =
    let p : Adds c.field.new.self (field c.args.reason) c.field-2.new.self = search rules in
    let q : Adds c.field-2.new.self (field c.args.code) c.field-3.new.self = search rules in
    let r = room-after q (decimal c.args.count) (room-after p _ (room-after c.field.ensures _ c.requires)) in search rules

pub returns : goal.returns
returns c =
    let w = adds-then c.field.ensures (adds-then c.field-2.ensures (adds-then c.field-3.ensures c.number.ensures)) in search rules
