-- Right because keys are distinct: of the entries only the one found has the key. Assumes nothing.
use mathlib.Core.List.{◌++◌}
use Rattle.rules.specs.Key.{short_key}
use Rattle.reads.proofs.Records.{none_read, one-read}
use Rattle.reads.proofs.read_one.Goals as goal

pub returns-in_default : goal.returns-in_default
returns-in_default c t =
    let a = c.args in
    none_read a.entries.now (short_key (a.table.now ++ a.rest.now)) a.answer.now c.in_default.ensures.place

pub returns : goal.returns
returns c =
    let a = c.args in
    one-read a.entries.now (short_key (a.table.now ++ a.rest.now)) a.answer.now c.in-Some.i c.write_entry.new.dst c.in-Some.ensures.place c.requires.2
    c.write_entry.ensures
