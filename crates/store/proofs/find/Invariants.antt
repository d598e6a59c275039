-- Right because the entries passed do not have the key: each had another word where the key's is known, or was compared. Assumes nothing.
use Prim.Native.Nat.{◌-◌}
use mathlib.Core.Path.{◌≡◌}
use mathlib.Core.List.{◌++◌}
use lib.ListN.{length}
use Rattle.rules.specs.Key.{short_key}
use Rattle.keys.specs.Rest.{ProbeOf}
use Rattle.store.specs.Store.{place}
use Rattle.store.proofs.Scan.{searched}
use Rattle.store.proofs.find.Given as goal

abbrev pub invariant-loop-i : goal.invariant-loop-i
invariant-loop-i l =
    ProbeOf l.rest l.probe.at l.probe.word
    × (place (short_key (l.table ++ l.rest)) l.entries ≡ searched l.entries (short_key (l.table ++ l.rest)) l.i)

abbrev pub decreases-loop-i : goal.decreases-loop-i
decreases-loop-i l = length l.entries - l.i
