-- Right because no bytes hold no entries. Assumes nothing.
use mathlib.Core.Path.{refl}
use Rattle.rules.specs.Bytes.{parts}
use Rattle.store.proofs.Tables.none.Goals as goal

pub returns : goal.returns
unfolding parts
returns c store = refl
