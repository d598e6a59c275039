-- Right because what doing what was judged does is what the rules do where keys are distinct. Assumes nothing.
use Rattle.store.specs.Store.{entries_in}
use Rattle.changes.proofs.Effects.{effect-ruled}
use Rattle.changes.proofs.apply.Goals as goal

pub returns : goal.returns
returns g c =
    let a = c.args in
    let done = rw c.entry_of.ensures at c.perform.ensures in
    record { done = done; left = λ number d j. rw (effect-ruled (entries_in a.tables a.store.now) a.update.now c.told-update d number a.judged j) at done }
