-- Demand 3 of the agent: its layout is one, and what is claimed of lists of calls holds for any. Assumes nothing.
use Prim.Native.Nat.{ℕ, ◌*◌}
use mathlib.Core.Path.{◌≡◌, sym, ap, ap₂, ◌∙◌}
use mathlib.Core.List.{List}
use lib.ListN.{take}
use Rattle.rules.specs.Bytes.{parts}
use Rattle.rules.proofs.Lists.{parts-lent}
use Rattle.calls.specs.Contract.{FreeBytes}
use Rattle.calls.specs.Claim.{Demand3}
use Rattle.calls.proofs.Demand3.{demand-3-of}
use Rattle.memory.specs.declared.Agent.{Agent}
use Rattle.memory.specs.Layout.{Flat}

-- the bytes after the last entry are not looked at
flat_free : FreeBytes Flat
flat_free m n t e u h =
    let bytes : take (m.agent.tables.count * 220) m.store ≡ take (n.agent.tables.count * 220) n.store = cc in
    let count : m.agent.tables.count ≡ n.agent.tables.count = ap (λ (a : Agent). a.tables.count) e in
    let same : parts m.agent.tables.count 220 m.store ≡ parts n.agent.tables.count 220 n.store =
    sym (parts-lent m.agent.tables.count 220 m.store)
    ∙ ap₂ (λ (k : ℕ) (l : List ℕ). parts k 220 l) count bytes
    ∙ parts-lent n.agent.tables.count 220 n.store in
    ap (λ (es : List (List ℕ)). record { entries = es }) (sym same) ∙ h

pub demand-3 : Demand3 Flat
demand-3 = demand-3-of Flat flat_free
