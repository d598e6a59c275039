-- An integer of n bytes is below 256 ^ n. Assumes nothing.
use Prim.Native.Nat.{ℕ, zero, suc, ◌+◌, ◌^◌, ◌≤◌, ◌<◌}
use native.Mathlib.Numerals.{add-one}
use native.Mathlib.Omega.{arith}
use mathlib.Core.List.{List}
use lib.ListN.{length, get_or}
use Rattle.rules.specs.Bytes.{int}
use Rattle.numbers.proofs.Bytes.{int-none, int-next, below_next}

-- n bytes are below 256 ^ n
pub int-below : (n a : ℕ) (l : List ℕ) → ((i : ℕ) → get_or l i 0 < 256) → a + n ≤ length l → int a n l < 256 ^ n
int-below zero a l b h = rw (int-none a l) (omega arith)
int-below (suc n) a l b h =
    let r : int a n l < 256 ^ n = int-below n a l b (omega arith) in
    rw (← add-one n, int-next a n l (omega arith)) (below_next (int a n l) (get_or l (a + n) 0) n r (b (a + n)))
