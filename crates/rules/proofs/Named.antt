-- Reasons by name: none has the number 0, which is that of no refusal. Assumes nothing.
use Prim.Native.Nat.{◌<◌}
use native.Mathlib.Omega.{arith}
use mathlib.Core.Path.{◌≡◌}
use Rattle.rules.specs.declared.Reason.{Reason}
use Rattle.rules.specs.declared.Reason.TheVariants.{BadFrame, TooShort, AlreadyOpen, NotOpen, OtherDevice, NoSuchRole, Rebound, IdInUse, RoleFull, NotPrimary, NotRoleZero, NotConfigured, Atomicity, RowsNotAllowed, NoSuchTable, NotTheRoles, BadForm, TooWide, RuleBroken, Stored, NotStored, TableFull, SomeFailed, RolledBack}
use Rattle.rules.specs.Named.{number_of}

pub named : (r : Reason) → 0 < number_of r
named BadFrame = omega arith
named TooShort = omega arith
named AlreadyOpen = omega arith
named NotOpen = omega arith
named OtherDevice = omega arith
named NoSuchRole = omega arith
named Rebound = omega arith
named IdInUse = omega arith
named RoleFull = omega arith
named NotPrimary = omega arith
named NotRoleZero = omega arith
named NotConfigured = omega arith
named Atomicity = omega arith
named RowsNotAllowed = omega arith
named NoSuchTable = omega arith
named NotTheRoles = omega arith
named BadForm = omega arith
named TooWide = omega arith
named RuleBroken = omega arith
named Stored = omega arith
named NotStored = omega arith
named TableFull = omega arith
named SomeFailed = omega arith
named RolledBack = omega arith

pub number_set : (r : Reason) → number_of r ≡ 0 → ⊥
number_set r e = let n = named r in omega (arith, n, e)
