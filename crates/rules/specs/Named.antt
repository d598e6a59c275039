-- The number of each reason by name (document 01, "Who brings a refusal about"). Assumes nothing.
use Rattle.std.specs.Prelude.{ℕ, Result, Ok, Err}
use Rattle.rules.specs.declared.Reason.{Reason}
use Rattle.rules.specs.declared.Reason.TheVariants.{BadFrame, TooShort, AlreadyOpen, NotOpen, OtherDevice, NoSuchRole, Rebound, IdInUse, RoleFull, NotPrimary, NotRoleZero, NotConfigured, Atomicity, RowsNotAllowed, NoSuchTable, NotTheRoles, BadForm, TooWide, RuleBroken, Stored, NotStored, TableFull, SomeFailed, RolledBack}

abbrev pub number_of : Reason → ℕ
number_of BadFrame = 1
number_of TooShort = 2
number_of AlreadyOpen = 3
number_of NotOpen = 4
number_of OtherDevice = 5
number_of NoSuchRole = 6
number_of Rebound = 7
number_of IdInUse = 8
number_of RoleFull = 9
number_of NotPrimary = 10
number_of NotRoleZero = 11
number_of NotConfigured = 12
number_of Atomicity = 13
number_of RowsNotAllowed = 14
number_of NoSuchTable = 15
number_of NotTheRoles = 16
number_of BadForm = 17
number_of TooWide = 18
number_of RuleBroken = 19
number_of Stored = 20
number_of NotStored = 21
number_of TableFull = 22
number_of SomeFailed = 23
number_of RolledBack = 25

-- what something came to, by number: 0 where nothing refused it
abbrev pub reason_of : {A : Type 0} → Result A Reason → ℕ
reason_of (Ok a) = 0
reason_of (Err r) = number_of r
