-- A DELETE needs only the key: whatever its 72 bytes of action and parameters are, its reason, the entries that it leaves, every
-- answer and what looking back notes are the same (document 02, request One). Assumes nothing.
use Rattle.std.specs.Prelude.{◌≡◌, ◌⊎◌, List, ℕ}
use Rattle.rules.specs.Bytes.{Pointwise}
use Rattle.rules.specs.Frame.{Head, Update, Command, WRITE, on_tables}
use Rattle.rules.specs.Row.{Row}
use Rattle.rules.specs.Key.{key_of}
use Rattle.rules.specs.Update.{Tables, judge, apply, batch}
use Rattle.rules.specs.Call.{State, next, reply}
use Rattle.rules.specs.LookBack.{History, effect_of, with_call, reply_seen}

-- ---- what differs in nothing that is looked at

-- two DELETEs of one key; their other 72 bytes may be any
pub record SameDelete (u v : Update) : Type 0 where
  pub one : u.type ≡ 3
  pub other : v.type ≡ 3
  pub key : key_of u.entry ≡ key_of v.entry

-- Two updates are *alike* where they are the same, or are such DELETEs.
abbrev pub Alike : Update → Update → Type 0
Alike u v = (u ≡ v) ⊎ SameDelete u v

-- two WRITEs with one head and one atomicity, their updates alike one by one
pub record SameWrite (c d : Command) : Type 0 where
  pub head : Head
  pub atomicity : ℕ
  pub us : List Update
  pub vs : List Update
  pub one : c ≡ on_tables (WRITE head atomicity us)
  pub other : d ≡ on_tables (WRITE head atomicity vs)
  pub updates : Pointwise Alike us vs

-- And so two commands.
abbrev pub AlikeCommands : Command → Command → Type 0
AlikeCommands c d = (c ≡ d) ⊎ SameWrite c d

-- ---- the law

pub record KeyAlone : Type 0 where
  -- updates that are alike have one reason, and leave the same entries,
  pub reason : (rows : List Row) (role : ℕ) (t : Tables) (u v : Update) → Alike u v → judge rows role t u ≡ judge rows role t v
  pub left : (r : ℕ) (t : Tables) (u v : Update) → Alike u v → apply r u t ≡ apply r v t
  -- also in batches, of either atomicity
  pub batches : (atomicity : ℕ) (rows : List Row) (role : ℕ) (t : Tables) (us vs : List Update) → Pointwise Alike us vs
      → batch atomicity (judge rows role) t us ≡ batch atomicity (judge rows role) t vs
  -- and so calls have one answer, and leave the same state
  pub answers : (s : State) (c d : Command) → AlikeCommands c d → reply s c ≡ reply s d
  pub states : (s : State) (c d : Command) → AlikeCommands c d → next s c ≡ next s d
  -- looking back notes the same of them, and yields one answer
  pub effects : (u v : Update) → Alike u v → effect_of u ≡ effect_of v
  pub histories : (p : History) (c d : Command) → AlikeCommands c d → with_call p c ≡ with_call p d
  pub seen : (p : History) (c d : Command) → AlikeCommands c d → reply_seen p c ≡ reply_seen p d
