-- What each command and the opening keep of a good world.
use Rattle.std.specs.Prelude.{ℕ, ◌≡◌, Bool, false, if◌then◌else◌, List, Option, Some, None}
use Rattle.std.specs.Str.{bytes_eq}
use Rattle.tb_core.specs.declared.command.Command.{Command}
use Rattle.tb_core.specs.declared.command.Command.TheVariants as command
use Rattle.tb_board.specs.declared.world.World.{World}
use Rattle.tb_core.specs.Apply.{apply}
use Rattle.tb_board.specs.Extends.{Extends}
use Rattle.tb_board.specs.World.{key_of, opening}
use Rattle.tb_core.specs.GoodWorld.{IsGoodWorld}

-- each command leaves a good world good
abbrev pub KeepsGood : Type 0
KeepsGood = (w : World) (name : List ℕ) (c : Command) (m : ℕ) → IsGoodWorld w
    → IsGoodWorld (apply w name c m).world

-- the command of a person may set that one's key
abbrev pub may_set_key : List ℕ → Command → List ℕ → Bool
may_set_key name (command.NewPerson other key) person = false
may_set_key name (command.NewBoard title) person = false
may_set_key name (command.OwnKey old new) person = bytes_eq name person
may_set_key name (command.SetKey other key) person = bytes_eq other person
may_set_key name (command.SetRole n other role) person = false
may_set_key name (command.Take n) person = false
may_set_key name (command.OnBoard n c) person = false

-- who is known stays known, with the same key, until a key is set
abbrev pub KeepsKeys : Type 0
KeepsKeys = (w : World) (name : List ℕ) (c : Command) (m : ℕ) (person key : List ℕ)
    → may_set_key name c person ≡ false → key_of w person ≡ Some key
    → key_of (apply w name c m).world person ≡ Some key

-- the keys, old and new, of a change of the caller's own key
abbrev pub own_keys : Command → Option (List ℕ × List ℕ)
own_keys (command.NewPerson name key) = None
own_keys (command.NewBoard title) = None
own_keys (command.OwnKey old new) = Some (old, new)
own_keys (command.SetKey name key) = None
own_keys (command.SetRole n name role) = None
own_keys (command.Take n) = None
own_keys (command.OnBoard n c) = None

-- the key of a caller who has this one, after a change of the own key, or none
abbrev pub key_after : Option (List ℕ × List ℕ) → List ℕ → List ℕ
key_after None key = key
key_after (Some keys) key = if bytes_eq keys.0 key then keys.1 else key

-- a caller who is known keeps the key, or changes it by the command
abbrev pub KeepsCaller : Type 0
KeepsCaller = (w : World) (name key : List ℕ) (c : Command) (m : ℕ) → key_of w name ≡ Some key
    → key_of (apply w name c m).world name ≡ Some (key_after (own_keys c) key)

-- each command leaves people, boards and the identifiers of tasks at their places
abbrev pub AlwaysExtends : Type 0
AlwaysExtends = (w : World) (name : List ℕ) (c : Command) (m : ℕ)
    → Extends w (apply w name c m).world

abbrev pub OpensGood : Type 0
OpensGood = (name key : List ℕ) → IsGoodWorld (opening name key)
