-- The arguments of a word.
use Rattle.std.specs.Prelude.{ℕ, List, Option, Some, None, if◌then◌else◌, codes, option_and_then, option_map}
use Rattle.std.specs.Str.{bytes_eq}
use Rattle.tb_values.specs.Numerals.{number_to}
use Rattle.tb_board.specs.Ahead.{read_ahead}
use Rattle.tb_board.specs.Names.{read_key}
use Rattle.tb_board.specs.declared.world.Role.{Role}
use Rattle.tb_board.specs.declared.world.Role.TheVariants.{Owner, Member, Reader}

-- a decimal number from 1 to 4294967295 without a leading zero
unfoldable pub board_number : List ℕ → Option ℕ
board_number text = number_to 4294967295 text

-- how many instances ahead: such a number, from 1 to the most
unfoldable pub ahead_number : List ℕ → Option ℕ
ahead_number text = option_and_then read_ahead (number_to 4294967295 text)

-- the role that is given, and `none` where it is taken
abbrev pub role_named : List ℕ → Option (Option Role)
role_named word =
    if bytes_eq word (codes "owner") then Some (Some Owner)
    else if bytes_eq word (codes "member") then Some (Some Member)
    else if bytes_eq word (codes "reader") then Some (Some Reader)
    else if bytes_eq word (codes "none") then Some None
    else None

-- the key that is given, and `none`, which is no key, where it is taken
-- Rule: none is no key. Tried by person_key.
abbrev pub key_or_none : List ℕ → Option (Option (List ℕ))
key_or_none word = if bytes_eq word (codes "none") then Some None
    else option_map Some (read_key word)
