-- The settings of `my`: lines of a name, `=` and a value.
use Rattle.std.specs.Prelude.{Bool, true, ◌==◌, is_some, List, [], ◌∷◌, codes, Option, Some, None, option_and_then, option_map, Result, Ok, Err, if◌then◌else◌}
use Rattle.std.specs.List.{slice_split}
use Rattle.std.specs.Str.{trim, trim_start}
use Rattle.tb_board.specs.Names.{read_name, read_title}
use Rattle.tb_command_line.specs.Sending.{is_server}
use Rattle.tb_my.specs.Days.{Text, after_key}
use Rattle.tb_my.specs.Outcome.{or_fault}
use Rattle.tb_my.specs.declared.fault.MyFault.{MyFault}
use Rattle.tb_my.specs.declared.fault.MyFault.TheVariants.{BadLine, Lacks, Unfit}
use Rattle.tb_my.specs.declared.settings.Asker.{Asker}
use Rattle.tb_my.specs.declared.settings.SettingName.{SettingName}
use Rattle.tb_my.specs.declared.settings.SettingName.TheVariants as kind
use Rattle.tb_my.specs.declared.settings.Settings.{Settings}
use Rattle.tb_values.specs.Outcome.{◌>>=◌}

abbrev pub no_settings : Settings
no_settings = record { server = None; name = None; board = None; key_file = None }

abbrev pub lines_of : Text → List Text
lines_of text = slice_split (λ b. b == 10) text

-- blank, or behind `#`
abbrev pub is_note : Text → Bool
is_note [] = true
is_note (byte ∷ bytes) = byte == 35

-- what stands behind a name and `=`
abbrev pub value_of : Text → Text → Option Text
value_of line name =
    option_map trim
    (option_and_then (λ rest. after_key (codes "=") (trim_start rest)) (after_key name line))

abbrev pub with_server : Settings → Option Text → Result Settings MyFault → Result Settings MyFault
with_server settings None other = other
with_server settings (Some value) other = Ok (record settings { server = Some value })

abbrev pub with_name : Settings → Option Text → Result Settings MyFault → Result Settings MyFault
with_name settings None other = other
with_name settings (Some value) other = Ok (record settings { name = Some value })

abbrev pub with_board : Settings → Option Text → Result Settings MyFault → Result Settings MyFault
with_board settings None other = other
with_board settings (Some value) other = Ok (record settings { board = Some value })

abbrev pub with_key_file : Settings → Option Text → Result Settings MyFault
    → Result Settings MyFault
with_key_file settings None other = other
with_key_file settings (Some value) other = Ok (record settings { key_file = Some value })

abbrev pub with_line : Settings → Text → Result Settings MyFault
with_line settings line = if is_note line then Ok settings
    else with_server settings (value_of line (codes "server"))
    (with_name settings (value_of line (codes "name"))
    (with_board settings (value_of line (codes "board"))
    (with_key_file settings (value_of line (codes "key-file")) (Err (BadLine line)))))

abbrev pub with_lines : Settings → List Text → Result Settings MyFault
with_lines settings [] = Ok settings
with_lines settings (line ∷ lines) = do
  more ← with_line settings (trim line)
  with_lines more lines

abbrev pub settings_of : Text → Result Settings MyFault
settings_of text = with_lines no_settings (lines_of text)

-- ---- settings that go before others

abbrev pub or_setting : Option Text → Option Text → Option Text
or_setting (Some text) other = Some text
or_setting None other = other

abbrev pub settings_over : Settings → Settings → Settings
settings_over first other = record {
  server = or_setting first.server other.server;
  name = or_setting first.name other.name;
  board = or_setting first.board other.board;
  key_file = or_setting first.key_file other.key_file;
}

-- ---- whom to ask

abbrev pub given : SettingName → Option Text → Result Text MyFault
given name setting = or_fault (Lacks name) setting

abbrev pub fitting : {X : Type 0} → SettingName → Option X → Result X MyFault
fitting name found = or_fault (Unfit name) found

abbrev pub server_of : Option Text → Result Text MyFault
server_of setting = do
  text ← given kind.Server setting
  fitting kind.Server (if is_server text then Some text else None)

abbrev pub name_of : Option Text → Result Text MyFault
name_of setting = do
  text ← given kind.Name setting
  fitting kind.Name (read_name text)

-- none is needed where a word asks of none
abbrev pub board_of : Option Text → Result (Option Text) MyFault
board_of None = Ok None
board_of (Some text) =
    fitting kind.Board (if is_some (read_title text) then Some (Some text) else None)

-- Rule: the words that ask of a board need one, and no others. Tried by my.sh.
abbrev pub needed_board : Asker → Result Text MyFault
needed_board asker = given kind.Board asker.board

abbrev pub asker_of : Settings → Result Asker MyFault
asker_of settings = do
  s ← server_of settings.server
  n ← name_of settings.name
  b ← board_of settings.board
  Ok (record { server = s; name = n; board = b; key_file = settings.key_file })
