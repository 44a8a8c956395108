-- The command line as clap's rules.
use Rattle.std.specs.Prelude.{◌≡◌, Bool, true, false, codes, Some}
use Rattle.clap.specs.Walk.{Rule, Text}
use Rattle.clap.specs.Simple.{app_of, App, new_app, new_rule, with_rule, with_subcommand, on_top}
use Rattle.clap.specs.declared.builder.action.ArgAction.TheVariants.{Set, SetTrue}
use Rattle.clap.specs.declared.builder.command.Command.{Command}
use Rattle.clap.specs.declared.builder.command.Command.TheViews.{out-Command}

abbrev pub needed : Text → Rule
needed id = record (new_rule id) { required = true; action = Some Set }

abbrev pub optional : Text → Rule
optional id = record (new_rule id) { action = Some Set }

abbrev pub option_rule : Text → Bool → Rule
option_rule name is_required =
    record (new_rule name) { long = Some name; required = is_required; action = Some Set }

abbrev pub flag_rule : Text → Rule
flag_rule name = record (new_rule name) { long = Some name; action = Some SetTrue }

-- `init FILE NAME KEY`
abbrev pub init_app : App
init_app = with_rule
    (with_rule (with_rule (new_app (codes "init")) (needed (codes "file"))) (needed (codes "name")))
    (needed (codes "key"))

-- `serve FILE --port P [--connections N]`
abbrev pub counted_serve_app : App
counted_serve_app =
    with_rule (with_rule (with_rule (new_app (codes "serve")) (needed (codes "file")))
    (option_rule (codes "port") true)) (option_rule (codes "connections") false)

-- `serve FILE --port P [--connections N] [--forever] [--log]`
abbrev pub serve_app : App
serve_app = with_rule (with_rule counted_serve_app (flag_rule (codes "forever")))
    (flag_rule (codes "log"))

-- `NAME FILE MEMBER KEY`
abbrev pub member_app : Text → App
member_app name =
    with_rule (with_rule (with_rule (new_app name) (needed (codes "file")))
    (needed (codes "member"))) (needed (codes "key"))

-- `NAME FILE MEMBER KEY BOARD`
abbrev pub view_app : Text → App
view_app name = with_rule (member_app name) (needed (codes "board"))

-- `import FILE MEMBER KEY ID BOARD KIND`
abbrev pub one_import_app : App
one_import_app =
    with_rule (with_rule (with_rule (member_app (codes "import")) (needed (codes "id")))
    (needed (codes "board"))) (needed (codes "kind"))

-- `import FILE MEMBER KEY ID BOARD KIND [--all]`
abbrev pub import_app : App
import_app = with_rule one_import_app (flag_rule (codes "all"))

-- `check FILE`
abbrev pub check_app : App
check_app = with_rule (new_app (codes "check")) (needed (codes "file"))

-- `key FILE NAME [KEY]`
abbrev pub key_app : App
key_app = with_rule
    (with_rule (with_rule (new_app (codes "key")) (needed (codes "file"))) (needed (codes "name")))
    (optional (codes "key"))

abbrev pub bare : App → App
bare a =
    on_top (λ s. record s {
      no_binary_name = true;
      disable_help_flag = true;
      disable_help_subcommand = true;
      subcommand_required = true;
    }) a

-- the subcommands for a file as a whole
abbrev pub file_app : App
file_app = with_subcommand
    (with_subcommand
    (with_subcommand (bare (new_app (codes "taskboard"))) init_app.top) serve_app.top)
    check_app.top

-- and the one for its keys
abbrev pub keyed_app : App
keyed_app = with_subcommand file_app key_app.top

-- and those that read standard input
abbrev pub input_app : App
input_app = with_subcommand (with_subcommand keyed_app (new_app (codes "run")).top) import_app.top

-- and views
abbrev pub program_app : App
program_app = with_subcommand
    (with_subcommand (with_subcommand input_app (view_app (codes "export")).top)
    (view_app (codes "list")).top) (view_app (codes "todo")).top

-- the command has this shape, and no argument that its subcommands share
abbrev pub IsShaped : App → Command → Type 0
IsShaped app c = (app_of c ≡ app) × ((out-Command c).has_globals ≡ false)
