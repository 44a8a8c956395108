-- What the words of a request come to.
use Rattle.std.proofs.Common.{◌≡◌, ◌∙◌, Bool, true, false, List, [], ◌∷◌, ◌++◌, codes, Option, Some, None, Result, refl, ap}
use Rattle.std.specs.List.{list_all}
use Rattle.clap.specs.Walk.{Text, finished, nothing_held, rows_after}
use Rattle.clap.specs.Simple.{Shape, subcommand_of}
use Rattle.clap.specs.Takes.{level_passes, takes}
use Rattle.clap.proofs.OnLiterals.{clap_on_literals}
use Rattle.tb_command_line.specs.declared.order.Order.{Order}
use Rattle.tb_command_line.specs.declared.order.ViewKind.{ViewKind}
use Rattle.tb_command_line.specs.declared.order.ViewKind.TheVariants as view
use Rattle.tb_command_line.specs.declared.order.WordsFault.{WordsFault}
use Rattle.tb_command_line.specs.Words.{program_app, init_app, serve_app, import_app, view_app, check_app, key_app}
use Rattle.tb_command_line.specs.Reading.{named_at, order_at}
use Rattle.tb_command_line.specs.Order.{Request, Init, Serve, Run, Import, View, Check, Key, is_plain, order_of, texts_of, words_of}
use Rattle.tb_command_line.proofs.Entering.{Enters, leaf, taken_below, found_below}
use Rattle.tb_command_line.proofs.Options.{are_words, options_have, options_pass, serve_rows, serve_words, serving}
use Rattle.tb_command_line.proofs.Positionals.{fits, takes_words, takes_then, reached_then, rows_of_words, rows_taken, rows_then, level_taken, level_then}
use Rattle.clap.specs.Simple.{new_app}

init_enters : Enters (codes "init") (leaf init_app)
unfolding clap_on_literals
init_enters = record { goes = refl; turns = refl; finds = refl }

serve_enters : Enters (codes "serve") (leaf serve_app)
unfolding clap_on_literals
serve_enters = record { goes = refl; turns = refl; finds = refl }

run_enters : Enters (codes "run") (leaf (new_app (codes "run")))
unfolding clap_on_literals
run_enters = record { goes = refl; turns = refl; finds = refl }

import_enters : Enters (codes "import") (leaf import_app)
unfolding clap_on_literals
import_enters = record { goes = refl; turns = refl; finds = refl }

export_enters : Enters (codes "export") (leaf (view_app (codes "export")))
unfolding clap_on_literals
export_enters = record { goes = refl; turns = refl; finds = refl }

list_enters : Enters (codes "list") (leaf (view_app (codes "list")))
unfolding clap_on_literals
list_enters = record { goes = refl; turns = refl; finds = refl }

todo_enters : Enters (codes "todo") (leaf (view_app (codes "todo")))
unfolding clap_on_literals
todo_enters = record { goes = refl; turns = refl; finds = refl }

check_enters : Enters (codes "check") (leaf check_app)
unfolding clap_on_literals
check_enters = record { goes = refl; turns = refl; finds = refl }

key_enters : Enters (codes "key") (leaf key_app)
unfolding clap_on_literals
key_enters = record { goes = refl; turns = refl; finds = refl }

module _ (kept : Option Text) where
  -- the program takes the words, and they are the order
  pub record Reaches (words : List Text) (order : Result Order WordsFault) : Type 0 where
    pub taken : takes program_app words ≡ true
    pub found : order_at kept (subcommand_of program_app words) ≡ order

  -- by the subcommand that the first word names
  below : (name : Text) (s : Shape) (rest : List Text) (order : Result Order WordsFault) → Enters name s → level_passes s [] nothing_held rest false ≡ true
      → named_at kept s.name (rows_after s.rules [] rest) ≡ order → Reaches (name ∷ rest) order
  below name s rest order e passes is = record { taken = taken_below name s rest e passes; found = ap (order_at kept) (found_below name s rest e) ∙ is }

  -- by its positionals alone
  plainly : (name : Text) (s : Shape) (rest : List Text) (order : Result Order WordsFault) → Enters name s → list_all is_plain rest ≡ true → takes_words s rest ≡ true
      → named_at kept s.name (rows_of_words s rest) ≡ order → Reaches (name ∷ rest) order
  plainly name s rest order e plain takes is = below name s rest order e (level_taken s rest plain takes) (ap (named_at kept s.name) (rows_taken s rest plain takes) ∙ is)

  -- by its positionals, with flags behind them
  flagged : (name : Text) (s : Shape) (words flags : List Text) (order : Result Order WordsFault) → Enters name s → list_all is_plain words ≡ true
      → fits s words nothing_held 1 ≡ true → takes_then s words flags ≡ true
      → named_at kept s.name (finished s.rules (reached_then s words flags).held) ≡ order → Reaches (name ∷ (words ++ flags)) order
  flagged name s words flags order e plain fit takes is =
      below name s (words ++ flags) order e (level_then s words flags plain fit takes) (ap (named_at kept s.name) (rows_then s words flags plain fit) ∙ is)

  -- ---- the forms with positionals alone

  init_reaches : (file name key : Text) → list_all is_plain (file ∷ name ∷ key ∷ []) ≡ true → Reaches (words_of (Init file name key)) (order_of kept (Init file name key))
  unfolding named_at
  init_reaches file name key plain = plainly (codes "init") (leaf init_app) (file ∷ name ∷ key ∷ []) (order_of kept (Init file name key)) init_enters plain refl refl

  run_reaches : Reaches (words_of Run) (order_of kept Run)
  unfolding named_at
  run_reaches = plainly (codes "run") (leaf (new_app (codes "run"))) [] (order_of kept Run) run_enters refl refl refl

  import_reaches : (file member key id board kind : Text) (is_all : Bool) → list_all is_plain (file ∷ member ∷ key ∷ id ∷ board ∷ kind ∷ []) ≡ true
      → Reaches (words_of (Import file member key id board kind is_all)) (order_of kept (Import file member key id board kind is_all))
  unfolding named_at clap_on_literals
  import_reaches file member key id board kind false plain =
      plainly (codes "import") (leaf import_app) (file ∷ member ∷ key ∷ id ∷ board ∷ kind ∷ []) (order_of kept (Import file member key id board kind false)) import_enters plain refl refl
  import_reaches file member key id board kind true plain =
      flagged (codes "import") (leaf import_app) (file ∷ member ∷ key ∷ id ∷ board ∷ kind ∷ []) (codes "--all" ∷ []) (order_of kept (Import file member key id board kind true))
      import_enters plain refl refl refl

  view_reaches : (kind : ViewKind) (file member key board : Text) → list_all is_plain (file ∷ member ∷ key ∷ board ∷ []) ≡ true
      → Reaches (words_of (View kind file member key board)) (order_of kept (View kind file member key board))
  unfolding named_at
  view_reaches view.Export file member key board plain =
      plainly (codes "export") (leaf (view_app (codes "export"))) (file ∷ member ∷ key ∷ board ∷ []) (order_of kept (View view.Export file member key board)) export_enters plain refl refl
  view_reaches view.Listing file member key board plain =
      plainly (codes "list") (leaf (view_app (codes "list"))) (file ∷ member ∷ key ∷ board ∷ []) (order_of kept (View view.Listing file member key board)) list_enters plain refl refl
  view_reaches view.Todo file member key board plain =
      plainly (codes "todo") (leaf (view_app (codes "todo"))) (file ∷ member ∷ key ∷ board ∷ []) (order_of kept (View view.Todo file member key board)) todo_enters plain refl refl

  check_reaches : (file : Text) → list_all is_plain (file ∷ []) ≡ true → Reaches (words_of (Check file)) (order_of kept (Check file))
  unfolding named_at
  check_reaches file plain = plainly (codes "check") (leaf check_app) (file ∷ []) (order_of kept (Check file)) check_enters plain refl refl

  key_reaches : (file name : Text) (word : Option Text) → list_all is_plain (texts_of (Key file name word)) ≡ true → Reaches (words_of (Key file name word)) (order_of kept (Key file name word))
  unfolding named_at
  key_reaches file name None plain = plainly (codes "key") (leaf key_app) (file ∷ name ∷ []) (order_of kept (Key file name None)) key_enters plain refl refl
  key_reaches file name (Some word) plain =
      plainly (codes "key") (leaf key_app) (file ∷ name ∷ word ∷ []) (order_of kept (Key file name (Some word))) key_enters plain refl refl

  -- ---- the form with options

  serve_named : (file port : Text) (count : Option Text) (is_forever log : Bool)
      → named_at kept (codes "serve") (serve_rows file port count is_forever log) ≡ order_of kept (Serve file port count is_forever log)
  unfolding named_at
  serve_named file port None false false = refl
  serve_named file port None false true = refl
  serve_named file port None true false = refl
  serve_named file port None true true = refl
  serve_named file port (Some count) false false = refl
  serve_named file port (Some count) false true = refl
  serve_named file port (Some count) true false = refl
  serve_named file port (Some count) true true = refl

  serve_reaches : (file port : Text) (count : Option Text) (is_forever log : Bool) → list_all is_plain (texts_of (Serve file port count is_forever log)) ≡ true
      → Reaches (words_of (Serve file port count is_forever log)) (order_of kept (Serve file port count is_forever log))
  serve_reaches file port count is_forever log plain =
      let w = are_words file port count is_forever log plain in
      below (codes "serve") serving (serve_words file port count is_forever log) (order_of kept (Serve file port count is_forever log)) serve_enters
      (options_pass file port count is_forever log w)
      (ap (named_at kept (codes "serve")) (options_have file port count is_forever log w) ∙ serve_named file port count is_forever log)

  pub reaches : (request : Request) → list_all is_plain (texts_of request) ≡ true → Reaches (words_of request) (order_of kept request)
  reaches (Init file name key) plain = init_reaches file name key plain
  reaches (Serve file port count is_forever log) plain = serve_reaches file port count is_forever log plain
  reaches Run plain = run_reaches
  reaches (Import file member key id board kind is_all) plain = import_reaches file member key id board kind is_all plain
  reaches (View kind file member key board) plain = view_reaches kind file member key board plain
  reaches (Check file) plain = check_reaches file plain
  reaches (Key file name word) plain = key_reaches file name word plain
