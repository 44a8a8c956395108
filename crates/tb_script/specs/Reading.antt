-- What a line asks: a moment, a name, a key, an identifier, a word and its arguments, separated by tabs.
use Rattle.std.specs.Prelude.{ℕ, List, [], ◌∷◌, ◌==◌, Result, Ok, Err}
use Rattle.std.specs.List.{join_by, slice_split}
use Rattle.tb_values.specs.Outcome.{◌>>=◌}
use Rattle.tb_task.specs.MomentText.{moment_of}
use Rattle.tb_task.specs.TaskId.{read_id}
use Rattle.tb_board.specs.Names.{read_name, read_key}
use Rattle.tb_script.specs.declared.asked.Asked.{Asked}
use Rattle.tb_script.specs.declared.asked.Asked.TheVariants as asks
use Rattle.tb_script.specs.declared.asked.Request.{Request}
use Rattle.tb_script.specs.declared.asked.Request.TheVariants.{Call, View as ViewOf}
use Rattle.tb_script.specs.declared.line_fault.Unreadable.{Unreadable}
use Rattle.tb_script.specs.declared.line_fault.Unreadable.TheVariants.{BadLine}
use Rattle.tb_script.specs.Outcome.{or_bad_line}
use Rattle.tb_script.specs.Words.{request_in}

-- the fields of a line: a tab ends one
abbrev pub fields_of : List ℕ → List (List ℕ)
fields_of line = slice_split (λ b. b == 9) line

-- what follows the first fields, byte for byte
abbrev pub content_of : List (List ℕ) → List ℕ
content_of fields = join_by (λ field. field) (9 ∷ []) fields

-- a call or a view, by a person with a key at a moment
abbrev pub asking : ℕ → List ℕ → List ℕ → ℕ → List ℕ → Request → Asked
asking at name secret number content (Call c) =
    asks.Call (record {
      member = name;
      key = secret;
      id = number;
      moment = at;
      content = content;
      command = c;
    })
asking at name secret number content (ViewOf v) =
    asks.View (record { member = name; key = secret; view = v; at = at })

unfoldable pub asked_in : List (List ℕ) → Result Asked Unreadable
asked_in (moment ∷ member ∷ key ∷ id ∷ word ∷ arguments) = do
  at ← or_bad_line (moment_of moment)
  name ← or_bad_line (read_name member)
  secret ← or_bad_line (read_key key)
  number ← or_bad_line (read_id id)
  request ← request_in word arguments at
  Ok (asking at name secret number (content_of (word ∷ arguments)) request)
asked_in [] = Err BadLine
asked_in (moment ∷ []) = Err BadLine
asked_in (moment ∷ member ∷ []) = Err BadLine
asked_in (moment ∷ member ∷ key ∷ []) = Err BadLine
asked_in (moment ∷ member ∷ key ∷ id ∷ []) = Err BadLine

abbrev pub asked : List ℕ → Result Asked Unreadable
asked line = asked_in (fields_of line)
