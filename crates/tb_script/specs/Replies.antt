-- The texts of replies. Their bodies are JSON.
use Rattle.std.specs.Prelude.{ℕ, List, [], ◌∷◌, ◌++◌, codes, decimal}
use Rattle.serde_json.specs.Data.{Data, string, object, member, no_members}
use Rattle.serde_json.specs.Written.{compact_text}
use Rattle.tb_calls.specs.declared.reply.Reply.{Reply}
use Rattle.tb_asking.specs.BodyFault.{json_of}
use Rattle.tb_script.specs.declared.line_fault.Unreadable.{Unreadable}
use Rattle.tb_script.specs.declared.line_fault.Unreadable.TheVariants.{BadLine, BadBody}

-- status, number and body, with a space between them
abbrev pub reply_text : Reply → List ℕ
reply_text r = decimal r.status ++ 32 ∷ (decimal r.number ++ 32 ∷ (r.body ++ 10 ∷ []))

abbrev pub unreadable_body : Unreadable → Data
unreadable_body BadLine = object (member (codes "name") (string (codes "BadLine")) no_members)
unreadable_body (BadBody fault) = json_of fault

-- no call was made
abbrev pub unreadable_text : Unreadable → List ℕ
unreadable_text fault = codes "400 - " ++ (compact_text (unreadable_body fault) ++ 10 ∷ [])
