-- What is printed of an answer.
use Rattle.std.specs.Prelude.{◌||◌, List, [], ◌∷◌, ◌++◌, codes, Option, Some, None, unwrap_or, if◌then◌else◌}
use Rattle.std.specs.Str.{bytes_eq}
use Rattle.tb_finding.specs.Deeds.{log_text}
use Rattle.tb_finding.specs.Showing.{show_text}
use Rattle.tb_mine.specs.declared.asks.Answer.{Answer}
use Rattle.tb_my.specs.Days.{Text, before_key}
use Rattle.tb_my.specs.Shown.{shown_answer}
use Rattle.tb_my.specs.declared.look.Seen.{Seen}
use Rattle.tb_my.specs.declared.sent.Sent.{Sent}
use Rattle.tb_my.specs.declared.zone.Clock.{Clock}

-- what was found in an answer, or the answer for people
abbrev pub or_shown : Text → Option Text → Text
or_shown body (Some text) = text
or_shown body None = shown_answer body

-- an export and lines of todo.txt are printed as they came, and other views for people
abbrev pub view_text : Clock → List Seen → Text → Text → Text
view_text clock tasks name body =
    if bytes_eq name (codes "export") || bytes_eq name (codes "todo") then body
    else if bytes_eq name (codes "task") then or_shown body (show_text clock tasks body)
    else if bytes_eq name (codes "history") || bytes_eq name (codes "history-of")
    then or_shown body (log_text clock tasks body)
    else shown_answer body

abbrev pub first_word : List Text → Text
first_word [] = []
first_word (word ∷ words) = word

-- what is said of a call, in a line; of a view its answer
abbrev pub told_or : Text → Text → Text
told_or [] view = view
told_or (byte ∷ told) view = (byte ∷ told) ++ 10 ∷ []

-- without the end of the last line
abbrev pub unended : Text → Text
unended text = unwrap_or (before_key (codes "\n") text) text

-- Rule: `--json` prints the answer as it came. Tried by my.sh.
abbrev pub shown_by : Clock → List Seen → Sent → Text → Text
shown_by clock tasks sent body = if sent.is_json then unended body ++ 10 ∷ []
    else told_or sent.told (view_text clock tasks (first_word sent.words) body)

-- of what was refused nothing is printed
abbrev pub if_accepted : Answer → Text → Text
if_accepted answer text = if answer.is_accepted then text else []

abbrev pub printed_of : Clock → List Seen → Sent → Answer → Text
printed_of clock tasks sent answer =
    if_accepted answer (shown_by clock tasks sent answer.body)

-- of a call that takes another back: what is said of it, in a line
abbrev pub told_line : Sent → Answer → Text
told_line sent answer = if_accepted answer (sent.told ++ 10 ∷ [])
