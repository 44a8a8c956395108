-- What is told of the words of `my`.
use Rattle.std.specs.Prelude.{ℕ, ◌+◌, ◌==◌, ◌||◌, ◌&&◌, nat_le, List, [], ◌∷◌, ◌++◌, codes, decimal, map, Option, Some, None, option_and_then, if◌then◌else◌}
use Rattle.std.specs.Str.{bytes_eq, chars, encode_utf8_all}
use Rattle.serde_json.specs.Data.{Data}
use Rattle.serde_json.specs.Find.{as_str, get}
use Rattle.serde_json.specs.Read.{read}
use Rattle.tb_my.specs.Days.{Text, after_key}
use Rattle.tb_my.specs.declared.fault.MyFault.{MyFault}
use Rattle.tb_my.specs.declared.fault.MyFault.TheVariants.{BadLine, Lacks, Linked, Memory, NoAttribute, NoBoard, NoDay, NoFilter, NoForm, NoOption, NoPlace, NoPriority, NoSeconds, NoStep, NoTask, NoWord, OneTask, TwoBoards, Unchanged, Unfit}
use Rattle.tb_my.specs.declared.look.Seen.{Seen}
use Rattle.tb_my.specs.declared.settings.SettingName.{SettingName}
use Rattle.tb_my.specs.declared.settings.SettingName.TheVariants as setting
use Rattle.tb_my.specs.declared.telling.TheConstants.{ALREADY, BAD_BOARD, BAD_LINE, BAD_NAME, BAD_SERVER, BAD_TASK, BOARD_OR_TASK, CHANGES, COPY, CYCLE, FIXED, FULL, LIST_WORDS, MORE_TEXT, NEW_TASK, NOT_ALLOWED, NO_ARGUMENTS, NO_ATTRIBUTE, NO_BOARD, NO_BOARD_HERE, NO_CONFIG, NO_DAY, NO_FILTER, NO_KEY_FILE, NO_LINK, NO_MEMORY, NO_NAME, NO_OPTION, NO_PLACE, NO_PRIORITY, NO_ROLE, NO_SECONDS, NO_SERVER, NO_STEP, NO_SUCH_TASK, NO_WORD, ONE_BOARD, ONE_FILE, ONE_TASK, ONE_TEXT, TASKS, TASK_AND_TEXT, TWO_BOARDS, TWO_TASKS, UNCHANGED, UNKNOWN_CALLER, WRONG_STATUS}
use Rattle.tb_my.specs.declared.word.MyWord.{MyWord}
use Rattle.tb_my.specs.declared.word.MyWord.TheVariants as word

-- ---- texts of others, which a terminal might obey

-- a space for each control character
abbrev pub shown_char : ℕ → ℕ
shown_char c = if nat_le c 31 || (nat_le 127 c && nat_le c 159) then 32 else c

unfoldable pub shown_text : Text → Text
shown_text text = encode_utf8_all (map shown_char (chars text))

-- ---- of accepted calls

abbrev pub told_task : Text → Text → Text
told_task verb description = verb ++ shown_text description

abbrev pub told_link : Text → Text → Text → Text
told_link first verb second = shown_text first ++ (verb ++ shown_text second)

-- the place of a task among others, from 1
abbrev pub number_of_task : ℕ → ℕ → List Seen → Option ℕ
number_of_task place id [] = None
number_of_task place id (task ∷ tasks) =
    if task.id == id then Some (place + 1) else number_of_task (place + 1) id tasks

abbrev pub numbered : Text → ℕ → Option Text → Text
numbered told number None = told
numbered told number (Some rest) = codes "Added " ++ (decimal number ++ rest)

-- by its number, where that is known
abbrev pub added_text : Text → Option ℕ → Text
added_text told None = told
added_text told (Some number) = numbered told number (after_key (codes "Added") told)

-- ---- of words that ask for nothing

-- what belongs behind a word
abbrev pub form_text : MyWord → Text
form_text word.List = LIST_WORDS.now
form_text word.Next = LIST_WORDS.now
form_text word.Projects = LIST_WORDS.now
form_text word.Tags = LIST_WORDS.now
form_text word.Export = NO_ARGUMENTS.now
form_text word.Todo = NO_ARGUMENTS.now
form_text word.Undo = NO_ARGUMENTS.now
form_text word.Setup = NO_ARGUMENTS.now
form_text word.Use = ONE_BOARD.now
form_text word.Import = ONE_FILE.now
form_text word.Boards = NO_ARGUMENTS.now
form_text word.People = NO_ARGUMENTS.now
form_text word.Show = ONE_TASK.now
form_text word.Log = BOARD_OR_TASK.now
form_text word.Add = NEW_TASK.now
form_text word.Change = CHANGES.now
form_text word.Append = MORE_TEXT.now
form_text word.Prepend = MORE_TEXT.now
form_text word.Copy = COPY.now
form_text word.Done = TASKS.now
form_text word.Delete = TASKS.now
form_text word.Reopen = TASKS.now
form_text word.Start = TASKS.now
form_text word.Stop = TASKS.now
form_text word.Note = TASK_AND_TEXT.now
form_text word.Unnote = TASK_AND_TEXT.now
form_text word.Needs = TWO_TASKS.now
form_text word.Free = TWO_TASKS.now

-- of a setting that is missing
abbrev pub lacking_text : SettingName → Text
lacking_text setting.Config = NO_CONFIG.now
lacking_text setting.Server = NO_SERVER.now
lacking_text setting.Name = NO_NAME.now
lacking_text setting.Board = NO_BOARD.now
lacking_text setting.KeyFile = NO_KEY_FILE.now

-- of one of another form
abbrev pub unfit_text : SettingName → Text
unfit_text setting.Config = NO_CONFIG.now
unfit_text setting.Server = BAD_SERVER.now
unfit_text setting.Name = BAD_NAME.now
unfit_text setting.Board = BAD_BOARD.now
unfit_text setting.KeyFile = NO_KEY_FILE.now

-- a word between quotes
abbrev pub quoted_text : Text → Text → Text
quoted_text word wrong = codes "\"" ++ (shown_text word ++ (codes "\"" ++ wrong))

abbrev pub no_task_text : Text → Text → ℕ → Text → Text
no_task_text word board count more =
    codes "There is no task " ++ (shown_text word ++ (codes " on board " ++ (board
    ++ (codes " (" ++ (decimal count ++ (codes " tasks)." ++ more))))))

-- of a board with so many tasks
abbrev pub fault_text : Text → ℕ → MyFault → Text
fault_text board count Memory = NO_MEMORY.now
fault_text board count (NoWord word) = quoted_text word NO_WORD.now
fault_text board count (NoForm word) = form_text word
fault_text board count (NoDay word) = quoted_text word NO_DAY.now
fault_text board count (NoPriority word) = quoted_text word NO_PRIORITY.now
fault_text board count (NoStep word) = quoted_text word NO_STEP.now
fault_text board count (NoOption word) = quoted_text word NO_OPTION.now
fault_text board count (NoAttribute word) = quoted_text word NO_ATTRIBUTE.now
fault_text board count (NoFilter word) = quoted_text word NO_FILTER.now
fault_text board count (NoSeconds word) = quoted_text word NO_SECONDS.now
fault_text board count (NoTask word) = no_task_text word board count []
fault_text board count (NoPlace word) = no_task_text word board count NO_PLACE.now
fault_text board count OneTask = ONE_TEXT.now
fault_text board count (Linked told) = told ++ ALREADY.now
fault_text board count Unchanged = UNCHANGED.now
fault_text board count (NoBoard name) = quoted_text name NO_BOARD_HERE.now
fault_text board count (TwoBoards name) = quoted_text name TWO_BOARDS.now
fault_text board count (BadLine line) = quoted_text line BAD_LINE.now
fault_text board count (Lacks name) = lacking_text name
fault_text board count (Unfit name) = unfit_text name

-- ---- of refusals

unfoldable pub named_refusal : Text → Option Text
named_refusal name =
    if bytes_eq name (codes "UnknownCaller") then Some UNKNOWN_CALLER.now
    else if bytes_eq name (codes "NoBoard") then Some NO_ROLE.now
    else if bytes_eq name (codes "NotAllowed") then Some NOT_ALLOWED.now
    else if bytes_eq name (codes "NoTask") then Some NO_SUCH_TASK.now
    else if bytes_eq name (codes "WrongStatus") then Some WRONG_STATUS.now
    else if bytes_eq name (codes "BadTask") then Some BAD_TASK.now
    else if bytes_eq name (codes "TemplateFixed") then Some FIXED.now
    else if bytes_eq name (codes "NoLink") then Some NO_LINK.now
    else if bytes_eq name (codes "Cycle") then Some CYCLE.now
    else if bytes_eq name (codes "Full") then Some FULL.now
    else None

abbrev pub name_of : Option Data → Option Text
name_of None = None
name_of (Some value) = option_and_then as_str (get (codes "name") value)

abbrev pub said_refusal : Text → Option Text
said_refusal body = option_and_then named_refusal (name_of (read body))

abbrev pub text_or : Text → Option Text → Text
text_or body None = body
text_or body (Some text) = text

-- by its name, or else the body as it is
abbrev pub refusal_text : Text → Text
refusal_text body = text_or body (said_refusal body)
