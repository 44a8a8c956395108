-- What each word of `my` takes.
use Rattle.tb_my.specs.Days.{Text}
use Rattle.tb_my.specs.declared.help.TheConstants.{ADD, APPEND, BOARDS, CHANGE, COPY, DELETE, DONE, EXPORT, FREE, IMPORT, LIST, LOG, NEEDS, NEXT, NOTE, PEOPLE, PREPEND, PROJECTS, REOPEN, SETUP, SHOW, START, STOP, TAGS, TODO, UNDO, UNNOTE, USE}
use Rattle.tb_my.specs.declared.word.MyWord.{MyWord}
use Rattle.tb_my.specs.declared.word.MyWord.TheVariants as word

abbrev pub help_text : MyWord → Text
help_text word.List = LIST.now
help_text word.Next = NEXT.now
help_text word.Projects = PROJECTS.now
help_text word.Tags = TAGS.now
help_text word.Boards = BOARDS.now
help_text word.People = PEOPLE.now
help_text word.Export = EXPORT.now
help_text word.Todo = TODO.now
help_text word.Use = USE.now
help_text word.Undo = UNDO.now
help_text word.Setup = SETUP.now
help_text word.Import = IMPORT.now
help_text word.Show = SHOW.now
help_text word.Log = LOG.now
help_text word.Add = ADD.now
help_text word.Change = CHANGE.now
help_text word.Append = APPEND.now
help_text word.Prepend = PREPEND.now
help_text word.Copy = COPY.now
help_text word.Done = DONE.now
help_text word.Delete = DELETE.now
help_text word.Reopen = REOPEN.now
help_text word.Start = START.now
help_text word.Stop = STOP.now
help_text word.Note = NOTE.now
help_text word.Unnote = UNNOTE.now
help_text word.Needs = NEEDS.now
help_text word.Free = FREE.now
