use Rattle.std.proofs.Common.{◌≡◌, ◌++◌, drop, string_bytes}
use Rattle.tb_todotxt.specs.FileTexts.{file_text}
use Rattle.tb_todotxt.proofs.writing.write_file.Given as goal

-- the lines so far, and those of the tasks to come
abbrev pub invariant-loop-shown : goal.invariant-loop-shown
invariant-loop-shown l = string_bytes l.text ++ file_text (drop l.shown-index l.tasks) ≡ file_text l.tasks
