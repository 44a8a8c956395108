use Rattle.std.proofs.Common.{◌≡◌, ◌++◌, map, string_bytes}
use Rattle.std.specs.Str.{encode_utf8_all}
use Rattle.tb_cleaning.specs.Telling.{shown_char}
use Rattle.tb_cleaning.proofs.telling.push_line.Given as goal

-- the characters so far are shown
abbrev pub invariant-loop-character : goal.invariant-loop-character
invariant-loop-character l = string_bytes l.told ≡ string_bytes l.fn.told ++ encode_utf8_all (map shown_char l.yielded)
