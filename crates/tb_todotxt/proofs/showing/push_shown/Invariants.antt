use Rattle.std.proofs.Common.{◌≡◌, ◌++◌, map, string_bytes}
use Rattle.std.specs.Str.{encode_utf8_all}
use Rattle.tb_todotxt.specs.Showing.{shown_char}
use Rattle.tb_todotxt.proofs.showing.push_shown.Given as goal

-- the characters so far are shown
abbrev pub invariant-loop-character : goal.invariant-loop-character
invariant-loop-character l = string_bytes l.body ≡ string_bytes l.fn.body ++ encode_utf8_all (map (shown_char l.fn.instead) l.yielded)
