use Rattle.std.proofs.Common.{◌≡◌, ◌++◌, length, IsUtf8}
use Rattle.std.specs.String.{string_bytes}
use Rattle.tb_causes.specs.Unanswered.{escaped}
use Rattle.tb_causes.proofs.unanswered.push_escaped.Given as goal

abbrev pub invariant-loop-part : goal.invariant-loop-part
invariant-loop-part l =
    (string_bytes l.text ++ escaped l.rest ≡ string_bytes l.fn.text ++ escaped l.word)
    × IsUtf8 l.rest

abbrev pub decreases-loop-part : goal.decreases-loop-part
decreases-loop-part l = length l.rest
