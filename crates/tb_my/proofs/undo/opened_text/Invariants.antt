use Rattle.std.proofs.Common.{◌≡◌, ◌++◌, drop, false, string_bytes}
use Rattle.std.specs.Str.{encode_utf8_all}
use Rattle.tb_my.specs.Undo.{opened_chars}
use Rattle.tb_my.proofs.undo.opened_text.Given as goal

-- the characters so far and those that are left are all
abbrev pub invariant-loop-character : goal.invariant-loop-character
invariant-loop-character l =
    string_bytes l.text ++ encode_utf8_all (opened_chars l.is_marked (drop l.character-index l.characters))
    ≡ encode_utf8_all (opened_chars false l.characters)
