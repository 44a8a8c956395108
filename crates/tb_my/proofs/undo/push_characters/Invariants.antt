use Rattle.std.proofs.Common.{◌≡◌, ◌++◌, drop, string_bytes}
use Rattle.std.specs.Str.{encode_utf8_all}
use Rattle.tb_my.specs.Undo.{kept_chars}
use Rattle.tb_my.proofs.undo.push_characters.Given as goal

-- the characters so far and those that are left are all
abbrev pub invariant-loop-character : goal.invariant-loop-character
invariant-loop-character l =
    string_bytes l.text ++ encode_utf8_all (kept_chars (drop l.character-index l.characters))
    ≡ string_bytes l.fn.text ++ encode_utf8_all (kept_chars l.characters)
