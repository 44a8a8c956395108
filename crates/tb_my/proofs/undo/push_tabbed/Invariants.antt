use Rattle.std.proofs.Common.{◌≡◌, ◌++◌, drop, map, string_bytes}
use Rattle.tb_my.specs.Undo.{kept_word, tabbed_after}
use Rattle.tb_my.proofs.undo.push_tabbed.Given as goal

abbrev pub invariant-loop-word : goal.invariant-loop-word
invariant-loop-word l =
    string_bytes l.text ++ tabbed_after (map kept_word (drop l.word-index l.words))
    ≡ string_bytes l.fn.text ++ tabbed_after (map kept_word l.words)
