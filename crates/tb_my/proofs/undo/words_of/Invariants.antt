use Rattle.std.proofs.Common.{◌≡◌, map, take}
use Rattle.tb_my.specs.Undo.{opened_word}
use Rattle.tb_my.proofs.undo.words_of.Given as goal

abbrev pub invariant-loop-field : goal.invariant-loop-field
invariant-loop-field l =
    l.words ≡ map opened_word (map (λ field. field.now) (take l.field-index l.fields))
