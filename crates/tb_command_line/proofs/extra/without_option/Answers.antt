use Rattle.std.proofs.Common.{rules, ◌≡◌, ◌∙◌, ◌++◌, ◌+◌, true, take, map, ap}
use Rattle.tb_command_line.specs.Extra.{has_option}
use Rattle.tb_command_line.proofs.Leaving.{left_out, whole_behind}
use Rattle.tb_command_line.proofs.extra.without_option.Goals as goal

pub returns : goal.returns
returns c =
    let place = c.option_place-place.result in
    let words = c.args.words.now in
    let has : has_option c.args.name.now (map (λ word. word.now) words) ≡ true = search rules in
    let front : c.in_ok-rest.rest.items ≡ take place words = search rules in
    let back = whole_behind words (place + 2) in
    let items = c.in_ok-extend_from_slice.ensures.items ∙ ap (λ rest. c.in_ok-rest.rest.items ++ rest) back in
    left_out (λ word. word.now) c.args.name.now words c.extend_from_slice.new.self.items place has c.option_place-place.ensures.value (rw front at items)
