use Rattle.std.proofs.Common.{rules, add-one, ◌≡◌, true, false, arith, drop, map}
use Rattle.tb_command_line.specs.Extra.{is_option_front}
use Rattle.tb_command_line.proofs.Leaving.{here_place, next_place}
use Rattle.tb_command_line.proofs.extra.option_place.Goals as goal

pub returns-then-is_option_front-clause-value : goal.returns-then-is_option_front-clause-value
returns-then-is_option_front-clause-value c =
    let front : is_option_front c.args.name.now (drop c.loop-place.place (map (λ word. word.now) c.args.words.now)) ≡ true = search rules in
    let here = here_place c.args.name.now (drop c.loop-place.place (map (λ word. word.now) c.args.words.now)) front in
    omega (arith, c.loop-place.invariant.1, here)

pub loop-place-preserved : goal.loop-place-preserved
loop-place-preserved c =
    let front : is_option_front c.args.name.now (drop c.loop-place.place (map (λ word. word.now) c.args.words.now)) ≡ false = search rules in
    let next = next_place (λ word. word.now) c.args.name.now c.args.words.now c.loop-place.place (search rules) front in
    rw add-one (search rules, omega (arith, c.loop-place.invariant.1, next))
