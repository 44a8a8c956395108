use Rattle.std.proofs.Common.{rules, ◌≡◌, ◌∷◌, ◌++◌, [], codes, inr, refl, subst}
use Rattle.std.specs.Io.KnownBytes.{Appends}
use Rattle.tb_caller.proofs.my_deeds.keep_board.Goals as goal

pub returns-clause-kept : goal.returns-clause-kept
returns-clause-kept g c =
    let contents = g.W.Write.contents in
    let line = c.as_str-3.result.now in
    let is : line ≡ codes "From now on: board " ++ c.args.board.now = search rules in
    let printed : Appends (contents c.args.writer.now) (contents c.print_line.new.writer) (line ++ 10 ∷ []) = search rules in
    inr (subst (λ text. Appends (contents c.args.writer.now) (contents c.print_line.new.writer) (text ++ 10 ∷ [])) is printed, refl)
