use Rattle.std.proofs.Common.{◌++◌, refl, subst, sym}
use Rattle.std.proofs.lemmas.Result.{IfOk-weaker}
use Rattle.tb_caller.specs.Asking.{asked_joined}
use Rattle.tb_caller.specs.Mine.{IsImportedAt}
use Rattle.tb_caller.proofs.my_deeds.import_file.Goals as goal

pub returns-clause-asked : goal.returns-clause-asked
returns-clause-asked g c =
    let contents = g.W.Write.contents in
    let look = c.in_ok-board.ensures.asked in
    let found = c.in_ok-board.field-0 in
    IfOk-weaker c.import_into_board.result _ _
    (λ ok p. let all = look.0 ++ p.0 in (
      all,
      asked_joined _ _ look.0 p.0 c.args.caller.now c.find_board.new.asks c.import_into_board.new.caller look.1 p.1,
      record {
        name = c.in_ok-name.name;
        named = c.in_ok-name.ensures.board;
        look = look.0;
        board = found;
        found = look.2;
        more = p.0;
        first = refl {a = all};
        imported = subst (λ b. IsImportedAt b c.args.path.now c.args.mode (g.R.Read.remaining c.args.reader) (contents c.args.writer.now) (contents c.import_into_board.new.writer) p.0 ok)
            (sym c.in-Some.is) p.2;
      },
    ))
    c.import_into_board.ensures.asked
