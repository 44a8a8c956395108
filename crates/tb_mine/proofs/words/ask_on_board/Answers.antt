use Rattle.std.proofs.Common.{rules, ◌++◌, List, Some, None, [], refl}
use Rattle.std.proofs.lemmas.Result.{IfOk-weaker}
use Rattle.tb_mine.specs.Asked.{Asked}
use Rattle.tb_mine.specs.Naming.{IsFound}
use Rattle.tb_mine.proofs.words.ask_on_board.Goals as goal

pub returns-in-Some-clause-asked : goal.returns-in-Some-clause-asked
returns-in-Some-clause-asked g c =
    let follows = g.A.Asks.follows in
    let look : (look : List Asked) × follows look c.args.asks.now c.find_board.new.asks × IsFound c.args.context.board look (Some c.in-Some.board) = search rules in
    IfOk-weaker c.ask_words.result _ _
    (λ is_accepted p. let all = look.0 ++ p.0 in (
      all,
      g.A.Asks.joined look.0 p.0 c.args.asks.now c.find_board.new.asks c.ask_words.new.asks look.1 p.1,
      record {
        look = look.0;
        board = Some c.in-Some.board;
        found = look.2;
        more = p.0;
        first = refl {a = all};
        done = p.2;
      },
    ))
    c.ask_words.ensures.asked

pub returns-in-None-clause-asked : goal.returns-in-None-clause-asked
returns-in-None-clause-asked g c =
    let follows = g.A.Asks.follows in
    let look : (look : List Asked) × follows look c.args.asks.now c.find_board.new.asks × IsFound c.args.context.board look None = search rules in
    let all = look.0 ++ [] in (
      all,
      g.A.Asks.joined look.0 [] c.args.asks.now c.find_board.new.asks c.find_board.new.asks look.1 (g.A.Asks.unchanged c.find_board.new.asks),
      record {
        look = look.0;
        board = None;
        found = look.2;
        more = [];
        first = refl {a = all};
        done = (refl, refl, refl);
      },
    )
