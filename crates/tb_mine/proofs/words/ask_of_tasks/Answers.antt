use Rattle.std.proofs.Common.{rules, ◌≡◌, ◌∷◌, [], Some, refl}
use Rattle.std.proofs.lemmas.Result.{IfOk-weaker}
use Rattle.tb_my.specs.Look.{seen_in}
use Rattle.tb_mine.specs.Asked.{Asked, IsLookAt}
use Rattle.tb_mine.proofs.words.ask_of_tasks.Goals as goal

pub returns-in_ok-tasks-in-Some-clause-asked : goal.returns-in_ok-tasks-in-Some-clause-asked
returns-in_ok-tasks-in-Some-clause-asked g c =
    let follows = g.A.Asks.follows in
    let export = c.in-Some.export in
    let tasks = c.in_ok-tasks-in-Some.tasks in
    let look : (look : Asked) × follows (look ∷ []) c.args.asks.now c.look_at.new.asks × IsLookAt c.args.context.now.board look (Some export) = search rules in
    let seen : seen_in export ≡ Some tasks = search rules in
    IfOk-weaker c.ask_seen.result _ _
    (λ is_accepted p. let all = look.0 ∷ p.0 in (
      all,
      g.A.Asks.joined (look.0 ∷ []) p.0 c.args.asks.now c.look_at.new.asks c.ask_seen.new.asks look.1 p.1,
      record {
        look = look.0;
        export = Some export;
        is = look.2;
        more = p.0;
        first = refl {a = all};
        goes = record { tasks = tasks; seen = seen; asked = p.2 };
      },
    ))
    (rw c.as_slice.ensures at c.ask_seen.ensures.asked)
