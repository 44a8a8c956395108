use Rattle.std.proofs.Common.{◌∙◌, ap, subst, sym}
use Rattle.std.specs.Prelude.{OnErr}
use Rattle.tb_desk.specs.Admitting.{admission}
use Rattle.tb_desk.specs.Viewing.{shown_in}
use Rattle.tb_desk.proofs.Admitted.{refused_is}
use Rattle.tb_orders.specs.Orders.{view_text}
use Rattle.tb_files.proofs.exporting.print_export.Goals as goal
use Rattle.tb_values.specs.Appends.{AppendsFront}

pub returns-in-Ok-Some-clause-front : goal.returns-in-Ok-Some-clause-front
returns-in-Ok-Some-clause-front g c honest s held =
    let order = c.args.order.now in
    let told = c.in-Ok-Some.ensures.told honest s held c.args.at in
    let refused = sym c.in-Ok-Some.field-0-is ∙ told ∙ ap (λ view. admission (shown_in s order.member order.key view c.args.at)) c.view_of.ensures in
    subst (λ reply. OnErr c.print_shown.result (AppendsFront (g.W.Write.contents c.args.writer.now) (g.W.Write.contents c.print_shown.new.writer) (view_text reply)))
    (refused_is _ _ refused) c.print_shown.ensures.front
