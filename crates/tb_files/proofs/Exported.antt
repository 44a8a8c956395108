-- What an export that is accepted comes to.
use Rattle.std.proofs.Common.{◌≡◌, ◌∙◌, ℕ, List, Option, None, ap, subst, sym}
use Rattle.std.specs.Io.KnownBytes.{Appends}
use Rattle.tb_board.specs.World.{find_board}
use Rattle.tb_calls.specs.Call.{State}
use Rattle.tb_command_line.specs.declared.order.ViewKind.TheVariants.{Export}
use Rattle.tb_command_line.specs.declared.order.ViewOrder.{ViewOrder}
use Rattle.tb_desk.specs.Admitting.{admission}
use Rattle.tb_desk.specs.Viewing.{shown_in}
use Rattle.tb_desk.proofs.Admitted.{IsExportOf, accepted_export}
use Rattle.tb_keeper.specs.declared.export_fault.ExportFault.{ExportFault}
use Rattle.tb_keeper.specs.Exporting.{IsCut, IsExported}
use Rattle.tb_orders.specs.Orders.{ending_of, shown_by, view_in, view_text}
use Rattle.tb_orders.specs.declared.ending.Ending.TheVariants.{Accepted}
use Rattle.tb_values.specs.Appends.{AppendsFront}

module _ (s : State) (order : ViewOrder) (at : ℕ) (is : order.kind ≡ Export) (accepted : None ≡ admission (shown_by s order at)) where
  shown : IsExportOf s order.member order.key order.board at (shown_by s order at)
  shown =
      let same = ap (λ kind. shown_in s order.member order.key (view_in kind order.board) at) is in
      subst (IsExportOf s order.member order.key order.board at) (sym same) (accepted_export s order.member order.key order.board at (accepted ∙ ap admission same))

  pub told_whole : (count : ℕ) (old new : Option (List ℕ)) → IsExported (find_board s.world order.board) at count old new → Appends old new (view_text (shown_by s order at))
  told_whole count old new exported =
      let whole = subst (λ o. IsExported o at count old new) shown.found exported in
      subst (λ reply. Appends old new (view_text reply)) (sym shown.is) whole.1

  pub told_front : (fault : ExportFault) (old new : Option (List ℕ)) → IsCut (find_board s.world order.board) at fault old new → AppendsFront old new (view_text (shown_by s order at))
  told_front fault old new cut =
      let front = subst (λ o. IsCut o at fault old new) shown.found cut in
      subst (λ reply. AppendsFront old new (view_text reply)) (sym shown.is) front.1

  pub ends_accepted : Accepted ≡ ending_of (shown_by s order at)
  ends_accepted = ap ending_of (sym shown.is)
