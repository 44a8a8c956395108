use Rattle.std.proofs.Common.{◌≡◌, ◌∙◌, ◌+◌, ◌++◌, ◌∷◌, ◌<◌, ◌==◌, [], ap, arith, eq-eqb, false, get_or, length, map, ne_eqb, sym, true}
use Rattle.tb_desk.specs.EntryList.{number_and_entry}
use Rattle.tb_desk.proofs.Entries.{left_out, passed}
use Rattle.tb_desk.proofs.entry_list.numbered_on.Goals as goal
use Rattle.tb_desk.proofs.entry_list.numbered_on.Goals.{then-entry-board+in_ok-push_next, else-entry-board}

pub loop-entry-preserved : goal.loop-entry-preserved
loop-entry-preserved c =
    let xs = c.args.entries.now in
    let i = c.loop-entry.entry-index in
    let item = c.entry-item.result in
    let list = c.loop-entry.list.items in
    let within : i < length xs = omega arith in
    elim c.if-entry-board.branch [
      | then-entry-board+in_ok-push_next w ↦
          let is : (c.args.board == (get_or xs i item).board) ≡ true = eq-eqb _ _ (sym w.if-entry-board.true ∙ ap (λ e. e.board) c.entry-item.is) in
          ap (λ v. map number_and_entry v.items) w.list-is
          ∙ passed c.args.board xs i item within list w.push_next.new.list.items is c.loop-entry.invariant
          (w.in_ok-push_next.ensures ∙ ap (λ e. map number_and_entry list ++ (length list + 1, e.entry) ∷ []) c.entry-item.is)
      | else-entry-board w ↦
          let isnt : (c.args.board == (get_or xs i item).board) ≡ false = ne_eqb _ _ (λ same. w.if-entry-board.false (ap (λ e. e.board) c.entry-item.is ∙ sym same)) in
          ap (λ v. map number_and_entry v.items) w.list-is ∙ left_out c.args.board xs i item within list isnt c.loop-entry.invariant
    ]
