use Rattle.std.proofs.Common.{◌≡◌, List, Option, string_bytes, sym, ap, ◌∙◌}
use Rattle.serde_json.specs.Data.{Data, Members, member}
use Rattle.serde_json.specs.View.{members_view, view}
use Rattle.tb_task.specs.declared.incoming.Incoming.{Incoming}
use Rattle.tb_cleaning.specs.Losses.{drop_of, drops_on}
use Rattle.tb_cleaning.specs.Respelling.{with_text}
use Rattle.tb_cleaning.specs.Steps.{Text}
use Rattle.tb_cleaning.proofs.losses.push_drops.Goals as goal

-- one member more
drops_more : (task d : Data) (i : Incoming) (found new : List Text) (name known : Text) (ms : Members) (line : Option Text) → known ≡ name
    → line ≡ drop_of task known d i → new ≡ with_text found line → drops_on task i new ms ≡ drops_on task i found (member name d ms)
drops_more task d i found new name known ms line same said put =
    ap (λ lines. drops_on task i lines ms) (put ∙ ap (with_text found) (said ∙ ap (λ n. drop_of task n d i) same))

pub loop-name-preserved : goal.loop-name-preserved
loop-name-preserved c =
    let task = view c.args.task.now in
    let found = c.loop-name.found in
    let more =
    drops_more task (view c.in-Some.value.now) c.args.incoming.now found c.push_text.new.found (string_bytes c.in-Some.name.now) c.deref.result.now
    (members_view c.next.new.self) c.in_ok-drop_of.field-0 c.deref.ensures c.in_ok-drop_of.ensures c.in_ok-push_text.ensures in
    more ∙ ap (λ entries. drops_on task c.args.incoming.now found (members_view entries)) (sym c.in-Some.ensures.steps) ∙ c.loop-name.invariant
