use Rattle.std.proofs.Common.{◌∙◌, ap, option_and_then, option_map}
use Rattle.tb_calls.specs.declared.call.KeptReply.{KeptReply}
use Rattle.tb_history.specs.Contents.{content_shown}
use Rattle.tb_desk.proofs.Lists.{by_name, key_order, lookup_named}
use Rattle.tb_desk.proofs.pages.content_under.Goals as goal

pub returns-in-Some : goal.returns-in-Some
returns-in-Some c =
    c.shown_content.ensures
    ∙ ap (content_shown c.args.what) c.as_slice.ensures
    ∙ ap (λ o. option_and_then (content_shown c.args.what) (option_map (λ (kept : KeptReply). kept.content) o))
    (c.in-Some.ensures.value ∙ lookup_named key_order by_name c.args.name.now c.args.kept.now.entries)

pub returns-in-None : goal.returns-in-None
returns-in-None c =
    ap (λ o. option_and_then (content_shown c.args.what) (option_map (λ (kept : KeptReply). kept.content) o))
    (c.in-None.ensures.value ∙ lookup_named key_order by_name c.args.name.now c.args.kept.now.entries)
