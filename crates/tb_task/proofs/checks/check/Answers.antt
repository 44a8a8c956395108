use Rattle.std.proofs.Common.{sym, subst, true≢false, ◌∙◌}
use Rattle.std.specs.List.{AllByRecursion}
use Rattle.tb_task.specs.Ranges.{IsNamedExtra}
use Rattle.tb_task.proofs.Storables.{own_names, storable_extras, not_empty}
use Rattle.tb_task.proofs.checks.check.Goals as goal

pub returns-else-holds_bad_pair-clause-storable : goal.returns-else-holds_bad_pair-clause-storable
returns-else-holds_bad_pair-clause-storable c =
    let links = c.has_links.ensures in
    let texts = c.has_texts.ensures in
    let task = c.args.task.now in
    record {
      id = links.id;
      moments = c.has_moments.ensures;
      description = not_empty task.description (λ none. true≢false (sym (c.is_empty.ensures.1 none) ∙ c.if-is_empty.false));
      project = texts.project;
      recur = texts.recur;
      tags = texts.tags;
      annotations = texts.annotations;
      depends = links.depends;
      links = links.links;
      parent = links.parent;
      imask = links.imask;
      extras = storable_extras task.extras (subst (AllByRecursion IsNamedExtra) c.as_slice.ensures.items c.are_named.ensures) (own_names task (sym c.holds_bad_pair.ensures ∙ c.if-holds_bad_pair.false));
      names = c.as_slice.ensures.increasing;
    }
