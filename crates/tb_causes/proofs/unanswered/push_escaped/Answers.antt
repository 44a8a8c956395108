use Rattle.std.proofs.Common.{◌++◌, sym, ap, ◌∙◌, arith, rules}
use Rattle.std.specs.String.{string_bytes}
use Rattle.std.proofs.lemmas.Str.Pattern.{split_parts}
use Rattle.tb_causes.proofs.Quoting.{escaped_plain, escaped_step}
use Rattle.tb_causes.proofs.unanswered.push_escaped.Goals as goal

pub loop-part-preserved : goal.loop-part-preserved
loop-part-preserved c =
    let l = c.loop-part in
    let cut = rw c.in-Some.is at (split_parts 39 l.rest.now c.split_once.result c.split_once.ensures.cases (omega arith)) in (
      rw (c.in_ok-push_str-2.ensures.bytes, c.in_ok-push_str.ensures.bytes)
          (escaped_step (string_bytes l.text) c.in-Some.part.now c.in-Some.behind.now l.rest.now _ cut.0 cut.1 l.invariant.0),
      search rules,
    )

pub returns : goal.returns
returns c =
    let l = c.loop-part in
    let none = rw c.in_default.is at (split_parts 39 l.rest.now c.split_once.result c.split_once.ensures.cases (omega arith)) in
    rw c.in_ok-push_str-3.ensures.bytes (ap (λ t. string_bytes l.text ++ t) (sym (escaped_plain l.rest.now none)) ∙ l.invariant.0)
