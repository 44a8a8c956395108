use Rattle.std.proofs.Common.{◌∙◌, not, sym, ap, arith, Some, None, refl}
use Rattle.std.proofs.lemmas.Str.Pattern.{split_parts}
use Rattle.tb_todotxt.specs.Line.{is_blank}
use Rattle.tb_todotxt.proofs.FirstWords.{no_more, free_from, first_marked}
use Rattle.tb_todotxt.proofs.marks.first_word.Goals as goal

pub returns-in_err-word : goal.returns-in_err-word
returns-in_err-word c = rw c.from_residual.ensures (
    ap (λ rest. not (is_blank rest)) (no_more c.args.text.now (free_from c.args.text.now 32 (split_parts 32 c.args.text.now None c.in_err-word.ensures.cases (omega arith)))))

pub returns-then-is_blank : goal.returns-then-is_blank
returns-then-is_blank c =
    let parts = split_parts 32 c.args.text.now (Some (c.in_ok-word.word, c.in_ok-word.rest)) c.in_ok-word.ensures.cases (omega arith) in
    let first = first_marked c.in_ok-word.word.now c.in_ok-word.rest.now (free_from c.in_ok-word.word.now 32 parts.1) in
    let blank = sym c.is_blank.ensures ∙ c.if-is_blank.true in
    rw (parts.0, first.1, blank) refl

pub returns : goal.returns
returns c =
    let parts = split_parts 32 c.args.text.now (Some (c.in_ok-word.word, c.in_ok-word.rest)) c.in_ok-word.ensures.cases (omega arith) in
    let first = first_marked c.in_ok-word.word.now c.in_ok-word.rest.now (free_from c.in_ok-word.word.now 32 parts.1) in
    let full = sym c.is_blank.ensures ∙ c.if-is_blank.false in
    rw (parts.0, first.0, first.1, full) (refl, refl, refl)
