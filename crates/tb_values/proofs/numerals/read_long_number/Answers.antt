use Rattle.std.proofs.Common.{◌∙◌, sym}
use Rattle.tb_values.proofs.NumeralLemmas.{parsed, no_number}
use Rattle.tb_values.proofs.numerals.read_long_number.Goals as goal

pub returns : goal.returns
returns c = c.ok.ensures.value ∙ parsed c.args.text.now c.parse.result (sym c.begins_above_zero.ensures ∙ c.if-not-begins_above_zero.false) c.parse.ensures.value.0

pub returns-then-not-begins_above_zero : goal.returns-then-not-begins_above_zero
returns-then-not-begins_above_zero c = no_number 4294967295 c.args.text.now (sym c.begins_above_zero.ensures ∙ c.if-not-begins_above_zero.true)
