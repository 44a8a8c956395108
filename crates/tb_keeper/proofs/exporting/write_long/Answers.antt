use Rattle.std.proofs.Common.{◌∙◌, [], ◌++◌, ap, refl, sym}
use Rattle.std.specs.String.{string_bytes}
use Rattle.std.proofs.lemmas.List.{append-nil}
use Rattle.tb_values.proofs.Appends.{Appends-nil}
use Rattle.tb_keeper.proofs.exporting.write_long.Goals as goal

pub returns-then-len-lt-LONG-clause-told : goal.returns-then-len-lt-LONG-clause-told
returns-then-len-lt-LONG-clause-told g c = ([], refl, Appends-nil (g.W.Write.contents c.args.writer.now))

pub returns-clause-told : goal.returns-clause-told
returns-clause-told g c = (
  string_bytes c.args.pending.now,
  sym (append-nil (string_bytes c.args.pending.now)) ∙ ap (λ l. string_bytes c.args.pending.now ++ l) (sym c.clear.ensures.bytes),
  rw c.as_str.ensures.value at c.in_ok-write_text.ensures.told,
)
