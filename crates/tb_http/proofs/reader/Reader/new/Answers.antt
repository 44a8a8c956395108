use Rattle.std.proofs.Common.{ap}
use Rattle.tb_http.specs.Inbox.{Held}
use Rattle.tb_http.proofs.ReaderLemmas.{prepend_nothing}
use Rattle.tb_http.proofs.reader.Reader.new.Goals as goal

pub returns : goal.returns
returns g c =
    let empty = c.new.ensures in (
      prepend_nothing (g.R.Read.remaining c.args.source) _ (ap (λ (h : Held). h.bytes) empty),
      ap (λ (h : Held). h.messages) empty,
      ap (λ (h : Held). h.is_closing) empty,
    )
