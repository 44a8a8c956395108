use Rattle.std.proofs.Common.{rules, ◌≡◌, None, codes, false, subst}
use Rattle.tb_caller.proofs.Lines.{mine_by}
use Rattle.tb_caller.specs.Mine.{ComesTo, checked_path, is_alone}
use Rattle.tb_my.specs.Options.{help_asked, words_after_options}
use Rattle.tb_caller.proofs.mine.ask_mine.Goals as goal

pub returns-clause-done : goal.returns-clause-done
returns-clause-done g c =
    let contents = g.W.Write.contents in
    let all = c.args.order.now.words in
    let words = words_after_options all in
    let input = g.R.Read.remaining c.args.reader in
    let caller = c.in-Ok.caller in
    let asked = c.in_ok-is_accepted.ensures.asked in
    let same : c.words_after_options-words.result.now ≡ words = search rules in
    let no_help : help_asked words ≡ None = search rules in
    let no_setup : is_alone words (codes "setup") ≡ false = search rules in
    let no_check : checked_path words ≡ None = search rules in
    mine_by _ _ (help_asked words) (is_alone words (codes "setup")) (checked_path words) all input _ _ c.ending_if.result no_help no_setup no_check (record {
      asker = caller.asker;
      key = caller.key;
      named = search rules;
      asked = asked.0;
      first = caller.chance;
      last = c.ask_as.new.caller.chance;
      sent = asked.1.2;
      is_accepted = c.in_ok-is_accepted.is_accepted;
      is = search rules;
      comes = subst (λ ws. ComesTo ws input (contents c.args.writer.now) (contents c.ask_as.new.writer) caller.asker asked.0 c.in_ok-is_accepted.is_accepted) same asked.2;
    })
