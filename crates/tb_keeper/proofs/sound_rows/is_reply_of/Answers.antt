use Rattle.std.proofs.Common.{◌≡◌, ◌∙◌, ◌&&◌, Bool, true, false, refl, sym, arith}
use Rattle.std.specs.Prelude.{nat_lt}
use Rattle.std.proofs.lemmas.Bool.Decides.{nat_tests}
use Rattle.tb_keeper.proofs.sound_rows.is_reply_of.Goals as goal

and_both : (a b c : Bool) → b ≡ true → c ≡ true → a ≡ (a && (b && c))
and_both true b c p q = rw (p, q) refl
and_both false b c p q = refl

pub returns : goal.returns
returns c =
    let row = c.args.row.now in
    let number : nat_lt row.number 256 ≡ true = let low = c.kept_fits.ensures.number in grind (arith, nat_tests) in
    let status : nat_lt row.status 65536 ≡ true = let low = c.kept_fits.ensures.status in grind (arith, nat_tests) in
    c.is_number_of.ensures ∙ and_both _ _ _ number status
