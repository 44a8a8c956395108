-- A task that is added, after its call was answered.
use Rattle.std.proofs.Common.{◌≡◌, ◌∷◌, ◌++◌, [], ℕ, List, true, Option, refl, subst, sym}
use Rattle.std.specs.Io.KnownBytes.{Appends}
use Rattle.tb_mine.specs.Asked.{Asked, IsAdded, IsLookAt, IsNumberedIf, Output, asked_of, number_in}
use Rattle.tb_mine.specs.declared.asks.Answer.{Answer}
use Rattle.tb_mine.specs.declared.context.Context.{Context}
use Rattle.tb_my.specs.Telling.{added_text}
use Rattle.tb_my.specs.declared.sent.Sent.{Sent}

pub numbered_add : (context : Context) (sent : Sent) (id : ℕ) (answer : Answer) (look : Asked) (export : Option (List ℕ)) (before after : Output)
    → answer.is_accepted ≡ true → IsLookAt context.board look export → Appends before after (added_text sent.told (number_in id export) ++ 10 ∷ [])
    → IsAdded context sent id (asked_of sent.words sent.call answer ∷ look ∷ []) before after true
numbered_add context sent id answer look export before after accepted is printed = record {
  call = asked_of sent.words sent.call answer;
  is = (refl, refl);
  rest = look ∷ [];
  first = refl;
  numbered = subst (λ b. IsNumberedIf b context sent id (look ∷ []) before after true) (sym accepted)
      (record { look = look; export = export; is = is; alone = refl; accepted = refl; printed = printed });
}
