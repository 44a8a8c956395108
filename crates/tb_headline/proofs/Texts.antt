-- What a message is told that asks for a call.
use Rattle.std.proofs.Common.{◌≡◌, ℕ, [], ◌∷◌, Option, Some, None, Result, Ok, Err, refl, sym, ap, ◌∙◌}
use Rattle.tb_asking.specs.declared.asked.Asked.{Asked}
use Rattle.tb_asking.specs.declared.asked.Asked.TheVariants as some
use Rattle.tb_asking.specs.declared.rejection.Rejection.{Rejection}
use Rattle.tb_asking.specs.Asking.{asked_of}
use Rattle.tb_calls.specs.declared.call.Call.{Call}
use Rattle.tb_calls.specs.Call.{State, reply}
use Rattle.tb_headline.specs.Headline.{TellsReplies}
use Rattle.tb_http.specs.declared.answer.ContentType.TheVariants.{Json}
use Rattle.tb_http.specs.declared.message.Message.{Message}
use Rattle.tb_http.specs.Message.{takes_body}
use Rattle.tb_http.specs.Wire.{is_last}
use Rattle.tb_serve.specs.declared.response.Response.{Response}
use Rattle.tb_serve.proofs.Pages.{no_calls}
use Rattle.tb_serve.specs.Telling.{called_by, calls_in, file_or, told_at, told_by, told_reply, told_text}
use Rattle.tb_site.specs.declared.site.Site.{Site}
use Rattle.tb_site.specs.declared.site.SiteFile.{SiteFile}
use Rattle.tb_site.specs.Site.{file_for}

first_is : (c call : Call) → c ∷ [] ≡ call ∷ [] → c ≡ call
first_is c call is = cc

told_by_reply : (s : State) (at : ℕ) (asked : Result Asked Rejection) (call : Call) → called_by asked ≡ call ∷ []
    → told_by s at asked ≡ told_reply Json (reply s [] call)
told_by_reply s at (Ok (some.Call c)) call is =
    ap (λ (k : Call). told_reply Json (reply s [] k)) (first_is c call is)
told_by_reply s at (Ok (some.View sender view)) call is = absurd (cc)
told_by_reply s at (Ok some.Unknown) call is = absurd (cc)
told_by_reply s at (Err rejection) call is = absurd (cc)

told_at_reply : (s : State) (message : Message) (at : Option ℕ) (call : Call) → calls_in message at ≡ call ∷ []
    → told_at s message at ≡ told_reply Json (reply s [] call)
told_at_reply s message None call is = absurd (cc)
told_at_reply s message (Some at) call is = told_by_reply s at (asked_of message at) call is

no_call : (call : Call) → [] ≡ call ∷ [] → ⊥
no_call call is = cc

-- such a message is told no file
told_with_reply : (site : Site) (s : State) (message : Message) (at : Option ℕ) (call : Call) (found : Option SiteFile) → calls_in message at ≡ call ∷ []
    → file_for site message ≡ found → file_or found (told_at s message at) ≡ told_reply Json (reply s [] call)
told_with_reply site s message at call None is same = told_at_reply s message at call is
told_with_reply site s message at call (Some file) is same = absurd (no_call call (sym (no_calls site message at file same) ∙ is))

pub tells_replies : TellsReplies
tells_replies site s before m call is =
    ap (λ (told : Response). told_text told (is_last m.received.closes before) (takes_body m.received.message))
    (told_with_reply site s m.received.message m.at call (file_for site m.received.message) is refl)
