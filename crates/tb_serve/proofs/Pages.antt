-- A message that is told a file.
use Rattle.std.proofs.Common.{◌≡◌, ℕ, Bool, List, [], Option, Some, None, refl, sym, ap, ◌∙◌, subst}
use Rattle.tb_calls.specs.declared.call.Call.{Call}
use Rattle.tb_calls.specs.Call.{State}
use Rattle.tb_calls.specs.Leaving.{Only}
use Rattle.tb_asking.specs.Asking.{asked_of, asked_on}
use Rattle.tb_http.specs.declared.message.Message.{Message}
use Rattle.tb_http.specs.Answer.{answer_text}
use Rattle.tb_http.specs.Message.{takes_body}
use Rattle.tb_site.specs.declared.site.Site.{Site}
use Rattle.tb_site.specs.declared.site.SiteFile.{SiteFile}
use Rattle.tb_site.specs.Site.{file_answer, file_for}
use Rattle.tb_site.proofs.Files.{files_behind_routes}
use Rattle.tb_serve.specs.declared.serving.MessageOutcome.TheVariants.{Replied}
use Rattle.tb_serve.specs.Serving.{HandlesMessage, Sends, Settles}
use Rattle.tb_serve.specs.Telling.{StandsAt, after, called_by, calls_in, file_or, told_at, told_text, told_with}

-- it asks for no call
pub no_calls : (site : Site) (message : Message) (at : Option ℕ) (file : SiteFile) → file_for site message ≡ Some file → calls_in message at ≡ []
unfolding asked_of
no_calls site message None file is = refl
no_calls site message (Some at) file is = ap (λ r. called_by (asked_on r message at)) (files_behind_routes site message file is)

pub file_settles : (site : Site) (s : State) (message : Message) (at : Option ℕ) (file : SiteFile) (now stops : State → Type 0)
    → Some file ≡ file_for site message → now s → Only s stops → Settles s at message Replied now stops
file_settles site s message at file now stops is held only =
    subst (λ (cs : List Call). StandsAt (after s cs) now stops) (sym (no_calls site message at file (sym is))) (record { held = held; stops = only })

pub file_handled : (site : Site) (s : State) (message : Message) (at : Option ℕ) (closes : Bool) (file : SiteFile) (old new : Option (List ℕ)) (is_whole : Bool) (now stops : State → Type 0)
    → Some file ≡ file_for site message
    → Sends old new [] (answer_text (file_answer file closes (takes_body message)) file.body) is_whole
    → now s → Only s stops → HandlesMessage site s at closes message old new Replied is_whole now stops
file_handled site s message at closes file old new is_whole now stops is sends held only = (
  answer_text (file_answer file closes (takes_body message)) file.body,
  sends,
  (ap (λ o. told_text (file_or o (told_at s message at)) closes (takes_body message)) is, file_settles site s message at file now stops is held only),
)

-- any other is told what the boards tell
pub boards_tell : (site : Site) (s : State) (message : Message) (at : Option ℕ) → None ≡ file_for site message → told_at s message at ≡ told_with site s message at
boards_tell site s message at is = ap (λ o. file_or o (told_at s message at)) is
