-- The server as one that takes turns.
use Rattle.std.proofs.Common.{◌≡◌, ℕ, ◌+◌, List, [], ◌∷◌, ◌++◌, refl, sym, ap, ◌∙◌}
use Rattle.tb_calls.specs.Call.{State}
use Rattle.tb_desk.proofs.Runs.{after_all-append}
use Rattle.tb_http.proofs.StreamLemmas.{message_more}
use Rattle.tb_serve.specs.Laws.{AnyTurns, OneAlone, moments_of, received_of}
use Rattle.tb_serve.specs.Server.{Timed, calls_among, calls_at, server}
use Rattle.tb_serve.specs.Serving.{answer_to, answers}
use Rattle.tb_serve.specs.Telling.{after}
use Rattle.tb_serve.specs.Turns.{IsSteady, handled, led_to, taken_on, texts}
use Rattle.tb_serve.proofs.Interleaved.{each_served, state_is}
use Rattle.tb_serve.proofs.Alone.{alone}
use Rattle.tb_site.specs.declared.site.Site.{Site}

steady : (site : Site) → IsSteady (server site)
steady site bytes m rest piece begins = message_more bytes piece m.received.message m.received.closes rest begins

pub led_is : (site : Site) (s : State) (ms : List Timed) → led_to (server site) s ms ≡ after s (calls_among ms)
led_is site s [] = refl
led_is site s (m ∷ ms) = led_is site (after s (calls_at m)) ms ∙ sym (after_all-append s (calls_at m) (calls_among ms))

pub any_turns : AnyTurns
any_turns site s talks ks end later run =
    (state_is (server site) s talks ks end later run ∙ led_is site s (handled ks), each_served (server site) (steady site) s talks ks end later run)

texts_are : (site : Site) (s : State) (before : ℕ) (ms : List Timed) → texts (server site) s before ms ≡ answers site s (moments_of ms) before (received_of ms)
texts_are site s before [] = refl
texts_are site s before (m ∷ ms) = ap (λ more. answer_to site s m.at before m.received ++ more) (texts_are site (after s (calls_at m)) (before + 1) ms)

pub one_alone : OneAlone
one_alone site c s before ks at well = alone (server site) c s before ks at well ∙ texts_are site s before (taken_on c ks)
