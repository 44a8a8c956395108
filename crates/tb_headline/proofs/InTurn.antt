-- Sessions that serve connections, in a row.
use Rattle.std.proofs.Common.{◌≡◌, List, [], ◌∷◌, length, take, refl, sym, ap, ◌∙◌}
use Rattle.std.proofs.lemmas.List.{take_at}
use Rattle.tb_calls.specs.declared.call.Call.{Call}
use Rattle.tb_calls.specs.Call.{State, replies_to}
use Rattle.tb_desk.specs.Sessions.{calls_of}
use Rattle.tb_headline.proofs.Lives.{headline}
use Rattle.tb_headline.proofs.Replies.{replies_are, replies_front}
use Rattle.tb_headline.specs.Headline.{HeadlineOfConnections, ServeInTurn, ServedInTurn, Serves, Service, StopsJoin, left_by, sendings, Lives, calls_handled}
use Rattle.tb_serve.proofs.TakingTurns.{any_turns}
use Rattle.tb_calls.specs.declared.reply.Reply.{Reply}
use Rattle.tb_serve.specs.Telling.{after}
use Rattle.tb_serve.specs.Turns.{handled}

-- what connections are told are the replies to the calls that were answered
told_are : (s : State) (x : Service) (r : List Reply) → Serves s x r
    → r ≡ take x.sending.answered (replies_to s (calls_of x.sending.sent))
told_are s x r serves =
    serves.told
    ∙ replies_are s (handled x.steps)
    ∙ ap (replies_to s) serves.answered
    ∙ replies_front s [] (calls_of x.sending.sent) x.sending.answered

lives : (s : State) (xs : List Service) (rs : List (List Reply)) (t : State)
    → ServeInTurn s xs rs t → Lives s (sendings xs) rs t
lives s [] [] t is = is
lives s [] (r ∷ rs) t on = absurd on
lives s (x ∷ xs) [] t on = absurd on
lives s (x ∷ xs) (r ∷ rs) t (serves, on) =
    (told_are s x r serves, serves.low, serves.high, left_by s x, refl, lives (left_by s x) xs rs t on)

served : (s : State) (xs : List Service) (rs : List (List Reply)) (t : State)
    → ServeInTurn s xs rs t → ServedInTurn s xs
served s [] [] t is = tt
served s [] (r ∷ rs) t on = absurd on
served s (x ∷ xs) [] t on = absurd on
served s (x ∷ xs) (r ∷ rs) t (serves, on) =
    ((any_turns x.site s x.talks x.steps serves.end x.later serves.run).1, served (left_by s x) xs rs t on)

pub headline_of_connections : HeadlineOfConnections
headline_of_connections s calls xs rs t good sends known on =
    (headline s calls (sendings xs) rs t good sends known (lives s xs rs t on), served s xs rs t on)

pub stops_join : StopsJoin
stops_join site s end t talks later steps more sent run (stood, low, high, is) same =
    let calls = calls_handled steps in (
      stood,
      record {
        end = end;
        run = run;
        answered = sym (ap (take (length calls)) same ∙ take_at calls more (length calls) refl);
        told = refl;
        low = low;
        high = high;
      },
      is ∙ ap (λ (cs : List Call). after s (take stood cs)) (sym same),
    )
