-- The replies to calls, in parts.
use Rattle.std.proofs.Common.{◌≡◌, ℕ, zero, suc, List, [], ◌∷◌, ◌++◌, take, refl, sym, ap, ◌∙◌}
use Rattle.tb_calls.specs.declared.call.Call.{Call}
use Rattle.tb_calls.specs.Call.{State, replies_after, replies_to, reply}
use Rattle.tb_desk.proofs.Runs.{after_all-append, replies_after-append}
use Rattle.tb_headline.specs.Headline.{replies_among}
use Rattle.tb_serve.specs.Server.{Timed, calls_among, calls_at}
use Rattle.tb_calls.specs.declared.reply.Reply.{Reply}
use Rattle.tb_serve.specs.Telling.{after}

-- replies behind calls are those in the state that these lead to
replies_behind : (s : State) (before cs : List Call) → replies_after s before cs ≡ replies_to (after s before) cs
replies_behind s before [] = refl
replies_behind s before (c ∷ cs) =
    let t = after s before in
    ap (λ (rs : List Reply). reply s before c ∷ rs)
    (replies_behind s (before ++ c ∷ []) cs
    ∙ ap (λ (u : State). replies_to u cs) (after_all-append s before (c ∷ []))
    ∙ sym (replies_behind t (c ∷ []) cs))

pub replies_front : (s : State) (before cs : List Call) (k : ℕ)
    → replies_after s before (take k cs) ≡ take k (replies_after s before cs)
replies_front s before cs zero = refl
replies_front s before [] (suc k) = refl
replies_front s before (c ∷ cs) (suc k) =
    ap (λ (rs : List Reply). reply s before c ∷ rs) (replies_front s (before ++ c ∷ []) cs k)

-- what messages are told are the replies to their calls
pub replies_are : (s : State) (ms : List Timed) → replies_among s ms ≡ replies_to s (calls_among ms)
replies_are s [] = refl
replies_are s (m ∷ ms) =
    let first = replies_to s (calls_at m) in
    ap (λ (rs : List Reply). first ++ rs)
    (replies_are (after s (calls_at m)) ms ∙ sym (replies_behind s (calls_at m) (calls_among ms)))
    ∙ sym (replies_after-append s [] (calls_at m) (calls_among ms))
