-- Sessions in a row, whenever they stop, are sessions that resume.
use Rattle.std.proofs.Common.{◌≡◌, length, List, [], ◌∷◌, refl, sym, ap₂, ◌∙◌, subst}
use Rattle.tb_calls.specs.Call.{State, once, plain}
use Rattle.tb_core.specs.GoodWorld.{IsGoodWorld}
use Rattle.tb_desk.specs.Sessions.{Sending, calls_of}
use Rattle.tb_desk.specs.Resuming.{led_to, sessions_of, told}
use Rattle.tb_desk.proofs.Repeats.{good_all}
use Rattle.tb_desk.proofs.Resumed.{resumed}
use Rattle.tb_calls.specs.declared.reply.Reply.{Reply}
use Rattle.tb_headline.specs.Headline.{Headline, Lives, LivesOn, as_came}
use Rattle.tb_headline.proofs.Came.{AreBounded, resumes}
use Rattle.tb_headline.proofs.Replies.{replies_front}

pub bounded : (s : State) (xs : List Sending) (rs : List (List Reply)) (t : State) → Lives s xs rs t → AreBounded xs
bounded s [] [] t is = tt
bounded s [] (r ∷ rs) t lives = absurd lives
bounded s (x ∷ xs) [] t lives = absurd lives
bounded s (x ∷ xs) (r ∷ rs) t (tells, low, high, mid, stands, rest) = (low, high, bounded mid xs rs t rest)

-- where they lead, and what they tell
lived : (s : State) (xs : List Sending) (rs : List (List Reply)) (t : State) → Lives s xs rs t → (led_to s (sessions_of xs) ≡ t) × (told s (sessions_of xs) ≡ rs)
lived s [] [] t is = (sym is, refl)
lived s [] (r ∷ rs) t lives = absurd lives
lived s (x ∷ xs) [] t lives = absurd lives
lived s (x ∷ xs) (r ∷ rs) t (tells, low, high, mid, stands, rest) =
    let later = lived mid xs rs t rest in (
      subst (λ u. led_to u (sessions_of xs) ≡ t) stands later.0,
      ap₂ (λ q qs. q ∷ qs) (sym tells) (subst (λ u. told u (sessions_of xs) ≡ rs) stands later.1),
    )

pub lives_on : LivesOn
lives_on s t end sent replies xs more told (stood, low, high, is) lives =
    (stood, (told ∙ replies_front s [] (calls_of sent) (length replies), low, high, t, is, lives))

pub headline : Headline
headline s calls xs rs t good sends known lives =
    let life = lived s xs rs t lives in
    let came = resumes s calls xs sends (bounded s xs rs t lives) known in
    let same = resumed s (as_came xs) xs came.0 in
    let state : t ≡ plain s (once s (as_came xs)) = sym life.0 ∙ same.0 in
    record {
      list = came.1;
      state = state;
      replies_are = sym life.1 ∙ same.1;
      good = subst (λ (u : State). IsGoodWorld u.world) (sym state) (good_all s (as_came xs) good);
    }
