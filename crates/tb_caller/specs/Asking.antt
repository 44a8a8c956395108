-- Which orders send what words of `my` ask for.
use Rattle.std.specs.Prelude.{◌≡◌, ℕ, List, [], ◌∷◌, ◌++◌, Option, Some, None, Vec}
use Rattle.std.specs.declared.alloc.Global.{Global}
use Rattle.std.proofs.Common.{◌∙◌, subst}
use Rattle.tb_caller.specs.Ending.{ending_if}
use Rattle.tb_caller.specs.Sent.{IsSentOver}
use Rattle.tb_caller.specs.declared.mine.Caller.{Caller}
use Rattle.tb_client.specs.Asking.{Event}
use Rattle.tb_command_line.specs.declared.order.SendOrder.{SendOrder}
use Rattle.tb_mine.specs.Asked.{Asked}
use Rattle.tb_my.specs.Days.{Text}
use Rattle.tb_my.specs.declared.settings.Asker.{Asker}
use Rattle.tb_sending.specs.Drawing.{IsDrawn}
use Rattle.tb_sending.specs.declared.server_line.ServerLine.{ServerLine}

-- the identifier that is given, or else one that was drawn anew for this call
abbrev pub IsCallOf : {G : Type 0} → (Option (List ℕ) → G → G → Type 0) → Option ℕ → Option ℕ → G
    → Type 0
IsCallOf gives (Some id) named chance = named ≡ Some id
IsCallOf gives None named chance = (drawn : _) × IsDrawn gives chance drawn named

module _ {M G : Type 0} (follows : List Event → ServerLine M → ServerLine M → Type 0)
    (gives : Option (List ℕ) → G → G → Type 0) where
  -- It was sent to this server, for this person, under this key. The answer is what was printed of it.
  pub record IsSentBy (asker : Asker) (key : Option Text) (asked : Asked) (chance : G)
      : Type 0 where
    pub order : SendOrder
    pub server : order.server ≡ asker.server
    pub member : order.member ≡ asker.name
    pub under : order.key ≡ key
    pub words : order.words ≡ asked.words
    pub call : IsCallOf gives asked.call order.id chance
    pub before : Vec ℕ Global
    pub after : Vec ℕ Global
    pub none : before.items ≡ []
    pub body : after.items ≡ asked.answer.body
    pub sent : IsSentOver follows (λ (bytes : Vec ℕ Global). Some bytes.items) order before after
        (ending_if asked.answer.is_accepted)

  -- each in its turn, with what the one before left of the chance
  abbrev pub AreSentBy : Asker → Option Text → List Asked → G → G → Type 0
  AreSentBy asker key [] first last = last ≡ first
  AreSentBy asker key (asked ∷ more) first last = IsSentBy asker key asked first
      × (next : G) × AreSentBy asker key more next last

  -- all of it was sent, and the caller asks whom it asked before, under the same key
  abbrev pub IsAskedBy : List Asked → Caller G → Caller G → Type 0
  IsAskedBy asked old new = (new.asker ≡ old.asker) × (new.key ≡ old.key)
      × AreSentBy old.asker old.key asked old.chance new.chance

  sent_joined : (asker : Asker) (key : Option Text) (first more : List Asked) (a b c : G)
      → AreSentBy asker key first a b → AreSentBy asker key more b c
      → AreSentBy asker key (first ++ more) a c
  sent_joined asker key [] more a b c p q = subst (λ x. AreSentBy asker key more x c) p q
  sent_joined asker key (asked ∷ first) more a b c p q =
      (p.0, p.1, sent_joined asker key first more p.1 b c p.2 q)

  pub asked_joined : (first more : List Asked) (a b c : Caller G)
      → IsAskedBy first a b → IsAskedBy more b c → IsAskedBy (first ++ more) a c
  asked_joined first more a b c p q = (
    q.0 ∙ p.0,
    q.1 ∙ p.1,
    sent_joined a.asker a.key first more a.chance b.chance c.chance p.2
        (subst (λ asker. AreSentBy asker a.key more b.chance c.chance) p.0
        (subst (λ key. AreSentBy b.asker key more b.chance c.chance) p.1 q.2)),
  )
