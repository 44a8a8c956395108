-- A change of the own key: what is asked, what follows from the answer, and what is printed.
use Rattle.std.specs.Prelude.{◌≡◌, ◌⊎◌, ℕ, ◌==◌, ◌&&◌, Bool, true, false, List, [], ◌∷◌, ◌++◌, codes, Option, Some, None}
use Rattle.std.specs.Io.KnownBytes.{Appends}
use Rattle.std.specs.Str.{bytes_eq}
use Rattle.tb_client.specs.Asking.{Event}
use Rattle.tb_client.specs.OwnKey.{is_own_key_alone, own_key_words}
use Rattle.tb_client.specs.Request.{Text, request_of}
use Rattle.tb_client.specs.declared.answer.Reply.{Reply}
use Rattle.tb_command_line.specs.declared.order.SendOrder.{SendOrder}
use Rattle.tb_orders.specs.declared.ending.Ending.{Ending}
use Rattle.tb_orders.specs.declared.ending.Ending.TheVariants.{Accepted, Refused}
use Rattle.tb_program.specs.declared.fault.Fault.{Fault}
use Rattle.tb_program.specs.declared.fault.Fault.TheVariants.{WriteFailed}
use Rattle.tb_sending.specs.Sending.{AreReplied, ComesTo, Fails}
use Rattle.tb_sending.specs.declared.beside.Begun.{Begun}
use Rattle.tb_values.specs.Appends.{AppendsFront}

-- ---- what the answer says

-- the body by which a server tells whose key was changed
abbrev pub changed_body : Text → Text
changed_body member = codes "{\"person\":\"" ++ (member ++ codes "\"}")

-- the key was changed: another answer doesn't move the new key into place, whatever its status
-- Rule: a new key takes the old one's place once its change was accepted. Tried by own_key.sh.
abbrev pub is_changed : Text → Reply → Bool
is_changed member reply = reply.status == 200 && bytes_eq reply.body (changed_body member)

-- the server doesn't know who asks
abbrev pub is_unknown : Reply → Bool
is_unknown reply = reply.status == 401

-- ---- what is asked

-- the words ask for another key, which is made, for a key that is kept elsewhere
abbrev pub asks_for_key : Option Text → List Text → Bool
asks_for_key (Some key) words = false
asks_for_key None words = is_own_key_alone words

-- the call by which one key becomes another, under the first of them
abbrev pub change_order : SendOrder → ℕ → Text → Text → SendOrder
change_order order id key next =
    record order { key = Some key; id = Some id; words = own_key_words key next }

module _ {L : Type 0} (follows : List Event → L → L → Type 0) where
  -- it was asked for until it was answered
  abbrev pub IsAsked : SendOrder → ℕ → Text → Text → L → L → Reply → Type 0
  IsAsked order id key next old new reply =
      AreReplied follows (request_of (own_key_words key next)) (change_order order id key next)
      old new reply

  -- the old key isn't known, and so it was asked whether the new one is, by a change of it to itself
  pub record IsAskedAgain (order : SendOrder) (key : Text) (begun : Begun) (old new : L) (reply : Reply) : Type 0 where
    pub first : Reply
    pub middle : L
    pub check : ℕ
    pub asked : IsAsked order begun.id key begun.key old middle first
    pub unknown : is_unknown first ≡ true
    pub again : IsAsked order check begun.key begun.key middle new reply

  -- a change that was begun was asked for under the old key, and only then under the new one
  abbrev pub IsEnded : SendOrder → Text → Begun → L → L → Reply → Type 0
  IsEnded order key begun old new reply =
      (IsAsked order begun.id key begun.key old new reply × (is_unknown reply ≡ false))
      ⊎ IsAskedAgain order key begun old new reply

  -- the change was made
  pub record IsMade (order : SendOrder) (old new : L) : Type 0 where
    pub key : Text
    pub begun : Begun
    pub reply : Reply
    pub ended : IsEnded order key begun old new reply
    pub accepted : is_changed order.member reply ≡ true

  -- it wasn't, or it isn't known whether it was
  pub record IsNotMade (order : SendOrder) (old new : L) (reply : Reply) : Type 0 where
    pub key : Text
    pub begun : Begun
    pub ended : IsEnded order key begun old new reply
    pub refused : is_changed order.member reply ≡ false

  -- before an order is sent that asks for something else: a change that was begun was made, if one was
  abbrev pub IsSettled : SendOrder → L → L → Type 0
  IsSettled order old new =
      (asks_for_key order.key order.words ≡ false) × ((new ≡ old) ⊎ IsMade order old new)

-- ---- what is printed

module _ {W : Type 0} (contents : W → Option Text) where
  -- a front of what is told is out
  pub record IsCutShort (before after : W) (fault : Fault) : Type 0 where
    pub is : fault ≡ WriteFailed
    pub text : Text
    pub front : AppendsFront (contents before) (contents after) (text ++ 10 ∷ [])

  -- or nothing
  abbrev pub IsUnsettled : W → W → Fault → Type 0
  IsUnsettled before after fault = (after ≡ before) ⊎ IsCutShort before after fault

module _ {L W : Type 0} (follows : List Event → L → L → Type 0) (contents : W → Option Text) where
  -- the order asked for another key, which is in place now; it was already where nothing was asked
  abbrev pub IsAccepted : SendOrder → L → L → W → W → Ending → Type 0
  IsAccepted order old new before after ending =
      (ending ≡ Accepted) × (asks_for_key order.key order.words ≡ true)
      × ((new ≡ old) ⊎ IsMade follows order old new)
      × Appends (contents before) (contents after) (changed_body order.member ++ 10 ∷ [])

  -- the change was refused, which ends any order
  pub record IsRefusal (order : SendOrder) (old new : L) (before after : W) (ending : Ending) : Type 0 where
    pub is : ending ≡ Refused
    pub reply : Reply
    pub refused : IsNotMade follows order old new reply
    pub told : Appends (contents before) (contents after) (reply.body ++ 10 ∷ [])

  -- the order ends without being sent
  abbrev pub EndsBefore : SendOrder → L → L → W → W → Ending → Type 0
  EndsBefore order old new before after ending =
      IsAccepted order old new before after ending
      ⊎ IsRefusal order old new before after ending

  -- ---- the order as a whole

  -- it is sent once a change that was begun is made, or ends with that change
  abbrev pub Sends : SendOrder → SendOrder → L → L → W → W → Ending → Type 0
  Sends order ready old new before after ending =
      ((middle : L) × IsSettled follows order old middle
      × ComesTo follows contents order ready middle new before after ending)
      ⊎ ((ready ≡ order) × EndsBefore order old new before after ending)

  abbrev pub SendsNot : SendOrder → SendOrder → L → L → W → W → Fault → Type 0
  SendsNot order ready old new before after fault =
      ((middle : L) × IsSettled follows order old middle
      × Fails follows contents order ready middle new before after fault)
      ⊎ ((ready ≡ order) × IsUnsettled contents before after fault)
