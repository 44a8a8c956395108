-- The new key that an order is about, and in whose name the machine's owner gives it.
use Rattle.std.specs.Prelude.{◌≡◌, ◌&&◌, ◌==◌, ◌<◌, ◌⊎◌, ℕ, Bool, true, false, not, List, [], ◌∷◌, ◌++◌, codes, length, Option, Some, None, IfSome, option_and_then, if◌then◌else◌}
use Rattle.std.specs.List.{before_first}
use Rattle.std.specs.Option.{option_map}
use Rattle.std.specs.Str.{bytes_eq, trim_end}
use Rattle.std.specs.Io.KnownBytes.{Appends}
use Rattle.tb_asking.specs.Bodies.{text_in}
use Rattle.tb_board.specs.Names.{is_key, read_key}
use Rattle.tb_board.specs.declared.world.Person.{Person}
use Rattle.tb_calls.specs.Call.{State, once, plain, reply}
use Rattle.tb_calls.specs.Roles.{person_at}
use Rattle.tb_calls.specs.declared.call.Call.{Call}
use Rattle.tb_command_line.specs.declared.order.KeyOrder.{KeyOrder}
use Rattle.tb_core.specs.declared.command.Command.{Command}
use Rattle.tb_core.specs.declared.command.Command.TheVariants.{OwnKey, SetKey}
use Rattle.tb_orders.specs.Identifier.{random_id}
use Rattle.tb_orders.specs.Orders.{ending_of, line_text}
use Rattle.tb_orders.specs.declared.ending.Ending.{Ending}
use Rattle.tb_orders.specs.declared.new_key.NewKey.{NewKey}
use Rattle.tb_program.specs.declared.fault.Fault.{Fault}
use Rattle.tb_program.specs.declared.fault.Fault.TheVariants.{Memory, NoClock, NoKey, NotOurs, ReadFailed, Store, WriteFailed}
use Rattle.tb_calls.specs.declared.reply.Reply.{Reply}
use Rattle.tb_task.specs.Limits.{longest_body}
use Rattle.tb_task.specs.TaskId.{id_text}

-- ---- which key it is

abbrev pub first_line : List ℕ → List ℕ
first_line text = before_first (λ byte. byte == 10) text

-- the first line, without the white space at its end
abbrev pub key_in : List ℕ → Option (List ℕ)
key_in input = option_and_then (λ text. read_key (trim_end (first_line text))) (text_in input)

-- the characters of the identifier that random bytes make
abbrev pub made_key : List ℕ → Option (List ℕ)
made_key drawn = read_key (id_text (random_id drawn))

-- these 16 bytes make the key
pub record IsMadeKey (drawn key : List ℕ) : Type 0 where
  pub form : is_key key ≡ true
  pub long : length drawn ≡ 16
  pub is : made_key drawn ≡ Some key

-- the key is the one of an input, where it is read, and else that of bytes that were drawn
abbrev pub IsKeyFor : Bool → Option (List ℕ) → Option (List ℕ) → List ℕ → Type 0
IsKeyFor true None input key = IfSome input (λ text. key_in text ≡ Some key)
IsKeyFor false (Some drawn) input key = IsMadeKey drawn key
IsKeyFor _ drawn input key = ⊥

-- bytes were drawn, or nothing was
abbrev pub HasDrawn : {G : Type 0} → (Option (List ℕ) → G → G → Type 0) → Option (List ℕ) → G → G
    → Type 0
HasDrawn gives None before after = after ≡ before
HasDrawn gives (Some bytes) before after = gives (Some bytes) before after

-- bytes were drawn for a key, if it is made, and then those of an identifier
abbrev pub HasDrawnBoth : {G : Type 0} → (Option (List ℕ) → G → G → Type 0) → G → G
    → Option (List ℕ) → List ℕ → Type 0
HasDrawnBoth gives before after key id =
    (between : _) × HasDrawn gives key before between × gives (Some id) between after

-- NoKey says of a key that is to be read that an input has none, or is too long
abbrev pub IsUnkeyed : Fault → Bool → Option (List ℕ) → Type 0
IsUnkeyed NoKey true input =
    IfSome input (λ text. (key_in text ≡ None) ⊎ (longest_body < length text))
IsUnkeyed NoKey false input = ⊥
IsUnkeyed _ is_read input = Unit {0}

-- an order's key under an identifier of 16 bytes that were drawn, at a moment
abbrev pub new_key : KeyOrder → List ℕ → List ℕ → ℕ → NewKey
new_key order key drawn at = record {
  name = order.name;
  key = key;
  is_made = not order.is_read;
  id = random_id drawn;
  at = at;
}

-- what an order asks for with an input, by bytes that were drawn, at a moment that was given
pub record IsAsked (drew : Option (List ℕ) → List ℕ → Type 0) (given : ℕ → Type 0)
    (order : KeyOrder) (input : Option (List ℕ)) (asked : NewKey) : Type 0 where
  pub name_is : asked.name ≡ order.name
  pub made_is : asked.is_made ≡ not order.is_read
  pub for_key : Option (List ℕ)
  pub for_id : List ℕ
  pub drawn : drew for_key for_id
  pub key_is : IsKeyFor order.is_read for_key input asked.key
  pub long : length for_id ≡ 16
  pub id_is : asked.id ≡ random_id for_id
  pub at_is : given asked.at

-- ---- the call that gives it

-- a person with a key, if there is one
abbrev pub caller_of : Option Person → Option (List ℕ × List ℕ)
caller_of None = None
caller_of (Some person) = option_map (λ own. (person.name, own)) person.key

-- the first person changes the own key, and sets those of others
abbrev pub command_by : NewKey → List ℕ → List ℕ → Command
command_by asked name own = if bytes_eq name asked.name then OwnKey own asked.key
    else SetKey asked.name (Some asked.key)

-- the words of that command
abbrev pub content_by : NewKey → List ℕ → List ℕ → List ℕ
content_by asked name own =
    if bytes_eq name asked.name then codes "own-key" ++ 9 ∷ (own ++ 9 ∷ asked.key)
    else codes "key" ++ 9 ∷ (asked.name ++ 9 ∷ asked.key)

abbrev pub call_by : NewKey → List ℕ → List ℕ → Call
call_by asked name own = record {
  member = name;
  key = own;
  id = asked.id;
  moment = asked.at;
  content = content_by asked name own;
  command = command_by asked name own;
}

-- the one call, of the first person under the key that a state has
-- Rule: the owner of the machine gives keys in the first person's name. Tried by keys.sh.
abbrev pub call_in : State → NewKey → Option Call
call_in s asked =
    option_map (λ caller. call_by asked caller.0 caller.1) (caller_of (person_at s.world 1))

-- ---- what comes of it

-- a key that was made is printed once it is given, and else the body of the reply
abbrev pub given_text : NewKey → Reply → List ℕ
given_text asked reply = if asked.is_made && (reply.number == 0) then asked.key ++ 10 ∷ []
    else line_text reply

-- the one call was made in a state, and its reply is told and decides how the order ended
pub record IsGiven (asked : NewKey) (s : State) (now : State → Type 0)
    (before after : Option (List ℕ)) (ending : Ending) : Type 0 where
  pub call : Call
  pub is : call_in s asked ≡ Some call
  pub held : now (plain s (once s (call ∷ [])))
  pub told : Appends before after (given_text asked (reply s [] call))
  pub ends : ending ≡ ending_of (reply s [] call)

-- the state is as it was, or after the one call
abbrev pub HoldsGiven : State → NewKey → (State → Type 0) → Type 0
HoldsGiven s asked now =
    now s ⊎ ((call : Call) × (call_in s asked ≡ Some call) × now (plain s (once s (call ∷ []))))

-- ---- which faults these are

-- of the key, its identifier and its moment
abbrev pub is_of_new_keys : Fault → Bool
is_of_new_keys Memory = true
is_of_new_keys NoClock = true
is_of_new_keys NoKey = true
is_of_new_keys ReadFailed = true
is_of_new_keys _ = false

-- of giving it
abbrev pub is_of_giving : Fault → Bool
is_of_giving Memory = true
is_of_giving NotOurs = true
is_of_giving Store = true
is_of_giving WriteFailed = true
is_of_giving _ = false
