-- What stands beside the key file while the key changes, and what is done about it before an order is sent.
use Rattle.std.specs.Prelude.{◌≡◌, ◌<◌, ◌^◌, ℕ, Bool, true, List, [], ◌∷◌, ◌++◌, codes, Option, Some, None, option_and_then, if◌then◌else◌}
use Rattle.std.specs.Str.{bytes_eq}
use Rattle.tb_board.specs.Names.{is_key, read_key}
use Rattle.tb_client.specs.Request.{Text}
use Rattle.tb_command_line.specs.declared.order.SendOrder.{SendOrder}
use Rattle.tb_sending.specs.Drawing.{IsDrawn}
use Rattle.tb_sending.specs.declared.beside.Begun.{Begun}
use Rattle.tb_sending.specs.declared.beside.Beside.{Beside}
use Rattle.tb_sending.specs.declared.beside.Beside.TheVariants.{Nothing, Others, Ours}
use Rattle.tb_sending.specs.declared.beside.Step.{Step}
use Rattle.tb_sending.specs.declared.beside.Step.TheVariants.{Begin, Finish, Send, Stop, Tidy}
use Rattle.tb_task.specs.TaskId.{id_text, read_id}

-- ---- the text of `key.new`

-- whose key changes: a server and a person
abbrev pub owner_text : SendOrder → Text
owner_text order = order.server ++ (codes " " ++ order.member)

-- the new key, whose it is, and the identifier of the call, each on a line
abbrev pub begun_text : SendOrder → Begun → Text
begun_text order begun =
    begun.key ++ (10 ∷ (owner_text order ++ (10 ∷ (id_text begun.id ++ 10 ∷ []))))

-- a key that was read, with an identifier
abbrev pub begun_with : ℕ → Option Text → Option Begun
begun_with id None = None
begun_with id (Some key) = Some (record { key = key; id = id })

-- the line that says whose it is
abbrev pub owner_line : SendOrder → Text
owner_line order = owner_text order ++ 10 ∷ []

-- the change of the key and the identifier that two texts are
abbrev pub begun_of : Text → Text → Option Begun
begun_of key id = option_and_then (λ number. begun_with number (read_key key)) (read_id id)

-- a change whose text this is was found: no other key and no other identifier make it
abbrev pub IsFound : SendOrder → Text → Option Begun → Type 0
IsFound order text found = (begun : Begun) → is_key begun.key ≡ true → begun.id < 2 ^ 128
    → text ≡ begun_text order begun → found ≡ Some begun

-- a change of the order's own person at its server is one whose text this is; where no key and no identifier make this text, it is of others
-- or of no form
abbrev pub IsBeside : SendOrder → Text → Beside → Type 0
IsBeside order text Nothing = ⊥
IsBeside order text (Ours begun) = text ≡ begun_text order begun
IsBeside order text Others = IsFound order text None

-- ---- a change that begins

-- to the key of the characters of an identifier, unless that is the old one
abbrev pub new_change : ℕ → ℕ → Text → Option Begun
new_change id random old = if bytes_eq (id_text random) old then None
    else begun_with id (read_key (id_text random))

-- under the order's identifier, to a key that the random bytes make which were given meanwhile, and that isn't the old one
pub record IsNewChange {G : Type 0} (gives : Option (List ℕ) → G → G → Type 0) (before after : G) (order : SendOrder) (old : Text) (begun : Begun) : Type 0 where
  pub id : ℕ
  pub random : ℕ
  pub named : order.id ≡ Some id
  pub drawn : IsDrawn gives before after (Some random)
  pub is : new_change id random old ≡ Some begun

-- ---- what is done

-- the new key is in place already, or the change is sent
abbrev pub step_of_ours : Text → Begun → Step
step_of_ours key begun = if bytes_eq key begun.key then Tidy else Finish begun

-- by whether the order asks for another key, by the key in the file, and by what stands beside it: a change that was begun is finished
-- first, that of someone else is left as it is
-- Rule: send ends a change of the key that was begun before anything else. Tried by own_key.sh.
abbrev pub step_of : Bool → Text → Beside → Step
step_of is_change key Nothing = if is_change then Begin else Send
step_of is_change key (Ours begun) = step_of_ours key begun
step_of is_change key Others = if is_change then Stop else Send
