-- What a folder keeps while the key changes.
use Rattle.std.specs.Prelude.{◌⊎◌, codes, None}
use Rattle.tb_client.specs.Request.{Text}
use Rattle.tb_command_line.specs.declared.order.SendOrder.{SendOrder}
use Rattle.tb_sending.specs.Beside.{IsFound, begun_text}
use Rattle.tb_sending.specs.declared.beside.Begun.{Begun}
use Rattle.tb_sending.specs.declared.beside.Beside.{Beside}
use Rattle.tb_sending.specs.declared.beside.Beside.TheVariants.{Nothing, Others, Ours}

-- the file of the key, and that of a change which was begun
abbrev pub key_name : Text
key_name = codes "key"

abbrev pub new_name : Text
new_name = codes "key.new"

-- a change that was begun is kept in its file
abbrev pub IsKept : {F : Type 0} → (F → Text → Text → Type 0) → F → SendOrder → Begun → Type 0
IsKept has folder order begun = has folder new_name (begun_text order begun)

-- a change is kept there that is of others, or in no form of ours
abbrev pub HasOther : {F : Type 0} → (F → Text → Text → Type 0) → F → SendOrder → Type 0
HasOther has folder order = (text : Text) × has folder new_name text × IsFound order text None

module _ {F : Type 0} (has : F → Text → Text → Type 0) (lacks : F → Text → Type 0) where
  -- what `key.new` is to an order
  abbrev pub IsIn : F → SendOrder → Beside → Type 0
  IsIn folder order Nothing = lacks folder new_name
  IsIn folder order (Ours begun) = IsKept has folder order begun
  IsIn folder order Others = HasOther has folder order

  -- no change of the order's own person at its server is begun
  abbrev pub IsUnbegun : F → SendOrder → Type 0
  IsUnbegun folder order = lacks folder new_name ⊎ HasOther has folder order
