-- The bytes alone say what is read off them, however they are cut.
use Rattle.std.specs.Prelude.{◌≡◌, ◌⊎◌, ℕ, Bool, List}
use Rattle.tb_http.specs.declared.fault.WireFault.{WireFault}
use Rattle.tb_http.specs.declared.fault.WireFault.TheVariants.{ReadFailed, Memory}
use Rattle.tb_http.specs.declared.message.Message.{Message}
use Rattle.tb_http.specs.Wire.{BeginsWithMessage, Faults}

-- no bytes begin with two messages
abbrev pub OneMessage : Type 0
OneMessage =
    (bytes : List ℕ) (a b : Message) (closes ends : Bool) (rest other : List ℕ)
    → BeginsWithMessage bytes a closes rest → BeginsWithMessage bytes b ends other
    → (a ≡ b) × (closes ≡ ends) × (rest ≡ other)

-- a fault of the reader or of memory, which the bytes don't show
abbrev pub IsOutside : WireFault → Type 0
IsOutside fault = (fault ≡ ReadFailed) ⊎ (fault ≡ Memory)

-- where there is a message, a fault is the reader's or memory's
abbrev pub NoOtherFault : Type 0
NoOtherFault =
    (bytes : List ℕ) (message : Message) (closes : Bool) (rest : List ℕ) (fault : WireFault)
    → BeginsWithMessage bytes message closes rest → Faults bytes fault → IsOutside fault

-- bytes have one fault, but for the reader's and memory's
abbrev pub OneFault : Type 0
OneFault =
    (bytes : List ℕ) (a b : WireFault)
    → Faults bytes a → Faults bytes b → (a ≡ b) ⊎ (IsOutside a ⊎ IsOutside b)
