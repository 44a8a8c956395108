-- Why a message asks for no call and no view, and what it is answered.
use Rattle.std.specs.Prelude.{◌≡◌, ℕ, List, Option, None, Result, Ok, Err}
use Rattle.tb_values.specs.Outcome.{Gives}
use Rattle.tb_asking.specs.declared.body_fault.BadBody.{BadBody}
use Rattle.tb_asking.specs.BodyFault.{text_of}
use Rattle.tb_http.specs.declared.fault.WireFault.{WireFault}
use Rattle.tb_http.specs.declared.fault.WireFault.TheVariants as wire
use Rattle.tb_http.specs.declared.route.Verb.{Verb}
use Rattle.tb_http.specs.Fault.{body_of as fault_body}
use Rattle.tb_http.specs.Resource.{fault_of as route_fault, allowed_by as allowed_on}
use Rattle.tb_asking.specs.declared.rejection.Rejection.{Rejection}
use Rattle.tb_asking.specs.declared.rejection.Rejection.TheVariants.{Route, NoId, Body}
use Rattle.tb_asking.specs.declared.rejection.CallFault.{CallFault}
use Rattle.tb_asking.specs.declared.rejection.CallFault.TheVariants.{Rejected, Memory}

-- the rejection is the one that is expected, unless memory ran out
abbrev pub Fails : {X : Type 0} → CallFault → Result X Rejection → Type 0
Fails (Rejected rejection) expected = expected ≡ Err rejection
Fails Memory expected = Unit {0}

-- what was read is what is expected, unless memory ran out
abbrev pub Asks : {X : Type 0} → Result X CallFault → Result X Rejection → Type 0
Asks read expected = Gives Fails read expected

-- a body that can't be taken rejects its message
abbrev pub or_rejected : {A : Type 0} → Result A BadBody → Result A Rejection
or_rejected (Ok x) = Ok x
or_rejected (Err fault) = Err (Body fault)

-- the fault of the wire that it is, the method that the answer allows, and the answer's body
abbrev pub fault_of : Rejection → WireFault
fault_of (Route fault) = route_fault fault
fault_of NoId = wire.NoId
fault_of (Body fault) = wire.BadBody

abbrev pub allowed_by : Rejection → Option Verb
allowed_by (Route fault) = allowed_on fault
allowed_by NoId = None
allowed_by (Body fault) = None

abbrev pub body_of : Rejection → List ℕ
body_of (Route fault) = fault_body (route_fault fault)
body_of NoId = fault_body wire.NoId
body_of (Body fault) = text_of fault
