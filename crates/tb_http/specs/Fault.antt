-- What a fault of the wire is answered.
use Rattle.std.specs.Prelude.{ℕ, Bool, true, false, List, ◌++◌, codes, Option, Some, None}
use Rattle.tb_http.specs.declared.fault.WireFault.{WireFault}
use Rattle.tb_http.specs.declared.fault.WireFault.TheVariants.{Ended, Torn, ReadFailed, BadHead, HeadTooLong, Coding, NoLength, BodyTooLong, NoRoute, NoMethod, NoId, BadBody, NoClock, Memory}

-- the status of the answer; where the bytes end or the reader fails nothing is answered
unfoldable pub status_of : WireFault → Option ℕ
status_of Ended = None
status_of Torn = None
status_of ReadFailed = None
status_of BadHead = Some 400
status_of HeadTooLong = Some 431
status_of Coding = Some 501
status_of NoLength = Some 411
status_of BodyTooLong = Some 413
status_of NoRoute = Some 404
status_of NoMethod = Some 405
status_of NoId = Some 400
status_of BadBody = Some 400
status_of NoClock = Some 503
status_of Memory = Some 503

unfoldable pub name_of : WireFault → List ℕ
name_of Ended = codes "Ended"
name_of Torn = codes "Torn"
name_of ReadFailed = codes "ReadFailed"
name_of BadHead = codes "BadHead"
name_of HeadTooLong = codes "HeadTooLong"
name_of Coding = codes "Coding"
name_of NoLength = codes "NoLength"
name_of BodyTooLong = codes "BodyTooLong"
name_of NoRoute = codes "NoRoute"
name_of NoMethod = codes "NoMethod"
name_of NoId = codes "NoId"
name_of BadBody = codes "BadBody"
name_of NoClock = codes "NoClock"
name_of Memory = codes "Memory"

-- the body of the answer
unfoldable pub body_of : WireFault → List ℕ
body_of fault = codes "{\"name\":\"" ++ (name_of fault ++ codes "\"}")

-- whether the connection is closed after the answer
unfoldable pub closes_connection : WireFault → Bool
closes_connection NoRoute = false
closes_connection NoMethod = false
closes_connection NoId = false
closes_connection BadBody = false
closes_connection NoClock = false
closes_connection Ended = true
closes_connection Torn = true
closes_connection ReadFailed = true
closes_connection BadHead = true
closes_connection HeadTooLong = true
closes_connection Coding = true
closes_connection NoLength = true
closes_connection BodyTooLong = true
closes_connection Memory = true
