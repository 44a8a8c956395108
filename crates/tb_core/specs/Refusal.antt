-- The numbers of refusals, and their status codes.
use Rattle.std.specs.Prelude.{ℕ}
use Rattle.tb_core.specs.declared.refusal.Refusal.{Refusal}
use Rattle.tb_core.specs.declared.refusal.Refusal.TheVariants.{UnknownCaller, IdReused, NoBoard, NotAllowed, NoTask, WrongStatus, UuidTaken, BadTask, BadTaskAt, TemplateFixed, NoLink, Cycle, Full, NoPerson, LastOwner, NameTaken, KeyDiffers}

abbrev pub number_of : Refusal → ℕ
number_of UnknownCaller = 1
number_of IdReused = 2
number_of NoBoard = 3
number_of NotAllowed = 4
number_of NoTask = 5
number_of WrongStatus = 6
number_of UuidTaken = 7
number_of (BadTask field) = 8
number_of (BadTaskAt at field) = 8
number_of TemplateFixed = 9
number_of NoLink = 10
number_of Cycle = 11
number_of Full = 12
number_of NoPerson = 13
number_of LastOwner = 14
number_of NameTaken = 15
number_of KeyDiffers = 16

-- RFC 9110: Unauthorized, Forbidden, Not Found, Conflict, and Unprocessable Content
abbrev pub status_of : Refusal → ℕ
status_of UnknownCaller = 401
status_of IdReused = 409
status_of NoBoard = 404
status_of NotAllowed = 403
status_of NoTask = 404
status_of WrongStatus = 409
status_of UuidTaken = 409
status_of (BadTask field) = 422
status_of (BadTaskAt at field) = 422
status_of TemplateFixed = 409
status_of NoLink = 409
status_of Cycle = 409
status_of Full = 409
status_of NoPerson = 404
status_of LastOwner = 409
status_of NameTaken = 409
status_of KeyDiffers = 409
