-- What a message that was read is told, in a state.
use Rattle.std.specs.Prelude.{◌≡◌, ℕ, ◌==◌, Bool, true, if◌then◌else◌, List, [], ◌∷◌, codes, Option, Some, None, Result, Ok, Err, unwrap_or}
use Rattle.tb_calls.specs.declared.reply.Reply.{Reply}
use Rattle.tb_calls.specs.declared.call.Call.{Call}
use Rattle.tb_calls.specs.declared.fault.KeepFault.{KeepFault}
use Rattle.tb_calls.specs.declared.fault.KeepFault.TheVariants as keep
use Rattle.tb_calls.specs.declared.view.View.{View}
use Rattle.tb_calls.specs.declared.view.View.TheVariants as view
use Rattle.tb_calls.specs.Call.{State, plain, once, reply, unknown_caller}
use Rattle.tb_calls.specs.Leaving.{Only, StandsAfter}
use Rattle.tb_desk.specs.Viewing.{shown_in}
use Rattle.tb_http.specs.declared.answer.Answer.{Answer}
use Rattle.tb_http.specs.declared.answer.ContentType.{ContentType}
use Rattle.tb_http.specs.declared.answer.ContentType.TheVariants.{Json, PlainText, File}
use Rattle.tb_http.specs.declared.fault.WireFault.{WireFault}
use Rattle.tb_http.specs.declared.fault.WireFault.TheVariants as wire
use Rattle.tb_http.specs.declared.message.Message.{Message}
use Rattle.tb_http.specs.declared.route.Verb.{Verb}
use Rattle.tb_http.specs.Answer.{answer_text}
use Rattle.tb_http.specs.Fault.{status_of, body_of as fault_body}
use Rattle.tb_asking.specs.declared.asked.Asked.{Asked}
use Rattle.tb_asking.specs.declared.asked.Asked.TheVariants as asked
use Rattle.tb_asking.specs.declared.rejection.Rejection.{Rejection}
use Rattle.tb_serve.specs.declared.response.Response.{Response}
use Rattle.tb_asking.specs.Asking.{asked_of}
use Rattle.tb_asking.specs.Rejection.{allowed_by, body_of, fault_of}
use Rattle.tb_site.specs.declared.site.Site.{Site}
use Rattle.tb_site.specs.declared.site.SiteFile.{SiteFile}
use Rattle.tb_site.specs.Site.{file_for}

-- ---- what is told

abbrev pub told_reply : ContentType → Reply → Response
told_reply type reply =
    record { status = reply.status; content_type = type; allow = None; body = reply.body }

-- a listing and lines of todo.txt are plain text, where they aren't refused
abbrev pub view_type : View → ℕ → ContentType
view_type (view.Listing board) number = if number == 0 then PlainText else Json
view_type (view.Todo board) number = if number == 0 then PlainText else Json
view_type (view.Export board) number = Json
view_type (view.One board id) number = Json
view_type (view.People board) number = Json
view_type (view.History board) number = Json
view_type (view.HistoryFrom board from) number = Json
view_type (view.HistoryOf board id) number = Json
view_type view.Me number = Json

abbrev pub told_view : View → Reply → Response
told_view view reply = told_reply (view_type view reply.number) reply

-- each of these faults has a status
abbrev pub told_fault : WireFault → Option Verb → List ℕ → Response
told_fault fault allow body =
    record {
      status = unwrap_or (status_of fault) 500;
      content_type = Json;
      allow = allow;
      body = body;
    }

abbrev pub told_rejection : Rejection → Response
told_rejection rejection =
    told_fault (fault_of rejection) (allowed_by rejection) (body_of rejection)

abbrev pub told_asked : State → ℕ → Asked → Response
told_asked s at (asked.Call call) = told_reply Json (reply s [] call)
told_asked s at (asked.View sender view) =
    told_view view (shown_in s sender.name sender.key view at)
told_asked s at asked.Unknown = told_reply Json unknown_caller

abbrev pub told_by : State → ℕ → Result Asked Rejection → Response
told_by s at (Ok asked) = told_asked s at asked
told_by s at (Err rejection) = told_rejection rejection

-- what the boards tell a message that the clock gave a moment, or none
-- Rule: without a clock nothing but the page is served. Refused as NoClock. Tried by no_clock.
abbrev pub told_at : State → Message → Option ℕ → Response
told_at s message None = told_fault wire.NoClock None (fault_body wire.NoClock)
told_at s message (Some at) = told_by s at (asked_of message at)

-- a file of the page
abbrev pub told_file : SiteFile → Response
told_file file =
    record { status = 200; content_type = File file.media; allow = None; body = file.body }

abbrev pub file_or : Option SiteFile → Response → Response
file_or None told = told
file_or (Some file) told = told_file file

-- What a message is told: a file of the page, where it is told one, whatever the state and the moment are, and else what the boards tell.
abbrev pub told_with : Site → State → Message → Option ℕ → Response
told_with site s message at = file_or (file_for site message) (told_at s message at)

abbrev pub answer_of : Response → Bool → Bool → Answer
answer_of told is_last sends_body = record {
  status = told.status;
  content_type = told.content_type;
  allow = told.allow;
  is_last = is_last;
  sends_body = sends_body;
}

-- the whole text of an answer
abbrev pub told_text : Response → Bool → Bool → List ℕ
told_text told is_last sends_body = answer_text (answer_of told is_last sends_body) told.body

-- ---- what is told where the keeper gives no reply; the connection is closed then

abbrev pub failed_answer : KeepFault → Bool → Answer
failed_answer keep.Memory sends_body =
    record {
      status = 503;
      content_type = Json;
      allow = None;
      is_last = true;
      sends_body = sends_body;
    }
failed_answer keep.Store sends_body =
    record {
      status = 500;
      content_type = Json;
      allow = None;
      is_last = true;
      sends_body = sends_body;
    }

abbrev pub failed_body : KeepFault → List ℕ
failed_body keep.Memory = codes "{\"name\":\"Memory\"}"
failed_body keep.Store = codes "{\"name\":\"Store\"}"

unfoldable pub failed_text : KeepFault → Bool → List ℕ
failed_text fault sends_body = answer_text (failed_answer fault sends_body) (failed_body fault)

-- ---- what stands

-- the call that is asked for, if one is
abbrev pub called_by : Result Asked Rejection → List Call
called_by (Ok (asked.Call call)) = call ∷ []
called_by (Ok (asked.View sender view)) = []
called_by (Ok asked.Unknown) = []
called_by (Err rejection) = []

abbrev pub calls_in : Message → Option ℕ → List Call
calls_in message None = []
calls_in message (Some at) = called_by (asked_of message at)

-- the state after calls, each of which acts once
abbrev pub after : State → List Call → State
after s calls = plain s (once s calls)

-- this state is held, and a stop leaves no other
pub record StandsAt (s : State) (now : State → Type 0) (may_leave : State → Type 0) : Type 0 where
  pub held : now s
  pub stops : Only s may_leave

-- what stands where calls got no reply: without memory nothing has changed, and after a failure of the store they may have acted
abbrev pub FailedAt : KeepFault → State → List Call → (State → Type 0) → (State → Type 0) → Type 0
FailedAt keep.Memory s calls now may_leave = StandsAt s now may_leave
FailedAt keep.Store s calls now may_leave = StandsAfter s calls 0 now may_leave

abbrev pub ReachesAt : {T : Type 0} → Result T KeepFault → State → List Call → (State → Type 0)
    → (State → Type 0) → Type 0
ReachesAt (Ok told) s calls now may_leave = StandsAt (after s calls) now may_leave
ReachesAt (Err fault) s calls now may_leave = FailedAt fault s calls now may_leave
