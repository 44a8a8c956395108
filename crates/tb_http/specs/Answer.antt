-- The answer to a message: its head (RFC 9112, sections 4 and 5), and its body.
use Rattle.std.specs.Prelude.{ℕ, ◌==◌, Bool, true, false, ◌||◌, if◌then◌else◌, List, [], ◌++◌, length, codes, decimal, Option, Some, None}
use Rattle.tb_http.specs.declared.answer.ContentType.{ContentType}
use Rattle.tb_http.specs.declared.answer.ContentType.TheVariants.{Json, PlainText, File}
use Rattle.tb_http.specs.declared.answer.MediaType.{MediaType}
use Rattle.tb_http.specs.declared.answer.MediaType.TheVariants.{Html, Css, JavaScript, Svg, Png, Icon, Manifest}
use Rattle.tb_http.specs.declared.answer.Answer.{Answer}
use Rattle.tb_http.specs.declared.route.Verb.{Verb}
use Rattle.tb_http.specs.declared.fault.WireFault.{WireFault}
use Rattle.tb_http.specs.Fault.{status_of, closes_connection}
use Rattle.tb_http.specs.Route.{verb_name}

-- the phrase of a status that the server answers
unfoldable pub phrase_of : ℕ → List ℕ
phrase_of status =
    if status == 200 then codes "OK"
    else (if status == 400 then codes "Bad Request"
    else (if status == 401 then codes "Unauthorized"
    else (if status == 403 then codes "Forbidden"
    else (if status == 404 then codes "Not Found"
    else (if status == 405 then codes "Method Not Allowed"
    else (if status == 409 then codes "Conflict"
    else (if status == 411 then codes "Length Required"
    else (if status == 413 then codes "Content Too Large"
    else (if status == 422 then codes "Unprocessable Content"
    else (if status == 431 then codes "Request Header Fields Too Large"
    else (if status == 500 then codes "Internal Server Error"
    else (if status == 501 then codes "Not Implemented"
    else (if status == 503 then codes "Service Unavailable"
    else [])))))))))))))

-- the first line
unfoldable pub status_line : ℕ → List ℕ
status_line status =
    codes "HTTP/1.1 " ++ (decimal status ++ (codes " " ++ (phrase_of status ++ codes "\r\n")))

-- a field's line
unfoldable pub field_line : List ℕ → List ℕ → List ℕ
field_line name value = name ++ (codes ": " ++ (value ++ codes "\r\n"))

-- what a file of a page is
abbrev pub media_text : MediaType → List ℕ
media_text Html = codes "text/html; charset=utf-8"
media_text Css = codes "text/css; charset=utf-8"
media_text JavaScript = codes "text/javascript; charset=utf-8"
media_text Svg = codes "image/svg+xml"
media_text Png = codes "image/png"
media_text Icon = codes "image/x-icon"
media_text Manifest = codes "application/manifest+json"

abbrev pub type_text : ContentType → List ℕ
type_text Json = codes "application/json"
type_text PlainText = codes "text/plain; charset=utf-8"
type_text (File media) = media_text media

-- what a browser may do with a file of a page (Content Security Policy Level 3): its scripts, styles, pictures and manifest are files
-- of the page too, none of them stands within it, it talks to this server alone, and no other page shows it within itself
unfoldable pub content_policy : List ℕ
content_policy =
    codes
    "default-src 'none'; script-src 'self'; style-src 'self'; img-src 'self'; connect-src 'self'; manifest-src 'self'; base-uri 'none'; form-action 'none'; frame-ancestors 'none'"

-- the lines that the answer to a file of a page has beside the others; other answers have none of them
abbrev pub policy_lines : ContentType → List ℕ
policy_lines Json = []
policy_lines PlainText = []
policy_lines (File media) =
    field_line (codes "cache-control") (codes "no-cache")
    ++ (field_line (codes "content-security-policy") content_policy
    ++ (field_line (codes "referrer-policy") (codes "no-referrer")
    ++ field_line (codes "x-content-type-options") (codes "nosniff")))

abbrev pub connection_text : Bool → List ℕ
connection_text true = codes "close"
connection_text false = codes "keep-alive"

-- the line for the method that a path has, where it was asked for another
abbrev pub allow_line : Option Verb → List ℕ
allow_line None = []
allow_line (Some verb) = field_line (codes "allow") (verb_name verb)

-- the whole head of an answer with a body of this length
unfoldable pub answer_head : Answer → ℕ → List ℕ
answer_head answer size =
    status_line answer.status
    ++ (field_line (codes "content-type") (type_text answer.content_type)
    ++ (field_line (codes "content-length") (decimal size)
    ++ (allow_line answer.allow
    ++ (policy_lines answer.content_type
    ++ (field_line (codes "connection") (connection_text answer.is_last)
    ++ codes "\r\n")))))

-- the whole answer with this body, which isn't sent to a message of the method HEAD
unfoldable pub answer_text : Answer → List ℕ → List ℕ
answer_text answer body =
    answer_head answer (length body) ++ (if answer.sends_body then body else [])

-- the answer to a fault, but for its body: its status if it has one
abbrev pub answer_with : Option ℕ → Option Verb → Bool → Bool → Option Answer
answer_with None allow is_last sends_body = None
answer_with (Some status) allow is_last sends_body =
    Some (record {
      status = status;
      content_type = Json;
      allow = allow;
      is_last = is_last;
      sends_body = sends_body;
    })

abbrev pub fault_answer : WireFault → Option Verb → Bool → Bool → Option Answer
fault_answer fault allow is_closing sends_body =
    answer_with (status_of fault) allow (is_closing || closes_connection fault) sends_body
