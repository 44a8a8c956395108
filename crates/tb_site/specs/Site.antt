-- The files of a page, and which of them a message is told.
use Rattle.std.specs.Prelude.{◌≡◌, ℕ, Bool, true, false, ◌&&◌, ◌||◌, if◌then◌else◌, List, [], codes, find, Option, Some, None, Result, Ok, Err}
use Rattle.std.specs.Str.{bytes_eq}
use Rattle.tb_http.specs.declared.answer.Answer.{Answer}
use Rattle.tb_http.specs.declared.answer.ContentType.TheVariants.{File}
use Rattle.tb_http.specs.declared.message.Message.{Message}
use Rattle.tb_http.specs.declared.resource.Resource.{Resource}
use Rattle.tb_http.specs.declared.resource.RouteFault.{RouteFault}
use Rattle.tb_http.specs.declared.resource.RouteFault.TheVariants.{NoRoute, NoMethod}
use Rattle.tb_http.specs.Resource.{resource_asked}
use Rattle.tb_site.specs.declared.site.Site.{Site}
use Rattle.tb_site.specs.declared.site.SiteFile.{SiteFile}

-- no page
abbrev pub no_site : Site
no_site = record { files = [] }

-- the path of the file that a target asks for
abbrev pub path_of : List ℕ → List ℕ
path_of target = if bytes_eq target (codes "/") then codes "/index.html" else target

-- the file of a whole target, in which a query is no part of any path
abbrev pub file_at : Site → List ℕ → Option SiteFile
file_at site target = find (λ file. bytes_eq file.path (path_of target)) site.files

-- the methods that read (RFC 9110, section 9.3)
abbrev pub reads : List ℕ → Bool
reads method = bytes_eq method (codes "GET") || bytes_eq method (codes "HEAD")

abbrev pub has_no_route : Result Resource RouteFault → Bool
has_no_route (Ok resource) = false
has_no_route (Err NoRoute) = true
has_no_route (Err (NoMethod verb)) = false

-- a message reads a path that no route has
abbrev pub is_free : Message → Bool
is_free message =
    reads message.method && has_no_route (resource_asked message.method message.target)

abbrev pub if_free : Option SiteFile → Bool → Option SiteFile
if_free None free = None
if_free (Some file) free = if free then Some file else None

-- the file that a message is told: one of its target, where it reads and no route has its path
-- Rule: a target opens no file; names of the page are compared. Refused as NoRoute. Tried by page.
unfoldable pub file_for : Site → Message → Option SiteFile
file_for site message = if_free (file_at site message.target) (is_free message)

-- the answer to a message that is told a file, but for its body
abbrev pub file_answer : SiteFile → Bool → Bool → Answer
file_answer file is_last sends_body = record {
  status = 200;
  content_type = File file.media;
  allow = None;
  is_last = is_last;
  sends_body = sends_body;
}

-- ---- laws

-- a message that is told a file has no route
abbrev pub FilesBehindRoutes : Type 0
FilesBehindRoutes = (site : Site) (message : Message) (file : SiteFile)
    → file_for site message ≡ Some file
    → resource_asked message.method message.target ≡ Err NoRoute

-- where there is no page, no message is told a file
abbrev pub NoneOfNoSite : Type 0
NoneOfNoSite = (message : Message) → file_for no_site message ≡ None
