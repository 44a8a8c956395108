-- Which targets are those of files, so that no message to them is asked for a key.
use Rattle.std.specs.Prelude.{ℕ, Bool, true, false, ◌&&◌, List, Option, Some, None}
use Rattle.std.specs.Str.{is_utf8}
use Rattle.tb_http.specs.Route.{kind_of}
use Rattle.tb_http.specs.declared.kind.Kind.{Kind}
use Rattle.tb_site.specs.Site.{file_at}
use Rattle.tb_site.specs.declared.site.Site.{Site}
use Rattle.tb_site.specs.declared.site.SiteFile.{SiteFile}

-- a file has the target, and no route has it as well
abbrev pub is_free_file : Option SiteFile → Option Kind → Bool
is_free_file None kind = false
is_free_file (Some file) None = true
is_free_file (Some file) (Some kind) = false

abbrev pub gives_file : Site → List ℕ → Bool
gives_file site target =
    is_utf8 target && is_free_file (file_at site target) (kind_of target)
