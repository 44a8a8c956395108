use Rattle.std.proofs.Common.{◌≡◌, ℕ, List, Bool, true, false, ◌&&◌, refl, sym, ap, ◌∙◌}
use Rattle.std.proofs.lemmas.Str.{IsUtf8-from_is_utf8, is_utf8-from_IsUtf8}
use Rattle.std.specs.Str.{IsUtf8, is_utf8}
use Rattle.tb_http.specs.Route.{kind_of}
use Rattle.tb_server.specs.Files.{is_free_file}
use Rattle.tb_server.proofs.server.gives_file.Goals as goal
use Rattle.tb_site.specs.Site.{file_at}

no_file : (b there : Bool) (bytes : List ℕ) → is_utf8 bytes ≡ b → (IsUtf8 bytes → ⊥) → false ≡ b && there
no_file true there bytes is isnt = absurd (isnt (IsUtf8-from_is_utf8 bytes is))
no_file false there bytes is isnt = refl

pub returns-in-Ok : goal.returns-in-Ok
returns-in-Ok c =
    let text = c.in-Ok.ensures.cases in
    let bytes = c.args.target.now in
    let site = c.args.paths.now.site in
    c.is_file_of.ensures ∙ ap (λ t. is_free_file (file_at site t) (kind_of t)) text.0
    ∙ sym (ap (λ b. b && is_free_file (file_at site bytes) (kind_of bytes)) (is_utf8-from_IsUtf8 bytes text.1))

pub returns-in-Err : goal.returns-in-Err
returns-in-Err c =
    let bytes = c.args.target.now in
    no_file (is_utf8 bytes) (is_free_file (file_at c.args.paths.now.site bytes) (kind_of bytes)) bytes refl c.in-Err.ensures.cases.0
