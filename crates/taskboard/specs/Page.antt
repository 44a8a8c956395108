-- The page that an order names.
use Rattle.std.specs.Prelude.{◌≡◌, ℕ, List, Option, Some, None, Ok}
use Rattle.tb_site.specs.Page.{page_of}
use Rattle.tb_site.specs.Site.{no_site}
use Rattle.tb_site.specs.declared.page.FoundFile.{FoundFile}
use Rattle.tb_site.specs.declared.site.Site.{Site}

-- no page where no folder is named, and else that of the files that were found in it
abbrev pub IsPageOf : Option (List ℕ) → Site → Type 0
IsPageOf None site = site ≡ no_site
IsPageOf (Some folder) site = (found : List FoundFile) × (page_of found ≡ Ok site)
