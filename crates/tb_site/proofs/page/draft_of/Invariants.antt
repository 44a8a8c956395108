use Rattle.std.proofs.Common.{◌≡◌, drop}
use Rattle.tb_site.specs.Page.{draft_of, empty_draft}
use Rattle.tb_site.proofs.page.draft_of.Given as goal

-- the files to come, behind those so far
abbrev pub invariant-loop-file : goal.invariant-loop-file
invariant-loop-file l = draft_of l.draft (drop l.file-index l.found) ≡ draft_of empty_draft l.found
