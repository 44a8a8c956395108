use Rattle.tb_site.proofs.Files as files
use Rattle.tb_site.proofs.laws.files_behind_routes.Goals as goal

pub returns-clause-routes : goal.returns-clause-routes
returns-clause-routes c = files.files_behind_routes

pub returns-clause-none : goal.returns-clause-none
returns-clause-none c = files.none_of_no_site
