-- Files stand behind routes.
use Rattle.std.proofs.Common.{◌≡◌, Bool, true, false, ◌&&◌, Option, Some, None, Result, Ok, Err, refl}
use Rattle.tb_http.specs.declared.resource.Resource.{Resource}
use Rattle.tb_http.specs.declared.resource.RouteFault.{RouteFault}
use Rattle.tb_http.specs.declared.resource.RouteFault.TheVariants.{NoRoute, NoMethod}
use Rattle.tb_http.specs.Resource.{resource_asked}
use Rattle.tb_site.specs.declared.site.SiteFile.{SiteFile}
use Rattle.tb_site.specs.Site.{FilesBehindRoutes, NoneOfNoSite, file_at, file_for, has_no_route, if_free, is_free, reads}

free_of : (found : Option SiteFile) (free : Bool) (file : SiteFile) → if_free found free ≡ Some file → free ≡ true
free_of None free file is = absurd (cc)
free_of (Some other) true file is = refl
free_of (Some other) false file is = absurd (cc)

no_route_of : (reads : Bool) (asked : Result Resource RouteFault) → (reads && has_no_route asked) ≡ true → asked ≡ Err NoRoute
no_route_of false asked is = absurd (cc)
no_route_of true (Ok resource) is = absurd (cc)
no_route_of true (Err NoRoute) is = refl
no_route_of true (Err (NoMethod verb)) is = absurd (cc)

pub files_behind_routes : FilesBehindRoutes
unfolding file_for
files_behind_routes site message file is =
    no_route_of (reads message.method) (resource_asked message.method message.target) (free_of (file_at site message.target) (is_free message) file is)

pub none_of_no_site : NoneOfNoSite
unfolding file_for
none_of_no_site message = refl
