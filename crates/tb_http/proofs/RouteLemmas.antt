-- An insert of a route that fits adds the route, or there was no memory.
use Rattle.std.proofs.Common.{◌≡◌, ℕ, List, false, not, is_some, IsTrue, Option, Some, None, OnOk, IfErr, Result, Ok, Err, refl}
use Rattle.matchit.specs.Route.{Scan, parse_route}
use Rattle.matchit.specs.Router.{RouteOf, InsertsRead, nearest}
use Rattle.matchit.specs.declared.error.InsertError.{InsertError}
use Rattle.matchit.specs.declared.error.InsertError.TheVariants.{Conflict, InvalidParam, InvalidParamSegment, InvalidCatchAll, OutOfMemory}
use Rattle.tb_http.specs.declared.kind.Kind.{Kind}
use Rattle.tb_http.specs.Route.{RouteRows, with_row, with_route, row_fits, fits}

row_inserted : (scan : Result Scan InsertError) (kind : Kind) (old new : RouteRows) (result : Result (Unit {0}) InsertError)
    → InsertsRead scan kind old new result → OnOk result (new ≡ with_row scan kind old)
row_inserted (Ok scan) kind old new (Ok u) inserts = inserts.1
row_inserted (Err e) kind old new (Ok u) inserts = inserts.0
row_inserted scan kind old new (Err fault) inserts = tt

pub route_inserted : (text : List ℕ) (kind : Kind) (old new : RouteRows) (result : Result (Unit {0}) InsertError)
    → InsertsRead (parse_route text) kind old new result → OnOk result (new ≡ with_route text kind old)
unfolding with_route
route_inserted text kind old new result inserts = row_inserted (parse_route text) kind old new result inserts

none_there : (found : Option (RouteOf Kind)) (row : RouteOf Kind) → found ≡ Some row → IsTrue (not (is_some found)) → ⊥
none_there None row is fit = cc
none_there (Some other) row is fit = cc

never : IsTrue false → ⊥
never is = cc

row_wanting : (scan : Result Scan InsertError) (kind : Kind) (old new : RouteRows) (result : Result (Unit {0}) InsertError)
    → IsTrue (row_fits scan old) → InsertsRead scan kind old new result → IfErr result (λ fault. fault ≡ OutOfMemory)
row_wanting scan kind old new (Ok u) fit inserts = tt
row_wanting (Ok scan) kind old new (Err (Conflict with)) fit inserts = absurd (none_there (nearest scan.pattern old) inserts.1.0 inserts.1.1 fit)
row_wanting (Ok scan) kind old new (Err OutOfMemory) fit inserts = refl
row_wanting (Ok scan) kind old new (Err InvalidParamSegment) fit inserts = absurd inserts.1
row_wanting (Ok scan) kind old new (Err InvalidParam) fit inserts = absurd inserts.1
row_wanting (Ok scan) kind old new (Err InvalidCatchAll) fit inserts = absurd inserts.1
row_wanting (Err e) kind old new (Err fault) fit inserts = absurd (never fit)

pub route_wanting : (text : List ℕ) (kind : Kind) (old new : RouteRows) (result : Result (Unit {0}) InsertError)
    → IsTrue (fits text old) → InsertsRead (parse_route text) kind old new result → IfErr result (λ fault. fault ≡ OutOfMemory)
unfolding fits
route_wanting text kind old new result fit inserts = row_wanting (parse_route text) kind old new result fit inserts
