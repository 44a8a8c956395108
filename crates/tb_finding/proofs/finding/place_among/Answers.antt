use Rattle.std.proofs.Common.{◌≡◌, ◌<◌, ◌+◌, ◌∙◌, ℕ, Bool, true, false, List, cond, length, get_or, drop, ap, sym, arith}
use Rattle.std.specs.Str.{bytes_eq}
use Rattle.std.proofs.lemmas.List.{at_drop_more}
use Rattle.tb_finding.specs.Order.{place_among}
use Rattle.tb_finding.proofs.finding.place_among.Goals as goal

-- what the project at a place says of those from there on
place_from : (project : List ℕ) (projects : List (List ℕ)) (i : ℕ) (other : List ℕ) (same : Bool) → i < length projects → other ≡ get_or projects i other → same ≡ bytes_eq project other → place_among project (drop i projects) ≡ cond same 0 (place_among project (drop (i + 1) projects) + 1)
place_from project projects i other same below is e =
    at_drop_more (place_among project) projects i other below
    ∙ ap (λ o. cond (bytes_eq project o) 0 (place_among project (drop (i + 1) projects) + 1)) (sym is)
    ∙ ap (λ b. cond b 0 (place_among project (drop (i + 1) projects) + 1)) (sym e)

pub returns-then-eq : goal.returns-then-eq
returns-then-eq c =
    let project = c.args.project.now in
    let projects = c.args.projects.now in
    let i = c.loop-place.place in
    let here : place_among project (drop i projects) ≡ 0 =
    place_from project projects i c.index-projects-place.result true (omega arith) c.index-projects-place.is
    (sym c.if-eq.true ∙ c.eq.ensures ∙ ap (bytes_eq project) c.as_str.ensures) in
    let before : i + place_among project (drop i projects) ≡ place_among project projects =
    c.loop-place.invariant in
    omega arith

pub loop-place-preserved : goal.loop-place-preserved
loop-place-preserved c =
    let project = c.args.project.now in
    let projects = c.args.projects.now in
    let i = c.loop-place.place in
    let later : place_among project (drop i projects) ≡ place_among project (drop (i + 1) projects) + 1 =
    place_from project projects i c.index-projects-place.result false (omega arith) c.index-projects-place.is
    (sym c.if-eq.false ∙ c.eq.ensures ∙ ap (bytes_eq project) c.as_str.ensures) in
    let before : i + place_among project (drop i projects) ≡ place_among project projects =
    c.loop-place.invariant in
    omega arith
