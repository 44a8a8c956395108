-- The steps by which the places of masks are gone.
use Rattle.std.proofs.Common.{◌≡◌, ℕ, suc, ◌+◌, ◌<◌, List, [], ◌∷◌, ◌++◌, length, get_or, drop, drop-cons, append_assoc, sym, ◌∙◌, ap, arith}
use Rattle.tb_task.specs.declared.incoming.Incoming.{Incoming}
use Rattle.tb_board.specs.declared.board.Board.{Board}
use Rattle.tb_board.specs.declared.gone.Gone.{Gone}
use Rattle.tb_import.specs.Entering.{marked_from, mask_in, mask_places}

-- these places go last
abbrev pub with_places : Board → List Gone → Board
with_places b gs = record b { gone = b.gone ++ gs }

one_after : (b later : Board) (now rest : List Gone) → later ≡ with_places b now → with_places later rest ≡ with_places b (now ++ rest)
one_after b later now rest is = ap (λ c. with_places c rest) is ∙ ap (λ gs. record b { gone = gs }) (append_assoc b.gone now rest)

pub mark_next : (start b later : Board) (id k m : ℕ) (mask : List ℕ) → k < length mask → m ≡ get_or mask k 0
    → later ≡ with_places b (record { template = id; place = k; mark = m } ∷ [])
    → with_places b (marked_from id k (drop k mask)) ≡ start → with_places later (marked_from id (k + 1) (drop (k + 1) mask)) ≡ start
mark_next start b later id k m mask within is made before =
    let next : k + 1 ≡ suc k = omega arith in
    let here : drop k mask ≡ m ∷ drop (k + 1) mask = drop-cons mask k 0 within ∙ ap (λ x. x ∷ drop (suc k) mask) (sym is) ∙ ap (λ n. m ∷ drop n mask) (sym next) in
    one_after b later (record { template = id; place = k; mark = m } ∷ []) (marked_from id (k + 1) (drop (k + 1) mask)) made
    ∙ ap (λ ms. with_places b (marked_from id k ms)) (sym here) ∙ before

pub mask_next : (start b later : Board) (i : ℕ) (t : Incoming) (new : List Incoming) → i < length new → t ≡ get_or new i t
    → later ≡ with_places b (marked_from t.task.id 0 (mask_in t))
    → with_places b (mask_places (drop i new)) ≡ start → with_places later (mask_places (drop (i + 1) new)) ≡ start
mask_next start b later i t new within is made before =
    let next : i + 1 ≡ suc i = omega arith in
    let here : drop i new ≡ t ∷ drop (i + 1) new = drop-cons new i t within ∙ ap (λ x. x ∷ drop (suc i) new) (sym is) ∙ ap (λ n. t ∷ drop n new) (sym next) in
    one_after b later (marked_from t.task.id 0 (mask_in t)) (mask_places (drop (i + 1) new)) made
    ∙ ap (λ is. with_places b (mask_places is)) (sym here) ∙ before
