-- Graphs that are made of lists of places.
use Rattle.std.proofs.Common.{◌≡◌, ◌↔◌, IsTrue, ℕ, zero, suc, ◌+◌, ◌-◌, ◌<◌, ◌≤◌, nat_lt, Bool, true, false, List, [], ◌∷◌, ◌++◌, length, get_or, set, map, take, replicate, filter, refl, sym, ◌∙◌, ap, arith, inl, inr}
use Rattle.std.proofs.lemmas.Bool.{cases_Bool}
use Rattle.std.proofs.lemmas.List.{replicate-append-replicate, get_or-set_same, map-append, length-map, append_assoc, append-nil, length-take-le}
use Rattle.std.proofs.lemmas.List.Elements.{filter-append}
use Rattle.std.proofs.Math.Seq.{take-suc, take-length, set-append_seam, get_or-append_seam}
use Rattle.tb_graph.specs.Leads.{leads}
use Rattle.tb_graph.specs.Walk.{Graph, IsAcyclic, Reaches}
use Rattle.tb_graph.proofs.Leading.{leads_decides}
use Rattle.tb_cleaning.specs.Circles.{circles_to, within, graph_of}

no_places : List ℕ
no_places = []

set_twice : {A : Type 0} (xs : List A) (i : ℕ) (x y : A) → set (set xs i x) i y ≡ set xs i y
set_twice [] i x y = refl
set_twice (z ∷ zs) zero x y = refl
set_twice (z ∷ zs) (suc i) x y = ap (λ ws. z ∷ ws) (set_twice zs i x y)

within-append : (n : ℕ) (xs ys : List ℕ) → within n (xs ++ ys) ≡ within n xs ++ within n ys
within-append n xs ys = filter-append (λ place. nat_lt place n) xs ys

-- one more of a node's links
pub link_more : (n : ℕ) (g links new : Graph) (from : ℕ) (items : List ℕ) (i : ℕ) → from < length g → i < length items
    → links ≡ set g from (get_or g from [] ++ within n (take i items))
    → new ≡ set links from (get_or links from [] ++ within n (get_or items i 0 ∷ []))
    → new ≡ set g from (get_or g from [] ++ within n (take (i + 1) items))
unfolding no_places
link_more n g links new from items i inside at is new_is =
    let place = get_or items i 0 in
    let old = get_or g from no_places in
    let before = within n (take i items) in
    let last = within n (place ∷ []) in
    let here : get_or links from no_places ≡ old ++ before = ap (λ h. get_or h from no_places) is ∙ get_or-set_same g from (old ++ before) no_places inside in
    let one : i + 1 ≡ suc i = omega arith in
    let next : take (i + 1) items ≡ take i items ++ place ∷ [] = ap (λ m. take m items) one ∙ take-suc items i 0 at in
    let grown : get_or links from no_places ++ last ≡ old ++ within n (take (i + 1) items) =
    ap (λ xs. xs ++ last) here ∙ append_assoc old before last
    ∙ ap (λ xs. old ++ xs) (sym (within-append n (take i items) (place ∷ [])) ∙ ap (within n) (sym next)) in
    new_is ∙ ap (λ h. set h from (get_or links from no_places ++ last)) is ∙ set_twice g from (old ++ before) (get_or links from no_places ++ last) ∙ ap (set g from) grown

-- one more node's links
pub links_more : (n : ℕ) (links : List (List ℕ)) (k : ℕ) (g new : Graph) → k < length links
    → g ≡ map (within n) (take k links) ++ replicate (length links - k) []
    → new ≡ set g k (get_or g k [] ++ within n (get_or links k []))
    → new ≡ map (within n) (take (k + 1) links) ++ replicate (length links - (k + 1)) []
unfolding no_places
links_more n links k g new inside is new_is =
    let xs = map (within n) (take k links) in
    let rest = replicate (length links - (k + 1)) no_places in
    let targets = within n (get_or links k no_places) in
    let size : length xs ≡ k = length-map (take k links) (within n) ∙ length-take-le k links (omega (arith, inside)) in
    let left : length links - k ≡ suc (length links - (k + 1)) = omega (arith, inside) in
    let one : k + 1 ≡ suc k = omega arith in
    let shape : g ≡ xs ++ no_places ∷ rest = is ∙ ap (λ m. xs ++ replicate m no_places) left in
    let here : get_or g k no_places ≡ no_places =
    ap (λ h. get_or h k no_places) shape ∙ ap (λ i. get_or (xs ++ no_places ∷ rest) i no_places) (sym size) ∙ get_or-append_seam xs no_places rest no_places in
    let put : set g k targets ≡ xs ++ targets ∷ rest =
    ap (λ h. set h k targets) shape ∙ ap (λ i. set (xs ++ no_places ∷ rest) i targets) (sym size) ∙ set-append_seam xs no_places rest targets in
    let next : map (within n) (take (k + 1) links) ≡ xs ++ targets ∷ [] =
    ap (λ m. map (within n) (take m links)) one ∙ ap (map (within n)) (take-suc links k no_places inside)
    ∙ map-append (within n) (take k links) (get_or links k no_places ∷ []) in
    new_is ∙ ap (λ h. set g k (h ++ targets)) here ∙ put ∙ sym (append_assoc xs (targets ∷ []) rest) ∙ ap (λ h. h ++ rest) (sym next)

-- all nodes' links
pub links_all : (links : List (List ℕ)) (k : ℕ) (g : Graph) → k ≤ length links → length links ≤ k
    → g ≡ map (within (length links)) (take k links) ++ replicate (length links - k) [] → g ≡ graph_of links
unfolding no_places
links_all links k g within_ done is =
    let none : length links - k ≡ 0 = omega (arith, within_, done) in
    let size : k ≡ length links = omega (arith, within_, done) in
    is ∙ ap (λ m. map (within (length links)) (take k links) ++ replicate m no_places) none ∙ append-nil (map (within (length links)) (take k links))
    ∙ ap (λ m. map (within (length links)) (take m links)) size ∙ ap (map (within (length links))) (take-length links)

same : (p q : Bool) → (p ≡ true → q ≡ true) → (q ≡ true → p ≡ true) → p ≡ q
same true q to back = sym (to refl)
same false true to back = back refl
same false false to back = refl

-- a search answers the test for walks
pub led : (g : Graph) (from to : ℕ) (answer : Bool) → IsTrue answer ↔ Reaches g from to → answer ≡ leads g from to
led g from to answer exact = same answer (leads g from to) (λ h. (leads_decides g from to).1 (exact.0 h)) (λ h. exact.1 ((leads_decides g from to).0 h))

not_led : (g : Graph) (a : ℕ) → IsAcyclic g → leads g a a ≡ false
not_led g a none =
    elim (cases_Bool (leads g a a)) [
      | inl led ↦ absurd (none a ((leads_decides g a a).0 led))
      | inr free ↦ free
    ]

-- where no walk leads back, no node is marked
pub none_marked : (g : Graph) (n : ℕ) → IsAcyclic g → circles_to g n ≡ replicate n false
none_marked g zero none = refl
none_marked g (suc n) none =
    let one : n + 1 ≡ suc n = omega arith in
    ap (λ marks. marks ++ leads g n n ∷ []) (none_marked g n none) ∙ ap (λ b. replicate n false ++ b ∷ []) (not_led g n none)
    ∙ replicate-append-replicate n 1 false ∙ ap (λ m. replicate m false) one
