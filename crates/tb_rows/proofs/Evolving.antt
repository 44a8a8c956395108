-- How the boards of a world come out of changes.
use Rattle.std.proofs.Common.{◌≡◌, ℕ, ◌+◌, ◌≤◌, ◌==◌, Bool, true, false, cond, if◌then◌else◌, List, [], ◌∷◌, ◌++◌, map, length, refl, sym, ◌∙◌, ap, subst, arith, inl, inr, append_assoc}
use Rattle.std.specs.List.{AllByRecursion, range_with_len}
use Rattle.std.proofs.lemmas.Bool.{cases_Bool, eqb-true, ne_eqb}
use Rattle.std.proofs.lemmas.List.{map-id, length-map}
use Rattle.sqlite_trees.proofs.ListLemmas.{all_weaker}
use Rattle.tb_board.specs.declared.board.Board.{Board}
use Rattle.tb_board.specs.declared.change.Change.{Change}
use Rattle.tb_board.specs.declared.change.Change.TheVariants.{PutTask, AddPerson as NewPerson, SetKey, AddBoard as NewBoard, SetTitle as NewTitle, SetRole, SetGone, TakeGone, SetAhead}
use Rattle.tb_board.specs.declared.world.World.{World}
use Rattle.tb_board.specs.Changing.{change_board, changed, changed_by, with_ahead, with_gone, with_task_at, with_title, without_gone}
use Rattle.tb_board.specs.World.{has_number}
use Rattle.tb_board.specs.Extends.{IsFrontOf}
use Rattle.tb_rows.proofs.Turning.{unchanged}

-- what a change makes of board n
abbrev pub change_on : ℕ → Change → Board → Board
change_on n (PutTask m place t) b = if n == m then with_task_at place t b else b
change_on n (NewPerson name key) b = b
change_on n (SetKey name key) b = b
change_on n (NewBoard m title) b = b
change_on n (NewTitle m title) b = if n == m then with_title title b else b
change_on n (SetRole m person role) b = b
change_on n (SetGone m g) b = if n == m then with_gone g b else b
change_on n (TakeGone m id k) b = if n == m then without_gone id k b else b
change_on n (SetAhead m ahead) b = if n == m then with_ahead ahead b else b

-- what the changes make of it
abbrev pub replay : ℕ → List Change → Board → Board
replay n [] b = b
replay n (c ∷ cs) b = replay n cs (change_on n c b)

abbrev pub numbers : List Board → List ℕ
numbers bs = map (λ (b : Board). b.number) bs

either_number : (q : Bool) (a b : Board) → a.number ≡ b.number → (cond q a b).number ≡ b.number
either_number true a b same = same
either_number false a b same = refl

number_stays : (n : ℕ) (c : Change) (b : Board) → (change_on n c b).number ≡ b.number
number_stays n (PutTask m place t) b = either_number (n == m) (with_task_at place t b) b refl
number_stays n (NewPerson name key) b = refl
number_stays n (SetKey name key) b = refl
number_stays n (NewBoard m title) b = refl
number_stays n (NewTitle m title) b = either_number (n == m) (with_title title b) b refl
number_stays n (SetRole m person role) b = refl
number_stays n (SetGone m g) b = either_number (n == m) (with_gone g b) b refl
number_stays n (TakeGone m id k) b = either_number (n == m) (without_gone id k b) b refl
number_stays n (SetAhead m ahead) b = either_number (n == m) (with_ahead ahead b) b refl

numbers_from : (k : ℕ) (bs : List Board) → numbers bs ≡ range_with_len k (length bs) → AllByRecursion (λ b. k ≤ b.number) bs
numbers_from k [] numbered = tt
numbers_from k (b ∷ bs) numbered =
    let here : b.number ≡ k = cc in
    let later : numbers bs ≡ range_with_len (k + 1) (length bs) = cc in
    (omega (arith, here), all_weaker _ _ (λ (c : Board) past. omega (arith, past)) bs (numbers_from (k + 1) bs later))

-- of boards numbered one after the other the one of that number is changed, whatever follows them
changed_front : (n : ℕ) (f : Board → Board) (k : ℕ) (front more : List Board) → numbers front ≡ range_with_len k (length front)
    → (later : List Board) × (change_board n f (front ++ more) ≡ map (λ (b : Board). if b.number == n then f b else b) front ++ later)
changed_front n f k [] more numbered = (change_board n f more, refl)
changed_front n f k (b ∷ bs) more numbered =
    let here : b.number ≡ k = cc in
    let later : numbers bs ≡ range_with_len (k + 1) (length bs) = cc in
    elim (cases_Bool (b.number == n)) [
      | inl found ↦
          let is : b.number ≡ n = eqb-true b.number n found in
          let others : AllByRecursion (λ (c : Board). (c.number == n) ≡ false) bs =
          all_weaker _ _ (λ (c : Board) past. ne_eqb c.number n (λ same. omega (arith, past, same, is, here))) bs (numbers_from (k + 1) bs later) in
          (more, rw found (ap (λ l. f b ∷ (l ++ more)) (sym (unchanged (has_number n) f bs others))))
      | inr other ↦ let deeper = changed_front n f (k + 1) bs more later in (deeper.0, rw other (ap (λ l. b ∷ l) deeper.1))
    ]

one_step : (w : World) (c : Change) (k : ℕ) (front more : List Board) → w.boards ≡ front ++ more → numbers front ≡ range_with_len k (length front)
    → (later : List Board) × ((changed_by w c).boards ≡ map (λ (b : Board). change_on b.number c b) front ++ later)
one_step w (PutTask m place t) k front more is numbered =
    let there = changed_front m (with_task_at place t) k front more numbered in (there.0, ap (change_board m (with_task_at place t)) is ∙ there.1)
one_step w (NewPerson name key) k front more is numbered = (more, is ∙ ap (λ l. l ++ more) (sym (map-id front)))
one_step w (SetKey name key) k front more is numbered = (more, is ∙ ap (λ l. l ++ more) (sym (map-id front)))
one_step w (NewBoard m title) k front more is numbered =
    let last = record { number = m; title = title; tasks = []; gone = []; ahead = 1 } ∷ [] in
    (more ++ last, ap (λ l. l ++ last) is ∙ append_assoc front more last ∙ ap (λ l. l ++ (more ++ last)) (sym (map-id front)))
one_step w (NewTitle m title) k front more is numbered =
    let there = changed_front m (with_title title) k front more numbered in (there.0, ap (change_board m (with_title title)) is ∙ there.1)
one_step w (SetRole m person role) k front more is numbered = (more, is ∙ ap (λ l. l ++ more) (sym (map-id front)))
one_step w (SetGone m g) k front more is numbered =
    let there = changed_front m (with_gone g) k front more numbered in (there.0, ap (change_board m (with_gone g)) is ∙ there.1)
one_step w (TakeGone m id k') k front more is numbered =
    let there = changed_front m (without_gone id k') k front more numbered in (there.0, ap (change_board m (without_gone id k')) is ∙ there.1)
one_step w (SetAhead m ahead) k front more is numbered =
    let there = changed_front m (with_ahead ahead) k front more numbered in (there.0, ap (change_board m (with_ahead ahead)) is ∙ there.1)

numbers-stay : (c : Change) (bs : List Board) → numbers (map (λ (b : Board). change_on b.number c b) bs) ≡ numbers bs
numbers-stay c [] = refl
numbers-stay c (b ∷ bs) = rw (number_stays b.number c b, numbers-stay c bs) refl

front_same : (cs : List Board) (more : List Board) → IsFrontOf (λ (a b : Board). b ≡ a) cs (cs ++ more)
front_same [] more = tt
front_same (c ∷ cs) more = (refl, front_same cs more)

front_before : (c : Change) (cs : List Change) (ws bs : List Board) → IsFrontOf (λ (a b : Board). b ≡ replay a.number cs a) (map (λ (a : Board). change_on a.number c a) ws) bs
    → IsFrontOf (λ (a b : Board). b ≡ replay a.number (c ∷ cs) a) ws bs
front_before c cs [] bs h = tt
front_before c cs (a ∷ ws) [] h = absurd h
front_before c cs (a ∷ ws) (b ∷ bs) h = (h.0 ∙ ap (λ n. replay n cs (change_on a.number c a)) (number_stays a.number c a), front_before c cs ws bs h.1)

-- each of the boards that were comes out of the changes of its number
pub evolved : (cs : List Change) (w : World) (k : ℕ) (front more : List Board) → w.boards ≡ front ++ more → numbers front ≡ range_with_len k (length front)
    → IsFrontOf (λ (a b : Board). b ≡ replay a.number cs a) front (changed w cs).boards
evolved [] w k front more is numbered = subst (λ bs. IsFrontOf (λ (a b : Board). b ≡ a) front bs) (sym is) (front_same front more)
evolved (c ∷ cs) w k front more is numbered =
    let next = one_step w c k front more is numbered in
    let later = map (λ (b : Board). change_on b.number c b) front in
    let still : numbers later ≡ range_with_len k (length later) =
    numbers-stay c front ∙ numbered ∙ ap (range_with_len k) (sym (length-map front (λ (b : Board). change_on b.number c b))) in
    front_before c cs front (changed (changed_by w c) cs).boards (evolved cs (changed_by w c) k later next.0 next.1 still)
