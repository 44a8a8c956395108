-- The rows of a board's tasks, place by place, and those of a world's boards.
use Rattle.std.proofs.Common.{◌≡◌, ℕ, ◌+◌, ◌≤◌, List, [], ◌∷◌, map, flat_map, length, refl, arith}
use Rattle.std.specs.List.{AllByRecursion, range_with_len}
use Rattle.sqlite_trees.proofs.ListLemmas.{all-append, all_weaker}
use Rattle.tb_board.specs.declared.board.Board.{Board}
use Rattle.tb_board.specs.declared.change.Change.{Change}
use Rattle.tb_sql.specs.declared.changes.RowChange.{RowChange}
use Rattle.tb_rows.specs.Rows.{rows_from}
use Rattle.tb_rows.specs.Steps.{kept_board}
use Rattle.tb_rows.proofs.WholeWorlds.{board_changes, new_board}
use Rattle.tb_rows.proofs.Turning.{inert_none, IsUnordered, Turns, turns_beside, turns_none}

-- P holds of the items at each place of both lists, counted from n, and Q of the further ones of the second
abbrev pub Matches : {A B : Type 0} → (ℕ → A → B → Type 0) → (ℕ → B → Type 0) → ℕ → List A → List B → Type 0
Matches P Q n [] [] = Unit {0}
Matches P Q n [] (y ∷ ys) = Q n y × Matches P Q (n + 1) [] ys
Matches P Q n (x ∷ xs) [] = ⊥
Matches P Q n (x ∷ xs) (y ∷ ys) = P n x y × Matches P Q (n + 1) xs ys

-- rows of one board at one place
abbrev pub AreAt : {R : Type 0} → (R → ℕ) → (R → ℕ) → ℕ → ℕ → List R → Type 0
AreAt board place n p rows = AllByRecursion (λ r. (board r ≡ n) × (place r ≡ p)) rows

-- a row of another board or another place
abbrev pub IsOff : {R : Type 0} → (R → ℕ) → (R → ℕ) → ℕ → ℕ → R → Type 0
IsOff board place n p r = board r ≡ n → place r ≡ p → ⊥

-- a row of another board or an earlier place
abbrev pub IsBefore : {R : Type 0} → (R → ℕ) → (R → ℕ) → ℕ → ℕ → R → Type 0
IsBefore board place n p r = board r ≡ n → p ≤ place r → ⊥

-- a row of another board
abbrev pub IsElsewhere : {R : Type 0} → (R → ℕ) → ℕ → R → Type 0
IsElsewhere board n r = board r ≡ n → ⊥

rows_after : {R A : Type 0} (board place : R → ℕ) (f : ℕ → A → List R) (n p : ℕ) → ((q : ℕ) (a : A) → AreAt board place n q (f q a)) → (ws : List A)
    → AllByRecursion (λ r. (board r ≡ n) × (p ≤ place r)) (rows_from f p ws)
rows_after board place f n p each [] = tt
rows_after board place f n p each (a ∷ ws) =
    all-append _ (f p a) (rows_from f (p + 1) ws)
    (all_weaker _ _ (λ r at. (at.0, omega (arith, at.1))) (f p a) (each p a))
    (all_weaker _ _ (λ r at. (at.0, omega (arith, at.1))) (rows_from f (p + 1) ws) (rows_after board place f n (p + 1) each ws))

-- turns at each place turn all places
pub turns_places : {R A B : Type 0} (by : RowChange → List R → List R) → IsUnordered by → (board place : R → ℕ) (n i : ℕ)
    (steps : ℕ → B → List RowChange) (old : ℕ → A → List R) (new : ℕ → B → List R)
    → ((q : ℕ) (a : A) → AreAt board place n q (old q a)) → ((q : ℕ) (b : B) → AreAt board place n q (new q b))
    → (ws : List A) (bs : List B)
    → Matches (λ i a b. Turns by (IsOff board place n (i + 1)) (steps i b) (old (i + 1) a) (new (i + 1) b)) (λ i b. Turns by (IsOff board place n (i + 1)) (steps i b) [] (new (i + 1) b)) i ws bs
    → Turns by (IsBefore board place n (i + 1)) (rows_from steps i bs) (rows_from old (i + 1) ws) (rows_from new (i + 1) bs)
turns_places by un board place n i steps old new old_at new_at [] [] each = turns_none by _ [] [] (inert_none by)
turns_places by un board place n i steps old new old_at new_at [] (b ∷ bs) each =
    turns_beside by un (IsBefore board place n (i + 1)) (IsOff board place n (i + 1)) (IsBefore board place n (i + 1 + 1)) (steps i b) (rows_from steps (i + 1) bs)
    [] (new (i + 1) b) [] (rows_from new (i + 1 + 1) bs)
    (λ r before on at. before on (omega (arith, at))) (λ r before on at. before on (omega (arith, at)))
    tt (all_weaker _ _ (λ r at on later. omega (arith, at.1, later)) (new (i + 1) b) (new_at (i + 1) b))
    each.0 (turns_places by un board place n (i + 1) steps old new old_at new_at [] bs each.1)
turns_places by un board place n i steps old new old_at new_at (a ∷ ws) [] each = absurd each
turns_places by un board place n i steps old new old_at new_at (a ∷ ws) (b ∷ bs) each =
    turns_beside by un (IsBefore board place n (i + 1)) (IsOff board place n (i + 1)) (IsBefore board place n (i + 1 + 1)) (steps i b) (rows_from steps (i + 1) bs)
    (old (i + 1) a) (new (i + 1) b) (rows_from old (i + 1 + 1) ws) (rows_from new (i + 1 + 1) bs)
    (λ r before on at. before on (omega (arith, at))) (λ r before on at. before on (omega (arith, at)))
    (all_weaker _ _ (λ r at on here. omega (arith, at.1, here)) (rows_from old (i + 1 + 1) ws) (rows_after board place old n (i + 1 + 1) old_at ws))
    (all_weaker _ _ (λ r at on later. omega (arith, at.1, later)) (new (i + 1) b) (new_at (i + 1) b))
    each.0 (turns_places by un board place n (i + 1) steps old new old_at new_at ws bs each.1)

-- ---- boards

rows_beyond : {R : Type 0} (board : R → ℕ) (f : Board → List R) → ((b : Board) → AllByRecursion (λ r. board r ≡ b.number) (f b)) → (k : ℕ) (bs : List Board)
    → map (λ (b : Board). b.number) bs ≡ range_with_len k (length bs) → AllByRecursion (λ r. k ≤ board r) (flat_map f bs)
rows_beyond board f each k [] numbered = tt
rows_beyond board f each k (b ∷ bs) numbered =
    let here : b.number ≡ k = cc in
    let later : map (λ (b : Board). b.number) bs ≡ range_with_len (k + 1) (length bs) = cc in
    all-append _ (f b) (flat_map f bs)
    (all_weaker _ _ (λ r on. omega (arith, on, here)) (f b) (each b))
    (all_weaker _ _ (λ r past. omega (arith, past)) (flat_map f bs) (rows_beyond board f each (k + 1) bs later))

-- boards that are numbered one after the other, each of which is turned
pub turns_boards : {R : Type 0} (by : RowChange → List R → List R) → IsUnordered by → (board : R → ℕ) (f : Board → List R)
    → ((b : Board) → AllByRecursion (λ r. board r ≡ b.number) (f b)) → (k : ℕ) (cs : List Change) (ws bs : List Board)
    → map (λ (b : Board). b.number) ws ≡ range_with_len k (length ws) → map (λ (b : Board). b.number) bs ≡ range_with_len k (length bs)
    → Matches (λ i a b. Turns by (IsElsewhere board b.number) (kept_board (length a.tasks) b cs) (f a) (f b)) (λ i b. Turns by (IsElsewhere board b.number) (new_board b) [] (f b)) k ws bs
    → Turns by (λ r. k ≤ board r → ⊥) (board_changes cs ws bs) (flat_map f ws) (flat_map f bs)
turns_boards by un board f on k cs [] [] numbered_as numbered each = turns_none by _ [] [] (inert_none by)
turns_boards by un board f on k cs [] (b ∷ bs) numbered_as numbered each =
    let here : b.number ≡ k = cc in
    let later : map (λ (b : Board). b.number) bs ≡ range_with_len (k + 1) (length bs) = cc in
    turns_beside by un (λ r. k ≤ board r → ⊥) (IsElsewhere board b.number) (λ r. k + 1 ≤ board r → ⊥) (new_board b) (board_changes cs [] bs)
    [] (f b) [] (flat_map f bs)
    (λ r below at. below (omega (arith, at, here))) (λ r below past. below (omega (arith, past)))
    tt (all_weaker _ _ (λ r at past. omega (arith, at, here, past)) (f b) (on b))
    each.0 (turns_boards by un board f on (k + 1) cs [] bs refl later each.1)
turns_boards by un board f on k cs (a ∷ ws) [] numbered_as numbered each = absurd each
turns_boards by un board f on k cs (a ∷ ws) (b ∷ bs) numbered_as numbered each =
    let here : b.number ≡ k = cc in
    let later : map (λ (b : Board). b.number) bs ≡ range_with_len (k + 1) (length bs) = cc in
    let later_as : map (λ (b : Board). b.number) ws ≡ range_with_len (k + 1) (length ws) = cc in
    turns_beside by un (λ r. k ≤ board r → ⊥) (IsElsewhere board b.number) (λ r. k + 1 ≤ board r → ⊥) (kept_board (length a.tasks) b cs) (board_changes cs ws bs)
    (f a) (f b) (flat_map f ws) (flat_map f bs)
    (λ r below at. below (omega (arith, at, here))) (λ r below past. below (omega (arith, past)))
    (all_weaker _ _ (λ r past at. omega (arith, past, at, here)) (flat_map f ws) (rows_beyond board f on (k + 1) ws later_as))
    (all_weaker _ _ (λ r at past. omega (arith, at, here, past)) (f b) (on b))
    each.0 (turns_boards by un board f on (k + 1) cs ws bs later_as later each.1)
