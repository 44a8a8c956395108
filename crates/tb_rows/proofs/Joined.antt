-- The rows of boards joined: each board finds its own among them.
use Rattle.std.proofs.Common.{◌≡◌, ℕ, ◌+◌, ◌==◌, ◌<◌, Bool, true, false, List, [], ◌∷◌, ◌++◌, filter, length, refl, sym, ap₂, ◌∙◌, subst, arith, append_assoc}
use Rattle.std.specs.List.{AllByRecursion, flat_map, range_with_len}
use Rattle.std.proofs.lemmas.Bool.{eq-eqb}
use Rattle.std.proofs.lemmas.List.{append-nil}
use Rattle.std.proofs.lemmas.List.Elements.{filter-append}
use Rattle.sqlite_keyed.proofs.ListLemmas.{filter_all, filter_none, all_weaker, all-append}
use Rattle.tb_board.specs.declared.board.Board.{Board}
use Rattle.tb_core.specs.GoodWorld.{numbers}
use Rattle.tb_rows.proofs.Lists.{differ}

-- the boards are numbered in order from n
abbrev pub AreNumberedFrom : ℕ → List Board → Type 0
AreNumberedFrom n [] = Unit {0}
AreNumberedFrom n (b ∷ bs) = (b.number ≡ n) × AreNumberedFrom (n + 1) bs

pub numbered_from : (n : ℕ) (bs : List Board) → numbers bs ≡ range_with_len n (length bs) → AreNumberedFrom n bs
numbered_from n [] h = tt
numbered_from n (b ∷ bs) h =
    let first : b.number ≡ n = cc in
    let rest : numbers bs ≡ range_with_len (n + 1) (length bs) = cc in
    (first, numbered_from (n + 1) bs rest)

module _ {R : Type 0} (board_of : R → ℕ) (rows_of : Board → List R) (own : (b : Board) → AllByRecursion (λ r. board_of r ≡ b.number) (rows_of b)) where
  abbrev is_on : ℕ → R → Bool
  is_on n r = board_of r == n

  all_own : (b : Board) → filter (is_on b.number) (rows_of b) ≡ rows_of b
  all_own b = filter_all _ (rows_of b) (all_weaker _ (λ r. is_on b.number r ≡ true) (λ r is. eq-eqb (board_of r) b.number is) (rows_of b) (own b))

  none_own : (n : ℕ) (b : Board) → (b.number ≡ n → ⊥) → filter (is_on n) (rows_of b) ≡ []
  none_own n b other =
      filter_none _ (rows_of b) (all_weaker _ (λ r. is_on n r ≡ false) (λ r is. differ (board_of r) n (λ same. other (sym is ∙ same))) (rows_of b) (own b))

  none_later : (m n : ℕ) (bs : List Board) → m < n → AreNumberedFrom n bs → filter (is_on m) (flat_map rows_of bs) ≡ []
  none_later m n [] below numbered = refl
  none_later m n (b ∷ bs) below numbered =
      let other : b.number ≡ m → ⊥ = λ same. omega (arith, numbered.0) in
      filter-append (is_on m) (rows_of b) (flat_map rows_of bs) ∙ ap₂ ◌++◌ (none_own m b other) (none_later m (n + 1) bs (omega arith) numbered.1)

  none_before : (n : ℕ) (before : List R) → AllByRecursion (λ r. board_of r < n) before → filter (is_on n) before ≡ []
  none_before n before all = filter_none _ before (all_weaker _ (λ r. is_on n r ≡ false) (λ r below. differ (board_of r) n (λ same. omega arith)) before all)

  own_after : (n : ℕ) (before : List R) (bs : List Board) → AllByRecursion (λ r. board_of r < n) before → AreNumberedFrom n bs
      → AllByRecursion (λ b. filter (is_on b.number) (before ++ flat_map rows_of bs) ≡ rows_of b) bs
  own_after n before [] low numbered = tt
  own_after n before (b ∷ bs) low numbered =
      let rest = flat_map rows_of bs in
      let low_here : AllByRecursion (λ r. board_of r < b.number) before = subst (λ k. AllByRecursion (λ r. board_of r < k) before) (sym numbered.0) low in
      let here : filter (is_on b.number) (before ++ (rows_of b ++ rest)) ≡ rows_of b =
      filter-append (is_on b.number) before (rows_of b ++ rest)
      ∙ ap₂ ◌++◌ (none_before b.number before low_here) (filter-append (is_on b.number) (rows_of b) rest ∙ ap₂ ◌++◌ (all_own b) (none_later b.number (n + 1) bs (omega (arith, numbered.0)) numbered.1) ∙ append-nil (rows_of b)) in
      let more : AllByRecursion (λ r. board_of r < n + 1) (before ++ rows_of b) =
      all-append _ before (rows_of b)
      (all_weaker _ (λ r. board_of r < n + 1) (λ r below. omega arith) before low)
      (all_weaker _ (λ r. board_of r < n + 1) (λ r is. omega (arith, numbered.0)) (rows_of b) (own b)) in
      (here, subst (λ l. AllByRecursion (λ c. filter (is_on c.number) l ≡ rows_of c) bs) (append_assoc before (rows_of b) rest) (own_after (n + 1) (before ++ rows_of b) bs more numbered.1))

  -- each board finds its own rows, all of them, in order
  pub own_rows : (n : ℕ) (bs : List Board) → AreNumberedFrom n bs → AllByRecursion (λ b. filter (is_on b.number) (flat_map rows_of bs) ≡ rows_of b) bs
  own_rows n bs numbered = own_after n [] bs tt numbered
