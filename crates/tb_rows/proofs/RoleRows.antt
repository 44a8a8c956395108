-- The roles of a world by its boards.
use Rattle.std.proofs.Common.{◌≡◌, ℕ, ◌+◌, ◌==◌, ◌<◌, ◌≤◌, Bool, true, false, not, List, [], ◌∷◌, ◌++◌, ◌⊎◌, filter, map, length, refl, sym, ap, ap₂, ◌∙◌, arith, inl, inr}
use Rattle.std.specs.List.{AllByRecursion, flat_map}
use Rattle.std.proofs.lemmas.Bool.{cases_Bool, eqb-true, eqb-false}
use Rattle.std.proofs.lemmas.Bool.Decides.{eqb_tells}
use Rattle.sqlite_trees.specs.Tree.{IsAscending}
use Rattle.sqlite_keyed.proofs.ListLemmas.{all_weaker, all_both, all-filter, filter_all, filter_none, filter-filter, filter-map, ascending-filter, ascending-map}
use Rattle.tb_board.specs.declared.board.Board.{Board}
use Rattle.tb_board.specs.declared.world.RoleOn.{RoleOn}
use Rattle.tb_sql_tables.specs.declared.rows.RoleRow.{RoleRow}
use Rattle.tb_sql.specs.Changes.{IsRoleBefore}
use Rattle.tb_rows.specs.Rows.{role_row}
use Rattle.tb_rows.proofs.Joined.{AreNumberedFrom}
use Rattle.tb_rows.proofs.Lists.{all_passed, differ}

-- by boards, and then by people
abbrev pub RoleRises : RoleOn → RoleOn → Type 0
RoleRises r s = (r.board < s.board) ⊎ ((r.board ≡ s.board) × (r.person < s.person))

abbrev pub on_board : ℕ → RoleOn → Bool
on_board n r = r.board == n

abbrev off_board : ℕ → RoleOn → Bool
off_board n r = not (on_board n r)

-- ---- the rows of the roles on a board

people_rise : (n : ℕ) (rs : List RoleOn) → AllByRecursion (λ r. on_board n r ≡ true) rs → IsAscending RoleRises rs → IsAscending (λ (r s : RoleOn). r.person < s.person) rs
people_rise n [] all up = tt
people_rise n (r ∷ rs) all up = (
  all_both (λ s. on_board n s ≡ true) (RoleRises r) (λ s. r.person < s.person)
      (λ s on rises. elim rises [ inl below ↦ absurd (omega (arith, eqb-true s.board n on, eqb-true r.board n all.0)) | inr same ↦ same.1 ]) rs all.1 up.0,
  people_rise n rs all.1 up.1,
)

pub roles_rise : (n : ℕ) (rs : List RoleOn) → IsAscending RoleRises rs → IsAscending IsRoleBefore (map role_row (filter (on_board n) rs))
roles_rise n rs up =
    ascending-map IsRoleBefore role_row (filter (on_board n) rs) (people_rise n (filter (on_board n) rs) (all_passed (on_board n) rs) (ascending-filter RoleRises (on_board n) rs up))

pub role_rows_on : (n : ℕ) (rs : List RoleOn) → filter (λ (row : RoleRow). row.board == n) (map role_row rs) ≡ map role_row (filter (on_board n) rs)
role_rows_on n rs = filter-map (λ (row : RoleRow). row.board == n) role_row rs

-- ---- the roles of all boards joined

later_off : (n : ℕ) (r : RoleOn) (rs : List RoleOn) → n < r.board → AllByRecursion (RoleRises r) rs → AllByRecursion (λ s. on_board n s ≡ false) rs
later_off n r rs above up =
    all_weaker (RoleRises r) (λ s. on_board n s ≡ false)
    (λ s rises. differ s.board n (λ same. elim rises [ inl below ↦ omega arith | inr also ↦ omega (arith, also.0) ])) rs up

-- the roles on the first board come first
split_first : (n : ℕ) (rs : List RoleOn) → AllByRecursion (λ r. n ≤ r.board) rs → IsAscending RoleRises rs → filter (on_board n) rs ++ filter (off_board n) rs ≡ rs
split_first n [] low up = refl
split_first n (r ∷ rs) low up =
    elim (cases_Bool (on_board n r)) [
      | inl here ↦ rw here (ap (λ l. r ∷ l) (split_first n rs low.1 up.1))
      | inr other ↦
          let above : n < r.board = elim (eqb_tells r.board n) [ inl same ↦ absurd (eqb-false r.board n other same.1) | inr apart ↦ let ne = apart.1 in let le : n ≤ r.board = low.0 in omega arith ] in
          let off = later_off n r rs above up.0 in
          rw (other, filter_none (on_board n) rs off, filter_all (off_board n) rs (all_weaker _ (λ s. off_board n s ≡ true) (λ s h. ap not h) rs off)) refl
    ]

kept_apart : (n m : ℕ) (bs : List Board) (rs : List RoleOn) → n < m → AreNumberedFrom m bs
    → flat_map (λ (c : Board). filter (on_board c.number) rs) bs ≡ flat_map (λ (c : Board). filter (on_board c.number) (filter (off_board n) rs)) bs
kept_apart n m [] rs below numbered = refl
kept_apart n m (c ∷ bs) rs below numbered =
    ap₂ ◌++◌
    (sym (filter-filter (on_board c.number) (off_board n) (λ r on. ap not (differ r.board n (λ same. omega (arith, eqb-true r.board c.number on, numbered.0)))) rs))
    (kept_apart n (m + 1) bs rs (omega arith) numbered.1)

off_is : (n : ℕ) (r : RoleOn) → off_board n r ≡ true → r.board ≡ n → ⊥
off_is n r off same = elim (eqb_tells r.board n) [ inl is ↦ let off_here : false ≡ true = rw is.0 at off in cc | inr apart ↦ apart.1 same ]

pub joined_roles : (n : ℕ) (bs : List Board) (rs : List RoleOn) → AreNumberedFrom n bs → AllByRecursion (λ r. n ≤ r.board) rs → AllByRecursion (λ r. r.board < n + length bs) rs
    → IsAscending RoleRises rs → flat_map (λ (b : Board). filter (on_board b.number) rs) bs ≡ rs
joined_roles n [] [] numbered low high up = refl
joined_roles n [] (r ∷ rs) numbered low high up = absurd (omega (arith, low.0, high.0))
joined_roles n (b ∷ bs) rs numbered low high up =
    let later = filter (off_board n) rs in
    let low_later : AllByRecursion (λ r. n + 1 ≤ r.board) later =
    all_both (λ r. off_board n r ≡ true) (λ r. n ≤ r.board) (λ r. n + 1 ≤ r.board) (λ r off le. let apart = off_is n r off in omega arith) later (all_passed (off_board n) rs) (all-filter _ (off_board n) rs low) in
    let high_later : AllByRecursion (λ r. r.board < n + 1 + length bs) later =
    all_weaker (λ r. r.board < n + length (b ∷ bs)) (λ r. r.board < n + 1 + length bs) (λ r h. omega arith) later (all-filter _ (off_board n) rs high) in
    ap₂ ◌++◌
    (ap (λ k. filter (on_board k) rs) numbered.0)
    (kept_apart n (n + 1) bs rs (omega arith) numbered.1 ∙ joined_roles (n + 1) bs later numbered.1 low_later high_later (ascending-filter RoleRises (off_board n) rs up))
    ∙ split_first n rs low up
