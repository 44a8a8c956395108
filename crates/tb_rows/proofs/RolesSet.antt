-- The changes of rows of a role that is set.
use Rattle.std.proofs.Common.{◌≡◌, ℕ, ◌^◌, ◌==◌, nat_lt, Bool, true, false, true≢false, ◌&&◌, ◌||◌, cond, List, [], ◌∷◌, ◌++◌, Option, Some, None, Less, find, flat_map, refl, sym, ◌∙◌, ap, inl, inr}
use Rattle.std.specs.List.{AllByRecursion, list_any}
use Rattle.std.specs.List.Sorted.{IsStrictlySortedBy}
use Rattle.std.specs.Option.{option_map}
use Rattle.std.specs.Ordering.{is_eq}
use Rattle.std.specs.Set.{remove_key}
use Rattle.std.proofs.lemmas.Bool.{cases_Bool, eq-eqb, eqb-true, and_parts}
use Rattle.std.proofs.lemmas.List.{append-nil}
use Rattle.std.proofs.Math.Bool.{or-false}
use Rattle.tb_board.specs.declared.change.Change.{Change}
use Rattle.tb_board.specs.declared.change.Change.TheVariants.{PutTask, AddPerson as NewPerson, SetKey, AddBoard as NewBoard, SetTitle as NewTitle, SetRole, SetGone, TakeGone, SetAhead}
use Rattle.tb_board.specs.declared.world.Role.{Role}
use Rattle.tb_board.specs.declared.world.RoleOn.{RoleOn}
use Rattle.tb_board.specs.First.{change_first}
use Rattle.tb_board.specs.Roles.{comes_before, role_order, set_role, with_new_role}
use Rattle.tb_board.specs.World.{is_role_of}
use Rattle.tb_board.proofs.Pairs.{same_pair}
use Rattle.tb_board.proofs.Relinking.{or_false}
use Rattle.tb_sql.specs.declared.changes.RowChange.{RowChange}
use Rattle.tb_sql.specs.declared.changes.RowChange.TheVariants.{AddRole, RemoveRole}
use Rattle.tb_rows.specs.Part.{role_given, role_set}
use Rattle.tb_rows.specs.Rows.{role_kind}
use Rattle.tb_rows.proofs.WholeWorlds.{is_role_change, is_set, role_added, role_changes, role_removed, sets_role}

-- ---- the role of a person on a board

abbrev pub role_in : ℕ → ℕ → List RoleOn → Option Role
role_in n q rs = option_map (λ (r : RoleOn). r.role) (find (is_role_of n q) rs)

-- no other role is of the same person on the same board
other_role : (n q : ℕ) (r s : RoleOn) → is_role_of n q r ≡ true → role_order r s ≡ Less → is_role_of n q s ≡ false
other_role n q r s here less =
    elim (cases_Bool (is_role_of n q s)) [
      | inl there ↦
          let mine = and_parts (r.board == n) (r.person == q) here in
          let its = and_parts (s.board == n) (s.person == q) there in
          let boards : r.board ≡ s.board = eqb-true r.board n mine.0 ∙ sym (eqb-true s.board n its.0) in
          let people : r.person ≡ s.person = eqb-true r.person q mine.1 ∙ sym (eqb-true s.person q its.1) in
          let both : ((r.board == s.board) && (r.person == s.person)) ≡ true = rw (eq-eqb r.board s.board boards, eq-eqb r.person s.person people) refl in
          let apart : is_eq (role_order r s) ≡ false = ap is_eq less in
          absurd (true≢false (sym both ∙ sym (same_pair r.board s.board r.person s.person) ∙ apart))
      | inr other ↦ other
    ]

none_later : (n q : ℕ) (r : RoleOn) (rs : List RoleOn) → is_role_of n q r ≡ true → AllByRecursion (λ s. role_order r s ≡ Less) rs → find (is_role_of n q) rs ≡ None
none_later n q r [] here less = refl
none_later n q r (s ∷ rs) here less = rw (other_role n q r s here less.0) (none_later n q r rs here less.1)

removed_role : (n q : ℕ) (rs : List RoleOn) → IsStrictlySortedBy role_order rs → find (is_role_of n q) (remove_key (is_role_of n q) rs) ≡ None
unfolding IsStrictlySortedBy
removed_role n q [] sorted = refl
removed_role n q (r ∷ rs) sorted =
    elim (cases_Bool (is_role_of n q r)) [
      | inl here ↦ rw here (none_later n q r rs here sorted.0)
      | inr other ↦ rw (other, other) (removed_role n q rs sorted.1)
    ]

replaced_role : (n q : ℕ) (role : Role) (rs : List RoleOn) → list_any (is_role_of n q) rs ≡ true → role_in n q (change_first (is_role_of n q) (λ r. record r { role = role }) rs) ≡ Some role
replaced_role n q role [] there = absurd (true≢false (sym there))
replaced_role n q role (r ∷ rs) there =
    elim (cases_Bool (is_role_of n q r)) [
      | inl here ↦ rw (here, here) refl
      | inr other ↦ let later : list_any (is_role_of n q) rs ≡ true = rw other at there in rw (other, other) (replaced_role n q role rs later)
    ]

new_role : (n q : ℕ) (role : Role) (rs : List RoleOn) → list_any (is_role_of n q) rs ≡ false → role_in n q (with_new_role rs (record { board = n; person = q; role = role })) ≡ Some role
new_role n q role [] none = rw (eq-eqb n n refl, eq-eqb q q refl) refl
new_role n q role (s ∷ rs) none =
    let parts = or_false (is_role_of n q s) (list_any (is_role_of n q) rs) none in
    elim (cases_Bool (comes_before (record { board = n; person = q; role = role }) s)) [
      | inl first ↦ rw (first, eq-eqb n n refl, eq-eqb q q refl) refl
      | inr later ↦ rw (later, parts.0) (new_role n q role rs parts.1)
    ]

-- a role that is set is what the person has
pub role_in_set : (n q : ℕ) (role : Option Role) (rs : List RoleOn) → IsStrictlySortedBy role_order rs → role_in n q (set_role rs n q role) ≡ role
role_in_set n q None rs sorted = ap (option_map (λ (r : RoleOn). r.role)) (removed_role n q rs sorted)
role_in_set n q (Some role) rs sorted =
    elim (cases_Bool (list_any (is_role_of n q) rs)) [
      | inl there ↦ rw there (replaced_role n q role rs there)
      | inr none ↦ rw none (new_role n q role rs none)
    ]

-- ---- the changes of rows

-- of a person who has a number of 32 bits
abbrev given_if : Bool → ℕ → ℕ → Option Role → List RowChange
given_if small n q role = cond small (role_given n q role) []

given_none : (small : Bool) (n q : ℕ) → given_if small n q None ≡ []
given_none true n q = refl
given_none false n q = refl

-- what is added of a role that is that person's on that board
added_one : (cs : List Change) (n q : ℕ) (r : RoleOn) → is_set cs r ≡ true → r.board ≡ n → r.person ≡ q → role_added cs r ≡ given_if (nat_lt q (2 ^ 32)) n q (Some r.role)
added_one cs n q r set board person =
    rw set
    (ap (λ p. cond (nat_lt p (2 ^ 32)) (AddRole (record { board = r.board; person = p; kind = role_kind r.role }) ∷ []) []) person
    ∙ ap (λ b. cond (nat_lt q (2 ^ 32)) (AddRole (record { board = b; person = q; kind = role_kind r.role }) ∷ []) []) board)

added_none : (cs : List Change) (n q : ℕ) (rs : List RoleOn) → ((r : RoleOn) → is_set cs r ≡ is_role_of n q r) → find (is_role_of n q) rs ≡ None → flat_map (role_added cs) rs ≡ []
added_none cs n q [] sets none = refl
added_none cs n q (r ∷ rs) sets none =
    elim (cases_Bool (is_role_of n q r)) [
      | inl here ↦ let no : Some r ≡ None = rw here at none in absurd (cc)
      | inr other ↦
          let later : find (is_role_of n q) rs ≡ None = rw other at none in
          let out : is_set cs r ≡ false = sets r ∙ other in
          rw out (added_none cs n q rs sets later)
    ]

-- of all roles at most one is added
added_given : (cs : List Change) (n q : ℕ) (rs : List RoleOn) → ((r : RoleOn) → is_set cs r ≡ is_role_of n q r) → IsStrictlySortedBy role_order rs
    → flat_map (role_added cs) rs ≡ given_if (nat_lt q (2 ^ 32)) n q (role_in n q rs)
unfolding IsStrictlySortedBy
added_given cs n q [] sets sorted = sym (given_none (nat_lt q (2 ^ 32)) n q)
added_given cs n q (r ∷ rs) sets sorted =
    elim (cases_Bool (is_role_of n q r)) [
      | inl here ↦
          let parts = and_parts (r.board == n) (r.person == q) here in
          rw here
          (ap (λ l. role_added cs r ++ l) (added_none cs n q rs sets (none_later n q r rs here sorted.0)) ∙ append-nil (role_added cs r)
          ∙ added_one cs n q r (sets r ∙ here) (eqb-true r.board n parts.0) (eqb-true r.person q parts.1))
      | inr other ↦
          let out : is_set cs r ≡ false = sets r ∙ other in
          rw (other, out) (added_given cs n q rs sets sorted.1)
    ]

-- ---- changes of which the last one sets a role

abbrev pub SetNoRole : List Change → Type 0
SetNoRole cs = AllByRecursion (λ c. is_role_change c ≡ false) cs

sets_none : (board person : ℕ) (c : Change) → is_role_change c ≡ false → sets_role board person c ≡ false
sets_none board person (PutTask m place t) none = refl
sets_none board person (NewPerson name key) none = refl
sets_none board person (SetKey name key) none = refl
sets_none board person (NewBoard m title) none = refl
sets_none board person (NewTitle m title) none = refl
sets_none board person (SetRole m q role) none = absurd (true≢false none)
sets_none board person (SetGone m g) none = refl
sets_none board person (TakeGone m id k) none = refl
sets_none board person (SetAhead m ahead) none = refl

removes_none : (c : Change) → is_role_change c ≡ false → role_removed c ≡ []
removes_none (PutTask m place t) none = refl
removes_none (NewPerson name key) none = refl
removes_none (SetKey name key) none = refl
removes_none (NewBoard m title) none = refl
removes_none (NewTitle m title) none = refl
removes_none (SetRole m q role) none = absurd (true≢false none)
removes_none (SetGone m g) none = refl
removes_none (TakeGone m id k) none = refl
removes_none (SetAhead m ahead) none = refl

last_sets : (own : List Change) (n q : ℕ) (role : Option Role) (r : RoleOn) → SetNoRole own → is_set (own ++ SetRole n q role ∷ []) r ≡ is_role_of n q r
last_sets [] n q role r none = or-false (is_role_of n q r)
last_sets (c ∷ own) n q role r none = ap (λ b. b || is_set (own ++ SetRole n q role ∷ []) r) (sets_none r.board r.person c none.0) ∙ last_sets own n q role r none.1

last_removes : (own : List Change) (n q : ℕ) (role : Option Role) → SetNoRole own → flat_map role_removed (own ++ SetRole n q role ∷ []) ≡ role_removed (SetRole n q role)
last_removes [] n q role none = append-nil (role_removed (SetRole n q role))
last_removes (c ∷ own) n q role none = ap (λ l. l ++ flat_map role_removed (own ++ SetRole n q role ∷ [])) (removes_none c none.0) ∙ last_removes own n q role none.1

last_is : (own : List Change) (n q : ℕ) (role : Option Role) → SetNoRole own → list_any is_role_change (own ++ SetRole n q role ∷ []) ≡ true
last_is [] n q role none = refl
last_is (c ∷ own) n q role none = ap (λ b. b || list_any is_role_change (own ++ SetRole n q role ∷ [])) none.0 ∙ last_is own n q role none.1

goes_and_comes : (small : Bool) (n q : ℕ) (role : Option Role) → cond small (RemoveRole n q ∷ []) [] ++ given_if small n q role ≡ cond small (RemoveRole n q ∷ role_given n q role) []
goes_and_comes true n q role = refl
goes_and_comes false n q role = refl

pub last_role : (own : List Change) (n q : ℕ) (role : Option Role) (rs : List RoleOn) → SetNoRole own → IsStrictlySortedBy role_order rs → role_in n q rs ≡ role
    → role_changes (own ++ SetRole n q role ∷ []) rs ≡ role_set n q role
last_role own n q role rs none sorted has =
    let cs = own ++ SetRole n q role ∷ [] in
    ap (λ b. cond b (flat_map role_removed cs ++ flat_map (role_added cs) rs) []) (last_is own n q role none)
    ∙ ap (λ l. l ++ flat_map (role_added cs) rs) (last_removes own n q role none)
    ∙ ap (λ l. role_removed (SetRole n q role) ++ l) (added_given cs n q rs (λ r. last_sets own n q role r none) sorted ∙ ap (given_if (nat_lt q (2 ^ 32)) n q) has)
    ∙ goes_and_comes (nat_lt q (2 ^ 32)) n q role
