-- The rows of people and roles before and after changes.
use Rattle.std.proofs.Common.{◌≡◌, ℕ, suc, ◌+◌, ◌<◌, ◌≤◌, ◌^◌, ◌==◌, nat_lt, Bool, true, false, true≢false, not, ◌⊎◌, bytes_eq, ◌&&◌, ◌||◌, cond, if◌then◌else◌, List, [], ◌∷◌, ◌++◌, Option, Some, None, map, filter, flat_map, length, refl, sym, ◌∙◌, ap, subst, arith, inl, inr, IsPermutation}
use Rattle.std.specs.List.{AllByRecursion, IsDistinct, list_any}
use Rattle.std.specs.Set.{remove_key}
use Rattle.std.proofs.lemmas.Bool.{cases_Bool, eq-eqb, eqb-true, ne_eqb, lt-ltb, ltb-false, and_parts}
use Rattle.std.proofs.lemmas.List.{append_assoc, map-append}
use Rattle.std.proofs.lemmas.Slice.Eq.{bytes_eq-Decides}
use Rattle.std.proofs.lemmas.List.Sorted.{IsPermutation-refl, IsPermutation-sym, IsPermutation-trans, IsPermutation-cons, IsPermutation-append_comm, IsPermutation-filter_both, IsPermutation-map, IsPermutation-middle}
use Rattle.sqlite_trees.proofs.ListLemmas.{all-filter, all_weaker, filter-map, filter_all, filter_same}
use Rattle.tb_board.specs.declared.change.Change.{Change}
use Rattle.tb_board.specs.declared.change.Change.TheVariants.{PutTask, AddPerson as NewPerson, SetKey, AddBoard as NewBoard, SetTitle as NewTitle, SetRole, SetGone, TakeGone, SetAhead}
use Rattle.tb_board.specs.declared.world.Person.{Person}
use Rattle.tb_board.specs.declared.world.Role.{Role}
use Rattle.tb_board.specs.declared.world.RoleOn.{RoleOn}
use Rattle.tb_board.specs.declared.world.World.{World}
use Rattle.tb_board.specs.Changing.{changed, changed_by, set_key, with_key}
use Rattle.tb_board.specs.First.{change_first}
use Rattle.tb_board.specs.Roles.{comes_before, set_role, with_new_role}
use Rattle.tb_board.specs.World.{is_role_of}
use Rattle.tb_board.proofs.Relinking.{or_false}
use Rattle.tb_sql_tables.specs.declared.rows.PersonRow.{PersonRow}
use Rattle.tb_sql_tables.specs.declared.rows.RoleRow.{RoleRow}
use Rattle.tb_sql.specs.declared.changes.RowChange.{RowChange}
use Rattle.tb_sql.specs.declared.changes.RowChange.TheVariants.{AddPerson, SetSecret, AddRole, RemoveRole}
use Rattle.tb_sql.specs.Changes.{is_named, is_role}
use Rattle.tb_rows.specs.Rows.{person_row, role_row, rows_from, secret_of}
use Rattle.tb_rows.proofs.WholeWorlds.{is_set, is_role_change, people_changes, person_changes, role_added, role_changes, role_removed, sets_role}
use Rattle.tb_rows.proofs.Tables.{person_by, role_by, roles_unordered}
use Rattle.tb_rows.proofs.Turning.{all_by, all_by-append, all-moved, inert-append, inert-flat_map, inert-if, inert_next, inert_none, unchanged, IsInert}

-- ---- people

abbrev names : List Person → List (List ℕ)
names ps = map (λ (p : Person). p.name) ps

pub rows_from-append : {A B : Type 0} (f : ℕ → A → List B) (n : ℕ) (xs ys : List A) → rows_from f n (xs ++ ys) ≡ rows_from f n xs ++ rows_from f (n + length xs) ys
rows_from-append f n [] ys = let same : n ≡ n + 0 = omega arith in ap (λ m. rows_from f m ys) same
rows_from-append f n (x ∷ xs) ys =
    let next : n + 1 + length xs ≡ n + suc (length xs) = omega arith in
    ap (λ l. f n x ++ l) (rows_from-append f (n + 1) xs ys ∙ ap (λ m. rows_from f (n + 1) xs ++ rows_from f m ys) next)
    ∙ sym (append_assoc (f n x) (rows_from f (n + 1) xs) (rows_from f (n + suc (length xs)) ys))

abbrev people_rows : ℕ → List Person → List PersonRow
people_rows n ps = rows_from (λ m p. person_row m p ∷ []) n ps

-- a person who goes last has the next number
row_added : (ps : List Person) (p : Person) (rows : List PersonRow) → IsPermutation rows (people_rows 1 ps) → IsPermutation (person_row (length ps + 1) p ∷ rows) (people_rows 1 (ps ++ p ∷ []))
row_added ps p rows same =
    let number : 1 + length ps ≡ length ps + 1 = omega arith in
    let table : people_rows 1 (ps ++ p ∷ []) ≡ people_rows 1 ps ++ person_row (length ps + 1) p ∷ [] =
    rows_from-append (λ m (q : Person). person_row m q ∷ []) 1 ps (p ∷ []) ∙ ap (λ m. people_rows 1 ps ++ person_row m p ∷ []) number in
    rw table
    (IsPermutation-trans _ _ _ (IsPermutation-cons (person_row (length ps + 1) p) rows (people_rows 1 ps) same) (IsPermutation-append_comm (person_row (length ps + 1) p ∷ []) (people_rows 1 ps)))

-- the rows of people whose names are apart from this one
unnamed : (name first : List ℕ) (n : ℕ) (ps : List Person) → bytes_eq first name ≡ true → AllByRecursion (λ other. bytes_eq first other ≡ false) (names ps)
    → AllByRecursion (λ r. is_named name r ≡ false) (people_rows n ps)
unnamed name first n [] same apart = tt
unnamed name first n (p ∷ ps) same apart = (one (cases_Bool (bytes_eq p.name name)), unnamed name first (n + 1) ps same apart.1)
  where
    one : (bytes_eq p.name name ≡ true) ⊎ (bytes_eq p.name name ≡ false) → bytes_eq p.name name ≡ false
    one (inl here) = absurd (true≢false (sym ((bytes_eq-Decides first p.name).1 ((bytes_eq-Decides first name).0 same ∙ sym ((bytes_eq-Decides p.name name).0 here))) ∙ apart.0))
    one (inr other) = other

-- of people with distinct names the one of this name has another key
row_set : (name : List ℕ) (key : Option (List ℕ)) (n : ℕ) (ps : List Person) → IsDistinct bytes_eq (names ps)
    → map (λ (r : PersonRow). if is_named name r then (let changed : PersonRow = record r { secret = secret_of key } in changed) else r) (people_rows n ps) ≡ people_rows n (set_key name key ps)
unfolding IsDistinct
row_set name key n [] distinct = refl
row_set name key n (p ∷ ps) distinct =
    elim (cases_Bool (bytes_eq p.name name)) [
      | inl here ↦ rw here
          (ap (λ l. person_row n (with_key key p) ∷ l)
          (unchanged (is_named name) (λ (r : PersonRow). let changed : PersonRow = record r { secret = secret_of key } in changed) (people_rows (n + 1) ps) (unnamed name p.name (n + 1) ps here distinct.0)))
      | inr other ↦ rw other (ap (λ l. person_row n p ∷ l) (row_set name key (n + 1) ps distinct.1))
    ]

names_set : (name : List ℕ) (key : Option (List ℕ)) (ps : List Person) → names (set_key name key ps) ≡ names ps
names_set name key [] = refl
names_set name key (p ∷ ps) =
    elim (cases_Bool (bytes_eq p.name name)) [
      | inl here ↦ rw here refl
      | inr other ↦ rw other (ap (λ l. p.name ∷ l) (names_set name key ps))
    ]

all_front : {A : Type 0} (P : A → Type 0) (xs more : List A) → AllByRecursion P (xs ++ more) → AllByRecursion P xs
all_front P [] more all = tt
all_front P (x ∷ xs) more all = (all.0, all_front P xs more all.1)

distinct_front : (xs more : List (List ℕ)) → IsDistinct bytes_eq (xs ++ more) → IsDistinct bytes_eq xs
unfolding IsDistinct
distinct_front [] more distinct = tt
distinct_front (x ∷ xs) more distinct = (all_front (λ y. bytes_eq x y ≡ false) xs more distinct.0, distinct_front xs more distinct.1)

-- people who have distinct names had them before
distinct_before : (w : World) (c : Change) → IsDistinct bytes_eq (names (changed_by w c).people) → IsDistinct bytes_eq (names w.people)
distinct_before w (NewPerson name key) distinct =
    distinct_front (names w.people) (name ∷ []) (subst (IsDistinct bytes_eq) (map-append (λ (p : Person). p.name) w.people (record { name = name; key = Some key } ∷ [])) distinct)
distinct_before w (SetKey name key) distinct = subst (IsDistinct bytes_eq) (names_set name key w.people) distinct
distinct_before w _ distinct = distinct

distinct_first : (cs : List Change) (w : World) → IsDistinct bytes_eq (names (changed w cs).people) → IsDistinct bytes_eq (names w.people)
distinct_first [] w distinct = distinct
distinct_first (c ∷ cs) w distinct = distinct_before w c (distinct_first cs (changed_by w c) distinct)

person_turn : (w : World) (c : Change) (rows : List PersonRow) → IsDistinct bytes_eq (names (changed_by w c).people) → IsPermutation rows (people_rows 1 w.people)
    → IsPermutation (all_by person_by (person_changes (length w.people) c) rows) (people_rows 1 (changed_by w c).people)
person_turn w (NewPerson name key) rows distinct same = row_added w.people (record { name = name; key = Some key }) rows same
person_turn w (SetKey name key) rows distinct same =
    subst (IsPermutation (person_by (SetSecret name (secret_of key)) rows)) (row_set name key 1 w.people (distinct_before w (SetKey name key) distinct)) (IsPermutation-map _ rows (people_rows 1 w.people) same)
person_turn w _ rows distinct same = same

pub people_turn : (cs : List Change) (w : World) (rows : List PersonRow) → IsDistinct bytes_eq (names (changed w cs).people) → IsPermutation rows (people_rows 1 w.people)
    → IsPermutation (all_by person_by (people_changes w cs) rows) (people_rows 1 (changed w cs).people)
people_turn [] w rows distinct same = same
people_turn (c ∷ cs) w rows distinct same =
    rw (all_by-append person_by (person_changes (length w.people) c) (people_changes (changed_by w c) cs) rows)
    (people_turn cs (changed_by w c) (all_by person_by (person_changes (length w.people) c) rows) distinct (person_turn w c rows (distinct_first cs (changed_by w c) distinct) same))

-- changes of people leave the table
pub record LeavesPeople {R : Type 0} (by : RowChange → List R → List R) : Type 0 where
  pub added : (r : PersonRow) (rows : List R) → by (AddPerson r) rows ≡ rows
  pub set : (name secret : List ℕ) (rows : List R) → by (SetSecret name secret) rows ≡ rows

pub inert-people : {R : Type 0} (by : RowChange → List R → List R) → LeavesPeople by → (w : World) (cs : List Change) → IsInert by (people_changes w cs)
inert-people by leaves w [] = inert_none by
inert-people by leaves w (c ∷ cs) =
    inert-append by (person_changes (length w.people) c) (people_changes (changed_by w c) cs) (one c) (inert-people by leaves (changed_by w c) cs)
  where
    one : (c : Change) → IsInert by (person_changes (length w.people) c)
    one (NewPerson name key) = inert_next by _ [] (leaves.added (person_row (length w.people + 1) (record { name = name; key = Some key }))) (inert_none by)
    one (SetKey name key) = inert_next by _ [] (leaves.set name (secret_of key)) (inert_none by)
    one _ = inert_none by

-- ---- roles that the changes don't set

-- the changes don't set the role
abbrev pub is_left : List Change → RoleOn → Bool
is_left cs r = not (is_set cs r)

-- what is of the same person on the same board is set alike
set_alike : (cs : List Change) (board person : ℕ) (r : RoleOn) → is_role_of board person r ≡ true → is_set cs r ≡ list_any (sets_role board person) cs
set_alike cs board person r here =
    let parts = and_parts (r.board == board) (r.person == person) here in
    ap (λ b. list_any (sets_role b r.person) cs) (eqb-true r.board board parts.0) ∙ ap (λ p. list_any (sets_role board p) cs) (eqb-true r.person person parts.1)

removed_left : (cs : List Change) (board person : ℕ) (rs : List RoleOn) → list_any (sets_role board person) cs ≡ true
    → filter (is_left cs) (remove_key (is_role_of board person) rs) ≡ filter (is_left cs) rs
removed_left cs board person [] set = refl
removed_left cs board person (r ∷ rs) set =
    elim (cases_Bool (is_role_of board person r)) [
      | inl here ↦ let mine : is_set cs r ≡ true = set_alike cs board person r here ∙ set in rw (here, mine) refl
      | inr other ↦ rw other (ap (λ l. cond (is_left cs r) (r ∷ l) l) (removed_left cs board person rs set))
    ]

replaced_left : (cs : List Change) (board person : ℕ) (role : Role) (rs : List RoleOn) → list_any (sets_role board person) cs ≡ true
    → filter (is_left cs) (change_first (is_role_of board person) (λ r. record r { role = role }) rs) ≡ filter (is_left cs) rs
replaced_left cs board person role [] set = refl
replaced_left cs board person role (r ∷ rs) set =
    elim (cases_Bool (is_role_of board person r)) [
      | inl here ↦ let mine : is_set cs r ≡ true = set_alike cs board person r here ∙ set in rw (here, mine) refl
      | inr other ↦ rw other (ap (λ l. cond (is_left cs r) (r ∷ l) l) (replaced_left cs board person role rs set))
    ]

new_left : (cs : List Change) (rs : List RoleOn) (r : RoleOn) → is_set cs r ≡ true → filter (is_left cs) (with_new_role rs r) ≡ filter (is_left cs) rs
new_left cs [] r set = rw set refl
new_left cs (s ∷ rs) r set =
    elim (cases_Bool (comes_before r s)) [
      | inl here ↦ rw (here, set) refl
      | inr other ↦ rw other (ap (λ l. cond (is_left cs s) (s ∷ l) l) (new_left cs rs r set))
    ]

set_left : (cs : List Change) (board person : ℕ) (role : Option Role) (rs : List RoleOn) → list_any (sets_role board person) cs ≡ true → filter (is_left cs) (set_role rs board person role) ≡ filter (is_left cs) rs
set_left cs board person None rs set = removed_left cs board person rs set
set_left cs board person (Some role) rs set =
    elim (cases_Bool (list_any (is_role_of board person) rs)) [
      | inl there ↦ rw there (replaced_left cs board person role rs set)
      | inr none ↦ rw none (new_left cs rs (record { board = board; person = person; role = role }) set)
    ]

roles_left : (all cs : List Change) (w : World) → AllByRecursion (λ c. (board person : ℕ) → sets_role board person c ≡ true → list_any (sets_role board person) all ≡ true) cs
    → filter (is_left all) (changed w cs).roles ≡ filter (is_left all) w.roles
roles_left all [] w among = refl
roles_left all (c ∷ cs) w among = roles_left all cs (changed_by w c) among.1 ∙ one all w c among.0
  where
    one : (all : List Change) (w : World) (c : Change) → ((board person : ℕ) → sets_role board person c ≡ true → list_any (sets_role board person) all ≡ true)
        → filter (is_left all) (changed_by w c).roles ≡ filter (is_left all) w.roles
    one all w (PutTask m place t) among = refl
    one all w (NewPerson name key) among = refl
    one all w (SetKey name key) among = refl
    one all w (NewBoard m title) among = refl
    one all w (NewTitle m title) among = refl
    one all w (SetRole m q role) among = set_left all m q role w.roles (among m q (rw (eq-eqb m m refl, eq-eqb q q refl) refl))
    one all w (SetGone m g) among = refl
    one all w (TakeGone m id k) among = refl
    one all w (SetAhead m ahead) among = refl

all_among : (done cs : List Change) → AllByRecursion (λ c. (board person : ℕ) → sets_role board person c ≡ true → list_any (sets_role board person) (done ++ cs) ≡ true) cs
all_among done [] = tt
all_among done (c ∷ cs) = (
  λ board person here. at done c cs (sets_role board person) here,
  subst (λ l. AllByRecursion (λ c. (board person : ℕ) → sets_role board person c ≡ true → list_any (sets_role board person) l ≡ true) cs) (append_assoc done (c ∷ []) cs) (all_among (done ++ c ∷ []) cs),
)
  where
    at : (done : List Change) (c : Change) (cs : List Change) (test : Change → Bool) → test c ≡ true → list_any test (done ++ c ∷ cs) ≡ true
    at [] c cs test here = rw here refl
    at (d ∷ done) c cs test here = ap (λ q. test d || q) (at done c cs test here) ∙ or_true (test d)
      where
        or_true : (q : Bool) → (q || true) ≡ true
        or_true true = refl
        or_true false = refl

-- ---- rows of roles

abbrev pub is_left_row : List Change → RoleRow → Bool
is_left_row cs r = not (list_any (sets_role r.board r.person) cs)

filter_twice : {A : Type 0} (p q r : A → Bool) → ((x : A) → r x ≡ (q x && p x)) → (xs : List A) → filter p (filter q xs) ≡ filter r xs
filter_twice p q r both [] = refl
filter_twice p q r both (x ∷ xs) =
    elim (cases_Bool (q x)) [
      | inl passes ↦ rw (both x, passes) (ap (λ l. cond (p x) (x ∷ l) l) (filter_twice p q r both xs))
      | inr fails ↦ rw (both x, fails) (filter_twice p q r both xs)
    ]

-- what the removals of roles make of rows of people who have numbers of 32 bits
abbrev pub RemovesSet : List Change → Type 0
RemovesSet cs = (rows : List RoleRow) → AllByRecursion (λ (r : RoleRow). r.person < 2 ^ 32) rows → all_by role_by (flat_map role_removed cs) rows ≡ filter (is_left_row cs) rows

-- a change that removes none of the rows
removes_none : (c : Change) (cs : List Change) (rows : List RoleRow) → RemovesSet cs → AllByRecursion (λ (r : RoleRow). r.person < 2 ^ 32) rows
    → AllByRecursion (λ (r : RoleRow). sets_role r.board r.person c ≡ false) rows → all_by role_by (flat_map role_removed cs) rows ≡ filter (is_left_row (c ∷ cs)) rows
removes_none c cs rows later fit none =
    later rows fit ∙ filter_same _ _ rows (all_weaker _ _ (λ (r : RoleRow) h. sym (ap (λ q. not (q || list_any (sets_role r.board r.person) cs)) h)) rows none)

same_or : (p q : Bool) → not (p || q) ≡ (not p && not q)
same_or true q = refl
same_or false q = refl

and_false : (p : Bool) → (p && false) ≡ false
and_false true = refl
and_false false = refl

number_beyond : (m q : ℕ) (r : RoleRow) → 2 ^ 32 ≤ q → r.person < 2 ^ 32 → ((r.board == m) && (r.person == q)) ≡ false
number_beyond m q r past fits = rw (ne_eqb r.person q (λ same. omega (arith, same, past, fits))) (and_false (r.board == m))

removed_first : (c : Change) (cs : List Change) (rows : List RoleRow) → RemovesSet cs → AllByRecursion (λ (r : RoleRow). r.person < 2 ^ 32) rows
    → all_by role_by (flat_map role_removed cs) (all_by role_by (role_removed c) rows) ≡ filter (is_left_row (c ∷ cs)) rows
removed_first (PutTask m place t) cs rows later fit = removes_none (PutTask m place t) cs rows later fit (all_weaker _ _ (λ r h. refl) rows fit)
removed_first (NewPerson name key) cs rows later fit = removes_none (NewPerson name key) cs rows later fit (all_weaker _ _ (λ r h. refl) rows fit)
removed_first (SetKey name key) cs rows later fit = removes_none (SetKey name key) cs rows later fit (all_weaker _ _ (λ r h. refl) rows fit)
removed_first (NewBoard m title) cs rows later fit = removes_none (NewBoard m title) cs rows later fit (all_weaker _ _ (λ r h. refl) rows fit)
removed_first (NewTitle m title) cs rows later fit = removes_none (NewTitle m title) cs rows later fit (all_weaker _ _ (λ r h. refl) rows fit)
removed_first (SetGone m g) cs rows later fit = removes_none (SetGone m g) cs rows later fit (all_weaker _ _ (λ r h. refl) rows fit)
removed_first (TakeGone m id k) cs rows later fit = removes_none (TakeGone m id k) cs rows later fit (all_weaker _ _ (λ r h. refl) rows fit)
removed_first (SetAhead m ahead) cs rows later fit = removes_none (SetAhead m ahead) cs rows later fit (all_weaker _ _ (λ r h. refl) rows fit)
removed_first (SetRole m q role) cs rows later fit =
    elim (cases_Bool (nat_lt q (2 ^ 32))) [
      | inl fits ↦ rw fits
          (later (filter (λ r. not (is_role m q r)) rows) (all-filter _ (λ r. not (is_role m q r)) rows fit)
          ∙ filter_twice (is_left_row cs) (λ r. not (is_role m q r)) (is_left_row (SetRole m q role ∷ cs)) (λ r. same_or (is_role m q r) (list_any (sets_role r.board r.person) cs)) rows)
      | inr large ↦ rw large
          (removes_none (SetRole m q role) cs rows later fit (all_weaker _ _ (λ (r : RoleRow) fits. number_beyond m q r (ltb-false q (2 ^ 32) large) fits) rows fit))
    ]

removed_rows : (cs : List Change) → RemovesSet cs
removed_rows [] rows fit = sym (filter_all _ rows (all_weaker _ _ (λ r h. refl) rows fit))
removed_rows (c ∷ cs) rows fit = all_by-append role_by (role_removed c) (flat_map role_removed cs) rows ∙ removed_first c cs rows (removed_rows cs) fit

added_rows : (cs : List Change) (rs : List RoleOn) (rows : List RoleRow) → AllByRecursion (λ (r : RoleOn). r.person < 2 ^ 32) rs
    → IsPermutation (all_by role_by (flat_map (role_added cs) rs) rows) (map role_row (filter (is_set cs) rs) ++ rows)
added_rows cs [] rows fit = IsPermutation-refl rows
added_rows cs (r ∷ rs) rows fit =
    elim (cases_Bool (is_set cs r)) [
      | inl set ↦ rw (set, lt-ltb r.person (2 ^ 32) fit.0)
          (IsPermutation-trans _ _ _ (added_rows cs rs (role_row r ∷ rows) fit.1) (IsPermutation-middle (map role_row (filter (is_set cs) rs)) (role_row r) rows))
      | inr left ↦ rw left (added_rows cs rs rows fit.1)
    ]

fit_rows : (rs : List RoleOn) → AllByRecursion (λ (r : RoleOn). r.person < 2 ^ 32) rs → AllByRecursion (λ (r : RoleRow). r.person < 2 ^ 32) (map role_row rs)
fit_rows [] fit = tt
fit_rows (r ∷ rs) fit = (fit.0, fit_rows rs fit.1)

-- no change of roles leaves all roles
no_role_change : (cs : List Change) (w : World) → list_any is_role_change cs ≡ false → (changed w cs).roles ≡ w.roles
no_role_change [] w none = refl
no_role_change (c ∷ cs) w none =
    let parts = or_false (is_role_change c) (list_any is_role_change cs) none in
    no_role_change cs (changed_by w c) parts.1 ∙ one w c parts.0
  where
    one : (w : World) (c : Change) → is_role_change c ≡ false → (changed_by w c).roles ≡ w.roles
    one w (PutTask m place t) none = refl
    one w (NewPerson name key) none = refl
    one w (SetKey name key) none = refl
    one w (NewBoard m title) none = refl
    one w (NewTitle m title) none = refl
    one w (SetRole m q role) none = let no : true ≡ false = none in absurd (cc)
    one w (SetGone m g) none = refl
    one w (TakeGone m id k) none = refl
    one w (SetAhead m ahead) none = refl

pub roles_turn : (w v : World) (cs : List Change) (rows : List RoleRow) → v.roles ≡ (changed w cs).roles
    → AllByRecursion (λ (r : RoleOn). r.person < 2 ^ 32) w.roles → AllByRecursion (λ (r : RoleOn). r.person < 2 ^ 32) v.roles
    → IsPermutation rows (map role_row w.roles) → IsPermutation (all_by role_by (role_changes cs v.roles) rows) (map role_row v.roles)
roles_turn w v cs rows made before after same =
    elim (cases_Bool (list_any is_role_change cs)) [
      | inl some ↦ rw some
          (let left : filter (is_left cs) v.roles ≡ filter (is_left cs) w.roles = ap (filter (is_left cs)) made ∙ roles_left cs cs w (all_among [] cs) in
          let begin = all-moved role_by roles_unordered (flat_map role_removed cs ++ flat_map (role_added cs) v.roles) rows (map role_row w.roles) same in
          let removed : all_by role_by (flat_map role_removed cs) (map role_row w.roles) ≡ map role_row (filter (is_left cs) v.roles) =
          removed_rows cs (map role_row w.roles) (fit_rows w.roles before) ∙ filter-map (is_left_row cs) role_row w.roles ∙ ap (map role_row) (sym left) in
          IsPermutation-trans _ _ _ begin
          (rw (all_by-append role_by (flat_map role_removed cs) (flat_map (role_added cs) v.roles) (map role_row w.roles), removed)
          (IsPermutation-trans _ _ _ (added_rows cs v.roles (map role_row (filter (is_left cs) v.roles)) after)
          (subst (λ l. IsPermutation l (map role_row v.roles)) (map-append role_row (filter (is_set cs) v.roles) (filter (is_left cs) v.roles))
          (IsPermutation-map role_row _ _ (IsPermutation-sym _ _ (IsPermutation-filter_both (is_set cs) (is_left cs) (λ r. refl) v.roles)))))))
      | inr none ↦ rw (none, made ∙ no_role_change cs w none) same
    ]

pub inert-roles : {R : Type 0} (by : RowChange → List R → List R) → ((n p : ℕ) (rows : List R) → by (RemoveRole n p) rows ≡ rows) → ((r : RoleRow) (rows : List R) → by (AddRole r) rows ≡ rows)
    → (cs : List Change) (rs : List RoleOn) → IsInert by (role_changes cs rs)
inert-roles by removes adds cs rs =
    inert-if by (list_any is_role_change cs) _ [] (inert-append by (flat_map role_removed cs) (flat_map (role_added cs) rs) (inert-flat_map by role_removed removed cs) (inert-flat_map by (role_added cs) added rs)) (inert_none by)
  where
    removed : (c : Change) → IsInert by (role_removed c)
    removed (PutTask m place t) = inert_none by
    removed (NewPerson name key) = inert_none by
    removed (SetKey name key) = inert_none by
    removed (NewBoard m title) = inert_none by
    removed (NewTitle m title) = inert_none by
    removed (SetRole m q role) = inert-if by (nat_lt q (2 ^ 32)) (RemoveRole m q ∷ []) [] (inert_next by _ [] (removes m q) (inert_none by)) (inert_none by)
    removed (SetGone m g) = inert_none by
    removed (TakeGone m id k) = inert_none by
    removed (SetAhead m ahead) = inert_none by

    added : (r : RoleOn) → IsInert by (role_added cs r)
    added r = inert-if by (is_set cs r) _ [] (inert-if by (nat_lt r.person (2 ^ 32)) (AddRole (role_row r) ∷ []) [] (inert_next by _ [] (adds (role_row r)) (inert_none by)) (inert_none by)) (inert_none by)
