-- Changes that turn some rows of a table into others and leave the rest, in any order.
use Rattle.std.proofs.Common.{◌≡◌, ℕ, ◌+◌, ◌==◌, Bool, true, false, ◌&&◌, if◌then◌else◌, List, [], ◌∷◌, ◌++◌, map, flat_map, refl, sym, ◌∙◌, ap, subst, inl, inr, IsPermutation, append_assoc}
use Rattle.std.specs.List.{AllByRecursion}
use Rattle.std.proofs.lemmas.Bool.{cases_eq, eq-eqb, ne_eqb}
use Rattle.std.proofs.lemmas.List.{append-nil}
use Rattle.std.proofs.lemmas.List.Sorted.{IsPermutation-trans, IsPermutation-append_left, IsPermutation-append_comm}
use Rattle.sqlite_trees.proofs.ListLemmas.{all-append, all_weaker, IsPermutation-same}
use Rattle.tb_sql.specs.declared.changes.RowChange.{RowChange}
use Rattle.tb_rows.specs.Rows.{rows_from}

-- the changes one after the other
abbrev pub all_by : {R : Type 0} → (RowChange → List R → List R) → List RowChange → List R → List R
all_by by [] rows = rows
all_by by (x ∷ xs) rows = all_by by xs (by x rows)

-- the changes leave the table as it is
pub record IsInert {R : Type 0} (by : RowChange → List R → List R) (xs : List RowChange) : Type 0 where
  pub same : (rows : List R) → all_by by xs rows ≡ rows

-- beside any rows that are apart, the changes turn the first rows into the second ones
pub record Turns {R : Type 0} (by : RowChange → List R → List R) (IsApart : R → Type 0) (xs : List RowChange) (old new : List R) : Type 0 where
  pub turned : (rest : List R) → AllByRecursion IsApart rest → IsPermutation (all_by by xs (old ++ rest)) (new ++ rest)

pub all_by-append : {R : Type 0} (by : RowChange → List R → List R) (xs ys : List RowChange) (rows : List R) → all_by by (xs ++ ys) rows ≡ all_by by ys (all_by by xs rows)
all_by-append by [] ys rows = refl
all_by-append by (x ∷ xs) ys rows = all_by-append by xs ys (by x rows)

-- ---- changes that leave a table

pub inert_none : {R : Type 0} (by : RowChange → List R → List R) → IsInert by []
inert_none by = record { same = λ rows. refl }

pub inert_next : {R : Type 0} (by : RowChange → List R → List R) (x : RowChange) (xs : List RowChange) → ((rows : List R) → by x rows ≡ rows) → IsInert by xs → IsInert by (x ∷ xs)
inert_next by x xs here later = record { same = λ rows. ap (all_by by xs) (here rows) ∙ later.same rows }

pub inert-append : {R : Type 0} (by : RowChange → List R → List R) (xs ys : List RowChange) → IsInert by xs → IsInert by ys → IsInert by (xs ++ ys)
inert-append by xs ys first second = record { same = λ rows. all_by-append by xs ys rows ∙ ap (all_by by ys) (first.same rows) ∙ second.same rows }

pub inert-map : {R A : Type 0} (by : RowChange → List R → List R) (f : A → RowChange) → ((a : A) (rows : List R) → by (f a) rows ≡ rows) → (ws : List A) → IsInert by (map f ws)
inert-map by f each [] = inert_none by
inert-map by f each (a ∷ ws) = inert_next by (f a) (map f ws) (each a) (inert-map by f each ws)

pub inert-rows_from : {R A : Type 0} (by : RowChange → List R → List R) (f : ℕ → A → List RowChange) → ((n : ℕ) (a : A) → IsInert by (f n a)) → (n : ℕ) (ws : List A) → IsInert by (rows_from f n ws)
inert-rows_from by f each n [] = inert_none by
inert-rows_from by f each n (a ∷ ws) = inert-append by (f n a) (rows_from f (n + 1) ws) (each n a) (inert-rows_from by f each (n + 1) ws)

pub inert-flat_map : {R A : Type 0} (by : RowChange → List R → List R) (f : A → List RowChange) → ((a : A) → IsInert by (f a)) → (ws : List A) → IsInert by (flat_map f ws)
inert-flat_map by f each [] = inert_none by
inert-flat_map by f each (a ∷ ws) = inert-append by (f a) (flat_map f ws) (each a) (inert-flat_map by f each ws)

pub inert-if : {R : Type 0} (by : RowChange → List R → List R) (b : Bool) (xs ys : List RowChange) → IsInert by xs → IsInert by ys → IsInert by (if b then xs else ys)
inert-if by true xs ys first second = first
inert-if by false xs ys first second = second

-- ---- changes that turn rows

-- what the changes of a table do doesn't depend on the order of rows
pub record IsUnordered {R : Type 0} (by : RowChange → List R → List R) : Type 0 where
  pub moved : (x : RowChange) (rows other : List R) → IsPermutation rows other → IsPermutation (by x rows) (by x other)

pub all-moved : {R : Type 0} (by : RowChange → List R → List R) → IsUnordered by → (xs : List RowChange) (rows other : List R) → IsPermutation rows other → IsPermutation (all_by by xs rows) (all_by by xs other)
all-moved by un [] rows other same = same
all-moved by un (x ∷ xs) rows other same = all-moved by un xs (by x rows) (by x other) (un.moved x rows other same)

pub turns_none : {R : Type 0} (by : RowChange → List R → List R) (IsApart : R → Type 0) (xs : List RowChange) (rows : List R) → IsInert by xs → Turns by IsApart xs rows rows
turns_none by IsApart xs rows inert = record { turned = λ rest apart. IsPermutation-same _ _ (inert.same (rows ++ rest)) }

-- two turns of the same rows
pub turns_twice : {R : Type 0} (by : RowChange → List R → List R) → IsUnordered by → (IsApart : R → Type 0) (xs ys : List RowChange) (old mid new : List R)
    → Turns by IsApart xs old mid → Turns by IsApart ys mid new → Turns by IsApart (xs ++ ys) old new
turns_twice by un IsApart xs ys old mid new first second =
    record {
      turned = λ rest apart. rw (all_by-append by xs ys (old ++ rest))
          (IsPermutation-trans _ _ _ (all-moved by un ys _ _ (first.turned rest apart)) (second.turned rest apart));
    }

pub turns_then_inert : {R : Type 0} (by : RowChange → List R → List R) (IsApart : R → Type 0) (xs ys : List RowChange) (old new : List R)
    → Turns by IsApart xs old new → IsInert by ys → Turns by IsApart (xs ++ ys) old new
turns_then_inert by IsApart xs ys old new first inert =
    record { turned = λ rest apart. rw (all_by-append by xs ys (old ++ rest), inert.same (all_by by xs (old ++ rest))) (first.turned rest apart) }

pub inert_then_turns : {R : Type 0} (by : RowChange → List R → List R) (IsApart : R → Type 0) (xs ys : List RowChange) (old new : List R)
    → IsInert by xs → Turns by IsApart ys old new → Turns by IsApart (xs ++ ys) old new
inert_then_turns by IsApart xs ys old new inert second =
    record { turned = λ rest apart. rw (all_by-append by xs ys (old ++ rest), inert.same (old ++ rest)) (second.turned rest apart) }

-- turns of rows that are apart from one another
pub turns_beside : {R : Type 0} (by : RowChange → List R → List R) → IsUnordered by → (IsApart First Second : R → Type 0) (xs ys : List RowChange) (old new later_old later_new : List R)
    → ((r : R) → IsApart r → First r) → ((r : R) → IsApart r → Second r)
    → AllByRecursion First later_old → AllByRecursion Second new
    → Turns by First xs old new → Turns by Second ys later_old later_new
    → Turns by IsApart (xs ++ ys) (old ++ later_old) (new ++ later_new)
turns_beside by un IsApart First Second xs ys old new later_old later_new narrow_first narrow_second first_apart second_apart first second =
    record {
      turned = λ rest apart.
          let begin = first.turned (later_old ++ rest) (all-append First later_old rest first_apart (all_weaker IsApart First narrow_first rest apart)) in
          let mid = second.turned (new ++ rest) (all-append Second new rest second_apart (all_weaker IsApart Second narrow_second rest apart)) in
          rw (append_assoc old later_old rest, all_by-append by xs ys (old ++ (later_old ++ rest)))
          (IsPermutation-trans _ _ _ (all-moved by un ys _ _ (IsPermutation-trans _ _ _ begin (exchanged new later_old rest)))
          (IsPermutation-trans _ _ _ mid (moved_back later_new new rest)));
    }
  where
    exchanged : {R : Type 0} (ws bs cs : List R) → IsPermutation (ws ++ (bs ++ cs)) (bs ++ (ws ++ cs))
    exchanged ws bs cs =
        subst (λ l. IsPermutation (ws ++ (bs ++ cs)) l) (append_assoc bs ws cs)
        (subst (λ l. IsPermutation l ((bs ++ ws) ++ cs)) (append_assoc ws bs cs) (IsPermutation-append_left cs (ws ++ bs) (bs ++ ws) (IsPermutation-append_comm ws bs)))

    moved_back : {R : Type 0} (ws bs cs : List R) → IsPermutation (ws ++ (bs ++ cs)) ((bs ++ ws) ++ cs)
    moved_back ws bs cs = subst (λ l. IsPermutation (ws ++ (bs ++ cs)) l) (sym (append_assoc bs ws cs)) (exchanged ws bs cs)

-- fewer rows are apart
pub turns_narrow : {R : Type 0} (by : RowChange → List R → List R) (IsApart Other : R → Type 0) (xs : List RowChange) (old new : List R)
    → ((r : R) → Other r → IsApart r) → Turns by IsApart xs old new → Turns by Other xs old new
turns_narrow by IsApart Other xs old new narrow turn = record { turned = λ rest apart. turn.turned rest (all_weaker Other IsApart narrow rest apart) }

-- with no other rows
pub turns_all : {R : Type 0} (by : RowChange → List R → List R) → IsUnordered by → (IsApart : R → Type 0) (xs : List RowChange) (old new rows : List R)
    → Turns by IsApart xs old new → IsPermutation rows old → IsPermutation (all_by by xs rows) new
turns_all by un IsApart xs old new rows turn same =
    IsPermutation-trans _ _ _ (all-moved by un xs rows old same)
    (subst (λ l. IsPermutation (all_by by xs l) new) (append-nil old) (subst (λ l. IsPermutation (all_by by xs (old ++ [])) l) (append-nil new) (turn.turned [] tt)))

-- ---- rows that a test doesn't meet

pub not_met : (a n b p : ℕ) → (a ≡ n → b ≡ p → ⊥) → ((a == n) && (b == p)) ≡ false
not_met a n b p apart =
    elim (cases_eq a n) [
      | inl same ↦ rw (eq-eqb a n same, ne_eqb b p (apart same)) refl
      | inr other ↦ rw (ne_eqb a n other) refl
    ]

pub met : (a n b p : ℕ) → a ≡ n → b ≡ p → ((a == n) && (b == p)) ≡ true
met a n b p here there = rw (eq-eqb a n here, eq-eqb b p there) refl

pub unchanged : {R : Type 0} (test : R → Bool) (f : R → R) (rows : List R) → AllByRecursion (λ r. test r ≡ false) rows → map (λ r. if test r then f r else r) rows ≡ rows
unchanged test f [] none = refl
unchanged test f (r ∷ rows) none = rw (none.0, unchanged test f rows none.1) refl

-- of the rows the first one is changed
pub first_changed : {R : Type 0} (test : R → Bool) (f : R → R) (r new : R) (rest : List R) → test r ≡ true → f r ≡ new → AllByRecursion (λ x. test x ≡ false) rest
    → map (λ x. if test x then f x else x) (r ∷ rest) ≡ new ∷ rest
first_changed test f r new rest here is none = rw (here, is, unchanged test f rest none) refl
