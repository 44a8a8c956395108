-- The tasks of a list that are new to a board, found one after the other.
use Rattle.std.proofs.Common.{◌≡◌, ℕ, ◌+◌, ◌<◌, ◌==◌, Bool, true, false, not, List, [], ◌∷◌, ◌++◌, length, map, take, drop, get_or, Bor, refl, sym, ◌∙◌, ap, subst, inl, inr, append_assoc, true≢false}
use Rattle.std.specs.BTreeSet.{BTreeSet}
use Rattle.std.specs.List.{list_any}
use Rattle.std.proofs.Math.Bool.{or-false}
use Rattle.std.proofs.lemmas.Bool.{cases_Bool, eqb-true}
use Rattle.std.proofs.lemmas.List.{drop_more, map-append, take_more}
use Rattle.std.proofs.lemmas.List.Folds.{list_any-append}
use Rattle.tb_task.specs.declared.task.Task.{Task}
use Rattle.tb_board.specs.declared.board.Board.{Board}
use Rattle.tb_board.specs.Board.{with_task}
use Rattle.tb_board.specs.Tasks.{has_id}
use Rattle.tb_core.specs.ImportTodo.{new_beside, HasIdsOf}

abbrev pub nows : List (Bor Task) → List Task
nows us = map (λ u. u.now) us

nows_more : (us : List (Bor Task)) (i : ℕ) (u : Bor Task) → i < length us → u ≡ get_or us i u → nows (take (i + 1) us) ≡ nows (take i us) ++ u.now ∷ []
nows_more us i u within is =
    ap nows (take_more us i u within) ∙ map-append (λ v. v.now) (take i us) (get_or us i u ∷ []) ∙ ap (λ (v : Bor Task). nows (take i us) ++ v.now ∷ []) (sym is)

-- one task more goes last
pub pushed : (first b c : Board) (us : List (Bor Task)) (i : ℕ) (u : Bor Task) → i < length us → u ≡ get_or us i u
    → b ≡ record first { tasks = first.tasks ++ nows (take i us) } → c ≡ with_task b u.now → c ≡ record first { tasks = first.tasks ++ nows (take (i + 1) us) }
pushed first b c us i u within is so_far next =
    next ∙ ap (λ (d : Board). with_task d u.now) so_far
    ∙ ap (λ ts. record first { tasks = ts }) (append_assoc first.tasks (nows (take i us)) (u.now ∷ []) ∙ ap (λ ts. first.tasks ++ ts) (sym (nows_more us i u within is)))

-- the set and the new tasks before the i-th task of a list
pub record IsFoundTo (before ts new : List Task) (s : BTreeSet ℕ) (i : ℕ) : Type 0 where
  pub known : HasIdsOf (before ++ new) s
  pub rest : new_beside before ts ≡ new ++ new_beside (before ++ new) (drop i ts)

next_known : (before ts : List Task) (i : ℕ) (t : Task) → i < length ts → t ≡ get_or ts i t → list_any (has_id t.id) before ≡ true
    → new_beside before (drop i ts) ≡ new_beside before (drop (i + 1) ts)
next_known before ts i t within is known =
    ap (new_beside before) (drop_more ts i t within) ∙ ap (λ (u : Task). new_beside before (u ∷ drop (i + 1) ts)) (sym is) ∙ (rw known refl)

next_new : (before ts : List Task) (i : ℕ) (t : Task) → i < length ts → t ≡ get_or ts i t → list_any (has_id t.id) before ≡ false
    → new_beside before (drop i ts) ≡ t ∷ new_beside (before ++ t ∷ []) (drop (i + 1) ts)
next_new before ts i t within is fresh =
    ap (new_beside before) (drop_more ts i t within) ∙ ap (λ (u : Task). new_beside before (u ∷ drop (i + 1) ts)) (sym is) ∙ (rw fresh refl)

-- a task with an identifier that is there adds none
ids_known : (ts : List Task) (t : Task) (s : BTreeSet ℕ) → list_any (has_id t.id) ts ≡ true → HasIdsOf (ts ++ t ∷ []) s → HasIdsOf ts s
ids_known ts t s known has id =
    has id ∙ list_any-append (has_id id) ts (t ∷ []) ∙ elim (cases_Bool (t.id == id)) [
      | inl here ↦
          let same : list_any (has_id id) ts ≡ true = subst (λ i. list_any (has_id i) ts ≡ true) (eqb-true t.id id here) known in
          rw (here, same) refl
      | inr other ↦ rw other (or-false (list_any (has_id id) ts))
    ]

not_true : (p : Bool) → true ≡ not p → p ≡ false
not_true true h = absurd (true≢false h)
not_true false h = refl

not_false : (p : Bool) → false ≡ not p → p ≡ true
not_false true h = refl
not_false false h = absurd (true≢false (sym h))

pub found_known : (before ts new : List Task) (s later : BTreeSet ℕ) (i : ℕ) (t : Task) → i < length ts → t ≡ get_or ts i t → IsFoundTo before ts new s i
    → false ≡ not (list_any (has_id t.id) (before ++ new)) → HasIdsOf ((before ++ new) ++ t ∷ []) later → IsFoundTo before ts new later (i + 1)
found_known before ts new s later i t within is so_far known has =
    let there = not_false (list_any (has_id t.id) (before ++ new)) known in
    record {
      known = ids_known (before ++ new) t later there has;
      rest = so_far.rest ∙ ap (λ us. new ++ us) (next_known (before ++ new) ts i t within is there);
    }

pub found_new : (before ts new : List Task) (s later : BTreeSet ℕ) (i : ℕ) (t : Task) → i < length ts → t ≡ get_or ts i t → IsFoundTo before ts new s i
    → true ≡ not (list_any (has_id t.id) (before ++ new)) → HasIdsOf ((before ++ new) ++ t ∷ []) later → IsFoundTo before ts (new ++ t ∷ []) later (i + 1)
found_new before ts new s later i t within is so_far fresh has =
    let none = not_true (list_any (has_id t.id) (before ++ new)) fresh in
    let more : (before ++ new) ++ t ∷ [] ≡ before ++ (new ++ t ∷ []) = append_assoc before new (t ∷ []) in
    record {
      known = subst (λ us. HasIdsOf us later) more has;
      rest = so_far.rest ∙ ap (λ us. new ++ us) (next_new (before ++ new) ts i t within is none)
          ∙ sym (append_assoc new (t ∷ []) (new_beside ((before ++ new) ++ t ∷ []) (drop (i + 1) ts)))
          ∙ ap (λ us. (new ++ t ∷ []) ++ new_beside us (drop (i + 1) ts)) more;
    }
