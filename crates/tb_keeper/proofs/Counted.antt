-- How many people and boards there are after changes.
use Rattle.std.proofs.Common.{◌≡◌, ◌∙◌, ◌+◌, ◌≤◌, ◌<◌, ◌==◌, ℕ, suc, Bool, true, false, cond, inl, inr, List, [], ◌∷◌, ◌++◌, length, length-append, get_or, take, refl, sym, ap, subst, arith}
use Rattle.std.specs.List.{count_by}
use Rattle.std.proofs.lemmas.Bool.{cases_Bool}
use Rattle.std.proofs.lemmas.List.Sums.{sum_by-append, sum_by-cons}
use Rattle.std.proofs.lemmas.List.{take_all, take_more}
use Rattle.tb_board.specs.declared.board.Board.{Board}
use Rattle.tb_board.specs.declared.change.Change.{Change}
use Rattle.tb_board.specs.declared.change.Change.TheVariants.{PutTask, AddPerson, SetKey, AddBoard, SetTitle, SetRole, SetGone, TakeGone, SetAhead}
use Rattle.tb_board.specs.declared.world.World.{World}
use Rattle.tb_board.specs.Changing.{changed, changed_by, with_ahead, with_gone, with_key, with_task_at, with_title, without_gone}
use Rattle.tb_board.specs.First.{change_first}
use Rattle.tb_board.specs.World.{has_name}
use Rattle.tb_cache.specs.BoardCache.{AreOf}
use Rattle.tb_core.specs.GoodWorld.{IsGoodWorld}
use Rattle.tb_keeper.specs.Counts.{is_new_board, is_new_person, one_if}
use Rattle.tb_keeper.specs.declared.people_at_hand.People.{People}
use Rattle.tb_keeper.specs.Holds.{IsAtHand}
use Rattle.tb_keeper.specs.PeopleAtHand.{IsKnownIn, known_after}
use Rattle.tb_keeper.proofs.KnownPeople.{known_follows}

as_one : (b : Bool) → cond b 1 0 ≡ one_if b
as_one true = refl
as_one false = refl

count_cons : (p : Change → Bool) (c : Change) (cs : List Change) → count_by p (c ∷ cs) ≡ one_if (p c) + count_by p cs
count_cons p c cs = sum_by-cons (λ x. cond (p x) 1 0) c cs ∙ ap (λ n. n + count_by p cs) (as_one (p c))

count_more : (p : Change → Bool) (cs : List Change) (c : Change) → count_by p (cs ++ c ∷ []) ≡ count_by p cs + one_if (p c)
count_more p cs c =
    let more : count_by p (cs ++ c ∷ []) ≡ count_by p cs + (0 + cond (p c) 1 0) = sum_by-append (λ x. cond (p x) 1 0) cs (c ∷ []) in
    let one = as_one (p c) in
    omega (arith, more, one)

-- one change more is counted
pub counted_more : (p : Change → Bool) (start count next : ℕ) (cs : List Change) (i : ℕ) (c : Change) → i < length cs → c ≡ get_or cs i c
    → (count + one_if (p c) ≤ 10000 → next ≡ count + one_if (p c)) → (start + count_by p (take i cs) ≤ 10000 → count ≡ start + count_by p (take i cs))
    → start + count_by p (take (i + 1) cs) ≤ 10000 → next ≡ start + count_by p (take (i + 1) cs)
counted_more p start count next cs i c within here one was few =
    let all : count_by p (take (i + 1) cs) ≡ count_by p (take i cs) + one_if (p c) =
    ap (count_by p) (take_more cs i c within ∙ ap (λ x. take i cs ++ x ∷ []) (sym here)) ∙ count_more p (take i cs) c in
    let is : count ≡ start + count_by p (take i cs) = was (omega (arith, few, all)) in
    let now : next ≡ count + one_if (p c) = one (omega (arith, few, all, is)) in
    omega (arith, all, is, now)

pub counted_all : (p : Change → Bool) (start count : ℕ) (cs : List Change) (n : ℕ) → length cs ≤ n → (start + count_by p (take n cs) ≤ 10000 → count ≡ start + count_by p (take n cs))
    → start + count_by p cs ≤ 10000 → count ≡ start + count_by p cs
counted_all p start count cs n end is = subst (λ (l : List Change). start + count_by p l ≤ 10000 → count ≡ start + count_by p l) (take_all n cs end) is

length-change : {X : Type 0} (test : X → Bool) (f : X → X) (xs : List X) → length (change_first test f xs) ≡ length xs
length-change test f [] = refl
length-change test f (x ∷ xs) =
    elim (cases_Bool (test x)) [
      | inl here ↦ rw here refl
      | inr other ↦ rw other (ap suc (length-change test f xs))
    ]

people_by : (w : World) (c : Change) → length (changed_by w c).people ≡ length w.people + one_if (is_new_person c)
unfolding is_new_person
people_by w (PutTask n place t) = omega arith
people_by w (AddPerson name key) = length-append w.people _
people_by w (SetKey name key) = let same = length-change (has_name name) (with_key key) w.people in omega (arith, same)
people_by w (AddBoard n title) = omega arith
people_by w (SetTitle n title) = omega arith
people_by w (SetRole n person role) = omega arith
people_by w (SetGone n g) = omega arith
people_by w (TakeGone n id k) = omega arith
people_by w (SetAhead n ahead) = omega arith

boards_by : (w : World) (c : Change) → length (changed_by w c).boards ≡ length w.boards + one_if (is_new_board c)
unfolding is_new_board
boards_by w (PutTask n place t) = let same = length-change (λ (b : Board). b.number == n) (with_task_at place t) w.boards in omega (arith, same)
boards_by w (AddPerson name key) = omega arith
boards_by w (SetKey name key) = omega arith
boards_by w (AddBoard n title) = length-append w.boards _
boards_by w (SetTitle n title) = let same = length-change (λ (b : Board). b.number == n) (with_title title) w.boards in omega (arith, same)
boards_by w (SetRole n person role) = omega arith
boards_by w (SetGone n g) = let same = length-change (λ (b : Board). b.number == n) (with_gone g) w.boards in omega (arith, same)
boards_by w (TakeGone n id k) = let same = length-change (λ (b : Board). b.number == n) (without_gone id k) w.boards in omega (arith, same)
boards_by w (SetAhead n ahead) = let same = length-change (λ (b : Board). b.number == n) (with_ahead ahead) w.boards in omega (arith, same)

people_after : (w : World) (cs : List Change) → length (changed w cs).people ≡ length w.people + count_by is_new_person cs
people_after w [] = omega arith
people_after w (c ∷ cs) =
    let rest = people_after (changed_by w c) cs in
    let one = people_by w c in
    let all = count_cons is_new_person c cs in
    omega (arith, rest, one, all)

boards_after : (w : World) (cs : List Change) → length (changed w cs).boards ≡ length w.boards + count_by is_new_board cs
boards_after w [] = omega arith
boards_after w (c ∷ cs) =
    let rest = boards_after (changed_by w c) cs in
    let one = boards_by w c in
    let all = count_cons is_new_board c cs in
    omega (arith, rest, one, all)

-- what is at hand follows the changes
pub hand_follows : (people later_people : People) (boards later_boards : ℕ) (cached later : List (ℕ × Board)) (cs : List Change)
    → (people.count + count_by is_new_person cs ≤ 10000 → later_people.count ≡ people.count + count_by is_new_person cs) → later_people.known ≡ known_after people.known cs → (boards + count_by is_new_board cs ≤ 10000 → later_boards ≡ boards + count_by is_new_board cs)
    → ((w : World) → AreOf w cached → AreOf (changed w cs) later)
    → (w : World) → IsAtHand people boards cached w → IsGoodWorld (changed w cs) → IsAtHand later_people later_boards later (changed w cs)
hand_follows people later_people boards later_boards cached later cs are_people knows are_boards follows w hand good =
    let now_people : length (changed w cs).people ≡ people.count + count_by is_new_person cs = people_after w cs ∙ ap (λ n. n + count_by is_new_person cs) (sym hand.people_are) in
    let now_boards : length (changed w cs).boards ≡ boards + count_by is_new_board cs = boards_after w cs ∙ ap (λ n. n + count_by is_new_board cs) (sym hand.boards_are) in
    let few_people : people.count + count_by is_new_person cs ≤ 10000 = subst (λ (n : ℕ). n ≤ 10000) now_people good.people in
    let few_boards : boards + count_by is_new_board cs ≤ 10000 = subst (λ (n : ℕ). n ≤ 10000) now_boards good.boards in
    record { people_are = are_people few_people ∙ sym now_people; known_is = subst (IsKnownIn (changed w cs)) (sym knows) (known_follows w people.known cs hand.known_is); boards_are = are_boards few_boards ∙ sym now_boards; cached_are = follows w hand.cached_are }
