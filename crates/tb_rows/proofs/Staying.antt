-- What of a board's tasks stays under its changes.
use Rattle.std.proofs.Common.{◌≡◌, ℕ, zero, suc, ◌+◌, ◌<◌, ◌≤◌, ◌==◌, nat_eq, nat_lt, Bool, true, false, not, ◌||◌, cond, List, [], ◌∷◌, ◌++◌, Option, Some, None, map, flat_map, get_or, length, refl, sym, ◌∙◌, ap, subst, arith, inl, inr}
use Rattle.std.specs.List.{AllByRecursion, IsDistinct, list_any, position_from}
use Rattle.std.proofs.lemmas.Bool.{cases_Bool, eq-eqb}
use Rattle.std.proofs.lemmas.Iterator.Adapters.{position_from-zero}
use Rattle.std.proofs.lemmas.List.{get_or-set_other, get_or_append_left, length-set, length_push}
use Rattle.std.proofs.lemmas.List.Folds.{list_any-append}
use Rattle.sqlite_trees.proofs.ListLemmas.{all-get_or}
use Rattle.tb_task.specs.declared.task.Task.{Task}
use Rattle.tb_board.specs.declared.board.Board.{Board}
use Rattle.tb_board.specs.declared.change.Change.{Change}
use Rattle.tb_board.specs.declared.change.Change.TheVariants.{PutTask, AddPerson as NewPerson, SetKey, AddBoard as NewBoard, SetTitle as NewTitle, SetRole, SetGone, TakeGone, SetAhead}
use Rattle.tb_board.specs.Board.{lacks_depends}
use Rattle.tb_board.specs.Tasks.{has_id, ids, place_in}
use Rattle.tb_board.specs.Changing.{put, with_ahead, with_gone, with_title, without_gone}
use Rattle.tb_board.specs.Instances.{has_template, is_template_with}
use Rattle.tb_board.proofs.Fresh.{on_ids}
use Rattle.tb_board.proofs.Relinking.{or_false}
use Rattle.tb_board.specs.Extends.{ExtendsTask, IsFrontOf}
use Rattle.tb_rows.specs.Rows.{link_row, instance_rows_of, place_of, from_one}
use Rattle.tb_rows.specs.Steps.{is_among, put_place}
use Rattle.tb_rows.proofs.Evolving.{change_on, replay}
use Rattle.tb_rows.proofs.Places.{Matches}

-- ---- items at places

pub front_at : {A : Type 0} (R : A → A → Type 0) (ws bs : List A) (j : ℕ) (a b : A) → IsFrontOf R ws bs → j < length ws → a ≡ get_or ws j a → b ≡ get_or bs j b → R a b
front_at R [] bs j a b h within at_a at_b = absurd (omega arith)
front_at R (x ∷ xs) [] j a b h within at_a at_b = absurd h
front_at R (x ∷ xs) (y ∷ ys) zero a b h within at_a at_b = subst (λ q. R q b) (sym at_a) (subst (λ q. R x q) (sym at_b) h.0)
front_at R (x ∷ xs) (y ∷ ys) (suc j) a b h within at_a at_b = front_at R xs ys j a b h.1 (omega arith) at_a at_b

pub front_length : {A : Type 0} (R : A → A → Type 0) (ws bs : List A) → IsFrontOf R ws bs → length ws ≤ length bs
front_length R [] bs h = omega arith
front_length R (x ∷ xs) [] h = absurd h
front_length R (x ∷ xs) (y ∷ ys) h = omega (arith, front_length R xs ys h.1)

-- a fact for each place
pub matches_from : {A B : Type 0} (P : ℕ → A → B → Type 0) (Q : ℕ → B → Type 0) (i : ℕ) (ws : List A) (bs : List B) → length ws ≤ length bs
    → ((j p : ℕ) (a : A) (b : B) → p ≡ i + j → j < length ws → a ≡ get_or ws j a → b ≡ get_or bs j b → P p a b)
    → ((j p : ℕ) (b : B) → p ≡ i + j → length ws ≤ j → j < length bs → b ≡ get_or bs j b → Q p b)
    → Matches P Q i ws bs
matches_from P Q i [] [] le both further = tt
matches_from P Q i [] (b ∷ bs) le both further = (
  further 0 i b (omega arith) (omega arith) (omega arith) refl,
  matches_from P Q (i + 1) [] bs (omega arith) (λ j p a c e within at_a at_c. absurd (omega (arith, within))) (λ j p c e past within at. further (suc j) p c (omega (arith, e)) (omega arith) (omega (arith, within)) at),
)
matches_from P Q i (a ∷ ws) [] le both further = absurd (omega (arith, le))
matches_from P Q i (a ∷ ws) (b ∷ bs) le both further = (
  both 0 i a b (omega arith) (omega arith) refl refl,
  matches_from P Q (i + 1) ws bs (omega (arith, le)) (λ j p c d e within at_c at_d. both (suc j) p c d (omega (arith, e)) (omega (arith, within)) at_c at_d)
      (λ j p d e past within at. further (suc j) p d (omega (arith, e)) (omega (arith, past)) (omega (arith, within)) at),
)

pub all_at : {A : Type 0} (P : A → Type 0) (xs : List A) (j : ℕ) (x : A) → AllByRecursion P xs → j < length xs → x ≡ get_or xs j x → P x
all_at P xs j x all within at = subst P (sym at) (all-get_or P xs j x all within)

-- ---- tasks that no change puts

put_stays : (ts : List Task) (place : ℕ) (t : Task) (i : ℕ) (d : Task) → i < length ts → ((place == i) || false) ≡ false → get_or (put ts place t) i d ≡ get_or ts i d
put_stays ts place t i d within out =
    elim (cases_Bool (nat_lt place (length ts))) [
      | inl there ↦ rw there (get_or-set_other ts place i t d (λ same. absurd (out_is place i out (sym same))))
      | inr past ↦ rw past (get_or_append_left ts (t ∷ []) d i within)
    ]
  where
    out_is : (place i : ℕ) → ((place == i) || false) ≡ false → place ≡ i → ⊥
    out_is place i out same = let here = eq-eqb place i same in let no : true ≡ false = rw here at out in cc

put_longer : (ts : List Task) (place : ℕ) (t : Task) → length ts ≤ length (put ts place t)
put_longer ts place t =
    elim (cases_Bool (nat_lt place (length ts))) [
      | inl there ↦ rw there (omega (arith, length-set ts place t))
      | inr past ↦ rw past (omega (arith, length_push ts t))
    ]

longer : (n : ℕ) (c : Change) (a : Board) → length a.tasks ≤ length (change_on n c a).tasks
longer n (PutTask m place t) a =
    elim (cases_Bool (n == m)) [
      | inl here ↦ rw here (put_longer a.tasks place t)
      | inr other ↦ rw other (omega arith)
    ]
longer n (NewPerson name key) a = omega arith
longer n (SetKey name key) a = omega arith
longer n (NewBoard m title) a = omega arith
longer n (NewTitle m title) a = elim (n == m) as (λ q. length a.tasks ≤ length (cond q (with_title title a) a).tasks) [ true ↦ omega arith | false ↦ omega arith ]
longer n (SetRole m person role) a = omega arith
longer n (SetGone m g) a = elim (n == m) as (λ q. length a.tasks ≤ length (cond q (with_gone g a) a).tasks) [ true ↦ omega arith | false ↦ omega arith ]
longer n (TakeGone m id k) a = elim (n == m) as (λ q. length a.tasks ≤ length (cond q (without_gone id k a) a).tasks) [ true ↦ omega arith | false ↦ omega arith ]
longer n (SetAhead m ahead) a = elim (n == m) as (λ q. length a.tasks ≤ length (cond q (with_ahead ahead a) a).tasks) [ true ↦ omega arith | false ↦ omega arith ]

one_stays : (n : ℕ) (c : Change) (a : Board) (i : ℕ) (d : Task) → i < length a.tasks → is_among (put_place n c) i ≡ false → get_or (change_on n c a).tasks i d ≡ get_or a.tasks i d
one_stays n (PutTask m place t) a i d within out =
    elim (cases_Bool (n == m)) [
      | inl here ↦ let alone : ((place == i) || false) ≡ false = rw here at out in rw here (put_stays a.tasks place t i d within alone)
      | inr other ↦ rw other refl
    ]
one_stays n (NewPerson name key) a i d within out = refl
one_stays n (SetKey name key) a i d within out = refl
one_stays n (NewBoard m title) a i d within out = refl
one_stays n (NewTitle m title) a i d within out = elim (n == m) as (λ q. get_or (cond q (with_title title a) a).tasks i d ≡ get_or a.tasks i d) [ true ↦ refl | false ↦ refl ]
one_stays n (SetRole m person role) a i d within out = refl
one_stays n (SetGone m g) a i d within out = elim (n == m) as (λ q. get_or (cond q (with_gone g a) a).tasks i d ≡ get_or a.tasks i d) [ true ↦ refl | false ↦ refl ]
one_stays n (TakeGone m id k) a i d within out = elim (n == m) as (λ q. get_or (cond q (without_gone id k a) a).tasks i d ≡ get_or a.tasks i d) [ true ↦ refl | false ↦ refl ]
one_stays n (SetAhead m ahead) a i d within out = elim (n == m) as (λ q. get_or (cond q (with_ahead ahead a) a).tasks i d ≡ get_or a.tasks i d) [ true ↦ refl | false ↦ refl ]

pub among-append : (xs ys : List ℕ) (i : ℕ) → is_among (xs ++ ys) i ≡ false → (is_among xs i ≡ false) × (is_among ys i ≡ false)
among-append xs ys i out = or_false (is_among xs i) (is_among ys i) (sym (list_any-append (λ p. p == i) xs ys) ∙ out)

pub tasks_stay : (n : ℕ) (cs : List Change) (a : Board) (i : ℕ) (d : Task) → i < length a.tasks → is_among (flat_map (put_place n) cs) i ≡ false
    → get_or (replay n cs a).tasks i d ≡ get_or a.tasks i d
tasks_stay n [] a i d within out = refl
tasks_stay n (c ∷ cs) a i d within out =
    let parts = among-append (put_place n c) (flat_map (put_place n) cs) i out in
    tasks_stay n cs (change_on n c a) i d (omega (arith, within, longer n c a)) parts.1 ∙ one_stays n c a i d within parts.0

-- ---- places of identifiers

position_front : (id n : ℕ) (xs more : List ℕ) → list_any (λ x. x == id) xs ≡ true → position_from (λ x. x == id) n (xs ++ more) ≡ position_from (λ x. x == id) n xs
position_front id n [] more on = absurd (let no : false ≡ true = on in cc)
position_front id n (x ∷ xs) more on =
    elim (cases_Bool (x == id)) [
      | inl here ↦ rw here refl
      | inr other ↦ let rest : list_any (λ x. x == id) xs ≡ true = rw other at on in rw other (position_front id (n + 1) xs more rest)
    ]

place_front : (id : ℕ) (xs more : List ℕ) → list_any (λ x. x == id) xs ≡ true → place_in (xs ++ more) id ≡ place_in xs id
place_front id xs more on =
    position_from-zero (λ x. x == id) (xs ++ more) ∙ position_front id 0 xs more on ∙ sym (position_from-zero (λ x. x == id) xs)

pub ids_front : (ws bs : List Task) → IsFrontOf ExtendsTask ws bs → (more : List ℕ) × (ids bs ≡ ids ws ++ more)
ids_front [] bs h = (ids bs, refl)
ids_front (a ∷ ws) [] h = absurd h
ids_front (a ∷ ws) (b ∷ bs) h = let rest = ids_front ws bs h.1 in (rest.0, rw (h.0.id, rest.1) refl)

-- an identifier on the board keeps its place
pub place_stays : (ws bs : List Task) (id : ℕ) → IsFrontOf ExtendsTask ws bs → list_any (has_id id) ws ≡ true → place_in (ids bs) id ≡ place_in (ids ws) id
place_stays ws bs id front on =
    let more = ids_front ws bs front in
    ap (λ l. place_in l id) more.1 ∙ place_front id (ids ws) more.0 (sym (on_ids id ws) ∙ on)

pub place_of-stays : (ws bs : List Task) (id : ℕ) → IsFrontOf ExtendsTask ws bs → list_any (has_id id) ws ≡ true → place_of bs id ≡ place_of ws id
place_of-stays ws bs id front on = ap from_one (place_stays ws bs id front on)

not_not : (q : Bool) → not q ≡ false → q ≡ true
not_not true h = refl
not_not false h = let no : true ≡ false = h in absurd (cc)

pub links_stay : (a b : Board) (p : ℕ) (is : List ℕ) → b.number ≡ a.number → IsFrontOf ExtendsTask a.tasks b.tasks → lacks_depends a is ≡ false → map (link_row b p) is ≡ map (link_row a p) is
links_stay a b p [] number front known = refl
links_stay a b p (i ∷ is) number front known =
    let parts = or_false (not (list_any (has_id i) a.tasks)) (lacks_depends a is) known in
    rw (number, place_of-stays a.tasks b.tasks i front (not_not (list_any (has_id i) a.tasks) parts.0), links_stay a b p is number front parts.1) refl

pub template_on : (id : ℕ) (ts : List Task) → list_any (is_template_with id) ts ≡ true → list_any (has_id id) ts ≡ true
template_on id [] on = on
template_on id (t ∷ ts) on =
    elim (cases_Bool (t.id == id)) [
      | inl here ↦ rw here refl
      | inr other ↦ let rest : list_any (is_template_with id) ts ≡ true = rw other at on in rw other (template_on id ts rest)
    ]

pub instance_stays : (a b : Board) (p : ℕ) (parent imask : Option ℕ) → b.number ≡ a.number → IsFrontOf ExtendsTask a.tasks b.tasks → has_template a parent ≡ true
    → instance_rows_of b p parent imask ≡ instance_rows_of a p parent imask
instance_stays a b p None imask number front on = refl
instance_stays a b p (Some id) None number front on = refl
instance_stays a b p (Some id) (Some k) number front on = rw (number, place_of-stays a.tasks b.tasks id front (template_on id a.tasks on)) refl

-- the place of an identifier that stands once
first_place : (n j id : ℕ) (xs : List ℕ) → IsDistinct nat_eq xs → j < length xs → get_or xs j 0 ≡ id → position_from (λ x. x == id) n xs ≡ Some (n + j)
unfolding IsDistinct
first_place n j id [] distinct within at = absurd (omega arith)
first_place n zero id (x ∷ xs) distinct within at = let last : n ≡ n + 0 = omega arith in rw (eq-eqb x id at) (ap Some last)
first_place n (suc j) id (x ∷ xs) distinct within at =
    let other : nat_eq x (get_or xs j 0) ≡ false = all-get_or (λ y. nat_eq x y ≡ false) xs j 0 distinct.0 (omega arith) in
    let apart : (x == id) ≡ false = ap (nat_eq x) (sym at) ∙ other in
    let sum : n + 1 + j ≡ n + suc j = omega arith in
    rw apart (first_place (n + 1) j id xs distinct.1 (omega arith) at ∙ ap Some sum)

ids-at : (ts : List Task) (j : ℕ) (t : Task) → j < length ts → t ≡ get_or ts j t → get_or (ids ts) j 0 ≡ t.id
ids-at [] j t within at = absurd (omega arith)
ids-at (u ∷ us) zero t within at = ap (λ (v : Task). v.id) (sym at)
ids-at (u ∷ us) (suc j) t within at = ids-at us j t (omega arith) at

pub ids-length : (ts : List Task) → length (ids ts) ≡ length ts
ids-length [] = refl
ids-length (t ∷ ts) = ap suc (ids-length ts)

pub place_at : (ts : List Task) (j : ℕ) (t : Task) → IsDistinct nat_eq (ids ts) → j < length ts → t ≡ get_or ts j t → place_in (ids ts) t.id ≡ Some j
place_at ts j t distinct within at =
    let zero_sum : 0 + j ≡ j = omega arith in
    position_from-zero (λ x. x == t.id) (ids ts) ∙ first_place 0 j t.id (ids ts) distinct (omega (arith, within, ids-length ts)) (ids-at ts j t within at) ∙ ap Some zero_sum
