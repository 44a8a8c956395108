-- Marks noted one after the other.
use Rattle.std.proofs.Common.{◌≡◌, ℕ, zero, suc, ◌+◌, ◌<◌, Bool, List, [], ◌∷◌, ◌++◌, Option, Some, None, unwrap_or, find, length, map, refl, sym, ◌∙◌, ap, arith, inl, inr, length-append}
use Rattle.std.specs.List.{range_with_len}
use Rattle.std.specs.Option.{option_map}
use Rattle.std.proofs.lemmas.Bool.{cases_Bool}
use Rattle.tb_task.specs.declared.task.Task.{Task}
use Rattle.tb_board.specs.declared.board.Board.{Board}
use Rattle.tb_board.specs.declared.gone.Gone.{Gone}
use Rattle.tb_sweep.specs.Masks.{first_of, gone_mark, instance_mark, noted_at, shown_mark, AreBlank, AreNoted}
use Rattle.tb_board.specs.Templates.{is_gone_at, is_instance_at, mark_at, mark_here}

pub blank_begin : AreBlank [] 0
blank_begin = record { size = refl; blank = λ k. refl }

pub later_blank : (marks : List (Option ℕ)) (k : ℕ) → noted_at (marks ++ None ∷ []) k ≡ noted_at marks k
later_blank [] zero = refl
later_blank [] (suc k) = refl
later_blank (x ∷ xs) zero = refl
later_blank (x ∷ xs) (suc k) = later_blank xs k

pub blank_push : (marks : List (Option ℕ)) (n : ℕ) → AreBlank marks n → AreBlank (marks ++ None ∷ []) (n + 1)
blank_push marks n blank =
    record { size = omega (arith, length-append marks (None ∷ []), blank.size); blank = λ k. later_blank marks k ∙ blank.blank k }

find-append : {A : Type 0} (test : A → Bool) (xs : List A) (y : A) (f : A → ℕ)
    → option_map f (find test (xs ++ y ∷ [])) ≡ first_of (option_map f (find test xs)) (option_map f (find test (y ∷ [])))
find-append test [] y f = refl
find-append test (x ∷ xs) y f =
    elim (cases_Bool (test x)) [
      | inl here ↦ rw here refl
      | inr other ↦ rw other (find-append test xs y f)
    ]

first_assoc : (a b c : Option ℕ) → first_of (first_of a b) c ≡ first_of a (first_of b c)
first_assoc (Some x) b c = refl
first_assoc None b c = refl

first_none : (a : Option ℕ) → first_of a None ≡ a
first_none (Some x) = refl
first_none None = refl

pub noted_none : (found : ℕ → Option ℕ) (marks : List (Option ℕ)) → ((k : ℕ) → found k ≡ None) → AreNoted found marks marks
noted_none found marks none = record { size = refl; marks = λ k within. rw (none k) (sym (first_none (noted_at marks k))) }

noted_twice : (f g h : ℕ → Option ℕ) (old mid new : List (Option ℕ)) → AreNoted f old mid → AreNoted g mid new → ((k : ℕ) → h k ≡ first_of (f k) (g k)) → AreNoted h old new
noted_twice f g h old mid new first second both =
    record {
      size = second.size ∙ first.size;
      marks = λ k within. second.marks k (omega (arith, within, first.size)) ∙ ap (λ o. first_of o (g k)) (first.marks k within)
          ∙ first_assoc (noted_at old k) (f k) (g k) ∙ ap (first_of (noted_at old k)) (sym (both k));
    }

pub instances_next : (id : ℕ) (ts : List Task) (t : Task) (old mid new : List (Option ℕ)) → AreNoted (instance_mark id ts) old mid → AreNoted (instance_mark id (t ∷ [])) mid new
    → AreNoted (instance_mark id (ts ++ t ∷ [])) old new
instances_next id ts t old mid new first second =
    noted_twice _ _ _ old mid new first second (λ k. find-append (is_instance_at id k) ts t shown_mark)

pub gone_next : (id : ℕ) (gs : List Gone) (g : Gone) (old mid new : List (Option ℕ)) → AreNoted (gone_mark id gs) old mid → AreNoted (gone_mark id (g ∷ [])) mid new
    → AreNoted (gone_mark id (gs ++ g ∷ [])) old new
gone_next id gs g old mid new first second =
    noted_twice _ _ _ old mid new first second (λ k. find-append (is_gone_at id k) gs g (λ (h : Gone). h.mark))

here_is : (t : Option Task) (g : Option Gone) → unwrap_or (first_of (option_map shown_mark t) (option_map (λ (h : Gone). h.mark) g)) 63 ≡ mark_here t g
here_is (Some t) g = refl
here_is None (Some g) = refl
here_is None None = refl

-- marks that are known place by place
map_places : (f : ℕ → ℕ) (start : ℕ) (marks : List (Option ℕ)) → ((k : ℕ) → k < length marks → unwrap_or (noted_at marks k) 63 ≡ f (start + k))
    → map (λ o. unwrap_or o 63) marks ≡ map f (range_with_len start (length marks))
map_places f start [] known = refl
map_places f start (x ∷ xs) known =
    let first : start + 0 ≡ start = omega arith in
    let head : unwrap_or x 63 ≡ f start = known 0 (omega arith) ∙ ap f first in
    let tail = map_places f (start + 1) xs
    (λ k within. let next : start + suc k ≡ start + 1 + k = omega arith in known (suc k) (omega (arith, within)) ∙ ap f next) in
    rw (head, tail) refl

pub mask_is : (b : Board) (id : ℕ) (count : ℕ) (blank mid marks : List (Option ℕ)) → AreBlank blank count → AreNoted (instance_mark id b.tasks) blank mid → AreNoted (gone_mark id b.gone) mid marks
    → map (λ o. unwrap_or o 63) marks ≡ map (mark_at b id) (range_with_len 0 count)
mask_is b id count blank mid marks none instances gone =
    let size : length marks ≡ count = gone.size ∙ instances.size ∙ none.size in
    map_places (mark_at b id) 0 marks
    (λ k within.
    let there : k < length blank = omega (arith, within, gone.size, instances.size) in
    let start : 0 + k ≡ k = omega arith in
    ap (λ o. unwrap_or o 63) (gone.marks k (omega (arith, within, gone.size)) ∙ ap (λ o. first_of o (gone_mark id b.gone k)) (instances.marks k there ∙ ap (λ o. first_of o (instance_mark id b.tasks k)) (none.blank k)))
    ∙ here_is (find (is_instance_at id k) b.tasks) (find (is_gone_at id k) b.gone) ∙ ap (mark_at b id) (sym start))
    ∙ ap (λ n. map (mark_at b id) (range_with_len 0 n)) size
