-- Lists that grow by what each item of another list gives.
use Rattle.std.proofs.Common.{◌≡◌, ℕ, zero, suc, ◌+◌, ◌<◌, ◌≤◌, ◌==◌, Bool, true, false, ◌||◌, List, [], ◌∷◌, ◌++◌, flat_map, map, get_or, set, length, replicate, take, refl, sym, ◌∙◌, ap, arith, inl, inr}
use Rattle.std.proofs.lemmas.Bool.{cases_eq, eq-eqb, ne_eqb}
use Rattle.std.proofs.lemmas.List.{append-nil, append_assoc, get_or-set_other, get_or-set_same, length-set, length-take, map-append, take_all, take_more}
use Rattle.std.proofs.lemmas.List.Folds.{list_any_more}
use Rattle.std.proofs.Math.Bool.{or-false}
use Rattle.tb_board.specs.Marks.{is_marked}
use Rattle.tb_rows.specs.Marks.{AreMarks, IsMarkedToo}
use Rattle.tb_rows.specs.Rows.{rows_from}
use Rattle.tb_rows.specs.Steps.{is_among}

flat_map-append : {A B : Type 0} (f : A → List B) (xs ys : List A) → flat_map f (xs ++ ys) ≡ flat_map f xs ++ flat_map f ys
flat_map-append f [] ys = refl
flat_map-append f (x ∷ xs) ys = ap (λ l. f x ++ l) (flat_map-append f xs ys) ∙ sym (append_assoc (f x) (flat_map f xs) (flat_map f ys))

-- one item more
pub flat_next : {A B : Type 0} (f : A → List B) (xs : List A) (k : ℕ) (x : A) (start now later : List B) → k < length xs → x ≡ get_or xs k x
    → now ≡ start ++ flat_map f (take k xs) → later ≡ now ++ f x → later ≡ start ++ flat_map f (take (k + 1) xs)
flat_next f xs k x start now later within at is next =
    let front : flat_map f (take (k + 1) xs) ≡ flat_map f (take k xs) ++ f x =
    ap (flat_map f) (take_more xs k x within ∙ ap (λ y. take k xs ++ y ∷ []) (sym at)) ∙ flat_map-append f (take k xs) (x ∷ []) ∙ ap (λ l. flat_map f (take k xs) ++ l) (append-nil (f x)) in
    next ∙ ap (λ l. l ++ f x) is ∙ append_assoc start (flat_map f (take k xs)) (f x) ∙ ap (λ l. start ++ l) (sym front)

pub flat_all : {A B : Type 0} (f : A → List B) (xs : List A) (k : ℕ) (start now : List B) → length xs ≤ k → now ≡ start ++ flat_map f (take k xs) → now ≡ start ++ flat_map f xs
flat_all f xs k start now past is = is ∙ ap (λ l. start ++ flat_map f l) (take_all k xs past)

rows_from-last : {A B : Type 0} (f : ℕ → A → List B) (n : ℕ) (xs : List A) (x : A) (m : ℕ) → m ≡ n + length xs → rows_from f n (xs ++ x ∷ []) ≡ rows_from f n xs ++ f m x
rows_from-last f n [] x m e = let same : n ≡ m = omega (arith, e) in append-nil (f n x) ∙ ap (λ k. f k x) same
rows_from-last f n (y ∷ ys) x m e =
    ap (λ l. f n y ++ l) (rows_from-last f (n + 1) ys x m (omega (arith, e))) ∙ sym (append_assoc (f n y) (rows_from f (n + 1) ys) (f m x))

pub rows_next : {A B : Type 0} (f : ℕ → A → List B) (xs : List A) (k : ℕ) (x : A) (start now later : List B) → k < length xs → x ≡ get_or xs k x
    → now ≡ start ++ rows_from f 0 (take k xs) → later ≡ now ++ f k x → later ≡ start ++ rows_from f 0 (take (k + 1) xs)
rows_next f xs k x start now later within at is next =
    let size : k ≡ 0 + length (take k xs) = omega (arith, length-take k xs, within) in
    let front : rows_from f 0 (take (k + 1) xs) ≡ rows_from f 0 (take k xs) ++ f k x =
    ap (rows_from f 0) (take_more xs k x within ∙ ap (λ y. take k xs ++ y ∷ []) (sym at)) ∙ rows_from-last f 0 (take k xs) x k size in
    next ∙ ap (λ l. l ++ f k x) is ∙ append_assoc start (rows_from f 0 (take k xs)) (f k x) ∙ ap (λ l. start ++ l) (sym front)

pub rows_all : {A B : Type 0} (f : ℕ → A → List B) (xs : List A) (k : ℕ) (start now : List B) → length xs ≤ k → now ≡ start ++ rows_from f 0 (take k xs) → now ≡ start ++ rows_from f 0 xs
rows_all f xs k start now past is = is ∙ ap (λ l. start ++ rows_from f 0 l) (take_all k xs past)

-- ---- marks

pub marks_begin : (count : ℕ) (marks : List Bool) → marks ≡ replicate count false → AreMarks [] (length marks) marks
marks_begin count marks is = record { size = refl; each = λ i within. ap (λ l. is_marked l i) is ∙ none count i }
  where
    none : (n i : ℕ) → get_or (replicate n false) i false ≡ false
    none zero i = refl
    none (suc n) zero = refl
    none (suc n) (suc i) = none n i

pub marks_next : (places : List ℕ) (k place : ℕ) (old new : List Bool) → k < length places → place ≡ get_or places k place → AreMarks (take k places) (length old) old → IsMarkedToo place old new
    → AreMarks (take (k + 1) places) (length new) new
marks_next places k place old new within at are more =
    record {
      size = refl;
      each = λ i inside.
          let before : i < length old = omega (arith, inside, more.size) in
          more.each i before ∙ ap (λ q. q || (place == i)) (are.each i before)
          ∙ sym (list_any_more (λ p. p == i) places k place within ∙ ap (λ p. is_among (take k places) i || (p == i)) (sym at));
    }

pub marked_there : (place : ℕ) (marks : List Bool) → place < length marks → IsMarkedToo place marks (set marks place true)
marked_there place marks within =
    record {
      size = length-set marks place true;
      each = λ i inside. elim (cases_eq place i) [
        | inl same ↦ rw (← same, eq-eqb place place refl) (get_or-set_same marks place true false within ∙ sym (or_true (is_marked marks place)))
        | inr other ↦ rw (ne_eqb place i other) (get_or-set_other marks place i true false (λ e. other (sym e)) ∙ sym (or-false (is_marked marks i)))
      ];
    }
  where
    or_true : (q : Bool) → (q || true) ≡ true
    or_true true = refl
    or_true false = refl

pub marked_beyond : (place : ℕ) (marks : List Bool) → length marks ≤ place → IsMarkedToo place marks marks
marked_beyond place marks past =
    record { size = refl; each = λ i inside. rw (ne_eqb place i (λ same. omega (arith, same, past, inside))) (sym (or-false (is_marked marks i))) }

-- ---- rows that are made one by one

pub map_twice_next : {A B C : Type 0} (g : B → C) (f : A → B) (xs : List A) (k : ℕ) (x : A) (start now later : List C) → k < length xs → x ≡ get_or xs k x
    → now ≡ start ++ map g (map f (take k xs)) → later ≡ now ++ g (f x) ∷ [] → later ≡ start ++ map g (map f (take (k + 1) xs))
map_twice_next g f xs k x start now later within at is next =
    let front : map g (map f (take (k + 1) xs)) ≡ map g (map f (take k xs)) ++ g (f x) ∷ [] =
    ap (λ l. map g (map f l)) (take_more xs k x within ∙ ap (λ y. take k xs ++ y ∷ []) (sym at)) ∙ ap (map g) (map-append f (take k xs) (x ∷ [])) ∙ map-append g (map f (take k xs)) (f x ∷ []) in
    next ∙ ap (λ l. l ++ g (f x) ∷ []) is ∙ append_assoc start (map g (map f (take k xs))) (g (f x) ∷ []) ∙ ap (λ l. start ++ l) (sym front)
