-- Lists without repeats.
use Rattle.std.proofs.Common.{◌≡◌, ℕ, ◌==◌, nat_eq, Bool, false, List, [], ◌∷◌, Bor, Ordering, BTreeSet, btree_set_len, length, map, map-id, nat_cmp, subst, sym, ◌∙◌}
use Rattle.std.specs.BTreeSet.{IsFromIterResult}
use Rattle.std.specs.Bool.{Decides}
use Rattle.std.specs.Cmp.{IsTotalOrder}
use Rattle.std.specs.Cmp.Lexicographic.{slice_cmp}
use Rattle.std.specs.List.{AllByRecursion, IsDistinct}
use Rattle.std.specs.Ordering.{eq_by_cmp}
use Rattle.std.specs.Str.{bytes_eq}
use Rattle.std.proofs.lemmas.Bool.Decides.{Decides-eqb}
use Rattle.std.proofs.lemmas.Cmp.{eq_by_cmp_equiv}
use Rattle.std.proofs.lemmas.Map.Made.{distinct_count-from_IsDistinct, IsDistinct-from_count}
use Rattle.std.proofs.lemmas.Map.Text.{is_eq-slice_cmp}
use Rattle.std.proofs.lemmas.Map.Views.{btree_set_len-from_list}
use Rattle.tb_board.proofs.Linking.{same_number}

-- a set of all items has as many as the list where no two are equal
pub size_tells : {K : Type 0} {R : K → K → Ordering} → IsTotalOrder R → (xs : List K) (set : BTreeSet K) (m n : ℕ) → IsFromIterResult R xs set → m ≡ btree_set_len set → n ≡ length xs
    → Decides (m == n) (IsDistinct (eq_by_cmp R) xs)
size_tells order xs set m n made m_is n_is =
    let count = btree_set_len-from_list order xs set made in
    let laws = eq_by_cmp_equiv order in
    let same = Decides-eqb m n in (
      λ yes. IsDistinct-from_count laws xs (sym count ∙ sym m_is ∙ same.0 yes ∙ n_is),
      λ apart. same.1 (m_is ∙ count ∙ distinct_count-from_IsDistinct laws xs apart ∙ sym n_is),
    )

module _ {A K : Type 0} (e : A → A → Bool) (f : K → K → Bool) (g : A → K) (same : (x y : A) → e x y ≡ f (g x) (g y)) where
  none_seen : (x : A) (xs : List A) → AllByRecursion (λ y. e x y ≡ false) xs → AllByRecursion (λ y. f (g x) y ≡ false) (map g xs)
  none_seen x [] h = tt
  none_seen x (y ∷ ys) h = (sym (same x y) ∙ h.0, none_seen x ys h.1)

  none_behind : (x : A) (xs : List A) → AllByRecursion (λ y. f (g x) y ≡ false) (map g xs) → AllByRecursion (λ y. e x y ≡ false) xs
  none_behind x [] h = tt
  none_behind x (y ∷ ys) h = (same x y ∙ h.0, none_behind x ys h.1)

  distinct_seen : (xs : List A) → IsDistinct e xs → IsDistinct f (map g xs)
  unfolding IsDistinct
  distinct_seen [] h = tt
  distinct_seen (x ∷ xs) h = (none_seen x xs h.0, distinct_seen xs h.1)

  distinct_behind : (xs : List A) → IsDistinct f (map g xs) → IsDistinct e xs
  unfolding IsDistinct
  distinct_behind [] h = tt
  distinct_behind (x ∷ xs) h = (none_behind x xs h.0, distinct_behind xs h.1)

  -- items are distinct where what is seen of them is
  pub seen_tells : (xs : List A) (r : Bool) → Decides r (IsDistinct e xs) → Decides r (IsDistinct f (map g xs))
  seen_tells xs r tells = (λ yes. distinct_seen xs (tells.0 yes), λ apart. tells.1 (distinct_behind xs apart))

pub texts_tell : (texts : List (Bor (List ℕ))) (names : List (List ℕ)) (r : Bool) → map (λ (text : Bor (List ℕ)). text.now) texts ≡ names
    → Decides r (IsDistinct (eq_by_cmp (λ (x y : Bor (List ℕ)). slice_cmp nat_cmp x.now y.now)) texts) → Decides r (IsDistinct bytes_eq names)
texts_tell texts names r are tells =
    subst (λ all. Decides r (IsDistinct bytes_eq all)) are
    (seen_tells (eq_by_cmp (λ (x y : Bor (List ℕ)). slice_cmp nat_cmp x.now y.now)) bytes_eq (λ (text : Bor (List ℕ)). text.now) (λ x y. is_eq-slice_cmp x.now y.now) texts r tells)

pub numbers_tell : (xs : List ℕ) (r : Bool) → Decides r (IsDistinct (eq_by_cmp nat_cmp) xs) → Decides r (IsDistinct nat_eq xs)
numbers_tell xs r tells = subst (λ all. Decides r (IsDistinct nat_eq all)) (map-id xs) (seen_tells (eq_by_cmp nat_cmp) nat_eq (λ x. x) same_number xs r tells)
