-- Which row of a table is found, where its key is that of one row or of none.
use Rattle.std.proofs.Common.{◌≡◌, Bool, List, [], ◌∷◌, filter, Option, Some, None, refl, sym, ap, subst, IsPermutation}
use Rattle.std.specs.Prelude.{Contains}
use Rattle.std.specs.List.{AllByRecursion}
use Rattle.std.proofs.lemmas.List.Elements.{All-contains, All-from_recursion}
use Rattle.std.proofs.lemmas.List.Sorted.{IsPermutation-sym}
use Rattle.sqlite_keyed.proofs.ListLemmas.{IsPermutation-filter}
use Rattle.sqlite_trees.proofs.ListLemmas.{all-permutation}
use Rattle.tb_sql_tables.specs.Found.{IsOneOf}

module _ {X : Type 0} where
  each_found : (P : X → Type 0) (xs : List X) (x : X) → AllByRecursion P xs → Contains xs x → P x
  each_found P xs x all there = All-contains P xs x (All-from_recursion P xs all) there

  no_row : (row : X) → row ∷ [] ≡ [] → ⊥
  no_row row is = absurd (cc)

  module _ (has : X → Bool) (stored rows : List X) (same : IsPermutation stored rows) where
    turned : IsPermutation (filter has rows) (filter has stored)
    turned = IsPermutation-sym _ _ (IsPermutation-filter has stored rows same)

    all_stored : (P : X → Type 0) → AllByRecursion P (filter has rows) → AllByRecursion P (filter has stored)
    all_stored P all = all-permutation P (filter has rows) (filter has stored) turned all

    -- none
    pub none_found : (found : Option X) → filter has rows ≡ [] → IsOneOf (filter has stored) found → found ≡ None
    none_found None none is = refl
    none_found (Some x) none is = absurd (each_found (λ (y : X). ⊥) (filter has stored) x (all_stored (λ (y : X). ⊥) (subst (AllByRecursion (λ (y : X). ⊥)) (sym none) tt)) is)

    -- that row
    pub one_found : (found : Option X) (row : X) → filter has rows ≡ row ∷ [] → IsOneOf (filter has stored) found → found ≡ Some row
    one_found None row one is =
        let back = all-permutation (λ (y : X). ⊥) (filter has stored) (filter has rows) (IsPermutation-sym _ _ turned) (subst (AllByRecursion (λ (y : X). ⊥)) (sym is) tt) in
        absurd ((subst (AllByRecursion (λ (y : X). ⊥)) one back).0)
    one_found (Some x) row one is =
        ap Some (each_found (λ (y : X). y ≡ row) (filter has stored) x (all_stored (λ (y : X). y ≡ row) (subst (AllByRecursion (λ (y : X). y ≡ row)) (sym one) (refl, tt))) is)
