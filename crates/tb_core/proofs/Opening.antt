-- The opening world is good.
use Rattle.std.proofs.Common.{Bool, [], ◌∷◌, refl, arith}
use Rattle.std.proofs.lemmas.Cmp.{nat_list_eq_equiv}
use Rattle.std.specs.Cmp.{IsEquivalence}
use Rattle.std.specs.List.{IsDistinct}
use Rattle.std.specs.List.Sorted.{IsStrictlySortedBy}
use Rattle.std.proofs.lemmas.Map.Keys.{IsDistinct-cons}
use Rattle.std.proofs.lemmas.Map.Made.{IsDistinct-from_count}
use Rattle.tb_board.proofs.Goodness.{good-empty}
use Rattle.std.specs.Prelude.{codes}
use Rattle.tb_core.specs.GoodLaws.{OpensGood}

pub none_distinct : {K : Type 0} {eq : K → K → Bool} → IsEquivalence eq → IsDistinct eq []
none_distinct laws = IsDistinct-from_count laws [] refl

one_distinct : {K : Type 0} (eq : K → K → Bool) → IsEquivalence eq → (x : K) → IsDistinct eq (x ∷ [])
one_distinct eq laws x = IsDistinct-cons eq x [] tt (none_distinct laws)

pub opens : OpensGood
unfolding IsStrictlySortedBy
opens name key =
    record {
      apart = one_distinct _ nat_list_eq_equiv name;
      people = omega arith;
      numbered = refl;
      boards = omega arith;
      good = (good-empty 1 (codes "board"), tt);
      owned = (refl, tt);
      roles = (record { from_board = omega arith; to_board = omega arith; from_person = omega arith; to_person = omega arith }, tt);
      ordered = (tt, tt);
    }
