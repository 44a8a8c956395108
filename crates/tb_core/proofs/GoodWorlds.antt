-- A good board in the place of another one leaves a good world good.
use Rattle.std.proofs.Common.{◌≡◌, ℕ, suc, Bool, List, [], ◌∷◌, Some, length, find, refl, sym, ◌∙◌, ap, subst, inl, inr}
use Rattle.std.specs.List.{AllByRecursion, range_with_len}
use Rattle.std.proofs.lemmas.Bool.{cases_Bool, eqb-true}
use Rattle.tb_board.specs.declared.board.Board.{Board}
use Rattle.tb_board.specs.declared.world.RoleOn.{RoleOn}
use Rattle.tb_board.specs.declared.world.World.{World}
use Rattle.tb_board.specs.Changing.{change_board, with_title}
use Rattle.tb_board.specs.Good.{IsGood}
use Rattle.tb_core.specs.GoodWorld.{IsGoodWorld, HasOwner, IsRoleIn, numbers}
use Rattle.tb_board.specs.World.{has_number}
use Rattle.tb_board.proofs.Relinking.{acyclic-same}

-- what holds of all holds of the first that is found
pub all-found : (P : Board → Type 0) (test : Board → Bool) (bs : List Board) (x : Board) → AllByRecursion P bs → find test bs ≡ Some x → P x
all-found P test [] x all h = absurd (cc)
all-found P test (b ∷ bs) x all h =
    elim (cases_Bool (test b)) [
      | inl here ↦ let found : Some b ≡ Some x = rw here at h in let is : b ≡ x = cc in subst P is all.0
      | inr other ↦ let later : find test bs ≡ Some x = rw other at h in all-found P test bs x all.1 later
    ]

pub all-changed : (P : Board → Type 0) (n : ℕ) (b : Board) (bs : List Board) → AllByRecursion P bs → P b → AllByRecursion P (change_board n (λ _. b) bs)
all-changed P n b [] all p = tt
all-changed P n b (c ∷ cs) all p =
    elim (cases_Bool (has_number n c)) [
      | inl here ↦ rw here (p, all.1)
      | inr other ↦ rw other (all.0, all-changed P n b cs all.1 p)
    ]

numbers-changed : (n : ℕ) (b : Board) (bs : List Board) → b.number ≡ n → numbers (change_board n (λ _. b) bs) ≡ numbers bs
numbers-changed n b [] is = refl
numbers-changed n b (c ∷ cs) is =
    elim (cases_Bool (has_number n c)) [
      | inl here ↦ rw here (ap (λ i. i ∷ numbers cs) (is ∙ sym (eqb-true c.number n here)))
      | inr other ↦ rw other (ap (λ is. c.number ∷ is) (numbers-changed n b cs is))
    ]

length-changed : (n : ℕ) (b : Board) (bs : List Board) → length (change_board n (λ _. b) bs) ≡ length bs
length-changed n b [] = refl
length-changed n b (c ∷ cs) =
    elim (cases_Bool (has_number n c)) [
      | inl here ↦ rw here refl
      | inr other ↦ rw other (ap suc (length-changed n b cs))
    ]

-- the world with a board in the place of the one of its number
abbrev pub with_board : World → Board → World
with_board w b = record w { boards = change_board b.number (λ _. b) w.boards }

roles-kept : (w v : World) → v.people ≡ w.people → length v.boards ≡ length w.boards → (rs : List RoleOn) → AllByRecursion (IsRoleIn w) rs → AllByRecursion (IsRoleIn v) rs
roles-kept w v people boards [] all = tt
roles-kept w v people boards (r ∷ rs) all = (
  record {
    from_board = all.0.from_board;
    to_board = rw boards all.0.to_board;
    from_person = all.0.from_person;
    to_person = rw people all.0.to_person;
  },
  roles-kept w v people boards rs all.1,
)

pub good-with_board : (w : World) (x b : Board) → IsGoodWorld w → find (has_number x.number) w.boards ≡ Some x → b.number ≡ x.number → IsGood b → IsGoodWorld (with_board w b)
good-with_board w x b good found number is_good =
    let size = length-changed b.number b w.boards in
    let owner : HasOwner w b = rw number (all-found (HasOwner w) (has_number x.number) w.boards x good.owned found) in
    record {
      apart = good.apart;
      people = good.people;
      numbered = numbers-changed b.number b w.boards refl ∙ good.numbered ∙ ap (range_with_len 1) (sym size);
      boards = rw size good.boards;
      good = all-changed IsGood b.number b w.boards good.good is_good;
      owned = all-changed (HasOwner w) b.number b w.boards good.owned owner;
      roles = roles-kept w (with_board w b) refl size w.roles good.roles;
      ordered = good.ordered;
    }

-- a board is as good whatever its title
pub good-title : (b : Board) (title : List ℕ) → IsGood b → IsGood (with_title title b)
good-title b title good =
    record {
      distinct = good.distinct;
      few = good.few;
      sound = good.sound;
      linked = good.linked;
      acyclic = acyclic-same b (with_title title b) refl refl good.acyclic;
      runs = good.runs;
      parents = good.parents;
      gone = good.gone;
      gone_order = good.gone_order;
    }
