-- New people, new boards and roles leave a good world good.
use Rattle.std.proofs.Common.{◌≡◌, ℕ, zero, suc, ◌+◌, ◌≤◌, ◌<◌, ◌==◌, ◌&&◌, Bool, true, false, List, [], ◌∷◌, ◌++◌, Option, Some, None, length, map, find, position, refl, sym, ◌∙◌, ap, arith, subst, true≢false, inl, inr, length-append, MatchOption}
use Rattle.std.specs.List.{AllByRecursion, IsDistinct, count_by, list_any, range_with_len}
use Rattle.std.specs.Option.{option_map}
use Rattle.std.specs.Str.{bytes_eq}
use Rattle.std.proofs.lemmas.Bool.{cases_Bool, eqb-true}
use Rattle.std.proofs.lemmas.Cmp.{nat_list_eq_equiv}
use Rattle.std.proofs.lemmas.List.{map-append}
use Rattle.std.proofs.lemmas.Map.Keys.{IsDistinct-push}
use Rattle.tb_board.specs.declared.board.Board.{Board}
use Rattle.tb_board.specs.declared.world.Person.{Person}
use Rattle.tb_board.specs.declared.world.Role.{Role}
use Rattle.tb_board.specs.declared.world.Role.TheVariants.{Owner}
use Rattle.tb_board.specs.declared.world.RoleOn.{RoleOn}
use Rattle.tb_board.specs.declared.world.World.{World}
use Rattle.tb_board.specs.Changing.{set_key}
use Rattle.tb_board.specs.First.{IsFirst, IsNone}
use Rattle.tb_core.specs.GoodWorld.{HasOwner, IsGoodWorld, IsRoleIn, names}
use Rattle.tb_board.specs.Good.{IsGood}
use Rattle.tb_core.specs.Keys.{with_key_of}
use Rattle.tb_core.specs.People.{with_new_board, with_person}
use Rattle.tb_core.specs.Owners.{leaves_none}
use Rattle.tb_board.specs.Roles.{set_role}
use Rattle.tb_board.specs.World.{has_name, is_role_of, number_of, owns, role_of, owners}
use Rattle.tb_core.proofs.GoodRoles.{all-set, new_owner, owner_leaves, owner_stays, sorted-set}
use Rattle.tb_board.proofs.Goodness.{all_push, good-empty}
use Rattle.tb_board.proofs.Places.{place}

roles-within : (w v : World) → length w.people ≤ length v.people → length w.boards ≤ length v.boards → (rs : List RoleOn) → AllByRecursion (IsRoleIn w) rs → AllByRecursion (IsRoleIn v) rs
roles-within w v people boards [] all = tt
roles-within w v people boards (r ∷ rs) all = (
  record {
    from_board = all.0.from_board;
    to_board = omega (arith, all.0.to_board, boards);
    from_person = all.0.from_person;
    to_person = omega (arith, all.0.to_person, people);
  },
  roles-within w v people boards rs all.1,
)

-- a person of a good world is one of those from 1
number_at : (test : Person → Bool) (people : List Person) (o : Option ℕ) (n : ℕ) → MatchOption o (IsNone test people) (IsFirst test people)
    → option_map (λ place. place + 1) o ≡ Some n → (1 ≤ n) × (n ≤ length people)
number_at test people None n first h = absurd (cc)
number_at test people (Some k) n first h =
    let is : k + 1 ≡ n = cc in
    (omega (arith, is), omega (arith, is, first.within))

pub number_in : (w : World) (name : List ℕ) (n : ℕ) → number_of w name ≡ Some n → (1 ≤ n) × (n ≤ length w.people)
number_in w name n h = number_at (has_name name) w.people (position (has_name name) w.people) n (place (has_name name) w.people) h

unnamed_at : (test : Person → Bool) (people : List Person) (o : Option ℕ) → MatchOption o (IsNone test people) (IsFirst test people)
    → option_map (λ place. place + 1) o ≡ None → list_any test people ≡ false
unnamed_at test people None first h = first.none
unnamed_at test people (Some k) first h = absurd (cc)

unnamed : (w : World) (name : List ℕ) → number_of w name ≡ None → list_any (has_name name) w.people ≡ false
unnamed w name h = unnamed_at (has_name name) w.people (position (has_name name) w.people) (place (has_name name) w.people) h

name_apart : (name : List ℕ) (people : List Person) → list_any (has_name name) people ≡ false → list_any (bytes_eq name) (map (λ (p : Person). p.name) people) ≡ false
name_apart name [] h = refl
name_apart name (p ∷ ps) h =
    elim (cases_Bool (has_name name p)) [
      | inl here ↦ let wrong : true ≡ false = rw here at h in absurd (true≢false wrong)
      | inr other ↦
          let rest : list_any (has_name name) ps ≡ false = rw other at h in
          let swapped : bytes_eq name p.name ≡ false = nat_list_eq_equiv.symm name p.name ∙ other in
          rw swapped (name_apart name ps rest)
    ]

pub good-person : (w : World) (name key : List ℕ) → IsGoodWorld w → length w.people < 10000 → number_of w name ≡ None → IsGoodWorld (with_person w name key)
good-person w name key good room none =
    let person : Person = record { name = name; key = Some key } in
    let more : length (w.people ++ person ∷ []) ≡ length w.people + 1 = omega (arith, length-append w.people (person ∷ [])) in
    record {
      apart = subst (IsDistinct bytes_eq) (sym (map-append (λ (p : Person). p.name) w.people (person ∷ [])))
          (IsDistinct-push nat_list_eq_equiv (names w) name good.apart (name_apart name w.people (unnamed w name none)));
      people = omega (arith, more, room);
      numbered = good.numbered;
      boards = good.boards;
      good = good.good;
      owned = good.owned;
      roles = roles-within w (with_person w name key) (omega (arith, more)) (omega arith) w.roles good.roles;
      ordered = good.ordered;
    }

names-set : (name : List ℕ) (key : Option (List ℕ)) (people : List Person)
    → map (λ (p : Person). p.name) (set_key name key people) ≡ map (λ (p : Person). p.name) people
names-set name key [] = refl
names-set name key (p ∷ ps) =
    elim (cases_Bool (has_name name p)) [
      | inl here ↦ rw here refl
      | inr other ↦ rw other (ap (λ names. p.name ∷ names) (names-set name key ps))
    ]

length-set : (name : List ℕ) (key : Option (List ℕ)) (people : List Person) → length (set_key name key people) ≡ length people
length-set name key [] = refl
length-set name key (p ∷ ps) =
    elim (cases_Bool (has_name name p)) [
      | inl here ↦ rw here refl
      | inr other ↦ rw other (ap suc (length-set name key ps))
    ]

-- a world is as good whatever the keys
pub good-key : (w : World) (name : List ℕ) (key : Option (List ℕ)) → IsGoodWorld w → IsGoodWorld (with_key_of w name key)
good-key w name key good =
    let size = length-set name key w.people in
    record {
      apart = subst (IsDistinct bytes_eq) (sym (names-set name key w.people)) good.apart;
      people = omega (arith, size, good.people);
      numbered = good.numbered;
      boards = good.boards;
      good = good.good;
      owned = good.owned;
      roles = roles-within w (with_key_of w name key) (omega (arith, size)) (omega arith) w.roles good.roles;
      ordered = good.ordered;
    }

range_push : (a n : ℕ) → range_with_len a n ++ (a + n) ∷ [] ≡ range_with_len a (suc n)
range_push a zero = let first : a + 0 ≡ a = omega arith in rw first refl
range_push a (suc n) = let next : a + suc n ≡ a + 1 + n = omega arith in ap (λ xs. a ∷ xs) (rw next (range_push (a + 1) n))

owned-set : (w v : World) (b p : ℕ) (o : Option Role) → v.roles ≡ set_role w.roles b p o
    → leaves_none (Some (record { number = p; role = option_map (λ (r : RoleOn). r.role) (find (is_role_of b p) w.roles) })) o (count_by (owns b) w.roles) ≡ false
    → (bs : List Board) → AllByRecursion (HasOwner w) bs → AllByRecursion (HasOwner v) bs
owned-set w v b p o roles stays [] all = tt
owned-set w v b p o roles stays (c ∷ cs) all = (rw roles (owner_stays w.roles b p c.number o all.0 stays), owned-set w v b p o roles stays cs all.1)

pub good-new_board : (w : World) (caller : ℕ) (title : List ℕ) → IsGoodWorld w → length w.boards < 10000 → 1 ≤ caller → caller ≤ length w.people
    → IsGoodWorld (with_new_board w (length w.boards + 1) caller title)
good-new_board w caller title good room from to =
    let n = length w.boards + 1 in
    let board : Board = record { number = n; title = title; tasks = []; gone = []; ahead = 1 } in
    let v = with_new_board w n caller title in
    let more : length (w.boards ++ board ∷ []) ≡ n = omega (arith, length-append w.boards (board ∷ [])) in
    let next : 1 + length w.boards ≡ n = omega arith in
    let size : suc (length w.boards) ≡ length (w.boards ++ board ∷ []) = omega (arith, more) in
    let stays = owner_leaves (option_map (λ (r : RoleOn). r.role) (find (is_role_of n caller) w.roles)) caller (count_by (owns n) w.roles) in
    record {
      apart = good.apart;
      people = good.people;
      numbered = map-append (λ (b : Board). b.number) w.boards (board ∷ []) ∙ ap (λ xs. xs ++ n ∷ []) good.numbered
          ∙ ap (λ i. range_with_len 1 (length w.boards) ++ i ∷ []) (sym next) ∙ range_push 1 (length w.boards) ∙ ap (range_with_len 1) size;
      boards = omega (arith, more, room);
      good = all_push IsGood w.boards board good.good (good-empty n title);
      owned = all_push (HasOwner v) w.boards board (owned-set w v n caller (Some Owner) refl stays w.boards good.owned) (new_owner w.roles n caller);
      roles = all-set (IsRoleIn v) w.roles n caller (Some Owner)
          (λ r role given is. record { from_board = is.from_board; to_board = is.to_board; from_person = is.from_person; to_person = is.to_person })
          (λ role given. record { from_board = omega arith; to_board = omega (arith, more); from_person = from; to_person = to })
          (roles-within w v (omega arith) (omega (arith, more)) w.roles good.roles);
      ordered = sorted-set w.roles n caller (Some Owner) good.ordered;
    }

-- the number of a board with an owner
owned_in : (w : World) (n : ℕ) (rs : List RoleOn) → AllByRecursion (IsRoleIn w) rs → list_any (owns n) rs ≡ true → (1 ≤ n) × (n ≤ length w.boards)
owned_in w n [] all h = absurd (true≢false (sym h))
owned_in w n (r ∷ rs) all h =
    elim (cases_Bool (owns n r)) [
      | inl here ↦
          let is : r.board ≡ n = eqb-true r.board n (left (r.board == n) _ here) in
          (omega (arith, is, all.0.from_board), omega (arith, is, all.0.to_board))
      | inr other ↦ let rest : list_any (owns n) rs ≡ true = rw other at h in owned_in w n rs all.1 rest
    ]
  where
    left : (p q : Bool) → (p && q) ≡ true → p ≡ true
    left true q h = refl
    left false q h = h

pub good-role : (w : World) (n p : ℕ) (o : Option Role) → IsGoodWorld w → list_any (owns n) w.roles ≡ true → 1 ≤ p → p ≤ length w.people
    → leaves_none (Some (record { number = p; role = role_of w n p })) o (owners w n) ≡ false
    → IsGoodWorld (record w { roles = set_role w.roles n p o })
good-role w n p o good owner from to stays =
    let v : World = record w { roles = set_role w.roles n p o } in
    let number = owned_in w n w.roles good.roles owner in
    record {
      apart = good.apart;
      people = good.people;
      numbered = good.numbered;
      boards = good.boards;
      good = good.good;
      owned = owned-set w v n p o refl stays w.boards good.owned;
      roles = all-set (IsRoleIn v) w.roles n p o
          (λ r role given is. record { from_board = is.from_board; to_board = is.to_board; from_person = is.from_person; to_person = is.to_person })
          (λ role given. record { from_board = number.0; to_board = number.1; from_person = from; to_person = to })
          (roles-within w v (omega arith) (omega arith) w.roles good.roles);
      ordered = sorted-set w.roles n p o good.ordered;
    }
