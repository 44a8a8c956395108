-- People by their numbers.
use Rattle.std.proofs.Common.{◌≡◌, ◌∙◌, ◌<◌, ◌≤◌, ◌+◌, ◌-◌, ℕ, suc, Bool, true, false, not, cond, List, [], ◌∷◌, map, length, get_or, Some, None, true≢false, refl, sym, ap, arith, option_map, inl, inr}
use Rattle.std.specs.Prelude.{IsSome, is_some, position, nat_lt, ℕ, ◌-◌, List, [], map, slice_index_or}
use Rattle.std.specs.List.{prefix_len, position_or_len}
use Rattle.std.specs.Option.{unwrap_or}
use Rattle.std.specs.Str.{bytes_eq}
use Rattle.std.proofs.lemmas.Bool.{cases_Bool}
use Rattle.std.proofs.lemmas.Bool.Decides.{nat_tests}
use Rattle.std.proofs.lemmas.Slice.Eq.{bytes_eq-Decides}
use Rattle.tb_board.specs.declared.world.Person.{Person}
use Rattle.tb_board.specs.declared.world.World.{World}
use Rattle.tb_board.specs.Extends.{ExtendsPerson, IsFrontOf}
use Rattle.tb_board.specs.World.{has_name, number_of}

-- the name of the person of a number
abbrev pub name_at : List Person → ℕ → List ℕ
name_at people n = slice_index_or (map (λ (p : Person). p.name) people) (n - 1) []

front_length : (people later : List Person) → IsFrontOf ExtendsPerson people later → length people ≤ length later
front_length [] later front = omega arith
front_length (p ∷ people) [] front = absurd front
front_length (p ∷ people) (q ∷ later) front = let rest = front_length people later front.1 in omega (arith, rest)

module _ (name : List ℕ) where
  someone : (people : List Person) → is_some (option_map (λ place. place + 1) (position (has_name name) people)) ≡ true → prefix_len (λ p. not (has_name name p)) people < length people
  someone people known = elim (cases_Bool (nat_lt (position_or_len (has_name name) people) (length people))) [
    | inl here ↦ grind (arith, nat_tests)
    | inr past ↦ let none : is_some (option_map (λ place. place + 1) (position (has_name name) people)) ≡ false = rw past refl in absurd (true≢false (sym known ∙ none))
  ]

  next : (xs : List (List ℕ)) (x : List ℕ) (n : ℕ) → get_or (x ∷ xs) (1 + n) [] ≡ get_or xs n []
  next xs x n = let e : 1 + n ≡ suc n = omega arith in rw e refl

  at_number : (people : List Person) → prefix_len (λ p. not (has_name name p)) people < length people → get_or (map (λ (p : Person). p.name) people) (prefix_len (λ p. not (has_name name p)) people) [] ≡ name
  at_number [] within = absurd (omega arith)
  at_number (p ∷ people) within =
      elim (has_name name p) as (λ b. has_name name p ≡ b → cond (not b) (1 + prefix_len (λ p. not (has_name name p)) people) 0 < length (p ∷ people)
      → get_or (map (λ (p : Person). p.name) (p ∷ people)) (cond (not b) (1 + prefix_len (λ p. not (has_name name p)) people) 0) [] ≡ name) [
        | true ↦ λ is h. (bytes_eq-Decides p.name name).0 is
        | false ↦ λ is h. next (map (λ (p : Person). p.name) people) p.name (prefix_len (λ p. not (has_name name p)) people) ∙ at_number people (omega arith)
      ] refl within

  -- whoever has the place of a person has the name
  first_stays : (people later : List Person) → IsFrontOf ExtendsPerson people later → prefix_len (λ p. not (has_name name p)) people < length people → prefix_len (λ p. not (has_name name p)) later ≡ prefix_len (λ p. not (has_name name p)) people
  first_stays [] later front within = absurd (omega arith)
  first_stays (p ∷ people) [] front within = absurd front
  first_stays (p ∷ people) (q ∷ later) front within =
      let same : has_name name q ≡ has_name name p = ap (λ n. bytes_eq n name) front.0 in
      rw same (elim (has_name name p) as (λ b. cond (not b) (1 + prefix_len (λ p. not (has_name name p)) people) 0 < length (p ∷ people)
      → cond (not b) (1 + prefix_len (λ p. not (has_name name p)) later) 0 ≡ cond (not b) (1 + prefix_len (λ p. not (has_name name p)) people) 0) [
        | true ↦ λ h. refl
        | false ↦ λ h. ap (λ n. 1 + n) (first_stays people later front.1 (omega (arith, h)))
      ] within)

  within_later : (people later : List Person) → IsFrontOf ExtendsPerson people later → prefix_len (λ p. not (has_name name p)) people < length people → prefix_len (λ p. not (has_name name p)) later < length later
  within_later people later front within =
      let same = first_stays people later front within in
      let most = front_length people later front in
      omega (arith, same, most, within)

  number_is : (people : List Person) → prefix_len (λ p. not (has_name name p)) people < length people
      → unwrap_or (option_map (λ place. place + 1) (position (has_name name) people)) 0 ≡ prefix_len (λ p. not (has_name name p)) people + 1
  number_is people within =
      let here : nat_lt (position_or_len (has_name name) people) (length people) ≡ true = grind (arith, nat_tests) in
      rw here refl

-- the name of a person is that of the person's number
pub name_of_number : (w : World) (name : List ℕ) → IsSome (number_of w name) → name_at w.people (unwrap_or (number_of w name) 0) ≡ name
name_of_number w name known =
    let within = someone name w.people known in
    ap (λ n. get_or (map (λ (p : Person). p.name) w.people) (n - 1) []) (number_is name w.people within)
    ∙ ap (λ n. get_or (map (λ (p : Person). p.name) w.people) n []) (let plain : prefix_len (λ p. not (has_name name p)) w.people + 1 - 1 ≡ prefix_len (λ p. not (has_name name p)) w.people = omega arith in plain)
    ∙ at_number name w.people within

-- a person keeps the number where all keep their names and places
pub number_stays : (w later : World) (name : List ℕ) → IsFrontOf ExtendsPerson w.people later.people → IsSome (number_of w name) → unwrap_or (number_of later name) 0 ≡ unwrap_or (number_of w name) 0
number_stays w later name front known =
    let within = someone name w.people known in
    number_is name later.people (within_later name w.people later.people front within) ∙ ap (λ n. n + 1) (first_stays name w.people later.people front within) ∙ sym (number_is name w.people within)

-- and stays there
pub known_stays : (w later : World) (name : List ℕ) → IsFrontOf ExtendsPerson w.people later.people → IsSome (number_of w name) → IsSome (number_of later name)
known_stays w later name front known =
    let within = within_later name w.people later.people front (someone name w.people known) in
    let here : nat_lt (position_or_len (has_name name) later.people) (length later.people) ≡ true = grind (arith, nat_tests) in
    rw here refl

-- the name of the person of a number
pub name_at_number : (w : World) (name : List ℕ) (n : ℕ) → number_of w name ≡ Some n → name_at w.people n ≡ name
name_at_number w name n is = go (nat_lt (position_or_len (has_name name) w.people) (length w.people)) refl is
  where
    go : (b : Bool) → nat_lt (position_or_len (has_name name) w.people) (length w.people) ≡ b → option_map (λ place. place + 1) (cond b (Some (position_or_len (has_name name) w.people)) None) ≡ Some n → name_at w.people n ≡ name
    go true here e =
        let count : n ≡ position_or_len (has_name name) w.people + 1 = cc in
        let plain : n - 1 ≡ prefix_len (λ p. not (has_name name p)) w.people = omega (arith, count) in
        ap (λ k. get_or (map (λ (p : Person). p.name) w.people) k []) plain ∙ at_number name w.people (grind (arith, nat_tests))
    go false here e = absurd (cc)
