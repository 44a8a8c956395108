-- The rows of a board's roles tell the people on the board.
use Rattle.std.proofs.Common.{◌≡◌, ◌∙◌, inl, inr, ◌+◌, ◌-◌, ◌≤◌, ◌==◌, ℕ, suc, List, [], ◌∷◌, Option, Some, None, filter, refl, sym, ap, arith, IsPermutation}
use Rattle.std.specs.Prelude.{slice_get}
use Rattle.std.specs.Option.{option_map}
use Rattle.std.proofs.lemmas.Bool.{cases_Bool, eqb-true, eqb-false}
use Rattle.std.proofs.lemmas.Bool.Decides.{nat_tests}
use Rattle.sqlite.specs.State.{State as Database}
use Rattle.tb_board.specs.declared.world.Person.{Person}
use Rattle.tb_board.specs.declared.world.RoleOn.{RoleOn}
use Rattle.tb_board.specs.Names.{is_name, read_name}
use Rattle.tb_board.specs.declared.world.World.{World}
use Rattle.tb_calls.specs.Roles.{person_at, with_name}
use Rattle.tb_calls.specs.declared.role_bodies.PersonRole.{PersonRole}
use Rattle.tb_rows.specs.Rows.{person_row}
use Rattle.tb_sql.specs.Changes.{is_person}
use Rattle.tb_sql_tables.specs.declared.rows.PersonRow.{PersonRow}
use Rattle.tb_sql_tables.specs.Found.{IsOneOf}
use Rattle.tb_lookup.specs.Reopening.{OfContent, OfState}
use Rattle.tb_lookup.specs.Named.{IsNameAt, IsNamed}
use Rattle.tb_lookup.proofs.NamedPeople.{rows}
use Rattle.tb_lookup.proofs.NumberedPeople.{none_before}
use Rattle.tb_rows.proofs.OneOf.{none_found, one_found}

-- ---- the row of a number

-- no row has a number that no person has, and one row has that of a person
abbrev AreAt : ℕ → List PersonRow → Option Person → Type 0
AreAt id found None = found ≡ []
AreAt id found (Some p) = found ≡ person_row id p ∷ []

rows_at : (id n : ℕ) (people : List Person) → n ≤ id → AreAt id (filter (is_person id) (rows n people)) (slice_get people (id - n))
rows_at id n [] from = refl
rows_at id n (p ∷ people) from =
    elim (cases_Bool (n == id)) [
      | inl here ↦
          let is : n ≡ id = eqb-true n id here in
          let none : id - n ≡ 0 = omega (arith, is) in
          rw (none, here) (first n is (none_before id (n + 1) people (omega (arith, is))))
      | inr other ↦
          let apart : n ≡ id → ⊥ = grind (arith, nat_tests) in
          let more : id - n ≡ suc (id - (n + 1)) = omega (arith, from, apart) in
          rw (more, other) (rows_at id (n + 1) people (omega (arith, from, apart)))
    ]
  where
    first : (n : ℕ) → n ≡ id → filter (is_person id) (rows (n + 1) people) ≡ [] → person_row n p ∷ filter (is_person id) (rows (n + 1) people) ≡ person_row id p ∷ []
    first n is none = rw none (ap (λ k. person_row k p ∷ []) is)

person_found : (w : List Person) (found : List PersonRow) → IsPermutation found (rows 1 w) → (id : ℕ) (row : PersonRow) → 1 ≤ id → IsOneOf (filter (is_person id) found) (Some row)
    → option_map (person_row id) (slice_get w (id - 1)) ≡ Some row
person_found w found same id row from is = go (slice_get w (id - 1)) (rows_at id 1 w from)
  where
    go : (p : Option Person) → AreAt id (filter (is_person id) (rows 1 w)) p → option_map (person_row id) p ≡ Some row
    go None none = let never = none_found (is_person id) found (rows 1 w) same (Some row) none is in absurd (cc)
    go (Some p) one = sym (one_found (is_person id) found (rows 1 w) same (Some row) (person_row id p) one is)

-- ---- the name of a person

name_is : (text name : List ℕ) → Some name ≡ read_name text → name ≡ text
name_is text name read = elim (cases_Bool (is_name text)) [
  | inl formed ↦ let is : Some name ≡ Some text = read ∙ rw formed refl in cc
  | inr other ↦ let is : Some name ≡ None = read ∙ rw other refl in absurd (cc)
]

abbrev pub named : RoleOn → List ℕ → PersonRole
named r name = record { name = name; role = r.role }

pub name_stored : (old new : Database) (number : ℕ) (row : PersonRow) (name : List ℕ) → OfContent old new (λ c. IsOneOf (filter (is_person number) c.people) (Some row)) → Some name ≡ read_name row.name
    → OfState old new (λ s. IsNameAt s.world number name)
name_stored old new number row name found read clean s stored =
    record {
      is = elim (cases_Bool (number == 0)) [
        | inl none ↦
            let never = none_found (is_person number) stored.content.people (rows 1 s.world.people) stored.rows.same.tables.people (Some row) (none_before number 1 s.world.people (omega (arith, eqb-true number 0 none))) is in
            absurd (cc)
        | inr some ↦
            let above : 1 ≤ number = omega (arith, eqb-false number 0 some) in
            let there = person_found s.world.people stored.content.people stored.rows.same.tables.people number row above is in
            rw some (go (slice_get s.world.people (number - 1)) there)
      ];
    }
  where
    is : IsOneOf (filter (is_person number) stored.content.people) (Some row)
    is = found clean stored.content stored.stands

    go : (p : Option Person) → option_map (person_row number) p ≡ Some row → option_map (λ (p : Person). p.name) p ≡ Some name
    go None at = absurd (cc)
    go (Some p) at =
        let row_is : person_row number p ≡ row = cc in
        ap (λ (t : List ℕ). Some t) (ap (λ (x : PersonRow). x.name) row_is ∙ sym (name_is row.name name read))

named_by : (r : RoleOn) (name : List ℕ) (p : Option Person) → option_map (λ (p : Person). p.name) p ≡ Some name → option_map (with_name r) p ≡ Some (named r name)
named_by r name None at = absurd (cc)
named_by r name (Some p) at = let is : p.name ≡ name = cc in ap (λ (t : List ℕ). Some (named r t)) is

pub role_named : (w : World) (r : RoleOn) (name : List ℕ) → IsNameAt w r.person name → IsNamed w r (named r name)
role_named w r name at = record { is = named_by r name (person_at w r.person) at.is }
