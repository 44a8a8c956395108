-- The rows tell whether there is a person of a number.
use Rattle.std.proofs.Common.{◌≡◌, ◌+◌, ◌<◌, ◌≤◌, ◌==◌, ℕ, suc, Bool, false, List, [], ◌∷◌, filter, length, refl, ap, arith, subst}
use Rattle.std.proofs.lemmas.Bool.Decides.{nat_tests}
use Rattle.std.specs.List.{list_any}
use Rattle.sqlite.specs.State.{State as Database}
use Rattle.tb_board.specs.declared.world.Person.{Person}
use Rattle.tb_sql.specs.Changes.{is_person}
use Rattle.tb_sql_tables.specs.declared.rows.PersonRow.{PersonRow}
use Rattle.tb_lookup.specs.Reopening.{OfContent, OfState}
use Rattle.tb_lookup.proofs.Within.{IsWithin}
use Rattle.tb_lookup.proofs.Counting.{AreNumbered, within_any}
use Rattle.tb_lookup.proofs.NamedPeople.{rows}

numbered : (n : ℕ) (people : List Person) → AreNumbered (λ (row : PersonRow). row.id) n (rows n people)
numbered n [] = tt
numbered n (p ∷ people) = (refl, numbered (n + 1) people)

pub none_before : (id n : ℕ) (people : List Person) → id < n → filter (is_person id) (rows n people) ≡ []
none_before id n [] before = refl
none_before id n (p ∷ people) before =
    let other : (n == id) ≡ false = grind (arith, nat_tests) in
    rw other (none_before id (n + 1) people (omega (arith, before)))

counted : (n : ℕ) (people : List Person) → length (rows n people) ≡ length people
counted n [] = refl
counted n (p ∷ people) = ap suc (counted (n + 1) people)

pub person_within : (old new : Database) (id : ℕ) (there : Bool) → 1 ≤ id → OfContent old new (λ c. there ≡ list_any (is_person id) c.people) → OfState old new (λ s. IsWithin id (length s.world.people) there)
person_within old new id there from found clean s stored =
    let all = rows 1 s.world.people in
    subst (λ count. IsWithin id count there) (counted 1 s.world.people)
    (within_any (λ (row : PersonRow). row.id) id stored.content.people all stored.rows.same.tables.people (numbered 1 s.world.people) from there (found clean stored.content stored.stands))
