-- The row of a name tells the person of that name.
use Rattle.std.proofs.Common.{◌≡◌, ◌∙◌, ◌⊎◌, inl, inr, ◌+◌, ◌<◌, ℕ, true, false, not, true≢false, List, [], ◌∷◌, map, filter, find, length, Option, Some, None, Result, Ok, Err, refl, sym, ap, arith, IsPermutation}
use Rattle.std.specs.Prelude.{nat_lt}
use Rattle.std.specs.List.{prefix_len, position_or_len, AllByRecursion, IsDistinct}
use Rattle.std.specs.Str.{bytes_eq}
use Rattle.std.proofs.lemmas.Bool.{cases_Bool}
use Rattle.std.proofs.lemmas.Bool.Decides.{nat_tests}
use Rattle.std.proofs.lemmas.Slice.Eq.{bytes_eq-Decides}
use Rattle.tb_board.specs.declared.world.Person.{Person}
use Rattle.tb_board.specs.declared.world.World.{World}
use Rattle.tb_board.specs.World.{has_name, number_of}
use Rattle.tb_rows.specs.Rows.{person_row, rows_from, secret_of}
use Rattle.tb_sql.specs.Changes.{is_named}
use Rattle.tb_sql_tables.specs.Found.{IsOneOf}
use Rattle.tb_sql_tables.specs.declared.rows.PersonRow.{PersonRow}
use Rattle.tb_rows.specs.declared.fault.ReopenFault.{ReopenFault}
use Rattle.tb_rows.specs.declared.fault.ReopenFault.TheVariants.{NotRows}
use Rattle.tb_rows.specs.Forms.{HasPersonForm}
use Rattle.tb_rows.specs.Reading.{secret_in}
use Rattle.tb_rows.proofs.OneOf.{none_found, one_found}
use Rattle.tb_rows.proofs.ReadPeople.{secret_read}
use Rattle.tb_lookup.specs.People.{IsPersonFound}

-- the rows of people who are numbered from there
abbrev pub rows : ℕ → List Person → List PersonRow
rows n people = rows_from (λ n p. person_row n p ∷ []) n people

abbrev names : List Person → List (List ℕ)
names people = map (λ (p : Person). p.name) people

-- how many come before the first of the name
abbrev ahead : List ℕ → List Person → ℕ
ahead name people = prefix_len (λ p. not (has_name name p)) people

none_named : (name first : List ℕ) (n : ℕ) (people : List Person) → bytes_eq first name ≡ true → AllByRecursion (λ y. bytes_eq first y ≡ false) (names people) → filter (is_named name) (rows n people) ≡ []
none_named name first n [] same apart = refl
none_named name first n (p ∷ people) same apart =
    elim (cases_Bool (bytes_eq p.name name)) [
      | inl here ↦ absurd (true≢false (sym ((bytes_eq-Decides first p.name).1 ((bytes_eq-Decides first name).0 same ∙ sym ((bytes_eq-Decides p.name name).0 here))) ∙ apart.0))
      | inr other ↦ rw other (none_named name first (n + 1) people same apart.1)
    ]

record IsNobody (name : List ℕ) (n : ℕ) (people : List Person) : Type 0 where
  none : filter (is_named name) (rows n people) ≡ []
  behind : ahead name people ≡ length people
  nobody : find (has_name name) people ≡ None

record IsSomebody (name : List ℕ) (n : ℕ) (people : List Person) : Type 0 where
  row : PersonRow
  one : filter (is_named name) (rows n people) ≡ row ∷ []
  number : row.id ≡ n + ahead name people
  within : ahead name people < length people
  person : Person
  found : find (has_name name) people ≡ Some person
  called : person.name ≡ name
  secret : row.secret ≡ secret_of person.key
  form : HasPersonForm person

named : (name : List ℕ) (n : ℕ) (people : List Person) → IsDistinct bytes_eq (names people) → AllByRecursion HasPersonForm people → IsNobody name n people ⊎ IsSomebody name n people
unfolding IsDistinct
named name n [] apart forms = inl (record { none = refl; behind = refl; nobody = refl })
named name n (p ∷ people) apart forms =
    elim (cases_Bool (bytes_eq p.name name)) [
      | inl here ↦
          inr (record {
            row = person_row n p;
            one = rw here (ap (λ l. person_row n p ∷ l) (none_named name p.name (n + 1) people here apart.0));
            number = rw here (omega arith);
            within = rw here (omega arith);
            person = p;
            found = rw here refl;
            called = (bytes_eq-Decides p.name name).0 here;
            secret = refl;
            form = forms.0;
          })
      | inr other ↦ elim (named name (n + 1) people apart.1 forms.1) [
        | inl none ↦ inl (record { none = rw other none.none; behind = rw other (let is = none.behind in omega (arith, is)); nobody = rw other none.nobody })
        | inr some ↦
            inr (record {
              row = some.row;
              one = rw other some.one;
              number = rw other (let is = some.number in omega (arith, is));
              within = rw other (let is = some.within in omega (arith, is));
              person = some.person;
              found = rw other some.found;
              called = some.called;
              secret = some.secret;
              form = some.form;
            })
      ]
    ]

number_none : (name : List ℕ) (w : World) → ahead name w.people ≡ length w.people → number_of w name ≡ None
number_none name w behind =
    let past : nat_lt (position_or_len (has_name name) w.people) (length w.people) ≡ false = grind (arith, nat_tests) in
    rw past refl

number_some : (name : List ℕ) (w : World) → ahead name w.people < length w.people → number_of w name ≡ Some (1 + ahead name w.people)
number_some name w within =
    let here : nat_lt (position_or_len (has_name name) w.people) (length w.people) ≡ true = grind (arith, nat_tests) in
    let turned : position_or_len (has_name name) w.people + 1 ≡ 1 + ahead name w.people = omega arith in
    rw here (ap Some turned)

-- the person whose row this is has the name
pub record HasRow (w : World) (name : List ℕ) (row : PersonRow) : Type 0 where
  pub number : number_of w name ≡ Some row.id
  pub person : Person
  pub found : find (has_name name) w.people ≡ Some person
  pub called : person.name ≡ name
  pub secret : row.secret ≡ secret_of person.key
  pub form : HasPersonForm person

module _ (w : World) (apart : IsDistinct bytes_eq (names w.people)) (forms : AllByRecursion HasPersonForm w.people) (people : List PersonRow) (same : IsPermutation people (rows 1 w.people)) (name : List ℕ) where
  -- where no row is found there is no such person
  pub nobody : IsOneOf (filter (is_named name) people) None → IsPersonFound w name None
  nobody found = elim (named name 1 w.people apart forms) [
    | inl none ↦ (number_none name w none.behind, none.nobody)
    | inr some ↦ let is = one_found (is_named name) people (rows 1 w.people) same None some.row some.one found in absurd (cc)
  ]

  -- a row that is found is the person's
  pub somebody : (row : PersonRow) → IsOneOf (filter (is_named name) people) (Some row) → HasRow w name row
  somebody row found = elim (named name 1 w.people apart forms) [
    | inl none ↦ let is = none_found (is_named name) people (rows 1 w.people) same (Some row) none.none found in absurd (cc)
    | inr some ↦
        let is : row ≡ some.row = same_Some row some.row (one_found (is_named name) people (rows 1 w.people) same (Some row) some.row some.one found) in
        record {
          number = number_some name w some.within ∙ ap Some (sym some.number) ∙ ap (λ (r : PersonRow). Some r.id) (sym is);
          person = some.person;
          found = some.found;
          called = some.called;
          secret = ap (λ (r : PersonRow). r.secret) is ∙ some.secret;
          form = some.form;
        }
  ]
    where
      same_Some : (a b : PersonRow) → Some a ≡ Some b → a ≡ b
      same_Some a b h = cc

-- what is read of the secret in that row is the person's key, or that there is none
pub person_found : (w : World) (name : List ℕ) (row : PersonRow) (key : Option (List ℕ)) → HasRow w name row → secret_in row.secret ≡ Ok key → IsPersonFound w name (Some (record { number = row.id; key = key }))
person_found w name row key has read = (has.number, has.found ∙ ap Some same)
  where
    same_Ok : (a b : Option (List ℕ)) → ◌≡◌ {A = Result (Option (List ℕ)) ReopenFault} (Ok a) (Ok b) → a ≡ b
    same_Ok a b h = cc

    own : has.person.key ≡ key
    own = same_Ok _ _ (sym (secret_read has.person.key has.form.key) ∙ ap secret_in (sym has.secret) ∙ read)

    same : has.person ≡ record { name = name; key = key }
    same = λ i. record { name = has.called i; key = own i }

-- it is never one that no person has
pub secret_never : (w : World) (name : List ℕ) (row : PersonRow) → HasRow w name row → secret_in row.secret ≡ Err NotRows → ⊥
secret_never w name row has is =
    let own : secret_in row.secret ≡ Ok has.person.key = ap secret_in has.secret ∙ secret_read has.person.key has.form.key in
    let both : Err NotRows ≡ Ok has.person.key = sym is ∙ own in
    cc
