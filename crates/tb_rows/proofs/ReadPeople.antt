-- People and roles are read back from their rows.
use Rattle.std.proofs.Common.{◌≡◌, ℕ, ◌+◌, true, false, true≢false, List, [], ◌∷◌, ◌++◌, Ok, Option, Some, None, IfSome, map, length, refl, sym, ap, ◌∙◌, arith, append_assoc, length-append}
use Rattle.std.specs.List.{AllByRecursion}
use Rattle.std.proofs.lemmas.Bool.{eq-eqb}
use Rattle.std.proofs.lemmas.List.{append-nil}
use Rattle.tb_board.specs.Names.{is_key}
use Rattle.tb_board.specs.declared.world.Person.{Person}
use Rattle.tb_board.specs.declared.world.Role.{Role}
use Rattle.tb_board.specs.declared.world.Role.TheVariants.{Owner, Member, Reader}
use Rattle.tb_board.specs.declared.world.RoleOn.{RoleOn}
use Rattle.tb_rows.specs.Rows.{rows_from, person_row, role_kind, role_row, secret_of}
use Rattle.tb_rows.specs.Forms.{HasPersonForm}
use Rattle.tb_rows.specs.Reading.{person_at, people_in, secret_in, role_of_kind, role_of, roles_in}

empty_key : is_key [] ≡ false
unfolding is_key
empty_key = refl

-- the secret of a key is read as that key, and the empty one as none
pub secret_read : (key : Option (List ℕ)) → IfSome key (λ k. is_key k ≡ true) → secret_in (secret_of key) ≡ Ok key
secret_read None form = refl
secret_read (Some []) form = absurd (true≢false (sym form ∙ empty_key))
secret_read (Some (c ∷ cs)) form = rw form refl

person_read : (number n : ℕ) (p : Person) → n ≡ number → HasPersonForm p → person_at number (person_row n p) ≡ Ok p
person_read number n p at form = rw (eq-eqb n number at, form.name, secret_read p.key form.key) refl

pub people_read : (found ps : List Person) (n : ℕ) → n ≡ length found + 1 → AllByRecursion HasPersonForm ps
    → people_in found (rows_from (λ k p. person_row k p ∷ []) n ps) ≡ Ok (found ++ ps)
people_read found [] n at all = ap Ok (sym (append-nil found))
people_read found (p ∷ ps) n at all =
    let next : n + 1 ≡ length (found ++ p ∷ []) + 1 = omega (arith, length-append found (p ∷ [])) in
    rw (person_read (length found + 1) n p at all.0) (people_read (found ++ p ∷ []) ps (n + 1) next all.1 ∙ ap Ok (append_assoc found (p ∷ []) ps))

kind_read : (role : Role) → role_of_kind (role_kind role) ≡ Ok role
kind_read Owner = refl
kind_read Member = refl
kind_read Reader = refl

role_read : (r : RoleOn) → role_of (role_row r) ≡ Ok r
role_read r = rw (kind_read r.role) refl

pub roles_read : (found rs : List RoleOn) → roles_in found (map role_row rs) ≡ Ok (found ++ rs)
roles_read found [] = ap Ok (sym (append-nil found))
roles_read found (r ∷ rs) = rw (role_read r) (roles_read (found ++ r ∷ []) rs ∙ ap Ok (append_assoc found (r ∷ []) rs))
