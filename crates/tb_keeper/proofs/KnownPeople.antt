-- The known person, before and after looks and changes.
use Rattle.std.proofs.Common.{◌≡◌, ◌∙◌, ◌==◌, ◌||◌, ◌+◌, inl, inr, ℕ, Bool, true, false, true≢false, List, [], ◌∷◌, Option, Some, None, option_map, refl, sym, ap, subst}
use Rattle.std.specs.Prelude.{IfSome, find, position}
use Rattle.std.specs.List.{count_by, list_any}
use Rattle.std.specs.Str.{bytes_eq}
use Rattle.std.proofs.lemmas.Bool.{cases_Bool, eqb-true}
use Rattle.std.proofs.lemmas.Slice.Eq.{bytes_eq-Decides}
use Rattle.sqlite.specs.State.{HasCleanDisk, State as Database}
use Rattle.tb_board.specs.declared.change.Change.{Change}
use Rattle.tb_board.specs.declared.change.Change.TheVariants.{PutTask, AddPerson, SetKey, AddBoard, SetTitle, SetRole, SetGone, TakeGone, SetAhead}
use Rattle.tb_board.specs.declared.world.Person.{Person}
use Rattle.tb_board.specs.declared.world.RoleOn.{RoleOn}
use Rattle.tb_board.specs.declared.world.World.{World}
use Rattle.tb_board.specs.Changing.{changed, changed_by}
use Rattle.tb_board.specs.World.{has_name, is_role_of, owns}
use Rattle.tb_sql.specs.Opening.{IsAsBefore}
use Rattle.tb_lookup.specs.declared.people.StoredPerson.{StoredPerson}
use Rattle.tb_lookup.specs.declared.roles.RolesFound.{RolesFound}
use Rattle.tb_lookup.specs.People.{IsPersonFound}
use Rattle.tb_lookup.specs.Reopening.{OfState}
use Rattle.tb_lookup.specs.Roles.{AreRolesFound}
use Rattle.tb_lookup.proofs.Standing.{stored_again}
use Rattle.tb_keeper.specs.declared.people_at_hand.KnownPerson.{KnownPerson}
use Rattle.tb_keeper.specs.declared.people_at_hand.KnownRoles.{KnownRoles}
use Rattle.tb_keeper.specs.declared.people_at_hand.People.{People}
use Rattle.tb_keeper.specs.PeopleAtHand.{AreRolesKnown, AreStillKnown, IsKnownIn, known_after, known_as, known_roles, known_with, roles_of, touches_people}

-- ---- under a name

-- the known person is found under that name
pub known_found : (w : World) (known : Option KnownPerson) (name : List ℕ) (p : StoredPerson) → Some p ≡ known_as known name → IsKnownIn w known → IsPersonFound w name (Some p)
known_found w None name p is of = absurd (cc)
known_found w (Some k) name p is of =
    elim (cases_Bool (bytes_eq k.name name)) [
      | inl same ↦
          let found : Some p ≡ Some k.found = rw same at is in
          let under : k.name ≡ name = (bytes_eq-Decides k.name name).0 same in
          subst (λ n. IsPersonFound w n (Some p)) under (subst (λ o. IsPersonFound w k.name o) (sym found) of.0)
      | inr other ↦ let none : Some p ≡ None = rw other at is in absurd (cc)
    ]

-- ---- roles

-- what is known of the roles of a person on a board
roles_of_known : (w : World) (board number : ℕ) (known : Option KnownRoles) → AreRolesKnown w number known → IfSome (roles_of known board) (λ roles. AreRolesFound w board number None roles)
roles_of_known w board number None of = tt
roles_of_known w board number (Some r) of =
    elim (cases_Bool (r.board == board)) [
      | inl same ↦ rw same (subst (λ n. AreRolesFound w n number None r.found) (eqb-true r.board board same) of)
      | inr other ↦ rw other tt
    ]

found_of_known : (w : World) (known : Option KnownPerson) (board caller : ℕ) (other : Option ℕ) → IsKnownIn w known → IfSome (known_roles known board caller other) (λ roles. AreRolesFound w board caller other roles)
found_of_known w known board caller (Some other) of = tt
found_of_known w None board caller None of = tt
found_of_known w (Some p) board caller None of =
    elim (cases_Bool (p.found.number == caller)) [
      | inl own ↦ rw own (subst (λ n. IfSome (roles_of p.roles board) (λ roles. AreRolesFound w board n None roles)) (eqb-true p.found.number caller own) (roles_of_known w board p.found.number p.roles of.1))
      | inr other ↦ rw other tt
    ]

-- known roles are the world's
pub roles_known : (w : World) (known : Option KnownPerson) (board caller : ℕ) (other : Option ℕ) (roles : RolesFound) → Some roles ≡ known_roles known board caller other → IsKnownIn w known
    → AreRolesFound w board caller other roles
roles_known w known board caller other roles is of = subst (λ found. IfSome found (λ r. AreRolesFound w board caller other r)) (sym is) (found_of_known w known board caller other of)

-- who is known with what was found of roles
pub known_with_roles : (w : World) (known : Option KnownPerson) (board caller : ℕ) (other : Option ℕ) (found : RolesFound) → AreRolesFound w board caller other found → IsKnownIn w known
    → IsKnownIn w (known_with known board caller other found)
known_with_roles w known board caller (Some other) found are of = of
known_with_roles w None board caller None found are of = tt
known_with_roles w (Some p) board caller None found are of =
    elim (cases_Bool (p.found.number == caller)) [
      | inl own ↦ rw own (of.0, subst (λ n. AreRolesFound w board n None found) (sym (eqb-true p.found.number caller own)) are)
      | inr other ↦ rw other of
    ]

-- a look at roles
pub roles_still : (before after : Database) (people left : People) (board caller : ℕ) (other : Option ℕ) (found : RolesFound)
    → left ≡ record people { known = known_with people.known board caller other found }
    → OfState before after (λ s. AreRolesFound s.world board caller other found) → AreStillKnown before after people left
roles_still before after people left board caller other found is of = record {
  count_is = ap (λ (p : People). p.count) is;
  known_is = λ clean s stored known. subst (λ (p : People). IsKnownIn s.world p.known) (sym is) (known_with_roles s.world people.known board caller other found (of clean s stored) known);
}

-- ---- after looks

-- a look that knows the same people as before
pub same_people : (people : People) (old new : Database) → AreStillKnown old new people people
same_people people old new = record { count_is = refl; known_is = λ clean s stored known. known }

module _ (old mid new : Database) (before after : People) where
  -- a look after which others come
  pub known_first : AreStillKnown old mid before after → (HasCleanDisk new → HasCleanDisk mid) → AreStillKnown old new before after
  known_first are clean_last = record { count_is = are.count_is; known_is = λ clean. are.known_is (clean_last clean) }

  -- a look before which there was another
  pub known_then : IsAsBefore old mid → mid.in_transaction ≡ false → AreStillKnown mid new before after → AreStillKnown old new before after
  known_then same idle are = record { count_is = are.count_is; known_is = λ clean s stored. are.known_is clean s (stored_again s old mid stored same idle) }

-- a look at people and then one at roles
pub known_both : (old mid new : Database) (before between after : People) → AreStillKnown old mid before between → AreStillKnown mid new between after
    → IsAsBefore old mid → mid.in_transaction ≡ false → (HasCleanDisk new → HasCleanDisk mid) → AreStillKnown old new before after
known_both old mid new before between after first second same idle clean_last = record {
  count_is = second.count_is ∙ first.count_is;
  known_is = λ clean s stored known. second.known_is clean s (stored_again s old mid stored same idle) (first.known_is (clean_last clean) s stored known);
}

module _ (name : List ℕ) (old new : People) where
  -- a person that is found is known from then on
  found_known : (w : World) (found : Option StoredPerson) → (found ≡ None → new ≡ old) → IfSome found (λ p. new.known ≡ Some (record { name = name; found = p; roles = None })) → IsPersonFound w name found
      → IsKnownIn w old.known → IsKnownIn w new.known
  found_known w None none some found known = subst (λ (people : People). IsKnownIn w people.known) (sym (none refl)) known
  found_known w (Some p) none some found known = subst (IsKnownIn w) (sym some) (found, tt)

  pub found_at_hand : (found : Option StoredPerson) → None ≡ known_as old.known name → (found ≡ None → new ≡ old) → IfSome found (λ p. new.known ≡ Some (record { name = name; found = p; roles = None })) → found ≡ known_as new.known name
  found_at_hand None missing none some = missing ∙ ap (λ (people : People). known_as people.known name) (sym (none refl))
  found_at_hand (Some p) missing none some =
      let known : KnownPerson = record { name = name; found = p; roles = None } in
      let own : known_as (Some known) name ≡ Some p = rw ((bytes_eq-Decides name name).1 refl) refl in
      sym (ap (λ k. known_as k name) some ∙ own)

  pub found_still : (before after : Database) (found : Option StoredPerson) → new.count ≡ old.count → (found ≡ None → new ≡ old) → IfSome found (λ p. new.known ≡ Some (record { name = name; found = p; roles = None }))
      → OfState before after (λ s. IsPersonFound s.world name found) → AreStillKnown before after old new
  found_still before after found count none some of = record { count_is = count; known_is = λ clean s stored. found_known s.world found none some (of clean s stored) }

-- ---- after changes

same_by : (w : World) (c : Change) → touches_people c ≡ false → (changed_by w c).people ≡ w.people
same_by w (PutTask n place t) none = refl
same_by w (AddPerson name key) none = absurd (true≢false none)
same_by w (SetKey name key) none = absurd (true≢false none)
same_by w (AddBoard n title) none = refl
same_by w (SetTitle n title) none = refl
same_by w (SetRole n person role) none = absurd (true≢false none)
same_by w (SetGone n g) none = refl
same_by w (TakeGone n id k) none = refl
same_by w (SetAhead n ahead) none = refl

same_roles_by : (w : World) (c : Change) → touches_people c ≡ false → (changed_by w c).roles ≡ w.roles
same_roles_by w (PutTask n place t) none = refl
same_roles_by w (AddPerson name key) none = refl
same_roles_by w (SetKey name key) none = refl
same_roles_by w (AddBoard n title) none = refl
same_roles_by w (SetTitle n title) none = refl
same_roles_by w (SetRole n person role) none = absurd (true≢false none)
same_roles_by w (SetGone n g) none = refl
same_roles_by w (TakeGone n id k) none = refl
same_roles_by w (SetAhead n ahead) none = refl

neither : (a b : Bool) → (a || b) ≡ false → (a ≡ false) × (b ≡ false)
neither true b none = absurd (true≢false none)
neither false b none = (refl, none)

-- changes that touch neither people nor roles leave them
same_after : (w : World) (cs : List Change) → list_any touches_people cs ≡ false → (changed w cs).people ≡ w.people
same_after w [] none = refl
same_after w (c ∷ cs) none =
    let parts = neither (touches_people c) (list_any touches_people cs) none in
    same_after (changed_by w c) cs parts.1 ∙ same_by w c parts.0

same_roles_after : (w : World) (cs : List Change) → list_any touches_people cs ≡ false → (changed w cs).roles ≡ w.roles
same_roles_after w [] none = refl
same_roles_after w (c ∷ cs) none =
    let parts = neither (touches_people c) (list_any touches_people cs) none in
    same_roles_after (changed_by w c) cs parts.1 ∙ same_roles_by w c parts.0

roles_again : (w v : World) (number : ℕ) (known : Option KnownRoles) → v.roles ≡ w.roles → AreRolesKnown w number known → AreRolesKnown v number known
roles_again w v number None same of = tt
roles_again w v number (Some r) same of = record {
  caller_is = of.caller_is ∙ ap (λ (roles : List RoleOn). option_map (λ (o : RoleOn). o.role) (find (is_role_of r.board number) roles)) (sym same);
  other_is = of.other_is;
  owners_are = of.owners_are ∙ ap (λ (roles : List RoleOn). count_by (owns r.board) roles) (sym same);
}

known_again : (w v : World) (known : Option KnownPerson) → v.people ≡ w.people → v.roles ≡ w.roles → IsKnownIn w known → IsKnownIn v known
known_again w v None same same_roles of = tt
known_again w v (Some p) same same_roles of = (
  (
    subst (λ (people : List Person). option_map (λ place. place + 1) (position (has_name p.name) people) ≡ Some p.found.number) (sym same) of.0.0,
    subst (λ (people : List Person). find (has_name p.name) people ≡ Some (record { name = p.name; key = p.found.key })) (sym same) of.0.1,
  ),
  roles_again w v p.found.number p.roles same_roles of.1,
)

-- who is known after changes is the later world's
pub known_follows : (w : World) (known : Option KnownPerson) (cs : List Change) → IsKnownIn w known → IsKnownIn (changed w cs) (known_after known cs)
known_follows w known cs of =
    elim (cases_Bool (list_any touches_people cs)) [
      | inl touched ↦ rw touched tt
      | inr none ↦ rw none (known_again w (changed w cs) known (same_after w cs none) (same_roles_after w cs none) of)
    ]
