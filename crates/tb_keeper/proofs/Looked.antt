-- What is looked up is what a command looks at.
use Rattle.std.proofs.Common.{◌≡◌, ◌<◌, ◌^◌, arith, ◌∙◌, ◌==◌, inl, inr, if◌then◌else◌, ℕ, Bool, true, false, true≢false, List, [], ◌∷◌, length, Option, Some, None, Ordering, nat_eq, option_map, unwrap_or, refl, sym, ap, subst}
use Rattle.std.specs.Prelude.{IfSome, IsSome, is_some, slice_get, find as found_among}
use Rattle.std.specs.List.{AllByRecursion}
use Rattle.std.specs.Map.{lookup}
use Rattle.std.specs.Option.{option_and_then}
use Rattle.std.specs.FinMap.{entries, find, get, get-entries}
use Rattle.std.specs.Ordering.{eq_by_cmp, is_eq}
use Rattle.std.specs.declared.cmp.Ordering.TheVariants.{Less, Equal, Greater}
use Rattle.std.proofs.lemmas.Bool.{cases_Bool, eqb-true}
use Rattle.std.proofs.lemmas.Map.Views.{Contains-from_lookup}
use Rattle.std.proofs.lemmas.Slice.Eq.{bytes_eq-Decides}
use Rattle.sqlite.specs.State.{State as Database}
use Rattle.tb_board.specs.declared.board.Board.{Board}
use Rattle.tb_board.specs.declared.world.Person.{Person}
use Rattle.tb_board.specs.declared.world.Role.{Role}
use Rattle.tb_board.specs.declared.world.Role.TheVariants.{Owner}
use Rattle.tb_board.specs.declared.world.World.{World}
use Rattle.tb_board.specs.World.{find_board, has_name, key_of, number_of, role_of}
use Rattle.tb_board.proofs.Worlds.{number_found}
use Rattle.tb_cache.specs.BoardCache.{AreOf}
use Rattle.tb_calls.specs.declared.call.KeptReply.{KeptReply}
use Rattle.tb_calls.specs.Call.{CallName, State, name_cmp}
use Rattle.tb_calls.specs.Roles.{person_at}
use Rattle.tb_calls.proofs.Names.{names_exact}
use Rattle.tb_core.specs.GoodWorld.{IsGoodWorld}
use Rattle.tb_core.proofs.GoodPeople.{number_in}
use Rattle.tb_core.specs.Apply.{board_for, board_of, board_seen, board_taken, owners_for, person_for, seen_of, seen_with}
use Rattle.tb_core.specs.declared.command.Command.{Command}
use Rattle.tb_core.specs.declared.command.Command.TheVariants.{NewPerson, NewBoard, OwnKey, SetKey, SetRole, Take, OnBoard}
use Rattle.tb_core.specs.declared.look.Seen.{Seen}
use Rattle.tb_core.specs.declared.look.SeenPerson.{SeenPerson}
use Rattle.tb_core.specs.declared.look.SeenBoard.{SeenBoard}
use Rattle.tb_lookup.specs.declared.people.StoredPerson.{StoredPerson}
use Rattle.tb_lookup.specs.declared.roles.RolesFound.{RolesFound}
use Rattle.tb_lookup.specs.People.{IsPersonFound}
use Rattle.tb_lookup.specs.Roles.{AreRolesFound, role_for}
use Rattle.tb_lookup.specs.Stored.{IsKnown, IsStored}
use Rattle.tb_keeper.specs.declared.looking.Glance.{Glance}
use Rattle.tb_keeper.specs.declared.looking.Parties.{Parties}
use Rattle.tb_keeper.specs.Looking.{board_at, caller_role, takes, AreParties, IsGlance, IsGlanceAt, IsSeenAtHand}

-- ---- people

module _ (w : World) (name : List ℕ) (found : Option StoredPerson) where
  pub person_own : (p : StoredPerson) → found ≡ Some p → IsPersonFound w name found → Some (record { name = name; key = p.key }) ≡ found_among (has_name name) w.people
  person_own p is are = sym (subst (IsPersonFound w name) is are).1

  pub person_key : (p : StoredPerson) → found ≡ Some p → IsPersonFound w name found → p.key ≡ key_of w name
  person_key p is are = ap (option_and_then (λ (own : Person). own.key)) (person_own p is are)

  pub person_number : (p : StoredPerson) → found ≡ Some p → IsPersonFound w name found → Some p.number ≡ number_of w name
  person_number p is are = sym (subst (IsPersonFound w name) is are).0

  pub nobody_own : found ≡ None → IsPersonFound w name found → None ≡ found_among (has_name name) w.people
  nobody_own is are = sym (subst (IsPersonFound w name) is are).1

  pub nobody_key : found ≡ None → IsPersonFound w name found → None ≡ key_of w name
  nobody_key is are = ap (option_and_then (λ (own : Person). own.key)) (nobody_own is are)

  pub nobody_number : found ≡ None → IsPersonFound w name found → None ≡ number_of w name
  nobody_number is are = sym (subst (IsPersonFound w name) is are).0

pub number_fits : (w : World) (name : List ℕ) (n : ℕ) → IsGoodWorld w → number_of w name ≡ Some n → n < 2 ^ 32
number_fits w name n good is = let within = number_in w name n is in omega (arith, within.1, good.people)

-- ---- the first person

-- whoever has the first person's name and comes first is the first person
first_named : (name : List ℕ) (people : List Person) → option_map (λ (p : Person). p.name) (slice_get people 0) ≡ Some name → found_among (has_name name) people ≡ slice_get people 0
first_named name [] is = refl
first_named name (p ∷ people) is =
    let same : p.name ≡ name = cc in
    rw ((bytes_eq-Decides p.name name).1 same) refl

pub first_found : (w : World) (name : List ℕ) (found : Option Person) (p : Person) → found ≡ Some p → option_map (λ (p : Person). p.name) (person_at w 1) ≡ Some name → found ≡ found_among (has_name name) w.people
    → person_at w 1 ≡ Some p
first_found w name found p is named among = sym (first_named name w.people named) ∙ (sym among ∙ is)

-- ---- kept replies

equal_of : (r : Ordering) → is_eq r ≡ true → r ≡ Equal
equal_of Less h = absurd (cc)
equal_of Equal h = refl
equal_of Greater h = absurd (cc)

not_known : (o : Option ℕ) → o ≡ None → IsSome o → ⊥
not_known o none some = true≢false (sym some ∙ ap is_some none)

module _ (w : World) (name : List ℕ) (id : ℕ) (none : number_of w name ≡ None) where
  none_under : (es : List (CallName × KeptReply)) → AllByRecursion (IsKnown w) es → find name_cmp (name, id) es ≡ None
  none_under [] known = refl
  none_under (e ∷ es) known =
      elim (cases_Bool (eq_by_cmp name_cmp (name, id) e.0)) [
        | inl same ↦
            let is : (name, id) ≡ e.0 = names_exact (name, id) e.0 (equal_of (name_cmp (name, id) e.0) same) in
            let nobody : number_of w e.0.0 ≡ None = ap (λ (q : CallName). number_of w q.0) (sym is) ∙ none in
            absurd (not_known _ nobody known.0)
        | inr other ↦ rw other (none_under es known.1)
      ]

-- nothing is kept for a name that nobody has
pub nothing_kept : (s : State) (d : Database) (name : List ℕ) (id : ℕ) → IsStored s d → number_of s.world name ≡ None → None ≡ get s.kept (name, id)
nothing_kept s d name id stored none =
    sym (get-entries s.kept (name, id) ∙ none_under s.world name id none (entries s.kept) stored.rows.people)

-- ---- boards

-- a board at hand is the world's
pub at_hand_found : (w : World) (es : List (ℕ × Board)) (n : ℕ) (b : Board) → Some b ≡ lookup (nat_eq n) es → AreOf w es → Some b ≡ find_board w n
at_hand_found w es n b found are = sym (are (n, b) (Contains-from_lookup eqb-true n b es (sym found)))

-- and so is one that is seen there
pub cached_found : {R : Type 0} (w : World) (es : List (ℕ × Board)) (n : ℕ) (o : Option R) (now : R → Board) → option_map now o ≡ lookup (nat_eq n) es → AreOf w es → IfSome o (λ r. find_board w n ≡ Some (now r))
cached_found w es n None now is are = tt
cached_found w es n (Some r) now is are = sym (at_hand_found w es n (now r) is are)

-- a board that is there isn't missing
pub not_there : (o : Option Board) → None ≡ o → IsSome o → ⊥
not_there o none some = true≢false (sym some ∙ ap is_some (sym none))

-- what is put at hand is what was found
pub put_at_hand : (n : ℕ) (found : Option Board) (mid new : List (ℕ × Board)) → None ≡ lookup (nat_eq n) mid → (found ≡ None → new ≡ mid) → IfSome found (λ b. b.number ≡ n)
    → IfSome found (λ b. lookup (nat_eq b.number) new ≡ Some b) → found ≡ lookup (nat_eq n) new
put_at_hand n None mid new none same numbered there = none ∙ ap (lookup (nat_eq n)) (sym (same refl))
put_at_hand n (Some b) mid new none same numbered there = sym (subst (λ m. lookup (nat_eq m) new ≡ Some b) numbered there)

-- the board that is seen is at hand under the number that a command names
pub seen_under : (cached : List (ℕ × Board)) (o : Option ℕ) (m : ℕ) (seen : Option SeenBoard) → o ≡ Some m → IsSeenAtHand cached m seen → (n : ℕ) → o ≡ Some n → IsSeenAtHand cached n seen
seen_under cached o m seen one at n other = let same : m ≡ n = cc in subst (λ k. IsSeenAtHand cached k seen) same at

-- a board that is found has its number
pub own_number : (w : World) (n : ℕ) (o : Option Board) → o ≡ find_board w n → IfSome o (λ b. find_board w b.number ≡ Some b)
own_number w n None is = tt
own_number w n (Some b) is = ap (find_board w) (number_found n w.boards b (sym is)) ∙ sym is

-- ---- what a command looks at

role_seen : (w : World) (n : ℕ) (taken : Bool) (caller : Option ℕ) (role : Option Role) → role ≡ role_of w n (unwrap_or caller 0) → seen_with (caller_role taken caller role) (find_board w n) ≡ board_at w taken caller n
role_seen w n true None role is = refl
role_seen w n true (Some caller) role is = ap (λ o. seen_with (if caller == 1 then Some Owner else o) (find_board w n)) is
role_seen w n false None role is = refl
role_seen w n false (Some caller) role is = ap (λ o. seen_with o (find_board w n)) is

abbrev person_with : Option Role → ℕ → SeenPerson
person_with role n = record { number = n; role = role }

person_seen : (w : World) (n : ℕ) (other : Option ℕ) (role : Option Role) → role ≡ role_for w n other → option_map (person_with role) other ≡ person_for w (Some n) other
person_seen w n None role is = refl
person_seen w n (Some other) role is = ap (λ r. Some (person_with r other)) is

person_off : (w : World) (other : Option ℕ) → option_map (person_with None) other ≡ person_for w None other
person_off w None = refl
person_off w (Some other) = refl

no_board : (w : World) (caller : Option ℕ) → None ≡ board_for w caller None
no_board w None = refl
no_board w (Some caller) = refl

-- a command that names no board sees none
board_off : (w : World) (caller : Option ℕ) (c : Command) → board_of c ≡ None → None ≡ board_seen w caller c
board_off w caller (NewPerson name key) off = no_board w caller
board_off w caller (NewBoard title) off = no_board w caller
board_off w caller (OwnKey old new) off = no_board w caller
board_off w caller (SetKey name key) off = no_board w caller
board_off w caller (SetRole n name role) off = absurd (cc)
board_off w caller (Take n) off = absurd (cc)
board_off w caller (OnBoard n c) off = absurd (cc)

-- the others see the one that they name
board_on : (w : World) (caller : Option ℕ) (c : Command) (n : ℕ) → board_of c ≡ Some n → board_at w (takes c) caller n ≡ board_seen w caller c
board_on w caller (NewPerson name key) n on = absurd (cc)
board_on w caller (NewBoard title) n on = absurd (cc)
board_on w caller (OwnKey old new) n on = absurd (cc)
board_on w caller (SetKey name key) n on = absurd (cc)
board_on w caller (SetRole m name role) n on = let same : n ≡ m = cc in ap (λ k. board_for w caller (Some k)) same
board_on w caller (Take m) n on = let same : n ≡ m = cc in ap (board_taken w caller) same
board_on w caller (OnBoard m c) n on = let same : n ≡ m = cc in ap (λ k. board_for w caller (Some k)) same

-- the glance at a board
pub glance_at : (w : World) (n : ℕ) (taken : Bool) (parties : Parties) (caller : ℕ) (roles : RolesFound) (role : Option Role) (seen : Option SeenBoard) (other : Option SeenPerson) → caller ≡ unwrap_or parties.caller 0
    → AreRolesFound w n caller parties.other roles → role ≡ caller_role taken parties.caller roles.caller → seen ≡ seen_with role (find_board w n) → other ≡ option_map (person_with roles.other) parties.other
    → IsGlanceAt w n taken parties (record { caller = parties.caller; own = parties.own; board = seen; other = other; owners = roles.owners })
glance_at w n taken parties caller roles role seen other caller_is found role_is seen_is other_is = record {
  caller_is = refl;
  own_is = refl;
  board_is = seen_is ∙ ap (λ o. seen_with o (find_board w n)) role_is ∙ role_seen w n taken parties.caller roles.caller (found.caller_is ∙ ap (role_of w n) caller_is);
  other_is = other_is ∙ person_seen w n parties.other roles.other found.other_is;
  owners_are = found.owners_are;
}

-- where a command names a board
pub glance_on : (w : World) (name : List ℕ) (c : Command) (parties : Parties) (glance : Glance) (n : ℕ) → board_of c ≡ Some n → AreParties w name c parties → IsGlanceAt w n (takes c) parties glance → IsGlance w name c glance
glance_on w name c parties glance n on are at = record {
  caller_is = at.caller_is ∙ are.caller_is;
  own_is = at.own_is ∙ are.own_is;
  board_is = at.board_is ∙ ap (λ o. board_at w (takes c) o n) are.caller_is ∙ board_on w (number_of w name) c n on;
  other_is = at.other_is ∙ (λ i. person_for w (sym on i) (are.other_is i));
  owners_are = at.owners_are ∙ ap (owners_for w) (sym on);
}

-- and where it names none
pub glance_off : (w : World) (name : List ℕ) (c : Command) (parties : Parties) (other : Option SeenPerson) → board_of c ≡ None → AreParties w name c parties → other ≡ option_map (person_with None) parties.other
    → IsGlance w name c (record { caller = parties.caller; own = parties.own; board = None; other = other; owners = 0 })
glance_off w name c parties other off are other_is = record {
  caller_is = are.caller_is;
  own_is = are.own_is;
  board_is = board_off w (number_of w name) c off;
  other_is = other_is ∙ person_off w parties.other ∙ (λ i. person_for w (sym off i) (are.other_is i));
  owners_are = ap (owners_for w) (sym off);
}

-- with how many people and boards there are it is all that a command looks at
pub all_seen : (w : World) (name : List ℕ) (c : Command) (glance : Glance) (people boards : ℕ) (seen : Seen)
    → seen ≡ record { caller = glance.caller; own = glance.own; board = glance.board; other = glance.other; owners = glance.owners; people = people; boards = boards } → people ≡ length w.people → boards ≡ length w.boards → IsGlance w name c glance → seen ≡ seen_of w name c
all_seen w name c glance people boards seen is of_people of_boards at = is ∙ same
  where
    same : record { caller = glance.caller; own = glance.own; board = glance.board; other = glance.other; owners = glance.owners; people = people; boards = boards } ≡ seen_of w name c
    same = λ i.
        let now : Seen = record { caller = at.caller_is i; own = at.own_is i; board = at.board_is i; other = at.other_is i; owners = at.owners_are i; people = of_people i; boards = of_boards i } in
        now
