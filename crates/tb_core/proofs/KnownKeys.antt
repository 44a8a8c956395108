-- Who is known stays known, until a key is set.
use Rattle.std.proofs.Common.{◌≡◌, ℕ, ◌+◌, ◌==◌, ◌||◌, Bool, true, false, not, true≢false, List, [], ◌∷◌, ◌++◌, Option, Some, None, Result, Ok, Err, find, option_and_then, if◌then◌else◌, refl, sym, ◌∙◌, ap, subst, inl, inr}
use Rattle.std.specs.Str.{bytes_eq}
use Rattle.std.proofs.lemmas.Bool.{cases_Bool}
use Rattle.std.proofs.lemmas.Cmp.{nat_list_eq_equiv}
use Rattle.std.proofs.lemmas.Slice.Eq.{bytes_eq-Decides}
use Rattle.std.specs.Cmp.{nat_eq_equiv}
use Rattle.tb_board.specs.declared.board.Board.{Board}
use Rattle.tb_board.specs.declared.world.Person.{Person}
use Rattle.tb_board.specs.declared.world.Role.{Role}
use Rattle.tb_board.specs.declared.world.Role.TheVariants.{Owner}
use Rattle.tb_board.specs.declared.world.World.{World}
use Rattle.tb_board.specs.Changing.{set_key, with_key}
use Rattle.tb_board.specs.World.{has_key, has_name, key_of, number_of}
use Rattle.tb_core.specs.declared.command.Answer.{Answer}
use Rattle.tb_core.specs.declared.command.Answer.TheVariants as Answers
use Rattle.tb_core.specs.declared.command.BoardAnswer.{BoardAnswer}
use Rattle.tb_core.specs.declared.command.Command.TheVariants as Commands
use Rattle.tb_core.specs.declared.look.Seen.{Seen}
use Rattle.tb_core.specs.declared.look.SeenBoard.{SeenBoard}
use Rattle.tb_core.specs.declared.look.SeenPerson.{SeenPerson}
use Rattle.tb_core.specs.declared.refusal.Refusal.{Refusal}
use Rattle.tb_core.specs.declared.refusal.Refusal.TheVariants.{KeyDiffers, NoPerson, NotAllowed}
use Rattle.tb_core.specs.Apply.{applied, board_for, board_taken, decided, person_for, role_answer, role_given, role_refusals, seen_of, take_refusals, taken, with_role}
use Rattle.tb_core.specs.GoodLaws.{KeepsCaller, KeepsKeys, key_after}
use Rattle.tb_core.specs.Keys.{is_first, key_given, key_refusals, own_key, own_refusals, with_key_of}
use Rattle.tb_core.specs.Outcomes.{given}
use Rattle.tb_core.specs.Owners.{person_number}
use Rattle.tb_core.specs.People.{board_refusals, new_board, new_person, person_refusals, with_new_board, with_person}
use Rattle.tb_core.specs.Refusals.{least, where_holds}
use Rattle.tb_sweep.specs.Sweeping.{sweep}

-- ---- the person of a name, and the key

key_in : Option Person → Option (List ℕ)
key_in found = option_and_then (λ (p : Person). p.key) found

-- whoever is found stays the first of that name where another one comes
still_there : (test : Person → Bool) (people : List Person) (p : Person) (key : List ℕ)
    → option_and_then (λ (q : Person). q.key) (find test people) ≡ Some key → option_and_then (λ (q : Person). q.key) (find test (people ++ p ∷ [])) ≡ Some key
still_there test [] p key h = absurd (cc)
still_there test (q ∷ qs) p key h =
    elim (cases_Bool (test q)) [
      | inl here ↦ let found : q.key ≡ Some key = rw here at h in rw here found
      | inr other ↦ let later : option_and_then (λ (q : Person). q.key) (find test qs) ≡ Some key = rw other at h in rw other (still_there test qs p key later)
    ]

named : (name : List ℕ) (people : List Person) (p : Person) → find (has_name name) people ≡ Some p → p.name ≡ name
named name [] p h = absurd (cc)
named name (q ∷ qs) p h =
    elim (cases_Bool (has_name name q)) [
      | inl here ↦
          let found : Some q ≡ Some p = rw here at h in
          let is : q ≡ p = cc in
          subst (λ (x : Person). x.name ≡ name) is ((bytes_eq-Decides q.name name).0 here)
      | inr other ↦ let later : find (has_name name) qs ≡ Some p = rw other at h in named name qs p later
    ]

-- the first of another name keeps the key
other_key : (other : List ℕ) (key : Option (List ℕ)) (name : List ℕ) (people : List Person) → bytes_eq other name ≡ false
    → option_and_then (λ (q : Person). q.key) (find (has_name name) (set_key other key people)) ≡ option_and_then (λ (q : Person). q.key) (find (has_name name) people)
other_key other key name [] apart = refl
other_key other key name (p ∷ ps) apart =
    elim (cases_Bool (has_name other p)) [
      | inl here ↦
          let is : p.name ≡ other = (bytes_eq-Decides p.name other).0 here in
          let passed : bytes_eq p.name name ≡ false = ap (λ (n : List ℕ). bytes_eq n name) is ∙ apart in
          rw (here, passed) refl
      | inr differs ↦ elim (cases_Bool (has_name name p)) [
        | inl found ↦ rw (differs, found) refl
        | inr later ↦ rw (differs, later) (other_key other key name ps apart)
      ]
    ]

-- the first of the name has it
set_found : (name : List ℕ) (key : Option (List ℕ)) (people : List Person) (p : Person) → find (has_name name) people ≡ Some p
    → find (has_name name) (set_key name key people) ≡ Some (with_key key p)
set_found name key [] p h = absurd (cc)
set_found name key (q ∷ qs) p h =
    elim (cases_Bool (has_name name q)) [
      | inl here ↦
          let found : Some q ≡ Some p = rw here at h in
          let is : q ≡ p = cc in
          rw (here, here) (ap (λ (x : Person). Some (with_key key x)) is)
      | inr other ↦ let later : find (has_name name) qs ≡ Some p = rw other at h in rw (other, other) (set_found name key qs p later)
    ]

-- ---- what each command leaves

same_people : (w : World) (r : Result (Board × BoardAnswer) Refusal) → (applied w r).world.people ≡ w.people
same_people w (Ok r) = refl
same_people w (Err refusal) = refl

known_given : (o : Option Refusal) (w v : World) (a : Answer) (person key : List ℕ) → key_of w person ≡ Some key → key_of v person ≡ Some key → key_of (given o w v a).world person ≡ Some key
known_given None w v a person key known later = later
known_given (Some refusal) w v a person key known later = known

known_role : (w : World) (seen : Seen) (caller : Option ℕ) (b : Option SeenBoard) (role : Option Role) (m : ℕ) (person key : List ℕ) → key_of w person ≡ Some key
    → key_of (role_given w seen caller b role m).world person ≡ Some key
known_role w seen None b role m person key known = known
known_role w seen (Some caller) None role m person key known = known
known_role w seen (Some caller) (Some b) role m person key known =
    known_given (least (role_refusals seen b role)) w (with_role w (sweep b.board m) (person_number seen.other) role) (role_answer b.board m) person key known known

known_taken : (w : World) (caller : Option ℕ) (b : Option SeenBoard) (m : ℕ) (person key : List ℕ) → key_of w person ≡ Some key
    → key_of (taken w caller b m).world person ≡ Some key
known_taken w None b m person key known = known
known_taken w (Some caller) None m person key known = known
known_taken w (Some caller) (Some b) m person key known =
    known_given (least (take_refusals caller)) w (with_role w (sweep b.board m) caller (Some Owner)) (role_answer b.board m) person key known known

known_person : (w : World) (seen : Seen) (caller : Option ℕ) (p k : List ℕ) (person key : List ℕ) → key_of w person ≡ Some key
    → key_of (new_person w seen caller p k).world person ≡ Some key
known_person w seen None p k person key known = known
known_person w seen (Some caller) p k person key known =
    known_given (least (person_refusals seen caller)) w (with_person w p k) (Answers.OfPerson p) person key known
    (still_there (has_name person) w.people (record { name = p; key = Some k }) key known)

known_board : (w : World) (seen : Seen) (caller : Option ℕ) (title : List ℕ) (person key : List ℕ) → key_of w person ≡ Some key
    → key_of (new_board w seen caller title).world person ≡ Some key
known_board w seen None title person key known = known
known_board w seen (Some caller) title person key known =
    known_given (least (board_refusals seen)) w (with_new_board w (seen.boards + 1) caller title) (Answers.NewBoard (seen.boards + 1)) person key known known

-- where somebody else's key is set
known_other : (o : Option Refusal) (w : World) (other : List ℕ) (set : Option (List ℕ)) (a : Answer) (person key : List ℕ) → bytes_eq other person ≡ false → key_of w person ≡ Some key
    → key_of (given o w (with_key_of w other set) a).world person ≡ Some key
known_other o w other set a person key apart known =
    known_given o w (with_key_of w other set) a person key known (other_key other set person w.people apart ∙ known)

known_set : (w : World) (seen : Seen) (caller : Option ℕ) (other : List ℕ) (set : Option (List ℕ)) (person key : List ℕ) → bytes_eq other person ≡ false → key_of w person ≡ Some key
    → key_of (key_given w seen caller other set).world person ≡ Some key
known_set w seen None other set person key apart known = known
known_set w seen (Some caller) other set person key apart known =
    known_other (least (key_refusals seen caller)) w other set (Answers.OfPerson other) person key apart known

known_own : (w : World) (name : List ℕ) (own : Option Person) (old new : List ℕ) (person key : List ℕ) → find (has_name name) w.people ≡ own → bytes_eq name person ≡ false
    → key_of w person ≡ Some key → key_of (own_key w own old new).world person ≡ Some key
known_own w name None old new person key found apart known = known
known_own w name (Some p) old new person key found apart known =
    let is : bytes_eq p.name person ≡ false = ap (λ (n : List ℕ). bytes_eq n person) (named name w.people p found) ∙ apart in
    known_other (least (own_refusals p old)) w p.name (Some new) (Answers.OfPerson p.name) person key is known

pub keeps_keys : KeepsKeys
keeps_keys w name (Commands.NewPerson p k) m person key may known =
    let seen = seen_of w name (Commands.NewPerson p k) in known_person w seen seen.caller p k person key known
keeps_keys w name (Commands.NewBoard title) m person key may known =
    let seen = seen_of w name (Commands.NewBoard title) in known_board w seen seen.caller title person key known
keeps_keys w name (Commands.OwnKey old new) m person key may known =
    known_own w name (find (has_name name) w.people) old new person key refl may known
keeps_keys w name (Commands.SetKey other set) m person key may known =
    let seen = seen_of w name (Commands.SetKey other set) in known_set w seen seen.caller other set person key may known
keeps_keys w name (Commands.SetRole n other role) m person key may known =
    let seen = seen_of w name (Commands.SetRole n other role) in known_role w seen seen.caller seen.board role m person key known
keeps_keys w name (Commands.Take n) m person key may known = known_taken w (number_of w name) (board_taken w (number_of w name) n) m person key known
keeps_keys w name (Commands.OnBoard n c) m person key may known =
    rw (same_people w (decided (number_of w name) (board_for w (number_of w name) (Some n)) c m)) known

-- ---- the caller

refused_first : (b : Bool) → (not b || b) ≡ true
refused_first true = refl
refused_first false = refl

-- nobody sets the own key as another's
own_refused : (w : World) (seen : Seen) (caller : Option ℕ) (name : List ℕ) (set : Option (List ℕ)) (key : List ℕ) → seen.other ≡ person_for w None caller
    → key_of w name ≡ Some key → key_of (key_given w seen caller name set).world name ≡ Some key
own_refused w seen None name set key other known = known
own_refused w seen (Some caller) name set key other known =
    let refused : (not (caller == 1) || is_first seen.other) ≡ true = ap (λ (p : Option SeenPerson). not (caller == 1) || is_first p) other ∙ refused_first (caller == 1) in
    rw refused known

-- the change of the own key, of a caller who has this one
own_changed : (w : World) (name : List ℕ) (p : Person) (old new key : List ℕ) → find (has_name name) w.people ≡ Some p → p.key ≡ Some key
    → key_of (own_key w (Some p) old new).world name ≡ Some (key_after (Some (old, new)) key)
own_changed w name p old new key found is =
    let asked : has_key p.key old ≡ bytes_eq old key = ap (λ (k : Option (List ℕ)). has_key k old) is ∙ nat_list_eq_equiv.symm key old in
    elim (cases_Bool (bytes_eq old key)) [
      | inl same ↦
          let accepted : has_key p.key old ≡ true = asked ∙ same in
          let set : find (has_name name) (set_key p.name (Some new) w.people) ≡ Some (with_key (Some new) p)
          = ap (λ (n : List ℕ). find (has_name name) (set_key n (Some new) w.people)) (named name w.people p found) ∙ set_found name (Some new) w.people p found in
          rw (accepted, same, set) refl
      | inr differs ↦
          let refused : has_key p.key old ≡ false = asked ∙ differs in
          rw (refused, differs, found) is
    ]

changed_by_own : (w : World) (name : List ℕ) (own : Option Person) (old new key : List ℕ) → find (has_name name) w.people ≡ own
    → option_and_then (λ (q : Person). q.key) own ≡ Some key → key_of (own_key w own old new).world name ≡ Some (key_after (Some (old, new)) key)
changed_by_own w name None old new key found known = absurd (cc)
changed_by_own w name (Some p) old new key found known = own_changed w name p old new key found known

pub keeps_caller : KeepsCaller
keeps_caller w name key (Commands.NewPerson p k) m known = keeps_keys w name (Commands.NewPerson p k) m name key refl known
keeps_caller w name key (Commands.NewBoard title) m known = keeps_keys w name (Commands.NewBoard title) m name key refl known
keeps_caller w name key (Commands.OwnKey old new) m known = changed_by_own w name (find (has_name name) w.people) old new key refl known
keeps_caller w name key (Commands.SetKey other set) m known =
    elim (cases_Bool (bytes_eq other name)) [
      | inl same ↦
          let is : other ≡ name = (bytes_eq-Decides other name).0 same in
          let seen = seen_of w name (Commands.SetKey other set) in
          subst (λ (n : List ℕ). key_of (key_given w seen (number_of w name) n set).world name ≡ Some key) (sym is)
          (own_refused w seen (number_of w name) name set key (ap (λ (n : List ℕ). person_for w None (number_of w n)) is) known)
      | inr apart ↦ keeps_keys w name (Commands.SetKey other set) m name key apart known
    ]
keeps_caller w name key (Commands.SetRole n other role) m known = keeps_keys w name (Commands.SetRole n other role) m name key refl known
keeps_caller w name key (Commands.Take n) m known = keeps_keys w name (Commands.Take n) m name key refl known
keeps_caller w name key (Commands.OnBoard n c) m known = keeps_keys w name (Commands.OnBoard n c) m name key refl known
