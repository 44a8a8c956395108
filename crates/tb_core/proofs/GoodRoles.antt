-- What setting a role keeps of the roles.
use Rattle.std.proofs.Common.{◌≡◌, ℕ, ◌+◌, ◌≤◌, ◌<◌, ◌==◌, ◌&&◌, ◌||◌, Bool, true, false, List, [], ◌∷◌, Option, Some, None, find, cond, refl, sym, ◌∙◌, ap, arith, subst, true≢false, inl, inr, nat_le, Less, Equal}
use Rattle.std.specs.List.{AllByRecursion, count_by, list_any}
use Rattle.std.specs.List.Sorted.{IsStrictlySortedBy}
use Rattle.std.specs.Cmp.{nat_eq_equiv}
use Rattle.std.specs.Ordering.{is_eq}
use Rattle.std.specs.Option.{option_map}
use Rattle.std.specs.Set.{remove_key}
use Rattle.std.proofs.lemmas.Bool.{cases_Bool, eqb-true, leb-false}
use Rattle.std.proofs.lemmas.Cmp.{tied_back}
use Rattle.std.proofs.lemmas.List.Sums.{sum_by-cons}
use Rattle.tb_board.specs.declared.world.Role.{Role}
use Rattle.tb_board.specs.declared.world.Role.TheVariants.{Owner, Member, Reader}
use Rattle.tb_board.specs.declared.world.RoleOn.{RoleOn}
use Rattle.tb_board.specs.First.{change_first}
use Rattle.tb_core.specs.Owners.{is_owners, leaves_none}
use Rattle.tb_board.specs.Roles.{comes_before, role_order, set_role, with_new_role}
use Rattle.tb_board.specs.World.{is_owner, is_role_of, owns}
use Rattle.tb_board.proofs.Pairs.{comes_after, is_less, same_pair}
use Rattle.tb_board.proofs.RoleOrder.{role_total}

both : (p q : Bool) → (p && q) ≡ true → (p ≡ true) × (q ≡ true)
both true q h = (refl, h)
both false q h = absurd (true≢false (sym h))

-- a role of that person on that board
is_that : (b p : ℕ) (r : RoleOn) → is_role_of b p r ≡ true → (r.board ≡ b) × (r.person ≡ p)
is_that b p r h =
    let parts = both (r.board == b) (r.person == p) h in
    (eqb-true r.board b parts.0, eqb-true r.person p parts.1)

with_role : Role → RoleOn → RoleOn
with_role role r = record r { role = role }

all-removed : (P : RoleOn → Type 0) (test : RoleOn → Bool) (rs : List RoleOn) → AllByRecursion P rs → AllByRecursion P (remove_key test rs)
all-removed P test [] h = tt
all-removed P test (r ∷ rs) h =
    elim (cases_Bool (test r)) [
      | inl here ↦ rw here h.1
      | inr other ↦ rw other (h.0, all-removed P test rs h.1)
    ]

all-changed : (P : RoleOn → Type 0) (test : RoleOn → Bool) (f : RoleOn → RoleOn) (rs : List RoleOn) → ((r : RoleOn) → P r → P (f r)) → AllByRecursion P rs → AllByRecursion P (change_first test f rs)
all-changed P test f [] keeps h = tt
all-changed P test f (r ∷ rs) keeps h =
    elim (cases_Bool (test r)) [
      | inl here ↦ rw here (keeps r h.0, h.1)
      | inr other ↦ rw other (h.0, all-changed P test f rs keeps h.1)
    ]

pub all-new : (P : RoleOn → Type 0) (r : RoleOn) (rs : List RoleOn) → AllByRecursion P rs → P r → AllByRecursion P (with_new_role rs r)
all-new P r [] h p = (p, tt)
all-new P r (s ∷ ss) h p =
    elim (cases_Bool (comes_before r s)) [
      | inl here ↦ rw here (p, h)
      | inr other ↦ rw other (h.0, all-new P r ss h.1 p)
    ]

-- what doesn't look at the role holds of each, where it holds of the new one
pub all-set : (P : RoleOn → Type 0) (rs : List RoleOn) (b p : ℕ) (o : Option Role) → ((r : RoleOn) (role : Role) → o ≡ Some role → P r → P (record r { role = role }))
    → ((role : Role) → o ≡ Some role → P (record { board = b; person = p; role = role })) → AllByRecursion P rs → AllByRecursion P (set_role rs b p o)
all-set P rs b p None keeps new h = all-removed P (is_role_of b p) rs h
all-set P rs b p (Some role) keeps new h =
    elim (cases_Bool (list_any (is_role_of b p) rs)) [
      | inl there ↦ rw there (all-changed P (is_role_of b p) (λ r. record r { role = role }) rs (λ r. keeps r role refl) h)
      | inr none ↦ rw none (all-new P (record { board = b; person = p; role = role }) rs h (new role refl))
    ]

sorted-removed : (test : RoleOn → Bool) (rs : List RoleOn) → IsStrictlySortedBy role_order rs → IsStrictlySortedBy role_order (remove_key test rs)
unfolding IsStrictlySortedBy
sorted-removed test [] h = h
sorted-removed test (r ∷ rs) h =
    elim (cases_Bool (test r)) [
      | inl here ↦ rw here h.1
      | inr other ↦ rw other (all-removed (λ y. role_order r y ≡ Less) test rs h.0, sorted-removed test rs h.1)
    ]

sorted-changed : (test : RoleOn → Bool) (role : Role) (rs : List RoleOn) → IsStrictlySortedBy role_order rs
    → IsStrictlySortedBy role_order (change_first test (λ r. record r { role = role }) rs)
unfolding IsStrictlySortedBy
sorted-changed test role [] h = h
sorted-changed test role (r ∷ rs) h =
    elim (cases_Bool (test r)) [
      | inl here ↦ rw here h
      | inr other ↦
          rw other (all-changed (λ y. role_order r y ≡ Less) test (λ y. record y { role = role }) rs (λ y less. less) h.0, sorted-changed test role rs h.1)
    ]

-- what comes before another role comes before all that follow it
all_later : (r s : RoleOn) (ss : List RoleOn) → role_order r s ≡ Less → AllByRecursion (λ y. role_order s y ≡ Less) ss → AllByRecursion (λ y. role_order r y ≡ Less) ss
all_later r s [] less h = tt
all_later r s (y ∷ ys) less h = (role_total.trans r s y less h.0, all_later r s ys less h.1)

of_one_place : (r s : RoleOn) → role_order r s ≡ Equal → is_role_of r.board r.person s ≡ true
of_one_place r s same = sym (same_pair s.board r.board s.person r.person) ∙ ap is_eq (tied_back role_total r s same)

neither : (p q : Bool) → (p || q) ≡ false → (p ≡ false) × (q ≡ false)
neither true q h = absurd (true≢false h)
neither false q h = (refl, h)

-- none stands on that place
sorted-new : (r : RoleOn) (rs : List RoleOn) → list_any (is_role_of r.board r.person) rs ≡ false → IsStrictlySortedBy role_order rs
    → IsStrictlySortedBy role_order (with_new_role rs r)
unfolding IsStrictlySortedBy
sorted-new r [] none h = (tt, tt)
sorted-new r (s ∷ ss) none h =
    let parts = neither (is_role_of r.board r.person s) (list_any (is_role_of r.board r.person) ss) none in
    elim (cases_Bool (comes_before r s)) [
      | inl here ↦
          let less : role_order r s ≡ Less = is_less (role_order r s) here in
          rw here ((less, all_later r s ss less h.0), h)
      | inr other ↦
          let less : role_order s r ≡ Less = comes_after role_total r s (role_order r s) refl other (λ same. true≢false (sym (of_one_place r s same) ∙ parts.0)) in
          rw other (all-new (λ y. role_order s y ≡ Less) r ss h.0 less, sorted-new r ss parts.1 h.1)
    ]

pub sorted-set : (rs : List RoleOn) (b p : ℕ) (o : Option Role) → IsStrictlySortedBy role_order rs → IsStrictlySortedBy role_order (set_role rs b p o)
sorted-set rs b p None h = sorted-removed (is_role_of b p) rs h
sorted-set rs b p (Some role) h =
    elim (cases_Bool (list_any (is_role_of b p) rs)) [
      | inl there ↦ rw there (sorted-changed (is_role_of b p) role rs h)
      | inr none ↦ rw none (sorted-new (record { board = b; person = p; role = role }) rs none h)
    ]

-- one more where it holds
abbrev one_if : Bool → ℕ
one_if b = cond b 1 0

count_cons : (q : RoleOn → Bool) (r : RoleOn) (rs : List RoleOn) → count_by q (r ∷ rs) ≡ one_if (q r) + count_by q rs
count_cons q r rs = sum_by-cons (λ x. cond (q x) 1 0) r rs

pub any_count : (q : RoleOn → Bool) (rs : List RoleOn) → 1 ≤ count_by q rs → list_any q rs ≡ true
any_count q [] h = absurd (omega (arith, h))
any_count q (r ∷ rs) h =
    elim (cases_Bool (q r)) [
      | inl here ↦ rw here refl
      | inr other ↦
          let count : count_by q (r ∷ rs) ≡ 0 + count_by q rs = count_cons q r rs ∙ ap (λ b. one_if b + count_by q rs) other in
          rw other (any_count q rs (omega (arith, h, count)))
    ]

pub count_any : (q : RoleOn → Bool) (rs : List RoleOn) → list_any q rs ≡ true → 1 ≤ count_by q rs
count_any q [] h = absurd (true≢false (sym h))
count_any q (r ∷ rs) h =
    elim (cases_Bool (q r)) [
      | inl here ↦
          let count : count_by q (r ∷ rs) ≡ 1 + count_by q rs = count_cons q r rs ∙ ap (λ b. one_if b + count_by q rs) here in
          omega (arith, count)
      | inr other ↦
          let rest : list_any q rs ≡ true = rw other at h in
          let count : count_by q (r ∷ rs) ≡ 0 + count_by q rs = count_cons q r rs ∙ ap (λ b. one_if b + count_by q rs) other in
          omega (arith, count, count_any q rs rest)
    ]

count-removed : (q test : RoleOn → Bool) (rs : List RoleOn) (x : RoleOn) → find test rs ≡ Some x → count_by q rs ≡ one_if (q x) + count_by q (remove_key test rs)
count-removed q test [] x h = absurd (cc)
count-removed q test (r ∷ rs) x h =
    elim (cases_Bool (test r)) [
      | inl here ↦
          let found : Some r ≡ Some x = rw here at h in
          let is : r ≡ x = cc in
          rw here (count_cons q r rs ∙ ap (λ y. one_if (q y) + count_by q rs) is)
      | inr other ↦
          let later : find test rs ≡ Some x = rw other at h in
          let rest = count-removed q test rs x later in
          rw other (omega (arith, rest, count_cons q r rs, count_cons q r (remove_key test rs)))
    ]

count-changed : (q test : RoleOn → Bool) (f : RoleOn → RoleOn) (rs : List RoleOn) (x : RoleOn) → find test rs ≡ Some x
    → one_if (q (f x)) + count_by q rs ≡ one_if (q x) + count_by q (change_first test f rs)
count-changed q test f [] x h = absurd (cc)
count-changed q test f (r ∷ rs) x h =
    elim (cases_Bool (test r)) [
      | inl here ↦
          let found : Some r ≡ Some x = rw here at h in
          let is : r ≡ x = cc in
          rw (here, ← is) (omega (arith, count_cons q r rs, count_cons q (f r) rs))
      | inr other ↦
          let later : find test rs ≡ Some x = rw other at h in
          let rest = count-changed q test f rs x later in
          rw other (omega (arith, rest, count_cons q r rs, count_cons q r (change_first test f rs)))
    ]

removed-none : (test : RoleOn → Bool) (rs : List RoleOn) → find test rs ≡ None → remove_key test rs ≡ rs
removed-none test [] h = refl
removed-none test (r ∷ rs) h =
    elim (cases_Bool (test r)) [
      | inl here ↦ let wrong : Some r ≡ None = rw here at h in absurd (cc)
      | inr other ↦ let rest : find test rs ≡ None = rw other at h in rw other (ap (λ ys. r ∷ ys) (removed-none test rs rest))
    ]

any-found : (test : RoleOn → Bool) (rs : List RoleOn) (x : RoleOn) → find test rs ≡ Some x → list_any test rs ≡ true
any-found test [] x h = absurd (cc)
any-found test (r ∷ rs) x h =
    elim (cases_Bool (test r)) [
      | inl here ↦ rw here refl
      | inr other ↦ let later : find test rs ≡ Some x = rw other at h in rw other (any-found test rs x later)
    ]

none-found : (test : RoleOn → Bool) (rs : List RoleOn) → find test rs ≡ None → list_any test rs ≡ false
none-found test [] h = refl
none-found test (r ∷ rs) h =
    elim (cases_Bool (test r)) [
      | inl here ↦ let wrong : Some r ≡ None = rw here at h in absurd (cc)
      | inr other ↦ let rest : find test rs ≡ None = rw other at h in rw other (none-found test rs rest)
    ]

found-passes : (test : RoleOn → Bool) (rs : List RoleOn) (x : RoleOn) → find test rs ≡ Some x → test x ≡ true
found-passes test [] x h = absurd (cc)
found-passes test (r ∷ rs) x h =
    elim (cases_Bool (test r)) [
      | inl here ↦
          let found : Some r ≡ Some x = rw here at h in
          let is : r ≡ x = cc in
          subst (λ y. test y ≡ true) is here
      | inr other ↦ let later : find test rs ≡ Some x = rw other at h in found-passes test rs x later
    ]

survives-removed : (q test : RoleOn → Bool) (rs : List RoleOn) (x : RoleOn) → find test rs ≡ Some x → 1 ≤ count_by q rs → (q x ≡ true → 2 ≤ count_by q rs)
    → 1 ≤ count_by q (remove_key test rs)
survives-removed q test rs x found one two =
    let count = count-removed q test rs x found in
    elim (cases_Bool (q x)) [
      | inl here ↦ let count' : count_by q rs ≡ 1 + count_by q (remove_key test rs) = rw here at count in omega (arith, count', two here)
      | inr other ↦ let count' : count_by q rs ≡ 0 + count_by q (remove_key test rs) = rw other at count in omega (arith, count', one)
    ]

survives-changed : (q test : RoleOn → Bool) (f : RoleOn → RoleOn) (rs : List RoleOn) (x : RoleOn) → find test rs ≡ Some x → 1 ≤ count_by q rs
    → (q x ≡ true → q (f x) ≡ false → 2 ≤ count_by q rs) → 1 ≤ count_by q (change_first test f rs)
survives-changed q test f rs x found one two =
    let count = count-changed q test f rs x found in
    elim (cases_Bool (q x)) [
      | inl here ↦ elim (cases_Bool (q (f x))) [
        | inl new ↦ let count' : 1 + count_by q rs ≡ 1 + count_by q (change_first test f rs) = rw (here, new) at count in omega (arith, count', one)
        | inr lost ↦ let count' : 0 + count_by q rs ≡ 1 + count_by q (change_first test f rs) = rw (here, lost) at count in omega (arith, count', two here lost)
      ]
      | inr other ↦ let count' : one_if (q (f x)) + count_by q rs ≡ 0 + count_by q (change_first test f rs) = rw other at count in omega (arith, count', one)
    ]

-- an owner among others, where the board is not left without
two_owners : (rs : List RoleOn) (b p : ℕ) (x : RoleOn) (o : Option Role) (c : ℕ) → find (is_role_of b p) rs ≡ Some x
    → leaves_none (Some (record { number = p; role = Some x.role })) o (count_by (owns b) rs) ≡ false → is_owners o ≡ false → owns c x ≡ true
    → 2 ≤ count_by (owns c) rs
two_owners rs b p x o c found stays none owned =
    let parts = both (x.board == c) (is_owner x.role) owned in
    let that = is_that b p x (found-passes (is_role_of b p) rs x found) in
    let same : b ≡ c = sym that.0 ∙ eqb-true x.board c parts.0 in
    let few : nat_le (count_by (owns b) rs) 1 ≡ false = rw (parts.1, none) at stays in
    let more : 1 < count_by (owns b) rs = leb-false (count_by (owns b) rs) 1 few in
    subst (λ n. 2 ≤ count_by (owns n) rs) same (omega (arith, more))

or_true : (p q : Bool) → q ≡ true → (p || q) ≡ true
or_true true q h = refl
or_true false q h = h

-- with a new role the others are still there
any-old : (q : RoleOn → Bool) (r : RoleOn) (rs : List RoleOn) → list_any q rs ≡ true → list_any q (with_new_role rs r) ≡ true
any-old q r [] h = absurd (true≢false (sym h))
any-old q r (s ∷ ss) h =
    elim (cases_Bool (comes_before r s)) [
      | inl here ↦ rw here (or_true (q r) (list_any q (s ∷ ss)) h)
      | inr other ↦ rw other (elim (cases_Bool (q s)) [
        | inl passes ↦ rw passes refl
        | inr fails ↦ let rest : list_any q ss ≡ true = rw fails at h in or_true (q s) (list_any q (with_new_role ss r)) (any-old q r ss rest)
      ])
    ]

any-new : (q : RoleOn → Bool) (r : RoleOn) (rs : List RoleOn) → q r ≡ true → list_any q (with_new_role rs r) ≡ true
any-new q r [] h = rw h refl
any-new q r (s ∷ ss) h =
    elim (cases_Bool (comes_before r s)) [
      | inl here ↦ rw (here, h) refl
      | inr other ↦ rw other (or_true (q s) (list_any q (with_new_role ss r)) (any-new q r ss h))
    ]

seen_role : List RoleOn → ℕ → ℕ → Option Role
seen_role rs b p = option_map (λ (r : RoleOn). r.role) (find (is_role_of b p) rs)

owner-removed : (rs : List RoleOn) (b p c : ℕ) (o : Option RoleOn) → find (is_role_of b p) rs ≡ o → list_any (owns c) rs ≡ true
    → leaves_none (Some (record { number = p; role = option_map (λ (r : RoleOn). r.role) o })) None (count_by (owns b) rs) ≡ false
    → list_any (owns c) (remove_key (is_role_of b p) rs) ≡ true
owner-removed rs b p c None found owned stays = rw (removed-none (is_role_of b p) rs found) owned
owner-removed rs b p c (Some x) found owned stays =
    any_count (owns c) (remove_key (is_role_of b p) rs)
    (survives-removed (owns c) (is_role_of b p) rs x found (count_any (owns c) rs owned) (λ here. two_owners rs b p x None c found stays refl here))

lost_role : (c : ℕ) (x : RoleOn) (role : Role) → owns c x ≡ true → owns c (record x { role = role }) ≡ false → is_owner role ≡ false
lost_role c x role here lost =
    let parts = both (x.board == c) (is_owner x.role) here in
    rw parts.0 at lost

owner-changed : (rs : List RoleOn) (b p c : ℕ) (role : Role) (o : Option RoleOn) → find (is_role_of b p) rs ≡ o → list_any (owns c) rs ≡ true
    → leaves_none (Some (record { number = p; role = option_map (λ (r : RoleOn). r.role) o })) (Some role) (count_by (owns b) rs) ≡ false
    → list_any (owns c) (set_role rs b p (Some role)) ≡ true
owner-changed rs b p c role None found owned stays =
    rw (none-found (is_role_of b p) rs found) (any-old (owns c) (record { board = b; person = p; role = role }) rs owned)
owner-changed rs b p c role (Some x) found owned stays =
    rw (any-found (is_role_of b p) rs x found)
    (any_count (owns c) (change_first (is_role_of b p) (λ r. record r { role = role }) rs)
    (survives-changed (owns c) (is_role_of b p) (λ r. record r { role = role }) rs x found (count_any (owns c) rs owned)
    (λ here lost. two_owners rs b p x (Some role) c found stays (lost_role c x role here lost) here)))

pub owner_stays : (rs : List RoleOn) (b p c : ℕ) (o : Option Role) → list_any (owns c) rs ≡ true
    → leaves_none (Some (record { number = p; role = option_map (λ (r : RoleOn). r.role) (find (is_role_of b p) rs) })) o (count_by (owns b) rs) ≡ false
    → list_any (owns c) (set_role rs b p o) ≡ true
owner_stays rs b p c None owned stays = owner-removed rs b p c (find (is_role_of b p) rs) refl owned stays
owner_stays rs b p c (Some role) owned stays = owner-changed rs b p c role (find (is_role_of b p) rs) refl owned stays

-- an owner who is set takes no owner away
pub owner_leaves : (role : Option Role) (p n : ℕ) → leaves_none (Some (record { number = p; role = role })) (Some Owner) n ≡ false
owner_leaves None p n = refl
owner_leaves (Some Owner) p n = refl
owner_leaves (Some Member) p n = refl
owner_leaves (Some Reader) p n = refl

changed_owner : (rs : List RoleOn) (b p : ℕ) → list_any (is_role_of b p) rs ≡ true
    → list_any (owns b) (change_first (is_role_of b p) (λ r. record r { role = Owner }) rs) ≡ true
changed_owner [] b p h = absurd (true≢false (sym h))
changed_owner (r ∷ rs) b p h =
    elim (cases_Bool (is_role_of b p r)) [
      | inl here ↦ let board = (both (r.board == b) (r.person == p) here).0 in rw (here, board) refl
      | inr other ↦
          let rest : list_any (is_role_of b p) rs ≡ true = rw other at h in
          rw other (or_true (owns b r) (list_any (owns b) (change_first (is_role_of b p) (λ s. record s { role = Owner }) rs)) (changed_owner rs b p rest))
    ]

pub new_owner : (rs : List RoleOn) (b p : ℕ) → list_any (owns b) (set_role rs b p (Some Owner)) ≡ true
new_owner rs b p =
    elim (cases_Bool (list_any (is_role_of b p) rs)) [
      | inl there ↦ rw there (changed_owner rs b p there)
      | inr none ↦
          let owner : RoleOn = record { board = b; person = p; role = Owner } in
          let owned : owns b owner ≡ true = rw (nat_eq_equiv.refl b) refl in
          rw none (any-new (owns b) owner rs owned)
    ]
