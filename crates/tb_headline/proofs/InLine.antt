-- What remains of a list comes again at once, with its own key: nothing need be known of its callers.
use Rattle.std.proofs.Common.{◌≡◌, ◌⊎◌, ℕ, zero, suc, ◌+◌, ◌<◌, ◌≤◌, nat_le, true, true≢false, ◌&&◌, List, [], ◌∷◌, ◌++◌, take, Some, refl, sym, ap, ◌∙◌, subst, inl, inr, arith}
use Rattle.std.specs.Prelude.{slice_get}
use Rattle.std.specs.Option.{option_map}
use Rattle.std.proofs.lemmas.Slice.Eq.{bytes_eq-Decides}
use Rattle.std.proofs.lemmas.Bool.Decides.{nat_tests}
use Rattle.tb_board.specs.World.{has_key}
use Rattle.tb_calls.specs.declared.call.Call.{Call}
use Rattle.tb_calls.specs.Call.{State}
use Rattle.tb_desk.specs.Sessions.{Sending, Sent, comes_at_once, is_key_at, next_after, stands}
use Rattle.tb_desk.proofs.Resumed.{is_next, is_past, its_key}
use Rattle.tb_headline.specs.Headline.{AreInLine, AreSent, IsSentOf, RestIsFree, SendsAll, SendsRest, WereKnown, all_standing, as_came, first_of_each}
use Rattle.tb_headline.proofs.Came.{AreBounded, Came, Near, came_next, came_past, first-next, found, get_front, get_middle, near_after}
use Rattle.tb_headline.proofs.Lives.{bounded}

-- each stands for the first time, or again at once, with the key of the list
abbrev AreStraight : List Call → ℕ → List Sent → Type 0
AreStraight calls next [] = Unit {0}
AreStraight calls next (x ∷ xs) =
    IsSentOf calls x × (is_key_at calls x.number x.call.key ≡ true)
    × (((x.number ≡ next) × AreStraight calls (next + 1) xs) ⊎ ((x.number + 1 ≡ next) × AreStraight calls next xs))

straight_front : (calls : List Call) (next stood : ℕ) (ys : List Sent) (k : ℕ) → AreSent calls next ys → AreInLine next ys → Near stood next → AreStraight calls stood (take k ys)
straight_front calls next stood ys zero sent line near = tt
straight_front calls next stood [] (suc k) sent line near = tt
straight_front calls next stood (y ∷ ys) (suc k) (of, inl (same, key, more)) (here, line) (inl is) =
    (of, subst (λ n. is_key_at calls n y.call.key ≡ true) (sym same) key, inl (same ∙ sym is, straight_front calls (next + 1) (stood + 1) ys k more line (inl (ap (λ n. n + 1) is))))
straight_front calls next stood (y ∷ ys) (suc k) (of, inl (same, key, more)) (here, line) (inr is) =
    (of, subst (λ n. is_key_at calls n y.call.key ≡ true) (sym same) key, inr (ap (λ n. n + 1) same ∙ sym is, straight_front calls (next + 1) stood ys k more line (inl is)))
straight_front calls next stood (y ∷ ys) (suc k) (of, inr (less, more)) (here, line) near = absurd (omega (arith, less, here))

straight-append : (calls : List Call) (next : ℕ) (xs ys : List Sent) → AreStraight calls next xs → AreStraight calls (next_after next xs) ys → AreStraight calls next (xs ++ ys)
straight-append calls next [] ys first second = second
straight-append calls next (x ∷ xs) ys (of, key, inl (same, more)) second =
    (of, key, inl (same, straight-append calls (next + 1) xs ys more (subst (λ n. AreStraight calls n ys) (is_next x next xs same) second)))
straight-append calls next (x ∷ xs) ys (of, key, inr (near, more)) second =
    (of, key, inr (near, straight-append calls next xs ys more (subst (λ n. AreStraight calls n ys) (is_past x next xs (omega (arith, near))) second)))

standing_straight : (calls : List Call) (next stood : ℕ) (xs : List Sending) → SendsAll calls next xs → SendsRest next xs → AreBounded xs → Near stood next → AreStraight calls stood (all_standing xs)
standing_straight calls next stood [] done rest bounded near = tt
standing_straight calls next stood (x ∷ xs) (sent, more) (line, rest) (low, high, bounded) near =
    let later = near_after calls next stood x.sent x.answered x.stood sent near low high in
    straight-append calls stood (stands x) (all_standing xs) (straight_front calls next stood x.sent x.stood sent line near)
    (standing_straight calls (next_after next (take x.answered x.sent)) (next_after stood (stands x)) xs more rest bounded later)

low : (n m : ℕ) → n ≤ m → nat_le n m ≡ true
low n m less = grind (arith, nat_tests)

-- a call with the key of the call that came there
at_once : (came : List Call) (next : ℕ) (z : Sent) (d : Call) → next ≤ z.number + 1 → slice_get came z.number ≡ Some d → d.key ≡ z.call.key → comes_at_once came next z ≡ true
at_once came next z d near at same =
    ap (λ b. b && is_key_at came z.number z.call.key) (low next (z.number + 1) near)
    ∙ ap (λ o. has_key (option_map (λ (c : Call). c.key) o) z.call.key) at
    ∙ (bytes_eq-Decides d.key z.call.key).1 same

known_in_line : (s : State) (calls came front : List Call) (next : ℕ) (zs : List Sent) → AreStraight calls next zs → Came calls came front next zs → WereKnown s came next zs
known_in_line s calls came front next [] straight c = tt
known_in_line s calls came front next (z ∷ zs) (of, key, inl (same, more)) c =
    let at = ap (λ cs. slice_get cs next) (c.is ∙ ap (λ cs. front ++ cs) (first-next z next zs same)) ∙ get_middle front (first_of_each (next + 1) zs) z.call next c.long in
    let once = at_once came next z z.call (omega (arith, same)) (ap (slice_get came) same ∙ at) refl in
    let its = subst (λ n. is_key_at calls n z.call.key ≡ true) same key in (
      λ other. absurd (true≢false (sym once ∙ other)),
      subst (λ n. WereKnown s came n zs) (sym (is_next z next [] same))
          (known_in_line s calls came (front ++ z.call ∷ []) (next + 1) zs more (came_next calls came front next z zs of same its c)),
    )
known_in_line s calls came front next (z ∷ zs) (of, key, inr (near, more)) c =
    let less : z.number < next = omega (arith, near) in
    let d = found calls front next z.number of.first c.are less of.is_first in
    let at = ap (λ cs. slice_get cs z.number) c.is ∙ get_front front (first_of_each next (z ∷ zs)) z.number d.0 d.1 in
    let once = at_once came next z d.0 (omega (arith, near)) at (d.2.key ∙ sym (its_key calls z.number of.first z.call.key of.is_first key)) in (
      λ other. absurd (true≢false (sym once ∙ other)),
      subst (λ n. WereKnown s came n zs) (sym (is_past z next [] less)) (known_in_line s calls came front next zs more (came_past calls came front next z zs less c)),
    )

pub rest_is_free : RestIsFree
rest_is_free s calls xs replies t sends rest lives =
    known_in_line s calls (as_came xs) [] 0 (all_standing xs) (standing_straight calls 0 0 xs sends rest (bounded s xs replies t lives) (inl refl))
    (record { long = refl; are = tt; is = refl })
