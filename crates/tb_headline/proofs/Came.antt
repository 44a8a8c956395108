-- A list that is sent in sessions, and the list as it came.
use Rattle.std.proofs.Common.{◌≡◌, ◌⊎◌, ℕ, zero, suc, ◌+◌, ◌<◌, ◌≤◌, true, false, if◌then◌else◌, List, [], ◌∷◌, ◌++◌, length, take, Some, refl, sym, ap, ◌∙◌, subst, inl, inr, arith, eq-eqb, append_assoc}
use Rattle.std.specs.Prelude.{slice_get}
use Rattle.std.proofs.lemmas.List.{append-nil, length-append}
use Rattle.tb_calls.specs.declared.call.Call.{Call}
use Rattle.tb_calls.specs.Call.{State}
use Rattle.tb_desk.specs.Sessions.{IsAgain, IsCopy, Sending, Sent, WasKnown, comes_at_once, is_key_at, next_after, stands}
use Rattle.tb_desk.specs.Resuming.{ComeInOrder, ComesAgain, Resume}
use Rattle.tb_desk.proofs.Resumed.{apart, is_next, is_past, its_key, take_next, take_whole, within}
use Rattle.tb_headline.specs.Headline.{AreAgain, AreSent, IsSentOf, SendsAll, WereKnown, all_standing, as_came, first_of_each}

-- ---- the numbers that come

-- the first number that doesn't stand is the first that wasn't answered, or the next
abbrev pub Near : ℕ → ℕ → Type 0
Near stood answered = (stood ≡ answered) ⊎ (stood ≡ answered + 1)

sent_front : (calls : List Call) (next stood : ℕ) (ys : List Sent) (k : ℕ) → AreSent calls next ys → Near stood next → AreSent calls stood (take k ys)
sent_front calls next stood ys zero sent near = tt
sent_front calls next stood [] (suc k) sent near = tt
sent_front calls next stood (y ∷ ys) (suc k) (of, inl (same, key, more)) (inl is) =
    (of, inl (same ∙ sym is, subst (λ n. is_key_at calls n y.call.key ≡ true) (sym is) key, sent_front calls (next + 1) (stood + 1) ys k more (inl (ap (λ n. n + 1) is))))
sent_front calls next stood (y ∷ ys) (suc k) (of, inl (same, key, more)) (inr is) =
    (of, inr (omega (arith, same, is), sent_front calls (next + 1) stood ys k more (inl is)))
sent_front calls next stood (y ∷ ys) (suc k) (of, inr (less, more)) (inl is) =
    (of, inr (omega (arith, less, is), sent_front calls next stood ys k more (inl is)))
sent_front calls next stood (y ∷ ys) (suc k) (of, inr (less, more)) (inr is) =
    (of, inr (omega (arith, less, is), sent_front calls next stood ys k more (inr is)))

abbrev pub NearAfter : ℕ → List Sent → ℕ → List Sent → Type 0
NearAfter stood zs next ys = Near (next_after stood zs) (next_after next ys)

moved : (stood later next following : ℕ) (zs more ys rest : List Sent) → next_after stood zs ≡ next_after later more → next_after next ys ≡ next_after following rest
    → NearAfter later more following rest → NearAfter stood zs next ys
moved stood later next following zs more ys rest first second near =
    subst (λ n. Near n (next_after next ys)) (sym first) (subst (λ m. Near (next_after later more) m) (sym second) near)

-- after so many calls that were answered, and as many that stand, or one more
pub near_after : (calls : List Call) (next stood : ℕ) (ys : List Sent) (k j : ℕ) → AreSent calls next ys → Near stood next → k ≤ j → j ≤ k + 1
    → NearAfter stood (take j ys) next (take k ys)
near_after calls next stood ys zero zero sent near low high = near
near_after calls next stood [] zero (suc j) sent near low high = near
near_after calls next stood (y ∷ ys) zero (suc (suc j)) sent near low high = absurd (omega (arith, high))
near_after calls next stood (y ∷ ys) zero (suc zero) (of, inl (same, key, more)) (inl is) low high =
    inr (is_next y stood [] (same ∙ sym is) ∙ ap (λ n. n + 1) is)
near_after calls next stood (y ∷ ys) zero (suc zero) (of, inl (same, key, more)) (inr is) low high =
    inr (is_past y stood [] (omega (arith, same, is)) ∙ is)
near_after calls next stood (y ∷ ys) zero (suc zero) (of, inr (less, more)) (inl is) low high =
    inl (is_past y stood [] (omega (arith, less, is)) ∙ is)
near_after calls next stood (y ∷ ys) zero (suc zero) (of, inr (less, more)) (inr is) low high =
    inr (is_past y stood [] (omega (arith, less, is)) ∙ is)
near_after calls next stood ys (suc k) zero sent near low high = absurd (omega (arith, low))
near_after calls next stood [] (suc k) (suc j) sent near low high = near
near_after calls next stood (y ∷ ys) (suc k) (suc j) (of, inl (same, key, more)) (inl is) low high =
    moved stood (stood + 1) next (next + 1) (y ∷ take j ys) (take j ys) (y ∷ take k ys) (take k ys)
    (is_next y stood (take j ys) (same ∙ sym is))
    (is_next y next (take k ys) same)
    (near_after calls (next + 1) (stood + 1) ys k j more (inl (ap (λ n. n + 1) is)) (omega (arith, low)) (omega (arith, high)))
near_after calls next stood (y ∷ ys) (suc k) (suc j) (of, inl (same, key, more)) (inr is) low high =
    moved stood stood next (next + 1) (y ∷ take j ys) (take j ys) (y ∷ take k ys) (take k ys)
    (is_past y stood (take j ys) (omega (arith, same, is)))
    (is_next y next (take k ys) same)
    (near_after calls (next + 1) stood ys k j more (inl is) (omega (arith, low)) (omega (arith, high)))
near_after calls next stood (y ∷ ys) (suc k) (suc j) (of, inr (less, more)) (inl is) low high =
    moved stood stood next next (y ∷ take j ys) (take j ys) (y ∷ take k ys) (take k ys)
    (is_past y stood (take j ys) (omega (arith, less, is)))
    (is_past y next (take k ys) less)
    (near_after calls next stood ys k j more (inl is) (omega (arith, low)) (omega (arith, high)))
near_after calls next stood (y ∷ ys) (suc k) (suc j) (of, inr (less, more)) (inr is) low high =
    moved stood stood next next (y ∷ take j ys) (take j ys) (y ∷ take k ys) (take k ys)
    (is_past y stood (take j ys) (omega (arith, less, is)))
    (is_past y next (take k ys) less)
    (near_after calls next stood ys k j more (inr is) (omega (arith, low)) (omega (arith, high)))

-- ---- all that stands

-- in each session the answered calls stand, and one more at most
abbrev pub AreBounded : List Sending → Type 0
AreBounded [] = Unit {0}
AreBounded (x ∷ xs) = (x.answered ≤ x.stood) × (x.stood ≤ x.answered + 1) × AreBounded xs

-- the numbers behind two lists
after-append : (next : ℕ) (xs ys : List Sent) → next_after next (xs ++ ys) ≡ next_after (next_after next xs) ys
after-append next [] ys = refl
after-append next (x ∷ xs) ys = after-append (next_after next (x ∷ [])) xs ys

sent-append : (calls : List Call) (next : ℕ) (xs ys : List Sent) → AreSent calls next xs → AreSent calls (next_after next xs) ys → AreSent calls next (xs ++ ys)
sent-append calls next [] ys first second = second
sent-append calls next (x ∷ xs) ys (of, inl (same, key, more)) second =
    (of, inl (same, key, sent-append calls (next + 1) xs ys more (subst (λ n. AreSent calls n ys) (is_next x next xs same) second)))
sent-append calls next (x ∷ xs) ys (of, inr (less, more)) second =
    (of, inr (less, sent-append calls next xs ys more (subst (λ n. AreSent calls n ys) (is_past x next xs less) second)))

-- what stands is sent in the list's order
standing_sent : (calls : List Call) (next stood : ℕ) (xs : List Sending) → SendsAll calls next xs → AreBounded xs → Near stood next
    → AreSent calls stood (all_standing xs) × Near (next_after stood (all_standing xs)) (length calls)
standing_sent calls next stood [] done bounded near = (tt, subst (Near stood) done near)
standing_sent calls next stood (x ∷ xs) (sent, more) (low, high, bounded) near =
    let later = near_after calls next stood x.sent x.answered x.stood sent near low high in
    let rest = standing_sent calls (next_after next (take x.answered x.sent)) (next_after stood (stands x)) xs more bounded later in (
      sent-append calls stood (stands x) (all_standing xs) (sent_front calls next stood x.sent x.stood sent near) rest.0,
      subst (λ n. Near n (length calls)) (sym (after-append stood (stands x) (all_standing xs))) rest.1,
    )

-- no number is past the list
sent_within : (calls : List Call) (next : ℕ) (zs : List Sent) → AreSent calls next zs → next ≤ length calls → next_after next zs ≤ length calls
sent_within calls next [] sent high = high
sent_within calls next (z ∷ zs) (of, inl (same, key, more)) high =
    let there : z.number < length calls = within calls z.number of.first of.is_first in
    subst (λ n. n ≤ length calls) (sym (is_next z next zs same)) (sent_within calls (next + 1) zs more (omega (arith, there, same)))
sent_within calls next (z ∷ zs) (of, inr (less, more)) high =
    subst (λ n. n ≤ length calls) (sym (is_past z next zs less)) (sent_within calls next zs more high)

all_came : (n m : ℕ) → n ≤ m → Near n m → n ≡ m
all_came n m high (inl is) = is
all_came n m high (inr is) = absurd (omega (arith, high, is))

whole : (calls : List Call) (zs : List Sent) → AreSent calls 0 zs → Near (next_after 0 zs) (length calls) → next_after 0 zs ≡ length calls
whole calls zs sent near = all_came (next_after 0 zs) (length calls) (sent_within calls 0 zs sent (omega arith)) near

-- ---- the list as it came

both_copies : (c d e : Call) → IsCopy c d → IsCopy c e → IsCopy d e
both_copies c d e first second = record {
  member = second.member ∙ sym first.member;
  id = second.id ∙ sym first.id;
  content = second.content ∙ sym first.content;
  own = second.own ∙ sym first.own;
}

again-append : (xs ps : List Call) (c d : Call) → AreAgain xs ps → IsAgain c d → AreAgain (xs ++ c ∷ []) (ps ++ d ∷ [])
again-append [] [] c d are is = (is, tt)
again-append [] (p ∷ ps) c d are is = absurd are
again-append (x ∷ xs) [] c d are is = absurd are
again-append (x ∷ xs) (p ∷ ps) c d (first, are) is = (first, again-append xs ps c d are is)

again-length : (xs ps : List Call) → AreAgain xs ps → length ps ≡ length xs
again-length [] [] are = refl
again-length [] (p ∷ ps) are = absurd are
again-length (x ∷ xs) [] are = absurd are
again-length (x ∷ xs) (p ∷ ps) (first, are) = ap suc (again-length xs ps are)

some_same : {A : Type 0} (x y : A) → Some x ≡ Some y → x ≡ y
some_same x y e = cc

-- a call that came before
pub found : (calls ps : List Call) (n m : ℕ) (c : Call) → AreAgain (take n calls) ps → m < n → slice_get calls m ≡ Some c
    → (d : Call) × (slice_get ps m ≡ Some d) × IsAgain c d
found calls ps zero m c are less at = absurd (omega (arith, less))
found [] ps (suc n) m c are less at = absurd (cc)
found (x ∷ xs) [] (suc n) m c are less at = absurd are
found (x ∷ xs) (p ∷ ps) (suc n) zero c (first, are) less at = (p, refl, subst (λ (u : Call). IsAgain u p) (some_same x c at) first)
found (x ∷ xs) (p ∷ ps) (suc n) (suc m) c (first, are) less at = found xs ps n m c are (omega (arith, less)) at

pub get_front : (ps rest : List Call) (m : ℕ) (c : Call) → slice_get ps m ≡ Some c → slice_get (ps ++ rest) m ≡ Some c
get_front [] rest m c at = absurd (cc)
get_front (p ∷ ps) rest zero c at = at
get_front (p ∷ ps) rest (suc m) c at = get_front ps rest m c at

pub get_middle : (ps rest : List Call) (c : Call) (n : ℕ) → length ps ≡ n → slice_get (ps ++ c ∷ rest) n ≡ Some c
get_middle [] rest c zero long = refl
get_middle [] rest c (suc n) long = absurd (omega (arith, long))
get_middle (p ∷ ps) rest c zero long = absurd (omega (arith, long))
get_middle (p ∷ ps) rest c (suc n) long = get_middle ps rest c n (omega (arith, long))

pub first-next : (x : Sent) (next : ℕ) (xs : List Sent) → x.number ≡ next → first_of_each next (x ∷ xs) ≡ x.call ∷ first_of_each (next + 1) xs
first-next x next xs same = ap (λ b. if b then x.call ∷ first_of_each (next + 1) xs else first_of_each next xs) (eq-eqb x.number next same)

first-past : (x : Sent) (next : ℕ) (xs : List Sent) → x.number < next → first_of_each next (x ∷ xs) ≡ first_of_each next xs
first-past x next xs less = ap (λ b. if b then x.call ∷ first_of_each (next + 1) xs else first_of_each next xs) (apart x.number next less)

-- this front of the list came, and the rest comes
pub record Came (calls came front : List Call) (next : ℕ) (zs : List Sent) : Type 0 where
  pub long : length front ≡ next
  pub are : AreAgain (take next calls) front
  pub is : came ≡ front ++ first_of_each next zs

-- a copy that has the key of the call of the list
with_its_key : (calls : List Call) (next : ℕ) (z : Sent) → (of : IsSentOf calls z) → z.number ≡ next → is_key_at calls next z.call.key ≡ true → IsAgain of.first z.call
with_its_key calls next z of same key =
    record { copy = of.copy; key = its_key calls next of.first z.call.key (ap (slice_get calls) (sym same) ∙ of.is_first) key }

pub came_next : (calls came front : List Call) (next : ℕ) (z : Sent) (zs : List Sent) → IsSentOf calls z → z.number ≡ next → is_key_at calls next z.call.key ≡ true
    → Came calls came front next (z ∷ zs) → Came calls came (front ++ z.call ∷ []) (next + 1) zs
came_next calls came front next z zs of same key c = record {
  long = simp length-append (omega (arith, c.long));
  are = subst (λ cs. AreAgain cs (front ++ z.call ∷ [])) (sym (take_next calls next of.first (ap (slice_get calls) (sym same) ∙ of.is_first)))
      (again-append (take next calls) front of.first z.call c.are (with_its_key calls next z of same key));
  is = c.is ∙ ap (λ cs. front ++ cs) (first-next z next zs same) ∙ sym (append_assoc front (z.call ∷ []) (first_of_each (next + 1) zs));
}

pub came_past : (calls came front : List Call) (next : ℕ) (z : Sent) (zs : List Sent) → z.number < next → Came calls came front next (z ∷ zs) → Came calls came front next zs
came_past calls came front next z zs less c = record { long = c.long; are = c.are; is = c.is ∙ ap (λ cs. front ++ cs) (first-past z next zs less) }

repeated : (s : State) (calls came front : List Call) (next : ℕ) (z : Sent) (zs : List Sent) → IsSentOf calls z → z.number < next
    → (comes_at_once came next z ≡ false → WasKnown s came z.number) → Came calls came front next (z ∷ zs) → ComesAgain s came next z
repeated s calls came front next z zs of less known c =
    let d = found calls front next z.number of.first c.are less of.is_first in
    record {
      first = d.0;
      before = less;
      is_first = ap (λ cs. slice_get cs z.number) c.is ∙ get_front front (first_of_each next (z ∷ zs)) z.number d.0 d.1;
      copy = both_copies of.first d.0 z.call d.2.copy of.copy;
      known = known;
    }

-- what stands comes in the order of the list as it came, which is the list again
ordered : (s : State) (calls came front : List Call) (next : ℕ) (zs : List Sent) → AreSent calls next zs → WereKnown s came next zs → Came calls came front next zs
    → ComeInOrder s came next zs × AreAgain (take (next_after next zs) calls) came
ordered s calls came front next [] sent known c = (tt, subst (AreAgain (take next calls)) (sym (c.is ∙ append-nil front)) c.are)
ordered s calls came front next (z ∷ zs) (of, inl (same, key, more)) (known, rest_known) c =
    let rest = ordered s calls came (front ++ z.call ∷ []) (next + 1) zs more
    (subst (λ n. WereKnown s came n zs) (is_next z next [] same) rest_known) (came_next calls came front next z zs of same key c) in
    let at = ap (λ cs. slice_get cs next) (c.is ∙ ap (λ cs. front ++ cs) (first-next z next zs same)) ∙ get_middle front (first_of_each (next + 1) zs) z.call next c.long in
    (inl (same, at, rest.0), subst (λ n. AreAgain (take n calls) came) (sym (is_next z next zs same)) rest.1)
ordered s calls came front next (z ∷ zs) (of, inr (less, more)) (known, rest_known) c =
    let rest = ordered s calls came front next zs more
    (subst (λ n. WereKnown s came n zs) (is_past z next [] less) rest_known) (came_past calls came front next z zs less c) in
    (inr (repeated s calls came front next z zs of less known c, rest.0), subst (λ n. AreAgain (take n calls) came) (sym (is_past z next zs less)) rest.1)

-- ---- in sessions

split : (s : State) (calls : List Call) (next : ℕ) (xs ys : List Sent) → ComeInOrder s calls next (xs ++ ys)
    → ComeInOrder s calls next xs × ComeInOrder s calls (next_after next xs) ys
split s calls next [] ys come = (tt, come)
split s calls next (x ∷ xs) ys (inl (same, at, come)) =
    let rest = split s calls (next + 1) xs ys come in
    (inl (same, at, rest.0), subst (λ n. ComeInOrder s calls n ys) (sym (is_next x next xs same)) rest.1)
split s calls next (x ∷ xs) ys (inr (a, come)) =
    let rest = split s calls next xs ys come in
    (inr (a, rest.0), subst (λ n. ComeInOrder s calls n ys) (sym (is_past x next xs a.before)) rest.1)

in_sessions : (s : State) (calls : List Call) (next : ℕ) (xs : List Sending) → AreBounded xs → ComeInOrder s calls next (all_standing xs)
    → next_after next (all_standing xs) ≡ length calls → Resume s calls next xs
in_sessions s calls next [] bounded come done = done
in_sessions s calls next (x ∷ xs) (low, high, bounded) come done =
    let parts = split s calls next (stands x) (all_standing xs) come in
    (low, parts.0, in_sessions s calls (next_after next (stands x)) xs bounded parts.1 (sym (after-append next (stands x) (all_standing xs)) ∙ done))

-- sessions that send a list go on from one another, with the list as it came
pub resumes : (s : State) (calls : List Call) (xs : List Sending) → SendsAll calls 0 xs → AreBounded xs → WereKnown s (as_came xs) 0 (all_standing xs)
    → Resume s (as_came xs) 0 xs × AreAgain calls (as_came xs)
resumes s calls xs sends bounded known =
    let zs = all_standing xs in
    let stand = standing_sent calls 0 0 xs sends bounded (inl refl) in
    let done = whole calls zs stand.0 stand.1 in
    let start : Came calls (as_came xs) [] 0 zs = record { long = refl; are = tt; is = refl } in
    let order = ordered s calls (as_came xs) [] 0 zs stand.0 known start in
    let again : AreAgain calls (as_came xs) = subst (λ cs. AreAgain cs (as_came xs)) (ap (λ n. take n calls) done ∙ take_whole calls) order.1 in
    (in_sessions s (as_came xs) 0 xs bounded order.0 (done ∙ sym (again-length calls (as_came xs) again)), again)
