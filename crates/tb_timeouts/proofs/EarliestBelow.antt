-- The earliest moment among the places below one, and among all.
use Rattle.std.proofs.Common.{◌≡◌, ℕ, ◌+◌, ◌<◌, ◌≤◌, nat_lt, if◌then◌else◌, Bool, true, false, List, length, unwrap_or, Option, Some, None, ◌⊎◌, inl, inr, refl, sym, ◌∙◌, ap, subst, arith}
use Rattle.std.proofs.lemmas.Bool.{ltb-true, ltb-false}
use Rattle.std.proofs.lemmas.Option.{none-some, slice_get_cases}
use Rattle.std.specs.Option.{option_and_then}
use Rattle.tb_timeouts.specs.Deciding.{HasNone, IsEarliest, earlier_of, moment_at}
use Rattle.tb_timeouts.specs.declared.earliest.Candidate.{Candidate}
use Rattle.tb_timeouts.specs.declared.stage.Stage.{Stage}

pub record IsEarliestBelow (moment : Stage → Option ℕ) (stages : List Stage) (end : ℕ) (found : Candidate) : Type 0 where
  pub within : found.place < end
  pub here : moment_at moment stages found.place ≡ Some found.moment
  pub no_earlier : (other later : ℕ) → other < end → moment_at moment stages other ≡ Some later → found.moment ≤ later
  pub first : (other : ℕ) → other < end → moment_at moment stages other ≡ Some found.moment → found.place ≤ other

-- what is found among the places below this one
abbrev pub EarliestBelow : (Stage → Option ℕ) → List Stage → ℕ → Option Candidate → Type 0
EarliestBelow moment stages end None = (place : ℕ) → place < end → moment_at moment stages place ≡ None
EarliestBelow moment stages end (Some found) = IsEarliestBelow moment stages end found

below_or_at : (place end : ℕ) → place < end + 1 → (place < end) ⊎ (place ≡ end)
below_or_at place end h = grind arith

-- what holds below a place and at it holds below the next
at_or_below : (P : ℕ → Type 0) (end : ℕ) → ((place : ℕ) → place < end → P place) → P end → (place : ℕ) → place < end + 1 → P place
at_or_below P end below here place h =
    elim (below_or_at place end h) [ inl less ↦ below place less | inr same ↦ subst P (sym same) here ]

-- a moment isn't none
differs : {x : Option ℕ} (n : ℕ) {T : Type 0} → x ≡ None → x ≡ Some n → T
differs n none some = absurd (none-some n (sym none ∙ some))

-- two moments of one place are the same
agree : {x : Option ℕ} (m n : ℕ) → x ≡ Some m → x ≡ Some n → m ≡ n
agree m n one other = ap (λ x. unwrap_or x 0) (sym one ∙ other)

-- the first place that has a moment
begins : (moment : Stage → Option ℕ) (stages : List Stage) (end m : ℕ) → moment_at moment stages end ≡ Some m
    → EarliestBelow moment stages end None → IsEarliestBelow moment stages (end + 1) (record { place = end; moment = m })
begins moment stages end m here none = record {
  within = omega arith;
  here = here;
  no_earlier = λ other later below at.
      at_or_below (λ o. moment_at moment stages o ≡ Some later → m ≤ later) end
      (λ o less is. differs later (none o less) is)
      (λ is. let same = agree m later here is in omega (arith, same)) other below at;
  first = λ other below at.
      at_or_below (λ o. moment_at moment stages o ≡ Some m → end ≤ o) end (λ o less is. differs m (none o less) is) (λ is. omega arith) other
      below at;
}

-- a place with no moment changes nothing
passes : (moment : Stage → Option ℕ) (stages : List Stage) (end : ℕ) (found : Candidate) → moment_at moment stages end ≡ None
    → IsEarliestBelow moment stages end found → IsEarliestBelow moment stages (end + 1) found
passes moment stages end found none old = record {
  within = omega (arith, old.within);
  here = old.here;
  no_earlier = λ other later below at.
      at_or_below (λ o. moment_at moment stages o ≡ Some later → found.moment ≤ later) end (λ o less is. old.no_earlier o later less is)
      (λ is. differs later none is) other below at;
  first = λ other below at.
      at_or_below (λ o. moment_at moment stages o ≡ Some found.moment → found.place ≤ o) end (λ o less is. old.first o less is)
      (λ is. differs found.moment none is) other below at;
}

-- an earlier moment takes the place of the one that was found
betters : (moment : Stage → Option ℕ) (stages : List Stage) (end m : ℕ) (found : Candidate) → moment_at moment stages end ≡ Some m
    → m < found.moment → IsEarliestBelow moment stages end found
    → IsEarliestBelow moment stages (end + 1) (record { place = end; moment = m })
betters moment stages end m found here less old = record {
  within = omega arith;
  here = here;
  no_earlier = λ other later below at.
      at_or_below (λ o. moment_at moment stages o ≡ Some later → m ≤ later) end
      (λ o under is. let more = old.no_earlier o later under is in omega (arith, more, less))
      (λ is. let same = agree m later here is in omega (arith, same)) other below at;
  first = λ other below at.
      at_or_below (λ o. moment_at moment stages o ≡ Some m → end ≤ o) end
      (λ o under is. let more = old.no_earlier o m under is in absurd (omega (arith, more, less))) (λ is. omega arith) other below at;
}

-- a moment that isn't earlier changes nothing
stays : (moment : Stage → Option ℕ) (stages : List Stage) (end m : ℕ) (found : Candidate) → moment_at moment stages end ≡ Some m
    → found.moment ≤ m → IsEarliestBelow moment stages end found → IsEarliestBelow moment stages (end + 1) found
stays moment stages end m found here no_less old = record {
  within = omega (arith, old.within);
  here = old.here;
  no_earlier = λ other later below at.
      at_or_below (λ o. moment_at moment stages o ≡ Some later → found.moment ≤ later) end (λ o under is. old.no_earlier o later under is)
      (λ is. let same = agree m later here is in omega (arith, same, no_less)) other below at;
  first = λ other below at.
      at_or_below (λ o. moment_at moment stages o ≡ Some found.moment → found.place ≤ o) end (λ o under is. old.first o under is)
      (λ is. let inside = old.within in omega (arith, inside)) other below at;
}

chooses : (moment : Stage → Option ℕ) (stages : List Stage) (end m : ℕ) (found : Candidate) (b : Bool) → nat_lt m found.moment ≡ b
    → moment_at moment stages end ≡ Some m → IsEarliestBelow moment stages end found
    → EarliestBelow moment stages (end + 1) (if b then Some (record { place = end; moment = m }) else Some found)
chooses moment stages end m found true is here old = betters moment stages end m found here (ltb-true m found.moment is) old
chooses moment stages end m found false is here old = stays moment stages end m found here (ltb-false m found.moment is) old

-- one place more
pub one_more : (moment : Stage → Option ℕ) (stages : List Stage) (end : ℕ) (found : Option Candidate) (m : Option ℕ)
    → moment_at moment stages end ≡ m → EarliestBelow moment stages end found
    → EarliestBelow moment stages (end + 1) (earlier_of found end m)
one_more moment stages end None None here old = at_or_below (λ o. moment_at moment stages o ≡ None) end old here
one_more moment stages end None (Some m) here old = begins moment stages end m here old
one_more moment stages end (Some found) None here old = passes moment stages end found here old
one_more moment stages end (Some found) (Some m) here old = chooses moment stages end m found (nat_lt m found.moment) refl here old

-- past the end there is no moment
within_or_none : (moment : Stage → Option ℕ) (stages : List Stage) (place : ℕ)
    → (place < length stages) ⊎ (moment_at moment stages place ≡ None)
within_or_none moment stages place =
    elim ((slice_get_cases stages place).1) [
      | inl found ↦ inl found.1
      | inr past ↦ inr (ap (option_and_then moment) past.1)
    ]

-- none of all places has a moment
pub none_at_all : (moment : Stage → Option ℕ) (stages : List Stage) → EarliestBelow moment stages (length stages) None → HasNone moment stages
none_at_all moment stages none place = elim (within_or_none moment stages place) [ inl within ↦ none place within | inr past ↦ past ]

-- it is the earliest of all places
pub first_of_all : (moment : Stage → Option ℕ) (stages : List Stage) (found : Candidate)
    → IsEarliestBelow moment stages (length stages) found → IsEarliest moment stages found.place found.moment
first_of_all moment stages found old = record {
  here = old.here;
  no_earlier = λ other later at.
      elim (within_or_none moment stages other) [
        | inl within ↦ old.no_earlier other later within at
        | inr past ↦ differs later past at
      ];
  first = λ other at.
      elim (within_or_none moment stages other) [
        | inl within ↦ old.first other within at
        | inr past ↦ differs found.moment past at
      ];
}
