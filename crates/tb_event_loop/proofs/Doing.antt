-- What was done, one part after the other.
use Rattle.std.proofs.Common.{◌≡◌, ℕ, ◌+◌, ◌≤◌, Bool, false, List, [], ◌∷◌, ◌++◌, Option, Some, None, refl, sym, ap, ◌∙◌, subst, append_assoc, arith}
use Rattle.std.specs.Prelude.{IfSome}
use Rattle.tb_event_loop.specs.Deeds.{Begins, Deed, Did, done_by, done_in}
use Rattle.tb_event_loop.specs.Done.{Done, ends_in}
use Rattle.tb_event_loop.specs.History.{Goes, Leaves}

ends_append : (xs ys : List (ℕ × Done)) → ends_in (xs ++ ys) ≡ ends_in xs + ends_in ys
ends_append [] ys = omega arith
ends_append (x ∷ xs) ys = omega (arith, ends_append xs ys)

pub done_append : (xs ys : List Deed) → done_in (xs ++ ys) ≡ done_in xs ++ done_in ys
done_append [] ys = refl
done_append (deed ∷ xs) ys =
    ap (λ more. done_by deed ++ more) (done_append xs ys) ∙ sym (append_assoc (done_by deed) (done_in xs) (done_in ys))

pub ends_among : (xs ys : List Deed) → ends_in (done_in (xs ++ ys)) ≡ ends_in (done_in xs) + ends_in (done_in ys)
ends_among xs ys = ap ends_in (done_append xs ys) ∙ ends_append (done_in xs) (done_in ys)

pub did_then : {V : Type 0} (follows : Bool → List Deed → V → V → Type 0)
    → ((stopped : Bool) (first more : List Deed) (a b c : V) → follows false first a b → follows stopped more b c → follows stopped (first ++ more) a c)
    → (stopped : Bool) (m n : ℕ) (a b c : V) → Did follows false m a b → Did follows stopped n b c → Did follows stopped (m + n) a c
did_then follows joined stopped m n a b c first more = record {
  deeds = first.deeds ++ more.deeds;
  done = joined stopped first.deeds more.deeds a b c first.done more.done;
  ends = omega (arith, ends_among first.deeds more.deeds, first.ends, more.ends);
}

-- what begins with a deed, and what was done behind it
pub begins_then : {V : Type 0} (follows : Bool → List Deed → V → V → Type 0)
    → ((stopped : Bool) (first more : List Deed) (a b c : V) → follows false first a b → follows stopped more b c → follows stopped (first ++ more) a c)
    → (stopped : Bool) (kind : Deed → Type 0) (a b c : V) → Begins follows false kind a b → Did follows stopped 0 b c → Begins follows stopped kind a c
begins_then follows joined stopped kind a b c first more = record {
  first = first.first;
  is = first.is;
  more = first.more ++ more.deeds;
  done = joined stopped (first.first ∷ first.more) more.deeds a b c first.done more.done;
  ends = omega (arith, ends_among (first.first ∷ first.more) more.deeds, first.ends, more.ends);
}

-- the same deed, of which less is said
pub begins_as : {S : Type 0} (acts : Bool → List Deed → S → S → Type 0) (stopped : Bool) (kind other : Deed → Type 0) (a b : S)
    → ((deed : Deed) → kind deed → other deed) → Begins acts stopped kind a b → Begins acts stopped other a b
begins_as acts stopped kind other a b as_other is =
    record { first = is.first; is = as_other is.first is.is; more = is.more; done = is.done; ends = is.ends }

-- ---- connections that have still to end

leaves_all : (limit : Option ℕ) → Leaves limit 0 limit
leaves_all None = refl
leaves_all (Some limit) = (limit, refl, omega arith)

leaves_then : (before : Option ℕ) (m n : ℕ) (middle now : Option ℕ) → Leaves before m middle → Leaves middle n now → Leaves before (m + n) now
leaves_then None m n middle now first more = subst (λ (o : Option ℕ). Leaves o n now) first more
leaves_then (Some before) m n middle now first more =
    let second : Leaves (Some first.0) n now = subst (λ (o : Option ℕ). Leaves o n now) first.1 more in
    (second.0, second.1, omega (arith, first.2, second.2))

-- what ended nothing
pub leaves_none : (limit now : Option ℕ) → now ≡ limit → Leaves limit 0 now
leaves_none limit now same = subst (λ (o : Option ℕ). Leaves limit 0 o) (sym same) (leaves_all limit)

pub goes_on : {V : Type 0} (follows : Bool → List Deed → V → V → Type 0) (stopped : Bool) (limit : Option ℕ) (a b : V) → Did follows stopped 0 a b
    → Goes follows stopped limit limit a b
goes_on follows stopped limit a b did = (0, did, leaves_all limit)

pub goes_then : {V : Type 0} (follows : Bool → List Deed → V → V → Type 0)
    → ((stopped : Bool) (first more : List Deed) (a b c : V) → follows false first a b → follows stopped more b c → follows stopped (first ++ more) a c)
    → (stopped : Bool) (before middle now : Option ℕ) (a b c : V) → Goes follows false before middle a b → Goes follows stopped middle now b c
    → Goes follows stopped before now a c
goes_then follows joined stopped before middle now a b c first more = (
  first.0 + more.0,
  did_then follows joined stopped first.0 more.0 a b c first.1 more.1,
  leaves_then before first.0 more.0 middle now first.2 more.2,
)

-- ---- the end

pub ends_most : (limit : Option ℕ) (ended : ℕ) (now : Option ℕ) → Leaves limit ended now → IfSome limit (λ most. ended ≤ most)
ends_most None ended now leaves = tt
ends_most (Some limit) ended now leaves = omega (arith, leaves.2)
