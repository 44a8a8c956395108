-- The order of calls' names tells each name apart, and what is kept under a name after a call.
use Rattle.std.proofs.Common.{◌≡◌, ℕ, Bool, true, false, not, ◌&&◌, cond, eqb, List, [], ◌∷◌, Option, Some, None, Ordering, true≢false, eq-eqb, refl, sym, ap, ◌∙◌, subst, rules}
use Rattle.std.specs.Prelude.{is_some}
use Rattle.std.specs.Str.{bytes_eq}
use Rattle.std.proofs.lemmas.Slice.Eq.{bytes_eq-Decides}
use Rattle.std.specs.Ordering.{nat_cmp, ordering_then, is_eq, eq_by_cmp}
use Rattle.std.specs.Cmp.{IsTotalOrder, unsigned_ties}
use Rattle.std.specs.Cmp.Lexicographic.{slice_cmp, texts_ties}
use Rattle.std.specs.FinMap.{FinMap, get, insert, get-insert, IsAntisymmetric, slice_cmp-IsAntisymmetric, nat_cmp-IsAntisymmetric}
use Rattle.std.specs.declared.cmp.Ordering.TheVariants.{Less, Equal, Greater}
use Rattle.std.proofs.lemmas.Cmp.{on_total, then_total, nat_cmp_total, nat_list_cmp_total}
use Rattle.std.proofs.lemmas.Map.Lookups.{exact_pairs, exact_unsigned}
use Rattle.tb_calls.specs.declared.call.Call.{Call}
use Rattle.tb_calls.specs.declared.call.KeptReply.{KeptReply}
use Rattle.tb_calls.specs.Call.{State, CallName, name_cmp, after_call, kept_for, name_of, outcome, same_name}
use Rattle.tb_calls.specs.Reply.{reply_of}

pub names_total : IsTotalOrder name_cmp
names_total = then_total (on_total (λ (n : CallName). n.0) nat_list_cmp_total) (on_total (λ (n : CallName). n.1) nat_cmp_total)

pub names_exact : IsAntisymmetric name_cmp
names_exact = exact_pairs (slice_cmp nat_cmp) nat_cmp (slice_cmp-IsAntisymmetric nat_cmp-IsAntisymmetric) nat_cmp-IsAntisymmetric

eqb_cmp : (x y : ℕ) → is_eq (nat_cmp x y) ≡ eqb x y
eqb_cmp x y = sym (unsigned_ties x y)

is_eq-then : (a b : Ordering) → is_eq (ordering_then a b) ≡ (is_eq a && is_eq b)
is_eq-then Less b = refl
is_eq-then Equal b = refl
is_eq-then Greater b = refl

-- the order ties exactly at one name
pub ties : (a b : List ℕ) (m n : ℕ) → eq_by_cmp name_cmp (a, m) (b, n) ≡ (bytes_eq a b && eqb m n)
ties a b m n =
    is_eq-then (slice_cmp nat_cmp a b) (nat_cmp m n)
    ∙ ap (λ t. t && is_eq (nat_cmp m n)) (sym (texts_ties a b))
    ∙ ap (λ t. bytes_eq a b && t) (eqb_cmp m n)

-- what is kept of a call
abbrev pub kept_of : State → Call → KeptReply
kept_of s d = record { content = d.content; reply = reply_of (outcome s d).answer }

-- what is kept for a call after a call
pub kept_for-after_call : (s : State) (c d : Call) → kept_for (after_call s d) c ≡ cond (same_name c d) (Some (kept_of s d)) (kept_for s c)
kept_for-after_call s c d = get-insert names_total s.kept (name_of d) (kept_of s d) (name_of c) ∙ ap (λ b. cond b (Some (kept_of s d)) (kept_for s c)) (ties c.member d.member c.id d.id)

pub tied : (o : Ordering) → is_eq o ≡ true → o ≡ Equal
tied Less e = absurd (true≢false (sym e))
tied Equal e = refl
tied Greater e = absurd (true≢false (sym e))

-- two calls of one name have one thing kept
pub kept_for-same_name : (s : State) (c d : Call) → same_name c d ≡ true → kept_for s c ≡ kept_for s d
kept_for-same_name s c d same =
    ap (get s.kept) (names_exact (name_of c) (name_of d) (tied _ (ties c.member d.member c.id d.id ∙ same)))

both : (a b : Bool) → a ≡ true → b ≡ true → (a && b) ≡ true
both a b p q = ap (λ x. x && b) p ∙ q

pub same_name_self : (c : Call) → same_name c c ≡ true
same_name_self c = both _ _ ((bytes_eq-Decides c.member c.member).1 refl) (eq-eqb c.id c.id refl)
