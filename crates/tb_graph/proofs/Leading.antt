-- A walk exists exactly where the test finds one.
use Rattle.std.proofs.Common.{◌≡◌, ◌↔◌, ◌⊎◌, inl, inr, ℕ, zero, suc, ◌<◌, ◌==◌, Bool, true, false, true≢false, not, ◌||◌, ◌&&◌, List, [], ◌∷◌, length, get_or, refl, sym, subst, arith}
use Rattle.std.specs.List.{list_any}
use Rattle.std.proofs.lemmas.Bool.{cases_Bool, cases_eq, eqb-true, eqb-false}
use Rattle.tb_graph.specs.Walk.{Graph, IsIn, IsLink, IsWalk, Reaches, IsAcyclic}
use Rattle.tb_graph.specs.Leads.{leads_below, leads, none_returns, is_acyclic}
use Rattle.tb_graph.proofs.Walks.{reaches_join, walk_within}

eqb-same : (n : ℕ) → (n == n) ≡ true
eqb-same n = elim (cases_Bool (n == n)) [ inl same ↦ same | inr other ↦ absurd (eqb-false n n other refl) ]

-- either way to a true `or`, and both parts of a true `and`
or_cases : (a b : Bool) → (a || b) ≡ true → (a ≡ true) ⊎ (b ≡ true)
or_cases true b h = inl refl
or_cases false b h = inr h

or_left : (a b : Bool) → a ≡ true → (a || b) ≡ true
or_left true b h = refl
or_left false b h = absurd (true≢false (sym h))

or_right : (a b : Bool) → b ≡ true → (a || b) ≡ true
or_right true b h = refl
or_right false b h = h

pub and_parts : (a b : Bool) → (a && b) ≡ true → (a ≡ true) × (b ≡ true)
and_parts true b h = (refl, h)
and_parts false b h = absurd (true≢false (sym h))

pub and_both : (a b : Bool) → a ≡ true → b ≡ true → (a && b) ≡ true
and_both true b h k = k
and_both false b h k = h

pub is_in : (b : ℕ) (ts : List ℕ) → list_any (λ t. t == b) ts ≡ true → IsIn b ts
is_in b [] h = absurd (true≢false (sym h))
is_in b (t ∷ ts) h = elim (or_cases (t == b) (list_any (λ t. t == b) ts) h) [ inl here ↦ inl (eqb-true t b here) | inr later ↦ inr (is_in b ts later) ]

pub in_is : (b : ℕ) (ts : List ℕ) → IsIn b ts → list_any (λ t. t == b) ts ≡ true
in_is b [] h = absurd h
in_is b (t ∷ ts) (inl e) = or_left (t == b) (list_any (λ t. t == b) ts) (subst (λ n. (t == n) ≡ true) e (eqb-same t))
in_is b (t ∷ ts) (inr h) = or_right (t == b) (list_any (λ t. t == b) ts) (in_is b ts h)

leads_reaches : (g : Graph) (n a b : ℕ) → leads_below g n a b ≡ true → Reaches g a b
unfolding leads_below
leads_reaches g zero a b h = ([], is_in b (get_or g a []) h)
leads_reaches g (suc n) a b h =
    elim (or_cases (leads_below g n a b) (leads_below g n a n && leads_below g n n b) h) [
      | inl before ↦ leads_reaches g n a b before
      | inr through ↦
          let parts = and_parts (leads_below g n a n) (leads_below g n n b) through in
          reaches_join g a n b (leads_reaches g n a n parts.0) (leads_reaches g n n b parts.1)
    ]

link_leads : (g : Graph) (n a b : ℕ) → IsLink g a b → leads_below g n a b ≡ true
unfolding leads_below
link_leads g zero a b link = in_is b (get_or g a []) link
link_leads g (suc n) a b link = or_left (leads_below g n a b) (leads_below g n a n && leads_below g n n b) (link_leads g n a b link)

-- a link to a node below n goes before a walk that passes only such nodes
link_first : (g : Graph) (n a c b : ℕ) → c < n → IsLink g a c → leads_below g n c b ≡ true → leads_below g n a b ≡ true
unfolding leads_below
link_first g zero a c b below link rest = absurd (omega arith)
link_first g (suc n) a c b below link rest =
    elim (cases_eq c n) [
      | inl e ↦ through (subst (λ k. IsLink g a k) e link) (to_end (subst (λ k. leads_below g (suc n) k b ≡ true) e rest))
      | inr other ↦
          let lower : c < n = omega arith in
          elim (or_cases (leads_below g n c b) (leads_below g n c n && leads_below g n n b) rest) [
            | inl before ↦ or_left (leads_below g n a b) (leads_below g n a n && leads_below g n n b) (link_first g n a c b lower link before)
            | inr parts ↦
                let both = and_parts (leads_below g n c n) (leads_below g n n b) parts in
                or_right (leads_below g n a b) (leads_below g n a n && leads_below g n n b)
                (and_both (leads_below g n a n) (leads_below g n n b) (link_first g n a c n lower link both.0) both.1)
          ]
    ]
  where
    to_end : (leads_below g n n b || (leads_below g n n n && leads_below g n n b)) ≡ true → leads_below g n n b ≡ true
    to_end h = elim (or_cases (leads_below g n n b) (leads_below g n n n && leads_below g n n b) h) [
      | inl before ↦ before
      | inr parts ↦ (and_parts (leads_below g n n n) (leads_below g n n b) parts).1
    ]

    through : IsLink g a n → leads_below g n n b ≡ true → (leads_below g n a b || (leads_below g n a n && leads_below g n n b)) ≡ true
    through first second =
        or_right (leads_below g n a b) (leads_below g n a n && leads_below g n n b)
        (and_both (leads_below g n a n) (leads_below g n n b) (link_leads g n a n first) second)

walk_leads : (g : Graph) (a : ℕ) (over : List ℕ) (b : ℕ) → IsWalk g a over b → leads_below g (length g) a b ≡ true
walk_leads g a [] b walk = link_leads g (length g) a b walk
walk_leads g a (c ∷ cs) b walk = link_first g (length g) a c b (walk_within g c cs b walk.1) walk.0 (walk_leads g c cs b walk.1)

-- a walk exists exactly where the test finds one
pub leads_decides : (g : Graph) (a b : ℕ) → (leads g a b ≡ true) ↔ Reaches g a b
unfolding leads
leads_decides g a b = (leads_reaches g (length g) a b, λ r. walk_leads g a r.0 b r.1)

none_of : (g : Graph) (n : ℕ) → none_returns g n ≡ true → (a : ℕ) → a < n → Reaches g a a → ⊥
unfolding none_returns
none_of g zero h a below r = absurd (omega arith)
none_of g (suc n) h a below r =
    let parts = and_parts (not (leads g n n)) (none_returns g n) h in
    elim (cases_eq a n) [
      | inl e ↦ differs (leads g n n) parts.0 ((leads_decides g n n).1 (subst (λ k. Reaches g k k) e r))
      | inr other ↦ none_of g n parts.1 a (omega arith) r
    ]
  where
    differs : (b : Bool) → not b ≡ true → b ≡ true → ⊥
    differs true h k = true≢false (sym h)
    differs false h k = true≢false (sym k)

acyclic_none : (g : Graph) (n : ℕ) → IsAcyclic g → none_returns g n ≡ true
unfolding none_returns
acyclic_none g zero acyclic = refl
acyclic_none g (suc n) acyclic =
    and_both (not (leads g n n)) (none_returns g n) (denied (leads g n n) (λ h. acyclic n ((leads_decides g n n).0 h))) (acyclic_none g n acyclic)
  where
    denied : (b : Bool) → (b ≡ true → ⊥) → not b ≡ true
    denied true h = absurd (h refl)
    denied false h = refl

-- a graph is acyclic exactly where the test says so
pub is_acyclic_decides : (g : Graph) → (is_acyclic g ≡ true) ↔ IsAcyclic g
unfolding is_acyclic
is_acyclic_decides g = (λ h a r. none_of g (length g) h a (walk_within g a r.0 a r.1) r, λ acyclic. acyclic_none g (length g) acyclic)
