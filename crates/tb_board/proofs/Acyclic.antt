-- Which links can be added to a graph without a closed walk.
use Rattle.std.proofs.Common.{◌≡◌, ◌⊎◌, inl, inr, ℕ, zero, suc, ◌<◌, List, [], ◌∷◌, ◌++◌, length, set, refl, sym, ap, subst, arith}
use Rattle.tb_graph.specs.Walk.{Graph, IsAcyclic, IsIn, IsLink, IsWalk, Reaches}
use Rattle.tb_graph.proofs.Walks.{reaches_join}

-- one node, or a walk to it
Near : Graph → ℕ → ℕ → Type 0
Near g a b = (a ≡ b) ⊎ Reaches g a b

near_join : (g : Graph) (a b c : ℕ) → Near g a b → Near g b c → Near g a c
unfolding Near
near_join g a b c (inl e) second = subst (λ n. (n ≡ c) ⊎ Reaches g n c) (sym e) second
near_join g a b c (inr r) (inl e) = inr (subst (Reaches g a) e r)
near_join g a b c (inr r) (inr s) = inr (reaches_join g a b c r s)

-- each link of h is one of g, or leads from a to p
abbrev pub HasMore : Graph → Graph → ℕ → ℕ → Type 0
HasMore g h a p = (u v : ℕ) → IsLink h u v → IsLink g u v ⊎ ((u ≡ a) × (v ≡ p))

walk_parts : (g h : Graph) (a p : ℕ) → HasMore g h a p → (x : ℕ) (over : List ℕ) (y : ℕ) → IsWalk h x over y → Reaches g x y ⊎ (Near g x a × Near g p y)
unfolding Near
walk_parts g h a p more x [] y walk =
    elim (more x y walk) [
      | inl old ↦ inl ([], old)
      | inr new ↦ inr (inl new.0, inl (sym new.1))
    ]
walk_parts g h a p more x (c ∷ cs) y walk =
    elim (more x c walk.0) [
      | inl old ↦ elim (walk_parts g h a p more c cs y walk.1) [
        | inl rest ↦ inl (reaches_join g x c y ([], old) rest)
        | inr parts ↦ inr (near_join g x c a (inr ([], old)) parts.0, parts.1)
      ]
      | inr new ↦ elim (walk_parts g h a p more c cs y walk.1) [
        | inl rest ↦ inr (inl new.0, inr (subst (λ n. Reaches g n y) new.1 rest))
        | inr parts ↦ inr (inl new.0, parts.1)
      ]
    ]

-- a link from a to another node from which no walk leads to a
pub acyclic_with : (g h : Graph) (a p : ℕ) → IsAcyclic g → (a ≡ p → ⊥) → (Reaches g p a → ⊥) → HasMore g h a p → IsAcyclic h
unfolding Near
acyclic_with g h a p acyclic apart none more x closed =
    elim (walk_parts g h a p more x closed.0 x closed.1) [
      | inl old ↦ acyclic x old
      | inr parts ↦ elim (near_join g p x a parts.1 parts.0) [
        | inl e ↦ apart (sym e)
        | inr back ↦ none back
      ]
    ]

walk_kept : (g h : Graph) → ((u v : ℕ) → IsLink h u v → IsLink g u v) → (x : ℕ) (over : List ℕ) (y : ℕ) → IsWalk h x over y → IsWalk g x over y
walk_kept g h fewer x [] y walk = fewer x y walk
walk_kept g h fewer x (c ∷ cs) y walk = (fewer x c walk.0, walk_kept g h fewer c cs y walk.1)

-- fewer links
pub acyclic_without : (g h : Graph) → IsAcyclic g → ((u v : ℕ) → IsLink h u v → IsLink g u v) → IsAcyclic h
acyclic_without g h acyclic fewer x closed = acyclic x (closed.0, walk_kept g h fewer x closed.0 x closed.1)

-- each link leads to a node of g, and it is one of g or leads from the node after them
abbrev pub IsNext : Graph → Graph → Type 0
IsNext g h = (u v : ℕ) → IsLink h u v → (v < length g) × (IsLink g u v ⊎ (u ≡ length g))

end_within : (g h : Graph) → IsNext g h → (x : ℕ) (over : List ℕ) (y : ℕ) → IsWalk h x over y → y < length g
end_within g h next x [] y walk = (next x y walk).0
end_within g h next x (c ∷ cs) y walk = end_within g h next c cs y walk.1

link_within : (g h : Graph) → IsNext g h → (u v : ℕ) → u < length g → IsLink h u v → IsLink g u v
link_within g h next u v within link = elim (next u v link).1 [ inl old ↦ old | inr e ↦ absurd (omega (arith, e, within)) ]

walk_within : (g h : Graph) → IsNext g h → (x : ℕ) (over : List ℕ) (y : ℕ) → x < length g → IsWalk h x over y → IsWalk g x over y
walk_within g h next x [] y within walk = link_within g h next x y within walk
walk_within g h next x (c ∷ cs) y within walk = (link_within g h next x c within walk.0, walk_within g h next c cs y (next x c walk.0).0 walk.1)

-- one more node, to which no link leads
pub acyclic_next : (g h : Graph) → IsAcyclic g → IsNext g h → IsAcyclic h
acyclic_next g h acyclic next x closed = acyclic x (closed.0, walk_within g h next x closed.0 x (end_within g h next x closed.0 x closed.1) closed.1)

-- a link after the targets of one node were set
pub link_set : (g : Graph) (k : ℕ) (ts : List ℕ) (u v : ℕ) → IsLink (set g k ts) u v → IsLink g u v ⊎ ((u ≡ k) × IsIn v ts)
link_set [] k ts u v link = inl link
link_set (us ∷ g) zero ts zero v link = inr (refl, link)
link_set (us ∷ g) zero ts (suc u) v link = inl link
link_set (us ∷ g) (suc k) ts zero v link = inl link
link_set (us ∷ g) (suc k) ts (suc u) v link =
    elim (link_set g k ts u v link) [ inl old ↦ inl old | inr new ↦ inr (ap suc new.0, new.1) ]

-- a link after one more node's targets came last
pub link_last : (g : Graph) (ts : List ℕ) (u v : ℕ) → IsLink (g ++ ts ∷ []) u v → IsLink g u v ⊎ ((u ≡ length g) × IsIn v ts)
link_last [] ts zero v link = inr (refl, link)
link_last [] ts (suc u) v link = absurd link
link_last (us ∷ g) ts zero v link = inl link
link_last (us ∷ g) ts (suc u) v link =
    elim (link_last g ts u v link) [ inl old ↦ inl old | inr new ↦ inr (ap suc new.0, new.1) ]
