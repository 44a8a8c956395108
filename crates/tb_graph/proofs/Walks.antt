-- Walks that are joined, and the nodes on them.
use Rattle.std.proofs.Common.{◌≡◌, ◌⊎◌, inl, inr, ℕ, zero, suc, ◌<◌, List, [], ◌∷◌, ◌++◌, length, refl, sym, subst, arith}
use Rattle.tb_graph.specs.Walk.{Graph, IsLink, IsWalk, Reaches}

walk_join : (g : Graph) (a : ℕ) (over : List ℕ) (b : ℕ) (more : List ℕ) (c : ℕ) → IsWalk g a over b → IsWalk g b more c → IsWalk g a (over ++ b ∷ more) c
walk_join g a [] b more c walk rest = (walk, rest)
walk_join g a (n ∷ ns) b more c walk rest = (walk.0, walk_join g n ns b more c walk.1 rest)

pub reaches_join : (g : Graph) (a b c : ℕ) → Reaches g a b → Reaches g b c → Reaches g a c
reaches_join g a b c r s = (r.0 ++ b ∷ s.0, walk_join g a r.0 b s.0 c r.1 s.1)

-- the last link of a walk: from its first node, or from one that the first reaches
pub record LastLink (g : Graph) (a b : ℕ) : Type 0 where
  pub node : ℕ
  pub link : IsLink g node b
  pub before : (node ≡ a) ⊎ Reaches g a node

last_link : (g : Graph) (a : ℕ) (over : List ℕ) (b : ℕ) → IsWalk g a over b → LastLink g a b
last_link g a [] b walk = record { node = a; link = walk; before = inl refl }
last_link g a (c ∷ cs) b walk =
    let rest = last_link g c cs b walk.1 in
    record {
      node = rest.node;
      link = rest.link;
      before = inr (elim rest.before [
        | inl e ↦ subst (λ n. Reaches g a n) (sym e) ([], walk.0)
        | inr later ↦ reaches_join g a c rest.node ([], walk.0) later
      ]);
    }

-- a node whose sources are all on no closed walk is on none
pub taken_off : (g : Graph) (v : ℕ) → ((u : ℕ) → IsLink g u v → Reaches g u u → ⊥) → Reaches g v v → ⊥
taken_off g v clean cycle =
    let last = last_link g v cycle.0 v cycle.1 in
    clean last.node last.link (elim last.before [
      | inl e ↦ subst (λ n. Reaches g n n) (sym e) cycle
      | inr r ↦ reaches_join g last.node v last.node ([], last.link) r
    ])

pub link_within : (g : Graph) (a b : ℕ) → IsLink g a b → a < length g
link_within [] a b link = absurd link
link_within (ts ∷ g) zero b link = omega arith
link_within (ts ∷ g) (suc a) b link = let h = link_within g a b link in omega arith

pub walk_within : (g : Graph) (a : ℕ) (over : List ℕ) (b : ℕ) → IsWalk g a over b → a < length g
walk_within g a [] b walk = link_within g a b walk
walk_within g a (c ∷ cs) b walk = link_within g a c walk.0
