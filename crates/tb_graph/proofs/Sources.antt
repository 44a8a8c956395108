-- Where each node that is left has a source that is left, there is a closed walk.
use Rattle.std.proofs.Common.{◌≡◌, ◌↔◌, inl, inr, ℕ, zero, suc, ◌<◌, ◌==◌, Bool, true, false, List, [], ◌∷◌, length, refl, sym, subst, arith}
use Rattle.std.proofs.lemmas.Bool.{cases_Bool, cases_eq, eqb-true}
use Rattle.tb_graph.specs.Walk.{Graph, IsIn, IsLink, Reaches, IsAcyclic}
use Rattle.tb_graph.specs.Marks.{is_marked}
use Rattle.tb_graph.specs.Taking.{occurrences, incoming, AreTaken}
use Rattle.tb_graph.proofs.Walks.{reaches_join, walk_within}

-- among finitely many nodes, not each one that is left has a source that is left, unless there is a closed walk
pub record HasSource (g : Graph) (nodes : List ℕ) (IsLeft : ℕ → Type 0) (v : ℕ) : Type 0 where
  pub node : ℕ
  pub among : IsIn node nodes
  pub left : IsLeft node
  pub reaches : Reaches g node v

no_room : (g : Graph) (IsLeft : ℕ → Type 0) → IsAcyclic g → (nodes : List ℕ) → ((v : ℕ) → IsIn v nodes → IsLeft v → HasSource g nodes IsLeft v) → (v : ℕ) → IsIn v nodes → IsLeft v → ⊥
no_room g IsLeft acyclic [] source v among left = among
no_room g IsLeft acyclic (n ∷ ns) source v among left =
    elim among [
      | inl e ↦ let s = over_first (subst IsLeft (sym e) left) in no_room g IsLeft acyclic ns sources s.node s.among s.left
      | inr later ↦ no_room g IsLeft acyclic ns sources v later left
    ]
  where
    -- the first node has a source among the others
    over_first : IsLeft n → HasSource g ns IsLeft n
    over_first here =
        let s = source n (inl refl) here in
        elim s.among [
          | inl e ↦ absurd (acyclic n (subst (λ u. Reaches g u n) (sym e) s.reaches))
          | inr later ↦ record { node = s.node; among = later; left = s.left; reaches = s.reaches }
        ]

    sources : (v : ℕ) → IsIn v ns → IsLeft v → HasSource g ns IsLeft v
    sources v among left =
        let s = source v (inr among) left in
        elim s.among [
          | inl e ↦
              let first = over_first (subst IsLeft (sym e) s.left) in
              record {
                node = first.node;
                among = first.among;
                left = first.left;
                reaches = reaches_join g first.node n v first.reaches (subst (λ u. Reaches g u v) (sym e) s.reaches);
              }
          | inr later ↦ record { node = s.node; among = later; left = s.left; reaches = s.reaches }
        ]

abbrev pub below : ℕ → List ℕ
below zero = []
below (suc n) = n ∷ below n

in_below : (n v : ℕ) → v < n → IsIn v (below n)
in_below zero v h = absurd (omega arith)
in_below (suc n) v h = elim (cases_eq v n) [ inl e ↦ inl (sym e) | inr other ↦ inr (in_below n v (omega arith)) ]

below_in : (n v : ℕ) → IsIn v (below n) → v < n
below_in zero v h = elim h [ ]
below_in (suc n) v (inl e) = omega arith
below_in (suc n) v (inr h) = let lt = below_in n v h in omega arith

-- in a graph without a closed walk nothing is left
pub none_left : (g : Graph) (IsLeft : ℕ → Type 0) → IsAcyclic g
    → ((v : ℕ) → v < length g → IsLeft v → (u : ℕ) × (u < length g) × IsLeft u × IsLink g u v)
    → (v : ℕ) → v < length g → IsLeft v → ⊥
none_left g IsLeft acyclic source v within left =
    no_room g IsLeft acyclic (below (length g)) (λ w among here. source_of w among here) v (in_below (length g) v within) left
  where
    source_of : (w : ℕ) → IsIn w (below (length g)) → IsLeft w → HasSource g (below (length g)) IsLeft w
    source_of w among here =
        let s = source w (below_in (length g) w among) here in
        record { node = s.0; among = in_below (length g) s.0 s.1; left = s.2; reaches = ([], s.3) }

occurs : (v : ℕ) (ts : List ℕ) → (occurrences v ts ≡ 0 → ⊥) → IsIn v ts
occurs v [] h = absurd (h refl)
occurs v (t ∷ ts) h =
    elim (cases_Bool (t == v)) [
      | inl here ↦ inl (eqb-true t v here)
      | inr other ↦ inr (occurs v ts (λ e. h (rw other (omega arith))))
    ]

pub record IsSource (g : Graph) (marks : List Bool) (v u : ℕ) : Type 0 where
  pub within : u < length g
  pub unmarked : is_marked marks u ≡ false
  pub link : IsLink g u v

shift : (ts : List ℕ) (g : Graph) (m : Bool) (ms : List Bool) (v : ℕ) → (u : ℕ) × IsSource g ms v u → (u : ℕ) × IsSource (ts ∷ g) (m ∷ ms) v u
shift ts g m ms v s =
    (suc s.0, record { within = let w = s.1.within in omega arith; unmarked = s.1.unmarked; link = s.1.link })

shift_none : (ts : List ℕ) (g : Graph) (v : ℕ) → (u : ℕ) × IsSource g [] v u → (u : ℕ) × IsSource (ts ∷ g) [] v u
shift_none ts g v s = (suc s.0, record { within = let w = s.1.within in omega arith; unmarked = refl; link = s.1.link })

source_in : (g : Graph) (marks : List Bool) (v : ℕ) → (incoming g marks v ≡ 0 → ⊥) → (u : ℕ) × IsSource g marks v u
source_in [] marks v h = absurd (h refl)
source_in (ts ∷ g) [] v h =
    elim (cases_eq (occurrences v ts) 0) [
      | inl none ↦ shift_none ts g v (source_in g [] v (λ e. h (omega (arith, none, e))))
      | inr some ↦ (zero, record { within = omega arith; unmarked = refl; link = occurs v ts some })
    ]
source_in (ts ∷ g) (true ∷ ms) v h = shift ts g true ms v (source_in g ms v (λ e. h (omega (arith, e))))
source_in (ts ∷ g) (false ∷ ms) v h =
    elim (cases_eq (occurrences v ts) 0) [
      | inl none ↦ shift ts g false ms v (source_in g ms v (λ e. h (omega (arith, none, e))))
      | inr some ↦ (zero, record { within = omega arith; unmarked = refl; link = occurs v ts some })
    ]

all_taken : (g : Graph) (marks : List Bool) → AreTaken g marks → ((v : ℕ) → v < length g → is_marked marks v ≡ true) → IsAcyclic g
all_taken g marks t all a r = t.clean a (all a (walk_within g a r.0 a r.1)) r

none_stays : (g : Graph) (marks : List Bool) → AreTaken g marks → IsAcyclic g → (v : ℕ) → v < length g → is_marked marks v ≡ true
none_stays g marks t acyclic v within =
    elim (cases_Bool (is_marked marks v)) [
      | inl marked ↦ marked
      | inr left ↦ absurd (none_left g (λ u. is_marked marks u ≡ false) acyclic
          (λ w inside here. let s = source_in g marks w (t.rest w inside here) in (s.0, s.1.within, s.1.unmarked, s.1.link)) v within left)
    ]

pub decides : (g : Graph) (marks : List Bool) → AreTaken g marks → ((v : ℕ) → v < length g → is_marked marks v ≡ true) ↔ IsAcyclic g
decides g marks t = (all_taken g marks t, none_stays g marks t)
