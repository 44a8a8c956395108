-- What taking off keeps.
use Rattle.std.proofs.Common.{◌≡◌, ◌⊎◌, inl, inr, ℕ, zero, suc, ◌+◌, ◌<◌, ◌≤◌, ◌==◌, Bool, true, false, true≢false, List, [], ◌∷◌, ◌++◌, length, get_or, set, replicate, refl, sym, ◌∙◌, ap, subst, arith}
use Rattle.std.proofs.lemmas.Bool.{cases_Bool, cases_lt, eqb-true, eqb-false}
use Rattle.std.proofs.Math.ListN.{length-set, length-replicate}
use Rattle.tb_graph.specs.Walk.{Graph, IsIn, IsLink, Reaches, IsWellFormed}
use Rattle.tb_graph.specs.Marks.{is_marked}
use Rattle.tb_graph.specs.Taking.{occurrences, incoming, AreCounts, AreTaken, counts_without, work_without}
use Rattle.tb_graph.proofs.Lists.{IsIn-left, IsIn-right, IsIn-append}
use Rattle.tb_graph.proofs.Walks.{taken_off}
use Rattle.tb_graph.proofs.Marking.{mark_here, mark_kept, mark_only, unset}
use Rattle.tb_graph.proofs.TakingLinks.{TakesLinks, takes_links}

pub record Taking (g : Graph) (counts : List ℕ) (marks : List Bool) (work : List ℕ) : Type 0 where
  pub size : length marks ≡ length g
  pub counts_size : length counts ≡ length g
  pub count : (v : ℕ) → v < length g → get_or counts v 0 ≡ incoming g marks v
  pub nodes : (w : ℕ) → IsIn w work → w < length g
  pub ready : (w : ℕ) → IsIn w work → get_or counts w 0 ≡ 0
  pub waiting : (v : ℕ) → v < length g → get_or counts v 0 ≡ 0 → (is_marked marks v ≡ true) ⊎ IsIn v work
  pub clean : (v : ℕ) → is_marked marks v ≡ true → Reaches g v v → ⊥

-- a node with no link from a node without a mark has marks on all those that are linked to it
no_occurrence : (v : ℕ) (ts : List ℕ) → occurrences v ts ≡ 0 → IsIn v ts → ⊥
no_occurrence v [] none h = h
no_occurrence v (t ∷ ts) none h =
    elim (cases_Bool (t == v)) [
      | inl same ↦ absurd (omega (arith, rw same at none))
      | inr other ↦ elim h [
        | inl e ↦ eqb-false t v other e
        | inr later ↦ no_occurrence v ts (omega (arith, rw other at none)) later
      ]
    ]

all_sources_marked : (g : Graph) (marks : List Bool) (v u : ℕ) → incoming g marks v ≡ 0 → IsLink g u v → is_marked marks u ≡ true
all_sources_marked [] marks v u none link = absurd link
all_sources_marked (ts ∷ g) [] v zero none link = absurd (no_occurrence v ts (omega (arith, none)) link)
all_sources_marked (ts ∷ g) [] v (suc u) none link = all_sources_marked g [] v u (omega (arith, none)) link
all_sources_marked (ts ∷ g) (true ∷ ms) v zero none link = refl
all_sources_marked (ts ∷ g) (true ∷ ms) v (suc u) none link = all_sources_marked g ms v u (omega (arith, none)) link
all_sources_marked (ts ∷ g) (false ∷ ms) v zero none link = absurd (no_occurrence v ts (omega (arith, none)) link)
all_sources_marked (ts ∷ g) (false ∷ ms) v (suc u) none link = all_sources_marked g ms v u (omega (arith, none)) link

-- a mark takes the links of its node from the counts
incoming_marked : (g : Graph) (marks : List Bool) (node v : ℕ) → length marks ≡ length g → node < length g → is_marked marks node ≡ false
    → incoming g (set marks node true) v + occurrences v (get_or g node []) ≡ incoming g marks v
incoming_marked [] marks node v size within none = absurd (omega arith)
incoming_marked (ts ∷ g) [] node v size within none = absurd (omega arith)
incoming_marked (ts ∷ g) (m ∷ ms) zero v size within none = rw none (omega arith)
incoming_marked (ts ∷ g) (true ∷ ms) (suc node) v size within none =
    let rest = incoming_marked g ms node v (omega (arith, size)) (omega (arith, within)) none in
    omega (arith, rest)
incoming_marked (ts ∷ g) (false ∷ ms) (suc node) v size within none =
    let rest = incoming_marked g ms node v (omega (arith, size)) (omega (arith, within)) none in
    omega (arith, rest)

-- there is a count for each link of a node without a mark
pub enough : (g : Graph) (counts : List ℕ) (marks : List Bool) (work : List ℕ) (node : ℕ) → IsWellFormed g → Taking g counts marks work
    → node < length g → is_marked marks node ≡ false → (v : ℕ) → occurrences v (get_or g node []) ≤ get_or counts v 0
enough g counts marks work node formed t within none v =
    elim (cases_lt v (length g)) [
      | inl fits ↦ omega (arith, t.count v fits, incoming_marked g marks node v t.size within none)
      | inr past ↦ omega (arith, outside v (get_or g node []) (λ link. absurd (omega (arith, formed node v link, past))))
    ]
  where
    outside : (v : ℕ) (ts : List ℕ) → (IsIn v ts → ⊥) → occurrences v ts ≡ 0
    outside v [] unlinked = refl
    outside v (t ∷ ts) unlinked =
        elim (cases_Bool (t == v)) [
          | inl same ↦ absurd (unlinked (inl (eqb-true t v same)))
          | inr other ↦ rw other (omega (arith, outside v ts (λ h. unlinked (inr h))))
        ]

pub links_taken : (g : Graph) (counts : List ℕ) (marks : List Bool) (work : List ℕ) (node : ℕ) (ts counts' work' : List ℕ) → IsWellFormed g
    → Taking g counts marks (work ++ node ∷ []) → is_marked marks node ≡ false → ts ≡ get_or g node []
    → counts' ≡ counts_without counts ts → work' ≡ work_without counts work ts → TakesLinks counts work (get_or g node []) counts' work'
links_taken g counts marks work node ts counts' work' formed t none is counts_are work_is =
    let within : node < length g = t.nodes node (IsIn-right node work (node ∷ []) (inl refl)) in
    rw (counts_are, work_is, is)
    (takes_links counts work (get_or g node []) (λ w link. let fits = formed node w link in omega (arith, fits, t.counts_size))
    (enough g counts marks (work ++ node ∷ []) node formed t within none))

-- a node that is taken off already
pub taken_twice : (g : Graph) (counts : List ℕ) (marks : List Bool) (work : List ℕ) (node : ℕ)
    → Taking g counts marks (work ++ node ∷ []) → is_marked marks node ≡ true → Taking g counts marks work
taken_twice g counts marks work node t marked =
    record {
      size = t.size;
      counts_size = t.counts_size;
      count = t.count;
      nodes = λ w h. t.nodes w (IsIn-left w work (node ∷ []) h);
      ready = λ w h. t.ready w (IsIn-left w work (node ∷ []) h);
      waiting = λ v within none. elim (t.waiting v within none) [
        | inl before ↦ inl before
        | inr h ↦ elim (IsIn-append v work (node ∷ []) h) [
          | inl still ↦ inr still
          | inr here ↦ elim here [ inl e ↦ inl (subst (λ n. is_marked marks n ≡ true) e marked) | inr none ↦ absurd none ]
        ]
      ];
      clean = t.clean;
    }

pub taken_step : (g : Graph) (counts : List ℕ) (marks : List Bool) (work : List ℕ) (node : ℕ) (counts' work' : List ℕ)
    → Taking g counts marks (work ++ node ∷ []) → is_marked marks node ≡ false
    → TakesLinks counts work (get_or g node []) counts' work' → Taking g counts' (set marks node true) work'
taken_step g counts marks work node counts' work' t none links =
    let within : node < length g = t.nodes node (IsIn-right node work (node ∷ []) (inl refl)) in
    let inside : node < length marks = omega (arith, within, t.size) in
    let no_count : get_or counts node 0 ≡ 0 = t.ready node (IsIn-right node work (node ∷ []) (inl refl)) in
    record {
      size = length-set marks node true ∙ t.size;
      counts_size = links.size ∙ t.counts_size;
      count = λ v fits. omega (arith, links.less v, t.count v fits, incoming_marked g marks node v t.size within none);
      nodes = λ w h. elim (links.only w h) [
        | inl old ↦ t.nodes w (IsIn-left w work (node ∷ []) old)
        | inr new ↦ let fits = new.0 in omega (arith, fits, t.counts_size)
      ];
      ready = λ w h. elim (links.only w h) [
        | inl old ↦ omega (arith, links.less w, t.ready w (IsIn-left w work (node ∷ []) old))
        | inr new ↦ new.1
      ];
      waiting = λ v fits no_links. elim (links.fresh v no_links) [
        | inl before ↦ elim (t.waiting v fits before) [
          | inl marked ↦ inl (mark_kept marks node v inside marked)
          | inr h ↦ elim (IsIn-append v work (node ∷ []) h) [
            | inl still ↦ inr (links.kept v still)
            | inr here ↦ elim here [ inl e ↦ inl (mark_here marks node v inside e) | inr none ↦ absurd none ]
          ]
        ]
        | inr new ↦ inr new
      ];
      clean = λ v h. elim (mark_only marks node v h) [
        | inl e ↦ subst (λ n. Reaches g n n → ⊥) e (taken_off g node (λ u link. t.clean u (all_sources_marked g marks node u (sym (t.count node within) ∙ no_count) link)))
        | inr before ↦ t.clean v before
      ];
    }

pub taking_begins : (g : Graph) (counts : List ℕ) (marks : List Bool) (work : List ℕ) → AreCounts g [] counts → marks ≡ replicate (length g) false
    → ((v : ℕ) → IsIn v work → (v < length counts) × (get_or counts v 0 ≡ 0))
    → ((v : ℕ) → v < length counts → get_or counts v 0 ≡ 0 → IsIn v work) → Taking g counts marks work
taking_begins g counts marks work counted blank only all =
    record {
      size = ap length blank ∙ length-replicate (length g) false;
      counts_size = counted.size;
      count = λ v fits. counted.each v fits ∙ sym (ap (λ ms. incoming g ms v) blank ∙ none_marked g v);
      nodes = λ w h. let fits = (only w h).0 in omega (arith, fits, counted.size);
      ready = λ w h. (only w h).1;
      waiting = λ v fits none. inr (all v (omega (arith, fits, counted.size)) none);
      clean = λ v h. absurd (true≢false (sym h ∙ ap (λ ms. is_marked ms v) blank ∙ unset (length g) v));
    }
  where
    none_marked : (g : Graph) (v : ℕ) → incoming g (replicate (length g) false) v ≡ incoming g [] v
    none_marked [] v = refl
    none_marked (ts ∷ g) v = ap (λ n. occurrences v ts + n) (none_marked g v)

pub taking_ends : (g : Graph) (counts : List ℕ) (marks : List Bool) (work : List ℕ) → length work ≡ 0 → Taking g counts marks work → AreTaken g marks
taking_ends g counts marks [] no_work t =
    record {
      size = t.size;
      clean = t.clean;
      rest = λ v within unmarked none. elim (t.waiting v within (t.count v within ∙ none)) [
        | inl marked ↦ absurd (true≢false (sym marked ∙ unmarked))
        | inr none ↦ absurd none
      ];
    }
taking_ends g counts marks (w ∷ ws) no_work t = absurd (omega arith)
