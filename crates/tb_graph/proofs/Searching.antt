-- What a search keeps.
use Rattle.std.proofs.Common.{◌≡◌, ◌⊎◌, inl, inr, ℕ, ◌<◌, replicate, Bool, true, false, true≢false, List, [], ◌∷◌, ◌++◌, length, get_or, refl, sym, ◌∙◌, ap, subst, arith}
use Rattle.std.proofs.Math.ListN.{length-replicate}
use Rattle.tb_graph.specs.Walk.{Graph, IsIn, IsLink, IsWalk, Reaches, IsWellFormed}
use Rattle.tb_graph.specs.Marks.{is_marked}
use Rattle.tb_graph.specs.Search.{AreReached}
use Rattle.tb_graph.proofs.Lists.{IsIn-append, IsIn-left, IsIn-right}
use Rattle.tb_graph.proofs.Marking.{unset}
use Rattle.tb_graph.proofs.Walks.{reaches_join}
use Rattle.tb_graph.proofs.Growing.{Grows}

-- the node that the search began with, or one that it found
abbrev pub IsFound : ℕ → List Bool → ℕ → Type 0
IsFound from marks u = (u ≡ from) ⊎ (is_marked marks u ≡ true)

pub record Searched (g : Graph) (from : ℕ) (marks : List Bool) (work : List ℕ) : Type 0 where
  pub size : length marks ≡ length g
  pub nodes : (w : ℕ) → IsIn w work → w < length g
  pub origin : (w : ℕ) → IsIn w work → IsFound from marks w
  pub sound : (v : ℕ) → is_marked marks v ≡ true → Reaches g from v
  pub closed : (u v : ℕ) → IsFound from marks u → IsLink g u v → IsIn u work ⊎ (is_marked marks v ≡ true)

found_reaches : (g : Graph) (from u v : ℕ) (marks : List Bool) → ((w : ℕ) → is_marked marks w ≡ true → Reaches g from w) → IsFound from marks u → IsLink g u v → Reaches g from v
found_reaches g from u v marks sound (inl e) link = ([], subst (λ a. IsLink g a v) e link)
found_reaches g from u v marks sound (inr marked) link = reaches_join g from u v (sound u marked) ([], link)

pub search_step : (g : Graph) (from : ℕ) (marks : List Bool) (work : List ℕ) (node : ℕ) (marks' : List Bool) (work' : List ℕ)
    → IsWellFormed g → Searched g from marks (work ++ node ∷ []) → Grows marks work (get_or g node []) marks' work' → Searched g from marks' work'
search_step g from marks work node marks' work' graph s grown =
    let at_node = s.origin node (IsIn-right node work (node ∷ []) (inl refl)) in
    record {
      size = grown.size ∙ s.size;
      nodes = λ w h. elim (grown.work_only w h) [
        | inl old ↦ s.nodes w (IsIn-left w work (node ∷ []) old)
        | inr fresh ↦ graph node w fresh.0
      ];
      origin = λ w h. elim (grown.work_only w h) [
        | inl old ↦ elim (s.origin w (IsIn-left w work (node ∷ []) old)) [ inl e ↦ inl e | inr marked ↦ inr (grown.kept w marked) ]
        | inr fresh ↦ inr fresh.1
      ];
      sound = λ v h. elim (grown.only v h) [
        | inl old ↦ s.sound v old
        | inr fresh ↦ found_reaches g from node v marks s.sound at_node fresh.0
      ];
      closed = λ u v found link. elim (known u found) [
        | inl before ↦ elim (s.closed u v before link) [
          | inl waiting ↦ elim (IsIn-append u work (node ∷ []) waiting) [
            | inl still ↦ inl (grown.work_kept u still)
            | inr here ↦ inr (grown.added v (linked u v here link))
          ]
          | inr marked ↦ inr (grown.kept v marked)
        ]
        | inr fresh ↦ inl fresh
      ];
    }
  where
    linked : (u v : ℕ) → IsIn u (node ∷ []) → IsLink g u v → IsLink g node v
    linked u v (inl e) link = subst (λ a. IsLink g a v) (sym e) link
    linked u v (inr none) link = elim none [ ]

    known : (u : ℕ) → IsFound from marks' u → IsFound from marks u ⊎ IsIn u work'
    known u (inl e) = inl (inl e)
    known u (inr marked) = elim (grown.only u marked) [ inl old ↦ inl (inr old) | inr fresh ↦ inr fresh.1 ]

walk_marked : (g : Graph) (from : ℕ) (marks : List Bool) → Searched g from marks [] → (a : ℕ) (over : List ℕ) (v : ℕ) → IsFound from marks a → IsWalk g a over v → is_marked marks v ≡ true
walk_marked g from marks s a [] v found walk = elim (s.closed a v found walk) [ inl none ↦ absurd none | inr marked ↦ marked ]
walk_marked g from marks s a (c ∷ cs) v found walk =
    elim (s.closed a c found walk.0) [ inl none ↦ absurd none | inr marked ↦ walk_marked g from marks s c cs v (inr marked) walk.1 ]

pub search_end : (g : Graph) (from : ℕ) (marks : List Bool) → Searched g from marks [] → AreReached g from marks
search_end g from marks s =
    record {
      size = s.size;
      exact = λ v. (s.sound v, λ r. walk_marked g from marks s from r.0 v (inl refl) r.1);
    }

pub search_begin : (g : Graph) (from n : ℕ) (marks : List Bool) → n ≡ length g → from < length g → marks ≡ replicate n false → Searched g from marks (from ∷ [])
search_begin g from n marks len inside is =
    record {
      size = ap length is ∙ length-replicate n false ∙ len;
      nodes = λ w h. elim h [ inl e ↦ subst (λ v. v < length g) e inside | inr none ↦ absurd none ];
      origin = λ w h. elim h [ inl e ↦ inl (sym e) | inr none ↦ absurd none ];
      sound = λ v h. absurd (true≢false (sym h ∙ ap (λ ms. is_marked ms v) is ∙ unset n v));
      closed = λ u v found link. elim found [
        | inl e ↦ inl (inl (sym e))
        | inr h ↦ absurd (true≢false (sym h ∙ ap (λ ms. is_marked ms u) is ∙ unset n u))
      ];
    }

pub no_work : (g : Graph) (from : ℕ) (marks : List Bool) (work : List ℕ) → length work ≡ 0 → Searched g from marks work → Searched g from marks []
no_work g from marks [] none s = s
no_work g from marks (w ∷ ws) none s = absurd (omega arith)
