-- Marks on the nodes that are open and have another open one linked to them.
use Rattle.std.proofs.Common.{◌≡◌, ◌≢◌, ◌⊎◌, inl, inr, ℕ, zero, suc, ◌<◌, ◌≤◌, ◌==◌, Bool, true, false, true≢false, if◌then◌else◌, List, [], ◌∷◌, length, get_or, set, replicate, refl, sym, ◌∙◌, ap, subst, arith}
use Rattle.std.proofs.lemmas.Bool.{cases_Bool, cases_eq, eqb-true, eqb-false}
use Rattle.std.proofs.Math.ListN.{length-set, length-replicate}
use Rattle.tb_graph.specs.Walk.{Graph, IsIn, IsLink, IsWellFormed}
use Rattle.tb_graph.specs.Marks.{is_marked}
use Rattle.tb_graph.specs.Blocked.{is_other_open, marks_where, IsBlocking, AreBlocking}
use Rattle.tb_graph.proofs.Marking.{mark_here, mark_kept, mark_only, unset}

-- the nodes of a list that pass the test are marked too
record MarksMore (test : ℕ → Bool) (marks : List Bool) (ts : List ℕ) (marks' : List Bool) : Type 0 where
  size : length marks' ≡ length marks
  kept : (v : ℕ) → is_marked marks v ≡ true → is_marked marks' v ≡ true
  added : (v : ℕ) → IsIn v ts → test v ≡ true → is_marked marks' v ≡ true
  only : (v : ℕ) → is_marked marks' v ≡ true → (is_marked marks v ≡ true) ⊎ (IsIn v ts × (test v ≡ true))

more_marked : (test : ℕ → Bool) (marks : List Bool) (t : ℕ) (ts : List ℕ) (marks' : List Bool)
    → t < length marks → test t ≡ true → MarksMore test (set marks t true) ts marks' → MarksMore test marks (t ∷ ts) marks'
more_marked test marks t ts marks' within here m =
    record {
      size = m.size ∙ length-set marks t true;
      kept = λ v h. m.kept v (mark_kept marks t v within h);
      added = λ v h a. elim h [ inl e ↦ m.kept v (mark_here marks t v within e) | inr later ↦ m.added v later a ];
      only = λ v h. elim (m.only v h) [
        | inl old ↦ elim (mark_only marks t v old) [
          | inl e ↦ inr (inl e, subst (λ n. test n ≡ true) e here)
          | inr before ↦ inl before
        ]
        | inr fresh ↦ inr (inr fresh.0, fresh.1)
      ];
    }

more_passed : (test : ℕ → Bool) (marks : List Bool) (t : ℕ) (ts : List ℕ) (marks' : List Bool)
    → test t ≡ false → MarksMore test marks ts marks' → MarksMore test marks (t ∷ ts) marks'
more_passed test marks t ts marks' shut m =
    record {
      size = m.size;
      kept = m.kept;
      added = λ v h a. elim h [
        | inl e ↦ absurd (true≢false (sym a ∙ subst (λ n. test n ≡ false) e shut))
        | inr later ↦ m.added v later a
      ];
      only = λ v h. elim (m.only v h) [ inl old ↦ inl old | inr fresh ↦ inr (inr fresh.0, fresh.1) ];
    }

marks_more : (test : ℕ → Bool) (marks : List Bool) (ts : List ℕ) → ((t : ℕ) → IsIn t ts → t < length marks)
    → MarksMore test marks ts (marks_where test marks ts)
marks_more test marks [] nodes =
    record { size = refl; kept = λ v h. h; added = λ v h a. absurd h; only = λ v h. inl h }
marks_more test marks (t ∷ ts) nodes =
    let within : t < length marks = nodes t (inl refl) in
    elim (cases_Bool (test t)) [
      | inl here ↦
          rw here (more_marked test marks t ts _ within here
          (marks_more test (set marks t true) ts (λ u h. let fits = nodes u (inr h) in omega (arith, fits, length-set marks t true))))
      | inr shut ↦ rw shut (more_passed test marks t ts _ shut (marks_more test marks ts (λ u h. nodes u (inr h))))
    ]

other_open : (among : List Bool) (v w : ℕ) → w ≢ v → is_marked among w ≡ true → is_other_open among v w ≡ true
other_open among v w other here =
    elim (cases_Bool (w == v)) [
      | inl same ↦ absurd (other (eqb-true w v same))
      | inr differs ↦ rw differs here
    ]

other_is_open : (among : List Bool) (v w : ℕ) → is_other_open among v w ≡ true → (v ≢ w) × (is_marked among w ≡ true)
other_is_open among v w h =
    elim (cases_Bool (w == v)) [
      | inl same ↦ absurd (true≢false (sym (rw same at h)))
      | inr differs ↦ (λ e. eqb-false w v differs (sym e), rw differs at h)
    ]

-- the marks after the open ones of the first nodes
abbrev pub blocking_after : List (List ℕ) → List Bool → List Bool → ℕ → List Bool
blocking_after g among marks zero = marks
blocking_after g among marks (suc i) =
    if is_marked among i then marks_where (is_other_open among i) (blocking_after g among marks i) (get_or g i [])
    else blocking_after g among marks i

-- what the marks are after the open ones of the first n nodes
pub record Blocks (g : Graph) (among : List Bool) (n : ℕ) (marks : List Bool) : Type 0 where
  pub size : length marks ≡ length g
  pub only : (w : ℕ) → is_marked marks w ≡ true → IsBlocking g among w
  pub all : (w v : ℕ) → v < n → v ≢ w → is_marked among w ≡ true → is_marked among v ≡ true → IsLink g v w → is_marked marks w ≡ true

pub blocks : (g : Graph) (among marks : List Bool) → IsWellFormed g → marks ≡ replicate (length g) false → (n : ℕ) → n ≤ length g
    → Blocks g among n (blocking_after g among marks n)
blocks g among marks formed blank zero upto =
    record {
      size = ap length blank ∙ length-replicate (length g) false;
      only = λ w h. absurd (true≢false (sym h ∙ ap (λ ms. is_marked ms w) blank ∙ unset (length g) w));
      all = λ w v h. absurd (omega arith);
    }
blocks g among marks formed blank (suc n) upto =
    let before = blocks g among marks formed blank n (omega arith) in
    let size = before.size in
    elim (cases_Bool (is_marked among n)) [
      | inl here ↦
          let m = marks_more (is_other_open among n) (blocking_after g among marks n) (get_or g n [])
          (λ t h. let fits = formed n t h in omega (arith, fits, size)) in
          rw here (record {
            size = m.size ∙ size;
            only = λ w h. elim (m.only w h) [
              | inl old ↦ before.only w old
              | inr fresh ↦ let other = other_is_open among n w fresh.1 in (other.1, n, other.0, omega arith, here, fresh.0)
            ];
            all = λ w v lt ne open_w open_v link. elim (cases_eq v n) [
              | inl e ↦ m.added w (subst (λ u. IsLink g u w) e link) (other_open among n w (λ same. ne (e ∙ sym same)) open_w)
              | inr differs ↦ m.kept w (before.all w v (omega arith) ne open_w open_v link)
            ];
          })
      | inr shut ↦
          rw shut (record {
            size = size;
            only = before.only;
            all = λ w v lt ne open_w open_v link. elim (cases_eq v n) [
              | inl e ↦ absurd (true≢false (sym open_v ∙ subst (λ u. is_marked among u ≡ false) (sym e) shut))
              | inr differs ↦ before.all w v (omega arith) ne open_w open_v link
            ];
          })
    ]

pub blocking : (g : Graph) (among marks : List Bool) → IsWellFormed g → marks ≡ replicate (length g) false
    → AreBlocking g among (blocking_after g among marks (length g))
blocking g among marks formed blank =
    let b = blocks g among marks formed blank (length g) (omega arith) in
    record { size = b.size; each = λ w. (b.only w, λ h. b.all w h.1 h.3 h.2 h.0 h.4 h.5) }
