-- Counts of the links that lead to each node.
use Rattle.std.proofs.Common.{◌≡◌, ◌≢◌, inl, inr, ℕ, zero, suc, ◌+◌, ◌<◌, ◌==◌, if◌then◌else◌, List, [], ◌∷◌, length, get_or, set, take, replicate, refl, sym, ◌∙◌, ap, arith, add-one, get_or-set_other, get_or-set_same}
use Rattle.std.proofs.lemmas.Bool.{cases_Bool, eqb-true, eqb-false}
use Rattle.std.proofs.Math.ListN.{length-set, length-replicate}
use Rattle.std.proofs.Math.Seq.{take-length}
use Rattle.tb_graph.specs.Walk.{Graph, IsIn, IsWellFormed}
use Rattle.tb_graph.specs.Taking.{occurrences, incoming, AreCounts, counts_with}

-- a count at a place is changed there alone
pub count_at : (counts : List ℕ) (t n v : ℕ) → t < length counts → get_or (set counts t n) v 0 ≡ (if t == v then n else get_or counts v 0)
count_at counts t n v within =
    elim (cases_Bool (t == v)) [
      | inl same ↦ rw (same, ← eqb-true t v same, get_or-set_same) refl
      | inr other ↦ let ne : v ≢ t = λ e. eqb-false t v other (sym e) in rw (other, get_or-set_other) refl
    ]

record Added (counts ts counts' : List ℕ) : Type 0 where
  size : length counts' ≡ length counts
  more : (v : ℕ) → get_or counts' v 0 ≡ get_or counts v 0 + occurrences v ts

added : (counts ts : List ℕ) → ((t : ℕ) → IsIn t ts → t < length counts) → Added counts ts (counts_with counts ts)
added counts [] nodes = record { size = refl; more = λ v. omega arith }
added counts (t ∷ ts) nodes =
    let within : t < length counts = nodes t (inl refl) in
    let counts' = set counts t (get_or counts t 0 + 1) in
    let rest = added counts' ts (λ u h. let fits = nodes u (inr h) in omega (arith, fits, length-set counts t (get_or counts t 0 + 1))) in
    record {
      size = rest.size ∙ length-set counts t (get_or counts t 0 + 1);
      more = λ v. one_more v (rest.more v) (count_at counts t (get_or counts t 0 + 1) v within);
    }
  where
    one_more : (v : ℕ) → get_or (counts_with (set counts t (get_or counts t 0 + 1)) ts) v 0 ≡ get_or (set counts t (get_or counts t 0 + 1)) v 0 + occurrences v ts
        → get_or (set counts t (get_or counts t 0 + 1)) v 0 ≡ (if t == v then get_or counts t 0 + 1 else get_or counts v 0)
        → get_or (counts_with (set counts t (get_or counts t 0 + 1)) ts) v 0 ≡ get_or counts v 0 + occurrences v (t ∷ ts)
    one_more v rest one =
        elim (cases_Bool (t == v)) [
          | inl same ↦ rw same (omega (arith, rest, rw same at one, ap (λ n. get_or counts n 0) (eqb-true t v same)))
          | inr other ↦ rw other (omega (arith, rest, rw other at one))
        ]

-- the links from the first n nodes are counted
pub record CountedUpTo (g : Graph) (n : ℕ) (counts : List ℕ) : Type 0 where
  pub size : length counts ≡ length g
  pub each : (v : ℕ) → get_or counts v 0 ≡ incoming (take n g) [] v

zeros : ℕ → List ℕ
zeros n = replicate n 0

blank_count : (n v : ℕ) → get_or (zeros n) v 0 ≡ 0
unfolding zeros
blank_count zero v = refl
blank_count (suc n) zero = refl
blank_count (suc n) (suc v) = blank_count n v

pub none_counted : (g : Graph) (counts : List ℕ) → counts ≡ replicate (length g) 0 → CountedUpTo g zero counts
unfolding zeros
none_counted g counts blank =
    record {
      size = ap length blank ∙ length-replicate (length g) 0;
      each = λ v. ap (λ cs. get_or cs v 0) blank ∙ blank_count (length g) v;
    }

incoming_next : (g : Graph) (n v : ℕ) → n < length g → incoming (take (suc n) g) [] v ≡ incoming (take n g) [] v + occurrences v (get_or g n [])
incoming_next [] n v within = absurd (omega arith)
incoming_next (ts ∷ g) zero v within = omega arith
incoming_next (ts ∷ g) (suc n) v within = let rest = incoming_next g n v (omega arith) in omega (arith, rest)

pub next_counted : (g : Graph) (n : ℕ) (counts counts' : List ℕ) → IsWellFormed g → n < length g → CountedUpTo g n counts
    → counts' ≡ counts_with counts (get_or g n []) → CountedUpTo g (n + 1) counts'
next_counted g n counts counts' formed within c is =
    let a = added counts (get_or g n []) (λ t h. let fits = formed n t h in omega (arith, fits, c.size)) in
    rw add-one (record {
      size = ap length is ∙ a.size ∙ c.size;
      each = λ v. ap (λ cs. get_or cs v 0) is ∙ a.more v ∙ omega (arith, c.each v, incoming_next g n v within);
    })

pub all_counted : (g : Graph) (n : ℕ) (counts : List ℕ) → n ≡ length g → CountedUpTo g n counts → AreCounts g [] counts
all_counted g n counts end c =
    record {
      size = c.size;
      each = λ v _. c.each v ∙ ap (λ k. incoming (take k g) [] v) end ∙ ap (λ h. incoming h [] v) (take-length g);
    }
