-- The lines of a file that aren't skipped.
use Rattle.std.proofs.Common.{◌≡◌, ℕ, zero, suc, ◌-◌, ◌<◌, ◌==◌, Bool, true, false, not, List, [], ◌∷◌, ◌++◌, length, take, drop, get_or, map, cond, Bor, refl, sym, inl, inr, arith, append_assoc}
use Rattle.std.proofs.lemmas.Bool.{and_parts, and_from, cases_Bool}
use Rattle.std.specs.List.{AllByRecursion, filter, slice_split, onto_first}
use Rattle.std.specs.Str.Lines.{lines, lines_of_parts, strip_carriage_return}
use Rattle.tb_task.specs.declared.task.Task.{Task}
use Rattle.tb_todotxt.specs.Line.{is_blank, is_free_of}
use Rattle.tb_todotxt.specs.Reading.{line_of}
use Rattle.tb_todotxt.specs.Making.{task_of}
use Rattle.tb_todotxt.specs.File.{kept_lines, count_of, tasks_after}

abbrev pub IsFull : List ℕ → Type 0
IsFull line = is_blank line ≡ false

abbrev pub IsOneLine : List ℕ → Type 0
IsOneLine line = is_free_of 10 line ≡ true

full_kept : (ls : List (List ℕ)) → AllByRecursion IsFull (filter (λ line. not (is_blank line)) ls)
full_kept [] = tt
full_kept (l ∷ ls) = elim (cases_Bool (is_blank l)) [ inl blank ↦ rw blank (full_kept ls) | inr full ↦ rw full (full, full_kept ls) ]

free_filtered : (test : List ℕ → Bool) (ls : List (List ℕ)) → AllByRecursion IsOneLine ls → AllByRecursion IsOneLine (filter test ls)
free_filtered test [] h = tt
free_filtered test (l ∷ ls) h = elim (cases_Bool (test l)) [ inl e ↦ rw e (h.0, free_filtered test ls h.1) | inr e ↦ rw e (free_filtered test ls h.1) ]

-- a byte that isn't a line feed joins the first part
free_onto : (b : ℕ) (parts : List (List ℕ)) → (b == 10) ≡ false → AllByRecursion IsOneLine parts → AllByRecursion IsOneLine (onto_first b parts)
free_onto b [] other h = (rw other refl, tt)
free_onto b (part ∷ parts) other h = (rw other h.0, h.1)

free_parts : (text : List ℕ) → AllByRecursion IsOneLine (slice_split (λ b. b == 10) text)
free_parts [] = (refl, tt)
free_parts (b ∷ bs) = elim (cases_Bool (b == 10)) [ inl e ↦ rw e (refl, free_parts bs) | inr e ↦ rw e (free_onto b (slice_split (λ b. b == 10) bs) e (free_parts bs)) ]

free_take : (n : ℕ) (l : List ℕ) → IsOneLine l → IsOneLine (take n l)
free_take zero l h = refl
free_take (suc n) [] h = refl
free_take (suc n) (b ∷ bs) h =
    let parts = and_parts (not (b == 10)) (is_free_of 10 bs) h in
    and_from (not (b == 10)) (is_free_of 10 (take n bs)) parts.0 (free_take n bs parts.1)

free_stripped : (l : List ℕ) → IsOneLine l → IsOneLine (strip_carriage_return l)
free_stripped l h = elim (get_or l (length l - 1) 0 == 13) as (λ b. IsOneLine (cond b (take (length l - 1) l) l)) [ true ↦ free_take (length l - 1) l h | false ↦ h ]

free_last : (l : List ℕ) → IsOneLine l → AllByRecursion IsOneLine (lines_of_parts (l ∷ []))
free_last l h = elim (length l == 0) as (λ b. AllByRecursion IsOneLine (cond b [] (l ∷ []))) [ true ↦ tt | false ↦ (h, tt) ]

free_lines : (parts : List (List ℕ)) → AllByRecursion IsOneLine parts → AllByRecursion IsOneLine (lines_of_parts parts)
free_lines [] h = tt
free_lines (l ∷ []) h = free_last l h.0
free_lines (l ∷ k ∷ more) h = (free_stripped l h.0, free_lines (k ∷ more) h.1)

pub full_lines : (text : List ℕ) → AllByRecursion IsFull (kept_lines text)
full_lines text = full_kept (lines text)

pub one_lines : (text : List ℕ) → AllByRecursion IsOneLine (kept_lines text)
one_lines text = free_filtered (λ line. not (is_blank line)) (lines text) (free_lines (slice_split (λ b. b == 10) text) (free_parts text))

abbrev pub shown : List (Bor (List ℕ)) → List (List ℕ)
shown ls = map (λ l. l.now) ls

-- what holds of all lines holds of the one at an index
pub at_index : (P : List ℕ → Type 0) (ls : List (Bor (List ℕ))) (i : ℕ) (d : Bor (List ℕ)) → AllByRecursion P (shown ls) → i < length ls → P (get_or ls i d).now
at_index P [] i d h within = absurd (omega arith)
at_index P (l ∷ ls) zero d h within = h.0
at_index P (l ∷ ls) (suc i) d h within = at_index P ls i d h.1 (omega arith)

-- the line at an index makes its task
pub tasks-more : (m board : ℕ) (ls : List (Bor (List ℕ))) (i : ℕ) (d : Bor (List ℕ)) (before : List (List ℕ)) (made : List Task) (t : Task) → i < length ls
    → t ≡ task_of (line_of (get_or ls i d).now) m board (count_of (get_or ls i d).now before)
    → made ++ tasks_after m board before (shown (drop i ls)) ≡ (made ++ t ∷ []) ++ tasks_after m board (before ++ (get_or ls i d).now ∷ []) (shown (drop (suc i) ls))
tasks-more m board [] i d before made t within is = absurd (omega arith)
tasks-more m board (l ∷ ls) zero d before made t within is = rw (← is) (sym (append_assoc made (t ∷ []) (tasks_after m board (before ++ l.now ∷ []) (shown ls))))
tasks-more m board (l ∷ ls) (suc i) d before made t within is = tasks-more m board ls i d before made t (omega arith) is
