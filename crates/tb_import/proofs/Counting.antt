-- What an import counts.
use Rattle.std.proofs.Common.{◌≡◌, ℕ, ◌+◌, ◌-◌, not, Bool, List, [], ◌∷◌, cond, count_by, fold, length, sum_by, refl, ◌∙◌, ap, arith}
use Rattle.tb_task.specs.declared.incoming.Incoming.{Incoming}
use Rattle.tb_board.specs.declared.board.Board.{Board}
use Rattle.tb_import.specs.declared.ids.Ids.{Ids}
use Rattle.tb_import.specs.declared.imported.ImportCounts.{ImportCounts}
use Rattle.tb_import.specs.Entering.{orphans}
use Rattle.tb_import.specs.Import.{counts_of, with_masks}
use Rattle.tb_import.specs.News.{is_there}
use Rattle.tb_import.specs.Sets.{has}

sums_same : {A : Type 0} (f g : A → ℕ) → ((x : A) → f x ≡ g x) → (n : ℕ) (xs : List A) → fold (λ a x. a + f x) n xs ≡ fold (λ a x. a + g x) n xs
sums_same f g same n [] = refl
sums_same f g same n (x ∷ xs) = sums_same f g same (n + f x) xs ∙ ap (λ m. fold (λ a y. a + g y) m xs) (ap (λ m. n + m) (same x))

count_same : (p q : ℕ → Bool) → ((x : ℕ) → p x ≡ q x) → (xs : List ℕ) → count_by (λ x. not (p x)) xs ≡ count_by (λ x. not (q x)) xs
count_same p q same xs = sums_same (λ x. cond (not (p x)) 1 0) (λ x. cond (not (q x)) 1 0) (λ x. ap (λ b. cond (not b) 1 0) (same x)) 0 xs

lost_same : (p q : ℕ → Bool) → ((x : ℕ) → p x ≡ q x) → (is : List Incoming)
    → sum_by (λ (i : Incoming). count_by (λ x. not (p x)) i.task.depends) is ≡ sum_by (λ (i : Incoming). count_by (λ x. not (q x)) i.task.depends) is
lost_same p q same is =
    sums_same (λ (i : Incoming). count_by (λ x. not (p x)) i.task.depends) (λ (i : Incoming). count_by (λ x. not (q x)) i.task.depends) (λ i. count_same p q same i.task.depends) 0 is

pub counts_are : (b : Board) (is tasks : List Incoming) (ids : Ids) (known new dropped orphaned unlinked : ℕ)
    → known ≡ length is - length tasks → new ≡ length tasks → dropped ≡ sum_by (λ (i : Incoming). i.dropped) tasks
    → orphaned ≡ 0 + orphans b tasks (with_masks b tasks) tasks
    → unlinked ≡ sum_by (λ (i : Incoming). count_by (λ id. not (has ids id)) i.task.depends) tasks → ((q : ℕ) → has ids q ≡ is_there b tasks q)
    → ◌≡◌ {A = ImportCounts} (record { known = known; new = new; dropped = dropped; orphans = orphaned; unlinked = unlinked }) (counts_of b is tasks)
counts_are b is tasks ids known new dropped orphaned unlinked known_is new_is dropped_is orphans_are unlinked_is there =
    let none : 0 + orphans b tasks (with_masks b tasks) tasks ≡ orphans b tasks (with_masks b tasks) tasks = omega arith in
    rw (known_is, new_is, dropped_is, orphans_are ∙ none, unlinked_is ∙ lost_same (has ids) (is_there b tasks) there tasks) refl
