-- The changes of a draft make of the world what its command makes of it.
use Rattle.std.proofs.Common.{◌≡◌, ℕ, true, List, [], ◌∷◌, ◌++◌, Some, find, refl, sym, ◌∙◌, ap, subst, inl, inr}
use Rattle.std.specs.List.{AllByRecursion}
use Rattle.std.proofs.lemmas.Bool.{cases_Bool, eqb-true}
use Rattle.tb_board.specs.declared.board.Board.{Board}
use Rattle.tb_board.specs.declared.change.Change.{Change}
use Rattle.tb_board.specs.declared.change.Change.TheVariants.{PutTask, AddPerson, SetKey, AddBoard, SetTitle, SetRole, SetGone, TakeGone, SetAhead}
use Rattle.tb_board.specs.declared.draft.Draft.{Draft}
use Rattle.tb_board.specs.declared.world.World.{World}
use Rattle.tb_board.specs.World.{has_number}
use Rattle.tb_board.specs.Changing.{change_board, changed, changed_by, changed_on, replayed, with_task_at, with_gone, with_title, without_gone, with_ahead, IsOn, IsDraft}

change_board-none : (n : ℕ) (bs : List Board) → change_board n (λ b. b) bs ≡ bs
change_board-none n [] = refl
change_board-none n (b ∷ bs) =
    elim (cases_Bool (has_number n b)) [
      | inl here ↦ rw here refl
      | inr other ↦ rw other (ap (λ ys. b ∷ ys) (change_board-none n bs))
    ]

-- two changes of a board one after the other, the first of which keeps its number
change_board-twice : (n : ℕ) (f g : Board → Board) (bs : List Board) → ((b : Board) → (f b).number ≡ b.number)
    → change_board n g (change_board n f bs) ≡ change_board n (λ b. g (f b)) bs
change_board-twice n f g [] keeps = refl
change_board-twice n f g (b ∷ bs) keeps =
    elim (cases_Bool (has_number n b)) [
      | inl here ↦ let still : has_number n (f b) ≡ true = rw (keeps b) here in rw (here, still) refl
      | inr other ↦ rw (other, other) (ap (λ ys. b ∷ ys) (change_board-twice n f g bs keeps))
    ]

-- a change of a board before the others, which are its own too
one_more : (w : World) (k n : ℕ) (f : Board → Board) (cs : List Change) → k ≡ n → ((b : Board) → (f b).number ≡ b.number)
    → record w { boards = change_board n (λ b. replayed b cs) (change_board k f w.boards) } ≡ record w { boards = change_board n (λ b. replayed (f b) cs) w.boards }
one_more w k n f cs own keeps =
    ap (λ i. record w { boards = change_board n (λ b. replayed b cs) (change_board i f w.boards) }) own
    ∙ ap (λ bs. record w { boards = bs }) (change_board-twice n f (λ b. replayed b cs) w.boards keeps)

-- changes that all name one board
pub changed-one : (w : World) (n : ℕ) (cs : List Change) → AllByRecursion (IsOn n) cs
    → changed w cs ≡ record w { boards = change_board n (λ b. replayed b cs) w.boards }
changed-one w n [] on = ap (λ bs. record w { boards = bs }) (sym (change_board-none n w.boards))
changed-one w n (PutTask k place t ∷ cs) on =
    changed-one (record w { boards = change_board k (with_task_at place t) w.boards }) n cs on.1 ∙ one_more w k n (with_task_at place t) cs on.0 (λ b. refl)
changed-one w n (SetGone k g ∷ cs) on =
    changed-one (record w { boards = change_board k (with_gone g) w.boards }) n cs on.1 ∙ one_more w k n (with_gone g) cs on.0 (λ b. refl)
changed-one w n (TakeGone k id place ∷ cs) on =
    changed-one (record w { boards = change_board k (without_gone id place) w.boards }) n cs on.1 ∙ one_more w k n (without_gone id place) cs on.0 (λ b. refl)
changed-one w n (SetAhead k ahead ∷ cs) on =
    changed-one (record w { boards = change_board k (with_ahead ahead) w.boards }) n cs on.1 ∙ one_more w k n (with_ahead ahead) cs on.0 (λ b. refl)
changed-one w n (SetTitle k title ∷ cs) on =
    changed-one (record w { boards = change_board k (with_title title) w.boards }) n cs on.1 ∙ one_more w k n (with_title title) cs on.0 (λ b. refl)
changed-one w n (AddPerson name key ∷ cs) on = absurd on.0
changed-one w n (SetKey name key ∷ cs) on = absurd on.0
changed-one w n (AddBoard k title ∷ cs) on = absurd on.0
changed-one w n (SetRole k person role ∷ cs) on = absurd on.0

-- two changes of a board that agree on it
change_board-same : (n : ℕ) (f g : Board → Board) (bs : List Board) (x : Board) → find (has_number n) bs ≡ Some x → f x ≡ g x → change_board n f bs ≡ change_board n g bs
change_board-same n f g [] x h same = refl
change_board-same n f g (b ∷ bs) x h same =
    elim (cases_Bool (has_number n b)) [
      | inl here ↦
          let found : Some b ≡ Some x = rw here at h in
          let is : b ≡ x = cc in
          rw here (ap (λ (y : Board). y ∷ bs) (ap f is ∙ same ∙ ap g (sym is)))
      | inr other ↦
          let later : find (has_number n) bs ≡ Some x = rw other at h in
          rw other (ap (λ ys. b ∷ ys) (change_board-same n f g bs x later same))
    ]

pub number_found : (n : ℕ) (bs : List Board) (x : Board) → find (has_number n) bs ≡ Some x → x.number ≡ n
number_found n [] x h = absurd (cc)
number_found n (b ∷ bs) x h =
    elim (cases_Bool (has_number n b)) [
      | inl here ↦
          let found : Some b ≡ Some x = rw here at h in
          let is : b ≡ x = cc in
          eqb-true x.number n (subst (λ (y : Board). has_number n y ≡ true) is here)
      | inr other ↦ let later : find (has_number n) bs ≡ Some x = rw other at h in number_found n bs x later
    ]

pub changed_on-number : (b : Board) (c : Change) → (changed_on b c).number ≡ b.number
changed_on-number b (PutTask n place t) = refl
changed_on-number b (AddPerson name key) = refl
changed_on-number b (SetKey name key) = refl
changed_on-number b (AddBoard n title) = refl
changed_on-number b (SetTitle n title) = refl
changed_on-number b (SetRole n person role) = refl
changed_on-number b (SetGone n g) = refl
changed_on-number b (TakeGone n id k) = refl
changed_on-number b (SetAhead n ahead) = refl

pub replayed-number : (b : Board) (cs : List Change) → (replayed b cs).number ≡ b.number
replayed-number b [] = refl
replayed-number b (c ∷ cs) = replayed-number (changed_on b c) cs ∙ changed_on-number b c

-- the changes of a draft put its board in the place of the first one
pub changed-draft : (w : World) (n : ℕ) (x : Board) (d : Draft) → find (has_number n) w.boards ≡ Some x → IsDraft x d
    → changed w d.changes ≡ record w { boards = change_board d.board.number (λ _. d.board) w.boards }
changed-draft w n x d found made =
    let number : d.board.number ≡ n = sym (ap (λ (b : Board). b.number) made.made) ∙ replayed-number x d.changes ∙ number_found n w.boards x found in
    let here : find (has_number d.board.number) w.boards ≡ Some x = rw number found in
    changed-one w d.board.number d.changes made.own
    ∙ ap (λ bs. record w { boards = bs }) (change_board-same d.board.number (λ b. replayed b d.changes) (λ _. d.board) w.boards x here made.made)

pub changed-append : (w : World) (cs ds : List Change) → changed w (cs ++ ds) ≡ changed (changed w cs) ds
changed-append w [] ds = refl
changed-append w (c ∷ cs) ds = changed-append (changed_by w c) cs ds
