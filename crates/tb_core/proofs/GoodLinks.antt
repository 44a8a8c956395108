-- Links that are added and removed leave a good board good.
use Rattle.std.proofs.Common.{◌≡◌, inl, inr, ℕ, ◌==◌, false, not, List, Some, find, refl}
use Rattle.std.specs.BTreeSet.{replace_key}
use Rattle.std.specs.Ordering.{nat_cmp}
use Rattle.std.proofs.lemmas.Bool.{cases_Bool}
use Rattle.tb_task.specs.declared.task.Task.{Task}
use Rattle.tb_task.specs.Checks.{fault_of, has_bad_pair, has_bad_recurrence, has_bad_text}
use Rattle.tb_board.specs.declared.board.Board.{Board}
use Rattle.tb_board.specs.Board.{is_on}
use Rattle.tb_board.specs.Tasks.{has_id}
use Rattle.tb_board.specs.First.{change_first}
use Rattle.tb_board.specs.Good.{IsGood, IsSound}
use Rattle.tb_board.proofs.Runs.{KeepsLinks}
use Rattle.tb_board.proofs.Relinked.{good-less, good-more, HasOneMore}
use Rattle.tb_board.proofs.Relinking.{or_false}
use Rattle.tb_core.specs.Linking.{closes_walk, depends_on, linked, unlinked}

sound_unlinked : (m on : ℕ) (t : Task) → IsSound t → IsSound (unlinked m on t)
unfolding fault_of has_bad_text has_bad_pair has_bad_recurrence
sound_unlinked m on t s = record { taken = s.taken; template = s.template }

sound_relinked : (m : ℕ) (is : List ℕ) (t : Task) → IsSound t → IsSound (record t { depends = is; modified = Some m })
unfolding fault_of has_bad_text has_bad_pair has_bad_recurrence
sound_relinked m is t s = record { taken = s.taken; template = s.template }

sound_linked : (m on : ℕ) (t : Task) → IsSound t → IsSound (linked m on t)
sound_linked m on t s =
    elim (cases_Bool (depends_on on t)) [
      | inl before ↦ rw before s
      | inr new ↦ rw new (sound_relinked m (replace_key nat_cmp t.depends on) t s)
    ]

same_id : (m on : ℕ) (t : Task) → (linked m on t).id ≡ t.id
same_id m on t = elim (cases_Bool (depends_on on t)) [ inl before ↦ rw before refl | inr new ↦ rw new refl ]

links-linked : (m on : ℕ) → KeepsLinks (linked m on)
links-linked m on = record {
  parent = λ t. elim (cases_Bool (depends_on on t)) [ inl before ↦ rw before refl | inr new ↦ rw new refl ];
  imask = λ t. elim (cases_Bool (depends_on on t)) [ inl before ↦ rw before refl | inr new ↦ rw new refl ];
  template = λ t. elim (cases_Bool (depends_on on t)) [ inl before ↦ rw before refl | inr new ↦ rw new refl ];
}

one_more : (m on : ℕ) (t : Task) → HasOneMore t.depends on (linked m on t).depends
one_more m on t = elim (cases_Bool (depends_on on t)) [ inl before ↦ rw before (inl refl) | inr new ↦ rw new (inr refl) ]

pub good-linked : (b : Board) (id on m : ℕ) (x : Task) → find (has_id id) b.tasks ≡ Some x → not (is_on b on) ≡ false → closes_walk b id on ≡ false → IsGood b
    → IsGood (record b { tasks = change_first (has_id id) (linked m on) b.tasks })
good-linked b id on m x found there walks good =
    let none = or_false (id == on) _ walks in
    good-more b id on (linked m on) x (same_id m on) (links-linked m on) found (sound_linked m on x) (one_more m on x) there none.0 none.1 good

pub good-unlinked : (b : Board) (id on m : ℕ) (x : Task) → find (has_id id) b.tasks ≡ Some x → IsGood b
    → IsGood (record b { tasks = change_first (has_id id) (unlinked m on) b.tasks })
good-unlinked b id on m x found good = good-less b id (unlinked m on) x (λ i. i == on) (λ t. refl) (record { parent = λ t. refl; imask = λ t. refl; template = λ t. refl }) found (sound_unlinked m on x) refl good
