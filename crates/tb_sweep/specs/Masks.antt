-- Marks that are noted at their places.
use Rattle.std.specs.Prelude.{◌≡◌, ◌<◌, ℕ, List, Option, Some, None, unwrap_or, length, find, slice_index_or}
use Rattle.std.specs.Option.{option_map}
use Rattle.tb_task.specs.declared.task.Task.{Task}
use Rattle.tb_task.specs.Status.{mark_of}
use Rattle.tb_board.specs.declared.gone.Gone.{Gone}
use Rattle.tb_board.specs.Templates.{is_gone_at, is_instance_at}

-- a question mark where the status has no mark
abbrev pub shown_mark : Task → ℕ
shown_mark t = unwrap_or (mark_of t.status) 63

-- the mark of the first instance at a place
abbrev pub instance_mark : ℕ → List Task → ℕ → Option ℕ
instance_mark id ts k = option_map shown_mark (find (is_instance_at id k) ts)

-- the mark of the first gone place
abbrev pub gone_mark : ℕ → List Gone → ℕ → Option ℕ
gone_mark id gs k = option_map (λ (g : Gone). g.mark) (find (is_gone_at id k) gs)

abbrev pub first_of : Option ℕ → Option ℕ → Option ℕ
first_of (Some x) o = Some x
first_of None o = o

abbrev pub noted_at : List (Option ℕ) → ℕ → Option ℕ
noted_at marks k = slice_index_or marks k None

-- so many places, and none has a mark
pub record AreBlank (marks : List (Option ℕ)) (number : ℕ) : Type 0 where
  pub size : length marks ≡ number
  pub blank : (k : ℕ) → noted_at marks k ≡ None

-- where a place had no mark it has the one that is found for it
pub record AreNoted (found : ℕ → Option ℕ) (old new : List (Option ℕ)) : Type 0 where
  pub size : length new ≡ length old
  pub marks : (k : ℕ) → k < length old → noted_at new k ≡ first_of (noted_at old k) (found k)
