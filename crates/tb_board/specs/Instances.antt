-- Templates and their instances on a board.
use Rattle.std.specs.Prelude.{◌≡◌, ℕ, Bool, true, ◌&&◌, ◌==◌, List, Option, Some, None}
use Rattle.std.specs.List.{list_any, position_or_len}
use Rattle.std.specs.Ordering.{nat_cmp, ordering_then}
use Rattle.std.specs.declared.cmp.Ordering.{Ordering}
use Rattle.tb_task.specs.declared.task.Task.{Task}
use Rattle.tb_board.specs.declared.board.Board.{Board}
use Rattle.tb_board.specs.declared.gone.Gone.{Gone}
use Rattle.tb_board.specs.Tasks.{has_id}
use Rattle.tb_board.specs.Statuses.{is_template}
use Rattle.tb_board.specs.Templates.{places, IsRun}

-- the places of each template are 0 up to their number, each once
-- Rule: a template's places are 0 up to their number, each once. Tried by worlds.
abbrev pub HasRuns : Board → Type 0
HasRuns b = (id : ℕ) → IsRun (places b id)

abbrev pub is_template_with : ℕ → Task → Bool
is_template_with id t = has_id id t && is_template t

-- a parent is a template of the board
abbrev pub has_template : Board → Option ℕ → Bool
has_template b None = true
has_template b (Some id) = list_any (is_template_with id) b.tasks

abbrev pub HasTemplateOn : Board → Task → Type 0
HasTemplateOn b t = has_template b t.parent ≡ true

-- a place that is gone is of a template of the board
abbrev pub IsGoneOn : Board → Gone → Type 0
IsGoneOn b g = list_any (is_template_with g.template) b.tasks ≡ true

-- the place of the first of these identifiers that is this one, and their number where none is
abbrev pub place_among : List ℕ → ℕ → ℕ
place_among all id = position_or_len (λ i. i == id) all

-- by the places of their templates among the board's identifiers, and then by their own
abbrev pub by_template : List ℕ → Gone → Gone → Ordering
by_template all g h =
    ordering_then (nat_cmp (place_among all g.template) (place_among all h.template))
    (nat_cmp g.place h.place)
