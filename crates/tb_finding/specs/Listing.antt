-- The list of the found tasks of a board.
use Rattle.std.specs.Prelude.{ℕ, List, [], ◌∷◌, ◌++◌, codes, decimal, length, slice_get, Option, Some, None, option_map, if◌then◌else◌}
use Rattle.tb_finding.specs.Board.{Text, look_of, tasks_in}
use Rattle.tb_finding.specs.Cells.{cells_of}
use Rattle.tb_finding.specs.Json.{json_list}
use Rattle.tb_finding.specs.Names.{names_text}
use Rattle.tb_finding.specs.Order.{Key, found}
use Rattle.tb_finding.specs.Table.{table}
use Rattle.tb_finding.specs.declared.look.Look.{Look}
use Rattle.tb_finding.specs.declared.table.Cells.{Cells}
use Rattle.tb_finding.specs.declared.table.Style.{Style}
use Rattle.tb_my.specs.declared.query.Listing.{Listing}
use Rattle.tb_my.specs.declared.query.Listing.TheVariants as listing
use Rattle.tb_my.specs.declared.query.Query.{Query}
use Rattle.tb_my.specs.declared.zone.Clock.{Clock}
use Rattle.tb_task.specs.declared.task.Task.{Task}

abbrev pub cells_at : Clock → Style → Look → Key → Option Task → List Cells
cells_at clock style look key None = []
cells_at clock style look key (Some t) = cells_of clock style look key.1.1 t ∷ []

abbrev pub all_cells : Clock → Style → Look → List Key → List Cells
all_cells clock style look [] = []
all_cells clock style look (key ∷ keys) =
    cells_at clock style look key (slice_get look.tasks key.1.1)
    ++ all_cells clock style look keys

-- as `3 of 9 tasks`
abbrev pub count_line : ℕ → ℕ → Text
count_line found all =
    decimal found ++ (codes " of " ++ (decimal all ++ codes " tasks\n"))

abbrev pub list_of : Clock → Style → Look → List Key → Text
list_of clock style look keys =
    table style (all_cells clock style look keys)
    ++ count_line (length keys) (length look.tasks)

abbrev pub told_as : Listing → Clock → Style → Look → List Key → Text
told_as listing.Tasks clock style look keys = list_of clock style look keys
told_as listing.Next clock style look keys = list_of clock style look keys
told_as listing.Projects clock style look keys = names_text listing.Projects look keys
told_as listing.Tags clock style look keys = names_text listing.Tags look keys

abbrev pub told : Clock → Style → Query → Look → Text
told clock style query look = if query.is_json then json_list look (found clock query look)
    else told_as query.listing clock style look (found clock query look)

-- of an export, if it is one
abbrev pub found_text : Clock → Style → Query → Text → Option Text
found_text clock style query text =
    option_map (λ tasks. told clock style query (look_of tasks)) (tasks_in clock.moment text)
