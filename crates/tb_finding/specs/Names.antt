-- The projects or tags of found tasks, each with the number of its tasks.
use Rattle.std.specs.Prelude.{ℕ, ◌+◌, List, [], ◌∷◌, ◌++◌, codes, decimal, slice_get, Option, Some, None, if◌then◌else◌}
use Rattle.std.specs.Str.{bytes_eq}
use Rattle.tb_finding.specs.Board.{Text}
use Rattle.tb_finding.specs.Order.{Key}
use Rattle.tb_finding.specs.declared.look.Look.{Look}
use Rattle.tb_my.specs.Telling.{shown_text}
use Rattle.tb_my.specs.declared.query.Listing.{Listing}
use Rattle.tb_my.specs.declared.query.Listing.TheVariants as listing
use Rattle.tb_task.specs.declared.task.Task.{Task}
use Rattle.tb_values.specs.Texts.{with_texts}

abbrev pub project_names : Option Text → List Text
project_names None = []
project_names (Some project) = project ∷ []

abbrev pub names_in : Listing → Task → List Text
names_in listing.Tasks t = []
names_in listing.Next t = []
names_in listing.Projects t = project_names t.project
names_in listing.Tags t = t.tags

abbrev pub names_at : Listing → Option Task → List Text
names_at l None = []
names_at l (Some t) = names_in l t

-- of all tasks, in their order
abbrev pub all_names : Listing → Look → List Key → List Text
all_names l look [] = []
all_names l look (key ∷ keys) =
    names_at l (slice_get look.tasks key.1.1) ++ all_names l look keys

-- how often a name is among others
abbrev pub count_of : Text → List Text → ℕ
count_of name [] = 0
count_of name (other ∷ all) =
    if bytes_eq name other then count_of name all + 1 else count_of name all

abbrev pub name_line : Text → ℕ → Text
name_line name count = decimal count ++ (codes "  " ++ (shown_text name ++ codes "\n"))

abbrev pub name_lines : List Text → List Text → Text
name_lines [] all = []
name_lines (name ∷ names) all = name_line name (count_of name all) ++ name_lines names all

-- in byte order, each once
-- Rule: `tb projects` and `tb tags` count the found tasks of each. Tried by my.sh.
abbrev pub names_text : Listing → Look → List Key → Text
names_text l look keys =
    name_lines (with_texts [] (all_names l look keys)) (all_names l look keys)
