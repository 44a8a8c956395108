-- What is told of a text's tasks, a line each.
use Rattle.std.specs.Prelude.{ℕ, ◌==◌, Bool, true, false, List, [], ◌∷◌, ◌++◌, length, codes, decimal, Option, Some, None, if◌then◌else◌}
use Rattle.serde_json.specs.Data.{Data}
use Rattle.tb_cleaning.specs.Entries.{Judged}
use Rattle.tb_cleaning.specs.Losses.{all_drops, all_links}
use Rattle.tb_cleaning.specs.Ordering.{brought}
use Rattle.tb_cleaning.specs.Orphans.{all_orphans}
use Rattle.tb_cleaning.specs.Respelling.{with_text}
use Rattle.tb_cleaning.specs.Steps.{Text}
use Rattle.tb_cleaning.specs.Telling.{line_of}
use Rattle.tb_cleaning.specs.declared.notes.TheConstants.{CHANGED, DOUBLE, KNOWN, REFUSED}
use Rattle.tb_cleaning.specs.declared.notes.Notes.{Notes}
use Rattle.tb_cleaning.specs.declared.verdict.Verdict.{Verdict}
use Rattle.tb_cleaning.specs.declared.verdict.Verdict.TheVariants.{Taken, Double, Refused}

abbrev pub refused_line : Data → Verdict → Option Text
refused_line d (Taken i) = None
refused_line d Double = None
refused_line d (Refused reason) = Some (line_of REFUSED.now d reason)

abbrev pub refused_on : List Text → List Judged → List Text
refused_on found [] = found
refused_on found (e ∷ es) = refused_on (with_text found (refused_line e.item e.verdict)) es

abbrev pub double_line : Data → Verdict → Option Text
double_line d (Taken i) = None
double_line d Double = Some (line_of DOUBLE.now d KNOWN.now)
double_line d (Refused reason) = None

abbrev pub doubles_on : List Text → List Judged → List Text
doubles_on found [] = found
doubles_on found (e ∷ es) = doubles_on (with_text found (double_line e.item e.verdict)) es

abbrev pub changes_on : List Text → Data → List Text → List Text
changes_on found d [] = found
changes_on found d (change ∷ changes) =
    changes_on (found ++ line_of CHANGED.now d change ∷ []) d changes

abbrev pub all_changes : List Text → List Judged → List Text
all_changes found [] = found
all_changes found (e ∷ es) = all_changes (changes_on found e.item e.changes) es

-- of all tasks and those that are brought, the lines of each kind
abbrev pub notes_on : List Judged → List Judged → Notes
notes_on es bs = record {
  refused = refused_on [] es;
  doubles = doubles_on [] es;
  changes = all_changes [] bs;
  orphans = all_orphans bs;
  links = all_links bs;
  drops = all_drops [] bs;
  taken = length bs;
}

abbrev pub notes_of : List Judged → Notes
notes_of es = notes_on es (brought es)

-- ---- their text

abbrev pub lines_text : List Text → Text
lines_text [] = []
lines_text (line ∷ lines) = line ++ (10 ∷ lines_text lines)

-- a number of things
abbrev pub counted : ℕ → Text → Text
counted n what = decimal n ++ (what ++ (if n == 1 then [] else codes "s"))

abbrev pub left_out : Bool → Text
left_out true = codes " and are left out"
left_out false = []

abbrev pub taken_part : Notes → Text
taken_part n = counted n.taken (codes " task") ++ codes " can be taken, "

abbrev pub refused_part : Bool → Notes → Text
refused_part skips n =
    decimal (length n.refused) ++ (codes " can't be taken" ++ left_out skips)

abbrev pub changed_part : Notes → Text
changed_part n = codes ", " ++ (counted (length n.changes) (codes " change") ++ codes ", ")

abbrev pub doubles_part : Notes → Text
doubles_part n = counted (length n.doubles) (codes " double") ++ codes " left out, "

abbrev pub losses_part : Notes → Text
losses_part n = counted (length n.orphans) (codes " orphan")
    ++ (codes ", " ++ counted (length n.links) (codes " link"))

abbrev pub drops_part : Notes → Text
drops_part n =
    codes " and " ++ (counted (length n.drops) (codes " member") ++ codes " dropped\n")

abbrev pub tasks_text : Bool → Notes → Text
tasks_text skips n = taken_part n ++ (refused_part skips n ++ changed_part n)

abbrev pub losses_text : Notes → Text
losses_text n = doubles_part n ++ (losses_part n ++ drops_part n)

abbrev pub counts_text : Bool → Notes → Text
counts_text skips n = tasks_text skips n ++ losses_text n

abbrev pub tasks_lines : Notes → Text
tasks_lines n = lines_text n.refused ++ (lines_text n.doubles ++ lines_text n.changes)

abbrev pub losses_lines : Notes → Text
losses_lines n = lines_text n.orphans ++ (lines_text n.links ++ lines_text n.drops)

-- a line each, and the counts
-- Rule: cleaning tells each change, refusal and loss. Tried by own_cleaning.sh.
abbrev pub notes_text : Bool → Notes → Text
notes_text skips n = tasks_lines n ++ (losses_lines n ++ counts_text skips n)
