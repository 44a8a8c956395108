-- The program's first word, after which the subcommand that it names reads the rest.
use Rattle.std.proofs.Common.{◌≡◌, ◌∙◌, Bool, true, false, ◌&&◌, List, [], ◌∷◌, ◌++◌, Some, is_some, find, fold, refl, ap, sym, append_assoc, append-nil}
use Rattle.std.specs.List.{list_all}
use Rattle.clap.specs.Walk.{Names, Rule, Text, Walk, answers_to, idle, finished, walked, walk, walk_from, nothing_held, rows_after}
use Rattle.clap.specs.Simple.{App, Shape, built, built_leaf, entered, inherited, is_simple, label_of, marked_built, names_of, subcommand_of, with_leaf_noted}
use Rattle.clap.specs.Takes.{default_passes, entered_passes, is_valid, level_passes, settle_passes, takes, turn_passes, walk_passes}
use Rattle.clap.proofs.OnLiterals.{clap_on_literals}
use Rattle.tb_command_line.specs.Words.{program_app}

pub simple : is_simple program_app ≡ true
unfolding clap_on_literals
simple = refl

abbrev program : App
program = built program_app

-- the subcommand as the program builds it
abbrev pub leaf : App → Shape
leaf sub = built_leaf (inherited (with_leaf_noted (marked_built program_app.top)) sub.top)

-- the walk after the subcommand's word and these words
abbrev entering : Text → List Text → Walk
entering name words = record { held = nothing_held; waiting = idle; position = 1; is_trailing = false; stopped = Some (name, words) }

-- the word names the subcommand
pub record Enters (name : Text) (sub : Shape) : Type 0 where
  pub goes : walked program.top.rules (names_of program) (walk_from nothing_held) name ≡ entering name []
  pub turns : turn_passes program.top (names_of program) (walk_from nothing_held) name ≡ true
  pub finds : find (λ s. answers_to name (label_of s)) program.subs ≡ Some sub

stays_once : (rules : List Rule) (names : Names) (name : Text) (words : List Text) (word : Text) → walked rules names (entering name words) word ≡ entering name (words ++ word ∷ [])
unfolding walked
stays_once rules names name words word = refl

stays : (rules : List Rule) (names : Names) (name : Text) (words rest : List Text) → fold (walked rules names) (entering name words) rest ≡ entering name (words ++ rest)
stays rules names name words [] = ap (entering name) (sym (append-nil words))
stays rules names name words (word ∷ rest) =
    ap (λ w. fold (walked rules names) w rest) (stays_once rules names name words word)
    ∙ (stays rules names name (words ++ word ∷ []) rest ∙ ap (entering name) (append_assoc words (word ∷ []) rest))

passes_once : (s : Shape) (names : Names) (name : Text) (words : List Text) (word : Text) (rest : List Text) → walk_passes s names (entering name (words ++ word ∷ [])) rest ≡ true
    → walk_passes s names (entering name words) (word ∷ rest) ≡ true
unfolding walk_passes
passes_once s names name words word rest more = ap (λ w. walk_passes s names w rest) (stays_once s.rules names name words word) ∙ more

passes_on : (s : Shape) (names : Names) (name : Text) (words rest : List Text) → walk_passes s names (entering name words) rest ≡ true
unfolding walk_passes
passes_on s names name words [] = refl
passes_on s names name words (word ∷ rest) = passes_once s names name words word rest (passes_on s names name (words ++ word ∷ []) rest)

first_passes : (s : Shape) (names : Names) (w v : Walk) (word : Text) (rest : List Text) → turn_passes s names w word ≡ true → walked s.rules names w word ≡ v → walk_passes s names v rest ≡ true
    → walk_passes s names w (word ∷ rest) ≡ true
unfolding walk_passes
first_passes s names w v word rest turns goes passes = rw (turns, goes, passes) (refl {a = true})

walk_enters : (name : Text) (sub : Shape) (rest : List Text) → Enters name sub → walk program.top.rules (names_of program) nothing_held (name ∷ rest) ≡ entering name rest
walk_enters name sub rest e = ap (λ w. fold (walked program.top.rules (names_of program)) w rest) e.goes ∙ stays program.top.rules (names_of program) name [] rest

passes_enter : (name : Text) (sub : Shape) (rest : List Text) → Enters name sub → walk_passes program.top (names_of program) (walk_from nothing_held) (name ∷ rest) ≡ true
passes_enter name sub rest e =
    first_passes program.top (names_of program) (walk_from nothing_held) (entering name []) name rest e.turns e.goes (passes_on program.top (names_of program) name [] rest)

-- what `takes` asks, of the walk and of whether its words pass
abbrev takes_after : Walk → Bool → Bool
takes_after w passes = entered_passes program w.stopped && (passes && (settle_passes program.top.rules program.top.args_override_self w.held
    && (list_all default_passes program.top.rules && is_valid program.top (finished program.top.rules w.held) (is_some (entered program w.stopped)))))

takes_is : (words : List Text) → takes program_app words ≡ takes_after (walk program.top.rules (names_of program) nothing_held words) (walk_passes program.top (names_of program) (walk_from nothing_held) words)
takes_is words = refl

pub taken_below : (name : Text) (sub : Shape) (rest : List Text) → Enters name sub → level_passes sub [] nothing_held rest false ≡ true → takes program_app (name ∷ rest) ≡ true
taken_below name sub rest e passes =
    takes_is (name ∷ rest)
    ∙ (ap (λ w. takes_after w (walk_passes program.top (names_of program) (walk_from nothing_held) (name ∷ rest))) (walk_enters name sub rest e)
    ∙ (ap (takes_after (entering name rest)) (passes_enter name sub rest e)
    ∙ rw (e.finds, passes) (refl {a = true})))

pub found_below : (name : Text) (sub : Shape) (rest : List Text) → Enters name sub → subcommand_of program_app (name ∷ rest) ≡ Some (sub.name, rows_after sub.rules [] rest)
found_below name sub rest e = ap (λ w. entered program w.stopped) (walk_enters name sub rest e) ∙ rw e.finds refl
