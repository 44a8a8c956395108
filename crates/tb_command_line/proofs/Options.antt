-- The walk over the words of a server, which has options.
use Rattle.std.proofs.Common.{◌≡◌, ◌∙◌, Bool, true, false, ◌&&◌, List, [], ◌∷◌, ◌++◌, codes, Option, Some, None, IfSome, fold, refl, ap}
use Rattle.std.specs.List.{list_all}
use Rattle.std.proofs.lemmas.Bool.{and_parts}
use Rattle.clap.specs.Walk.{Row, Text, Walk, finished, nothing_held, option, reading_by, rows_after, walk_from, walked}
use Rattle.clap.specs.Simple.{Shape, filled, with_index}
use Rattle.clap.specs.Takes.{default_passes, is_valid, level_passes, settle_passes, turn_passes, walk_passes}
use Rattle.clap.specs.declared.parser.matches.ValueSource.TheVariants.{CommandLine, DefaultValue}
use Rattle.clap.proofs.OnLiterals.{clap_on_literals}
use Rattle.tb_command_line.specs.Words.{serve_app, flag_rule, needed}
use Rattle.tb_command_line.specs.Order.{Serve, flag_words, is_plain, option_words, texts_of}
use Rattle.tb_command_line.proofs.Entering.{leaf}
use Rattle.tb_command_line.proofs.Positionals.{IsWord, at, is_word, passes_more}

abbrev pub serving : Shape
serving = leaf serve_app

abbrev pub both_flags : Bool → Bool → List Text
both_flags is_forever log = flag_words (codes "--forever") is_forever ++ flag_words (codes "--log") log

-- what follows `serve`
abbrev pub serve_words : Text → Text → Option Text → Bool → Bool → List Text
serve_words file port count is_forever log = file ∷ codes "--port" ∷ port ∷ (option_words (codes "--connections") count ++ both_flags is_forever log)

pub record AreWords (file port : Text) (count : Option Text) : Type 0 where
  pub file_is : IsWord file
  pub port_is : IsWord port
  pub count_is : IfSome count IsWord

pub are_words : (file port : Text) (count : Option Text) (is_forever log : Bool) → list_all is_plain (texts_of (Serve file port count is_forever log)) ≡ true → AreWords file port count
are_words file port None is_forever log plain =
    let file_is = and_parts (is_plain file) (list_all is_plain (port ∷ [])) plain in
    let port_is = and_parts (is_plain port) true file_is.1 in
    record { file_is = is_word file file_is.0; port_is = is_word port port_is.0; count_is = tt }
are_words file port (Some count) is_forever log plain =
    let file_is = and_parts (is_plain file) (list_all is_plain (port ∷ count ∷ [])) plain in
    let port_is = and_parts (is_plain port) (list_all is_plain (count ∷ [])) file_is.1 in
    let count_is = and_parts (is_plain count) true port_is.1 in
    record { file_is = is_word file file_is.0; port_is = is_word port port_is.0; count_is = is_word count count_is.0 }

-- ---- the rows

abbrev row : Text → Text → Row
row id value = record { id = id; values = value ∷ []; count = None; source = Some CommandLine; reading = reading_by (with_index 1 (filled (needed id))) }

abbrev count_rows : Option Text → List Row
count_rows None = []
count_rows (Some count) = row (codes "connections") count ∷ []

-- of a flag that was given, and of one that wasn't
abbrev given : Text → Row
given id = record { id = id; values = codes "true" ∷ []; count = None; source = Some CommandLine; reading = reading_by (filled (flag_rule id)) }

abbrev left : Text → Row
left id = record (given id) { values = codes "false" ∷ []; source = Some DefaultValue }

-- those that were given are first
abbrev flag_rows : Bool → Bool → List Row
flag_rows false true = given (codes "log") ∷ left (codes "forever") ∷ []
flag_rows false false = left (codes "forever") ∷ left (codes "log") ∷ []
flag_rows true true = given (codes "forever") ∷ given (codes "log") ∷ []
flag_rows true false = given (codes "forever") ∷ left (codes "log") ∷ []

abbrev pub serve_rows : Text → Text → Option Text → Bool → Bool → List Row
serve_rows file port count is_forever log = row (codes "file") file ∷ row (codes "port") port ∷ (count_rows count ++ flag_rows is_forever log)

-- ---- the walk

-- it goes from one place over the words to another, and each passes
record Goes (w : Walk) (words : List Text) (end : Walk) : Type 0 where
  there : fold (walked serving.rules []) w words ≡ end
  passes : walk_passes serving [] w words ≡ true

goes_on : (w v end : Walk) (word : Text) (rest : List Text) → walked serving.rules [] w word ≡ v → turn_passes serving [] w word ≡ true → Goes v rest end → Goes w (word ∷ rest) end
goes_on w v end word rest goes turns more =
    record { there = ap (λ u. fold (walked serving.rules []) u rest) goes ∙ more.there; passes = passes_more serving w v word rest turns goes more.passes }

-- between two words, the last of which was a value
abbrev resting : List Row → Text → Text → Walk
resting rows id value = at (record { rows = rows; pending = Some (id, value ∷ []); skip = 0 }) 2

-- the next word is the option's value
abbrev awaiting : List Row → Text → Walk
awaiting rows id = record (at (record { rows = rows; pending = Some (id, []); skip = 0 }) 2) { waiting = option id }

file_goes : (file : Text) → IsWord file → walked serving.rules [] (walk_from nothing_held) file ≡ resting [] (codes "file") file
unfolding clap_on_literals
file_goes file f = rw (f.no_end, f.no_long, f.no_short) (refl {a = resting [] (codes "file") file})

file_turns : (file : Text) → IsWord file → turn_passes serving [] (walk_from nothing_held) file ≡ true
unfolding clap_on_literals
file_turns file f = rw (f.no_end, f.no_long, f.no_short) (refl {a = true})

port_goes : (rows : List Row) (port : Text) → IsWord port → walked serving.rules [] (awaiting rows (codes "port")) port ≡ resting rows (codes "port") port
unfolding clap_on_literals
port_goes rows port p = rw (p.no_end, p.no_long, p.no_short) (refl {a = resting rows (codes "port") port})

port_turns : (rows : List Row) (port : Text) → IsWord port → turn_passes serving [] (awaiting rows (codes "port")) port ≡ true
unfolding clap_on_literals
port_turns rows port p = rw (p.no_end, p.no_long, p.no_short) (refl {a = true})

count_goes : (rows : List Row) (count : Text) → IsWord count → walked serving.rules [] (awaiting rows (codes "connections")) count ≡ resting rows (codes "connections") count
unfolding clap_on_literals
count_goes rows count n = rw (n.no_end, n.no_long, n.no_short) (refl {a = resting rows (codes "connections") count})

count_turns : (rows : List Row) (count : Text) → IsWord count → turn_passes serving [] (awaiting rows (codes "connections")) count ≡ true
unfolding clap_on_literals
count_turns rows count n = rw (n.no_end, n.no_long, n.no_short) (refl {a = true})

-- after the options that have values
abbrev valued : Text → Text → Option Text → Walk
valued file port None = resting (row (codes "file") file ∷ []) (codes "port") port
valued file port (Some count) = resting (row (codes "file") file ∷ row (codes "port") port ∷ []) (codes "connections") count

-- after all
abbrev last : Text → Text → Option Text → Bool → Bool → Walk
last file port count is_forever log = fold (walked serving.rules []) (valued file port count) (both_flags is_forever log)

flags_go : (file port : Text) (count : Option Text) (is_forever log : Bool) → Goes (valued file port count) (both_flags is_forever log) (last file port count is_forever log)
unfolding clap_on_literals
flags_go file port None false false = record { there = refl; passes = refl }
flags_go file port None false true = record { there = refl; passes = refl }
flags_go file port None true false = record { there = refl; passes = refl }
flags_go file port None true true = record { there = refl; passes = refl }
flags_go file port (Some count) false false = record { there = refl; passes = refl }
flags_go file port (Some count) false true = record { there = refl; passes = refl }
flags_go file port (Some count) true false = record { there = refl; passes = refl }
flags_go file port (Some count) true true = record { there = refl; passes = refl }

file_port_go : (file port : Text) (count : Option Text) (rest : List Text) (end : Walk) → AreWords file port count → Goes (valued file port None) rest end
    → Goes (walk_from nothing_held) (file ∷ codes "--port" ∷ port ∷ rest) end
unfolding clap_on_literals
file_port_go file port count rest end w more =
    goes_on (walk_from nothing_held) (resting [] (codes "file") file) end file (codes "--port" ∷ port ∷ rest) (file_goes file w.file_is) (file_turns file w.file_is)
    (goes_on (resting [] (codes "file") file) (awaiting (row (codes "file") file ∷ []) (codes "port")) end (codes "--port") (port ∷ rest) refl refl
    (goes_on (awaiting (row (codes "file") file ∷ []) (codes "port")) (valued file port None) end port rest
    (port_goes (row (codes "file") file ∷ []) port w.port_is) (port_turns (row (codes "file") file ∷ []) port w.port_is) more))

count_go : (file port : Text) (count : Option Text) (rest : List Text) (end : Walk) → IfSome count IsWord → Goes (valued file port count) rest end
    → Goes (valued file port None) (option_words (codes "--connections") count ++ rest) end
unfolding clap_on_literals
count_go file port None rest end w more = more
count_go file port (Some count) rest end w more =
    let rows = row (codes "file") file ∷ row (codes "port") port ∷ [] in
    goes_on (valued file port None) (awaiting rows (codes "connections")) end (codes "--connections") (count ∷ rest) refl refl
    (goes_on (awaiting rows (codes "connections")) (valued file port (Some count)) end count rest (count_goes rows count w) (count_turns rows count w) more)

all_go : (file port : Text) (count : Option Text) (is_forever log : Bool) → AreWords file port count
    → Goes (walk_from nothing_held) (serve_words file port count is_forever log) (last file port count is_forever log)
all_go file port count is_forever log w =
    let end = last file port count is_forever log in
    file_port_go file port count (option_words (codes "--connections") count ++ both_flags is_forever log) end w
    (count_go file port count (both_flags is_forever log) end w.count_is (flags_go file port count is_forever log))

-- what is asked after the walk
abbrev closes : Walk → Bool
closes end = settle_passes serving.rules serving.args_override_self end.held && (list_all default_passes serving.rules && is_valid serving (finished serving.rules end.held) false)

last_closes : (file port : Text) (count : Option Text) (is_forever log : Bool) → closes (last file port count is_forever log) ≡ true
unfolding clap_on_literals
last_closes file port None false false = refl
last_closes file port None false true = refl
last_closes file port None true false = refl
last_closes file port None true true = refl
last_closes file port (Some count) false false = refl
last_closes file port (Some count) false true = refl
last_closes file port (Some count) true false = refl
last_closes file port (Some count) true true = refl

last_has : (file port : Text) (count : Option Text) (is_forever log : Bool) → finished serving.rules (last file port count is_forever log).held ≡ serve_rows file port count is_forever log
unfolding clap_on_literals
last_has file port None false false = refl
last_has file port None false true = refl
last_has file port None true false = refl
last_has file port None true true = refl
last_has file port (Some count) false false = refl
last_has file port (Some count) false true = refl
last_has file port (Some count) true false = refl
last_has file port (Some count) true true = refl

level_by : (words : List Text) (end : Walk) → Goes (walk_from nothing_held) words end → closes end ≡ true → level_passes serving [] nothing_held words false ≡ true
level_by words end g closed = rw (g.passes, g.there) closed

pub options_pass : (file port : Text) (count : Option Text) (is_forever log : Bool) → AreWords file port count
    → level_passes serving [] nothing_held (serve_words file port count is_forever log) false ≡ true
options_pass file port count is_forever log w =
    level_by (serve_words file port count is_forever log) (last file port count is_forever log) (all_go file port count is_forever log w) (last_closes file port count is_forever log)

pub options_have : (file port : Text) (count : Option Text) (is_forever log : Bool) → AreWords file port count
    → rows_after serving.rules [] (serve_words file port count is_forever log) ≡ serve_rows file port count is_forever log
options_have file port count is_forever log w =
    ap (λ end. finished serving.rules end.held) (all_go file port count is_forever log w).there ∙ last_has file port count is_forever log
