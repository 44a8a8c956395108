-- The walk over plain words, each of which the next positional takes.
use Rattle.std.proofs.Common.{◌≡◌, ◌∙◌, ℕ, Bool, true, false, not, ◌&&◌, ◌==◌, List, [], ◌∷◌, ◌++◌, Option, Some, None, fold, refl, ap, sym}
use Rattle.std.specs.List.{list_all}
use Rattle.std.specs.Option.{option_map_or}
use Rattle.std.specs.Str.{bytes_eq}
use Rattle.std.proofs.lemmas.Bool.{and_parts}
use Rattle.std.proofs.lemmas.List.Sums.{fold-append}
use Rattle.clap.specs.Lexer.{long_of, short_of}
use Rattle.clap.specs.Walk.{Row, Rule, Text, Held, Walk, idle, walked, arg_by_index, is_multiple, positional_held, next_position, nothing_held, rows_after, finished}
use Rattle.clap.specs.Simple.{Shape}
use Rattle.clap.specs.Takes.{walk_passes, turn_passes, positional_passes, settle_passes, default_passes, is_valid, level_passes}
use Rattle.tb_command_line.specs.Order.{is_plain}

-- no flag and no `--`
pub record IsWord (word : Text) : Type 0 where
  pub no_end : bytes_eq word (45 ∷ 45 ∷ []) ≡ false
  pub no_long : long_of word ≡ None
  pub no_short : short_of word ≡ None

not_hyphen : (b : Bool) → not b ≡ true → b ≡ false
not_hyphen true e = sym e
not_hyphen false e = refl

-- one byte, a hyphen or another
is_byte : (b : ℕ) (hyphen : Bool) → (b == 45) ≡ hyphen → IsWord (b ∷ [])
is_byte b true n = record { no_end = rw n refl; no_long = rw n refl; no_short = rw n refl }
is_byte b false n = record { no_end = rw n refl; no_long = rw n refl; no_short = rw n refl }

pub is_word : (word : Text) → is_plain word ≡ true → IsWord word
is_word [] plain = record { no_end = refl; no_long = refl; no_short = refl }
is_word (b ∷ []) plain = is_byte b (b == 45) refl
is_word (b ∷ c ∷ bs) plain =
    let n : (b == 45) ≡ false = not_hyphen (b == 45) plain in
    record { no_end = rw n refl; no_long = rw n refl; no_short = rw n refl }

-- where a walk stands before the positional at k
abbrev pub at : Held → ℕ → Walk
at h k = record { held = h; waiting = idle; position = k; is_trailing = false; stopped = None }

-- the positional takes one value, and the one before it passes
abbrev pub takes_one : Shape → Held → Rule → Bool
takes_one s h a = not (is_multiple a) && (not a.trailing_var_arg && positional_passes s.rules s.args_override_self a h)

-- the words go to the positionals from k on
abbrev pub fits : Shape → List Text → Held → ℕ → Bool
fits s [] h k = true
fits s (word ∷ rest) h k = option_map_or (λ a. takes_one s h a && fits s rest (positional_held s.rules a word h) (next_position a k)) (arg_by_index s.rules k) false

-- where the walk stands after them
abbrev pub reached : Shape → List Text → Held → ℕ → Walk
reached s [] h k = at h k
reached s (word ∷ rest) h k = option_map_or (λ a. reached s rest (positional_held s.rules a word h) (next_position a k)) (arg_by_index s.rules k) (at h k)

pub step : (rules : List Rule) (h : Held) (k : ℕ) (a : Rule) (word : Text) → IsWord word → arg_by_index rules k ≡ Some a → is_multiple a ≡ false → a.trailing_var_arg ≡ false
    → walked rules [] (at h k) word ≡ at (positional_held rules a word h) (next_position a k)
unfolding walked
step rules h k a word w here single plain = rw (w.no_end, w.no_long, w.no_short, here, single, plain) refl

pub turn : (s : Shape) (h : Held) (k : ℕ) (a : Rule) (word : Text) → IsWord word → arg_by_index s.rules k ≡ Some a → positional_passes s.rules s.args_override_self a h ≡ true
    → turn_passes s [] (at h k) word ≡ true
turn s h k a word w here passes = rw (w.no_end, w.no_long, w.no_short, here, passes) refl

-- the walk gets there, and each word passes
pub record Arrives (s : Shape) (words : List Text) (h : Held) (k : ℕ) : Type 0 where
  pub there : fold (walked s.rules []) (at h k) words ≡ reached s words h k
  pub passes : walk_passes s [] (at h k) words ≡ true

-- a further word passes where its turn does and the rest do after it
pub passes_more : (s : Shape) (w v : Walk) (word : Text) (rest : List Text) → turn_passes s [] w word ≡ true → walked s.rules [] w word ≡ v → walk_passes s [] v rest ≡ true
    → walk_passes s [] w (word ∷ rest) ≡ true
unfolding walk_passes
passes_more s w v word rest turns goes passes = rw (turns, goes, passes) (refl {a = true})

arrives_at : (s : Shape) (word : Text) (rest : List Text) (h : Held) (k : ℕ) (o : Option Rule) → arg_by_index s.rules k ≡ o → is_plain word ≡ true
    → ((g : Held) (j : ℕ) → fits s rest g j ≡ true → Arrives s rest g j)
    → option_map_or (λ a. takes_one s h a && fits s rest (positional_held s.rules a word h) (next_position a k)) o false ≡ true
    → (fold (walked s.rules []) (at h k) (word ∷ rest) ≡ option_map_or (λ a. reached s rest (positional_held s.rules a word h) (next_position a k)) o (at h k)) × (walk_passes s [] (at h k) (word ∷ rest) ≡ true)
arrives_at s word rest h k None here plain more e = let bad : false ≡ true = e in absurd (cc)
arrives_at s word rest h k (Some a) here plain more e =
    let parts = and_parts (takes_one s h a) (fits s rest (positional_held s.rules a word h) (next_position a k)) e in
    let taken = and_parts (not (is_multiple a)) (not a.trailing_var_arg && positional_passes s.rules s.args_override_self a h) parts.0 in
    let after = and_parts (not a.trailing_var_arg) (positional_passes s.rules s.args_override_self a h) taken.1 in
    let word_is = is_word word plain in
    let goes = step s.rules h k a word word_is here (not_hyphen (is_multiple a) taken.0) (not_hyphen a.trailing_var_arg after.0) in
    let then = more (positional_held s.rules a word h) (next_position a k) parts.1 in (
      ap (λ w. fold (walked s.rules []) w rest) goes ∙ then.there,
      passes_more s (at h k) (at (positional_held s.rules a word h) (next_position a k)) word rest (turn s h k a word word_is here after.1) goes then.passes,
    )

none_pass : (s : Shape) (w : Walk) → walk_passes s [] w [] ≡ true
unfolding walk_passes
none_pass s w = refl

pub arrives : (s : Shape) (words : List Text) (h : Held) (k : ℕ) → list_all is_plain words ≡ true → fits s words h k ≡ true → Arrives s words h k
arrives s [] h k plain e = record { there = refl; passes = none_pass s (at h k) }
arrives s (word ∷ rest) h k plain e =
    let words = and_parts (is_plain word) (list_all is_plain rest) plain in
    let both = arrives_at s word rest h k (arg_by_index s.rules k) refl words.0 (λ g j f. arrives s rest g j words.1 f) e in
    record { there = both.0; passes = both.1 }

-- a subcommand takes the words, each by one positional
abbrev pub takes_words : Shape → List Text → Bool
takes_words s words = let end = (reached s words nothing_held 1).held in
    fits s words nothing_held 1 && (settle_passes s.rules s.args_override_self end
    && (list_all default_passes s.rules && is_valid s (finished s.rules end) false))

-- what it has of them then
abbrev pub rows_of_words : Shape → List Text → List Row
rows_of_words s words = finished s.rules (reached s words nothing_held 1).held

pub rows_taken : (s : Shape) (words : List Text) → list_all is_plain words ≡ true → takes_words s words ≡ true → rows_after s.rules [] words ≡ rows_of_words s words
rows_taken s words plain e =
    let parts = and_parts (fits s words nothing_held 1) _ e in
    ap (λ w. finished s.rules w.held) (arrives s words nothing_held 1 plain parts.0).there

pub level_taken : (s : Shape) (words : List Text) → list_all is_plain words ≡ true → takes_words s words ≡ true → level_passes s [] nothing_held words false ≡ true
level_taken s words plain e =
    let parts = and_parts (fits s words nothing_held 1) _ e in
    let all = arrives s words nothing_held 1 plain parts.0 in
    rw (all.passes, all.there) parts.1

-- ---- with other words behind them

passes_then : (s : Shape) (w : Walk) (words others : List Text) → walk_passes s [] w words ≡ true
    → walk_passes s [] (fold (walked s.rules []) w words) others ≡ true → walk_passes s [] w (words ++ others) ≡ true
unfolding walk_passes
passes_then s w [] others passes then = then
passes_then s w (word ∷ words) others passes then =
    let parts = and_parts (turn_passes s [] w word) (walk_passes s [] (walked s.rules [] w word) words) passes in
    rw (parts.0, passes_then s (walked s.rules [] w word) words others parts.1 then) (refl {a = true})

-- where a walk stands after other words behind the positionals
abbrev pub reached_then : Shape → List Text → List Text → Walk
reached_then s words others = fold (walked s.rules []) (reached s words nothing_held 1) others

walk_then : (s : Shape) (words others : List Text) → list_all is_plain words ≡ true → fits s words nothing_held 1 ≡ true
    → fold (walked s.rules []) (at nothing_held 1) (words ++ others) ≡ reached_then s words others
walk_then s words others plain fit =
    fold-append (walked s.rules []) (at nothing_held 1) words others
    ∙ ap (λ w. fold (walked s.rules []) w others) (arrives s words nothing_held 1 plain fit).there

-- a subcommand takes the words, each by one positional, and the others as it takes them
abbrev pub takes_then : Shape → List Text → List Text → Bool
takes_then s words others = let end = (reached_then s words others).held in
    walk_passes s [] (reached s words nothing_held 1) others && (settle_passes s.rules s.args_override_self end
    && (list_all default_passes s.rules && is_valid s (finished s.rules end) false))

pub rows_then : (s : Shape) (words others : List Text) → list_all is_plain words ≡ true → fits s words nothing_held 1 ≡ true
    → rows_after s.rules [] (words ++ others) ≡ finished s.rules (reached_then s words others).held
rows_then s words others plain fit = ap (λ w. finished s.rules w.held) (walk_then s words others plain fit)

pub level_then : (s : Shape) (words others : List Text) → list_all is_plain words ≡ true → fits s words nothing_held 1 ≡ true → takes_then s words others ≡ true
    → level_passes s [] nothing_held (words ++ others) false ≡ true
level_then s words others plain fit e =
    let parts = and_parts (walk_passes s [] (reached s words nothing_held 1) others) _ e in
    let all = arrives s words nothing_held 1 plain fit in
    let passes = passes_then s (at nothing_held 1) words others all.passes (ap (λ w. walk_passes s [] w others) all.there ∙ parts.0) in
    rw (passes, walk_then s words others plain fit) parts.1
