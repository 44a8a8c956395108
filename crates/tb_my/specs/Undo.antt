-- What takes back the calls of a command, and how it is kept: lines of fields with tabs between them.
use Rattle.std.specs.Prelude.{ℕ, ◌+◌, ◌-◌, Bool, true, false, not, ◌==◌, ◌&&◌, ◌||◌, nat_le, nat_lt, List, [], ◌∷◌, ◌++◌, codes, map, if◌then◌else◌}
use Rattle.std.specs.List.{slice_split}
use Rattle.std.specs.Str.{bytes_eq, chars, encode_utf8_all}
use Rattle.tb_my.specs.Calls.{call_sent}
use Rattle.tb_my.specs.Days.{Text}
use Rattle.tb_my.specs.Settings.{lines_of}
use Rattle.tb_my.specs.declared.sent.Sent.{Sent}

-- ---- fields

abbrev pub tabbed_after : List Text → Text
tabbed_after [] = []
tabbed_after (field ∷ fields) = 9 ∷ (field ++ tabbed_after fields)

-- the fields of a line, the first of them apart
abbrev pub tabbed : Text → List Text → Text
tabbed field fields = field ++ (tabbed_after fields ++ 10 ∷ [])

-- ---- a word as a field, which has no tab and no end of a line

abbrev pub is_control : ℕ → Bool
is_control c = nat_lt c 32

-- U+0001 and the character 64 behind it stand for a control character
abbrev pub kept_char : ℕ → List ℕ
kept_char c = if is_control c then 1 ∷ (c + 64) ∷ [] else c ∷ []

abbrev pub kept_chars : List ℕ → List ℕ
kept_chars [] = []
kept_chars (c ∷ cs) = kept_char c ++ kept_chars cs

unfoldable pub kept_word : Text → Text
kept_word text = encode_utf8_all (kept_chars (chars text))

abbrev pub opened_char : ℕ → ℕ
opened_char c = if nat_le 64 c && nat_lt c 96 then c - 64 else c

-- the characters of a field, behind U+0001 or not
abbrev pub opened_chars : Bool → List ℕ → List ℕ
opened_chars is_marked [] = []
opened_chars true (c ∷ cs) = opened_char c ∷ opened_chars false cs
opened_chars false (c ∷ cs) =
    if c == 1 then opened_chars true cs else c ∷ opened_chars false cs

unfoldable pub opened_word : Text → Text
opened_word field = encode_utf8_all (opened_chars false (chars field))

-- ---- what is kept

abbrev pub kept_line : Text → List Text → Text
kept_line [] back = []
kept_line (byte ∷ told) back = tabbed (byte ∷ told) (map kept_word back)

-- what was told of a call, and what takes it back: nothing of a view
abbrev pub kept_sent : Sent → Text
kept_sent sent = kept_line sent.told sent.back

-- who asked which server, before that
abbrev pub undo_head : Text → Text → Text
undo_head server name = tabbed server (name ∷ [])

-- the lines of a command, and after an empty one those of the commands before it
abbrev pub kept_over : Text → Text → Text
kept_over command before = command ++ 10 ∷ before

abbrev pub is_empty : Text → Bool
is_empty [] = true
is_empty (byte ∷ bytes) = false

abbrev pub ended : Text → Text
ended line = line ++ 10 ∷ []

abbrev pub is_end : ℕ → Bool → Text → Bool
is_end left is_begun line = (left == 0) || (is_empty line && not is_begun)

abbrev pub left_after : ℕ → Text → ℕ
left_after left line = if is_empty line then left - 1 else left

-- the lines of so many commands, of which the first has begun or not, up to one without a line
abbrev pub kept_entries : ℕ → Bool → List Text → Text
kept_entries left is_begun [] = []
kept_entries left is_begun (line ∷ lines) = if is_end left is_begun line then []
    else ended line ++ kept_entries (left_after left line) (not (is_empty line)) lines

-- Rule: `tb undo` takes back fifty commands, the last one first. Tried by my.sh.
abbrev pub kept_before : Text → Text
kept_before kept = kept_entries 49 false (lines_of kept)

-- the lines after the first empty one
abbrev pub after_entry : List Text → List Text
after_entry [] = []
after_entry (line ∷ lines) = if is_empty line then lines else after_entry lines

abbrev pub kept_rest : Text → Text
kept_rest kept = kept_entries 49 false (after_entry (lines_of kept))

-- ---- what is read of it

abbrev pub fields_of : Text → List Text
fields_of line = slice_split (λ b. b == 9) line

abbrev pub taken_back : Text → List Text → Sent
taken_back told words = call_sent (map opened_word words) (codes "Taken back: " ++ told) []

abbrev pub undone_of : List Text → List Sent
undone_of (told ∷ word ∷ words) = taken_back told (word ∷ words) ∷ []
undone_of (told ∷ []) = []
undone_of [] = []

-- a call that nothing takes back
abbrev pub lost_of : List Text → List Text
lost_of (told ∷ word ∷ words) = []
lost_of (told ∷ []) = told ∷ []
lost_of [] = []

-- up to an empty line
abbrev pub undone_from : List Text → List Sent
undone_from [] = []
undone_from (line ∷ lines) =
    if is_empty line then [] else undone_of (fields_of line) ++ undone_from lines

abbrev pub lost_from : List Text → List Text
lost_from [] = []
lost_from (line ∷ lines) =
    if is_empty line then [] else lost_of (fields_of line) ++ lost_from lines

-- the lines after this first one: none after another
abbrev pub own_lines : Text → List Text → List Text
own_lines head [] = []
own_lines head (line ∷ lines) = if bytes_eq (line ++ 10 ∷ []) head then lines else []

-- the calls that take back the last command, if this person asked this server for it
abbrev pub undone_in : Text → Text → Text → List Sent
undone_in server name text = undone_from (own_lines (undo_head server name) (lines_of text))

-- what was told of its calls that nothing takes back
abbrev pub lost_in : Text → Text → Text → List Text
lost_in server name text = lost_from (own_lines (undo_head server name) (lines_of text))
