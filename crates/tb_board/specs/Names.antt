-- The forms of names, keys and titles, as bytes.
use Rattle.std.specs.Prelude.{ℕ, Bool, ◌&&◌, ◌||◌, ◌==◌, List, Option, Some, None, if◌then◌else◌, length, nat_le}
use Rattle.std.specs.List.{list_all}

-- from the first to the last length
abbrev pub has_length : ℕ → ℕ → List ℕ → Bool
has_length first last text = nat_le first (length text) && nat_le (length text) last

-- a to z, 0 to 9, '_' or '-'
unfoldable pub is_name_byte : ℕ → Bool
is_name_byte c =
    (nat_le 97 c && nat_le c 122) || (nat_le 48 c && nat_le c 57) || (c == 95) || (c == 45)

-- 1 to 32 such bytes
-- Rule: a name is 1 to 32 of a-z, 0-9, '_' and '-'. Refused as BadBody or Bad. Tried by words.
unfoldable pub is_name : List ℕ → Bool
is_name text = has_length 1 32 text && list_all is_name_byte text

-- a visible character of ASCII
abbrev pub is_key_byte : ℕ → Bool
is_key_byte c = nat_le 0x21 c && nat_le c 0x7E

-- 8 to 64 such characters
-- Rule: a key is 8 to 64 visible characters of ASCII. Refused as BadBody or Bad. Tried by words.
unfoldable pub is_key : List ℕ → Bool
is_key text = has_length 8 64 text && list_all is_key_byte text

-- a byte of a character that isn't below U+0020: in UTF-8 each byte of the others is above 0x7F
abbrev pub is_title_byte : ℕ → Bool
is_title_byte c = nat_le 0x20 c

-- 1 to 200 bytes without characters below U+0020
-- Rule: a title is 1 to 200 bytes, none below U+0020. Refused as BadBody. Tried by refused_lines.
unfoldable pub is_title : List ℕ → Bool
is_title text = has_length 1 200 text && list_all is_title_byte text

abbrev pub read_name : List ℕ → Option (List ℕ)
read_name text = if is_name text then Some text else None

abbrev pub read_key : List ℕ → Option (List ℕ)
read_key text = if is_key text then Some text else None

abbrev pub read_title : List ℕ → Option (List ℕ)
read_title text = if is_title text then Some text else None
