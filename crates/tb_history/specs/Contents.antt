-- What is shown of a call's content.
use Rattle.std.specs.Prelude.{ℕ, Bool, ◌&&◌, if◌then◌else◌, List, length, nat_le, Option, Some, None}
use Rattle.std.specs.Str.{is_utf8}
use Rattle.tb_deeds.specs.declared.kind.DeedKind.{DeedKind}
use Rattle.tb_deeds.specs.declared.kind.DeedKind.TheVariants.{Import, ImportTodo}

-- the longest content that is shown, in bytes
abbrev pub longest_shown : ℕ
longest_shown = 4096

abbrev pub is_short_text : List ℕ → Bool
is_short_text content = nat_le (length content) longest_shown && is_utf8 content

abbrev pub short_text : List ℕ → Option (List ℕ)
short_text content = if is_short_text content then Some content else None

-- the content of a call that did something of this kind, where it is shown
-- Rule: a history shows no import's content, and only a text of 4,096 bytes at most. Tried by histories.
abbrev pub content_shown : DeedKind → List ℕ → Option (List ℕ)
content_shown Import content = None
content_shown ImportTodo content = None
content_shown _ content = short_text content
