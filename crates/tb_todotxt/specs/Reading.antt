-- What a text says as a line: its marks from the left, each up to the first space, and what is left as the body.
use Rattle.std.specs.Prelude.{◌≡◌, ℕ, Bool, true, false, not, ◌&&◌, ◌==◌, if◌then◌else◌, List, [], ◌∷◌, Option, None, is_some, bytes_eq, Result, Ok, Err}
use Rattle.tb_values.specs.Outcome.{Gives}
use Rattle.tb_todotxt.specs.Day.{day_of}
use Rattle.tb_todotxt.specs.Letter.{letter_of}
use Rattle.tb_todotxt.specs.Line.{is_blank, is_free_of, done_word, spell, IsLine}
use Rattle.tb_todotxt.specs.declared.fault.LineFault.{LineFault}
use Rattle.tb_todotxt.specs.declared.fault.LineFault.TheVariants.{EmptyLine, Memory}
use Rattle.tb_todotxt.specs.declared.line.LineParts.{LineParts}

-- the text up to its first space
abbrev pub first_word : List ℕ → List ℕ
first_word [] = []
first_word (b ∷ bs) = if b == 32 then [] else b ∷ first_word bs

-- what follows the first space
abbrev pub after_word : List ℕ → List ℕ
after_word [] = []
after_word (b ∷ bs) = if b == 32 then bs else after_word bs

-- something other than spaces and tabs follows the first space
abbrev pub has_more : List ℕ → Bool
has_more text = not (is_blank (after_word text))

-- the first word as a mark
abbrev pub mark_of : {A : Type 0} → (List ℕ → Option A) → List ℕ → Option A
mark_of read text = if has_more text then read (first_word text) else None

abbrev pub is_done : List ℕ → Bool
is_done text = has_more text && bytes_eq (first_word text) done_word

-- what is left, where the mark was taken
abbrev pub past : Bool → List ℕ → List ℕ
past taken text = if taken then after_word text else text

-- the days of the completion and of the creation, and the body
pub record Dated : Type 0 where
  pub completion : Option ℕ
  pub creation : Option ℕ
  pub body : List ℕ

-- on a done line the first date is the completion's and the second the creation's, else the one date is the creation's
abbrev pub dates_of : Bool → List ℕ → Dated
dates_of false text =
    let first = mark_of day_of text in
    record { completion = None; creation = first; body = past (is_some first) text }
dates_of true text =
    let first = mark_of day_of text in
    let rest = past (is_some first) text in
    let second = if is_some first then mark_of day_of rest else None in
    record { completion = first; creation = second; body = past (is_some second) rest }

-- what a text that isn't blank says
unfoldable pub line_of : List ℕ → LineParts
line_of text =
    let done = is_done text in
    let rest = past done text in
    let letter = mark_of letter_of rest in
    let dates = dates_of done (past (is_some letter) rest) in
    record {
      done = done;
      priority = letter;
      completion = dates.completion;
      creation = dates.creation;
      body = dates.body;
    }

abbrev pub read_of : List ℕ → Result LineParts LineFault
read_of text = if is_blank text then Err EmptyLine else Ok (line_of text)

-- the definition gives this fault, unless it is memory that ran out
abbrev pub Fails : LineFault → Result LineParts LineFault → Type 0
Fails EmptyLine read = read ≡ Err EmptyLine
Fails Memory read = Unit {0}

-- the answer is what the definition gives, unless memory ran out
abbrev pub Reads : Result LineParts LineFault → Result LineParts LineFault → Type 0
Reads answer read = Gives Fails answer read

-- the spelling of a line is read as that line
abbrev pub AreRead : Type 0
AreRead = (l : LineParts) → IsLine l → read_of (spell l) ≡ Ok l

-- and what is read, of a text without a line feed, is the line that is spelled so
abbrev pub AreSpelled : Type 0
AreSpelled = (text : List ℕ) (l : LineParts) → is_free_of 10 text ≡ true → read_of text ≡ Ok l
    → IsLine l × (text ≡ spell l)
