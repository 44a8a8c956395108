-- The line of a todo.txt file: what it says, and its one spelling.
use Rattle.std.specs.Prelude.{◌≡◌, ℕ, Bool, true, false, not, List, [], ◌∷◌, ◌++◌, ◌==◌, ◌&&◌, ◌||◌, Option, Some, None, IfSome}
use Rattle.tb_todotxt.specs.Day.{day_text, IsDay}
use Rattle.tb_todotxt.specs.Letter.{priority_word, IsLetter}
use Rattle.tb_todotxt.specs.declared.line.LineParts.{LineParts}

-- spaces and tabs alone
abbrev pub is_blank : List ℕ → Bool
is_blank [] = true
is_blank (b ∷ bs) = ((b == 32) || (b == 9)) && is_blank bs

-- no byte is b
abbrev pub is_free_of : ℕ → List ℕ → Bool
is_free_of b [] = true
is_free_of b (c ∷ cs) = not (c == b) && is_free_of b cs

-- `x`
abbrev pub done_word : List ℕ
done_word = 120 ∷ []

-- a mark, a space, and what it stands before
abbrev pub marked : List ℕ → List ℕ → List ℕ
marked word rest = word ++ 32 ∷ rest

abbrev pub with_done : Bool → List ℕ → List ℕ
with_done true rest = marked done_word rest
with_done false rest = rest

abbrev pub with_priority : Option ℕ → List ℕ → List ℕ
with_priority (Some letter) rest = marked (priority_word letter) rest
with_priority None rest = rest

abbrev pub with_date : Option ℕ → List ℕ → List ℕ
with_date (Some day) rest = marked (day_text day) rest
with_date None rest = rest

abbrev pub dated : LineParts → List ℕ
dated l = with_date l.completion (with_date l.creation l.body)

-- the text of a line
abbrev pub spell : LineParts → List ℕ
spell l = with_done l.done (with_priority l.priority (dated l))

-- the text begins with such a mark, and something other than spaces and tabs follows it
abbrev pub Begins : (List ℕ → Type 0) → List ℕ → Type 0
Begins IsMark text = (word : List ℕ) × (rest : List ℕ) × IsMark word × (text ≡ marked word rest)
    × (is_blank rest ≡ false)

abbrev pub IsDoneMark : List ℕ → Type 0
IsDoneMark word = word ≡ done_word

abbrev pub IsPriorityMark : List ℕ → Type 0
IsPriorityMark word = (letter : ℕ) × IsLetter letter × (word ≡ priority_word letter)

abbrev pub IsDateMark : List ℕ → Type 0
IsDateMark word = (day : ℕ) × IsDay day × (word ≡ day_text day)

-- The dates that a line may have. On a done line the first is that of the completion, and the second
-- that of the creation; on another the one is that of the creation. What follows the last that may
-- stand there is the body's, even if it is a date.
abbrev pub HasDates : Bool → Option ℕ → Option ℕ → List ℕ → Type 0
HasDates done None None body = ¬ (Begins IsDateMark body)
HasDates false None (Some created) body = IsDay created
HasDates false (Some completed) creation body = ⊥
HasDates true None (Some created) body = ⊥
HasDates true (Some completed) None body = IsDay completed × ¬ (Begins IsDateMark body)
HasDates true (Some completed) (Some created) body = IsDay completed × IsDay created

-- no mark is missing that would be read, so each line has one spelling
pub record IsLine (l : LineParts) : Type 0 where
  pub done : l.done ≡ false → ¬ (Begins IsDoneMark (spell l))
  pub letter : IfSome l.priority IsLetter
  pub priority : l.priority ≡ None → ¬ (Begins IsPriorityMark (dated l))
  pub dates : HasDates l.done l.completion l.creation l.body
  pub body : is_blank l.body ≡ false
  pub one_line : is_free_of 10 l.body ≡ true

-- no two lines are spelled alike
abbrev pub AreSpelledOnce : Type 0
AreSpelledOnce = (a b : LineParts) → IsLine a → IsLine b → spell a ≡ spell b → a ≡ b
