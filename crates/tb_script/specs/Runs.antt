-- What a run of lines leaves.
use Rattle.std.specs.Prelude.{ℕ, List, [], ◌∷◌, ◌++◌, ◌==◌, Option, if◌then◌else◌, length, nat_le, take}
use Rattle.tb_calls.specs.Call.{State, once, plain}
use Rattle.tb_values.specs.Appends.{AppendsFront}
use Rattle.tb_script.specs.Answering.{answer, calls_of}
use Rattle.tb_script.specs.Lines.{answers}
use Rattle.tb_task.specs.Limits.{longest_body}

-- the state after the calls of lines, each once
abbrev pub after_lines : State → List (List ℕ) → State
after_lines s lines = plain s (once s (calls_of lines))

-- the calls of some first lines stand, and what is written is a front of the answers to these lines
abbrev pub LeavesSome : State → List (List ℕ) → Option (List ℕ) → Option (List ℕ)
    → (State → Type 0) → Type 0
LeavesSome s lines old new now = (n : ℕ) × AppendsFront old new (answers answer s (take n lines))
    × now (after_lines s (take n lines))

-- A state, what came since the last line feed (of a line that is too long the first bytes alone), and the answers so far.
pub record Progress : Type 0 where
  pub state : State
  pub line : List ℕ
  pub told : List ℕ

abbrev pub from : State → List ℕ → List ℕ → Progress
from s line told = record { state = s; line = line; told = told }

-- a line feed ends a line, which is answered
abbrev pub fed_byte : Progress → ℕ → Progress
fed_byte p b =
    if b == 10 then record {
      state = (answer p.state p.line).state;
      line = [];
      told = p.told ++ (answer p.state p.line).text;
    }
    else if nat_le (length p.line) longest_body
    then record { state = p.state; line = p.line ++ b ∷ []; told = p.told }
    else p

-- after bytes, one after the other
abbrev pub fed : Progress → List ℕ → Progress
fed p [] = p
fed p (b ∷ bs) = fed (fed_byte p b) bs
