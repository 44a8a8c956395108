-- A line feed ends a line.
use Rattle.std.proofs.Common.{◌≡◌, ℕ, true, false, not, List, [], ◌∷◌, ◌++◌, length, ◌<◌, arith, refl, inl, inr, ap, ◌∙◌, sym, ◌==◌}
use Rattle.std.proofs.lemmas.Bool.{and_parts, and_from, not-true, cases_Bool}
use Rattle.std.proofs.lemmas.List.{append-nil, length-append}
use Rattle.tb_calls.specs.Call.{State}
use Rattle.tb_script.specs.Answering.{answer}
use Rattle.tb_script.specs.Lines.{lines_of}
use Rattle.tb_script.proofs.OneLine.{is_one_line}
use Rattle.tb_script.proofs.Readable.{too_long_alike}

-- there is a first line
first_line : (text : List ℕ) → (line : List ℕ) × (lines : List (List ℕ)) × (lines_of text ≡ line ∷ lines)
first_line [] = ([], [], refl)
first_line (b ∷ bs) =
    let rest = first_line bs in
    elim (cases_Bool (b == 10)) [
      | inl e ↦ ([], lines_of bs, rw e refl)
      | inr e ↦ (b ∷ rest.0, rest.1, rw (e, rest.2) refl)
    ]

-- what has no line feed goes onto the first line of what follows it
first_grows : (front text line : List ℕ) (lines : List (List ℕ)) → is_one_line front ≡ true → lines_of text ≡ line ∷ lines → lines_of (front ++ text) ≡ (front ++ line) ∷ lines
first_grows [] text line lines one e = e
first_grows (b ∷ bs) text line lines one e =
    let p = and_parts (not (b == 10)) (is_one_line bs) one in
    let n : (b == 10) ≡ false = not-true (b == 10) p.0 in
    let more : lines_of (bs ++ text) ≡ (bs ++ line) ∷ lines = first_grows bs text line lines p.1 e in
    rw (n, more) refl

pub line_ends : (line more : List ℕ) (b : ℕ) → (b == 10) ≡ true → is_one_line line ≡ true → lines_of (line ++ b ∷ more) ≡ line ∷ lines_of more
line_ends line more b feed one =
    let ended : lines_of (b ∷ more) ≡ [] ∷ lines_of more = rw feed refl in
    first_grows line (b ∷ more) [] (lines_of more) one ended ∙ ap (λ l. l ∷ lines_of more) (append-nil line)

pub last_line : (line : List ℕ) → is_one_line line ≡ true → lines_of line ≡ line ∷ []
last_line line one = sym (ap lines_of (append-nil line)) ∙ first_grows line [] [] [] one refl ∙ ap (λ l. l ∷ []) (append-nil line)

pub one_line_push : (line : List ℕ) (b : ℕ) → is_one_line line ≡ true → (b == 10) ≡ false → is_one_line (line ++ b ∷ []) ≡ true
one_line_push [] b one other = rw other refl
one_line_push (c ∷ cs) b one other =
    let p = and_parts (not (c == 10)) (is_one_line cs) one in
    and_from (not (c == 10)) (is_one_line (cs ++ b ∷ [])) p.0 (one_line_push cs b p.1 other)

-- lines that differ in the first one alone, with one answer
pub record Alike (s : State) (some others : List (List ℕ)) : Type 0 where
  pub first : List ℕ
  pub second : List ℕ
  pub rest : List (List ℕ)
  pub some_are : some ≡ first ∷ rest
  pub others_are : others ≡ second ∷ rest
  pub same : answer s first ≡ answer s second

-- of a line that is too long no further byte matters
pub skipped : (s : State) (line more : List ℕ) (b : ℕ) → is_one_line line ≡ true → 1048576 < length line → (b == 10) ≡ false → Alike s (lines_of (line ++ b ∷ more)) (lines_of (line ++ more))
skipped s line more b one long other =
    let rest = first_line more in
    let behind : lines_of (b ∷ more) ≡ (b ∷ rest.0) ∷ rest.1 = rw (other, rest.2) refl in
    record {
      first = line ++ b ∷ rest.0;
      second = line ++ rest.0;
      rest = rest.1;
      some_are = first_grows line (b ∷ more) (b ∷ rest.0) rest.1 one behind;
      others_are = first_grows line more rest.0 rest.1 one rest.2;
      same = too_long_alike s (line ++ b ∷ rest.0) (line ++ rest.0) (omega (arith, length-append line (b ∷ rest.0))) (omega (arith, length-append line rest.0));
    }
