-- Answers that are written in steps, while bytes are read.
use Rattle.std.proofs.Common.{◌≡◌, ◌⊎◌, ℕ, suc, zero, List, [], ◌∷◌, ◌++◌, drop, length, take, Option, Some, None, IfSome, Result, Ok, Err, OnErr, ap, sym, ◌∙◌, append_assoc, refl, subst, inl, inr, arith}
use Rattle.std.proofs.lemmas.List.{append-nil, take-append-drop, take_all}
use Rattle.std.specs.Io.KnownBytes.{Appends, Consumes, IsAtEnd}
use Rattle.tb_values.specs.Appends.{AppendsFront}
use Rattle.tb_values.proofs.Appends.{Appends-nil, Appends-then, AppendsFront-more}
use Rattle.tb_calls.specs.Call.{State}
use Rattle.tb_script.specs.Answering.{answer}
use Rattle.tb_script.specs.Lines.{answers, answers_from, lines_of}
use Rattle.tb_script.specs.Runs.{LeavesSome, Progress, after_lines, fed, from}
use Rattle.tb_script.proofs.Feeding.{behind, ends, fed-append, fed-behind, fronts, left_calls}

-- where the bytes read so far lead from a state
abbrev pub reached : State → List ℕ → Progress
reached s eaten = fed (from s [] []) eaten

-- The bytes read so far are answered, but for the line that has begun.
pub record IsUnderWay (first now : State → Type 0) (old new left : Option (List ℕ)) (line script : List ℕ) : Type 0 where
  pub eaten : List ℕ
  pub rest : List ℕ
  pub split : script ≡ eaten ++ rest
  pub is_left : left ≡ Some rest
  pub begun : (s : State) → line ≡ (reached s eaten).line
  pub told : (s : State) → first s → Appends old new (reached s eaten).told
  pub held : (s : State) → first s → now (reached s eaten).state

pub on_err_since : {T E P : Type 0} (r : Result T E) → P → OnErr r P
on_err_since (Ok x) p = tt
on_err_since (Err e) p = p

pub nothing_read : (first : State → Type 0) (old : Option (List ℕ)) (line : List ℕ) (known : Option (List ℕ)) → line ≡ [] → IfSome known (λ script. IsUnderWay first first old old known line script)
nothing_read first old line None empty = tt
nothing_read first old line (Some script) empty = record {
  eaten = [];
  rest = script;
  split = refl;
  is_left = refl;
  begun = λ s. empty;
  told = λ s h. Appends-nil old;
  held = λ s h. h;
}

-- ---- a chunk

-- where a chunk leads, by what it does after the line that has begun
chunk_reached : (s : State) (eaten chunk line : List ℕ) → line ≡ (reached s eaten).line
    → reached s (eaten ++ chunk) ≡ behind (reached s eaten).told (fed (from (reached s eaten).state line []) chunk)
chunk_reached s eaten chunk line begun =
    let p = reached s eaten in
    fed-append (from s [] []) eaten chunk
    ∙ ap (λ t. fed (from p.state p.line t) chunk) (sym (append-nil p.told))
    ∙ fed-behind p.told (from p.state p.line []) chunk
    ∙ ap (λ l. behind p.told (fed (from p.state l []) chunk)) (sym begun)

-- what feeding a chunk does, from a line that has begun and no text
pub record Feeds (now later : State → Type 0) (line line' chunk text : List ℕ) : Type 0 where
  pub begun : (t : State) → line' ≡ (fed (from t line []) chunk).line
  pub told : (t : State) → now t → text ≡ (fed (from t line []) chunk).told
  pub left : (t : State) → now t → later (fed (from t line []) chunk).state

-- what is left after a chunk is read
eaten_chunk : (left left' : Option (List ℕ)) (rest chunk : List ℕ) → left ≡ Some rest → Consumes left left' chunk → (more : List ℕ) × (left' ≡ Some more) × (rest ≡ chunk ++ more)
eaten_chunk None left' rest chunk is eats = absurd (cc)
eaten_chunk (Some xs) None rest chunk is eats = absurd eats
eaten_chunk (Some xs) (Some more) rest chunk is eats = (more, refl, (let same : xs ≡ rest = cc in sym same ∙ eats))

pub read_on : (first now later : State → Type 0) (old new next left left' : Option (List ℕ)) (line line' chunk text script : List ℕ)
    → IsUnderWay first now old new left line script → Consumes left left' chunk → Feeds now later line line' chunk text → Appends new next text → IsUnderWay first later old next left' line' script
read_on first now later old new next left left' line line' chunk text script u eats feeds wrote =
    let e = eaten_chunk left left' u.rest chunk u.is_left eats in
    let goes = λ (s : State). chunk_reached s u.eaten chunk line (u.begun s) in
    record {
      eaten = u.eaten ++ chunk;
      rest = e.0;
      split = u.split ∙ ap (λ r. u.eaten ++ r) e.2 ∙ sym (append_assoc u.eaten chunk e.0);
      is_left = e.1;
      begun = λ s. feeds.begun (reached s u.eaten).state ∙ ap (λ (p : Progress). p.line) (sym (goes s));
      told = λ s h.
          subst (Appends old next) (ap (λ t. (reached s u.eaten).told ++ t) (feeds.told (reached s u.eaten).state (u.held s h)) ∙ ap (λ (p : Progress). p.told) (sym (goes s)))
          (Appends-then old new next (reached s u.eaten).told text (u.told s h) wrote);
      held = λ s h. subst later (ap (λ (p : Progress). p.state) (sym (goes s))) (feeds.left (reached s u.eaten).state (u.held s h));
    }

-- ---- a fault

-- a front of the answers to bytes is written, and their state is held
leaves : (s : State) (script eaten rest front more : List ℕ) (old new : Option (List ℕ)) (now : State → Type 0) → script ≡ eaten ++ rest
    → (reached s eaten).told ≡ front ++ more → Appends old new front → now (reached s eaten).state → LeavesSome s (lines_of script) old new now
leaves s script eaten rest front more old new now split told wrote held =
    let f = fronts eaten rest s [] [] refl in
    subst (λ t. LeavesSome s (lines_of t) old new now) (sym split)
    (f.count, (front, more, f.texts ∙ told, wrote), subst now (sym f.state ∙ left_calls (take f.count (lines_of (eaten ++ rest))) s) held)

-- so too where the last line is answered
leaves_all : (s : State) (script front more : List ℕ) (old new : Option (List ℕ)) (now : State → Type 0)
    → (reached s script).told ++ (answer (reached s script).state (reached s script).line).text ≡ front ++ more → Appends old new front
    → now (answer (reached s script).state (reached s script).line).state → LeavesSome s (lines_of script) old new now
leaves_all s script front more old new now told wrote held =
    let e = ends script s [] [] refl in
    let lines = lines_of script in
    let all : take (length lines) lines ≡ lines = take_all (length lines) lines (omega arith) in (
      length lines,
      (front, more, ap (answers answer s) all ∙ e.texts ∙ told, wrote),
      subst now (sym e.state ∙ left_calls lines s ∙ ap (after_lines s) (sym all)) held,
    )

-- while bytes were waited for
pub stopped : (first now : State → Type 0) (old new left : Option (List ℕ)) (line script : List ℕ) → IsUnderWay first now old new left line script → (s : State) → first s → LeavesSome s (lines_of script) old new now
stopped first now old new left line script u s h =
    leaves s script u.eaten u.rest (reached s u.eaten).told [] old new now u.split (sym (append-nil (reached s u.eaten).told)) (u.told s h) (u.held s h)

-- while a chunk was fed
pub stopped_in : (first now later : State → Type 0) (old new left left' : Option (List ℕ)) (line chunk script : List ℕ)
    → IsUnderWay first now old new left line script → Consumes left left' chunk → ((t : State) → now t → (n : ℕ) × later (fed (from t line []) (take n chunk)).state)
    → (s : State) → first s → LeavesSome s (lines_of script) old new later
stopped_in first now later old new left left' line chunk script u eats held s h =
    let e = eaten_chunk left left' u.rest chunk u.is_left eats in
    let p = reached s u.eaten in
    let k = held p.state (u.held s h) in
    let part = take k.0 chunk in
    let goes = chunk_reached s u.eaten part line (u.begun s) in
    leaves s script (u.eaten ++ part) (drop k.0 chunk ++ e.0) p.told (fed (from p.state line []) part).told old new later
    (u.split ∙ ap (λ r. u.eaten ++ r) (e.2 ∙ ap (λ c. c ++ e.0) (sym (take-append-drop k.0 chunk)) ∙ append_assoc part (drop k.0 chunk) e.0) ∙ sym (append_assoc u.eaten part (drop k.0 chunk ++ e.0)))
    (ap (λ (q : Progress). q.told) goes) (u.told s h) (subst later (ap (λ (q : Progress). q.state) (sym goes)) k.1)

-- while a chunk's answers were written
pub stopped_after : (first now later : State → Type 0) (old new next left left' : Option (List ℕ)) (line line' chunk text script : List ℕ)
    → IsUnderWay first now old new left line script → Consumes left left' chunk → Feeds now later line line' chunk text → AppendsFront new next text
    → (s : State) → first s → LeavesSome s (lines_of script) old next later
stopped_after first now later old new next left left' line line' chunk text script u eats feeds wrote s h =
    let e = eaten_chunk left left' u.rest chunk u.is_left eats in
    let p = reached s u.eaten in
    let goes = chunk_reached s u.eaten chunk line (u.begun s) in
    leaves s script (u.eaten ++ chunk) e.0 (p.told ++ wrote.0) wrote.1 old next later
    (u.split ∙ ap (λ r. u.eaten ++ r) e.2 ∙ sym (append_assoc u.eaten chunk e.0))
    (ap (λ (q : Progress). q.told) goes ∙ ap (λ t. p.told ++ t) (sym (feeds.told p.state (u.held s h)) ∙ wrote.2) ∙ sym (append_assoc p.told wrote.0 wrote.1))
    (Appends-then old new next p.told wrote.0 (u.told s h) wrote.3)
    (subst later (ap (λ (q : Progress). q.state) (sym goes)) (feeds.left p.state (u.held s h)))

-- ---- the end

-- the reader is at its end, and the whole script is read
at_end : (left left' : Option (List ℕ)) (rest : List ℕ) → left ≡ Some rest → Consumes left left' [] → IsAtEnd left' → rest ≡ []
at_end None left' rest is eats ended = absurd (cc)
at_end (Some xs) None rest is eats ended = absurd eats
at_end (Some xs) (Some ys) rest is eats ended = let same : xs ≡ rest = cc in sym same ∙ eats ∙ ended

whole : (first now : State → Type 0) (old new left left' : Option (List ℕ)) (line script : List ℕ) → (u : IsUnderWay first now old new left line script) → Consumes left left' [] → IsAtEnd left' → script ≡ u.eaten
whole first now old new left left' line script u eats ended = u.split ∙ ap (λ r. u.eaten ++ r) (at_end left left' u.rest u.is_left eats ended) ∙ append-nil u.eaten

-- what answering the line that has begun does, from no text
pub record Finishes (now later : State → Type 0) (line text : List ℕ) : Type 0 where
  pub told : (t : State) → now t → text ≡ (answer t line).text
  pub left : (t : State) → now t → later (answer t line).state

-- all that is written at the end
finished : (first now later : State → Type 0) (old new left : Option (List ℕ)) (line text script : List ℕ) → (u : IsUnderWay first now old new left line script) → script ≡ u.eaten → Finishes now later line text
    → (s : State) → (h : first s) → (reached s script).told ++ (answer (reached s script).state (reached s script).line).text ≡ (reached s u.eaten).told ++ text
finished first now later old new left line text script u all f s h =
    ap (λ t. (reached s t).told ++ (answer (reached s t).state (reached s t).line).text) all
    ∙ ap (λ t. (reached s u.eaten).told ++ t) (ap (λ l. (answer (reached s u.eaten).state l).text) (sym (u.begun s)) ∙ sym (f.told (reached s u.eaten).state (u.held s h)))

held_at_end : (first now later : State → Type 0) (old new left : Option (List ℕ)) (line script : List ℕ) → (u : IsUnderWay first now old new left line script) → script ≡ u.eaten
    → (s : State) → later (answer (reached s u.eaten).state line).state → later (answer (reached s script).state (reached s script).line).state
held_at_end first now later old new left line script u all s held =
    subst later (ap (λ l. (answer (reached s u.eaten).state l).state) (u.begun s) ∙ ap (λ t. (answer (reached s t).state (reached s t).line).state) (sym all)) held

pub written_all : (first now later : State → Type 0) (old new next left left' : Option (List ℕ)) (line text script : List ℕ)
    → IsUnderWay first now old new left line script → Consumes left left' [] → IsAtEnd left' → Finishes now later line text → Appends new next text
    → (s : State) → first s → Appends old next (answers_from answer s script)
written_all first now later old new next left left' line text script u eats ended f wrote s h =
    let all = whole first now old new left left' line script u eats ended in
    let e = ends script s [] [] refl in
    subst (Appends old next) (sym (e.texts ∙ finished first now later old new left line text script u all f s h))
    (Appends-then old new next (reached s u.eaten).told text (u.told s h) wrote)

pub left_all : (first now later : State → Type 0) (old new left left' : Option (List ℕ)) (line text script : List ℕ)
    → IsUnderWay first now old new left line script → Consumes left left' [] → IsAtEnd left' → Finishes now later line text
    → (s : State) → first s → later (after_lines s (lines_of script))
left_all first now later old new left left' line text script u eats ended f s h =
    let all = whole first now old new left left' line script u eats ended in
    let e = ends script s [] [] refl in
    subst later (sym e.state ∙ left_calls (lines_of script) s)
    (held_at_end first now later old new left line script u all s (f.left (reached s u.eaten).state (u.held s h)))

-- while the last answer was written
pub stopped_last : (first now later : State → Type 0) (old new next left left' : Option (List ℕ)) (line text script : List ℕ)
    → IsUnderWay first now old new left line script → Consumes left left' [] → IsAtEnd left' → Finishes now later line text → AppendsFront new next text
    → (s : State) → first s → LeavesSome s (lines_of script) old next later
stopped_last first now later old new next left left' line text script u eats ended f wrote s h =
    let all = whole first now old new left left' line script u eats ended in
    let p = reached s u.eaten in
    leaves_all s script (p.told ++ wrote.0) wrote.1 old next later
    (finished first now later old new left line text script u all f s h ∙ ap (λ t. p.told ++ t) wrote.2 ∙ sym (append_assoc p.told wrote.0 wrote.1))
    (Appends-then old new next p.told wrote.0 (u.told s h) wrote.3)
    (held_at_end first now later old new left line script u all s (f.left p.state (u.held s h)))

-- while the last line was answered
pub stopped_at_end : (first now later : State → Type 0) (old new left left' : Option (List ℕ)) (line script : List ℕ)
    → IsUnderWay first now old new left line script → Consumes left left' [] → IsAtEnd left' → ((t : State) → now t → later t ⊎ later (answer t line).state)
    → (s : State) → first s → LeavesSome s (lines_of script) old new later
stopped_at_end first now later old new left left' line script u eats ended held s h =
    let all = whole first now old new left left' line script u eats ended in
    let p = reached s u.eaten in
    let last = (answer p.state p.line).text in
    elim (held p.state (u.held s h)) [
      | inl same ↦ leaves s script u.eaten u.rest p.told [] old new later u.split (sym (append-nil p.told)) (u.told s h) same
      | inr after ↦
          leaves_all s script p.told last old new later (ap (λ t. (reached s t).told ++ (answer (reached s t).state (reached s t).line).text) all) (u.told s h)
          (held_at_end first now later old new left line script u all s after)
    ]

pub none_eaten : (left left' : Option (List ℕ)) (bytes : List ℕ) (n : ℕ) → n ≡ 0 → Consumes left left' (take n bytes) → Consumes left left' []
none_eaten left left' bytes n none eats = rw none at eats

-- ---- the same, where the script may be unknown

abbrev pub UnderWay : (first now : State → Type 0) (known old new left : Option (List ℕ)) (line : List ℕ) → Type 0
UnderWay first now known old new left line = IfSome known (λ script. IsUnderWay first now old new left line script)

abbrev pub Leaves : State → (known old new : Option (List ℕ)) (now : State → Type 0) → Type 0
Leaves s known old new now = IfSome known (λ script. LeavesSome s (lines_of script) old new now)

pub known_read_on : (first now later : State → Type 0) (known old new next left left' : Option (List ℕ)) (line line' chunk text : List ℕ)
    → UnderWay first now known old new left line → Consumes left left' chunk → Feeds now later line line' chunk text → Appends new next text → UnderWay first later known old next left' line'
known_read_on first now later None old new next left left' line line' chunk text u eats feeds wrote = tt
known_read_on first now later (Some script) old new next left left' line line' chunk text u eats feeds wrote = read_on first now later old new next left left' line line' chunk text script u eats feeds wrote

pub known_stopped : (first now : State → Type 0) (known old new left : Option (List ℕ)) (line : List ℕ) → UnderWay first now known old new left line → (s : State) → first s → Leaves s known old new now
known_stopped first now None old new left line u s h = tt
known_stopped first now (Some script) old new left line u s h = stopped first now old new left line script u s h

pub known_stopped_in : (first now later : State → Type 0) (known old new left left' : Option (List ℕ)) (line chunk : List ℕ)
    → UnderWay first now known old new left line → Consumes left left' chunk → ((t : State) → now t → (n : ℕ) × later (fed (from t line []) (take n chunk)).state)
    → (s : State) → first s → Leaves s known old new later
known_stopped_in first now later None old new left left' line chunk u eats held s h = tt
known_stopped_in first now later (Some script) old new left left' line chunk u eats held s h = stopped_in first now later old new left left' line chunk script u eats held s h

pub known_stopped_after : (first now later : State → Type 0) (known old new next left left' : Option (List ℕ)) (line line' chunk text : List ℕ)
    → UnderWay first now known old new left line → Consumes left left' chunk → Feeds now later line line' chunk text → AppendsFront new next text
    → (s : State) → first s → Leaves s known old next later
known_stopped_after first now later None old new next left left' line line' chunk text u eats feeds wrote s h = tt
known_stopped_after first now later (Some script) old new next left left' line line' chunk text u eats feeds wrote s h =
    stopped_after first now later old new next left left' line line' chunk text script u eats feeds wrote s h

pub known_written_all : (first now later : State → Type 0) (known old new next left left' : Option (List ℕ)) (line text : List ℕ)
    → UnderWay first now known old new left line → Consumes left left' [] → IsAtEnd left' → Finishes now later line text → Appends new next text
    → (s : State) → first s → IfSome known (λ script. Appends old next (answers_from answer s script))
known_written_all first now later None old new next left left' line text u eats ended f wrote s h = tt
known_written_all first now later (Some script) old new next left left' line text u eats ended f wrote s h = written_all first now later old new next left left' line text script u eats ended f wrote s h

pub known_left_all : (first now later : State → Type 0) (known old new left left' : Option (List ℕ)) (line text : List ℕ)
    → UnderWay first now known old new left line → Consumes left left' [] → IsAtEnd left' → Finishes now later line text
    → (s : State) → first s → IfSome known (λ script. later (after_lines s (lines_of script)))
known_left_all first now later None old new left left' line text u eats ended f s h = tt
known_left_all first now later (Some script) old new left left' line text u eats ended f s h = left_all first now later old new left left' line text script u eats ended f s h

pub known_stopped_last : (first now later : State → Type 0) (known old new next left left' : Option (List ℕ)) (line text : List ℕ)
    → UnderWay first now known old new left line → Consumes left left' [] → IsAtEnd left' → Finishes now later line text → AppendsFront new next text
    → (s : State) → first s → Leaves s known old next later
known_stopped_last first now later None old new next left left' line text u eats ended f wrote s h = tt
known_stopped_last first now later (Some script) old new next left left' line text u eats ended f wrote s h = stopped_last first now later old new next left left' line text script u eats ended f wrote s h

pub known_stopped_at_end : (first now later : State → Type 0) (known old new left left' : Option (List ℕ)) (line : List ℕ)
    → UnderWay first now known old new left line → Consumes left left' [] → IsAtEnd left' → ((t : State) → now t → later t ⊎ later (answer t line).state)
    → (s : State) → first s → Leaves s known old new later
known_stopped_at_end first now later None old new left left' line u eats ended held s h = tt
known_stopped_at_end first now later (Some script) old new left left' line u eats ended held s h = stopped_at_end first now later old new left left' line script u eats ended held s h

-- ---- from what the calls of a line's buffer ensure, where the text begins empty

pub feeds_of : (now later : State → Type 0) (line line' chunk text before after : List ℕ) → before ≡ [] → text ≡ after
    → ((t : State) → line' ≡ (fed (from t line before) chunk).line) → ((t : State) → now t → after ≡ (fed (from t line before) chunk).told) → ((t : State) → now t → later (fed (from t line before) chunk).state)
    → Feeds now later line line' chunk text
feeds_of now later line line' chunk text before after empty is begun told left = record {
  begun = λ t. begun t ∙ ap (λ o. (fed (from t line o) chunk).line) empty;
  told = λ t h. is ∙ told t h ∙ ap (λ o. (fed (from t line o) chunk).told) empty;
  left = λ t h. subst (λ o. later (fed (from t line o) chunk).state) empty (left t h);
}

pub held_in : (now later : State → Type 0) (line chunk before : List ℕ) → before ≡ [] → ((t : State) → now t → (n : ℕ) × later (fed (from t line before) (take n chunk)).state)
    → (t : State) → now t → (n : ℕ) × later (fed (from t line []) (take n chunk)).state
held_in now later line chunk before empty held t h =
    let k = held t h in
    (k.0, subst (λ o. later (fed (from t line o) (take k.0 chunk)).state) empty k.1)

pub finishes_of : (now later : State → Type 0) (line text before after : List ℕ) → before ≡ [] → text ≡ after
    → ((t : State) → now t → after ≡ before ++ (answer t line).text) → ((t : State) → now t → later (answer t line).state) → Finishes now later line text
finishes_of now later line text before after empty is told left = record {
  told = λ t h. is ∙ told t h ∙ ap (λ o. o ++ (answer t line).text) empty;
  left = left;
}

-- ---- from the start alone

answers_front : (s : State) (n : ℕ) (lines : List (List ℕ)) → (rest : List ℕ) × (answers answer s lines ≡ answers answer s (take n lines) ++ rest)
answers_front s zero lines = (answers answer s lines, refl)
answers_front s (suc n) [] = ([], refl)
answers_front s (suc n) (line ∷ lines) =
    let r = answers_front (answer s line).state n lines in
    (r.0, ap (λ t. (answer s line).text ++ t) r.1 ∙ sym (append_assoc (answer s line).text (answers answer (answer s line).state (take n lines)) r.0))

-- on a fault a front of all answers is written
pub known_front : (s : State) (known old new : Option (List ℕ)) (now : State → Type 0) → Leaves s known old new now → IfSome known (λ script. AppendsFront old new (answers_from answer s script))
known_front s None old new now l = tt
known_front s (Some script) old new now (n, front, held) =
    let r = answers_front s n (lines_of script) in
    subst (AppendsFront old new) (sym r.1) (AppendsFront-more old new (answers answer s (take n (lines_of script))) r.0 front)
