-- What a text is read as is the line that it spells.
use Rattle.std.proofs.Common.{◌≡◌, ◌∙◌, ℕ, Bool, true, false, not, List, [], ◌∷◌, ◌++◌, ◌==◌, Option, Some, None, IfSome, Result, Ok, Err, is_some, cond, ap, sym, subst, refl, true≢false, inl, inr, arith}
use Rattle.std.specs.Prelude.{bytes_eq}
use Rattle.std.proofs.lemmas.Bool.{and_parts, and_from, not-true, cases_Bool, ne_eqb}
use Rattle.std.proofs.lemmas.Slice.Eq.{bytes_eq-Decides}
use Rattle.tb_todotxt.specs.declared.fault.LineFault.{LineFault}
use Rattle.tb_todotxt.specs.declared.fault.LineFault.TheVariants.{EmptyLine}
use Rattle.tb_todotxt.specs.declared.line.LineParts.{LineParts}
use Rattle.tb_todotxt.specs.Day.{day_text, day_of, IsDay}
use Rattle.tb_todotxt.specs.Letter.{priority_word, letter_of, IsLetter}
use Rattle.tb_todotxt.specs.Line.{IsLine, HasDates, Begins, IsDoneMark, IsPriorityMark, IsDateMark, spell, dated, marked, with_done, with_priority, with_date, done_word, is_blank, is_free_of}
use Rattle.tb_todotxt.specs.Reading.{first_word, after_word, has_more, mark_of, past, is_done, Dated, dates_of, line_of, read_of}
use Rattle.tb_todotxt.proofs.DayTexts.{read_day, day_read}
use Rattle.tb_todotxt.proofs.LetterWords.{read_letter, letter_read}
use Rattle.tb_todotxt.proofs.FirstWords.{first_marked, split_first}
use Rattle.tb_todotxt.proofs.Spelling.{AreWords, done_words, priority_words, date_words, day_free, full_line, spelled_once}

-- a mark that the text begins with is its first word, and more follows
pub record IsFirst (IsMark : List ℕ → Type 0) (text : List ℕ) : Type 0 where
  pub more : has_more text ≡ true
  pub mark : IsMark (first_word text)

pub begun : (IsMark : List ℕ → Type 0) → AreWords IsMark → (text : List ℕ) → Begins IsMark text → IsFirst IsMark text
begun IsMark words text b =
    let parts = first_marked b.0 b.1 (words b.0 b.2) in
    let word : first_word text ≡ b.0 = ap first_word b.3 ∙ parts.0 in
    let rest : after_word text ≡ b.1 = ap after_word b.3 ∙ parts.1 in
    record { more = ap (λ r. not (is_blank r)) rest ∙ ap not b.4; mark = subst IsMark (sym word) b.2 }

-- a mark that isn't taken isn't there
no_mark : {A : Type 0} (read : List ℕ → Option A) (IsMark : List ℕ → Type 0) → AreWords IsMark → ((word : List ℕ) → IsMark word → read word ≡ None → ⊥) → (text : List ℕ) → mark_of read text ≡ None → Begins IsMark text → ⊥
no_mark read IsMark words reads text none b =
    let first = begun IsMark words text b in
    reads (first_word text) first.mark (rw first.more at none)

-- what is left after a mark isn't blank
full_rest : (text : List ℕ) → has_more text ≡ true → is_blank (after_word text) ≡ false
full_rest text more = not-true (is_blank (after_word text)) more

record IsTaken {A : Type 0} (read : List ℕ → Option A) (text : List ℕ) (x : A) : Type 0 where
  more : has_more text ≡ true
  word : read (first_word text) ≡ Some x

no_some : {A : Type 0} (x : A) → None ≡ Some x → ⊥
no_some x h = cc

taken : {A : Type 0} (read : List ℕ → Option A) (text : List ℕ) (x : A) → mark_of read text ≡ Some x → IsTaken read text x
taken read text x h =
    elim (cases_Bool (has_more text)) [
      | inl more ↦ record { more = more; word = rw more at h }
      | inr none ↦ absurd (no_some x (rw none at h))
    ]

-- ---- the steps from the left: what was taken, and what is left

pub record IsDoneTaken (done : Bool) (text rest : List ℕ) : Type 0 where
  pub spelled : text ≡ with_done done rest
  pub full : is_blank rest ≡ false
  pub missing : done ≡ false → Begins IsDoneMark text → ⊥

done_when : (done : Bool) (text : List ℕ) → is_blank text ≡ false → is_done text ≡ done → IsDoneTaken done text (past done text)
done_when true text full is =
    let parts = and_parts (has_more text) (bytes_eq (first_word text) done_word) is in
    let word : first_word text ≡ done_word = (bytes_eq-Decides (first_word text) done_word).0 parts.1 in
    record { spelled = split_first text parts.0 ∙ ap (λ w. marked w (after_word text)) word; full = full_rest text parts.0; missing = λ e. absurd (true≢false e) }
done_when false text full is =
    record {
      spelled = refl;
      full = full;
      missing = λ _ b.
          let first = begun IsDoneMark done_words text b in
          true≢false (sym (and_from (has_more text) (bytes_eq (first_word text) done_word) first.more ((bytes_eq-Decides (first_word text) done_word).1 first.mark)) ∙ is);
    }

pub record IsPriorityTaken (letter : Option ℕ) (text rest : List ℕ) : Type 0 where
  pub spelled : text ≡ with_priority letter rest
  pub full : is_blank rest ≡ false
  pub valid : IfSome letter IsLetter
  pub missing : letter ≡ None → Begins IsPriorityMark text → ⊥

priority_when : (letter : Option ℕ) (text : List ℕ) → is_blank text ≡ false → mark_of letter_of text ≡ letter → IsPriorityTaken letter text (past (is_some letter) text)
priority_when None text full is =
    record {
      spelled = refl;
      full = full;
      valid = tt;
      missing = λ _. no_mark letter_of IsPriorityMark priority_words (λ word mark none. absurd (no_some mark.0 (sym none ∙ ap letter_of mark.2 ∙ read_letter mark.0 mark.1))) text is;
    }
priority_when (Some c) text full is =
    let t = taken letter_of text c is in
    let r = letter_read (first_word text) c t.word in
    record {
      spelled = split_first text t.more ∙ ap (λ w. marked w (after_word text)) r.1;
      full = full_rest text t.more;
      valid = r.0;
      missing = λ e. absurd (no_some c (sym e));
    }

pub record IsDateTaken (day : Option ℕ) (text rest : List ℕ) : Type 0 where
  pub spelled : text ≡ with_date day rest
  pub full : is_blank rest ≡ false
  pub valid : IfSome day IsDay
  pub missing : day ≡ None → Begins IsDateMark rest → ⊥

date_when : (day : Option ℕ) (text : List ℕ) → is_blank text ≡ false → mark_of day_of text ≡ day → IsDateTaken day text (past (is_some day) text)
date_when None text full is =
    record {
      spelled = refl;
      full = full;
      valid = tt;
      missing = λ _. no_mark day_of IsDateMark date_words (λ word mark none. absurd (no_some mark.0 (sym none ∙ ap day_of mark.2 ∙ read_day mark.0 mark.1))) text is;
    }
date_when (Some n) text full is =
    let t = taken day_of text n is in
    let r = day_read (first_word text) n t.word in
    record {
      spelled = split_first text t.more ∙ ap (λ w. marked w (after_word text)) r.1;
      full = full_rest text t.more;
      valid = r.0;
      missing = λ e. absurd (no_some n (sym e));
    }

pub record AreDates (done : Bool) (text : List ℕ) (d : Dated) : Type 0 where
  pub spelled : text ≡ with_date d.completion (with_date d.creation d.body)
  pub full : is_blank d.body ≡ false
  pub dates : HasDates done d.completion d.creation d.body

one_date : (day : Option ℕ) (text rest : List ℕ) → IsDateTaken day text rest → AreDates false text (record { completion = None; creation = day; body = rest })
one_date None text rest t = record { spelled = t.spelled; full = t.full; dates = t.missing refl }
one_date (Some n) text rest t = record { spelled = t.spelled; full = t.full; dates = t.valid }

second_date : (first : ℕ) (day : Option ℕ) (text rest body : List ℕ) → IsDateTaken (Some first) text rest → IsDateTaken day rest body
    → AreDates true text (record { completion = Some first; creation = day; body = body })
second_date first None text rest body s t = record { spelled = s.spelled ∙ ap (marked (day_text first)) t.spelled; full = t.full; dates = (s.valid, t.missing refl) }
second_date first (Some n) text rest body s t = record { spelled = s.spelled ∙ ap (marked (day_text first)) t.spelled; full = t.full; dates = (s.valid, t.valid) }

-- the dates of a done line, of which the first is this one
abbrev pub two_dates_of : Option ℕ → List ℕ → Dated
two_dates_of None text = record { completion = None; creation = None; body = text }
two_dates_of (Some first) text =
    let second = mark_of day_of (after_word text) in
    record { completion = Some first; creation = second; body = past (is_some second) (after_word text) }

two_dates : (day : Option ℕ) (text : List ℕ) → is_blank text ≡ false → mark_of day_of text ≡ day → AreDates true text (two_dates_of day text)
two_dates None text full is = let t = date_when None text full is in record { spelled = t.spelled; full = t.full; dates = t.missing refl }
two_dates (Some first) text full is =
    let s = date_when (Some first) text full is in
    second_date first (mark_of day_of (after_word text)) text (after_word text) _ s (date_when (mark_of day_of (after_word text)) (after_word text) s.full refl)

two_same : (day : Option ℕ) (text : List ℕ) → mark_of day_of text ≡ day → dates_of true text ≡ two_dates_of day text
two_same None text is = rw is refl
two_same (Some first) text is = rw is refl

dates_when : (done : Bool) (text : List ℕ) → is_blank text ≡ false → AreDates done text (dates_of done text)
dates_when false text full = one_date (mark_of day_of text) text (past (is_some (mark_of day_of text)) text) (date_when (mark_of day_of text) text full refl)
dates_when true text full = subst (AreDates true text) (sym (two_same (mark_of day_of text) text refl)) (two_dates (mark_of day_of text) text full refl)

-- ---- the whole line

-- what is left of a text without line feeds has none
free_rest : (b : ℕ) (front rest : List ℕ) → is_free_of b (front ++ rest) ≡ true → is_free_of b rest ≡ true
free_rest b [] rest free = free
free_rest b (c ∷ cs) rest free = free_rest b cs rest (and_parts (not (c == b)) (is_free_of b (cs ++ rest)) free).1

free_marked : (word rest : List ℕ) → is_free_of 10 (marked word rest) ≡ true → is_free_of 10 rest ≡ true
free_marked word rest free = free_rest 10 word (32 ∷ rest) free

free_done : (d : Bool) (rest : List ℕ) → is_free_of 10 (with_done d rest) ≡ true → is_free_of 10 rest ≡ true
free_done true rest free = free_marked done_word rest free
free_done false rest free = free

free_priority : (p : Option ℕ) (rest : List ℕ) → is_free_of 10 (with_priority p rest) ≡ true → is_free_of 10 rest ≡ true
free_priority (Some p) rest free = free_marked (priority_word p) rest free
free_priority None rest free = free

free_date : (d : Option ℕ) (rest : List ℕ) → is_free_of 10 (with_date d rest) ≡ true → is_free_of 10 rest ≡ true
free_date (Some d) rest free = free_marked (day_text d) rest free
free_date None rest free = free

free_body : (l : LineParts) → is_free_of 10 (spell l) ≡ true → is_free_of 10 l.body ≡ true
free_body l free = free_date l.creation l.body (free_date l.completion (with_date l.creation l.body) (free_priority l.priority (dated l) (free_done l.done (with_priority l.priority (dated l)) free)))

-- what the three steps of reading take is the spelling
whole : (l : LineParts) (text after_done after_priority : List ℕ) → text ≡ with_done l.done after_done → after_done ≡ with_priority l.priority after_priority
    → after_priority ≡ dated l → text ≡ spell l
whole l text after_done after_priority first second third = first ∙ ap (with_done l.done) (second ∙ ap (with_priority l.priority) third)

-- with no priority the dates come first
dated_first : (l : LineParts) (after_done after_priority : List ℕ) → after_done ≡ with_priority l.priority after_priority → after_priority ≡ dated l → l.priority ≡ None → dated l ≡ after_done
dated_first l after_done after_priority second third none = sym third ∙ sym (second ∙ ap (λ p. with_priority p after_priority) none)

line_when : (l : LineParts) (text after_done after_priority : List ℕ) → IsDoneTaken l.done text after_done → IsPriorityTaken l.priority after_done after_priority
    → AreDates l.done after_priority (record { completion = l.completion; creation = l.creation; body = l.body }) → is_free_of 10 text ≡ true → IsLine l × (text ≡ spell l)
line_when l text after_done after_priority d p t free =
    let is = whole l text after_done after_priority d.spelled p.spelled t.spelled in (
      record {
        done = λ e b. d.missing e (subst (Begins IsDoneMark) (sym is) b);
        letter = p.valid;
        priority = λ none b. p.missing none (subst (Begins IsPriorityMark) (dated_first l after_done after_priority p.spelled t.spelled none) b);
        dates = t.dates;
        body = t.full;
        one_line = free_body l (ap (is_free_of 10) (sym is) ∙ free);
      },
      is,
    )

pub line_spelled : (text : List ℕ) → is_blank text ≡ false → is_free_of 10 text ≡ true → IsLine (line_of text) × (text ≡ spell (line_of text))
unfolding line_of
line_spelled text full free =
    let d = done_when (is_done text) text full refl in
    let rest = past (is_done text) text in
    let p = priority_when (mark_of letter_of rest) rest d.full refl in
    let t = dates_when (is_done text) (past (is_some (mark_of letter_of rest)) rest) p.full in
    line_when (line_of text) text rest (past (is_some (mark_of letter_of rest)) rest) d p t free

read_from : (blank : Bool) (l k : LineParts) → cond {A = Result LineParts LineFault} blank (Err EmptyLine) (Ok k) ≡ Ok l → (blank ≡ false) × (k ≡ l)
read_from true l k h = absurd (cc h)
read_from false l k h = (refl, cc)

-- what is read is spelled so
pub spelled_when_read : (text : List ℕ) (l : LineParts) → is_free_of 10 text ≡ true → read_of text ≡ Ok l → IsLine l × (text ≡ spell l)
spelled_when_read text l free h =
    let read = read_from (is_blank text) l (line_of text) h in
    subst (λ k. IsLine k × (text ≡ spell k)) read.1 (line_spelled text read.0 free)

-- a line's text has no line feed
pub free_append : (b : ℕ) (front rest : List ℕ) → is_free_of b front ≡ true → is_free_of b rest ≡ true → is_free_of b (front ++ rest) ≡ true
free_append b [] rest free free' = free'
free_append b (c ∷ cs) rest free free' =
    let parts = and_parts (not (c == b)) (is_free_of b cs) free in
    and_from (not (c == b)) (is_free_of b (cs ++ rest)) parts.0 (free_append b cs rest parts.1 free')

date_free : (d : Option ℕ) (rest : List ℕ) → is_free_of 10 rest ≡ true → is_free_of 10 (with_date d rest) ≡ true
date_free None rest free = free
date_free (Some d) rest free = free_append 10 (day_text d) (32 ∷ rest) (day_free d 10 (omega arith)) free

priority_free : (p : Option ℕ) (rest : List ℕ) → IfSome p IsLetter → is_free_of 10 rest ≡ true → is_free_of 10 (with_priority p rest) ≡ true
priority_free None rest is free = free
priority_free (Some p) rest is free =
    let other : (p == 10) ≡ false = ne_eqb p 10 (λ e. omega (arith, is.0)) in
    rw other free

done_free : (d : Bool) (rest : List ℕ) → is_free_of 10 rest ≡ true → is_free_of 10 (with_done d rest) ≡ true
done_free true rest free = free
done_free false rest free = free

pub free_line : (l : LineParts) → IsLine l → is_free_of 10 (spell l) ≡ true
free_line l is = done_free l.done _ (priority_free l.priority _ is.letter (date_free l.completion _ (date_free l.creation _ is.one_line)))

pub line_of-spell : (l : LineParts) → IsLine l → line_of (spell l) ≡ l
line_of-spell l is =
    let read = line_spelled (spell l) (full_line l is) (free_line l is) in
    spelled_once (line_of (spell l)) l read.0 is (sym read.1)

read_full : (blank : Bool) (l k : LineParts) → blank ≡ false → k ≡ l → cond {A = Result LineParts LineFault} blank (Err EmptyLine) (Ok k) ≡ Ok l
read_full true l k full is = absurd (true≢false full)
read_full false l k full is = ap (λ k. Ok k) is

-- the spelling of a line is read as that line
pub read_when_spelled : (l : LineParts) → IsLine l → read_of (spell l) ≡ Ok l
read_when_spelled l is = read_full (is_blank (spell l)) l (line_of (spell l)) (full_line l is) (line_of-spell l is)
