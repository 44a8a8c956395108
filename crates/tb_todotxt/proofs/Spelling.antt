-- A line has one spelling.
use Rattle.std.proofs.Common.{◌≡◌, ◌∙◌, ℕ, ◌/◌, ◌%◌, ◌+◌, ◌<◌, Bool, true, false, List, ◌∷◌, ◌==◌, Option, Some, None, IfSome, ap, sym, subst, refl, arith}
use Rattle.std.proofs.lemmas.Bool.{ne_eqb}
use Rattle.tb_task.specs.Civil.{date_of}
use Rattle.tb_todotxt.specs.declared.line.LineParts.{LineParts}
use Rattle.tb_todotxt.specs.Day.{day_text, IsDay, day_of}
use Rattle.tb_todotxt.specs.Letter.{priority_word, IsLetter}
use Rattle.tb_todotxt.specs.Line.{IsLine, HasDates, Begins, IsDoneMark, IsPriorityMark, IsDateMark, spell, dated, with_done, with_priority, with_date, done_word, is_blank, is_free_of}
use Rattle.tb_todotxt.proofs.DayTexts.{read_day}
use Rattle.tb_todotxt.proofs.FirstWords.{fills, same_words}

-- marks of this kind have no space in them
abbrev pub AreWords : (List ℕ → Type 0) → Type 0
AreWords IsMark = (word : List ℕ) → IsMark word → is_free_of 32 word ≡ true

pub done_words : AreWords IsDoneMark
done_words word is = rw is refl

pub priority_words : AreWords IsPriorityMark
priority_words word is =
    let other : (is.0 == 32) ≡ false = ne_eqb is.0 32 (λ e. omega (arith, is.1.0)) in
    rw (is.2, other) refl

-- no byte of a day's text is one below the hyphen
pub day_free : (n b : ℕ) → b < 45 → is_free_of b (day_text n) ≡ true
unfolding day_text
day_free n b low =
    let d = date_of n in
    let hyphen : (45 == b) ≡ false = ne_eqb 45 b (λ e. omega arith) in
    let digit : (k : ℕ) → (48 + k == b) ≡ false = λ k. ne_eqb (48 + k) b (λ e. omega arith) in
    rw (hyphen, digit (d.year / 100 / 10), digit (d.year / 100 % 10), digit (d.year % 100 / 10), digit (d.year % 100 % 10), digit (d.month / 10), digit (d.month % 10), digit (d.day / 10), digit (d.day % 10)) refl

pub date_words : AreWords IsDateMark
date_words word is = ap (is_free_of 32) is.2 ∙ day_free is.0 32 (omega arith)

-- a day has one text
pub day_text_injective : (a b : ℕ) → IsDay a → IsDay b → day_text a ≡ day_text b → a ≡ b
day_text_injective a b p q e = let same : Some a ≡ Some b = sym (read_day a p) ∙ ap day_of e ∙ read_day b q in cc

-- what follows a mark isn't blank, so the text isn't
pub full_done : (d : Bool) (rest : List ℕ) → is_blank rest ≡ false → is_blank (with_done d rest) ≡ false
full_done false rest full = full
full_done true rest full = fills done_word (32 ∷ rest) full

pub full_priority : (p : Option ℕ) (rest : List ℕ) → is_blank rest ≡ false → is_blank (with_priority p rest) ≡ false
full_priority None rest full = full
full_priority (Some letter) rest full = fills (priority_word letter) (32 ∷ rest) full

pub full_date : (d : Option ℕ) (rest : List ℕ) → is_blank rest ≡ false → is_blank (with_date d rest) ≡ false
full_date None rest full = full
full_date (Some d) rest full = fills (day_text d) (32 ∷ rest) full

-- one mark at a time: the same mark, and the same rest
pub same_done : (x y : Bool) (r s : List ℕ) → is_blank r ≡ false → is_blank s ≡ false
    → (x ≡ false → Begins IsDoneMark (with_done x r) → ⊥) → (y ≡ false → Begins IsDoneMark (with_done y s) → ⊥)
    → with_done x r ≡ with_done y s → (x ≡ y) × (r ≡ s)
same_done true true r s full full' none none' e = (refl, cc)
same_done true false r s full full' none none' e = absurd (none' refl (done_word, r, refl, sym e, full))
same_done false true r s full full' none none' e = absurd (none refl (done_word, s, refl, e, full'))
same_done false false r s full full' none none' e = (refl, e)

pub same_priority : (x y : Option ℕ) (r s : List ℕ) → is_blank r ≡ false → is_blank s ≡ false → IfSome x IsLetter → IfSome y IsLetter
    → (x ≡ None → Begins IsPriorityMark r → ⊥) → (y ≡ None → Begins IsPriorityMark s → ⊥)
    → with_priority x r ≡ with_priority y s → (x ≡ y) × (r ≡ s)
same_priority (Some p) (Some q) r s full full' letter letter' none none' e = let same : p ≡ q = cc in (cc, cc)
same_priority (Some p) None r s full full' letter letter' none none' e = absurd (none' refl (priority_word p, r, (p, letter, refl), sym e, full))
same_priority None (Some q) r s full full' letter letter' none none' e = absurd (none refl (priority_word q, s, (q, letter', refl), e, full'))
same_priority None None r s full full' letter letter' none none' e = (refl, e)

pub same_mark : (x y : Option ℕ) (r s : List ℕ) → is_blank r ≡ false → is_blank s ≡ false → IfSome x IsDay → IfSome y IsDay
    → (x ≡ None → Begins IsDateMark r → ⊥) → (y ≡ None → Begins IsDateMark s → ⊥)
    → with_date x r ≡ with_date y s → (x ≡ y) × (r ≡ s)
same_mark (Some d) (Some f) r s full full' day day' none none' e =
    let same = same_words (day_text d) (day_text f) r s (date_words (day_text d) (d, day, refl)) (date_words (day_text f) (f, day', refl)) e in
    (ap (λ x. Some x) (day_text_injective d f day day' same.0), same.1)
same_mark (Some d) None r s full full' day day' none none' e = absurd (none' refl (day_text d, r, (d, day, refl), sym e, full))
same_mark None (Some f) r s full full' day day' none none' e = absurd (none refl (day_text f, s, (f, day', refl), e, full'))
same_mark None None r s full full' day day' none none' e = (refl, e)

-- what `HasDates` says of the last date that may stand there
open_day : (k : Option ℕ) (body : List ℕ) → HasDates false None k body → IfSome k IsDay
open_day None body h = tt
open_day (Some d) body h = h

open_missing : (k : Option ℕ) (body : List ℕ) → HasDates false None k body → k ≡ None → Begins IsDateMark body → ⊥
open_missing None body h e = h
open_missing (Some d) body h e = absurd (cc)

first_day : (c : ℕ) (k : Option ℕ) (body : List ℕ) → HasDates true (Some c) k body → IsDay c
first_day c None body h = h.0
first_day c (Some d) body h = h.0

second_day : (c : ℕ) (k : Option ℕ) (body : List ℕ) → HasDates true (Some c) k body → IfSome k IsDay
second_day c None body h = tt
second_day c (Some d) body h = h.1

second_missing : (c : ℕ) (k : Option ℕ) (body : List ℕ) → HasDates true (Some c) k body → k ≡ None → Begins IsDateMark body → ⊥
second_missing c None body h e = h.1
second_missing c (Some d) body h e = absurd (cc)

some_none : (d : ℕ) → Some d ≡ None → ⊥
some_none d e = absurd (cc)

pub same_dates : (done : Bool) (c k c' k' : Option ℕ) (body body' : List ℕ) → is_blank body ≡ false → is_blank body' ≡ false
    → HasDates done c k body → HasDates done c' k' body' → with_date c (with_date k body) ≡ with_date c' (with_date k' body')
    → (c ≡ c') × (k ≡ k') × (body ≡ body')
same_dates false (Some c) k c' k' body body' full full' h h' e = absurd h
same_dates false None k (Some c') k' body body' full full' h h' e = absurd h'
same_dates false None k None k' body body' full full' h h' e =
    let same = same_mark k k' body body' full full' (open_day k body h) (open_day k' body' h') (open_missing k body h) (open_missing k' body' h') e in
    (refl, same.0, same.1)
same_dates true None (Some k) c' k' body body' full full' h h' e = absurd h
same_dates true c k None (Some k') body body' full full' h h' e = absurd h'
same_dates true None None None None body body' full full' h h' e = (refl, refl, e)
same_dates true None None (Some c') k' body body' full full' h h' e =
    absurd (h (day_text c', with_date k' body', (c', first_day c' k' body' h', refl), e, full_date k' body' full'))
same_dates true (Some c) k None None body body' full full' h h' e =
    absurd (h' (day_text c, with_date k body, (c, first_day c k body h, refl), sym e, full_date k body full))
same_dates true (Some c) k (Some c') k' body body' full full' h h' e =
    let first = same_mark (Some c) (Some c') (with_date k body) (with_date k' body') (full_date k body full) (full_date k' body' full')
    (first_day c k body h) (first_day c' k' body' h') (λ n. absurd (some_none c n)) (λ n. absurd (some_none c' n)) e in
    let second = same_mark k k' body body' full full' (second_day c k body h) (second_day c' k' body' h') (second_missing c k body h) (second_missing c' k' body' h') first.1 in
    (first.0, second.0, second.1)

pub full_dated : (l : LineParts) → IsLine l → is_blank (dated l) ≡ false
full_dated l is = full_date l.completion (with_date l.creation l.body) (full_date l.creation l.body is.body)

pub full_line : (l : LineParts) → IsLine l → is_blank (spell l) ≡ false
full_line l is = full_done l.done (with_priority l.priority (dated l)) (full_priority l.priority (dated l) (full_dated l is))

-- no two lines are spelled alike
pub spelled_once : (a b : LineParts) → IsLine a → IsLine b → spell a ≡ spell b → a ≡ b
spelled_once a b la lb e =
    let full = full_dated a la in
    let full' = full_dated b lb in
    let first = same_done a.done b.done (with_priority a.priority (dated a)) (with_priority b.priority (dated b))
    (full_priority a.priority (dated a) full) (full_priority b.priority (dated b) full') la.done lb.done e in
    let second = same_priority a.priority b.priority (dated a) (dated b) full full' la.letter lb.letter la.priority lb.priority first.1 in
    let third = same_dates b.done a.completion a.creation b.completion b.creation a.body b.body la.body lb.body
    (subst (λ d. HasDates d a.completion a.creation a.body) first.0 la.dates) lb.dates second.1 in
    λ i. record { done = first.0 i; priority = second.0 i; completion = third.0 i; creation = third.1 i; body = third.2 i }
