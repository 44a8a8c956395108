-- What shows a task is a line.
use Rattle.std.proofs.Common.{◌≡◌, ◌∙◌, ℕ, zero, suc, ◌+◌, ◌-◌, ◌/◌, ◌||◌, ◌==◌, Bool, true, false, nat_lt, nat_le, List, [], ◌∷◌, ◌++◌, map, Option, Some, None, IfSome, Ok, cond, codes, encode_utf8, refl, sym, inl, inr, arith, true≢false}
use Rattle.std.proofs.lemmas.Bool.{or_parts, cases_Bool, ne_eqb, le-leb}
use Rattle.std.proofs.lemmas.List.{append-nil}
use Rattle.std.proofs.lemmas.Str.{inside_one}
use Rattle.std.specs.List.{list_any}
use Rattle.std.specs.Str.{chars, encode_utf8_all}
use Rattle.std.specs.Int.{to_be_bytes, w128}
use Rattle.uuid.specs.Text.{by_index, hex_digit, is_hyphen_place, nibble, digit_place}
use Rattle.tb_task.specs.Checks.{checked, fault_of, refused, is_empty, is_bad_tag}
use Rattle.tb_task.specs.declared.checks.Field.{Field}
use Rattle.tb_task.specs.declared.checks.Field.TheVariants.{EmptyDescription, BadTag}
use Rattle.tb_task.specs.Checks.{is_blank as is_tag_blank}
use Rattle.tb_task.specs.TaskId.{id_text}
use Rattle.tb_task.specs.declared.task.Task.{Task}
use Rattle.tb_todotxt.specs.Day.{day_text, IsDay}
use Rattle.tb_todotxt.specs.Letter.{priority_word, IsLetter}
use Rattle.tb_todotxt.specs.Line.{IsLine, Begins, IsDoneMark, IsPriorityMark, marked, with_priority, done_word, is_blank, is_free_of}
use Rattle.tb_todotxt.specs.Showing.{shown_char, shown_text, project_text, tags_text, due_text, body_of, parts_of}
use Rattle.tb_todotxt.proofs.FirstWords.{fills, free_from, first_marked}
use Rattle.tb_todotxt.proofs.Spelling.{day_free, done_words, priority_words, date_words}
use Rattle.tb_todotxt.proofs.Readings.{begun, free_append}

-- ---- the body has no line feed

free_encode : (c : ℕ) → (c ≡ 10 → ⊥) → is_free_of 10 (encode_utf8 c) ≡ true
free_encode c other =
    free_from (encode_utf8 c) 10 (λ i within e. other (inside_one c [] (encode_utf8 c) i (sym (append-nil (encode_utf8 c))) within (omega (arith, e)) ∙ e))

free_encodes : (cs : List ℕ) (f : ℕ → ℕ) → ((c : ℕ) → f c ≡ 10 → ⊥) → is_free_of 10 (encode_utf8_all (map f cs)) ≡ true
free_encodes [] f other = refl
free_encodes (c ∷ cs) f other = free_append 10 (encode_utf8 (f c)) (encode_utf8_all (map f cs)) (free_encode (f c) (other c)) (free_encodes cs f other)

shown_other : (instead c : ℕ) → (instead ≡ 10 → ⊥) → shown_char instead c ≡ 10 → ⊥
shown_other instead c other e =
    elim (cases_Bool (nat_le c 32 || (c == 127))) [
      | inl h ↦ other (rw h at e)
      | inr h ↦
          let is : c ≡ 10 = rw h at e in
          true≢false (sym (le-leb c 32 (omega (arith, is))) ∙ (or_parts (nat_le c 32) (c == 127) h).0)
    ]

free_shown : (instead : ℕ) (text : List ℕ) → (instead ≡ 10 → ⊥) → is_free_of 10 (shown_text instead text) ≡ true
unfolding shown_text
free_shown instead text other = free_encodes (chars text) (shown_char instead) (λ c. shown_other instead c other)

free_project : (project : Option (List ℕ)) → is_free_of 10 (project_text project) ≡ true
free_project None = refl
free_project (Some project) = free_append 10 (codes " +") (shown_text 95 project) refl (free_shown 95 project (λ e. omega arith))

free_tag : (tag : List ℕ) → list_any is_tag_blank tag ≡ false → is_free_of 10 tag ≡ true
unfolding is_tag_blank
free_tag [] h = refl
free_tag (c ∷ cs) h =
    let parts = or_parts ((c == 32) || (c == 9) || (c == 10) || (c == 13)) (list_any is_tag_blank cs) h in
    let first = or_parts ((c == 32) || (c == 9) || (c == 10)) (c == 13) parts.0 in
    let second = or_parts ((c == 32) || (c == 9)) (c == 10) first.0 in
    rw second.1 (free_tag cs parts.1)

free_tags : (tags : List (List ℕ)) → list_any is_bad_tag tags ≡ false → is_free_of 10 (tags_text tags) ≡ true
unfolding is_bad_tag
free_tags [] h = refl
free_tags (tag ∷ tags) h =
    let parts = or_parts (is_empty tag || list_any is_tag_blank tag) (list_any is_bad_tag tags) h in
    let own = or_parts (is_empty tag) (list_any is_tag_blank tag) parts.0 in
    free_append 10 (codes " @" ++ tag) (tags_text tags) (free_append 10 (codes " @") tag refl (free_tag tag own.1)) (free_tags tags parts.1)

free_due : (due : Option ℕ) → is_free_of 10 (due_text due) ≡ true
free_due None = refl
free_due (Some due) = free_append 10 (codes " due:") (day_text (due / 86400)) refl (day_free (due / 86400) 10 (omega arith))

free_by_index : (n : ℕ) (f : ℕ → ℕ) → ((k : ℕ) → f k ≡ 10 → ⊥) → is_free_of 10 (by_index n f) ≡ true
unfolding by_index
free_by_index zero f other = refl
free_by_index (suc n) f other =
    let last : (f n == 10) ≡ false = ne_eqb (f n) 10 (other n) in
    free_append 10 (by_index n f) (f n ∷ []) (free_by_index n f other) (rw last refl)

digit_other : (d : ℕ) → hex_digit 97 d ≡ 10 → ⊥
digit_other d e = elim (cases_Bool (nat_lt d 10)) [ inl h ↦ let is : 48 + d ≡ 10 = rw h at e in omega (arith, is) | inr h ↦ let is : 97 + d - 10 ≡ 10 = rw h at e in omega (arith, is) ]

place_other : (hyphen : Bool) (d : ℕ) → cond hyphen 45 (hex_digit 97 d) ≡ 10 → ⊥
place_other true d e = omega (arith, e)
place_other false d e = digit_other d e

free_id : (id : ℕ) → is_free_of 10 (id_text id) ≡ true
free_id id = free_by_index 36 _ (λ k. place_other (is_hyphen_place k) (nibble (to_be_bytes w128 id) (digit_place k)))

-- a task that a board takes has no bad tag
refusal : (empty bad : Bool) (rest : Option Field) → refused (cond empty (Some EmptyDescription) (cond bad (Some BadTag) rest)) ≡ Ok tt → bad ≡ false
refusal true bad rest h = absurd (cc h)
refusal false true rest h = absurd (cc h)
refusal false false rest h = refl

good_tags : (t : Task) → checked t ≡ Ok tt → list_any is_bad_tag t.tags ≡ false
unfolding fault_of
good_tags t h = refusal (is_empty t.description) (list_any is_bad_tag t.tags) _ h

pub free_body_of : (t : Task) → checked t ≡ Ok tt → is_free_of 10 (body_of t) ≡ true
free_body_of t h =
    free_append 10 (shown_text 32 t.description ++ project_text t.project ++ tags_text t.tags ++ due_text t.due ++ codes " uuid:") (id_text t.id)
    (free_append 10 (shown_text 32 t.description ++ project_text t.project ++ tags_text t.tags ++ due_text t.due) (codes " uuid:")
    (free_append 10 (shown_text 32 t.description ++ project_text t.project ++ tags_text t.tags) (due_text t.due)
    (free_append 10 (shown_text 32 t.description ++ project_text t.project) (tags_text t.tags)
    (free_append 10 (shown_text 32 t.description) (project_text t.project) (free_shown 32 t.description (λ e. omega arith)) (free_project t.project))
    (free_tags t.tags (good_tags t h)))
    (free_due t.due))
    refl)
    (free_id t.id)

-- ---- and it isn't blank

full_front : (front rest : List ℕ) → is_blank front ≡ false → is_blank (front ++ rest) ≡ false
full_front [] rest full = absurd (true≢false full)
full_front (b ∷ bs) rest full =
    elim (cases_Bool ((b == 32) || (b == 9))) [
      | inl blank ↦ rw blank (full_front bs rest (rw blank at full))
      | inr word ↦ rw word refl
    ]

pub full_body_of : (t : Task) → is_blank (body_of t) ≡ false
full_body_of t =
    full_front (shown_text 32 t.description ++ project_text t.project ++ tags_text t.tags ++ due_text t.due ++ codes " uuid:") (id_text t.id)
    (fills (shown_text 32 t.description ++ project_text t.project ++ tags_text t.tags ++ due_text t.due) (codes " uuid:") refl)

-- ---- the marks

not_done : (n : ℕ) → day_text n ≡ done_word → ⊥
unfolding day_text
not_done n e = absurd (cc e)

not_priority : (n letter : ℕ) → day_text n ≡ priority_word letter → ⊥
unfolding day_text
not_priority n letter e = absurd (cc e)

-- a text that begins with a date begins with no other mark
date_no_done : (n : ℕ) (rest : List ℕ) → IsDay n → Begins IsDoneMark (marked (day_text n) rest) → ⊥
date_no_done n rest day b =
    not_done n (sym (first_marked (day_text n) rest (date_words (day_text n) (n, day, refl))).0 ∙ (begun IsDoneMark done_words (marked (day_text n) rest) b).mark)

date_no_priority : (n : ℕ) (rest : List ℕ) → IsDay n → Begins IsPriorityMark (marked (day_text n) rest) → ⊥
date_no_priority n rest day b =
    let mark = (begun IsPriorityMark priority_words (marked (day_text n) rest) b).mark in
    not_priority n mark.0 (sym (first_marked (day_text n) rest (date_words (day_text n) (n, day, refl))).0 ∙ mark.2)

-- of a priority and a date, neither is the mark of a line that is done
no_done : (letter : Option ℕ) (n : ℕ) (rest : List ℕ) → IfSome letter IsLetter → IsDay n → Begins IsDoneMark (with_priority letter (marked (day_text n) rest)) → ⊥
no_done None n rest is day b = date_no_done n rest day b
no_done (Some letter) n rest is day b =
    let first = (first_marked (priority_word letter) (marked (day_text n) rest) (priority_words (priority_word letter) (letter, is, refl))).0 in
    let same : priority_word letter ≡ done_word = sym first ∙ (begun IsDoneMark done_words (marked (priority_word letter) (marked (day_text n) rest)) b).mark in
    absurd (cc)

pub shown_line : (done : Bool) (t : Task) → checked t ≡ Ok tt → IfSome (parts_of done t).priority IsLetter → IfSome (parts_of done t).completion IsDay → IsDay (t.entry / 86400) → IsLine (parts_of done t)
shown_line false t h letter completed created =
    record {
      done = λ _ b. no_done (parts_of false t).priority (t.entry / 86400) (body_of t) letter created b;
      letter = letter;
      priority = λ _ b. date_no_priority (t.entry / 86400) (body_of t) created b;
      dates = created;
      body = full_body_of t;
      one_line = free_body_of t h;
    }
shown_line true t h letter completed created =
    record {
      done = λ e. absurd (true≢false e);
      letter = letter;
      priority = λ _ b. date_no_priority _ (marked (day_text (t.entry / 86400)) (body_of t)) completed b;
      dates = (completed, created);
      body = full_body_of t;
      one_line = free_body_of t h;
    }
