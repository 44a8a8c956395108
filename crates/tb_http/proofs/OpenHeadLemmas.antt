-- A head that is judged line by line.
use Rattle.std.proofs.Common.{◌≡◌, ◌≢◌, ℕ, ◌+◌, ◌-◌, ◌<◌, ◌≤◌, ◌⊎◌, Bool, List, [], ◌∷◌, ◌++◌, length, take, drop, get_or, slice_range, refl, sym, ap, ◌∙◌, subst, arith, append_assoc, append-nil, inl, inr, true, false}
use Rattle.std.specs.Prelude.{IsTrue, codes}
use Rattle.std.specs.List.{flat_map}
use Rattle.std.proofs.lemmas.List.{length-append, length-drop, length-take-le, take-append-drop, take-append-le, take_more, get_or-drop, get_or-take, get_or_append_left}
use Rattle.std.proofs.lemmas.Bool.{cases_lt}
use Rattle.std.proofs.Math.Seq.{take-append-add}
use Rattle.std.proofs.lemmas.List.Elements.{All-head, All-tail, All-append, All-cons, All-nil, All-weaker, All-from_get_or, All-from_recursion}
use Rattle.httparse.specs.Grammar.{is_value_byte, is_token_byte, IsToken, Field, IsField, print_field, print_end, print_blank, print_version, print_section, LineEnd, crlf, lf, RequestHead, IsRequestHead, ReadsRequest, ReadsSection, HasNoSection, MayBecomeRequest, MayBecomeSection}
use Rattle.httparse.proofs.GrammarLemmas.{cons-append, print_request-append}
use Rattle.tb_http.specs.declared.open_head.OpenHead.{OpenHead}
use Rattle.tb_http.specs.Head.{HasBadLine}
use Rattle.tb_http.specs.OpenHead.{HasNoFeed, IsLine, IsOpenHead, Leads, ReadsOn}
use Rattle.tb_http.specs.Wire.{IsOpen}
use Rattle.tb_http.proofs.HeadLemmas.{All-line-feed, head_has_no_bad_line, line_feed_in_front, no_bad_line_up_to, no_line_feed, not_in_target, not_in_token, short_request, short_request_reads}
use Rattle.tb_http.proofs.WireLemmas.{bad_line_more}

abbrev NotFeed : ℕ → Type 0
NotFeed b = b ≢ 10

-- ---- texts and their first line feed

first_line : (a b c d : List ℕ) → HasNoFeed a → HasNoFeed c → a ++ 10 ∷ b ≡ c ++ 10 ∷ d → (a ≡ c) × (b ≡ d)
first_line [] b [] d na nc same = (refl, cc)
first_line [] b (y ∷ c) d na nc same = absurd (All-head NotFeed y c nc (cc))
first_line (x ∷ a) b [] d na nc same = absurd (All-head NotFeed x a na (cc))
first_line (x ∷ a) b (y ∷ c) d na nc same =
    let tail : a ++ 10 ∷ b ≡ c ++ 10 ∷ d = cc in
    let both = first_line a b c d (All-tail NotFeed x a na) (All-tail NotFeed y c nc) tail in
    (cc, both.1)

-- a word and the end of a line are a line
ended : (word : List ℕ) (end : LineEnd) → HasNoFeed word → IsLine (word ++ print_end end)
ended word lf none = record { word = word; ends = refl; one = none }
ended word crlf none = record {
  word = word ++ 13 ∷ [];
  ends = sym (append_assoc word (13 ∷ []) (10 ∷ []));
  one = All-append NotFeed word (13 ∷ []) none (All-cons NotFeed 13 [] (λ e. cc) (All-nil NotFeed));
}

-- a line at the front of a word and the end of a line is both
cut : (line bytes word more : List ℕ) (end : LineEnd) → IsLine line → HasNoFeed word → line ++ bytes ≡ word ++ (print_end end ++ more)
    → (line ≡ word ++ print_end end) × (bytes ≡ more)
cut line bytes word more end is none same =
    let other = ended word end none in
    let left : line ++ bytes ≡ is.word ++ 10 ∷ bytes = ap (λ l. l ++ bytes) is.ends ∙ append_assoc is.word (10 ∷ []) bytes in
    let right : word ++ (print_end end ++ more) ≡ other.word ++ 10 ∷ more =
    sym (append_assoc word (print_end end) more) ∙ ap (λ l. l ++ more) other.ends ∙ append_assoc other.word (10 ∷ []) more in
    let both = first_line is.word bytes other.word more is.one other.one (sym left ∙ same ∙ right) in
    (is.ends ∙ ap (λ w. w ++ 10 ∷ []) both.0 ∙ sym other.ends, both.1)

-- the end of a line stands in no text without a line feed
no_end_in : (front more word : List ℕ) (end : LineEnd) → word ≡ front ++ (print_end end ++ more) → HasNoFeed word → ⊥
no_end_in front more word lf same none = All-line-feed front more word (sym same) none
no_end_in front more word crlf same none = All-line-feed (front ++ 13 ∷ []) more word (append_assoc front (13 ∷ []) (10 ∷ more) ∙ sym same) none

-- ---- fields

not_in_value : (b : ℕ) → IsTrue (is_value_byte b) → b ≢ 10
not_in_value b pass is = let P : ℕ → Type 0 = λ x. IsTrue (is_value_byte x) in let e : false ≡ true = subst P is pass in cc

abbrev field_word : Field → List ℕ
field_word f = f.name ++ 58 ∷ f.raw

field_word_none : (f : Field) → IsField f → HasNoFeed (field_word f)
field_word_none f is =
    All-append NotFeed f.name (58 ∷ f.raw) (All-weaker _ NotFeed not_in_token f.name is.name.1)
    (All-cons NotFeed 58 f.raw (λ e. cc) (All-weaker _ NotFeed not_in_value f.raw is.raw))

field_first : (name raw end fields last rest : List ℕ)
    → ((((name ++ 58 ∷ raw) ++ end) ++ fields) ++ last) ++ rest ≡ (name ++ 58 ∷ raw) ++ (end ++ ((fields ++ last) ++ rest))
field_first name raw end fields last rest = simp (append_assoc, cons-append)

-- the line at the front of a section ends it or is a field
first_of_section : (line bytes : List ℕ) (fields : List Field) (last : LineEnd) (rest : List ℕ) → IsLine line → ReadsSection (line ++ bytes) fields last rest
    → (line ≡ print_end last) ⊎ ((f : Field) × (behind : List Field) × IsField f × (line ≡ print_field f) × ReadsSection bytes behind last rest)
first_of_section line bytes [] last rest is reads = inl (cut line bytes [] rest last is (All-nil NotFeed) reads.1).0
first_of_section line bytes (f ∷ fields) last rest is reads =
    let valid = All-head IsField f fields reads.0 in
    let shape = field_first f.name f.raw (print_end f.end) (flat_map print_field fields) (print_end last) rest in
    let both = cut line bytes (field_word f) (print_section fields last ++ rest) f.end is (field_word_none f valid) (reads.1 ∙ shape) in
    inr (f, fields, valid, both.0, (All-tail IsField f fields reads.0, both.1))

-- a line that may become a section, and is none, is a field
field_of : (line : List ℕ) → IsLine line → HasNoSection line → MayBecomeSection line → (f : Field) × IsField f × (line ≡ print_field f)
field_of line is none may =
    elim (first_of_section line may.0 may.1 may.2 [] is may.3) [
      | inl ends ↦ absurd (none [] may.2 [] (All-nil IsField, ends ∙ sym (append-nil (print_end may.2))))
      | inr found ↦ (found.0, found.2, found.3)
    ]

grouped : (a b c d : List ℕ) → a ++ ((b ++ c) ++ d) ≡ ((a ++ b) ++ c) ++ d
grouped a b c d = simp append_assoc

pub field_leads : (line : List ℕ) → IsLine line → HasNoSection line → MayBecomeSection line → Leads true true line
field_leads line is none may =
    let here = field_of line is none may in
    record {
      forth = λ bytes rest reads.
          elim (first_of_section line bytes reads.0 reads.1 rest is reads.2) [
            | inl ends ↦ absurd (none [] reads.1 [] (All-nil IsField, ends ∙ sym (append-nil (print_end reads.1))))
            | inr found ↦ (found.1, reads.1, found.4)
          ];
      back = λ bytes rest reads. (
        here.0 ∷ reads.0,
        reads.1,
        (
          All-cons IsField here.0 reads.0 here.1 reads.2.0,
          ap (λ l. l ++ bytes) here.2 ∙ ap (λ b. print_field here.0 ++ b) reads.2.1
              ∙ grouped (print_field here.0) (flat_map print_field reads.0) (print_end reads.1) rest,
        ),
      );
    }

-- ---- request lines

abbrev request_word : RequestHead → List ℕ
request_word h = h.method ++ 32 ∷ (h.target ++ 32 ∷ print_version h.minor)

-- what is behind the empty lines
abbrev behind_blank : RequestHead → List ℕ → List ℕ
behind_blank h rest = h.method ++ 32 ∷ (h.target ++ 32 ∷ (print_version h.minor ++ (print_end h.line_end ++ (print_section h.fields h.last ++ rest))))

version_none : (minor : ℕ) → minor ≤ 1 → HasNoFeed (print_version minor)
unfolding lib.Utf8.encode
version_none minor small =
    let text : HasNoFeed (codes "HTTP/1.") =
    All-from_recursion NotFeed (codes "HTTP/1.") ((λ e. cc), ((λ e. cc), ((λ e. cc), ((λ e. cc), ((λ e. cc), ((λ e. cc), ((λ e. cc), tt))))))) in
    All-append NotFeed (codes "HTTP/1.") ((48 + minor) ∷ []) text (All-cons NotFeed (48 + minor) [] (λ e. omega (arith, e)) (All-nil NotFeed))

request_word_none : (h : RequestHead) → IsRequestHead h → HasNoFeed (request_word h)
request_word_none h is =
    All-append NotFeed h.method _ (All-weaker _ NotFeed not_in_token h.method is.method.1)
    (All-cons NotFeed 32 _ (λ e. cc)
    (All-append NotFeed h.target _ (All-weaker _ NotFeed not_in_target h.target is.target.1)
    (All-cons NotFeed 32 (print_version h.minor) (λ e. cc) (version_none h.minor is.minor))))

request_first : (method target version end more : List ℕ)
    → method ++ 32 ∷ (target ++ 32 ∷ (version ++ (end ++ more))) ≡ (method ++ 32 ∷ (target ++ 32 ∷ version)) ++ (end ++ more)
request_first method target version end more = simp (append_assoc, cons-append)

-- the line at the front of a head is empty or the request line
abbrev IsFirst : List ℕ → List ℕ → RequestHead → List ℕ → Type 0
IsFirst line bytes h rest =
    ((end : LineEnd) × (line ≡ print_end end) × ReadsOn false bytes rest)
    ⊎ ((line ≡ request_word h ++ print_end h.line_end) × ReadsSection bytes h.fields h.last rest)

with_blank : (h : RequestHead) (blank : List LineEnd) → IsRequestHead h → IsRequestHead (record h { blank = blank })
with_blank h blank is = record { method = is.method; target = is.target; target_text = is.target_text; minor = is.minor; fields = is.fields }

first_by_blank : (line bytes : List ℕ) (h : RequestHead) (rest : List ℕ) (blank : List LineEnd) → IsLine line → IsRequestHead h
    → line ++ bytes ≡ print_blank blank ++ behind_blank h rest → IsFirst line bytes h rest
first_by_blank line bytes h rest [] is valid same =
    let shape = request_first h.method h.target (print_version h.minor) (print_end h.line_end) (print_section h.fields h.last ++ rest) in
    let both = cut line bytes (request_word h) (print_section h.fields h.last ++ rest) h.line_end is (request_word_none h valid) (same ∙ shape) in
    inr (both.0, (valid.fields, both.1))
first_by_blank line bytes h rest (end ∷ blank) is valid same =
    let shape = append_assoc (print_end end) (print_blank blank) (behind_blank h rest) in
    let both = cut line bytes [] (print_blank blank ++ behind_blank h rest) end is (All-nil NotFeed) (same ∙ shape) in
    let k : RequestHead = record h { blank = blank } in
    inl (end, both.0, (k, (with_blank h blank valid, both.1 ∙ sym (print_request-append k rest))))

first_of_request : (line bytes : List ℕ) (h : RequestHead) (rest : List ℕ) → IsLine line → ReadsRequest (line ++ bytes) h rest → IsFirst line bytes h rest
first_of_request line bytes h rest is reads = first_by_blank line bytes h rest h.blank is reads.0 (reads.1 ∙ print_request-append h rest)

end_short : (end : LineEnd) → length (print_end end) ≤ 2
end_short crlf = omega arith
end_short lf = omega arith

end_some : (end : LineEnd) → 0 < length (print_end end)
end_some crlf = omega arith
end_some lf = omega arith

-- an empty line is no request line
not_both : (line : List ℕ) (end : LineEnd) (h : RequestHead) → IsRequestHead h → line ≡ print_end end → line ≡ request_word h ++ print_end h.line_end → ⊥
not_both line end h valid empty full =
    let sizes = simp length-append at (ap length full) in
    omega (arith, sizes, ap length empty, end_short end, end_some h.line_end, valid.method.0)

pub empty_leads : (line : List ℕ) (end : LineEnd) → IsLine line → line ≡ print_end end → Leads false false line
empty_leads line end is empty = record {
  forth = λ bytes rest reads.
      elim (first_of_request line bytes reads.0 rest is reads.1) [
        | inl found ↦ found.2
        | inr found ↦ absurd (not_both line end reads.0 reads.1.0 empty found.0)
      ];
  back = λ bytes rest reads.
      let k : RequestHead = record reads.0 { blank = end ∷ reads.0.blank } in (
        k,
        (
          with_blank reads.0 (end ∷ reads.0.blank) reads.1.0,
          ap (λ l. l ++ bytes) empty ∙ ap (λ b. print_end end ++ b) (reads.1.1 ∙ print_request-append reads.0 rest)
              ∙ sym (append_assoc (print_end end) (print_blank reads.0.blank) (behind_blank reads.0 rest)) ∙ sym (print_request-append k rest),
        ),
      );
}

-- a line that may become a head, and isn't empty, is a request line
request_line_of : (line : List ℕ) → IsLine line → ((end : LineEnd) → line ≢ print_end end) → MayBecomeRequest line
    → (h : RequestHead) × IsRequestHead h × (line ≡ request_word h ++ print_end h.line_end)
request_line_of line is full (inl may) =
    elim (first_of_request line may.0 may.1 [] is may.2) [
      | inl found ↦ absurd (full found.0 found.1)
      | inr found ↦ (may.1, may.2.0, found.0)
    ]
request_line_of line is full (inr ends) =
    let blank = print_blank ends.0 in
    let word = ends.1 ++ 32 ∷ ends.2 in
    let front = line_feed_in_front is.word [] blank word (sym is.ends ∙ ends.5 ∙ append_assoc blank ends.1 (32 ∷ ends.2)) (no_line_feed ends.1 ends.2 ends.3 ends.4) in
    let whole = simp length-append at (ap length ends.5) in
    let line_size = simp length-append at (ap length is.ends) in
    let blank_size = simp length-append at (ap length front.1) in
    absurd (omega (arith, whole, line_size, blank_size))

pub request_line_leads : (line : List ℕ) → IsLine line → ((end : LineEnd) → line ≢ print_end end) → MayBecomeRequest line → Leads false true line
request_line_leads line is full may =
    let here = request_line_of line is full may in
    record {
      forth = λ bytes rest reads.
          elim (first_of_request line bytes reads.0 rest is reads.1) [
            | inl found ↦ absurd (full found.0 found.1)
            | inr found ↦ (reads.0.fields, reads.0.last, found.1)
          ];
      back = λ bytes rest reads.
          let k : RequestHead = record here.0 { blank = []; fields = reads.0; last = reads.1 } in (
            k,
            (
              record { method = here.1.method; target = here.1.target; target_text = here.1.target_text; minor = here.1.minor; fields = reads.2.0 },
              ap (λ l. l ++ bytes) here.2 ∙ append_assoc (request_word here.0) (print_end here.0.line_end) bytes
                  ∙ ap (λ b. request_word here.0 ++ (print_end here.0.line_end ++ b)) reads.2.1
                  ∙ sym (request_first here.0.method here.0.target (print_version here.0.minor) (print_end here.0.line_end) (print_section reads.0 reads.1 ++ rest))
                  ∙ sym (print_request-append k rest),
            ),
          );
    }

-- ---- one line behind another

start_leads : Leads false false []
start_leads = record { forth = λ bytes rest reads. reads; back = λ bytes rest reads. reads }

leads_then : (a b c : Bool) (front line : List ℕ) → Leads a b front → Leads b c line → Leads a c (front ++ line)
leads_then a b c front line first second = record {
  forth = λ bytes rest reads.
      second.forth bytes rest (first.forth (line ++ bytes) rest (subst (λ (l : List ℕ). ReadsOn a l rest) (append_assoc front line bytes) reads));
  back = λ bytes rest reads.
      subst (λ (l : List ℕ). ReadsOn a l rest) (sym (append_assoc front line bytes)) (first.back (line ++ bytes) rest (second.back bytes rest reads));
}

-- ---- what was read so far

-- some bytes lead from each front to a head
sample : (b : Bool) → (bytes : List ℕ) × (rest : List ℕ) × ReadsOn b bytes rest
unfolding is_token_byte
sample true = (10 ∷ [], [], ([], lf, (All-nil IsField, refl)))
sample false =
    let token : IsToken (71 ∷ []) = (omega arith, All-cons (λ b. IsTrue (is_token_byte b)) 71 [] refl (All-nil _)) in
    (_, [], (short_request [] (71 ∷ []), short_request_reads [] (71 ∷ []) [] [] refl token))

front_sound : (b : Bool) (front : List ℕ) → Leads false b front → HasBadLine front → ⊥
front_sound b front leads bad =
    let some = sample b in
    let reads = leads.back some.0 some.1 some.2 in
    head_has_no_bad_line (front ++ some.0) reads.0 some.1 reads.1 (bad_line_more front some.0 bad)

request_ends : (blank method target version end more : List ℕ)
    → blank ++ (method ++ 32 ∷ (target ++ 32 ∷ (version ++ (end ++ more)))) ≡ (blank ++ (method ++ 32 ∷ (target ++ 32 ∷ version))) ++ (end ++ more)
request_ends blank method target version end more = simp (append_assoc, cons-append)

none_reads_on : (b : Bool) (word rest : List ℕ) → HasNoFeed word → ReadsOn b word rest → ⊥
none_reads_on false word rest none (h, reads) =
    no_end_in (print_blank h.blank ++ request_word h) (print_section h.fields h.last ++ rest) word h.line_end
    (reads.1 ∙ print_request-append h rest
    ∙ request_ends (print_blank h.blank) h.method h.target (print_version h.minor) (print_end h.line_end) (print_section h.fields h.last ++ rest)) none
none_reads_on true word rest none (fields, last, reads) =
    no_end_in (flat_map print_field fields) rest word last (reads.1 ∙ append_assoc (flat_map print_field fields) (print_end last) rest) none

-- a head whose last line has no end is open
pub open_head_is_open : (bytes : List ℕ) (so_far : OpenHead) → IsOpenHead bytes so_far → so_far.searched ≡ length bytes → IsOpen bytes
open_head_is_open bytes so_far is all =
    let tail = drop so_far.line bytes in
    let within : so_far.line ≤ length bytes = omega (arith, is.ordered, is.inside) in
    let none : HasNoFeed tail =
    All-from_get_or NotFeed tail 0 (λ i below.
    let inside : so_far.line + i < so_far.searched = omega (arith, length-drop so_far.line bytes) in
    rw get_or-drop (is.no_end (so_far.line + i) (omega arith) inside)) in (
      λ h rest reads.
          none_reads_on so_far.is_in_fields tail rest none
          (is.front.forth tail rest (h, subst (λ (l : List ℕ). ReadsRequest l h rest) (sym (take-append-drop so_far.line bytes)) reads)),
      no_bad_line_up_to bytes so_far.line (λ k from below. is.no_end k from (omega (arith, all))) (front_sound so_far.is_in_fields _ is.front),
    )

pub open_at_start : (bytes : List ℕ) → IsOpenHead bytes (record { line = 0; searched = 0; is_in_fields = false })
open_at_start bytes = record {
  ordered = omega arith;
  inside = omega arith;
  front = start_leads;
  no_end = λ k from below. absurd (omega arith);
}

-- more bytes behind it change nothing
pub open_more : (held more : List ℕ) (so_far : OpenHead) → IsOpenHead held so_far → IsOpenHead (held ++ more) so_far
open_more held more so_far is = record {
  ordered = is.ordered;
  inside = omega (arith, is.inside, length-append held more);
  front = subst (λ (l : List ℕ). Leads false so_far.is_in_fields l) (sym (take-append-le so_far.line held more (omega (arith, is.ordered, is.inside)))) is.front;
  no_end = λ k from below. rw (get_or_append_left held more 0 k (omega (arith, is.inside))) (is.no_end k from below);
}

-- the last line was searched on
pub open_searched_to : (held : List ℕ) (so_far : OpenHead) (to : ℕ) → IsOpenHead held so_far → so_far.searched ≤ to → to ≤ length held
    → ((k : ℕ) → so_far.searched ≤ k → k < to → get_or held k 0 ≢ 10) → IsOpenHead held (record so_far { searched = to })
open_searched_to held so_far to is behind inside none = record {
  ordered = omega (arith, is.ordered, behind);
  inside = inside;
  front = is.front;
  no_end = λ k from below. elim (cases_lt k so_far.searched) [ inl before ↦ is.no_end k from before | inr after ↦ none k after below ];
}

-- the last line was searched as far as there are bytes
pub open_searched : (held : List ℕ) (so_far : OpenHead) → IsOpenHead held so_far → ((k : ℕ) → so_far.searched ≤ k → k < length held → get_or held k 0 ≢ 10)
    → IsOpenHead held (record so_far { searched = length held })
open_searched held so_far is none = open_searched_to held so_far (length held) is is.inside (omega arith) none

-- ---- one line more

take_sum : (n m : ℕ) (xs : List ℕ) → n ≤ length xs → take (n + m) xs ≡ take n xs ++ take m (drop n xs)
take_sum n m xs inside =
    let size : n ≡ length (take n xs) = sym (length-take-le n xs inside) in
    ap (λ l. take (n + m) l) (sym (take-append-drop n xs)) ∙ ap (λ k. take (k + m) (take n xs ++ drop n xs)) size ∙ take-append-add (take n xs) (drop n xs) m

-- what is up to the first line feed is a line
pub line_up_to : (held : List ℕ) (so_far : OpenHead) (end : ℕ) → IsOpenHead held so_far → so_far.searched < end → end ≤ length held → get_or held (end - 1) 0 ≡ 10
    → ((k : ℕ) → so_far.searched ≤ k → k < end - 1 → get_or held k 0 ≢ 10) → IsLine (slice_range held so_far.line end)
line_up_to held so_far end is behind inside feed none =
    let size = end - 1 - so_far.line in
    let tail = drop so_far.line held in
    let count : end - so_far.line ≡ size + 1 = omega (arith, is.ordered) in
    let place : so_far.line + size ≡ end - 1 = omega (arith, is.ordered) in
    let below : size < length tail = omega (arith, is.ordered, length-drop so_far.line held) in
    record {
      word = take size tail;
      ends = ap (λ n. take n tail) count ∙ take_more tail size 0 below
          ∙ ap (λ b. take size tail ++ b ∷ []) (get_or-drop so_far.line held size 0 ∙ ap (λ k. get_or held k 0) place ∙ feed);
      one =
          All-from_get_or NotFeed (take size tail) 0 (λ i under.
          let here : i < size = omega (arith, length-take-le size tail (omega arith)) in
          rw (get_or-take, get_or-drop)
          (elim (cases_lt (so_far.line + i) so_far.searched) [
            | inl before ↦ is.no_end (so_far.line + i) (omega arith) before
            | inr after ↦ none (so_far.line + i) after (omega (arith, is.ordered))
          ]));
    }

pub line_read : (held : List ℕ) (so_far : OpenHead) (end : ℕ) (is_in_fields : Bool) → IsOpenHead held so_far → so_far.searched < end → end ≤ length held
    → Leads so_far.is_in_fields is_in_fields (slice_range held so_far.line end)
    → IsOpenHead held (record { line = end; searched = end; is_in_fields = is_in_fields })
line_read held so_far end is_in_fields is behind inside leads =
    let count : end ≡ so_far.line + (end - so_far.line) = omega (arith, is.ordered) in
    let split : take end held ≡ take so_far.line held ++ slice_range held so_far.line end =
    ap (λ n. take n held) count ∙ take_sum so_far.line (end - so_far.line) held (omega (arith, is.ordered)) in
    record {
      ordered = omega arith;
      inside = inside;
      front = subst (λ (l : List ℕ). Leads false is_in_fields l) (sym split) (leads_then false so_far.is_in_fields is_in_fields _ _ is.front leads);
      no_end = λ k from under. absurd (omega arith);
    }
