-- Lines that come byte by byte: their answers, and the states that they leave.
use Rattle.std.proofs.Common.{◌≡◌, ℕ, suc, zero, true, false, List, [], ◌∷◌, ◌++◌, length, take, nat_le, ◌+◌, ◌<◌, ◌==◌, get_or, Option, Some, None, Result, Ok, Err, refl, inl, inr, ap, ◌∙◌, sym, subst, append_assoc, arith}
use Rattle.std.specs.List.{cons_option}
use Rattle.std.proofs.lemmas.Bool.{cases_Bool, leb-false, ne_eqb}
use Rattle.std.proofs.lemmas.List.{append-nil, take_more}
use Rattle.tb_calls.specs.declared.call.Call.{Call}
use Rattle.tb_calls.specs.Call.{State}
use Rattle.tb_desk.proofs.Runs.{after_all, after_all-append}
use Rattle.tb_script.specs.declared.asked.Asked.{Asked}
use Rattle.tb_script.specs.declared.asked.Asked.TheVariants as asks
use Rattle.tb_script.specs.declared.line_fault.Unreadable.{Unreadable}
use Rattle.tb_script.specs.declared.line_fault.Unreadable.TheVariants.{BadLine}
use Rattle.tb_script.specs.Answering.{answer, answered, calls_of, call_asked, carried_out, is_readable, request_of}
use Rattle.tb_script.specs.Lines.{answers, lines_of}
use Rattle.tb_script.proofs.OneLine.{is_one_line, left_by}
use Rattle.tb_script.specs.Reading.{asked_in}
use Rattle.tb_script.specs.Runs.{Progress, after_lines, fed, fed_byte, from}
use Rattle.tb_script.proofs.LineLaws.{Alike, last_line, line_ends, one_line_push, skipped}

-- ---- one byte

fed_feed : (p : Progress) (b : ℕ) → (b == 10) ≡ true → fed_byte p b ≡ from (answer p.state p.line).state [] (p.told ++ (answer p.state p.line).text)
fed_feed p b feed = rw feed refl

fed_push : (p : Progress) (b : ℕ) → (b == 10) ≡ false → nat_le (length p.line) 1048576 ≡ true → fed_byte p b ≡ from p.state (p.line ++ b ∷ []) p.told
fed_push p b other short = rw (other, short) refl

fed_skip : (p : Progress) (b : ℕ) → (b == 10) ≡ false → nat_le (length p.line) 1048576 ≡ false → fed_byte p b ≡ p
fed_skip p b other long = rw (other, long) refl

-- ---- bytes in parts

pub fed-append : (p : Progress) (xs ys : List ℕ) → fed p (xs ++ ys) ≡ fed (fed p xs) ys
fed-append p [] ys = refl
fed-append p (x ∷ xs) ys = fed-append (fed_byte p x) xs ys

-- one byte more of a list
pub fed_more : (p : Progress) (xs : List ℕ) (i d : ℕ) → i < length xs → fed_byte (fed p (take i xs)) (get_or xs i d) ≡ fed p (take (i + 1) xs)
fed_more p xs i d within = sym (fed-append p (take i xs) (get_or xs i d ∷ [])) ∙ ap (fed p) (sym (take_more xs i d within))

pub next_byte : (s : State) (line told xs : List ℕ) (i d : ℕ) (line' told' : List ℕ) → i < length xs
    → line' ≡ (fed (from s line told) (take i xs)).line → told' ≡ (fed (from s line told) (take i xs)).told
    → fed_byte (from (fed (from s line told) (take i xs)).state line' told') (get_or xs i d) ≡ fed (from s line told) (take (i + 1) xs)
next_byte s line told xs i d line' told' within same_line same_told =
    let p = fed (from s line told) (take i xs) in
    ap (λ x. fed_byte (from p.state x told') (get_or xs i d)) same_line
    ∙ ap (λ x. fed_byte (from p.state p.line x) (get_or xs i d)) same_told
    ∙ fed_more (from s line told) xs i d within

-- the line that has begun depends on no state
byte_line : (t u : State) (line one two : List ℕ) (b : ℕ) → (fed_byte (from t line one) b).line ≡ (fed_byte (from u line two) b).line
byte_line t u line one two b = elim (cases_Bool (b == 10)) [
  | inl feed ↦ ap (λ (p : Progress). p.line) (fed_feed (from t line one) b feed) ∙ sym (ap (λ (p : Progress). p.line) (fed_feed (from u line two) b feed))
  | inr other ↦ elim (cases_Bool (nat_le (length line) 1048576)) [
    | inl short ↦ ap (λ (p : Progress). p.line) (fed_push (from t line one) b other short) ∙ sym (ap (λ (p : Progress). p.line) (fed_push (from u line two) b other short))
    | inr long ↦ ap (λ (p : Progress). p.line) (fed_skip (from t line one) b other long) ∙ sym (ap (λ (p : Progress). p.line) (fed_skip (from u line two) b other long))
  ]
]

pub next_line : (s t : State) (line told xs : List ℕ) (i d : ℕ) (line' told' : List ℕ) → i < length xs
    → line' ≡ (fed (from s line told) (take i xs)).line → (fed_byte (from t line' told') (get_or xs i d)).line ≡ (fed (from s line told) (take (i + 1) xs)).line
next_line s t line told xs i d line' told' within same_line =
    let p = fed (from s line told) (take i xs) in
    byte_line t p.state line' told' p.told (get_or xs i d)
    ∙ ap (λ x. (fed_byte (from p.state x p.told) (get_or xs i d)).line) same_line
    ∙ ap (λ (q : Progress). q.line) (fed_more (from s line told) xs i d within)

-- with answers before
abbrev pub behind : List ℕ → Progress → Progress
behind before p = from p.state p.line (before ++ p.told)

byte-behind : (before : List ℕ) (p : Progress) (b : ℕ) → fed_byte (behind before p) b ≡ behind before (fed_byte p b)
byte-behind before p b = elim (cases_Bool (b == 10)) [
  | inl feed ↦
      fed_feed (behind before p) b feed
      ∙ ap (from (answer p.state p.line).state []) (append_assoc before p.told (answer p.state p.line).text)
      ∙ ap (behind before) (sym (fed_feed p b feed))
  | inr other ↦ elim (cases_Bool (nat_le (length p.line) 1048576)) [
    | inl short ↦ fed_push (behind before p) b other short ∙ ap (behind before) (sym (fed_push p b other short))
    | inr long ↦ fed_skip (behind before p) b other long ∙ ap (behind before) (sym (fed_skip p b other long))
  ]
]

pub fed-behind : (before : List ℕ) (p : Progress) (bs : List ℕ) → fed (behind before p) bs ≡ behind before (fed p bs)
fed-behind before p [] = refl
fed-behind before p (b ∷ bs) = ap (λ q. fed q bs) (byte-behind before p b) ∙ fed-behind before (fed_byte p b) bs

-- ---- all lines

-- the last line that has begun makes these lines complete
pub record Ends (s : State) (told : List ℕ) (lines : List (List ℕ)) (p : Progress) : Type 0 where
  pub texts : told ++ answers answer s lines ≡ p.told ++ (answer p.state p.line).text
  pub state : left_by answer s lines ≡ (answer p.state p.line).state

line_before : (s : State) (told line : List ℕ) (lines : List (List ℕ)) (p : Progress) → Ends (answer s line).state (told ++ (answer s line).text) lines p → Ends s told (line ∷ lines) p
line_before s told line lines p e = record {
  texts = sym (append_assoc told (answer s line).text (answers answer (answer s line).state lines)) ∙ e.texts;
  state = e.state;
}

ends_alike : (s : State) (told : List ℕ) (some others : List (List ℕ)) (p : Progress) → Alike s some others → Ends s told others p → Ends s told some p
ends_alike s told some others p a e =
    let there = subst (λ ls. Ends s told ls p) a.others_are e in
    subst (λ ls. Ends s told ls p) (sym a.some_are) (record {
      texts = ap (λ x. told ++ (x.text ++ answers answer x.state a.rest)) a.same ∙ there.texts;
      state = ap (λ x. left_by answer x.state a.rest) a.same ∙ there.state;
    })

pub ends : (bs : List ℕ) (s : State) (line told : List ℕ) → is_one_line line ≡ true → Ends s told (lines_of (line ++ bs)) (fed (from s line told) bs)
ends [] s line told one =
    subst (λ ls. Ends s told ls (from s line told)) (sym (ap lines_of (append-nil line) ∙ last_line line one))
    (record { texts = ap (λ t. told ++ t) (append-nil (answer s line).text); state = refl })
ends (b ∷ bs) s line told one =
    let here = from s line told in
    let lines = lines_of (line ++ b ∷ bs) in
    elim (cases_Bool (b == 10)) [
      | inl feed ↦
          let next = from (answer s line).state [] (told ++ (answer s line).text) in
          subst (λ q. Ends s told lines (fed q bs)) (sym (fed_feed here b feed))
          (subst (λ ls. Ends s told ls (fed next bs)) (sym (line_ends line bs b feed one))
          (line_before s told line (lines_of bs) (fed next bs) (ends bs (answer s line).state [] (told ++ (answer s line).text) refl)))
      | inr other ↦ elim (cases_Bool (nat_le (length line) 1048576)) [
        | inl short ↦
            subst (λ q. Ends s told lines (fed q bs)) (sym (fed_push here b other short))
            (subst (λ t. Ends s told (lines_of t) (fed (from s (line ++ b ∷ []) told) bs)) (append_assoc line (b ∷ []) bs)
            (ends bs s (line ++ b ∷ []) told (one_line_push line b one other)))
        | inr long ↦
            subst (λ q. Ends s told lines (fed q bs)) (sym (fed_skip here b other long))
            (ends_alike s told lines (lines_of (line ++ bs)) (fed here bs) (skipped s line bs b one (leb-false (length line) 1048576 long) other) (ends bs s line told one))
      ]
    ]

-- ---- the lines that have ended

-- the answers so far are those to some first lines
pub record Front (s : State) (told : List ℕ) (lines : List (List ℕ)) (p : Progress) : Type 0 where
  pub count : ℕ
  pub texts : told ++ answers answer s (take count lines) ≡ p.told
  pub state : left_by answer s (take count lines) ≡ p.state

front_before : (s : State) (told line : List ℕ) (lines : List (List ℕ)) (p : Progress) → Front (answer s line).state (told ++ (answer s line).text) lines p → Front s told (line ∷ lines) p
front_before s told line lines p f = record {
  count = suc f.count;
  texts = sym (append_assoc told (answer s line).text (answers answer (answer s line).state (take f.count lines))) ∙ f.texts;
  state = f.state;
}

first_alike : (s : State) (told first second : List ℕ) (rest : List (List ℕ)) (p : Progress) (n : ℕ) → answer s first ≡ answer s second
    → told ++ answers answer s (take n (second ∷ rest)) ≡ p.told → left_by answer s (take n (second ∷ rest)) ≡ p.state → Front s told (first ∷ rest) p
first_alike s told first second rest p zero same texts state = record { count = zero; texts = texts; state = state }
first_alike s told first second rest p (suc n) same texts state = record {
  count = suc n;
  texts = ap (λ x. told ++ (x.text ++ answers answer x.state (take n rest))) same ∙ texts;
  state = ap (λ x. left_by answer x.state (take n rest)) same ∙ state;
}

front_alike : (s : State) (told : List ℕ) (some others : List (List ℕ)) (p : Progress) → Alike s some others → Front s told others p → Front s told some p
front_alike s told some others p a f =
    let there = subst (λ ls. Front s told ls p) a.others_are f in
    subst (λ ls. Front s told ls p) (sym a.some_are) (first_alike s told a.first a.second a.rest p there.count a.same there.texts there.state)

pub fronts : (bs more : List ℕ) (s : State) (line told : List ℕ) → is_one_line line ≡ true → Front s told (lines_of (line ++ (bs ++ more))) (fed (from s line told) bs)
fronts [] more s line told one = record { count = zero; texts = append-nil told; state = refl }
fronts (b ∷ bs) more s line told one =
    let here = from s line told in
    let after = bs ++ more in
    let lines = lines_of (line ++ b ∷ after) in
    elim (cases_Bool (b == 10)) [
      | inl feed ↦
          let next = from (answer s line).state [] (told ++ (answer s line).text) in
          subst (λ q. Front s told lines (fed q bs)) (sym (fed_feed here b feed))
          (subst (λ ls. Front s told ls (fed next bs)) (sym (line_ends line after b feed one))
          (front_before s told line (lines_of after) (fed next bs) (fronts bs more (answer s line).state [] (told ++ (answer s line).text) refl)))
      | inr other ↦ elim (cases_Bool (nat_le (length line) 1048576)) [
        | inl short ↦
            subst (λ q. Front s told lines (fed q bs)) (sym (fed_push here b other short))
            (subst (λ t. Front s told (lines_of t) (fed (from s (line ++ b ∷ []) told) bs)) (append_assoc line (b ∷ []) after)
            (fronts bs more s (line ++ b ∷ []) told (one_line_push line b one other)))
        | inr long ↦
            subst (λ q. Front s told lines (fed q bs)) (sym (fed_skip here b other long))
            (front_alike s told lines (lines_of (line ++ after)) (fed here bs) (skipped s line after b one (leb-false (length line) 1048576 long) other) (fronts bs more s line told one))
      ]
    ]

-- ---- the calls of lines

abbrev call_list : Option Call → List Call
call_list None = []
call_list (Some c) = c ∷ []

left_asked : (s : State) (r : Result Asked Unreadable) → (answered s r).state ≡ after_all s (call_list (call_asked r))
unfolding carried_out
left_asked s (Ok (asks.Call c)) = refl
left_asked s (Ok (asks.View l)) = refl
left_asked s (Err fault) = refl

no_request : request_of [] ≡ Err BadLine
unfolding request_of asked_in
no_request = elim (cases_Bool (is_readable [])) [
  | inl e ↦ rw e refl
  | inr e ↦ rw e refl
]

left_line : (s : State) (line : List ℕ) → (answer s line).state ≡ after_all s (call_list (call_asked (request_of line)))
unfolding answer
left_line s [] = sym (ap (λ r. after_all s (call_list (call_asked r))) no_request)
left_line s (b ∷ bs) = let some : (length (b ∷ bs) == 0) ≡ false = ne_eqb (length (b ∷ bs)) 0 (λ e. absurd (omega arith)) in rw some (left_asked s (request_of (b ∷ bs)))

calls_split : (o : Option Call) (cs : List Call) (s : State) → after_all (after_all s (call_list o)) cs ≡ after_all s (cons_option o cs)
calls_split None cs s = refl
calls_split (Some c) cs s = sym (after_all-append s (c ∷ []) cs)

-- lines leave the state after their calls
pub left_calls : (lines : List (List ℕ)) (s : State) → left_by answer s lines ≡ after_lines s lines
left_calls [] s = refl
left_calls (line ∷ lines) s =
    left_calls lines (answer s line).state
    ∙ ap (λ t. after_lines t lines) (left_line s line)
    ∙ calls_split (call_asked (request_of line)) (calls_of lines) s
