-- One message more.
use Rattle.std.proofs.Common.{◌≡◌, ℕ, ◌+◌, ◌&&◌, Bool, true, false, true≢false, not, List, [], ◌∷◌, ◌++◌, length, Option, refl, sym, ap, ◌∙◌, subst, append_assoc, arith}
use Rattle.std.proofs.lemmas.List.{append-nil}
use Rattle.tb_calls.specs.Call.{State}
use Rattle.tb_desk.proofs.Runs.{after_all-append}
use Rattle.tb_http.specs.Stream.{Brings, Received}
use Rattle.tb_http.specs.Wire.{BeginsWithMessage, is_last}
use Rattle.tb_program.specs.Clock.{later, next}
use Rattle.tb_serve.specs.Serving.{answer_to, answers, calls_of, ends_last, left_by, none_closes}
use Rattle.tb_serve.specs.Telling.{after, calls_in}
use Rattle.tb_site.specs.declared.site.Site.{Site}

pub brings-push : (bytes : List ℕ) (ms : List Received) (left : List ℕ) (m : Received) (rest : List ℕ)
    → Brings bytes ms left → BeginsWithMessage left m.message m.closes rest → Brings bytes (ms ++ m ∷ []) rest
brings-push bytes [] left m rest so_far begins =
    (rest, subst (λ (b : List ℕ). BeginsWithMessage b m.message m.closes rest) (sym so_far) begins, refl)
brings-push bytes (n ∷ ms) left m rest so_far begins = (so_far.0, so_far.1, brings-push so_far.0 ms left m rest so_far.2 begins)

-- the state that messages lead to, one after the other
abbrev pub reached : State → List (Option ℕ) → List Received → State
reached s clock [] = s
reached s clock (m ∷ ms) = reached (after s (calls_in m.message (next clock))) (later clock) ms

pub reached-after : (s : State) (clock : List (Option ℕ)) (ms : List Received) → reached s clock ms ≡ after s (calls_of clock ms)
reached-after s clock [] = refl
reached-after s clock (m ∷ ms) =
    reached-after (after s (calls_in m.message (next clock))) (later clock) ms
    ∙ sym (after_all-append s (calls_in m.message (next clock)) (calls_of (later clock) ms))

pub answers-push : (site : Site) (s : State) (clock : List (Option ℕ)) (before : ℕ) (ms : List Received) (m : Received)
    → answers site s clock before (ms ++ m ∷ []) ≡ answers site s clock before ms ++ answer_to site (reached s clock ms) (next (left_by clock ms)) (before + length ms) m
answers-push site s clock before [] m =
    let count : before ≡ before + 0 = omega arith in
    append-nil (answer_to site s (next clock) before m) ∙ ap (λ k. answer_to site s (next clock) k m) count
answers-push site s clock before (n ∷ ms) m =
    let t = after s (calls_in n.message (next clock)) in
    let first = answer_to site s (next clock) before n in
    let more = answers site t (later clock) (before + 1) ms in
    let at = next (left_by (later clock) ms) in
    let count : (before + 1) + length ms ≡ before + length (n ∷ ms) = omega arith in
    ap (λ text. first ++ text) (answers-push site t (later clock) (before + 1) ms m)
    ∙ sym (append_assoc first more (answer_to site (reached t (later clock) ms) at ((before + 1) + length ms) m))
    ∙ ap (λ k. (first ++ more) ++ answer_to site (reached t (later clock) ms) at k m) count

pub calls-push : (clock : List (Option ℕ)) (ms : List Received) (m : Received)
    → calls_of clock (ms ++ m ∷ []) ≡ calls_of clock ms ++ calls_in m.message (next (left_by clock ms))
calls-push clock [] m = append-nil (calls_in m.message (next clock))
calls-push clock (n ∷ ms) m =
    ap (λ calls. calls_in n.message (next clock) ++ calls) (calls-push (later clock) ms m)
    ∙ sym (append_assoc (calls_in n.message (next clock)) (calls_of (later clock) ms) (calls_in m.message (next (left_by (later clock) ms))))

pub left-push : (clock : List (Option ℕ)) (ms : List Received) (m : Received) → left_by clock (ms ++ m ∷ []) ≡ later (left_by clock ms)
left-push clock [] m = refl
left-push clock (n ∷ ms) m = left-push (later clock) ms m

and_first : (a b : Bool) → (a && b) ≡ true → a ≡ true
and_first true b both = refl
and_first false b both = both

and_second : (a b : Bool) → (a && b) ≡ true → b ≡ true
and_second true b both = both
and_second false b both = absurd (true≢false (sym both))

-- behind messages none of which closes the connection, it ends with the last one where that one closes it
pub ends-push : (before : ℕ) (ms : List Received) (m : Received) → none_closes before ms ≡ true
    → ends_last before (ms ++ m ∷ []) ≡ is_last m.closes (before + length ms)
ends-push before [] m unclosed =
    let count : before ≡ before + 0 = omega arith in
    ap (λ i. is_last m.closes i) count
ends-push before (n ∷ []) m unclosed =
    let count : before + 1 ≡ before + length (n ∷ []) = omega arith in
    ap (λ b. b && is_last m.closes (before + 1)) (and_first (not (is_last n.closes before)) true unclosed) ∙ ap (λ i. is_last m.closes i) count
ends-push before (n ∷ k ∷ ms) m unclosed =
    let count : (before + 1) + length (k ∷ ms) ≡ before + length (n ∷ k ∷ ms) = omega arith in
    let more = none_closes (before + 1) (k ∷ ms) in
    ap (λ b. b && ends_last (before + 1) ((k ∷ ms) ++ m ∷ [])) (and_first (not (is_last n.closes before)) more unclosed)
    ∙ ends-push (before + 1) (k ∷ ms) m (and_second (not (is_last n.closes before)) more unclosed)
    ∙ ap (λ i. is_last m.closes i) count

-- behind messages none of which closes the connection, one more that doesn't
pub none-push : (before : ℕ) (ms : List Received) (m : Received) → none_closes before ms ≡ true → is_last m.closes (before + length ms) ≡ false
    → none_closes before (ms ++ m ∷ []) ≡ true
none-push before [] m unclosed goes =
    let count : before ≡ before + 0 = omega arith in
    ap (λ b. not b && true) (ap (λ i. is_last m.closes i) count ∙ goes)
none-push before (n ∷ ms) m unclosed goes =
    let count : (before + 1) + length ms ≡ before + length (n ∷ ms) = omega arith in
    let more = none_closes (before + 1) ms in
    ap (λ b. b && none_closes (before + 1) (ms ++ m ∷ [])) (and_first (not (is_last n.closes before)) more unclosed)
    ∙ none-push (before + 1) ms m (and_second (not (is_last n.closes before)) more unclosed) (ap (λ i. is_last m.closes i) count ∙ goes)
