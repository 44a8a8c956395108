-- What is at the front of bytes, and stays there with more bytes behind them.
use Rattle.std.proofs.Common.{◌≡◌, ℕ, ◌≤◌, List, [], ◌∷◌, ◌++◌, length, take, drop, min, zero, suc, refl, sym, ap, ◌∙◌, subst, arith, append_assoc}
use Rattle.std.proofs.lemmas.List.{length-take, take-append-drop, drop-append-le}
use Rattle.httparse.specs.declared.spans.HeaderSpan.{HeaderSpan}
use Rattle.httparse.specs.declared.spans.RequestSpans.{RequestSpans}
use Rattle.httparse.specs.Spans.{IsRequestOf, IsRequestAt, IsRequestWithin}
use Rattle.httparse.specs.Grammar.{RequestHead, ReadsRequest}
use Rattle.httparse.proofs.GrammarLemmas.{ReadsRequest-append}
use Rattle.tb_http.specs.Head.{HasBadLine}
use Rattle.tb_http.specs.declared.message.Head.{Head}
use Rattle.tb_http.specs.Message.{head_from}
use Rattle.tb_http.specs.Wire.{head_limit, BeginsWithHead}

-- a bad line stays with more bytes behind it
pub bad_line_more : (bytes more : List ℕ) → HasBadLine bytes → HasBadLine (bytes ++ more)
bad_line_more bytes more bad = record {
  line = bad.line;
  rest = bad.rest ++ more;
  split = ap (λ b. b ++ more) bad.split ∙ append_assoc _ bad.rest more;
  never = bad.never;
}

-- a window of more bytes begins with the window of the first of them
window_more : (n : ℕ) (held more : List ℕ) → (rest : List ℕ) × (take n (held ++ more) ≡ take n held ++ rest)
window_more zero held more = ([], refl)
window_more (suc n) [] more = (take (suc n) more, refl)
window_more (suc n) (b ∷ held) more = let rest = window_more n held more in (rest.0, ap (λ l. b ∷ l) rest.1)

pub bad_window : (n : ℕ) (held more : List ℕ) → HasBadLine (take n held) → HasBadLine (take n (held ++ more))
bad_window n held more bad =
    let window = window_more n held more in
    subst HasBadLine (sym window.1) (bad_line_more _ window.0 bad)

head_in_window : (n : ℕ) (held : List ℕ) (headers : List HeaderSpan) (spans : RequestSpans) (head : Head) → n ≤ head_limit
    → IsRequestWithin (take n held) headers spans → IsRequestOf (take n held) headers spans
    → ((tree : RequestHead) → IsRequestAt (take n held) headers spans tree → head ≡ head_from tree)
    → (spans.len ≤ length held) × (spans.len ≤ head_limit) × BeginsWithHead held head (drop spans.len held)
head_in_window n held headers spans head fits within found says =
    let at = found.1 in
    let inside : spans.len ≤ length (take n held) = within.section.len_fits in
    let size : length (take n held) ≡ min n (length held) = length-take n held in
    let behind : drop spans.len (take n held) ++ drop n held ≡ drop spans.len held =
    sym (drop-append-le spans.len (take n held) (drop n held) inside) ∙ ap (drop spans.len) (take-append-drop n held) in
    let reads = ReadsRequest-append (take n held) found.0 (drop spans.len (take n held)) (drop n held) at.reads in
    let here : ReadsRequest held found.0 (drop spans.len held) = rw (take-append-drop n held, behind) at reads in (
      omega arith,
      omega arith,
      record {
        tree = found.0;
        reads = here;
        short = omega (arith, at.len);
        says = says found.0 at;
      },
    )

-- a head stays with more bytes behind it
pub begins_more : (held more behind : List ℕ) (head : Head) → BeginsWithHead held head behind → BeginsWithHead (held ++ more) head (behind ++ more)
begins_more held more behind head begins = record {
  tree = begins.tree;
  reads = ReadsRequest-append held begins.tree behind more begins.reads;
  short = begins.short;
  says = begins.says;
}

-- and where what is held grows
pub begins_grown : (held more : List ℕ) (len : ℕ) (head : Head) → len ≤ length held
    → BeginsWithHead held head (drop len held) → BeginsWithHead (held ++ more) head (drop len (held ++ more))
begins_grown held more len head inside begins =
    subst (λ (behind : List ℕ). BeginsWithHead (held ++ more) head behind) (sym (drop-append-le len held more inside))
    (begins_more held more (drop len held) head begins)

-- a head in the window is at the front of what is held
pub window_begins : (held : List ℕ) (headers : List HeaderSpan) (spans : RequestSpans) (head : Head)
    → IsRequestWithin (take head_limit held) headers spans → IsRequestOf (take head_limit held) headers spans
    → ((tree : RequestHead) → IsRequestAt (take head_limit held) headers spans tree → head ≡ head_from tree)
    → (spans.len ≤ length held) × (spans.len ≤ head_limit) × BeginsWithHead held head (drop spans.len held)
window_begins held headers spans head within found says = head_in_window head_limit held headers spans head (omega arith) within found says
