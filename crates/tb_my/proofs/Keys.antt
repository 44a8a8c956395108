-- What a text begins with, and what it ends with.
use Rattle.std.proofs.Common.{◌≡◌, ◌≢◌, ◌∙◌, ap, sym, refl, ℕ, ◌-◌, ◌+◌, Bool, true, false, List, ◌++◌, length, take, drop, Option, Some, None, option_map, arith}
use Rattle.std.proofs.Math.Seq.{drop-append_seam, take-append_seam}
use Rattle.std.proofs.lemmas.List.{take-append-drop}
use Rattle.std.proofs.lemmas.Slice.Eq.{bytes_eq-Decides}
use Rattle.std.specs.Borrow.{Bor}
use Rattle.std.specs.Prelude.{MatchOption}
use Rattle.std.specs.Str.{bytes_eq}
use Rattle.std.specs.Str.Pattern.{FindsTextPrefix, FindsTextSuffix, StripsPrefix, StripsSuffix}
use Rattle.tb_my.specs.Days.{after_key, before_key}

same : (a b : List ℕ) → bytes_eq a b ≡ true → a ≡ b
same a b e = (bytes_eq-Decides a b).0 e

fits : (a b : List ℕ) → a ≡ b → bytes_eq a b ≡ true
fits a b e = (bytes_eq-Decides a b).1 e

lacks_front : (key word : List ℕ) (b : Bool) → bytes_eq (take (length key) word) key ≡ b → ((rest : List ℕ) → word ≢ key ++ rest) → None ≡ after_key key word
lacks_front key word false e lacks = rw e refl
lacks_front key word true e lacks =
    let is : take (length key) word ≡ key = same _ _ e in
    absurd (lacks (drop (length key) word) (sym (take-append-drop (length key) word) ∙ ap (λ t. t ++ drop (length key) word) is))

has_front : (key word x : List ℕ) (k : ℕ) → k ≡ length key → word ≡ key ++ drop k word → x ≡ drop k word → Some x ≡ after_key key word
has_front key word x k n is rest =
    let front : take (length key) word ≡ key = ap (take (length key)) is ∙ take-append_seam key (drop k word) in
    let whole : x ≡ drop (length key) word = rest ∙ ap (λ m. drop m word) n in
    rw (fits _ _ front) (ap Some whole)

-- the clause of `strip_prefix` at a text
pub after_key-from : (key word : List ℕ) (r : Option (Bor (List ℕ)))
    → MatchOption r (FindsTextPrefix key word None) (λ x. StripsPrefix (FindsTextPrefix key) word x.now) → option_map (λ x. x.now) r ≡ after_key key word
after_key-from key word None lacks = lacks_front key word (bytes_eq (take (length key) word) key) refl lacks
after_key-from key word (Some x) h = has_front key word x.now h.0 h.1.0 h.1.1 h.2

lacks_back : (key word : List ℕ) (b : Bool) → bytes_eq (drop (length word - length key) word) key ≡ b → ((front : List ℕ) → word ≢ front ++ key) → None ≡ before_key key word
lacks_back key word false e lacks = rw e refl
lacks_back key word true e lacks =
    let n = length word - length key in
    let is : drop n word ≡ key = same _ _ e in
    absurd (lacks (take n word) (sym (take-append-drop n word) ∙ ap (λ t. take n word ++ t) is))

has_back : (key word x : List ℕ) (k : ℕ) → k ≡ length key → word ≡ take (length word - k) word ++ key → x ≡ take (length word - k) word → length x + k ≡ length word → Some x ≡ before_key key word
has_back key word x k n is front whole =
    let size : length word - length key ≡ length x = omega arith in
    let split : word ≡ x ++ key = is ∙ ap (λ t. t ++ key) (sym front) in
    let back : drop (length word - length key) word ≡ key = ap (λ m. drop m word) size ∙ ap (drop (length x)) split ∙ drop-append_seam x key in
    let first : x ≡ take (length word - length key) word = front ∙ ap (λ m. take (length word - m) word) n in
    rw (fits _ _ back) (ap Some first)

-- and of `strip_suffix`
pub before_key-from : (key word : List ℕ) (r : Option (Bor (List ℕ)))
    → MatchOption r (FindsTextSuffix key word None) (λ x. StripsSuffix (FindsTextSuffix key) word x.now) → option_map (λ x. x.now) r ≡ before_key key word
before_key-from key word None lacks = lacks_back key word (bytes_eq (drop (length word - length key) word) key) refl lacks
before_key-from key word (Some x) h = has_back key word x.now h.0 h.1.0 h.1.1 h.2 h.3
