-- A text that is read up to a limit.
use Rattle.std.proofs.Common.{◌≡◌, ◌∙◌, ℕ, ◌+◌, ◌≤◌, List, [], ◌++◌, length, take, Option, Some, None, IfSome, option_map, ap, arith, min}
use Rattle.std.proofs.lemmas.List.{length-take, take_all}

-- what was read up to a byte more than the limit, and is no longer than the limit, is the whole text
pub read_whole : (known : Option (List ℕ)) (limit : ℕ) (bytes : List ℕ) → IfSome (option_map (take (limit + 1)) known) (λ text. bytes ≡ text) → length bytes ≤ limit
    → IfSome known (λ text. (bytes ≡ text) × (length text ≤ limit))
read_whole None limit bytes is short = tt
read_whole (Some text) limit bytes is short =
    let cut : bytes ≡ take (limit + 1) text = is in
    let size : length bytes ≡ min (limit + 1) (length text) = ap length cut ∙ length-take (limit + 1) text in
    let fits : length text ≤ limit = omega arith in
    let all : length text ≤ limit + 1 = omega arith in
    (cut ∙ take_all (limit + 1) text all, fits)
